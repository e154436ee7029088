use Rattle.std.proofs.Common.{drop}
use Rattle.pb_report.specs.InstanceName.{instance_name}
use Rattle.pb_report.proofs.Underway.{IsUnderway}
use Rattle.pb_report.specs.CallPlaces.{placed_names}
use Rattle.pb_report.proofs.evidence_text.write_dependencies.Given as goal

abbrev pub invariant-loop-k : goal.invariant-loop-k
invariant-loop-k g l =
    IsUnderway g.S.Sink l.fn.writer l.writer
    (placed_names (instance_name l.basis.verified.now) l.numbers l.basis.call_places.now)
    (placed_names (instance_name l.basis.verified.now) (drop l.k l.numbers) (drop l.k l.basis.call_places.now))
