use Rattle.std.proofs.Common.{ℕ, List, drop, ap, arith}
use Rattle.std.proofs.lemmas.List.{drop_all}
use Rattle.pb_report.specs.InstanceName.{instance_name}
use Rattle.pb_report.proofs.Underway.{begun, went_on, gave_up, ended}
use Rattle.pb_report.specs.CallPlaces.{placed_names}
use Rattle.pb_report.proofs.Lines.{next_dependency}
use Rattle.pb_report.proofs.evidence_text.write_dependencies.Goals as goal

pub loop-k-init : goal.loop-k-init
loop-k-init g c = begun

pub returns-in_err-write_dependency : goal.returns-in_err-write_dependency
returns-in_err-write_dependency g c =
    gave_up _ (next_dependency _ _ _ _ _ c.loop-k-test.true c.place_at.ensures) c.loop-k.invariant c.from_residual.ensures.0 c.in_err-write_dependency.ensures

pub loop-k-preserved : goal.loop-k-preserved
loop-k-preserved g c = went_on (next_dependency _ _ _ _ _ c.loop-k-test.true c.place_at.ensures) c.loop-k.invariant c.in_ok-write_dependency.ensures

pub returns : goal.returns
returns g c =
    let none = ap (λ (ns : List ℕ). placed_names (instance_name c.args.basis.now.verified.now) ns (drop c.loop-k.k c.args.basis.now.call_places.now))
    (drop_all c.loop-k.k c.args.basis.now.dependencies.now (omega arith)) in
    ended none c.loop-k.invariant
