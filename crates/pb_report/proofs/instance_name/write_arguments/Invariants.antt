use Rattle.std.proofs.Common.{◌++◌, codes, map, drop}
use Rattle.pb_bytecode.specs.Views.{sort_contents}
use Rattle.pb_report.specs.InstanceName.{arguments, more_values}
use Rattle.pb_report.proofs.Underway.{IsUnderway}
use Rattle.pb_report.proofs.instance_name.write_arguments.Given as goal

abbrev pub invariant-loop-k : goal.invariant-loop-k
invariant-loop-k g l =
    IsUnderway g.S.Sink l.fn.writer l.writer (arguments (map sort_contents l.sorts) l.carriers l.values)
    (more_values (map sort_contents l.sorts) (drop l.k l.carriers) (drop l.k l.values) ++ codes ")")
