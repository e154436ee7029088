use Rattle.std.proofs.Common.{List, ◌++◌, codes, drop, map, pos, refl, sym, ap, arith, rules}
use Rattle.std.proofs.lemmas.List.{drop_all}
use Rattle.pb_sorts.specs.declared.carrier.Carrier.{Carrier}
use Rattle.pb_bytecode.specs.Views.{sort_contents}
use Rattle.pb_report.specs.InstanceName.{more_values}
use Rattle.pb_report.proofs.Sending.{sends_then, sends_err, sends_as}
use Rattle.pb_report.proofs.Underway.{begun, went_on, gave_up, ended_by}
use Rattle.pb_report.proofs.Names.{opened, next_closed}
use Rattle.pb_report.proofs.instance_name.write_arguments.Goals as goal

pub returns-in_err-write_value : goal.returns-in_err-write_value
returns-in_err-write_value g c =
    sends_as (opened _ c.args.carriers.now _ _ (pos 0) (search rules) c.requires c.index-carriers-0.is)
    (sends_then c.in_ok-write.ensures (sends_err _ c.from_residual-in_err-write_value.ensures.0 c.in_err-write_value.ensures))

pub loop-k-init : goal.loop-k-init
loop-k-init g c =
    went_on refl (went_on (sym (opened _ c.args.carriers.now _ _ (pos 0) (search rules) c.requires c.index-carriers-0.is)) begun c.in_ok-write.ensures) c.in_ok-write_value.ensures

pub returns-in_err-write_next_value : goal.returns-in_err-write_next_value
returns-in_err-write_next_value g c =
    gave_up _ (next_closed _ _ _ _ _ (pos 0) c.loop-k-test.true c.requires c.index-carriers-k.is) c.loop-k.invariant c.from_residual-in_err-write_next_value.ensures.0 c.in_err-write_next_value.ensures

pub loop-k-preserved : goal.loop-k-preserved
loop-k-preserved g c =
    went_on (next_closed _ _ _ _ _ (pos 0) c.loop-k-test.true c.requires c.index-carriers-k.is) c.loop-k.invariant c.in_ok-write_next_value.ensures

pub returns : goal.returns
returns g c =
    let none = ap (λ (cs : List Carrier). more_values (map sort_contents c.args.sorts.now) cs (drop c.loop-k.k c.args.values.now) ++ codes ")")
    (drop_all c.loop-k.k c.args.carriers.now (omega arith)) in
    ended_by none c.loop-k.invariant c.write-3.ensures
