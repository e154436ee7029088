use Rattle.pb_protocol_packer.specs.Initial.{names_by}
use Rattle.pb_protocol_groups.proofs.NameSets.{filled-none, filled-more, filled-all}
use Rattle.pb_protocol_groups.proofs.checks.set_of.Goals as goal

pub loop-name-init : goal.loop-name-init
loop-name-init c = filled-none (names_by c.args.names.now) c.new-set.result c.new-set.ensures.empty

pub loop-name-preserved : goal.loop-name-preserved
loop-name-preserved c =
    filled-more (names_by c.args.names.now) c.loop-name.set c.insert.new.self c.as_str.result c.args.names.now c.loop-name.name-index c.name-item.result
    c.in_ok-insert.ensures.updates c.as_str.ensures.value c.loop-name-test.true c.name-item.is c.loop-name.invariant

pub returns : goal.returns
returns c = filled-all (names_by c.args.names.now) c.loop-name.set c.args.names.now c.loop-name.name-index c.loop-name-test.false c.loop-name.invariant
