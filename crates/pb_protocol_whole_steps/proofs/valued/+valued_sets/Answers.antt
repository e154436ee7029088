use Rattle.std.proofs.Common.{map}
use Rattle.pb_protocol_whole_steps.specs.View.{name_in}
use Rattle.pb_protocol_whole_steps.proofs.Chains.{on-ok, set-united}
use Rattle.pb_protocol_whole_steps.proofs.valued.+valued_sets.Goals as goal

pub push_set-returns-in_ok-push_set-in-Union : goal.push_set-returns-in_ok-push_set-in-Union
push_set-returns-in_ok-push_set-in-Union t c =
    on-ok c.push_set_links.result
    (set-united (map name_in c.args.names.now.items) (map name_in c.push_set-in-Union.new.names.items) (map name_in c.push_set_links.new.names.items) c.in-Union.first c.in-Union.links
    c.deref-in-Union.result.now c.deref-in-Union-2.result.now c.args.set.now c.in-Union.is c.deref-in-Union.ensures c.deref-in-Union-2.ensures.value c.in_ok-push_set-in-Union.ensures)
    c.push_set_links.ensures
