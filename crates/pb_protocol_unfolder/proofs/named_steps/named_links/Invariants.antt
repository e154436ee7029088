use Rattle.std.proofs.Common.{◌≡◌, map}
use Rattle.pb_protocol_unfolder.specs.Apart.{name_bytes}
use Rattle.pb_protocol_unfolder.specs.Sets.{only, set_behind}
use Rattle.pb_protocol_unfolder.proofs.named_steps.named_links.Given as goal

abbrev pub invariant-loop-name : goal.invariant-loop-name
invariant-loop-name l = map set_behind l.links.items ≡ map only (map name_bytes l.yielded)
