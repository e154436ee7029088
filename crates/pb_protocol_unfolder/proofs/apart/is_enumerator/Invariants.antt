use Rattle.std.proofs.Common.{◌≡◌, drop, map}
use Rattle.std.specs.List.{list_any}
use Rattle.pb_text_meaning.specs.Syntax.{same_name}
use Rattle.pb_protocol_unfolder.specs.Apart.{enumerator_bytes}
use Rattle.pb_protocol_unfolder.proofs.apart.is_enumerator.Given as goal

abbrev pub invariant-loop-enumerator : goal.invariant-loop-enumerator
invariant-loop-enumerator l = list_any (same_name l.name) (map enumerator_bytes (drop l.enumerator-index l.enumerators)) ≡ list_any (same_name l.name) (map enumerator_bytes l.enumerators)
