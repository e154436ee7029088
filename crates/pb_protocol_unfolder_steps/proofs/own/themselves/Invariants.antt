use Rattle.std.proofs.Common.{◌≡◌, map, take}
use Rattle.pb_text_meaning.specs.Syntax.{Term}
use Rattle.pb_protocol_whole_steps.specs.View.{name_in}
use Rattle.pb_protocol_unfolder_terms.specs.Values.{written_term}
use Rattle.pb_protocol_unfolder_steps.proofs.own.themselves.Given as goal

abbrev pub invariant-loop-name : goal.invariant-loop-name
invariant-loop-name l = map written_term l.terms.items ≡ map Term.Named (map name_in (take l.name-index l.name-items))
