use Rattle.std.proofs.Common.{◌≡◌, map, drop}
use Rattle.pb_text_meaning.specs.Syntax.{Term}
use Rattle.pb_protocol_unfolding.specs.Written.{is_written}
use Rattle.pb_protocol_unfolder_terms.specs.Forms.{HasForm}
use Rattle.pb_protocol_unfolder_terms.specs.Unfolding.{name_in}
use Rattle.pb_protocol_unfolder_terms.specs.Values.{written_term}
use Rattle.pb_protocol_unfolder_terms.proofs.array.written_as.Given as goal

-- the term is written as one of all values where it is written as one of those that come next
abbrev pub invariant-loop-value : goal.invariant-loop-value
invariant-loop-value l =
    (t : Term) → HasForm l.index.form (name_in l.index.term) t
    → is_written t (map written_term (drop l.value-index l.values)) ≡ is_written t (map written_term l.values)
