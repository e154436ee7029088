use Rattle.std.proofs.Common.{ℕ, ◌≡◌, ◌<◌, length, map}
use Rattle.pb_text_tree.specs.Form.{sort_declaration_form}
use Rattle.pb_text_formulas.specs.Reading.{sort_parts}
use Rattle.pb_text_formulas.proofs.PartsLemmas.{kept}
use Rattle.pb_text_formulas.proofs.sort.sort_parts.Given as goal

abbrev pub invariant-parts : goal.invariant-parts
invariant-parts l = (n : ℕ) × (length l.input.tokens < n) × (sort_parts l.fn.input ≡ kept (map sort_declaration_form l.sorts.items) n l.input)

abbrev pub decreases-parts : goal.decreases-parts
decreases-parts l = length l.input.tokens
