use Rattle.std.proofs.Common.{ℕ, ◌≡◌, ◌<◌, length, map}
use Rattle.pb_model_text.specs.Links.{declared_sort_form}
use Rattle.pb_model_text.specs.ModelReading.{sorts}
use Rattle.pb_model_text.proofs.SortLemmas.{kept}
use Rattle.pb_model_text.proofs.sort.sorts.Given as goal

abbrev pub invariant-parts : goal.invariant-parts
invariant-parts l = (n : ℕ) × (length l.input.tokens < n) × (sorts 64 l.fn.input ≡ kept 64 (map declared_sort_form l.sorts.items) n l.input)

abbrev pub decreases-parts : goal.decreases-parts
decreases-parts l = length l.input.tokens
