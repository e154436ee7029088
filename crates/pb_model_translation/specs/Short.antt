-- The names of equations are no longer than names may be.
use Rattle.std.specs.Prelude.{ℕ, ◌≤◌, All, length}
use Rattle.pb_text_meaning.specs.Syntax.{Name}
use Rattle.pb_model_meaning.specs.Syntax.{Formula}
use Rattle.pb_model_translation.specs.Translation.{total_count}
use Rattle.pb_model_translation.specs.Names.{variables_of, names_of}

-- of at most 64 bytes
abbrev pub IsShort : Name → Type 0
IsShort x = length x ≤ 64

-- where a formula has at most 64 equations, and the variables of its fixpoints are short
abbrev pub NamesAreShort : Type 0
NamesAreShort =
    (f : Formula) → total_count f ≤ 64 → All IsShort (variables_of f) →
    (k : ℕ) → IsShort (names_of f k)
