-- One operand of several, of which one must pass, or all.
use Rattle.std.proofs.Common.{◌≡◌, Bool, true, false, ◌&&◌, ◌||◌, sym, ◌∙◌, ap}

-- it passes
pub makes : (made rest all : Bool) → all ≡ made || rest → made ≡ true → true ≡ all
makes made rest all e is_true = sym (e ∙ ap (λ (b : Bool). b || rest) is_true)

-- it doesn't
pub goes_on : (made rest all : Bool) → all ≡ made || rest → made ≡ false → rest ≡ all
goes_on made rest all e is_false = sym (e ∙ ap (λ (b : Bool). b || rest) is_false)

-- ---- of which all must pass

-- it doesn't
pub fails : (here rest all : Bool) → all ≡ here && rest → here ≡ false → false ≡ all
fails here rest all e is_false = sym (e ∙ ap (λ (b : Bool). b && rest) is_false)

-- it passes
pub passes : (here rest all : Bool) → all ≡ here && rest → here ≡ true → rest ≡ all
passes here rest all e is_true = sym (e ∙ ap (λ (b : Bool). b && rest) is_true)
