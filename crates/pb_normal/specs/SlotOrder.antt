-- The slots that the quantifiers of a normal form take, and those that it reads.
use Rattle.std.specs.Prelude.{◌≡◌, ℕ, suc, ◌==◌, Bool, true, false, ◌&&◌, ◌||◌, List, [], ◌∷◌, ◌++◌}
use Rattle.std.specs.List.{All}
use Rattle.pb_typing_declarations.specs.Shapes.{Shape}
use Rattle.pb_normal.specs.Normal.{Term, Number, Slot, Negative, Absolute, Successor, Predecessor, Binary, Maximum, Minimum, Choice, Recognised, Argument, Formula, Test, Join, Each, Call}

-- the slots of quantifiers, in order
abbrev pub quantified_slots : Formula → List ℕ
quantified_slots (Test x) = []
quantified_slots (Join m f g) = quantified_slots f ++ quantified_slots g
quantified_slots (Each q s shape f) = s ∷ quantified_slots f
quantified_slots (Call X es) = []

-- those slots, each with the shape of its values
abbrev pub quantifiers : Formula → List (ℕ × Shape)
quantifiers (Test x) = []
quantifiers (Join m f g) = quantifiers f ++ quantifiers g
quantifiers (Each q s shape f) = (s, shape) ∷ quantifiers f
quantifiers (Call X es) = []

-- shapes with the slots from n on
abbrev pub numbered_slots : ℕ → List Shape → List (ℕ × Shape)
numbered_slots n [] = []
numbered_slots n (s ∷ ss) = (n, s) ∷ numbered_slots (suc n) ss

-- each slot that a term reads has a value
abbrev pub reads_only : (ℕ → Bool) → Term → Bool
reads_only has_value (Term.Truth b) = true
reads_only has_value (Number n) = true
reads_only has_value (Term.Enumerator s i) = true
reads_only has_value (Slot s) = has_value s
reads_only has_value (Term.Not x) = reads_only has_value x
reads_only has_value (Negative x) = reads_only has_value x
reads_only has_value (Absolute x) = reads_only has_value x
reads_only has_value (Successor x) = reads_only has_value x
reads_only has_value (Predecessor x) = reads_only has_value x
reads_only has_value (Binary o x y) = reads_only has_value x && reads_only has_value y
reads_only has_value (Maximum x y) = reads_only has_value x && reads_only has_value y
reads_only has_value (Minimum x y) = reads_only has_value x && reads_only has_value y
reads_only has_value (Choice c x y) =
    reads_only has_value c && reads_only has_value x && reads_only has_value y
reads_only has_value (Recognised s i x) = reads_only has_value x

-- each slot that a formula reads has a value: from outside, or from a quantifier around; no
-- quantifier takes a slot that has one
abbrev pub IsClosed : (ℕ → Bool) → Formula → Type 0
IsClosed has_value (Test x) = reads_only has_value x ≡ true
IsClosed has_value (Join m f g) = IsClosed has_value f × IsClosed has_value g
IsClosed has_value (Each q s shape f) =
    (has_value s ≡ false) × IsClosed (λ k. k == s || has_value k) f
IsClosed has_value (Call X es) = All (λ (e : Argument). reads_only has_value e.term ≡ true) es
