-- What bounds the numbers of a normal form: those that stand in it, its slots, its callees and its
-- enumerators.
use Rattle.std.specs.Prelude.{◌≡◌, ◌≤◌, ℕ, ◌+◌, ◌^◌, nat_le, nat_lt, Bool, true, ◌&&◌, List, length}
use Rattle.std.specs.List.{All, list_all}
use Rattle.pb_base.specs.declared.limits.TheConstants.{MAX_LOOP_SLOTS}
use Rattle.pb_text_meaning.specs.Syntax.{Equation, Spec}
use Rattle.pb_normal.specs.Equations.{normal_equation}
use Rattle.pb_normal.specs.Loops.{equation_loops}
use Rattle.pb_normal.specs.Normal.{Term, Number, Slot, Negative, Absolute, Successor, Predecessor, Binary, Maximum, Minimum, Choice, Recognised, Argument, Formula, Test, Join, Each, Call}
use Rattle.pb_normal.specs.Small.{is_small_formula}
use Rattle.pb_normal.specs.Structs.{struct_counts, has_enumerator}

-- the greatest number, how many slots and equations there are, and how many enumerators each struct
-- has
pub record FormulaBounds : Type 0 where
  pub number : ℕ
  pub slots : ℕ
  pub equations : ℕ
  pub counts : List ℕ

abbrev pub is_bounded : FormulaBounds → Term → Bool
is_bounded b (Term.Truth c) = true
is_bounded b (Number n) = nat_le n b.number
is_bounded b (Term.Enumerator s i) = has_enumerator b.counts s i
is_bounded b (Slot s) = nat_lt s b.slots
is_bounded b (Term.Not x) = is_bounded b x
is_bounded b (Negative x) = is_bounded b x
is_bounded b (Absolute x) = is_bounded b x
is_bounded b (Successor x) = is_bounded b x
is_bounded b (Predecessor x) = is_bounded b x
is_bounded b (Binary o x y) = is_bounded b x && is_bounded b y
is_bounded b (Maximum x y) = is_bounded b x && is_bounded b y
is_bounded b (Minimum x y) = is_bounded b x && is_bounded b y
is_bounded b (Choice c x y) = is_bounded b c && (is_bounded b x && is_bounded b y)
is_bounded b (Recognised s i x) = has_enumerator b.counts s i && is_bounded b x

abbrev pub are_bounded : FormulaBounds → List Argument → Bool
are_bounded b es = list_all (λ (e : Argument). is_bounded b e.term) es

abbrev pub is_bounded_formula : FormulaBounds → Formula → Bool
is_bounded_formula b (Test x) = is_bounded b x
is_bounded_formula b (Join m f g) = is_bounded_formula b f && is_bounded_formula b g
is_bounded_formula b (Each q s shape f) = nat_lt s b.slots && is_bounded_formula b f
is_bounded_formula b (Call equation es) = nat_lt equation b.equations && are_bounded b es

-- numbers up to 2^62, so many slots, and the equations and structs of a specification
abbrev pub bounds_with : Spec → (slots : ℕ) → FormulaBounds
bounds_with spec slots = record {
  number = 2 ^ 62;
  slots = slots;
  equations = length spec.equations;
  counts = struct_counts spec.sorts;
}

-- those of an equation: a slot for each parameter and for each variable of its quantifiers
abbrev pub bounds_of : Spec → Equation → FormulaBounds
bounds_of spec X = bounds_with spec (length X.parameters + length (equation_loops spec X))

-- its normal form keeps them
abbrev pub HasBounds : Spec → Equation → Type 0
HasBounds spec X = is_bounded_formula (bounds_of spec X) (normal_equation spec X) ≡ true

-- where it has no more slots than the machine, its numbers fit instructions
abbrev pub IsSmallWhereLoopsAreFew : Spec → Equation → Type 0
IsSmallWhereLoopsAreFew spec X =
    length (equation_loops spec X) ≤ MAX_LOOP_SLOTS
    → is_small_formula (normal_equation spec X) ≡ true

-- of each equation
abbrev pub AreBounded : Spec → Type 0
AreBounded spec = All (HasBounds spec) spec.equations

abbrev pub AreSmall : Spec → Type 0
AreSmall spec = All (IsSmallWhereLoopsAreFew spec) spec.equations
