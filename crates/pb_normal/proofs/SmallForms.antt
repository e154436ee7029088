-- A normal form within its equation's bounds fits instructions, where it has no more slots than the machine.
use Rattle.std.proofs.Common.{◌≡◌, ℕ, ◌<◌, ◌≤◌, ◌^◌, true, ◌&&◌, List, [], ◌∷◌, get_or, refl, arith, tests}
use Rattle.std.specs.Prelude.{nat_lt, nat_le}
use Rattle.std.specs.List.{All}
use Rattle.std.proofs.lemmas.Bool.{and_from, and_parts}
use Rattle.pb_text_meaning.specs.Syntax.{Spec}
use Rattle.pb_typing_rules.specs.WellTyped.{IsWellTyped}
use Rattle.pb_normal.specs.Normal.{Term, Number, Slot, Negative, Absolute, Successor, Predecessor, Binary, Maximum, Minimum, Choice, Recognised, Argument, Formula, Test, Join, Each, Call}
use Rattle.pb_normal.specs.Bounds.{FormulaBounds, is_bounded, are_bounded, is_bounded_formula, bounds_of, IsSmallWhereLoopsAreFew}
use Rattle.pb_normal.specs.Equations.{normal_equation}
use Rattle.pb_normal.specs.Small.{is_small, are_small, is_small_formula}
use Rattle.pb_normal.specs.Structs.{has_enumerator}
use Rattle.pb_normal.proofs.Bounds.{equations-bounded}

lower : (k n m : ℕ) → nat_lt k n ≡ true → n ≤ m → nat_lt k m ≡ true
lower k n m h le = grind (arith, tests)

under : (k n m : ℕ) → nat_le k n ≡ true → n < m → nat_lt k m ≡ true
under k n m h lt = grind (arith, tests)

pub record AreSmallBounds (b : FormulaBounds) : Type 0 where
  pub number : b.number < 2 ^ 63
  pub slots : b.slots ≤ 256
  pub equations : b.equations ≤ 256

module _ (b : FormulaBounds) (small : AreSmallBounds b) where
  pair : (x y : Term) → (is_bounded b x ≡ true → is_small x ≡ true) → (is_bounded b y ≡ true → is_small y ≡ true) → is_bounded b x && is_bounded b y ≡ true → is_small x && is_small y ≡ true
  pair x y f g h = let p = and_parts (is_bounded b x) (is_bounded b y) h in and_from (is_small x) (is_small y) (f p.0) (g p.1)

  term-small : (x : Term) → is_bounded b x ≡ true → is_small x ≡ true
  term-small (Term.Truth c) h = refl
  term-small (Number n) h = under n b.number (2 ^ 63) h small.number
  term-small (Term.Enumerator s i) h = refl
  term-small (Slot s) h = lower s b.slots 256 h small.slots
  term-small (Term.Not x) h = term-small x h
  term-small (Negative x) h = term-small x h
  term-small (Absolute x) h = term-small x h
  term-small (Successor x) h = term-small x h
  term-small (Predecessor x) h = term-small x h
  term-small (Binary o x y) h = pair x y (term-small x) (term-small y) h
  term-small (Maximum x y) h = pair x y (term-small x) (term-small y) h
  term-small (Minimum x y) h = pair x y (term-small x) (term-small y) h
  term-small (Choice c x y) h =
      let p = and_parts (is_bounded b c) (is_bounded b x && is_bounded b y) h in
      and_from (is_small c) (is_small x && is_small y) (term-small c p.0) (pair x y (term-small x) (term-small y) p.1)
  term-small (Recognised s i x) h = term-small x (and_parts (has_enumerator b.counts s i) (is_bounded b x) h).1

  arguments-small : (es : List Argument) → are_bounded b es ≡ true → are_small es ≡ true
  arguments-small [] h = refl
  arguments-small (e ∷ es) h =
      let p = and_parts (is_bounded b e.term) (are_bounded b es) h in and_from (is_small e.term) (are_small es) (term-small e.term p.0) (arguments-small es p.1)

  pub formula-small : (f : Formula) → is_bounded_formula b f ≡ true → is_small_formula f ≡ true
  formula-small (Test x) h = term-small x h
  formula-small (Join m f g) h =
      let p = and_parts (is_bounded_formula b f) (is_bounded_formula b g) h in and_from (is_small_formula f) (is_small_formula g) (formula-small f p.0) (formula-small g p.1)
  formula-small (Each m s shape f) h =
      let p = and_parts (nat_lt s b.slots) (is_bounded_formula b f) h in and_from (nat_lt s 256) (is_small_formula f) (lower s b.slots 256 p.0 small.slots) (formula-small f p.1)
  formula-small (Call k es) h =
      let p = and_parts (nat_lt k b.equations) (are_bounded b es) h in and_from (nat_lt k 256) (are_small es) (lower k b.equations 256 p.0 small.equations) (arguments-small es p.1)

pub equations-small : (spec : Spec) → IsWellTyped spec → All (IsSmallWhereLoopsAreFew spec) spec.equations
equations-small spec h k d below few =
    let X = get_or spec.equations k d in
    let parameters = h.declarations.few_parameters k d below in
    let equations = h.declarations.few_equations in
    formula-small (bounds_of spec X) (record { number = omega arith; slots = omega (arith, few, parameters); equations = omega (arith, equations) }) (normal_equation spec X)
    (equations-bounded spec h k d below)
