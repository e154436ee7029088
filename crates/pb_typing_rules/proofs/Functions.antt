-- The shape of what a named function gives has the function's value.
use Rattle.std.proofs.Common.{◌≡◌, Bool, true, false, cond, ◌||◌, not, List, [], ◌∷◌, refl, sym, ap, arith, ℤ, pos, int_le, true≢false, Option, Some, None}
use Rattle.std.proofs.lemmas.Bool.{and_parts}
use Rattle.pb_base_values.specs.Operation.{BinaryOperation, Successor, Predecessor, AbsoluteValue, Maximum, Minimum, divides}
use Rattle.pb_text_meaning.specs.Syntax.{Name, Spec}
use Rattle.pb_text_meaning.specs.declared.function.NamedFunction.{NamedFunction}
use Rattle.pb_text_meaning.specs.declared.function.NamedFunction.TheVariants.{If, Succ, Pred, Abs, Max, Min, Pos2Nat, Pos2Int, Nat2Int}
use Rattle.pb_text_meaning.specs.Functions.{named_function}
use Rattle.pb_text_meaning.specs.Sorts.{is_recogniser, place_in}
use Rattle.pb_text_meaning.specs.Value.{is_true, is_place, function_of_one, function_of_two, function_of_three, function_value}
use Rattle.pb_typing_declarations.specs.Shapes.{Shape, Unknown, Truths, Places, Wholes}
use Rattle.pb_typing_declarations.specs.Enumerators.{recogniser_shape}
use Rattle.pb_typing_rules.specs.Shapes.{may_be_truth, may_be_whole, may_be_alike, shape_hull, may_divide}
use Rattle.pb_typing_rules.specs.Functions.{Function, Choice, Conversion, OfOne, OfTwo, Recogniser, known_function, function_named, kept}
use Rattle.pb_typing_rules.specs.Term.{applied_shape, IsApplied}
use Rattle.pb_typing_rules.proofs.Values.{Contained, truth_value}
use Rattle.pb_typing_rules.proofs.Operations.{unary_contained, binary_contained, hull_left, hull_right}

-- no function takes none
none_applied : (f : Option Function) → IsApplied f [] → ⊥
none_applied None h = h
none_applied (Some Choice) h = omega (arith, h.0)
none_applied (Some Conversion) h = omega (arith, h.0)
none_applied (Some (OfOne o)) h = omega (arith, h.0)
none_applied (Some (OfTwo o)) h = omega (arith, h.0)
none_applied (Some (Recogniser s)) h = omega (arith, h.0)

-- and none takes more than three
many_applied : (f : Option Function) (s t u w : Shape) (ss : List Shape) → IsApplied f (s ∷ t ∷ u ∷ w ∷ ss) → ⊥
many_applied None s t u w ss h = h
many_applied (Some Choice) s t u w ss h = omega (arith, h.0)
many_applied (Some Conversion) s t u w ss h = omega (arith, h.0)
many_applied (Some (OfOne o)) s t u w ss h = omega (arith, h.0)
many_applied (Some (OfTwo o)) s t u w ss h = omega (arith, h.0)
many_applied (Some (Recogniser r)) s t u w ss h = omega (arith, h.0)

kept_contained : (s : Shape) (v : ℤ) → may_be_whole s ≡ true → Contained s v → Contained (kept s) v
kept_contained Unknown v w h = absurd h.value
kept_contained Truths v w h = absurd (true≢false (sym w))
kept_contained (Places t n) v w h = absurd (true≢false (sym w))
kept_contained (Wholes l k) v w h = h

one : (spec : Spec) (f : Name) (g : Option NamedFunction) (r : Option Shape) (s : Shape) (v : ℤ) → IsApplied (known_function g r) (s ∷ []) → Contained s v
    → Contained (applied_shape (known_function g r) (s ∷ [])) (function_of_one spec f g v)
one spec f (Some If) r s v h k = absurd (omega (arith, h.0))
one spec f (Some Succ) r s v h k = unary_contained Successor s v h.1 h.2 k.value
one spec f (Some Pred) r s v h k = unary_contained Predecessor s v h.1 h.2 k.value
one spec f (Some Abs) r s v h k = unary_contained AbsoluteValue s v h.1 h.2 k.value
one spec f (Some Max) r s v h k = absurd (omega (arith, h.0))
one spec f (Some Min) r s v h k = absurd (omega (arith, h.0))
one spec f (Some Pos2Nat) r s v h k = kept_contained s v h.1 k
one spec f (Some Pos2Int) r s v h k = kept_contained s v h.1 k
one spec f (Some Nat2Int) r s v h k = kept_contained s v h.1 k
one spec f None None s v h k = absurd h
one spec f None (Some r) s v h k = truth_value (is_place (place_in (λ e. is_recogniser f e.recogniser) spec.sorts) v)

-- what isn't a division takes each second operand
pub may_follow : (o : BinaryOperation) (t : Shape) → divides o ≡ false → may_divide o t ≡ true
may_follow o Unknown e = refl
may_follow o Truths e = refl
may_follow o (Places s n) e = refl
may_follow o (Wholes l h) e = ap (λ (b : Bool). not b || int_le (pos 1) l) e

two : (g : Option NamedFunction) (r : Option Shape) (s t : Shape) (v w : ℤ) → IsApplied (known_function g r) (s ∷ t ∷ []) → Contained s v → Contained t w
    → Contained (applied_shape (known_function g r) (s ∷ t ∷ [])) (function_of_two g v w)
two (Some If) r s t v w h k m = absurd (omega (arith, h.0))
two (Some Succ) r s t v w h k m = absurd (omega (arith, h.0))
two (Some Pred) r s t v w h k m = absurd (omega (arith, h.0))
two (Some Abs) r s t v w h k m = absurd (omega (arith, h.0))
two (Some Max) r s t v w h k m = binary_contained Maximum s t v w h.1 (may_follow Maximum t refl) h.2 k.value m.value
two (Some Min) r s t v w h k m = binary_contained Minimum s t v w h.1 (may_follow Minimum t refl) h.2 k.value m.value
two (Some Pos2Nat) r s t v w h k m = absurd (omega (arith, h.0))
two (Some Pos2Int) r s t v w h k m = absurd (omega (arith, h.0))
two (Some Nat2Int) r s t v w h k m = absurd (omega (arith, h.0))
two None None s t v w h k m = absurd h
two None (Some r) s t v w h k m = absurd (omega (arith, h.0))

three : (g : Option NamedFunction) (r : Option Shape) (q s t : Shape) (u v w : ℤ) → IsApplied (known_function g r) (q ∷ s ∷ t ∷ []) → Contained s v → Contained t w
    → Contained (applied_shape (known_function g r) (q ∷ s ∷ t ∷ [])) (function_of_three g u v w)
three (Some If) r q s t u v w h k m =
    let alike = (and_parts (may_be_truth q) (may_be_alike s t) h.1).1 in
    either (is_true u) (hull_left s t v w alike m.value k) (hull_right s t w v alike k.value m)
  where
    either : (x : Bool) → Contained (shape_hull s t) v → Contained (shape_hull s t) w → Contained (shape_hull s t) (cond x v w)
    either true p q = p
    either false p q = q
three (Some Succ) r q s t u v w h k m = absurd (omega (arith, h.0))
three (Some Pred) r q s t u v w h k m = absurd (omega (arith, h.0))
three (Some Abs) r q s t u v w h k m = absurd (omega (arith, h.0))
three (Some Max) r q s t u v w h k m = absurd (omega (arith, h.0))
three (Some Min) r q s t u v w h k m = absurd (omega (arith, h.0))
three (Some Pos2Nat) r q s t u v w h k m = absurd (omega (arith, h.0))
three (Some Pos2Int) r q s t u v w h k m = absurd (omega (arith, h.0))
three (Some Nat2Int) r q s t u v w h k m = absurd (omega (arith, h.0))
three None None q s t u v w h k m = absurd h
three None (Some r) q s t u v w h k m = absurd (omega (arith, h.0))

-- ---- in the words of a name

-- each argument's value is one of its shape
abbrev pub AreContained : List Shape → List ℤ → Type 0
AreContained [] [] = Unit {0}
AreContained (s ∷ ss) (v ∷ vs) = Contained s v × AreContained ss vs
AreContained [] (v ∷ vs) = ⊥
AreContained (s ∷ ss) [] = ⊥

pub function_contained : (spec : Spec) (f : Name) (ss : List Shape) (vs : List ℤ) → IsApplied (function_named spec f) ss
    → AreContained ss vs → Contained (applied_shape (function_named spec f) ss) (function_value spec f vs)
function_contained spec f [] [] h k = absurd (none_applied (function_named spec f) h)
function_contained spec f (s ∷ []) (v ∷ []) h k = one spec f (named_function f) (recogniser_shape spec f) s v h k.0
function_contained spec f (s ∷ t ∷ []) (v ∷ w ∷ []) h k = two (named_function f) (recogniser_shape spec f) s t v w h k.0 k.1.0
function_contained spec f (q ∷ s ∷ t ∷ []) (u ∷ v ∷ w ∷ []) h k = three (named_function f) (recogniser_shape spec f) q s t u v w h k.1.0 k.1.1.0
function_contained spec f (s ∷ t ∷ u ∷ w ∷ ss) (a ∷ b ∷ c ∷ d ∷ vs) h k = absurd (many_applied (function_named spec f) s t u w ss h)
function_contained spec f (s ∷ ss) [] h k = absurd k
function_contained spec f [] (v ∷ vs) h k = absurd k
function_contained spec f (s ∷ []) (v ∷ w ∷ vs) h k = absurd k.1
function_contained spec f (s ∷ t ∷ ss) (v ∷ []) h k = absurd k.1
function_contained spec f (s ∷ t ∷ []) (v ∷ w ∷ u ∷ vs) h k = absurd k.1.1
function_contained spec f (s ∷ t ∷ q ∷ ss) (v ∷ w ∷ []) h k = absurd k.1.1
function_contained spec f (s ∷ t ∷ q ∷ []) (v ∷ w ∷ u ∷ x ∷ vs) h k = absurd k.1.1.1
function_contained spec f (s ∷ t ∷ q ∷ r ∷ ss) (v ∷ w ∷ u ∷ []) h k = absurd k.1.1.1
