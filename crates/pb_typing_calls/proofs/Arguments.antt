-- The values of arguments, one after the other.
use Rattle.std.proofs.Common.{◌≡◌, ℕ, zero, suc, ◌+◌, ◌<◌, Bool, ◌&&◌, List, [], ◌∷◌, length}
use Rattle.std.proofs.Common.{get_or, map, drop, sym, ◌∙◌, ap, arith}
use Rattle.std.specs.Cmp.Lexicographic.{pointwise}
use Rattle.std.specs.Ordering.{int_eq}
use Rattle.pb_base_values.specs.Carrier.{Tuple, Value}
use Rattle.pb_typing_tree.specs.Meaning.{Slots, value}
use Rattle.pb_typing_tree.specs.View.{argument_view, term_view}
use Rattle.pb_typing_tree.specs.declared.formula.Argument.{Argument}
use Rattle.pb_typing_calls.specs.Made.{argument_values}

-- the values from one on
pub values-at : (a : Slots) (es : List Argument) (k : ℕ) (e : Argument) → k < length es
    → e ≡ get_or es k e
    → drop k (argument_values a (map argument_view es))
    ≡ value a (term_view e.term) ∷ drop (k + 1) (argument_values a (map argument_view es))
values-at a [] k e lt at = absurd (omega (arith, lt))
values-at a (x ∷ es) zero e lt at =
    ap (λ (y : Argument). value a (term_view y.term) ∷ argument_values a (map argument_view es))
    (sym at)
values-at a (x ∷ es) (suc k) e lt at =
    let all : Tuple = argument_values a (map argument_view es) in
    let next : suc k + 1 ≡ suc (k + 1) = omega arith in
    values-at a es k e (omega (arith, lt)) at
    ∙ ap (λ (n : ℕ). value a (term_view e.term) ∷ drop n (value a (term_view x.term) ∷ all))
    (sym next)

-- one value of each list decides, or leaves it to those behind it
pub compared : (xs ys xs' ys' : Tuple) (x y : Value) (all : Bool) → xs ≡ x ∷ xs' → ys ≡ y ∷ ys'
    → pointwise int_eq xs ys ≡ all → all ≡ int_eq x y && pointwise int_eq xs' ys'
compared xs ys xs' ys' x y all front back h =
    sym h ∙ (ap (λ (zs : Tuple). pointwise int_eq zs ys) front
    ∙ ap (λ (zs : Tuple). pointwise int_eq (x ∷ xs') zs) back)
