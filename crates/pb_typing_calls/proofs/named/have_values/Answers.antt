use Rattle.std.proofs.Common.{◌≡◌, ◌∙◌, ℕ, suc, ◌∷◌, refl, subst, ◌+◌, ◌<◌, ◌&&◌, Bool, true, false}
use Rattle.std.proofs.Common.{length, get_or, map, drop, sym, ap, arith, SFits, w64, to_z, of_z}
use Rattle.std.proofs.Common.{to_z-of_z, pos}
use Rattle.std.specs.Cmp.Lexicographic.{pointwise}
use Rattle.std.specs.Ordering.{int_eq}
use Rattle.std.proofs.lemmas.Bool.Decides.{Decides-int_eq}
use Rattle.pb_base_values.specs.Carrier.{Tuple, Value}
use Rattle.std.proofs.Math.Seq.{drop-cons}
use Rattle.pb_typing_tree.specs.Fits.{Fits}
use Rattle.pb_typing_tree.specs.Meaning.{value}
use Rattle.pb_typing_tree.specs.View.{argument_view, term_view}
use Rattle.pb_typing_tree.specs.declared.formula.Argument.{Argument}
use Rattle.pb_typing_values.specs.Slots.{slots_of}
use Rattle.pb_typing_calls.specs.Made.{argument_values}
use Rattle.pb_typing_calls.proofs.Arguments.{compared, values-at}
use Rattle.pb_typing_calls.proofs.Truths.{fails, passes}
use Rattle.pb_typing_values.proofs.Called.{argument_fits}
use Rattle.pb_typing_calls.proofs.named.have_values.Goals as goal
use Rattle.pb_typing_calls.proofs.named.have_values.Goals.{After-value}

-- values that are the same word are the same
same-word : (v w : Value) → SFits w64 v → SFits w64 w → of_z w64 v ≡ of_z w64 w → v ≡ w
same-word v w f g e = sym (to_z-of_z f) ∙ (ap (to_z w64) e ∙ to_z-of_z g)

differ : (v w : Value) → (of_z w64 v ≡ of_z w64 w → ⊥) → int_eq v w ≡ false
differ v w apart = by (int_eq v w) refl
  where
    by : (b : Bool) → int_eq v w ≡ b → int_eq v w ≡ false
    by true e = absurd (apart (ap (of_z w64) ((Decides-int_eq v w).0 e)))
    by false e = e

drop-cons-at : (ws : Tuple) (k : ℕ) → k < length ws
    → drop k ws ≡ get_or ws k (pos 0) ∷ drop (k + 1) ws
drop-cons-at ws k less =
    let next : k + 1 ≡ suc k = omega arith in
    drop-cons ws k (pos 0) less
    ∙ ap (λ (n : ℕ). get_or ws k (pos 0) ∷ drop n ws) (sym next)

pub value-requires : goal.value-requires
value-requires c =
    let n = length c.args.slots.now in
    let a = slots_of c.args.slots.now in
    subst (λ (e : Argument). Fits n a (term_view e.term)) c.index-arguments-index.is
    (argument_fits n a c.args.arguments.now c.loop-index.index c.index-arguments-index.result
    c.requires c.loop-index-test.true c.index-arguments-index.is)

-- the value of an argument and those behind it decide
by_value : (c : After-value)
    → pointwise int_eq (argument_values (slots_of c.args.slots.now) (map argument_view c.args.arguments.now)) c.args.values.now
    ≡ int_eq c.value.result (get_or c.args.values.now c.loop-index.index (pos 0))
    && pointwise int_eq (drop (c.loop-index.index + 1) (argument_values (slots_of c.args.slots.now) (map argument_view c.args.arguments.now)))
    (drop (c.loop-index.index + 1) c.args.values.now)
by_value c =
    let a = slots_of c.args.slots.now in
    let es = c.args.arguments.now in
    let ws = c.args.values.now in
    let k = c.loop-index.index in
    let e = c.index-arguments-index.result in
    let all = argument_values a (map argument_view es) in
    let is = c.value.ensures ∙ ap (λ (d : Argument). value a (term_view d.term)) (sym c.index-arguments-index.is) in
    compared (drop k all) (drop k ws) (drop (k + 1) all) (drop (k + 1) ws) c.value.result (get_or ws k (pos 0)) (pointwise int_eq all ws)
    (values-at a es k e c.loop-index-test.true c.index-arguments-index.is ∙ ap (λ (v : Value). v ∷ drop (k + 1) all) (sym is))
    (drop-cons-at ws k (omega (arith, c.loop-index-test.true, c.if-arguments-values.false))) c.loop-index.invariant

pub returns-then-value-values : goal.returns-then-value-values
returns-then-value-values c =
    fails _ _ _ (by_value (goal.at.returns-then-value-values c).After-value)
    (differ c.value.result (get_or c.args.values.now c.loop-index.index (pos 0)) c.if-value-values.true)

pub loop-index-preserved : goal.loop-index-preserved
loop-index-preserved c =
    let w = get_or c.args.values.now c.loop-index.index (pos 0) in
    let fits : SFits w64 c.value.result = record { sfits = omega arith } in
    let word : SFits w64 w = record { sfits = omega arith } in
    passes _ _ _ (by_value (goal.at.loop-index-preserved c).After-value)
    ((Decides-int_eq c.value.result w).1 (same-word c.value.result w fits word c.if-value-values.false))
