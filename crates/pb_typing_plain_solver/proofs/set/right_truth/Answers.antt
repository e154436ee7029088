use Rattle.std.proofs.Common.{◌≡◌, ◌∙◌, ◌+◌, ◌≤◌, ◌++◌, ℕ, Some, true, [], drop, length, get_or, ap, sym, refl, subst, arith}
use Rattle.std.specs.List.{slice_get}
use Rattle.std.proofs.lemmas.List.{length-take-le}
use Rattle.pb_base_values.specs.Carrier.{Tuple, is_within}
use Rattle.pb_sorts.specs.Instance.{first_of, size_of}
use Rattle.pb_sorts.specs.Layout.{carriers_of}
use Rattle.pb_sorts.proofs.Equations.{length-carriers_of}
use Rattle.pb_sorts.proofs.Numbers.{first_of-before, first_of-last}
use Rattle.pb_text_meaning.specs.Syntax.{Equation}
use Rattle.pb_text_meaning.specs.Formula as formula
use Rattle.pb_typing_tree.specs.declared.formula.Equation as typed_equation
use Rattle.pb_typing_tree.specs.Elaboration.{elaborated_equation}
use Rattle.pb_typing_tree.specs.Fits.{FormulaFits}
use Rattle.pb_typing_tree.specs.Meaning.{truth}
use Rattle.pb_typing_tree.specs.View.{formula_view}
use Rattle.pb_typing_values.specs.Environment.{environment_of}
use Rattle.pb_typing_values.specs.Slots.{slots_of}
use Rattle.pb_typing_values.proofs.Called.{length-laid_out}
use Rattle.pb_typing_plain_solver.specs.Step as step
use Rattle.pb_typing_plain_solver.specs.Step.{AreSlots}
use Rattle.pb_typing_plain_solver.proofs.Ranges.{between_bounds}
use Rattle.pb_typing_plain_solver.proofs.Owned.{owned_instance, right_there, typed_length}
use Rattle.pb_typing_plain_solver.proofs.Ready.{laid, text, well}
use Rattle.pb_typing_plain_solver.proofs.Slots.{filled, room, slots-filled, right-fits, right-truth}
use Rattle.pb_typing_plain_solver.proofs.OneEquation.{equation_exists}
use Rattle.pb_typing_plain_solver.proofs.set.right_truth.Goals as goal
use Rattle.pb_typing_plain_solver.proofs.set.right_truth.Goals.{After-len-count, After-deref}

pub instance-instance-requires : goal.instance-instance-requires
instance-instance-requires c =
    let css = carriers_of c.args.turn.now.typed.now.layout in
    let k = c.args.turn.now.equation in
    omega (
      arith,
      (between_bounds (first_of css k) (first_of css k + size_of css k) c.args.number c.requires.own).1,
      first_of-before css k (length css) (omega (arith, length-carriers_of c.args.turn.now.typed.now.layout, c.args.turn.now.known)) (omega arith),
      first_of-last css,
    )

-- the instance's values are those of the equation's parameters
within : (c : After-len-count) (X : Equation) → slice_get (text c.args.turn.now.typed.now).equations c.args.turn.now.equation ≡ Some X
    → is_within (formula.carriers_of (text c.args.turn.now.typed.now) X.parameters) c.instance-instance.result.values.items ≡ true
within c X at =
    let typed = c.args.turn.now.typed.now in
    (owned_instance (text typed) typed.layout c.args.turn.now.equation c.args.number X _ (laid typed).carriers at c.instance-instance.ensures c.requires.own).1

-- there are slots enough for them
enough : (c : After-len-count) → c.len-count.result ≤ length c.args.slots.now
enough c =
    let typed = c.args.turn.now.typed.now in
    let E = equation_exists (text typed) typed.layout c.args.turn.now.equation typed.laid_out.values c.args.turn.now.known in
    omega (arith, c.len-count.ensures.value, room (text typed) (well typed) c.args.turn.now.equation E.0 E.1 _ c.args.slots.now (within c E.0 E.1) (c.requires.slots E.0 E.1))

-- the slots hold them, where what is written is the instance's values
now_filled : (c : After-deref) (front : Tuple) → front ≡ c.deref.result.now
    → front ++ drop c.len-count.result c.args.slots.now ≡ filled c.instance-instance.result.values.items c.args.slots.now
now_filled c front is =
    ap (λ (ys : Tuple). ys ++ drop c.len-count.result c.args.slots.now) (is ∙ c.deref.ensures)
    ∙ ap (λ (m : ℕ). c.instance-instance.result.values.items ++ drop m c.args.slots.now) c.len-count.ensures.value

-- the right side is the equation's
right_is : (c : After-len-count) (R : typed_equation.Equation) → R ≡ get_or c.args.turn.now.typed.now.equations.items c.args.turn.now.equation R
    → (X : Equation) → slice_get (text c.args.turn.now.typed.now).equations c.args.turn.now.equation ≡ Some X → formula_view R.right ≡ elaborated_equation (text c.args.turn.now.typed.now) X
right_is c R there X at =
    let typed = c.args.turn.now.typed.now in
    let trees = typed.equations.items in
    right_there (text typed) trees c.args.turn.now.equation X R typed.rights at
    (omega (arith, c.args.turn.now.known, typed_length (text typed) typed.layout trees typed.laid_out.values typed.rights)) there

pub slice_bounds-copy_from_slice-end : goal.slice_bounds-copy_from_slice-end
slice_bounds-copy_from_slice-end c = enough c

pub slice_bounds-copy_from_slice-end-2 : goal.slice_bounds-copy_from_slice-end-2
slice_bounds-copy_from_slice-end-2 c =
    sym (length-take-le c.len-count.result c.args.slots.now (enough (goal.at.slice_bounds-copy_from_slice-end-2 c).After-len-count))

pub copy_from_slice-requires : goal.copy_from_slice-requires
copy_from_slice-requires c =
    length-take-le c.len-count.result c.args.slots.now (enough (goal.at.copy_from_slice-requires c).After-len-count)
    ∙ (c.len-count.ensures.value ∙ ap (λ (ys : Tuple). length ys) (sym c.deref.ensures))

pub formula_truth-requires : goal.formula_truth-requires
formula_truth-requires c =
    let typed = c.args.turn.now.typed.now in
    let place = goal.at.formula_truth-requires c in
    let E = equation_exists (text typed) typed.layout c.args.turn.now.equation typed.laid_out.values c.args.turn.now.known in
    let f = formula_view c.index.result.now.right in
    subst (λ (ys : Tuple). FormulaFits (length typed.layout) (length ys) (slots_of ys) f) (sym (now_filled place.After-deref _ c.copy_from_slice.ensures.after))
    (right-fits (text typed) (well typed) c.args.turn.now.equation E.0 E.1 _ c.args.slots.now (within place.After-len-count E.0 E.1) (c.requires.slots E.0 E.1)
    f (length typed.layout) (right_is place.After-len-count c.index.result.now c.index.ensures E.0 E.1) (length-laid_out (text typed) typed.layout (laid typed)))

pub returns-clause-truth : goal.returns-clause-truth
returns-clause-truth c = λ X at.
    let typed = c.args.turn.now.typed.now in
    let place = goal.at.returns-clause-truth c in
    let f = formula_view c.index.result.now.right in
    let t = environment_of (text typed) c.args.below.now in
    c.formula_truth.ensures.truth (text typed) (laid typed)
    ∙ (ap (λ (ys : Tuple). truth (text typed) (slots_of ys) t f) (now_filled place.After-deref _ c.copy_from_slice.ensures.after)
    ∙ (right-truth (text typed) (well typed) c.args.turn.now.equation X at c.instance-instance.result.values.items c.args.slots.now (within place.After-len-count X at)
    (c.requires.slots X at) f t (record { name = []; values = c.instance-instance.result.values.items }) refl (right_is place.After-len-count c.index.result.now c.index.ensures X at)
    ∙ ap (step.right_truth (text typed) t X) (sym c.instance-instance.ensures)))

pub returns-clause-slots : goal.returns-clause-slots
returns-clause-slots c = λ X at.
    let typed = c.args.turn.now.typed.now in
    let place = goal.at.returns-clause-slots c in
    subst (AreSlots (text typed) X) (sym (c.formula_truth.ensures.kept ∙ now_filled place.After-deref _ c.copy_from_slice.ensures.after))
    (slots-filled (text typed) (well typed) c.args.turn.now.equation X at _ c.args.slots.now (within place.After-len-count X at) (c.requires.slots X at))
