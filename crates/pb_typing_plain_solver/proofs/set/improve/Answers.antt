use Rattle.std.proofs.Common.{◌≡◌, ◌+◌, ◌<◌, ◌∙◌, ℕ, List, Bool, true, false, not, arith, sym, subst, ap, get_or, refl, true≢false, ◌≤◌, length, Some}
use Rattle.std.specs.Bool.{beq}
use Rattle.std.specs.List.{slice_get}
use Rattle.pb_fixpoint.specs.declared.Sign.{Sign}
use Rattle.pb_text_tree.specs.Form.{equation_form}
use Rattle.pb_sorts.specs.Instance.{first_of, size_of}
use Rattle.pb_sorts.specs.Layout.{carriers_of}
use Rattle.pb_text_meaning.specs.Syntax.{Equation}
use Rattle.pb_text_meaning.specs.Erase.{erased_equation}
use Rattle.pb_typing_values.specs.Environment.{environment_of}
use Rattle.pb_typing_plain_solver.specs.Side.{side_of, later_truth}
use Rattle.pb_typing_plain_solver.specs.Step.{AreSlots, right_truth_at}
use Rattle.pb_typing_plain_solver.proofs.Ranges.{IsMixed, IsWritten, between_yes, mixed_start, mixed_set, mixed_keep, mixed_ahead, written_all}
use Rattle.pb_typing_plain_solver.proofs.Owned.{equation_known, loops_there, parameters_there, typed_length}
use Rattle.pb_typing_plain_solver.proofs.Ready.{sign_there, text}
use Rattle.pb_typing_plain_solver.proofs.Sets.{joined}
use Rattle.pb_typing_plain_solver.proofs.Slots.{slots-begin}
use Rattle.pb_typing_plain_solver.proofs.set.improve.Goals as goal
use Rattle.pb_typing_plain_solver.proofs.set.improve.Goals.{After-loop-number, then-truths-number+then-holds-start, then-truths-number+else-holds-start, else-truths-number}

-- a truth that changes
joins_new : (s start cur r : Bool) → start ≡ not s → beq cur start ≡ true → not (beq r start) ≡ true → not start ≡ later_truth s cur r
joins_new true true cur r e p q = absurd (true≢false e)
joins_new true false true r e p q = absurd (true≢false (sym p))
joins_new true false false true e p q = refl
joins_new true false false false e p q = absurd (true≢false (sym q))
joins_new false false cur r e p q = absurd (true≢false (sym e))
joins_new false true false r e p q = absurd (true≢false (sym p))
joins_new false true true false e p q = refl
joins_new false true true true e p q = absurd (true≢false (sym q))

-- one whose right side has it already
joins_same : (s start cur r : Bool) → start ≡ not s → beq cur start ≡ true → not (beq r start) ≡ false → cur ≡ later_truth s cur r
joins_same true true cur r e p q = absurd (true≢false e)
joins_same true false true r e p q = absurd (true≢false (sym p))
joins_same true false false true e p q = absurd (true≢false q)
joins_same true false false false e p q = refl
joins_same false false cur r e p q = absurd (true≢false (sym e))
joins_same false true false r e p q = absurd (true≢false (sym p))
joins_same false true true false e p q = absurd (true≢false q)
joins_same false true true true e p q = refl

-- one that is changed already
joins_done : (s start cur r : Bool) → start ≡ not s → beq cur start ≡ false → cur ≡ later_truth s cur r
joins_done true true cur r e p = absurd (true≢false e)
joins_done true false true r e p = refl
joins_done true false false r e p = absurd (true≢false p)
joins_done false false cur r e p = absurd (true≢false (sym e))
joins_done false true false r e p = refl
joins_done false true true r e p = absurd (true≢false p)

pub loop-number-init : goal.loop-number-init
loop-number-init c =
    let typed = c.args.turn.now.typed.now in
    let first = first_of (carriers_of typed.layout) c.args.turn.now.equation in
    let R = c.index-2.result.now in
    let long = typed_length (text typed) typed.layout typed.equations.items typed.laid_out.values typed.rights in
    record {
      mixed = λ X at.
          let f = joined (text typed) typed.layout X c.args.below.now c.args.truths.now in
          subst (λ (k : ℕ). IsMixed first k f c.args.truths.now c.args.truths.now) (sym c.numbers_of-numbers.ensures.start) (mixed_start first f c.args.truths.now);
      kept = λ e n. refl;
      slots = λ X at.
          slots-begin (text typed) X _ _ (c.as_mut_slice-slots.ensures.value ∙ c.in_ok-memory.ensures.items_if_clones_equal (λ y e. e))
          (omega (
            arith,
            parameters_there (text typed) typed.layout c.args.turn.now.equation X c.carriers-parameters.result.now typed.laid_out.values at c.carriers-parameters.ensures.list,
            loops_there (text typed) typed.equations.items c.args.turn.now.equation X R typed.loops at (omega (arith, long, c.args.turn.now.known)) c.index-2.ensures,
            R.loops.ok.0,
            c.len.ensures,
          ));
    }

pub right_truth-holds-requires-clause-own : goal.right_truth-holds-requires-clause-own
right_truth-holds-requires-clause-own c =
    let layout = c.args.turn.now.typed.now.layout in
    let numbers = c.numbers_of-numbers.ensures in
    let css = carriers_of layout in
    let first = first_of css c.args.turn.now.equation in
    between_yes first (first + size_of css c.args.turn.now.equation) c.loop-number.number
    (omega (arith, numbers.start, c.loop-number.auto.number)) (omega (arith, numbers.end, c.loop-number-test.true))

pub right_truth-holds-requires-clause-slots : goal.right_truth-holds-requires-clause-slots
right_truth-holds-requires-clause-slots c = c.loop-number.invariant.slots

pub loop-number-preserved : goal.loop-number-preserved
loop-number-preserved c =
    let layout = c.args.turn.now.typed.now.layout in
    let old = c.args.truths.now in
    let start = first_of (carriers_of layout) c.args.turn.now.equation in
    let k = c.loop-number.number in
    let xs = c.loop-number.truths in
    let inv = c.loop-number.invariant in
    let from : start ≤ k = omega (arith, c.numbers_of-numbers.ensures.start, c.loop-number.auto.number) in
    let full = c.starts_full-start.result in
    let below : k < length xs = omega (arith, c.numbers_of-numbers.ensures.within, c.requires.truths, c.loop-number.auto.truths, c.loop-number-test.true) in
    record {
      mixed = λ X at.
          let side = side_of X.sign in
          let right = right_truth_at (text c.args.turn.now.typed.now) (environment_of (text c.args.turn.now.typed.now) c.args.below.now) X layout in
          let f = joined (text c.args.turn.now.typed.now) layout X c.args.below.now old in
          let m = inv.mixed X at in
          let here : get_or xs k false ≡ get_or old k false = mixed_ahead start k f old xs m in
          let begins : full ≡ not side =
          c.starts_full-start.ensures
          ∙ ap (λ (s : Sign). not (side_of s))
          (sign_there c.args.turn.now.typed.now c.args.turn.now.equation c.index.result.now X c.args.turn.now.known c.index.ensures at) in
          let stays = λ (ys : List Bool) (is : ys ≡ xs) (joins : get_or old k false ≡ f k).
          let goal_at : IsMixed start (k + 1) f old ys = subst (λ (zs : List Bool). IsMixed start (k + 1) f old zs) (sym is) (mixed_keep start k f old xs from (here ∙ joins) m) in goal_at in
          elim c.if-truths-number.branch [
            | then-truths-number+then-holds-start w ↦
                let joins : not full ≡ f k = joins_new side full (get_or old k false) (right k) begins
                (ap (λ b. beq b full) (sym here) ∙ w.if-truths-number.true) (ap (λ b. not (beq b full)) (sym (w.right_truth-holds.ensures.truth X at)) ∙ w.if-holds-start.true) in
                subst (λ (zs : List Bool). IsMixed start (k + 1) f old zs) (sym w.truths-is) (mixed_set start k f old xs (not full) from below joins m)
            | then-truths-number+else-holds-start w ↦
                stays c.if-truths-number.truths w.truths-is (joins_same side full (get_or old k false) (right k) begins
                (ap (λ b. beq b full) (sym here) ∙ w.if-truths-number.true) (ap (λ b. not (beq b full)) (sym (w.right_truth-holds.ensures.truth X at)) ∙ w.if-holds-start.false))
            | else-truths-number w ↦
                stays c.if-truths-number.truths w.truths-is (joins_done side full (get_or old k false) (right k) begins
                (ap (λ b. beq b full) (sym here) ∙ w.if-truths-number.false))
          ];
      kept = elim c.if-truths-number.branch [
        | then-truths-number+then-holds-start w ↦ λ none. absurd (true≢false (sym w.changed-is ∙ none))
        | then-truths-number+else-holds-start w ↦ λ none n. ap (λ (zs : List Bool). get_or zs n false) w.truths-is ∙ inv.kept (sym w.changed-is ∙ none) n
        | else-truths-number w ↦ λ none n. ap (λ (zs : List Bool). get_or zs n false) w.truths-is ∙ inv.kept (sym w.changed-is ∙ none) n
      ];
      slots = λ X at. elim c.if-truths-number.branch [
        | then-truths-number+then-holds-start w ↦ subst (AreSlots (text c.args.turn.now.typed.now) X) (sym w.slots-is) (w.right_truth-holds.ensures.slots X at)
        | then-truths-number+else-holds-start w ↦ subst (AreSlots (text c.args.turn.now.typed.now) X) (sym w.slots-is) (w.right_truth-holds.ensures.slots X at)
        | else-truths-number w ↦ subst (AreSlots (text c.args.turn.now.typed.now) X) (sym w.slots-is) (inv.slots X at)
      ];
    }

-- behind the loop the whole set is joined
whole : (c : After-loop-number) (X : Equation) → slice_get (text c.args.turn.now.typed.now).equations c.args.turn.now.equation ≡ Some X →
    let css = carriers_of c.args.turn.now.typed.now.layout in
    let f = joined (text c.args.turn.now.typed.now) c.args.turn.now.typed.now.layout X c.args.below.now c.args.truths.now in
    IsWritten (first_of css c.args.turn.now.equation) (first_of css c.args.turn.now.equation + size_of css c.args.turn.now.equation) f c.args.truths.now c.loop-number.truths
whole c X at =
    let css = carriers_of c.args.turn.now.typed.now.layout in
    let f = joined (text c.args.turn.now.typed.now) c.args.turn.now.typed.now.layout X c.args.below.now c.args.truths.now in
    let numbers = c.numbers_of-numbers.ensures in
    written_all (first_of css c.args.turn.now.equation) c.loop-number.number (first_of css c.args.turn.now.equation + size_of css c.args.turn.now.equation) f c.args.truths.now c.loop-number.truths
    (omega (arith, numbers.start, numbers.end, c.loop-number.auto.number, c.loop-number.auto.number-end, c.loop-number-test.false)) (c.loop-number.invariant.mixed X at)

pub returns-clause-joins : goal.returns-clause-joins
returns-clause-joins c = λ X at. (whole (goal.at.returns-clause-joins c).After-loop-number X at).inside

pub returns-clause-others : goal.returns-clause-others
returns-clause-others c =
    let typed = c.args.turn.now.typed.now in
    let R = c.index.result.now in
    let at = equation_known typed.spec typed.layout c.args.turn.now.equation R typed.laid_out.values c.args.turn.now.known c.index.ensures in
    (whole (goal.at.returns-clause-others c).After-loop-number (erased_equation (equation_form R)) at).outside

pub returns-clause-unchanged : goal.returns-clause-unchanged
returns-clause-unchanged c = λ none n own. c.loop-number.invariant.kept none n
