use Rattle.std.proofs.Common.{◌≡◌, ◌∙◌, ◌==◌, ◌&&◌, ℕ, Bool, refl, sym, ap}
use Rattle.pb_fixpoint.specs.Solution.{Environment, empty}
use Rattle.pb_text_meaning.specs.Formula.{Instance}
use Rattle.pb_text_meaning.specs.Syntax.{Spec}
use Rattle.pb_typing_tree.specs.Meaning.{truth}
use Rattle.pb_typing_tree.specs.View.{formula_view}
use Rattle.pb_typing_tree.proofs.Calls.{calls-counted}
use Rattle.pb_typing_values.specs.Slots.{slots_of}
use Rattle.pb_typing_calls.specs.Calls.{decides}
use Rattle.pb_typing_calls.specs.Gathered.{decides_first}
use Rattle.pb_typing_calls.specs.declared.side.Side.TheVariants.{Left}
use Rattle.pb_typing_calls.proofs.Nothing.{nothing-holds}
use Rattle.pb_typing_calls.proofs.Truths.{fails, passes}
use Rattle.pb_typing_calls.proofs.gather.decides_first.Goals as goal
use Rattle.pb_typing_calls.proofs.gather.decides_first.Goals.{After-has_no_call}

by_call : (c : After-has_no_call) (spec : Spec)
    → decides_first spec (slots_of c.args.slots.now) c.args.connective (formula_view c.args.operand.now)
    ≡ c.has_no_call.result && decides c.args.connective Left (truth spec (slots_of c.args.slots.now) empty (formula_view c.args.operand.now))
by_call c spec =
    ap (λ (b : Bool). b && decides c.args.connective Left (truth spec (slots_of c.args.slots.now) empty (formula_view c.args.operand.now)))
    (sym (c.has_no_call.ensures ∙ ap (λ (k : ℕ). k == 0) (calls-counted c.args.operand.now)))

pub returns-then-not-has_no_call : goal.returns-then-not-has_no_call
returns-then-not-has_no_call c = record {
  gives =
      λ spec of.
      fails _ _ _ (by_call (goal.at.returns-then-not-has_no_call c).After-has_no_call spec) c.if-not-has_no_call.true;
  kept = refl;
}

pub returns : goal.returns
returns c = record {
  gives =
      λ spec of.
      let s = c.args.scope.now in
      let nothing =
      nothing-holds spec s.environment.truths.now s.nothing_holds in
      c.decides.ensures
      ∙ (ap (decides c.args.connective Left)
      (c.formula_truth-holds.ensures.truth spec of
      ∙ ap (λ (t : Environment Instance). truth spec (slots_of c.args.slots.now) t (formula_view c.args.operand.now)) nothing)
      ∙ passes _ _ _ (by_call (goal.at.returns c).After-has_no_call spec) c.if-not-has_no_call.false);
  kept = c.formula_truth-holds.ensures.kept;
}
