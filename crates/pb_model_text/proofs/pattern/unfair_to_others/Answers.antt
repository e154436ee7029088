use Rattle.std.proofs.Common.{arith, ◌≡◌, ◌∷◌, [], ◌++◌, map, length, sym, ap, ◌∙◌, append_assoc, append-nil}
use Rattle.std.proofs.lemmas.Result.{IfOk-at_ok}
use Rattle.std.specs.Vec.Iter.{into_iter_items}
use Rattle.pb_protocol_tree.specs.Form.{step_set_form, formula_form}
use Rattle.pb_protocol_tree.specs.Links.{link_forms}
use Rattle.pb_model_text.specs.Words.{unfair_to, unfair_to_others}
use Rattle.pb_model_text.proofs.FairLemmas.{unfair-last}
use Rattle.pb_model_text.proofs.InstanceLemmas.{nothing-left}
use Rattle.pb_model_text.proofs.pattern.unfair_to_others.Goals as goal

pub others-preserved : goal.others-preserved
others-preserved c =
    let at = c.others in
    let x = c.in-Some.steps in
    let steps : into_iter_items at.steps-iterator ≡ x ∷ into_iter_items c.next.new.self = c.in-Some.ensures.steps.0 in
    let made : formula_form c.in_ok-operand.operand ≡ unfair_to c.args.place (formula_form c.args.operand.now) (step_set_form x) =
    c.in_ok-operand.ensures ∙ ap (λ f. unfair_to c.args.place f (step_set_form c.in_ok-steps.steps)) (IfOk-at_ok _ c.in_ok-steps.ensures.1 c.copy_formula.ensures)
    ∙ ap (λ a. unfair_to c.args.place (formula_form c.args.operand.now) (step_set_form a)) c.in_ok-steps.ensures.0 in
    let mapped : link_forms c.push.new.self.items ≡ unfair_to_others c.args.place (formula_form c.args.operand.now) (map step_set_form (at.yielded ++ x ∷ [])) =
    ap link_forms c.in_ok-push.ensures.items ∙ unfair-last c.args.place (formula_form c.args.operand.now) at.links.items c.in_ok-operand.operand at.yielded x at.invariant.1 made in (
      append_assoc at.yielded (x ∷ []) _ ∙ rw (← steps) at.invariant.0,
      mapped,
      let was = at.invariant.2 in
          let gone = c.in-Some.ensures.steps.1 in
          let short = ap length steps in
          omega arith,
    )

pub returns : goal.returns
returns c =
    let at = c.others in
    let none = c.in-None.ensures.steps in
    let empty : into_iter_items at.steps-iterator ≡ [] = nothing-left _ (sym at.invariant.2 ∙ none.0) in
    let all : at.yielded ≡ c.args.others.items = sym (append-nil at.yielded) ∙ rw empty at at.invariant.0 ∙ c.into_iter-steps-iterator.ensures.into_iter_gives.0 in
    at.invariant.1 ∙ ap (λ v. unfair_to_others c.args.place (formula_form c.args.operand.now) (map step_set_form v)) all
