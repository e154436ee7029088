use Rattle.std.proofs.Common.{◌≡◌, ◌<◌, ◌∙◌, true, ap, inl, inr, subst}
use Rattle.pb_base.specs.OrMemory.{IfFault}
use Rattle.pb_text_tree.specs.declared.place.Place.{Place}
use Rattle.pb_text_tree.specs.Form.{term_form}
use Rattle.pb_text_meaning.specs.Syntax.{Term}
use Rattle.pb_model_meaning.specs.Syntax as flat
use Rattle.pb_protocol_meaning.specs.Steps.{data_of}
use Rattle.pb_protocol_tree.specs.Form.{FormulaForm}
use Rattle.pb_protocol_folding.specs.Folding.{folded}
use Rattle.pb_protocol_folding.specs.View as tree
use Rattle.pb_protocol_unfolding.specs.Unfolding.{unfolded_term}
use Rattle.pb_protocol_unfolder_terms.specs.declared.fault.UnfoldRule.{UnfoldRule}
use Rattle.pb_protocol_unfolder_terms.specs.declared.scope.TermScope.{TermScope}
use Rattle.pb_protocol_unfolder_terms.specs.TermFaults.{IsFaultInTerm, surroundings_of}
use Rattle.pb_protocol_unfolder_terms.specs.Unfolding.{operator_count}
use Rattle.pb_protocol_unfolder_steps.specs.declared.unfolder.Unfolder.{Unfolder}
use Rattle.pb_protocol_unfolder_steps.specs.StepFaults.{OnTerm, WithValues}
use Rattle.pb_protocol_unfolder_steps.specs.Unfolder.{form_in, protocol_in, scope_within}
use Rattle.pb_protocol_unfolder.specs.Faults.{IsFaultOfFormula, OfTerm}
use Rattle.pb_protocol_unfolder.specs.Left.{left_operators}
use Rattle.pb_protocol_unfolder.specs.Parts.{IsFaultBy}
use Rattle.pb_protocol_unfolder.proofs.FaultLemmas.{fault-by, of-many-by, raised-so}
use Rattle.pb_protocol_unfolder.proofs.NameFaults.{of-steps-term, only-values, with-values}
use Rattle.pb_protocol_unfolder.proofs.OperatorLemmas.{same-left, same-over}
use Rattle.pb_protocol_unfolder.proofs.formula.unfold_data.Goals as goal

-- a term that is unfolded and folded for its truth
abbrev data_in : Unfolder → TermScope → Term → Term
data_in u s x = folded (data_of (protocol_in u)) true (unfolded_term (protocol_in u) (scope_within u s) x)

pub returns-in-Err-clause-refused : goal.returns-in-Err-clause-refused
returns-in-Err-clause-refused c =
    let s = c.args.scope.now.names in
    let x = term_form c.args.term.now in
    let Many = c.args.room.now.operators < left_operators c.args.formulas.now s (FormulaForm.«data» c.args.place x) in
    let P : Unfolder → UnfoldRule → Place → Type 0 = λ u. IsFaultInTerm (surroundings_of (form_in u)) (scope_within u s) x in
    let here = P c.args.formulas.now in
    let Q = IsFaultOfFormula (form_in c.args.formulas.now) Many (scope_within c.args.formulas.now s) (FormulaForm.«data» c.args.place x) in
    raised-so (OnTerm (WithValues s here)) (IsFaultBy Q) c.in-Err.error c.of_steps.result
    (λ t f gives is. fault-by (OfTerm here) Q (λ g o. inl o) f (of-steps-term ⊥ (λ h. h) here t f gives (with-values s here (only-values s c.args.scope.now.values) t is)))
    c.of_steps.ensures (subst (λ (u : Unfolder). IfFault c.in-Err.error (OnTerm (WithValues s (P u)))) c.unfolder.ensures c.in-Err.ensures.refused)

pub returns-in_ok-take_term-in-Ok-clause-formula : goal.returns-in_ok-take_term-in-Ok-clause-formula
returns-in_ok-take_term-in-Ok-clause-formula c =
    ap flat.Formula.Data (c.in-Ok.ensures.term ∙ ap (λ (u : Unfolder). data_in u c.args.scope.now.names (tree.term_of c.args.term.now)) c.unfolder.ensures)

pub returns-in_ok-take_term-in-Ok-clause-room : goal.returns-in_ok-take_term-in-Ok-clause-room
returns-in_ok-take_term-in-Ok-clause-room c =
    let said = c.in-Ok.ensures.term ∙ ap (λ (u : Unfolder). data_in u c.args.scope.now.names (tree.term_of c.args.term.now)) c.unfolder.ensures in
    same-left _ _ _ _ c.in_ok-take_term-in-Ok.ensures.taken (ap operator_count said)

pub returns-in_err-take_term-in-Ok-clause-refused : goal.returns-in_err-take_term-in-Ok-clause-refused
returns-in_err-take_term-in-Ok-clause-refused c =
    let u = c.args.formulas.now in
    let whole = FormulaForm.«data» c.args.place (term_form c.args.term.now) in
    let Many = c.args.room.now.operators < left_operators u c.args.scope.now.names whole in
    let Q = IsFaultOfFormula (form_in u) Many (scope_within u c.args.scope.now.names) whole in
    let said = c.in-Ok.ensures.term ∙ ap (λ (v : Unfolder). data_in v c.args.scope.now.names (tree.term_of c.args.term.now)) c.unfolder.ensures in
    of-many-by c.from_residual.result c.in_err-take_term-in-Ok.field-0.0 (c.args.room.now.operators < operator_count (tree.term_of c.in-Ok.term)) c.args.place Q c.from_residual.ensures.1
    (λ f o. inr (same-over _ _ _ (ap operator_count said) o.0, o.1)) c.in_err-take_term-in-Ok.ensures.refused
