-- The names of state variables as they were gathered, and of the variables of steps.
use Rattle.std.proofs.Common.{◌≡◌, ◌∙◌, ◌++◌, List, [], flat_map, map, ap, sym, subst, rules}
use Rattle.std.specs.Prelude.{MatchResult}
use denote.Ref.{Bor}
use Rattle.pb_text_tree.specs.declared.name.Name as declared_name
use Rattle.pb_text_tree.specs.declared.variable.Variables.{Variables}
use Rattle.pb_text_tree.specs.Form.{Named, variable_forms}
use Rattle.pb_text_meaning.specs.Syntax.{Name}
use Rattle.pb_typing_declarations.specs.Declarations.{variable_names}
use Rattle.pb_typing_declarations.specs.Faults.{IsAmong, repeated}
use Rattle.pb_typing_declarations.specs.declared.fault.TypingFault.{TypingFault}
use Rattle.pb_typing_declarations.proofs.Parts.{among_left}
use Rattle.pb_model_tree.specs.declared.step.Step as tree_step
use Rattle.pb_model_tree.specs.Form.{model_form, step_form}
use Rattle.pb_protocol_typing.specs.View.{names_in}
use Rattle.pb_protocol_packer.specs.Initial.{names_by}
use Rattle.pb_protocol_groups.specs.Checks.{step_own_names, state_faults, taken_faults, texts}
use Rattle.pb_protocol_groups.proofs.Packable.{last-part, texts-by}
use Rattle.pb_protocol_groups.proofs.checks.check_state.Goals.{After-check_apart}
use Rattle.pb_protocol_groups.proofs.checks.check_state.Goals as goal

gathered : (c : After-check_apart) → names_in c.push_names.new.names.items ≡ variable_names (variable_forms c.args.model.now.state.items)
gathered c =
    let own = λ (gs : List Variables). variable_names (variable_forms gs) in
    c.in_ok-push_names.ensures ∙ ap (λ (xs : List (Bor declared_name.Name)). names_in xs ++ own c.deref.result.now) c.new-state.ensures.items ∙ ap own c.deref.ensures.value

apart-at : (c : After-check_apart) → names_in c.deref-2.result.now ≡ variable_names (variable_forms c.args.model.now.state.items)
apart-at c = ap names_in c.deref-2.ensures.value ∙ gathered c

pub returns-in_err-check_apart : goal.returns-in_err-check_apart
returns-in_err-check_apart c =
    let m = model_form c.args.model.now in
    let e = c.in_err-check_apart.field-0.0 in
    let h : IsAmong (state_faults m) e =
    among_left (repeated (variable_names m.variables)) _ e
    (subst (λ (xs : List Named). IsAmong (repeated xs) e) (apart-at (goal.at.returns-in_err-check_apart c).After-check_apart) c.in_err-check_apart.ensures) in
    search rules

pub returns : goal.returns
returns c =
    let m = model_form c.args.model.now in
    let at = (goal.at.returns c).After-check_apart in
    let faults = λ (ns : List Name) (xs : List Named). flat_map (taken_faults ns) xs in
    let own : names_by c.deref-4.result.now ≡ texts (flat_map step_own_names m.steps) =
    ap names_by c.deref-4.ensures.value ∙ texts-by c.in_ok-own.own.items
    ∙ ap texts (c.in_ok-own.ensures ∙ ap (λ (ss : List tree_step.Step). flat_map step_own_names (map step_form ss)) c.deref-3.ensures.value) in
    let are : faults (names_by c.deref-4.result.now) (names_in c.deref-5.result.now) ≡ faults (texts (flat_map step_own_names m.steps)) (variable_names m.variables) =
    ap (λ (ns : List Name). faults ns (names_in c.deref-5.result.now)) own
    ∙ ap (faults (texts (flat_map step_own_names m.steps))) (ap names_in c.deref-5.ensures.value ∙ gathered at) in
    last-part (repeated (variable_names m.variables)) _ c.check_none_among.result (sym (ap repeated (apart-at at)) ∙ c.in_ok-check_apart.ensures)
    (subst (λ (fs : List TypingFault). MatchResult c.check_none_among.result (λ _. fs ≡ []) (IsAmong fs)) are c.check_none_among.ensures)
