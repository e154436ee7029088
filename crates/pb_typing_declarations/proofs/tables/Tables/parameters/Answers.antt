use Rattle.std.proofs.Common.{◌≡◌, ◌∙◌, Bool, List, rules, sym, ap, subst}
use Rattle.pb_base.specs.declared.limits.TheConstants.{MAX_PARAMETERS}
use Rattle.pb_text_tree.specs.Form.{Named, spec_form, equation_form, variable_forms}
use Rattle.pb_text_meaning.specs.Erase.{erase}
use Rattle.pb_typing_declarations.specs.declared.fault.TypingRule.TheVariants.{Limit}
use Rattle.pb_base.specs.declared.or_memory.OrMemory.TheVariants.{Refused}
use Rattle.pb_typing_declarations.specs.Faults.{unless, length_faults, IsAmong}
use Rattle.pb_typing_declarations.specs.Tables.{entry_names}
use Rattle.pb_typing_declarations.specs.Variables.{variables_of}
use Rattle.pb_typing_declarations.specs.Declarations.{limit_faults, variable_names, equation_faults}
use Rattle.pb_typing_declarations.proofs.Parts.{among_left, among_right}
use Rattle.pb_typing_declarations.proofs.VariableLemmas.{names-variables_of}
use Rattle.pb_typing_declarations.proofs.ParameterLemmas.{parameters_are}
use Rattle.pb_typing_declarations.proofs.tables.Tables.parameters.Goals as goal
use Rattle.pb_typing_declarations.proofs.tables.Tables.parameters.Goals.{After-check_limit}

names_are : (c : After-check_limit) → entry_names (c.deref-2).result.now ≡ variable_names (equation_form c.args.equation.now).parameters
names_are c =
    ap entry_names (c.deref-2).ensures.value
    ∙ (names-variables_of c.in_ok-variables.variables.items ∙ ap variable_names (c.in_ok-variables.ensures ∙ ap variable_forms c.deref.ensures.value))

pub returns-in_err-check_limit : goal.returns-in_err-check_limit
returns-in_err-check_limit c =
    let X = equation_form c.args.equation.now in
    let e = Refused c.in_err-check_limit.field-0.0 in
    let h : IsAmong (equation_faults (erase (spec_form c.args.self.now.spec.now)) X) e =
    among_right (length_faults X.name) _ e (among_left (limit_faults MAX_PARAMETERS (variable_names X.parameters)) _ e
    (subst (λ (xs : List Named). IsAmong (limit_faults MAX_PARAMETERS xs) e) (names_are (goal.at.returns-in_err-check_limit c).After-check_limit) c.in_err-check_limit.ensures)) in
    search rules

pub returns : goal.returns
returns c =
    let X = equation_form c.args.equation.now in
    let variables : variables_of (c.deref-3).result.now ≡ X.parameters =
    ap variables_of (c.deref-3).ensures.value ∙ (c.in_ok-variables.ensures ∙ ap variable_forms c.deref.ensures.value) in
    parameters_are (erase (spec_form c.args.self.now.spec.now)) X (variables_of (c.deref-3).result.now) c.variable_carriers.result variables
    (ap (λ (b : Bool). unless b Limit X.name.place) (sym c.is_short.ensures) ∙ c.in_ok-require.ensures)
    (ap (limit_faults MAX_PARAMETERS) (sym (names_are (goal.at.returns c).After-check_limit)) ∙ c.in_ok-check_limit.ensures)
    c.variable_carriers.ensures
