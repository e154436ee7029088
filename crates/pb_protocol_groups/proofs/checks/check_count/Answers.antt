-- As many initial values as state variables.
use Rattle.std.proofs.Common.{◌≡◌, ◌∙◌, Bool, List, length, ap, sym, subst, rules}
use Rattle.std.specs.Prelude.{◌==◌, Contains}
use Rattle.pb_base.specs.declared.or_memory.OrMemory.TheVariants.{Refused}
use Rattle.pb_text_tree.specs.declared.term.Argument.{Argument}
use Rattle.pb_text_meaning.specs.Syntax.{Terms, Variable}
use Rattle.pb_typing_declarations.specs.Faults.{IsAmong, unless}
use Rattle.pb_typing_declarations.specs.declared.fault.TypingRule.TheVariants.{WrongCount}
use Rattle.pb_model_tree.specs.Form.{model_form}
use Rattle.pb_model_meaning.specs.Erase.{model_of}
use Rattle.pb_protocol_packing.specs.Apart.{term_count}
use Rattle.pb_protocol_packer.specs.View.{terms_of, variables_in}
use Rattle.pb_protocol_packer.proofs.Nodes.{erased-all}
use Rattle.pb_protocol_groups.specs.Checks.{count_faults}
use Rattle.pb_protocol_groups.specs.Variables.{variables_of_state}
use Rattle.pb_protocol_groups.proofs.checks.check_count.Goals.{After-require}
use Rattle.pb_protocol_groups.proofs.checks.check_count.Goals as goal

counted : (c : After-require) → c.is_count-is_count.result ≡ (term_count (model_of c.args.model.now).initial == length (model_of c.args.model.now).variables)
counted c =
    let m = c.args.model.now in
    let state : variables_of_state c.deref-3.result.now ≡ variables_in m.state.items =
    ap variables_of_state c.deref-3.ensures.value ∙ c.in_ok-state.ensures ∙ ap variables_in c.deref.ensures.value in
    c.is_count-is_count.ensures
    ∙ ap (λ (xs : List Argument). term_count (terms_of xs) == length (variables_of_state c.deref-3.result.now)) c.deref-2.ensures.value
    ∙ ap (λ (xs : Terms). term_count xs == length (variables_of_state c.deref-3.result.now)) (sym (erased-all m.initial.values.items))
    ∙ ap (λ (xs : List Variable). term_count (model_of m).initial == length xs) state

pub returns-in_err-require : goal.returns-in_err-require
returns-in_err-require c =
    let m = model_form c.args.model.now in
    let f = c.in_err-require.field-0.0 in
    let h : IsAmong (count_faults m) (Refused f) =
    subst (λ (b : Bool). Contains (unless b WrongCount m.initial.place) f) (counted (goal.at.returns-in_err-require c).After-require) c.in_err-require.ensures in
    search rules

pub returns : goal.returns
returns c =
    ap (λ (b : Bool). unless b WrongCount (model_form c.args.model.now).initial.place) (sym (counted (goal.at.returns c).After-require)) ∙ c.in_ok-require.ensures
