use Rattle.std.proofs.Common.{◌≡◌, Bool, List, not, rules, sym, ap, ◌∙◌, subst}
use Rattle.pb_text_tree.specs.Form.{recogniser_form}
use Rattle.pb_typing_declarations.specs.declared.fault.TypingRule.TheVariants.{NameTwice}
use Rattle.pb_typing_declarations.specs.declared.fault.TypingFault.{TypingFault}
use Rattle.pb_base.specs.declared.or_memory.OrMemory.TheVariants.{Refused}
use Rattle.pb_typing_declarations.specs.Faults.{unless, IsAmong}
use Rattle.pb_typing_declarations.specs.Declarations.{recogniser_faults, is_named_function}
use Rattle.pb_typing_declarations.proofs.definition.push_recogniser.Goals as goal

pub returns-in_err-require-in-Some : goal.returns-in_err-require-in-Some
returns-in_err-require-in-Some c =
    let whole = recogniser_faults (recogniser_form c.args.recogniser.now) in
    let is : whole ≡ unless (not c.is_named_function.result) NameTwice c.in-Some.name.place =
    ap (λ r. recogniser_faults (recogniser_form r)) c.in-Some.is
    ∙ ap (λ (b : Bool). unless (not b) NameTwice c.in-Some.name.place) (sym (c.is_named_function.ensures ∙ ap is_named_function c.deref.ensures)) in
    let h : IsAmong whole (Refused c.in_err-require-in-Some.field-0.0) =
    subst (λ (all : List TypingFault). IsAmong all (Refused c.in_err-require-in-Some.field-0.0)) (sym is) c.in_err-require-in-Some.ensures in
    search rules
