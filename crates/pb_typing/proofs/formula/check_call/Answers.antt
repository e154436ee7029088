use Rattle.std.proofs.Common.{ℕ, Option, ap, sym, ◌∙◌, rules}
use Rattle.pb_text_tree.specs.Form.{instance_form}
use Rattle.pb_text_meaning.specs.Erase.{erased_arguments}
use Rattle.pb_typing_declarations.specs.Faults.{IsAmong}
use Rattle.pb_typing_rules.specs.Faults.{instance_faults}
use Rattle.pb_typing_tree.specs.Elaboration.{arguments, call}
use Rattle.pb_typing_tree.specs.Tree as tree
use Rattle.pb_typing_nodes.specs.Contexts.{scope_in, slots_in, text_in}
use Rattle.pb_typing.specs.View.{is_positive}
use Rattle.pb_typing.proofs.formula.check_call.Goals as goal

pub returns-in_err-call-clause-checked : goal.returns-in_err-call-clause-checked
returns-in_err-call-clause-checked c = λ n.
    let h : IsAmong
    (instance_faults (text_in c.args.context.now) (is_positive c.args.polarity) (scope_in c.args.context.now)
    (instance_form c.args.instance.now)) c.in_err-call.field-0.0 = c.in_err-call.ensures in
    search rules

pub returns-clause-checked : goal.returns-clause-checked
returns-clause-checked c = λ n.
    let h = c.in_ok-call.ensures in
    let es = arguments (text_in c.args.context.now) (slots_in c.args.context.now) (scope_in c.args.context.now) (erased_arguments (instance_form c.args.instance.now).arguments) in
    (h.0, ap (tree.Call c.in_ok-call.call.equation) h.1.arguments ∙ sym (ap (λ (o : Option ℕ). call o es) h.1.equation))
