use Rattle.std.proofs.Common.{◌≡◌, ◌∙◌, length, sym, ap, subst, rules, arith, List}
use Rattle.pb_text_tree.specs.declared.term.Argument.{Argument}
use Rattle.pb_text_tree.specs.Form.{instance_form}
use Rattle.pb_base.specs.declared.or_memory.OrMemory.TheVariants.{Refused}
use Rattle.pb_typing_declarations.specs.declared.fault.TypingFault.{TypingFault}
use Rattle.pb_typing_declarations.specs.Agreement.{equation_place}
use Rattle.pb_typing_declarations.specs.Faults.{IsAmong}
use Rattle.pb_typing_rules.specs.Faults.{instance_faults}
use Rattle.pb_typing_nodes.specs.Contexts.{scope_in, slots_in, text_in}
use Rattle.pb_typing.specs.View.{is_positive}
use Rattle.pb_typing.proofs.Calls.{IsNamed, named_of, as_many, odd_instance, count_instance, arguments_instance, clear_instance, unknown_instance}
use Rattle.pb_typing.proofs.FormulaSteps.{call_arguments, place-found}
use Rattle.pb_typing.proofs.instance.check_instance.Goals.{After-carriers-carriers, After-len}
use Rattle.pb_typing.proofs.instance.check_instance.Goals as goal

-- the equation that the instance names
named : (c : After-carriers-carriers) → IsNamed (text_in c.args.context.now) (instance_form c.args.instance.now).name.text c.carriers-carriers.result.now
named c =
    named_of (text_in c.args.context.now) c.args.context.now.layout.now c.args.instance.now c.in-Some.equation c.carriers-carriers.result.now c.requires c.deref.ensures
    (sym c.equation.ensures ∙ c.in-Some.is) c.carriers-carriers.ensures.list

-- its arguments are counted
counted : (c : After-len) → c.len.result ≡ length c.args.instance.now.arguments.items
counted c = omega (arith, c.len.ensures, c.args.instance.now.arguments.ok.0)

pub returns-in_err-require-in-Some : goal.returns-in_err-require-in-Some
returns-in_err-require-in-Some c =
    let n = named (goal.at.returns-in_err-require-in-Some c).After-carriers-carriers in
    let h = odd_instance (is_positive c.args.polarity) (scope_in c.args.context.now) c.args.instance.now (Refused c.in_err-require-in-Some.field-0.0) n c.is_positive.ensures
    c.in_err-require-in-Some.ensures in
    search rules

pub returns-in_err-require-in-Some-2 : goal.returns-in_err-require-in-Some-2
returns-in_err-require-in-Some-2 c =
    let n = named (goal.at.returns-in_err-require-in-Some-2 c).After-carriers-carriers in
    let h = count_instance (is_positive c.args.polarity) (scope_in c.args.context.now) c.args.instance.now (Refused (c.in_err-require-in-Some-2).field-0.0) n
    (counted (goal.at.returns-in_err-require-in-Some-2 c).After-len) (c.in_err-require-in-Some-2).ensures in
    search rules

pub check_arguments-requires : goal.check_arguments-requires
check_arguments-requires c =
    ap (λ (xs : List Argument). length xs) c.deref-in-Some.ensures.value
    ∙ as_many c.args.instance.now.arguments.items c.carriers-carriers.result.now c.args.instance.now.name.place (counted (goal.at.check_arguments-requires c).After-len)
    (c.in_ok-require-in-Some-2).ensures

pub returns-in_err-arguments-in-Some : goal.returns-in_err-arguments-in-Some
returns-in_err-arguments-in-Some c =
    let i = c.args.instance.now in
    let n = named (goal.at.returns-in_err-arguments-in-Some c).After-carriers-carriers in
    let same = as_many i.arguments.items c.carriers-carriers.result.now i.name.place (counted (goal.at.returns-in_err-arguments-in-Some c).After-len) (c.in_ok-require-in-Some-2).ensures in
    let h = arguments_instance (is_positive c.args.polarity) (scope_in c.args.context.now) i c.in_err-arguments-in-Some.field-0.0 n same c.deref-in-Some.ensures.value
    c.in_err-arguments-in-Some.ensures in
    search rules

pub returns-in_ok-arguments-in-Some : goal.returns-in_ok-arguments-in-Some
returns-in_ok-arguments-in-Some c =
    let S = text_in c.args.context.now in
    let a = scope_in c.args.context.now in
    let n = named (goal.at.returns-in_ok-arguments-in-Some c).After-carriers-carriers in (
      clear_instance (is_positive c.args.polarity) a c.args.instance.now n c.is_positive.ensures (counted (goal.at.returns-in_ok-arguments-in-Some c).After-len)
          c.deref-in-Some.ensures.value c.in_ok-require-in-Some.ensures (c.in_ok-require-in-Some-2).ensures c.in_ok-arguments-in-Some.ensures.0,
      record {
        equation = sym (place-found S (instance_form c.args.instance.now).name.text) ∙ (ap (equation_place S) (sym c.deref.ensures) ∙ (sym c.equation.ensures ∙ c.in-Some.is));
        arguments = c.in_ok-arguments-in-Some.ensures.1 ∙ ap (call_arguments S (slots_in c.args.context.now) a) c.deref-in-Some.ensures.value;
      },
    )

pub returns-in-None : goal.returns-in-None
returns-in-None c =
    subst (λ (e : TypingFault). IsAmong (instance_faults (text_in c.args.context.now) (is_positive c.args.polarity) (scope_in c.args.context.now) (instance_form c.args.instance.now)) (Refused e))
    (sym c.fault.ensures)
    (unknown_instance (text_in c.args.context.now) (is_positive c.args.polarity) (scope_in c.args.context.now) c.args.instance.now c.deref.result.now c.deref.ensures
    (sym c.equation.ensures ∙ c.in-None.is))
