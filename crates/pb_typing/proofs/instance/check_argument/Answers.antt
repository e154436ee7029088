use Rattle.std.proofs.Common.{◌≡◌, ◌∙◌, ap, sym, subst, rules}
use Rattle.pb_text_tree.specs.Form.{term_form}
use Rattle.pb_base.specs.declared.or_memory.OrMemory.TheVariants.{Refused}
use Rattle.pb_typing_declarations.specs.Entries.{shape_of}
use Rattle.pb_typing_declarations.specs.Shapes.{Shape}
use Rattle.pb_typing_rules.specs.Shapes.{may_be_alike}
use Rattle.pb_typing_tree.specs.View.{shape_view}
use Rattle.pb_typing_nodes.specs.Elaborated.{IsTypedAs}
use Rattle.pb_typing_terms.proofs.Nodes.{shape_in, term_in}
use Rattle.pb_typing.proofs.FormulaSteps.{argument_among, argument_clear, argument_kind}
use Rattle.pb_typing.proofs.instance.check_argument.Goals.{After-are_alike-test}
use Rattle.pb_typing.proofs.instance.check_argument.Goals as goal

-- what is tested of the argument's shape and its parameter's
tested : (c : After-are_alike-test) → c.are_alike-test.result ≡ may_be_alike (shape_in c.args.context.now (term_form c.args.argument.now.term)) (shape_of c.args.parameter)
tested c =
    c.are_alike-test.ensures
    ∙ (ap (may_be_alike (shape_view c.in_ok-found.found.shape)) c.carrier_shape.ensures ∙ ap (λ (s : Shape). may_be_alike s (shape_of c.args.parameter)) c.in_ok-found.ensures.1.0)

pub returns-in_err-found : goal.returns-in_err-found
returns-in_err-found c =
    let h = argument_among c.args.context.now c.args.argument.now (shape_of c.args.parameter) c.in_err-found.field-0.0 c.in_err-found.ensures in
    search rules

pub returns-in_err-typed : goal.returns-in_err-typed
returns-in_err-typed c =
    let is = tested (goal.at.returns-in_err-typed c).After-are_alike-test in
    let h = argument_kind c.args.context.now c.args.argument.now (shape_of c.args.parameter) (Refused c.in_err-typed.field-0.0) is c.in_err-typed.ensures in
    search rules

pub returns : goal.returns
returns c =
    let x = c.args.argument.now in
    let is = tested (goal.at.returns c).After-are_alike-test in (
      argument_clear c.args.context.now x (shape_of c.args.parameter) c.in_ok-found.ensures.0 is c.in_ok-typed.ensures.1,
      subst (IsTypedAs (shape_in c.args.context.now (term_form x.term)) (term_in c.args.context.now (term_form x.term))) (sym c.in_ok-typed.ensures.0) c.in_ok-found.ensures.1,
    )
