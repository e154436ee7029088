use Rattle.std.proofs.Common.{◌≡◌, ◌∙◌, sym, true, subst}
use Rattle.std.specs.Prelude.{Contains}
use Rattle.pb_typing_declarations.specs.declared.fault.TypingFault.{TypingFault}
use Rattle.pb_typing_declarations.specs.declared.fault.TypingRule.TheVariants as rule
use Rattle.pb_typing_declarations.specs.Shapes.{Wholes}
use Rattle.pb_typing_rules.specs.Shapes.{may_divide, Computed}
use Rattle.pb_typing_rules.specs.Faults.{operator_faults}
use Rattle.pb_typing_declarations.proofs.Parts.{holds_unless}
use Rattle.pb_typing_nodes.specs.View.{binary_operation}
use Rattle.pb_typing_nodes.proofs.Computed.{computed, beyond}
use Rattle.pb_typing_nodes.proofs.operation.BinaryOperation.check_intervals.Goals as goal

pub returns-in-Some : goal.returns-in-Some
returns-in-Some c =
    let d : may_divide (binary_operation c.args.self) (Wholes c.args.right.low c.args.right.high) ≡ true =
    sym c.may_divide-divides.ensures ∙ holds_unless c.may_divide-divides.result rule.Divisor c.args.place c.in_ok-require.ensures in
    computed (binary_operation c.args.self) c.args.left c.args.right c.args.place c.in-Some.interval d (sym c.in-Some.is ∙ c.interval.ensures)

pub returns-in-None : goal.returns-in-None
returns-in-None c =
    let d : may_divide (binary_operation c.args.self) (Wholes c.args.right.low c.args.right.high) ≡ true =
    sym c.may_divide-divides.ensures ∙ holds_unless c.may_divide-divides.result rule.Divisor c.args.place c.in_ok-require.ensures in
    let P : TypingFault → Type 0 =
    λ e. Contains
    (operator_faults (Computed (binary_operation c.args.self)) (Wholes c.args.left.low c.args.left.high)
    (Wholes c.args.right.low c.args.right.high) c.args.place) e in
    subst P (sym c.fault.ensures) (beyond (binary_operation c.args.self) c.args.left c.args.right c.args.place d (sym c.in-None.is ∙ c.interval.ensures))
