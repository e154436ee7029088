use Rattle.std.proofs.Common.{◌∙◌}
use Rattle.pb_normal.specs.View.{formula_view}
use Rattle.pb_assembler_scheme.specs.Scheme.{equation_piece}
use Rattle.pb_assembler.specs.Emitted.{nowhere, Emits}
use Rattle.pb_assembler.proofs.Codes.{equation_emitted, code_short, empty}
use Rattle.pb_assembler.proofs.Emitting.{all_settled, finished}
use Rattle.pb_assembler.proofs.code.equation_code.Goals as goal
use Rattle.pb_assembler.proofs.code.equation_code.Goals.{In_ok-emit_plain-3}

emitted : (c : In_ok-emit_plain-3) → Emits (equation_piece c.args.layout.now (formula_view c.args.right.now)) nowhere empty (c.emit_plain-3).new.builder
emitted c =
    equation_emitted c.args.layout.now (formula_view c.args.right.now) c.outermost-kind.ensures c.in_ok-builder.ensures
    c.in_ok-emit_plain.ensures c.in_ok-emit_formula.ensures (c.in_ok-emit_plain-2).ensures (c.in_ok-emit_plain-3).ensures

pub finish-requires-clause-placed : goal.finish-requires-clause-placed
finish-requires-clause-placed c = all_settled (emitted (goal.at.finish-requires-clause-placed c).In_ok-emit_plain-3)

pub finish-requires-clause-few : goal.finish-requires-clause-few
finish-requires-clause-few c =
    code_short c.args.layout.now (formula_view c.args.right.now) c.requires.few (emitted (goal.at.finish-requires-clause-few c).In_ok-emit_plain-3)

pub returns-in-Ok : goal.returns-in-Ok
returns-in-Ok c = c.in-Ok.ensures.finished ∙ finished (emitted (goal.at.returns-in-Ok c).In_ok-emit_plain-3)
