use Rattle.std.proofs.Common.{rules, arith, length, Fits, w64}
use Rattle.pb_bytecode_program.specs.declared.instruction.Op.TheVariants as op
use Rattle.pb_machine.specs.Underway.{StaysUnderway}
use Rattle.pb_machine.proofs.Runs.{can_execute, keeps, stands_within, still_running}
use Rattle.pb_machine.proofs.machine.Machine.try_operator.Goals as goal
use Rattle.pb_machine.proofs.machine.Machine.try_operator.Goals.{After-compare, After-equate}

pub instruction-op-requires : goal.instruction-op-requires
instruction-op-requires c = stands_within c.requires.underway

pub arithmetic-requires : goal.arithmetic-requires
arithmetic-requires c =
    let x = c.in-Arithmetic in
    let fit : Fits w64 (length c.args.code.now.instructions.now) = search rules in
    can_execute (op.Arithmetic x.operator) (omega arith) c.requires c.instruction-op.ensures x.is

pub returns-in-Arithmetic : goal.returns-in-Arithmetic
returns-in-Arithmetic c =
    let x = c.in-Arithmetic in
    keeps (op.Arithmetic x.operator) c.arithmetic.new.self c.arithmetic.new.registers c.instruction-op.ensures x.is c.arithmetic.ensures

pub equate-requires : goal.equate-requires
equate-requires c =
    let x = c.in-Equality in
    let fit : Fits w64 (length c.args.code.now.instructions.now) = search rules in
    can_execute (op.Equality x.wanted) (omega arith) c.requires c.instruction-op.ensures x.is

equated : (c : After-equate) → StaysUnderway c.args.code.now.instructions.now c.args.self.now c.args.registers.now c.equate.new.self c.equate.new.registers
equated c = let x = c.in-Equality in keeps (op.Equality x.wanted) c.equate.new.self c.equate.new.registers c.instruction-op.ensures x.is c.equate.ensures

pub try_branch-requires : goal.try_branch-requires
try_branch-requires c = still_running c.requires (equated (goal.at.try_branch-requires c).After-equate)

pub returns-in-Equality : goal.returns-in-Equality
returns-in-Equality c p n tokens run = c.try_branch.ensures p n tokens (equated (goal.at.returns-in-Equality c).After-equate p n tokens run)

pub compare-requires : goal.compare-requires
compare-requires c =
    let x = c.in-Compare in
    let fit : Fits w64 (length c.args.code.now.instructions.now) = search rules in
    can_execute (op.Compare x.order) (omega arith) c.requires c.instruction-op.ensures x.is

compared : (c : After-compare) → StaysUnderway c.args.code.now.instructions.now c.args.self.now c.args.registers.now c.compare.new.self c.compare.new.registers
compared c = let x = c.in-Compare in keeps (op.Compare x.order) c.compare.new.self c.compare.new.registers c.instruction-op.ensures x.is c.compare.ensures

pub try_branch-requires-in-Compare : goal.try_branch-requires-in-Compare
try_branch-requires-in-Compare c = still_running c.requires (compared (goal.at.try_branch-requires-in-Compare c).After-compare)

pub returns-in-Compare : goal.returns-in-Compare
returns-in-Compare c p n tokens run = c.try_branch-in-Compare.ensures p n tokens (compared (goal.at.returns-in-Compare c).After-compare p n tokens run)
