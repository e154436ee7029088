-- Where the part is the whole, what is told is the answer.
use Rattle.std.proofs.Common.{arith, subst}
use Rattle.pb_command_solver.specs.declared.part.Rounds.{Rounds}
use Rattle.pb_command_solver.specs.Parts.{IsOfRounds}
use Rattle.pb_command_solver.proofs.Answered.{count, answer_is}
use Rattle.pb_command_solver.proofs.Parts.{game_of_all}
use Rattle.pb_command_solver.proofs.early.answer_early.Goals as goal

pub count_cut-cut-requires : goal.count_cut-cut-requires
count_cut-cut-requires g c =
    let m = c.args.verified.now in
    let is = subst (λ (o : Rounds). IsOfRounds c.args.counting m o) c.in-Enough.is c.in_ok-part.ensures in
    let part = c.in-Enough.part.part in
    let built = c.in-Enough.part.solved.built in
    let explored = is.0.part.whole c.if-part.true in
    let same = count m part.rows built explored (game_of_all m part.rows is.0.trees part.truth is.0.part.assumed built is.0.game explored) is.0.trees.0 is.0.trees.1 in
    omega (arith, same, built.few)

pub returns-then-part : goal.returns-then-part
returns-then-part g c =
    let m = c.args.verified.now in
    let is = subst (λ (o : Rounds). IsOfRounds c.args.counting m o) c.in-Enough.is c.in_ok-part.ensures in
    let part = c.in-Enough.part.part in
    let built = c.in-Enough.part.solved.built in
    let explored = is.0.part.whole c.if-part.true in
    answer_is m part.rows built explored (game_of_all m part.rows is.0.trees part.truth is.0.part.assumed built is.0.game explored)
    c.args.counting c.truth.result c.instances.result c.count_cut-cut.result c.len.result
    c.truth.ensures.meaning c.instances.ensures c.count_cut-cut.ensures c.len.ensures.value (omega (arith, c.len.ensures.value, is.1))
