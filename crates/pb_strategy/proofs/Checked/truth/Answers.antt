use Rattle.std.proofs.Common.{◌∙◌, rules}
use Rattle.pb_game.specs.Solutions.{winner_of}
use Rattle.pb_strategy.proofs.Winners.{even_test, merely_solved}
use Rattle.pb_strategy.proofs.Checked.truth.Goals as goal

pub returns-clause-meaning : goal.returns-clause-meaning
returns-clause-meaning c signatures trees rows game row contained at =
    let s = c.args.self.now.solution.now in
    even_test c.eq.result (winner_of s c.args.v) (search rules)
    ∙ merely_solved c.args.self.now.game.now s c.args.self.now.certificate c.args.v signatures trees rows game row contained at
