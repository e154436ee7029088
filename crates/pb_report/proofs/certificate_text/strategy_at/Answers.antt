use Rattle.std.proofs.Common.{◌≡◌, ◌≢◌, rules}
use Rattle.pb_game.specs.Games.{owner_of}
use Rattle.pb_game.specs.Solutions.{winner_of}
use Rattle.pb_report.proofs.Certificates.{strategy_is, no_strategy}
use Rattle.pb_report.proofs.certificate_text.strategy_at.Goals as goal

pub returns-then-eq : goal.returns-then-eq
returns-then-eq c =
    let g = c.args.position.now.game.now in let s = c.args.position.now.solution.now in
    let moves : owner_of g c.args.position.now.number ≡ winner_of s c.args.position.now.number = search (rules, c.if-eq.ensures, c.owner.ensures, c.winner.ensures) in
    strategy_is g s c.args.position.now.number c.choice.result moves c.choice.ensures

pub returns-else-eq : goal.returns-else-eq
returns-else-eq c =
    let g = c.args.position.now.game.now in let s = c.args.position.now.solution.now in
    let rests : owner_of g c.args.position.now.number ≢ winner_of s c.args.position.now.number = search (rules, c.if-eq.ensures, c.owner.ensures, c.winner.ensures) in
    no_strategy g s c.args.position.now.number rests
