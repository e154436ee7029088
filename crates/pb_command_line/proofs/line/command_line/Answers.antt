-- A line with one command more after another is the command line, where memory was refused for none.
use Rattle.std.proofs.Common.{codes}
use Rattle.clap.specs.Simple.{new_shape, with_subcommand, App}
use Rattle.pb_command_line.specs.Line.{bare_program, text_commands, counting_shape, solving_shape, exploring_shape, explaining_shape, translating_shape, checking_shape, showing_shape, rule_shape, usage_shape}
use Rattle.pb_command_line.proofs.line.command_line.Goals as goal

pub returns : goal.returns
returns c =
    let solve : App = with_subcommand bare_program (counting_shape (solving_shape (codes "solve"))) in
    let game : App = with_subcommand solve (counting_shape (exploring_shape (codes "game"))) in
    let solution : App = with_subcommand game (counting_shape (solving_shape (codes "solution"))) in
    let certificate : App = with_subcommand solution (counting_shape (solving_shape (codes "certificate"))) in
    let explain : App = with_subcommand certificate (counting_shape (explaining_shape (codes "explain"))) in
    let verify : App = with_subcommand text_commands (counting_shape (new_shape (codes "verify"))) in
    let listing : App = with_subcommand verify (counting_shape (new_shape (codes "list"))) in
    let solve_code : App = with_subcommand listing (counting_shape (solving_shape (codes "solve-code"))) in
    let translate : App = with_subcommand solve_code (translating_shape (codes "translate")) in
    let check : App = with_subcommand translate (checking_shape (codes "check")) in
    let why : App = with_subcommand check (showing_shape (codes "why")) in
    let size : App = with_subcommand why (translating_shape (codes "size")) in
    let rule : App = with_subcommand size (rule_shape (codes "rule")) in
    let usage : App = with_subcommand rule (usage_shape (codes "usage")) in
    let line = c.with-line.ensures bare_program (counting_shape (solving_shape (codes "solve"))) c.bare_program.ensures (c.counting.ensures (solving_shape (codes "solve")) c.solving.ensures) in
    let line = c.with-line-2.ensures solve (counting_shape (exploring_shape (codes "game"))) line (c.counting-2.ensures (exploring_shape (codes "game")) c.exploring.ensures) in
    let line = c.with-line-3.ensures game (counting_shape (solving_shape (codes "solution"))) line (c.counting-3.ensures (solving_shape (codes "solution")) c.solving-2.ensures) in
    let line = c.with-line-4.ensures solution (counting_shape (solving_shape (codes "certificate"))) line (c.counting-4.ensures (solving_shape (codes "certificate")) c.solving-3.ensures) in
    let line = c.with-line-5.ensures certificate (counting_shape (explaining_shape (codes "explain"))) line (c.counting-5.ensures (explaining_shape (codes "explain")) c.explaining.ensures) in
    let line = c.with-line-6.ensures explain (counting_shape (new_shape (codes "compile"))) line (c.counting-6.ensures (new_shape (codes "compile")) c.plain.ensures) in
    let line = c.with-line-7.ensures text_commands (counting_shape (new_shape (codes "verify"))) line (c.counting-7.ensures (new_shape (codes "verify")) c.plain-2.ensures) in
    let line = c.with-line-8.ensures verify (counting_shape (new_shape (codes "list"))) line (c.counting-8.ensures (new_shape (codes "list")) c.plain-3.ensures) in
    let line = c.with-line-9.ensures listing (counting_shape (solving_shape (codes "solve-code"))) line (c.counting-9.ensures (solving_shape (codes "solve-code")) c.solving-4.ensures) in
    let line = c.with-line-10.ensures solve_code (translating_shape (codes "translate")) line c.translating.ensures in
    let line = c.with-line-11.ensures translate (checking_shape (codes "check")) line c.checking.ensures in
    let line = c.with-line-12.ensures check (showing_shape (codes "why")) line c.showing.ensures in
    let line = c.with-line-13.ensures why (translating_shape (codes "size")) line c.translating-2.ensures in
    let line = c.with-line-14.ensures size (rule_shape (codes "rule")) line c.rule.ensures in
    let line = c.with-line-15.ensures rule (usage_shape (codes "usage")) line c.usage.ensures in
    c.with.ensures usage (new_shape (codes "version")) line c.plain-4.ensures
