-- Each command has its line.
use Rattle.std.proofs.Common.{refl}
use Rattle.pb_command_line.specs.declared.command.Command.{Command}
use Rattle.pb_command_line.specs.declared.command.Command.TheVariants as command
use Rattle.pb_command_line.specs.declared.page.Page.TheVariants as page
use Rattle.std.specs.Prelude.{None}
use Rattle.pb_command_line.specs.Pages.{HasLineOf, page_words}
use Rattle.pb_command_line.proofs.page.usage_has_each_command.Goals as goal

has_line : (command : Command) → HasLineOf (page_words (page.Usage None)) command
has_line command.Solve = refl
has_line command.Game = refl
has_line command.Solution = refl
has_line command.Certificate = refl
has_line command.Explain = refl
has_line command.Compile = refl
has_line command.Verify = refl
has_line command.List = refl
has_line command.SolveCode = refl
has_line command.Translate = refl
has_line command.Check = refl
has_line command.Why = refl
has_line command.Size = refl
has_line command.Rule = refl
has_line command.Usage = refl
has_line command.Version = refl

pub returns : goal.returns
returns c = has_line
