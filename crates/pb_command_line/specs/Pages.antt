-- What is written of the program itself.
use Rattle.std.specs.Prelude.{◌≡◌, ◌==◌, ℕ, true, List, Some, None}
use Rattle.std.specs.List.{before_first, list_any, slice_split}
use Rattle.std.specs.Str.{bytes_eq}
use Rattle.pb_command_rules.specs.Rules.{rule_words}
use Rattle.pb_command_line.specs.Commands.{command_name, ends_word}
use Rattle.pb_command_line.specs.declared.command.Command.{Command}
use Rattle.pb_command_line.specs.declared.page.Page.{Page}
use Rattle.pb_command_line.specs.declared.page.Page.TheVariants.{Rule, Usage, Version}
use Rattle.pb_command_line.specs.declared.usages.TheConstants.{USAGE, VERSION}
use Rattle.pb_command_line.specs.Usages.{command_usage}

-- the words of a rule, the usage of a command or of the whole program, and the version
abbrev pub page_words : Page → List ℕ
page_words (Rule rule) = rule_words rule
page_words (Usage None) = USAGE.now
page_words (Usage (Some command)) = command_usage command
page_words Version = VERSION.now

-- a line of the text begins with the command's name
abbrev pub HasLineOf : List ℕ → Command → Type 0
HasLineOf text command =
    list_any (λ line. bytes_eq (before_first ends_word line) (command_name command))
    (slice_split (λ c. c == 10) text) ≡ true
