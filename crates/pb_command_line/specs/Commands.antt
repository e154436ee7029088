-- The words of the commands.
use Rattle.std.specs.Prelude.{◌≡◌, ◌==◌, ◌||◌, ℕ, Bool, List, codes}
use Rattle.std.specs.List.{after_first, before_first}
use Rattle.pb_command_line.specs.declared.command.Command.{Command}
use Rattle.pb_command_line.specs.declared.command.Command.TheVariants.{Solve, Game, Solution, Certificate, Explain, Compile, Verify, List as ListModule, SolveCode, Translate, Check, Why, Size, Rule, Usage, Version}

-- the name of a command on the command line
abbrev pub command_name : Command → List ℕ
command_name Solve = codes "solve"
command_name Game = codes "game"
command_name Solution = codes "solution"
command_name Certificate = codes "certificate"
command_name Explain = codes "explain"
command_name Compile = codes "compile"
command_name Verify = codes "verify"
command_name ListModule = codes "list"
command_name SolveCode = codes "solve-code"
command_name Translate = codes "translate"
command_name Check = codes "check"
command_name Why = codes "why"
command_name Size = codes "size"
command_name Rule = codes "rule"
command_name Usage = codes "usage"
command_name Version = codes "version"

-- a blank, or the end of a line
abbrev pub ends_word : ℕ → Bool
ends_word c = (c == 32) || (c == 10)

-- the second word of the text, after the program's name, is the command's
abbrev pub IsAbout : Command → List ℕ → Type 0
IsAbout command text =
    before_first ends_word (after_first ends_word text) ≡ command_name command
