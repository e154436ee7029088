-- What `usage` writes of each command: made from docs/MANUAL.md by `.ci/rules`.
use Rattle.std.specs.Prelude.{ℕ, List}
use Rattle.pb_command_line.specs.declared.command.Command.{Command}
use Rattle.pb_command_line.specs.declared.command.Command.TheVariants as command
use Rattle.pb_command_line.specs.declared.usages.TheConstants.{CHECK_USAGE, WHY_USAGE, TRANSLATE_USAGE, SIZE_USAGE, SOLVE_USAGE, GAME_USAGE, CERTIFICATE_USAGE, SOLUTION_USAGE, EXPLAIN_USAGE, COMPILE_USAGE, VERIFY_USAGE, LIST_USAGE, SOLVE_CODE_USAGE, RULE_USAGE, USAGE_USAGE, VERSION_USAGE}

-- what it reads and writes, and its options
abbrev pub command_usage : Command → List ℕ
command_usage command.Check = CHECK_USAGE.now
command_usage command.Why = WHY_USAGE.now
command_usage command.Translate = TRANSLATE_USAGE.now
command_usage command.Size = SIZE_USAGE.now
command_usage command.Solve = SOLVE_USAGE.now
command_usage command.Game = GAME_USAGE.now
command_usage command.Certificate = CERTIFICATE_USAGE.now
command_usage command.Solution = SOLUTION_USAGE.now
command_usage command.Explain = EXPLAIN_USAGE.now
command_usage command.Compile = COMPILE_USAGE.now
command_usage command.Verify = VERIFY_USAGE.now
command_usage command.List = LIST_USAGE.now
command_usage command.SolveCode = SOLVE_CODE_USAGE.now
command_usage command.Rule = RULE_USAGE.now
command_usage command.Usage = USAGE_USAGE.now
command_usage command.Version = VERSION_USAGE.now
