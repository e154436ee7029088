-- A word that is no command's has no usage.
use Rattle.std.proofs.Common.{◌≡◌, ◌∙◌, ℕ, List, Option, Some, None, option_map, IfNone, codes, sym, ap}
use Rattle.std.specs.Prelude.{is_some}
use Rattle.clap.specs.Matches.{found_of}
use Rattle.clap.specs.Walk.{first_of, rows_of}
use Rattle.pb_command_line.specs.declared.command.Command.{Command}
use Rattle.pb_command_line.specs.Commands.{command_name}
use Rattle.pb_command_line.proofs.read.usage_of.Goals as goal

no_usage : (asked : Option (List ℕ)) (word : List ℕ) (named : Option Command) (made : Option (Option Command)) → Some word ≡ asked
    → ((command : Command) → word ≡ command_name command → named ≡ Some command) → is_some made ≡ is_some named
    → IfNone made ((topic : Option Command) → option_map command_name topic ≡ asked → ⊥)
no_usage asked word named (Some topic) is every same = tt
no_usage asked word named None is every same = λ topic told. go topic (told ∙ sym is)
  where
    go : (topic : Option Command) → option_map command_name topic ≡ Some word → ⊥
    go None told = absurd (cc told)
    go (Some command) told =
        let named_is : word ≡ command_name command = cc told in
        absurd (cc (same, ap is_some (every command named_is)))

pub returns-in-Some-clause-none : goal.returns-in-Some-clause-none
returns-in-Some-clause-none c =
    no_usage (first_of (codes "command") (rows_of (found_of c.args.options.now))) c.in-Some.word.now c.named.result c.map.result
    c.in-Some.ensures c.named.ensures.every c.map.ensures.variant
