-- The command line as clap reads it.
use Rattle.std.specs.Prelude.{◌≡◌, ℕ, false, true, List, [], ◌∷◌, ◌++◌, Some, codes}
use Rattle.clap.specs.declared.builder.action.ArgAction.TheVariants.{Append, SetTrue}
use Rattle.clap.specs.declared.builder.arg.Arg.{Arg}
use Rattle.clap.specs.declared.builder.command.Command.{Command}
use Rattle.clap.specs.declared.builder.command.Command.TheViews.{out-Command}
use Rattle.clap.specs.Walk.{Rule, rule_of}
use Rattle.clap.specs.Simple.{App, Shape, new_app, new_shape, new_rule, on_top, shape_of}
use Rattle.clap.specs.Simple.{with_subcommand}

-- the option is read by this rule, at the command alone that has it
abbrev pub IsOwnOption : Rule → Arg → Type 0
IsOwnOption rule option = (rule_of option ≡ rule) × (option.global ≡ false)

-- the command has this shape, and each of its options is read at it alone
abbrev pub IsOwnCommand : Shape → Command → Type 0
IsOwnCommand shape command =
    (shape_of command ≡ shape) × ((out-Command command).has_globals ≡ false)

-- `--workers` with any word
abbrev pub workers_rule : Rule
workers_rule = record (new_rule (codes "workers")) { long = Some (codes "workers") }

-- `--solver` with any word
abbrev pub solver_rule : Rule
solver_rule = record (new_rule (codes "solver")) { long = Some (codes "solver") }

-- `--places`, with no word behind it: clap reads `true` where it stands, and else `false`
abbrev pub places_rule : Rule
places_rule =
    record (new_rule (codes "places")) { long = Some (codes "places"); action = Some SetTrue }

-- `--lines`, with no word behind it
abbrev pub lines_rule : Rule
lines_rule =
    record (new_rule (codes "lines")) { long = Some (codes "lines"); action = Some SetTrue }

-- `--property` with any word
abbrev pub property_rule : Rule
property_rule = record (new_rule (codes "property")) { long = Some (codes "property") }

-- `--property` with any word, once or more often
abbrev pub properties_rule : Rule
properties_rule = record property_rule { action = Some Append }

-- `--status`, with no word behind it
abbrev pub status_rule : Rule
status_rule =
    record (new_rule (codes "status")) { long = Some (codes "status"); action = Some SetTrue }

-- `--counts`, with no word behind it
abbrev pub counts_rule : Rule
counts_rule =
    record (new_rule (codes "counts")) { long = Some (codes "counts"); action = Some SetTrue }

-- `--symmetry`, with no word after it
abbrev pub symmetry_rule : Rule
symmetry_rule =
    record (new_rule (codes "symmetry")) { long = Some (codes "symmetry"); action = Some SetTrue }

-- `--progress`, with no value
abbrev pub progress_rule : Rule
progress_rule =
    record (new_rule (codes "progress")) { long = Some (codes "progress"); action = Some SetTrue }

-- `--reached`, with no word behind it
abbrev pub reached_rule : Rule
reached_rule =
    record (new_rule (codes "reached")) { long = Some (codes "reached"); action = Some SetTrue }

-- words after the command, any number of them
abbrev pub files_rule : Rule
files_rule = record (new_rule (codes "file")) { action = Some Append }

-- a word that has to stand behind the command
abbrev pub number_rule : Rule
number_rule = record (new_rule (codes "number")) { required = true }

-- a word that may follow the command
abbrev pub topic_rule : Rule
topic_rule = new_rule (codes "command")

-- a command with the options `--workers` and `--progress`
abbrev pub exploring_shape : List ℕ → Shape
exploring_shape name = record (new_shape name) { rules = workers_rule ∷ progress_rule ∷ [] }

-- these, and `--places`
abbrev pub explaining_shape : List ℕ → Shape
explaining_shape name =
    record (new_shape name) { rules = workers_rule ∷ progress_rule ∷ places_rule ∷ [] }

-- a command with `--workers`, `--progress` and `--solver`
abbrev pub solving_shape : List ℕ → Shape
solving_shape name =
    record (new_shape name) { rules = workers_rule ∷ progress_rule ∷ solver_rule ∷ [] }

-- a command that takes `--reached` beside its other options
abbrev pub counting_shape : Shape → Shape
counting_shape command = record command { rules = command.rules ++ reached_rule ∷ [] }

-- a command with `--property`, and files
abbrev pub translating_shape : List ℕ → Shape
translating_shape name = record (new_shape name) { rules = property_rule ∷ files_rule ∷ [] }

-- a command with `--workers`, `--progress`, `--property` and `--lines`, and files
abbrev pub showing_shape : List ℕ → Shape
showing_shape name = record (new_shape name) {
  rules = workers_rule ∷ progress_rule ∷ property_rule ∷ lines_rule ∷ files_rule ∷ [];
}

-- a command with `--workers`, `--progress`, `--solver`, and any number of `--property`
abbrev pub deciding_shape : List ℕ → Shape
deciding_shape name = record (new_shape name) {
  rules = workers_rule ∷ progress_rule ∷ solver_rule ∷ properties_rule ∷ [];
}

-- a command with `--workers`, `--progress`, `--solver`, `--status`, `--counts` and `--symmetry`,
-- any number of `--property`, and files
abbrev pub checking_shape : List ℕ → Shape
checking_shape name = record (new_shape name) {
  rules =
      workers_rule ∷ progress_rule ∷ solver_rule ∷ properties_rule ∷ status_rule ∷ counts_rule
      ∷ symmetry_rule ∷ files_rule ∷ [];
}

-- a command that takes the number of a rule
abbrev pub rule_shape : List ℕ → Shape
rule_shape name = record (new_shape name) { rules = number_rule ∷ [] }

-- a command that takes the name of a command, or none
abbrev pub usage_shape : List ℕ → Shape
usage_shape name = record (new_shape name) { rules = topic_rule ∷ [] }

-- the program without its commands, of which it needs one
abbrev pub bare_program : App
bare_program = on_top (λ s. record s { subcommand_required = true }) (new_app (codes "pbsolve"))

-- the program, and the commands of texts
abbrev pub text_commands : App
text_commands =
    let solve = with_subcommand bare_program (counting_shape (solving_shape (codes "solve"))) in
    let game = with_subcommand solve (counting_shape (exploring_shape (codes "game"))) in
    let solution = with_subcommand game (counting_shape (solving_shape (codes "solution"))) in
    let certificate =
    with_subcommand solution (counting_shape (solving_shape (codes "certificate"))) in
    let explain =
    with_subcommand certificate (counting_shape (explaining_shape (codes "explain"))) in
    with_subcommand explain (counting_shape (new_shape (codes "compile")))

-- the command line, as clap reads it
abbrev pub command_line : App
command_line =
    let verify = with_subcommand text_commands (counting_shape (new_shape (codes "verify"))) in
    let listing = with_subcommand verify (counting_shape (new_shape (codes "list"))) in
    let solve_code =
    with_subcommand listing (counting_shape (solving_shape (codes "solve-code"))) in
    let translate = with_subcommand solve_code (translating_shape (codes "translate")) in
    let check = with_subcommand translate (checking_shape (codes "check")) in
    let why = with_subcommand check (showing_shape (codes "why")) in
    let size = with_subcommand why (translating_shape (codes "size")) in
    let rule = with_subcommand size (rule_shape (codes "rule")) in
    let usage = with_subcommand rule (usage_shape (codes "usage")) in
    with_subcommand usage (new_shape (codes "version"))
