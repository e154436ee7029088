-- What the options of a command ask, as clap read them.
use Rattle.std.specs.Prelude.{◌≡◌, ◌↔◌, ⊤, ℕ, Bool, IsTrue, List, [], Option, Some, None, map, option_map, option_and_then, unwrap_or, ◌<◌, ◌≤◌, codes, string_bytes}
use Rattle.std.specs.Str.Parse.{IsNumeral, digits_value, without_leading_plus}
use Rattle.std.specs.Prelude.{String, Vec}
use Rattle.std.specs.declared.alloc.Global.{Global}
use Rattle.clap.specs.Walk.{Row, all_of, first_of}
use Rattle.pb_sorts.specs.declared.counting.Counting.{Counting}
use Rattle.pb_sorts.specs.declared.counting.Counting.TheVariants.{Reached}
use Rattle.pb_game.specs.declared.solver.Solver.{Solver}
use Rattle.pb_game.specs.declared.solver.Solver.TheVariants.{Zielonka}
use Rattle.pb_game.specs.SolverNames.{solver_name}
use Rattle.pb_command_rules.specs.Rules.{rule_of}
use Rattle.pb_command_rules.specs.declared.rule.Rule as rules
use Rattle.pb_command_line.specs.Commands.{command_name}
use Rattle.pb_command_line.specs.declared.command.Command.{Command}
use Rattle.pb_command_line.specs.declared.options.Checking.{Checking}
use Rattle.pb_command_line.specs.declared.options.Explaining.{Explaining}
use Rattle.pb_command_line.specs.declared.options.Exploring.{Exploring}
use Rattle.pb_command_line.specs.declared.options.Showing.{Showing}
use Rattle.pb_command_line.specs.declared.options.Solving.{Solving}
use Rattle.pb_command_line.specs.declared.options.Translating.{Translating}
use Rattle.pb_command_line.specs.declared.page.Page as pages
use Rattle.pb_command_line.specs.declared.page.Page.TheVariants as page
use Rattle.pb_command_line.specs.declared.request.Request.{Request}
use Rattle.pb_command_line.specs.declared.request.Request.TheVariants.{Page, Check, Input}
use Rattle.pb_command_line.specs.declared.request.Task.TheVariants.{Solve, Game, Solution, Certificate, Explain, Compile, Verify, List as ListModule, SolveCode, Translate, Why, Size}

-- The word is a whole number from 1 to 16, in decimal digits behind a plus or none, and so many
-- workers are asked for; where there is no word, one is.
abbrev pub IsWorkersOf : Option (List ℕ) → ℕ → Type 0
IsWorkersOf None workers = workers ≡ 1
IsWorkersOf (Some word) workers =
    IsNumeral 10 (without_leading_plus word)
    × (digits_value 10 (without_leading_plus word) ≡ workers) × (0 < workers) × (workers ≤ 16)

-- the word is the solver's name; where there is none, Zielonka's algorithm is asked for
abbrev pub IsChosenBy : Option (List ℕ) → Solver → Type 0
IsChosenBy None solver = solver ≡ Zielonka
IsChosenBy (Some word) solver = word ≡ solver_name solver

-- an option without a word is set where clap reads `true`
abbrev pub IsSetBy : Option (List ℕ) → Bool → Type 0
IsSetBy word flag = IsTrue flag ↔ (word ≡ Some (codes "true"))

-- the reached instances count exactly where clap reads `true`, and else those that are declared
abbrev pub IsCountingOf : Option (List ℕ) → Counting → Type 0
IsCountingOf word counting = (counting ≡ Reached) ↔ (word ≡ Some (codes "true"))

-- the values that clap reads for an option, or the words after the command, in order
abbrev pub AreWordsAt : List ℕ → List Row → Vec (String Global) Global → Type 0
AreWordsAt id rows words = map string_bytes words.items ≡ unwrap_or (all_of id rows) []

-- the number of workers, and whether progress is printed
pub record IsExploringOf (rows : List Row) (o : Exploring) : Type 0 where
  pub workers : IsWorkersOf (first_of (codes "workers") rows) o.workers
  pub progress : IsSetBy (first_of (codes "progress") rows) o.progress

-- these, and the solver
pub record IsSolvingOf (rows : List Row) (o : Solving) : Type 0 where
  pub workers : IsWorkersOf (first_of (codes "workers") rows) o.workers
  pub progress : IsSetBy (first_of (codes "progress") rows) o.progress
  pub solver : IsChosenBy (first_of (codes "solver") rows) o.solver

-- these, and whether positions are printed
pub record IsExplainingOf (rows : List Row) (o : Explaining) : Type 0 where
  pub workers : IsWorkersOf (first_of (codes "workers") rows) o.workers
  pub progress : IsSetBy (first_of (codes "progress") rows) o.progress
  pub places : IsSetBy (first_of (codes "places") rows) o.places

-- the property that is named, and the files
pub record IsTranslatingOf (rows : List Row) (o : Translating) : Type 0 where
  pub property : option_map string_bytes o.property ≡ first_of (codes "property") rows
  pub files : AreWordsAt (codes "file") rows o.files

-- how games are solved, the properties, what is reported, and the files
pub record IsCheckingOf (rows : List Row) (o : Checking) : Type 0 where
  pub solving : IsSolvingOf rows o.solving
  pub properties : AreWordsAt (codes "property") rows o.properties
  pub status : IsSetBy (first_of (codes "status") rows) o.status
  pub counts : IsSetBy (first_of (codes "counts") rows) o.counts
  pub symmetry : IsSetBy (first_of (codes "symmetry") rows) o.symmetry
  pub files : AreWordsAt (codes "file") rows o.files

-- the number of workers, whether progress is printed, the property, whether lines of instances are
-- printed, and the files
pub record IsShowingOf (rows : List Row) (o : Showing) : Type 0 where
  pub workers : IsWorkersOf (first_of (codes "workers") rows) o.workers
  pub progress : IsSetBy (first_of (codes "progress") rows) o.progress
  pub property : option_map string_bytes o.property ≡ first_of (codes "property") rows
  pub lines : IsSetBy (first_of (codes "lines") rows) o.lines
  pub files : AreWordsAt (codes "file") rows o.files

-- which instances count, of a command on texts or modules
abbrev pub HasCounting : List Row → Counting → Type 0
HasCounting rows counting = IsCountingOf (first_of (codes "reached") rows) counting

-- the rule has the number that stands behind the command
abbrev pub IsRuleOf : List Row → rules.Rule → Type 0
IsRuleOf rows rule = option_and_then rule_of (first_of (codes "number") rows) ≡ Some rule

-- the usage is that of the command that is named, or of the program where none is
abbrev pub IsUsageOf : List Row → Option Command → Type 0
IsUsageOf rows topic = option_map command_name topic ≡ first_of (codes "command") rows

-- the page is the one that the words after the command name
abbrev pub IsPageOf : List Row → pages.Page → Type 0
IsPageOf rows (page.Rule rule) = IsRuleOf rows rule
IsPageOf rows (page.Usage topic) = IsUsageOf rows topic
IsPageOf rows page.Version = ⊤

-- the options of a request are what was read; those of a command that takes none are none
abbrev pub HasOptions : List Row → Request → Type 0
HasOptions rows (Page page) = IsPageOf rows page
HasOptions rows (Check o) = IsCheckingOf rows o
HasOptions rows (Input (Solve o counting)) = IsSolvingOf rows o × HasCounting rows counting
HasOptions rows (Input (Game o counting)) = IsExploringOf rows o × HasCounting rows counting
HasOptions rows (Input (Solution o counting)) = IsSolvingOf rows o × HasCounting rows counting
HasOptions rows (Input (Certificate o counting)) = IsSolvingOf rows o × HasCounting rows counting
HasOptions rows (Input (Explain o counting)) = IsExplainingOf rows o × HasCounting rows counting
HasOptions rows (Input (Compile counting)) = HasCounting rows counting
HasOptions rows (Input (Verify counting)) = HasCounting rows counting
HasOptions rows (Input (ListModule counting)) = HasCounting rows counting
HasOptions rows (Input (SolveCode o counting)) = IsSolvingOf rows o × HasCounting rows counting
HasOptions rows (Input (Translate o)) = IsTranslatingOf rows o
HasOptions rows (Input (Why o)) = IsShowingOf rows o
HasOptions rows (Input (Size o)) = IsTranslatingOf rows o
