-- What the words of the command line ask.
use Rattle.std.specs.Prelude.{◌≡◌, ◌≢◌, ◌==◌, ⊤, ℕ, Bool, false, true, not, List, [], ◌∷◌, Some, codes, if◌then◌else◌, map, option_map, option_to_list, string_bytes}
use Rattle.std.specs.List.{list_all}
use Rattle.std.specs.Str.{bytes_eq}
use Rattle.clap.specs.declared.error.kind.ErrorKind.{ErrorKind}
use Rattle.clap.specs.declared.error.kind.ErrorKind.TheVariants.{OutOfMemory}
use Rattle.clap.specs.Faults.{fault_of}
use Rattle.clap.specs.Simple.{subcommand_of}
use Rattle.clap.specs.Walk.{Row}
use Rattle.pb_command_line.specs.declared.command.Command.{Command}
use Rattle.pb_command_line.specs.declared.command.Command.TheVariants as command
use Rattle.pb_command_line.specs.declared.request.Request.{Request}
use Rattle.pb_command_line.specs.declared.request.Request.TheVariants.{Page, Check, Input}
use Rattle.pb_command_line.specs.declared.page.Page as pages
use Rattle.pb_command_line.specs.declared.page.Page.TheVariants as page
use Rattle.pb_command_line.specs.declared.request.Task.{Task}
use Rattle.pb_command_line.specs.declared.request.Task.TheVariants.{Solve, Game, Solution, Certificate, Explain, Compile, Verify, List as ListModule, SolveCode, Translate, Why, Size}
use Rattle.pb_command_line.specs.declared.words.Usage.{Usage}
use Rattle.pb_command_line.specs.Commands.{command_name}
use Rattle.pb_command_line.specs.Line.{command_line}
use Rattle.pb_command_line.specs.Options.{HasOptions}
use Rattle.pb_base.specs.declared.or_memory.OrMemory.{OrMemory}
use Rattle.pb_base.specs.declared.or_memory.OrMemory.TheVariants.{Refused, Memory}

-- every error of the words but want of memory is one of usage
abbrev pub words_error_of : ErrorKind → OrMemory Usage
words_error_of OutOfMemory = Memory
words_error_of _ = Refused (record {})

-- the command of a task
abbrev pub command_of_task : Task → Command
command_of_task (Solve o counting) = command.Solve
command_of_task (Game o counting) = command.Game
command_of_task (Solution o counting) = command.Solution
command_of_task (Certificate o counting) = command.Certificate
command_of_task (Explain o counting) = command.Explain
command_of_task (Compile counting) = command.Compile
command_of_task (Verify counting) = command.Verify
command_of_task (ListModule counting) = command.List
command_of_task (SolveCode o counting) = command.SolveCode
command_of_task (Translate o) = command.Translate
command_of_task (Why o) = command.Why
command_of_task (Size o) = command.Size

-- the command of a page
abbrev pub command_of_page : pages.Page → Command
command_of_page (page.Rule rule) = command.Rule
command_of_page (page.Usage topic) = command.Usage
command_of_page page.Version = command.Version

-- the command of a request
abbrev pub command_of : Request → Command
command_of (Page page) = command_of_page page
command_of (Check o) = command.Check
command_of (Input task) = command_of_task task

-- the names of the properties that a task asks for
abbrev pub task_names : Task → List (List ℕ)
task_names (Translate o) = option_to_list (option_map string_bytes o.property)
task_names (Why o) = option_to_list (option_map string_bytes o.property)
task_names (Size o) = option_to_list (option_map string_bytes o.property)
task_names _ = []

-- and of a request
abbrev pub property_names : Request → List (List ℕ)
property_names (Page page) = []
property_names (Check o) = map string_bytes o.properties.items
property_names (Input task) = task_names task

-- whether progress is printed
abbrev pub task_shows_progress : Task → Bool
task_shows_progress (Solve o counting) = o.progress
task_shows_progress (Game o counting) = o.progress
task_shows_progress (Solution o counting) = o.progress
task_shows_progress (Certificate o counting) = o.progress
task_shows_progress (Explain o counting) = o.progress
task_shows_progress (Compile counting) = false
task_shows_progress (Verify counting) = false
task_shows_progress (ListModule counting) = false
task_shows_progress (SolveCode o counting) = o.progress
task_shows_progress (Translate o) = false
task_shows_progress (Why o) = o.progress
task_shows_progress (Size o) = false

abbrev pub shows_progress : Request → Bool
shows_progress (Page page) = false
shows_progress (Check o) = o.solving.progress
shows_progress (Input task) = task_shows_progress task

-- the files that the words name
abbrev pub named_files : Request → List (List ℕ)
named_files (Check o) = map string_bytes o.files.items
named_files (Input (Translate o)) = map string_bytes o.files.items
named_files (Input (Why o)) = map string_bytes o.files.items
named_files (Input (Size o)) = map string_bytes o.files.items
named_files _ = []

-- `-` alone is standard input, as no name is
abbrev pub without_standard : List (List ℕ) → List (List ℕ)
without_standard (name ∷ []) = if bytes_eq name (codes "-") then [] else name ∷ []
without_standard names = names

-- the files that are read for a request; where there are none, standard input is
abbrev pub request_files : Request → List (List ℕ)
request_files request = without_standard (named_files request)

-- the words, the first of which is the program's name, ask for this: clap finds no fault in them,
-- and what it reads is the request's command with its options
pub record AskFor (words : List (List ℕ)) (request : Request) : Type 0 where
  pub faultless : fault_of command_line words ≡ []
  pub rows : List Row
  pub read : subcommand_of command_line words ≡ Some (command_name (command_of request), rows)
  pub options : HasOptions rows request

abbrev pub AskForSomething : List (List ℕ) → Type 0
AskForSomething words = (request : Request) × AskFor words request

-- U01: the words have a fault: there is nothing for which they ask
abbrev pub HaveFault : List (List ℕ) → Type 0
HaveFault words = ¬ AskForSomething words

-- a command that needs no word behind it
abbrev pub NeedsNoWord : Command → Type 0
NeedsNoWord command.Rule = ⊥
NeedsNoWord _ = ⊤

-- behind the program's name stands one word, that of a command that needs no other
abbrev pub AskPlainly : List (List ℕ) → Type 0
AskPlainly words =
    (name : List ℕ) × (command : Command) × NeedsNoWord command
    × (words ≡ name ∷ command_name command ∷ [])

-- a command that takes files
abbrev pub TakesFiles : Command → Type 0
TakesFiles command.Check = ⊤
TakesFiles command.Why = ⊤
TakesFiles command.Translate = ⊤
TakesFiles command.Size = ⊤
TakesFiles _ = ⊥

-- a word that is no option: it doesn't begin with a dash (45), or is the dash alone
abbrev pub is_file_word : List ℕ → Bool
is_file_word [] = true
is_file_word (c ∷ []) = true
is_file_word (c ∷ d ∷ rest) = not (c == 45)

-- the program's name, then that of a command that takes files, then these files
abbrev pub NameFiles : List (List ℕ) → List (List ℕ) → Type 0
NameFiles words files =
    (name : List ℕ) × (command : Command) × TakesFiles command
    × (list_all is_file_word files ≡ true) × (words ≡ name ∷ command_name command ∷ files)

-- behind the program's name stands nothing, or one word that is no command's
abbrev pub AskNothing : List (List ℕ) → Type 0
AskNothing [] = ⊤
AskNothing (name ∷ []) = ⊤
AskNothing (name ∷ word ∷ []) = (command : Command) → word ≢ command_name command
AskNothing (name ∷ word ∷ other ∷ more) = ⊥
