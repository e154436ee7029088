-- What clap makes of words: the request that it reads, or the fault that it finds.
use Rattle.std.proofs.Common.{◌≡◌, ◌∙◌, ℕ, true, false, List, [], ◌∷◌, Option, Some, None, option_map, codes, unwrap_or, refl, sym, ap, ap₂, subst, inl, inr, arith}
use Rattle.std.specs.Prelude.{Result, Ok, Err, IfOk, option_to_list}
use denote.RawPtr.{null_ptr}
use Rattle.std.specs.Global.{Box, Global, Vec}
use Rattle.std.specs.declared.string.String.{String}
use Rattle.std.specs.Box.{box_value}
use Rattle.clap.specs.Faults.{fault_of, is_simple_and_free}
use Rattle.clap.specs.Kinds.{HasKind, IsAmong}
use Rattle.clap.specs.Simple.{App, HasMatchesOf, is_simple, subcommand_of, subcommand_rows}
use Rattle.clap.specs.Matches.{found_of, subcommand_name_of}
use Rattle.clap.specs.Walk.{Row, all_of, first_of, rows_of}
use Rattle.clap.specs.Words.{kind_of}
use Rattle.clap.specs.declared.builder.value_parser.Reading.TheVariants.{AsWritten}
use Rattle.clap.specs.declared.parser.matches.ValueSource.TheVariants.{DefaultValue}
use Rattle.clap.specs.declared.error.Error.{Error}
use Rattle.clap.specs.declared.parser.matches.SubCommand.{SubCommand}
use Rattle.clap.specs.declared.parser.matches.ArgMatches.{ArgMatches}
use Rattle.clap.specs.declared.parser.matches.ArgMatches.TheViews.{out-ArgMatches, out-SubCommand}
use Rattle.clap.proofs.OnLiterals.{clap_on_literals}
use Rattle.pb_game.specs.declared.solver.Solver.TheVariants.{Zielonka}
use Rattle.pb_sorts.specs.declared.counting.Counting.TheVariants.{Declared}
use Rattle.pb_command_line.specs.declared.command.Command.{Command}
use Rattle.pb_command_line.specs.declared.command.Command.TheVariants as command
use Rattle.pb_command_line.specs.declared.request.Request.{Request}
use Rattle.pb_command_line.specs.declared.page.Page.TheVariants as page
use Rattle.pb_command_line.specs.declared.request.Request.TheVariants.{Page, Check, Input}
use Rattle.pb_command_line.specs.declared.request.Task.TheVariants as task
use Rattle.pb_command_line.specs.Line.{command_line}
use Rattle.pb_command_line.specs.Options.{HasOptions, IsChosenBy, IsCountingOf, IsSetBy, IsSolvingOf, IsWorkersOf}
use Rattle.pb_command_line.specs.declared.options.Solving.{Solving}
use Rattle.pb_command_line.specs.declared.words.Usage.{Usage}
use Rattle.pb_base.specs.OrMemory.{IfFault, OnRefused}
use Rattle.pb_base.specs.declared.or_memory.OrMemory.{OrMemory}
use Rattle.pb_base.specs.declared.or_memory.OrMemory.TheVariants.{Refused, Memory}
use Rattle.pb_command_line.specs.Commands.{command_name}
use Rattle.pb_command_line.specs.Words.{command_of, named_files, property_names, request_files, without_standard, words_error_of, AskFor, AskForSomething, AskPlainly, HaveFault, NeedsNoWord}

line_is_simple : is_simple command_line ≡ true
unfolding clap_on_literals
line_is_simple = refl

line_is_free : is_simple_and_free command_line ≡ true
unfolding clap_on_literals
line_is_free = refl

-- ---- the word of a command alone

-- clap finds no fault in the word of a command behind any name
no_fault : (name : List ℕ) (command : Command) → NeedsNoWord command → fault_of command_line (name ∷ command_name command ∷ []) ≡ []
unfolding clap_on_literals
no_fault name command.Solve alone = refl
no_fault name command.Game alone = refl
no_fault name command.Solution alone = refl
no_fault name command.Certificate alone = refl
no_fault name command.Explain alone = refl
no_fault name command.Compile alone = refl
no_fault name command.Verify alone = refl
no_fault name command.List alone = refl
no_fault name command.SolveCode alone = refl
no_fault name command.Translate alone = refl
no_fault name command.Size alone = refl
no_fault name command.Check alone = refl
no_fault name command.Why alone = refl
no_fault name command.Rule alone = absurd alone
no_fault name command.Usage alone = refl
no_fault name command.Version alone = refl

-- what it reads of an option without a word that isn't given
unset : List ℕ → Row
unset name = record { id = name; values = codes "false" ∷ []; count = None; source = Some DefaultValue; reading = AsWritten }

-- what it reads of a command's options where none stands
no_option : Command → List Row
no_option command.Solve = unset (codes "progress") ∷ unset (codes "reached") ∷ []
no_option command.Game = unset (codes "progress") ∷ unset (codes "reached") ∷ []
no_option command.Solution = unset (codes "progress") ∷ unset (codes "reached") ∷ []
no_option command.Certificate = unset (codes "progress") ∷ unset (codes "reached") ∷ []
no_option command.SolveCode = unset (codes "progress") ∷ unset (codes "reached") ∷ []
no_option command.Explain = unset (codes "progress") ∷ unset (codes "places") ∷ unset (codes "reached") ∷ []
no_option command.Compile = unset (codes "reached") ∷ []
no_option command.Verify = unset (codes "reached") ∷ []
no_option command.List = unset (codes "reached") ∷ []
no_option command.Check = unset (codes "progress") ∷ unset (codes "status") ∷ unset (codes "counts") ∷ unset (codes "symmetry") ∷ []
no_option command.Why = unset (codes "progress") ∷ unset (codes "lines") ∷ []
no_option _ = []

-- and reads that command in it, with no option
command_alone : (name : List ℕ) (command : Command) → NeedsNoWord command
    → subcommand_of command_line (name ∷ command_name command ∷ []) ≡ Some (command_name command, no_option command)
unfolding clap_on_literals no_option unset
command_alone name command.Solve alone = refl
command_alone name command.Game alone = refl
command_alone name command.Solution alone = refl
command_alone name command.Certificate alone = refl
command_alone name command.Explain alone = refl
command_alone name command.Compile alone = refl
command_alone name command.Verify alone = refl
command_alone name command.List alone = refl
command_alone name command.SolveCode alone = refl
command_alone name command.Translate alone = refl
command_alone name command.Size alone = refl
command_alone name command.Check alone = refl
command_alone name command.Why alone = refl
command_alone name command.Rule alone = absurd alone
command_alone name command.Usage alone = refl
command_alone name command.Version alone = refl

-- the request of a command alone: one worker, Zielonka's algorithm, what is declared counts, no property and nothing more
plain_solving : Solving
plain_solving = record { workers = 1; progress = false; solver = Zielonka; some = omega arith; few = omega arith }

-- no words
no_words : Vec (String Global)
no_words = record { ptr = null_ptr; len = 0; cap = 0; alloc = record { memory = record { seal = tt } }; items = []; ok = (refl, omega arith); small = omega arith }

plain_request : (command : Command) → NeedsNoWord command → Request
plain_request command.Solve alone = Input (task.Solve plain_solving Declared)
plain_request command.Game alone = Input (task.Game (record { workers = 1; progress = false; some = omega arith; few = omega arith }) Declared)
plain_request command.Solution alone = Input (task.Solution plain_solving Declared)
plain_request command.Certificate alone = Input (task.Certificate plain_solving Declared)
plain_request command.Explain alone = Input (task.Explain (record { workers = 1; progress = false; places = false; some = omega arith; few = omega arith }) Declared)
plain_request command.Compile alone = Input (task.Compile Declared)
plain_request command.Verify alone = Input (task.Verify Declared)
plain_request command.List alone = Input (task.List Declared)
plain_request command.SolveCode alone = Input (task.SolveCode plain_solving Declared)
plain_request command.Translate alone = Input (task.Translate (record { property = None; files = no_words }))
plain_request command.Size alone = Input (task.Size (record { property = None; files = no_words }))
plain_request command.Check alone = Check (record { solving = plain_solving; properties = no_words; status = false; counts = false; symmetry = false; files = no_words })
plain_request command.Why alone = Input (task.Why (record { workers = 1; progress = false; property = None; lines = false; files = no_words; some = omega arith; few = omega arith }))
plain_request command.Rule alone = absurd alone
plain_request command.Usage alone = Page (page.Usage None)
plain_request command.Version alone = Page page.Version

not_set : (word : Option (List ℕ)) → (word ≡ Some (codes "true") → ⊥) → IsSetBy word false
not_set word untold = (λ told. absurd (cc told), λ told. absurd (untold told))

declared_count : (word : Option (List ℕ)) → (word ≡ Some (codes "true") → ⊥) → IsCountingOf word Declared
declared_count word untold = (λ reached. absurd (cc reached), λ told. absurd (untold told))

not_told : {P : Type 0} → Some (codes "false") ≡ Some (codes "true") → P
not_told told = absurd (cc told)

plain_solved : (rows : List Row) → first_of (codes "workers") rows ≡ None → first_of (codes "solver") rows ≡ None
    → (first_of (codes "progress") rows ≡ Some (codes "true") → ⊥) → IsSolvingOf rows plain_solving
unfolding plain_solving
plain_solved rows no_workers no_solver untold = record {
  workers = subst (λ w. IsWorkersOf w 1) (sym no_workers) refl;
  progress = not_set _ untold;
  solver = subst (λ w. IsChosenBy w Zielonka) (sym no_solver) refl;
}

plain_read : (command : Command) (alone : NeedsNoWord command) → HasOptions (no_option command) (plain_request command alone)
unfolding plain_request no_option unset no_words
plain_read command.Solve alone = (plain_solved (unset (codes "progress") ∷ unset (codes "reached") ∷ []) refl refl not_told, declared_count _ not_told)
plain_read command.Game alone = (record { workers = refl; progress = not_set _ not_told }, declared_count _ not_told)
plain_read command.Solution alone = (plain_solved (unset (codes "progress") ∷ unset (codes "reached") ∷ []) refl refl not_told, declared_count _ not_told)
plain_read command.Certificate alone = (plain_solved (unset (codes "progress") ∷ unset (codes "reached") ∷ []) refl refl not_told, declared_count _ not_told)
plain_read command.Explain alone = (record { workers = refl; progress = not_set _ not_told; places = not_set _ not_told }, declared_count _ not_told)
plain_read command.Compile alone = declared_count _ not_told
plain_read command.Verify alone = declared_count _ not_told
plain_read command.List alone = declared_count _ not_told
plain_read command.SolveCode alone = (plain_solved (unset (codes "progress") ∷ unset (codes "reached") ∷ []) refl refl not_told, declared_count _ not_told)
plain_read command.Translate alone = record { property = refl; files = refl }
plain_read command.Size alone = record { property = refl; files = refl }
plain_read command.Check alone =
    record {
      solving = plain_solved (unset (codes "progress") ∷ unset (codes "status") ∷ unset (codes "counts") ∷ unset (codes "symmetry") ∷ []) refl refl not_told;
      properties =
          refl;
      status = not_set _ not_told;
      counts = not_set _ not_told;
      symmetry = not_set _ not_told;
      files = refl;
    }
plain_read command.Why alone = record { workers = refl; progress = not_set _ not_told; property = refl; lines = not_set _ not_told; files = refl }
plain_read command.Rule alone = absurd alone
plain_read command.Usage alone = refl
plain_read command.Version alone = tt

plain_command : (command : Command) (alone : NeedsNoWord command) → command_of (plain_request command alone) ≡ command
unfolding plain_request
plain_command command.Solve alone = refl
plain_command command.Game alone = refl
plain_command command.Solution alone = refl
plain_command command.Certificate alone = refl
plain_command command.Explain alone = refl
plain_command command.Compile alone = refl
plain_command command.Verify alone = refl
plain_command command.List alone = refl
plain_command command.SolveCode alone = refl
plain_command command.Translate alone = refl
plain_command command.Size alone = refl
plain_command command.Check alone = refl
plain_command command.Why alone = refl
plain_command command.Rule alone = absurd alone
plain_command command.Usage alone = refl
plain_command command.Version alone = refl

-- so it asks for that command by one worker
pub plain_words_ask : (words : List (List ℕ)) → AskPlainly words → AskForSomething words
plain_words_ask words (name, command, alone, is) =
    let request = plain_request command alone in
    let asked : AskFor (name ∷ command_name command ∷ []) request = record {
      faultless = no_fault name command alone;
      rows = no_option command;
      read = command_alone name command alone
          ∙ ap (λ c. Some (command_name c, no_option command)) (sym (plain_command command alone));
      options = plain_read command alone;
    } in
    (request, subst (λ ws. AskFor ws request) (sym is) asked)

-- ---- the word of a command alone names no property

-- no words after `--property`, nor after the command
abbrev NamesNone : List Row → Type 0
NamesNone rows = (first_of (codes "property") rows ≡ None) × (unwrap_or (all_of (codes "property") rows) [] ≡ []) × (unwrap_or (all_of (codes "file") rows) [] ≡ [])

none_named : (rows : List Row) (request : Request) → NamesNone rows → HasOptions rows request → property_names request ≡ []
none_named rows (Page shown) none has = refl
none_named rows (Input (task.Translate o)) none has = ap option_to_list (has.property ∙ none.0)
none_named rows (Input (task.Size o)) none has = ap option_to_list (has.property ∙ none.0)
none_named rows (Check o) none has = has.properties ∙ none.1
none_named rows (Input (task.Why o)) none has = ap option_to_list (has.property ∙ none.0)
none_named rows (Input (task.Solve o counting)) none has = refl
none_named rows (Input (task.Game o counting)) none has = refl
none_named rows (Input (task.Solution o counting)) none has = refl
none_named rows (Input (task.Certificate o counting)) none has = refl
none_named rows (Input (task.Explain o counting)) none has = refl
none_named rows (Input (task.SolveCode o counting)) none has = refl
none_named rows (Input (task.Compile counting)) none has = refl
none_named rows (Input (task.Verify counting)) none has = refl
none_named rows (Input (task.List counting)) none has = refl

no_files : (rows : List Row) (request : Request) → NamesNone rows → HasOptions rows request → named_files request ≡ []
no_files rows (Page shown) none has = refl
no_files rows (Input (task.Translate o)) none has = has.files ∙ none.2
no_files rows (Input (task.Size o)) none has = has.files ∙ none.2
no_files rows (Check o) none has = has.files ∙ none.2
no_files rows (Input (task.Why o)) none has = has.files ∙ none.2
no_files rows (Input (task.Solve o counting)) none has = refl
no_files rows (Input (task.Game o counting)) none has = refl
no_files rows (Input (task.Solution o counting)) none has = refl
no_files rows (Input (task.Certificate o counting)) none has = refl
no_files rows (Input (task.Explain o counting)) none has = refl
no_files rows (Input (task.SolveCode o counting)) none has = refl
no_files rows (Input (task.Compile counting)) none has = refl
no_files rows (Input (task.Verify counting)) none has = refl
no_files rows (Input (task.List counting)) none has = refl

no_names : (command : Command) → NeedsNoWord command → NamesNone (no_option command)
unfolding no_option unset
no_names command.Solve alone = (refl, refl, refl)
no_names command.Game alone = (refl, refl, refl)
no_names command.Solution alone = (refl, refl, refl)
no_names command.Certificate alone = (refl, refl, refl)
no_names command.Explain alone = (refl, refl, refl)
no_names command.Compile alone = (refl, refl, refl)
no_names command.Verify alone = (refl, refl, refl)
no_names command.List alone = (refl, refl, refl)
no_names command.SolveCode alone = (refl, refl, refl)
no_names command.Translate alone = (refl, refl, refl)
no_names command.Size alone = (refl, refl, refl)
no_names command.Check alone = (refl, refl, refl)
no_names command.Why alone = (refl, refl, refl)
no_names command.Rule alone = absurd alone
no_names command.Usage alone = (refl, refl, refl)
no_names command.Version alone = (refl, refl, refl)

plain_rows : (words : List (List ℕ)) (plain : AskPlainly words) (request : Request) (asked : AskFor words request) → NamesNone asked.rows
plain_rows words (name, command, alone, is) request asked =
    let read = sym asked.read ∙ ap (subcommand_of command_line) is ∙ command_alone name command alone in
    let rows_are : asked.rows ≡ no_option command = ap (λ o. unwrap_or (option_map (λ p. p.1) o) []) read in
    subst NamesNone (sym rows_are) (no_names command alone)

pub plain_results_name_none : {E : Type 0} (words : List (List ℕ)) → AskPlainly words → (r : Result Request E) → IfOk r (AskFor words)
    → IfOk r (λ request. property_names request ≡ [])
plain_results_name_none words plain (Ok request) asked = none_named asked.rows request (plain_rows words plain request asked) asked.options
plain_results_name_none words plain (Err e) asked = tt

pub plain_results_have_no_files : {E : Type 0} (words : List (List ℕ)) → AskPlainly words → (r : Result Request E) → IfOk r (AskFor words)
    → IfOk r (λ request. request_files request ≡ [])
plain_results_have_no_files words plain (Ok request) asked =
    ap without_standard (no_files asked.rows request (plain_rows words plain request asked) asked.options)
plain_results_have_no_files words plain (Err e) asked = tt

-- words that ask for something are refused for want of memory alone
pub memory_alone : {T : Type 0} (words : List (List ℕ)) (r : Result T (OrMemory Usage)) → OnRefused r (HaveFault words)
    → AskForSomething words → OnRefused r ⊥
memory_alone words (Ok x) faulty asked = tt
memory_alone words (Err Memory) faulty asked = tt
memory_alone words (Err (Refused usage)) faulty asked = faulty asked

-- ---- what clap reads

-- what clap read of a command and its options is what stands in the words
reads : (a : App) (words : List (List ℕ)) (m : ArgMatches) → a ≡ command_line → HasMatchesOf a words m
    → subcommand_rows (out-ArgMatches m).subcommand ≡ subcommand_of command_line words
reads a words m app_is has = (has (ap is_simple app_is ∙ line_is_simple)).1 ∙ ap (λ b. subcommand_of b words) app_is

-- a command's name and its options are what clap read
read_with : (found : Option (Box SubCommand)) (name : List ℕ) (rows : List Row)
    → Some name ≡ option_map (λ b. (out-SubCommand (box_value b)).name.now) found → Some rows ≡ option_map (λ p. p.1) (subcommand_rows found)
    → Some (name, rows) ≡ subcommand_rows found
read_with None name rows same_name same_rows = absurd (cc same_name)
read_with (Some b) name rows same_name same_rows =
    let name_is : name ≡ (out-SubCommand (box_value b)).name.now = cc same_name in
    let rows_are : rows ≡ rows_of (found_of (out-SubCommand (box_value b)).matches) = cc same_rows in
    ap₂ (λ (n : List ℕ) (r : List Row). Some (n, r)) name_is rows_are

pub met : (a : App) (words : List (List ℕ)) (m : ArgMatches) → a ≡ command_line → HasMatchesOf a words m → (name : List ℕ) (rows : List Row)
    → Some name ≡ subcommand_name_of m → Some rows ≡ option_map (λ p. p.1) (subcommand_rows (out-ArgMatches m).subcommand)
    → Some (name, rows) ≡ subcommand_of command_line words
met a words m app_is has name rows same_name same_rows =
    read_with (out-ArgMatches m).subcommand name rows same_name same_rows ∙ reads a words m app_is has

-- ---- the faults that clap finds

pub clap_takes : (a : App) (words : List (List ℕ)) → a ≡ command_line → (is_simple_and_free a ≡ true → fault_of a words ≡ [])
    → fault_of command_line words ≡ []
clap_takes a words app_is none = ap (λ b. fault_of b words) (sym app_is) ∙ none (ap is_simple_and_free app_is ∙ line_is_free)

on_fault : {F : Type 0} (e : OrMemory F) {P : Type 0} → P → IfFault e (λ _. P)
on_fault (Refused fault) p = p
on_fault Memory p = tt

pub clap_refuses : (a : App) (words : List (List ℕ)) (error : Error) → a ≡ command_line → (is_simple_and_free a ≡ true → HasKind (fault_of a words) error)
    → IfFault (words_error_of (kind_of error)) (λ _. HaveFault words)
clap_refuses a words error app_is fails = elim (fails (ap is_simple_and_free app_is ∙ line_is_free)) [
  | inl memory ↦ subst (λ e. IfFault e (λ _. HaveFault words)) (ap words_error_of (sym memory)) tt
  | inr among ↦ on_fault (words_error_of (kind_of error)) (λ asked.
      subst (IsAmong (kind_of error)) (ap (λ b. fault_of b words) app_is ∙ asked.1.faultless) among)
]

-- ---- from what clap reads to what is asked

module _ (words : List (List ℕ)) (name : List ℕ) (rows : List Row) (read : Some (name, rows) ≡ subcommand_of command_line words) where
  pub asks : {E : Type 0} (command : Command) → fault_of command_line words ≡ [] → name ≡ command_name command → (r : Result Request E)
      → IfOk r (λ request. command_of request ≡ command) → IfOk r (HasOptions rows) → IfOk r (AskFor words)
  asks command faultless named (Ok request) same has = record {
    faultless = faultless;
    rows = rows;
    read = sym read ∙ ap (λ (n : List ℕ). Some (n, rows)) (named ∙ ap command_name (sym same));
    options = has;
  }
  asks command faultless named (Err e) same has = tt

  name_of : (o : Option (List ℕ × List Row)) → List ℕ
  name_of o = unwrap_or (option_map (λ p. p.0) o) []

  -- what is asked for has that name, and those rows
  asked_name : (request : Request) → AskFor words request → name ≡ command_name (command_of request)
  unfolding name_of
  asked_name request asked = ap name_of (read ∙ asked.read)

  asked_rows : (request : Request) (asked : AskFor words request) → asked.rows ≡ rows
  asked_rows request asked = sym (ap (λ (o : Option (List ℕ × List Row)). unwrap_or (option_map (λ p. p.1) o) []) (read ∙ asked.read))

  -- where no options can be read, nothing is asked for
  pub unread : {T : Type 0} (command : Command) → ((other : Command) → name ≡ command_name other → Some command ≡ Some other) → (r : Result T (OrMemory Usage))
      → OnRefused r ((request : Request) → command_of request ≡ command → HasOptions rows request → ⊥) → OnRefused r (HaveFault words)
  unread command every (Ok x) none = tt
  unread command every (Err Memory) none = tt
  unread command every (Err (Refused usage)) none = λ (request, asked).
      let same : command_of request ≡ command = cc (every (command_of request) (asked_name request asked)) in
      none request same (subst (λ rs. HasOptions rs request) (asked_rows request asked) asked.options)

  -- nor where the name is no command's
  pub unnamed : ((other : Command) → name ≡ command_name other → None ≡ Some other) → (e : OrMemory Usage) → IfFault e (λ _. HaveFault words)
  unnamed none e = on_fault e (λ (request, asked). absurd (cc (none (command_of request) (asked_name request asked))))
