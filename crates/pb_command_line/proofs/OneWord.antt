-- What clap makes of a program's name and one word, or none: it reads a command exactly where the word is the command's.
use Rattle.std.proofs.Common.{◌≡◌, ◌∙◌, Bool, true, false, List, [], ◌∷◌, Option, Some, None, option_map, IfSome, refl, sym, ap, suc, length, arith}
use Rattle.std.specs.Prelude.{⊤, find, if◌then◌else◌, Result, Ok, Err, IfOk}
use Rattle.std.specs.List.{list_all}
use Rattle.std.specs.Str.{bytes_eq}
use Rattle.std.proofs.lemmas.Slice.Eq.{bytes_eq-Decides}
use Rattle.std.proofs.lemmas.Bool.{and_parts, eqb-true}
use Rattle.clap.specs.Simple.{App, Shape, built, entered, names_of, label_of, rows_at, subcommand_of}
use Rattle.clap.specs.Walk.{Rule, Names, Text, Held, Walk, idle, Step, next, trailing, subcommand, value, Outcome, done, waits, plain, refused, answers_to, after_step, after_flag, arg_by_index, is_empty, long_or_other, nothing_held, short_or_plain, subcommand_or_other, to_positional, walk_from, walked}
use Rattle.clap.specs.Lexer.{long_of, short_of}
use Rattle.clap.proofs.SimpleLemmas.{label_first}
use Rattle.clap.proofs.OnLiterals.{clap_on_literals}
use Rattle.pb_command_line.specs.declared.command.Command.{Command}
use Rattle.pb_command_line.specs.declared.request.Request.{Request}
use Rattle.pb_command_line.specs.Line.{command_line}
use Rattle.pb_command_line.specs.Commands.{command_name}
use Rattle.pb_command_line.specs.Words.{command_of, AskFor, AskNothing}

-- clap reads this command in the words, the first of which is the program's name
abbrev Asks : List Text → Command → Type 0
Asks words command = option_map (λ p. p.0) (subcommand_of command_line words) ≡ Some (command_name command)

-- ---- names without aliases

abbrev are_plain : Names → Bool
are_plain names = list_all (λ s. is_empty s.1) names

-- what is found by a word has that word as its name
found_by_name : (word : Text) (names : Names) → are_plain names ≡ true → IfSome (find (answers_to word) names) (λ s. s.0 ≡ word)
found_by_name word [] alone = tt
found_by_name word ((name, []) ∷ names) alone = go (bytes_eq name word) refl (found_by_name word names alone)
  where
    go : (b : Bool) → bytes_eq name word ≡ b → IfSome (find (answers_to word) names) (λ s. s.0 ≡ word)
        → IfSome (find (answers_to word) ((name, []) ∷ names)) (λ s. s.0 ≡ word)
    go true e rest = rw e ((bytes_eq-Decides name word).0 e)
    go false e rest = rw e rest
found_by_name word ((name, alias ∷ aliases) ∷ names) alone =
    let none : suc (length aliases) ≡ 0 = eqb-true (length (alias ∷ aliases)) 0 (and_parts (is_empty (alias ∷ aliases)) (are_plain names) alone).0 in
    absurd (omega arith)

-- ---- one word

abbrev IsNoCommand : Step → Type 0
IsNoCommand (next w) = ⊤
IsNoCommand (trailing p) = ⊤
IsNoCommand (subcommand name) = ⊥
IsNoCommand value = ⊤

module _ (c : List Rule) (word : Text) where
  flag_no_command : (h : Held) (o : Outcome) → IsNoCommand (after_flag c idle word h o).1
  flag_no_command h done = tt
  flag_no_command h (waits id) = tt
  flag_no_command h plain = tt
  flag_no_command h refused = tt

  short_no_command : (h : Held) (o : Option Text) → IsNoCommand (short_or_plain c idle word o h).1
  short_no_command h (Some flags) = flag_no_command _ _
  short_no_command h None = tt

  long_no_command : (h : Held) (o : Option (Text × Option Text)) → IsNoCommand (long_or_other c idle word o h).1
  long_no_command h (Some p) = flag_no_command _ _
  long_no_command h None = short_no_command h (short_of word)

  positional_stays : (w : Walk) (h : Held) (o : Option Rule) → w.stopped ≡ None → (to_positional c o word w h).stopped ≡ None
  positional_stays w h None e = e
  positional_stays w h (Some a) e = refl

  -- a word that is no command doesn't end the walk
  stays : (w : Walk) (h : Held) (s : Step) → IsNoCommand s → w.stopped ≡ None → (after_step c word w h s).stopped ≡ None
  stays w h (next v) other e = e
  stays w h (trailing p) other e = e
  stays w h (subcommand name) other e = absurd other
  stays w h value other e = positional_stays w h (arg_by_index c w.position) e

  met_or_not : (o : Option (Text × List Text)) → (after_step c word (walk_from nothing_held)
      (subcommand_or_other c (option_map (λ s. s.0) o) idle 1 word nothing_held).0
      (subcommand_or_other c (option_map (λ s. s.0) o) idle 1 word nothing_held).1).stopped ≡ option_map (λ n. (n, [])) (option_map (λ s. s.0) o)
  met_or_not (Some s) = refl
  met_or_not None = go (bytes_eq word (45 ∷ 45 ∷ []))
    where
      go : (b : Bool) → (after_step c word (walk_from nothing_held)
          (if b then (nothing_held, trailing 1) else long_or_other c idle word (long_of word) nothing_held).0
          (if b then (nothing_held, trailing 1) else long_or_other c idle word (long_of word) nothing_held).1).stopped ≡ None
      go true = refl
      go false = stays (walk_from nothing_held) _ _ (long_no_command nothing_held (long_of word)) refl

-- the walk over one word stops at the command that answers to it
one_word : (c : List Rule) (names : Names) (word : Text)
    → (walked c names (walk_from nothing_held) word).stopped ≡ option_map (λ n. (n, [])) (option_map (λ s. s.0) (find (answers_to word) names))
unfolding walked
one_word c names word = met_or_not c word (find (answers_to word) names)

-- ---- the command that is entered

rows_name : (o : Option Shape) (words : List Text) → option_map (λ p. p.0) (option_map (λ s. rows_at s words) o) ≡ option_map (λ s. s.name) o
rows_name None words = refl
rows_name (Some s) words = refl

by_name : (o : Option (Text × List Text)) (word name : Text) → IfSome o (λ s. s.0 ≡ word) → option_map (λ s. s.0) o ≡ Some name → name ≡ word
by_name None word name is e = absurd (cc e)
by_name (Some s) word name is e = let same : s.0 ≡ name = cc e in sym same ∙ is

entered_by_name : (a : App) (word name : Text) (o : Option (Text × List Text)) → are_plain (names_of a) ≡ true → IfSome o (λ s. s.0 ≡ word)
    → option_map (λ p. p.0) (entered a (option_map (λ n. (n, [])) (option_map (λ s. s.0) o))) ≡ Some name → name ≡ word
entered_by_name a word name None alone is e = absurd (cc e)
entered_by_name a word name (Some s) alone is e =
    by_name (find (answers_to s.0) (names_of a)) s.0 name (found_by_name s.0 (names_of a) alone)
    (sym (label_first s.0 a.subs) ∙ (sym (rows_name (find (λ x. answers_to s.0 (label_of x)) a.subs) []) ∙ e))
    ∙ is

line_is_plain : are_plain (names_of (built command_line)) ≡ true
unfolding clap_on_literals
line_is_plain = refl

-- the command that clap reads in one word is that of the word
asked_by_name : (name word : Text) (command : Command) → Asks (name ∷ word ∷ []) command → command_name command ≡ word
asked_by_name name word command asks =
    let line = built command_line in
    let names = names_of line in
    entered_by_name line word (command_name command) (find (answers_to word) names) line_is_plain (found_by_name word names line_is_plain)
    (sym (ap (λ x. option_map (λ p. p.0) (entered line x)) (one_word line.top.rules names word)) ∙ asks)

-- words that ask for nothing ask for no command
nothing_is_asked : (words : List Text) (command : Command) → AskNothing words → Asks words command → ⊥
nothing_is_asked [] command nothing asks = absurd (cc asks)
nothing_is_asked (name ∷ []) command nothing asks = absurd (cc asks)
nothing_is_asked (name ∷ word ∷ []) command nothing asks = nothing command (sym (asked_by_name name word command asks))
nothing_is_asked (name ∷ word ∷ other ∷ more) command nothing asks = nothing

-- and are no request
pub no_request : {E : Type 0} (words : List Text) → AskNothing words → (r : Result Request E) → IfOk r (AskFor words) → IfOk r (λ request. ⊥)
no_request words nothing (Ok request) asked = nothing_is_asked words (command_of request) nothing (ap (option_map (λ p. p.0)) asked.read)
no_request words nothing (Err e) asked = tt
