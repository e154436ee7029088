-- What clap reads in names of files after a command: these names, in order, and no fault.
use Rattle.std.proofs.Common.{◌≡◌, ◌∙◌, Bool, true, false, List, [], ◌∷◌, ◌++◌, Option, Some, None, option_map, codes, refl, sym, ap, ap₂, subst, find, unwrap_or, is_some}
use Rattle.std.specs.Prelude.{◌==◌, ◌&&◌, ◌||◌, if◌then◌else◌, fold, option_and_then, Result, Ok, Err, IfOk}
use Rattle.std.specs.List.{list_all}
use Rattle.std.specs.Option.{option_map_or}
use Rattle.std.specs.Str.{bytes_eq}
use Rattle.std.proofs.Math.Bool.{and-false}
use Rattle.std.proofs.lemmas.List.{append_assoc, append-nil}
use Rattle.std.proofs.lemmas.Bool.{and_parts}
use Rattle.clap.specs.Faults.{built_fault, bundle_fault, check_fault, defaults_fault, entered_fault, fault_of, flag_word_fault, level_fault, other_fault, positional_fault, settle_fault, step_fault, stray_fault, turn_fault, use_fault, walk_fault}
use Rattle.clap.specs.Kinds.{or_else}
use Rattle.clap.specs.Lexer.{long_of, long_of_rest, short_of, short_of_rest, strip_byte}
use Rattle.clap.specs.Simple.{App, Shape, built, entered, filled, label_of, names_of, new_shape, rows_at, subcommand_of, with_index}
use Rattle.clap.specs.Walk.{Row, Rule, Names, Text, Held, Walk, Waiting, idle, positional, Step, trailing, value, after_step, all_of, answers_to, arg_by_id, arg_by_index, finished, long_or_other, nothing_held, plain_word, pushed, reading_by, rows_after, settled, short_or_plain, stop_after, subcommand_or_other, to_positional, used, used_by_id, walk, walk_from, walked, with_default}
use Rattle.clap.specs.declared.parser.matches.ValueSource.TheVariants.{CommandLine}
use Rattle.clap.proofs.OnLiterals.{clap_on_literals}
use Rattle.clap.proofs.SimpleLemmas.{is_false}
use Rattle.pb_command_line.specs.declared.command.Command.{Command}
use Rattle.pb_command_line.specs.declared.command.Command.TheVariants as command
use Rattle.pb_command_line.specs.declared.request.Request.{Request}
use Rattle.pb_command_line.specs.declared.request.Request.TheVariants.{Page, Check, Input}
use Rattle.pb_command_line.specs.declared.request.Task.TheVariants as task
use Rattle.pb_command_line.specs.declared.page.Page.TheVariants as page
use Rattle.pb_command_line.specs.Commands.{command_name}
use Rattle.pb_command_line.specs.Line.{command_line, files_rule}
use Rattle.pb_command_line.specs.Options.{HasOptions}
use Rattle.pb_command_line.specs.Words.{AskFor, NameFiles, TakesFiles, command_of, is_file_word, named_files}

-- ---- a word that is no option

record NoOption (word : Text) : Type 0 where
  dashes : bytes_eq word (45 ∷ 45 ∷ []) ≡ false
  long : long_of word ≡ None
  short : short_of word ≡ None

one_long : (b : Bool) → option_and_then long_of_rest (option_and_then (strip_byte 45) (if b then Some [] else None)) ≡ None
one_long true = refl
one_long false = refl

one_short : (b : Bool) → option_and_then short_of_rest (if b then Some [] else None) ≡ None
one_short true = refl
one_short false = refl

no_option : (word : Text) → is_file_word word ≡ true → NoOption word
no_option [] plain = record { dashes = refl; long = refl; short = refl }
no_option (c ∷ []) plain = record { dashes = and-false (c == 45); long = one_long (c == 45); short = one_short (c == 45) }
no_option (c ∷ d ∷ rest) plain =
    let e : (c == 45) ≡ false = is_false (c == 45) plain in
    record {
      dashes = ap (λ b. b && bytes_eq (d ∷ rest) (45 ∷ [])) e;
      long = ap (λ b. option_and_then long_of_rest (option_and_then (strip_byte 45) (if b then Some (d ∷ rest) else None))) e;
      short = ap (λ b. option_and_then short_of_rest (if b then Some (d ∷ rest) else None)) e;
    }

-- ---- the walk over files

-- the rule of files, as it is built
abbrev file : Rule
file = with_index 1 (filled files_rule)

-- the rows of the files that are used so far
abbrev file_rows : List Text → List Row
file_rows [] = []
file_rows (v ∷ vs) = record { id = codes "file"; values = v ∷ vs; count = None; source = Some CommandLine; reading = reading_by file } ∷ []

abbrev file_held : List Text → Held
file_held files = record { rows = file_rows files; pending = None; skip = 0 }

-- the walk after files, the last of which still waits for more
abbrev after_files : List Text → Text → Walk
after_files before last = record {
  held = record { rows = file_rows before; pending = Some (codes "file", last ∷ []); skip = 0 };
  waiting = positional;
  position = 1;
  is_trailing = false;
  stopped = None;
}

used_file : (before : List Text) (last : Text) → used file (last ∷ []) (file_rows before) ≡ file_rows (before ++ last ∷ [])
used_file [] last = refl
used_file (v ∷ vs) last = refl

-- a walk ends after these files
record EndsAfter (w : Walk) (files : List Text) : Type 0 where
  before : List Text
  last : Text
  is : w ≡ after_files before last
  all : before ++ last ∷ [] ≡ files

-- a command whose only positional is that of files, and which needs none of its options
record TakesNames (s : Shape) : Type 0 where
  at_first : arg_by_index s.rules 1 ≡ Some file
  by_id : arg_by_id s.rules (codes "file") ≡ Some file
  names : (v : Text) (vs : List Text) → all_of (codes "file") (fold with_default (file_rows (v ∷ vs)) s.rules) ≡ Some (v ∷ vs)
  defaults : (v : Text) (vs : List Text) → defaults_fault (file_rows (v ∷ vs)) s.rules ≡ []
  checked : (v : Text) (vs : List Text) → check_fault s (fold with_default (file_rows (v ∷ vs)) s.rules) false ≡ []
  no_names : unwrap_or (all_of (codes "file") (rows_after s.rules [] [])) [] ≡ []
  no_faults : level_fault s [] nothing_held [] false [] ≡ []

module _ (s : Shape) (takes : TakesNames s) where
  settled_file : (before : List Text) (last : Text) → settled s.rules (after_files before last).held ≡ file_held (before ++ last ∷ [])
  settled_file before last =
      ap (λ (o : Option Rule). let h : Held = record { rows = used_by_id o (last ∷ []) (file_rows before); pending = None; skip = 0 } in h) takes.by_id
      ∙ ap (λ (rows : List Row). let h : Held = record { rows = rows; pending = None; skip = 0 } in h) (used_file before last)

  -- no option: the word is a value
  is_value : (waiting : Waiting) (word : Text) (h : Held) → NoOption word → plain_word s.rules waiting word h ≡ (h, value)
      → subcommand_or_other s.rules None waiting 1 word h ≡ (h, value)
  is_value waiting word h none plain =
      ap (λ b. if b then (h, trailing 1) else long_or_other s.rules waiting word (long_of word) h) none.dashes
      ∙ (ap (λ o. long_or_other s.rules waiting word o h) none.long ∙ (ap (λ o. short_or_plain s.rules waiting word o h) none.short ∙ plain))

  first_word : (word : Text) → NoOption word → walked s.rules [] (walk_from nothing_held) word ≡ after_files [] word
  unfolding walked
  first_word word none =
      ap (λ (m : Held × Step). after_step s.rules word (walk_from nothing_held) m.0 m.1) (is_value idle word nothing_held none refl)
      ∙ ap (λ o. to_positional s.rules o word (walk_from nothing_held) nothing_held) takes.at_first

  next_word : (before : List Text) (last word : Text) → NoOption word → walked s.rules [] (after_files before last) word ≡ after_files (before ++ last ∷ []) word
  unfolding walked
  next_word before last word none =
      let w : Walk = after_files before last in
      ap (λ (m : Held × Step). after_step s.rules word w m.0 m.1) (is_value positional word w.held none refl)
      ∙ (ap (λ o. to_positional s.rules o word w w.held) takes.at_first
      ∙ ap (λ (h : Held). let next : Walk = record { held = pushed (codes "file") word h; waiting = positional; position = 1; is_trailing = false; stopped = None } in next)
      (settled_file before last))

  -- ---- its end

  rest_read : (before : List Text) (last : Text) (words : List Text) → list_all is_file_word words ≡ true
      → EndsAfter (fold (walked s.rules []) (after_files before last) words) (before ++ last ∷ words)
  rest_read before last [] plain = record { before = before; last = last; is = refl; all = refl }
  rest_read before last (word ∷ words) plain =
      let parts = and_parts (is_file_word word) (list_all is_file_word words) plain in
      let rest = rest_read (before ++ last ∷ []) word words parts.1 in
      record {
        before = rest.before;
        last = rest.last;
        is = ap (λ (w : Walk). fold (walked s.rules []) w words) (next_word before last word (no_option word parts.0)) ∙ rest.is;
        all = rest.all ∙ append_assoc before (last ∷ []) (word ∷ words);
      }

  all_read : (word : Text) (words : List Text) → list_all is_file_word (word ∷ words) ≡ true
      → EndsAfter (walk s.rules [] nothing_held (word ∷ words)) (word ∷ words)
  all_read word words plain =
      let parts = and_parts (is_file_word word) (list_all is_file_word words) plain in
      subst (λ (w : Walk). EndsAfter (fold (walked s.rules []) w words) (word ∷ words)) (sym (first_word word (no_option word parts.0))) (rest_read [] word words parts.1)

  end_held : (w : Walk) (files : List Text) → EndsAfter w files → settled s.rules w.held ≡ file_held files
  end_held w files ends = ap (λ (x : Walk). settled s.rules x.held) ends.is ∙ (settled_file ends.before ends.last ∙ ap file_held ends.all)

  names_read : (words : List Text) → list_all is_file_word words ≡ true → unwrap_or (all_of (codes "file") (rows_after s.rules [] words)) [] ≡ words
  names_read [] plain = takes.no_names
  names_read (word ∷ words) plain =
      let end : Walk = walk s.rules [] nothing_held (word ∷ words) in
      ap (λ (h : Held). unwrap_or (all_of (codes "file") (fold with_default h.rows s.rules)) []) (end_held end (word ∷ words) (all_read word words plain))
      ∙ ap (λ o. unwrap_or o []) (takes.names word words)

  -- ---- its faults

  no_word_fault : (word : Text) (h : Held) → NoOption word → other_fault s None word h ≡ []
  no_word_fault word h none =
      ap (λ b. if b then [] else flag_word_fault s.rules s.args_override_self (long_of word) word h) none.dashes
      ∙ (ap (λ o. flag_word_fault s.rules s.args_override_self o word h) none.long
      ∙ ap (λ o. option_map_or (λ flags. bundle_fault s.rules s.args_override_self flags h) o []) none.short)

  no_settle_fault : (before : List Text) (last : Text) → settle_fault s.rules s.args_override_self (after_files before last).held ≡ []
  no_settle_fault before last = ap (λ o. option_map_or (λ a. use_fault s.args_override_self a (last ∷ []) (file_rows before)) o []) takes.by_id

  first_turn : (word : Text) → NoOption word → turn_fault s [] (walk_from nothing_held) word ≡ []
  first_turn word none =
      ap₂ or_else (no_word_fault word nothing_held none)
      (ap (λ (m : Held × Step). step_fault s 1 m.0 m.1) (is_value idle word nothing_held none refl)
      ∙ ap (λ o. option_map_or (λ a. positional_fault s.rules s.args_override_self a nothing_held) o (stray_fault s)) takes.at_first)

  next_turn : (before : List Text) (last word : Text) → NoOption word → turn_fault s [] (after_files before last) word ≡ []
  next_turn before last word none =
      let h : Held = (after_files before last).held in
      ap₂ or_else (no_word_fault word h none)
      (ap (λ (m : Held × Step). step_fault s 1 m.0 m.1) (is_value positional word h none refl)
      ∙ (ap (λ o. option_map_or (λ a. positional_fault s.rules s.args_override_self a h) o (stray_fault s)) takes.at_first ∙ no_settle_fault before last))

  no_rest_fault : (before : List Text) (last : Text) (words : List Text) → list_all is_file_word words ≡ true → walk_fault s [] (after_files before last) words ≡ []
  unfolding walk_fault
  no_rest_fault before last [] plain = refl
  no_rest_fault before last (word ∷ words) plain =
      let parts = and_parts (is_file_word word) (list_all is_file_word words) plain in
      let none = no_option word parts.0 in
      ap₂ or_else (next_turn before last word none) (ap (λ (w : Walk). walk_fault s [] w words) (next_word before last word none) ∙ no_rest_fault (before ++ last ∷ []) word words parts.1)

  no_walk_fault : (word : Text) (words : List Text) → list_all is_file_word (word ∷ words) ≡ true → walk_fault s [] (walk_from nothing_held) (word ∷ words) ≡ []
  unfolding walk_fault
  no_walk_fault word words plain =
      let parts = and_parts (is_file_word word) (list_all is_file_word words) plain in
      let none = no_option word parts.0 in
      ap₂ or_else (first_turn word none) (ap (λ (w : Walk). walk_fault s [] w words) (first_word word none) ∙ no_rest_fault [] word words parts.1)

  no_level_fault : (words : List Text) → list_all is_file_word words ≡ true → level_fault s [] nothing_held words false [] ≡ []
  no_level_fault [] plain = takes.no_faults
  no_level_fault (word ∷ words) plain =
      let end : Walk = walk s.rules [] nothing_held (word ∷ words) in
      let ends : EndsAfter end (word ∷ words) = all_read word words plain in
      let rows : settled s.rules end.held ≡ file_held (word ∷ words) = end_held end (word ∷ words) ends in
      ap₂ or_else (no_walk_fault word words plain)
      (ap₂ or_else (ap (λ (w : Walk). settle_fault s.rules s.args_override_self w.held) ends.is ∙ no_settle_fault ends.before ends.last)
      (ap₂ or_else (ap (λ (h : Held). defaults_fault h.rows s.rules) rows ∙ takes.defaults word words)
      (ap (λ (h : Held). check_fault s (fold with_default h.rows s.rules) false) rows ∙ takes.checked word words)))

-- ---- the command line's walk, which stops at the command

after_stop : (c : List Rule) (names : Names) (w : Walk) (name : Text) (seen words : List Text)
    → fold (walked c names) (record w { stopped = Some (name, seen) }) words ≡ record w { stopped = Some (name, seen ++ words) }
unfolding walked
after_stop c names w name seen [] = ap (λ (l : List Text). let x : Walk = record w { stopped = Some (name, l) } in x) (sym (append-nil seen))
after_stop c names w name seen (word ∷ words) =
    after_stop c names w name (seen ++ word ∷ []) words
    ∙ ap (λ (l : List Text). let x : Walk = record w { stopped = Some (name, l) } in x) (append_assoc seen (word ∷ []) words)

no_fault_stopped : (s : Shape) (names : Names) (w : Walk) (name : Text) (seen words : List Text) → walk_fault s names (record w { stopped = Some (name, seen) }) words ≡ []
unfolding walk_fault walked
no_fault_stopped s names w name seen [] = refl
no_fault_stopped s names w name seen (word ∷ words) = no_fault_stopped s names w name (seen ++ word ∷ []) words

abbrev at_command : Text → List Text → Walk
at_command name files = record (walk_from nothing_held) { stopped = Some (name, files) }

-- an app stops at this word, which is a command's with this shape
record StopsAt (a : App) (s : Shape) (word : Text) : Type 0 where
  stops : walked a.top.rules (names_of a) (walk_from nothing_held) word ≡ at_command word []
  turn : turn_fault a.top (names_of a) (walk_from nothing_held) word ≡ []
  shape : find (λ x. answers_to word (label_of x)) a.subs ≡ Some s
  defaults : defaults_fault [] a.top.rules ≡ []
  checked : check_fault a.top (fold with_default [] a.top.rules) true ≡ []

module _ (a : App) (s : Shape) (name : Text) (at : StopsAt a s name) where
  whole_walk : (files : List Text) → walk a.top.rules (names_of a) nothing_held (name ∷ files) ≡ at_command name files
  whole_walk files = ap (λ (w : Walk). fold (walked a.top.rules (names_of a)) w files) at.stops ∙ after_stop a.top.rules (names_of a) (walk_from nothing_held) name [] files

  enters : (files : List Text) → entered a (stop_after a.top.rules (names_of a) (name ∷ files)) ≡ Some (rows_at s files)
  enters files = ap (λ (w : Walk). entered a w.stopped) (whole_walk files) ∙ ap (λ o. option_map (λ x. rows_at x files) o) at.shape

  no_fault_above : (files : List Text) → walk_fault a.top (names_of a) (walk_from nothing_held) (name ∷ files) ≡ []
  unfolding walk_fault
  no_fault_above files =
      ap₂ or_else at.turn (ap (λ (w : Walk). walk_fault a.top (names_of a) w files) at.stops ∙ no_fault_stopped a.top (names_of a) (walk_from nothing_held) name [] files)

  no_fault_in : (files : List Text) → level_fault s [] nothing_held files false [] ≡ []
      → level_fault a.top (names_of a) nothing_held (name ∷ files) true (entered_fault a (Some (name, files))) ≡ []
  no_fault_in files below =
      let walk_is = whole_walk files in
      ap₂ or_else (no_fault_above files)
      (ap₂ or_else (ap (λ o. option_map_or (λ x. level_fault x [] nothing_held files false []) o []) at.shape ∙ below)
      (ap₂ or_else (ap (λ (w : Walk). settle_fault a.top.rules a.top.args_override_self w.held) walk_is)
      (ap₂ or_else (ap (λ (w : Walk). defaults_fault (settled a.top.rules w.held).rows a.top.rules) walk_is ∙ at.defaults)
      (ap (λ (w : Walk). check_fault a.top (finished a.top.rules w.held) true) walk_is ∙ at.checked))))

  no_built_fault : (files : List Text) → level_fault s [] nothing_held files false [] ≡ [] → built_fault a nothing_held (name ∷ files) ≡ []
  no_built_fault files below =
      ap (λ (w : Walk). level_fault a.top (names_of a) nothing_held (name ∷ files) (is_some (entered a w.stopped)) (entered_fault a w.stopped)) (whole_walk files)
      ∙ (ap (λ o. level_fault a.top (names_of a) nothing_held (name ∷ files) (is_some (option_map (λ x. rows_at x files) o)) (entered_fault a (Some (name, files)))) at.shape
      ∙ no_fault_in files below)

-- ---- the commands that take files

leaf : Command → Shape
leaf command = unwrap_or (find (λ x. answers_to (command_name command) (label_of x)) (built command_line).subs) (new_shape [])

line_stops : (command : Command) → TakesFiles command → StopsAt (built command_line) (leaf command) (command_name command)
unfolding clap_on_literals leaf
line_stops command.Check takes = record { stops = refl; turn = refl; shape = refl; defaults = refl; checked = refl }
line_stops command.Why takes = record { stops = refl; turn = refl; shape = refl; defaults = refl; checked = refl }
line_stops command.Translate takes = record { stops = refl; turn = refl; shape = refl; defaults = refl; checked = refl }
line_stops command.Size takes = record { stops = refl; turn = refl; shape = refl; defaults = refl; checked = refl }
line_stops command.Solve takes = absurd takes
line_stops command.Game takes = absurd takes
line_stops command.Solution takes = absurd takes
line_stops command.Certificate takes = absurd takes
line_stops command.Explain takes = absurd takes
line_stops command.Compile takes = absurd takes
line_stops command.Verify takes = absurd takes
line_stops command.List takes = absurd takes
line_stops command.SolveCode takes = absurd takes
line_stops command.Rule takes = absurd takes
line_stops command.Usage takes = absurd takes
line_stops command.Version takes = absurd takes

line_takes : (command : Command) → TakesFiles command → TakesNames (leaf command)
unfolding clap_on_literals leaf
line_takes command.Check takes = record { at_first = refl; by_id = refl; names = λ v vs. refl; defaults = λ v vs. refl; checked = λ v vs. refl; no_names = refl; no_faults = refl }
line_takes command.Why takes = record { at_first = refl; by_id = refl; names = λ v vs. refl; defaults = λ v vs. refl; checked = λ v vs. refl; no_names = refl; no_faults = refl }
line_takes command.Translate takes = record { at_first = refl; by_id = refl; names = λ v vs. refl; defaults = λ v vs. refl; checked = λ v vs. refl; no_names = refl; no_faults = refl }
line_takes command.Size takes = record { at_first = refl; by_id = refl; names = λ v vs. refl; defaults = λ v vs. refl; checked = λ v vs. refl; no_names = refl; no_faults = refl }
line_takes command.Solve takes = absurd takes
line_takes command.Game takes = absurd takes
line_takes command.Solution takes = absurd takes
line_takes command.Certificate takes = absurd takes
line_takes command.Explain takes = absurd takes
line_takes command.Compile takes = absurd takes
line_takes command.Verify takes = absurd takes
line_takes command.List takes = absurd takes
line_takes command.SolveCode takes = absurd takes
line_takes command.Rule takes = absurd takes
line_takes command.Usage takes = absurd takes
line_takes command.Version takes = absurd takes

-- ---- what is asked

-- the name is that of a command which takes files
is_files_name : Text → Bool
is_files_name name =
    bytes_eq name (codes "check") || (bytes_eq name (codes "why") || (bytes_eq name (codes "translate") || bytes_eq name (codes "size")))

files_name : (command : Command) → TakesFiles command → is_files_name (command_name command) ≡ true
unfolding is_files_name
files_name command.Check takes = refl
files_name command.Why takes = refl
files_name command.Translate takes = refl
files_name command.Size takes = refl
files_name command.Solve takes = absurd takes
files_name command.Game takes = absurd takes
files_name command.Solution takes = absurd takes
files_name command.Certificate takes = absurd takes
files_name command.Explain takes = absurd takes
files_name command.Compile takes = absurd takes
files_name command.Verify takes = absurd takes
files_name command.List takes = absurd takes
files_name command.SolveCode takes = absurd takes
files_name command.Rule takes = absurd takes
files_name command.Usage takes = absurd takes
files_name command.Version takes = absurd takes

names_by_rows : (rows : List Row) (request : Request) → is_files_name (command_name (command_of request)) ≡ true → HasOptions rows request
    → named_files request ≡ unwrap_or (all_of (codes "file") rows) []
unfolding is_files_name
names_by_rows rows (Check o) takes has = has.files
names_by_rows rows (Input (task.Translate o)) takes has = has.files
names_by_rows rows (Input (task.Size o)) takes has = has.files
names_by_rows rows (Input (task.Why o)) takes has = has.files
names_by_rows rows (Page (page.Rule rule)) takes has = absurd (cc takes)
names_by_rows rows (Page (page.Usage topic)) takes has = absurd (cc takes)
names_by_rows rows (Page page.Version) takes has = absurd (cc takes)
names_by_rows rows (Input (task.Solve o counting)) takes has = absurd (cc takes)
names_by_rows rows (Input (task.Game o counting)) takes has = absurd (cc takes)
names_by_rows rows (Input (task.Solution o counting)) takes has = absurd (cc takes)
names_by_rows rows (Input (task.Certificate o counting)) takes has = absurd (cc takes)
names_by_rows rows (Input (task.Explain o counting)) takes has = absurd (cc takes)
names_by_rows rows (Input (task.SolveCode o counting)) takes has = absurd (cc takes)
names_by_rows rows (Input (task.Compile counting)) takes has = absurd (cc takes)
names_by_rows rows (Input (task.Verify counting)) takes has = absurd (cc takes)
names_by_rows rows (Input (task.List counting)) takes has = absurd (cc takes)

read_of : (name : Text) (command : Command) (takes : TakesFiles command) (files : List Text)
    → subcommand_of command_line (name ∷ command_name command ∷ files) ≡ Some (rows_at (leaf command) files)
read_of name command takes files = enters (built command_line) (leaf command) (command_name command) (line_stops command takes) files

leaf_name : (command : Command) → TakesFiles command → (leaf command).name ≡ command_name command
unfolding leaf
leaf_name command.Check takes = refl
leaf_name command.Why takes = refl
leaf_name command.Translate takes = refl
leaf_name command.Size takes = refl
leaf_name command.Solve takes = absurd takes
leaf_name command.Game takes = absurd takes
leaf_name command.Solution takes = absurd takes
leaf_name command.Certificate takes = absurd takes
leaf_name command.Explain takes = absurd takes
leaf_name command.Compile takes = absurd takes
leaf_name command.Verify takes = absurd takes
leaf_name command.List takes = absurd takes
leaf_name command.SolveCode takes = absurd takes
leaf_name command.Rule takes = absurd takes
leaf_name command.Usage takes = absurd takes
leaf_name command.Version takes = absurd takes

names_asked : (words files : List Text) → NameFiles words files → (request : Request) → AskFor words request → named_files request ≡ files
names_asked words files (name, command, takes, plain, is) request asked =
    let read : Some (command_name (command_of request), asked.rows) ≡ Some (rows_at (leaf command) files) =
    sym asked.read ∙ (ap (subcommand_of command_line) is ∙ read_of name command takes files) in
    let name_is : command_name (command_of request) ≡ (leaf command).name = ap (λ (o : Option (Text × List Row)). unwrap_or (option_map (λ p. p.0) o) []) read in
    let rows_are : asked.rows ≡ rows_after (leaf command).rules [] files = ap (λ (o : Option (Text × List Row)). unwrap_or (option_map (λ p. p.1) o) []) read in
    names_by_rows asked.rows request (ap is_files_name (name_is ∙ leaf_name command takes) ∙ files_name command takes) asked.options
    ∙ (ap (λ rows. unwrap_or (all_of (codes "file") rows) []) rows_are ∙ names_read (leaf command) (line_takes command takes) files plain)

-- the names after the command are read
pub named_results : {E : Type 0} (words files : List Text) → NameFiles words files → (r : Result Request E) → IfOk r (AskFor words)
    → IfOk r (λ request. named_files request ≡ files)
named_results words files named (Ok request) asked = names_asked words files named request asked
named_results words files named (Err e) asked = tt

-- and they are no fault
pub named_faultless : (words files : List Text) → NameFiles words files → fault_of command_line words ≡ []
named_faultless words files (name, command, takes, plain, is) =
    ap (fault_of command_line) is
    ∙ no_built_fault (built command_line) (leaf command) (command_name command) (line_stops command takes) files
    (no_level_fault (leaf command) (line_takes command takes) files plain)
