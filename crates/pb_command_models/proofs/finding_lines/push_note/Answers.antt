-- The further line at its place.
use Rattle.std.proofs.Common.{◌≡◌, ◌∙◌, ◌++◌, ℕ, Bool, List, Result, Ok, Err, ap, sym, string_bytes}
use Rattle.std.specs.Prelude.{if◌then◌else◌, OnOk}
use Rattle.std.specs.Result.{is_ok}
use Rattle.pb_command_models.proofs.Notes.{note_there}
use Rattle.pb_command_models.proofs.finding_lines.push_note.Goals as goal

pushed : {E : Type 0} (r : Result (Unit {0}) E) (new old other text line : List ℕ) → new ≡ (if is_ok r then old ++ text else other) → text ≡ line → OnOk r (new ≡ old ++ line)
pushed (Ok x) new old other text line is same = is ∙ ap (λ l. old ++ l) same
pushed (Err e) new old other text line is same = tt

pub returns-in-Some : goal.returns-in-Some
returns-in-Some c =
    pushed c.push_str.result (string_bytes c.push_str.new.self) (string_bytes c.args.lines.now) _ c.deref.result.now _ c.push_str.ensures.bytes
    (c.deref.ensures ∙ sym (note_there c.args.notes.now c.args.place c.in-Some.note.now c.in-Some.ensures.lookup.3.0 c.in-Some.ensures.lookup.1))
