use Rattle.std.proofs.Common.{◌≡◌, ◌-◌, ◌<◌, ◌++◌, flat_map, string_bytes}
use Rattle.std.specs.List.{range_with_len}
use Rattle.pb_evidence_words.specs.Ready.{told_of}
use Rattle.pb_evidence_words.specs.Callers.{told_by}
use Rattle.pb_evidence_words.specs.Passing.{IsArrival}
use Rattle.pb_evidence_words.specs.WhyText.{written_text}
use Rattle.pb_evidence_words.proofs.telling.Telling.push_lines.Given as goal

abbrev pub invariant-loop-number : goal.invariant-loop-number
invariant-loop-number l =
    (string_bytes l.text ≡ string_bytes l.fn.text ++ flat_map (written_text (told_of l.self.shown.now)) (range_with_len 0 l.number))
    × (told_by l.parent.line ≡ told_of l.self.shown.now)
    × (0 < l.number → IsArrival (told_of l.self.shown.now) (l.number - 1) l.arrival)
