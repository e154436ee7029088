use Rattle.std.proofs.Common.{◌≡◌, ◌++◌, flat_map, string_bytes, take}
use Rattle.pb_evidence_words.specs.Ready.{told_of}
use Rattle.pb_evidence_words.specs.WhyText.{edge_text}
use Rattle.pb_evidence_words.proofs.caller.Caller.push_edges.Given as goal

abbrev pub invariant-loop-number : goal.invariant-loop-number
invariant-loop-number l =
    string_bytes l.text ≡ string_bytes l.fn.text
    ++ flat_map (edge_text (told_of l.self.line.telling.now.shown.now) l.self.line.number) (take l.number-index l.number-items)
