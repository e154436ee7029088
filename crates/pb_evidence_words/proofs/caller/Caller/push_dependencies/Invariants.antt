use Rattle.std.proofs.Common.{◌≡◌, ◌++◌, flat_map, string_bytes, take}
use Rattle.pb_evidence_words.specs.Ready.{told_of}
use Rattle.pb_evidence_words.specs.InstanceLines.{told_dependency}
use Rattle.pb_evidence_words.specs.WhyText.{line_instance}
use Rattle.pb_evidence_words.proofs.caller.Caller.push_dependencies.Given as goal

abbrev pub invariant-loop-number : goal.invariant-loop-number
invariant-loop-number l =
    string_bytes l.text ≡ string_bytes l.fn.text
    ++ flat_map (told_dependency (told_of l.self.line.telling.now.shown.now) (line_instance (told_of l.self.line.telling.now.shown.now) l.self.line.number)) (take l.number-index l.number-items)
