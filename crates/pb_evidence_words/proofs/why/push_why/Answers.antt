use Rattle.std.proofs.Common.{◌≡◌, ◌++◌, string_bytes, subst}
use Rattle.std.specs.Prelude.{OnOk}
use Rattle.pb_evidence_words.specs.declared.shown.Shown.{Shown}
use Rattle.pb_evidence_words.specs.Ready.{told_of}
use Rattle.pb_evidence_words.specs.WhyText.{why_lines}
use Rattle.pb_evidence_words.proofs.Told.{told-for}
use Rattle.pb_evidence_words.proofs.why.push_why.Goals as goal

pub returns : goal.returns
returns c =
    let s0 = string_bytes c.args.text.now in
    let s1 = string_bytes c.push_lines.new.text in
    told-for why_lines c.push_lines.result c.args.shown.now c.requires.explanation s0 s1
    (subst (λ (x : Shown). OnOk c.push_lines.result (s1 ≡ s0 ++ why_lines (told_of x))) c.in_ok-telling.ensures.shown c.push_lines.ensures)
