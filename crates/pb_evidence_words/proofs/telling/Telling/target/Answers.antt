use Rattle.std.proofs.Common.{sym, ◌∙◌, arith}
use Rattle.pb_evidence.proofs.Finding.{place_of}
use Rattle.pb_evidence_words.specs.Ready.{numbers_of}
use Rattle.pb_evidence_words.proofs.Children.{found-at}
use Rattle.pb_evidence_words.proofs.Reached.{position-is}
use Rattle.pb_evidence_words.proofs.telling.Telling.target.Goals as goal

pub returns-clause-place : goal.returns-clause-place
returns-clause-place c =
    let s = c.args.self.now.shown.now in
    let at = place_of (numbers_of s) c.args.number c.requires in
    c.place_in.ensures
    ∙ (found-at (numbers_of s) c.args.self.now.lines.places c.args.self.now.ready.ordered.places c.args.number at
    ∙ sym (position-is s.explanation.now.evidence c.args.self.now.ready.evidence c.args.number at))

pub returns-clause-within : goal.returns-clause-within
returns-clause-within c =
    let s = c.args.self.now.shown.now in
    let at = place_of (numbers_of s) c.args.number c.requires in
    let is = c.place_in.ensures ∙ found-at (numbers_of s) c.args.self.now.lines.places c.args.self.now.ready.ordered.places c.args.number at in
    omega (arith, is, at.within)
