use Rattle.std.proofs.Common.{◌==◌, ◌-◌, ◌<◌, ℕ, sym, ap, ◌∙◌, arith}
use Rattle.pb_evidence_words.specs.Callers.{told_by}
use Rattle.pb_evidence_words.proofs.LeftOut.{origin-here, origin-on}
use Rattle.pb_evidence_words.proofs.ParentRead.{parent-read}
use Rattle.pb_evidence_words.proofs.line.Line.arrival.Goals as goal

pub returns-then-last : goal.returns-then-last
returns-then-last c =
    let k = c.args.self.now.number in
    let later : 0 < k = omega (arith, c.if-self-eq0.false) in
    let last = c.requires.last later in
    let on = origin-on (told_by c.args.self.now) k later (sym last.passes ∙ c.if-last.true) in
    record { origin = last.origin ∙ sym on.0; follows = last.follows ∙ sym on.1; passes = c.in_ok-passes.ensures }

pub returns : goal.returns
returns c =
    let line = c.args.self.now in
    let k = line.number in
    let later : 0 < k = omega (arith, c.if-self-eq0.false) in
    let last = c.requires.last later in
    let here = origin-here (told_by line) k later (sym last.passes ∙ c.if-last.false) in
    let read = parent-read line.telling.now k line.inside c.index-origin.result.now c.index-origin.ensures in
    record { origin = read ∙ sym here.0; follows = ap (λ (p : ℕ). p == (k - 1)) read ∙ sym here.1; passes = c.in_ok-passes.ensures }
