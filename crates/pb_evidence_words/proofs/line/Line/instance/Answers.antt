use Rattle.std.proofs.Common.{◌<◌, ◌∙◌, sym, subst}
use Rattle.std.proofs.lemmas.Grind.{get_or_default_zero}
use Rattle.pb_sorts.specs.Layout.{count_of}
use Rattle.pb_bytecode.specs.Meaning.{parameters}
use Rattle.pb_evidence_words.specs.Ready.{numbers_of}
use Rattle.pb_evidence_words.proofs.line.Line.instance.Goals as goal

pub instance-requires : goal.instance-requires
instance-requires c =
    let line = c.args.self.now in
    let telling = line.telling.now in
    subst (λ n. n < count_of (parameters telling.shown.now.verified.now))
    (sym (c.index.ensures ∙ get_or_default_zero (numbers_of telling.shown.now) line.number c.index.result.now line.inside))
    (telling.ready.below line.number line.inside)
