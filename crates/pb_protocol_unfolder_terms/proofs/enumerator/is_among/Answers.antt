use Rattle.std.proofs.Common.{◌∙◌, sym, ap, List, ℕ}
use Rattle.pb_text_meaning.specs.Syntax.{same_name}
use Rattle.pb_protocol_unfolder_terms.proofs.ContextLemmas.{enumerator-passed}
use Rattle.pb_protocol_unfolder_terms.proofs.enumerator.is_among.Goals as goal

pub loop-enumerator-preserved : goal.loop-enumerator-preserved
loop-enumerator-preserved c = λ n.
    c.loop-enumerator.invariant n
    ∙ enumerator-passed n c.args.name.now c.args.enumerators.now c.loop-enumerator.enumerator-index c.enumerator-item.result c.loop-enumerator-test.true c.enumerator-item.is
    (ap (λ (bs : List ℕ). same_name bs c.args.name.now) (sym c.as_str.ensures.value) ∙ sym c.eq.ensures ∙ c.if-eq.false)
