use Rattle.std.proofs.Common.{◌+◌, ◌-◌, ◌∙◌, ℕ, drop, ap, sym, refl, arith, ◌≡◌}
use Rattle.std.proofs.lemmas.Result.{IfOk-at_ok}
use Rattle.pb_text_meaning.specs.Syntax.{Operator, Term}
use Rattle.pb_protocol_packing.specs.Numbers.{is_one_of}
use Rattle.pb_protocol_packer.specs.View.{term_of, name_bytes, texts_of}
use Rattle.pb_protocol_packer.proofs.EnumeratorRows.{next-at}
use Rattle.pb_protocol_packer.proofs.enumerators.is_one_of.Goals as goal

pub loop-index-preserved : goal.loop-index-preserved
loop-index-preserved c =
    let es = c.args.enumerators.now in
    let X = term_of c.args.value.now in
    let k = c.loop-index.index in
    let n = c.index-enumerators-index.result in
    let old = term_of c.loop-index.term in
    let E : Term = Term.Binary Operator.Equal X (Term.Named (name_bytes n)) in
    let back : k ≡ k - 1 + 1 = omega (arith, c.loop-index-test.true) in
    c.in_ok-term-2.ensures
    ∙ ap (Term.Binary Operator.Or (term_of c.in_ok-others.test)) (ap term_of c.in_ok-others.ensures.0)
    ∙ ap (λ (t : Term). Term.Binary Operator.Or t old) (IfOk-at_ok _ c.in_ok-others.ensures.1 c.is_enumerator-in-loop-index.ensures)
    ∙ ap (Term.Binary Operator.Or E) c.loop-index.invariant
    ∙ ap (λ (j : ℕ). Term.Binary Operator.Or E (is_one_of (texts_of (drop j es)) X)) back
    ∙ sym (next-at (λ j ns. is_one_of ns X) (λ j e t. Term.Binary Operator.Or (Term.Binary Operator.Equal X (Term.Named e)) t) (λ j e f ns. refl) (k - 1) es n
    (omega (arith, c.loop-index-test.true, c.loop-index.auto.index)) c.index-enumerators-index.is)
