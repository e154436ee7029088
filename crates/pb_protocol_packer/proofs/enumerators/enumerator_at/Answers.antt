use Rattle.std.proofs.Common.{◌+◌, ◌-◌, ◌∙◌, ℕ, drop, ap, sym, refl, arith, ◌≡◌}
use Rattle.std.proofs.lemmas.Result.{IfOk-at_ok}
use Rattle.pb_text_meaning.specs.Syntax.{Operator, Term}
use Rattle.pb_protocol_packing.specs.Numbers.{either, enumerator_at}
use Rattle.pb_protocol_packer.specs.View.{term_of, name_bytes, texts_of}
use Rattle.pb_protocol_packer.proofs.EnumeratorRows.{next-at}
use Rattle.pb_protocol_packer.proofs.enumerators.enumerator_at.Goals as goal

pub loop-index-preserved : goal.loop-index-preserved
loop-index-preserved c =
    let es = c.args.enumerators.now in
    let X = term_of c.args.place.now in
    let k = c.loop-index.index in
    let n = c.index-enumerators-index.result in
    let old = term_of c.loop-index.term in
    let chosen = term_of c.in-Ok.chosen in
    let E : Term = Term.Binary Operator.Equal X (Term.Number (k - 1)) in
    let back : k ≡ k - 1 + 1 = omega (arith, c.loop-index-test.true) in
    c.in_ok-term-2.ensures
    ∙ ap (either (term_of c.in_ok-other.condition) chosen) (ap term_of c.in_ok-other.ensures.0)
    ∙ ap (λ (t : Term). either t chosen old) (IfOk-at_ok _ c.in_ok-other.ensures.1 c.is_number.ensures)
    ∙ ap (λ (t : Term). either E t old) c.in-Ok.ensures
    ∙ ap (either E (Term.Named (name_bytes n))) c.loop-index.invariant
    ∙ ap (λ (j : ℕ). either E (Term.Named (name_bytes n)) (enumerator_at j (texts_of (drop j es)) X)) back
    ∙ sym (next-at (λ j ns. enumerator_at j ns X) (λ j e t. either (Term.Binary Operator.Equal X (Term.Number j)) (Term.Named e) t) (λ j e f ns. refl) (k - 1) es n
    (omega (arith, c.loop-index-test.true, c.loop-index.auto.index)) c.index-enumerators-index.is)
