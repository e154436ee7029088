use Rattle.std.proofs.Common.{◌≡◌, ℕ, ◌+◌, ◌-◌, drop, ap, sym, ◌∙◌, refl, arith, length}
use Rattle.std.proofs.lemmas.Bool.Decides.{nat_tests}
use Rattle.std.proofs.lemmas.Result.{IfOk-at_ok}
use Rattle.pb_text_meaning.specs.Syntax.{Operator, Term}
use Rattle.pb_protocol_packing.specs.Numbers.{either, place_of}
use Rattle.pb_protocol_packer.specs.View.{term_of, name_bytes, texts_of}
use Rattle.pb_protocol_packer.proofs.EnumeratorRows.{next-at, place-last}
use Rattle.pb_protocol_packer.proofs.enumerators.place_of.Goals as goal

pub loop-index-init : goal.loop-index-init
loop-index-init c =
    let es = c.args.enumerators.now in
    let some : length es - 1 + 1 ≡ length es = grind (arith, nat_tests) in
    c.number-term.ensures ∙ sym (place-last es (length es - 1) (length es - 1) (term_of c.args.value.now) some)

pub loop-index-preserved : goal.loop-index-preserved
loop-index-preserved c =
    let es = c.args.enumerators.now in
    let X = term_of c.args.value.now in
    let k = c.loop-index.index in
    let n = c.index-enumerators-index.result in
    let old = term_of c.loop-index.term in
    let E : Term = Term.Binary Operator.Equal X (Term.Named (name_bytes n)) in
    let back : k ≡ k - 1 + 1 = omega (arith, c.loop-index-test.true) in
    c.in_ok-term.ensures
    ∙ ap (either (term_of c.in_ok-other.condition) (term_of c.number.result)) (ap term_of c.in_ok-other.ensures.0)
    ∙ ap (λ (t : Term). either t (term_of c.number.result) old) (IfOk-at_ok _ c.in_ok-other.ensures.1 c.is_enumerator-condition.ensures)
    ∙ ap (λ (t : Term). either E t old) c.number.ensures
    ∙ ap (either E (Term.Number (k - 1))) c.loop-index.invariant
    ∙ ap (λ (j : ℕ). either E (Term.Number (k - 1)) (place_of j (texts_of (drop j es)) X)) back
    ∙ sym (next-at (λ j ns. place_of j ns X) (λ j e t. either (Term.Binary Operator.Equal X (Term.Named e)) (Term.Number j) t) (λ j e f ns. refl) (k - 1) es n
    (omega (arith, c.loop-index-test.true, c.loop-index.auto.index)) c.index-enumerators-index.is)
