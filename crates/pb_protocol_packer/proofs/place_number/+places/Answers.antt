use Rattle.std.proofs.Common.{◌≡◌, ◌∙◌, ap, sym, refl, inr, true, length, arith, List}
use Rattle.std.specs.Prelude.{codes}
use Rattle.pb_text_tree.specs.declared.term.Argument.{Argument}
use Rattle.pb_text_meaning.specs.Syntax.{same_name}
use Rattle.pb_protocol_packing.specs.Numbers.{place_of, place_number}
use Rattle.pb_protocol_packer.specs.View.{terms_of, name_bytes, texts_of, chosen_place}
use Rattle.pb_protocol_packer.proofs.Nodes.{at-application, says-so}
use Rattle.pb_protocol_packer.proofs.Tokens.{alone, alone-computed, chain-as, computed-as, place-choice, place-no-choice}
use Rattle.pb_protocol_packer.proofs.place_number.+places.Goals as goal

pub place_number-returns-in-Some : goal.place_number-returns-in-Some
place_number-returns-in-Some t c =
    says-so c.place_of.result _ _
    (chain-as (place_of 0 (texts_of c.args.enumerators.now)) (place_number (texts_of c.args.enumerators.now)) (λ o x y. refl)
    c.in-Chain.connective c.in-Chain.first c.in-Chain.links c.deref.result.now c.in-Some.field-0.now c.args.term.now c.in-Chain.is c.deref.ensures.value c.in-Some.ensures.value)
    c.place_of.ensures

pub place_number-returns-in-None : goal.place_number-returns-in-None
place_number-returns-in-None t c =
    says-so c.place_number.result _ _
    (ap (place_number (texts_of c.args.enumerators.now))
    (sym (alone c.in-Chain.connective c.deref-in-None.result.now c.in-Chain.first c.in-Chain.links
    c.deref.result.now c.args.term.now c.in-Chain.is c.deref-in-None.ensures c.deref.ensures.value c.in-None.ensures.value)))
    c.place_number.ensures

pub place_number-returns-in-Some-first : goal.place_number-returns-in-Some-first
place_number-returns-in-Some-first t c =
    says-so c.place_of-in-Some-first.result _ _
    (computed-as (place_of 0 (texts_of c.args.enumerators.now)) (place_number (texts_of c.args.enumerators.now)) (λ o x y. refl)
    c.in-Arithmetic.first c.in-Arithmetic.links c.deref-in-Arithmetic.result.now c.in-Some-first.field-0.now
    c.args.term.now c.in-Arithmetic.is c.deref-in-Arithmetic.ensures.value c.in-Some-first.ensures.value)
    c.place_of-in-Some-first.ensures

pub place_number-returns-in-None-first : goal.place_number-returns-in-None-first
place_number-returns-in-None-first t c =
    says-so c.place_number-in-None-first.result _ _
    (ap (place_number (texts_of c.args.enumerators.now))
    (sym (alone-computed c.deref-in-None-first.result.now c.in-Arithmetic.first c.in-Arithmetic.links
    c.deref-in-Arithmetic.result.now c.args.term.now c.in-Arithmetic.is c.deref-in-None-first.ensures
    c.deref-in-Arithmetic.ensures.value c.in-None-first.ensures.value)))
    c.place_number-in-None-first.ensures

pub place_number-returns-then-len-ne3 : goal.place_number-returns-then-len-ne3
place_number-returns-then-len-ne3 t c =
    let f = c.in-Application.function in
    let v = c.in-Application.arguments in
    let is = at-application f v v.items c.args.term.now c.in-Application.is refl in
    let other : length v.items ≡ 3 → ⊥ = λ e. omega (arith, e, c.if-len-ne3.true, c.len.ensures, v.ok.0) in
    says-so c.place_of-then-len-ne3.result _ _
    (ap (place_of 0 (texts_of c.args.enumerators.now)) is ∙ place-no-choice (texts_of c.args.enumerators.now) (name_bytes f) v.items (inr other)
    ∙ ap (place_number (texts_of c.args.enumerators.now)) (sym is))
    c.place_of-then-len-ne3.ensures

pub place_number-returns-else-len-ne3 : goal.place_number-returns-else-len-ne3
place_number-returns-else-len-ne3 t c =
    let f = c.in-Application.function in
    let v = c.in-Application.arguments in
    let chooses : same_name (name_bytes f) (codes "if") ≡ true = sym c.is_choice.ensures ∙ c.if-not-is_choice.false in
    let three : length v.items ≡ 3 = omega (arith, c.if-len-ne3.false, c.len.ensures, v.ok.0) in
    says-so c.chosen_place.result _ _
    (ap (λ (xs : List Argument). chosen_place (texts_of c.args.enumerators.now) (terms_of xs)) c.deref-in-Application.ensures.value
    ∙ place-choice (texts_of c.args.enumerators.now) (name_bytes f) v.items chooses three
    ∙ ap (place_number (texts_of c.args.enumerators.now)) (sym (at-application f v v.items c.args.term.now c.in-Application.is refl)))
    c.chosen_place.ensures
