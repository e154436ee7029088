use Rattle.std.proofs.Common.{◌≡◌, ◌∙◌, ◌<◌, List, length, ap, arith, Some}
use Rattle.std.specs.Prelude.{box_value}
use Rattle.std.specs.List.{slice_get}
use Rattle.pb_text_tree.specs.declared.term.Term.{Term}
use Rattle.pb_text_tree.specs.declared.term.ArithmeticLink.{ArithmeticLink}
use Rattle.pb_text_tree.specs.Form.{term_form}
use Rattle.pb_protocol_typing.specs.Written.{Written, written}
use Rattle.pb_protocol_typing.specs.Indices.{computed_term}
use Rattle.pb_protocol_typing.specs.View.{written_of}
use Rattle.pb_protocol_typing.proofs.IndexRows.{chain-other, chain-same, arithmetic-same, arithmetic-other, arithmetic-one}
use Rattle.pb_protocol_typing.proofs.index.+index_term.Goals as goal

pub returns-in-Some : goal.returns-in-Some
returns-in-Some t c = chain-other c.in-Chain.links c.in-Chain.is c.deref.ensures.value c.in-Some.ensures.value

pub returns-in-None : goal.returns-in-None
returns-in-None t c = c.index_term.ensures ∙ chain-same c.in-Chain.links c.in-Chain.is c.deref-in-None.ensures c.deref.ensures.value c.in-None.ensures.value

pub returns-then-len-gt1 : goal.returns-then-len-gt1
returns-then-len-gt1 t c =
    let many : 1 < length c.in-Arithmetic.links.items = omega (arith, c.if-len-gt1.true, c.len.ensures, c.in-Arithmetic.links.ok.0) in
    arithmetic-other c.in-Arithmetic.links c.in-Arithmetic.is many

pub returns-else-len-gt1 : goal.returns-else-len-gt1
returns-else-len-gt1 t c =
    let n = c.in-Arithmetic in
    let x = box_value n.first in
    let link = c.in-Some-first.link.now in
    let some : Some link ≡ slice_get n.links.items 0 = c.in-Some-first.ensures.value ∙ ap (λ (ks : List ArithmeticLink). slice_get ks 0) c.deref-in-Arithmetic.ensures.value in
    let left : written_of c.as_written.result ≡ written (term_form x) = c.as_written.ensures ∙ ap (λ (u : Term). written (term_form u)) c.deref-in-Some-first.ensures in
    c.computed_term.ensures
    ∙ (ap (λ (v : Written). computed_term link.operator v (written_of c.as_written-in-Some-first.result)) left
    ∙ (ap (computed_term link.operator (written (term_form x))) c.as_written-in-Some-first.ensures
    ∙ arithmetic-one n.links n.is some (λ (h : 1 < length n.links.items). omega (arith, h, c.if-len-gt1.false, c.len.ensures, n.links.ok.0))))

pub returns-in-None-first : goal.returns-in-None-first
returns-in-None-first t c =
    c.index_term-in-None-first.ensures ∙ arithmetic-same c.in-Arithmetic.links c.in-Arithmetic.is c.deref-in-None-first.ensures c.deref-in-Arithmetic.ensures.value c.in-None-first.ensures.value
