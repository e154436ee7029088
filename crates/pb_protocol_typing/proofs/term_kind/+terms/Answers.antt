use Rattle.std.proofs.Common.{◌≡◌, ◌∙◌, rules, sym, ap}
use Rattle.pb_text_tree.specs.Form.{argument_forms}
use Rattle.pb_protocol_typing.specs.Functions.{Called, called, called_kind, second_kind}
use Rattle.pb_protocol_typing.specs.declared.kind.Kind.TheVariants.{Unknown}
use Rattle.pb_protocol_typing.specs.Terms.{kinds}
use Rattle.pb_protocol_typing.specs.View.{scope_of}
use Rattle.pb_protocol_typing.proofs.Rows.{chain-truth, chain-first, arithmetic-whole, arithmetic-first, application-kinds, no-second}
use Rattle.pb_protocol_typing.proofs.term_kind.+terms.Goals as goal

pub called_kind-returns-in-None : goal.called_kind-returns-in-None
called_kind-returns-in-None t c =
    let s = scope_of c.args.scope.now in
    let h : Unknown ≡ second_kind (kinds s (argument_forms c.args.arguments.now)) = no-second s c.args.arguments.now c.in-None.ensures.lookup.3 in
    search rules

pub kind_of-returns-in-Some : goal.kind_of-returns-in-Some
kind_of-returns-in-Some t c = chain-truth (scope_of c.args.scope.now) c.in-Chain.links c.in-Chain.is c.deref-in-Chain.ensures.value c.in-Some.ensures.value

pub kind_of-returns-in-None : goal.kind_of-returns-in-None
kind_of-returns-in-None t c =
    c.kind_of.ensures ∙ chain-first (scope_of c.args.scope.now) c.in-Chain.links c.in-Chain.is c.deref-in-None.ensures c.deref-in-Chain.ensures.value c.in-None.ensures.value

pub kind_of-returns-in-Some-first : goal.kind_of-returns-in-Some-first
kind_of-returns-in-Some-first t c = arithmetic-whole (scope_of c.args.scope.now) c.in-Arithmetic.links c.in-Arithmetic.is c.deref-in-Arithmetic.ensures.value c.in-Some-first.ensures.value

pub kind_of-returns-in-None-first : goal.kind_of-returns-in-None-first
kind_of-returns-in-None-first t c =
    c.kind_of-in-None-first.ensures
    ∙ arithmetic-first (scope_of c.args.scope.now) c.in-Arithmetic.links c.in-Arithmetic.is c.deref-in-None-first.ensures c.deref-in-Arithmetic.ensures.value c.in-None-first.ensures.value

pub kind_of-returns-in-Application : goal.kind_of-returns-in-Application
kind_of-returns-in-Application t c =
    let s = scope_of c.args.scope.now in
    let n = c.in-Application in
    let es = c.deref-in-Application-2.result.now in
    c.called_kind.ensures
    ∙ (ap (λ (u : Called). called_kind u (kinds s (argument_forms es))) (c.find_called.ensures ∙ ap (called s) c.deref-in-Application.ensures)
    ∙ sym (application-kinds s c.args.term.now n.function n.arguments es n.is c.deref-in-Application-2.ensures.value))
