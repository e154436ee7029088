use Rattle.std.proofs.Common.{◌≡◌, ◌∙◌, List, length, refl, sym, ap}
use Rattle.std.specs.Prelude.{box_value}
use Rattle.pb_text_tree.specs.declared.term.Term.{Term}
use Rattle.pb_text_tree.specs.declared.term.Argument.{Argument}
use Rattle.pb_text_tree.specs.Form.{TermForm, argument_forms, named, term_form}
use Rattle.pb_typing_declarations.specs.Shapes.{Shape}
use Rattle.pb_protocol_typing.specs.declared.kind.Kind.{Kind}
use Rattle.pb_protocol_typing.specs.Functions.{Called, called, called_parameters, naming_fault, taking_fault}
use Rattle.pb_protocol_typing.specs.Links.{head_fault, links_fault, operations_fault}
use Rattle.pb_protocol_typing.specs.Terms.{kind, kinds, term_fault, arguments_fault}
use Rattle.pb_protocol_typing.specs.View.{called_of, scope_of}
use Rattle.pb_protocol_typing.proofs.Rows.{chain-faults, arithmetic-faults, application-faults, length-kinds, joined-two, joined-three}
use Rattle.pb_protocol_typing.proofs.term.+terms.Goals as goal

pub term_fault-returns-in-Chain : goal.term_fault-returns-in-Chain
term_fault-returns-in-Chain t c =
    let s = scope_of c.args.scope.now in
    let n = c.in-Chain in
    let x = box_value n.first in
    let first : c.term_fault-in-Chain.result ≡ term_fault s (term_form x) = c.term_fault-in-Chain.ensures ∙ ap (λ (u : Term). term_fault s (term_form u)) c.deref-in-Chain-4.ensures in
    let kind_is : c.kind_of-in-Chain.result ≡ kind s (term_form x) = c.kind_of-in-Chain.ensures ∙ ap (λ (u : Term). kind s (term_form u)) c.deref-in-Chain.ensures in
    let head : c.head_fault.result ≡ head_fault (kind s (term_form x)) n.links.items =
    c.head_fault.ensures ∙ (ap (head_fault c.kind_of-in-Chain.result) c.deref-in-Chain-2.ensures.value ∙ ap (λ (k : Kind). head_fault k n.links.items) kind_is) in
    let links : c.links_fault.result ≡ links_fault s n.links.items = c.links_fault.ensures ∙ ap (links_fault s) c.deref-in-Chain-3.ensures.value in
    joined-three _ c.or-others.result _ _ _ _ _ _ c.or-in-Chain.ensures c.or-others.ensures first head links
    ∙ sym (chain-faults s c.args.term.now x n.connective n.first n.links n.links.items n.is refl refl)

pub term_fault-returns-in-Arithmetic : goal.term_fault-returns-in-Arithmetic
term_fault-returns-in-Arithmetic t c =
    let s = scope_of c.args.scope.now in
    let n = c.in-Arithmetic in
    let x = box_value n.first in
    let first : c.term_fault-in-Arithmetic.result ≡ term_fault s (term_form x) = c.term_fault-in-Arithmetic.ensures ∙ ap (λ (u : Term). term_fault s (term_form u)) c.deref-in-Arithmetic.ensures in
    let kind_is : c.kind_of-in-Arithmetic.result ≡ kind s (term_form x) = c.kind_of-in-Arithmetic.ensures ∙ ap (λ (u : Term). kind s (term_form u)) c.deref-in-Arithmetic-2.ensures in
    let operations : c.operations_fault.result ≡ operations_fault s (kind s (term_form x)) n.links.items =
    c.operations_fault.ensures ∙ (ap (operations_fault s c.kind_of-in-Arithmetic.result) c.deref-in-Arithmetic-3.ensures.value ∙ ap (λ (k : Kind). operations_fault s k n.links.items) kind_is) in
    joined-two _ _ _ _ _ c.or-in-Arithmetic.ensures first operations
    ∙ sym (arithmetic-faults s c.args.term.now x n.first n.links n.links.items n.is refl refl)

pub term_fault-returns-in-Application : goal.term_fault-returns-in-Application
term_fault-returns-in-Application t c =
    let s = scope_of c.args.scope.now in
    let n = c.in-Application in
    c.application_fault.ensures
    ∙ (ap (λ (xs : List Argument). term_fault s (TermForm.application (named n.function) (argument_forms xs))) c.deref-in-Application.ensures.value
    ∙ sym (application-faults s c.args.term.now n.function n.arguments n.arguments.items n.is refl))

pub application_fault-returns : goal.application_fault-returns
application_fault-returns t c =
    let s = scope_of c.args.scope.now in
    let x = named c.args.name.now in
    let es = c.args.arguments.now in
    let called_is : called_of c.find_called-called.result ≡ called s x.text = c.find_called-called.ensures ∙ ap (called s) c.deref.ensures in
    let naming : c.naming_fault-naming.result ≡ naming_fault (called s x.text) s.around x (length (kinds s (argument_forms es))) =
    c.naming_fault-naming.ensures
    ∙ (ap (λ (u : Called). naming_fault u s.around x (length es)) called_is ∙ ap (naming_fault (called s x.text) s.around x) (sym (length-kinds s es))) in
    let arguments : c.arguments_fault.result ≡ arguments_fault s 0 (called_parameters (called s x.text)) (argument_forms es) =
    c.arguments_fault.ensures ∙ ap (λ (hs : List Shape). arguments_fault s 0 hs (argument_forms es)) (c.called_parameters-parameters.ensures ∙ ap called_parameters called_is) in
    let taking : c.taking_fault-kinds.result ≡ taking_fault (called s x.text) x (kinds s (argument_forms es)) =
    c.taking_fault-kinds.ensures ∙ ap (λ (u : Called). taking_fault u x (kinds s (argument_forms es))) called_is in
    joined-three _ c.or.result _ _ _ _ _ _ c.or-2.ensures c.or.ensures naming arguments taking
