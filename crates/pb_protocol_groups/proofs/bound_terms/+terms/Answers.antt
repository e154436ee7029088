use Rattle.std.proofs.Common.{◌≡◌, ◌++◌, List, sym, subst, OnOk}
use Rattle.pb_text_tree.specs.Form.{Named, term_form}
use Rattle.pb_protocol_typing.specs.View.{names_in}
use Rattle.pb_protocol_groups.specs.Bound.{bound_names}
use Rattle.pb_protocol_groups.specs.BoundLinks.{links_bound_names, operations_bound_names}
use Rattle.pb_protocol_groups.proofs.Bound.{chain-said, arithmetic-said, application-said, then-parts}
use Rattle.pb_protocol_groups.proofs.bound_terms.+terms.Goals as goal

pub push_term-returns-in_ok-push_term-in-Chain : goal.push_term-returns-in_ok-push_term-in-Chain
push_term-returns-in_ok-push_term-in-Chain t c =
    let n = c.in-Chain in
    then-parts c.push_links.result (names_in c.args.names.now.items) _ (names_in c.push_links.new.names.items)
    (bound_names (term_form c.deref.result.now)) (links_bound_names c.deref-in-Chain.result.now) _
    c.in_ok-push_term-in-Chain.ensures c.push_links.ensures
    (chain-said c.args.term.now c.deref.result.now n.connective n.first n.links c.deref-in-Chain.result.now n.is c.deref.ensures c.deref-in-Chain.ensures.value)

pub push_term-returns-in_ok-push_term-in-Arithmetic : goal.push_term-returns-in_ok-push_term-in-Arithmetic
push_term-returns-in_ok-push_term-in-Arithmetic t c =
    let n = c.in-Arithmetic in
    then-parts c.push_operations.result (names_in c.args.names.now.items) _ (names_in c.push_operations.new.names.items)
    (bound_names (term_form c.deref-in-Arithmetic.result.now)) (operations_bound_names c.deref-in-Arithmetic-2.result.now) _
    c.in_ok-push_term-in-Arithmetic.ensures c.push_operations.ensures
    (arithmetic-said c.args.term.now c.deref-in-Arithmetic.result.now n.first n.links c.deref-in-Arithmetic-2.result.now n.is c.deref-in-Arithmetic.ensures c.deref-in-Arithmetic-2.ensures.value)

pub push_term-returns-in-Application : goal.push_term-returns-in-Application
push_term-returns-in-Application t c =
    let n = c.in-Application in
    subst (λ (xs : List Named). OnOk c.push_arguments.result (names_in c.push_arguments.new.names.items ≡ names_in c.args.names.now.items ++ xs))
    (sym (application-said c.args.term.now n.function n.arguments c.deref-in-Application.result.now n.is c.deref-in-Application.ensures.value)) c.push_arguments.ensures
