use Rattle.std.proofs.Common.{◌≡◌, ◌++◌, List, sym, subst, OnOk}
use Rattle.pb_text_tree.specs.Form.{VariableForm, term_form}
use Rattle.pb_protocol_typing.specs.ListLinks.{links_lists, operations_lists}
use Rattle.pb_protocol_typing.specs.Lists.{term_lists}
use Rattle.pb_protocol_typing.specs.View.{list_forms}
use Rattle.pb_protocol_typing.proofs.ListRows.{chain-said, arithmetic-said, application-said, then_parts}
use Rattle.pb_protocol_typing.proofs.lists.+terms.Goals as goal

pub push_term-returns-in_ok-push_term-in-Chain : goal.push_term-returns-in_ok-push_term-in-Chain
push_term-returns-in_ok-push_term-in-Chain t c =
    let n = c.in-Chain in
    then_parts c.push_links.result (list_forms c.args.lists.now.items) (list_forms c.push_term.new.lists.items) (list_forms c.push_links.new.lists.items)
    (term_lists (term_form c.deref.result.now)) (links_lists c.deref-in-Chain.result.now) _
    c.in_ok-push_term-in-Chain.ensures c.push_links.ensures
    (chain-said c.args.term.now c.deref.result.now n.connective n.first n.links c.deref-in-Chain.result.now n.is c.deref.ensures c.deref-in-Chain.ensures.value)

pub push_term-returns-in_ok-push_term-in-Arithmetic : goal.push_term-returns-in_ok-push_term-in-Arithmetic
push_term-returns-in_ok-push_term-in-Arithmetic t c =
    let n = c.in-Arithmetic in
    then_parts c.push_operations.result (list_forms c.args.lists.now.items) (list_forms c.push_term-in-Arithmetic.new.lists.items) (list_forms c.push_operations.new.lists.items)
    (term_lists (term_form c.deref-in-Arithmetic.result.now)) (operations_lists c.deref-in-Arithmetic-2.result.now) _
    c.in_ok-push_term-in-Arithmetic.ensures c.push_operations.ensures
    (arithmetic-said c.args.term.now c.deref-in-Arithmetic.result.now n.first n.links c.deref-in-Arithmetic-2.result.now n.is c.deref-in-Arithmetic.ensures c.deref-in-Arithmetic-2.ensures.value)

pub push_term-returns-in-Application : goal.push_term-returns-in-Application
push_term-returns-in-Application t c =
    let n = c.in-Application in
    subst (λ (ls : List (List VariableForm)). OnOk c.push_arguments.result (list_forms c.push_arguments.new.lists.items ≡ list_forms c.args.lists.now.items ++ ls))
    (sym (application-said c.args.term.now n.function n.arguments c.deref-in-Application.result.now n.is c.deref-in-Application.ensures.value)) c.push_arguments.ensures
