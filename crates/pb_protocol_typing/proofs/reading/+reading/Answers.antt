use Rattle.std.proofs.Common.{◌≡◌, Bool, false, ◌||◌, refl, sym, ap, ◌∙◌}
use Rattle.pb_text_tree.specs.Form.{argument_forms, named}
use Rattle.pb_protocol_typing.specs.Functions.{called}
use Rattle.pb_protocol_typing.specs.Terms.{called_reads, reads_state, some_reads}
use Rattle.pb_protocol_typing.specs.View.{scope_of}
use Rattle.pb_protocol_typing.proofs.AnyRows.{chain-here, chain-behind, arithmetic-here, arithmetic-behind, application-is}
use Rattle.pb_protocol_typing.proofs.reading.+reading.Goals as goal

pub reads_state-returns-then-reads_state : goal.reads_state-returns-then-reads_state
reads_state-returns-then-reads_state t c =
    chain-here (reads_state (scope_of c.args.scope.now)) (λ d p x y. refl) (λ o p x y. refl) c.in-Chain.links c.in-Chain.is c.deref-in-Chain.ensures
    (sym c.reads_state-in-Chain.ensures ∙ c.if-reads_state.true)

pub reads_state-returns-else-reads_state : goal.reads_state-returns-else-reads_state
reads_state-returns-else-reads_state t c =
    c.links_read.ensures
    ∙ chain-behind (reads_state (scope_of c.args.scope.now)) (λ d p x y. refl) (λ o p x y. refl) c.in-Chain.links c.in-Chain.is c.deref-in-Chain.ensures c.deref-in-Chain-2.ensures.value
    (sym c.reads_state-in-Chain.ensures ∙ c.if-reads_state.false)

pub reads_state-returns-then-reads_state-3 : goal.reads_state-returns-then-reads_state-3
reads_state-returns-then-reads_state-3 t c =
    arithmetic-here (reads_state (scope_of c.args.scope.now)) (λ d p x y. refl) (λ o p x y. refl) c.in-Arithmetic.links c.in-Arithmetic.is c.deref-in-Arithmetic.ensures
    (sym c.reads_state-in-Arithmetic.ensures ∙ c.if-reads_state-3.true)

pub reads_state-returns-else-reads_state-3 : goal.reads_state-returns-else-reads_state-3
reads_state-returns-else-reads_state-3 t c =
    c.operations_read.ensures
    ∙ arithmetic-behind (reads_state (scope_of c.args.scope.now)) (λ d p x y. refl) (λ o p x y. refl) c.in-Arithmetic.links c.in-Arithmetic.is c.deref-in-Arithmetic.ensures
    c.deref-in-Arithmetic-2.ensures.value
    (sym c.reads_state-in-Arithmetic.ensures ∙ c.if-reads_state-3.false)

-- what is applied reads nothing, so one of the arguments does
pub reads_state-returns-else-called_reads : goal.reads_state-returns-else-called_reads
reads_state-returns-else-called_reads t c =
    let s = scope_of c.args.scope.now in
    let n = c.in-Application in
    let es = c.deref-in-Application.result.now in
    let not_called : called_reads (called s (named n.function).text) ≡ false =
    ap called_reads (sym (c.find_called.ensures ∙ ap (called s) c.as_str-in-Application.ensures.value)) ∙ (sym c.called_reads.ensures ∙ c.if-called_reads.false) in
    c.some_reads.ensures
    ∙ (ap (λ (b : Bool). b || some_reads s (argument_forms es)) (sym not_called)
    ∙ application-is (reads_state s) (λ d p x y. refl) (λ o p x y. refl) c.args.term.now n.function n.arguments es n.is c.deref-in-Application.ensures.value)
