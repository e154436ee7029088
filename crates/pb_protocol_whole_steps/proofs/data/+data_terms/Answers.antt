use Rattle.std.proofs.Common.{◌∙◌, sym, map, refl}
use Rattle.std.specs.List.{list_all}
use Rattle.pb_protocol_folding.specs.View.{term_of}
use Rattle.pb_protocol_unfolding.specs.Whole.{is_data, are_absent}
use Rattle.pb_protocol_whole_steps.specs.View.{is_data_link, is_data_operation, name_in}
use Rattle.pb_protocol_whole_steps.proofs.Chains.{at-false, at-true, term-chained, term-calculated, term-applied}
use Rattle.pb_protocol_whole_steps.proofs.data.+data_terms.Goals as goal

pub is_data-returns-then-not-is_data : goal.is_data-returns-then-not-is_data
is_data-returns-then-not-is_data t c =
    let own = map name_in c.args.own.now in
    let free = c.args.free in
    let x = c.deref-in-Chain.result.now in
    let links = c.in-Chain.links.items in
    let whole = term-chained own free c.in-Chain.connective x c.in-Chain.first c.in-Chain.links links c.args.term.now c.in-Chain.is c.deref-in-Chain.ensures refl in
    at-false (is_data own free (term_of x)) (list_all (is_data_link own free) links) (is_data own free (term_of c.args.term.now)) whole (sym c.is_data-in-Chain.ensures ∙ c.if-not-is_data.true)

pub is_data-returns-else-not-is_data : goal.is_data-returns-else-not-is_data
is_data-returns-else-not-is_data t c =
    let own = map name_in c.args.own.now in
    let free = c.args.free in
    let x = c.deref-in-Chain.result.now in
    let links = c.deref-in-Chain-2.result.now in
    let whole = term-chained own free c.in-Chain.connective x c.in-Chain.first c.in-Chain.links links c.args.term.now c.in-Chain.is c.deref-in-Chain.ensures c.deref-in-Chain-2.ensures.value in
    c.are_data_links.ensures
    ∙ at-true (is_data own free (term_of x)) (list_all (is_data_link own free) links) (is_data own free (term_of c.args.term.now)) whole (sym c.is_data-in-Chain.ensures ∙ c.if-not-is_data.false)

pub is_data-returns-then-not-is_data-3 : goal.is_data-returns-then-not-is_data-3
is_data-returns-then-not-is_data-3 t c =
    let own = map name_in c.args.own.now in
    let free = c.args.free in
    let x = c.deref-in-Arithmetic.result.now in
    let links = c.in-Arithmetic.links.items in
    let whole = term-calculated own free x c.in-Arithmetic.first c.in-Arithmetic.links links c.args.term.now c.in-Arithmetic.is c.deref-in-Arithmetic.ensures refl in
    at-false (is_data own free (term_of x)) (list_all (is_data_operation own free) links) (is_data own free (term_of c.args.term.now)) whole
    (sym c.is_data-in-Arithmetic.ensures ∙ c.if-not-is_data-3.true)

pub is_data-returns-else-not-is_data-3 : goal.is_data-returns-else-not-is_data-3
is_data-returns-else-not-is_data-3 t c =
    let own = map name_in c.args.own.now in
    let free = c.args.free in
    let x = c.deref-in-Arithmetic.result.now in
    let links = c.deref-in-Arithmetic-2.result.now in
    let whole = term-calculated own free x c.in-Arithmetic.first c.in-Arithmetic.links links c.args.term.now c.in-Arithmetic.is c.deref-in-Arithmetic.ensures c.deref-in-Arithmetic-2.ensures.value in
    c.are_data_operations.ensures
    ∙ at-true (is_data own free (term_of x)) (list_all (is_data_operation own free) links) (is_data own free (term_of c.args.term.now)) whole
    (sym c.is_data-in-Arithmetic.ensures ∙ c.if-not-is_data-3.false)

pub is_data-returns-in-Application : goal.is_data-returns-in-Application
is_data-returns-in-Application t c =
    let own = map name_in c.args.own.now in
    let xs = c.deref-in-Application.result.now in
    c.are_absent.ensures ∙ term-applied own c.args.free c.in-Application.function c.in-Application.arguments xs c.args.term.now c.in-Application.is c.deref-in-Application.ensures.value
