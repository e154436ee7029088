use Rattle.std.proofs.Common.{◌∙◌, Option, None, map, sym, ap, refl, arith}
use Rattle.std.proofs.lemmas.List.{length-map}
use Rattle.pb_protocol_symmetry.specs.Permutation.{Kind}
use Rattle.pb_protocol_scalar_sets.specs.Joined.{joined_kinds, link_kind, operation_kind}
use Rattle.pb_protocol_scalar_sets.specs.Terms.{kind_at, kinds_at, body_at, terms_said}
use Rattle.pb_protocol_scalar_sets.specs.View.{scope_of, variable_said}
use Rattle.pb_protocol_scalar_sets.proofs.Terms.{chain-said, arithmetic-said, application-said, chain-other, arithmetic-other, chain-alone, arithmetic-alone}
use Rattle.pb_protocol_scalar_sets.proofs.Terms.{for-other, length-kinds, no-choice, no-count, one-count}
use Rattle.pb_protocol_scalar_sets.proofs.term.+terms.Goals as goal

pub are_for-returns-then-parameters-arguments : goal.are_for-returns-then-parameters-arguments
are_for-returns-then-parameters-arguments t c =
    let ps = c.args.parameters.now in
    let es = c.args.arguments.now in
    let kinds = kinds_at c.args.context.now (scope_of c.args.around.now) (terms_said es) in
    sym (for-other c.args.context.now.set.sort.now (map variable_said ps) kinds
    (λ same. c.if-parameters-arguments.true (sym (length-map ps variable_said) ∙ (same ∙ length-kinds c.args.context.now (scope_of c.args.around.now) es))))

pub choice_kind-returns-in_default : goal.choice_kind-returns-in_default
choice_kind-returns-in_default t c = no-choice c.args.context.now (scope_of c.args.around.now) c.args.arguments.now (λ e. absurd (omega (arith, e, c.in_default.len_below)))

pub choice_kind-returns-in_default-2 : goal.choice_kind-returns-in_default-2
choice_kind-returns-in_default-2 t c = no-choice c.args.context.now (scope_of c.args.around.now) c.args.arguments.now (λ e. absurd (omega (arith, e, c.in_default.len_at_least)))

pub kind_in-returns-in-Chain : goal.kind_in-returns-in-Chain
kind_in-returns-in-Chain t c =
    let kind = kind_at c.args.context.now (scope_of c.args.around.now) in
    let n = c.in-Chain in
    let ls = c.deref-in-Chain-2.result.now in
    c.chain_kind.ensures
    ∙ (ap (λ (k : Option Kind). joined_kinds k (map (link_kind kind) ls)) c.kind_in-in-Chain.ensures
    ∙ sym (chain-said kind (λ o x y. refl) c.args.term.now c.deref-in-Chain.result.now n.connective n.first n.links ls n.is c.deref-in-Chain.ensures c.deref-in-Chain-2.ensures.value))

pub kind_in-returns-in-Arithmetic : goal.kind_in-returns-in-Arithmetic
kind_in-returns-in-Arithmetic t c =
    let kind = kind_at c.args.context.now (scope_of c.args.around.now) in
    let n = c.in-Arithmetic in
    let ls = c.deref-in-Arithmetic-2.result.now in
    c.arithmetic_kind.ensures
    ∙ (ap (λ (k : Option Kind). joined_kinds k (map (operation_kind kind) ls)) c.kind_in-in-Arithmetic.ensures
    ∙ sym (arithmetic-said kind (λ o x y. refl) c.args.term.now c.deref-in-Arithmetic.result.now n.first n.links ls n.is c.deref-in-Arithmetic.ensures c.deref-in-Arithmetic-2.ensures.value))

pub kind_in-returns-in-Application : goal.kind_in-returns-in-Application
kind_in-returns-in-Application t c =
    let n = c.in-Application in
    c.application_kind.ensures
    ∙ sym (application-said (kind_at c.args.context.now (scope_of c.args.around.now)) (λ o x y. refl)
    c.args.term.now n.function n.arguments c.deref-in-Application.result.now n.is c.deref-in-Application.ensures.value)

pub body_kind-returns-in-Some : goal.body_kind-returns-in-Some
body_kind-returns-in-Some t c =
    chain-other (body_at c.args.context.now (scope_of c.args.around.now)) None (λ o x y. refl)
    c.args.term.now c.in-Chain.connective c.in-Chain.first c.in-Chain.links c.deref-in-Chain.result.now _ c.in-Chain.is
    c.deref-in-Chain.ensures.value c.in-Some.ensures.value

pub body_kind-returns-in-None : goal.body_kind-returns-in-None
body_kind-returns-in-None t c =
    c.body_kind.ensures
    ∙ ap (body_at c.args.context.now (scope_of c.args.around.now))
    (chain-alone c.args.term.now c.deref-in-None.result.now c.in-Chain.connective c.in-Chain.first c.in-Chain.links c.deref-in-Chain.result.now
    c.in-Chain.is c.deref-in-None.ensures c.deref-in-Chain.ensures.value c.in-None.ensures.value)

pub body_kind-returns-in-Some-first : goal.body_kind-returns-in-Some-first
body_kind-returns-in-Some-first t c =
    arithmetic-other (body_at c.args.context.now (scope_of c.args.around.now)) None (λ o x y. refl)
    c.args.term.now c.in-Arithmetic.first c.in-Arithmetic.links c.deref-in-Arithmetic.result.now _ c.in-Arithmetic.is
    c.deref-in-Arithmetic.ensures.value c.in-Some-first.ensures.value

pub body_kind-returns-in-None-first : goal.body_kind-returns-in-None-first
body_kind-returns-in-None-first t c =
    c.body_kind-in-None-first.ensures
    ∙ ap (body_at c.args.context.now (scope_of c.args.around.now))
    (arithmetic-alone c.args.term.now c.deref-in-None-first.result.now c.in-Arithmetic.first c.in-Arithmetic.links c.deref-in-Arithmetic.result.now
    c.in-Arithmetic.is c.deref-in-None-first.ensures c.deref-in-Arithmetic.ensures.value c.in-None-first.ensures.value)

pub count_kind-returns-in-len1 : goal.count_kind-returns-in-len1
count_kind-returns-in-len1 t c =
    c.body_kind.ensures
    ∙ one-count c.args.context.now (scope_of c.args.around.now) c.args.arguments.now c.argument-item.result (omega (arith, c.in-len1.len_at_least, c.in-len1.len_below)) c.argument-item.is

pub count_kind-returns-in_default-2 : goal.count_kind-returns-in_default-2
count_kind-returns-in_default-2 t c = no-count c.args.context.now (scope_of c.args.around.now) c.args.arguments.now (λ e. absurd (omega (arith, e, c.in_default.len_at_least)))
