use Rattle.std.proofs.Common.{refl, sym, ◌∙◌}
use Rattle.pb_protocol_typing.specs.Indices.{stands_in}
use Rattle.pb_protocol_typing.proofs.AnyRows.{chain-here, chain-behind, arithmetic-here, arithmetic-behind, application-is}
use Rattle.pb_protocol_typing.proofs.copies.+standing.Goals as goal

pub stands_in-returns-then-stands_in : goal.stands_in-returns-then-stands_in
stands_in-returns-then-stands_in t c =
    chain-here (stands_in c.args.name.now) (λ d p x y. refl) (λ o p x y. refl) c.in-Chain.links c.in-Chain.is c.deref-in-Chain.ensures
    (sym c.stands_in-in-Chain.ensures ∙ c.if-stands_in.true)

pub stands_in-returns-else-stands_in : goal.stands_in-returns-else-stands_in
stands_in-returns-else-stands_in t c =
    c.stands_in_links.ensures
    ∙ chain-behind (stands_in c.args.name.now) (λ d p x y. refl) (λ o p x y. refl) c.in-Chain.links c.in-Chain.is c.deref-in-Chain.ensures c.deref-in-Chain-2.ensures.value
    (sym c.stands_in-in-Chain.ensures ∙ c.if-stands_in.false)

pub stands_in-returns-then-stands_in-3 : goal.stands_in-returns-then-stands_in-3
stands_in-returns-then-stands_in-3 t c =
    arithmetic-here (stands_in c.args.name.now) (λ d p x y. refl) (λ o p x y. refl) c.in-Arithmetic.links c.in-Arithmetic.is c.deref-in-Arithmetic.ensures
    (sym c.stands_in-in-Arithmetic.ensures ∙ c.if-stands_in-3.true)

pub stands_in-returns-else-stands_in-3 : goal.stands_in-returns-else-stands_in-3
stands_in-returns-else-stands_in-3 t c =
    c.stands_in_operations.ensures
    ∙ arithmetic-behind (stands_in c.args.name.now) (λ d p x y. refl) (λ o p x y. refl) c.in-Arithmetic.links c.in-Arithmetic.is c.deref-in-Arithmetic.ensures c.deref-in-Arithmetic-2.ensures.value
    (sym c.stands_in-in-Arithmetic.ensures ∙ c.if-stands_in-3.false)

pub stands_in-returns-in-Application : goal.stands_in-returns-in-Application
stands_in-returns-in-Application t c =
    let n = c.in-Application in
    c.stands_among.ensures
    ∙ application-is (stands_in c.args.name.now) (λ d p x y. refl) (λ o p x y. refl) c.args.term.now n.function n.arguments c.deref-in-Application.result.now n.is c.deref-in-Application.ensures.value
