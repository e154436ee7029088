use Rattle.std.proofs.Common.{◌∙◌, ◌&&◌, sym, ap, refl}
use Rattle.std.specs.List.{list_all}
use Rattle.pb_model_invariants.specs.Links.{is_free_link}
use Rattle.pb_model_invariants.proofs.Chains.{chain-free}
use Rattle.pb_model_invariants.proofs.invariant.+formulas.Goals as goal

pub is_fixpoint_free-returns-then-not-is_fixpoint_free : goal.is_fixpoint_free-returns-then-not-is_fixpoint_free
is_fixpoint_free-returns-then-not-is_fixpoint_free t c =
    let n = c.in-Chain in
    sym (chain-free c.args.formula.now c.deref.result.now n.connective n.first n.links n.links.items n.is c.deref.ensures refl
    ∙ ap (λ b. b && list_all is_free_link n.links.items) (sym c.is_fixpoint_free.ensures ∙ c.if-not-is_fixpoint_free.true))

pub is_fixpoint_free-returns-else-not-is_fixpoint_free : goal.is_fixpoint_free-returns-else-not-is_fixpoint_free
is_fixpoint_free-returns-else-not-is_fixpoint_free t c =
    let n = c.in-Chain in
    let links = c.deref-in-Chain.result.now in
    c.are_fixpoint_free.ensures
    ∙ sym (chain-free c.args.formula.now c.deref.result.now n.connective n.first n.links links n.is c.deref.ensures c.deref-in-Chain.ensures.value
    ∙ ap (λ b. b && list_all is_free_link links) (sym c.is_fixpoint_free.ensures ∙ c.if-not-is_fixpoint_free.false))
