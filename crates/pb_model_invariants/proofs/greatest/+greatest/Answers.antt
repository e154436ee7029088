use Rattle.std.proofs.Common.{◌∙◌, refl, sym, None}
use Rattle.pb_model_invariants.specs.Invariants.{greatest_fixpoint}
use Rattle.pb_model_invariants.proofs.Chains.{alone, several}
use Rattle.pb_model_invariants.proofs.greatest.+greatest.Goals as goal

pub returns-in-Some : goal.returns-in-Some
returns-in-Some t c =
    sym (several greatest_fixpoint None (λ k q g h. refl) c.args.formula.now c.in-Chain.connective c.in-Chain.first c.in-Chain.links c.deref-in-Chain.result.now
    c.in-Some.field-0.now c.in-Chain.is c.deref-in-Chain.ensures.value c.in-Some.ensures.value)

pub returns-in-None : goal.returns-in-None
returns-in-None t c =
    c.greatest.ensures
    ∙ sym (alone greatest_fixpoint c.args.formula.now c.deref-in-None.result.now c.in-Chain.connective c.in-Chain.first c.in-Chain.links c.deref-in-Chain.result.now
    c.in-Chain.is c.deref-in-None.ensures c.deref-in-Chain.ensures.value c.in-None.ensures.value)
