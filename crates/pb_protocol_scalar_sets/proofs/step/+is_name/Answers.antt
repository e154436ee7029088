use Rattle.std.proofs.Common.{◌∙◌, ap, refl, false}
use Rattle.pb_protocol_symmetry.specs.Steps.{is_name}
use Rattle.pb_protocol_scalar_sets.proofs.Terms.{chain-other, arithmetic-other, chain-alone, arithmetic-alone}
use Rattle.pb_protocol_scalar_sets.proofs.step.+is_name.Goals as goal

pub returns-in-Some : goal.returns-in-Some
returns-in-Some t c =
    chain-other (is_name c.args.name.now) false (λ o x y. refl) c.args.term.now c.in-Chain.connective c.in-Chain.first c.in-Chain.links c.deref.result.now _ c.in-Chain.is
    c.deref.ensures.value c.in-Some.ensures.value

pub returns-in-None : goal.returns-in-None
returns-in-None t c =
    c.is_name.ensures
    ∙ ap (is_name c.args.name.now) (chain-alone c.args.term.now c.deref-in-None.result.now c.in-Chain.connective c.in-Chain.first c.in-Chain.links c.deref.result.now
    c.in-Chain.is c.deref-in-None.ensures c.deref.ensures.value c.in-None.ensures.value)

pub returns-in-Some-first : goal.returns-in-Some-first
returns-in-Some-first t c =
    arithmetic-other (is_name c.args.name.now) false (λ o x y. refl) c.args.term.now c.in-Arithmetic.first c.in-Arithmetic.links c.deref-in-Arithmetic.result.now _ c.in-Arithmetic.is
    c.deref-in-Arithmetic.ensures.value c.in-Some-first.ensures.value

pub returns-in-None-first : goal.returns-in-None-first
returns-in-None-first t c =
    c.is_name-in-None-first.ensures
    ∙ ap (is_name c.args.name.now) (arithmetic-alone c.args.term.now c.deref-in-None-first.result.now c.in-Arithmetic.first c.in-Arithmetic.links c.deref-in-Arithmetic.result.now
    c.in-Arithmetic.is c.deref-in-None-first.ensures c.deref-in-Arithmetic.ensures.value c.in-None-first.ensures.value)
