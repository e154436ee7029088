use Rattle.std.proofs.Common.{◌≡◌, ◌∙◌, sym, ap, subst, refl, arith, ℕ, to_z, w64, drop, ◌+◌, length, pos, ℤ, Bool, true, false, ◌∷◌}
use mir.Val.{bool_byte}
use Rattle.pb_base_values.specs.Carrier.{of_bool}
use Rattle.pb_base_values.proofs.Ends.{passed_word}
use Rattle.pb_text_meaning.specs.Erase.{of_arithmetic}
use Rattle.pb_text_meaning.specs.Value.{binary, is_true}
use Rattle.pb_text_meaning.specs.Fits.{IsBounded, DivisorFits}
use Rattle.pb_typing_tree.specs.Meaning as meaning
use Rattle.pb_typing_tree.specs.Fits.{Fits}
use Rattle.pb_typing_tree.specs.View.{term_view}
use Rattle.pb_typing_tree.proofs.Weight.{term_lighter, link_lighter}
use Rattle.pb_typing_values.specs.Slots.{slots_of}
use Rattle.pb_typing_values.proofs.Links.{fits-chained, operand_fits, chain-begun, chain_decided, chain_next, ArithmeticFits, fits-calculated, arithmetic-begun, arithmetic_next, arithmetic-went_on}
use Rattle.pb_typing_values.proofs.Links.{chain-read, arithmetic-read, IsChain, IsArithmetic}
use Rattle.pb_typing_values.proofs.term.+terms.Goals as goal
use Rattle.pb_typing_values.proofs.term.+terms.Goals.{value-After-deref-in-Chain-2, value-After-deref-in-Arithmetic-2, arithmetic_value-After-link-item}

-- ---- nodes with several operands

read_chain : (t : ℕ) (c : value-After-deref-in-Chain-2 t) → IsChain c.args.term.now c.in-Chain.connective c.deref-in-Chain.result.now c.deref-in-Chain-2.result.now
read_chain t c = chain-read c.in-Chain.connective c.in-Chain.first c.in-Chain.links c.in-Chain.is c.deref-in-Chain.ensures c.deref-in-Chain-2.ensures.value

pub value-chain_value-requires : goal.value-chain_value-requires
value-chain_value-requires t c =
    let chain = read_chain t (goal.at.value-chain_value-requires t c).After-deref-in-Chain-2 in
    (omega (arith, c.decreases, chain.weighs), subst (Fits (length c.args.slots.now) (slots_of c.args.slots.now)) (sym chain.view) c.requires)

pub value-returns-in-Chain : goal.value-returns-in-Chain
value-returns-in-Chain t c =
    let chain = read_chain t (goal.at.value-returns-in-Chain t c).After-deref-in-Chain-2 in
    passed_word _ _ c.chain_value.type_inv (c.chain_value.ensures ∙ ap (meaning.value (slots_of c.args.slots.now)) chain.view)

read_arithmetic : (t : ℕ) (c : value-After-deref-in-Arithmetic-2 t) → IsArithmetic c.args.term.now c.deref-in-Arithmetic.result.now c.deref-in-Arithmetic-2.result.now
read_arithmetic t c = arithmetic-read c.in-Arithmetic.first c.in-Arithmetic.links c.in-Arithmetic.is c.deref-in-Arithmetic.ensures c.deref-in-Arithmetic-2.ensures.value

pub value-arithmetic_value-requires : goal.value-arithmetic_value-requires
value-arithmetic_value-requires t c =
    let read = read_arithmetic t (goal.at.value-arithmetic_value-requires t c).After-deref-in-Arithmetic-2 in
    (omega (arith, c.decreases, read.weighs), subst (Fits (length c.args.slots.now) (slots_of c.args.slots.now)) (sym read.view) c.requires)

pub value-returns-in-Arithmetic : goal.value-returns-in-Arithmetic
value-returns-in-Arithmetic t c =
    let read = read_arithmetic t (goal.at.value-returns-in-Arithmetic t c).After-deref-in-Arithmetic-2 in
    passed_word _ _ c.arithmetic_value.type_inv (c.arithmetic_value.ensures ∙ ap (meaning.value (slots_of c.args.slots.now)) read.view)

-- ---- chains of one connective

byte-bool : (b : Bool) → pos (bool_byte b) ≡ of_bool b
byte-bool true = refl
byte-bool false = refl

pub chain_value-value-current-requires : goal.chain_value-value-current-requires
chain_value-value-current-requires t c =
    (omega (arith, c.decreases), (fits-chained _ (slots_of c.args.slots.now) c.args.connective (term_view c.args.first.now) c.args.links.now c.requires).0)

pub chain_value-loop-link-init : goal.chain_value-loop-link-init
chain_value-loop-link-init t c =
    chain-begun (slots_of c.args.slots.now) c.args.connective c.args.first.now c.args.links.now (passed_word _ _ c.value-current.type_inv c.value-current.ensures)

pub chain_value-value-requires : goal.chain_value-value-requires
chain_value-value-requires t c =
    let links = c.args.links.now in
    let fit = (fits-chained _ (slots_of c.args.slots.now) c.args.connective (term_view c.args.first.now) links c.requires).1 in (
      omega (arith, c.decreases, term_lighter links c.loop-link.link-index c.link-item.result c.loop-link-test.true c.link-item.is),
      operand_fits _ (slots_of c.args.slots.now) links c.loop-link.link-index c.link-item.result fit c.loop-link-test.true c.link-item.is,
    )

pub chain_value-loop-link-preserved : goal.chain_value-loop-link-preserved
chain_value-loop-link-preserved t c =
    let tested = c.is_true-in-loop-link.ensures ∙ ap is_true (passed_word _ _ c.value.type_inv c.value.ensures) in
    chain_next (slots_of c.args.slots.now) c.args.connective (to_z w64 c.loop-link.current-bits) _ c.args.links.now c.loop-link.link-index c.link-item.result
    c.is_true.result c.loop-link-test.true c.link-item.is c.is_true.ensures c.in_default.ensures
    (passed_word _ _ c.from-current.type_inv (c.from-current.ensures ∙ (byte-bool c.is_true-in-loop-link.result ∙ ap of_bool tested)))
    ∙ c.loop-link.invariant

pub chain_value-returns-in-Some : goal.chain_value-returns-in-Some
chain_value-returns-in-Some t c =
    passed_word _ _ c.from.type_inv (c.from.ensures ∙ byte-bool c.in-Some.decided)
    ∙ (sym (chain_decided (slots_of c.args.slots.now) c.args.connective (to_z w64 c.loop-link.current-bits) c.args.links.now c.loop-link.link-index c.link-item.result
    c.is_true.result c.in-Some.decided c.loop-link-test.true c.link-item.is c.is_true.ensures c.in-Some.ensures)
    ∙ c.loop-link.invariant)

-- ---- chains of arithmetic

pub arithmetic_value-value-current-requires : goal.arithmetic_value-value-current-requires
arithmetic_value-value-current-requires t c =
    (omega (arith, c.decreases), (fits-calculated _ (slots_of c.args.slots.now) (term_view c.args.first.now) c.args.links.now c.requires).0)

pub arithmetic_value-loop-link-init : goal.arithmetic_value-loop-link-init
arithmetic_value-loop-link-init t c =
    let begun =
    arithmetic-begun (length c.args.slots.now) (slots_of c.args.slots.now) c.args.first.now c.args.links.now
    (passed_word _ _ c.value-current.type_inv c.value-current.ensures) c.requires in
    record { same = begun.0; fits = begun.1 }

-- the next operand fits, and so does what is left with it
next_fits : (t : ℕ) (c : arithmetic_value-After-link-item t)
    → ArithmeticFits (length c.args.slots.now) (slots_of c.args.slots.now) (to_z w64 c.loop-link.current-bits) (c.link-item.result ∷ drop (c.loop-link.link-index + 1) c.args.links.now)
next_fits t c =
    arithmetic_next (length c.args.slots.now) (slots_of c.args.slots.now) (to_z w64 c.loop-link.current-bits) c.args.links.now c.loop-link.link-index c.link-item.result
    c.loop-link-test.true c.link-item.is c.loop-link.invariant.fits

pub arithmetic_value-value-requires : goal.arithmetic_value-value-requires
arithmetic_value-value-requires t c = (
  omega (arith, c.decreases, link_lighter c.args.links.now c.loop-link.link-index c.link-item.result c.loop-link-test.true c.link-item.is),
  (next_fits t (goal.at.arithmetic_value-value-requires t c).After-link-item).0,
)

pub arithmetic_value-calculate-current-requires-clause-bounded : goal.arithmetic_value-calculate-current-requires-clause-bounded
arithmetic_value-calculate-current-requires-clause-bounded t c =
    subst (λ (x : ℤ). IsBounded (binary (of_arithmetic c.link-item.result.operator) (to_z w64 c.loop-link.current-bits) x)) (sym (passed_word _ _ c.value.type_inv c.value.ensures))
    (next_fits t (goal.at.arithmetic_value-calculate-current-requires-clause-bounded t c).After-link-item).2

pub arithmetic_value-calculate-current-requires-clause-divisor : goal.arithmetic_value-calculate-current-requires-clause-divisor
arithmetic_value-calculate-current-requires-clause-divisor t c =
    subst (DivisorFits (of_arithmetic c.link-item.result.operator)) (sym (passed_word _ _ c.value.type_inv c.value.ensures))
    (next_fits t (goal.at.arithmetic_value-calculate-current-requires-clause-divisor t c).After-link-item).1

pub arithmetic_value-loop-link-preserved : goal.arithmetic_value-loop-link-preserved
arithmetic_value-loop-link-preserved t c =
    let v = to_z w64 c.loop-link.current-bits in
    let link = c.link-item in
    let operand = passed_word _ _ c.value.type_inv c.value.ensures in
    let went_on =
    arithmetic-went_on (length c.args.slots.now) (slots_of c.args.slots.now) v c.args.links.now c.loop-link.link-index link.result c.loop-link-test.true link.is
    (passed_word _ _ c.calculate-current.type_inv (c.calculate-current.ensures ∙ ap (binary (of_arithmetic link.result.operator) v) operand))
    c.loop-link.invariant.fits in
    record { same = went_on.0 ∙ c.loop-link.invariant.same; fits = went_on.1 }
