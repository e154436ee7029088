use Rattle.std.proofs.Common.{◌≡◌, ◌∙◌, ap, arith, false, inl, inr, refl, sym, subst}
use Rattle.std.specs.Prelude.{ℤ, int_le}
use Rattle.std.proofs.lemmas.Int.{ints}
use Rattle.pb_base.specs.OrMemory.{IfFault}
use Rattle.pb_protocol_tree.specs.Form.{ProtocolForm, bounds_form, protocol_form}
use Rattle.pb_protocol_constants.specs.Faults.{IsBoundFault, IsBoundsFault}
use Rattle.pb_protocol_constants.specs.Settled.{value_of, HasNoSorts}
use Rattle.pb_protocol_constants.proofs.Refusals.{handed-on}
use Rattle.pb_protocol_constants.proofs.bound.range_of.Goals as goal

pub returns-in_err-low-clause-refused : goal.returns-in_err-low-clause-refused
returns-in_err-low-clause-refused c = λ none.
    let m = protocol_form c.args.constants.now in
    let b = bounds_form c.args.bounds in
    handed-on (IsBoundFault m b.low_place b.low) (IsBoundsFault m b) (λ f h. inl h)
    c.in_err-low.field-0.0 c.from_residual.result c.in_err-low.ensures.refused c.from_residual.ensures.1

pub returns-in_err-high-clause-refused : goal.returns-in_err-high-clause-refused
returns-in_err-high-clause-refused c = λ none.
    let m = protocol_form c.args.constants.now in
    let b = bounds_form c.args.bounds in
    handed-on (IsBoundFault (protocol_form c.bound_value.new.constants) b.high_place b.high) (IsBoundsFault m b)
    (λ f h. inr (inl (subst (λ (x : ProtocolForm). IsBoundFault x b.high_place b.high f) c.in_ok-low.ensures.kept h)))
    c.in_err-high.field-0.0 c.from_residual-in_err-high.result c.in_err-high.ensures.refused c.from_residual-in_err-high.ensures.1

pub returns-then-low-high-clause-refused : goal.returns-then-low-high-clause-refused
returns-then-low-high-clause-refused c = λ none.
    let m = protocol_form c.args.constants.now in
    let b = bounds_form c.args.bounds in
    let kept = c.in_ok-low.ensures.kept in
    let low-is : c.in_ok-low.low ≡ value_of m b.low = c.in_ok-low.ensures.value none in
    let high-is : c.in_ok-high.high ≡ value_of m b.high = c.in_ok-high.ensures.value (subst HasNoSorts (sym kept) none) ∙ ap (λ (x : ProtocolForm). value_of x b.high) kept in
    let out : int_le c.in_ok-low.low c.in_ok-high.high ≡ false = grind (arith, ints) in
    let apart : int_le (value_of m b.low) (value_of m b.high) ≡ false =
    ap (λ (v : ℤ). int_le v (value_of m b.high)) (sym low-is) ∙ (ap (λ (v : ℤ). int_le c.in_ok-low.low v) (sym high-is) ∙ out) in
    subst (λ e. IfFault e (IsBoundsFault m b)) (sym c.refused.ensures) (inr (inr (refl, apart)))
