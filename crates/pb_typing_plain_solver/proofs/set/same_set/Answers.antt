use Rattle.std.proofs.Common.{◌≡◌, ◌+◌, ℕ, Bool, true, false, not, arith, sym, subst, ◌∙◌, get_or, refl, true≢false}
use Rattle.std.specs.Bool.{beq}
use Rattle.pb_sorts.specs.Instance.{first_of, size_of}
use Rattle.pb_sorts.specs.Layout.{carriers_of}
use Rattle.pb_typing_plain_solver.proofs.Ranges.{is_between, between_none, between_grows}
use Rattle.pb_typing_plain_solver.proofs.set.same_set.Goals as goal

same_truth : (a b : Bool) → not (beq a b) ≡ false → b ≡ a
same_truth true true e = refl
same_truth true false e = absurd (true≢false e)
same_truth false true e = absurd (true≢false e)
same_truth false false e = refl

pub loop-number-init : goal.loop-number-init
loop-number-init c =
    let first = first_of (carriers_of c.args.turn.now.typed.now.layout) c.args.turn.now.equation in
    λ n between. absurd (true≢false (sym (subst (λ (k : ℕ). is_between first k n ≡ true) c.numbers_of-numbers.ensures.start between) ∙ between_none first n))

pub loop-number-preserved : goal.loop-number-preserved
loop-number-preserved c =
    let first = first_of (carriers_of c.args.turn.now.typed.now.layout) c.args.turn.now.equation in
    between_grows first c.loop-number.number (λ n. get_or c.args.right.now n false ≡ get_or c.args.left.now n false) c.loop-number.invariant (same_truth _ _ c.if-left-number.false)

pub returns : goal.returns
returns c =
    let css = carriers_of c.args.turn.now.typed.now.layout in
    let first = first_of css c.args.turn.now.equation in
    let numbers = c.numbers_of-numbers.ensures in
    let all : c.loop-number.number ≡ first + size_of css c.args.turn.now.equation =
    omega (arith, numbers.start, numbers.end, c.loop-number.auto.number, c.loop-number.auto.number-end, c.loop-number-test.false) in
    λ yes n own. c.loop-number.invariant n (subst (λ (k : ℕ). is_between first k n ≡ true) (sym all) own)
