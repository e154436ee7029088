use Rattle.std.proofs.Common.{◌≡◌, ℕ, ◌<◌, ◌≤◌, true, false, true≢false, Option, Some, None, IsSome, map, refl, sym, ⊎_elim, arith}
use Rattle.std.proofs.lemmas.Bool.{cases_lt}
use Rattle.std.proofs.lemmas.Option.{none-some}
use Rattle.pb_base_values.specs.Carrier.{tuple_count}
use Rattle.pb_sorts.specs.declared.counting.TheConstants.{MAX_NUMBERS}
use Rattle.pb_sorts.specs.Carrier.{values_of}
use Rattle.pb_sorts.specs.Layout.{lists_of, count_of}
use Rattle.pb_sorts.proofs.Equations.{equation_read, IsEquation}
use Rattle.pb_sorts.proofs.layout.count_instances.Goals as goal
use Rattle.pb_sorts.proofs.layout.count_instances.Goals.{After-deref}

-- where the test of a bound fails, the number is above it
above : (m n : ℕ) → (m ≤ n → false ≡ true) → n < m
above m n fails = ⊎_elim (λ (h : n < m). h) (λ (h : m ≤ n). absurd (true≢false (sym (fails h)))) (cases_lt n m)

-- too many instances, and no answer
refused : (limit : ℕ) (o : Option ℕ) (n : ℕ) → o ≡ None → limit < n → (IsSome o → n ≤ limit) × (n ≤ limit → IsSome o)
refused limit None n is many = (λ h. absurd (true≢false (sym h)), λ h. absurd (omega (arith, h, many)))
refused limit (Some m) n is many = absurd (none-some m (sym is))

read : (c : After-deref) → IsEquation c.args.equations.now c.loop-parameters.parameters-index c.deref.result.now
read c = equation_read c.args.equations.now c.loop-parameters.parameters-index c.parameters-item.result c.loop-parameters-test.true c.parameters-item.is c.deref.ensures.value

pub returns-in_err-count-clause-fits : goal.returns-in_err-count-clause-fits
returns-in_err-count-clause-fits c =
    let ends = (read (goal.at.returns-in_err-count-clause-fits c).After-deref).ends in
    let many = above (tuple_count (map values_of c.deref.result.now)) MAX_NUMBERS c.in_err-count.ensures.fits.1 in
    refused c.args.limit c.from_residual.result (count_of (lists_of c.args.equations.now)) c.from_residual.ensures (omega (arith, many, ends, c.requires))

pub returns-then-count-limit-clause-fits : goal.returns-then-count-limit-clause-fits
returns-then-count-limit-clause-fits c =
    let ends = (read (goal.at.returns-then-count-limit-clause-fits c).After-deref).ends in
    refused c.args.limit None (count_of (lists_of c.args.equations.now)) refl
    (omega (arith, c.if-count-limit.true, c.loop-parameters.invariant.counted, c.in_ok-count.ensures.count, ends))

pub loop-parameters-preserved : goal.loop-parameters-preserved
loop-parameters-preserved c = record {
  counted = omega (arith, c.loop-parameters.invariant.counted, c.in_ok-count.ensures.count, (read (goal.at.loop-parameters-preserved c).After-deref).next);
  few = c.if-count-limit.false;
}
