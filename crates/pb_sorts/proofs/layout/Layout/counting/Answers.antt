use Rattle.std.proofs.Common.{◌≡◌, ℕ, ◌≤◌, Option, None, Some, IfSome, map, ◌∙◌, sym, arith}
use Rattle.std.proofs.lemmas.Option.{none-some, same_Some}
use Rattle.pb_base_values.specs.Carrier.{tuple_count}
use Rattle.pb_sorts.specs.declared.counting.TheConstants.{MAX_NUMBERS}
use Rattle.pb_sorts.specs.Carrier.{values_of}
use Rattle.pb_sorts.specs.Instance.{first_of}
use Rattle.pb_sorts.specs.Layout.{carriers_of, count_of, lists_of}
use Rattle.pb_sorts.proofs.Equations.{equation_read, IsEquation}
use Rattle.pb_sorts.proofs.Building.{copied_more, starts_more, length-pushed, built}
use Rattle.pb_sorts.proofs.layout.Layout.counting.Goals as goal
use Rattle.pb_sorts.proofs.layout.Layout.counting.Goals.{After-deref-in-loop-parameters, After-unwrap}

few : (c : After-deref-in-loop-parameters) → count_of (lists_of c.args.equations.now) ≤ MAX_NUMBERS
few c = omega (arith, c.count_instances.ensures.fits.0 c.if-is_none.ensures, c.limit.ensures.few)

read : (c : After-deref-in-loop-parameters) → IsEquation c.args.equations.now c.loop-parameters.parameters-index c.deref-in-loop-parameters.result.now
read c =
    equation_read c.args.equations.now c.loop-parameters.parameters-index c.parameters-item.result
    c.loop-parameters-test.true c.parameters-item.is c.deref-in-loop-parameters.ensures.value

pub unwrap-requires : goal.unwrap-requires
unwrap-requires c =
    let at = (goal.at.unwrap-requires c).After-deref-in-loop-parameters in
    c.count_tuples.ensures.fits.1 (omega (arith, few at, (read at).ends))

counted : (o : Option ℕ) (m n : ℕ) → o ≡ Some n → IfSome o (λ x. x ≡ m) → n ≡ m
counted None m n is h = absurd (none-some n is)
counted (Some x) m n is h = sym (same_Some x n is) ∙ h

size : (c : After-unwrap) → c.unwrap.result ≡ tuple_count (map values_of c.deref-in-loop-parameters.result.now)
size c =
    counted c.count_tuples.result (tuple_count (map values_of c.deref-in-loop-parameters.result.now))
    c.unwrap.result c.unwrap.ensures c.count_tuples.ensures.count

pub overflow_add-first : goal.overflow_add-first
overflow_add-first c =
    let at = goal.at.overflow_add-first c in
    omega (
      arith,
      few at.After-deref-in-loop-parameters,
      (read at.After-deref-in-loop-parameters).ends,
      size at.After-unwrap,
      c.loop-parameters.invariant.next,
    )

pub loop-parameters-preserved : goal.loop-parameters-preserved
loop-parameters-preserved c =
    let at = goal.at.loop-parameters-preserved c in
    let loop = c.loop-parameters in
    let k = loop.parameters-index in
    record {
      copied = copied_more c.args.equations.now loop.carriers.items c.push-in-loop-parameters.new.self.items k c.parameters-item.result
          c.in_ok-from_slice.field-0 c.loop-parameters-test.true c.parameters-item.is
          (c.in_ok-from_slice.ensures.items ∙ c.deref.ensures.value) c.in_ok-push-2.ensures.items loop.invariant.copied;
      long = length-pushed loop.firsts.items c.push.new.self.items loop.first k c.in_ok-push.ensures.items loop.invariant.long;
      starts = starts_more loop.firsts.items c.push.new.self.items loop.first k (first_of (carriers_of (lists_of c.args.equations.now)))
          c.in_ok-push.ensures.items loop.invariant.long loop.invariant.next loop.invariant.starts;
      next = omega (arith, (read at.After-deref-in-loop-parameters).next, size at.After-unwrap, loop.invariant.next);
    }

pub invariant_of-result : goal.invariant_of-result
invariant_of-result c =
    let loop = c.loop-parameters in
    built c.args.equations.now loop.carriers.items loop.firsts.items c.push-2.new.self.items loop.first
    loop.parameters-index c.loop-parameters-test.false loop.auto.parameters-index-end loop.invariant.copied
    c.in_ok-push-3.ensures.items loop.invariant.long loop.invariant.next loop.invariant.starts c.requires.equations c.requires.parameters (omega (arith, c.count_instances.ensures.fits.0 c.if-is_none.ensures, c.limit.ensures.few))
