-- One digit more of the product.
use Rattle.std.proofs.Common.{◌≡◌, ◌∙◌, ℕ, ◌+◌, ◌*◌, ◌/◌, ◌%◌, ◌≤◌, List, [], ◌∷◌, ◌++◌, get_or, drop, append_assoc, sym, ap, subst, arith}
use Rattle.std.proofs.lemmas.List.{drop_all, drop_more}
use Rattle.pb_model_sizes.specs.Digits.{AreDigits, low_digits, number_of_digits}
use Rattle.pb_model_sizes.proofs.DigitLemmas.{carry-bound, low_digits-product, more_digits}
use Rattle.pb_model_sizes.proofs.number.product.Goals as goal

pub loop-digit-preserved : goal.loop-digit-preserved
loop-digit-preserved c =
    let f = c.args.factor in
    let digits = c.args.digits.now in
    let k = c.loop-digit.digit-index in
    let d = c.from.result in
    let same : d ≡ get_or digits k 0 = omega arith in
    let rest = drop (k + 1) digits in
    let carry = c.loop-digit.carry in
    let old = c.loop-digit.product.items in
    let next : drop k digits ≡ d ∷ rest = drop_more digits k 0 c.loop-digit-test.true ∙ ap (λ (x : ℕ). x ∷ rest) (sym same) in
    let are : AreDigits (d ∷ rest) = subst AreDigits next c.loop-digit.invariant.rest in
    let left = low_digits (f * number_of_digits rest + (d * f + carry) / 10) in
    let bound : d * f + carry ≤ 284 * f = carry-bound f d carry (omega arith) c.loop-digit.invariant.small in
    record {
      rest = (more_digits d rest are).rest;
      made = ap (λ (ds : List ℕ). ds ++ left) c.in_ok-push.ensures.items
          ∙ (append_assoc old ((d * f + carry) % 10 ∷ []) left
          ∙ (ap (λ (ds : List ℕ). old ++ ds) (sym (low_digits-product f d carry rest c.requires.some are))
          ∙ (ap (λ (ds : List ℕ). old ++ low_digits (f * number_of_digits ds + carry)) (sym next) ∙ c.loop-digit.invariant.made)));
      small = omega arith;
    }

pub returns : goal.returns
returns c =
    let f = c.args.factor in
    let old = c.loop-digit.product.items in
    let carry = c.loop-digit.carry in
    let end : drop c.loop-digit.digit-index c.args.digits.now ≡ [] = drop_all c.loop-digit.digit-index c.args.digits.now (omega (arith, c.loop-digit-test.false)) in
    let left : carry ≡ f * 0 + carry = omega arith in
    c.in_ok-push_digits.ensures
    ∙ (ap (λ (n : ℕ). old ++ low_digits n) left
    ∙ (ap (λ (ds : List ℕ). old ++ low_digits (f * number_of_digits ds + carry)) (sym end) ∙ c.loop-digit.invariant.made))
