-- Digits of a number, the least first.
use Rattle.std.proofs.Common.{◌≡◌, ◌∙◌, ℕ, zero, suc, ◌+◌, ◌*◌, ◌/◌, ◌%◌, ◌<◌, ◌≤◌, if◌then◌else◌, List, [], ◌∷◌, ◌++◌, length, get_or, drop, codes, append_assoc, refl, sym, ap, ap₂, subst, arith}
use Rattle.std.specs.Prelude.{decimal, flat_map, reverse}
use Rattle.std.specs.Int.Digits.{digits_of}
use Rattle.std.proofs.lemmas.List.{append-nil, drop_more, reverse-append, reverse-reverse}
use Rattle.std.proofs.lemmas.Grind.{flat_map-append}
use borrow.Author.Tests.{ne_eqb}
use Rattle.std.proofs.Math.Nat.{add-mul-div_left, add-mul-mod_self_left, mul-add, mul-le-mul_right, mul-pos, mul_comm, mul_left_comm}
use Rattle.std.proofs.lemmas.Int.Digits.{digits_of_step}
use Rattle.pb_model_sizes.specs.Digits.{AreDigits, low_digits, number_of_digits, numeral}

-- the least digit, and those of the rest
pub low_digits-step : (n : ℕ) → 0 < n → low_digits n ≡ (n % 10) ∷ low_digits (n / 10)
low_digits-step n some = ap reverse (digits_of_step 10 n (omega arith) some) ∙ reverse-append (digits_of 10 (n / 10)) (n % 10 ∷ [])

-- the digits of a number are those of that number
number-low_within : (k n : ℕ) → n ≤ k → number_of_digits (low_digits n) ≡ n
number-low_within k zero below = refl
number-low_within zero (suc n) below = absurd (omega arith)
number-low_within (suc k) (suc n) below =
    ap number_of_digits (low_digits-step (suc n) (omega arith))
    ∙ (ap (λ (m : ℕ). suc n % 10 + 10 * m) (number-low_within k (suc n / 10) (omega arith)) ∙ (omega arith))

pub number-low_digits : (n : ℕ) → number_of_digits (low_digits n) ≡ n
number-low_digits n = number-low_within n n (omega arith)

-- the digits of a number are digits
pub are-low_digits : (n : ℕ) (ds : List ℕ) → ds ≡ low_digits n → AreDigits ds
are-low_digits n ds is = is ∙ ap low_digits (sym (number-low_digits n) ∙ ap number_of_digits (sym is))

-- ---- all but the least digit

pub record AreMore (d : ℕ) (ds : List ℕ) : Type 0 where
  pub rest : AreDigits ds
  pub some : 0 < number_of_digits (d ∷ ds)

digits-more : (d : ℕ) (ds : List ℕ) (n : ℕ) → n ≡ number_of_digits (d ∷ ds) → d ∷ ds ≡ low_digits n → AreMore d ds
digits-more d ds zero is are = absurd (cc are)
digits-more d ds (suc n) is are =
    let both : d ∷ ds ≡ (suc n % 10) ∷ low_digits (suc n / 10) = are ∙ low_digits-step (suc n) (omega arith) in
    let rest : ds ≡ low_digits (suc n / 10) = cc both in
    record { rest = are-low_digits (suc n / 10) ds rest; some = subst (λ (m : ℕ). 0 < m) is (omega arith) }

pub more_digits : (d : ℕ) (ds : List ℕ) → AreDigits (d ∷ ds) → AreMore d ds
more_digits d ds are = digits-more d ds (number_of_digits (d ∷ ds)) refl are

-- ---- a product with a carry

-- a carry is added to the least digit's product, and what is left of both goes on
spread : (f d v carry : ℕ) → f * (d + 10 * v) + carry ≡ (d * f + carry) + 10 * (f * v)
spread f d v carry =
    let whole : f * (d + 10 * v) ≡ d * f + 10 * (f * v) =
    mul-add f d (10 * v) ∙ (ap (λ (n : ℕ). n + f * (10 * v)) (mul_comm f d) ∙ ap (λ (n : ℕ). d * f + n) (mul_left_comm f 10 v)) in
    omega (arith, whole)

-- the next digit, and the digits of what is left
pub low_digits-product : (f d carry : ℕ) (ds : List ℕ) → 0 < f → AreDigits (d ∷ ds)
    → low_digits (f * number_of_digits (d ∷ ds) + carry) ≡ ((d * f + carry) % 10) ∷ low_digits (f * number_of_digits ds + (d * f + carry) / 10)
low_digits-product f d carry ds some are =
    let v = number_of_digits ds in
    let sum = d * f + carry in
    let total = f * (d + 10 * v) + carry in
    let positive : 0 < f * (d + 10 * v) = mul-pos some (more_digits d ds are).some in
    let is : total ≡ sum + 10 * (f * v) = spread f d v carry in
    let digit : total % 10 ≡ sum % 10 = ap (λ (n : ℕ). n % 10) is ∙ add-mul-mod_self_left sum 10 (f * v) in
    let rest : total / 10 ≡ f * v + sum / 10 = ap (λ (n : ℕ). n / 10) is ∙ (add-mul-div_left sum (f * v) (omega arith) ∙ (omega arith)) in
    low_digits-step total (omega arith) ∙ ap₂ (λ (x : ℕ) (n : ℕ). x ∷ low_digits n) digit rest

-- a digit's product fits
pub product-fits : (f d : ℕ) → d < 256 → f ≤ 4294967296 → d * f ≤ 1095216660480
product-fits f d small few =
    let product : d * f ≤ 255 * f = mul-le-mul_right f (omega arith) in
    omega arith

-- the carry stays small
pub carry-bound : (f d carry : ℕ) → d < 256 → carry ≤ 29 * f → d * f + carry ≤ 284 * f
carry-bound f d carry small few =
    let product : d * f ≤ 255 * f = mul-le-mul_right f (omega arith) in
    omega arith

-- ---- what is written

-- a number that has no digits is 0, and one that has some isn't
pub numeral-none : (ds : List ℕ) → AreDigits ds → length ds ≡ 0 → numeral (number_of_digits ds) ≡ codes "0"
numeral-none [] are none = refl
numeral-none (d ∷ ds) are none = absurd (omega arith)

numeral-positive : (n : ℕ) → 0 < n → numeral n ≡ flat_map decimal (digits_of 10 n)
numeral-positive n some = ap (λ b. if b then codes "0" else flat_map decimal (digits_of 10 n)) (ne_eqb n 0 (λ e. omega arith))

pub numeral-some : (ds : List ℕ) → AreDigits ds → (length ds ≡ 0 → ⊥) → numeral (number_of_digits ds) ≡ flat_map decimal (reverse ds)
numeral-some [] are some = absurd (some refl)
numeral-some (d ∷ ds) are some =
    let n = number_of_digits (d ∷ ds) in
    numeral-positive n (more_digits d ds are).some
    ∙ ap (flat_map decimal) (sym (ap reverse are ∙ reverse-reverse (digits_of 10 n)))

-- the digits from k on, the last first, with the one before them
pub reversed-next : (ds : List ℕ) (k : ℕ) → k < length ds → flat_map decimal (reverse (drop k ds)) ≡ flat_map decimal (reverse (drop (k + 1) ds)) ++ decimal (get_or ds k 0)
reversed-next ds k below =
    let d = get_or ds k 0 in
    let rest = drop (k + 1) ds in
    ap (λ (xs : List ℕ). flat_map decimal (reverse xs)) (drop_more ds k 0 below)
    ∙ (ap (flat_map decimal) (reverse-append (d ∷ []) rest)
    ∙ (flat_map-append decimal (reverse rest) (d ∷ []) ∙ ap (λ (t : List ℕ). flat_map decimal (reverse rest) ++ t) (append-nil (decimal d))))

-- so it is with the digit at j, which stands before those from i on
pub reversed-before : (ds init lines new : List ℕ) (i j : ℕ) → i ≡ j + 1 → j < length ds → lines ≡ init ++ flat_map decimal (reverse (drop i ds)) → new ≡ lines ++ decimal (get_or ds j 0)
    → new ≡ init ++ flat_map decimal (reverse (drop j ds))
reversed-before ds init lines new i j is below so_far made =
    let digit = decimal (get_or ds j 0) in
    let front = flat_map decimal (reverse (drop i ds)) in
    made
    ∙ (ap (λ (t : List ℕ). t ++ digit) so_far
    ∙ (append_assoc init front digit
    ∙ ap (λ (t : List ℕ). init ++ t) (ap (λ (n : ℕ). flat_map decimal (reverse (drop n ds)) ++ digit) is ∙ sym (reversed-next ds j below))))
