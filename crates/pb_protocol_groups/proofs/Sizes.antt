-- Members whose values are few together.
use Rattle.std.proofs.Common.{◌≡◌, ℕ, zero, suc, ◌<◌, ◌≤◌, ◌*◌, ◌+◌, Bool, true, false, List, [], ◌∷◌, drop, length, get_or, refl, sym, ap, ◌∙◌, arith}
use Rattle.std.specs.Prelude.{nat_lt, nat_le, ◌&&◌}
use Rattle.std.proofs.Math.Nat.{mul-le-mul_left}
use Rattle.std.proofs.lemmas.Bool.{and_from, lt-ltb, eq-eqb, lt-leb, leb-false}
use Rattle.pb_protocol_packing.specs.declared.limits.TheConstants.{MAX_GROUP_VALUES}
use Rattle.pb_protocol_packing.specs.Packing.{Member, capacity}
use Rattle.pb_protocol_packer.specs.declared.member.Member as declared_member
use Rattle.pb_protocol_packer.specs.Members.{are_weighted, member_of, members_said}
use Rattle.std.proofs.lemmas.List.{at_drop_more}
use Rattle.pb_model_meaning.specs.Syntax.{Model}
use Rattle.pb_protocol_groups.specs.declared.state_variables.StateVariable.{StateVariable}
use Rattle.pb_protocol_packing.specs.Sizes.{is_few, are_few}
use Rattle.pb_protocol_groups.specs.Variables.{as_member, members_for}

-- members as the program has made them, with how many values they have together
pub record AreMembers (ps : List Member) (made : List declared_member.Member) (n : ℕ) : Type 0 where
  pub members : members_said made ≡ ps
  pub weighted : are_weighted made ≡ true
  pub counted : n ≡ capacity ps
  pub some : 0 < n
  pub few : n ≤ MAX_GROUP_VALUES

-- ---- numbers

above : (m : ℕ) → MAX_GROUP_VALUES < m → is_few m ≡ false
above m h = by (nat_lt 0 m) (lt-leb m MAX_GROUP_VALUES h)
  where
    by : (b : Bool) {d : Bool} → d ≡ false → (b && d) ≡ false
    by true e = e
    by false e = refl

is-above : (m : ℕ) → 0 < m → is_few m ≡ false → MAX_GROUP_VALUES < m
is-above m some h = leb-false m MAX_GROUP_VALUES (sym (ap (λ (b : Bool). b && nat_le m MAX_GROUP_VALUES) (lt-ltb 0 m some)) ∙ h)

pub many-times : (s n : ℕ) → is_few s ≡ false → 0 < n → is_few (s * n) ≡ false
many-times zero n h some = ap is_few (let e : 0 * n ≡ 0 = omega arith in e)
many-times (suc s) n h some =
    let one : 1 ≤ n = omega (arith, some) in
    let product : suc s * 1 ≤ suc s * n = mul-le-mul_left (suc s) one in
    above (suc s * n) (omega (arith, product, is-above (suc s) (omega arith) h))

times-many : (s n : ℕ) → is_few n ≡ false → is_few (s * n) ≡ false
times-many s zero h = ap is_few (let e : s * 0 ≡ 0 = omega arith in e)
times-many zero (suc n) h = ap is_few (let e : 0 * suc n ≡ 0 = omega arith in e)
times-many (suc s) (suc n) h =
    let one : 1 ≤ suc s = omega arith in
    let product : suc n * 1 ≤ suc n * suc s = mul-le-mul_left (suc n) one in
    above (suc s * suc n) (omega (arith, product, is-above (suc n) (omega arith) h))

-- ---- one member more

pub more-members : (p : Member) (ps : List Member) (m : declared_member.Member) (made : List declared_member.Member) (n larger : ℕ) → AreMembers ps made n
    → member_of m ≡ p → m.weight ≡ n → larger ≡ p.size * n → 0 < larger → larger ≤ MAX_GROUP_VALUES → AreMembers (p ∷ ps) (m ∷ made) larger
more-members p ps m made n larger h is weight product some few =
    let counts : m.weight ≡ capacity (members_said made) = weight ∙ h.counted ∙ sym (ap capacity h.members) in
    let positive : 0 < m.weight = omega (arith, weight, h.some) in
    record {
      members = ap (λ (q : Member). q ∷ members_said made) is ∙ ap (λ (qs : List Member). p ∷ qs) h.members;
      weighted = and_from _ _ (eq-eqb m.weight (capacity (members_said made)) counts) (and_from _ _ (lt-ltb 0 m.weight positive) h.weighted);
      counted = product ∙ ap (λ (k : ℕ). p.size * k) h.counted;
      some = some;
      few = few;
    }

-- ---- variables from one on, whose values are too many or none together: so are those of all

pub many-from : (m : Model) (xs : List StateVariable) (k : ℕ) → are_few (members_for m (drop k xs)) ≡ false → are_few (members_for m xs) ≡ false
many-from m xs zero h = h
many-from m [] (suc k) h = h
many-from m (x ∷ xs) (suc k) h = times-many (as_member m x).size (capacity (members_for m xs)) (many-from m xs k h)

pub refused-at : (m : Model) (xs : List StateVariable) (k i : ℕ) (x : StateVariable) (made : List declared_member.Member) (n : ℕ) → k + 1 ≡ i → k < length xs → x ≡ get_or xs k x
    → AreMembers (members_for m (drop i xs)) made n → is_few ((as_member m x).size * n) ≡ false → are_few (members_for m xs) ≡ false
refused-at m xs k i x made n next less is h many =
    many-from m xs k
    (at_drop_more (λ (ys : List StateVariable). are_few (members_for m ys)) xs k x less
    ∙ ap (λ (y : StateVariable). are_few (members_for m (y ∷ drop (k + 1) xs))) (sym is)
    ∙ ap (λ (j : ℕ). are_few (members_for m (x ∷ drop j xs))) next
    ∙ ap (λ (q : ℕ). is_few ((as_member m x).size * q)) (sym h.counted) ∙ many)

pub next-member : (m : Model) (xs : List StateVariable) (k i : ℕ) (x : StateVariable) → k + 1 ≡ i → k < length xs
    → x ≡ get_or xs k x → as_member m x ∷ members_for m (drop i xs) ≡ members_for m (drop k xs)
next-member m xs k i x next less is =
    sym (at_drop_more (λ (ys : List StateVariable). members_for m ys) xs k x less
    ∙ ap (λ (y : StateVariable). members_for m (y ∷ drop (k + 1) xs)) (sym is)
    ∙ ap (λ (j : ℕ). members_for m (x ∷ drop j xs)) next)
