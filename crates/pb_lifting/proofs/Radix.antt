-- Mixed radix: comparing ranks is comparing their counts, the highest priority first.
use Rattle.std.proofs.Common.{◌≡◌, ◌≢◌, ◌⊎◌, ℕ, zero, suc, ◌+◌, ◌-◌, ◌*◌, ◌/◌, ◌%◌, ◌<◌, ◌≤◌, ◌==◌, if◌then◌else◌, sym, refl, ap, ◌∙◌, subst, inl, inr, ⊎_elim, div-add-mod', mul-pos, mul_assoc, mul_comm, add-mul, add_assoc, one-mul, arith}
use Rattle.std.proofs.lemmas.Nat.{mul-le, mul-add-lt, mod-mul-add, div-mul-add, div_below, le-div, mod_below}
use Rattle.std.proofs.Math.Nat.{mul-add-div_right}
use Rattle.std.proofs.lemmas.Bool.{cases_lt}
use mathlib.Core.Logic.{dite}
use native.Mathlib.Decide.{ℕ_discrete}
use Rattle.pb_fixpoint_trees.specs.Players.{parity_of}
use Rattle.pb_fixpoint_trees.specs.declared.player.Player.{Player}
use Rattle.pb_game.specs.Certificates.{Decreases, IsSame, IsProgress}
use Rattle.pb_lifting.specs.Radix.{unit, count_in, step_up}

-- the counts can't decrease both ways
one_way : (f t : ℕ → ℕ) (w : Player) (p limit : ℕ) → Decreases f t w p limit → Decreases t f w p limit → ⊥
one_way f t w p limit a b = grind (arith, a.same b.place, b.same a.place, a.less, b.less, a.below, b.below, a.losing, b.losing)

not_same : (f t : ℕ → ℕ) (w : Player) (p limit : ℕ) → Decreases f t w p limit → IsSame t f w p limit → ⊥
not_same f t w p limit a b = grind (arith, b.same a.place a.above a.below a.losing, a.less)

-- a quotient by a product
pub div_by_product : (n b u : ℕ) → 0 < b → 0 < u → n / (b * u) ≡ n / u / b
div_by_product n b u pb pu =
    let q = n / u / b in let m = n / u % b in let l = n % u in
    let small : m * u + l < b * u = subst (λ x. m * u + l < x) (mul_comm u b) (mul-add-lt m u l b (mod_below (n / u) b pb) (mod_below n u pu)) in
    let whole : q * (b * u) + (m * u + l) ≡ n =
    sym (add_assoc (q * (b * u)) (m * u) l)
    ∙ (ap (λ x. x + m * u + l) (sym (mul_assoc q b u))
    ∙ (ap (λ x. x + l) (sym (add-mul (q * b) m u))
    ∙ (ap (λ x. x * u + l) (div-add-mod' (n / u) b)
    ∙ div-add-mod' n u))) in
    ap (λ x. x / (b * u)) (sym whole) ∙ div-mul-add q (b * u) (m * u + l) small

-- the next place value, where the place is written `p + 1`
pub next_unit : (base : ℕ → ℕ) (p : ℕ) → unit base (p + 1) ≡ base p * unit base p
next_unit base p = let e : p + 1 ≡ suc p = omega arith in ap (unit base) e

-- the digit at a place, of what is left below the next place
pub digit : (n b u : ℕ) → 0 < b → 0 < u → n % (b * u) / u ≡ n / u % b
digit n b u pb pu =
    let whole = div-add-mod' n (b * u) in
    let q = n / (b * u) in let r = n % (b * u) in
    let upper : n / u ≡ q * b + r / u = ap (λ x. x / u) (sym whole) ∙ quotient q r in
    let small : r / u < b = div_below r u b pu (mod_below n (b * u) (mul-pos pb pu)) in
    sym (ap (λ x. x % b) upper ∙ remainder q (r / u) small)
  where
    quotient : (q r : ℕ) → (q * (b * u) + r) / u ≡ q * b + r / u
    quotient q r = ap (λ x. (x + r) / u) (sym (mul_assoc q b u)) ∙ mul-add-div_right pu (q * b) r

    remainder : (q d : ℕ) → d < b → (q * b + d) % b ≡ d
    remainder q d h = mod-mul-add q b d h

pub div_grows : (m n k : ℕ) → 0 < k → m ≤ n → m / k ≤ n / k
div_grows m n k pos h = let e = div-add-mod' m k in le-div (m / k) n k pos (omega arith)

pub mul_grows : (a b u : ℕ) → a ≤ b → a * u ≤ b * u
mul_grows a b u h = mul-le a u b u h (omega arith)

pub step_grows : (place top more m n : ℕ) → 0 < place → m ≤ n → step_up place top more m ≤ step_up place top more n
step_grows place top more m n pos h =
    let d = div_grows m n place pos h in
    let l = mul_grows (m / place + more) (n / place + more) place (omega arith) in
    omega arith

pub step_below : (place top more m : ℕ) → step_up place top more m ≤ top
step_below place top more m = omega arith

apart : (a b : ℕ) → a ≢ b → (a < b) ⊎ (b < a)
apart a b ne = ⊎_elim (λ (l : b < a). inr l) (λ (l : a ≤ b). inl (omega arith)) (cases_lt b a)

-- the bases are positive, and 1 where the priority has the player's parity
module _ (base : ℕ → ℕ) (player : Player) (width : ℕ) (positive : (q : ℕ) → 0 < base q) (one : (q : ℕ) → q % 2 ≡ parity_of player → base q ≡ 1) where
  pub unit_pos : (p : ℕ) → 0 < unit base p
  unit_pos zero = omega arith
  unit_pos (suc p) = mul-pos (positive p) (unit_pos p)

  pub next : (r p : ℕ) → r / unit base (suc p) ≡ r / unit base p / base p
  next r p = div_by_product r (base p) (unit base p) (positive p) (unit_pos p)

  -- a greater place value is a multiple
  pub multiple : (k p w : ℕ) → w ≡ p + k → (m : ℕ) × (unit base w ≡ m * unit base p)
  multiple zero p w e = let same : w ≡ p = omega arith in (1, ap (unit base) same ∙ sym (one-mul (unit base p)))
  multiple (suc k) p w e =
      let r = multiple k p (p + k) refl in let same : w ≡ suc (p + k) = omega arith in
      (base (p + k) * r.0, ap (unit base) same ∙ (ap (λ x. base (p + k) * x) r.1 ∙ sym (mul_assoc (base (p + k)) r.0 (unit base p))))

  none : (r : ℕ) → r < unit base width → r / unit base width ≡ 0
  none r h = let d = div_below r (unit base width) 1 (unit_pos width) (omega arith) in omega arith

  module _ (r s : ℕ) (rl : r < unit base width) (sl : s < unit base width) where
    pub same_counts : (k p : ℕ) → p + k ≡ width → s / unit base p ≡ r / unit base p → IsSame (count_in base r) (count_in base s) player p width
    same_counts zero p e h = record { same = λ q a b c. absurd (omega arith) }
    same_counts (suc k) p e h =
        let up : s / unit base (suc p) ≡ r / unit base (suc p) = next s p ∙ (ap (λ x. x / base p) h ∙ sym (next r p)) in
        let i = same_counts k (suc p) (omega arith) up in
        record {
          same = λ q a b c. dite (ℕ_discrete q p)
              (λ (f : q ≡ p). subst (λ x. count_in base s x ≡ count_in base r x) (sym f) (ap (λ x. x % base p) h))
              (λ ne. i.same q (omega arith) b c);
        }

    pub lower_counts : (k p : ℕ) → p + k ≡ width → s / unit base p < r / unit base p → Decreases (count_in base r) (count_in base s) player p width
    lower_counts zero p e h = let a : unit base p ≡ unit base width = ap (unit base) (omega arith) in
        let x = none r rl in let y : r / unit base p ≡ r / unit base width = ap (λ z. r / z) a in absurd (omega arith)
    lower_counts (suc k) p e h =
        let R = r / unit base p in let S = s / unit base p in
        let up = div_grows S R (base p) (positive p) (omega arith) in
        let nr = next r p in let ns = next s p in
        dite (ℕ_discrete (S / base p) (R / base p))
        (λ (f : S / base p ≡ R / base p).
        let dr = div-add-mod' R (base p) in let ds = div-add-mod' S (base p) in
        let fm : S / base p * base p ≡ R / base p * base p = ap (λ x. x * base p) f in
        let less : S % base p < R % base p = omega arith in
        let i = same_counts k (suc p) (omega arith) (ns ∙ (f ∙ sym nr)) in
        record {
          place = p;
          above = omega arith;
          below = omega arith;
          losing = λ parity. let b = one p parity in let m = mod_below R (base p) (positive p) in absurd (omega arith);
          less = less;
          same = λ q a b c. i.same q (omega arith) b c;
        })
        (λ ne. let i = lower_counts k (suc p) (omega arith) (omega arith) in
        record { place = i.place; above = (let a = i.above in omega arith); below = i.below; losing = i.losing; less = i.less; same = i.same })

  -- the edge condition, as a comparison of what is left of the two ranks above the place
  module _ (r s p more : ℕ) (rl : r < unit base width) (sl : s < unit base width) (inside : p ≤ width) where
    gap : (k : ℕ) × (p + k ≡ width)
    gap = (width - p, omega arith)

    pub progress_is : more ≡ (if p % 2 == parity_of player then 0 else 1) → s / unit base p + more ≤ r / unit base p → IsProgress (count_in base r) (count_in base s) player p width
    progress_is is h = dite (ℕ_discrete (p % 2) (parity_of player))
        (λ (e : p % 2 ≡ parity_of player). dite (ℕ_discrete (s / unit base p) (r / unit base p))
        (λ same. inr (e, same_counts r s rl sl gap.0 p gap.1 same))
        (λ ne. inl (lower_counts r s rl sl gap.0 p gap.1 (omega arith))))
        (λ ne. let m : more ≡ 1 = grind (arith, is, ne) in inl (lower_counts r s rl sl gap.0 p gap.1 (omega arith)))

    pub is_progress : more ≡ (if p % 2 == parity_of player then 0 else 1) → IsProgress (count_in base r) (count_in base s) player p width → s / unit base p + more ≤ r / unit base p
    is_progress is (inl down) = let m : more ≤ 1 = grind (arith, is) in dite (ℕ_discrete (s / unit base p) (r / unit base p))
        (λ same. absurd (not_same _ _ _ _ _ down (same_counts s r sl rl gap.0 p gap.1 (sym same))))
        (λ ne. ⊎_elim (λ (l : s / unit base p < r / unit base p). omega arith)
        (λ (l : r / unit base p < s / unit base p). absurd
        (one_way _ _ _ _ _ down (lower_counts s r sl rl gap.0 p gap.1 l))) (apart (s / unit base p) (r / unit base p) ne))
    is_progress is (inr same) = let m : more ≡ 0 = grind (arith, is, same.0) in dite (ℕ_discrete (s / unit base p) (r / unit base p))
        (λ e. omega arith)
        (λ ne. ⊎_elim (λ (l : s / unit base p < r / unit base p). omega arith)
        (λ (l : r / unit base p < s / unit base p). absurd
        (not_same _ _ _ _ _ (lower_counts s r sl rl gap.0 p gap.1 l) same.1)) (apart (s / unit base p) (r / unit base p) ne))
