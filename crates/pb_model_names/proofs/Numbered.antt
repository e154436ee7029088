-- Numbers are tried one after another, and those of which it is known that they are taken needn't be.
use Rattle.std.proofs.Common.{◌≡◌, ℕ, zero, suc, Bool, true, false, if◌then◌else◌, List, [], ◌∷◌, ◌++◌, ◌+◌, ◌-◌, ◌<◌, ◌≤◌, ◌^◌, length, refl, sym, ap, ◌∙◌, arith}
use Rattle.std.specs.Prelude.{max}
use Rattle.std.specs.List.{list_any}
use Rattle.pb_text_meaning.specs.Syntax.{Name, same_name}
use Rattle.pb_model_translation.specs.Names.{longest, numbered, first_numbered}
use Rattle.pb_model_translation.proofs.Short.{numbers-taken}

pub longest-append : (xs ys : List Name) → longest (xs ++ ys) ≡ max (longest xs) (longest ys)
longest-append [] ys = omega arith
longest-append (x ∷ xs) ys = ap (max (length x)) (longest-append xs ys) ∙ omega arith

module _ (taken : List Name) (x : Name) where
  abbrev is_taken : ℕ → Bool
  is_taken k = list_any (same_name (numbered x k)) taken

  first : (k n more : ℕ) (b : Bool) → n ≡ suc more → is_taken k ≡ b → first_numbered taken x k n ≡ (if b then first_numbered taken x (suc k) more else numbered x k)
  first k n more b e is = ap (first_numbered taken x k) e ∙ ap (λ (b : Bool). if b then first_numbered taken x (suc k) more else numbered x k) is

  -- so many numbers are taken
  past : (j k t more n : ℕ) → t ≡ k + j → n ≡ j + more → ((i : ℕ) → k ≤ i → i < t → is_taken i ≡ true) → first_numbered taken x k n ≡ first_numbered taken x t more
  past zero k t more n to fits h =
      ap (first_numbered taken x k) (let e : n ≡ more = omega (arith, fits) in e) ∙ ap (λ (i : ℕ). first_numbered taken x i more) (let e : k ≡ t = omega (arith, to) in e)
  past (suc j) k t more n to fits h =
      first k n (j + more) true (omega (arith, fits)) (h k (omega arith) (omega (arith, to)))
      ∙ past j (suc k) t more (j + more) (omega (arith, to)) refl (λ i above below. h i (omega (arith, above)) below)

  -- the first that isn't
  pub first-free : (k : ℕ) → 0 < k → k < 2 ^ 64 → ((i : ℕ) → 0 < i → i < k → is_taken i ≡ true) → is_taken k ≡ false → numbered x k ≡ first_numbered taken x 1 (suc (length taken))
  first-free k some small h free =
      let most = numbers-taken taken x k some small h in
      let rest = suc (length taken) - k in
      sym (past (k - 1) 1 k (suc rest) (suc (length taken)) (omega (arith, some)) (omega (arith, some, most)) (λ i above below. h i (omega (arith, above)) below)
      ∙ first k (suc rest) rest false refl free)
