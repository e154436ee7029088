-- Terms over enumerators that are made from the last one on.
use Rattle.std.proofs.Common.{◌≡◌, ℕ, zero, suc, ◌+◌, ◌<◌, List, [], ◌∷◌, get_or, drop, length, refl, sym, ap, ◌∙◌, arith}
use Rattle.std.proofs.lemmas.List.{at_drop_more, at_drop_all}
use Rattle.pb_text_tree.specs.declared.name.Name as declared_name
use Rattle.pb_text_meaning.specs.Syntax.{Name, Term}
use Rattle.pb_protocol_packing.specs.Numbers.{place_of}
use Rattle.pb_protocol_packer.specs.View.{name_bytes, texts_of}

module _ (F : ℕ → List Name → Term) where
  -- the last one alone
  pub last-at : (L : Name → Term) → ((k : ℕ) (e : Name) → F k (e ∷ []) ≡ L e) →
      (k : ℕ) (names : List declared_name.Name) (n : declared_name.Name) → k + 1 ≡ length names → n ≡ get_or names k n → F k (texts_of (drop k names)) ≡ L (name_bytes n)
  last-at L says k names n last is =
      at_drop_more (λ (ns : List declared_name.Name). F k (texts_of ns)) names k n (omega (arith, last))
      ∙ at_drop_all (λ (ns : List declared_name.Name). F k (name_bytes (get_or names k n) ∷ texts_of ns)) names (k + 1) (omega (arith, last))
      ∙ says k (name_bytes (get_or names k n)) ∙ ap (λ (m : declared_name.Name). L (name_bytes m)) (sym is)

  -- one in front of others
  pub next-at : (G : ℕ → Name → Term → Term) → ((k : ℕ) (e f : Name) (es : List Name) → F k (e ∷ f ∷ es) ≡ G k e (F (suc k) (f ∷ es))) →
      (k : ℕ) (names : List declared_name.Name) (n : declared_name.Name) → k + 1 < length names → n ≡ get_or names k n
      → F k (texts_of (drop k names)) ≡ G k (name_bytes n) (F (k + 1) (texts_of (drop (k + 1) names)))
  next-at G says k names n less is =
      let m = get_or names (k + 1) n in
      let rest = texts_of (drop (k + 1 + 1) names) in
      at_drop_more (λ (ns : List declared_name.Name). F k (texts_of ns)) names k n (omega (arith, less))
      ∙ at_drop_more (λ (ns : List declared_name.Name). F k (name_bytes (get_or names k n) ∷ texts_of ns)) names (k + 1) n less
      ∙ says k (name_bytes (get_or names k n)) (name_bytes m) rest
      ∙ ap (λ (o : declared_name.Name). G k (name_bytes o) (F (suc k) (name_bytes m ∷ rest))) (sym is)
      ∙ ap (λ (j : ℕ). G k (name_bytes n) (F j (name_bytes m ∷ rest))) (let e : suc k ≡ k + 1 = omega arith in e)
      ∙ sym (at_drop_more (λ (ns : List declared_name.Name). G k (name_bytes n) (F (k + 1) (texts_of ns))) names (k + 1) n less)

-- the place of the last one is written
pub place-last : (names : List declared_name.Name) (j k : ℕ) (x : Term) → k + 1 ≡ length names → place_of j (texts_of (drop k names)) x ≡ Term.Number j
place-last [] j k x e = absurd (omega (arith, e))
place-last (n ∷ []) j zero x e = refl
place-last (n ∷ m ∷ names) j zero x e = absurd (omega (arith, e))
place-last (n ∷ names) j (suc k) x e = place-last names j k x (omega (arith, e))
