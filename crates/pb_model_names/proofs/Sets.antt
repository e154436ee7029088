-- Names as a set has them, and as a list does.
use Rattle.std.proofs.Common.{◌≡◌, ℕ, suc, ◌<◌, ◌≤◌, ◌^◌, Bool, true, false, cond, ◌||◌, List, [], ◌∷◌, ◌++◌, map, length, refl, sym, ap, ◌∙◌, append_assoc, bytes_eq, String, Global, subst, arith}
use Rattle.std.specs.Prelude.{string_bytes}
use Rattle.std.specs.HashSet.{IsEmpty, Updates, contains_text}
use Rattle.std.specs.List.{list_any}
use Rattle.std.specs.String.{string_eq}
use Rattle.std.proofs.lemmas.List.{append-nil}
use Rattle.std.proofs.lemmas.List.Folds.{list_any-append}
use Rattle.std.proofs.lemmas.Map.Text.{hash_set_updates_text}
use Rattle.std.proofs.lemmas.Slice.Eq.{bytes_eq-Decides}
use Rattle.pb_text_meaning.specs.Syntax.{Name, same_name}
use Rattle.pb_model_translation.specs.Names.{numbered, first_numbered, with_room, new_name}
use Rattle.pb_model_translation.proofs.Short.{numbers-taken}
use Rattle.pb_model_names.specs.Taken.{NameSet, IsSetOf, Adds, IsStart}
use Rattle.pb_model_names.proofs.Numbered.{first-free}

-- ---- a set as a list

abbrev pub listed : NameSet → List Name
listed set = map string_bytes set.keys

texts-any : (x : Name) (ks : List (String Global)) → list_any (λ k. bytes_eq x (string_bytes k)) ks ≡ list_any (same_name x) (map string_bytes ks)
texts-any x [] = refl
texts-any x (k ∷ ks) = ap (λ (b : Bool). bytes_eq x (string_bytes k) || b) (texts-any x ks)

pub listed-is_set : (set : NameSet) → IsSetOf (listed set) set
listed-is_set set x = texts-any x set.keys

texts-many : (ks : List (String Global)) → length (map string_bytes ks) ≡ length ks
texts-many [] = refl
texts-many (k ∷ ks) = ap suc (texts-many ks)

-- a number up to which all are taken is no more than one above how many names there are
pub start-most : (set : NameSet) (x : Name) (k : ℕ) → k < 2 ^ 64 → IsStart set x k → k ≤ suc (length set.keys)
start-most set x k small h =
    let most = numbers-taken (listed set) x k h.0 small (λ i some below. sym (listed-is_set set (numbered x i)) ∙ h.1 i some below) in
    omega (arith, most, texts-many set.keys)

-- ---- names that come to be in a set

pub empty-is_set : (set : NameSet) → IsEmpty set → IsSetOf [] set
empty-is_set set e x = ap (list_any (λ (k : String Global). bytes_eq x (string_bytes k))) e

pub adds-none : (a : NameSet) → Adds a a []
adds-none a names h = subst (λ (xs : List Name). IsSetOf xs a) (sym (append-nil names)) h

pub adds-both : (a b c : NameSet) (xs ys all : List Name) → all ≡ xs ++ ys → Adds a b xs → Adds b c ys → Adds a c all
adds-both a b c xs ys all e first second names h =
    subst (λ (zs : List Name). IsSetOf zs c) (append_assoc names xs ys ∙ ap (λ (zs : List Name). names ++ zs) (sym e)) (second (names ++ xs) (first names h))

same-swapped : (x y : Name) → bytes_eq x y ≡ same_name y x
same-swapped x y = by (bytes_eq x y) refl
  where
    other : (b : Bool) → bytes_eq x y ≡ false → same_name y x ≡ b → false ≡ b
    other false apart e = refl
    other true apart e = sym apart ∙ (bytes_eq-Decides x y).1 (sym ((bytes_eq-Decides y x).0 e))

    by : (b : Bool) → bytes_eq x y ≡ b → b ≡ same_name y x
    by true e = sym ((bytes_eq-Decides y x).1 (sym ((bytes_eq-Decides x y).0 e)))
    by false e = other (same_name y x) e refl

chosen : (a b : Bool) → cond a true b ≡ (b || (a || false))
chosen true true = refl
chosen true false = refl
chosen false true = refl
chosen false false = refl

pub adds-one : (old new : NameSet) (key : String Global) (x : Name) → Updates string_eq old new key true → string_bytes key ≡ x → Adds old new (x ∷ [])
adds-one old new key x put is names h y =
    hash_set_updates_text (string_bytes key) old new true put y
    ∙ ap (λ (b : Bool). cond b true (contains_text old y)) (same-swapped (string_bytes key) y ∙ ap (same_name y) is)
    ∙ ap (cond (same_name y x) true) (h y)
    ∙ chosen (same_name y x) (list_any (same_name y) names)
    ∙ sym (list_any-append (same_name y) names (x ∷ []))

-- ---- a new name

module _ (set : NameSet) (names : List Name) (is_set : IsSetOf names set) where
  pub name-free : (x : Name) → contains_text set x ≡ false → x ≡ new_name names x
  name-free x free = ap (λ (b : Bool). cond b (first_numbered names (with_room x) 1 (suc (length names))) x) (sym free ∙ is_set x)

  pub name-numbered : (x : Name) (k : ℕ) → contains_text set x ≡ true → k < 2 ^ 64 → IsStart set (with_room x) k → contains_text set (numbered (with_room x) k) ≡ false
      → numbered (with_room x) k ≡ new_name names x
  name-numbered x k taken small start free =
      first-free names (with_room x) k start.0 small (λ i some below. sym (is_set (numbered (with_room x) i)) ∙ start.1 i some below)
      (sym (is_set (numbered (with_room x) k)) ∙ free)
      ∙ ap (λ (b : Bool). cond b (first_numbered names (with_room x) 1 (suc (length names))) x) (sym taken ∙ is_set x)
