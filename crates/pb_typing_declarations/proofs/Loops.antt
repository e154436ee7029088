-- What is left of a list as a loop goes over it, and lists that grow at their end.
use Rattle.std.proofs.Common.{◌≡◌, ℕ, ◌+◌, ◌<◌, ◌≤◌, List, [], ◌∷◌, ◌++◌, length, get_or, drop, map, sym, ◌∙◌, ap, subst}
use Rattle.std.proofs.lemmas.List.{append_assoc, drop_all}
use Rattle.std.specs.Prelude.{flat_map}
use Rattle.pb_sorts.proofs.Places.{drop-at}
use Rattle.pb_typing_declarations.specs.declared.fault.TypingFault.{TypingFault}
use Rattle.pb_base.specs.declared.or_memory.OrMemory.{OrMemory}
use Rattle.pb_typing_declarations.specs.Faults.{IsAmong}
use Rattle.pb_typing_declarations.proofs.Parts.{among_first}

module _ {X : Type 0} where
  pub one_more : (a : List X) (x : X) (z : List X) → a ++ (x ∷ z) ≡ (a ++ (x ∷ [])) ++ z
  one_more a x z = sym (append_assoc a (x ∷ []) z)

  pub more : (a b z : List X) → a ++ (b ++ z) ≡ (a ++ b) ++ z
  more a b z = sym (append_assoc a b z)

-- ---- faults of the items that are left

module _ {A B : Type 0} where
  -- a fault of the next item is one of all
  pub among_item : (f : B → List TypingFault) (g : A → B) (xs : List A) (k : ℕ) (x : A) (e : OrMemory TypingFault) → k < length xs → x ≡ get_or xs k x
      → flat_map f (map g xs) ≡ flat_map f (map g (drop k xs)) → IsAmong (f (g x)) e → IsAmong (flat_map f (map g xs)) e
  among_item f g xs k x e below at left h =
      among_first (flat_map f (map g xs)) (f (g x)) (flat_map f (map g (drop (k + 1) xs))) e
      (left ∙ ap (λ (ys : List A). flat_map f (map g ys)) (drop-at xs k x below at)) h

  -- behind the last item there is none
  pub all_clear : (f : B → List TypingFault) (g : A → B) (xs : List A) (k : ℕ) → length xs ≤ k → flat_map f (map g xs) ≡ flat_map f (map g (drop k xs)) → flat_map f (map g xs) ≡ []
  all_clear f g xs k h left = left ∙ ap (λ (ys : List A). flat_map f (map g ys)) (drop_all k xs h)

-- the same faults
pub among_same : (xs ys : List TypingFault) (e : OrMemory TypingFault) → xs ≡ ys → IsAmong ys e → IsAmong xs e
among_same xs ys e is h = subst (λ (zs : List TypingFault). IsAmong zs e) (sym is) h
