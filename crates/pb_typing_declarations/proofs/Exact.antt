-- A text has no fault in its declarations exactly where what it says is declared as it must be.
use Rattle.std.proofs.Common.{◌≡◌, ◌≢◌, ℕ, zero, suc, ◌<◌, false, not, ◌||◌, List, [], ◌∷◌, length, get_or, map, refl, sym, ◌∙◌, ap, arith, bytes_eq}
use Rattle.std.specs.Prelude.{All, flat_map}
use Rattle.std.specs.Cmp.Lexicographic.{other_text, same_text}
use Rattle.std.proofs.lemmas.Bool.{or_parts, false_from_ne_true, not-true, not_from_false}
use Rattle.std.proofs.lemmas.List.Elements.{All-cons, All-head, All-tail, All-nil}
use Rattle.pb_text_tree.specs.Form.{Named}
use Rattle.pb_text_meaning.specs.Syntax.{Name}
use Rattle.pb_typing_declarations.specs.declared.fault.TypingRule.TheVariants.{NameTwice}
use Rattle.pb_typing_declarations.specs.declared.fault.TypingFault.{TypingFault}
use Rattle.pb_typing_declarations.specs.Faults.{unless, is_among, repeated_after, repeated}
use Rattle.pb_typing_declarations.specs.WellDeclared.{AreApart}
use Rattle.pb_typing_declarations.proofs.Parts.{no_parts, no_whole, holds_unless, unless_holds}

-- ---- facts of all items

-- no item has a fault exactly where each is as it must be
module _ {A B : Type 0} (f : A → List TypingFault) (g : A → B) (P : B → Type 0) where
  pub each : ((x : A) → f x ≡ [] → P (g x)) → (xs : List A) → flat_map f xs ≡ [] → All P (map g xs)
  each to [] e = All-nil P
  each to (x ∷ xs) e = let p = no_parts (f x) (flat_map f xs) e in All-cons P (g x) (map g xs) (to x p.0) (each to xs p.1)

  pub each_clear : ((x : A) → P (g x) → f x ≡ []) → (xs : List A) → All P (map g xs) → flat_map f xs ≡ []
  each_clear from [] h = refl
  each_clear from (x ∷ xs) h = no_whole (f x) (flat_map f xs) (from x (All-head P (g x) (map g xs) h)) (each_clear from xs (All-tail P (g x) (map g xs) h))

-- ---- names apart

other_names : (x y : Name) → x ≢ y → bytes_eq x y ≡ false
other_names x y h = false_from_ne_true (bytes_eq x y) (λ e. h (same_text x y (sym e)))

pairs_cons : (x : Name) (xs : List Name) → All (λ (y : Name). x ≢ y) xs → AreApart xs → AreApart (x ∷ xs)
pairs_cons x xs h hs zero zero d lt below = absurd (omega arith)
pairs_cons x xs h hs zero (suc j) d lt below = h j d (omega arith)
pairs_cons x xs h hs (suc i) zero d lt below = absurd (omega arith)
pairs_cons x xs h hs (suc i) (suc j) d lt below = hs i j d (omega arith) (omega arith)

pairs_head : (x : Name) (xs : List Name) → AreApart (x ∷ xs) → All (λ (y : Name). x ≢ y) xs
pairs_head x xs h k d below = h zero (suc k) d (omega arith) (omega arith)

pairs_tail : (x : Name) (xs : List Name) → AreApart (x ∷ xs) → AreApart xs
pairs_tail x xs h i j d lt below = h (suc i) (suc j) d (omega arith) (omega arith)

abbrev pub texts : List Named → List Name
texts = map (λ (x : Named). x.text)

-- what no fault says of names behind others
record StandApart (before : List Name) (xs : List Named) : Type 0 where
  apart : AreApart (texts xs)
  unseen : All (λ (x : Name). is_among before x ≡ false) (texts xs)

stand_apart : (before : List Name) (xs : List Named) → repeated_after before xs ≡ [] → StandApart before xs
stand_apart before [] e = record { apart = λ i j d lt below. absurd (omega (arith, below)); unseen = λ k d below. absurd (omega (arith, below)) }
stand_apart before (x ∷ xs) e =
    let p = no_parts (unless (not (is_among before x.text)) NameTwice x.place) (repeated_after (x.text ∷ before) xs) e in
    let rest = stand_apart (x.text ∷ before) xs p.1 in
    let behind : (k : ℕ) (d : Name) → k < length (texts xs) → (bytes_eq x.text (get_or (texts xs) k d) ≡ false) × (is_among before (get_or (texts xs) k d) ≡ false) =
    λ k d lt. or_parts (bytes_eq x.text (get_or (texts xs) k d)) (is_among before (get_or (texts xs) k d)) (rest.unseen k d lt) in
    record {
      apart = pairs_cons x.text (texts xs) (λ k d lt is. other_text x.text (get_or (texts xs) k d) (sym (behind k d lt).0) is) rest.apart;
      unseen = All-cons (λ (y : Name). is_among before y ≡ false) x.text (texts xs) (not-true _ (holds_unless _ _ _ p.0)) (λ k d lt. (behind k d lt).1);
    }

stand_clear : (before : List Name) (xs : List Named) → StandApart before xs → repeated_after before xs ≡ []
stand_clear before [] h = refl
stand_clear before (x ∷ xs) h =
    let first = pairs_head x.text (texts xs) h.apart in
    no_whole (unless (not (is_among before x.text)) NameTwice x.place) _
    (unless_holds _ _ _ (not_from_false _ (All-head (λ (y : Name). is_among before y ≡ false) x.text (texts xs) h.unseen)))
    (stand_clear (x.text ∷ before) xs (record {
      apart = pairs_tail x.text (texts xs) h.apart;
      unseen = λ k d lt.
          ap (λ b. b || is_among before (get_or (texts xs) k d)) (other_names x.text (get_or (texts xs) k d) (first k d lt))
          ∙ All-tail (λ (y : Name). is_among before y ≡ false) x.text (texts xs) h.unseen k d lt;
    }))

pub apart : (xs : List Named) → repeated xs ≡ [] → AreApart (texts xs)
apart xs e = (stand_apart [] xs e).apart

pub apart_clear : (xs : List Named) → AreApart (texts xs) → repeated xs ≡ []
apart_clear xs h = stand_clear [] xs (record { apart = h; unseen = λ k d below. refl })
