-- Names of which none is repeated are distinct.
use Rattle.std.proofs.Common.{◌≡◌, Bool, true, false, true≢false, not, ◌||◌, ◌&&◌, List, [], ◌∷◌, ◌++◌, map, refl, sym, ◌∙◌, ap, bytes_eq}
use Rattle.std.proofs.lemmas.Bool.{eq-eqb}
use Rattle.std.specs.Cmp.Lexicographic.{same_text}
use Rattle.pb_text_tree.specs.Form.{Named}
use Rattle.pb_text_meaning.specs.Syntax.{Name, same_name}
use Rattle.pb_typing_declarations.specs.declared.fault.TypingRule.TheVariants.{NameTwice}
use Rattle.pb_typing_declarations.specs.Faults.{unless, is_among, repeated, repeated_after}
use Rattle.pb_typing_declarations.proofs.Parts.{no_parts, holds_unless}
use Rattle.pb_protocol_folding.specs.Names.{IsNot, AreDistinct}

abbrev pub texts : List Named → List Name
texts xs = map (λ (x : Named). x.text) xs

itself : (x : Name) → bytes_eq x x ≡ true
itself [] = refl
itself (n ∷ xs) = ap (λ b. b && bytes_eq xs xs) (eq-eqb n n refl) ∙ itself xs

-- two names that aren't one aren't either the other way round
pub turned : (x y : Name) → same_name x y ≡ false → same_name y x ≡ false
turned x y apart = by_case (same_name y x) refl
  where
    by_case : (b : Bool) → same_name y x ≡ b → b ≡ false
    by_case true same = absurd (true≢false (sym (itself x) ∙ (ap (λ (z : Name). same_name x z) (sym (same_text y x (sym same))) ∙ apart)))
    by_case false same = refl

other : (x y : Name) (before : List Name) → is_among before x ≡ true → not (is_among before y) ≡ true → same_name y x ≡ false
other x y before among new = by_case (same_name y x) refl
  where
    by_case : (b : Bool) → same_name y x ≡ b → b ≡ false
    by_case true same = absurd (true≢false (sym new ∙ (ap (λ (z : Name). not (is_among before z)) (same_text y x (sym same)) ∙ ap not among)))
    by_case false same = refl

or_true : (b c : Bool) → c ≡ true → (b || c) ≡ true
or_true true c e = refl
or_true false c e = e

or_left : (b c : Bool) → b ≡ true → (b || c) ≡ true
or_left b c e = ap (λ d. d || c) e

unseen : (x : Name) (before : List Name) (xs : List Named) → is_among before x ≡ true → repeated_after before xs ≡ [] → IsNot x (texts xs)
unseen x before [] among e = tt
unseen x before (y ∷ ys) among e =
    let new = unless (not (is_among before y.text)) NameTwice y.place in
    let parts = no_parts new (repeated_after (y.text ∷ before) ys) e in (
      other x y.text before among (holds_unless (not (is_among before y.text)) NameTwice y.place parts.0),
      unseen x
          (y.text ∷ before) ys (or_true (same_name y.text x) (is_among before x) among) parts.1,
    )

distinct-after : (before : List Name) (xs : List Named) → repeated_after before xs ≡ [] → AreDistinct (texts xs)
distinct-after before [] e = tt
distinct-after before (x ∷ xs) e =
    let parts = no_parts (unless (not (is_among before x.text)) NameTwice x.place) (repeated_after (x.text ∷ before) xs) e in
    (unseen x.text (x.text ∷ before) xs (or_left (same_name x.text x.text) (is_among before x.text) (itself x.text)) parts.1, distinct-after (x.text ∷ before) xs parts.1)

pub distinct : (xs : List Named) → repeated xs ≡ [] → AreDistinct (texts xs)
distinct xs e = distinct-after [] xs e

-- the first of distinct names

not-front : (x : Name) (xs ys : List Named) → IsNot x (texts (xs ++ ys)) → IsNot x (texts xs)
not-front x [] ys h = tt
not-front x (z ∷ zs) ys h = (h.0, not-front x zs ys h.1)

pub front : (xs ys : List Named) → AreDistinct (texts (xs ++ ys)) → AreDistinct (texts xs)
front [] ys h = tt
front (x ∷ xs) ys h = (not-front x.text xs ys h.0, front xs ys h.1)
