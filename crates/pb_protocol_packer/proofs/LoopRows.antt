-- What a loop over a list keeps: what it made so far, with what is left, makes the whole.
use Rattle.std.proofs.Common.{◌≡◌, ◌∙◌, ℕ, ◌+◌, ◌<◌, ◌≤◌, ◌++◌, List, [], ◌∷◌, map, ap, sym, append_assoc, length, get_or, drop}
use Rattle.std.proofs.lemmas.List.{at_drop_more, at_drop_all, map-append, append-nil}
use Rattle.pb_text_tree.specs.declared.term.Argument.{Argument}
use Rattle.pb_text_meaning.specs.Syntax.{Term, Terms}
use Rattle.pb_protocol_packer.specs.View.{term_of}
use Rattle.pb_protocol_packer.proofs.SaidNodes.{terms_behind, terms-behind-push}

-- where the next item is what was made of it
pub loop-goes : {A R : Type 0} (left : List A → R) (xs : List A) (k : ℕ) (x : A) (now whole : R) → k < length xs → x ≡ get_or xs k x → now ≡ left (x ∷ drop (k + 1) xs) → left (drop k xs) ≡ whole
    → now ≡ whole
loop-goes {A = A} left xs k x now whole within is made before =
    made ∙ ap (λ (y : A). left (y ∷ drop (k + 1) xs)) is ∙ sym (at_drop_more left xs k x within) ∙ before

pub loop-ends : {A R : Type 0} (left : List A → R) (xs : List A) (k : ℕ) (whole : R) → length xs ≤ k → left (drop k xs) ≡ whole → left [] ≡ whole
loop-ends left xs k whole end before = sym (at_drop_all left xs k end) ∙ before

-- a row to which one is added, in front of what is left
pub row-pushed : {A B : Type 0} (f : A → B) (new old : List A) (x : A) (y : B) (rest : List B) → new ≡ old ++ x ∷ [] → f x ≡ y → map f new ++ rest ≡ map f old ++ y ∷ rest
row-pushed {A = A} {B = B} f new old x y rest are is =
    ap (λ (xs : List A). map f xs ++ rest) are ∙ ap (λ (ys : List B). ys ++ rest) (map-append f old (x ∷ []))
    ∙ append_assoc (map f old) (f x ∷ []) rest ∙ ap (λ (z : B). map f old ++ z ∷ rest) is

pub row-ends : {A B : Type 0} (left : List A → List B) (made : List B) (xs : List A) (k : ℕ) (whole : List B) → left [] ≡ [] → length xs ≤ k → made ++ left (drop k xs) ≡ whole → made ≡ whole
row-ends {B = B} left made xs k whole none end before =
    sym (append-nil made) ∙ ap (λ (ys : List B). made ++ ys) (sym none) ∙ loop-ends (λ ys. made ++ left ys) xs k whole end before

pub terms-pushed : (new old : List Argument) (a : Argument) (x : Term) (rest : Terms) → new ≡ old ++ a ∷ [] → term_of a.term ≡ x → terms_behind new rest ≡ terms_behind old (Terms.Then x rest)
terms-pushed new old a x rest are is =
    ap (λ (ys : List Argument). terms_behind ys rest) are ∙ terms-behind-push old a rest ∙ ap (λ (z : Term). terms_behind old (Terms.Then z rest)) is
