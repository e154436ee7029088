-- What is made of each element of a list in order, one element more.
use Rattle.std.proofs.Common.{◌≡◌, ◌∙◌, ℕ, ◌+◌, ◌<◌, List, [], ◌∷◌, ◌++◌, drop, get_or, length, map, sym, ap, subst, append_assoc}
use Rattle.std.specs.List.{All}
use Rattle.std.proofs.lemmas.List.{at_drop_more, map_push}
use Rattle.std.proofs.lemmas.List.Elements.{All-push}

-- what F says of a list is what f says of the elements that were made, and then what F says of the rest
pub next_made : {X Y : Type 0} (f : X → ℕ) (F : List Y → List ℕ) (new xs : List X) (ys : List Y) (i : ℕ) (x : X) (y d : Y) → new ≡ xs ++ x ∷ [] → i < length ys → y ≡ get_or ys i d
    → F (y ∷ drop (i + 1) ys) ≡ f x ∷ F (drop (i + 1) ys) → map f xs ++ F (drop i ys) ≡ F ys → map f new ++ F (drop (i + 1) ys) ≡ F ys
next_made f F new xs ys i x y d pushed within is step now =
    let rest = drop (i + 1) ys in
    let left : F (drop i ys) ≡ f x ∷ F rest = at_drop_more F ys i d within ∙ (ap (λ z. F (z ∷ rest)) (sym is) ∙ step) in
    let made : map f new ≡ map f xs ++ f x ∷ [] = ap (map f) pushed ∙ map_push f xs x in
    ap (λ (zs : List ℕ). zs ++ F rest) made ∙ (append_assoc (map f xs) (f x ∷ []) (F rest) ∙ (ap (λ (zs : List ℕ). map f xs ++ zs) (sym left) ∙ now))

pub all_pushed : {X : Type 0} (P : X → Type 0) (new xs : List X) (x : X) → new ≡ xs ++ x ∷ [] → All P xs → P x → All P new
all_pushed P new xs x pushed all one = subst (All P) (sym pushed) (All-push P xs x all one)

-- what holds of each holds of the one that is read
pub of_item : {X : Type 0} (P : X → Type 0) (xs : List X) (i : ℕ) (x : X) → All P xs → i < length xs → x ≡ get_or xs i x → P x
of_item P xs i x all within is = subst P (sym is) (all i x within)
