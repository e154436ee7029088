-- Facts of each element of a list, names among names, and small facts of Booleans and options.
use Rattle.std.proofs.Common.{◌≡◌, Bool, true, false, true≢false, not, ◌&&◌, ◌||◌, inl, inr, List, [], ◌∷◌, ◌++◌, flat_map, refl, sym, ap, ◌∙◌, subst}
use Rattle.std.specs.Prelude.{Some, None}
use Rattle.std.specs.Cmp.Lexicographic.{same_text}
use Rattle.std.proofs.lemmas.Bool.{or_cases, or_right}
use Rattle.std.proofs.lemmas.Slice.Eq.{bytes_eq-Decides}
use Rattle.pb_base_values.proofs.Tuples.{In}
use Rattle.pb_text_meaning.specs.Syntax.{Name, same_name}
use Rattle.pb_protocol_packing.specs.Apart.{Each, is_among}

pub neither : (b c : Bool) → (b || c) ≡ false → (b ≡ false) × (c ≡ false)
neither true c e = absurd (true≢false e)
neither false c e = (refl, e)

pub not-true : (b : Bool) → not b ≡ true → b ≡ false
not-true true e = absurd (true≢false (sym e))
not-true false e = refl

pub and-assoc : (a b c : Bool) → (a && (b && c)) ≡ ((a && b) && c)
and-assoc true b c = refl
and-assoc false b c = refl

pub some-is : {A : Type 0} (x y : A) → Some x ≡ Some y → x ≡ y
some-is x y e = cc

pub none-is : {P A : Type 0} (x : A) → None ≡ Some x → P
none-is x e = cc

pub each-same : {A : Type 0} (P Q : A → Type 0) (xs : List A) → ((x : A) → P x → Q x) → Each P xs → Each Q xs
each-same P Q [] f h = tt
each-same P Q (x ∷ xs) f h = (f x h.0, each-same P Q xs f h.1)

pub each-both : {A : Type 0} (P Q : A → Type 0) (xs : List A) → Each P xs → Each Q xs → Each (λ x. P x × Q x) xs
each-both P Q [] h k = tt
each-both P Q (x ∷ xs) h k = ((h.0, k.0), each-both P Q xs h.1 k.1)

pub each-front : {A : Type 0} (P : A → Type 0) (xs ys : List A) → Each P (xs ++ ys) → Each P xs
each-front P [] ys h = tt
each-front P (x ∷ xs) ys h = (h.0, each-front P xs ys h.1)

pub each-rest : {A : Type 0} (P : A → Type 0) (xs ys : List A) → Each P (xs ++ ys) → Each P ys
each-rest P [] ys h = h
each-rest P (x ∷ xs) ys h = each-rest P xs ys h.1

pub each-join : {A : Type 0} (P : A → Type 0) (xs ys : List A) → Each P xs → Each P ys → Each P (xs ++ ys)
each-join P [] ys h k = k
each-join P (x ∷ xs) ys h k = (h.0, each-join P xs ys h.1 k)

pub each-flat : {A B : Type 0} (P : B → Type 0) (f : A → List B) (xs : List A) → Each P (flat_map f xs) → Each (λ x. Each P (f x)) xs
each-flat P f [] h = tt
each-flat P f (x ∷ xs) h = (each-front P (f x) (flat_map f xs) h, each-flat P f xs (each-rest P (f x) (flat_map f xs) h))

pub each-in : {A : Type 0} (P : A → Type 0) (xs : List A) → ((x : A) → In x xs → P x) → Each P xs
each-in P [] h = tt
each-in P (x ∷ xs) h = (h x (inl refl), each-in P xs (λ y i. h y (inr i)))

pub same-itself : (x : Name) → same_name x x ≡ true
same-itself x = (bytes_eq-Decides x x).1 refl

pub apart-sym : (x y : Name) → same_name x y ≡ false → same_name y x ≡ false
apart-sym x y e = by (same_name y x) refl
  where
    by : (b : Bool) → same_name y x ≡ b → b ≡ false
    by true h = absurd (true≢false (sym ((bytes_eq-Decides x y).1 (sym (same_text y x (sym h)))) ∙ e))
    by false h = refl

pub each-among : (xs : List Name) → Each (λ x. is_among xs x ≡ true) xs
each-among xs = within xs (λ x e. e)
  where
    within : (ys : List Name) → ((x : Name) → is_among ys x ≡ true → is_among xs x ≡ true) → Each (λ x. is_among xs x ≡ true) ys
    within [] h = tt
    within (y ∷ ys) h = (h y (ap (λ b. b || is_among ys y) (same-itself y)), within ys (λ x e. h x (or_right (same_name y x) (is_among ys x) e)))

pub each-at : (P : Name → Type 0) (xs : List Name) (x : Name) → is_among xs x ≡ true → Each P xs → P x
each-at P [] x e h = absurd (true≢false (sym e))
each-at P (y ∷ xs) x e h = elim (or_cases (same_name y x) (is_among xs x) e) [ inl here ↦ subst P (same_text y x (sym here)) h.0 | inr later ↦ each-at P xs x later h.1 ]
