-- The places of enumerators and recognisers, over all structs.
use Rattle.std.proofs.Common.{◌≡◌, ℕ, suc, Bool, true, false, cond, List, [], ◌∷◌, ◌++◌, length, refl, ◌∙◌, ap}
use Rattle.std.specs.Prelude.{Option, Some, None}
use Rattle.std.specs.Option.{option_map}
use Rattle.pb_text_meaning.specs.Syntax.{Name, same_name, Enumerator, Sort, Struct, Alias, SortDeclaration}
use Rattle.pb_text_meaning.specs.Sorts.{is_recogniser, place_from, place_within, place_in, or_else}
use Rattle.pb_typing_declarations.specs.Shapes.{first, number_behind}
use Rattle.pb_typing_declarations.specs.Enumerators.{Position, positioned, enumerators_from, enumerators_in, all_enumerators, recogniser_entry, recognisers_from, recognisers_in, all_recognisers}

abbrev place : Position → ℕ
place p = p.place

-- the first in one list, else in the next
first-append : (es fs : List (Name × Position)) (x : Name) → option_map place (first (es ++ fs) x) ≡ or_else (option_map place (first es x)) (option_map place (first fs x))
first-append [] fs x = refl
first-append ((y, p) ∷ es) fs x = by_test (same_name y x) (first-append es fs x)
  where
    by_test : (b : Bool)
        → option_map place (first (es ++ fs) x)
        ≡ or_else (option_map place (first es x)) (option_map place (first fs x))
        → option_map place (cond b (Some p) (first (es ++ fs) x))
        ≡ or_else (option_map place (cond b (Some p) (first es x))) (option_map place (first fs x))
    by_test true rest = refl
    by_test false rest = rest

abbrev has_name : Name → Enumerator → Bool
has_name x e = same_name e.name x

enumerators-places : (s c n : ℕ) (es : List Enumerator) (x : Name) → option_map place (first (enumerators_from s c n es) x) ≡ place_from n (has_name x) es
enumerators-places s c n [] x = refl
enumerators-places s c n (e ∷ es) x = by_test (same_name e.name x) (enumerators-places s c (suc n) es x)
  where
    by_test : (b : Bool)
        → option_map place (first (enumerators_from s c (suc n) es) x) ≡ place_from (suc n) (has_name x) es
        → option_map place (cond b (Some (positioned s c n)) (first (enumerators_from s c (suc n) es) x))
        ≡ (cond b (Some n) (place_from (suc n) (has_name x) es))
    by_test true rest = refl
    by_test false rest = rest

enumerators-within : (n : ℕ) (sort : Sort) (x : Name) → option_map place (first (enumerators_in n sort) x) ≡ place_within (has_name x) sort
enumerators-within n (Struct es) x = enumerators-places n (length es) 0 es x
enumerators-within n (Alias s) x = refl

pub enumerators-place_in : (n : ℕ) (ds : List SortDeclaration) (x : Name) → option_map place (first (all_enumerators n ds) x) ≡ place_in (has_name x) ds
enumerators-place_in n [] x = refl
enumerators-place_in n (d ∷ ds) x =
    first-append (enumerators_in n d.sort) (all_enumerators (number_behind n d.sort) ds) x
    ∙ (ap (λ o. or_else o (option_map place (first (all_enumerators (number_behind n d.sort) ds) x))) (enumerators-within n d.sort x)
    ∙ ap (or_else (place_within (has_name x) d.sort)) (enumerators-place_in (number_behind n d.sort) ds x))

-- ---- recognisers

abbrev has_recogniser : Name → Enumerator → Bool
has_recogniser x e = is_recogniser x e.recogniser

recogniser-place : (o : Option Name) (p : Position) (rest : List (Name × Position)) (x : Name)
    → option_map place (first (recogniser_entry o p ++ rest) x) ≡ (cond (is_recogniser x o) (Some p.place) (option_map place (first rest x)))
recogniser-place None p rest x = refl
recogniser-place (Some y) p rest x = by_test (same_name y x)
  where
    by_test : (b : Bool) → option_map place (cond b (Some p) (first rest x)) ≡ (cond b (Some p.place) (option_map place (first rest x)))
    by_test true = refl
    by_test false = refl

recognisers-places : (s c n : ℕ) (es : List Enumerator) (x : Name) → option_map place (first (recognisers_from s c n es) x) ≡ place_from n (has_recogniser x) es
recognisers-places s c n [] x = refl
recognisers-places s c n (e ∷ es) x =
    recogniser-place e.recogniser (positioned s c n) (recognisers_from s c (suc n) es) x
    ∙ ap (λ (o : Option ℕ). cond (is_recogniser x e.recogniser) (Some n) (o)) (recognisers-places s c (suc n) es x)

recognisers-within : (n : ℕ) (sort : Sort) (x : Name) → option_map place (first (recognisers_in n sort) x) ≡ place_within (has_recogniser x) sort
recognisers-within n (Struct es) x = recognisers-places n (length es) 0 es x
recognisers-within n (Alias s) x = refl

pub recognisers-place_in : (n : ℕ) (ds : List SortDeclaration) (x : Name) → option_map place (first (all_recognisers n ds) x) ≡ place_in (has_recogniser x) ds
recognisers-place_in n [] x = refl
recognisers-place_in n (d ∷ ds) x =
    first-append (recognisers_in n d.sort) (all_recognisers (number_behind n d.sort) ds) x
    ∙ (ap (λ o. or_else o (option_map place (first (all_recognisers (number_behind n d.sort) ds) x))) (recognisers-within n d.sort x)
    ∙ ap (or_else (place_within (has_recogniser x) d.sort)) (recognisers-place_in (number_behind n d.sort) ds x))
