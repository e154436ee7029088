-- How sets of names are filled, and what they say of properties.
use Rattle.std.proofs.Common.{◌≡◌, ◌∙◌, ℕ, ◌+◌, ◌<◌, ◌≤◌, Bool, true, false, ◌||◌, ◌&&◌, List, [], ◌∷◌, ◌++◌, length, get_or, drop, map, refl, sym, ap, append_assoc, append-nil, bytes_eq, String, Global, arith}
use Rattle.std.specs.Prelude.{string_bytes, if◌then◌else◌}
use Rattle.std.specs.List.{list_all}
use Rattle.std.proofs.Math.Bool.{or-false}
use Rattle.std.proofs.Math.ListN.{drop_of_length-le}
use denote.Ref.{Bor}
use Rattle.std.specs.HashSet.{IsEmpty, Updates}
use Rattle.pb_sorts.proofs.Places.{drop-at}
use Rattle.pb_typing_declarations.specs.Faults.{is_among}
use Rattle.pb_typing_declarations.proofs.Filling.{Seen, seen_too}
use Rattle.pb_model_properties.proofs.Seen.{in_set, none-in_set, put-in_set}
use Rattle.pb_model_tree.specs.declared.model.Property.{Property}
use Rattle.pb_model_tree.specs.Form.{PropertyForm, property_form}
use Rattle.pb_model_properties.specs.Asked.{asked_from, is_asked, property_texts}
use Rattle.pb_model_properties.specs.NameSets.{NameSet, IsSetOf}

-- ---- sets of names

-- those in the set, and those that are left
abbrev pub HasAll : List (List ℕ) → NameSet → List (List ℕ) → Type 0
HasAll names set left = (x : List ℕ) → (in_set set x || is_among left x) ≡ is_among names x

pub has_none : (names : List (List ℕ)) (set : NameSet) → IsEmpty set → HasAll names set names
has_none names set e x = ap (λ (seen : Seen). seen x || is_among names x) (none-in_set set e)

swapped : (a b c : Bool) → ((b || a) || c) ≡ (a || (b || c))
swapped true true c = refl
swapped true false c = refl
swapped false true c = refl
swapped false false c = refl

pub has_more : (names : List (List ℕ)) (old new : NameSet) (key : Bor (List ℕ)) (x : List ℕ) (left rest : List (List ℕ))
    → Updates (λ x y. bytes_eq x.now y.now) old new key true → key.now ≡ x → left ≡ x ∷ rest → HasAll names old left → HasAll names new rest
has_more names old new key x left rest put is at all y =
    let now : in_set new y ≡ seen_too x (in_set old) y = ap (λ (seen : Seen). seen y) (put-in_set old new key put ∙ ap (λ (n : List ℕ). seen_too n (in_set old)) is) in
    ap (λ (b : Bool). b || is_among rest y) now
    ∙ (swapped (in_set old y) (bytes_eq x y) (is_among rest y)
    ∙ (ap (λ (ns : List (List ℕ)). in_set old y || is_among ns y) (sym at) ∙ all y))

pub has_each : (names : List (List ℕ)) (set : NameSet) (left : List (List ℕ)) → left ≡ [] → HasAll names set left → IsSetOf names set
has_each names set left none all x =
    sym (or-false (in_set set x)) ∙ (ap (λ (ns : List (List ℕ)). in_set set x || is_among ns x) (sym none) ∙ all x)

-- ---- names as the code holds them

abbrev pub texts_of : List (String Global) → List (List ℕ)
texts_of = map string_bytes

pub text-at : (xs : List (String Global)) (k : ℕ) (x : String Global) → k < length xs → x ≡ get_or xs k x → texts_of (drop k xs) ≡ string_bytes x ∷ texts_of (drop (k + 1) xs)
text-at xs k x below at = ap texts_of (drop-at xs k x below at)

pub texts-past : (xs : List (String Global)) (k : ℕ) → length xs ≤ k → texts_of (drop k xs) ≡ []
texts-past xs k past = ap texts_of (drop_of_length-le xs past)

abbrev pub names_of : List Property → List (List ℕ)
names_of ps = property_texts (map property_form ps)

pub name-at : (ps : List Property) (k : ℕ) (x : Property) → k < length ps → x ≡ get_or ps k x → names_of (drop k ps) ≡ string_bytes x.name.text ∷ names_of (drop (k + 1) ps)
name-at ps k x below at = ap names_of (drop-at ps k x below at)

pub names-past : (ps : List Property) (k : ℕ) → length ps ≤ k → names_of (drop k ps) ≡ []
names-past ps k past = ap names_of (drop_of_length-le ps past)

-- ---- whether each name is known

pub known_next : (known : List ℕ → Bool) (left rest : List (List ℕ)) (x : List ℕ) → left ≡ x ∷ rest → known x ≡ true → list_all known left ≡ list_all known rest
known_next known left rest x at is = ap (list_all known) at ∙ ap (λ (b : Bool). b && list_all known rest) is

pub unknown_here : (known : List ℕ → Bool) (left rest : List (List ℕ)) (x : List ℕ) → left ≡ x ∷ rest → known x ≡ false → list_all known left ≡ false
unknown_here known left rest x at not = ap (list_all known) at ∙ ap (λ (b : Bool). b && list_all known rest) not

-- ---- which properties are asked for

pub asked_none : (names : List (List ℕ)) (p : PropertyForm) → length names ≡ 0 → true ≡ is_asked names p
asked_none [] p none = refl
asked_none (name ∷ names) p none = absurd (omega (arith, none))

pub asked_some : (names : List (List ℕ)) (p : PropertyForm) (found : Bool) → (length names ≡ 0 → ⊥) → found ≡ is_among names p.name.text → found ≡ is_asked names p
asked_some [] p found some is = absurd (some refl)
asked_some (name ∷ names) p found some is = is

-- the places so far, and those that are left
abbrev pub HasPlaces : List (List ℕ) → List Property → List ℕ → ℕ → Type 0
HasPlaces names ps places k = places ++ asked_from k names (map property_form (drop k ps)) ≡ asked_from 0 names (map property_form ps)

module _ (names : List (List ℕ)) (ps : List Property) (places : List ℕ) (k : ℕ) (x : Property) (below : k < length ps) (at : x ≡ get_or ps k x) where
  abbrev rest : List ℕ
  rest = asked_from (k + 1) names (map property_form (drop (k + 1) ps))

  next : (b : Bool) → is_asked names (property_form x) ≡ b → asked_from k names (map property_form (drop k ps)) ≡ (if b then k ∷ rest else rest)
  next b is = ap (λ (xs : List Property). asked_from k names (map property_form xs)) (drop-at ps k x below at) ∙ ap (λ (a : Bool). if a then k ∷ rest else rest) is

  pub asked_here : is_asked names (property_form x) ≡ true → HasPlaces names ps places k → HasPlaces names ps (places ++ k ∷ []) (k + 1)
  asked_here is all = append_assoc places (k ∷ []) rest ∙ (ap (λ (ns : List ℕ). places ++ ns) (sym (next true is)) ∙ all)

  pub asked_elsewhere : is_asked names (property_form x) ≡ false → HasPlaces names ps places k → HasPlaces names ps places (k + 1)
  asked_elsewhere is all = ap (λ (ns : List ℕ). places ++ ns) (sym (next false is)) ∙ all

pub asked_all : (names : List (List ℕ)) (ps : List Property) (places : List ℕ) (k : ℕ) → length ps ≤ k → HasPlaces names ps places k → places ≡ asked_from 0 names (map property_form ps)
asked_all names ps places k past all =
    sym (append-nil places) ∙ (ap (λ (xs : List Property). places ++ asked_from k names (map property_form xs)) (sym (drop_of_length-le ps past)) ∙ all)
