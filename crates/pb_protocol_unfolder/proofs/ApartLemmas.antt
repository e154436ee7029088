-- Names that are apart stay so with one more that is none of them.
use Rattle.std.proofs.Common.{◌≡◌, ◌∙◌, ◌+◌, ◌<◌, ℕ, refl, sym, ap, subst, Bool, true, false, ◌||◌, List, [], ◌∷◌, ◌++◌, map, length, take, slice_index_or}
use Rattle.std.specs.List.{list_any}
use Rattle.std.proofs.lemmas.List.{map_more, get_or-map, length-map, take-map}
use Rattle.pb_text_tree.specs.declared.name.Name as declared_name
use Rattle.pb_text_tree.specs.declared.sort.Enumerator as declared_enumerator
use Rattle.pb_text_tree.specs.declared.sort.SortDeclaration as declared_declaration
use Rattle.pb_text_tree.specs.Form.{enumerator_form, sort_form}
use Rattle.pb_text_meaning.specs.Syntax.{Name, same_name, Enumerator}
use Rattle.pb_text_meaning.specs.Erase.{erased_enumerator, erased_sort}
use Rattle.pb_protocol_folding.specs.Names.{IsNot, AreDistinct, AreNot, enumerators_in, names_in}
use Rattle.pb_protocol_unfolder.specs.Apart.{name_bytes, enumerator_bytes, declarations_said, has_enumerator, RepeatsAt}

neither-first : (b c : Bool) → (b || c) ≡ false → b ≡ false
neither-first true c e = cc
neither-first false c e = refl

neither-second : (b c : Bool) → (b || c) ≡ false → c ≡ false
neither-second true c e = cc
neither-second false c e = e

not-behind : (x : Name) (xs : List Name) (y : Name) → IsNot x xs → same_name y x ≡ false → IsNot x (xs ++ y ∷ [])
not-behind x [] y h e = (e, h)
not-behind x (z ∷ zs) y h e = (h.0, not-behind x zs y h.1 e)

distinct-behind : (xs : List Name) (y : Name) → AreDistinct xs → list_any (same_name y) xs ≡ false → AreDistinct (xs ++ y ∷ [])
distinct-behind [] y h e = (h, h)
distinct-behind (x ∷ xs) y h e =
    let first = neither-first (same_name y x) (list_any (same_name y) xs) e in
    let second = neither-second (same_name y x) (list_any (same_name y) xs) e in
    (not-behind x xs y h.0 first, distinct-behind xs y h.1 second)

others-behind : (es ys : List Name) (y : Name) → AreNot es ys → list_any (same_name y) es ≡ false → AreNot es (ys ++ y ∷ [])
others-behind [] ys y h e = h
others-behind (x ∷ xs) ys y h e =
    let first = neither-first (same_name y x) (list_any (same_name y) xs) e in
    let second = neither-second (same_name y x) (list_any (same_name y) xs) e in
    (not-behind x ys y h.0 first, others-behind xs ys y h.1 second)

-- as the code meets them: the name at i is added to those in front
pub distinct-more : (ns : List declared_name.Name) (i : ℕ) (n : declared_name.Name) → i < length ns → n ≡ slice_index_or ns i n → AreDistinct (map name_bytes (take i ns))
    → list_any (same_name (name_bytes n)) (map name_bytes (take i ns)) ≡ false → AreDistinct (map name_bytes (take (i + 1) ns))
distinct-more ns i n low is h e =
    let P : List Name → Type 0 = λ xs. AreDistinct xs in
    let same : map name_bytes (take i ns) ++ name_bytes n ∷ [] ≡ map name_bytes (take (i + 1) ns) =
    ap (λ (m : declared_name.Name). map name_bytes (take i ns) ++ name_bytes m ∷ []) is ∙ sym (map_more name_bytes ns i n low) in
    subst P same (distinct-behind (map name_bytes (take i ns)) (name_bytes n) h e)

pub others-more : (es : List Name) (ns : List declared_name.Name) (i : ℕ) (n : declared_name.Name) → i < length ns → n ≡ slice_index_or ns i n → AreNot es (map name_bytes (take i ns))
    → list_any (same_name (name_bytes n)) es ≡ false → AreNot es (map name_bytes (take (i + 1) ns))
others-more es ns i n low is h e =
    let P : List Name → Type 0 = λ xs. AreNot es xs in
    let same : map name_bytes (take i ns) ++ name_bytes n ∷ [] ≡ map name_bytes (take (i + 1) ns) =
    ap (λ (m : declared_name.Name). map name_bytes (take i ns) ++ name_bytes m ∷ []) is ∙ sym (map_more name_bytes ns i n low) in
    subst P same (others-behind es (map name_bytes (take i ns)) (name_bytes n) h e)

pub repeats-at : (ns : List declared_name.Name) (i : ℕ) (n : declared_name.Name) → i < length ns → n ≡ slice_index_or ns i n
    → list_any (same_name (name_bytes n)) (map name_bytes (take i ns)) ≡ true → RepeatsAt (map name_bytes ns) i
repeats-at ns i n low is h =
    let P : ℕ → Type 0 = λ k. i < k in
    let here : slice_index_or (map name_bytes ns) i [] ≡ name_bytes n = get_or-map name_bytes ns i n [] low ∙ ap name_bytes (sym is) in (
      subst P (sym (length-map ns name_bytes)) low,
      ap (λ (x : Name). list_any (same_name x) (take i (map name_bytes ns))) here
          ∙ ap (λ (xs : List Name). list_any (same_name (name_bytes n)) xs) (take-map name_bytes i ns) ∙ h,
    )

-- before there is any
pub others-none : (es : List Name) → AreNot es []
others-none [] = tt
others-none (e ∷ es) = (tt, others-none es)

-- ---- enumerators

some-assoc : (a b c : Bool) → (a || (b || c)) ≡ ((a || b) || c)
some-assoc true b c = refl
some-assoc false b c = refl

pub any-appended : (p : Name → Bool) (xs ys : List Name) → list_any p (xs ++ ys) ≡ (list_any p xs || list_any p ys)
any-appended p [] ys = refl
any-appended p (x ∷ xs) ys = ap (λ b. p x || b) (any-appended p xs ys) ∙ some-assoc (p x) (list_any p xs) (list_any p ys)

pub some-sort : (x : Name) (ds : List declared_declaration.SortDeclaration) → list_any (has_enumerator x) ds ≡ list_any (same_name x) (enumerators_in (declarations_said ds))
some-sort x [] = refl
some-sort x (d ∷ ds) =
    ap (λ b. has_enumerator x d || b) (some-sort x ds)
    ∙ sym (any-appended (same_name x) (names_in (erased_sort (sort_form d.sort))) (enumerators_in (declarations_said ds)))

pub struct-names : (es : List declared_enumerator.Enumerator) → map enumerator_bytes es ≡ map (λ (e : Enumerator). e.name) (map erased_enumerator (map enumerator_form es))
struct-names [] = refl
struct-names (e ∷ es) = ap (λ v. enumerator_bytes e ∷ v) (struct-names es)
