-- The place of an equation among equations whose names are apart, and its name.
use Rattle.std.proofs.Common.{◌≡◌, ◌≢◌, ℕ, zero, suc, ◌+◌, ◌<◌, ◌==◌, Bool, true, false}
use Rattle.std.proofs.Common.{if◌then◌else◌, List, [], ◌∷◌, Option, Some, None, map, refl, sym, ◌∙◌}
use Rattle.std.proofs.Common.{arith, true≢false}
use Rattle.std.specs.List.{slice_get}
use Rattle.std.proofs.lemmas.Bool.{eq-eqb, ne_eqb}
use Rattle.std.proofs.lemmas.Option.{slice_get_within, get_or_from_slice_get}
use Rattle.std.proofs.lemmas.Slice.Eq.{bytes_eq-Decides}
use Rattle.pb_text_meaning.specs.Syntax.{Name, same_name, Equation}
use Rattle.pb_typing_declarations.specs.WellDeclared.{AreApart}
use Rattle.pb_typing_tree.specs.Elaboration.{place_of}

-- the names of equations, in order
abbrev pub names_of : List Equation → List Name
names_of E = map (λ (X : Equation). X.name) E

-- whether a place that was found is this one
abbrev pub is_at : Option ℕ → ℕ → Bool
is_at None m = false
is_at (Some k) m = k == m

differ : (x y : Name) → x ≢ y → same_name x y ≡ false
differ x y apart = by (same_name x y) refl
  where
    by : (b : Bool) → same_name x y ≡ b → same_name x y ≡ false
    by true e = absurd (apart ((bytes_eq-Decides x y).0 e))
    by false e = e

apart-behind : (x : Name) (xs : List Name) → AreApart (x ∷ xs) → AreApart xs
apart-behind x xs apart i j d less within = apart (suc i) (suc j) d (omega arith) (omega arith)

-- no equation behind has an earlier place
found-behind : (E : List Equation) (n m : ℕ) (x : Name) → m < n
    → is_at (place_of n E x) m ≡ false
found-behind [] n m x less = refl
found-behind (X ∷ E) n m x less =
    by (same_name X.name x) (found-behind E (suc n) m x (omega (arith, less)))
  where
    by : (b : Bool) → is_at (place_of (suc n) E x) m ≡ false
        → is_at (if b then Some n else place_of (suc n) E x) m ≡ false
    by true later = ne_eqb n m (λ e. omega (arith, e, less))
    by false later = later

-- names being apart, an equation stands at the place that is found where it has the name
pub place-named : (E : List Equation) (n m k : ℕ) (x y : Name) → AreApart (names_of E) → m ≡ n + k
    → slice_get (names_of E) k ≡ Some y → is_at (place_of n E x) m ≡ same_name x y
place-named [] n m k x y apart is at = cc
place-named (X ∷ E) n m zero x y apart is at = by (same_name X.name x) refl
  where
    named : X.name ≡ y
    named = cc

    by : (b : Bool) → same_name X.name x ≡ b
        → is_at (if b then Some n else place_of (suc n) E x) m ≡ same_name x y
    by true e =
        let same = (bytes_eq-Decides X.name x).0 e in
        eq-eqb n m (omega (arith, is)) ∙ sym ((bytes_eq-Decides x y).1 (sym same ∙ named))
    by false e =
        let other = λ (same : x ≡ y).
        true≢false (sym ((bytes_eq-Decides X.name x).1 (named ∙ sym same)) ∙ e) in
        found-behind E (suc n) m x (omega (arith, is)) ∙ sym (differ x y other)
place-named (X ∷ E) n m (suc k) x y apart is at =
    by (same_name X.name x) refl
    (place-named E (suc n) m k x y (apart-behind X.name (names_of E) apart) (omega (arith, is)) at)
  where
    there : slice_get (names_of E) k ≡ Some y
    there = at

    by : (b : Bool) → same_name X.name x ≡ b
        → is_at (place_of (suc n) E x) m ≡ same_name x y
        → is_at (if b then Some n else place_of (suc n) E x) m ≡ same_name x y
    by true e later =
        let within = slice_get_within (names_of (X ∷ E)) (suc k) y at in
        let other = apart 0 (suc k) y (omega arith) within in
        let name = get_or_from_slice_get (names_of E) k y y there in
        ne_eqb n m (λ f. omega (arith, is, f))
        ∙ sym (differ x y (λ same. other ((bytes_eq-Decides X.name x).0 e ∙ same ∙ sym name)))
    by false e later = later
