-- Look-ups in a list of entries.
use Rattle.std.proofs.Common.{◌≡◌, ℕ, suc, Bool, true, false, cond, List, [], ◌∷◌, map, refl, sym, ◌∙◌, ap, add-one}
use Rattle.std.specs.Prelude.{Option, Some, position}
use Rattle.std.specs.Option.{option_map}
use Rattle.std.specs.List.{position_from}
use Rattle.std.proofs.lemmas.Iterator.Adapters.{position_from-zero}
use Rattle.pb_text_tree.specs.Form.{EquationForm}
use Rattle.pb_text_meaning.specs.Syntax.{Name, same_name, Equation}
use Rattle.pb_text_meaning.specs.Erase.{erased_equation}
use Rattle.pb_typing_declarations.specs.Shapes.{first}
use Rattle.pb_typing_declarations.specs.Reading.{numbered_from}
use Rattle.pb_typing_declarations.specs.Declarations.{equation_names}

-- the image of what is found
pub first-map : {V W : Type 0} (f : V → W) (es : List (Name × V)) (x : Name) → first (map (λ e. (e.0, f e.1)) es) x ≡ option_map f (first es x)
first-map f [] x = refl
first-map {V} {W} f ((y, v) ∷ es) x = by_test (same_name y x) (first-map f es x)
  where
    by_test : (b : Bool) → first (map (λ e. (e.0, f e.1)) es) x ≡ option_map f (first es x) → (cond b (Some (f v)) (first (map (λ e. (e.0, f e.1)) es) x)) ≡ option_map f (cond b (Some v) (first es x))
    by_test true rest = refl
    by_test false rest = rest

-- the place of the first equation with this name
numbered : (n : ℕ) (E : List EquationForm) (x : Name) → first (numbered_from n (equation_names E)) x ≡ position_from (λ (X : Equation). same_name X.name x) n (map erased_equation E)
numbered n [] x = refl
numbered n (X ∷ E) x =
    ap (λ (rest : Option ℕ). cond (same_name X.name.text x) (Some n) rest)
    (numbered (suc n) E x ∙ ap (λ m. position_from (λ (Y : Equation). same_name Y.name x) m (map erased_equation E)) (sym (add-one n)))

pub first-numbered_from : (E : List EquationForm) (x : Name) → first (numbered_from 0 (equation_names E)) x ≡ position (λ (X : Equation). same_name X.name x) (map erased_equation E)
first-numbered_from E x = numbered 0 E x ∙ sym (position_from-zero (λ (X : Equation). same_name X.name x) (map erased_equation E))
