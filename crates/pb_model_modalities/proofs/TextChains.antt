-- A chain of a text says its first operand and its links.
use Rattle.std.proofs.Common.{◌≡◌, ◌+◌, ◌++◌, length, reverse, get_or, take, drop, List, [], ◌∷◌, refl, sym, ap, ◌∙◌, Vec, Global}
use Rattle.std.proofs.Common as common
use Rattle.std.specs.Prelude.{box_value}
use Rattle.pb_text_tree.specs.declared.place.Place.{Place}
use Rattle.pb_text_tree.specs.declared.operator.Connective.{Connective}
use Rattle.pb_text_tree.specs.declared.formula.Formula as formula
use Rattle.pb_text_tree.specs.declared.formula.Formula.{Formula}
use Rattle.pb_text_tree.specs.declared.formula.Link.{Link}
use Rattle.pb_text_tree.specs.Form.{FormulaForm, formula_form, link_forms, chained}
use Rattle.pb_text_tree.proofs.FormLemmas.{formula-chain}
use Rattle.pb_model_translation.specs.Placed.{joining, joined_forms}
use Rattle.pb_model_tree.specs.declared.formula.Modality.{Modality}

-- a chain of the first link's operand and the links behind it
pub joined-links : (k : Modality) (here : Place) (c : Connective) (ls : List Link) (l : Link)
    (p : common.Box Formula Global) (v : Vec Link Global) → c ≡ joining k → ls ≡ l ∷ v.items → box_value p ≡ l.operand
    → formula_form (formula.Chain c p v) ≡ joined_forms k here (link_forms ls)
joined-links k here c ls l p v by are first =
    formula-chain c p v ∙ ap (λ (x : Formula). chained (FormulaForm.connected c) (formula_form x) (link_forms v.items)) first
    ∙ ap (λ (d : Connective). chained (FormulaForm.connected d) (formula_form l.operand) (link_forms v.items)) by
    ∙ ap (λ (ks : List Link). joined_forms k here (link_forms ks)) (sym are)

-- a chain whose links are turned
pub turned-links : (c : Connective) (f : Formula) (ls : List Link) (p : common.Box Formula Global) (v : Vec Link Global) → box_value p ≡ f → v.items ≡ reverse ls
    → formula_form (formula.Chain c p v) ≡ chained (FormulaForm.connected c) (formula_form f) (link_forms (reverse ls))
turned-links c f ls p v first turned =
    formula-chain c p v ∙ ap (λ (x : Formula). chained (FormulaForm.connected c) (formula_form x) (link_forms v.items)) first
    ∙ ap (λ (ks : List Link). chained (FormulaForm.connected c) (formula_form f) (link_forms ks)) turned

-- a list without its first element
pub first-left : {A : Type 0} (xs : List A) (x : A) (ys : List A) → (length xs ≡ 0 → ⊥) → x ≡ get_or xs 0 x → ys ≡ take 0 xs ++ drop (0 + 1) xs → xs ≡ x ∷ ys
first-left [] x ys some first others = absurd (some refl)
first-left (z ∷ xs) x ys some first others = ap (λ y. y ∷ xs) (sym first) ∙ ap (λ zs. x ∷ zs) (sym others)
