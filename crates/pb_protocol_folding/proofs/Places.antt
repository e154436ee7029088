-- Places of two operands are among those of both, in whatever order the operands are joined.
use Rattle.std.proofs.Common.{◌≡◌, ◌++◌, inl, inr, List, [], ◌∷◌, sym, ap, ◌∙◌, subst}
use Rattle.std.proofs.Common.{Vec, Global, Box, flat_map}
use Rattle.std.specs.Prelude.{box_value, Contains}
use Rattle.std.proofs.lemmas.List.{append-nil}
use Rattle.std.proofs.lemmas.List.Elements.{Contains-append_left, Contains-append_right, Contains-append_cases}
use Rattle.std.proofs.lemmas.Grind.{flat_map-append}
use Rattle.pb_text_tree.specs.declared.place.Place.{Place}
use Rattle.pb_text_tree.specs.declared.operator.Connective.{Connective}
use Rattle.pb_text_tree.specs.Form.{chained}
use Rattle.pb_model_tree.specs.declared.formula.Formula as formula
use Rattle.pb_model_tree.specs.declared.formula.Formula.{Formula}
use Rattle.pb_model_tree.specs.declared.formula.Link.{Link}
use Rattle.pb_model_tree.specs.Form.{FormulaForm, formula_form}
use Rattle.pb_protocol_folding.specs.View.{link_forms}
use Rattle.pb_protocol_folding.specs.Places.{AreAmong, flat_places, places_of}
use Rattle.pb_protocol_folding.proofs.Chains.{formula-chain}

pub same-among : (xs ys : List Place) → xs ≡ ys → AreAmong xs ys
same-among xs ys same x at = subst (λ zs. Contains zs x) same at

pub both-among : (xs ys zs : List Place) → AreAmong xs zs → AreAmong ys zs → AreAmong (xs ++ ys) zs
both-among xs ys zs left right x at =
    elim (Contains-append_cases xs ys x at) [ inl h ↦ left x h | inr h ↦ right x h ]

-- the operand before those that are joined is joined with them
pub joined-among : (before operand joined whole all : List Place)
    → AreAmong ((before ++ operand) ++ joined) all → AreAmong whole (operand ++ joined) → AreAmong (before ++ whole) all
joined-among before operand joined whole all are all-of =
    both-among before whole all
    (λ x at. are x (Contains-append_left (before ++ operand) joined x (Contains-append_left before operand x at)))
    (λ x at. elim (Contains-append_cases operand joined x (all-of x at)) [
      | inl h ↦ are x (Contains-append_left (before ++ operand) joined x (Contains-append_right before operand x h))
      | inr h ↦ are x (Contains-append_right (before ++ operand) joined x h)
    ])

places-last : {A : Type 0} (f : A → List Place) (xs before : List A) (last : A) → xs ≡ before ++ last ∷ [] → flat_map f before ++ f last ≡ flat_map f xs
places-last f xs before last are =
    ap (λ v. flat_map f before ++ v) (sym (append-nil (f last)))
    ∙ sym (flat_map-append f before (last ∷ []))
    ∙ ap (flat_map f) (sym are)

-- so are the places of the last of some
pub last-among : {A : Type 0} (f : A → List Place) (xs before : List A) (last : A) (joined whole all : List Place) → xs ≡ before ++ last ∷ []
    → AreAmong whole (f last ++ joined) → AreAmong (flat_map f xs ++ joined) all → AreAmong (flat_map f before ++ whole) all
last-among f xs before last joined whole all are all-of among =
    joined-among (flat_map f before) (f last) joined whole all
    (subst (λ v. AreAmong (v ++ joined) all) (sym (places-last f xs before last are)) among) all-of

-- ---- formulas

pub chained-places : (c : Connective) (p : Place) (first : Box Formula Global) (v : Vec Link Global) (left right : Formula) → box_value first ≡ left →
    ((x : FormulaForm) → chained (FormulaForm.connected c) x (link_forms v.items) ≡ FormulaForm.connected c p x (formula_form right)) →
    places_of (formula.Chain c first v) ≡ places_of left ++ places_of right
chained-places c p first v left right at links =
    ap flat_places (formula-chain c first v ∙ links (formula_form (box_value first)))
    ∙ ap (λ y. places_of y ++ places_of right) at
