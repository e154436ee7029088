-- Where chains, copies and properties go on.
use Rattle.std.proofs.Common.{◌≡◌, ◌++◌, ◌+◌, ◌<◌, ℕ, inl, inr, List, [], ◌∷◌, length, map, take, get_or, refl, sym, ap, ◌∙◌, subst, arith, Vec, Global, Box, flat_map}
use Rattle.std.specs.Prelude.{box_value, Contains}
use Rattle.std.proofs.lemmas.List.{append-nil, map_push, take_more}
use Rattle.std.proofs.lemmas.List.Elements.{Contains-append_left, Contains-append_right, Contains-push_cases}
use Rattle.std.proofs.lemmas.Grind.{flat_map-append}
use Rattle.pb_text_tree.specs.declared.place.Place.{Place}
use Rattle.pb_text_tree.specs.declared.operator.Connective.{Connective}
use Rattle.pb_text_tree.specs.Form.{chained}
use Rattle.pb_model_tree.specs.declared.model.Property as declared_flat
use Rattle.pb_model_tree.specs.Form as flat
use Rattle.pb_protocol_tree.specs.declared.formula.Formula as formula
use Rattle.pb_protocol_tree.specs.declared.formula.Formula.{Formula}
use Rattle.pb_protocol_tree.specs.declared.formula.Link.{Link}
use Rattle.pb_protocol_tree.specs.declared.protocol.Property.{Property}
use Rattle.pb_protocol_tree.specs.Form.{FormulaForm, formula_form, property_form}
use Rattle.pb_protocol_folding.specs.Places.{AreAmong, places_of}
use Rattle.pb_protocol_folding.proofs.Places.{both-among, same-among}
use Rattle.pb_protocol_unfolder.specs.View.{link_form}
use Rattle.pb_protocol_unfolder.specs.Places.{HavePlaces, flat_places, formula_places, link_places, places_in}
use Rattle.pb_protocol_unfolder.proofs.Chains.{chain-form}
use Rattle.pb_protocol_unfolder.proofs.FaultLemmas.{at-item}

pub paired-among : (ps qs xs ys : List Place) → AreAmong ps xs → AreAmong qs ys → AreAmong (ps ++ qs) (xs ++ ys)
paired-among ps qs xs ys left right =
    both-among ps qs (xs ++ ys) (λ x at. Contains-append_left xs ys x (left x at)) (λ x at. Contains-append_right xs ys x (right x at))

pub behind-among : (p : Place) (xs ys : List Place) → AreAmong xs ys → AreAmong (p ∷ xs) (p ∷ ys)
behind-among p xs ys among = paired-among (p ∷ []) xs (p ∷ []) ys (same-among (p ∷ []) (p ∷ []) refl) among

pub through-among : (xs ys zs : List Place) → AreAmong xs ys → AreAmong ys zs → AreAmong xs zs
through-among xs ys zs first then x at = then x (first x at)

pub none-among : (xs ys : List Place) → xs ≡ [] → AreAmong xs ys
none-among xs ys none x at =
    let k : Contains [] x = subst (λ (zs : List Place). Contains zs x) none at in
    absurd (omega (arith, k.1))

-- what is among the places of a part is among those of the whole
pub part-among : (ps : List Place) (f g : Formula) → places_in f ≡ places_in g → AreAmong ps (places_in g) → AreAmong ps (places_in f)
part-among ps f g same among = subst (AreAmong ps) (sym same) among

-- ---- lists to which one is added

places-pushed : {A : Type 0} (f : A → List Place) (ys xs : List A) (x : A) → ys ≡ xs ++ x ∷ [] → flat_map f ys ≡ flat_map f xs ++ f x
places-pushed f ys xs x are =
    ap (flat_map f) are ∙ flat_map-append f xs (x ∷ []) ∙ ap (λ v. flat_map f xs ++ v) (append-nil (f x))

pub pushed-among : {A : Type 0} (f : A → List Place) (ys xs : List A) (x : A) (all : List Place) → ys ≡ xs ++ x ∷ [] → AreAmong (flat_map f xs) all → AreAmong (f x) all → AreAmong (flat_map f ys) all
pushed-among f ys xs x all are before last =
    subst (λ v. AreAmong v all) (sym (places-pushed f ys xs x are)) (both-among (flat_map f xs) (f x) all before last)

pub taken-among : {A B : Type 0} (f : A → List Place) (g : B → List Place) (bs cs : List A) (a : A) (xs : List B) (i : ℕ) (x : B) → bs ≡ cs ++ a ∷ [] → i < length xs → x ≡ get_or xs i x
    → AreAmong (flat_map f cs) (flat_map g (take i xs)) → AreAmong (f a) (g x) → AreAmong (flat_map f bs) (flat_map g (take (i + 1) xs))
taken-among f g bs cs a xs i x are within is before last =
    let more : take (i + 1) xs ≡ take i xs ++ x ∷ [] = take_more xs i x within ∙ ap (λ y. take i xs ++ y ∷ []) (sym is) in
    subst (λ v. AreAmong v (flat_map g (take (i + 1) xs))) (sym (places-pushed f bs cs a are))
    (subst (AreAmong (flat_map f cs ++ f a)) (sym (places-pushed g (take (i + 1) xs) (take i xs) x more))
    (paired-among (flat_map f cs) (f a) (flat_map g (take i xs)) (g x) before last))

-- what is joined with the last
pub joined-last : {A : Type 0} (first others : List Place) (f : A → List Place) (ys xs : List A) (x : A) (whole : List Place) → ys ≡ xs ++ x ∷ []
    → AreAmong others (flat_map f xs ++ f x) → AreAmong whole (first ++ others) → AreAmong whole (first ++ flat_map f ys)
joined-last first others f ys xs x whole are of-others among =
    through-among whole (first ++ others) (first ++ flat_map f ys) among
    (paired-among first others first (flat_map f ys) (same-among first first refl)
    (subst (AreAmong others) (sym (places-pushed f ys xs x are)) of-others))

-- ---- chains

chain-places : (k : Connective) (F : FormulaForm) (ls : List Link) → formula_places (chained (FormulaForm.connected k) F (map link_form ls)) ≡ formula_places F ++ flat_map link_places ls
chain-places k F [] = sym (append-nil (formula_places F))
chain-places k F (l ∷ ls) = ap (λ v. formula_places F ++ v) (chain-places k (formula_form l.operand) ls)

pub chain-among : (k : Connective) (x : Formula) (p : Box Formula Global) (v : Vec Link Global) (ls : List Link) (f : Formula) (whole first links : List Place)
    → f ≡ formula.Chain k p v → x ≡ box_value p → ls ≡ v.items → AreAmong whole (first ++ links)
    → AreAmong first (places_in x) → AreAmong links (flat_map link_places ls) → AreAmong whole (places_in f)
chain-among k x p v ls f whole first links is at same are of-first of-links =
    let same-places : places_in x ++ flat_map link_places ls ≡ places_in f =
    ap (λ (y : Formula). places_in y ++ flat_map link_places ls) at
    ∙ ap (λ (ks : List Link). places_in (box_value p) ++ flat_map link_places ks) same
    ∙ sym (ap places_in is ∙ ap formula_places (chain-form k p v) ∙ chain-places k (formula_form (box_value p)) v.items) in
    subst (AreAmong whole) same-places
    (through-among whole (first ++ links) (places_in x ++ flat_map link_places ls) are
    (paired-among first links (places_in x) (flat_map link_places ls) of-first of-links))

-- ---- properties

pub property-added : (ps : List Property) (k : ℕ) (p : Property) (qs rs : List declared_flat.Property) (r : declared_flat.Property) → k < length ps → p ≡ get_or ps k p → rs ≡ qs ++ r ∷ []
    → AreAmong (places_of r.formula) (places_in p.formula) → HavePlaces (map property_form ps) (map flat.property_form qs) → HavePlaces (map property_form ps) (map flat.property_form rs)
property-added ps k p qs rs r within is are among before q at =
    let form = flat.property_form in
    let at' : Contains (map form qs ++ form r ∷ []) q = subst (λ (v : List flat.PropertyForm). Contains v q) (ap (map form) are ∙ map_push form qs r) at in
    elim (Contains-push_cases (map form qs) (form r) q at') [
      | inl earlier ↦ before q earlier
      | inr last ↦ (property_form p, at-item property_form ps k p within is, subst (λ (f : flat.PropertyForm). AreAmong (flat_places f.formula) (places_in p.formula)) last among)
    ]
