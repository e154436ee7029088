-- Properties of a flat model and of what it becomes, one by one.
use Rattle.std.proofs.Common.{◌≡◌, ◌∙◌, true, not, ◌&&◌, List, [], ◌∷◌, Some, map, refl, sym, ap, ap₂, subst}
use Rattle.std.specs.Prelude.{All, Contains}
use Rattle.std.specs.List.{list_all, slice_get}
use Rattle.std.proofs.lemmas.List.Elements.{All-cons, All-head, All-nil, All-tail, Contains-append_left, Contains-append_right, Contains-push}
use Rattle.pb_text_tree.specs.declared.place.Place.{Place}
use Rattle.pb_model_tree.specs.Form.{FormulaForm, ModelForm, PropertyForm}
use Rattle.pb_model_meaning.specs.Syntax as model
use Rattle.pb_model_meaning.specs.Erase as model_text
use Rattle.pb_model_runs.specs.Exact.{are_apart, formula_places, is_among, stand_apart, step_places}
use Rattle.pb_model_spelling.specs.Laws.{TranslationsCanBeSaid}
use Rattle.pb_model_spelling.specs.Writable.{ModalWritable, ModelWritable}
use Rattle.pb_protocol_packing.specs.Packing.{Group, packed_property, packed_formula}
use Rattle.pb_protocol_laws.specs.SolvedLaws.{model_property_names}
use Rattle.pb_model_properties.specs.Said.{HasSayableTexts}

-- what holds of each element
pub all_of : {X : Type 0} (P : X → Type 0) (xs : List X) → ((x : X) → Contains xs x → P x) → All P xs
all_of P [] each = All-nil P
all_of P (x ∷ xs) each =
    All-cons P x xs (each x (Contains-append_left (x ∷ []) xs x (Contains-push [] x))) (all_of P xs (λ y is. each y (Contains-append_right (x ∷ []) xs y is)))

-- ---- words

abbrev pub HasWords : PropertyForm → Type 0
HasWords q = ModalWritable (model_text.erased_formula q.formula)

-- the texts of properties that have words can be said
pub can_be_said : TranslationsCanBeSaid → (m : ModelForm) → ModelWritable (model_text.erase m) → ((p : PropertyForm) → Contains m.properties p → HasWords p) → HasSayableTexts m
can_be_said law m writable formulas p x among same = law (model_text.erase m) (model_text.erased_formula p.formula) x writable (formulas p among) same

pub all_packed : (gs : List Group) → ((f : model.Formula) → ModalWritable f → ModalWritable (packed_formula gs f)) → (ps qs : List PropertyForm)
    → map model_text.erased_property qs ≡ map (packed_property gs) (map model_text.erased_property ps) → All HasWords ps → All HasWords qs
all_packed gs has [] [] e h = All-nil HasWords
all_packed gs has [] (q ∷ qs) e h = absurd (cc e)
all_packed gs has (p ∷ ps) [] e h = absurd (cc e)
all_packed gs has (p ∷ ps) (q ∷ qs) e h =
    let here : model_text.erased_property q ≡ packed_property gs (model_text.erased_property p) = cc e in
    let rest : map model_text.erased_property qs ≡ map (packed_property gs) (map model_text.erased_property ps) = cc e in
    let formula : model_text.erased_formula q.formula ≡ packed_formula gs (model_text.erased_formula p.formula) = ap (λ (x : model.Property). x.formula) here in
    All-cons HasWords q qs (subst ModalWritable (sym formula) (has (model_text.erased_formula p.formula) (All-head HasWords p ps h)))
    (all_packed gs has ps qs rest (All-tail HasWords p ps h))

-- ---- places

abbrev pub StandsApart : ModelForm → PropertyForm → Type 0
StandsApart m p = stand_apart m p.formula ≡ true

abbrev places : PropertyForm → List Place
places p = formula_places p.formula

stands : (m n : ModelForm) (f g : FormulaForm) → step_places n.steps ≡ step_places m.steps → formula_places g ≡ formula_places f → stand_apart m f ≡ true → stand_apart n g ≡ true
stands m n f g steps goes_on is =
    ap₂ (λ (ss ps : List Place). are_apart ss && list_all (λ p. not (is_among ss p)) ps) steps goes_on ∙ is

pub all_apart : (m n : ModelForm) → step_places n.steps ≡ step_places m.steps → (ps qs : List PropertyForm) → map places qs ≡ map places ps → All (StandsApart m) ps
    → All (StandsApart n) qs
all_apart m n steps [] [] e h = All-nil (StandsApart n)
all_apart m n steps [] (q ∷ qs) e h = absurd (cc e)
all_apart m n steps (p ∷ ps) [] e h = absurd (cc e)
all_apart m n steps (p ∷ ps) (q ∷ qs) e h =
    let here : places q ≡ places p = cc e in
    let rest : map places qs ≡ map places ps = cc e in
    All-cons (StandsApart n) q qs (stands m n p.formula q.formula steps here (All-head (StandsApart m) p ps h)) (all_apart m n steps ps qs rest (All-tail (StandsApart m) p ps h))

-- ---- the first one

pub first_kept : (ps qs : List PropertyForm) → model_property_names qs ≡ model_property_names ps → (p : PropertyForm) × (slice_get ps 0 ≡ Some p)
    → (q : PropertyForm) × (slice_get qs 0 ≡ Some q)
first_kept [] qs e (p, at) = absurd (cc at)
first_kept (p ∷ ps) [] e first = absurd (cc e)
first_kept (p ∷ ps) (q ∷ qs) e first = (q, refl)
