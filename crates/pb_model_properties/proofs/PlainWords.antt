-- A plain protocol's model has the protocol's words and places.
use Rattle.std.proofs.Common.{◌≡◌, ◌∙◌, List, [], ◌∷◌, ◌++◌, map, refl, ap}
use Rattle.std.specs.Prelude.{All, Contains}
use Rattle.std.proofs.lemmas.List.Elements.{All-cons, All-contains, All-nil, All-weaker, Contains-append_left, Contains-append_right, Contains-push}
use Rattle.pb_text_printer.specs.Sayable.{Each}
use Rattle.pb_model_tree.specs.Form as flat
use Rattle.pb_model_meaning.specs.Erase as model_text
use Rattle.pb_model_runs.specs.Exact as model_places
use Rattle.pb_protocol_unfolding.specs.Plain as plain
use Rattle.pb_protocol_unfolder.specs.Plain as form
use Rattle.pb_model_spelling.specs.Writable as flat_words
use Rattle.pb_model_spelling.specs.Protocols as words
use Rattle.pb_model_places.specs.Apart.{formula_places, step_places}
use Rattle.pb_protocol_laws.proofs.PlainWords.{plain-formula-writable}

-- ---- words

abbrev HasWords : flat.PropertyForm → Type 0
HasWords p = flat_words.ModalWritable (model_text.erased_formula p.formula)

properties_have : (ps : List flat.PropertyForm) → plain.PropertiesCountNothing (map model_text.erased_property ps)
    → Each words.PropertyWritable (map plain.plain_property (map model_text.erased_property ps)) → All HasWords ps
properties_have [] counts h = All-nil HasWords
properties_have (p ∷ ps) (none, others) (h, hs) = All-cons HasWords p ps (plain-formula-writable (model_text.erased_formula p.formula) none h.1) (properties_have ps others hs)

pub property_has : (m : flat.ModelForm) → plain.PropertiesCountNothing (model_text.erase m).properties → words.ProtocolWritable (plain.plain (model_text.erase m))
    → (p : flat.PropertyForm) → Contains m.properties p → flat_words.ModalWritable (model_text.erased_formula p.formula)
property_has m counts h p among = All-contains HasWords m.properties p (properties_have m.properties counts h.properties) among

-- ---- places

pub plain_steps : (xs : List flat.StepForm) → model_places.step_places xs ≡ step_places (map form.plain_step_form xs)
plain_steps [] = refl
plain_steps (x ∷ xs) = ap (λ ps. x.name.place ∷ ps) (plain_steps xs)

pub plain_places : (f : flat.FormulaForm) → model_places.formula_places f ≡ formula_places (form.plain_formula_form f)
plain_places (flat.FormulaForm.constant p b) = refl
plain_places (flat.FormulaForm.«data» p x) = refl
plain_places (flat.FormulaForm.variable x) = refl
plain_places (flat.FormulaForm.negation p f) = plain_places f
plain_places (flat.FormulaForm.connected c p f g) =
    ap (λ ps. ps ++ model_places.formula_places g) (plain_places f) ∙ ap (λ ps. formula_places (form.plain_formula_form f) ++ ps) (plain_places g)
plain_places (flat.FormulaForm.modal k p A f) = plain_places f
plain_places (flat.FormulaForm.fixpoint sign p x f) = ap (λ ps. p ∷ ps) (plain_places f)

-- a property of the model is one of the protocol
abbrev AreIn : List flat.PropertyForm → flat.PropertyForm → Type 0
AreIn ps p = Contains (map form.plain_property_form ps) (form.plain_property_form p)

plain_among : (ps : List flat.PropertyForm) → All (AreIn ps) ps
plain_among [] = All-nil (AreIn [])
plain_among (p ∷ ps) =
    All-cons (AreIn (p ∷ ps)) p ps
    (Contains-append_left (form.plain_property_form p ∷ []) (map form.plain_property_form ps) (form.plain_property_form p) (Contains-push [] (form.plain_property_form p)))
    (behind p ps ps (plain_among ps))
  where
    behind : (p : flat.PropertyForm) (ps qs : List flat.PropertyForm) → All (AreIn ps) qs → All (AreIn (p ∷ ps)) qs
    behind p ps qs h = All-weaker (AreIn ps) (AreIn (p ∷ ps))
        (λ q among. Contains-append_right (form.plain_property_form p ∷ []) (map form.plain_property_form ps) (form.plain_property_form q) among) qs h

pub property_among : (m : flat.ModelForm) (p : flat.PropertyForm) → Contains m.properties p → Contains (form.plain_form m).properties (form.plain_property_form p)
property_among m p among = All-contains (AreIn m.properties) m.properties p (plain_among m.properties) among
