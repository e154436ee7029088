-- Properties that are the same, one by one.
use Rattle.std.proofs.Common.{◌≡◌, ◌∙◌, List, [], ◌∷◌, map, refl, sym, ap}
use Rattle.std.specs.Prelude.{Contains}
use Rattle.pb_model_runs.proofs.Elements.{first_of, later_of}
use Rattle.pb_model_meaning.specs.Syntax as model
use Rattle.pb_model_meaning.specs.Satisfaction as model_satisfaction
use Rattle.pb_model_meaning.specs.Erase as model_text
use Rattle.pb_model_tree.specs.Form as model_form
use Rattle.pb_model_tree.specs.Form.{ModelForm}
use Rattle.pb_protocol_tree.specs.Form.{PropertyForm, ProtocolForm}
use Rattle.pb_protocol_meaning.specs.Syntax.{Formula, Property}
use Rattle.pb_protocol_meaning.specs.Satisfaction.{satisfies}
use Rattle.pb_protocol_meaning.specs.Erase.{erase, erased_formula, erased_property}
use Rattle.pb_protocol_unfolding.specs.Plain.{FormulaCountsNothing, PropertiesCountNothing}
use Rattle.pb_protocol_laws.specs.SolvedLaws.{property_names, model_property_names}
use Rattle.pb_protocol_laws.specs.Solved.{AreSameProperties, IsSameProperty}

-- a property with its formula made another
abbrev pub made_property : (Formula → model.Formula) → Property → model.Property
made_property g p = record { name = p.name; formula = g p.formula }

abbrev pub plain_made : (model.Formula → Formula) → model.Property → Property
plain_made g p = record { name = p.name; formula = g p.formula }

-- where each formula that is made is satisfied where the protocol's is
pub are_same : (protocol : ProtocolForm) (m : ModelForm) (g : Formula → model.Formula)
    → (ps : List PropertyForm)
    → ((p : PropertyForm) → Contains ps p → model_satisfaction.satisfies (model_text.erase m) (g (erased_formula p.formula)) ≡ satisfies (erase protocol) (erased_formula p.formula))
    → (qs : List model_form.PropertyForm) → model_property_names qs ≡ property_names ps
    → map model_text.erased_property qs ≡ map (made_property g) (map erased_property ps)
    → AreSameProperties protocol m ps qs
are_same protocol m g [] same [] named made = tt
are_same protocol m g [] same (q ∷ qs) named made = absurd (cc named)
are_same protocol m g (p ∷ ps) same [] named made = absurd (cc named)
are_same protocol m g (p ∷ ps) same (q ∷ qs) named made =
    let name : q.name ≡ p.name = cc named in
    let others : model_property_names qs ≡ property_names ps = cc named in
    let here : model_text.erased_property q ≡ made_property g (erased_property p) = cc made in
    let rest : map model_text.erased_property qs ≡ map (made_property g) (map erased_property ps) = cc made in
    let formula : model_text.erased_formula q.formula ≡ g (erased_formula p.formula) = ap (λ (x : model.Property). x.formula) here in (
      record {
        name = name;
        satisfied = ap (model_satisfaction.satisfies (model_text.erase m)) formula ∙ same p (first_of p ps);
      },
      are_same protocol m g ps (λ r among. same r (later_of p ps r among)) qs others rest,
    )

-- where the protocol's formulas are those of the model, made others, and nothing counts in them
pub are_plain : (protocol : ProtocolForm) (m : ModelForm) (g : model.Formula → Formula)
    → ((f : model.Formula) → FormulaCountsNothing f → satisfies (erase protocol) (g f) ≡ model_satisfaction.satisfies (model_text.erase m) f)
    → (ps : List PropertyForm) (qs : List model_form.PropertyForm) → PropertiesCountNothing (map model_text.erased_property qs)
    → model_property_names qs ≡ property_names ps
    → map erased_property ps ≡ map (plain_made g) (map model_text.erased_property qs)
    → AreSameProperties protocol m ps qs
are_plain protocol m g same [] [] counts named made = tt
are_plain protocol m g same [] (q ∷ qs) counts named made = absurd (cc named)
are_plain protocol m g same (p ∷ ps) [] counts named made = absurd (cc named)
are_plain protocol m g same (p ∷ ps) (q ∷ qs) counts named made =
    let name : q.name ≡ p.name = cc named in
    let others : model_property_names qs ≡ property_names ps = cc named in
    let here : erased_property p ≡ plain_made g (model_text.erased_property q) = cc made in
    let rest : map erased_property ps ≡ map (plain_made g) (map model_text.erased_property qs) = cc made in
    let formula : erased_formula p.formula ≡ g (model_text.erased_formula q.formula) = ap (λ (x : Property). x.formula) here in (
      record {
        name = name;
        satisfied = sym (same (model_text.erased_formula q.formula) counts.0) ∙ ap (satisfies (erase protocol)) (sym formula);
      },
      are_plain protocol m g same ps qs counts.1 others rest,
    )

-- a model that satisfies what another does, property by property
abbrev pub SatisfySame : ModelForm → ModelForm → List model_form.PropertyForm → List model_form.PropertyForm → Type 0
SatisfySame m n [] [] = Unit {0}
SatisfySame m n (p ∷ ps) (q ∷ qs) =
    (model_satisfaction.satisfies (model_text.erase n) (model_text.erased_formula q.formula)
    ≡ model_satisfaction.satisfies (model_text.erase m) (model_text.erased_formula p.formula)) × SatisfySame m n ps qs
SatisfySame m n [] (q ∷ qs) = ⊥
SatisfySame m n (p ∷ ps) [] = ⊥

pub same_through : (protocol : ProtocolForm) (m n : ModelForm) (ps : List PropertyForm) (qs rs : List model_form.PropertyForm)
    → AreSameProperties protocol m ps qs → model_property_names rs ≡ model_property_names qs → SatisfySame m n qs rs → AreSameProperties protocol n ps rs
same_through protocol m n [] [] [] same named sat = tt
same_through protocol m n [] [] (r ∷ rs) same named sat = absurd sat
same_through protocol m n [] (q ∷ qs) rs same named sat = absurd same
same_through protocol m n (p ∷ ps) [] rs same named sat = absurd same
same_through protocol m n (p ∷ ps) (q ∷ qs) [] same named sat = absurd sat
same_through protocol m n (p ∷ ps) (q ∷ qs) (r ∷ rs) (is, more) named (here, rest) =
    let name : r.name ≡ q.name = cc named in
    let others : model_property_names rs ≡ model_property_names qs = cc named in
    (record { name = name ∙ is.name; satisfied = here ∙ is.satisfied }, same_through protocol m n ps qs rs more others rest)
