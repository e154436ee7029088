-- The model to which a protocol is unfolded, and what keeps it from being that.
use Rattle.std.proofs.Common.{◌≡◌, ◌∙◌, Bool, false, ℕ, List, [], ◌∷◌, ◌++◌, zero, suc, Option, Some, map, refl, sym, ap, ap₂, subst, inl, inr}
use Rattle.std.specs.Prelude.{All, Contains, length, string_bytes}
use Rattle.std.specs.List.{slice_get}
use Rattle.std.proofs.lemmas.List.Elements.{All-cons, All-contains, All-nil}
use Rattle.pb_base.specs.OrMemory.{IfFault, raised}
use Rattle.pb_base.specs.declared.or_memory.OrMemory.{OrMemory}
use Rattle.pb_base.specs.declared.or_memory.OrMemory.TheVariants.{Refused, Memory}
use Rattle.pb_text_tree.specs.declared.place.Place.{Place}
use Rattle.pb_text_tree.specs.Form.{Named}
use Rattle.pb_text_printer.specs.Sayable.{Each}
use Rattle.pb_typing_declarations.specs.declared.fault.TypingFault.{TypingFault}
use Rattle.pb_model_tree.specs.Form as flat
use Rattle.pb_model_tree.specs.Form.{ModelForm, model_form}
use Rattle.pb_model_meaning.specs.Syntax as model
use Rattle.pb_model_meaning.specs.Erase as model_text
use Rattle.pb_model_spelling.specs.Protocols.{FormulaWritable, PropertyWritable, ProtocolWritable}
use Rattle.pb_model_spelling.specs.Writable.{ModalWritable, ModelWritable}
use Rattle.pb_protocol_laws.specs.SpellingLaws.{FlatFormulasAreWritable}
use Rattle.pb_model_places.specs.Apart.{lines_from}
use Rattle.pb_model_places.specs.Apart.{formula_places}
use Rattle.pb_model_runs.specs.Exact as model_places
use Rattle.pb_model_words.specs.Vocabulary.{told_vocabulary}
use Rattle.pb_protocol_folding.specs.FoldedModels.{folded_property}
use Rattle.pb_protocol_tree.specs.Form as protocol_form
use Rattle.pb_protocol_tree.specs.Form.{ProtocolForm}
use Rattle.pb_protocol_meaning.specs.Syntax.{Formula, Property}
use Rattle.pb_protocol_meaning.specs.Erase.{erase}
use Rattle.pb_protocol_typing.specs.Faults.{protocol_faults}
use Rattle.pb_protocol_unfolding.specs.Unfolding.{unfolded, unfolded_property}
use Rattle.pb_protocol_unfolding.specs.Hygiene.{HidesNothing}
use Rattle.pb_protocol_unfolding.specs.ModelLaws.{flat_formula, flat_model}
use Rattle.pb_protocol_unfolder_steps.specs.Steps.{places_from, step_place}
use Rattle.pb_protocol_unfolder.specs.declared.fault.UnfoldingFault.{UnfoldingFault}
use Rattle.pb_protocol_unfolder.specs.declared.fault.UnfoldingRule.{UnfoldingRule}
use Rattle.pb_protocol_unfolder.specs.declared.fault.UnfoldingRule.TheVariants as unfolding_rule
use Rattle.pb_protocol_unfolder.specs.declared.protocol.Unfolded.{Unfolded}
use Rattle.pb_protocol_unfolder.specs.Faults.{IsUnfoldingFault}
use Rattle.pb_protocol_unfolder.specs.Origins.{origin_name, origin_place, told_step_places}
use Rattle.pb_protocol_unfolder.specs.Plain.{is_plain_protocol}
use Rattle.pb_protocol_unfolder.specs.Places as unfolded_places
use Rattle.pb_protocol_unfolder.specs.Places.{HavePlacesOf}
use Rattle.pb_protocol_unfolder.specs.Told as told
use Rattle.pb_protocol_unfolder.specs.Unfolded.{flat_name, property_name}
use Rattle.pb_protocol_tree.specs.declared.protocol.Property.{Property as DeclaredProperty}
use Rattle.pb_protocol_tree.specs.declared.protocol.Protocol.{Protocol as DeclaredProtocol}
use Rattle.pb_protocol_laws.specs.SolvedLaws.{model_property_names, property_names}
use Rattle.pb_model_faults.specs.declared.ModelFault.{ModelFault}
use Rattle.pb_model_faults.specs.declared.ModelFault.TheVariants as model_fault
use Rattle.pb_model_properties.specs.declared.solved.ToldNames.{ToldNames}
use Rattle.pb_model_properties.specs.Faults.{as_model_fault}
use Rattle.pb_model_properties.specs.Flat.{IsFlatModelFor}
use Rattle.pb_model_properties.specs.Laws.{ModelsStandForProtocols}
use Rattle.pb_model_properties.specs.Made.{IsFlatWhere, step_places_where}
use Rattle.pb_model_properties.specs.Refusals.{IsRefusedProtocol, told_at, told_place}
use Rattle.pb_model_properties.specs.Refusals.{told_step_place as step_place_of}
use Rattle.pb_model_properties.specs.Solvable.{CanBeSolved}
use Rattle.pb_model_properties.specs.Words.{AreNamesOf, impossible_where, words_where}

-- ---- what is known of the unfolding

-- what a protocol is unfolded to: a model with its properties by name, whose steps stand on lines
-- of their own, the names by which its variables and steps are told, and those of the protocol's
-- steps that come to none
pub record IsUnfoldedTo (protocol : ProtocolForm) (u : Unfolded) : Type 0 where
  pub unfolds : is_plain_protocol protocol ≡ false
  pub keeps : protocol_faults protocol ≡ []
  pub meaning : model_text.erase (model_form u.model) ≡ flat_model (erase protocol)
  pub hides_nothing : HidesNothing (erase protocol)
  pub names : map flat_name u.model.properties.items ≡ property_names protocol.properties
  pub steps : map step_place u.model.steps.items ≡ places_from 0 (length u.model.steps.items)
  pub places : HavePlacesOf protocol (model_form u.model)
  pub told_variables : map string_bytes u.variables.items ≡ told.told_variables (erase protocol)
  pub told_steps : map origin_name u.steps.items ≡ told.told_steps (erase protocol)
  pub told_places : map origin_place u.steps.items ≡ told_step_places protocol
  pub impossible :
      map string_bytes u.impossible.items ≡ told.impossible_steps (erase protocol)

-- ---- words

twice : {A B C : Type 0} (f : A → B) (g : B → C) (xs : List A) → map g (map f xs) ≡ map (λ x. g (f x)) xs
twice f g [] = refl
twice f g (x ∷ xs) = ap (λ ys. g (f x) ∷ ys) (twice f g xs)

abbrev HasWords : flat.PropertyForm → Type 0
HasWords q = ModalWritable (model_text.erased_formula q.formula)

-- a property with its formula made another
abbrev made : (Formula → model.Formula) → Property → model.Property
made g p = record { name = p.name; formula = g p.formula }

all_have : (g : Formula → model.Formula) → ((f : Formula) → FormulaWritable f → ModalWritable (g f)) → (ps : List Property) (qs : List flat.PropertyForm)
    → map model_text.erased_property qs ≡ map (made g) ps → Each PropertyWritable ps → All HasWords qs
all_have g has [] [] e h = All-nil HasWords
all_have g has [] (q ∷ qs) e h = absurd (cc e)
all_have g has (p ∷ ps) [] e h = absurd (cc e)
all_have g has (p ∷ ps) (q ∷ qs) e (h, hs) =
    let here : model_text.erased_property q ≡ made g p = cc e in
    let rest : map model_text.erased_property qs ≡ map (made g) ps = cc e in
    let formula : model_text.erased_formula q.formula ≡ g p.formula = ap (λ (x : model.Property). x.formula) here in
    All-cons HasWords q qs (subst ModalWritable (sym formula) (has p.formula h.1)) (all_have g has ps qs rest hs)

-- the properties of the flat model have words
pub have_words : FlatFormulasAreWritable → (protocol : ProtocolForm) (m : ModelForm) → model_text.erase m ≡ flat_model (erase protocol) → ProtocolWritable (erase protocol)
    → (p : flat.PropertyForm) → Contains m.properties p → HasWords p
have_words formulas protocol m is has p among =
    let properties = ap (λ (x : model.Model). x.properties) is ∙ twice (unfolded_property (erase protocol)) (folded_property (unfolded (erase protocol))) (erase protocol).properties in
    All-contains HasWords m.properties p
    (all_have (flat_formula (erase protocol)) (λ f h. formulas (erase protocol) f has h) (erase protocol).properties m.properties properties has.properties) among

-- ---- places

names_said : (ps : List _) → model_property_names (map flat.property_form ps) ≡ map flat_name ps
names_said [] = refl
names_said (p ∷ ps) = ap (λ xs. flat_name p ∷ xs) (names_said ps)

places_said : (xs : List _) → model_places.step_places (map flat.step_form xs) ≡ map step_place xs
places_said [] = refl
places_said (x ∷ xs) = ap (λ ps. step_place x ∷ ps) (places_said xs)

numbered : (k n : ℕ) → places_from k n ≡ lines_from k n
numbered k zero = refl
numbered k (suc n) = ap (λ (ps : List Place). (record { line = k; column = 0 }) ∷ ps) (numbered (suc k) n)

flat_same : (f : flat.FormulaForm) → model_places.formula_places f ≡ unfolded_places.flat_places f
flat_same (flat.FormulaForm.constant p b) = refl
flat_same (flat.FormulaForm.«data» p x) = refl
flat_same (flat.FormulaForm.variable x) = refl
flat_same (flat.FormulaForm.negation p f) = flat_same f
flat_same (flat.FormulaForm.connected c p f g) = ap₂ (λ (xs ys : List Place). xs ++ ys) (flat_same f) (flat_same g)
flat_same (flat.FormulaForm.modal k p A f) = flat_same f
flat_same (flat.FormulaForm.fixpoint sign p x f) = ap (λ (ps : List Place). p ∷ ps) (flat_same f)

same_places : (f : protocol_form.FormulaForm) → unfolded_places.formula_places f ≡ formula_places f
same_places (protocol_form.FormulaForm.constant p b) = refl
same_places (protocol_form.FormulaForm.«data» p x) = refl
same_places (protocol_form.FormulaForm.variable x) = refl
same_places (protocol_form.FormulaForm.negation p f) = same_places f
same_places (protocol_form.FormulaForm.connected c p f g) = ap₂ (λ (xs ys : List Place). xs ++ ys) (same_places f) (same_places g)
same_places (protocol_form.FormulaForm.modal k p A f) = same_places f
same_places (protocol_form.FormulaForm.fixpoint sign p x f) = ap (λ (ps : List Place). p ∷ ps) (same_places f)
same_places (protocol_form.FormulaForm.quantified q p xs f) = same_places f

-- ---- the model

first_named : (ps : List protocol_form.PropertyForm) (qs : List flat.PropertyForm) → model_property_names qs ≡ property_names ps
    → (p : protocol_form.PropertyForm) × (slice_get ps 0 ≡ Some p) → (q : flat.PropertyForm) × (slice_get qs 0 ≡ Some q)
first_named [] qs e (p, at) = absurd (cc at)
first_named (p ∷ ps) [] e first = absurd (cc e)
first_named (p ∷ ps) (q ∷ qs) e first = (q, refl)

pub unfolded_is_flat : ModelsStandForProtocols → (protocol : ProtocolForm) (u : Unfolded) → CanBeSolved protocol → IsUnfoldedTo protocol u → IsFlatModelFor protocol (model_form u.model)
unfolded_is_flat laws protocol u solvable is =
    let names = names_said u.model.properties.items ∙ is.names in
    let steps = places_said u.model.steps.items ∙ (is.steps ∙ numbered 0 (length u.model.steps.items)) in
    record {
      from = subst (λ (b : Bool). IsFlatWhere b protocol (model_form u.model)) (sym is.unfolds) is.meaning;
      kept = inl is.keeps;
      hides_nothing = λ _. is.hides_nothing;
      solved = laws.unfolded protocol (model_form u.model) is.hides_nothing is.meaning names;
      first = first_named protocol.properties (model_form u.model).properties names solvable.first;
      apart = λ q among.
          let from = is.places q among in
          solvable.numbered from.0 (model_form u.model) q.formula 0 (length u.model.steps.items) from.1 steps
          (λ x inside. subst (λ (ps : List Place). Contains ps x) (same_places from.0.formula)
          (from.2 x (subst (λ (ps : List Place). Contains ps x) (flat_same q.formula) inside)));
      writable = subst ModelWritable (sym is.meaning) (laws.models (erase protocol) solvable.writable);
      formulas = have_words laws.formulas protocol (model_form u.model) is.meaning solvable.writable;
    }

-- properties by name
names_read : (ps : List DeclaredProperty) → map property_name ps ≡ property_names (map protocol_form.property_form ps)
names_read [] = refl
names_read (p ∷ ps) = ap (λ (xs : List Named). property_name p ∷ xs) (names_read ps)

-- what the protocol is unfolded to, by what is known of its unfolding
pub is_unfolded_to : (p : DeclaredProtocol) (u : Unfolded) → is_plain_protocol (protocol_form.protocol_form p) ≡ false → protocol_faults (protocol_form.protocol_form p) ≡ []
    → model_text.erase (model_form u.model) ≡ flat_model (erase (protocol_form.protocol_form p))
    → HidesNothing (erase (protocol_form.protocol_form p))
    → map flat_name u.model.properties.items ≡ map property_name p.properties.items → map step_place u.model.steps.items ≡ places_from 0 (length u.model.steps.items)
    → HavePlacesOf (protocol_form.protocol_form p) (model_form u.model) → map string_bytes u.variables.items ≡ told.told_variables (erase (protocol_form.protocol_form p))
    → map origin_name u.steps.items ≡ told.told_steps (erase (protocol_form.protocol_form p))
    → map origin_place u.steps.items ≡ told_step_places (protocol_form.protocol_form p)
    → map string_bytes u.impossible.items ≡ told.impossible_steps (erase (protocol_form.protocol_form p)) → IsUnfoldedTo (protocol_form.protocol_form p) u
is_unfolded_to p u unfolds keeps meaning hides_nothing names steps places told_variables told_steps told_places impossible = record {
  unfolds = unfolds;
  keeps = keeps;
  meaning = meaning;
  hides_nothing = hides_nothing;
  names = names ∙ names_read p.properties.items;
  steps = steps;
  places = places;
  told_variables = told_variables;
  told_steps = told_steps;
  told_places = told_places;
  impossible = impossible;
}

-- told by the protocol's names
pub unfolded_names : (protocol : ProtocolForm) (u : Unfolded) (names : ToldNames) → is_plain_protocol protocol ≡ false → IsUnfoldedTo protocol u
    → names.variables ≡ u.variables → map string_bytes names.steps.items ≡ map origin_name u.steps.items → names.places.items ≡ map origin_place u.steps.items
    → names.impossible ≡ u.impossible
    → AreNamesOf protocol (model_form u.model) (Some names)
unfolded_names protocol u names unfolds is variables steps places impossible = record {
  words =
      ap₂ (told_vocabulary (model_form u.model)) (ap (λ (xs : _). map string_bytes xs.items) variables ∙ is.told_variables) (steps ∙ is.told_steps)
      ∙ ap (λ (b : Bool). words_where b (erase protocol) (model_form u.model)) (sym unfolds);
  impossible =
      ap (λ (xs : _). map string_bytes xs.items) impossible ∙ is.impossible
      ∙ ap (λ (b : Bool). impossible_where b (erase protocol)) (sym unfolds);
  places = places ∙ is.told_places ∙ ap (λ (b : Bool). step_places_where b protocol) (sym unfolds);
}

-- ---- refusals

not_unfolded_by : (protocol : ProtocolForm) → is_plain_protocol protocol ≡ false → (r : UnfoldingRule) (p : Place) → IsUnfoldingFault protocol (record { rule = r; place = p })
    → IsRefusedProtocol protocol (as_model_fault (record { rule = r; place = p }))
not_unfolded_by protocol unfolds unfolding_rule.Names p is = inr (inr (inl (unfolds, (record { rule = unfolding_rule.Names; place = p }, is, refl))))
not_unfolded_by protocol unfolds unfolding_rule.Value p is = inr (inr (inl (unfolds, (record { rule = unfolding_rule.Value; place = p }, is, refl))))
not_unfolded_by protocol unfolds unfolding_rule.Index p is = inr (inr (inl (unfolds, (record { rule = unfolding_rule.Index; place = p }, is, refl))))
not_unfolded_by protocol unfolds unfolding_rule.Count p is = inr (inr (inl (unfolds, (record { rule = unfolding_rule.Count; place = p }, is, refl))))
not_unfolded_by protocol unfolds unfolding_rule.Operators p is = (unfolds, (record { rule = unfolding_rule.Operators; place = p }, is, refl))

pub not_unfolded : (protocol : ProtocolForm) → is_plain_protocol protocol ≡ false → (e : OrMemory UnfoldingFault) (x : OrMemory ModelFault)
    → raised (λ f above. above ≡ as_model_fault f) e x → IfFault e (IsUnfoldingFault protocol) → IfFault x (IsRefusedProtocol protocol)
not_unfolded protocol unfolds (Refused f) (Refused above) made is = subst (IsRefusedProtocol protocol) (sym made) (not_unfolded_by protocol unfolds f.rule f.place is)
not_unfolded protocol unfolds (Refused f) Memory made is = tt
not_unfolded protocol unfolds Memory (Refused above) made is = absurd made
not_unfolded protocol unfolds Memory Memory made is = tt

pub rules_broken : (protocol : ProtocolForm) (e : OrMemory TypingFault) (x : OrMemory ModelFault)
    → raised (λ f above. above ≡ model_fault.Typing f) e x → IfFault e (Contains (protocol_faults protocol)) → IfFault x (IsRefusedProtocol protocol)
rules_broken protocol (Refused f) (Refused above) made is = subst (IsRefusedProtocol protocol) (sym made) (inr (inl is))
rules_broken protocol (Refused f) Memory made is = tt
rules_broken protocol Memory (Refused above) made is = absurd made
rules_broken protocol Memory Memory made is = tt

-- ---- places that are told

pub told_zero : (steps : List Place) (p : Place) (o : Option Place) → p.column ≡ 0 → slice_get steps p.line ≡ o → step_place_of o p ≡ told_place steps p
told_zero steps p o zero_column at = sym (ap (λ (k : ℕ). told_at k steps p) zero_column ∙ ap (λ (x : Option Place). step_place_of x p) at)

pub told_more : (steps : List Place) (p : Place) (k : ℕ) → p.column ≡ k → (k ≡ 0 → ⊥) → p ≡ told_place steps p
told_more steps p zero is more = absurd (more refl)
told_more steps p (suc k) is more = sym (ap (λ (k : ℕ). told_at k steps p) is)
