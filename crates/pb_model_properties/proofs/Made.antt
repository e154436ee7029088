-- What was made of a protocol that was read.
use Rattle.std.proofs.Common.{◌≡◌, ◌∙◌, Bool, true, false, ℕ, zero, suc, List, [], ◌∷◌, Some, None, length, map, refl, sym, ap, subst, inl, inr, true≢false}
use Rattle.std.specs.Prelude.{nat_lt, Contains, Result, Ok, Err, IfOk}
use Rattle.std.specs.List.{slice_get}
use Rattle.std.proofs.lemmas.List.{length-map}
use Rattle.pb_base.specs.declared.limits.TheConstants.{MAX_PARAMETERS}
use Rattle.pb_base.specs.OrMemory.{IfFault, IfRefused, raised}
use Rattle.pb_base.specs.declared.or_memory.OrMemory.{OrMemory}
use Rattle.pb_base.specs.declared.or_memory.OrMemory.TheVariants.{Refused, Memory}
use Rattle.pb_text_tree.specs.declared.place.Place.{Place}
use Rattle.pb_text.specs.declared.error.TextFault.{TextFault}
use Rattle.pb_typing_declarations.specs.declared.fault.TypingFault.{TypingFault}
use Rattle.pb_model_tree.specs.Form as flat
use Rattle.pb_model_tree.specs.Form.{ModelForm, model_form}
use Rattle.pb_model_meaning.specs.Erase as model_text
use Rattle.pb_model_typing.specs.Texts.{IsModelFault, IsTypedModel}
use Rattle.pb_protocol_tree.specs.Form as protocol_form
use Rattle.pb_protocol_tree.specs.Form.{ModelTextForm, ProtocolForm}
use Rattle.pb_protocol_meaning.specs.Erase.{erase}
use Rattle.pb_protocol_unfolding.specs.Plain.{plain, IsPlain, ModelCountsNothing}
use Rattle.pb_protocol_unfolder.specs.Plain.{is_plain_protocol, plain_form, plain_formula_form, plain_property_form, plain_variable_form}
use Rattle.pb_model_spelling.specs.Protocols.{ProtocolWritable}
use Rattle.pb_model_places.specs.Apart.{KeptPlacesStandApart}
use Rattle.pb_model_places.specs.Apart as places
use Rattle.pb_model_text.specs.Parsing.{IsFirstModelFault, NoModelReading}
use Rattle.pb_protocol_typing.specs.Faults.{protocol_faults}
use Rattle.pb_protocol_unfolder_terms.specs.declared.fault.UnfoldRule.{UnfoldRule}
use Rattle.pb_protocol_unfolder_terms.specs.declared.fault.UnfoldRule.TheVariants as unfold_rule
use Rattle.pb_protocol_constants.specs.declared.fault.ConstantsFault.{ConstantsFault}
use Rattle.pb_protocol_constants.specs.declared.fault.ConstantsFault.TheVariants as constants
use Rattle.pb_protocol_constants.specs.Faults.{IsFaultOfText}
use Rattle.pb_protocol_laws.specs.SolvedLaws.{PlainModelsAreSolved, model_property_names, property_names}
use Rattle.pb_model_faults.specs.declared.ModelFault.{ModelFault}
use Rattle.pb_model_faults.specs.declared.ModelFault.TheVariants as model_fault
use Rattle.pb_model_properties.specs.Faults.{constants_fault, term_fault}
use Rattle.pb_model_properties.specs.Laws.{ModelsStandForProtocols}
use Rattle.pb_model_properties.specs.Made.{IsFlatOf, IsFlatWhere, KeepsRules, has_many_variables, step_places_where}
use Rattle.pb_model_properties.specs.Refusals.{IsRefusedModel, IsRefusedProtocol, IsUnread, told_at, told_fault, told_place}
use Rattle.pb_model_properties.specs.Said.{IsTheReading, IsTheText}
use Rattle.pb_model_properties.specs.Solvable.{CanBeSolved}
use Rattle.pb_model_properties.specs.Flat.{IsFlatModelFor}
use Rattle.pb_model_properties.specs.declared.solved.SolvedModel.{SolvedModel}
use Rattle.pb_model_properties.specs.Words.{AreNamesOf, IsToldModel, IsToldModelOf, impossible_where, words_where}
use Rattle.pb_protocol_laws.proofs.PlainWords.{plain-writable}
use Rattle.pb_model_properties.proofs.CountsNothing.{counts_nothing}
use Rattle.pb_model_properties.proofs.PlainWords.{plain_places, plain_steps, property_among, property_has}
use Rattle.pb_model_properties.proofs.SolvedModels.{as_it_is}

-- ---- models of plain protocols

plain_names : (ps : List flat.PropertyForm) → map (λ (p : flat.PropertyForm). p.name) ps ≡ map (λ (p : protocol_form.PropertyForm). p.name) (map plain_property_form ps)
plain_names [] = refl
plain_names (p ∷ ps) = ap (λ xs. p.name ∷ xs) (plain_names ps)

first_plain : (ps : List flat.PropertyForm) → (p : protocol_form.PropertyForm) × (slice_get (map plain_property_form ps) 0 ≡ Some p) → (p : flat.PropertyForm) × (slice_get ps 0 ≡ Some p)
first_plain [] (p, at) = absurd (cc at)
first_plain (p ∷ ps) first = (p, refl)

names_kept : (protocol : ProtocolForm) (m : ModelForm) → protocol ≡ plain_form m → model_property_names m.properties ≡ property_names protocol.properties
names_kept protocol m words = plain_names m.properties ∙ ap (λ (x : ProtocolForm). property_names x.properties) (sym words)

-- what a plain protocol says of its model
pub record IsPlainFor (protocol : ProtocolForm) (m : ModelForm) : Type 0 where
  pub plainly : is_plain_protocol protocol ≡ true
  pub words : protocol ≡ plain_form m
  pub rules : KeepsRules protocol m
  pub meaning : erase protocol ≡ plain (model_text.erase m)
  pub solvable : CanBeSolved protocol
  pub kept : KeptPlacesStandApart

-- nothing counts in it
pub plain_counts_nothing : (protocol : ProtocolForm) (m : ModelForm) → is_plain_protocol protocol ≡ true → protocol ≡ plain_form m → ModelCountsNothing (model_text.erase m)
plain_counts_nothing protocol m plainly words = counts_nothing m (subst (λ (x : ProtocolForm). is_plain_protocol x ≡ true) words plainly)

plain_of : (protocol : ProtocolForm) (m : ModelForm) → is_plain_protocol protocol ≡ true → protocol ≡ plain_form m → IsFlatOf protocol m
plain_of protocol m plainly words = subst (λ (b : Bool). IsFlatWhere b protocol m) (sym plainly) words

pub plain_is_flat : PlainModelsAreSolved → (protocol : ProtocolForm) (m : ModelForm) → IsPlainFor protocol m → IsPlain (model_text.erase m) → IsFlatModelFor protocol m
plain_is_flat law protocol m is plainly =
    let counts = plain_counts_nothing protocol m is.plainly is.words in
    let has : ProtocolWritable (plain (model_text.erase m)) = subst ProtocolWritable is.meaning is.solvable.writable in
    let apart : (q : protocol_form.PropertyForm) → Contains (plain_form m).properties q → places.protocol_stands_apart (plain_form m) q.formula ≡ true =
    subst (λ (x : ProtocolForm). (q : protocol_form.PropertyForm) → Contains x.properties q → places.protocol_stands_apart x q.formula ≡ true) is.words is.solvable.apart in
    record {
      from = plain_of protocol m is.plainly is.words;
      kept = is.rules;
      hides_nothing = λ other. absurd (true≢false (sym is.plainly ∙ other));
      solved = law protocol m plainly counts.properties is.meaning (names_kept protocol m is.words);
      first = first_plain m.properties (subst (λ (x : ProtocolForm). (p : protocol_form.PropertyForm) × (slice_get x.properties 0 ≡ Some p)) is.words is.solvable.first);
      apart = λ p among. is.kept (plain_form m) (plain_formula_form p.formula) m p.formula (apart (plain_property_form p) (property_among m p among)) (plain_steps m.steps)
          (plain_places p.formula);
      writable = plain-writable (model_text.erase m) counts.steps counts.initial has;
      formulas = λ p among. property_has m counts.properties has p among;
    }

-- where the protocol keeps the rules
pub kept_is_flat : ModelsStandForProtocols → (protocol : ProtocolForm) (m : ModelForm) → CanBeSolved protocol → is_plain_protocol protocol ≡ true → protocol ≡ plain_form m
    → erase protocol ≡ plain (model_text.erase m) → protocol_faults protocol ≡ [] → IsFlatModelFor protocol m
kept_is_flat laws protocol m solvable plainly words meaning keeps =
    let is : IsPlainFor protocol m = record { plainly = plainly; words = words; rules = inl keeps; meaning = meaning; solvable = solvable; kept = laws.kept } in
    plain_is_flat laws.plain protocol m is (laws.rules protocol (model_text.erase m) keeps meaning (plain_counts_nothing protocol m plainly words))

-- and its words are its own
pub plain_names_of : (protocol : ProtocolForm) (m : ModelForm) → is_plain_protocol protocol ≡ true → AreNamesOf protocol m None
plain_names_of protocol m plainly = record {
  words = ap (λ (b : Bool). words_where b (erase protocol) m) (sym plainly);
  impossible = ap (λ (b : Bool). impossible_where b (erase protocol)) (sym plainly);
  places = ap (λ (b : Bool). step_places_where b protocol) (sym plainly);
}

-- it has as many variables as the protocol
pub plain_few : (protocol : ProtocolForm) (m : ModelForm) → protocol ≡ plain_form m → nat_lt MAX_PARAMETERS (length protocol.variables) ≡ false → has_many_variables m ≡ false
plain_few protocol m words few =
    sym (ap (λ (x : ProtocolForm). nat_lt MAX_PARAMETERS (length x.variables)) words ∙ ap (nat_lt MAX_PARAMETERS) (length-map m.variables plain_variable_form)) ∙ few

-- ---- refusals

-- where no steps are told, a place stays
place_stays : (p : Place) (column : ℕ) → p.column ≡ column → told_place [] p ≡ p
place_stays p zero e = ap (λ (k : ℕ). told_at k [] p) e ∙ refl
place_stays p (suc k) e = ap (λ (k : ℕ). told_at k [] p) e ∙ refl

pub untold : (f : TypingFault) → f ≡ told_fault [] f
untold f = ap (λ (p : Place). let x : TypingFault = record { rule = f.rule; place = p } in x) (sym (place_stays f.place f.place.column refl))

-- a plain protocol's model that is not well typed
pub plain_refused : (protocol : ProtocolForm) (m : ModelForm) → is_plain_protocol protocol ≡ true → protocol ≡ plain_form m → has_many_variables m ≡ false
    → (e : OrMemory TypingFault) (x : OrMemory ModelFault)
    → raised (λ f above. above ≡ model_fault.Typing f) e x → IfFault e (IsModelFault m) → IfFault e (λ _. ¬ IsTypedModel m) → IfFault x (IsRefusedProtocol protocol)
plain_refused protocol m plainly words few (Refused f) (Refused above) made fault ill = subst (IsRefusedProtocol protocol) (sym made) (inl (record {
  model = m;
  made = as_it_is m few protocol (plain_of protocol m plainly words);
  ill_typed = ill;
  broken = f;
  fails = fault;
  told = untold f ∙ ap (λ (b : Bool). told_fault (step_places_where b protocol) f) (sym plainly);
}))
plain_refused protocol m plainly words few (Refused f) Memory made fault ill = tt
plain_refused protocol m plainly words few Memory (Refused above) made fault ill = absurd made
plain_refused protocol m plainly words few Memory Memory made fault ill = tt

-- bytes that say no protocol are refused by the fault that stands first in them
pub unread : (bytes : List ℕ) (e : OrMemory TextFault) (x : OrMemory ModelFault) → raised (λ f above. above ≡ model_fault.Text f) e x
    → IfFault e (λ _. NoModelReading bytes) → IfFault e (IsFirstModelFault bytes) → IfFault x (IsUnread bytes)
unread bytes (Refused f) (Refused above) made none first = subst (IsUnread bytes) (sym made) (inl (none, first))
unread bytes (Refused f) Memory made none first = tt
unread bytes Memory (Refused above) made none first = absurd made
unread bytes Memory Memory made none first = tt

-- so are those of a text whose constants or bounds aren't settled
module _ (bytes : List ℕ) (text : ModelTextForm) (is : IsTheText bytes text) where
  term_unsettled : (r : UnfoldRule) (p : Place) (below : ConstantsFault) → term_fault r p ≡ constants_fault below → IsFaultOfText text below → IsUnread bytes (term_fault r p)
  term_unsettled unfold_rule.Index p below same breaks = (text, is, below, same, breaks)
  term_unsettled unfold_rule.Operators p below same breaks = inr (text, is, below, same, breaks)
  term_unsettled unfold_rule.Depth p below same breaks = inr (text, is, below, same, breaks)
  term_unsettled unfold_rule.Values p below same breaks = inr (text, is, below, same, breaks)

  fault_unsettled : (f : ConstantsFault) → IsFaultOfText text f → IsUnread bytes (constants_fault f)
  fault_unsettled (constants.Typing f) breaks = (text, is, constants.Typing f, refl, breaks)
  fault_unsettled (constants.Term f) breaks = term_unsettled f.rule f.place (constants.Term f) refl breaks

  pub unsettled : (e : OrMemory ConstantsFault) (x : OrMemory ModelFault) → raised (λ f above. above ≡ constants_fault f) e x → IfFault e (IsFaultOfText text) → IfFault x (IsUnread bytes)
  unsettled (Refused f) (Refused above) made breaks = subst (IsUnread bytes) (sym made) (fault_unsettled f breaks)
  unsettled (Refused f) Memory made breaks = tt
  unsettled Memory (Refused above) made breaks = absurd made
  unsettled Memory Memory made breaks = tt

-- so they say no model
pub unread_refused : (bytes : List ℕ) (f : ModelFault) → IsUnread bytes f → IsRefusedModel bytes f
unread_refused bytes (model_fault.Text f) h = inl h
unread_refused bytes (model_fault.Typing f) h = inl h
unread_refused bytes model_fault.NoProperty h = h

-- a protocol that is refused
refused_by : (bytes : List ℕ) (protocol : ProtocolForm) → IsTheReading bytes protocol → (f : ModelFault) → IsRefusedProtocol protocol f → IsRefusedModel bytes f
refused_by bytes protocol read (model_fault.Text f) h = inr (protocol, read, h)
refused_by bytes protocol read (model_fault.Typing f) h = inr (protocol, read, h)
refused_by bytes protocol read model_fault.NoProperty h = h

pub refused_of : {T : Type 0} (bytes : List ℕ) (protocol : ProtocolForm) → IsTheReading bytes protocol → (r : Result T (OrMemory ModelFault)) → IfRefused r (IsRefusedProtocol protocol)
    → IfRefused r (IsRefusedModel bytes)
refused_of bytes protocol read (Ok x) h = tt
refused_of bytes protocol read (Err (Refused f)) h = refused_by bytes protocol read f h
refused_of bytes protocol read (Err Memory) h = tt

pub model_of_bytes : (bytes : List ℕ) (protocol : ProtocolForm) → IsTheReading bytes protocol → (r : Result SolvedModel (OrMemory ModelFault))
    → IfOk r (IsToldModel protocol) → IfOk r (IsToldModelOf bytes)
model_of_bytes bytes protocol read (Ok x) h = record { said = record { protocol = protocol; read = read; is_for = h.is_for }; words = h.words; impossible = h.impossible; places = h.places }
model_of_bytes bytes protocol read (Err e) h = tt
