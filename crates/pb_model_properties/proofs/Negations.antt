-- The model that is solved in the place of a protocol with the negation of one property alone.
use Rattle.std.proofs.Common.{◌≡◌, ◌∙◌, ℕ, zero, suc, ◌<◌, length, not, ◌&&◌, List, [], ◌∷◌, ◌++◌, Some, map, refl, sym, ap, ap₂, subst, arith, inl, inr}
use Rattle.std.specs.Prelude.{Contains, Result, Ok, Err, IfOk, option_map}
use Rattle.std.specs.List.{list_all, slice_get}
use Rattle.std.proofs.lemmas.List.{length-map}
use Rattle.std.proofs.lemmas.Option.{slice_get-map, slice_get_within, get_or_from_slice_get}
use Rattle.pb_base.specs.OrMemory.{IfRefused}
use Rattle.pb_base.specs.declared.or_memory.OrMemory.{OrMemory}
use Rattle.pb_base.specs.declared.or_memory.OrMemory.TheVariants.{Refused, Memory}
use Rattle.pb_text_tree.specs.declared.place.Place.{Place}
use Rattle.pb_text_tree.specs.declared.operator.Connective.TheVariants as connective
use Rattle.pb_text_printer.specs.Sayable.{Each}
use Rattle.pb_model_tree.specs.declared.formula.Modality.TheVariants as modality
use Rattle.pb_model_tree.specs.Form as flat
use Rattle.pb_model_tree.specs.Form.{ModelForm, model_form}
use Rattle.pb_model_runs.specs.Exact.{are_apart, is_among}
use Rattle.pb_model_spelling.specs.Protocols.{FormulaWritable, PropertyWritable, ProtocolWritable}
use Rattle.pb_model_places.specs.Apart.{formula_places, protocol_stands_apart, step_places}
use Rattle.pb_protocol_tree.specs.Form.{FormulaForm, ModelTextForm, PropertyForm, ProtocolForm}
use Rattle.pb_protocol_meaning.specs.Erase.{erase, erased_formula, erased_property}
use Rattle.pb_protocol_constants.specs.declared.fault.ConstantsFault.{ConstantsFault}
use Rattle.pb_protocol_constants.specs.declared.fault.ConstantsFault.TheVariants as constants
use Rattle.pb_protocol_constants.specs.Faults.{IsFaultOfText}
use Rattle.pb_protocol_constants.specs.Rules.{TextKeepsRules}
use Rattle.pb_protocol_constants.specs.Settled.{settled}
use Rattle.pb_protocol_negation.specs.Negated.{negated, negated_property}
use Rattle.pb_protocol_negation.specs.Laws.{SatisfactionIsKept}
use Rattle.pb_protocol_laws.specs.Solved.{AreSameProperties, IsSameProperty}
use Rattle.pb_model_faults.specs.declared.ModelFault.{ModelFault}
use Rattle.pb_model_faults.specs.declared.ModelFault.TheVariants as model_fault
use Rattle.pb_model_properties.specs.declared.solved.SolvedModel.{SolvedModel}
use Rattle.pb_model_properties.specs.Faults.{constants_fault}
use Rattle.pb_model_properties.specs.Negations.{HasPropertyAt, IsNegationOf, IsRefusedNegation, with_negation}
use Rattle.pb_model_properties.specs.Refusals.{HasUnsettledText, IsOfUnsettled, IsRefusedProtocol, IsUnread, IsUnsettled}
use Rattle.pb_model_properties.specs.Said.{protocol_satisfies, tree_satisfies, IsModelFor, IsTheReading}
use Rattle.pb_model_properties.specs.Solvable.{CanBeSolved}
use Rattle.pb_model_properties.specs.Words.{IsToldModel}
use Rattle.pb_model_properties.proofs.Settling.{never_typing}

-- ---- where its properties go on

kept_places : (f : FormulaForm) → formula_places (negated f) ≡ formula_places f
kept_places (FormulaForm.constant p b) = refl
kept_places (FormulaForm.«data» p x) = refl
kept_places (FormulaForm.variable x) = refl
kept_places (FormulaForm.negation p f) = kept_places f
kept_places (FormulaForm.connected connective.And p f g) = ap₂ (λ (xs ys : List Place). xs ++ ys) (kept_places f) (kept_places g)
kept_places (FormulaForm.connected connective.Or p f g) = ap₂ (λ (xs ys : List Place). xs ++ ys) (kept_places f) (kept_places g)
kept_places (FormulaForm.connected connective.Implies p f g) = ap₂ (λ (xs ys : List Place). xs ++ ys) (kept_places f) (kept_places g)
kept_places (FormulaForm.modal k p A f) = kept_places f
kept_places (FormulaForm.fixpoint sign p x f) = ap (λ (ps : List Place). p ∷ ps) (kept_places f)
kept_places (FormulaForm.quantified q p xs f) = kept_places f

-- the one element
only : (p x : PropertyForm) → Contains (p ∷ []) x → x ≡ p
only p x (zero, below, at) = sym at
only p x (suc k, below, at) = absurd (omega (arith, below))

-- ---- its words

formula_negated : (f : FormulaForm) → FormulaWritable (erased_formula f) → FormulaWritable (erased_formula (negated f))
formula_negated (FormulaForm.constant p b) h = h
formula_negated (FormulaForm.«data» p x) h = h
formula_negated (FormulaForm.variable x) h = h
formula_negated (FormulaForm.negation p f) h = formula_negated f h
formula_negated (FormulaForm.connected connective.And p f g) h = (formula_negated f h.0, formula_negated g h.1)
formula_negated (FormulaForm.connected connective.Or p f g) h = (formula_negated f h.0, formula_negated g h.1)
formula_negated (FormulaForm.connected connective.Implies p f g) h = (formula_negated f h.0, formula_negated g h.1)
formula_negated (FormulaForm.modal modality.Box p A f) h = formula_negated f h
formula_negated (FormulaForm.modal modality.Diamond p A f) h = formula_negated f h
formula_negated (FormulaForm.fixpoint sign p x f) h = (h.0, formula_negated f h.1)
formula_negated (FormulaForm.quantified q p xs f) h = (h.0, formula_negated f h.1)

-- what holds of each holds of the one at a place
each_at : {X : Type 0} (P : X → Type 0) (xs : List X) (k : ℕ) (x : X) → Each P xs → slice_get xs k ≡ Some x → P x
each_at P [] k x h at = absurd (cc at)
each_at P (y ∷ xs) zero x h at = let is : y ≡ x = cc at in subst P is h.0
each_at P (y ∷ xs) (suc k) x h at = each_at P xs k x h.1 at

module _ (protocol : ProtocolForm) (place : ℕ) (p : PropertyForm) (stands : slice_get protocol.properties place ≡ Some p) where
  among : Contains protocol.properties p
  among = (place, slice_get_within protocol.properties place p stands, get_or_from_slice_get protocol.properties place p p stands)

  words_negated : ProtocolWritable (erase protocol) → ProtocolWritable (erase (with_negation protocol p))
  words_negated h =
      let here : slice_get (map erased_property protocol.properties) place ≡ Some (erased_property p) =
      slice_get-map erased_property protocol.properties place ∙ ap (option_map erased_property) stands in
      let written = each_at PropertyWritable (map erased_property protocol.properties) place (erased_property p) h.properties here in
      record {
        sorts = h.sorts;
        ranges = h.ranges;
        variables = h.variables;
        definitions = h.definitions;
        steps = h.steps;
        initial = h.initial;
        properties = ((written.0, formula_negated p.formula written.1), tt);
      }

  -- ---- what can be solved

  pub negation_solvable : CanBeSolved protocol → CanBeSolved (with_negation protocol p)
  negation_solvable is = record {
    writable = words_negated is.writable;
    first = (negated_property p, refl);
    apart = λ n one.
        let steps = step_places protocol.steps in
        ap (λ (x : PropertyForm). protocol_stands_apart (with_negation protocol p) x.formula) (only (negated_property p) n one)
        ∙ (ap (λ (ps : List Place). are_apart steps && list_all (λ q. not (is_among steps q)) ps) (kept_places p.formula) ∙ is.apart p among);
    numbered = λ n m g line count one steps goes.
        is.numbered p m g line count among steps
        (λ q here. subst (λ (ps : List Place). Contains ps q)
        (ap (λ (x : PropertyForm). formula_places x.formula) (only (negated_property p) n one) ∙ kept_places p.formula) (goes q here));
  }

  -- ---- what it satisfies

  first_same : (P : ProtocolForm) (m : ModelForm) (x : PropertyForm) (qs : List flat.PropertyForm) (q : flat.PropertyForm)
      → AreSameProperties P m (x ∷ []) qs → slice_get qs 0 ≡ Some q → IsSameProperty P m x q
  first_same P m x [] q same at = absurd same
  first_same P m x (y ∷ qs) q same at = let is : y ≡ q = cc at in subst (IsSameProperty P m x) is same.0

  negation_says : SatisfactionIsKept → (m : ModelForm) → IsModelFor (with_negation protocol p) m → (q : flat.PropertyForm) → slice_get m.properties 0 ≡ Some q
      → tree_satisfies m q.formula ≡ protocol_satisfies protocol (negated p.formula)
  negation_says kept m is_for q at =
      (first_same (with_negation protocol p) m (negated_property p) m.properties q is_for.solved.properties at).satisfied
      ∙ kept (erase protocol) (erased_property (negated_property p) ∷ []) (erased_formula (negated p.formula))

  -- ---- of bytes

  module _ (bytes : List ℕ) (read : IsTheReading bytes protocol) (n : ProtocolForm) (is : n ≡ with_negation protocol p) where
    negation_of : SatisfactionIsKept → (x : SolvedModel) → IsToldModel n x → IsNegationOf bytes place x
    negation_of kept x h =
        let told = subst (λ (m : ProtocolForm). IsToldModel m x) is h in
        let first = told.is_for.first in
        record {
          protocol = protocol;
          read = read;
          property = p;
          stands = stands;
          told = told;
          negation = first.0;
          first = first.1;
          says = negation_says kept (model_form x.typed.model) told.is_for first.0 first.1;
        }

    pub negation_model : SatisfactionIsKept → (r : Result SolvedModel (OrMemory ModelFault)) → IfOk r (IsToldModel n) → IfOk r (IsNegationOf bytes place)
    negation_model kept (Ok x) h = negation_of kept x h
    negation_model kept (Err e) h = tt

    pub negation_refused : (r : Result SolvedModel (OrMemory ModelFault)) → IfRefused r (IsRefusedProtocol n) → IfRefused r (IsRefusedNegation bytes place)
    negation_refused (Ok x) h = tt
    negation_refused (Err (Refused f)) h =
        record { protocol = protocol; read = read; property = p; stands = stands; refused = inl (subst (λ (m : ProtocolForm). IsRefusedProtocol m f) is h) }
    negation_refused (Err Memory) h = tt

-- an element stands at each place within
stands_at : {X : Type 0} (xs : List X) (k : ℕ) → k < length xs → (x : X) × (slice_get xs k ≡ Some x)
stands_at [] k less = absurd (omega (arith, less))
stands_at (x ∷ xs) zero less = (x, refl)
stands_at (x ∷ xs) (suc k) less = stands_at xs k (omega (arith, less))

-- and so does what is made of it
pub made_at : {X Y : Type 0} (form : X → Y) (items : List X) (k : ℕ) → k < length items → (y : Y) × (slice_get (map form items) k ≡ Some y)
made_at form items k less = stands_at (map form items) k (omega (arith, less, length-map items form))

-- ---- what was read

-- what the bytes say is one protocol
pub same_reading : (bytes : List ℕ) (p q : ProtocolForm) → IsTheReading bytes p → IsTheReading bytes q → q ≡ p
same_reading bytes p q of_p of_q = of_q.is_settled ∙ ap settled (of_p.is_text.only _ _ of_q.text of_q.is_text.reading) ∙ sym of_p.is_settled

-- a text that says a protocol is the one whose constants aren't settled, so it is for a term
by_its_terms : (protocol : ProtocolForm) (fault : ModelFault) (text : ModelTextForm) → protocol ≡ settled text → TextKeepsRules text
    → (below : ConstantsFault) → fault ≡ constants_fault below → IsFaultOfText text below → HasUnsettledText protocol fault
by_its_terms protocol fault text is keeps (constants.Typing f) same breaks = absurd (never_typing text keeps f breaks)
by_its_terms protocol fault text is keeps (constants.Term f) same breaks = (text, is, f, same, breaks)

of_unsettled : (bytes : List ℕ) (protocol : ProtocolForm) (fault : ModelFault) → IsTheReading bytes protocol → IsUnsettled bytes fault → HasUnsettledText protocol fault
of_unsettled bytes protocol fault read (text, is, below, same, breaks) =
    let one : read.text ≡ text = is.only _ _ read.text read.is_text.reading in
    by_its_terms protocol fault text (read.is_settled ∙ ap settled one) (subst TextKeepsRules one read.keeps) below same breaks

unread_is_unsettled : (bytes : List ℕ) (protocol : ProtocolForm) (fault : ModelFault) → IsTheReading bytes protocol → IsUnread bytes fault → IsOfUnsettled protocol fault
unread_is_unsettled bytes protocol (model_fault.Text fault) read (inl h) = absurd (h.0 read.text read.is_text.reading)
unread_is_unsettled bytes protocol (model_fault.Text fault) read (inr h) = of_unsettled bytes protocol (model_fault.Text fault) read h
unread_is_unsettled bytes protocol (model_fault.Typing fault) read h = of_unsettled bytes protocol (model_fault.Typing fault) read h
unread_is_unsettled bytes protocol model_fault.NoProperty read h = h

-- where the bytes say a protocol, only terms of constants and bounds may not be unfolded
pub unread_negation : (bytes : List ℕ) (place : ℕ) (fault : ModelFault) → HasPropertyAt bytes place → IsUnread bytes fault → IsRefusedNegation bytes place fault
unread_negation bytes place fault (protocol, read, within) h =
    let here = stands_at protocol.properties place within in
    record { protocol = protocol; read = read; property = here.0; stands = here.1; refused = inr (unread_is_unsettled bytes protocol fault read h) }
