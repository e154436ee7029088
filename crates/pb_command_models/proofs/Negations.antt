-- What is made of the negation of a property, alone in the protocol, or how that is refused.
use Rattle.std.proofs.Common.{◌≡◌, ◌∙◌, ◌⊎◌, ℕ, List, Some, refl, sym, subst, inl, inr}
use Rattle.std.specs.List.{slice_get}
use Rattle.pb_text_tree.specs.declared.place.Place.{Place}
use Rattle.pb_model_tree.specs.Form.{ModelForm, PropertyForm, model_form}
use Rattle.pb_protocol_tree.specs.Form as protocol_form
use Rattle.pb_protocol_tree.specs.Form.{ProtocolForm}
use Rattle.pb_protocol_negation.specs.Negated.{negated}
use Rattle.pb_model_faults.specs.declared.ModelFault.{ModelFault}
use Rattle.pb_model_faults.specs.declared.ModelFault.TheVariants as model_fault
use Rattle.pb_model_properties.specs.declared.solved.SolvedModel.{SolvedModel}
use Rattle.pb_model_properties.specs.Negations.{IsNegationOf, IsRefusedNegation, with_negation}
use Rattle.pb_model_properties.specs.Refusals.{IsIllTypedText, IsOfUnsettled, IsRefusedProtocol, IsRefusedText}
use Rattle.pb_model_properties.specs.Said.{protocol_satisfies, tree_satisfies, IsModelFor, IsTheReading}
use Rattle.pb_model_properties.specs.Words.{IsToldModel}
use Rattle.pb_model_properties.proofs.Negations.{same_reading}
use Rattle.pb_command_faults.specs.declared.property_fault.PropertyExcess.{PropertyExcess}
use Rattle.pb_command_faults.specs.declared.property_fault.PropertyExcess.TheVariants.{Text, Code, Game, NegationText, NegationTyping}
use Rattle.pb_command_faults.specs.declared.solve_fault.SolveFault.{SolveFault}
use Rattle.pb_command_faults.specs.declared.solve_fault.SolveFault.TheVariants as solve_fault
use Rattle.pb_command_models.specs.declared.property_module.PropertyModule.{PropertyModule}
use Rattle.pb_command_models.specs.declared.property_module.PropertyModule.TheVariants as property_module
use Rattle.pb_command_models.specs.Denials.{IsExcessOf, IsRefusedNegationAt, IsFaultOfText}
use Rattle.pb_command_models.specs.Models.{IsTooLargeNegation, IsTooLargeProperty}
use Rattle.pb_command_models.specs.Outcomes.{IsExcessBy, IsNegationAt, IsNegationModule, IsPropertyModule, IsRule, IsUnexplainedText}

-- what is too large of the text of a negation is of the negation
pub large_negation : (protocol : ProtocolForm) (p : protocol_form.PropertyForm) (model : ModelForm) → IsModelFor (with_negation protocol p) model
    → (q : PropertyForm) → slice_get model.properties 0 ≡ Some q → (excess : PropertyExcess) → IsTooLargeProperty model q excess → IsTooLargeNegation protocol p excess
large_negation protocol p model is_for q first Text h = record { model = model; is_for = is_for; negation = q; first = first; holds = h }
large_negation protocol p model is_for q first (Code limit) h = record { model = model; is_for = is_for; negation = q; first = first; holds = h }
large_negation protocol p model is_for q first Game h = record { model = model; is_for = is_for; negation = q; first = first; holds = h }
large_negation protocol p model is_for q first (NegationText rule) h = absurd h
large_negation protocol p model is_for q first (NegationTyping rule) h = absurd h

-- a property stands in the protocol
module _ (bytes : List ℕ) (place : ℕ) (protocol : ProtocolForm) (read : IsTheReading bytes protocol) (p : protocol_form.PropertyForm) (stands : slice_get protocol.properties place ≡ Some p) where
  -- what is said of the property that stands there in whatever the bytes say is said of it
  of_same : (P : ProtocolForm → protocol_form.PropertyForm → Type 0) (other : ProtocolForm) → IsTheReading bytes other → (x : protocol_form.PropertyForm)
      → slice_get other.properties place ≡ Some x → P other x → P protocol p
  of_same P other of_other x there h =
      let same : other ≡ protocol = same_reading bytes protocol other read of_other in
      let both : Some x ≡ Some p = sym (subst (λ (y : ProtocolForm). slice_get y.properties place ≡ Some x) same there) ∙ stands in
      let is : x ≡ p = cc both in
      subst (P protocol) is (subst (λ (y : ProtocolForm). P y x) same h)

  -- ---- refused before it is a text

  refused_by : (fault : ModelFault) (excess : PropertyExcess) → IsRefusedProtocol (with_negation protocol p) fault ⊎ IsOfUnsettled protocol fault → IsExcessBy fault excess
      → IsTooLargeNegation protocol p excess
  refused_by (model_fault.Text fault) excess h is = subst (IsTooLargeNegation protocol p) (sym is) (fault, refl, h)
  refused_by (model_fault.Typing fault) excess (inl h) is = subst (IsTooLargeNegation protocol p) (sym is) (fault, refl, inl h)
  refused_by (model_fault.Typing fault) excess (inr h) is = subst (IsTooLargeNegation protocol p) (sym is) (fault, refl, inr (inr h))
  refused_by model_fault.NoProperty excess h is = absurd is

  refused_here : (fault : ModelFault) (excess : PropertyExcess) → IsRefusedNegation bytes place fault → IsExcessBy fault excess → IsTooLargeNegation protocol p excess
  refused_here fault excess h is =
      refused_by fault excess (of_same (λ x y. IsRefusedProtocol (with_negation x y) fault ⊎ IsOfUnsettled x fault) h.protocol h.read h.property h.stands h.refused) is

  -- ---- its text

  module _ (solved : SolvedModel) (of : IsNegationOf bytes place solved) where
    told_here : IsToldModel (with_negation protocol p) solved
    told_here = of_same (λ x y. IsToldModel (with_negation x y) solved) of.protocol of.read of.property of.stands of.told

    abbrev model : ModelForm
    model = model_form solved.typed.model

    says_here : tree_satisfies model of.negation.formula ≡ protocol_satisfies protocol (negated p.formula)
    says_here = of_same (λ x y. tree_satisfies model of.negation.formula ≡ protocol_satisfies x (negated y.formula)) of.protocol of.read of.property of.stands of.says

    ill_typed : (fault : ModelFault) (excess : PropertyExcess) → IsRefusedText solved of.negation fault → IsExcessBy fault excess → IsTooLargeNegation protocol p excess
    ill_typed (model_fault.Text fault) excess h is = absurd h
    ill_typed model_fault.NoProperty excess h is = absurd h
    ill_typed (model_fault.Typing fault) excess h is =
        subst (IsTooLargeNegation protocol p) (sym is) (
          fault,
          refl,
          inr (inl (record {
            model = model;
            is_for = told_here.is_for;
            negation = of.negation;
            first = of.first;
            holds = subst (λ (steps : List Place). IsIllTypedText model steps of.negation fault) told_here.places h;
          })),
        )

    module_here : (compiled : PropertyModule) → IsPropertyModule model of.negation compiled → IsNegationModule protocol p compiled
    module_here (property_module.Verified m) h = record { model = model; is_for = told_here.is_for; negation = of.negation; first = of.first; holds = (h, says_here) }
    module_here (property_module.TooLarge excess) h = large_negation protocol p model told_here.is_for of.negation of.first excess h

    unexplained_here : (fault : SolveFault) (excess : PropertyExcess) → IsUnexplainedText solved of.negation fault → IsExcessOf fault excess → IsTooLargeNegation protocol p excess
    unexplained_here (solve_fault.Typing fault) excess h is = ill_typed (model_fault.Typing fault) excess h is
    unexplained_here (solve_fault.Property fault) excess h is =
        subst (IsTooLargeNegation protocol p) (sym is) (large_negation protocol p model told_here.is_for of.negation of.first fault.excess h.1)
    unexplained_here (solve_fault.Text fault) excess h is = absurd h
    unexplained_here (solve_fault.Limit excess) e h is = absurd h
    unexplained_here (solve_fault.Module fault) excess h is = absurd h
    unexplained_here (solve_fault.Acceptance fault) excess h is = absurd h
    unexplained_here solve_fault.TooManyVertices excess h is = absurd h
    unexplained_here solve_fault.NoProperty excess h is = absurd h

-- the negation of the property at the place is refused so
pub negation_refused : (bytes : List ℕ) (place : ℕ) (fault : ModelFault) (excess : PropertyExcess) → IsRefusedNegation bytes place fault → IsExcessBy fault excess
    → IsRefusedNegationAt bytes place excess
negation_refused bytes place fault excess h is protocol read p stands = refused_here bytes place protocol read p stands fault excess h is

module _ (bytes : List ℕ) (place : ℕ) (solved : SolvedModel) (of : IsNegationOf bytes place solved) where
  pub negation_ill_typed : (fault : ModelFault) (excess : PropertyExcess) → IsRefusedText solved of.negation fault → IsExcessBy fault excess → IsRefusedNegationAt bytes place excess
  negation_ill_typed fault excess h is protocol read p stands = ill_typed bytes place protocol read p stands solved of fault excess h is

  pub negation_unexplained : (fault : SolveFault) (excess : PropertyExcess) → IsUnexplainedText solved of.negation fault → IsExcessOf fault excess → IsRefusedNegationAt bytes place excess
  negation_unexplained fault excess h is protocol read p stands = unexplained_here bytes place protocol read p stands solved of fault excess h is

  -- the module is that of the negation
  pub negation_module : (compiled : PropertyModule) → IsPropertyModule (model_form solved.typed.model) of.negation compiled → IsNegationAt bytes place compiled
  negation_module compiled h protocol read p stands = module_here bytes place protocol read p stands solved of compiled h

  pub negation_told : (protocol : ProtocolForm) → IsTheReading bytes protocol → (p : protocol_form.PropertyForm) → slice_get protocol.properties place ≡ Some p
      → IsToldModel (with_negation protocol p) solved
  negation_told protocol read p stands = told_here bytes place protocol read p stands solved of

  pub negation_says : (protocol : ProtocolForm) → IsTheReading bytes protocol → (p : protocol_form.PropertyForm) → slice_get protocol.properties place ≡ Some p
      → tree_satisfies (model_form solved.typed.model) of.negation.formula ≡ protocol_satisfies protocol (negated p.formula)
  negation_says protocol read p stands = says_here bytes place protocol read p stands solved of

-- ---- faults

-- that a property isn't there refuses no protocol
never_refused : (protocol : ProtocolForm) (p : protocol_form.PropertyForm)
    → IsRefusedProtocol (with_negation protocol p) model_fault.NoProperty ⊎ IsOfUnsettled protocol model_fault.NoProperty → IsRule model_fault.NoProperty
never_refused protocol p (inl h) = absurd h
never_refused protocol p (inr h) = absurd h

-- a negation is refused by a rule
pub refused_rule : (bytes : List ℕ) (place : ℕ) (fault : ModelFault) → IsRefusedNegation bytes place fault → IsRule fault
refused_rule bytes place (model_fault.Text fault) h = tt
refused_rule bytes place (model_fault.Typing fault) h = tt
refused_rule bytes place model_fault.NoProperty h = never_refused h.protocol h.property h.refused

pub text_rule : (solved : SolvedModel) (q : PropertyForm) (fault : ModelFault) → IsRefusedText solved q fault → IsRule fault
text_rule solved q (model_fault.Text fault) h = tt
text_rule solved q (model_fault.Typing fault) h = tt
text_rule solved q model_fault.NoProperty h = absurd h

pub text_fault : (solved : SolvedModel) (q : PropertyForm) (fault : SolveFault) → IsUnexplainedText solved q fault → IsFaultOfText fault
text_fault solved q (solve_fault.Typing fault) h = tt
text_fault solved q (solve_fault.Property fault) h = tt
text_fault solved q (solve_fault.Text fault) h = absurd h
text_fault solved q (solve_fault.Limit excess) h = absurd h
text_fault solved q (solve_fault.Module fault) h = absurd h
text_fault solved q (solve_fault.Acceptance fault) h = absurd h
text_fault solved q solve_fault.TooManyVertices h = absurd h
text_fault solved q solve_fault.NoProperty h = absurd h
