-- The texts of all properties.
use Rattle.std.proofs.Common.{◌≡◌, ◌∙◌, ℕ, zero, suc, ◌+◌, ◌<◌, false, List, [], ◌∷◌, Some, length, map, refl, sym, ap, subst, inl, inr, arith}
use Rattle.std.specs.Prelude.{Contains, Result, Ok, Err, OnOk}
use Rattle.std.specs.List.{slice_get}
use Rattle.std.proofs.lemmas.List.{length-map}
use Rattle.pb_base.specs.OrMemory.{IfFault, IfRefused}
use Rattle.pb_base.specs.declared.or_memory.OrMemory.{OrMemory}
use Rattle.pb_base.specs.declared.or_memory.OrMemory.TheVariants.{Refused, Memory}
use Rattle.pb_text_tree.specs.declared.place.Place.{Place}
use Rattle.pb_text_tree.specs.Form.{SpecForm}
use Rattle.pb_text_meaning.specs.Erase as text
use Rattle.pb_typing_rules.specs.WellTyped.{IsWellTyped}
use Rattle.pb_model_tree.specs.declared.model.Property.{Property}
use Rattle.pb_model_tree.specs.Form.{PropertyForm, ModelForm, model_form, property_form}
use Rattle.pb_model_meaning.specs.Erase.{erase, erased_formula}
use Rattle.pb_model_typing.specs.Texts.{HasTypedText}
use Rattle.pb_protocol_tree.specs.Form.{ProtocolForm}
use Rattle.pb_model_faults.specs.declared.ModelFault.{ModelFault}
use Rattle.pb_model_faults.specs.declared.ModelFault.TheVariants as model_fault
use Rattle.pb_model_properties.specs.declared.solved.SolvedModel.{SolvedModel}
use Rattle.pb_model_properties.specs.Refusals.{HasRefusedText, IsRefusedBeyond, IsIllTypedText, IsRefusedProtocol, IsRefusedText, PassesAsText, PassesLimits, is_limit}
use Rattle.pb_model_properties.specs.Said.{IsTextOf}
use Rattle.pb_model_properties.specs.Words.{IsToldModel}

-- ---- places

some-at : (ps : List PropertyForm) (k : ℕ) → k < length ps → (p : PropertyForm) × (slice_get ps k ≡ Some p)
some-at [] k below = absurd (omega (arith, below))
some-at (p ∷ ps) zero below = (p, refl)
some-at (p ∷ ps) (suc k) below = some-at ps k (omega (arith, below))

pub some-property : (ps : List Property) (k : ℕ) → k < length ps → (p : PropertyForm) × (slice_get (map property_form ps) k ≡ Some p)
some-property ps k below = let many = length-map ps property_form in some-at (map property_form ps) k (omega (arith, below, many))

among : (ps : List PropertyForm) (k : ℕ) (p : PropertyForm) → slice_get ps k ≡ Some p → Contains ps p
among [] k p at = absurd (cc at)
among (q ∷ ps) zero p at = let is : q ≡ p = cc at in (zero, omega arith, is)
among (q ∷ ps) (suc k) p at = let rest = among ps k p at in (suc rest.0, omega (arith, rest.1), rest.2)

pub stands-at : (ps : List PropertyForm) (p : PropertyForm) → Contains ps p → (k : ℕ) × (k < length ps) × (slice_get ps k ≡ Some p)
stands-at [] p (k, below, at) = absurd (omega (arith, below))
stands-at (q ∷ ps) p (zero, below, at) = (zero, below, ap Some at)
stands-at (q ∷ ps) p (suc k, below, at) = let rest = stands-at ps p (k, omega (arith, below), at) in (suc rest.0, omega (arith, rest.1), rest.2)

-- ---- one text

module _ (solved : SolvedModel) where
  pub typed-passes : (p : PropertyForm) (x : SpecForm) → IsTextOf (model_form solved.typed.model) p x → PassesAsText solved p
  typed-passes p x is = inl (subst IsWellTyped is.translated is.typed)

  abbrev At : ℕ → (PropertyForm → Type 0) → Type 0
  At place P = (p : PropertyForm) → slice_get (model_form solved.typed.model).properties place ≡ Some p → P p

  pub limit-passes : (place : ℕ) (error : OrMemory ModelFault) (r : Result (Unit {0}) (OrMemory ModelFault)) → PassesLimits error r
      → IfFault error (λ fault. At place (λ p. IsRefusedText solved p fault)) → OnOk r (At place (PassesAsText solved))
  limit-passes place (Refused fault) (Ok u) is h = λ p at. inr (fault, is.limit, h p at)
  limit-passes place Memory (Ok u) is h = absurd is.limit
  limit-passes place error (Err e) is h = tt

  pub other-refuses : (place : ℕ) (error : OrMemory ModelFault) (r : Result (Unit {0}) (OrMemory ModelFault)) → PassesLimits error r
      → IfFault error (λ fault. At place (λ p. IsRefusedText solved p fault)) → IfRefused r (λ fault. At place (λ p. IsRefusedBeyond solved p fault))
  other-refuses place error (Ok u) is h = tt
  other-refuses place error (Err Memory) is h = tt
  other-refuses place (Refused fault) (Err (Refused made)) is h = λ p at.
      (subst (λ (f : ModelFault). is_limit f ≡ false) (sym is.other.0) is.other.1, subst (IsRefusedText solved p) (sym is.other.0) (h p at))
  other-refuses place Memory (Err (Refused made)) is h = absurd is.other

  -- what isn't that of a limit
  pub refused-among : (place : ℕ) → place < length solved.typed.model.properties.items → (error : OrMemory ModelFault)
      → IfFault error (λ fault. (p : PropertyForm) → slice_get (model_form solved.typed.model).properties place ≡ Some p → IsRefusedBeyond solved p fault)
      → IfFault error (HasRefusedText solved)
  refused-among place below (Refused fault) h =
      let some = some-property solved.typed.model.properties.items place below in
      (some.0, among (model_form solved.typed.model).properties place some.0 some.1, h some.0 some.1)
  refused-among place below Memory h = tt

-- ---- of the protocol

text-refuses : (protocol : ProtocolForm) (solved : SolvedModel) → IsToldModel protocol solved → (fault : ModelFault) → HasRefusedText solved fault → IsRefusedProtocol protocol fault
text-refuses protocol solved is (model_fault.Typing fault) (p, here, h) = inr (inr (inr (inr (record {
  model = model_form solved.typed.model;
  is_for = is.is_for;
  property = p;
  among = here;
  beyond = h.0;
  text = subst (λ (ps : List Place). IsIllTypedText (model_form solved.typed.model) ps p fault) is.places h.1;
}))))
text-refuses protocol solved is (model_fault.Text fault) (p, here, h) = absurd h.1
text-refuses protocol solved is model_fault.NoProperty (p, here, h) = absurd h.1

pub error-refuses : (protocol : ProtocolForm) (solved : SolvedModel) → IsToldModel protocol solved → (error : OrMemory ModelFault) → IfFault error (HasRefusedText solved)
    → IfFault error (IsRefusedProtocol protocol)
error-refuses protocol solved is (Refused fault) h = text-refuses protocol solved is fault h
error-refuses protocol solved is Memory h = tt
