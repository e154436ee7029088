-- Constants and bounds of a text as a whole.
use Rattle.std.proofs.Common.{◌≡◌, List, [], map, refl, sym, subst, inl, inr}
use Rattle.std.specs.Prelude.{◌⊎◌}
use Rattle.std.proofs.lemmas.List.Elements.{All-contains}
use Rattle.pb_text_tree.specs.declared.place.Place.{Place}
use Rattle.pb_protocol_tree.specs.Form.{BoundsForm, ConstantForm, ModelTextForm, ProtocolForm}
use Rattle.pb_protocol_typing.specs.Faults.{protocol_faults}
use Rattle.pb_protocol_constants.specs.declared.fault.ConstantsFault.{ConstantsFault}
use Rattle.pb_protocol_constants.specs.Settled.{constants_alone, place_of_constant, HasNoSorts, HasNumber, HasSmallNumbers, HaveNumbers}
use Rattle.pb_protocol_constants.specs.Hidden.{hidden_faults}
use Rattle.pb_protocol_constants.specs.Rules.{AreAllBounds, AreBounds, KeepRules, TextKeepsRules}
use Rattle.pb_protocol_constants.specs.Faults.{IsBoundsFault, IsConstantsFault, IsFaultOfSome, IsSettlingFault, IsTypingFaultIn}
use Rattle.pb_protocol_constants.proofs.Lists.{all-numbers}
use Rattle.pb_protocol_constants.proofs.Values.{number-small}

-- what keeps to the rules has small numbers
pub small-numbers : (t : ModelTextForm) → TextKeepsRules t → HasSmallNumbers t
small-numbers t r =
    let m = constants_alone t.constants in
    record {
      constants = λ c here. number-small m c.value (All-contains (λ (d : ConstantForm). HasNumber m d.value) t.constants c r.values here);
      low = λ b here. number-small m b.low (All-contains (AreBounds m) t.bounds b r.bounds here).low.number;
      high = λ b here. number-small m b.high (All-contains (AreBounds m) t.bounds b r.bounds here).high.number;
      order = λ b here. (All-contains (AreBounds m) t.bounds b r.bounds here).order;
    }

pub no-sorts : (cs : List ConstantForm) (m : ProtocolForm) → m ≡ constants_alone cs → HasNoSorts m
no-sorts cs m alone = subst HasNoSorts (sym alone) refl

pub rules-so : (cs : List ConstantForm) (bs : List BoundsForm) (m p : ProtocolForm) (ps : List Place) → m ≡ constants_alone cs → ps ≡ map place_of_constant cs
    → (protocol_faults m ≡ []) × (hidden_faults m.definitions p ≡ []) → HaveNumbers m ps → AreAllBounds m bs → KeepRules cs bs p
rules-so cs bs m p ps alone places clear numbers bounds = record {
  definitions = subst (λ (x : ProtocolForm). protocol_faults x ≡ []) alone clear.0;
  names = subst (λ (x : ProtocolForm). hidden_faults x.definitions p ≡ []) alone clear.1;
  values = all-numbers (constants_alone cs) cs (subst (λ (qs : List Place). HaveNumbers (constants_alone cs) qs) places (subst (λ (x : ProtocolForm). HaveNumbers x ps) alone numbers));
  bounds = subst (λ (x : ProtocolForm). AreAllBounds x bs) alone bounds;
}

-- the faults are those of the text
pub typing-so : (cs : List ConstantForm) (bs : List BoundsForm) (m p : ProtocolForm) → m ≡ constants_alone cs → (f : ConstantsFault)
    → IsTypingFaultIn (protocol_faults m) f ⊎ IsTypingFaultIn (hidden_faults m.definitions p) f → IsSettlingFault cs bs p f
typing-so cs bs m p alone f (inl h) = inl (subst (λ (x : ProtocolForm). IsTypingFaultIn (protocol_faults x) f) alone h)
typing-so cs bs m p alone f (inr h) = inr (inl (subst (λ (x : ProtocolForm). IsTypingFaultIn (hidden_faults x.definitions p) f) alone h))

pub values-so : (cs : List ConstantForm) (bs : List BoundsForm) (m p : ProtocolForm) (ps : List Place) → m ≡ constants_alone cs → ps ≡ map place_of_constant cs → (f : ConstantsFault)
    → IsConstantsFault m ps f ⊎ IsFaultOfSome (IsBoundsFault m) bs f → IsSettlingFault cs bs p f
values-so cs bs m p ps alone places f (inl h) =
    inr (inr (inl (subst (λ (qs : List Place). IsConstantsFault (constants_alone cs) qs f) places (subst (λ (x : ProtocolForm). IsConstantsFault x ps f) alone h))))
values-so cs bs m p ps alone places f (inr h) = inr (inr (inr (subst (λ (x : ProtocolForm). IsFaultOfSome (IsBoundsFault x) bs f) alone h)))
