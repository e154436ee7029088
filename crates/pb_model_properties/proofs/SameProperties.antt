-- The property of a protocol in whose place a property of the model is asked.
use Rattle.std.proofs.Common.{◌≡◌, ℕ, zero, suc, List, [], ◌∷◌, Some, subst}
use Rattle.std.specs.Prelude.{Contains}
use Rattle.std.specs.List.{slice_get}
use Rattle.std.proofs.lemmas.List.Elements.{Contains-append_left, Contains-append_right, Contains-push}
use Rattle.pb_model_tree.specs.Form.{ModelForm, PropertyForm}
use Rattle.pb_protocol_tree.specs.Form as protocol_form
use Rattle.pb_protocol_tree.specs.Form.{ProtocolForm}
use Rattle.pb_protocol_laws.specs.Solved.{AreSameProperties, IsSameProperty}

pub record IsMeant (protocol : ProtocolForm) (model : ModelForm) (ps : List protocol_form.PropertyForm) (q : PropertyForm) : Type 0 where
  pub property : protocol_form.PropertyForm
  pub among : Contains ps property
  pub same : IsSameProperty protocol model property q

first_among : (p : protocol_form.PropertyForm) (ps : List protocol_form.PropertyForm) → Contains (p ∷ ps) p
first_among p ps = Contains-append_left (p ∷ []) ps p (Contains-push [] p)

pub meant_at : (protocol : ProtocolForm) (model : ModelForm) (ps : List protocol_form.PropertyForm) (qs : List PropertyForm)
    → AreSameProperties protocol model ps qs → (k : ℕ) (q : PropertyForm) → slice_get qs k ≡ Some q → IsMeant protocol model ps q
meant_at protocol model [] [] same k q at = absurd (cc at)
meant_at protocol model [] (x ∷ qs) same k q at = absurd same
meant_at protocol model (p ∷ ps) [] same k q at = absurd same
meant_at protocol model (p ∷ ps) (x ∷ qs) (is, more) zero q at =
    let here : x ≡ q = cc at in
    record { property = p; among = first_among p ps; same = subst (λ (y : PropertyForm). IsSameProperty protocol model p y) here is }
meant_at protocol model (p ∷ ps) (x ∷ qs) (is, more) (suc k) q at =
    let found = meant_at protocol model ps qs more k q at in
    record { property = found.property; among = Contains-append_right (p ∷ []) ps found.property found.among; same = found.same }
