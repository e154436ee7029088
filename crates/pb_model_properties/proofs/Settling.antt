-- A text whose constants and bounds keep their rules isn't refused by a rule of typing.
use Rattle.std.proofs.Common.{◌≡◌, ◌∙◌, ℕ, zero, suc, true≢false, List, [], ◌∷◌, Some, None, map, refl, sym, subst, inl, inr, arith}
use Rattle.std.specs.Prelude.{Contains}
use Rattle.std.specs.List.{slice_get}
use Rattle.std.proofs.lemmas.List.Elements.{All-contains}
use Rattle.pb_text_tree.specs.declared.place.Place.{Place}
use Rattle.pb_text_tree.specs.Form.{TermForm}
use Rattle.pb_typing_declarations.specs.declared.fault.TypingFault.{TypingFault}
use Rattle.pb_protocol_tree.specs.Form.{BoundsForm, ConstantForm, DefinitionForm, ModelTextForm, ProtocolForm}
use Rattle.pb_protocol_constants.specs.declared.fault.ConstantsFault.TheVariants as constants
use Rattle.pb_protocol_constants.specs.Faults.{HasNoNumber, IsBoundFault, IsBoundsFault, IsFaultOfText}
use Rattle.pb_protocol_constants.specs.Rules.{AreBounds, IsBound, TextKeepsRules}
use Rattle.pb_protocol_constants.specs.Settled.{constants_alone, definition_of_constant, value_of, HasNumber}

none_in : (faults : List TypingFault) (f : TypingFault) → faults ≡ [] → Contains faults f → ⊥
none_in faults f none among = let here : Contains [] f = subst (λ (fs : List TypingFault). Contains fs f) none among in omega (arith, here.1)

no_number : (m : ProtocolForm) (x : TermForm) → HasNumber m x → HasNoNumber m x → ⊥
no_number m x has none = let both : Some (value_of m x) ≡ None = sym has ∙ none in cc both

-- the constant that a definition is of
constant_at : (cs : List ConstantForm) (k : ℕ) (d : DefinitionForm) → slice_get (map definition_of_constant cs) k ≡ Some d
    → (c : ConstantForm) × Contains cs c × (definition_of_constant c ≡ d)
constant_at [] k d at = absurd (cc at)
constant_at (c ∷ cs) zero d at = (c, (zero, omega arith, refl), cc at)
constant_at (c ∷ cs) (suc k) d at =
    let other = constant_at cs k d at in
    let among : Contains cs other.0 = other.1 in
    (other.0, (suc among.0, omega (arith, among.1), among.2), other.2)

bound_kept : (m : ProtocolForm) (p : Place) (x : TermForm) (f : TypingFault) → IsBound m p x → IsBoundFault m p x (constants.Typing f) → ⊥
bound_kept m p x f keeps (inl h) = none_in _ f keeps.rules h
bound_kept m p x f keeps (inr h) = no_number m x keeps.number h.1

bounds_kept : (m : ProtocolForm) (b : BoundsForm) (f : TypingFault) → AreBounds m b → IsBoundsFault m b (constants.Typing f) → ⊥
bounds_kept m b f keeps (inl h) = bound_kept m b.low_place b.low f keeps.low h
bounds_kept m b f keeps (inr (inl h)) = bound_kept m b.high_place b.high f keeps.high h
bounds_kept m b f keeps (inr (inr h)) = true≢false (sym keeps.order ∙ h.1)

pub never_typing : (t : ModelTextForm) → TextKeepsRules t → (f : TypingFault) → IsFaultOfText t (constants.Typing f) → ⊥
never_typing t keeps f (inl h) = none_in _ f keeps.definitions h
never_typing t keeps f (inr (inl h)) = none_in _ f keeps.names h
never_typing t keeps f (inr (inr (inl (k, d, p, at, beside, breaks)))) =
    let m = constants_alone t.constants in
    let c = constant_at t.constants k d at in
    no_number m c.0.value (All-contains (λ (x : ConstantForm). HasNumber m x.value) t.constants c.0 keeps.values c.1)
    (subst (λ (x : DefinitionForm). HasNoNumber m x.term) (sym c.2) breaks.1)
never_typing t keeps f (inr (inr (inr (b, among, breaks)))) =
    let m = constants_alone t.constants in
    bounds_kept m b f (All-contains (AreBounds m) t.bounds b keeps.bounds among) breaks
