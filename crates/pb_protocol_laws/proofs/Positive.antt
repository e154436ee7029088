-- Where a protocol keeps the rules, what is called stands under an even number of negations.
use Rattle.std.proofs.Common.{◌≡◌, zero, suc, Bool, true, false, true≢false, not, ◌||◌, List, [], ◌∷◌, map, refl, sym, ◌∙◌, arith, None}
use Rattle.std.specs.Prelude.{All}
use Rattle.std.proofs.lemmas.List.Elements.{All-weaker}
use Rattle.pb_text_tree.specs.declared.operator.Connective.{Connective}
use Rattle.pb_text_tree.specs.declared.operator.Connective.TheVariants as connective
use Rattle.pb_model_tree.specs.declared.formula.Modality.{Modality}
use Rattle.pb_model_tree.specs.declared.formula.Modality.TheVariants.{Box, Diamond}
use Rattle.pb_typing_declarations.specs.declared.fault.TypingRule.TheVariants.{OddNegations, UnknownName}
use Rattle.pb_typing_rules.specs.Faults.{left_parity}
use Rattle.pb_text_meaning.specs.Erase as texts
use Rattle.pb_protocol_tree.specs.Form.{FormulaForm, PropertyForm, ProtocolForm}
use Rattle.pb_protocol_meaning.specs.Syntax.{StepSet, Formula, Property}
use Rattle.pb_protocol_meaning.specs.Erase.{erase, erased_formula, erased_property, erased_steps, joined, modal}
use Rattle.pb_protocol_unfolding.specs.Positive.{HasPositiveCalls}
use Rattle.pb_protocol_unfolding.specs.Positive as protocol
use Rattle.pb_protocol_typing.specs.Fault.{fault_unless, either_fault, first_fault}
use Rattle.pb_protocol_typing.specs.Scopes.{Scope, variables, fixpoint, inside, is_fixpoint}
use Rattle.pb_protocol_typing.specs.Sets.{StepShapes, set_fault}
use Rattle.pb_protocol_typing.specs.Formulas.{is_constant, fixpoint_fault, variables_fault, formula_fault}
use Rattle.pb_protocol_typing.specs.Faults.{data_form, protocol_faults, property_fault, outermost, signatures_of, steps_of}
use Rattle.pb_protocol_laws.specs.PositiveFormulas.{IsPositive}
use Rattle.pb_protocol_laws.specs.Fixpoints.{ProtocolPropertiesArePositive}
use Rattle.pb_protocol_laws.proofs.PositiveCalls.{calls-suffice}
use Rattle.pb_protocol_laws.proofs.Kept.{no_either, holds, kept}

constant-joined : (c : Connective) (f g : Formula) → protocol.is_constant (joined c f g) ≡ false
constant-joined connective.And f g = refl
constant-joined connective.Or f g = refl
constant-joined connective.Implies f g = refl

constant-modal : (k : Modality) (A : StepSet) (f : Formula) → protocol.is_constant (modal k A f) ≡ false
constant-modal Box A f = refl
constant-modal Diamond A f = refl

constant-erased : (f : FormulaForm) → protocol.is_constant (erased_formula f) ≡ is_constant f
constant-erased (FormulaForm.constant p b) = refl
constant-erased (FormulaForm.«data» p x) = refl
constant-erased (FormulaForm.variable x) = refl
constant-erased (FormulaForm.negation p f) = refl
constant-erased (FormulaForm.connected c p f g) = constant-joined c (erased_formula f) (erased_formula g)
constant-erased (FormulaForm.modal k p A f) = constant-modal k (erased_steps A) (erased_formula f)
constant-erased (FormulaForm.fixpoint sign p x f) = refl
constant-erased (FormulaForm.quantified q p xs f) = refl

other_true : (b c : Bool) → (b || c) ≡ true → b ≡ false → c ≡ true
other_true true c e h = absurd (true≢false h)
other_true false c e h = e

positive-joined : (c : Connective) (even : Bool) (f g : Formula) → HasPositiveCalls (left_parity c even) f → HasPositiveCalls even g → HasPositiveCalls even (joined c f g)
positive-joined connective.And even f g h k = (h, k)
positive-joined connective.Or even f g h k = (h, k)
positive-joined connective.Implies even f g h k = (h, k)

positive-modal : (k : Modality) (even : Bool) (A : StepSet) (f : Formula) → (protocol.is_constant f ≡ false → even ≡ true) → HasPositiveCalls true f → HasPositiveCalls even (modal k A f)
positive-modal Box even A f h e = (h, e)
positive-modal Diamond even A f h e = (h, e)

positive-formula : (steps : StepShapes) (s : Scope) (even : Bool) (f : FormulaForm) → formula_fault steps s even f ≡ None → HasPositiveCalls even (erased_formula f)
positive-formula steps s even (FormulaForm.constant p b) e = tt
positive-formula steps s even (FormulaForm.«data» p x) e = tt
positive-formula steps s even (FormulaForm.variable x) e =
    holds even OddNegations x.place (no_either (fault_unless (is_fixpoint s.around x.text) UnknownName x.place) (fault_unless even OddNegations x.place) e).1
positive-formula steps s even (FormulaForm.negation p f) e = positive-formula steps s (not even) f e
positive-formula steps s even (FormulaForm.connected c p f g) e =
    let parts = no_either (formula_fault steps s (left_parity c even) f) (formula_fault steps s even g) e in
    positive-joined c even (erased_formula f) (erased_formula g) (positive-formula steps s (left_parity c even) f parts.0) (positive-formula steps s even g parts.1)
positive-formula steps s even (FormulaForm.modal k p A f) e =
    let inner = formula_fault steps s true f in
    let parts = no_either (fault_unless (is_constant f || even) OddNegations p) (either_fault (set_fault steps s A) inner) e in
    let others = no_either (set_fault steps s A) inner parts.1 in
    positive-modal k even (erased_steps A) (erased_formula f)
    (λ other. other_true (is_constant f) even (holds (is_constant f || even) OddNegations p parts.0) (sym (constant-erased f) ∙ other))
    (positive-formula steps s true f others.1)
positive-formula steps s even (FormulaForm.fixpoint sign p x f) e =
    let inner = formula_fault steps (inside (fixpoint x.text) s) true f in
    let parts = no_either (fault_unless even OddNegations p) (either_fault (fixpoint_fault s x) inner) e in
    let others = no_either (fixpoint_fault s x) inner parts.1 in
    (holds even OddNegations p parts.0, positive-formula steps (inside (fixpoint x.text) s) true f others.1)
positive-formula steps s even (FormulaForm.quantified q p xs f) e =
    positive-formula steps (inside (variables xs) s) even f (no_either (variables_fault s xs) (formula_fault steps (inside (variables xs) s) even f) e).1

positive-each : (steps : StepShapes) (s : Scope) (ps : List PropertyForm)
    → first_fault (property_fault steps s) ps ≡ None → All (λ (p : Property). HasPositiveCalls true p.formula) (map erased_property ps)
positive-each steps s [] e k d below = absurd (omega arith)
positive-each steps s (p ∷ ps) e zero d below = positive-formula steps s true p.formula (no_either (property_fault steps s p) (first_fault (property_fault steps s) ps) e).0
positive-each steps s (p ∷ ps) e (suc k) d below = positive-each steps s ps (no_either (property_fault steps s p) (first_fault (property_fault steps s) ps) e).1 k d (omega arith)

pub calls_are_positive : (text : ProtocolForm) → protocol_faults text ≡ [] → All (λ (p : Property). HasPositiveCalls true p.formula) (erase text).properties
calls_are_positive text e =
    let spec = texts.erase (data_form text) in
    positive-each (steps_of spec text) (outermost spec (signatures_of spec text)) text.properties (kept text e).properties

-- so do fixpoints' variables
pub properties_are_positive : ProtocolPropertiesArePositive
properties_are_positive text e =
    All-weaker (λ (p : Property). HasPositiveCalls true p.formula) (λ (p : Property). IsPositive p.formula)
    (λ p h. calls-suffice true p.formula h) (erase text).properties (calls_are_positive text e)
