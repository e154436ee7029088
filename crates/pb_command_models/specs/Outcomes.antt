-- What becomes of the texts of properties, and of those of their negations.
use Rattle.std.specs.Prelude.{◌≡◌, ◌<◌, ⊤, ℕ, Bool, true, false, List, Option, Some, None, IfSome}
use Rattle.std.specs.Prelude.{◌==◌, Contains, Result, Ok, Err, IfOk, OnOk, Vec, length, map}
use Rattle.std.specs.declared.alloc.Global.{Global}
use Rattle.std.specs.List.{All, slice_get}
use Rattle.pb_text_tree.specs.Form.{SpecForm, spec_form}
use Rattle.pb_model_tree.specs.Form.{ModelForm, PropertyForm}
use Rattle.pb_protocol_negation.specs.Negated.{negated}
use Rattle.pb_protocol_tree.specs.Form as protocol_form
use Rattle.pb_protocol_tree.specs.Form.{ProtocolForm}
use Rattle.pb_model_properties.specs.declared.solved.SolvedModel.{SolvedModel}
use Rattle.pb_model_properties.specs.declared.verdicts.Verdict.{Verdict}
use Rattle.pb_model_properties.specs.declared.verdicts.Verdict.TheVariants.{True, False, Unknown}
use Rattle.pb_model_properties.specs.Joint.{IsSatisfiedAt}
use Rattle.pb_model_properties.specs.Negations.{IsNegationOf, IsRefusedNegation}
use Rattle.pb_model_properties.specs.Refusals.{is_limit, is_limit_rule, told_places}
use Rattle.pb_model_properties.specs.Refusals.{IsIllTypedText}
use Rattle.pb_model_properties.specs.Said.{protocol_satisfies, tree_satisfies, IsModelOf}
use Rattle.pb_model_properties.specs.Said.{IsTextOf, IsTheReading}
use Rattle.pb_report.specs.declared.answer.Answer.{Answer}
use Rattle.pb_command_solver.specs.declared.early.Early.{Early}
use Rattle.pb_command_solver.specs.declared.early.Early.TheVariants as early
use Rattle.pb_base.specs.OrMemory.{IfFault, IfRefused}
use Rattle.pb_base.specs.declared.or_memory.OrMemory.{OrMemory}
use Rattle.pb_base.specs.declared.or_memory.OrMemory.TheVariants as or_memory
use Rattle.pb_model_faults.specs.declared.ModelFault.{ModelFault}
use Rattle.pb_model_faults.specs.declared.ModelFault.TheVariants as model_fault
use Rattle.pb_command_faults.specs.declared.property_fault.PropertyExcess.{PropertyExcess}
use Rattle.pb_command_faults.specs.declared.property_fault.PropertyExcess.TheVariants.{Code}
use Rattle.pb_command_faults.specs.declared.property_fault.PropertyExcess.TheVariants.{NegationText}
use Rattle.pb_command_faults.specs.declared.property_fault.PropertyExcess.TheVariants.{NegationTyping}
use Rattle.pb_command_faults.specs.Errors.{fault_of_model}
use Rattle.pb_command_faults.specs.declared.solve_fault.SolveFault.{SolveFault}
use Rattle.pb_command_faults.specs.declared.solve_fault.SolveFault.TheVariants as solve_fault
use Rattle.pb_command_models.specs.declared.finding.Finding.{Finding}
use Rattle.pb_command_models.specs.declared.finding.Finding.TheVariants.{Decided, Refused, Shown}
use Rattle.pb_command_models.specs.declared.finding.PropertyFinding.{PropertyFinding}
use Rattle.pb_command_texts.specs.declared.explained.ExplainedText.{ExplainedText}
use Rattle.pb_command_models.specs.declared.outcome.AskedOutcome.{AskedOutcome}
use Rattle.pb_command_models.specs.declared.outcome.Outcome.{Outcome}
use Rattle.pb_command_models.specs.declared.outcome.Outcome.TheVariants as outcome
use Rattle.pb_command_models.specs.declared.property_module.AskedModule.{AskedModule}
use Rattle.pb_command_models.specs.declared.property_module.PropertyModule.{PropertyModule}
use Rattle.pb_command_models.specs.declared.property_module.PropertyModule.TheVariants as property_module
use Rattle.pb_command_models.specs.declared.property_text.AskedText.{AskedText}
use Rattle.pb_command_models.specs.declared.property_text.PropertyText.{PropertyText}
use Rattle.pb_command_models.specs.declared.property_text.PropertyText.TheVariants as property_text
use Rattle.pb_command_texts.specs.Answers.{IsModuleOfForm}
use Rattle.pb_command_texts.specs.Explained.{IsExplained}
use Rattle.pb_command_models.specs.declared.negation.Negation.{Negation}
use Rattle.pb_command_models.specs.Models.{FindsProperty, HasNegation, IsOverTextLimit}
use Rattle.pb_command_models.specs.Models.{IsPropertyAnswer, IsPropertyFound, IsShown}
use Rattle.pb_command_models.specs.Models.{IsTooLargeNegation, IsTooLargeProperty, solved_form}
use Rattle.pb_command_models.specs.Models.{verdict_of}

-- ---- texts

-- the error is a fault, and not want of memory
abbrev pub IsFault : {F : Type 0} → OrMemory F → Type 0
IsFault (or_memory.Refused fault) = ⊤
IsFault or_memory.Memory = ⊥

abbrev pub IsPropertyText : ModelForm → PropertyForm → PropertyText → Type 0
IsPropertyText model p (property_text.Typed text) = IsTextOf model p (spec_form text.spec)
IsPropertyText model p property_text.TooLarge = IsOverTextLimit model p

-- the text of the property at its place
pub record IsTextAt (model : ModelForm) (asked : AskedText) : Type 0 where
  pub property : PropertyForm
  pub stands : slice_get model.properties asked.place ≡ Some property
  pub text : IsPropertyText model property asked.text

-- the model satisfies the properties at these places
abbrev pub AreSatisfied : List ℕ → ModelForm → Type 0
AreSatisfied places model = All (IsSatisfiedAt model) places

-- this is found of the property at the place of the text, where the bytes say a protocol in whose
-- place a model is solved whose property's text that is, and which satisfies those at these places
pub record FindsByText {E : Type 0} (asked : AskedText) (satisfied : List ℕ) (counts : Bool)
    (old new : List ℕ) (result : Result PropertyFinding E) : Type 0 where
  pub same : new ≡ old
  pub place : IfOk result (λ found. found.place ≡ asked.place)
  pub found : IfOk result (λ found. (model : ModelForm) (said : IsModelOf old model)
      → IsTextAt model asked → AreSatisfied satisfied model
      → IsPropertyFound counts said.protocol model found)

-- so of the properties at the places of the texts, in order
pub record AreFoundByTexts (counts : Bool) (bytes : List ℕ) (texts : List AskedText)
    (satisfied : List ℕ) (findings : List PropertyFinding) : Type 0 where
  pub places :
      map (λ (f : PropertyFinding). f.place) findings
      ≡ map (λ (asked : AskedText). asked.place) texts
  pub found : (model : ModelForm) (said : IsModelOf bytes model) → All (IsTextAt model) texts
      → AreSatisfied satisfied model
      → All (IsPropertyFound counts said.protocol model) findings

-- the text of the property isn't well typed, by another rule than that of limits
abbrev pub IsUntypedText : SolvedModel → PropertyForm → SolveFault → Type 0
IsUntypedText solved p (solve_fault.Typing fault) =
    (is_limit_rule fault.rule ≡ false)
    × IsIllTypedText (solved_form solved) (told_places solved.names) p fault
IsUntypedText solved p fault = ⊥

-- so it is with the property at a place
abbrev pub IsUntypedAt : SolvedModel → ℕ → SolveFault → Type 0
IsUntypedAt solved place fault =
    (p : PropertyForm) × (slice_get (solved_form solved).properties place ≡ Some p)
    × IsUntypedText solved p fault

-- the text of the property at the place, or that it isn't well typed
pub record AsksProperty (solved : SolvedModel) (index : ℕ)
    (result : Result AskedText (OrMemory SolveFault)) : Type 0 where
  pub place : IfOk result (λ asked. asked.place ≡ index)
  pub text : IfOk result (IsTextAt (solved_form solved))
  pub refused : IfRefused result (IsUntypedAt solved index)

-- so it is with those at the places, in order
pub record AsksProperties (solved : SolvedModel) (indices : List ℕ)
    (result : Result (Vec AskedText Global) (OrMemory SolveFault)) : Type 0 where
  pub places : IfOk result (λ texts. map (λ (asked : AskedText). asked.place) texts.items ≡ indices)
  pub texts : IfOk result (λ texts. All (IsTextAt (solved_form solved)) texts.items)
  pub refused : IfRefused result
      (λ fault. (place : ℕ) × Contains indices place × IsUntypedAt solved place fault)

-- of a text that isn't well typed by this error: that it is too large where a limit is passed; else
-- it is refused
pub record AsksUntyped (error : OrMemory ModelFault) (place : ℕ)
    (result : Result AskedText (OrMemory SolveFault)) : Type 0 where
  pub large : IfOk result (λ asked. (asked.place ≡ place)
      × (asked.text ≡ property_text.TooLarge) × IfFault error (λ fault. is_limit fault ≡ true)
      × IsFault error)
  pub refused : IfRefused result (λ made.
      IfFault error (λ fault. made ≡ fault_of_model fault) × IsFault error
      × IfFault error (λ fault. is_limit fault ≡ false))

-- ---- modules

-- the module of the property's text, or what of the text is too large
abbrev pub IsPropertyModule : ModelForm → PropertyForm → PropertyModule → Type 0
IsPropertyModule model p (property_module.Verified m) =
    (text : SpecForm) × IsTextOf model p text × IsModuleOfForm text m
IsPropertyModule model p (property_module.TooLarge excess) = IsTooLargeProperty model p excess

-- that of the property at its place
pub record IsModuleAt (model : ModelForm) (asked : AskedModule) : Type 0 where
  pub property : PropertyForm
  pub stands : slice_get model.properties asked.place ≡ Some property
  pub compiled : IsPropertyModule model property asked.compiled

-- whatever property of a model the text is of, this is its module
abbrev pub IsModuleFor : PropertyText → PropertyModule → Type 0
IsModuleFor text made =
    (model : ModelForm) (p : PropertyForm) → IsPropertyText model p text
    → IsPropertyModule model p made

-- so it is with the text of the property at a place, where its module stands too
pub record IsModuleAsked (asked : AskedText) (made : AskedModule) : Type 0 where
  pub place : made.place ≡ asked.place
  pub compiled : (model : ModelForm) → IsTextAt model asked → IsModuleAt model made

-- P holds of whatever property of a model has this module of its text
abbrev pub OfModule : PropertyModule → (ModelForm → PropertyForm → Type 0) → Type 0
OfModule compiled P =
    (model : ModelForm) (p : PropertyForm) → IsPropertyModule model p compiled → P model p

-- the property that has this module is satisfied where the truth says so
abbrev pub IsTruthBy : PropertyModule → Bool → Type 0
IsTruthBy compiled truth = OfModule compiled (λ model p. truth ≡ tree_satisfies model p.formula)

-- ---- outcomes

abbrev pub IsOutcome : ModelForm → PropertyForm → Outcome → Type 0
IsOutcome model p (outcome.Answered answer) = IsPropertyAnswer model p answer
IsOutcome model p (outcome.TooLarge excess) = IsTooLargeProperty model p excess

-- what becomes of the text of a property that has this module
abbrev pub IsOutcomeBy : PropertyModule → Outcome → Type 0
IsOutcomeBy compiled outcome = OfModule compiled (λ model p. IsOutcome model p outcome)

-- what becomes of the text of the property at its place
pub record IsOutcomeAt (model : ModelForm) (asked : AskedOutcome) : Type 0 where
  pub property : PropertyForm
  pub stands : slice_get model.properties asked.place ≡ Some property
  pub outcome : IsOutcome model property asked.outcome

-- what is found of the property at its place, by the module of its text
abbrev pub FindsByModule : {E : Type 0} → AskedModule → Bool → (old new : List ℕ)
    → Result Finding E → Type 0
FindsByModule asked counts old new result =
    FindsProperty (λ model. IsModuleAt model asked) counts asked.place old new result

-- and by what becomes of its text
abbrev pub FindsByOutcome : {E : Type 0} → AskedOutcome → Bool → (old new : List ℕ)
    → Result Finding E → Type 0
FindsByOutcome asked counts old new result =
    FindsProperty (λ model. IsOutcomeAt model asked) counts asked.place old new result

-- what of a property is too large, by the fault of the code of its text
abbrev pub excess_of : SolveFault → Option PropertyExcess
excess_of (solve_fault.Limit excess) = Some (Code excess.limit)
excess_of fault = None

-- something of the property is too large
abbrev pub IsExcess : ModelForm → PropertyForm → Option PropertyExcess → Type 0
IsExcess model p (Some excess) = IsTooLargeProperty model p excess
IsExcess model p None = ⊥

-- the verdict that is found, or what is too large for one
abbrev pub verdict_in : Finding → Result Verdict PropertyExcess
verdict_in (Decided verdict a) = Ok verdict
verdict_in (Shown b) = Ok (verdict_of b)
verdict_in (Refused excess) = Err excess

-- ---- negations

-- a known negation is that of the property at the place
abbrev pub is_of : ℕ → Option Negation → Bool
is_of place None = false
is_of place (Some known) = known.place == place

-- a known negation is that of a property of the protocol that the bytes say
abbrev pub IsNegation : List ℕ → Option Negation → Type 0
IsNegation bytes known = IfSome known (λ n. IsNegationOf bytes n.place n.solved)

-- The negation of the property at the place is known, or that is refused.
pub record ReadsNegation (bytes : List ℕ) (place : ℕ) (known : Option Negation)
    (result : Result (Unit {0}) (OrMemory ModelFault)) : Type 0 where
  pub read : IsNegation bytes known
  pub there : OnOk result (is_of place known ≡ true)
  pub refused : IfRefused result (IsRefusedNegation bytes place)

-- The input keeps its bytes, and the model is that of the negation of the property at the place, or
-- that is refused.
pub record TakesNegation (place : ℕ) (old new : List ℕ)
    (result : Result SolvedModel (OrMemory ModelFault)) : Type 0 where
  pub same : new ≡ old
  pub taken : IfOk result (IsNegationOf old place)
  pub refused : IfRefused result (IsRefusedNegation old place)

-- a rule that is broken, and no property that isn't there
abbrev pub IsRule : ModelFault → Type 0
IsRule (model_fault.Text fault) = ⊤
IsRule (model_fault.Typing fault) = ⊤
IsRule model_fault.NoProperty = ⊥

-- how a negation is refused by the fault of a rule
abbrev pub IsExcessBy : ModelFault → PropertyExcess → Type 0
IsExcessBy (model_fault.Text fault) excess = excess ≡ NegationText fault.rule
IsExcessBy (model_fault.Typing fault) excess = excess ≡ NegationTyping fault.rule
IsExcessBy model_fault.NoProperty excess = ⊥

-- The module is that of the negation of the property p, alone in the protocol, which its model
-- satisfies exactly where the protocol satisfies that negation; or the negation is refused so.
abbrev pub IsNegationModule :
    ProtocolForm → protocol_form.PropertyForm → PropertyModule → Type 0
IsNegationModule protocol p (property_module.Verified m) =
    HasNegation protocol p (λ model q. IsPropertyModule model q (property_module.Verified m)
    × (tree_satisfies model q.formula ≡ protocol_satisfies protocol (negated p.formula)))
IsNegationModule protocol p (property_module.TooLarge excess) =
    IsTooLargeNegation protocol p excess

-- so of the property at the place, of the protocol that the bytes say
abbrev pub IsNegationAt : List ℕ → ℕ → PropertyModule → Type 0
IsNegationAt bytes place compiled =
    (protocol : ProtocolForm) → IsTheReading bytes protocol → (p : protocol_form.PropertyForm)
    → slice_get protocol.properties place ≡ Some p → IsNegationModule protocol p compiled

-- The input keeps its bytes, and the module is that of the negation of the property at the place.
pub record FindsNegation {E : Type 0} (place : ℕ) (old new : List ℕ)
    (result : Result PropertyModule E) : Type 0 where
  pub same : new ≡ old
  pub compiled : IfOk result (IsNegationAt old place)

-- the protocol that the bytes say satisfies the negation of the property at the place
abbrev pub IsDeniedAt : List ℕ → ℕ → Type 0
IsDeniedAt bytes place =
    (protocol : ProtocolForm) → IsTheReading bytes protocol → (p : protocol_form.PropertyForm)
    → slice_get protocol.properties place ≡ Some p
    → protocol_satisfies protocol (negated p.formula) ≡ true

-- what is shown of the property at a place
abbrev pub IsShownAt : ProtocolForm → ℕ → Bool → Type 0
IsShownAt protocol place b =
    (p : protocol_form.PropertyForm) × (slice_get protocol.properties place ≡ Some p)
    × IsShown protocol p.formula b

-- what is told early of the property p: nothing, whether it is satisfied, or its answer
abbrev pub IsEarlyOf : ModelForm → PropertyForm → Early → Type 0
IsEarlyOf model p early.Unknown = ⊤
IsEarlyOf model p (early.Shown b) = b ≡ tree_satisfies model p.formula
IsEarlyOf model p (early.Whole answer) = IsPropertyAnswer model p answer

-- what is told early of a property that has this module
abbrev pub IsEarlyBy : PropertyModule → Early → Type 0
IsEarlyBy compiled told = OfModule compiled (λ model p. IsEarlyOf model p told)

-- what the negation q decides of a property that has this answer
abbrev pub IsDecision : ModelForm → PropertyForm → Answer → Finding → Type 0
IsDecision model q answer (Decided True a) = ⊥
IsDecision model q answer (Decided False a) =
    (a ≡ answer) × (tree_satisfies model q.formula ≡ true)
IsDecision model q answer (Decided Unknown a) =
    (a ≡ answer) × (tree_satisfies model q.formula ≡ false)
IsDecision model q answer (Shown b) = ⊥
IsDecision model q answer (Refused excess) = IsTooLargeProperty model q excess

-- so it is with the negation that has this module; one that is refused refuses the property
abbrev pub IsDecisionBy : PropertyModule → Answer → Finding → Type 0
IsDecisionBy (property_module.Verified m) answer finding =
    OfModule (property_module.Verified m) (λ model q. IsDecision model q answer finding)
IsDecisionBy (property_module.TooLarge excess) answer finding = finding ≡ Refused excess

-- ---- explained texts

-- so of the text of the property
pub record IsExplainedText (model : ModelForm) (q : PropertyForm) (explained : ExplainedText)
    : Type 0 where
  pub text : IsTextOf model q (spec_form explained.typed.spec)
  pub explanation : IsExplained explained

-- those of the property at a place
abbrev pub IsExplainedAt : ModelForm → ℕ → ExplainedText → Type 0
IsExplainedAt model place explained =
    (q : PropertyForm) → slice_get model.properties place ≡ Some q
    → IsExplainedText model q explained

-- and a property stands at the place
abbrev pub IsExplainedIn : ModelForm → ℕ → ExplainedText → Type 0
IsExplainedIn model place explained =
    (place < length model.properties) × IsExplainedAt model place explained

-- what a fault says of the text of the property: it isn't well typed, or something of it is too
-- large, which is told at the property's name
abbrev pub IsUnexplainedText : SolvedModel → PropertyForm → SolveFault → Type 0
IsUnexplainedText solved q (solve_fault.Typing fault) =
    IsIllTypedText (solved_form solved) (told_places solved.names) q fault
IsUnexplainedText solved q (solve_fault.Property fault) =
    (q.name.place ≡ fault.place) × IsTooLargeProperty (solved_form solved) q fault.excess
IsUnexplainedText solved q fault = ⊥

-- so it is with the property at a place
abbrev pub IsUnexplainedAt : SolvedModel → ℕ → SolveFault → Type 0
IsUnexplainedAt solved place fault =
    (q : PropertyForm) × (slice_get (solved_form solved).properties place ≡ Some q)
    × IsUnexplainedText solved q fault

-- the text of the property at the place is explained, or it is refused
pub record ExplainsProperty (solved : SolvedModel) (place : ℕ)
    (result : Result ExplainedText (OrMemory SolveFault)) : Type 0 where
  pub explained : IfOk result (IsExplainedAt (solved_form solved) place)
  pub refused : IfRefused result (IsUnexplainedAt solved place)

-- what is found of the property at the place, whose text is explained
abbrev pub FindsExplained : {E : Type 0} → ExplainedText → ℕ → (old new : List ℕ)
    → Result Finding E → Type 0
FindsExplained explained place old new result =
    FindsProperty (λ model. IsExplainedIn model place explained) false place old new result
