-- What is found of the properties of a model, and what a fault says of the model that bytes say.
use Rattle.std.specs.Prelude.{◌≡◌, ◌⊎◌, ◌<◌, ◌&&◌, not, ℕ, Bool, true, false, List, [], ◌∷◌, ◌++◌}
use Rattle.std.specs.Prelude.{if◌then◌else◌, Option, Some, None, Contains, map, string_bytes}
use Rattle.std.specs.Prelude.{IfOk, Result, String, drop}
use Rattle.std.specs.declared.alloc.Global.{Global}
use Rattle.std.specs.List.{All, list_any, slice_get}
use Rattle.std.specs.Option.{option_map_or}
use Rattle.pb_sorts.specs.declared.counting.Counting.TheVariants.{Reached}
use Rattle.pb_text.specs.declared.error.TextFault.{TextFault}
use Rattle.pb_text_tree.specs.declared.place.Place.{Place}
use Rattle.pb_text_tree.specs.Form.{SpecForm}
use Rattle.pb_text_meaning.specs.Erase.{erase}
use Rattle.pb_typing_declarations.specs.declared.fault.TypingFault.{TypingFault}
use Rattle.pb_typing_declarations.specs.declared.fault.TypingRule.TheVariants as rule
use Rattle.pb_assembler_measures.specs.Excess.{IsFirstExcess}
use Rattle.pb_assembler_measures.specs.declared.compile_error.Excess.{Excess}
use Rattle.pb_bytecode.specs.declared.limit.Limit.{Limit}
use Rattle.pb_bytecode.specs.Contents.{Contents}
use Rattle.pb_bytecode.specs.Meaning.{AreTrees}
use Rattle.pb_evidence.specs.declared.Evidence.{Evidence}
use Rattle.pb_fixpoint_trees.specs.Tree.{Tree}
use Rattle.pb_model_tree.specs.Form.{ModelForm, PropertyForm, StepForm, model_form, property_form}
use Rattle.pb_model_tree.specs.declared.model.Property.{Property}
use Rattle.pb_model_meaning.specs.Erase as model_text
use Rattle.pb_model_meaning.specs.Erase.{erased_formula}
use Rattle.pb_model_typing.specs.Texts.{HasTypedText, IsFaultFromText, placed_property}
use Rattle.pb_protocol_negation.specs.Negated.{negated}
use Rattle.pb_model_faults.specs.declared.ModelFault.TheVariants as model_fault
use Rattle.pb_model_properties.specs.declared.solved.SolvedModel.{SolvedModel}
use Rattle.pb_model_properties.specs.declared.verdicts.Verdict.{Verdict}
use Rattle.pb_model_properties.specs.declared.verdicts.Verdict.TheVariants.{True, False, Unknown}
use Rattle.pb_model_properties.specs.Asked.{asked_places, have_properties, is_asked}
use Rattle.pb_model_properties.specs.Made.{step_name_places}
use Rattle.pb_model_properties.specs.Negations.{with_negation}
use Rattle.pb_model_properties.specs.Reached.{reached_property}
use Rattle.pb_model_properties.specs.Refusals.{is_limit_rule}
use Rattle.pb_model_properties.specs.Refusals.{IsIllTypedText, IsOfUnsettled}
use Rattle.pb_model_properties.specs.Refusals.{IsRefusedModelText, IsRefusedProtocol}
use Rattle.pb_model_properties.specs.Refusals.{IsRefusedModelType, LacksProperty, LacksTranslation}
use Rattle.pb_protocol_tree.specs.Form as protocol_form
use Rattle.pb_protocol_tree.specs.Form.{ProtocolForm}
use Rattle.pb_model_properties.specs.Said.{protocol_satisfies, tree_satisfies, IsModelFor, IsModelOf}
use Rattle.pb_model_properties.specs.Said.{IsTextOf}
use Rattle.pb_model_properties.specs.Verdicts.{count_lines, cut_line, refused_line, verdict_line}
use Rattle.pb_report.specs.declared.answer.Answer.{Answer}
use Rattle.pb_report.specs.Cuts.{cuts_of}
use Rattle.pb_report.specs.ModuleEvidence.{IsModuleEvidence}
use Rattle.pb_command_solver.specs.Answers.{IsAnswerOf, IsTooLarge}
use Rattle.pb_command_faults.specs.Lines.{property_rule}
use Rattle.pb_command_faults.specs.declared.property_fault.PropertyExcess.{PropertyExcess}
use Rattle.pb_command_faults.specs.declared.property_fault.PropertyExcess.TheVariants.{Text, Code, Game}
use Rattle.pb_command_faults.specs.declared.property_fault.PropertyExcess.TheVariants.{NegationText}
use Rattle.pb_command_faults.specs.declared.property_fault.PropertyExcess.TheVariants.{NegationTyping}
use Rattle.pb_command_faults.specs.declared.solve_fault.SolveFault.{SolveFault}
use Rattle.pb_command_faults.specs.declared.solve_fault.SolveFault.TheVariants as solve_fault
use Rattle.pb_command_line.specs.declared.options.Checking.{Checking}
use Rattle.pb_command_models.specs.declared.finding.Finding.{Finding}
use Rattle.pb_command_models.specs.declared.finding.Finding.TheVariants.{Decided, Refused, Shown}
use Rattle.pb_command_models.specs.declared.finding.PropertyFinding.{PropertyFinding}
use Rattle.pb_command_line.specs.declared.status.Status.{Status}
use Rattle.pb_command_line.specs.declared.status.Status.TheVariants as status
use Rattle.pb_command_texts.specs.Answers.{IsModuleOfForm}

-- ---- what is found of a property

-- The answer to the text of a property is true exactly where the model satisfies it. The counts are
-- those of the reached instances of the module of that text.
pub record IsPropertyAnswer (model : ModelForm) (p : PropertyForm) (a : Answer) : Type 0 where
  pub exact : a.truth ≡ tree_satisfies model p.formula
  pub text : SpecForm
  pub of_property : IsTextOf model p text
  pub contents : Contents
  pub of_text : IsModuleOfForm text contents
  pub counted : IsAnswerOf Reached contents a

-- the property's text has an equation whose code exceeds a limit, and the first limit that the
-- first such one exceeds is this
pub record IsOverModelLimit (model : ModelForm) (p : PropertyForm) (limit : Limit) : Type 0 where
  pub text : SpecForm
  pub of_property : IsTextOf model p text
  pub excess : Excess
  pub exceeds : IsFirstExcess (erase text) excess
  pub first : excess.limit ≡ limit

-- the module of the property's text has too large a game
pub record HasLargeGame (model : ModelForm) (p : PropertyForm) : Type 0 where
  pub text : SpecForm
  pub of_property : IsTextOf model p text
  pub contents : Contents
  pub of_text : IsModuleOfForm text contents
  pub large : IsTooLarge Reached contents

-- the property's text isn't well typed, and passes a limit of texts
pub record IsOverTextLimit (model : ModelForm) (p : PropertyForm) : Type 0 where
  pub ill_typed : ¬ HasTypedText (model_text.erase model) (erased_formula p.formula)
  pub fault : TypingFault
  pub fails : IsFaultFromText model (placed_property p) fault
  pub limit : fault.rule ≡ rule.Limit

-- what of the property is too large
abbrev pub IsTooLargeProperty : ModelForm → PropertyForm → PropertyExcess → Type 0
IsTooLargeProperty model p Text = IsOverTextLimit model p
IsTooLargeProperty model p (Code limit) = IsOverModelLimit model p limit
IsTooLargeProperty model p Game = HasLargeGame model p
IsTooLargeProperty model p (NegationText rule) = ⊥
IsTooLargeProperty model p (NegationTyping rule) = ⊥

-- The verdict on a property of a protocol, where so many reached instances of its text call one
-- outside the ranges. Where it is unknown, neither the property nor its negation is satisfied: what
-- lies outside the ranges decides.
abbrev pub IsVerdictOn : ProtocolForm → protocol_form.FormulaForm → ℕ → Verdict → Type 0
IsVerdictOn protocol f cut True = protocol_satisfies protocol f ≡ true
IsVerdictOn protocol f cut False =
    (protocol_satisfies protocol f ≡ false)
    × ((cut ≡ 0) ⊎ (protocol_satisfies protocol (negated f) ≡ true))
IsVerdictOn protocol f cut Unknown =
    (protocol_satisfies protocol f ≡ false) × (protocol_satisfies protocol (negated f) ≡ false)
    × (0 < cut)

-- the model is solved in the place of the protocol with the negation of the property p alone, and
-- that is its property q, of which P holds
pub record HasNegation (protocol : ProtocolForm) (p : protocol_form.PropertyForm)
    (P : ModelForm → PropertyForm → Type 0) : Type 0 where
  pub model : ModelForm
  pub is_for : IsModelFor (with_negation protocol p) model
  pub negation : PropertyForm
  pub first : slice_get model.properties 0 ≡ Some negation
  pub holds : P model negation

-- the text of the negation q isn't well typed by the fault
abbrev pub IsIllTypedNegation : ProtocolForm → protocol_form.PropertyForm → TypingFault → Type 0
IsIllTypedNegation protocol p fault =
    HasNegation protocol p
    (λ model q. IsIllTypedText model (step_name_places (with_negation protocol p)) q fault)

-- The negation of the property p is refused, alone in the protocol: it can't be written out, or it
-- breaks a rule of typing, or something of its text is too large; or a constant or a bound of
-- the text isn't unfolded.
abbrev pub IsTooLargeNegation :
    ProtocolForm → protocol_form.PropertyForm → PropertyExcess → Type 0
IsTooLargeNegation protocol p (NegationText rule) =
    (fault : TextFault) × (fault.rule ≡ rule)
    × (IsRefusedProtocol (with_negation protocol p) (model_fault.Text fault)
    ⊎ IsOfUnsettled protocol (model_fault.Text fault))
IsTooLargeNegation protocol p (NegationTyping rule) =
    (fault : TypingFault) × (fault.rule ≡ rule)
    × (IsRefusedProtocol (with_negation protocol p) (model_fault.Typing fault)
    ⊎ IsIllTypedNegation protocol p fault ⊎ IsOfUnsettled protocol (model_fault.Typing fault))
IsTooLargeNegation protocol p excess =
    HasNegation protocol p (λ model q. IsTooLargeProperty model q excess)

-- what is shown of a property of a protocol: that it is satisfied; or that its negation is, so that
-- it isn't
abbrev pub IsShown : ProtocolForm → protocol_form.FormulaForm → Bool → Type 0
IsShown protocol f true = protocol_satisfies protocol f ≡ true
IsShown protocol f false =
    (protocol_satisfies protocol f ≡ false) × (protocol_satisfies protocol (negated f) ≡ true)

-- the verdict needs the negation: the property isn't satisfied, and reached instances of its text
-- call some outside the ranges
abbrev pub NeedsNegation : ProtocolForm → protocol_form.PropertyForm → ModelForm → PropertyForm
    → Type 0
NeedsNegation protocol p model q =
    (protocol_satisfies protocol p.formula ≡ false)
    × ((answer : Answer) × IsPropertyAnswer model q answer × (0 < answer.cut))

-- with whichever trees the module's instances have, this is whether a line of the evidence rests on
-- a cut call
abbrev pub RestOnCut : Contents → Evidence → Bool → Type 0
RestOnCut m e rests =
    (trees : ℕ → Tree) → AreTrees m trees → list_any (λ cut. cut) (cuts_of trees e) ≡ rests

-- evidence of the text's module shows that the property isn't satisfied, and rests on a cut call
pub record IsShownByCut (model : ModelForm) (p : PropertyForm) : Type 0 where
  pub fails : tree_satisfies model p.formula ≡ false
  pub text : SpecForm
  pub of_property : IsTextOf model p text
  pub contents : Contents
  pub of_text : IsModuleOfForm text contents
  pub evidence : Evidence
  pub shown : IsModuleEvidence contents evidence
  pub rests : RestOnCut contents evidence true

-- what is found of the property p of the protocol, which is q of the model that is solved in its
-- place: the verdict on it; or, where counts aren't asked for, what is shown of it; or that its
-- text is too large; or its negation is refused, where the verdict needs that
abbrev pub IsFinding : Bool → ProtocolForm → protocol_form.PropertyForm → ModelForm → PropertyForm →
    Finding → Type 0
IsFinding counts protocol p model q (Decided verdict answer) =
    IsVerdictOn protocol p.formula answer.cut verdict × IsPropertyAnswer model q answer
IsFinding counts protocol p model q (Shown truth) =
    (counts ≡ false) × IsShown protocol p.formula truth
IsFinding counts protocol p model q (Refused excess) =
    IsTooLargeProperty model q excess
    ⊎ (NeedsNegation protocol p model q × IsTooLargeNegation protocol p excess)

-- the model that is solved in the place of a protocol
abbrev pub solved_form : SolvedModel → ModelForm
solved_form solved = model_form solved.typed.model

-- the bytes say a protocol in whose place a model is solved that P holds of
abbrev pub HasModel : List ℕ → (ModelForm → Type 0) → Type 0
HasModel bytes P = (model : ModelForm) × IsModelOf bytes model × P model

-- what is found of the property at its place
pub record IsPropertyFound (counts : Bool) (protocol : ProtocolForm) (model : ModelForm)
    (found : PropertyFinding)
    : Type 0 where
  pub asked : protocol_form.PropertyForm
  pub stands : slice_get protocol.properties found.place ≡ Some asked
  pub solved : PropertyForm
  pub in_model : slice_get model.properties found.place ≡ Some solved
  pub finding : IsFinding counts protocol asked model solved found.finding

-- this is found of the property at the place, where the bytes say a protocol in whose place a model
-- is solved that P holds of
abbrev pub IsFoundWhere : (ModelForm → Type 0) → Bool → List ℕ → ℕ → Finding → Type 0
IsFoundWhere P counts bytes place finding =
    (model : ModelForm) (said : IsModelOf bytes model) → P model
    → IsPropertyFound counts said.protocol model (record { place = place; finding = finding })

-- ---- what is told of it

-- the line with the number of cut instances, where the ranges decide
abbrev pub cut_behind : Verdict → ℕ → List ℕ
cut_behind Unknown cut = cut_line cut
cut_behind verdict cut = []

-- those of counts, where they are asked for
abbrev pub lines_behind : Bool → Verdict → Answer → List ℕ
lines_behind counts verdict a =
    if counts then count_lines a.instances a.cut a.vertices else cut_behind verdict a.cut

-- the verdict by what is shown
abbrev pub verdict_of : Bool → Verdict
verdict_of true = True
verdict_of false = False

-- the lines of a finding on the property of a name
abbrev pub finding_lines : Bool → List ℕ → Finding → List ℕ
finding_lines counts name (Decided verdict a) =
    verdict_line name verdict ++ lines_behind counts verdict a
finding_lines counts name (Shown truth) = verdict_line name (verdict_of truth)
finding_lines counts name (Refused excess) = refused_line name (property_rule excess)

-- the name of the property at a place
abbrev pub property_name_at : ModelForm → ℕ → List ℕ
property_name_at model place =
    option_map_or (λ (p : PropertyForm). p.name.text) (slice_get model.properties place) []

-- the first of further lines, where there are such
abbrev pub first_note : List (List ℕ) → List ℕ
first_note [] = []
first_note (n ∷ ns) = n

-- the lines of all that is found, in order, each followed by a further line
abbrev pub found_lines : Bool → ModelForm → List (List ℕ) → List PropertyFinding → List ℕ
found_lines counts model notes [] = []
found_lines counts model notes (f ∷ fs) =
    finding_lines counts (property_name_at model f.place) f.finding
    ++ (first_note notes ++ found_lines counts model (drop 1 notes) fs)

-- these are the lines of what is found of the properties, with further ones
abbrev pub AreFoundLines :
    Bool → List Property → List (List ℕ) → List PropertyFinding → String Global → Type 0
AreFoundLines counts properties notes findings lines =
    (model : ModelForm) → model.properties ≡ map property_form properties
    → string_bytes lines ≡ found_lines counts model notes findings

-- the text was put behind what stood in the string
abbrev pub Pushes : List ℕ → (old new : String Global) → Type 0
Pushes text old new = string_bytes new ≡ string_bytes old ++ text

-- the property is refused; the verdict on it is false; or unknown
abbrev pub refuses : Finding → Bool
refuses (Refused excess) = true
refuses (Decided verdict a) = false
refuses (Shown truth) = false

abbrev pub says_false : Finding → Bool
says_false (Decided True a) = false
says_false (Decided False a) = true
says_false (Decided Unknown a) = false
says_false (Shown truth) = not truth
says_false (Refused excess) = false

abbrev pub says_unknown : Finding → Bool
says_unknown (Decided True a) = false
says_unknown (Decided False a) = false
says_unknown (Decided Unknown a) = true
says_unknown (Shown truth) = false
says_unknown (Refused excess) = false

-- how the run ends: a property is refused; or, where the status is to tell, one is false, or none
-- is and one is unknown
abbrev pub status_of_findings : Bool → List PropertyFinding → Status
status_of_findings tells fs =
    if list_any (λ f. refuses f.finding) fs then status.Refused
    else if tells && list_any (λ f. says_false f.finding) fs then status.False
    else if tells && list_any (λ f. says_unknown f.finding) fs then status.Unknown
    else status.Answered

-- what is found of each property that is asked for, in order, each once
pub record ArePropertiesFound (counts : Bool) (protocol : ProtocolForm) (model : ModelForm)
    (names : List (List ℕ)) (findings : List PropertyFinding) : Type 0 where
  pub places : map (λ (f : PropertyFinding). f.place) findings ≡ asked_places names model.properties
  pub found : All (IsPropertyFound counts protocol model) findings

-- the names of the properties that are asked for
abbrev pub asked_names : Checking → List (List ℕ)
asked_names options = map string_bytes options.properties.items

-- ---- refusals

-- the place is that of the name of the property that stands at the index
abbrev pub IsNamePlace : ModelForm → ℕ → Place → Type 0
IsNamePlace model index place =
    (p : PropertyForm) → slice_get model.properties index ≡ Some p → place ≡ p.name.place

-- a fault of the text of the property whose name stands at a place, told of the property
abbrev pub fault_of_property : Place → SolveFault → SolveFault
fault_of_property place (solve_fault.Limit excess) =
    solve_fault.Property (record { excess = Code excess.limit; place = place })
fault_of_property place solve_fault.TooManyVertices =
    solve_fault.Property (record { excess = Game; place = place })
fault_of_property place fault = fault

-- the verdict on the property at the place needs its negation, or what shows it does, and that is
-- refused in this way
abbrev pub HasLargeNegation : ProtocolForm → ModelForm → PropertyForm → ℕ → PropertyExcess → Type 0
HasLargeNegation protocol model q place excess =
    (p : protocol_form.PropertyForm) × (slice_get protocol.properties place ≡ Some p)
    × (NeedsNegation protocol p model q ⊎ IsShownByCut model q)
    × IsTooLargeNegation protocol p excess

-- the names by which one property is asked for, which may be named
abbrev pub asked_by : Option (List ℕ) → List (List ℕ)
asked_by None = []
asked_by (Some name) = name ∷ []

-- a property of the model that is asked for by these names, whose own name stands at the place, is
-- too large in this way, or its negation is refused, which its verdict needs or what shows it
pub record HasTooLarge (names : List (List ℕ)) (bytes : List ℕ) (place : Place)
    (excess : PropertyExcess) : Type 0 where
  pub model : ModelForm
  pub said : IsModelOf bytes model
  pub index : ℕ
  pub property : PropertyForm
  pub at : slice_get model.properties index ≡ Some property
  pub asked : is_asked names property ≡ true
  pub stands : property.name.place ≡ place
  pub large : IsTooLargeProperty model property excess
      ⊎ HasLargeNegation said.protocol model property index excess

-- the text of a property of the model that is asked for isn't well typed, by another rule than that
-- of limits, where the steps stand at these places
abbrev pub HasIllTyped : List (List ℕ) → List Place → ModelForm → TypingFault → Type 0
HasIllTyped names steps model fault =
    (is_limit_rule fault.rule ≡ false)
    × ((p : PropertyForm) × Contains model.properties p × (is_asked names p ≡ true)
    × IsIllTypedText model steps p fault)

-- so it is with the text that asks whether a step of the model can be taken
abbrev pub HasIllTypedStep : List Place → ModelForm → TypingFault → Type 0
HasIllTypedStep steps model fault =
    (is_limit_rule fault.rule ≡ false)
    × ((a : StepForm) × Contains model.steps a
    × IsIllTypedText model steps (reached_property model a) fault)

-- the bytes say no model, or one with such a property
abbrev pub IsIllTypedModel : List (List ℕ) → List ℕ → TypingFault → Type 0
IsIllTypedModel names bytes fault =
    IsRefusedModelType bytes fault
    ⊎ ((model : ModelForm) × (said : IsModelOf bytes model)
    × HasIllTyped names (step_name_places said.protocol) model fault)

-- `translate`: the bytes say no model that is well typed, or one that has no property of the name,
-- or one whose text isn't well typed
abbrev pub IsUntranslated : Option (List ℕ) → List ℕ → SolveFault → Type 0
IsUntranslated name bytes (solve_fault.Text fault) =
    LacksTranslation name bytes (model_fault.Text fault)
IsUntranslated name bytes (solve_fault.Typing fault) =
    LacksTranslation name bytes (model_fault.Typing fault)
IsUntranslated name bytes solve_fault.NoProperty = LacksProperty name bytes
IsUntranslated name bytes fault = ⊥

-- counts are asked for, and so it is with a step of the model that is solved for the protocol
abbrev pub HasIllTypedSteps : Bool → List ℕ → TypingFault → Type 0
HasIllTypedSteps counts bytes fault =
    (counts ≡ true)
    × ((model : ModelForm) × (said : IsModelOf bytes model)
    × HasIllTypedStep (step_name_places said.protocol) model fault)

-- The property at the place is looked at, where P holds of the model: the input keeps its bytes,
-- and what is found of the property is so.
pub record FindsProperty {E : Type 0} (P : ModelForm → Type 0) (counts : Bool) (place : ℕ)
    (old new : List ℕ) (result : Result Finding E) : Type 0 where
  pub same : new ≡ old
  pub found : IfOk result (IsFoundWhere P counts old place)

-- the text of a property that is asked for is refused, also where it passes a limit
abbrev pub HasRefusedProperty : List (List ℕ) → List ℕ → TypingFault → Type 0
HasRefusedProperty names bytes fault =
    (model : ModelForm) × (said : IsModelOf bytes model)
    × ((p : PropertyForm) × Contains model.properties p × (is_asked names p ≡ true)
    × IsIllTypedText model (step_name_places said.protocol) p fault)

-- `why`: the bytes say no model, or the text of a property that is asked for is refused, or
-- something of it or of its negation is too large
abbrev pub IsUnexplained : List (List ℕ) → List ℕ → SolveFault → Type 0
IsUnexplained names bytes (solve_fault.Property fault) =
    HasTooLarge names bytes fault.place fault.excess
IsUnexplained names bytes (solve_fault.Text fault) = IsRefusedModelText bytes fault
IsUnexplained names bytes (solve_fault.Typing fault) =
    IsRefusedModelType bytes fault ⊎ HasRefusedProperty names bytes fault
IsUnexplained names bytes fault = ⊥

-- the model has no property of one of the names
abbrev pub LacksProperties : List (List ℕ) → List ℕ → Type 0
LacksProperties names bytes =
    (model : ModelForm) × IsModelOf bytes model
    × (have_properties names model.properties ≡ false)

-- `check`: the bytes say no model, or the text of a property that is asked for isn't well typed; or
-- the model has no property of a name, or a step that is asked for by a text that isn't well typed
abbrev pub IsUnchecked : Checking → List ℕ → SolveFault → Type 0
IsUnchecked options bytes (solve_fault.Typing fault) =
    IsIllTypedModel (asked_names options) bytes fault ⊎ HasIllTypedSteps options.counts bytes fault
IsUnchecked options bytes solve_fault.NoProperty = LacksProperties (asked_names options) bytes
IsUnchecked options bytes (solve_fault.Text fault) = IsRefusedModelText bytes fault
IsUnchecked options bytes fault = ⊥
