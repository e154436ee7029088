-- What is told of the properties of a model: the verdicts, with the steps that show them.
use Rattle.std.specs.Prelude.{◌≡◌, ◌⊎◌, ◌<◌, ℕ, Bool, true, false, not, ◌||◌, List, [], ◌∷◌, ◌++◌}
use Rattle.std.specs.Prelude.{if◌then◌else◌, Contains, MatchOption, Option, Some, None, IsSome}
use Rattle.std.specs.Prelude.{Err, IfOk, Result, String, option_copied, string_bytes}
use Rattle.std.specs.Borrow.{Bor}
use Rattle.std.specs.declared.alloc.Global.{Global}
use Rattle.std.specs.List.{slice_get}
use Rattle.pb_base.specs.OrMemory.{IfRefused}
use Rattle.pb_base.specs.declared.or_memory.OrMemory.{OrMemory}
use Rattle.pb_base.specs.declared.or_memory.OrMemory.TheVariants as or_memory
use Rattle.pb_text_tree.specs.Form.{SpecForm, spec_form}
use Rattle.pb_sorts.specs.Instance.{Instance}
use Rattle.pb_sorts.specs.declared.sink.Sink.{Ghosts}
use Rattle.pb_fixpoint_trees.specs.Tree.{Tree}
use Rattle.pb_bytecode.specs.Contents.{Contents}
use Rattle.pb_bytecode.specs.Meaning.{parameters}
use Rattle.pb_model_tree.specs.Form.{ModelForm, PropertyForm, StepForm, model_form}
use Rattle.pb_model_meaning.specs.Erase.{erase, erased_step}
use Rattle.pb_model_meaning.specs.Steps.{State, is_state}
use Rattle.pb_protocol_negation.specs.Negated.{negated}
use Rattle.pb_protocol_tree.specs.Form as protocol_form
use Rattle.pb_protocol_tree.specs.Form.{ProtocolForm}
use Rattle.pb_protocol_meaning.specs.Syntax.{StepSet}
use Rattle.pb_protocol_meaning.specs.Steps.{successors}
use Rattle.pb_protocol_meaning.specs.Erase as protocol_text
use Rattle.pb_protocol_laws.specs.Solved.{StandsFor}
use Rattle.pb_model_runs.specs.Runs.{Leads}
use Rattle.pb_model_runs.specs.Exact.{step_at}
use Rattle.pb_model_words.specs.States.{says}
use Rattle.pb_model_words.specs.View.{vocabulary_of}
use Rattle.pb_model_words.specs.Vocabulary.{Vocabulary}
use Rattle.pb_typing_calls.specs.MadeCalls.{MadeCall, calls_at}
use Rattle.pb_model_translation.specs.Placed.{placed, every_step_form}
use Rattle.pb_model_properties.specs.Asked.{IsAskedAt, is_asked}
use Rattle.pb_model_properties.specs.Made.{said_where}
use Rattle.pb_model_properties.specs.Refusals.{LacksProperty}
use Rattle.pb_model_properties.specs.Negations.{with_negation}
use Rattle.pb_model_properties.specs.Said.{protocol_satisfies, tree_satisfies}
use Rattle.pb_model_properties.specs.Said.{IsModelFor, IsModelOf, IsTextOf}
use Rattle.pb_model_properties.specs.declared.solved.SolvedModel.{SolvedModel}
use Rattle.pb_model_properties.specs.declared.verdicts.Verdict.{Verdict}
use Rattle.pb_model_properties.specs.declared.verdicts.Verdict.TheVariants as verdict
use Rattle.pb_model_properties.specs.declared.verdicts.Verdict.TheVariants.{False}
use Rattle.pb_model_properties.specs.Verdicts.{verdict_line}
use Rattle.pb_model_properties.specs.Words.{words_in, words_of}
use Rattle.pb_evidence.specs.declared.Evidence.{Evidence}
use Rattle.pb_evidence.specs.Evidence.{graph_of}
use Rattle.pb_report.specs.declared.answer.Answer.{Answer}
use Rattle.pb_report.specs.Cuts.{cuts_of}
use Rattle.pb_report.specs.ModuleTexts.{IsTextOfTrees}
use Rattle.pb_evidence_words.specs.Tellable.{IsTellable}
use Rattle.pb_evidence_words.specs.InstanceLines.{instance_lines}
use Rattle.pb_evidence_words.specs.Ready.{truth_told}
use Rattle.pb_evidence_words.specs.WhyText.{Told, why_lines}
use Rattle.pb_command_faults.specs.declared.solve_error.SolveError.{SolveError}
use Rattle.pb_command_faults.specs.declared.solve_fault.SolveFault.{SolveFault}
use Rattle.pb_command_faults.specs.declared.solve_fault.SolveFault.TheVariants as solve_fault
use Rattle.pb_command_modules.specs.Delivery.{DeliversOrRefuses}
use Rattle.pb_command_texts.specs.Answers.{IsModuleOfForm}
use Rattle.pb_report.specs.ModuleEvidence.{IsModuleEvidence}
use Rattle.pb_evidence_words.specs.declared.shown.Shown.{Shown}
use Rattle.pb_command_models.specs.declared.explained_finding.Asked.{Asked}
use Rattle.pb_command_models.specs.declared.told.ShownParts.{ShownParts}
use Rattle.pb_command_models.specs.declared.told.ToldVerdict.{ToldVerdict}
use Rattle.pb_command_models.specs.declared.told.Explained.{Explained}
use Rattle.pb_command_models.specs.Models.{IsPropertyAnswer, IsShownByCut, IsUnexplained, RestOnCut}
use Rattle.pb_command_models.specs.Models.{asked_by, solved_form}
use Rattle.pb_command_models.specs.Outcomes.{IsExplainedIn}

-- Each call of a property's text at a state is a step of the model: that at whose name it stands,
-- with the call's own values, at which its guard is true, to the state that the call names. Where
-- it is no step's name the state stays.
abbrev pub CallsAreSteps : ModelForm → PropertyForm → Type 0
CallsAreSteps model p =
    (i : Instance) (c : MadeCall) → is_state (erase model) i.values ≡ true
    → Contains (calls_at (placed model p.name.place p.formula) i) c
    → MatchOption (step_at model c.place) ((c.own ≡ []) × (c.instance.values ≡ i.values))
    (λ a. Leads (erase model) i.values (erased_step a) c.own c.instance.values)

-- the state of the protocol that a state of the model says
abbrev pub state_said : (bytes : List ℕ) (model : ModelForm) → IsModelOf bytes model → State → State
state_said bytes model said = said_where said.is_for.made.is_packed said.is_for.made.flat

-- The state is told as the one of the protocol that it says.
abbrev pub StatesAreTold : (bytes : List ℕ) (model : ModelForm) → IsModelOf bytes model → Type 0
StatesAreTold bytes model said =
    (t : State) → is_state (erase model) t ≡ true →
    says (words_of said.protocol model said.is_for.made) t ≡ state_said bytes model said t

-- And it is a move of the protocol: it goes from the state that the model's says, and where the
-- call's state is within the ranges, to what that says.
abbrev pub CallsAreProtocolMoves :
    (bytes : List ℕ) (model : ModelForm) → IsModelOf bytes model → PropertyForm → Type 0
CallsAreProtocolMoves bytes model said p =
    (i : Instance) (c : MadeCall) (a : StepForm) → is_state (erase model) i.values ≡ true
    → Contains (calls_at (placed model p.name.place p.formula) i) c → step_at model c.place ≡ Some a
    → (s : State)
    × Contains (successors (protocol_text.erase said.protocol) [] StepSet.All
    (state_said bytes model said i.values)) s
    × StandsFor (protocol_text.erase said.protocol) (erase model) (state_said bytes model said) s
    c.instance.values

-- In whatever model is solved in the place of the protocol that the bytes say, what is told is so
-- of the protocol: each call of a property's text at a state is a step of the model, and a move of
-- the protocol; and a state is told as that of the protocol that it says.
pub record IsToldFaithfully (bytes : List ℕ) : Type 0 where
  pub steps : (model : ModelForm) (p : PropertyForm) → IsModelOf bytes model
      → Contains model.properties p → CallsAreSteps model p
  pub moves : (model : ModelForm) (p : PropertyForm) → (said : IsModelOf bytes model)
      → Contains model.properties p → CallsAreProtocolMoves bytes model said p
  pub states : (model : ModelForm) → (said : IsModelOf bytes model)
      → StatesAreTold bytes model said

-- the text in which the model makes every step
abbrev pub steps_of : ModelForm → SpecForm
steps_of model = placed model model.initial.place (every_step_form model.initial.place)

-- what evidence of the module of a text of a model shows in its words, every step being called in
-- `steps`: of the property whose text it is; or, where it is denied, of that whose negation's it is
abbrev pub shown_by :
    Vocabulary → Bool → SpecForm → SpecForm → Contents → (ℕ → Tree) → Evidence → Told
shown_by vocabulary denied text steps m trees e = record {
  vocabulary = vocabulary;
  text = text;
  steps = steps;
  layout = parameters m;
  truth = truth_told denied e.truth;
  graph = graph_of e;
  cuts = cuts_of trees e;
}

-- the lines that show it: those of instances, or in the model's words
abbrev pub explanation_lines : Bool → Told → List ℕ
explanation_lines instances shown = if instances then instance_lines shown else why_lines shown

-- The verdict on the property p of the protocol, which is q of the model that is solved in its
-- place. It is false, and not unknown, where the negation is satisfied, or where no reached
-- instance of the property's text calls one outside the ranges. Where it is unknown one does: some
-- are counted, or evidence rests on one.
abbrev pub IsVerdict :
    ProtocolForm → protocol_form.FormulaForm → ModelForm → PropertyForm → Verdict → Type 0
IsVerdict protocol f model q verdict.True = protocol_satisfies protocol f ≡ true
IsVerdict protocol f model q verdict.False =
    (protocol_satisfies protocol f ≡ false)
    × ((protocol_satisfies protocol (negated f) ≡ true)
    ⊎ ((a : Answer) × IsPropertyAnswer model q a × (a.cut ≡ 0)))
IsVerdict protocol f model q verdict.Unknown =
    (protocol_satisfies protocol f ≡ false) × (protocol_satisfies protocol (negated f) ≡ false)
    × (((a : Answer) × IsPropertyAnswer model q a × (0 < a.cut)) ⊎ IsShownByCut model q)

abbrev pub is_true_verdict : Verdict → Bool
is_true_verdict verdict.True = true
is_true_verdict verdict.False = false
is_true_verdict verdict.Unknown = false

-- the line of a verdict, and behind it the lines that show it: always, or where it isn't true
abbrev pub told_text : Bool → List ℕ → Verdict → List ℕ → List ℕ
told_text always name verdict lines =
    verdict_line name verdict ++ (if always || not (is_true_verdict verdict) then lines else [])

-- the text tells a verdict, and shows it by the lines that the module's trees say
abbrev pub IsToldText : (instances always denied : Bool) → Vocabulary → List ℕ → Verdict
    → (text steps : SpecForm) → Contents → Evidence → List ℕ → Type 0
IsToldText instances always denied words name verdict text steps m e told =
    IsTextOfTrees m (λ trees. told_text always name verdict
    (explanation_lines instances (shown_by words denied text steps m trees e))) told

-- these parts of what is shown can be told
abbrev pub AreTellable : ShownParts → Type 0
AreTellable parts =
    IsTellable (model_form parts.model.now) (spec_form parts.explained.now.typed.spec)
    (spec_form parts.steps.now.spec) parts.explained.now.verified
    parts.explained.now.explanation

-- the text tells a verdict on the property of a name, with what is shown; with these parts of it
abbrev pub IsToldShown : ToldVerdict → List ℕ → Shown → List ℕ → Type 0
IsToldShown telling name shown told =
    IsToldText telling.lines telling.always shown.denied (vocabulary_of shown.vocabulary.now) name
    telling.verdict (spec_form shown.typed.now.spec) (spec_form shown.steps.now.spec)
    shown.verified.now shown.explanation.now.evidence told

abbrev pub IsToldOf : ToldVerdict → Vocabulary → List ℕ → ShownParts → String Global → Type 0
IsToldOf telling words name parts told =
    IsToldText telling.lines telling.always parts.denied words name telling.verdict
    (spec_form parts.explained.now.typed.spec) (spec_form parts.steps.now.spec)
    parts.explained.now.verified parts.explained.now.explanation.evidence (string_bytes told)

-- the text tells a verdict by a text that is explained, of the property of a name or, where it is
-- denied, of its negation, in the words of the model
abbrev pub IsToldThere : ToldVerdict → Explained → String Global → Type 0
IsToldThere telling shown told =
    IsToldText telling.lines telling.always shown.denied (words_in shown.solved.now) shown.name.now
    telling.verdict (spec_form shown.explained.now.typed.spec)
    (steps_of (solved_form shown.solved.now)) shown.explained.now.verified
    shown.explained.now.explanation.evidence (string_bytes told)

-- the text is of a property of the model
abbrev pub IsExplainedThere : Explained → Type 0
IsExplainedThere shown =
    (place : ℕ) × IsExplainedIn (solved_form shown.solved.now) place shown.explained.now

-- it is that of the property at the place, which has the name
pub record IsOwnText (shown : Explained) (place : ℕ) : Type 0 where
  pub explained : IsExplainedIn (solved_form shown.solved.now) place shown.explained.now
  pub own : shown.denied ≡ false
  pub name : (q : PropertyForm) → slice_get (solved_form shown.solved.now).properties place ≡ Some q
      → q.name.text ≡ shown.name.now

-- how a verdict is told where this is asked
abbrev pub telling_of : Verdict → Asked → ToldVerdict
telling_of verdict asked =
    record { verdict = verdict; always = asked.always; lines = asked.options.lines }

-- The verdict on the property of a name is told. What shows it, by lines of instances or in these
-- words, is evidence of the module of the text of the property q of the model: of the property, or,
-- where it is denied, of its negation. No line of what shows a false verdict rests on a call that
-- leaves the ranges.
pub record IsToldBy (instances always denied : Bool) (words : Vocabulary) (model : ModelForm)
    (q : PropertyForm) (name : List ℕ) (verdict : Verdict) (told : List ℕ) : Type 0 where
  pub text : SpecForm
  pub of_property : IsTextOf model q text
  pub contents : Contents
  pub of_text : IsModuleOfForm text contents
  pub evidence : Evidence
  pub shown : IsModuleEvidence contents evidence
  pub exact : evidence.truth ≡ tree_satisfies model q.formula
  pub within : verdict ≡ False → RestOnCut contents evidence false
  pub printed : IsToldText instances always denied words name verdict text (steps_of model)
      contents evidence told

-- The verdict on the property p of a name is false, and told by its negation alone in the protocol:
-- that is satisfied, which is shown in the words of the model that is solved in its place.
pub record IsDenialTold (instances always : Bool) (protocol : ProtocolForm)
    (p : protocol_form.PropertyForm) (name : List ℕ) (told : List ℕ) : Type 0 where
  pub model : ModelForm
  pub is_for : IsModelFor (with_negation protocol p) model
  pub negation : PropertyForm
  pub first : slice_get model.properties 0 ≡ Some negation
  pub satisfied : tree_satisfies model negation.formula ≡ true
  pub printed : IsToldBy instances always true
      (words_of (with_negation protocol p) model is_for.made) model negation name False told

-- The verdict on a property of the protocol is told, in these words, by its own text; or, where it
-- is false and evidence of its own text rests on a call that leaves the ranges, by its negation.
pub record IsVerdictTold (instances always : Bool) (words : Vocabulary) (protocol : ProtocolForm)
    (model : ModelForm) (p : protocol_form.PropertyForm) (q : PropertyForm) (told : List ℕ)
    : Type 0 where
  pub verdict : Verdict
  pub of_verdict : IsVerdict protocol p.formula model q verdict
  pub shown : IsToldBy instances always false words model q q.name.text verdict told
      ⊎ ((verdict ≡ False) × IsShownByCut model q
      × IsDenialTold instances always protocol p q.name.text told)

-- the property that is asked for is told in the words of the model, of the protocol in whose place
-- that is solved
abbrev pub IsToldAsked : Asked → SolvedModel → ProtocolForm → List ℕ → Type 0
IsToldAsked asked solved protocol told =
    (p : protocol_form.PropertyForm) (q : PropertyForm)
    → slice_get protocol.properties asked.place ≡ Some p
    → slice_get (solved_form solved).properties asked.place ≡ Some q
    → IsVerdictTold asked.options.lines asked.always (words_in solved) protocol
    (solved_form solved) p q
    told

-- the property at the place isn't explained by this fault, whichever names it is asked for by
abbrev pub IsUnexplainedOf : List ℕ → ModelForm → ℕ → SolveFault → Type 0
IsUnexplainedOf bytes model place fault =
    (names : List (List ℕ)) (q : PropertyForm) → slice_get model.properties place ≡ Some q
    → is_asked names q ≡ true → IsUnexplained names bytes fault

-- The input keeps its bytes, and the property that is asked for is told, or it isn't explained.
pub record TellsProperty (asked : Asked) (solved : SolvedModel) (old new : List ℕ)
    (result : Result (String Global) (OrMemory SolveFault)) : Type 0 where
  pub same : new ≡ old
  pub told : IfOk result (λ told. (said : IsModelOf old (solved_form solved))
      → IsToldAsked asked solved said.protocol (string_bytes told))
  pub refused : IfRefused result (IsUnexplainedOf old (solved_form solved) asked.place)

-- each of these properties, which are those of the model, is told, in order, and shown where the
-- verdict isn't true
abbrev pub AreTold : Bool → Vocabulary → ProtocolForm → ModelForm →
    List protocol_form.PropertyForm → List PropertyForm → List ℕ → Type 0
AreTold instances words protocol model [] [] lines = lines ≡ []
AreTold instances words protocol model (p ∷ ps) (q ∷ qs) lines =
    (told : List ℕ) × (rest : List ℕ) × IsVerdictTold instances false words protocol model p q told
    × (lines ≡ told ++ rest) × AreTold instances words protocol model ps qs rest
AreTold instances words protocol model [] (q ∷ qs) lines = ⊥
AreTold instances words protocol model (p ∷ ps) [] lines = ⊥

-- the property of a name is told, and shown
pub record IsNamedTold (instances : Bool) (name : List ℕ) (words : Vocabulary)
    (protocol : ProtocolForm) (model : ModelForm) (lines : List ℕ) : Type 0 where
  pub place : ℕ
  pub named : IsAskedAt (Some name) model.properties place
  pub asked : protocol_form.PropertyForm
  pub stands : slice_get protocol.properties place ≡ Some asked
  pub told : IsVerdictTold instances true words protocol model asked named.property lines

-- so it is with that of a name, or all are told where none is named
abbrev pub TellAsked :
    Bool → Option (List ℕ) → Vocabulary → ProtocolForm → ModelForm → List ℕ → Type 0
TellAsked instances None words protocol model lines =
    AreTold instances words protocol model protocol.properties model.properties lines
TellAsked instances (Some name) words protocol model lines =
    IsNamedTold instances name words protocol model lines

-- so it is in the words of the model, where the bytes say a protocol in whose place it is solved
abbrev pub TellWhere : Bool → Option (List ℕ) → List ℕ → SolvedModel → List ℕ → Type 0
TellWhere instances name bytes solved lines =
    (said : IsModelOf bytes (solved_form solved))
    → TellAsked instances name (words_in solved) said.protocol (solved_form solved) lines

-- what is told of the property of a name, or of all where none is named, of the model that is
-- solved for the bytes, by lines of instances or in the words of the protocol that they say
abbrev pub WritesWhy : Bool → Option (List ℕ) → List ℕ → List ℕ → Type 0
WritesWhy instances name bytes written =
    (model : ModelForm) × (said : IsModelOf bytes model)
    × TellAsked instances name (words_of said.protocol model said.is_for.made) said.protocol
    model written

-- the model isn't explained, or it has no property of the name
abbrev pub IsUnshown : Option (List ℕ) → List ℕ → SolveFault → Type 0
IsUnshown name bytes solve_fault.NoProperty = LacksProperty name bytes
IsUnshown name bytes fault = IsUnexplained (asked_by name) bytes fault

-- all properties are told, or the model isn't explained
pub record TellsAll (instances : Bool) (bytes : List ℕ) (solved : SolvedModel)
    (result : Result (String Global) (OrMemory SolveFault)) : Type 0 where
  pub told : IfOk result (λ lines. TellWhere instances None bytes solved (string_bytes lines))
  pub refused : IfRefused result (IsUnexplained [] bytes)

-- the property of a name is told, or all are where none is named; for want of one only where one is
pub record TellsAsked (instances : Bool) (property : Option (Bor (List ℕ))) (bytes : List ℕ)
    (solved : SolvedModel) (result : Result (String Global) (OrMemory SolveFault)) : Type 0 where
  pub told : IfOk result
      (λ lines. TellWhere instances (option_copied property) bytes solved (string_bytes lines))
  pub refused : IfRefused result (IsUnshown (option_copied property) bytes)
  pub named : result ≡ Err (or_memory.Refused solve_fault.NoProperty) → IsSome property

-- what is told goes out, or the model isn't shown
abbrev pub DeliversWhy : {S T : Type 0} → Bool → Option (List ℕ) → List ℕ → Result T SolveError →
    Ghosts S → (old new : S) → Type 0
DeliversWhy instances name bytes result sink old new =
    DeliversOrRefuses (WritesWhy instances name bytes) (IsUnshown name bytes) result sink old new
