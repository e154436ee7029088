-- What is told of the first properties of a model, and of one more.
use Rattle.std.proofs.Common.{◌≡◌, ◌∙◌, ℕ, zero, suc, ◌+◌, ◌<◌, ◌≤◌, List, [], ◌∷◌, ◌++◌, Bool, true, false, Option, Some, length, map, take, replicate, refl, sym, ap, subst, string_bytes, take_all, append_assoc, append-nil, arith, String, Global}
use Rattle.std.specs.Prelude.{◌||◌, Result, Ok, Err, IfErr, IfOk}
use Rattle.std.specs.Result.{IsErrAnd}
use Rattle.std.proofs.lemmas.List.{length-map}
use Rattle.std.proofs.lemmas.Slice.Eq.{bytes_eq-Decides}
use Rattle.std.specs.List.{list_any, slice_get}
use Rattle.std.proofs.lemmas.List.{take_more}
use Rattle.std.proofs.lemmas.Option.{slice_get_within, get_or_from_slice_get}
use Rattle.pb_text_tree.specs.Form.{SpecForm, spec_form}
use Rattle.pb_bytecode.specs.Contents.{Contents}
use Rattle.pb_evidence.specs.declared.Evidence.{Evidence}
use Rattle.pb_model_tree.specs.Form.{ModelForm, PropertyForm}
use Rattle.pb_protocol_tree.specs.Form as protocol_form
use Rattle.pb_protocol_tree.specs.Form.{ProtocolForm}
use Rattle.pb_model_properties.specs.Said.{tree_satisfies, IsModelFor}
use Rattle.pb_model_properties.specs.declared.solved.SolvedModel.{SolvedModel}
use Rattle.pb_model_properties.specs.declared.verdicts.Verdict.{Verdict}
use Rattle.pb_model_properties.specs.declared.verdicts.Verdict.TheVariants.{False}
use Rattle.pb_report.proofs.Cutting.{true_values}
use Rattle.pb_base.specs.OrMemory.{IfFault, IfRefused}
use Rattle.pb_base.specs.declared.or_memory.OrMemory.{OrMemory}
use Rattle.pb_base.specs.declared.or_memory.OrMemory.TheVariants as or_memory
use Rattle.pb_model_properties.specs.Asked.{IsAskedAt}
use Rattle.pb_model_properties.specs.Refusals.{IsRefusedModel}
use Rattle.pb_model_faults.specs.declared.ModelFault.{ModelFault}
use Rattle.pb_model_faults.specs.declared.ModelFault.TheVariants as model_fault
use Rattle.pb_command_faults.specs.Errors.{fault_of_model, joins_into}
use Rattle.pb_command_faults.specs.declared.solve_error.SolveError.{SolveError}
use Rattle.pb_command_faults.specs.declared.solve_error.SolveError.TheVariants as solve_error
use Rattle.pb_command_faults.specs.declared.solve_fault.SolveFault.{SolveFault}
use Rattle.pb_command_faults.specs.declared.solve_fault.SolveFault.TheVariants as solve_fault
use Rattle.pb_model_words.specs.Vocabulary.{Vocabulary}
use Rattle.pb_command_texts.specs.Explained.{IsExplained}
use Rattle.pb_command_texts.specs.declared.explained.ExplainedText.{ExplainedText}
use Rattle.pb_command_models.specs.Models.{IsShownByCut, IsUnexplained, RestOnCut, asked_by, solved_form}
use Rattle.pb_command_models.specs.Outcomes.{IsExplainedText}
use Rattle.pb_command_models.specs.Why.{AreTold, IsVerdictTold, IsToldBy, IsToldText, IsToldThere, IsUnexplainedOf, IsUnshown, steps_of, telling_of, TellAsked, TellsProperty}
use Rattle.pb_command_models.specs.declared.explained_finding.Asked.{Asked}
use Rattle.pb_command_models.specs.declared.told.Explained.{Explained}
use Rattle.pb_command_models.specs.declared.told.ToldVerdict.{ToldVerdict}
use Rattle.pb_model_properties.specs.Asked.{is_asked}
use Rattle.pb_model_properties.specs.Words.{words_in}
use Rattle.pb_command_models.proofs.Decisions.{same_at}

-- its truth is that of the property
pub explained_truth : (model : ModelForm) (q : PropertyForm) (e : ExplainedText) → IsExplainedText model q e
    → e.explanation.evidence.truth ≡ tree_satisfies model q.formula
explained_truth model q e explained =
    let some = explained.explanation.of_text.trees in
    (explained.explanation.explains some.0 some.1).shown.truth ∙ ((explained.explanation.of_text.says some.0 some.1).answer ∙ explained.text.decides)

pub told_by : (instances always denied : Bool) (words : Vocabulary) (model : ModelForm) (q : PropertyForm) (name : List ℕ) (verdict : Verdict)
    → (e : ExplainedText) → IsExplainedText model q e → (verdict ≡ False → RestOnCut e.verified e.explanation.evidence false) → (told : List ℕ)
    → IsToldText instances always denied words name verdict (spec_form e.typed.spec) (steps_of model) e.verified e.explanation.evidence told
    → IsToldBy instances always denied words model q name verdict told
told_by instances always denied words model q name verdict e explained within told printed = record {
  text = spec_form e.typed.spec;
  of_property = explained.text;
  contents = e.verified;
  of_text = explained.explanation.of_text;
  evidence = e.explanation.evidence;
  shown = λ trees are. (explained.explanation.explains trees are).shown;
  exact = explained_truth model q e explained;
  within = within;
  printed = printed;
}

-- the text that is explained tells what is asked
pub there_told : (asked : Asked) (v : Verdict) (telling : ToldVerdict) (shown : Explained) (told : String Global) (denied : Bool) (name : List ℕ)
    → telling ≡ telling_of v asked → shown.denied ≡ denied → name ≡ shown.name.now → IsToldThere telling shown told
    → IsToldText asked.options.lines asked.always denied (words_in shown.solved.now) name v (spec_form shown.explained.now.typed.spec) (steps_of (solved_form shown.solved.now))
    shown.explained.now.verified shown.explained.now.explanation.evidence (string_bytes told)
there_told asked v telling shown told denied name same is named h =
    let e = shown.explained.now in
    let tells = λ (b : Bool) (n : List ℕ). IsToldText asked.options.lines asked.always b (words_in shown.solved.now) n v (spec_form e.typed.spec) (steps_of (solved_form shown.solved.now))
    e.verified e.explanation.evidence (string_bytes told) in
    subst (λ (n : List ℕ). tells denied n) (sym named)
    (subst (λ (b : Bool). tells b shown.name.now) is (subst (λ (t : ToldVerdict). IsToldThere t shown told) same h))

-- so does one that has the name, of an evidence that is shown
pub asked_told : (asked : Asked) (v : Verdict) (telling : ToldVerdict) (denied : Bool) (words : Vocabulary) (text steps : SpecForm) (m : Contents) (e : Evidence) (told name n : List ℕ)
    → telling ≡ telling_of v asked → name ≡ n → IsToldText telling.lines telling.always denied words n telling.verdict text steps m e told
    → IsToldText asked.options.lines asked.always denied words name v text steps m e told
asked_told asked v telling denied words text steps m e told name n same named h =
    subst (λ (x : List ℕ). IsToldText asked.options.lines asked.always denied words x v text steps m e told) (sym named)
    (subst (λ (t : ToldVerdict). IsToldText t.lines t.always denied words n t.verdict text steps m e told) same h)

-- nothing is told for want of memory
pub wanting : (asked : Asked) (solved : SolvedModel) (old new : List ℕ) (r : Result (String Global) (OrMemory SolveFault)) → new ≡ old → IsErrAnd r (λ x. x ≡ or_memory.Memory)
    → TellsProperty asked solved old new r
wanting asked solved old new (Ok x) same made = absurd made
wanting asked solved old new (Err x) same made = record {
  same = same;
  told = tt;
  refused = subst (λ (y : OrMemory SolveFault). IfFault y (IsUnexplainedOf old (solved_form solved) asked.place)) (sym made) tt;
}

-- ---- calls outside the ranges

-- whether a line rests on one
pub known_rests : (e : ExplainedText) → IsExplained e → (b : Bool) → list_any (λ cut. cut) e.explanation.cuts.items ≡ b → RestOnCut e.verified e.explanation.evidence b
known_rests e is b known = λ trees are. ap (λ (cuts : List Bool). list_any (λ cut. cut) cuts) (sym (is.explains trees are).cuts) ∙ known

none_rests : (n : ℕ) → list_any (λ cut. cut) (replicate n false) ≡ false
none_rests zero = refl
none_rests (suc n) = none_rests n

-- none does where what is shown is true
pub true_rests : (e : ExplainedText) → IsExplained e → e.explanation.evidence.truth ≡ true → RestOnCut e.verified e.explanation.evidence false
true_rests e is truth = λ trees are.
    let evidence = e.explanation.evidence in
    let n = length evidence.instances.items in
    ap (λ (cuts : List Bool). list_any (λ cut. cut) cuts)
    (sym (true_values _ trees _ evidence truth (is.explains trees are).shown n (replicate n false) refl refl)) ∙ none_rests n

-- where one does, the property isn't satisfied
pub cut_is_false : (model : ModelForm) (q : PropertyForm) (e : ExplainedText) → IsExplainedText model q e → list_any (λ cut. cut) e.explanation.cuts.items ≡ true
    → tree_satisfies model q.formula ≡ false
cut_is_false model q e explained rests = go e.explanation.evidence.truth refl
  where
    go : (b : Bool) → e.explanation.evidence.truth ≡ b → tree_satisfies model q.formula ≡ false
    go false is = sym (explained_truth model q e explained) ∙ is
    go true is =
        let some = explained.explanation.of_text.trees in
        let both : true ≡ false = sym (known_rests e explained.explanation true rests some.0 some.1) ∙ true_rests e explained.explanation is some.0 some.1 in
        absurd (cc both)

pub shown_by_cut : (model : ModelForm) (q : PropertyForm) (e : ExplainedText) → IsExplainedText model q e → list_any (λ cut. cut) e.explanation.cuts.items ≡ true
    → IsShownByCut model q
shown_by_cut model q e explained rests = record {
  fails = cut_is_false model q e explained rests;
  text = spec_form e.typed.spec;
  of_property = explained.text;
  contents = e.verified;
  of_text = explained.explanation.of_text;
  evidence = e.explanation.evidence;
  shown = λ trees are. (explained.explanation.explains trees are).shown;
  rests = known_rests e explained.explanation true rests;
}

-- what is made where less is asked
pub ok_more : {T E : Type 0} (A B : T → Type 0) → ((x : T) → A x → B x) → (r : Result T E) → IfOk r A → IfOk r B
ok_more A B less (Ok x) h = less x h
ok_more A B less (Err e) h = tt

told_push : (instances : Bool) (words : Vocabulary) (protocol : ProtocolForm) (model : ModelForm) (ps : List protocol_form.PropertyForm) (qs : List PropertyForm)
    → (p : protocol_form.PropertyForm) (q : PropertyForm) (told lines : List ℕ) → AreTold instances words protocol model ps qs lines → IsVerdictTold instances false words protocol model p q told
    → AreTold instances words protocol model (ps ++ p ∷ []) (qs ++ q ∷ []) (lines ++ told)
told_push instances words protocol model [] [] p q told lines none is = (told, [], is, ap (λ (xs : List ℕ). xs ++ told) none ∙ sym (append-nil told), refl)
told_push instances words protocol model [] (y ∷ qs) p q told lines none is = absurd none
told_push instances words protocol model (x ∷ ps) [] p q told lines none is = absurd none
told_push instances words protocol model (x ∷ ps) (y ∷ qs) p q told lines (here, rest, of_x, same, more) is =
    (here, rest ++ told, of_x, ap (λ (xs : List ℕ). xs ++ told) same ∙ append_assoc here rest told, told_push instances words protocol model ps qs p q told rest more is)

one_more : {X : Type 0} (xs : List X) (k : ℕ) (x : X) → slice_get xs k ≡ Some x → take (k + 1) xs ≡ take k xs ++ x ∷ []
one_more xs k x at =
    take_more xs k x (slice_get_within xs k x at) ∙ ap (λ y. take k xs ++ y ∷ []) (get_or_from_slice_get xs k x x at)

-- what is told of the property at the next place
pub next_told : (instances : Bool) (words : Vocabulary) (protocol : ProtocolForm) (model : ModelForm) (place : ℕ) (p : protocol_form.PropertyForm) (q : PropertyForm) (told old new : List ℕ)
    → slice_get protocol.properties place ≡ Some p → slice_get model.properties place ≡ Some q → IsVerdictTold instances false words protocol model p q told
    → AreTold instances words protocol model (take place protocol.properties) (take place model.properties) old → new ≡ old ++ told
    → AreTold instances words protocol model (take (place + 1) protocol.properties) (take (place + 1) model.properties) new
next_told instances words protocol model place p q told old new stands at is are same =
    let ps = one_more protocol.properties place p stands in
    let qs = one_more model.properties place q at in
    let pushed = told_push instances words protocol model (take place protocol.properties) (take place model.properties) p q told old are is in
    subst (λ (xs : List protocol_form.PropertyForm). AreTold instances words protocol model xs (take (place + 1) model.properties) new) (sym ps)
    (subst (λ (xs : List PropertyForm). AreTold instances words protocol model (take place protocol.properties ++ p ∷ []) xs new) (sym qs)
    (subst (λ (xs : List ℕ). AreTold instances words protocol model (take place protocol.properties ++ p ∷ []) (take place model.properties ++ q ∷ []) xs) (sym same) pushed))

-- all are told
pub all_are_told : (instances : Bool) (words : Vocabulary) (protocol : ProtocolForm) (model : ModelForm) (place : ℕ)
    (lines : List ℕ) → length protocol.properties ≤ place → length model.properties ≤ place
    → AreTold instances words protocol model (take place protocol.properties) (take place model.properties) lines
    → AreTold instances words protocol model protocol.properties model.properties lines
all_are_told instances words protocol model place lines long as_long are =
    subst (λ (xs : List protocol_form.PropertyForm). AreTold instances words protocol model xs model.properties lines) (take_all place protocol.properties long)
    (subst (λ (xs : List PropertyForm). AreTold instances words protocol model (take place protocol.properties) xs lines) (take_all place model.properties as_long) are)

-- what isn't explained isn't, whatever is asked
pub unshown : (name : Option (List ℕ)) (bytes : List ℕ) (f : SolveFault) → IsUnexplained (asked_by name) bytes f → IsUnshown name bytes f
unshown name bytes solve_fault.TooManyVertices h = h
unshown name bytes solve_fault.NoProperty h = absurd h
unshown name bytes (solve_fault.Property fault) h = h
unshown name bytes (solve_fault.Text fault) h = h
unshown name bytes (solve_fault.Typing fault) h = h
unshown name bytes (solve_fault.Limit excess) h = h
unshown name bytes (solve_fault.Module fault) h = h
unshown name bytes (solve_fault.Acceptance fault) h = h

-- ---- the property of a name

pub within_form : {A B : Type 0} (f : A → B) (xs : List A) (k : ℕ) → k < length xs → k < length (map f xs)
within_form f xs k within = let long = length-map xs f in omega (arith, within, long)

pub within_mapped : {A B : Type 0} (f : A → B) (xs ys : List A) (k : ℕ) (y : B) → xs ≡ ys → slice_get (map f xs) k ≡ Some y → k < length ys
within_mapped f xs ys k y same at =
    let within = slice_get_within (map f xs) k y at in
    let long = length-map xs f in
    let as_long : length xs ≡ length ys = ap (λ (zs : List _). length zs) same in
    omega (arith, within, long, as_long)

pub named_is_told : (instances : Bool) (name : List ℕ) (words : Vocabulary) (protocol : ProtocolForm) (model : ModelForm) → IsModelFor protocol model
    → (place : ℕ) → IsAskedAt (Some name) model.properties place → (lines : List ℕ)
    → ((p : protocol_form.PropertyForm) (q : PropertyForm) → slice_get protocol.properties place ≡ Some p → slice_get model.properties place ≡ Some q
    → IsVerdictTold instances true words protocol model p q lines)
    → TellAsked instances (Some name) words protocol model lines
named_is_told instances name words protocol model is_for place at lines h =
    let same = same_at protocol model protocol.properties model.properties place at.property is_for.solved.properties at.stands in
    record { place = place; named = at; asked = same.0; stands = same.1; told = h same.0 at.property same.1 at.stands }

-- a property of the name is asked for by it
pub named_asked : (name : List ℕ) (q : PropertyForm) → q.name.text ≡ name → is_asked (name ∷ []) q ≡ true
named_asked name q is = subst (λ (n : List ℕ). is_asked (n ∷ []) q ≡ true) is (ap (λ (b : Bool). b || false) ((bytes_eq-Decides q.name.text q.name.text).1 refl))

-- ---- where a property isn't there

-- what is told of all properties needs none of a name
pub never_missed : {T : Type 0} (P : Type 0) (bytes : List ℕ) (r : Result T (OrMemory SolveFault))
    → IfRefused r (IsUnexplained [] bytes) → r ≡ Err (or_memory.Refused solve_fault.NoProperty) → P
never_missed P bytes (Ok x) h is = absurd (cc is)
never_missed P bytes (Err or_memory.Memory) h is = absurd (cc is)
never_missed P bytes (Err (or_memory.Refused f)) h is =
    let same : f ≡ solve_fault.NoProperty = cc is in
    absurd (subst (IsUnexplained [] bytes) same h)

-- an error that is handed up as that was that
pub missed : {T : Type 0} (P : Type 0) (e : OrMemory SolveFault) (r : Result T SolveError) → IsErrAnd r (joins_into (λ f above. above ≡ f) e)
    → (e ≡ or_memory.Refused solve_fault.NoProperty → P) → r ≡ Err (solve_error.Refused solve_fault.NoProperty) → P
missed P e (Ok x) made h is = absurd (cc is)
missed P (or_memory.Refused f) (Err (solve_error.Refused above)) made h is =
    let same : f ≡ solve_fault.NoProperty = cc (made, is) in
    h (ap (λ (g : SolveFault). or_memory.Refused g) same)
missed P (or_memory.Refused f) (Err solve_error.Memory) made h is = absurd made
missed P (or_memory.Refused f) (Err (solve_error.Write failed)) made h is = absurd made
missed P or_memory.Memory (Err (solve_error.Refused above)) made h is = absurd made
missed P or_memory.Memory (Err solve_error.Memory) made h is = absurd (cc is)
missed P or_memory.Memory (Err (solve_error.Write failed)) made h is = absurd made

-- and an error of the model never is
pub never_missed_model : {T : Type 0} (P : Type 0) (bytes : List ℕ) (e : OrMemory ModelFault) (r : Result T SolveError)
    → IsErrAnd r (joins_into (λ f above. above ≡ fault_of_model f) e) → IfFault e (IsRefusedModel bytes) → r ≡ Err (solve_error.Refused solve_fault.NoProperty) → P
never_missed_model P bytes e (Ok x) made h is = absurd (cc is)
never_missed_model P bytes (or_memory.Refused (model_fault.Text f)) (Err (solve_error.Refused above)) made h is = absurd (cc (made, is))
never_missed_model P bytes (or_memory.Refused (model_fault.Typing f)) (Err (solve_error.Refused above)) made h is = absurd (cc (made, is))
never_missed_model P bytes (or_memory.Refused model_fault.NoProperty) (Err x) made h is = absurd h
never_missed_model P bytes (or_memory.Refused (model_fault.Text f)) (Err solve_error.Memory) made h is = absurd made
never_missed_model P bytes (or_memory.Refused (model_fault.Typing f)) (Err solve_error.Memory) made h is = absurd made
never_missed_model P bytes (or_memory.Refused (model_fault.Text f)) (Err (solve_error.Write failed)) made h is = absurd made
never_missed_model P bytes (or_memory.Refused (model_fault.Typing f)) (Err (solve_error.Write failed)) made h is = absurd made
never_missed_model P bytes or_memory.Memory (Err (solve_error.Refused above)) made h is = absurd made
never_missed_model P bytes or_memory.Memory (Err solve_error.Memory) made h is = absurd (cc is)
never_missed_model P bytes or_memory.Memory (Err (solve_error.Write failed)) made h is = absurd made

-- a failed write is no property that isn't there
pub no_name : {T : Type 0} (P : Type 0) (r : Result T SolveError) → IfErr r (λ e. e ≡ solve_error.Write (record {})) → r ≡ Err (solve_error.Refused solve_fault.NoProperty) → P
no_name P (Ok x) h is = absurd (cc is)
no_name P (Err e) h is = absurd (cc (h, is))
