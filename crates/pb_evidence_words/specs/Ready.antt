-- What is shown, as it is told, and what has to be known of it before it is.
use Rattle.std.specs.Prelude.{◌≡◌, ℕ, ◌<◌, Bool, true, not, if◌then◌else◌}
use Rattle.std.specs.Prelude.{List, length, slice_index, Option, Some, None}
use Rattle.std.specs.Borrow.{Bor}
use Rattle.pb_text_tree.specs.Form.{spec_form}
use Rattle.pb_model_words.specs.View.{vocabulary_of}
use Rattle.pb_sorts.specs.Instance.{Instance, is_instance}
use Rattle.pb_sorts.specs.Layout.{carriers_of, count_of}
use Rattle.pb_bytecode.specs.Meaning.{parameters}
use Rattle.pb_evidence.specs.Evidence.{graph_of}
use Rattle.pb_typing_calls.specs.declared.places.CallPlaces.{CallPlaces}
use Rattle.pb_typing_calls.specs.declared.made_call.MadeCall as declared_call
use Rattle.pb_typing_calls.specs.MadeCalls.{MadeCall, calls_at}
use Rattle.pb_typing_calls.specs.MadeCallView.{call_view, call_views}
use Rattle.pb_typing_calls.specs.View.{said_by, layout_of}
use Rattle.pb_evidence_words.specs.declared.shown.Shown.{Shown}
use Rattle.pb_evidence_words.specs.declared.lines.Lines.{Lines}
use Rattle.pb_evidence_words.specs.Lines.{HasLines, AreLinesOf}
use Rattle.pb_evidence_words.specs.WhyText.{Told, line_instance}

-- the truth value of a property's instances by that of evidence, which may be its negation's
abbrev pub truth_told : Bool → Bool → Bool
truth_told denied truth = if denied then not truth else truth

abbrev pub told_of : Shown → Told
told_of s = record {
  vocabulary = vocabulary_of s.vocabulary.now;
  text = spec_form s.typed.now.spec;
  steps = spec_form s.steps.now.spec;
  layout = parameters s.verified.now;
  truth = truth_told s.denied s.explanation.now.evidence.truth;
  graph = graph_of s.explanation.now.evidence;
  cuts = s.explanation.now.cuts.items;
}

-- the instances of the lines
abbrev pub numbers_of : Shown → List ℕ
numbers_of s = s.explanation.now.evidence.instances.items

-- there is such an instance of the property
abbrev pub IsKnown : Shown → Instance → Type 0
IsKnown s i = is_instance (carriers_of (parameters s.verified.now)) i ≡ true

-- the calls are those of the texts, of instances of the layout, and the lines are the evidence's
pub record IsReady (s : Shown) (calls steps : CallPlaces) (lines : Lines) : Type 0 where
  pub text : ∥ said_by calls ≡ spec_form s.typed.now.spec ∥₁
  pub steps_text : ∥ said_by steps ≡ spec_form s.steps.now.spec ∥₁
  pub layout : carriers_of (layout_of calls) ≡ carriers_of (parameters s.verified.now)
  pub states : (i : Instance) → IsKnown s i
      → is_instance (carriers_of (layout_of steps)) (record { equation = 0; values = i.values })
      ≡ true
  pub evidence : HasLines s.explanation.now.evidence
  pub ordered : AreLinesOf (graph_of s.explanation.now.evidence) s.explanation.now.cuts.items lines
  pub below : (k : ℕ) → k < length (numbers_of s)
      → slice_index (numbers_of s) k < count_of (parameters s.verified.now)

-- this is the instance of the line at k, and these are the calls that it makes
pub record IsCaller (t : Told) (k : ℕ) (i : Instance) (made : List declared_call.MadeCall)
    : Type 0 where
  pub instance : i ≡ line_instance t k
  pub calls : call_views made ≡ calls_at t.text (line_instance t k)

-- a call that was found
abbrev pub call_said : Option (Bor declared_call.MadeCall) → Option MadeCall
call_said None = None
call_said (Some c) = Some (call_view c.now)
