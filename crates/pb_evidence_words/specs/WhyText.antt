-- Why a property has its truth value, as a text: the lines of evidence, each with the move that
-- leads to it, in the words of the model.
--
--     why   = { line { edge } { cut } [ here ] }
--     first = "1 " FORMULA ": " state NEWLINE
--     line  = NUMBER " " FORMULA " " [ "from " NUMBER " " ] move NEWLINE
--     edge  = "  " move ( ", back to line " NUMBER ", for ever" | ", to line " NUMBER ) NEWLINE
--     cut   = "  " move ", outside the ranges" NEWLINE
--     here  = "  here" [ reason ] ": " state NEWLINE
--     reason = test [ ", and no step can be taken" ] | " no step can be taken"
--     test   = " the test holds" | " the test fails"
--
-- A line that only passes on to another fixpoint in the same state is left out, and its number with
-- it: the next line takes its place.
use Rattle.std.specs.Prelude.{ℕ, zero, suc, ◌+◌, ◌==◌, Bool, true, false, not, ◌&&◌}
use Rattle.std.specs.Prelude.{if◌then◌else◌, List, [], ◌∷◌, ◌++◌, length, flat_map, slice_index, slice_index_or}
use Rattle.std.specs.Prelude.{codes, decimal, Option, Some, None, is_some, unwrap_or}
use Rattle.std.specs.List.{find, range_with_len, slice_get}
use Rattle.std.specs.Cmp.Lexicographic.{pointwise}
use Rattle.std.specs.Ordering.{int_eq}
use Rattle.pb_text_tree.specs.declared.place.Place.{Place}
use Rattle.pb_text_tree.specs.Form.{EquationForm, SpecForm}
use Rattle.pb_sorts.specs.declared.carrier.Carrier.{Carrier}
use Rattle.pb_sorts.specs.Instance.{Instance, is_instance}
use Rattle.pb_sorts.specs.Layout.{carriers_of}
use Rattle.pb_model_words.specs.Vocabulary.{Vocabulary}
use Rattle.pb_model_words.specs.Words.{state_text, move_text, changes_text, step_at}
use Rattle.pb_typing_calls.specs.Calls.{call_place, same_place}
use Rattle.pb_typing_calls.specs.MadeCalls.{MadeCall, calls_at}
use Rattle.pb_evidence.specs.ProofGraphs.{Graph}
use Rattle.pb_evidence_places.specs.CallPlaces.{instance_numbered}
use Rattle.pb_evidence_words.specs.Order.{place_of, parent_at, last_caller_at, leads_back}
use Rattle.pb_evidence_words.specs.Order.{leads_on, has_edge}
use Rattle.pb_evidence_words.specs.Asking.{equation_asks}

-- What is told: the words of the model, the text of its property and the one of its every step, the
-- layout of the property's instances, their truth value, and evidence for it, with which of its
-- lines rest on a cut call. Where a verdict is shown by the negation, text, layout and evidence are
-- those of the negation, and the truth value is the property's.
pub record Told : Type 0 where
  pub vocabulary : Vocabulary
  pub text : SpecForm
  pub steps : SpecForm
  pub layout : List (List Carrier)
  pub truth : Bool
  pub graph : Graph
  pub cuts : List Bool

-- the same with these lines resting on a cut call
abbrev pub with_cuts : List Bool → Told → Told
with_cuts cuts t = record t { cuts = cuts }

-- the instance with a number, else an equation without values
abbrev pub shown_instance : Told → ℕ → Instance
shown_instance t n =
    unwrap_or (instance_numbered t.layout n) (record { equation = 0; values = [] })

-- the instance that a line is of
abbrev pub line_instance : Told → ℕ → Instance
line_instance t k = shown_instance t (slice_index t.graph.instances k)

abbrev pub name_of_equation : Option EquationForm → List ℕ
name_of_equation None = []
name_of_equation (Some X) = X.name.text

abbrev pub formula_text : Told → Instance → List ℕ
formula_text t i = name_of_equation (slice_get t.text.equations i.equation)

abbrev pub is_empty : {A : Type 0} → List A → Bool
is_empty [] = true
is_empty (x ∷ xs) = false

-- ---- moves

abbrev pub is_same_instance : Instance → Instance → Bool
is_same_instance i j = (i.equation == j.equation) && pointwise int_eq i.values j.values

abbrev pub is_call_of : Instance → MadeCall → Bool
is_call_of j c = is_same_instance c.instance j

abbrev pub is_call_at : Place → Instance → MadeCall → Bool
is_call_at p j c = same_place c.place p && is_call_of j c

abbrev pub call_or : Option MadeCall → Option MadeCall → Option MadeCall
call_or None other = other
call_or (Some c) other = Some c

-- Of the calls that name an instance the first one at a place; where none stands there, as where
-- several tests together decide, the first of all
abbrev pub chosen_call : Option Place → List MadeCall → Instance → Option MadeCall
chosen_call None calls j = find (is_call_of j) calls
chosen_call (Some p) calls j = call_or (find (is_call_at p j) calls) (find (is_call_of j) calls)

-- The call by which an instance names another one: at the place that `explain --places` tells. None
-- is told that stands beside a test that decides.
abbrev pub call_between : Told → Instance → Instance → Option MadeCall
call_between t i j = chosen_call (call_place t.text i j) (calls_at t.text i) j

-- by a call; where none is made, which is so where data is tested behind it, by no step
abbrev pub move_by : Vocabulary → Instance → Instance → Option MadeCall → List ℕ
move_by m i j None = codes "by no step" ++ changes_text m i.values j.values
move_by m i j (Some c) = move_text m c.place c.own i.values c.instance.values

-- the move by which an instance goes over to another
abbrev pub move_between : Told → Instance → Instance → List ℕ
move_between t i j = move_by t.vocabulary i j (call_between t i j)

abbrev pub dependencies_at : Told → ℕ → List ℕ
dependencies_at t k = t.graph.dependencies (slice_index t.graph.instances k)

abbrev pub is_cut_at : Told → ℕ → Bool
is_cut_at t k = slice_index_or t.cuts k false

-- ---- lines that are left out

-- a call that isn't made at a step: the state stays
abbrev pub is_staying : Vocabulary → Option MadeCall → Bool
is_staying m None = false
is_staying m (Some c) = not (is_some (step_at m c.place))

-- the state stays where the line at k is come to
abbrev pub stays_at : Told → ℕ → Bool
stays_at t k =
    is_staying t.vocabulary
    (call_between t (line_instance t (parent_at t.graph k)) (line_instance t k))

-- One line alone rests on the one at k, and this on the next line alone, which comes from it.
abbrev pub is_link : Told → ℕ → Bool
is_link t k =
    not (is_cut_at t k) && ((last_caller_at t.graph k == parent_at t.graph k)
    && leads_on t.graph k (dependencies_at t k))

-- a line that only passes on, from the line that it comes from to the next one
abbrev pub is_left_out : Told → ℕ → Bool
is_left_out t zero = false
is_left_out t (suc k) = is_link t (suc k) && stays_at t (suc k)

-- The line from which the one at k comes, by way of those alone that pass on;
abbrev pub origin_at : Told → ℕ → ℕ
origin_at t zero = 0
origin_at t (suc k) = if is_left_out t k then origin_at t k else parent_at t.graph (suc k)

-- and whether there is no other line between the two
abbrev pub follows : Told → ℕ → Bool
follows t zero = false
follows t (suc k) = if is_left_out t k then follows t k else parent_at t.graph (suc k) == k

-- ---- lines

-- the line that the one at k comes from, where there are others between
abbrev pub from_text : Told → ℕ → List ℕ
from_text t k =
    if follows t k then []
    else codes "from " ++ (decimal (origin_at t k + 1) ++ codes " ")

-- how the line at k is come to
abbrev pub arrival_text : Told → ℕ → List ℕ
arrival_text t k =
    if k == 0 then codes ": " ++ state_text t.vocabulary (line_instance t 0).values
    else codes " " ++ (from_text t k
    ++ move_between t (line_instance t (parent_at t.graph k)) (line_instance t k))

abbrev pub line_text : Told → ℕ → List ℕ
line_text t k =
    decimal (k + 1) ++ (codes " " ++ (formula_text t (line_instance t k)
    ++ (arrival_text t k ++ codes "\n")))

-- ---- what stands below the line at k

-- to the line at j: back, where the lines from there go round, each resting on the next one alone
abbrev pub target_text : Told → ℕ → ℕ → List ℕ
target_text t k j =
    if leads_back t.graph t.cuts k j
    then codes ", back to line " ++ (decimal (j + 1) ++ codes ", for ever\n")
    else codes ", to line " ++ (decimal (j + 1) ++ codes "\n")

-- to the line of the instance n
abbrev pub to_text : Told → ℕ → ℕ → List ℕ
to_text t k n =
    codes "  " ++ (move_between t (line_instance t k) (shown_instance t n)
    ++ target_text t k (place_of t.graph n))

-- the same, where that line isn't shown to come from here
abbrev pub edge_text : Told → ℕ → ℕ → List ℕ
edge_text t k n = if has_edge t.graph k n then to_text t k n else []

-- a call that leaves the ranges
abbrev pub cut_text : Told → Instance → MadeCall → List ℕ
cut_text t i c =
    if is_instance (carriers_of t.layout) c.instance then []
    else codes "  " ++ (move_text t.vocabulary c.place c.own i.values c.instance.values
    ++ codes ", outside the ranges\n")

abbrev pub cuts_text : Told → ℕ → List ℕ
cuts_text t k =
    let i = line_instance t k in
    if is_cut_at t k then flat_map (cut_text t i) (calls_at t.text i) else []

-- no step leads away from a state
abbrev pub is_stuck : Told → Instance → Bool
is_stuck t i = is_empty (calls_at t.steps (record { equation = 0; values = i.values }))

-- whether the right side of an instance's equation asks a test, beside the guards of steps
abbrev pub asks_at : Told → Instance → Bool
asks_at t i = equation_asks t.vocabulary (slice_get t.text.equations i.equation)

-- the test that decides; that a step can be taken may be one
abbrev pub test_text : Bool → List ℕ
test_text truth = if truth then codes " the test holds" else codes " the test fails"

-- why nothing is called where no step can be taken: where nothing else is asked, for that alone
abbrev pub stuck_text : Bool → Bool → List ℕ
stuck_text asks truth =
    if asks then test_text truth ++ codes ", and no step can be taken"
    else codes " no step can be taken"

-- why a line rests on no other
abbrev pub reason_text : Told → ℕ → List ℕ
reason_text t k =
    if is_cut_at t k then [] else
    (if is_stuck t (line_instance t k) then stuck_text (asks_at t (line_instance t k)) t.truth
    else test_text t.truth)

abbrev pub here_text : Told → ℕ → List ℕ
here_text t k =
    codes "  here" ++ (reason_text t k ++ (codes ": "
    ++ (state_text t.vocabulary (line_instance t k).values ++ codes "\n")))

abbrev pub end_text : Told → ℕ → List ℕ
end_text t k = if is_empty (dependencies_at t k) then here_text t k else []

abbrev pub below_text : Told → ℕ → List ℕ
below_text t k =
    flat_map (edge_text t k) (dependencies_at t k) ++ (cuts_text t k ++ end_text t k)

-- ---- all lines

-- the line at k with what stands below it, unless it only passes on
abbrev pub written_text : Told → ℕ → List ℕ
written_text t k = if is_left_out t k then [] else line_text t k ++ below_text t k

abbrev pub why_lines : Told → List ℕ
why_lines t = flat_map (written_text t) (range_with_len 0 (length t.graph.instances))
