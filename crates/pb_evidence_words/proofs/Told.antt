-- What is told, piece by piece.
use Rattle.std.proofs.Common.{◌≡◌, ℕ, ℤ, suc, ◌==◌, Bool, true, List, [], ◌∷◌, ◌++◌, flat_map, length, refl, sym, ap, ◌∙◌, subst, arith}
use Rattle.std.specs.Prelude.{codes, if◌then◌else◌, Result, Ok, Err, OnOk, IfOk, Option, None}
use Rattle.std.specs.List.{find}
use Rattle.std.proofs.Props.{props}
use Rattle.std.proofs.Math.Logic.{∥∥₁_elim, ∥∥₁_map}
use Rattle.std.proofs.lemmas.Bool.{eq-eqb, ne_eqb}
use Rattle.pb_fixpoint_trees.specs.Tree.{Tree}
use Rattle.pb_bytecode.specs.Contents.{Contents}
use Rattle.pb_bytecode.specs.Meaning.{AreTrees}
use Rattle.pb_bytecode.proofs.Appending.{append_both}
use Rattle.pb_model_words.specs.Words.{state_text}
use Rattle.pb_sorts.specs.Instance.{Instance}
use Rattle.pb_text_tree.specs.declared.place.Place.{Place}
use Rattle.pb_typing_calls.specs.Calls.{call_place}
use Rattle.pb_typing_calls.specs.MadeCalls.{MadeCall, calls_at}
use Rattle.pb_typing_calls.specs.declared.made_call.MadeCall as declared_call
use Rattle.pb_typing_calls.specs.MadeCallView.{call_views}
use Rattle.pb_game_of_trees.specs.Explored.{ModuleHasTrees}
use Rattle.pb_report.specs.declared.module_evidence.Explanation.{Explanation}
use Rattle.pb_report.specs.Cuts.{cuts_of}
use Rattle.pb_report.specs.ModuleEvidence.{IsExplanation}
use Rattle.pb_evidence_words.specs.declared.shown.Shown.{Shown}
use Rattle.pb_evidence_words.specs.Lines.{HasLines}
use Rattle.pb_evidence_words.specs.Order.{parent_at}
use Rattle.pb_evidence_words.specs.Ready.{IsCaller, told_of}
use Rattle.pb_evidence_words.specs.WhyText.{Told, from_text, arrival_text, call_between, chosen_call, is_call_of, is_staying, line_instance, move_between, move_by, is_empty, with_cuts, cut_text, cuts_text, is_cut_at}
use Rattle.pb_evidence_words.specs.InstanceLines.{call_mark, instance_text}

pub empty-views : (calls : List declared_call.MadeCall) → is_empty (call_views calls) ≡ (length calls == 0)
empty-views [] = sym (eq-eqb 0 0 refl)
empty-views (c ∷ calls) = sym (ne_eqb (suc (length calls)) 0 (λ e. omega (arith, e)))

abbrev first-arrival : Told → List ℕ
first-arrival t = codes ": " ++ state_text t.vocabulary (line_instance t 0).values

abbrev later-arrival : Told → ℕ → List ℕ
later-arrival t k =
    codes " " ++ (from_text t k ++ move_between t (line_instance t (parent_at t.graph k)) (line_instance t k))

arrival-later : (t : Told) (k : ℕ) → (k ≡ 0 → ⊥)
    → codes " " ++ (from_text t k ++ move_between t (line_instance t (parent_at t.graph k)) (line_instance t k)) ≡ arrival_text t k
arrival-later t k other = sym (ap (λ b. if b then first-arrival t else later-arrival t k) (ne_eqb k 0 other))

-- the first line, with its state
pub arrived-first : (t : Told) (k : ℕ) (i : Instance) → i ≡ line_instance t k → k ≡ 0 → (s0 s1 s2 : List ℕ) (values : List ℤ)
    → s1 ≡ s0 ++ codes ": " → values ≡ i.values → s2 ≡ s1 ++ state_text t.vocabulary values → s2 ≡ s0 ++ arrival_text t k
arrived-first t k i is first s0 s1 s2 values opened read stated =
    let state = state_text t.vocabulary (line_instance t k).values in
    let named : state_text t.vocabulary values ≡ state = ap (state_text t.vocabulary) read ∙ ap (λ (x : Instance). state_text t.vocabulary x.values) is in
    let said : codes ": " ++ state ≡ arrival_text t k =
    subst (λ j. codes ": " ++ state_text t.vocabulary (line_instance t j).values ≡ arrival_text t j) (sym first) refl in
    append_both s0 s1 s2 (codes ": ") state opened (stated ∙ ap (λ (x : List ℕ). s1 ++ x) named) ∙ ap (λ (x : List ℕ). s0 ++ x) said

-- any other line, with a move from its parent
pub arrived-later : (t : Told) (k : ℕ) → (k ≡ 0 → ⊥) → (s0 s1 s2 s3 : List ℕ) → s1 ≡ s0 ++ codes " " → s2 ≡ s1 ++ from_text t k
    → s3 ≡ s2 ++ move_between t (line_instance t (parent_at t.graph k)) (line_instance t k) → s3 ≡ s0 ++ arrival_text t k
arrived-later t k other s0 s1 s2 s3 opened from moved =
    let move = move_between t (line_instance t (parent_at t.graph k)) (line_instance t k) in
    append_both s0 s1 s3 (codes " ") (from_text t k ++ move) opened (append_both s1 s2 s3 (from_text t k) move from moved)
    ∙ ap (λ (x : List ℕ). s0 ++ x) (arrival-later t k other)

-- the same at a line that is another's by name
pub caller-at : (t u : Told) (k n : ℕ) {i : Instance} {calls : List declared_call.MadeCall} → t ≡ u → k ≡ n → ∥ IsCaller t k i calls ∥₁ → ∥ IsCaller u n i calls ∥₁
caller-at t u k n {i} {calls} told place is =
    subst (λ m. ∥ IsCaller u m i calls ∥₁) place (subst (λ (x : Told). ∥ IsCaller x k i calls ∥₁) told is)

-- the move from a line whose calls are known
pub move-said : (t : Told) (k : ℕ) (i : Instance) (calls : List declared_call.MadeCall) → ∥ IsCaller t k i calls ∥₁ → (j x : Instance) → j ≡ x
    → move_between t i j ≡ move_between t (line_instance t k) x
move-said t k i calls made j x to = ∥∥₁_elim made (hlevel props) (λ is.
    ap (λ from. move_between t from j) is.instance ∙ ap (λ y. move_between t (line_instance t k) y) to)

-- the mark of the step to an instance
pub mark-said : (t : Told) (k : ℕ) (i : Instance) (calls : List declared_call.MadeCall) → ∥ IsCaller t k i calls ∥₁ → (j x : Instance) → j ≡ x
    → call_mark t.vocabulary (call_between t i j) ≡ call_mark t.vocabulary (call_between t (line_instance t k) x)
mark-said t k i calls made j x to = ∥∥₁_elim made (hlevel props) (λ is.
    ap (λ from. call_mark t.vocabulary (call_between t from j)) is.instance ∙ ap (λ y. call_mark t.vocabulary (call_between t (line_instance t k) y)) to)

-- whether the state stays
pub stays-said : (t : Told) (p k : ℕ) (i : Instance) (calls : List declared_call.MadeCall) → ∥ IsCaller t p i calls ∥₁ → (j : Instance) → j ≡ line_instance t k
    → is_staying t.vocabulary (call_between t i j) ≡ is_staying t.vocabulary (call_between t (line_instance t p) (line_instance t k))
stays-said t p k i calls made j to = ∥∥₁_elim made (hlevel props) (λ is.
    ap (λ from. is_staying t.vocabulary (call_between t from j)) is.instance ∙ ap (λ y. is_staying t.vocabulary (call_between t (line_instance t p) y)) to)

-- the calls of a line are those of its instance
calls-here : (t : Told) (k : ℕ) (i : Instance) (calls : List declared_call.MadeCall) → IsCaller t k i calls → call_views calls ≡ calls_at t.text i
calls-here t k i calls is = is.calls ∙ ap (λ (x : Instance). calls_at t.text x) (sym is.instance)

-- by the place that is told the call is chosen that is told
pub chosen-said : (t : Told) (k : ℕ) (i : Instance) (calls : List declared_call.MadeCall) → ∥ IsCaller t k i calls ∥₁ → (o : Option Place) (j : Instance)
    → ∥ o ≡ call_place t.text i j ∥₁ → ∥ chosen_call o (call_views calls) j ≡ call_between t i j ∥₁
chosen-said t k i calls made o j at = ∥∥₁_elim made (hlevel props) (λ is. ∥∥₁_map at (λ same.
    ap (λ p. chosen_call p (call_views calls) j) same ∙ ap (λ cs. chosen_call (call_place t.text i j) cs j) (calls-here t k i calls is)))

-- and by none, where the place doesn't matter
pub any-said : (t : Told) (k : ℕ) (i : Instance) (calls : List declared_call.MadeCall) → ∥ IsCaller t k i calls ∥₁ → (j : Instance)
    → ((o : Option Place) → chosen_call o (call_views calls) j ≡ find (is_call_of j) (call_views calls))
    → ∥ chosen_call None (call_views calls) j ≡ call_between t i j ∥₁
any-said t k i calls made j any = ∥∥₁_map made (λ is.
    sym (any (call_place t.text i j)) ∙ ap (λ cs. chosen_call (call_place t.text i j) cs j) (calls-here t k i calls is))

pub if-ok : {A E : Type 0} (r : Result A E) (P Q : A → Type 0) → ((x : A) → P x → Q x) → IfOk r P → IfOk r Q
if-ok (Ok x) P Q each is = each x is
if-ok (Err e) P Q each is = tt

-- what is told by a call that is told
pub move-by-said : (t : Told) (i j : Instance) (o : Option MadeCall) → ∥ o ≡ call_between t i j ∥₁ → move_by t.vocabulary i j o ≡ move_between t i j
move-by-said t i j o is = ∥∥₁_elim is (hlevel props) (λ same. ap (move_by t.vocabulary i j) same)

pub mark-by-said : (t : Told) (i j : Instance) (o : Option MadeCall) → ∥ o ≡ call_between t i j ∥₁ → call_mark t.vocabulary o ≡ call_mark t.vocabulary (call_between t i j)
mark-by-said t i j o is = ∥∥₁_elim is (hlevel props) (λ same. ap (call_mark t.vocabulary) same)

pub staying-said : (t : Told) (i j : Instance) (o : Option MadeCall) → ∥ o ≡ call_between t i j ∥₁ → is_staying t.vocabulary o ≡ is_staying t.vocabulary (call_between t i j)
staying-said t i j o is = ∥∥₁_elim is (hlevel props) (λ same. ap (is_staying t.vocabulary) same)

-- the instance of a line by its name
pub instance-said : (t : Told) (k : ℕ) (i : Instance) (calls : List declared_call.MadeCall) → ∥ IsCaller t k i calls ∥₁
    → instance_text t i ≡ instance_text t (line_instance t k)
instance-said t k i calls made = ∥∥₁_elim made (hlevel props) (λ is. ap (λ y. instance_text t y) is.instance)

-- the calls of a line that leave the ranges, where it rests on one
pub cuts-said : (t : Told) (k : ℕ) (i : Instance) (calls : List declared_call.MadeCall) → ∥ IsCaller t k i calls ∥₁ → is_cut_at t k ≡ true
    → flat_map (cut_text t i) (call_views calls) ≡ cuts_text t k
cuts-said t k i calls made cut = ∥∥₁_elim made (hlevel props) (λ is.
    ap (λ cs. flat_map (cut_text t i) cs) is.calls
    ∙ (ap (λ y. flat_map (cut_text t y) (calls_at t.text (line_instance t k))) is.instance
    ∙ sym (ap (λ b. if b then flat_map (cut_text t (line_instance t k)) (calls_at t.text (line_instance t k)) else []) cut)))

-- evidence has lines
pub has-lines : (m : Contents) → ModuleHasTrees m → (x : Explanation) → IsExplanation m x → HasLines x.evidence
has-lines m have x is =
    let shown = (is have.0 have.1).shown in
    record { once = shown.once; each = shown.each; closed = λ n m rests. ∣ shown.graph.closed n m rests ∣₁; reached = λ k later within. ∣ shown.nearest.reached k later within ∣₁ }

-- cuts that are told are those of the trees
pub told-for : {T E : Type 0} (F : Told → List ℕ) (r : Result T E) (s : Shown) → IsExplanation s.verified.now s.explanation.now → (s0 s1 : List ℕ)
    → OnOk r (s1 ≡ s0 ++ F (told_of s))
    → OnOk r ((trees : ℕ → Tree) → AreTrees s.verified.now trees
    → s1 ≡ s0 ++ F (with_cuts (cuts_of trees s.explanation.now.evidence) (told_of s)))
told-for F (Ok v) s is s0 s1 said = λ trees are.
    said ∙ ap (λ (cs : List Bool). s0 ++ F (with_cuts cs (told_of s))) (is trees are).cuts
told-for F (Err e) s is s0 s1 said = tt
