-- A permuted state satisfies a formula exactly where the state does.
use Rattle.std.proofs.Common.{◌≡◌, ℕ, zero, suc, Bool, true, false, not, ◌&&◌, ◌||◌, if◌then◌else◌, List, [], ◌∷◌, map, refl, sym, ap, ◌∙◌}
use Rattle.std.specs.Prelude.{filter, Option, Some, None}
use Rattle.std.specs.Ordering.{int_eq}
use Rattle.pb_fixpoint.specs.declared.Sign.{Sign}
use Rattle.pb_fixpoint.specs.declared.Sign.TheVariants.{Mu, Nu}
use Rattle.pb_fixpoint.specs.Solution.{iterate, start}
use Rattle.pb_fixpoint.proofs.Solved.{cond_same}
use Rattle.pb_base_values.specs.Carrier.{Value, Carrier, Tuple, tuples}
use Rattle.pb_text_tree.specs.declared.operator.Quantifier.{Quantifier}
use Rattle.pb_text_tree.specs.declared.operator.Quantifier.TheVariants.{Forall, Exists}
use Rattle.pb_text_meaning.specs.Syntax.{Name, same_name, Variable, Term, Spec}
use Rattle.pb_text_meaning.specs.Sorts.{carrier_of}
use Rattle.pb_text_meaning.specs.Formula.{carriers_of}
use Rattle.pb_text_meaning.specs.Value.{Assignment, of_values, is_true}
use Rattle.pb_model_meaning.specs.Steps.{State}
use Rattle.pb_model_meaning.specs.Satisfaction.{States, Valuation, with_set}
use Rattle.pb_protocol_meaning.specs.Syntax.{Step, StepSet, Formula, Protocol}
use Rattle.pb_protocol_meaning.specs.Meaning.{no_functions, meaning}
use Rattle.pb_protocol_meaning.specs.Steps.{data_of, is_state, functions_at, functions_at_start, updates, is_enabled, next_state, own_values, fits, has_step, successors_by, successors}
use Rattle.pb_protocol_meaning.specs.Satisfaction.{state_count, is_truth, holds_at, satisfying}
use Rattle.pb_model_translation.proofs.Lists.{of_list, both, guarded, of_list-cons, of_list-one, of_list-flat_map, of_list-map, of_list-filter}
use Rattle.pb_protocol_symmetry.specs.Permutation.{IsPermutation, AreElements, Plain, kind_of, moved, all_moved, AreInKinds}
use Rattle.pb_protocol_symmetry.specs.Kinds.{Signatures, extended}
use Rattle.pb_protocol_symmetry.specs.Laws.{AreCarried, AreFunctionsCarried}
use Rattle.pb_protocol_symmetry.specs.States.{permuted, AreValues}
use Rattle.pb_protocol_symmetry.specs.Steps.{StepHasKinds}
use Rattle.pb_protocol_symmetry.specs.Satisfaction.{ValuesHaveKinds, SetHasKinds, SetHasKindsAt, FormulaHasKinds, StepsHaveKinds, IsSymmetric, seen, PermutedStatesAreStates, PermutationsAreUndone, RangesArePermuted, SuccessorsArePermuted, SatisfactionIsPermuted}
use Rattle.pb_protocol_symmetry.proofs.Elements.{same-one}
use Rattle.pb_protocol_symmetry.proofs.Terms.{kind-carrier, over-values, quantified-moved, term-moved}
use Rattle.pb_protocol_symmetry.proofs.States.{functions-carried, definitions-carried}
use Rattle.pb_protocol_symmetry.proofs.Steps.{step-carried}
use Rattle.pb_protocol_symmetry.proofs.Shapes.{HasShape, shape-of, shape-by, shape-after, values-of, state-of, values-permuted, undone, state-kept}

two : (o : Bool → Bool → Bool) (x y x' y' : Bool) → x ≡ x' → y ≡ y' → o x y ≡ o x' y'
two o x y x' y' p q = ap (λ b. o b y) p ∙ ap (o x') q

of-carrier : (q : Quantifier) (P : Value → Bool) (c : Carrier) → of_list q P c ≡ of_values q P c
of-carrier Forall P c = refl
of-carrier Exists P c = refl

module _ (m : Protocol) (sort : Name) (M : Carrier) (signatures : Signatures) (known : IsSymmetric m sort M signatures)
    (p back : Value → Value) (permutes : IsPermutation M p back) where
  abbrev spec : Spec
  spec = data_of m

  abbrev elements : AreElements (carrier_of spec sort) M
  elements = known.declared.elements

  abbrev C : Carrier
  C = carrier_of spec sort

  abbrev there : State → State
  there s = permuted spec sort p back m.variables s

  abbrev Carried : List Variable → Assignment → Assignment → Type 0
  Carried scope c d = AreCarried C sort p scope c d

  -- ---- tuples of values

  tuples-moved : (q : Quantifier) (xs : List Variable) (Q R : Tuple → Bool) → ((vs : Tuple) → AreInKinds C sort xs vs → Q (all_moved sort p xs vs) ≡ R vs) →
      of_list q Q (tuples (carriers_of spec xs)) ≡ of_list q R (tuples (carriers_of spec xs))
  tuples-moved q [] Q R h = of_list-one q Q [] ∙ (h [] tt ∙ sym (of_list-one q R []))
  tuples-moved q (x ∷ xs) Q R h =
      let c = carrier_of spec x.sort in
      let ts = tuples (carriers_of spec xs) in
      opened Q ∙ (of-carrier q (λ v. of_list q (λ (vs : Tuple). Q (v ∷ vs)) ts) c ∙
      (over-values spec sort M p back permutes elements (kind_of sort x.sort) c (kind-carrier spec sort M p back permutes elements x.sort) q
      (λ v. of_list q (λ (vs : Tuple). Q (v ∷ vs)) ts) (λ v. of_list q (λ (vs : Tuple). R (v ∷ vs)) ts)
      (λ v k. tuples-moved q xs (λ (vs : Tuple). Q (moved p (kind_of sort x.sort) v ∷ vs)) (λ (vs : Tuple). R (v ∷ vs)) (λ vs ks. h (v ∷ vs) (k, ks))) ∙
      (sym (of-carrier q (λ v. of_list q (λ (vs : Tuple). R (v ∷ vs)) ts) c) ∙ sym (opened R))))
    where
      each : (P : Tuple → Bool) (us : Carrier) →
          of_list q (λ v. of_list q P (map (λ (vs : Tuple). v ∷ vs) (tuples (carriers_of spec xs)))) us ≡ of_list q (λ v. of_list q (λ (vs : Tuple). P (v ∷ vs)) (tuples (carriers_of spec xs))) us
      each P [] = none q
        where
          none : (r : Quantifier) → of_list r (λ (v : Value). of_list q P (map (λ (vs : Tuple). v ∷ vs) (tuples (carriers_of spec xs)))) [] ≡
              of_list r (λ (v : Value). of_list q (λ (vs : Tuple). P (v ∷ vs)) (tuples (carriers_of spec xs))) []
          none Forall = refl
          none Exists = refl
      each P (u ∷ us) =
          of_list-cons q (λ v. of_list q P (map (λ (vs : Tuple). v ∷ vs) (tuples (carriers_of spec xs)))) u us ∙
          (ap (λ b. both q b (of_list q (λ v. of_list q P (map (λ (vs : Tuple). v ∷ vs) (tuples (carriers_of spec xs)))) us))
          (of_list-map q P (λ (vs : Tuple). u ∷ vs) (tuples (carriers_of spec xs))) ∙
          (ap (both q (of_list q (λ (vs : Tuple). P (u ∷ vs)) (tuples (carriers_of spec xs)))) (each P us) ∙
          sym (of_list-cons q (λ v. of_list q (λ (vs : Tuple). P (v ∷ vs)) (tuples (carriers_of spec xs))) u us)))

      opened : (P : Tuple → Bool) → of_list q P (tuples (carriers_of spec (x ∷ xs))) ≡ of_list q (λ v. of_list q (λ (vs : Tuple). P (v ∷ vs)) (tuples (carriers_of spec xs))) (carrier_of spec x.sort)
      opened P =
          of_list-flat_map q P (λ v. map (λ (vs : Tuple). v ∷ vs) (tuples (carriers_of spec xs))) (carrier_of spec x.sort) ∙ each P (carrier_of spec x.sort)

  -- ---- sets of steps

  nothing-carried : AreFunctionsCarried C sort p [] no_functions no_functions
  nothing-carried = record {
    known = λ s among j is vs k. absurd among;
    unknown = λ x new vs. (refl, refl);
  }

  start-carried : AreFunctionsCarried C sort p signatures.at_start (functions_at_start m) (functions_at_start m)
  start-carried =
      definitions-carried spec sort M p back permutes elements m.definitions [] signatures.at_start known.declared.at_start no_functions no_functions nothing-carried

  fits-moved : (scope : List Variable) (c d : Assignment) → Carried scope c d → (zs : List Variable) (xs : List (Option Term)) → ValuesHaveKinds spec sort M signatures.at_start scope zs xs →
      (vs : Tuple) → AreInKinds C sort zs vs → fits m d xs (all_moved sort p zs vs) ≡ fits m c xs vs
  fits-moved scope c d cd [] [] h [] k = refl
  fits-moved scope c d cd [] (x ∷ xs) h [] k = refl
  fits-moved scope c d cd [] xs h (v ∷ vs) k = absurd k
  fits-moved scope c d cd (z ∷ zs) xs h [] k = absurd k
  fits-moved scope c d cd (z ∷ zs) [] h (v ∷ vs) k = refl
  fits-moved scope c d cd (z ∷ zs) (None ∷ xs) h (v ∷ vs) k = fits-moved scope c d cd zs xs h vs k.1
  fits-moved scope c d cd (z ∷ zs) (Some x ∷ xs) h (v ∷ vs) k =
      let e = (term-moved spec sort M p back permutes elements signatures.at_start (functions_at_start m) (functions_at_start m) start-carried scope (kind_of sort z.sort) x h.0 c d cd).0 in
      two (λ a b. a && b) _ _ _ _
      (ap (λ w. int_eq w (moved p (kind_of sort z.sort) v)) e ∙ same-one spec sort M p back permutes elements (kind_of sort z.sort) (meaning spec (functions_at_start m) c x) v)
      (fits-moved scope c d cd zs xs h.1 vs k.1)

  set-moved : (scope : List Variable) (c d : Assignment) → Carried scope c d → (A : StepSet) (a : Step) → SetHasKinds spec sort M signatures.at_start scope A a →
      (own : Tuple) → AreInKinds C sort a.variables own → has_step m d A a.name (all_moved sort p a.variables own) ≡ has_step m c A a.name own
  set-moved scope c d cd StepSet.All a h own k = refl
  set-moved scope c d cd (StepSet.Only y) a h own k = refl
  set-moved scope c d cd (StepSet.With y xs) a h own k = by (same_name y a.name) h
    where
      by : (b : Bool) → (b ≡ true → ValuesHaveKinds spec sort M signatures.at_start scope a.variables xs) → (b && fits m d xs (all_moved sort p a.variables own)) ≡ (b && fits m c xs own)
      by true h = fits-moved scope c d cd a.variables xs (h refl) own k
      by false h = refl
  set-moved scope c d cd (StepSet.Complement A) a h own k = ap not (set-moved scope c d cd A a h own k)
  set-moved scope c d cd (StepSet.Union A B) a h own k =
      two (λ x y. x || y) _ _ _ _ (set-moved scope c d cd A a h.0 own k) (set-moved scope c d cd B a h.1 own k)

  -- ---- successors

  -- what is true of where one step leads
  by-moved : (q : Quantifier) (P Q : State → Bool) → ((r : State) → HasShape spec m.variables r → Q (there r) ≡ P r) →
      (scope : List Variable) (c d : Assignment) → Carried scope c d → (A : StepSet) (a : Step) → SetHasKinds spec sort M signatures.at_start scope A a →
      StepHasKinds spec sort M signatures.at_states m.variables a →
      (s : State) → AreValues spec m.variables s → of_list q Q (successors_by m d A (there s) a) ≡ of_list q P (successors_by m c A s a)
  by-moved q P Q PQ scope c d cd A a hA ha s values =
      let ts = tuples (carriers_of spec a.variables) in
      let then-test : Tuple → Bool = λ own. has_step m d A a.name own && is_enabled m (there s) a own in
      let first-test : Tuple → Bool = λ own. has_step m c A a.name own && is_enabled m s a own in
      of_list-map q Q (next_state m (there s) a) (filter then-test ts) ∙
      (of_list-filter q (λ own. Q (next_state m (there s) a own)) then-test ts ∙
      (tuples-moved q a.variables (λ own. guarded q (then-test own) (Q (next_state m (there s) a own))) (λ own. guarded q (first-test own) (P (next_state m s a own)))
      (λ own k.
      let r = step-carried m sort M signatures known.declared p back permutes a ha s values own k in
      two (guarded q) _ _ _ _ (two (λ x y. x && y) _ _ _ _ (set-moved scope c d cd A a hA own k) r.enabled)
      (ap Q r.next ∙ PQ (next_state m s a own)
      (shape-after (updates spec (functions_at m s) (own_values a own) a.assignments) spec m.variables s (shape-of spec m.variables s values)))) ∙
      (sym (of_list-filter q (λ own. P (next_state m s a own)) first-test ts) ∙
      sym (of_list-map q P (next_state m s a) (filter first-test ts)))))

  all-moved : (q : Quantifier) (P Q : State → Bool) → ((r : State) → HasShape spec m.variables r → Q (there r) ≡ P r) →
      (scope : List Variable) (c d : Assignment) → Carried scope c d → (A : StepSet) (s : State) → AreValues spec m.variables s →
      (steps : List Step) → SetHasKindsAt spec sort M signatures.at_start scope A steps → StepsHaveKinds spec sort M signatures.at_states m.variables steps →
      of_list q (λ a. of_list q Q (successors_by m d A (there s) a)) steps ≡ of_list q (λ a. of_list q P (successors_by m c A s a)) steps
  all-moved Forall P Q PQ scope c d cd A s values [] hA hs = refl
  all-moved Exists P Q PQ scope c d cd A s values [] hA hs = refl
  all-moved q P Q PQ scope c d cd A s values (a ∷ steps) hA hs =
      of_list-cons q (λ a. of_list q Q (successors_by m d A (there s) a)) a steps ∙
      (two (both q) _ _ _ _ (by-moved q P Q PQ scope c d cd A a hA.0 hs.0 s values) (all-moved q P Q PQ scope c d cd A s values steps hA.1 hs.1) ∙
      sym (of_list-cons q (λ a. of_list q P (successors_by m c A s a)) a steps))

  successors-moved : (q : Quantifier) (P Q : State → Bool) → ((r : State) → HasShape spec m.variables r → Q (there r) ≡ P r) →
      (scope : List Variable) (c d : Assignment) → Carried scope c d → (A : StepSet) → SetHasKindsAt spec sort M signatures.at_start scope A m.steps → (s : State) → AreValues spec m.variables s →
      of_list q Q (successors m d A (there s)) ≡ of_list q P (successors m c A s)
  successors-moved q P Q PQ scope c d cd A hA s values =
      of_list-flat_map q Q (successors_by m d A (there s)) m.steps ∙
      (all-moved q P Q PQ scope c d cd A s values m.steps hA known.steps ∙
      sym (of_list-flat_map q P (successors_by m c A s) m.steps))

  -- ---- sets of states

  abbrev Follows : States → States → Type 0
  Follows S T = (s : State) → is_state m s ≡ true → T (there s) ≡ S s

  state-there : (s : State) → HasShape spec m.variables s → is_state m (there s) ≡ is_state m s
  state-there s shape = state-kept spec sort M p back permutes elements m refl s shape

  held-there : (f : Formula) (S T : States) → Follows S T → (r : State) → HasShape spec m.variables r → holds_at m f T (there r) ≡ holds_at m f S r
  held-there f S T h r shape =
      ap (λ b. if b then T (there r) else is_truth f) (state-there r shape) ∙ cond_same (is_state m r) (T (there r)) (S r) (is_truth f) (h r)

  start-follows : (sign : Sign) → Follows (start sign) (start sign)
  start-follows Mu s e = refl
  start-follows Nu s e = refl

  iterate-follows : (g h : States → States) → ((S T : States) → Follows S T → Follows (g S) (h T)) → (n : ℕ) (S T : States) → Follows S T → Follows (iterate n g S) (iterate n h T)
  iterate-follows g h step zero S T ST = ST
  iterate-follows g h step (suc n) S T ST = step _ _ (iterate-follows g h step n S T ST)

  with-follows : (V W : Valuation) → ((X : Name) → Follows (V X) (W X)) → (X : Name) (S T : States) → Follows S T → (Y : Name) → Follows (with_set V X S Y) (with_set W X T Y)
  with-follows V W h X S T ST Y = by (same_name X Y)
    where
      by : (b : Bool) → Follows (if b then S else V Y) (if b then T else W Y)
      by true = ST
      by false = h Y

  pub satisfied : (f : Formula) (scope : List Variable) → FormulaHasKinds m sort M signatures scope f → (V W : Valuation) → ((X : Name) → Follows (V X) (W X)) →
      (c d : Assignment) → Carried scope c d → (s : State) → is_state m s ≡ true → satisfying m W d f (there s) ≡ satisfying m V c f s
  satisfied (Formula.Truth b) scope h V W VW c d cd s e = refl
  satisfied (Formula.Data x) scope h V W VW c d cd s e =
      let values = values-of spec m.variables s e in
      let fs = functions-carried m sort M p back permutes elements known.declared.apart known.declared.indices signatures.at_states known.declared.at_states s values in
      ap is_true (term-moved spec sort M p back permutes elements signatures.at_states (functions_at m s) (functions_at m (there s)) fs scope Plain x h c d cd).0
  satisfied (Formula.Named X) scope h V W VW c d cd s e = VW X s e
  satisfied (Formula.Not f) scope h V W VW c d cd s e = ap not (satisfied f scope h V W VW c d cd s e)
  satisfied (Formula.And f g) scope h V W VW c d cd s e =
      two (λ x y. x && y) _ _ _ _ (satisfied f scope h.0 V W VW c d cd s e) (satisfied g scope h.1 V W VW c d cd s e)
  satisfied (Formula.Or f g) scope h V W VW c d cd s e =
      two (λ x y. x || y) _ _ _ _ (satisfied f scope h.0 V W VW c d cd s e) (satisfied g scope h.1 V W VW c d cd s e)
  satisfied (Formula.Implies f g) scope h V W VW c d cd s e =
      two (λ x y. not x || y) _ _ _ _ (satisfied f scope h.0 V W VW c d cd s e) (satisfied g scope h.1 V W VW c d cd s e)
  satisfied (Formula.Box A f) scope h V W VW c d cd s e =
      successors-moved Forall (holds_at m f (satisfying m V c f)) (holds_at m f (satisfying m W d f))
      (held-there f (satisfying m V c f) (satisfying m W d f) (satisfied f scope h.1 V W VW c d cd)) scope c d cd A h.0 s (values-of spec m.variables s e)
  satisfied (Formula.Diamond A f) scope h V W VW c d cd s e =
      successors-moved Exists (holds_at m f (satisfying m V c f)) (holds_at m f (satisfying m W d f))
      (held-there f (satisfying m V c f) (satisfying m W d f) (satisfied f scope h.1 V W VW c d cd)) scope c d cd A h.0 s (values-of spec m.variables s e)
  satisfied (Formula.Fixpoint sign X f) scope h V W VW c d cd s e =
      iterate-follows (λ S. satisfying m (with_set V X S) c f) (λ T. satisfying m (with_set W X T) d f)
      (λ S T ST. satisfied f scope h (with_set V X S) (with_set W X T) (with-follows V W VW X S T ST) c d cd)
      (state_count m) (start sign) (start sign) (start-follows sign) s e
  satisfied (Formula.Quantified q xs f) scope h V W VW c d cd s e =
      quantified-moved spec sort M p back permutes elements q xs scope (λ a. satisfying m V a f s) (λ b. satisfying m W b f (there s))
      (λ a b ab. satisfied f (extended xs scope) h V W VW a b ab s e) c d cd

pub successors-permuted : SuccessorsArePermuted
successors-permuted m sort M signatures known p back permutes scope c d cd A hA s e S b =
    let values = values-of (data_of m) m.variables s e in
    let at = λ (r : State) (shape : HasShape (data_of m) m.variables r).
    ap (λ t. if t then S (permuted (data_of m) sort p back m.variables r) else b) (state-there m sort M signatures known p back permutes r shape) in (
      successors-moved m sort M signatures known p back permutes Forall (seen m (λ r. S (permuted (data_of m) sort p back m.variables r)) b) (seen m S b) at scope c d cd A hA s values,
      successors-moved m sort M signatures known p back permutes Exists (seen m (λ r. S (permuted (data_of m) sort p back m.variables r)) b) (seen m S b) at scope c d cd A hA s values,
    )

pub states-kept : PermutedStatesAreStates
states-kept m sort M signatures known p back permutes s e =
    state-of (data_of m) m.variables _ (values-permuted (data_of m) sort M p back permutes known.declared.elements m.variables s (values-of (data_of m) m.variables s e))

pub satisfaction-permuted : SatisfactionIsPermuted
satisfaction-permuted m sort M signatures known p back permutes f scope h V W VW c d cd s e =
    satisfied m sort M signatures known p back permutes f scope h V W VW c d cd s e

pub permutations-undone : PermutationsAreUndone
permutations-undone m sort M signatures known p back permutes s e =
    undone (data_of m) sort M p back permutes known.declared.elements m.variables s (shape-by (data_of m) m.variables s e)

pub ranges-kept : RangesArePermuted
ranges-kept m sort M signatures known p back permutes s e =
    state-kept (data_of m) sort M p back permutes known.declared.elements m refl s (shape-by (data_of m) m.variables s e)
