-- A flat model means as a protocol what it means.
use Rattle.std.proofs.Common.{◌≡◌, ℕ, zero, suc, Bool, true, false, true≢false, not, ◌&&◌, ◌||◌, cond, if◌then◌else◌, List, [], ◌∷◌, ◌++◌, map, flat_map, drop, refl, sym, ap, ◌∙◌, subst}
use Rattle.std.specs.Prelude.{filter, neg_ℤ, pos, Option, Some, None}
use Rattle.std.specs.List.{list_any, list_all}
use Rattle.std.proofs.Math.Path.{fun_ext}
use Rattle.pb_fixpoint.specs.Solution.{iterate, start}
use Rattle.pb_base_values.specs.Carrier.{Value, Carrier, Tuple, of_bool, is_within, contains, tuple_count, tuples}
use Rattle.pb_text_tree.specs.declared.operator.Quantifier.{Quantifier}
use Rattle.pb_text_meaning.specs.Syntax.{Name, same_name, Variable, Term, Terms, Spec}
use Rattle.pb_text_meaning.specs.Sorts.{carrier_of}
use Rattle.pb_text_meaning.specs.Formula.{carriers_of}
use Rattle.pb_text_meaning.specs.Value as data_value
use Rattle.pb_text_meaning.specs.Value.{looked_up, quantified, is_true, binary, function_value, named_value, value, values}
use Rattle.pb_text_meaning.specs.Meaning.{assigned}
use Rattle.pb_model_meaning.specs.Syntax as flat
use Rattle.pb_model_meaning.specs.Steps.{State}
use Rattle.pb_model_meaning.specs.Steps as flat_steps
use Rattle.pb_model_meaning.specs.Satisfaction.{States, Valuation, with_set, no_sets}
use Rattle.pb_model_meaning.specs.Satisfaction as flat_satisfaction
use Rattle.pb_protocol_folding.specs.Names.{IsNot, AreDistinct, names_of, AssignOnce}
use Rattle.pb_protocol_meaning.specs.Meaning as function
use Rattle.pb_protocol_meaning.specs.Meaning.{Functions, no_functions, named_meaning, applied_meaning, given_arguments, meaning, meanings, count}
use Rattle.pb_protocol_meaning.specs.Steps.{Position, positions_of, state_carriers, is_state, function_at, variables_at, functions_at, value_at, initial_values, initial_state, Update, updates, value_after, state_after, own_values, is_enabled, next_state, has_step, successors_by, successors}
use Rattle.pb_protocol_meaning.specs.Satisfaction.{is_truth, holds_at, satisfying, satisfies}
use Rattle.pb_protocol_unfolding.specs.Plain.{plain_variable, plain_assignment, plain_step, plain_set, plain_formula, plain, AreAsMany, CountsNothing, CountNothing, AssignmentsCountNothing, StepsCountNothing, FormulaCountsNothing, IsPlain}
use Rattle.pb_protocol_unfolding.specs.Plain.{PlainModelsKeepTheirMeaning}
use Rattle.pb_protocol_folding.proofs.FoldedModels.{same-names, none-left}

-- ---- terms

-- bare names are those of an assignment, and no name takes arguments
pub record AreThose (functions : Functions) (a : data_value.Assignment) : Type 0 where
  pub bare : (x : Name) → functions x [] ≡ looked_up a x
  pub applied : (f : Name) (v : Value) (vs : Tuple) → functions f (v ∷ vs) ≡ None

looked_up-both : (c a : data_value.Assignment) (x : Name) → (o : Option Value) → looked_up a x ≡ o →
    (spec : Spec) → named_meaning spec (looked_up c x) o x ≡ named_value spec (looked_up (c ++ a) x) x
looked_up-both [] a x o e spec = by o ∙ ap (λ p. named_value spec p x) (sym e)
  where
    by : (o : Option Value) → named_meaning spec None o x ≡ named_value spec o x
    by o = refl
looked_up-both ((y, v) ∷ c) a x o e spec = by (same_name y x) (looked_up-both c a x o e spec)
  where
    by : (b : Bool) → named_meaning spec (looked_up c x) o x ≡ named_value spec (looked_up (c ++ a) x) x →
        named_meaning spec (if b then Some v else looked_up c x) o x ≡ named_value spec (if b then Some v else looked_up (c ++ a) x) x
    by true h = refl
    by false h = h

module _ (spec : Spec) (functions : Functions) (a : data_value.Assignment) (those : AreThose functions a) where
  none-given : (f : Name) (vs : Tuple) → given_arguments functions f vs ≡ None
  none-given f [] = refl
  none-given f (v ∷ vs) = those.applied f v vs

  quantified-same : (q : Quantifier) (xs : List Variable) (P Q : data_value.Assignment → Bool) → ((c : data_value.Assignment) → P c ≡ Q (c ++ a)) → (c : data_value.Assignment) →
      quantified spec q xs P c ≡ quantified spec q xs Q (c ++ a)
  quantified-same q [] P Q h c = h c
  quantified-same q (x ∷ xs) P Q h c =
      ap (λ (p : Value → Bool). data_value.of_values q p (carrier_of spec x.sort)) (fun_ext (λ v. quantified-same q xs P Q h ((x.name, v) ∷ c)))

  mutual
    -- where nothing is counted
    pub meaning-same : (x : Term) → CountsNothing x → (c : data_value.Assignment) → meaning spec functions c x ≡ value spec (c ++ a) x
    meaning-same (Term.Truth b) none c = refl
    meaning-same (Term.Number n) none c = refl
    meaning-same (Term.Named x) none c = looked_up-both c a x (functions x []) (sym (those.bare x)) spec
    meaning-same (Term.Not x) none c = ap (λ v. of_bool (not (is_true v))) (meaning-same x none c)
    meaning-same (Term.Negative x) none c = ap neg_ℤ (meaning-same x none c)
    meaning-same (Term.Binary o x y) none c =
        ap (λ v. binary o v (meaning spec functions c y)) (meaning-same x none.0 c) ∙ ap (binary o (value spec (c ++ a) x)) (meaning-same y none.1 c)
    meaning-same (Term.Apply f xs) none c =
        ap (λ b. if b then pos (count spec functions c xs) else applied_meaning spec (given_arguments functions f (meanings spec functions c xs)) f (meanings spec functions c xs)) none.0 ∙
        (ap (λ o. applied_meaning spec o f (meanings spec functions c xs)) (none-given f (meanings spec functions c xs)) ∙
        ap (function_value spec f) (meanings-same xs none.1 c))
    meaning-same (Term.Quantified q xs x) none c =
        ap of_bool (quantified-same q xs (λ b. is_true (meaning spec functions b x)) (λ b. is_true (value spec b x)) (λ b. ap is_true (meaning-same x none b)) c)

    pub meanings-same : (xs : Terms) → CountNothing xs → (c : data_value.Assignment) → meanings spec functions c xs ≡ values spec (c ++ a) xs
    meanings-same Terms.NoTerms none c = refl
    meanings-same (Terms.Then x xs) none c =
        ap (λ v. v ∷ meanings spec functions c xs) (meaning-same x none.0 c) ∙ ap (λ vs. value spec (c ++ a) x ∷ vs) (meanings-same xs none.1 c)

no-names : AreThose no_functions []
no-names = record { bare = λ x. refl; applied = λ f v vs. refl }

-- ---- states

-- a value for each variable
abbrev AreValues : List Variable → State → Type 0
AreValues [] s = Unit {0}
AreValues (x ∷ xs) [] = ⊥
AreValues (x ∷ xs) (v ∷ s) = AreValues xs s

-- what is found first, else what was there
abbrev found_first : Option Value → Option Value → Option Value
found_first (Some v) o = Some v
found_first None o = o

-- no variable has this name
not-found : (spec : Spec) (xs : List Variable) (s : State) (x : Name) (index : Tuple) → IsNot x (names_of xs) → variables_at spec (map plain_variable xs) s x index ≡ None
not-found spec [] s x index new = refl
not-found spec (y ∷ xs) s x index new =
    ap (λ b. if b && function.are_as_many [] index then Some (function_at spec (plain_variable y) s index) else variables_at spec (map plain_variable xs) (drop 1 s) x index) new.0 ∙
    not-found spec xs (drop 1 s) x index new.1

variables-found : (spec : Spec) (xs : List Variable) (s : State) (a : data_value.Assignment) → AreDistinct (names_of xs) → AreValues xs s → (x : Name) →
    looked_up (assigned xs s a) x ≡ found_first (variables_at spec (map plain_variable xs) s x []) (looked_up a x)
variables-found spec [] s a apart full x = refl
variables-found spec (y ∷ xs) [] a apart full x = absurd full
variables-found spec (y ∷ xs) (v ∷ s) a apart full x =
    variables-found spec xs s ((y.name, v) ∷ a) apart.1 full x ∙ by (same_name y.name x) refl
  where
    by : (b : Bool) → same_name y.name x ≡ b →
        found_first (variables_at spec (map plain_variable xs) s x []) (if b then Some v else looked_up a x)
        ≡ found_first (if b && true then Some v else variables_at spec (map plain_variable xs) s x []) (looked_up a x)
    by false e = refl
    by true e =
        ap (λ o. found_first o (Some v))
        (subst (λ z. variables_at spec (map plain_variable xs) s z [] ≡ None) (same-names y.name x e) (not-found spec xs s y.name [] apart.0))

none-applied : (spec : Spec) (xs : List Variable) (s : State) (f : Name) (v : Value) (vs : Tuple) → variables_at spec (map plain_variable xs) s f (v ∷ vs) ≡ None
none-applied spec [] s f v vs = refl
none-applied spec (y ∷ xs) s f v vs = by (same_name y.name f) (none-applied spec xs (drop 1 s) f v vs)
  where
    by : (b : Bool) → variables_at spec (map plain_variable xs) (drop 1 s) f (v ∷ vs) ≡ None →
        (if b && false then Some (function_at spec (plain_variable y) s (v ∷ vs)) else variables_at spec (map plain_variable xs) (drop 1 s) f (v ∷ vs)) ≡ None
    by true h = h
    by false h = h

own-same : (xs : List Variable) (vs : Tuple) (a b : data_value.Assignment) → assigned xs vs a ++ b ≡ assigned xs vs (a ++ b)
own-same [] vs a b = refl
own-same (x ∷ xs) [] a b = refl
own-same (x ∷ xs) (v ∷ vs) a b = own-same xs vs ((x.name, v) ∷ a) b

-- each variable has one position
abbrev position : Variable → Position
position x = record { variable = x.name; index = []; sort = x.sort }

plain-positions : (spec : Spec) (xs : List Variable) → flat_map (positions_of spec) (map plain_variable xs) ≡ map position xs
plain-positions spec [] = refl
plain-positions spec (x ∷ xs) = ap (λ ps. position x ∷ ps) (plain-positions spec xs)

positions-carriers : (spec : Spec) (xs : List Variable) → map (λ (p : Position). carrier_of spec p.sort) (map position xs) ≡ carriers_of spec xs
positions-carriers spec [] = refl
positions-carriers spec (x ∷ xs) = ap (λ cs. carrier_of spec x.sort ∷ cs) (positions-carriers spec xs)

within-values : (spec : Spec) (xs : List Variable) (s : State) → is_within (carriers_of spec xs) s ≡ true → AreValues xs s
within-values spec [] s h = tt
within-values spec (x ∷ xs) [] h = true≢false (sym h)
within-values spec (x ∷ xs) (v ∷ s) h = within-values spec xs s (by (contains (carrier_of spec x.sort) v) h)
  where
    by : (b : Bool) → (b && is_within (carriers_of spec xs) s) ≡ true → is_within (carriers_of spec xs) s ≡ true
    by true h = h
    by false h = absurd (true≢false (sym h))

-- ---- what is assigned

module _ (spec : Spec) (functions : Functions) (c : data_value.Assignment) where
  -- what plain assignments do, one each
  abbrev done : List flat.Assignment → List Update
  done list = updates spec functions c (map plain_assignment list)

  unassigned : (list : List flat.Assignment) (x : Name) (v : Value) → IsNot x (map (λ (b : flat.Assignment). b.variable) list) → value_after (done list) x [] v ≡ v
  unassigned [] x v new = refl
  unassigned (a ∷ list) x v new =
      ap (λ b. value_after (done list) x [] (if b && true then meaning spec functions c a.term else v)) new.0 ∙ unassigned list x v new.1

  after-same : (list : List flat.Assignment) (x : Name) (v : Value) → AreDistinct (map (λ (b : flat.Assignment). b.variable) list) →
      value_after (done list) x [] v ≡ flat_steps.value_after (meaning spec functions c) (flat_steps.assigned_term list x) v
  after-same [] x v apart = refl
  after-same (a ∷ list) x v apart = by (same_name a.variable x) refl (after-same list x v apart.1)
    where
      by : (b : Bool) → same_name a.variable x ≡ b → value_after (done list) x [] v ≡ flat_steps.value_after (meaning spec functions c) (flat_steps.assigned_term list x) v →
          value_after (done list) x [] (if b && true then meaning spec functions c a.term else v)
          ≡ flat_steps.value_after (meaning spec functions c) (if b then Some a.term else flat_steps.assigned_term list x) v
      by true h others = unassigned list x (meaning spec functions c a.term) (subst (λ y. IsNot y (map (λ (b : flat.Assignment). b.variable) list)) (same-names a.variable x h) apart.0)
      by false h others = others

  -- of what is assigned the terms have the same values
  term-same : (h : Term → Value) → ((x : Term) → CountsNothing x → meaning spec functions c x ≡ h x) → (list : List flat.Assignment) → AssignmentsCountNothing list → (x : Name) (v : Value) →
      flat_steps.value_after (meaning spec functions c) (flat_steps.assigned_term list x) v ≡ flat_steps.value_after h (flat_steps.assigned_term list x) v
  term-same h same [] none x v = refl
  term-same h same (a ∷ list) none x v = by (same_name a.variable x) (term-same h same list none.1 x v)
    where
      by : (b : Bool) → flat_steps.value_after (meaning spec functions c) (flat_steps.assigned_term list x) v ≡ flat_steps.value_after h (flat_steps.assigned_term list x) v →
          flat_steps.value_after (meaning spec functions c) (if b then Some a.term else flat_steps.assigned_term list x) v
          ≡ flat_steps.value_after h (if b then Some a.term else flat_steps.assigned_term list x) v
      by true others = same a.term none.0
      by false others = others

  after-each : (h : Term → Value) → ((x : Term) → CountsNothing x → meaning spec functions c x ≡ h x) → (list : List flat.Assignment) → AssignmentsCountNothing list →
      AreDistinct (map (λ (b : flat.Assignment). b.variable) list) → (xs : List Variable) (vs : State) →
      state_after (done list) (map position xs) vs ≡ flat_steps.state_after h list xs vs
  after-each h same list none apart [] vs = refl
  after-each h same list none apart (x ∷ xs) [] = refl
  after-each h same list none apart (x ∷ xs) (v ∷ vs) =
      ap (λ u. u ∷ state_after (done list) (map position xs) vs) (after-same list x.name v apart ∙ term-same h same list none x.name v) ∙
      ap (λ us. flat_steps.value_after h (flat_steps.assigned_term list x.name) v ∷ us) (after-each h same list none apart xs vs)

initial-same : (spec : Spec) (xs : List Variable) (ts : Terms) → AreAsMany xs ts → CountNothing ts → initial_values spec no_functions (map plain_variable xs) ts ≡ values spec [] ts
initial-same spec [] Terms.NoTerms h none = refl
initial-same spec [] (Terms.Then t ts) h none = absurd h
initial-same spec (x ∷ xs) Terms.NoTerms h none = absurd h
initial-same spec (x ∷ xs) (Terms.Then t ts) h none =
    ap (λ v. v ∷ initial_values spec no_functions (map plain_variable xs) ts) (meaning-same spec no_functions [] no-names t none.0 []) ∙
    ap (λ vs. value spec [] t ∷ vs) (initial-same spec xs ts h none.1)

-- ---- models

module _ (m : flat.Model) (is-plain : IsPlain m) where
  abbrev spec : Spec
  spec = flat_steps.data_of m

  abbrev state_at : State → data_value.Assignment
  state_at s = assigned m.variables s []

  abbrev IsState : State → Type 0
  IsState s = flat_steps.is_state m s ≡ true

  functions-same : (s : State) → IsState s → AreThose (functions_at (plain m) s) (state_at s)
  functions-same s at = record {
    bare = λ x. sym (variables-found spec m.variables s [] is-plain.variables (within-values spec m.variables s at) x ∙ nothing (variables_at spec (map plain_variable m.variables) s x []));
    applied = λ f v vs. none-applied spec m.variables s f v vs;
  }
    where
      nothing : (o : Option Value) → found_first o None ≡ o
      nothing (Some v) = refl
      nothing None = refl

  value-same : (s : State) → IsState s → (c : data_value.Assignment) (x : Term) → CountsNothing x → value_at (plain m) s c x ≡ value spec (c ++ state_at s) x
  value-same s at c x none = meaning-same spec (functions_at (plain m) s) (state_at s) (functions-same s at) x none c

  value-own : (s : State) → IsState s → (a : flat.Step) (own : Tuple) (x : Term) → CountsNothing x
      → value_at (plain m) s (own_values (plain_step a) own) x ≡ value spec (flat_steps.in_scope m s a own) x
  value-own s at a own x none = value-same s at (own_values (plain_step a) own) x none ∙ ap (λ (b : data_value.Assignment). value spec b x) (own-same a.variables own [] (state_at s))

  next-same : (s : State) → IsState s → (a : flat.Step) → AreDistinct (map (λ (b : flat.Assignment). b.variable) a.assignments) → AssignmentsCountNothing a.assignments → (own : Tuple) →
      next_state (plain m) s (plain_step a) own ≡ flat_steps.next_state m s a own
  next-same s at a apart none own =
      let c = own_values (plain_step a) own in
      ap (λ (ps : List Position). state_after (updates spec (functions_at (plain m) s) c (map plain_assignment a.assignments)) ps s) (plain-positions spec m.variables) ∙
      after-each spec (functions_at (plain m) s) c (value spec (flat_steps.in_scope m s a own)) (value-own s at a own) a.assignments none apart m.variables s

  -- ---- sets of steps

  set-same : (A : flat.StepSet) (x : Name) (own : Tuple) → has_step (plain m) [] (plain_set A) x own ≡ flat_steps.has_step A x
  set-same flat.StepSet.All x own = refl
  set-same (flat.StepSet.Only y) x own = refl
  set-same (flat.StepSet.Complement A) x own = ap not (set-same A x own)
  set-same (flat.StepSet.Union A B) x own =
      ap (λ b. b || has_step (plain m) [] (plain_set B) x own) (set-same A x own) ∙ ap (λ b. flat_steps.has_step A x || b) (set-same B x own)

  by-same : (A : flat.StepSet) (s : State) → IsState s → (steps : List flat.Step) → AssignOnce steps → StepsCountNothing steps →
      flat_map (successors_by (plain m) [] (plain_set A) s) (map plain_step steps)
      ≡ flat_map (flat_steps.successors_by m s) (filter (λ (a : flat.Step). flat_steps.has_step A a.name) steps)
  by-same A s at [] once none = refl
  by-same A s at (a ∷ steps) once none =
      let all = tuples (carriers_of spec a.variables) in
      let rest = flat_map (successors_by (plain m) [] (plain_set A) s) (map plain_step steps) in
      ap (λ (p : Tuple → Bool). map (next_state (plain m) s (plain_step a)) (filter p all) ++ rest)
      (fun_ext (λ own. ap (λ b. b && is_enabled (plain m) s (plain_step a) own) (set-same A a.name own) ∙
      ap (λ v. flat_steps.has_step A a.name && is_true v) (value-own s at a own a.guard none.0.0))) ∙
      (ap (λ (f : Tuple → State). map f (filter (λ own. flat_steps.has_step A a.name && flat_steps.is_enabled m s a own) all) ++ rest) (fun_ext (next-same s at a once.0 none.0.1)) ∙
      by (flat_steps.has_step A a.name) (by-same A s at steps once.1 none.1))
    where
      by : (b : Bool) →
          flat_map (successors_by (plain m) [] (plain_set A) s) (map plain_step steps) ≡ flat_map (flat_steps.successors_by m s) (filter (λ (a : flat.Step). flat_steps.has_step A a.name) steps) →
          map (flat_steps.next_state m s a) (filter (λ own. b && flat_steps.is_enabled m s a own) (tuples (carriers_of spec a.variables)))
          ++ flat_map (successors_by (plain m) [] (plain_set A) s) (map plain_step steps)
          ≡ flat_map (flat_steps.successors_by m s) (cond b (a ∷ filter (λ (a : flat.Step). flat_steps.has_step A a.name) steps) (filter (λ (a : flat.Step). flat_steps.has_step A a.name) steps))
      by true e = ap (λ l. flat_steps.successors_by m s a ++ l) e
      by false e =
          ap (λ (ts : List Tuple). map (flat_steps.next_state m s a) ts ++ flat_map (successors_by (plain m) [] (plain_set A) s) (map plain_step steps))
          (none-left (tuples (carriers_of spec a.variables))) ∙ e

  successors-same : (A : flat.StepSet) (s : State) → IsState s → successors (plain m) [] (plain_set A) s ≡ flat_steps.successors m A s
  successors-same A s at = by-same A s at m.steps is-plain.assignments is-plain.steps_count_nothing

  -- ---- formulas

  carriers-same : state_carriers (plain m) ≡ flat_steps.state_carriers m
  carriers-same = ap (map (λ (p : Position). carrier_of spec p.sort)) (plain-positions spec m.variables) ∙ positions-carriers spec m.variables

  states-same : (s : State) → is_state (plain m) s ≡ flat_steps.is_state m s
  states-same s = ap (λ (cs : List Carrier). is_within cs s) carriers-same

  -- two sets have the same states
  abbrev Agree : States → States → Type 0
  Agree S T = (s : State) → IsState s → S s ≡ T s

  iterated : (n : ℕ) (g h : States → States) → ((S T : States) → Agree S T → Agree (g S) (h T)) → (S T : States) → Agree S T → Agree (iterate n g S) (iterate n h T)
  iterated zero g h same S T agree = agree
  iterated (suc n) g h same S T agree = same (iterate n g S) (iterate n h T) (iterated n g h same S T agree)

  truth-same : (f : flat.Formula) → is_truth (plain_formula f) ≡ flat_satisfaction.is_truth f
  truth-same (flat.Formula.Truth b) = refl
  truth-same (flat.Formula.Data x) = refl
  truth-same (flat.Formula.Named X) = refl
  truth-same (flat.Formula.Not f) = refl
  truth-same (flat.Formula.And f g) = refl
  truth-same (flat.Formula.Or f g) = refl
  truth-same (flat.Formula.Implies f g) = refl
  truth-same (flat.Formula.Box A f) = refl
  truth-same (flat.Formula.Diamond A f) = refl
  truth-same (flat.Formula.Fixpoint sign X f) = refl

  holds-same : (f : flat.Formula) (S T : States) → Agree S T → (s : State) → holds_at (plain m) (plain_formula f) S s ≡ flat_satisfaction.holds_at m f T s
  holds-same f S T agree s =
      ap (λ b. if b then S s else is_truth (plain_formula f)) (states-same s) ∙ by (flat_steps.is_state m s) refl
    where
      by : (b : Bool) → flat_steps.is_state m s ≡ b → (if b then S s else is_truth (plain_formula f)) ≡ (if b then T s else flat_satisfaction.is_truth f)
      by true e = agree s e
      by false e = truth-same f

  satisfying-same : (f : flat.Formula) → FormulaCountsNothing f → (V W : Valuation) → ((X : Name) → Agree (V X) (W X))
      → Agree (satisfying (plain m) V [] (plain_formula f)) (flat_satisfaction.satisfying m W f)
  satisfying-same (flat.Formula.Truth b) none V W h s at = refl
  satisfying-same (flat.Formula.Data x) none V W h s at = ap is_true (value-same s at [] x none)
  satisfying-same (flat.Formula.Named X) none V W h s at = h X s at
  satisfying-same (flat.Formula.Not f) none V W h s at = ap not (satisfying-same f none V W h s at)
  satisfying-same (flat.Formula.And f g) none V W h s at =
      ap (λ b. b && satisfying (plain m) V [] (plain_formula g) s) (satisfying-same f none.0 V W h s at) ∙ ap (λ b. flat_satisfaction.satisfying m W f s && b) (satisfying-same g none.1 V W h s at)
  satisfying-same (flat.Formula.Or f g) none V W h s at =
      ap (λ b. b || satisfying (plain m) V [] (plain_formula g) s) (satisfying-same f none.0 V W h s at) ∙ ap (λ b. flat_satisfaction.satisfying m W f s || b) (satisfying-same g none.1 V W h s at)
  satisfying-same (flat.Formula.Implies f g) none V W h s at =
      ap (λ b. not b || satisfying (plain m) V [] (plain_formula g) s) (satisfying-same f none.0 V W h s at)
      ∙ ap (λ b. not (flat_satisfaction.satisfying m W f s) || b) (satisfying-same g none.1 V W h s at)
  satisfying-same (flat.Formula.Box A f) none V W h s at =
      ap (λ (p : State → Bool). list_all p (successors (plain m) [] (plain_set A) s))
      (fun_ext (holds-same f (satisfying (plain m) V [] (plain_formula f)) (flat_satisfaction.satisfying m W f) (satisfying-same f none V W h))) ∙
      ap (list_all (flat_satisfaction.holds_at m f (flat_satisfaction.satisfying m W f))) (successors-same A s at)
  satisfying-same (flat.Formula.Diamond A f) none V W h s at =
      ap (λ (p : State → Bool). list_any p (successors (plain m) [] (plain_set A) s))
      (fun_ext (holds-same f (satisfying (plain m) V [] (plain_formula f)) (flat_satisfaction.satisfying m W f) (satisfying-same f none V W h))) ∙
      ap (list_any (flat_satisfaction.holds_at m f (flat_satisfaction.satisfying m W f))) (successors-same A s at)
  satisfying-same (flat.Formula.Fixpoint sign X f) none V W h s at =
      ap (λ n. iterate n (λ S. satisfying (plain m) (with_set V X S) [] (plain_formula f)) (start sign) s) (ap tuple_count carriers-same) ∙
      iterated (flat_steps.state_count m) (λ S. satisfying (plain m) (with_set V X S) [] (plain_formula f)) (λ S. flat_satisfaction.satisfying m (with_set W X S) f)
      (λ S T agree. satisfying-same f none (with_set V X S) (with_set W X T) (with-sets S T agree)) (start sign) (start sign) (λ t e. refl) s at
    where
      with-sets : (S T : States) → Agree S T → (Y : Name) → Agree (with_set V X S Y) (with_set W X T Y)
      with-sets S T agree Y t e = by (same_name X Y)
        where
          by : (b : Bool) → (if b then S else V Y) t ≡ (if b then T else W Y) t
          by true = agree t e
          by false = h Y t e

  initial-states : initial_state (plain m) ≡ flat_steps.initial_state m
  initial-states = initial-same spec m.variables m.initial is-plain.initial is-plain.initial_counts_nothing

  satisfies-same : (f : flat.Formula) → FormulaCountsNothing f → satisfies (plain m) (plain_formula f) ≡ flat_satisfaction.satisfies m f
  satisfies-same f none =
      ap (λ (s : State). is_state (plain m) s && satisfying (plain m) no_sets [] (plain_formula f) s) initial-states ∙
      (ap (λ b. b && satisfying (plain m) no_sets [] (plain_formula f) (flat_steps.initial_state m)) (states-same (flat_steps.initial_state m)) ∙
      by (flat_steps.is_state m (flat_steps.initial_state m)) refl)
    where
      by : (b : Bool) → flat_steps.is_state m (flat_steps.initial_state m) ≡ b →
          (b && satisfying (plain m) no_sets [] (plain_formula f) (flat_steps.initial_state m)) ≡ (b && flat_satisfaction.satisfying m no_sets f (flat_steps.initial_state m))
      by true e = satisfying-same f none no_sets no_sets (λ X t e. refl) (flat_steps.initial_state m) e
      by false e = refl

pub plain_models_keep_their_meaning : PlainModelsKeepTheirMeaning
plain_models_keep_their_meaning m is-plain = (
  initial-states m is-plain,
  states-same m is-plain,
  successors-same m is-plain,
  satisfies-same m is-plain,
)
