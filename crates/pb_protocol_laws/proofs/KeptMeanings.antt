-- In wider ranges of elements alone, terms have the values and steps lead where they did.
use Rattle.std.proofs.Common.{◌≡◌, ℕ, pos, Bool, true, not, ◌&&◌, ◌||◌, if◌then◌else◌, List, [], ◌∷◌, ◌++◌, map, flat_map, length, drop, Some, None, refl, ap, ◌∙◌}
use Rattle.std.specs.Prelude.{Option, neg_ℤ, filter}
use Rattle.std.specs.Ordering.{int_eq}
use Rattle.std.proofs.Math.Path.{fun_ext}
use Rattle.std.proofs.lemmas.Bool.{and_parts, and_from}
use Rattle.pb_text_tree.specs.declared.operator.Quantifier.{Quantifier}
use Rattle.pb_base_values.specs.Carrier.{Value, Carrier, Tuple, of_bool, contains, is_within, tuples}
use Rattle.pb_text_counting.specs.Counting.{is_counting}
use Rattle.pb_text_meaning.specs.Syntax.{Name, same_name, Variable, Term, Terms, Range, Spec}
use Rattle.pb_text_meaning.specs.declared.function.NamedFunction.{NamedFunction}
use Rattle.pb_text_meaning.specs.Functions.{named_function}
use Rattle.pb_text_meaning.specs.Sorts.{carrier_of}
use Rattle.pb_text_meaning.specs.Formula.{carriers_of}
use Rattle.pb_text_meaning.specs.Meaning.{assigned}
use Rattle.pb_text_meaning.specs.Value.{looked_up, of_values, quantified, is_true, binary, function_of_one, function_value, named_value}
use Rattle.pb_text_meaning.specs.Value as data_value
use Rattle.pb_model_meaning.specs.Steps.{State}
use Rattle.pb_model_wider_ranges.specs.Ranges.{IsContained, AreUnchanged, IsUnchanged, IsEachUnchanged}
use Rattle.pb_protocol_meaning.specs.Syntax.{StateVariable, Definition, Assignment, Step, StepSet, Protocol}
use Rattle.pb_protocol_meaning.specs.Meaning.{Functions, no_functions, named_meaning, applied_meaning, given_arguments, meaning, meanings, count, count_of, for_each, true_count, are_as_many, with_definition, with_definitions, all_inside, value_beside}
use Rattle.pb_protocol_meaning.specs.Steps.{data_of, Position, positions_of, positions, is_state, variables_at, functions_at, value_at, values_at, functions_at_start, initial_values, initial_state}
use Rattle.pb_protocol_meaning.specs.Steps.{Update, update_by, updates_by, updates, state_after, own_values, is_enabled, next_state, fits, has_step, successors_by, successors}
use Rattle.pb_protocol_laws.specs.WiderProtocols.{in_ranges, AreElementsContained, AreDefinitionsUnchanged, AreAssignmentsKept, IsStepKept, AreStepsKept, AreNamedValuesKept, IsSetKept}

module _ (m : Protocol) (ranges : List Range) where
  abbrev pub w : Protocol
  w = in_ranges ranges m

  abbrev pub d : Spec
  d = data_of m

  abbrev pub e : Spec
  e = data_of w

  -- ---- terms

  pub quantified-kept : (q : Quantifier) (xs : List Variable) (p : data_value.Assignment → Bool) → AreUnchanged d e xs → (a : data_value.Assignment)
      → quantified e q xs p a ≡ quantified d q xs p a
  quantified-kept q [] p u a = refl
  quantified-kept q (x ∷ xs) p u a =
      ap (of_values q (λ v. quantified e q xs p ((x.name, v) ∷ a))) u.0
      ∙ ap (λ (g : Value → Bool). of_values q g (carrier_of d x.sort)) (fun_ext (λ v. quantified-kept q xs p u.1 ((x.name, v) ∷ a)))

  carriers-kept : (xs : List Variable) → AreUnchanged d e xs → carriers_of e xs ≡ carriers_of d xs
  carriers-kept [] u = refl
  carriers-kept (x ∷ xs) u = ap (λ c. c ∷ carriers_of e xs) u.0 ∙ ap (λ cs. carrier_of d x.sort ∷ cs) (carriers-kept xs u.1)

  named-kept : (o given : Option Value) (x : Name) → named_meaning e o given x ≡ named_meaning d o given x
  named-kept (Some v) given x = refl
  named-kept None (Some v) x = refl
  named-kept None None x = refl

  function-of-one-kept : (f : Name) (o : Option NamedFunction) (x : Value) → function_of_one e f o x ≡ function_of_one d f o x
  function-of-one-kept f (Some g) x = refl
  function-of-one-kept f None x = refl

  function-kept : (f : Name) (vs : List Value) → function_value e f vs ≡ function_value d f vs
  function-kept f [] = refl
  function-kept f (x ∷ []) = function-of-one-kept f (named_function f) x
  function-kept f (x ∷ y ∷ []) = refl
  function-kept f (x ∷ y ∷ z ∷ []) = refl
  function-kept f (x ∷ y ∷ z ∷ u ∷ vs) = refl

  applied-kept : (o : Option Value) (f : Name) (vs : Tuple) → applied_meaning e o f vs ≡ applied_meaning d o f vs
  applied-kept (Some v) f vs = refl
  applied-kept None f vs = function-kept f vs

  for-each-kept : {A : Type 0} (xs : List Variable) (f : data_value.Assignment → A) → AreUnchanged d e xs → (a : data_value.Assignment) → for_each e xs f a ≡ for_each d xs f a
  for-each-kept [] f u a = refl
  for-each-kept {A} (x ∷ xs) f u a =
      ap (λ (vs : Carrier). flat_map (λ (v : Value). for_each e xs f ((x.name, v) ∷ a)) vs) u.0
      ∙ ap (λ (g : Value → List A). flat_map g (carrier_of d x.sort)) (fun_ext (λ v. for-each-kept xs f u.1 ((x.name, v) ∷ a)))

  mutual
    meaning-kept : (functions : Functions) (x : Term) → IsUnchanged d e x → (c : data_value.Assignment) → meaning e functions c x ≡ meaning d functions c x
    meaning-kept functions (Term.Truth b) u c = refl
    meaning-kept functions (Term.Number n) u c = refl
    meaning-kept functions (Term.Named x) u c = named-kept (looked_up c x) (functions x []) x
    meaning-kept functions (Term.Not x) u c = ap (λ v. of_bool (not (is_true v))) (meaning-kept functions x u c)
    meaning-kept functions (Term.Negative x) u c = ap neg_ℤ (meaning-kept functions x u c)
    meaning-kept functions (Term.Binary o x y) u c =
        ap (λ v. binary o v (meaning e functions c y)) (meaning-kept functions x u.0 c) ∙ ap (binary o (meaning d functions c x)) (meaning-kept functions y u.1 c)
    meaning-kept functions (Term.Apply f xs) u c =
        ap (λ (n : ℕ). if is_counting f then pos n else applied_meaning e (given_arguments functions f (meanings e functions c xs)) f (meanings e functions c xs)) (count-kept functions xs u c)
        ∙ ap (λ (v : Value). if is_counting f then pos (count d functions c xs) else v)
        (ap (λ (vs : Tuple). applied_meaning e (given_arguments functions f vs) f vs) (meanings-kept functions xs u c)
        ∙ applied-kept (given_arguments functions f (meanings d functions c xs)) f (meanings d functions c xs))
    meaning-kept functions (Term.Quantified q xs x) u c =
        ap of_bool (ap (λ (p : data_value.Assignment → Bool). quantified e q xs p c) (fun_ext (λ b. ap is_true (meaning-kept functions x u.1 b)))
        ∙ quantified-kept q xs (λ b. is_true (meaning d functions b x)) u.0 c)

    meanings-kept : (functions : Functions) (xs : Terms) → IsEachUnchanged d e xs → (c : data_value.Assignment) → meanings e functions c xs ≡ meanings d functions c xs
    meanings-kept functions Terms.NoTerms u c = refl
    meanings-kept functions (Terms.Then x xs) u c =
        ap (λ v. v ∷ meanings e functions c xs) (meaning-kept functions x u.0 c) ∙ ap (λ vs. meaning d functions c x ∷ vs) (meanings-kept functions xs u.1 c)

    count-kept : (functions : Functions) (xs : Terms) → IsEachUnchanged d e xs → (c : data_value.Assignment) → count e functions c xs ≡ count d functions c xs
    count-kept functions Terms.NoTerms u c = refl
    count-kept functions (Terms.Then x xs) u c = count-of-kept functions x u.0 c

    count-of-kept : (functions : Functions) (x : Term) → IsUnchanged d e x → (c : data_value.Assignment) → count_of e functions c x ≡ count_of d functions c x
    count-of-kept functions (Term.Quantified q xs x) u c =
        ap true_count (ap (λ (p : data_value.Assignment → Bool). for_each e xs p c) (fun_ext (λ b. ap is_true (meaning-kept functions x u.1 b)))
        ∙ for-each-kept xs (λ b. is_true (meaning d functions b x)) u.0 c)
    count-of-kept functions _ u c = refl

  -- ---- definitions and elements

  definition-kept : (functions : Functions) (x : Definition) → IsUnchanged d e x.term → with_definition e functions x ≡ with_definition d functions x
  definition-kept functions x u =
      fun_ext (λ y. fun_ext (λ vs. ap (λ v. if same_name x.name y && are_as_many x.parameters vs then Some v else functions y vs)
      (meaning-kept functions x.term u (assigned x.parameters vs []))))

  definitions-kept : (functions : Functions) (xs : List Definition) → AreDefinitionsUnchanged d e xs → with_definitions e functions xs ≡ with_definitions d functions xs
  definitions-kept functions [] u = refl
  definitions-kept functions (x ∷ xs) u =
      ap (λ (g : Functions). with_definitions e g xs) (definition-kept functions x u.0) ∙ definitions-kept (with_definition d functions x) xs u.1

  elements-kept : (ys : List StateVariable) (s : State) → AreElementsContained d e ys → variables_at e ys s ≡ variables_at d ys s
  elements-kept [] s u = refl
  elements-kept (y ∷ ys) s u =
      let cs : List Carrier = carriers_of d y.indices in
      let others : variables_at e ys ≡ variables_at d ys = fun_ext (λ t. elements-kept ys t u.2) in
      fun_ext (λ x. fun_ext (λ index.
      ap (λ (bs : List Carrier). if same_name y.name x && are_as_many y.indices index then Some (value_beside (tuples bs) s (all_inside bs index))
      else variables_at e ys (drop (length (tuples bs)) s) x index) (carriers-kept y.indices u.0)
      ∙ ap (λ (g : State → Functions). if same_name y.name x && are_as_many y.indices index then Some (value_beside (tuples cs) s (all_inside cs index))
      else g (drop (length (tuples cs)) s) x index) others))

  positions-kept : (ys : List StateVariable) → AreElementsContained d e ys → flat_map (positions_of e) ys ≡ flat_map (positions_of d) ys
  positions-kept [] u = refl
  positions-kept (y ∷ ys) u =
      ap (λ (cs : List Carrier). map (λ (index : Tuple). record { variable = y.name; index = index; sort = y.sort }) (tuples cs) ++ flat_map (positions_of e) ys) (carriers-kept y.indices u.0)
      ∙ ap (λ (ps : List Position). positions_of d y ++ ps) (positions-kept ys u.2)

  -- each position has the values that it had
  abbrev AreWider : List Position → Type 0
  AreWider [] = Unit {0}
  AreWider (p ∷ ps) = IsContained (carrier_of d p.sort) (carrier_of e p.sort) × AreWider ps

  array-wider : (y : StateVariable) → IsContained (carrier_of d y.sort) (carrier_of e y.sort) → (is : List Tuple) (ps : List Position) → AreWider ps
      → AreWider (map (λ (index : Tuple). record { variable = y.name; index = index; sort = y.sort }) is ++ ps)
  array-wider y u [] ps h = h
  array-wider y u (i ∷ is) ps h = (u, array-wider y u is ps h)

  positions-wider : (ys : List StateVariable) → AreElementsContained d e ys → AreWider (flat_map (positions_of d) ys)
  positions-wider [] u = tt
  positions-wider (y ∷ ys) u = array-wider y u.1 (tuples (carriers_of d y.indices)) (flat_map (positions_of d) ys) (positions-wider ys u.2)

  within-wider : (ps : List Position) → AreWider ps → (s : State) → is_within (map (λ (p : Position). carrier_of d p.sort) ps) s ≡ true
      → is_within (map (λ (p : Position). carrier_of e p.sort) ps) s ≡ true
  within-wider [] h [] k = k
  within-wider [] h (v ∷ s) k = k
  within-wider (p ∷ ps) h [] k = k
  within-wider (p ∷ ps) h (v ∷ s) k =
      let parts = and_parts (contains (carrier_of d p.sort) v) (is_within (map (λ (q : Position). carrier_of d q.sort) ps) s) k in
      and_from (contains (carrier_of e p.sort) v) (is_within (map (λ (q : Position). carrier_of e q.sort) ps) s) (h.0 v parts.0) (within-wider ps h.1 s parts.1)

  pub states-wider : AreElementsContained d e m.variables → (s : State) → is_state m s ≡ true → is_state w s ≡ true
  states-wider u s k =
      ap (λ (ps : List Position). is_within (map (λ (p : Position). carrier_of e p.sort) ps) s) (positions-kept m.variables u)
      ∙ within-wider (positions m) (positions-wider m.variables u) s k

  initial-kept : (functions : Functions) (ys : List StateVariable) (xs : Terms) → AreElementsContained d e ys → IsEachUnchanged d e xs
      → initial_values e functions ys xs ≡ initial_values d functions ys xs
  initial-kept functions [] xs u v = refl
  initial-kept functions (y ∷ ys) Terms.NoTerms u v = refl
  initial-kept functions (y ∷ ys) (Terms.Then x xs) u v =
      ap (λ (cs : List Carrier). map (λ (index : Tuple). meaning e functions (assigned y.indices index []) x) (tuples cs) ++ initial_values e functions ys xs) (carriers-kept y.indices u.0)
      ∙ ap (λ (g : Tuple → Value). map g (tuples (carriers_of d y.indices)) ++ initial_values e functions ys xs) (fun_ext (λ index. meaning-kept functions x v.0 (assigned y.indices index [])))
      ∙ ap (λ (s : State). map (λ (index : Tuple). meaning d functions (assigned y.indices index []) x) (tuples (carriers_of d y.indices)) ++ s) (initial-kept functions ys xs u.2 v.1)

  -- where there is no state
  start-kept : AreDefinitionsUnchanged d e m.definitions → functions_at_start w ≡ functions_at_start m
  start-kept u = definitions-kept no_functions m.definitions u

  pub begins-kept : AreElementsContained d e m.variables → AreDefinitionsUnchanged d e m.definitions → IsEachUnchanged d e m.initial → initial_state w ≡ initial_state m
  begins-kept u definitions v =
      ap (λ (g : Functions). initial_values e g m.variables m.initial) (start-kept definitions) ∙ initial-kept (functions_at_start m) m.variables m.initial u v

  -- ---- at a state

  module _ (variables : AreElementsContained d e m.variables) (definitions : AreDefinitionsUnchanged d e m.definitions) where
    functions-kept : (s : State) → functions_at w s ≡ functions_at m s
    functions-kept s =
        ap (λ (g : Functions). with_definitions e g m.definitions) (elements-kept m.variables s variables) ∙ definitions-kept (variables_at d m.variables s) m.definitions definitions

    pub value-kept : (s : State) (c : data_value.Assignment) (x : Term) → IsUnchanged d e x → value_at w s c x ≡ value_at m s c x
    value-kept s c x u = ap (λ (g : Functions). meaning e g c x) (functions-kept s) ∙ meaning-kept (functions_at m s) x u c

    values-kept : (s : State) (c : data_value.Assignment) (xs : Terms) → IsEachUnchanged d e xs → values_at w s c xs ≡ values_at m s c xs
    values-kept s c xs u = ap (λ (g : Functions). meanings e g c xs) (functions-kept s) ∙ meanings-kept (functions_at m s) xs u c

    update-kept : (s : State) (a : Assignment) → IsEachUnchanged d e a.index → IsUnchanged d e a.term → (c : data_value.Assignment)
        → update_by e (functions_at w s) a c ≡ update_by d (functions_at m s) a c
    update-kept s a u v c =
        ap (λ (index : Tuple). let x : Update = record { variable = a.variable; index = index; value = value_at w s c a.term } in x) (values-kept s c a.index u)
        ∙ ap (λ (t : Value). let x : Update = record { variable = a.variable; index = values_at m s c a.index; value = t } in x) (value-kept s c a.term v)

    updates-kept : (s : State) (c : data_value.Assignment) (list : List Assignment) → AreAssignmentsKept d e list
        → updates e (functions_at w s) c list ≡ updates d (functions_at m s) c list
    updates-kept s c [] u = refl
    updates-kept s c (a ∷ list) u =
        ap (λ (us : List Update). us ++ updates e (functions_at w s) c list)
        (for-each-kept a.variables (update_by e (functions_at w s) a) u.0 c
        ∙ ap (λ (g : data_value.Assignment → Update). for_each d a.variables g c) (fun_ext (update-kept s a u.1 u.2)))
        ∙ ap (λ (us : List Update). updates_by d (functions_at m s) c a ++ us) (updates-kept s c list u.3)

    next-kept : (s : State) (a : Step) → IsStepKept d e a → (own : Tuple) → next_state w s a own ≡ next_state m s a own
    next-kept s a u own =
        ap (λ (ps : List Position). state_after (updates e (functions_at w s) (own_values a own) a.assignments) ps s) (positions-kept m.variables variables)
        ∙ ap (λ (us : List Update). state_after us (positions m) s) (updates-kept s (own_values a own) a.assignments u.assignments)

    -- ---- sets of steps

    fits-kept : (c : data_value.Assignment) (xs : List (Option Term)) → AreNamedValuesKept d e xs → (own : Tuple) → fits w c xs own ≡ fits m c xs own
    fits-kept c [] u [] = refl
    fits-kept c [] u (v ∷ own) = refl
    fits-kept c (Some x ∷ xs) u [] = refl
    fits-kept c (None ∷ xs) u [] = refl
    fits-kept c (Some x ∷ xs) u (v ∷ own) =
        ap (λ y. int_eq y v && fits w c xs own) (ap (λ (g : Functions). meaning e g c x) (start-kept definitions) ∙ meaning-kept (functions_at_start m) x u.0 c)
        ∙ ap (λ b. int_eq (meaning d (functions_at_start m) c x) v && b) (fits-kept c xs u.1 own)
    fits-kept c (None ∷ xs) u (v ∷ own) = fits-kept c xs u own

    set-kept : (c : data_value.Assignment) (A : StepSet) → IsSetKept d e A → (x : Name) (own : Tuple) → has_step w c A x own ≡ has_step m c A x own
    set-kept c StepSet.All u x own = refl
    set-kept c (StepSet.Only y) u x own = refl
    set-kept c (StepSet.With y xs) u x own = ap (λ b. same_name y x && b) (fits-kept c xs u own)
    set-kept c (StepSet.Complement A) u x own = ap not (set-kept c A u x own)
    set-kept c (StepSet.Union A B) u x own = ap (λ b. b || has_step w c B x own) (set-kept c A u.0 x own) ∙ ap (λ b. has_step m c A x own || b) (set-kept c B u.1 x own)

    by-kept : (c : data_value.Assignment) (A : StepSet) → IsSetKept d e A → (s : State) (a : Step) → IsStepKept d e a → successors_by w c A s a ≡ successors_by m c A s a
    by-kept c A k s a u =
        ap (λ (cs : List Carrier). map (next_state w s a) (filter (λ (own : Tuple). has_step w c A a.name own && is_enabled w s a own) (tuples cs))) (carriers-kept a.variables u.variables)
        ∙ ap (λ (p : Tuple → Bool). map (next_state w s a) (filter p (tuples (carriers_of d a.variables))))
        (fun_ext (λ own. ap (λ b. b && is_enabled w s a own) (set-kept c A k a.name own) ∙ ap (λ v. has_step m c A a.name own && is_true v) (value-kept s (own_values a own) a.guard u.guard)))
        ∙ ap (λ (g : Tuple → State). map g (filter (λ (own : Tuple). has_step m c A a.name own && is_enabled m s a own) (tuples (carriers_of d a.variables)))) (fun_ext (next-kept s a u))

    steps-kept : (c : data_value.Assignment) (A : StepSet) → IsSetKept d e A → (s : State) (steps : List Step) → AreStepsKept d e steps
        → flat_map (successors_by w c A s) steps ≡ flat_map (successors_by m c A s) steps
    steps-kept c A k s [] u = refl
    steps-kept c A k s (a ∷ steps) u =
        ap (λ (ts : List State). ts ++ flat_map (successors_by w c A s) steps) (by-kept c A k s a u.0) ∙ ap (λ (ts : List State). successors_by m c A s a ++ ts) (steps-kept c A k s steps u.1)

    pub successors-kept : AreStepsKept d e m.steps → (c : data_value.Assignment) (A : StepSet) → IsSetKept d e A → (s : State) → successors w c A s ≡ successors m c A s
    successors-kept u c A k s = steps-kept c A k s m.steps u
