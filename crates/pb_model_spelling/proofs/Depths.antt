-- What has words can be said: from some depth on, each part of its text.
use Rattle.std.proofs.Common.{◌≤◌, ℕ, zero, suc, ◌+◌, Bool, true, false, ◌||◌, List, [], ◌∷◌, map, Option, Some, None, arith}
use Rattle.pb_text_tree.specs.declared.operator.Connective.TheVariants as connective
use Rattle.pb_text_tree.specs.Form.{Named, VariableForm, TermForm, ArgumentForms, no_arguments, argument, FormulaForm, EnumeratorForm, SortForm, struct, alias, SortDeclarationForm, RangeForm, EquationForm, SpecForm}
use Rattle.pb_text_meaning.specs.Erase.{erased_variables, erased_term, erased_arguments, erased_formula, erased_recogniser, erased_enumerator, erased_sort, erased_declaration, erased_range, erased_equation, erase}
use Rattle.pb_text_printer.specs.declared.level.Level.TheVariants as level
use Rattle.pb_text_printer.specs.Words.{needs_no_brackets, goes_on, formula_needs_no_brackets, connective_level, term_side, formula_side, comparison_side, arithmetic_side}
use Rattle.pb_text_printer.specs.Sayable.{Opens, IsPut, AreNames, AreVariables, IsSayable, MoreSayable, SomeSayable, FormulaSayable, Each, EachOf, RecogniserSayable, EnumeratorSayable, SortSayable, DeclarationSayable, ParametersSayable, EquationSayable, RangeSayable, formula_operators, list_operators}
use Rattle.pb_model_spelling.specs.Writable.{CanBeSaid, VariableWritable, TermWritable, AllWritable, FormulaWritable, RecogniserWritable, EnumeratorWritable, SortWritable, DeclarationWritable, RangeWritable, EquationWritable, SpecWritable}

-- ---- from some number on

record FromOn (P : ℕ → Type 0) : Type 0 where
  from : ℕ
  holds : (d : ℕ) → from ≤ d → P d

always : (P : ℕ → Type 0) → ((d : ℕ) → P d) → FromOn P
always P h = record { from = 0; holds = λ d le. h d }

both : (P Q : ℕ → Type 0) → FromOn P → FromOn Q → FromOn (λ d. P d × Q d)
both P Q p q = record { from = p.from + q.from; holds = λ d le. (p.holds d (omega arith), q.holds d (omega arith)) }

opened : (P : ℕ → Type 0) → FromOn P → FromOn (λ d. Opens d P)
opened P p = record { from = suc p.from; holds = go }
  where
    go : (d : ℕ) → suc p.from ≤ d → Opens d P
    go zero le = absurd (omega arith)
    go (suc d) le = p.holds d (omega arith)

put : (b : Bool) (P : Bool → ℕ → Type 0) → ((ends : Bool) → FromOn (P ends)) → (ends : Bool) → FromOn (IsPut b P ends)
put true P p ends = p ends
put false P p ends = opened (P true) (p true)

-- ---- data terms

are_names : (vs : List VariableForm) → Each VariableWritable (erased_variables vs) → AreNames vs
are_names [] h = tt
are_names (v ∷ vs) h = (h.0.0, h.0.1, are_names vs h.1)

are_variables : (vs : List VariableForm) → EachOf VariableWritable (erased_variables vs) → AreVariables vs
are_variables [] h = absurd h
are_variables (v ∷ vs) h = (h.0.0, h.0.1, are_names vs h.1)

mutual
  term_said : (x : TermForm) → TermWritable (erased_term x) → (ends : Bool) → FromOn (IsSayable x ends)
  term_said (TermForm.constant p value) h ends = always _ (λ d. tt)
  term_said (TermForm.number p n) h ends = always _ (λ d. h)
  term_said (TermForm.name n) h ends = always _ (λ d. h)
  term_said (TermForm.not p x) h ends = opened _ (put (needs_no_brackets x level.Unary false) (IsSayable x) (term_said x h) false)
  term_said (TermForm.negative p x) h ends = opened _ (put (needs_no_brackets x level.Unary false) (IsSayable x) (term_said x h) false)
  term_said (TermForm.connected c p x y) h ends =
      both _ _ (put (needs_no_brackets x (term_side c) false) (IsSayable x) (term_said x h.0) false)
      (put (needs_no_brackets y (connective_level c) ends) (IsSayable y) (term_said y h.1) ends)
  term_said (TermForm.compared c p x y) h ends =
      both _ _ (put (needs_no_brackets x (comparison_side c) false) (IsSayable x) (term_said x h.0) false)
      (put (needs_no_brackets y (comparison_side c) false) (IsSayable y) (term_said y h.1) false)
  term_said (TermForm.computed o p x y) h ends =
      both _ _ (put (goes_on o x || needs_no_brackets x (arithmetic_side o) false) (IsSayable x) (term_said x h.0) false)
      (put (needs_no_brackets y (arithmetic_side o) false) (IsSayable y) (term_said y h.1) false)
  term_said (TermForm.application f no_arguments) h ends = absurd h.1
  term_said (TermForm.application f (argument p x xs)) h ends = both _ _ (always _ (λ d. h.0)) (opened _ (both _ _ (term_said x h.1.0 true) (more_said xs h.1.1)))
  term_said (TermForm.quantified q p vars x) h ends = both _ _ (always _ (λ d. are_variables vars h.0)) (opened _ (term_said x h.1 true))

  more_said : (xs : ArgumentForms) → AllWritable (erased_arguments xs) → FromOn (MoreSayable xs)
  more_said no_arguments h = always _ (λ d. tt)
  more_said (argument p x xs) h = both _ _ (term_said x h.0 true) (more_said xs h.1)

some_said : (xs : ArgumentForms) → AllWritable (erased_arguments xs) → FromOn (SomeSayable xs)
some_said no_arguments h = always _ (λ d. tt)
some_said (argument p x xs) h = opened _ (both _ _ (term_said x h.0 true) (more_said xs h.1))

-- ---- formulas

formula_said : (x : FormulaForm) → FormulaWritable (erased_formula x) → (ends : Bool) → FromOn (FormulaSayable x ends)
formula_said (FormulaForm.constant p value) h ends = always _ (λ d. tt)
formula_said (FormulaForm.val p x) h ends = opened _ (term_said x h true)
formula_said (FormulaForm.instance i) h ends = both _ _ (always _ (λ d. h.0)) (some_said i.arguments h.1)
formula_said (FormulaForm.negation p x) h ends = opened _ (put (formula_needs_no_brackets x level.Unary false) (FormulaSayable x) (formula_said x h) false)
formula_said (FormulaForm.connected connective.And p x y) h ends =
    both _ _ (put (formula_needs_no_brackets x (formula_side connective.And) false) (FormulaSayable x) (formula_said x h.0) false)
    (put (formula_needs_no_brackets y (connective_level connective.And) ends) (FormulaSayable y) (formula_said y h.1) ends)
formula_said (FormulaForm.connected connective.Or p x y) h ends =
    both _ _ (put (formula_needs_no_brackets x (formula_side connective.Or) false) (FormulaSayable x) (formula_said x h.0) false)
    (put (formula_needs_no_brackets y (connective_level connective.Or) ends) (FormulaSayable y) (formula_said y h.1) ends)
formula_said (FormulaForm.connected connective.Implies p x y) h ends =
    both _ _ (put (formula_needs_no_brackets x (formula_side connective.Implies) false) (FormulaSayable x) (formula_said x h.0) false)
    (put (formula_needs_no_brackets y (connective_level connective.Implies) ends) (FormulaSayable y) (formula_said y h.1) ends)
formula_said (FormulaForm.quantified q p vars x) h ends = both _ _ (always _ (λ d. are_variables vars h.0)) (opened _ (formula_said x h.1 true))

-- ---- sorts and ranges

recogniser_said : (r : Option Named) → RecogniserWritable (erased_recogniser r) → RecogniserSayable r
recogniser_said None h = tt
recogniser_said (Some n) h = h

-- of each part, what is said of what is kept of it
each_said : {X Y : Type 0} (f : X → Y) (P : Y → Type 0) (Q : X → Type 0) → ((x : X) → P (f x) → Q x) → (xs : List X) → Each P (map f xs) → Each Q xs
each_said f P Q one [] h = tt
each_said f P Q one (x ∷ xs) h = (one x h.0, each_said f P Q one xs h.1)

enumerator_said : (e : EnumeratorForm) → EnumeratorWritable (erased_enumerator e) → EnumeratorSayable e
enumerator_said e h = (h.0, recogniser_said e.recogniser h.1)

sort_said : (s : SortForm) → SortWritable (erased_sort s) → SortSayable s
sort_said (struct []) h = absurd h
sort_said (struct (e ∷ es)) h = (enumerator_said e h.0, each_said erased_enumerator EnumeratorWritable EnumeratorSayable enumerator_said es h.1)
sort_said (alias n) h = h

sorts_said : (ds : List SortDeclarationForm) → Each DeclarationWritable (map erased_declaration ds) → Each DeclarationSayable ds
sorts_said ds h = each_said erased_declaration DeclarationWritable DeclarationSayable (λ d h. (h.0, sort_said d.sort h.1)) ds h

ranges_said : (rs : List RangeForm) → Each RangeWritable (map erased_range rs) → Each RangeSayable rs
ranges_said rs h = each_said erased_range RangeWritable RangeSayable (λ r h. record { name = h.name; low = h.low; high = h.high; order = h.order }) rs h

-- ---- equations

parameters_said : (vs : List VariableForm) → Each VariableWritable (erased_variables vs) → FromOn (ParametersSayable vs)
parameters_said [] h = always _ (λ d. tt)
parameters_said (v ∷ vs) h = opened _ (always _ (λ d. are_names (v ∷ vs) h))

-- as deep as the deepest part, with as many operators as the longest
record Somewhere (P : ℕ → ℕ → Type 0) : Type 0 where
  depth : ℕ
  limit : ℕ
  holds : (d n : ℕ) → depth ≤ d → limit ≤ n → P d n

joined : (P Q : ℕ → ℕ → Type 0) → Somewhere P → Somewhere Q → Somewhere (λ d n. P d n × Q d n)
joined P Q p q = record {
  depth = p.depth + q.depth;
  limit = p.limit + q.limit;
  holds = λ d n le less. (p.holds d n (omega arith) (omega arith), q.holds d n (omega arith) (omega arith));
}

equation_said : (e : EquationForm) → EquationWritable (erased_equation e) → Somewhere (λ d n. EquationSayable d n e)
equation_said e h =
    let parameters = parameters_said e.parameters h.1 in
    let right = formula_said e.right h.2 true in
    record {
      depth = parameters.from + right.from;
      limit = formula_operators e.right;
      holds = λ d n le less. (h.0, parameters.holds d (omega arith), right.holds d (omega arith), less);
    }

equations_said : (es : List EquationForm) → Each EquationWritable (map erased_equation es) → Somewhere (λ d n. Each (EquationSayable d n) es)
equations_said [] h = record { depth = 0; limit = 0; holds = λ d n le less. tt }
equations_said (e ∷ es) h = joined _ _ (equation_said e h.0) (equations_said es h.1)

some_equations_said : (es : List EquationForm) → EachOf EquationWritable (map erased_equation es) → Somewhere (λ d n. EachOf (EquationSayable d n) es)
some_equations_said [] h = absurd h
some_equations_said (e ∷ es) h = joined _ _ (equation_said e h.0) (equations_said es h.1)

-- ---- whole texts

-- a text that has words can be said within some levels and operators
pub text_said : (x : SpecForm) → SpecWritable (erase x) → CanBeSaid x
text_said x h =
    let equations = some_equations_said x.equations h.equations in
    let initial = some_said x.initial.arguments h.arguments in
    let operators = list_operators x.initial.arguments in (
      equations.depth + initial.from,
      equations.limit + operators,
      record {
        text = record {
          sorts = sorts_said x.sorts h.sorts;
          equations = equations.holds _ _ (omega arith) (omega arith);
          initial = (h.initial, initial.holds _ (omega arith));
          operators = omega arith;
        };
        ranges = ranges_said x.ranges h.ranges;
      },
    )
