-- Terms and formulas: what is well typed has no fault, and what has none is well typed.
use Rattle.std.proofs.Common.{◌≡◌, Bool, true, false, not, ◌&&◌, List, [], ◌∷◌, ◌++◌, length, refl, sym, ◌∙◌, ap, subst, Option, Some, None, eq-eqb, eqb-true, true≢false}
use Rattle.std.proofs.lemmas.Bool.{and_parts}
use Rattle.pb_text_tree.specs.declared.place.Place.{Place}
use Rattle.pb_text_tree.specs.declared.operator.Connective.{Connective}
use Rattle.pb_text_tree.specs.declared.operator.Connective.TheVariants.{And, Or, Implies}
use Rattle.pb_text_tree.specs.declared.operator.Comparison.{Comparison}
use Rattle.pb_text_tree.specs.declared.operator.Comparison.TheVariants as comparison
use Rattle.pb_text_tree.specs.declared.operator.Arithmetic.{Arithmetic}
use Rattle.pb_text_tree.specs.declared.operator.Arithmetic.TheVariants as arithmetic
use Rattle.pb_text_tree.specs.Form.{Named, TermForm, ArgumentForms, no_arguments, argument, InstanceForm, FormulaForm}
use Rattle.pb_text_meaning.specs.Syntax.{Variable, Formula, Equation, Spec}
use Rattle.pb_text_meaning.specs.Names.{is_declared}
use Rattle.pb_text_meaning.specs.Formula.{equation_named}
use Rattle.pb_text_meaning.specs.Erase.{of_connective, of_comparison, of_arithmetic, erased_variables, erased_term, erased_arguments, erased_formula}
use Rattle.pb_typing_declarations.specs.declared.fault.TypingRule.TheVariants as rule
use Rattle.pb_typing_declarations.specs.Faults.{unless}
use Rattle.pb_typing_declarations.specs.Shapes.{Shape}
use Rattle.pb_typing_declarations.specs.WellDeclared.{HaveEnds}
use Rattle.pb_typing_rules.specs.Shapes.{may_be_truth, OperatorKind, kind_of}
use Rattle.pb_typing_rules.specs.Functions.{Function, function_named, arity}
use Rattle.pb_typing_rules.specs.Scope.{Scope, bound, named_shape}
use Rattle.pb_typing_rules.specs.Term.{shape, shapes, passes, IsNamed, IsApplied, IsOperation, IsTyped, AreTyped}
use Rattle.pb_typing_rules.specs.Formula.{count, AreArguments, IsCalled, IsProper}
use Rattle.pb_typing_rules.specs.Faults.{unknown_faults, name_faults, operator_faults, function_faults, term_faults, terms_faults, argument_faults, called_faults, instance_faults, left_parity, formula_faults}
use Rattle.pb_typing_declarations.proofs.Parts.{no_parts, no_whole, holds_unless, unless_holds}
use Rattle.pb_typing_declarations.proofs.ExactParts.{variables, variables_clear}

-- ---- operators

connective_operation : (c : Connective) (s t : Shape) → may_be_truth s ≡ true → may_be_truth t ≡ true → IsOperation (kind_of (of_connective c)) s t
connective_operation And s t e f = (ap (λ b. b && may_be_truth t) e ∙ f, refl, refl)
connective_operation Or s t e f = (ap (λ b. b && may_be_truth t) e ∙ f, refl, refl)
connective_operation Implies s t e f = (ap (λ b. b && may_be_truth t) e ∙ f, refl, refl)

operation_truths : (c : Connective) (s t : Shape) → IsOperation (kind_of (of_connective c)) s t → (may_be_truth s ≡ true) × (may_be_truth t ≡ true)
operation_truths And s t h = and_parts (may_be_truth s) (may_be_truth t) h.0
operation_truths Or s t h = and_parts (may_be_truth s) (may_be_truth t) h.0
operation_truths Implies s t h = and_parts (may_be_truth s) (may_be_truth t) h.0

passes-connective : (c : Connective) (stands : Bool) → passes (kind_of (of_connective c)) stands ≡ stands
passes-connective And stands = refl
passes-connective Or stands = refl
passes-connective Implies stands = refl

passes-comparison : (c : Comparison) (stands : Bool) → passes (kind_of (of_comparison c)) stands ≡ false
passes-comparison comparison.Equal stands = refl
passes-comparison comparison.NotEqual stands = refl
passes-comparison comparison.Less stands = refl
passes-comparison comparison.LessEqual stands = refl
passes-comparison comparison.Greater stands = refl
passes-comparison comparison.GreaterEqual stands = refl

passes-arithmetic : (o : Arithmetic) (stands : Bool) → passes (kind_of (of_arithmetic o)) stands ≡ false
passes-arithmetic arithmetic.Plus stands = refl
passes-arithmetic arithmetic.Minus stands = refl
passes-arithmetic arithmetic.Times stands = refl
passes-arithmetic arithmetic.Div stands = refl
passes-arithmetic arithmetic.Mod stands = refl

operation_of_clear : (o : OperatorKind) (s t : Shape) (p : Place) → operator_faults o s t p ≡ [] → IsOperation o s t
operation_of_clear o s t p e = let q = no_parts _ _ e in let r = no_parts _ _ q.1 in (holds_unless _ _ _ q.0, holds_unless _ _ _ r.0, holds_unless _ _ _ r.1)

operation_clear : (o : OperatorKind) (s t : Shape) (p : Place) → IsOperation o s t → operator_faults o s t p ≡ []
operation_clear o s t p h = no_whole _ _ (unless_holds _ _ _ h.0) (no_whole _ _ (unless_holds _ _ _ h.1) (unless_holds _ _ _ h.2))

-- ---- names

-- a name that stands for nothing is a fault, whether a predicate variable has it or not
unknown_is_fault : (spec : Spec) (x : Named) → unknown_faults spec x ≡ [] → ⊥
unknown_is_fault spec x e = by_test (is_declared spec.equations x.text) e
  where
    by_test : (b : Bool) → unless (not b) rule.PredicateInData x.place ++ unless b rule.UnknownName x.place ≡ [] → ⊥
    by_test true f = cc
    by_test false f = cc

named_of_clear : (spec : Spec) (s : Option Shape) (x : Named) → name_faults spec s x ≡ [] → IsNamed s
named_of_clear spec None x e = unknown_is_fault spec x e
named_of_clear spec (Some s) x e = holds_unless _ _ _ e

name_clear : (spec : Spec) (s : Option Shape) (x : Named) → IsNamed s → name_faults spec s x ≡ []
name_clear spec None x h = absurd h
name_clear spec (Some s) x h = unless_holds _ _ _ h

applied_of_clear : (spec : Spec) (g : Option Function) (ss : List Shape) (f : Named) → function_faults spec g ss f ≡ [] → IsApplied g ss
applied_of_clear spec None ss f e = unknown_is_fault spec f e
applied_of_clear spec (Some g) ss f e =
    let q = no_parts _ _ e in
    let r = no_parts _ _ q.1 in
    (eqb-true (length ss) (arity g) (holds_unless _ _ _ q.0), holds_unless _ _ _ r.0, holds_unless _ _ _ r.1)

applied_clear : (spec : Spec) (g : Option Function) (ss : List Shape) (f : Named) → IsApplied g ss → function_faults spec g ss f ≡ []
applied_clear spec None ss f h = absurd h
applied_clear spec (Some g) ss f h =
    no_whole _ _ (unless_holds _ _ _ (eq-eqb (length ss) (arity g) h.0)) (no_whole _ _ (unless_holds _ _ _ h.1) (unless_holds _ _ _ h.2))

-- ---- terms

typed_at : (spec : Spec) (scope : Scope) (x : TermForm) (a b : Bool) → a ≡ b → IsTyped spec b scope (erased_term x) → IsTyped spec a scope (erased_term x)
typed_at spec scope x a b e h = subst (λ (c : Bool). IsTyped spec c scope (erased_term x)) (sym e) h

typed_from : (spec : Spec) (scope : Scope) (x : TermForm) (a b : Bool) → a ≡ b → IsTyped spec a scope (erased_term x) → IsTyped spec b scope (erased_term x)
typed_from spec scope x a b e h = subst (λ (c : Bool). IsTyped spec c scope (erased_term x)) e h

mutual
  pub typed : (spec : Spec) (ends : HaveEnds spec) (stands : Bool) (scope : Scope) (x : TermForm) → term_faults spec stands scope x ≡ [] → IsTyped spec stands scope (erased_term x)
  typed spec ends stands scope (TermForm.constant p b) e = tt
  typed spec ends stands scope (TermForm.number p n) e = holds_unless _ _ _ e
  typed spec ends stands scope (TermForm.name x) e = named_of_clear spec (named_shape spec scope x.text) x e
  typed spec ends stands scope (TermForm.not p x) e =
      let q = no_parts _ _ e in (typed spec ends stands scope x q.0, holds_unless _ _ _ q.1)
  typed spec ends stands scope (TermForm.negative p x) e =
      let q = no_parts _ _ e in
      let r = no_parts _ _ q.1 in
      (typed spec ends false scope x q.0, holds_unless _ _ _ r.0, holds_unless _ _ _ r.1)
  typed spec ends stands scope (TermForm.connected c p x y) e =
      let q = no_parts _ _ e in
      let r = no_parts _ _ q.1 in
      let u = no_parts _ _ r.1 in (
        typed_at spec scope x (passes (kind_of (of_connective c)) stands) stands (passes-connective c stands) (typed spec ends stands scope x q.0),
        typed_at spec scope y (passes (kind_of (of_connective c)) stands) stands (passes-connective c stands) (typed spec ends stands scope y u.0),
        connective_operation c _ _ (holds_unless _ _ _ r.0) (holds_unless _ _ _ u.1),
      )
  typed spec ends stands scope (TermForm.compared c p x y) e =
      let q = no_parts _ _ e in
      let r = no_parts _ _ q.1 in (
        typed_at spec scope x (passes (kind_of (of_comparison c)) stands) false (passes-comparison c stands) (typed spec ends false scope x q.0),
        typed_at spec scope y (passes (kind_of (of_comparison c)) stands) false (passes-comparison c stands) (typed spec ends false scope y r.0),
        operation_of_clear (kind_of (of_comparison c)) (shape spec scope (erased_term x)) (shape spec scope (erased_term y)) p r.1,
      )
  typed spec ends stands scope (TermForm.computed o p x y) e =
      let q = no_parts _ _ e in
      let r = no_parts _ _ q.1 in (
        typed_at spec scope x (passes (kind_of (of_arithmetic o)) stands) false (passes-arithmetic o stands) (typed spec ends false scope x q.0),
        typed_at spec scope y (passes (kind_of (of_arithmetic o)) stands) false (passes-arithmetic o stands) (typed spec ends false scope y r.0),
        operation_of_clear (kind_of (of_arithmetic o)) (shape spec scope (erased_term x)) (shape spec scope (erased_term y)) p r.1,
      )
  typed spec ends stands scope (TermForm.application f xs) e =
      let q = no_parts _ _ e in
      (all_typed spec ends scope xs q.0, applied_of_clear spec (function_named spec f.text) (shapes spec scope (erased_arguments xs)) f q.1)
  typed spec ends stands scope (TermForm.quantified q p xs x) e =
      let r = no_parts _ _ e in
      let u = no_parts _ _ r.1 in
      let v = no_parts _ _ u.1 in (
        holds_unless _ _ _ r.0,
        variables spec xs ends u.0,
        typed spec ends stands (bound spec (erased_variables xs) scope) x v.0,
        holds_unless _ _ _ v.1,
      )

  pub all_typed : (spec : Spec) (ends : HaveEnds spec) (scope : Scope) (xs : ArgumentForms) → terms_faults spec scope xs ≡ [] → AreTyped spec scope (erased_arguments xs)
  all_typed spec ends scope no_arguments e = tt
  all_typed spec ends scope (argument p x xs) e = let q = no_parts _ _ e in (typed spec ends false scope x q.0, all_typed spec ends scope xs q.1)

mutual
  pub term_clear : (spec : Spec) (stands : Bool) (scope : Scope) (x : TermForm) → IsTyped spec stands scope (erased_term x) → term_faults spec stands scope x ≡ []
  term_clear spec stands scope (TermForm.constant p b) h = refl
  term_clear spec stands scope (TermForm.number p n) h = unless_holds _ _ _ h
  term_clear spec stands scope (TermForm.name x) h = name_clear spec (named_shape spec scope x.text) x h
  term_clear spec stands scope (TermForm.not p x) h = no_whole _ _ (term_clear spec stands scope x h.0) (unless_holds _ _ _ h.1)
  term_clear spec stands scope (TermForm.negative p x) h =
      no_whole _ _ (term_clear spec false scope x h.0) (no_whole _ _ (unless_holds _ _ _ h.1) (unless_holds _ _ _ h.2))
  term_clear spec stands scope (TermForm.connected c p x y) h =
      let truths = operation_truths c _ _ h.2 in
      no_whole _ _ (term_clear spec stands scope x (typed_from spec scope x _ _ (passes-connective c stands) h.0))
      (no_whole _ _ (unless_holds _ _ _ truths.0)
      (no_whole _ _ (term_clear spec stands scope y (typed_from spec scope y _ _ (passes-connective c stands) h.1)) (unless_holds _ _ _ truths.1)))
  term_clear spec stands scope (TermForm.compared c p x y) h =
      no_whole _ _ (term_clear spec false scope x (typed_from spec scope x _ _ (passes-comparison c stands) h.0))
      (no_whole _ _ (term_clear spec false scope y (typed_from spec scope y _ _ (passes-comparison c stands) h.1))
      (operation_clear (kind_of (of_comparison c)) (shape spec scope (erased_term x)) (shape spec scope (erased_term y)) p h.2))
  term_clear spec stands scope (TermForm.computed o p x y) h =
      no_whole _ _ (term_clear spec false scope x (typed_from spec scope x _ _ (passes-arithmetic o stands) h.0))
      (no_whole _ _ (term_clear spec false scope y (typed_from spec scope y _ _ (passes-arithmetic o stands) h.1))
      (operation_clear (kind_of (of_arithmetic o)) (shape spec scope (erased_term x)) (shape spec scope (erased_term y)) p h.2))
  term_clear spec stands scope (TermForm.application f xs) h =
      no_whole _ _ (all_clear spec scope xs h.0) (applied_clear spec (function_named spec f.text) (shapes spec scope (erased_arguments xs)) f h.1)
  term_clear spec stands scope (TermForm.quantified q p xs x) h =
      no_whole _ _ (unless_holds _ _ _ h.0)
      (no_whole _ _ (variables_clear spec xs h.1)
      (no_whole _ _ (term_clear spec stands (bound spec (erased_variables xs) scope) x h.2) (unless_holds _ _ _ h.3)))

  pub all_clear : (spec : Spec) (scope : Scope) (xs : ArgumentForms) → AreTyped spec scope (erased_arguments xs) → terms_faults spec scope xs ≡ []
  all_clear spec scope no_arguments h = refl
  all_clear spec scope (argument p x xs) h = no_whole _ _ (term_clear spec false scope x h.0) (all_clear spec scope xs h.1)

-- ---- formulas

arguments_of_clear : (spec : Spec) (ends : HaveEnds spec) (scope : Scope) (es : ArgumentForms) (xs : List Variable)
    → argument_faults spec scope es xs ≡ [] → AreArguments spec scope (erased_arguments es) xs
arguments_of_clear spec ends scope no_arguments xs e = tt
arguments_of_clear spec ends scope (argument p x es) [] e = let q = no_parts _ _ e in (typed spec ends false scope x q.0, arguments_of_clear spec ends scope es [] q.1)
arguments_of_clear spec ends scope (argument p x es) (y ∷ ys) e =
    let q = no_parts _ _ e in
    let r = no_parts _ _ q.1 in
    (typed spec ends false scope x q.0, holds_unless _ _ _ r.0, arguments_of_clear spec ends scope es ys r.1)

arguments_clear : (spec : Spec) (scope : Scope) (es : ArgumentForms) (xs : List Variable) → AreArguments spec scope (erased_arguments es) xs → argument_faults spec scope es xs ≡ []
arguments_clear spec scope no_arguments xs h = refl
arguments_clear spec scope (argument p x es) [] h = no_whole _ _ (term_clear spec false scope x h.0) (arguments_clear spec scope es [] h.1)
arguments_clear spec scope (argument p x es) (y ∷ ys) h =
    no_whole _ _ (term_clear spec false scope x h.0) (no_whole _ _ (unless_holds _ _ _ h.1) (arguments_clear spec scope es ys h.2))

called_of_clear : (spec : Spec) (ends : HaveEnds spec) (even : Bool) (scope : Scope) (es : ArgumentForms) (X : Option Equation) (p : Place) →
    called_faults spec even scope es X p ≡ [] → (even ≡ true) × IsCalled spec scope (erased_arguments es) X
called_of_clear spec ends even scope es None p e = let q = no_parts _ _ e in absurd (true≢false (sym (holds_unless _ _ _ q.0)))
called_of_clear spec ends even scope es (Some X) p e =
    let q = no_parts _ _ e in
    let r = no_parts _ _ q.1 in (
      holds_unless _ _ _ q.0,
      (eqb-true (count (erased_arguments es)) (length X.parameters) (holds_unless _ _ _ r.0), arguments_of_clear spec ends scope es X.parameters r.1),
    )

called_clear : (spec : Spec) (even : Bool) (scope : Scope) (es : ArgumentForms) (X : Option Equation) (p : Place) →
    even ≡ true → IsCalled spec scope (erased_arguments es) X → called_faults spec even scope es X p ≡ []
called_clear spec even scope es None p is h = absurd h
called_clear spec even scope es (Some X) p is h =
    no_whole _ _ (unless_holds _ _ _ is)
    (no_whole _ _ (unless_holds _ _ _ (eq-eqb (count (erased_arguments es)) (length X.parameters) h.0)) (arguments_clear spec scope es X.parameters h.1))

pub instance_proper : (spec : Spec) (ends : HaveEnds spec) (even : Bool) (scope : Scope) (i : InstanceForm)
    → instance_faults spec even scope i ≡ [] → IsProper spec even scope (Formula.Call i.name.text (erased_arguments i.arguments))
instance_proper spec ends even scope i e = called_of_clear spec ends even scope i.arguments (equation_named spec.equations i.name.text) i.name.place e

pub instance_clear : (spec : Spec) (even : Bool) (scope : Scope) (i : InstanceForm)
    → IsProper spec even scope (Formula.Call i.name.text (erased_arguments i.arguments)) → instance_faults spec even scope i ≡ []
instance_clear spec even scope i h =
    called_clear spec even scope i.arguments (equation_named spec.equations i.name.text) i.name.place h.0 h.1

join_proper : (spec : Spec) (c : Connective) (even : Bool) (scope : Scope) (p : Place) (f g : FormulaForm)
    → IsProper spec (left_parity c even) scope (erased_formula f) → IsProper spec even scope (erased_formula g) → IsProper spec even scope (erased_formula (FormulaForm.connected c p f g))
join_proper spec And even scope p f g h k = (h, k)
join_proper spec Or even scope p f g h k = (h, k)
join_proper spec Implies even scope p f g h k = (h, k)

proper_parts : (spec : Spec) (c : Connective) (even : Bool) (scope : Scope) (p : Place) (f g : FormulaForm)
    → IsProper spec even scope (erased_formula (FormulaForm.connected c p f g)) → IsProper spec (left_parity c even) scope (erased_formula f) × IsProper spec even scope (erased_formula g)
proper_parts spec And even scope p f g h = h
proper_parts spec Or even scope p f g h = h
proper_parts spec Implies even scope p f g h = h

pub proper : (spec : Spec) (ends : HaveEnds spec) (even : Bool) (scope : Scope) (f : FormulaForm) → formula_faults spec even scope f ≡ [] → IsProper spec even scope (erased_formula f)
proper spec ends even scope (FormulaForm.constant p b) e = tt
proper spec ends even scope (FormulaForm.val p x) e = let q = no_parts _ _ e in (typed spec ends true scope x q.0, holds_unless _ _ _ q.1)
proper spec ends even scope (FormulaForm.instance i) e = instance_proper spec ends even scope i e
proper spec ends even scope (FormulaForm.negation p f) e = proper spec ends (not even) scope f e
proper spec ends even scope (FormulaForm.connected c p f g) e =
    let q = no_parts _ _ e in join_proper spec c even scope p f g (proper spec ends (left_parity c even) scope f q.0) (proper spec ends even scope g q.1)
proper spec ends even scope (FormulaForm.quantified q p xs f) e =
    let r = no_parts _ _ e in (variables spec xs ends r.0, proper spec ends even (bound spec (erased_variables xs) scope) f r.1)

pub formula_clear : (spec : Spec) (even : Bool) (scope : Scope) (f : FormulaForm) → IsProper spec even scope (erased_formula f) → formula_faults spec even scope f ≡ []
formula_clear spec even scope (FormulaForm.constant p b) h = refl
formula_clear spec even scope (FormulaForm.val p x) h = no_whole _ _ (term_clear spec true scope x h.0) (unless_holds _ _ _ h.1)
formula_clear spec even scope (FormulaForm.instance i) h = instance_clear spec even scope i h
formula_clear spec even scope (FormulaForm.negation p f) h = formula_clear spec (not even) scope f h
formula_clear spec even scope (FormulaForm.connected c p f g) h =
    let q = proper_parts spec c even scope p f g h in
    no_whole _ _ (formula_clear spec (left_parity c even) scope f q.0) (formula_clear spec even scope g q.1)
formula_clear spec even scope (FormulaForm.quantified q p xs f) h =
    no_whole _ _ (variables_clear spec xs h.0) (formula_clear spec even (bound spec (erased_variables xs) scope) f h.1)
