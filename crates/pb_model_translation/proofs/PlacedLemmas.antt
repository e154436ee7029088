-- Without its places, the text with places is the translation.
use Rattle.std.proofs.Common.{◌≡◌, ℕ, suc, ◌+◌, Bool, true, false, not, cond, if◌then◌else◌, List, [], ◌∷◌, map, refl, sym, ap, ◌∙◌}
use Rattle.std.specs.Prelude.{filter, Option, Some, None}
use Rattle.pb_fixpoint.specs.declared.Sign.{Sign}
use Rattle.pb_fixpoint.specs.declared.Sign.TheVariants.{Nu}
use Rattle.pb_text_tree.specs.declared.place.Place.{Place}
use Rattle.pb_text_tree.specs.declared.operator.Connective.{Connective}
use Rattle.pb_text_tree.specs.declared.operator.Connective.TheVariants as connective
use Rattle.pb_text_tree.specs.declared.operator.Comparison.{Comparison}
use Rattle.pb_text_tree.specs.declared.operator.Comparison.TheVariants as comparison
use Rattle.pb_text_tree.specs.declared.operator.Arithmetic.{Arithmetic}
use Rattle.pb_text_tree.specs.declared.operator.Arithmetic.TheVariants as arithmetic
use Rattle.pb_text_tree.specs.declared.operator.Quantifier.{Quantifier}
use Rattle.pb_text_tree.specs.Form.{Named, VariableForm, TermForm, chained, EquationForm, SpecForm}
use Rattle.pb_text_tree.specs.Form as form
use Rattle.pb_text_meaning.specs.Syntax.{Name, same_name, Term, Terms, Equation, Spec}
use Rattle.pb_text_meaning.specs.Syntax as text
use Rattle.pb_text_meaning.specs.Erase.{of_comparison, of_arithmetic, erased_term, erased_arguments, erased_variables, erased_equation}
use Rattle.pb_text_meaning.specs.Erase as text_erase
use Rattle.pb_model_tree.specs.declared.formula.Modality.{Modality}
use Rattle.pb_model_tree.specs.declared.formula.Modality.TheVariants.{Box, Diamond}
use Rattle.pb_model_tree.specs.Form.{StepSetForm, FormulaForm, AssignmentForm, StepForm, ModelForm}
use Rattle.pb_model_meaning.specs.Syntax.{Step, StepSet, Formula}
use Rattle.pb_model_meaning.specs.Erase.{erase, erased_formula, erased_steps, erased_assignment, erased_step, joined, modal}
use Rattle.pb_model_meaning.specs.Steps.{assigned_term, has_step, steps_in}
use Rattle.pb_model_translation.specs.Translation.{Callee, Constant, Numbered, FixpointScope, callee_of, operand_callee, has_equation, is_fixpoint, next_if, equation_count, term_or_name, next_terms, conjunction, disjunction, over, behind, call, after_each, after_some, right_side, equation, with_equation, equations, all_equations}
use Rattle.pb_model_translation.specs.Names.{names_of, translation}
use Rattle.pb_model_translation.specs.Placed.{assigned_form, value_form, next_forms, joining, quantifier_of, joined_forms, over_form, guarding, behind_form, steps_of_set, call_form, step_text, placed_step, modal_form, right_form, equation_at, with_equation_form, equation_forms, all_equation_forms, placed}

-- ---- the state after a step

abbrev term_of : Option AssignmentForm → Option Term
term_of (Some a) = Some (erased_term a.value)
term_of None = None

term-chosen : (b : Bool) (o p : Option AssignmentForm) → term_of (if b then o else p) ≡ (if b then term_of o else term_of p)
term-chosen true o p = refl
term-chosen false o p = refl

term-assigned : (bs : List AssignmentForm) (x : Name) → term_of (assigned_form bs x) ≡ assigned_term (map erased_assignment bs) x
term-assigned [] x = refl
term-assigned (a ∷ bs) x =
    term-chosen (same_name a.variable.text x) (Some a) (assigned_form bs x)
    ∙ ap (λ (o : Option Term). if same_name a.variable.text x then Some (erased_term a.value) else o) (term-assigned bs x)

value-said : (o : Option AssignmentForm) (x : Named) → erased_term (value_form o x) ≡ term_or_name (term_of o) x.text
value-said (Some a) x = refl
value-said None x = refl

pub next-said : (bs : List AssignmentForm) (xs : List VariableForm) → erased_arguments (next_forms bs xs) ≡ next_terms (map erased_assignment bs) (erased_variables xs)
next-said bs [] = refl
next-said bs (x ∷ xs) =
    ap (λ (t : Term). Terms.Then t (erased_arguments (next_forms bs xs)))
    (value-said (assigned_form bs x.name.text) x.name ∙ ap (λ (o : Option Term). term_or_name o x.name.text) (term-assigned bs x.name.text))
    ∙ ap (Terms.Then (term_or_name (assigned_term (map erased_assignment bs) x.name.text) x.name.text)) (next-said bs xs)

-- ---- formulas

over-said : (q : Quantifier) (p : Place) (xs : List VariableForm) (f : form.FormulaForm) →
    text_erase.erased_formula (over_form q p xs f) ≡ over q (erased_variables xs) (text_erase.erased_formula f)
over-said q p [] f = refl
over-said q p (x ∷ xs) f = refl

-- ---- guards

-- a guard that is no conjunction, or its negation
abbrev alone : (text.Formula → text.Formula → text.Formula) → Bool → Term → text.Formula → text.Formula
alone join false x f = join (text.Formula.Val x) f
alone join true x f = join (text.Formula.Val (Term.Not x)) f

compared-alone : (join : text.Formula → text.Formula → text.Formula) (negated : Bool) (o : Comparison) (x y : Term) (f : text.Formula) →
    alone join negated (Term.Binary (of_comparison o) x y) f ≡ behind join negated (Term.Binary (of_comparison o) x y) f
compared-alone join false comparison.Equal x y f = refl
compared-alone join true comparison.Equal x y f = refl
compared-alone join false o x y f = refl
compared-alone join true o x y f = refl

computed-alone : (join : text.Formula → text.Formula → text.Formula) (negated : Bool) (o : Arithmetic) (x y : Term) (f : text.Formula) →
    alone join negated (Term.Binary (of_arithmetic o) x y) f ≡ behind join negated (Term.Binary (of_arithmetic o) x y) f
computed-alone join false arithmetic.Plus x y f = refl
computed-alone join true arithmetic.Plus x y f = refl
computed-alone join false o x y f = refl
computed-alone join true o x y f = refl

behind-said : (c : Connective) (p : Place) (negated : Bool) (x : TermForm) (f : form.FormulaForm) →
    text_erase.erased_formula (behind_form c p negated x f) ≡ behind (text_erase.joined c) negated (erased_term x) (text_erase.erased_formula f)
behind-said c p negated (TermForm.not q x) f = behind-said c q (not negated) x f
behind-said c p false (TermForm.connected connective.And q x y) f =
    behind-said c q false x (behind_form c q false y f) ∙ ap (behind (text_erase.joined c) false (erased_term x)) (behind-said c q false y f)
behind-said c p true (TermForm.connected connective.Or q x y) f =
    behind-said c q true x (behind_form c q true y f) ∙ ap (behind (text_erase.joined c) true (erased_term x)) (behind-said c q true y f)
behind-said c p true (TermForm.connected connective.Implies q x y) f =
    behind-said c q false x (behind_form c q true y f) ∙ ap (behind (text_erase.joined c) false (erased_term x)) (behind-said c q true y f)
behind-said c p false (TermForm.compared o q x y) f = compared-alone (text_erase.joined c) false o (erased_term x) (erased_term y) (text_erase.erased_formula f)
behind-said c p true (TermForm.compared o q x y) f = compared-alone (text_erase.joined c) true o (erased_term x) (erased_term y) (text_erase.erased_formula f)
behind-said c p false (TermForm.computed o q x y) f = computed-alone (text_erase.joined c) false o (erased_term x) (erased_term y) (text_erase.erased_formula f)
behind-said c p true (TermForm.computed o q x y) f = computed-alone (text_erase.joined c) true o (erased_term x) (erased_term y) (text_erase.erased_formula f)
behind-said c p false x f = refl
behind-said c p true x f = refl

-- ---- chains

-- the operands of a chain, without places
abbrev linked : Place × form.FormulaForm → text.Formula
linked link = text_erase.erased_formula link.1

abbrev all_of : Modality → List text.Formula → text.Formula
all_of Box fs = conjunction fs
all_of Diamond fs = disjunction fs

chain-said : (k : Modality) (p : Place) (f : form.FormulaForm) (fs : List (Place × form.FormulaForm)) →
    text_erase.erased_formula (chained (form.FormulaForm.connected (joining k)) f fs) ≡ all_of k (linked (p, f) ∷ map linked fs)
chain-said Box p f [] = refl
chain-said Box p f (g ∷ gs) = ap (text.Formula.And (text_erase.erased_formula f)) (chain-said Box g.0 g.1 gs)
chain-said Diamond p f [] = refl
chain-said Diamond p f (g ∷ gs) = ap (text.Formula.Or (text_erase.erased_formula f)) (chain-said Diamond g.0 g.1 gs)

joined-said : (k : Modality) (p : Place) (fs : List (Place × form.FormulaForm)) → text_erase.erased_formula (joined_forms k p fs) ≡ all_of k (map linked fs)
joined-said Box p [] = refl
joined-said Diamond p [] = refl
joined-said k p (f ∷ fs) = chain-said k f.0 f.1 fs

-- the formulas of the steps that pass a test
filter-said : (F : StepForm → text.Formula) (G : Step → text.Formula) (test : StepForm → Bool) (pass : Step → Bool) →
    ((a : StepForm) → F a ≡ G (erased_step a)) → ((a : StepForm) → test a ≡ pass (erased_step a)) →
    (bs : List StepForm) → map F (filter test bs) ≡ map G (filter pass (map erased_step bs))
filter-said F G test pass said same [] = refl
filter-said F G test pass said same (a ∷ bs) =
    by (test a) (pass (erased_step a)) (same a) (filter-said F G test pass said same bs)
  where
    by : (b d : Bool) → b ≡ d → map F (filter test bs) ≡ map G (filter pass (map erased_step bs)) →
        map F (cond b (a ∷ filter test bs) (filter test bs)) ≡ map G (cond d (erased_step a ∷ filter pass (map erased_step bs)) (filter pass (map erased_step bs)))
    by true true e rest = ap (λ (f : text.Formula). f ∷ map F (filter test bs)) (said a) ∙ ap (λ (fs : List text.Formula). G (erased_step a) ∷ fs) rest
    by false false e rest = rest
    by true false e rest = cc
    by false true e rest = cc

map-linked : (F : StepForm → Place × form.FormulaForm) (bs : List StepForm) → map linked (map F bs) ≡ map (λ (a : StepForm). linked (F a)) bs
map-linked F [] = refl
map-linked F (a ∷ bs) = ap (λ (fs : List text.Formula). linked (F a) ∷ fs) (map-linked F bs)

module _ (m : ModelForm) (names : ℕ → Name) where
  call-said : (p : Place) (c : Callee) (bs : List AssignmentForm) →
      text_erase.erased_formula (call_form m names p c bs) ≡ call (erase m) names c (map erased_assignment bs)
  call-said p (Constant b) bs = refl
  call-said p (Numbered n) bs = ap (text.Formula.Call (names n)) (next-said bs m.variables)

  abbrev after_step : Modality → Callee → Step → text.Formula
  after_step Box c a = after_each (erase m) names c a
  after_step Diamond c a = after_some (erase m) names c a

  step-said : (k : Modality) (c : Callee) (a : StepForm) → text_erase.erased_formula (step_text m names k c a) ≡ after_step k c (erased_step a)
  step-said k c a = over-said (quantifier_of k) a.name.place a.variables _ ∙ by k
    where
      said : (k : Modality) → text_erase.erased_formula (behind_form (guarding k) a.name.place false a.guard (call_form m names a.name.place c a.assignments))
          ≡ behind (text_erase.joined (guarding k)) false (erased_term a.guard) (call (erase m) names c (map erased_assignment a.assignments))
      said k =
          behind-said (guarding k) a.name.place false a.guard (call_form m names a.name.place c a.assignments)
          ∙ ap (behind (text_erase.joined (guarding k)) false (erased_term a.guard)) (call-said a.name.place c a.assignments)

      by : (k : Modality)
          → over (quantifier_of k) (erased_variables a.variables)
          (text_erase.erased_formula (behind_form (guarding k) a.name.place false a.guard (call_form m names a.name.place c a.assignments)))
          ≡ after_step k c (erased_step a)
      by Box = ap (over (quantifier_of Box) (erased_variables a.variables)) (said Box)
      by Diamond = ap (over (quantifier_of Diamond) (erased_variables a.variables)) (said Diamond)

  modal-said : (k : Modality) (p : Place) (A : StepSetForm) (c : Callee) →
      text_erase.erased_formula (modal_form m names k p A c) ≡ all_of k (map (after_step k c) (steps_in (erase m) (erased_steps A)))
  modal-said k p A c =
      joined-said k p (map (placed_step m names k c) (steps_of_set m A))
      ∙ ap (all_of k)
      (map-linked (placed_step m names k c) (steps_of_set m A)
      ∙ filter-said (λ (a : StepForm). linked (placed_step m names k c a)) (after_step k c) (λ (a : StepForm). has_step (erased_steps A) a.name.text) (λ (a : Step). has_step (erased_steps A) a.name)
      (step-said k c) (λ a. refl) m.steps)

  connected-said : (c : Connective) (scope : FixpointScope) (n : ℕ) (f g : Formula) →
      right_side (erase m) names scope n (joined c f g) ≡ text_erase.joined c (right_side (erase m) names scope n f) (right_side (erase m) names scope (n + equation_count f) g)
  connected-said connective.And scope n f g = refl
  connected-said connective.Or scope n f g = refl
  connected-said connective.Implies scope n f g = refl

  over-steps-said : (k : Modality) (scope : FixpointScope) (n : ℕ) (A : StepSet) (f : Formula) →
      right_side (erase m) names scope n (modal k A f) ≡ all_of k (map (after_step k (operand_callee scope n f)) (steps_in (erase m) A))
  over-steps-said Box scope n A f = refl
  over-steps-said Diamond scope n A f = refl

  right-said : (scope : FixpointScope) (n : ℕ) (f : FormulaForm) →
      text_erase.erased_formula (right_form m names scope n f) ≡ right_side (erase m) names scope n (erased_formula f)
  right-said scope n (FormulaForm.constant p b) = refl
  right-said scope n (FormulaForm.«data» p x) = refl
  right-said scope n (FormulaForm.variable x) = call-said x.place (callee_of scope x.text) []
  right-said scope n (FormulaForm.negation p f) = ap text.Formula.Not (right-said scope n f)
  right-said scope n (FormulaForm.connected c p f g) =
      ap (λ (h : text.Formula). text_erase.joined c h (text_erase.erased_formula (right_form m names scope (n + equation_count (erased_formula f)) g))) (right-said scope n f)
      ∙ ap (text_erase.joined c (right_side (erase m) names scope n (erased_formula f))) (right-said scope (n + equation_count (erased_formula f)) g)
      ∙ sym (connected-said c scope n (erased_formula f) (erased_formula g))
  right-said scope n (FormulaForm.modal k p A f) =
      modal-said k p A (operand_callee scope n (erased_formula f)) ∙ sym (over-steps-said k scope n (erased_steps A) (erased_formula f))
  right-said scope n (FormulaForm.fixpoint sign p x f) = call-said p (Numbered n) []

  -- ---- equations

  module _ (here : Place) where
    with-said : (b : Bool) (X : EquationForm) (Y : Equation) (E : List EquationForm) (G : List Equation) → erased_equation X ≡ Y → map erased_equation E ≡ G →
        map erased_equation (with_equation_form m names here b X E) ≡ with_equation (erase m) names b Y G
    with-said true X Y E G first others = ap (λ (Z : Equation). Z ∷ map erased_equation E) first ∙ ap (λ (es : List Equation). Y ∷ es) others
    with-said false X Y E G first others = others

    equation-said : (sign : Sign) (n k : ℕ) (scope : FixpointScope) (f : FormulaForm) →
        erased_equation (equation_at m names here sign n (right_form m names scope k f)) ≡ equation (erase m) names sign n (right_side (erase m) names scope k (erased_formula f))
    equation-said sign n k scope f = ap (equation (erase m) names sign n) (right-said scope k f)

    both-equations : (c : Connective) (scope : FixpointScope) (sign : Sign) (n : ℕ) (f g : Formula) (E : List Equation) →
        equations (erase m) names scope sign n (joined c f g) E ≡ equations (erase m) names scope sign n f (equations (erase m) names scope sign (n + equation_count f) g E)
    both-equations connective.And scope sign n f g E = refl
    both-equations connective.Or scope sign n f g E = refl
    both-equations connective.Implies scope sign n f g E = refl

    modal-equations : (k : Modality) (scope : FixpointScope) (sign : Sign) (n : ℕ) (A : StepSet) (f : Formula) (E : List Equation) →
        equations (erase m) names scope sign n (modal k A f) E
        ≡ with_equation (erase m) names (has_equation f) (equation (erase m) names sign n (right_side (erase m) names scope (next_if (has_equation f) n) f))
        (equations (erase m) names scope sign (next_if (has_equation f) n) f E)
    modal-equations Box scope sign n A f E = refl
    modal-equations Diamond scope sign n A f E = refl

    equations-said : (scope : FixpointScope) (sign : Sign) (n : ℕ) (f : FormulaForm) (E : List EquationForm) (G : List Equation) → map erased_equation E ≡ G →
        map erased_equation (equation_forms m names here scope sign n f E) ≡ equations (erase m) names scope sign n (erased_formula f) G
    equations-said scope sign n (FormulaForm.constant p b) E G e = e
    equations-said scope sign n (FormulaForm.«data» p x) E G e = e
    equations-said scope sign n (FormulaForm.variable x) E G e = e
    equations-said scope sign n (FormulaForm.negation p f) E G e = equations-said scope sign n f E G e
    equations-said scope sign n (FormulaForm.connected c p f g) E G e =
        let k = n + equation_count (erased_formula f) in
        equations-said scope sign n f (equation_forms m names here scope sign k g E) (equations (erase m) names scope sign k (erased_formula g) G) (equations-said scope sign k g E G e)
        ∙ sym (both-equations c scope sign n (erased_formula f) (erased_formula g) G)
    equations-said scope sign n (FormulaForm.modal k p A f) E G e =
        let own = has_equation (erased_formula f) in
        with-said own _ _ _ _ (equation-said sign n (next_if own n) scope f) (equations-said scope sign (next_if own n) f E G e)
        ∙ sym (modal-equations k scope sign n (erased_steps A) (erased_formula f) G)
    equations-said scope sign n (FormulaForm.fixpoint inner p x f) E G e =
        ap (λ (Z : Equation). Z ∷ map erased_equation (equation_forms m names here ((x.text, n) ∷ scope) inner (suc n) f E)) (equation-said inner n (suc n) ((x.text, n) ∷ scope) f)
        ∙ ap (λ (es : List Equation). equation (erase m) names inner n (right_side (erase m) names ((x.text, n) ∷ scope) (suc n) (erased_formula f)) ∷ es)
        (equations-said ((x.text, n) ∷ scope) inner (suc n) f E G e)

    all-said : (f : FormulaForm) → map erased_equation (all_equation_forms m names here f) ≡ all_equations (erase m) names (erased_formula f)
    all-said f = by (is_fixpoint (erased_formula f))
      where
        by : (b : Bool) →
            map erased_equation (if b then equation_forms m names here [] Nu 0 f [] else (equation_at m names here Nu 0 (right_form m names [] 1 f) ∷ equation_forms m names here [] Nu 1 f []))
            ≡ (if b then equations (erase m) names [] Nu 0 (erased_formula f) [] else
            (equation (erase m) names Nu 0 (right_side (erase m) names [] 1 (erased_formula f)) ∷ equations (erase m) names [] Nu 1 (erased_formula f) []))
        by true = equations-said [] Nu 0 f [] [] refl
        by false =
            ap (λ (Z : Equation). Z ∷ map erased_equation (equation_forms m names here [] Nu 1 f [])) (equation-said Nu 0 1 [] f)
            ∙ ap (λ (es : List Equation). equation (erase m) names Nu 0 (right_side (erase m) names [] 1 (erased_formula f)) ∷ es) (equations-said [] Nu 1 f [] [] refl)

pub placed-translated : (m : ModelForm) (here : Place) (f : FormulaForm) → text_erase.erase (placed m here f) ≡ translation (erase m) (erased_formula f)
placed-translated m here f =
    ap (λ (E : List Equation). record {
      sorts = map text_erase.erased_declaration m.sorts;
      ranges = map text_erase.erased_range m.ranges;
      equations = E;
      initial = names_of (erased_formula f) 0;
      arguments = erased_arguments m.initial.values;
    }) (all-said m (names_of (erased_formula f)) here f)
