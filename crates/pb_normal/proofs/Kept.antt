-- The value of each argument in normal form is one of the shape that is kept with it.
use Rattle.std.proofs.Common.{◌≡◌, ℕ, zero, suc, ◌+◌, Bool, true, false, not, ◌||◌, if◌then◌else◌, List, [], ◌∷◌, length, Option, Some, None, sym, subst, arith}
use Rattle.std.specs.List.{All}
use Rattle.std.proofs.lemmas.Bool.{and_parts}
use Rattle.pb_base_values.specs.Carrier.{Value, Carrier, is_within, contains}
use Rattle.pb_text_tree.specs.declared.operator.Quantifier.{Quantifier}
use Rattle.pb_text_meaning.specs.Syntax as syntax
use Rattle.pb_text_meaning.specs.Syntax.{same_name, Variable, Operator, Terms, Equation, Spec}
use Rattle.pb_text_meaning.specs.Sorts.{carrier_of}
use Rattle.pb_text_meaning.specs.Value.{Assignment}
use Rattle.pb_text_meaning.specs.Formula.{carriers_of, equation_named}
use Rattle.pb_text_meaning.specs.Meaning.{assigned}
use Rattle.pb_typing_declarations.specs.Shapes.{sort_shape}
use Rattle.pb_typing_declarations.proofs.ShapeLaws.{shape_carrier-sort_shape}
use Rattle.pb_typing_rules.specs.Shapes.{IsValueOf}
use Rattle.pb_typing_rules.specs.Scope.{Scope, outermost, declare, bound, IsWithinScope}
use Rattle.pb_typing_rules.specs.Term.{shape, AreTyped}
use Rattle.pb_typing_rules.specs.Formula.{IsProper}
use Rattle.pb_typing_rules.specs.WellTyped.{parameter_scope, AreProper, IsWellTyped}
use Rattle.pb_typing_rules.proofs.Names.{within_declared, sort_value}
use Rattle.pb_typing_rules.proofs.Contained.{contained, called_typed}
use Rattle.pb_typing_rules.proofs.Fitting.{assigned_within}
use Rattle.pb_normal.specs.Expansion.{has_quantifier, connected, expanded_term, expanded}
use Rattle.pb_normal.specs.Normal.{Term, Argument, Formula, Slots, set, value}
use Rattle.pb_normal.specs.Normalisation.{Slotting, unslotted, with_slot, with_slots, slotted, width, signed_test, signed_quantifier, each, arguments, place_of, call, normal}
use Rattle.pb_normal.specs.Plain.{AreFree, Agree}
use Rattle.pb_normal.specs.Kept.{ArgumentsFit, KeepsShapes}
use Rattle.pb_typing_tree.proofs.Slotted.{slotted-value}
use Rattle.pb_typing_tree.proofs.Truth.{more-free, free-with, agree-with}
use Rattle.pb_typing_tree.proofs.Plain.{typed-plain}
use Rattle.pb_typing_tree.proofs.Parameters.{agree-parameters, free-parameters}
use Rattle.pb_normal.proofs.Answer.{within-count}

-- ---- quantifiers

-- what a body promises wherever the slots of a scope hold values of its shapes
abbrev Fits : Scope → (Slotting → ℕ → Formula) → Type 0
Fits scope body = (c : Slotting) (n : ℕ) (a : Slots) (g : Assignment) → AreFree c n → Agree c a g → IsWithinScope g scope → ArgumentsFit a (body c n)

each-fits : (spec : Spec) (m : Quantifier) (xs : List Variable) (scope : Scope) (body : Slotting → ℕ → Formula) → Fits (bound spec xs scope) body → Fits scope (λ c n. each spec m xs c n body)
each-fits spec m [] scope body fits c n a g free agree within = fits c n a g free agree within
each-fits spec m (x ∷ xs) scope body fits c n a g free agree within = λ v inside.
    let of_sort : contains (carrier_of spec x.sort) v ≡ true = subst (λ (vs : Carrier). contains vs v ≡ true) (shape_carrier-sort_shape spec x.sort) inside in
    each-fits spec m xs (declare x.name (sort_shape spec x.sort) scope) body fits
    (with_slot x.name n c) (suc n) (set a n v) ((x.name, v) ∷ g) (free-with c n x.name free) (agree-with c n a g x.name v free agree)
    (within_declared g scope x.name (sort_shape spec x.sort) v (sort_value spec x.sort v of_sort) within)

-- ---- data, where no predicate variable stands

test-fits : (a : Slots) (even : Bool) (x : Term) → ArgumentsFit a (signed_test even x)
test-fits a true x = tt
test-fits a false x = tt

-- under each number of negations
abbrev FormulaFits : Spec → Scope → syntax.Formula → Type 0
FormulaFits spec scope f = (even : Bool) → Fits scope (λ c n. normal spec even c scope n f)

choose-fits : (spec : Spec) (scope : Scope) (b : Bool) (f g : syntax.Formula) → FormulaFits spec scope f → FormulaFits spec scope g → FormulaFits spec scope (if b then f else g)
choose-fits spec scope true f g h k = h
choose-fits spec scope false f g h k = k

data-fits : (spec : Spec) (scope : Scope) (x : syntax.Term) → FormulaFits spec scope (syntax.Formula.Val x)
data-fits spec scope x even c n a g free agree within = test-fits a even (slotted spec c x)

connected-fits : (spec : Spec) (scope : Scope) (o : Operator) (f g : syntax.Formula) (x : syntax.Term)
    → FormulaFits spec scope f → FormulaFits spec scope g → FormulaFits spec scope (connected o f g (syntax.Formula.Val x))
connected-fits spec scope Operator.And f h x p q even c n a g free agree within =
    (p even c n a g free agree within, q even c (n + width f) a g (more-free c n (n + width f) (omega arith) free) agree within)
connected-fits spec scope Operator.Or f h x p q even c n a g free agree within =
    (p even c n a g free agree within, q even c (n + width f) a g (more-free c n (n + width f) (omega arith) free) agree within)
connected-fits spec scope Operator.Implies f h x p q even c n a g free agree within =
    (p (not even) c n a g free agree within, q even c (n + width f) a g (more-free c n (n + width f) (omega arith) free) agree within)
connected-fits spec scope o f h x p q even c n a g free agree within = data-fits spec scope x even c n a g free agree within

term-fits : (spec : Spec) (scope : Scope) (x : syntax.Term) → FormulaFits spec scope (expanded_term x)
term-fits spec scope (syntax.Term.Truth b) = data-fits spec scope (syntax.Term.Truth b)
term-fits spec scope (syntax.Term.Number n) = data-fits spec scope (syntax.Term.Number n)
term-fits spec scope (syntax.Term.Named x) = data-fits spec scope (syntax.Term.Named x)
term-fits spec scope (syntax.Term.Not x) =
    choose-fits spec scope (has_quantifier x) (syntax.Formula.Not (expanded_term x)) (syntax.Formula.Val (syntax.Term.Not x))
    (λ even. term-fits spec scope x (not even)) (data-fits spec scope (syntax.Term.Not x))
term-fits spec scope (syntax.Term.Negative x) = data-fits spec scope (syntax.Term.Negative x)
term-fits spec scope (syntax.Term.Binary o x y) =
    choose-fits spec scope (has_quantifier x || has_quantifier y)
    (connected o (expanded_term x) (expanded_term y) (syntax.Formula.Val (syntax.Term.Binary o x y)))
    (syntax.Formula.Val (syntax.Term.Binary o x y))
    (connected-fits spec scope o (expanded_term x) (expanded_term y) (syntax.Term.Binary o x y) (term-fits spec scope x) (term-fits spec scope y))
    (data-fits spec scope (syntax.Term.Binary o x y))
term-fits spec scope (syntax.Term.Apply f xs) = data-fits spec scope (syntax.Term.Apply f xs)
term-fits spec scope (syntax.Term.Quantified q xs x) = λ even.
    each-fits spec (signed_quantifier q even) xs scope (λ d m. normal spec even d (bound spec xs scope) m (expanded_term x)) (term-fits spec (bound spec xs scope) x even)

-- ---- arguments

arguments-fit : (spec : Spec) (c : Slotting) (scope : Scope) (a : Slots) (g : Assignment) → Agree c a g → IsWithinScope g scope → (es : Terms) → AreTyped spec scope es
    → All (λ (e : Argument). IsValueOf e.shape (value a e.term)) (arguments spec c scope es)
arguments-fit spec c scope a g agree within Terms.NoTerms typed k d below = absurd (omega arith)
arguments-fit spec c scope a g agree within (Terms.Then x xs) typed zero d below =
    subst (λ (v : Value). IsValueOf (shape spec scope x) v) (sym (slotted-value spec c a g agree x (typed-plain spec scope x typed.0)))
    (contained spec false scope g x within typed.0).value
arguments-fit spec c scope a g agree within (Terms.Then x xs) typed (suc k) d below =
    arguments-fit spec c scope a g agree within xs typed.1 k d (omega arith)

call-fits : (a : Slots) (o : Option ℕ) (es : List Argument) → All (λ (e : Argument). IsValueOf e.shape (value a e.term)) es → ArgumentsFit a (call o es)
call-fits a None es all = tt
call-fits a (Some X) es all = all

-- ---- formulas

formula-fits : (spec : Spec) (even : Bool) (scope : Scope) (f : syntax.Formula) → IsProper spec even scope f → Fits scope (λ c n. normal spec even c scope n (expanded f))
formula-fits spec even scope (syntax.Formula.Truth b) h c n a g free agree within = test-fits a even (Term.Truth b)
formula-fits spec even scope (syntax.Formula.Val x) h c n a g free agree within = term-fits spec scope x even c n a g free agree within
formula-fits spec even scope (syntax.Formula.Not f) h c n a g free agree within = formula-fits spec (not even) scope f h c n a g free agree within
formula-fits spec even scope (syntax.Formula.And f k) h c n a g free agree within =
    let m = n + width (expanded f) in
    (formula-fits spec even scope f h.0 c n a g free agree within, formula-fits spec even scope k h.1 c m a g (more-free c n m (omega arith) free) agree within)
formula-fits spec even scope (syntax.Formula.Or f k) h c n a g free agree within =
    let m = n + width (expanded f) in
    (formula-fits spec even scope f h.0 c n a g free agree within, formula-fits spec even scope k h.1 c m a g (more-free c n m (omega arith) free) agree within)
formula-fits spec even scope (syntax.Formula.Implies f k) h c n a g free agree within =
    let m = n + width (expanded f) in
    (formula-fits spec (not even) scope f h.0 c n a g free agree within, formula-fits spec even scope k h.1 c m a g (more-free c n m (omega arith) free) agree within)
formula-fits spec even scope (syntax.Formula.Quantified q xs f) h c n a g free agree within =
    each-fits spec (signed_quantifier q even) xs scope (λ d m. normal spec even d (bound spec xs scope) m (expanded f)) (formula-fits spec even (bound spec xs scope) f h.1) c n a g free agree within
formula-fits spec even scope (syntax.Formula.Call X es) h c n a g free agree within =
    call-fits a (place_of 0 spec.equations X) (arguments spec c scope es)
    (arguments-fit spec c scope a g agree within es (called_typed spec scope es (equation_named spec.equations X) h.1))

-- ---- equations

-- the values of an instance are of the shapes of their parameters
keeps-shapes : (spec : Spec) (X : Equation) → IsProper spec true (parameter_scope spec X) X.right → KeepsShapes spec X
keeps-shapes spec X proper slots i own hold =
    let inside = and_parts (same_name X.name i.name) (is_within (carriers_of spec X.parameters) i.values) own in
    formula-fits spec true (parameter_scope spec X) X.right proper
    (with_slots X.parameters 0 unslotted) (length X.parameters) slots (assigned X.parameters i.values [])
    (free-parameters X.parameters)
    (agree-parameters X.parameters i.values slots (within-count spec X.parameters i.values inside.1) hold)
    (assigned_within spec X.parameters i.values outermost [] inside.1 (λ x. tt))

rights-keep-shapes : (spec : Spec) (E : List Equation) → AreProper spec E → All (KeepsShapes spec) E
rights-keep-shapes spec [] proper k d below = absurd (omega arith)
rights-keep-shapes spec (X ∷ E) proper zero d below = keeps-shapes spec X proper.0
rights-keep-shapes spec (X ∷ E) proper (suc k) d below = rights-keep-shapes spec E proper.1 k d (omega arith)

pub equations-keep-shapes : (spec : Spec) → IsWellTyped spec → All (KeepsShapes spec) spec.equations
equations-keep-shapes spec h = rights-keep-shapes spec spec.equations h.rights
