-- A formula that is one test calls nothing, and what stands after a step is no test.
use Rattle.std.proofs.Common.{◌≡◌, ℕ, Bool, true, false, true≢false, not, ◌&&◌, List, [], ◌∷◌, map, refl, sym, ap}
use Rattle.pb_text_tree.specs.declared.operator.Connective.{Connective}
use Rattle.pb_text_tree.specs.declared.operator.Quantifier.{Quantifier}
use Rattle.pb_text_tree.specs.declared.operator.Quantifier.TheVariants.{Forall, Exists}
use Rattle.pb_fixpoint.specs.Solution.{empty}
use Rattle.pb_text_meaning.specs.Syntax.{Name, Variable, Operator, Term, Formula, Spec}
use Rattle.pb_text_meaning.specs.Value.{Assignment}
use Rattle.pb_text_meaning.specs.Formula.{Instance, truth}
use Rattle.pb_model_meaning.specs.Syntax.{Step, Model}
use Rattle.pb_model_translation.specs.Translation.{Callee, behind, call, over, conjunction, disjunction}
use Rattle.pb_model_translation.proofs.Guards.{joiner}
use Rattle.pb_model_translation.proofs.RightSides.{step_formula}
use Rattle.pb_typing_tree.specs.Expansion.{expanded}
use Rattle.pb_typing_calls.specs.Calls.{decides, is_test}
use Rattle.pb_typing_calls.specs.declared.side.Side.{Side}
use Rattle.pb_model_range_laws.specs.Calls.{Calls, test_decides}

pub tests-call-nothing : (spec : Spec) (f : Formula) (a : Assignment) (j : Instance) → is_test (expanded f) ≡ true → Calls spec a f j → ⊥
tests-call-nothing spec (Formula.Truth b) a j e h = h
tests-call-nothing spec (Formula.Val x) a j e h = h
tests-call-nothing spec (Formula.Not f) a j e h = tests-call-nothing spec f a j e h
tests-call-nothing spec (Formula.And f g) a j e h = true≢false (sym e)
tests-call-nothing spec (Formula.Or f g) a j e h = true≢false (sym e)
tests-call-nothing spec (Formula.Implies f g) a j e h = true≢false (sym e)
tests-call-nothing spec (Formula.Quantified q [] f) a j e h = tests-call-nothing spec f a j e h.2
tests-call-nothing spec (Formula.Quantified q (x ∷ xs) f) a j e h = true≢false (sym e)
tests-call-nothing spec (Formula.Call X es) a j e h = true≢false (sym e)

-- what is no test decides nothing
pub undecided : (spec : Spec) (a : Assignment) (c : Connective) (side : Side) (f : Formula) → is_test (expanded f) ≡ false → test_decides spec a c side f ≡ false
undecided spec a c side f e = ap (λ b. b && decides c side (truth spec a empty f)) e

leaf-test : (q : Quantifier) (x : Term) (f : Formula) → is_test (expanded (joiner q (Formula.Val x) f)) ≡ false
leaf-test Forall x f = refl
leaf-test Exists x f = refl

behind-test : (q : Quantifier) (negated : Bool) (x : Term) (f : Formula) → is_test (expanded (behind (joiner q) negated x f)) ≡ false
behind-test q negated (Term.Not x) f = behind-test q (not negated) x f
behind-test q false (Term.Binary Operator.And x y) f = behind-test q false x (behind (joiner q) false y f)
behind-test q true (Term.Binary Operator.Or x y) f = behind-test q true x (behind (joiner q) true y f)
behind-test q true (Term.Binary Operator.Implies x y) f = behind-test q false x (behind (joiner q) true y f)
behind-test q false x f = leaf-test q x f
behind-test q true x f = leaf-test q (Term.Not x) f

over-test : (q : Quantifier) (xs : List Variable) (f : Formula) → is_test (expanded f) ≡ false → is_test (expanded (over q xs f)) ≡ false
over-test q [] f e = e
over-test q (x ∷ xs) f e = refl

-- the formulas of steps, joined
abbrev pub joined : Quantifier → List Formula → Formula
joined Forall fs = conjunction fs
joined Exists fs = disjunction fs

module _ (m : Model) (names : ℕ → Name) where
  pub step-test : (q : Quantifier) (c : Callee) (a : Step) → is_test (expanded (step_formula m names q c a)) ≡ false
  step-test Forall c a = over-test Forall a.variables (behind (joiner Forall) false a.guard (call m names c a.assignments)) (behind-test Forall false a.guard (call m names c a.assignments))
  step-test Exists c a = over-test Exists a.variables (behind (joiner Exists) false a.guard (call m names c a.assignments)) (behind-test Exists false a.guard (call m names c a.assignments))

  pub steps-test : (q : Quantifier) (c : Callee) (a : Step) (steps : List Step) → is_test (expanded (joined q (map (step_formula m names q c) (a ∷ steps)))) ≡ false
  steps-test Forall c a [] = step-test Forall c a
  steps-test Exists c a [] = step-test Exists c a
  steps-test Forall c a (b ∷ steps) = refl
  steps-test Exists c a (b ∷ steps) = refl
