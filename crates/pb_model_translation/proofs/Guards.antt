-- A guard that is cut into its conjuncts says what the guard says.
use Rattle.std.proofs.Common.{◌≡◌, Bool, true, false, not, ◌&&◌, ◌||◌, refl, ap, ◌∙◌}
use Rattle.pb_base_values.specs.Carrier.{of_bool}
use Rattle.pb_fixpoint.specs.Solution.{Environment}
use Rattle.pb_text_tree.specs.declared.operator.Quantifier.{Quantifier}
use Rattle.pb_text_tree.specs.declared.operator.Quantifier.TheVariants.{Forall, Exists}
use Rattle.pb_text_meaning.specs.Syntax.{Operator, Term, Spec}
use Rattle.pb_text_meaning.specs.Syntax as text
use Rattle.pb_text_meaning.specs.Value.{Assignment, is_true, value}
use Rattle.pb_text_meaning.specs.Formula.{Instance, truth}
use Rattle.pb_model_translation.specs.Translation.{behind}
use Rattle.pb_model_translation.proofs.Lists.{guarded}

-- how a guard is joined to what is behind it
abbrev pub joiner : Quantifier → text.Formula → text.Formula → text.Formula
joiner Forall f g = text.Formula.Implies f g
joiner Exists f g = text.Formula.And f g

-- a fact, or its negation
abbrev signed : Bool → Bool → Bool
signed false b = b
signed true b = not b

-- ---- tests one behind the other

negated-test : (negated b : Bool) → signed (not negated) b ≡ signed negated (is_true (of_bool (not b)))
negated-test true true = refl
negated-test true false = refl
negated-test false true = refl
negated-test false false = refl

both-tests : (q : Quantifier) (a b x : Bool) → guarded q a (guarded q b x) ≡ guarded q (is_true (of_bool (a && b))) x
both-tests Forall true true x = refl
both-tests Forall true false x = refl
both-tests Forall false b x = refl
both-tests Exists true true x = refl
both-tests Exists true false x = refl
both-tests Exists false b x = refl

neither-test : (q : Quantifier) (a b x : Bool) → guarded q (not a) (guarded q (not b) x) ≡ guarded q (not (is_true (of_bool (a || b)))) x
neither-test Forall true b x = refl
neither-test Forall false true x = refl
neither-test Forall false false x = refl
neither-test Exists true b x = refl
neither-test Exists false true x = refl
neither-test Exists false false x = refl

one-test : (q : Quantifier) (a b x : Bool) → guarded q a (guarded q (not b) x) ≡ guarded q (not (is_true (of_bool (not a || b)))) x
one-test Forall true true x = refl
one-test Forall true false x = refl
one-test Forall false b x = refl
one-test Exists true true x = refl
one-test Exists true false x = refl
one-test Exists false b x = refl

not-true : (b : Bool) → is_true (of_bool (not b)) ≡ not b
not-true true = refl
not-true false = refl

-- ---- the truth behind a guard

module _ (spec : Spec) (q : Quantifier) (t : Environment Instance) (a : Assignment) where
  abbrev test : Term → Bool
  test x = is_true (value spec a x)

  leaf : (x : Term) (f : text.Formula) → truth spec a t (joiner q (text.Formula.Val x) f) ≡ guarded q (test x) (truth spec a t f)
  leaf x f = by q
    where
      by : (q : Quantifier) → truth spec a t (joiner q (text.Formula.Val x) f) ≡ guarded q (test x) (truth spec a t f)
      by Forall = refl
      by Exists = refl

  pub behind-truth : (negated : Bool) (x : Term) (f : text.Formula) →
      truth spec a t (behind (joiner q) negated x f) ≡ guarded q (signed negated (test x)) (truth spec a t f)
  behind-truth negated (Term.Not x) f =
      behind-truth (not negated) x f ∙ ap (λ (b : Bool). guarded q b (truth spec a t f)) (negated-test negated (test x))
  behind-truth false (Term.Binary Operator.And x y) f =
      behind-truth false x (behind (joiner q) false y f)
      ∙ ap (guarded q (test x)) (behind-truth false y f)
      ∙ both-tests q (test x) (test y) (truth spec a t f)
  behind-truth true (Term.Binary Operator.Or x y) f =
      behind-truth true x (behind (joiner q) true y f)
      ∙ ap (guarded q (not (test x))) (behind-truth true y f)
      ∙ neither-test q (test x) (test y) (truth spec a t f)
  behind-truth true (Term.Binary Operator.Implies x y) f =
      behind-truth false x (behind (joiner q) true y f)
      ∙ ap (guarded q (test x)) (behind-truth true y f)
      ∙ one-test q (test x) (test y) (truth spec a t f)
  behind-truth false x f = leaf x f
  behind-truth true x f = leaf (Term.Not x) f ∙ ap (λ (b : Bool). guarded q b (truth spec a t f)) (not-true (test x))
