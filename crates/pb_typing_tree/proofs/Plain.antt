-- In a well-typed formula whose data terms with quantifiers are read as formulas, no data term has a quantifier.
use Rattle.std.proofs.Common.{◌≡◌, Bool, true, false, not, ◌||◌, if◌then◌else◌, refl, sym, subst, true≢false}
use Rattle.std.proofs.lemmas.Bool.{or_from}
use Rattle.pb_text_meaning.specs.Syntax.{Operator, Term, Terms, Formula, Spec}
use Rattle.pb_text_meaning.specs.Formula.{equation_named}
use Rattle.pb_typing_rules.specs.Shapes.{OperatorKind, OfTruths, OfAlike, OfWholes, Computed, kind_of}
use Rattle.pb_typing_rules.specs.Scope.{Scope, bound}
use Rattle.pb_typing_rules.specs.Term.{passes, IsTyped, AreTyped}
use Rattle.pb_typing_rules.specs.Formula.{IsProper}
use Rattle.pb_typing_rules.proofs.Contained.{called_typed}
use Rattle.pb_typing_tree.specs.Expansion.{has_quantifier, have_quantifier, connected, expanded_term, expanded}
use Rattle.pb_typing_tree.specs.Plain.{IsPlain}

-- ---- where no quantifier may stand

passes-false : (k : OperatorKind) → passes k false ≡ false
passes-false OfTruths = refl
passes-false OfAlike = refl
passes-false OfWholes = refl
passes-false (Computed o) = refl

mutual
  pub typed-plain : (spec : Spec) (scope : Scope) (x : Term) → IsTyped spec false scope x → has_quantifier x ≡ false
  typed-plain spec scope (Term.Truth b) h = refl
  typed-plain spec scope (Term.Number n) h = refl
  typed-plain spec scope (Term.Named x) h = refl
  typed-plain spec scope (Term.Not x) h = typed-plain spec scope x h.0
  typed-plain spec scope (Term.Negative x) h = typed-plain spec scope x h.0
  typed-plain spec scope (Term.Binary o x y) h =
      let stands = passes-false (kind_of o) in
      or_from (has_quantifier x) (has_quantifier y)
      (typed-plain spec scope x (subst (λ (b : Bool). IsTyped spec b scope x) stands h.0))
      (typed-plain spec scope y (subst (λ (b : Bool). IsTyped spec b scope y) stands h.1))
  typed-plain spec scope (Term.Apply f xs) h = typed-all-plain spec scope xs h.0
  typed-plain spec scope (Term.Quantified q xs x) h = absurd (true≢false (sym h.0))

  typed-all-plain : (spec : Spec) (scope : Scope) (xs : Terms) → AreTyped spec scope xs → have_quantifier xs ≡ false
  typed-all-plain spec scope Terms.NoTerms h = refl
  typed-all-plain spec scope (Terms.Then x xs) h = or_from (has_quantifier x) (have_quantifier xs) (typed-plain spec scope x h.0) (typed-all-plain spec scope xs h.1)

-- ---- where one may

choose-plain : (c : Bool) (f g : Formula) → IsPlain f → (c ≡ false → IsPlain g) → IsPlain (if c then f else g)
choose-plain true f g h k = h
choose-plain false f g h k = k refl

-- operands of comparisons and arithmetic have no quantifier
connected-plain : (spec : Spec) (stands : Bool) (scope : Scope) (o : Operator) (x y : Term) (f g : Formula)
    → IsTyped spec (passes (kind_of o) stands) scope x → IsTyped spec (passes (kind_of o) stands) scope y
    → IsPlain f → IsPlain g → IsPlain (connected o f g (Formula.Val (Term.Binary o x y)))
connected-plain spec stands scope Operator.And x y f g h k p q = (p, q)
connected-plain spec stands scope Operator.Or x y f g h k p q = (p, q)
connected-plain spec stands scope Operator.Implies x y f g h k p q = (p, q)
connected-plain spec stands scope o x y f g h k p q = or_from (has_quantifier x) (has_quantifier y) (typed-plain spec scope x h) (typed-plain spec scope y k)

expanded-term-plain : (spec : Spec) (stands : Bool) (scope : Scope) (x : Term) → IsTyped spec stands scope x → IsPlain (expanded_term x)
expanded-term-plain spec stands scope (Term.Truth b) h = refl
expanded-term-plain spec stands scope (Term.Number n) h = refl
expanded-term-plain spec stands scope (Term.Named x) h = refl
expanded-term-plain spec stands scope (Term.Not x) h =
    choose-plain (has_quantifier x) (Formula.Not (expanded_term x)) (Formula.Val (Term.Not x)) (expanded-term-plain spec stands scope x h.0) (λ none. none)
expanded-term-plain spec stands scope (Term.Negative x) h = typed-plain spec scope x h.0
expanded-term-plain spec stands scope (Term.Binary o x y) h =
    choose-plain (has_quantifier x || has_quantifier y) (connected o (expanded_term x) (expanded_term y) (Formula.Val (Term.Binary o x y))) (Formula.Val (Term.Binary o x y))
    (connected-plain spec stands scope o x y (expanded_term x) (expanded_term y) h.0 h.1
    (expanded-term-plain spec (passes (kind_of o) stands) scope x h.0) (expanded-term-plain spec (passes (kind_of o) stands) scope y h.1))
    (λ none. none)
expanded-term-plain spec stands scope (Term.Apply f xs) h = typed-all-plain spec scope xs h.0
expanded-term-plain spec stands scope (Term.Quantified q xs x) h = expanded-term-plain spec stands (bound spec xs scope) x h.2

pub expanded-plain : (spec : Spec) (even : Bool) (scope : Scope) (f : Formula) → IsProper spec even scope f → IsPlain (expanded f)
expanded-plain spec even scope (Formula.Truth b) h = tt
expanded-plain spec even scope (Formula.Val x) h = expanded-term-plain spec true scope x h.0
expanded-plain spec even scope (Formula.Not f) h = expanded-plain spec (not even) scope f h
expanded-plain spec even scope (Formula.And f g) h = (expanded-plain spec even scope f h.0, expanded-plain spec even scope g h.1)
expanded-plain spec even scope (Formula.Or f g) h = (expanded-plain spec even scope f h.0, expanded-plain spec even scope g h.1)
expanded-plain spec even scope (Formula.Implies f g) h = (expanded-plain spec (not even) scope f h.0, expanded-plain spec even scope g h.1)
expanded-plain spec even scope (Formula.Quantified q xs f) h = expanded-plain spec even (bound spec xs scope) f h.1
expanded-plain spec even scope (Formula.Call x es) h = typed-all-plain spec scope es (called_typed spec scope es (equation_named spec.equations x) h.1)
