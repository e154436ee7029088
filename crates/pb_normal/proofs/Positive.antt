-- Reading data terms with quantifiers as formulas leaves each call under as many negations as before.
use Rattle.std.proofs.Common.{Bool, true, false, not, ◌||◌, if◌then◌else◌}
use Rattle.pb_text_meaning.specs.Syntax.{Operator, Term, Formula}
use Rattle.pb_text_meaning.specs.Positive.{IsPositive}
use Rattle.pb_normal.specs.Expansion.{has_quantifier, connected, expanded_term, expanded}

choose-positive : (even c : Bool) (f g : Formula) → IsPositive even f → IsPositive even g → IsPositive even (if c then f else g)
choose-positive even true f g h k = h
choose-positive even false f g h k = k

-- under each number of negations, since `=>` counts one on its left
connected-positive : (even : Bool) (o : Operator) (f g : Formula) (x : Term) → ((b : Bool) → IsPositive b f) → IsPositive even g → IsPositive even (connected o f g (Formula.Val x))
connected-positive even Operator.And f g x h k = (h even, k)
connected-positive even Operator.Or f g x h k = (h even, k)
connected-positive even Operator.Implies f g x h k = (h (not even), k)
connected-positive even o f g x h k = tt

-- no predicate variable stands in data
expanded-term-positive : (even : Bool) (x : Term) → IsPositive even (expanded_term x)
expanded-term-positive even (Term.Truth b) = tt
expanded-term-positive even (Term.Number n) = tt
expanded-term-positive even (Term.Named x) = tt
expanded-term-positive even (Term.Not x) =
    choose-positive even (has_quantifier x) (Formula.Not (expanded_term x)) (Formula.Val (Term.Not x)) (expanded-term-positive (not even) x) tt
expanded-term-positive even (Term.Negative x) = tt
expanded-term-positive even (Term.Binary o x y) =
    choose-positive even (has_quantifier x || has_quantifier y) (connected o (expanded_term x) (expanded_term y) (Formula.Val (Term.Binary o x y))) (Formula.Val (Term.Binary o x y))
    (connected-positive even o (expanded_term x) (expanded_term y) (Term.Binary o x y) (λ b. expanded-term-positive b x) (expanded-term-positive even y)) tt
expanded-term-positive even (Term.Apply f xs) = tt
expanded-term-positive even (Term.Quantified q xs x) = expanded-term-positive even x

pub expanded-positive : (even : Bool) (f : Formula) → IsPositive even f → IsPositive even (expanded f)
expanded-positive even (Formula.Truth b) h = tt
expanded-positive even (Formula.Val x) h = expanded-term-positive even x
expanded-positive even (Formula.Not f) h = expanded-positive (not even) f h
expanded-positive even (Formula.And f g) h = (expanded-positive even f h.0, expanded-positive even g h.1)
expanded-positive even (Formula.Or f g) h = (expanded-positive even f h.0, expanded-positive even g h.1)
expanded-positive even (Formula.Implies f g) h = (expanded-positive (not even) f h.0, expanded-positive even g h.1)
expanded-positive even (Formula.Quantified q xs f) h = expanded-positive even f h
expanded-positive even (Formula.Call X es) h = h
