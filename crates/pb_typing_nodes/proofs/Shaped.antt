-- In a well-typed formula each variable of a quantifier, in data too, is of a sort that has values.
use Rattle.std.proofs.Common.{◌≡◌, zero, suc, Bool, true, false, not, ◌||◌, if◌then◌else◌, List, [], ◌∷◌, arith}
use Rattle.std.specs.List.{All}
use Rattle.pb_text_meaning.specs.Syntax.{Variable, Operator, Term, Formula, Spec}
use Rattle.pb_typing_declarations.specs.Shapes.{end_of}
use Rattle.pb_typing_declarations.specs.WellDeclared.{has_shape}
use Rattle.pb_typing_rules.specs.Shapes.{kind_of}
use Rattle.pb_typing_rules.specs.Scope.{Scope, bound}
use Rattle.pb_typing_rules.specs.Term.{passes, IsTyped}
use Rattle.pb_typing_rules.specs.Formula.{IsProper}
use Rattle.pb_typing_tree.specs.Expansion.{has_quantifier, connected, expanded_term, expanded}
use Rattle.pb_typing_tree.specs.Loops.{AreShaped, IsShaped}

pub variables-shaped : (spec : Spec) (xs : List Variable) → All (λ (x : Variable). has_shape (end_of spec x.sort) ≡ true) xs → AreShaped spec xs
variables-shaped spec [] all = tt
variables-shaped spec (x ∷ xs) all = (all zero x (omega arith), variables-shaped spec xs (λ k d below. all (suc k) d (omega arith)))

-- ---- data

choose-shaped : (spec : Spec) (c : Bool) (f g : Formula) → IsShaped spec f → IsShaped spec g → IsShaped spec (if c then f else g)
choose-shaped spec true f g h k = h
choose-shaped spec false f g h k = k

connected-shaped : (spec : Spec) (o : Operator) (f g : Formula) (x : Term) → IsShaped spec f → IsShaped spec g → IsShaped spec (connected o f g (Formula.Val x))
connected-shaped spec Operator.And f g x h k = (h, k)
connected-shaped spec Operator.Or f g x h k = (h, k)
connected-shaped spec Operator.Implies f g x h k = (h, k)
connected-shaped spec o f g x h k = tt

term-shaped : (spec : Spec) (stands : Bool) (scope : Scope) (x : Term) → IsTyped spec stands scope x → IsShaped spec (expanded_term x)
term-shaped spec stands scope (Term.Truth b) h = tt
term-shaped spec stands scope (Term.Number n) h = tt
term-shaped spec stands scope (Term.Named x) h = tt
term-shaped spec stands scope (Term.Not x) h =
    choose-shaped spec (has_quantifier x) (Formula.Not (expanded_term x)) (Formula.Val (Term.Not x)) (term-shaped spec stands scope x h.0) tt
term-shaped spec stands scope (Term.Negative x) h = tt
term-shaped spec stands scope (Term.Binary o x y) h =
    choose-shaped spec (has_quantifier x || has_quantifier y) (connected o (expanded_term x) (expanded_term y) (Formula.Val (Term.Binary o x y))) (Formula.Val (Term.Binary o x y))
    (connected-shaped spec o (expanded_term x) (expanded_term y) (Term.Binary o x y)
    (term-shaped spec (passes (kind_of o) stands) scope x h.0) (term-shaped spec (passes (kind_of o) stands) scope y h.1)) tt
term-shaped spec stands scope (Term.Apply f xs) h = tt
term-shaped spec stands scope (Term.Quantified q xs x) h =
    (variables-shaped spec xs h.1.shaped, term-shaped spec stands (bound spec xs scope) x h.2)

-- ---- formulas

pub expanded-shaped : (spec : Spec) (even : Bool) (scope : Scope) (f : Formula) → IsProper spec even scope f → IsShaped spec (expanded f)
expanded-shaped spec even scope (Formula.Truth b) h = tt
expanded-shaped spec even scope (Formula.Val x) h = term-shaped spec true scope x h.0
expanded-shaped spec even scope (Formula.Not f) h = expanded-shaped spec (not even) scope f h
expanded-shaped spec even scope (Formula.And f g) h = (expanded-shaped spec even scope f h.0, expanded-shaped spec even scope g h.1)
expanded-shaped spec even scope (Formula.Or f g) h = (expanded-shaped spec even scope f h.0, expanded-shaped spec even scope g h.1)
expanded-shaped spec even scope (Formula.Implies f g) h = (expanded-shaped spec (not even) scope f h.0, expanded-shaped spec even scope g h.1)
expanded-shaped spec even scope (Formula.Quantified q xs f) h = (variables-shaped spec xs h.0.shaped, expanded-shaped spec even (bound spec xs scope) f h.1)
expanded-shaped spec even scope (Formula.Call X es) h = tt
