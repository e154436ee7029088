-- The bounds of names, of arguments and of operators.
use Rattle.std.proofs.Common.{◌≡◌, ◌∙◌, ◌<◌, ◌≤◌, ℕ, zero, suc, Bool, List, [], ◌∷◌, Option, Some, None, length, map, drop, get_or, refl, ap, arith}
use Rattle.std.specs.Prelude.{if◌then◌else◌}
use Rattle.pb_base_values.specs.Interval.{IntegerInterval}
use Rattle.pb_text_tree.specs.declared.operator.Connective.{Connective}
use Rattle.pb_text_tree.specs.declared.operator.Connective.TheVariants as connective
use Rattle.pb_text_tree.specs.declared.term.Argument.{Argument}
use Rattle.pb_text_meaning.specs.Erase.{of_connective}
use Rattle.pb_text_meaning.specs.Syntax.{Name, Spec}
use Rattle.pb_protocol_folding.specs.View as tree
use Rattle.pb_protocol_unfolder_terms.specs.declared.context.Context.{Context}
use Rattle.pb_protocol_unfolder_terms.specs.declared.context.StateVariable.{StateVariable}
use Rattle.pb_protocol_unfolder_terms.specs.Bounds.{at, either, interval_among, may_be_of, operator_interval, sort_interval, truths}
use Rattle.pb_protocol_unfolder_terms.specs.Contexts.{interval_in, intervals_in, state_variable_of}

-- the state variables from the k-th on
abbrev pub variables-from : Spec → Bool → List StateVariable → Name → ℕ → Option IntegerInterval
variables-from S p ys x k = interval_among S p (map state_variable_of (drop k ys)) x

-- the one at a place, and those behind it
pub variables-next : (S : Spec) (p : Bool) (ys : List StateVariable) (x : Name) (k : ℕ) (y : StateVariable) → k < length ys → y ≡ get_or ys k y
    → {behind : Option IntegerInterval} → behind ≡ variables-from S p ys x (suc k)
    → (if may_be_of p (state_variable_of y) x then either (sort_interval S y.sort.now) behind else behind) ≡ variables-from S p ys x k
variables-next S p ys x k y within is same =
    ap (λ i. if may_be_of p (state_variable_of y) x then either (sort_interval S y.sort.now) i else i) same ∙ by ys k within is
  where
    by : (ys : List StateVariable) (k : ℕ) → k < length ys → y ≡ get_or ys k y
        → (if may_be_of p (state_variable_of y) x then either (sort_interval S y.sort.now) (variables-from S p ys x (suc k)) else variables-from S p ys x (suc k)) ≡ variables-from S p ys x k
    by [] k within is = absurd (omega (arith, within))
    by (z ∷ ys) zero within is =
        ap (λ (v : StateVariable). if may_be_of p (state_variable_of v) x then either (sort_interval S v.sort.now)
        (interval_among S p (map state_variable_of ys) x) else interval_among S p (map state_variable_of ys) x) is
    by (z ∷ ys) (suc k) within is = by ys k (omega (arith, within)) is

pub variables-none : (S : Spec) (p : Bool) (ys : List StateVariable) (x : Name) → None ≡ variables-from S p ys x (length ys)
variables-none S p [] x = refl
variables-none S p (y ∷ ys) x = variables-none S p ys x

pub argument-none : (c : Context) (given : List Argument) (k : ℕ) → length given ≤ k → None ≡ at (intervals_in c (tree.terms_of given)) k
argument-none c [] k e = refl
argument-none c (a ∷ given) zero e = absurd (omega (arith, e))
argument-none c (a ∷ given) (suc k) e = argument-none c given k (omega (arith, e))

pub argument-some : (c : Context) (given : List Argument) (k : ℕ) (a : Argument) → k < length given
    → a ≡ get_or given k a → interval_in c (tree.term_of a.term) ≡ at (intervals_in c (tree.terms_of given)) k
argument-some c [] k a within e = absurd (omega (arith, within))
argument-some c (b ∷ given) zero a within e = ap (λ (d : Argument). interval_in c (tree.term_of d.term)) e
argument-some c (b ∷ given) (suc k) a within e = argument-some c given k a (omega (arith, within)) e

-- a connective gives a truth value
pub connective-truths : (k : Connective) (i j : Option IntegerInterval) → operator_interval (of_connective k) i j ≡ Some truths
connective-truths connective.And i j = refl
connective-truths connective.Or i j = refl
connective-truths connective.Implies i j = refl
