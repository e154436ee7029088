-- Small systems, each a text as its abstract syntax.
use Rattle.std.specs.Prelude.{ℕ, List, [], ◌∷◌, None, codes, pos, negsuc, false}
use Rattle.pb_fixpoint.specs.declared.Sign.{Sign}
use Rattle.pb_fixpoint.specs.declared.Sign.TheVariants.{Mu, Nu}
use Rattle.pb_text_tree.specs.declared.operator.Quantifier.TheVariants.{Forall}
use Rattle.pb_text_meaning.specs.Syntax.{Name, Variable, Operator, Term, Terms, Formula, Enumerator, Struct, Alias, Range, Equation, Spec}

abbrev pub X : Name
X = codes "X"

abbrev pub Y : Name
Y = codes "Y"

-- ---- equations without parameters

-- a predicate variable without arguments
abbrev pub call : Name → Formula
call x = Formula.Call x Terms.NoTerms

abbrev pub plain : Sign → Name → Formula → Equation
plain s x f = record { sign = s; name = x; parameters = []; right = f }

-- the system of some equations, of which X is asked for
abbrev pub system : List Equation → Spec
system E = record { sorts = []; ranges = []; equations = E; initial = X; arguments = Terms.NoTerms }

-- nu X = X; init X;
abbrev pub greatest_alone : Spec
greatest_alone = system (plain Nu X (call X) ∷ [])

-- mu X = X; init X;
abbrev pub least_alone : Spec
least_alone = system (plain Mu X (call X) ∷ [])

-- mu X = Y; nu Y = X; init X;
abbrev pub least_dominates : Spec
least_dominates = system (plain Mu X (call Y) ∷ plain Nu Y (call X) ∷ [])

-- nu Y = X; mu X = Y; init X;
abbrev pub greatest_dominates : Spec
greatest_dominates = system (plain Nu Y (call X) ∷ plain Mu X (call Y) ∷ [])

-- nu X = (X && Y) || Y; mu Y = Y; init X;
abbrev pub later_least_is_empty : Spec
later_least_is_empty =
    system (plain Nu X (Formula.Or (Formula.And (call X) (call Y)) (call Y)) ∷ plain Mu Y (call Y)
    ∷ [])

-- nu X = (X => false) => X; init X;
abbrev pub premise_twice : Spec
premise_twice =
    system (plain Nu X (Formula.Implies (Formula.Implies (call X) (Formula.Truth false)) (call X))
    ∷ [])

-- mu X = !(!X); init X;
abbrev pub double_negation : Spec
double_negation = system (plain Mu X (Formula.Not (Formula.Not (call X))) ∷ [])

-- ---- data

abbrev pub enumerator : Name → Enumerator
enumerator x = record { name = x; recogniser = None }

abbrev pub variable : Name → Name → Variable
variable x s = record { name = x; sort = s }

-- the sort Int ranges over low .. high
abbrev pub whole_numbers : ℕ → ℕ → Range
whole_numbers low high = record { name = codes "Int"; low = pos low; high = pos high }

abbrev pub compared : Operator → Name → Name → Formula
compared o x y = Formula.Val (Term.Binary o (Term.Named x) (Term.Named y))

-- a predicate variable with one argument
abbrev pub called : Name → Term → Formula
called x e = Formula.Call x (Terms.Then e Terms.NoTerms)

-- an equation with one parameter
abbrev pub over : Sign → Name → Variable → Formula → Equation
over s x d f = record { sign = s; name = x; parameters = d ∷ []; right = f }

-- %range Int 0 9/pbes mu X(n: Int) = val(n == 0) || X(n - 1); init X(9);
abbrev pub counting_down : Spec
counting_down = record {
  sorts = [];
  ranges = whole_numbers 0 9 ∷ [];
  equations =
      over Mu X (variable (codes "n") (codes "Int")) (Formula.Or
      (Formula.Val (Term.Binary Operator.Equal (Term.Named (codes "n")) (Term.Number 0)))
      (called X (Term.Binary Operator.Minus (Term.Named (codes "n")) (Term.Number 1)))) ∷ [];
  initial = X;
  arguments = Terms.Then (Term.Number 9) Terms.NoTerms;
}

-- %range Int 0 3/pbes nu X(n: Int) = X(n + 1); init X(0);
abbrev pub counting_out : Spec
counting_out = record {
  sorts = [];
  ranges = whole_numbers 0 3 ∷ [];
  equations =
      over Nu X (variable (codes "n") (codes "Int"))
      (called X (Term.Binary Operator.Plus (Term.Named (codes "n")) (Term.Number 1))) ∷ [];
  initial = X;
  arguments = Terms.Then (Term.Number 0) Terms.NoTerms;
}

-- sort D = struct a | b | c; pbes nu X(d: D) = forall e: D . val(e != d) => X(e); init X(a);
abbrev pub all_others : Spec
all_others = record {
  sorts = record {
    name = codes "D";
    sort = Struct (enumerator (codes "a") ∷ enumerator (codes "b") ∷ enumerator (codes "c") ∷ []);
  } ∷ [];
  ranges = [];
  equations =
      over Nu X (variable (codes "d") (codes "D"))
      (Formula.Quantified Forall (variable (codes "e") (codes "D") ∷ [])
      (Formula.Implies (compared Operator.NotEqual (codes "e") (codes "d"))
      (called X (Term.Named (codes "e"))))) ∷ [];
  initial = X;
  arguments = Terms.Then (Term.Named (codes "a")) Terms.NoTerms;
}

-- sort S = struct s0 | s1; pbes nu X(s: S) = Y(s); mu Y(s: S) = (val(s == s0) && X(s1)) || (val(s
-- == s1) && Y(s0)); init X(s0);
abbrev pub two_states : Spec
two_states = record {
  sorts = record
      { name = codes "S"; sort = Struct (enumerator (codes "s0") ∷ enumerator (codes "s1") ∷ []) }
      ∷ [];
  ranges = [];
  equations =
      over Nu X (variable (codes "s") (codes "S")) (called Y (Term.Named (codes "s"))) ∷
      over Mu Y (variable (codes "s") (codes "S")) (Formula.Or
      (Formula.And (compared Operator.Equal (codes "s") (codes "s0"))
      (called X (Term.Named (codes "s1"))))
      (Formula.And (compared Operator.Equal (codes "s") (codes "s1"))
      (called Y (Term.Named (codes "s0"))))) ∷ [];
  initial = X;
  arguments = Terms.Then (Term.Named (codes "s0")) Terms.NoTerms;
}

-- nu X = val(-7 div 2 == -4 && -7 mod 2 == 1) && X; init X;
abbrev pub rounding_down : Spec
rounding_down =
    let seven : Term = Term.Negative (Term.Number 7) in
    let quotient_is : Term =
    Term.Binary Operator.Equal (Term.Binary Operator.Div seven (Term.Number 2))
    (Term.Negative (Term.Number 4)) in
    let remainder_is : Term =
    Term.Binary Operator.Equal (Term.Binary Operator.Mod seven (Term.Number 2)) (Term.Number 1) in
    system (plain
    Nu X (Formula.And (Formula.Val (Term.Binary Operator.And quotient_is remainder_is)) (call X))
    ∷ [])

-- sort A = B; sort B = Int; with Int from -1 to 1
abbrev pub alias_of_alias : Spec
alias_of_alias = record {
  sorts = record { name = codes "A"; sort = Alias (codes "B") }
      ∷ record { name = codes "B"; sort = Alias (codes "Int") } ∷ [];
  ranges = record { name = codes "Int"; low = negsuc 0; high = pos 1 } ∷ [];
  equations = [];
  initial = X;
  arguments = Terms.NoTerms;
}
