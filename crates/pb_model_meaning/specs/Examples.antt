-- Small models with their properties, each as its abstract syntax.
use Rattle.std.specs.Prelude.{true, List, [], ◌∷◌, None, codes, pos}
use Rattle.pb_fixpoint.specs.declared.Sign.TheVariants.{Mu, Nu}
use Rattle.pb_text_meaning.specs.Syntax.{Name, Variable, Operator, Term, Terms, Struct, Enumerator}
use Rattle.pb_model_meaning.specs.Syntax.{Assignment, Step, StepSet, Formula, Model}

-- ---- words of the examples

abbrev pub enumerator : Name → Enumerator
enumerator x = record { name = x; recogniser = None }

abbrev pub variable : Name → Name → Variable
variable x s = record { name = x; sort = s }

-- x == y, x != y, x < y, two facts at once, x + 1
abbrev pub same : Name → Name → Term
same x y = Term.Binary Operator.Equal (Term.Named x) (Term.Named y)

abbrev pub differs : Name → Name → Term
differs x y = Term.Binary Operator.NotEqual (Term.Named x) (Term.Named y)

abbrev pub less : Name → Name → Term
less x y = Term.Binary Operator.Less (Term.Named x) (Term.Named y)

abbrev pub both : Term → Term → Term
both x y = Term.Binary Operator.And x y

abbrev pub next : Name → Term
next x = Term.Binary Operator.Plus (Term.Named x) (Term.Number 1)

-- x := e
abbrev pub becomes : Name → Term → Assignment
becomes x e = record { variable = x; term = e }

-- a step without variables of its own
abbrev pub step : Name → Term → List Assignment → Step
step a guard assignments =
    record { name = a; variables = []; guard = guard; assignments = assignments }

abbrev pub p : Name
p = codes "p"

abbrev pub q : Name
q = codes "q"

abbrev pub n : Name
n = codes "n"

abbrev pub k : Name
k = codes "k"

-- nu X . f and mu Y . f, and their variables
abbrev pub greatest : Formula → Formula
greatest f = Formula.Fixpoint Nu (codes "X") f

abbrev pub least : Formula → Formula
least f = Formula.Fixpoint Mu (codes "Y") f

abbrev pub X : Formula
X = Formula.Named (codes "X")

abbrev pub Y : Formula
Y = Formula.Named (codes "Y")

-- nu X . f && [true] X: f in each state that is reached
abbrev pub always : Formula → Formula
always f = greatest (Formula.And f (Formula.Box StepSet.All X))

-- <true> true: some step can be taken
abbrev pub some_step : Formula
some_step = Formula.Diamond StepSet.All (Formula.Truth true)

-- ---- a lock of two processes, each with a test and an entry in one step

abbrev pub idle : Name
idle = codes "idle"

abbrev pub trying : Name
trying = codes "trying"

abbrev pub critical : Name
critical = codes "critical"

-- try1: p == idle -> p := trying; enter1: p == trying && q != critical -> p := critical;
-- leave1: p == critical -> p := idle; and so of q
abbrev pub lock : Model
lock = record {
  sorts = record {
    name = codes "Place";
    sort = Struct (enumerator idle ∷ enumerator trying ∷ enumerator critical ∷ []);
  } ∷ [];
  ranges = [];
  variables = variable p (codes "Place") ∷ variable q (codes "Place") ∷ [];
  steps =
      step (codes "try1") (same p idle) (becomes p (Term.Named trying) ∷ []) ∷
      step (codes "enter1") (both (same p trying) (differs q critical))
      (becomes p (Term.Named critical) ∷ []) ∷
      step (codes "leave1") (same p critical) (becomes p (Term.Named idle) ∷ []) ∷
      step (codes "try2") (same q idle) (becomes q (Term.Named trying) ∷ []) ∷
      step (codes "enter2") (both (same q trying) (differs p critical))
      (becomes q (Term.Named critical) ∷ []) ∷
      step (codes "leave2") (same q critical) (becomes q (Term.Named idle) ∷ []) ∷ [];
  initial = Terms.Then (Term.Named idle) (Terms.Then (Term.Named idle) Terms.NoTerms);
  properties = [];
}

-- nu X . !(p == critical && q == critical) && [true] X
abbrev pub mutual_exclusion : Formula
mutual_exclusion = always (Formula.Not (Formula.Data (both (same p critical) (same q critical))))

-- nu X . <true> true && [true] X
abbrev pub no_deadlock : Formula
no_deadlock = always some_step

-- nu X . (mu Y . <enter1> true || <true> Y) && [true] X
abbrev pub can_always_enter : Formula
can_always_enter =
    let enter1 = Formula.Diamond (StepSet.Only (codes "enter1")) (Formula.Truth true) in
    always (least (Formula.Or enter1 (Formula.Diamond StepSet.All Y)))

-- nu X . (p == trying => mu Y . <true> true && [!enter1] Y) && [true] X
abbrev pub always_enters : Formula
always_enters =
    let others = StepSet.Complement (StepSet.Only (codes "enter1")) in
    let enters = least (Formula.And some_step (Formula.Box others Y)) in
    always (Formula.Implies (Formula.Data (same p trying)) enters)

-- ---- steps

-- %range Int 0 3/state p, q: Int, from 1 and 2; swap: true -> p := q, q := p
abbrev pub swapping : Model
swapping = record {
  sorts = [];
  ranges = record { name = codes "Int"; low = pos 0; high = pos 3 } ∷ [];
  variables = variable p (codes "Int") ∷ variable q (codes "Int") ∷ [];
  steps =
      step (codes "swap") (Term.Truth true)
      (becomes p (Term.Named q) ∷ becomes q (Term.Named p) ∷ []) ∷ [];
  initial = Terms.Then (Term.Number 1) (Terms.Then (Term.Number 2) Terms.NoTerms);
  properties = [];
}

-- %range Int 0 3/state n: Int, from 0; set(k: Int): n < k -> n := k
abbrev pub setting : Model
setting = record {
  sorts = [];
  ranges = record { name = codes "Int"; low = pos 0; high = pos 3 } ∷ [];
  variables = variable n (codes "Int") ∷ [];
  steps = record {
    name = codes "set";
    variables = variable k (codes "Int") ∷ [];
    guard = less n k;
    assignments = becomes n (Term.Named k) ∷ [];
  } ∷ [];
  initial = Terms.Then (Term.Number 0) Terms.NoTerms;
  properties = [];
}

-- %range Int 0 0/state n: Int, from 0; up: true -> n := n + 1
abbrev pub leaving : Model
leaving = record {
  sorts = [];
  ranges = record { name = codes "Int"; low = pos 0; high = pos 0 } ∷ [];
  variables = variable n (codes "Int") ∷ [];
  steps = step (codes "up") (Term.Truth true) (becomes n (next n) ∷ []) ∷ [];
  initial = Terms.Then (Term.Number 0) Terms.NoTerms;
  properties = [];
}

-- nu X . <true> X: the model has a run without end
abbrev pub runs_for_ever : Formula
runs_for_ever = greatest (Formula.Diamond StepSet.All X)
