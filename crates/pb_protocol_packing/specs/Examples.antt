-- Small models with their groups, and what packing makes of them.
use Rattle.std.specs.Prelude.{true, false, ℕ, ◌^◌, List, [], ◌∷◌, map, replicate, codes, pos}
use Rattle.pb_text_tree.specs.declared.operator.Quantifier.TheVariants.{Exists}
use Rattle.pb_text_meaning.specs.Syntax.{Name, Variable, Operator, Term, Terms, Struct}
use Rattle.pb_model_meaning.specs.Syntax.{Model, StepSet, Formula}
use Rattle.pb_model_meaning.specs.Examples.{enumerator, variable, same, differs, both, next}
use Rattle.pb_model_meaning.specs.Examples.{becomes, step}
use Rattle.pb_model_meaning.specs.Examples.{p, n, k, idle, trying, critical}
use Rattle.pb_protocol_packing.specs.Numbers.{Kind}
use Rattle.pb_protocol_packing.specs.Packing.{Member, Group, packed_by}

abbrev pub flag : Name
flag = codes "flag"

-- sort Place = struct idle | trying | critical; %range Int 1 4
-- state p: Place, flag: Bool, n: Int, from idle, true and 1;
-- go: flag -> p := trying, flag := false; up: !flag -> n := n + 1, p := idle;
-- back(k: Int): exists flag: Bool . flag => k < n -> n := k, flag := true
abbrev pub machine : Model
machine = record {
  sorts = record {
    name = codes "Place";
    sort = Struct (enumerator idle ∷ enumerator trying ∷ enumerator critical ∷ []);
  } ∷ [];
  ranges = record { name = codes "Int"; low = pos 1; high = pos 4 } ∷ [];
  variables =
      variable p (codes "Place") ∷ variable flag (codes "Bool") ∷ variable n (codes "Int") ∷ [];
  steps =
      step (codes "go") (Term.Named flag)
      (becomes p (Term.Named trying) ∷ becomes flag (Term.Not (Term.Named flag)) ∷ []) ∷
      step (codes "up") (Term.Not (Term.Named flag))
      (becomes n (next n) ∷ becomes p (Term.Named idle) ∷ []) ∷
      record {
        name = codes "back";
        variables = variable k (codes "Int") ∷ [];
        guard = Term.Quantified Exists (variable flag (codes "Bool") ∷ [])
            (both (Term.Named flag) (Term.Binary Operator.Less (Term.Named k) (Term.Named n)));
        assignments = becomes n (Term.Named k) ∷ becomes flag (Term.Truth true) ∷ [];
      } ∷ [];
  initial = Terms.Then (Term.Named idle) (Terms.Then (Term.Truth true)
      (Terms.Then (Term.Number 1) Terms.NoTerms));
  properties = [];
}

abbrev pub member_p : Member
member_p = record {
  variable = variable p (codes "Place");
  kind = Kind.Enumeration (idle ∷ trying ∷ critical ∷ []);
  low = pos 0;
  size = 3;
}

-- one group of the three, whose number is below 3 * 2 * 4
abbrev pub groups : List Group
groups =
    Group.Joined (variable (codes "s") (codes "S"))
    (member_p ∷ record {
      variable = variable flag (codes "Bool");
      kind = Kind.Boolean;
      low = pos 0;
      size = 2;
    } ∷ record {
      variable = variable n (codes "Int");
      kind = Kind.Whole;
      low = pos 1;
      size = 4;
    } ∷ []) ∷ []

abbrev pub packed_machine : Model
packed_machine = packed_by groups machine

-- p == trying and n, as the packed machine says them: s div 8 == 1 and s mod 4 + 1
abbrev pub is_trying : Term
is_trying = same p trying

abbrev pub packed_is_trying : Term
packed_is_trying =
    Term.Binary Operator.Equal
    (Term.Binary Operator.Div (Term.Named (codes "s")) (Term.Number 8)) (Term.Number 1)

abbrev pub packed_n : Term
packed_n =
    Term.Binary Operator.Plus
    (Term.Binary Operator.Mod (Term.Named (codes "s")) (Term.Number 4)) (Term.Number 1)

-- p := k is tested, where k is a variable of a step
abbrev pub tested_p : Term
tested_p =
    Term.Binary Operator.Or (same k idle)
    (Term.Binary Operator.Or (same k trying) (same k critical))

-- <go> p != idle
abbrev pub went : Formula
went = Formula.Diamond (StepSet.Only (codes "go")) (Formula.Data (differs p idle))

-- ---- nine flags in a ring

abbrev pub bits : List Name
bits =
    codes "a" ∷ codes "b" ∷ codes "c" ∷ codes "d" ∷ codes "e" ∷ codes "f" ∷ codes "g" ∷ codes "h"
    ∷ codes "i" ∷ []

abbrev pub falses : List Name → Terms
falses [] = Terms.NoTerms
falses (x ∷ xs) = Terms.Then (Term.Truth false) (falses xs)

-- state a, b, .. i: Bool, from true and false eight times; move: a -> b := true, a := false;
-- turn: b -> b := false, i := a || c
abbrev pub ring : Model
ring = record {
  sorts = [];
  ranges = [];
  variables = map (λ x. variable x (codes "Bool")) bits;
  steps =
      step (codes "move") (Term.Named (codes "a"))
      (becomes (codes "b") (Term.Truth true) ∷ becomes (codes "a") (Term.Truth false) ∷ []) ∷
      step (codes "turn") (Term.Named (codes "b"))
      (becomes (codes "b") (Term.Truth false)
      ∷ becomes (codes "i")
      (Term.Binary Operator.Or (Term.Named (codes "a")) (Term.Named (codes "c")))
      ∷ []) ∷ [];
  initial = Terms.Then (Term.Truth true) (falses (codes "b" ∷ codes "c" ∷ codes "d" ∷ codes "e"
      ∷ codes "f" ∷ codes "g" ∷ codes "h" ∷ codes "i" ∷ []));
  properties = [];
}

abbrev pub ring_variables : List Variable
ring_variables =
    variable (codes "a'") (codes "a'") ∷ map (λ x. variable x (codes "Bool"))
    (codes "c" ∷ codes "d" ∷ codes "e" ∷ codes "f" ∷ codes "g" ∷ codes "h" ∷ codes "i" ∷ [])

-- <move> <turn> !(a || b || i)
abbrev pub one_moves : Formula
one_moves =
    Formula.Diamond (StepSet.Only (codes "move")) (Formula.Diamond (StepSet.Only (codes "turn"))
    (Formula.Not (Formula.Data (Term.Binary Operator.Or (Term.Named (codes "a"))
    (Term.Binary Operator.Or (Term.Named (codes "b")) (Term.Named (codes "i")))))))

-- ---- nine variables, of which two have too many values together

abbrev pub sized : ℕ → Member
sized n = record {
  variable = variable k (codes "Int");
  kind = Kind.Whole;
  low = pos 0;
  size = n;
}

abbrev pub wide : List Member
wide = sized (2 ^ 16) ∷ sized (2 ^ 16) ∷ replicate 7 (sized 1)
