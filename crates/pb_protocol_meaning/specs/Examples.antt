-- Two caches of one line, a round of votes, and a counter that leaves its range, as they are
-- written.
use Rattle.std.specs.Prelude.{true, false, pos, List, [], ◌∷◌, Some, None, codes}
use Rattle.pb_fixpoint.specs.declared.Sign.TheVariants.{Nu}
use Rattle.pb_text_tree.specs.declared.operator.Quantifier.TheVariants.{Forall, Exists}
use Rattle.pb_text_meaning.specs.Syntax.{Name, Variable, Operator, Term, Terms, Struct}
use Rattle.pb_text_meaning.specs.Syntax.{SortDeclaration}
use Rattle.pb_model_meaning.specs.Steps.{State}
use Rattle.pb_model_meaning.specs.Examples.{enumerator, variable, both, same, differs, next, n}
use Rattle.pb_text_counting.specs.Counting.{counting}
use Rattle.pb_protocol_meaning.specs.Syntax.{Definition, Assignment, Step, StepSet, Formula}
use Rattle.pb_protocol_meaning.specs.Syntax.{Protocol}

-- ---- words

abbrev pub c : Name
c = codes "c"

abbrev pub d : Name
d = codes "d"

abbrev pub c1 : Name
c1 = codes "c1"

abbrev pub c2 : Name
c2 = codes "c2"

abbrev pub invalid : Name
invalid = codes "invalid"

abbrev pub shared : Name
shared = codes "shared"

abbrev pub modified : Name
modified = codes "modified"

abbrev pub owner : Name
owner = codes "owner"

abbrev pub cache : Name → Variable
cache x = variable x (codes "Cache")

-- f(x)
abbrev pub apply : Name → Term → Term
apply f x = Term.Apply f (Terms.Then x Terms.NoTerms)

-- line(x) == l
abbrev pub line_is : Name → Name → Term
line_is x l = Term.Binary Operator.Equal (apply (codes "line") (Term.Named x)) (Term.Named l)

-- line(x) := l, and x := e
abbrev pub line_becomes : Name → Name → Assignment
line_becomes x l = record {
  variables = [];
  variable = codes "line";
  index = Terms.Then (Term.Named x) Terms.NoTerms;
  term = Term.Named l;
}

abbrev pub becomes : Name → Term → Assignment
becomes x e = record { variables = []; variable = x; index = Terms.NoTerms; term = e }

abbrev pub negated : Term → Term
negated x = Term.Not x

-- ---- the caches

-- define other(p: Cache) = exists c: Cache . c != p && line(c) == modified;
--        quiet = forall c: Cache . !(line(c) == modified)
abbrev pub definitions : List Definition
definitions =
    record {
      name = codes "other";
      parameters = cache (codes "p") ∷ [];
      term = Term.Quantified Exists (cache c ∷ [])
          (both (differs c (codes "p")) (line_is c modified));
    } ∷
    record {
      name = codes "quiet";
      parameters = [];
      term = Term.Quantified Forall (cache c ∷ []) (negated (line_is c modified));
    } ∷ []

-- read(c: Cache): line(c) == invalid && !other(c) -> line(c) := shared;
-- write(c: Cache): line(c) == shared && quiet -> line(c) := modified, owner := c;
-- grant(c, d: Cache): line(c) == invalid && line(d) == modified ->
--   line(d) := invalid, line(c) := modified, owner := c
abbrev pub read : Step
read = record {
  name = codes "read";
  variables = cache c ∷ [];
  guard = both (line_is c invalid) (negated (apply (codes "other") (Term.Named c)));
  assignments = line_becomes c shared ∷ [];
}

abbrev pub write : Step
write = record {
  name = codes "write";
  variables = cache c ∷ [];
  guard = both (line_is c shared) (Term.Named (codes "quiet"));
  assignments = line_becomes c modified ∷ becomes owner (Term.Named c) ∷ [];
}

abbrev pub grant : Step
grant = record {
  name = codes "grant";
  variables = cache c ∷ cache d ∷ [];
  guard = both (line_is c invalid) (line_is d modified);
  assignments =
      line_becomes d invalid ∷ line_becomes c modified ∷ becomes owner (Term.Named c) ∷ [];
}

-- sort Cache = struct c1 | c2; Line = struct invalid | shared | modified;
-- model state line(c: Cache): Line, owner: Cache; .. init invalid, c1;
abbrev pub sorts : List SortDeclaration
sorts =
    record {
      name = codes "Cache";
      sort = Struct (enumerator c1 ∷ enumerator c2 ∷ []);
    } ∷
    record {
      name = codes "Line";
      sort = Struct (enumerator invalid ∷ enumerator shared ∷ enumerator modified ∷ []);
    } ∷ []

abbrev pub caches : Protocol
caches = record {
  sorts = sorts;
  ranges = [];
  variables =
      record { name = codes "line"; indices = cache c ∷ []; sort = codes "Line" } ∷
      record { name = owner; indices = []; sort = codes "Cache" } ∷ [];
  definitions = definitions;
  steps = read ∷ write ∷ grant ∷ [];
  initial = Terms.Then (Term.Named invalid) (Terms.Then (Term.Named c1) Terms.NoTerms);
  properties = [];
}

-- line(c1) is invalid and line(c2) is modified, and c2 is the owner
abbrev pub owned : State
owned = pos 0 ∷ pos 2 ∷ pos 1 ∷ []

-- line(owner), other(c), and a name that is nothing here
abbrev pub owners_line : Term
owners_line = apply (codes "line") (Term.Named owner)

abbrev pub other_than_c : Term
other_than_c = apply (codes "other") (Term.Named c)

abbrev pub line2 : Term
line2 = Term.Named (codes "line'c2")

-- nu X . (forall c, d: Cache . line(c) == modified && line(d) == modified => c == d) && [true] X
abbrev pub one_writer : Formula
one_writer =
    Formula.Fixpoint Nu (codes "X")
    (Formula.And
    (Formula.Quantified Forall (cache c ∷ cache d ∷ [])
    (Formula.Implies (Formula.Data (both (line_is c modified) (line_is d modified)))
    (Formula.Data (same c d))))
    (Formula.Box StepSet.All (Formula.Named (codes "X"))))

-- forall c: Cache . [read(c)] line(c) == shared
abbrev pub reads_share : Formula
reads_share =
    Formula.Quantified Forall (cache c ∷ [])
    (Formula.Box (StepSet.With (codes "read") (Some (Term.Named c) ∷ []))
    (Formula.Data (line_is c shared)))

-- <read(_)> true
abbrev pub some_read : Formula
some_read = Formula.Diamond (StepSet.With (codes "read") (None ∷ [])) (Formula.Truth true)

-- ---- a round of votes

abbrev pub i : Name
i = codes "i"

abbrev pub said : Name
said = codes "said"

abbrev pub round : Name
round = codes "round"

abbrev pub limit : Name
limit = codes "limit"

abbrev pub votes : Name
votes = codes "votes"

abbrev pub node : Variable
node = variable i (codes "Node")

-- count i: Node . said(i)
abbrev pub votes_counted : Term
votes_counted =
    Term.Apply counting
    (Terms.Then (Term.Quantified Exists (node ∷ []) (apply said (Term.Named i))) Terms.NoTerms)

-- said(t) := b, and forall i: Node . said(i) := false
abbrev pub said_becomes : Term → Term → Assignment
said_becomes t e = record {
  variables = [];
  variable = said;
  index = Terms.Then t Terms.NoTerms;
  term = e;
}

abbrev pub none_said : Assignment
none_said = record {
  variables = node ∷ [];
  variable = said;
  index = Terms.Then (Term.Named i) Terms.NoTerms;
  term = Term.Truth false;
}

-- say(i: Node): !said(i) -> said(i) := true;
-- reset: votes == limit -> round := votes, forall i: Node . said(i) := false, said(round) := true
abbrev pub say : Step
say = record {
  name = codes "say";
  variables = node ∷ [];
  guard = negated (apply said (Term.Named i));
  assignments = said_becomes (Term.Named i) (Term.Truth true) ∷ [];
}

abbrev pub reset : Step
reset = record {
  name = codes "reset";
  variables = [];
  guard = same votes limit;
  assignments =
      becomes round (Term.Named votes) ∷ none_said
      ∷ said_becomes (Term.Named round) (Term.Truth true) ∷ [];
}

-- limit - 1
abbrev pub before_limit : Term
before_limit = Term.Binary Operator.Minus (Term.Named limit) (Term.Number 1)

-- sort Node; 1..3; define limit = 3; votes = count i: Node . said(i);
-- model state said(i: Node): Bool, round: Node; .. init i == limit, limit - 1;
abbrev pub round_of_votes : Protocol
round_of_votes = record {
  sorts = [];
  ranges = record { name = codes "Node"; low = pos 1; high = pos 3 } ∷ [];
  variables =
      record { name = said; indices = node ∷ []; sort = codes "Bool" } ∷
      record { name = round; indices = []; sort = codes "Node" } ∷ [];
  definitions =
      record { name = limit; parameters = []; term = Term.Number 3 } ∷
      record { name = votes; parameters = []; term = votes_counted } ∷ [];
  steps = say ∷ reset ∷ [];
  initial =
      Terms.Then (same i limit) (Terms.Then before_limit Terms.NoTerms);
  properties = [];
}

-- all have said it in round 2, and all but the first
abbrev pub all_said : State
all_said = pos 1 ∷ pos 1 ∷ pos 1 ∷ pos 2 ∷ []

abbrev pub others_said : State
others_said = pos 0 ∷ pos 1 ∷ pos 1 ∷ pos 2 ∷ []

-- <say(limit - 1)> said(limit - 1)
abbrev pub second_says : Formula
second_says =
    Formula.Diamond (StepSet.With (codes "say") (Some before_limit ∷ []))
    (Formula.Data (apply said before_limit))

-- ---- a counter

-- sort N; 0..0; model state n: N; step up: true -> n := n + 1; init 0;
abbrev pub counter : Protocol
counter = record {
  sorts = [];
  ranges = record { name = codes "N"; low = pos 0; high = pos 0 } ∷ [];
  variables = record { name = n; indices = []; sort = codes "N" } ∷ [];
  definitions = [];
  steps =
      record {
        name = codes "up";
        variables = [];
        guard = Term.Truth true;
        assignments = becomes n (next n) ∷ [];
      } ∷ [];
  initial = Terms.Then (Term.Number 0) Terms.NoTerms;
  properties = [];
}

-- [true] true, and [true] (forall k: N . true)
abbrev pub always : Formula
always = Formula.Box StepSet.All (Formula.Truth true)

abbrev pub always_over_one : Formula
always_over_one =
    Formula.Box StepSet.All
    (Formula.Quantified Forall (variable (codes "k") (codes "N") ∷ []) (Formula.Truth true))
