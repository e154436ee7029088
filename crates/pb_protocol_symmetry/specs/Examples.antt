-- The two caches of pb_protocol_meaning, which may be permuted although one of them owns the line
-- at first; and nodes that vote, where an assignment for all nodes may be one for each, or one that
-- the last node wins.
use Rattle.std.specs.Prelude.{false, pos, [], ◌∷◌, codes}
use Rattle.pb_base_values.specs.Carrier.{Carrier}
use Rattle.pb_text_meaning.specs.Syntax.{Name, Operator, Term, Terms}
use Rattle.pb_model_meaning.specs.Steps.{State}
use Rattle.pb_protocol_meaning.specs.Syntax.{Assignment, Step, Protocol}
use Rattle.pb_protocol_meaning.specs.Examples.{c1, owner, caches, i, node, said, votes}
use Rattle.pb_protocol_meaning.specs.Examples.{apply, votes_counted, say}
use Rattle.pb_protocol_symmetry.specs.Kinds.{Signatures}
use Rattle.pb_protocol_symmetry.specs.ProtocolTest.{signatures_in}

abbrev pub cache_sort : Name
cache_sort = codes "Cache"

abbrev pub both_caches : Carrier
both_caches = pos 0 ∷ pos 1 ∷ []

abbrev pub signatures : Signatures
signatures = signatures_in caches cache_sort both_caches

-- owner == c1, and owner < owner
abbrev pub owns_c1 : Term
owns_c1 = Term.Binary Operator.Equal (Term.Named owner) (Term.Named c1)

abbrev pub owner_below : Term
owner_below = Term.Binary Operator.Less (Term.Named owner) (Term.Named owner)

-- ---- copies of assignments, and a count

abbrev pub node_sort : Name
node_sort = codes "Node"

abbrev pub three_nodes : Carrier
three_nodes = pos 1 ∷ pos 2 ∷ pos 3 ∷ []

abbrev pub seen : Name
seen = codes "seen"

abbrev pub leader : Name
leader = codes "leader"

-- forall i: Node . seen(i) := said(i)
abbrev pub all_seen : Assignment
all_seen = record {
  variables = node ∷ [];
  variable = seen;
  index = Terms.Then (Term.Named i) Terms.NoTerms;
  term = apply said (Term.Named i);
}

-- forall i: Node . leader := i
abbrev pub all_lead : Assignment
all_lead = record {
  variables = node ∷ [];
  variable = leader;
  index = Terms.NoTerms;
  term = Term.Named i;
}

-- votes == 2 -> ..
abbrev pub step_by : Assignment → Step
step_by a = record {
  name = codes "publish";
  variables = [];
  guard = Term.Binary Operator.Equal (Term.Named votes) (Term.Number 2);
  assignments = a ∷ [];
}

-- sort Node; 1..3; define votes = count i: Node . said(i);
-- model state said(i: Node): Bool, seen(i: Node): Bool, leader: Node;
-- step say(i: Node): !said(i) -> said(i) := true; publish: votes == 2 -> ..; init ..
abbrev pub ballot : Assignment → Protocol
ballot a = record {
  sorts = [];
  ranges = record { name = node_sort; low = pos 1; high = pos 3 } ∷ [];
  variables =
      record { name = said; indices = node ∷ []; sort = codes "Bool" } ∷
      record { name = seen; indices = node ∷ []; sort = codes "Bool" } ∷
      record { name = leader; indices = []; sort = node_sort } ∷ [];
  definitions = record { name = votes; parameters = []; term = votes_counted } ∷ [];
  steps = say ∷ step_by a ∷ [];
  initial =
      Terms.Then (Term.Truth false)
      (Terms.Then (Term.Truth false) (Terms.Then (Term.Number 1) Terms.NoTerms));
  properties = [];
}

-- nodes 1 and 2 have said it and node 1 leads; and the same where nodes 1 and 3 are exchanged
abbrev pub first_leads : State
first_leads =
    pos 1 ∷ pos 1 ∷ pos 0 ∷ pos 0 ∷ pos 0 ∷ pos 0 ∷ pos 1 ∷ []

abbrev pub third_leads : State
third_leads =
    pos 0 ∷ pos 1 ∷ pos 1 ∷ pos 0 ∷ pos 0 ∷ pos 0 ∷ pos 3 ∷ []
