-- Small systems by hand: the game of each, the lists of a certificate, and the values of its
-- instances.
use Rattle.std.specs.Prelude.{◌≡◌, ℕ, zero, suc, Bool, true, false, List, [], ◌∷◌}
use Rattle.pb_fixpoint_trees.specs.declared.player.Player.TheVariants.{Even, Odd}
use Rattle.pb_fixpoint_trees.specs.declared.player.Player.{Player}
use Rattle.pb_game.specs.declared.Game.{Game}
use Rattle.pb_game.specs.declared.certificate.Solution.{Solution}
use Rattle.pb_game.specs.Certificates.{IsCertificate}
use Rattle.pb_fixpoint_trees.specs.declared.junction.Junction.TheVariants.{Conjunction, Disjunction}
use Rattle.pb_fixpoint_trees.specs.Tree.{Yes, Call, End, LeafThen, BracketThen, Tree, Single, Root}
use Rattle.pb_fixpoint_trees.specs.Equations.{Signature, solved}
use Rattle.pb_fixpoint_trees.specs.Examples.{mu, nu, tree_at}
use Rattle.pb_fixpoint_trees.specs.Game.{Vertex, game_vertices, false_sink, true_sink}
use Rattle.pb_fixpoint_trees.specs.Rows.{Row, AreRows}
use Rattle.pb_strategy.specs.Vertices.{HasVertices}

-- the rows of all instances from n on, with these trees
abbrev pub rows_from : ℕ → List Tree → List Row
rows_from n [] = []
rows_from n (tree ∷ trees) = record { number = n; tree = tree } ∷ rows_from (suc n) trees

abbrev pub values_from : List Signature → List Tree → ℕ → ℕ → List Bool
values_from signatures trees n zero = []
values_from signatures trees n (suc count) =
    solved signatures (tree_at trees) n ∷ values_from signatures trees (suc n) count

abbrev pub vertex : Player → ℕ → List ℕ → Vertex
vertex owner priority successors =
    record { owner = owner; priority = priority; successors = successors }

-- the lists of a solution
pub record Lists : Type 0 where
  pub winner : List Player
  pub choice : List ℕ
  pub counts : List ℕ

pub record HasLists (s : Solution) (lists : Lists) : Type 0 where
  pub winner : s.winner.items ≡ lists.winner
  pub choice : s.choice.items ≡ lists.choice
  pub counts : s.counts.items ≡ lists.counts

-- the lists are a certificate of each game with these vertices
abbrev pub Certify : Lists → List Vertex → Type 0
Certify lists vertices =
    (g : Game) (s : Solution) → HasVertices g vertices → HasLists s lists → IsCertificate g s

-- the lists are a certificate of no such game
abbrev pub DontCertify : Lists → List Vertex → Type 0
DontCertify lists vertices =
    (g : Game) (s : Solution) → HasVertices g vertices → HasLists s lists → IsCertificate g s → ⊥

-- A system of which all instances are reached: its rows, the vertices of its game behind the two
-- sinks, a certificate, and the values of its first instances
pub record IsWorked (signatures : List Signature) (trees : List Tree) (behind : List Vertex)
    (lists : Lists) (count : ℕ) (values : List Bool) : Type 0 where
  pub reached : AreRows signatures (tree_at trees) (rows_from 0 trees)
  pub game : game_vertices signatures (rows_from 0 trees) ≡ false_sink ∷ (true_sink ∷ behind)
  pub certificate : Certify lists (game_vertices signatures (rows_from 0 trees))
  pub solution : values_from signatures trees 0 count ≡ values

-- nu X = X
abbrev pub GreatestOfItself : Type 0
GreatestOfItself = IsWorked (nu 1 ∷ []) (Single (Call 0) ∷ [])
    (vertex Even 0 (2 ∷ []) ∷ [])
    (record {
      winner = Odd ∷ (Even ∷ (Even ∷ []));
      choice = 0 ∷ (1 ∷ (2 ∷ []));
      counts = 0 ∷ (0 ∷ (0 ∷ (0 ∷ (0 ∷ (0 ∷ [])))));
    })
    1 (true ∷ [])

-- mu X = X
abbrev pub LeastOfItself : Type 0
LeastOfItself = IsWorked (mu 1 ∷ []) (Single (Call 0) ∷ [])
    (vertex Even 1 (2 ∷ []) ∷ [])
    (record {
      winner = Odd ∷ (Even ∷ (Odd ∷ []));
      choice = 0 ∷ (1 ∷ (2 ∷ []));
      counts = 0 ∷ (0 ∷ (0 ∷ (0 ∷ (0 ∷ (0 ∷ [])))));
    })
    1 (false ∷ [])

-- mu X = X, with a wrong winner
abbrev pub WrongWinner : Type 0
WrongWinner = DontCertify
    (record {
      winner = Odd ∷ (Even ∷ (Even ∷ []));
      choice = 0 ∷ (1 ∷ (2 ∷ []));
      counts = 0 ∷ (0 ∷ (0 ∷ (0 ∷ (0 ∷ (0 ∷ [])))));
    })
    (game_vertices (mu 1 ∷ []) (rows_from 0 (Single (Call 0) ∷ [])))

-- mu X = Y; nu Y = X
abbrev pub LeastFirst : Type 0
LeastFirst = IsWorked (mu 1 ∷ (nu 1 ∷ [])) (Single (Call 1) ∷ (Single (Call 0) ∷ []))
    (vertex Even 1 (3 ∷ []) ∷ (vertex Even 0 (2 ∷ []) ∷ []))
    (record {
      winner = Odd ∷ (Even ∷ (Odd ∷ (Odd ∷ [])));
      choice = 0 ∷ (1 ∷ (0 ∷ (0 ∷ [])));
      counts = 0 ∷ (0 ∷ (0 ∷ (0 ∷ (0 ∷ (0 ∷ (1 ∷ (0 ∷ [])))))));
    })
    2 (false ∷ (false ∷ []))

-- nu Y = X; mu X = Y
abbrev pub GreatestFirst : Type 0
GreatestFirst = IsWorked (nu 1 ∷ (mu 1 ∷ [])) (Single (Call 1) ∷ (Single (Call 0) ∷ []))
    (vertex Even 2 (3 ∷ []) ∷ (vertex Even 1 (2 ∷ []) ∷ []))
    (record {
      winner = Odd ∷ (Even ∷ (Even ∷ (Even ∷ [])));
      choice = 0 ∷ (1 ∷ (3 ∷ (2 ∷ [])));
      counts = 0 ∷ (0 ∷ (0 ∷ (0 ∷ (0 ∷ (0 ∷ (0 ∷ (0 ∷ (0 ∷ (0 ∷ (1 ∷ (0 ∷ [])))))))))));
    })
    2 (true ∷ (true ∷ []))

-- nu X(d) = forall e . e != d => X(e), of three values
abbrev pub EachOther : Type 0
EachOther = IsWorked (nu 3 ∷ [])
    (Root Conjunction (LeafThen (Call 1) (LeafThen (Call 2) End))
    ∷ (Root Conjunction (LeafThen (Call 0) (LeafThen (Call 2) End))
    ∷ (Root Conjunction (LeafThen (Call 0) (LeafThen (Call 1) End)) ∷ [])))
    (vertex Odd 0 (3 ∷ (4 ∷ []))
    ∷ (vertex Odd 0 (2 ∷ (4 ∷ [])) ∷ (vertex Odd 0 (2 ∷ (3 ∷ [])) ∷ [])))
    (record {
      winner = Odd ∷ (Even ∷ (Even ∷ (Even ∷ (Even ∷ []))));
      choice = 0 ∷ (1 ∷ (0 ∷ (0 ∷ (0 ∷ []))));
      counts = 0 ∷ (0 ∷ (0 ∷ (0 ∷ (0 ∷ (0 ∷ (0 ∷ (0 ∷ (0 ∷ (0 ∷ [])))))))));
    })
    3 (true ∷ (true ∷ (true ∷ [])))

-- nu X(s) = Y(s); mu Y(s) = if s is s0 then X(s1) else Y(s0)
abbrev pub AlternatingInstances : Type 0
AlternatingInstances = IsWorked (nu 2 ∷ (mu 2 ∷ []))
    (Single (Call 2) ∷ (Single (Call 3) ∷ (Single (Call 1) ∷ (Single (Call 2) ∷ []))))
    (vertex Even 2 (4 ∷ [])
    ∷ (vertex Even 2 (5 ∷ []) ∷ (vertex Even 1 (3 ∷ []) ∷ (vertex Even 1 (4 ∷ []) ∷ []))))
    (record {
      winner = Odd ∷ (Even ∷ (Even ∷ (Even ∷ (Even ∷ (Even ∷ [])))));
      choice = 0 ∷ (1 ∷ (4 ∷ (5 ∷ (3 ∷ (4 ∷ [])))));
      counts =
          0 ∷ (0 ∷
          (0 ∷ (0 ∷
          (0 ∷ (0 ∷ (0 ∷ (0 ∷ (0 ∷ (0 ∷ (0 ∷ (0 ∷ (0 ∷ (1 ∷ (0 ∷ (0 ∷ (2 ∷ (0 ∷ [])))))))))))))))));
    })
    4 (true ∷ (true ∷ (true ∷ (true ∷ []))))

-- nu X = (X && Y) || Y; mu Y = Y
abbrev pub NestedBracket : Type 0
NestedBracket = IsWorked (nu 1 ∷ (mu 1 ∷ []))
    (Root Disjunction
    (BracketThen Conjunction (LeafThen (Call 0) (LeafThen (Call 1) End)) (LeafThen (Call 1) End))
    ∷ (Single (Call 1) ∷ []))
    (vertex Even 2 (3 ∷ (4 ∷ [])) ∷ (vertex Odd 0 (2 ∷ (4 ∷ [])) ∷ (vertex Even 1 (4 ∷ []) ∷ [])))
    (record {
      winner = Odd ∷ (Even ∷ (Odd ∷ (Odd ∷ (Odd ∷ []))));
      choice = 0 ∷ (1 ∷ (0 ∷ (4 ∷ (0 ∷ []))));
      counts =
          0 ∷ (0 ∷
          (0 ∷ (0 ∷ (0 ∷ (0 ∷ (0 ∷ (0 ∷ (1 ∷ (1 ∷ (0 ∷ (0 ∷ (0 ∷ (0 ∷ (0 ∷ []))))))))))))));
    })
    2 (false ∷ (false ∷ []))

-- nu X = true && X, the first operand standing in a bracket of its own
abbrev pub TrueOperand : Type 0
TrueOperand = IsWorked (nu 1 ∷ [])
    (Root Conjunction (BracketThen Disjunction (LeafThen Yes End) (LeafThen (Call 0) End)) ∷ [])
    (vertex Odd 0 (2 ∷ (3 ∷ [])) ∷ (vertex Even 0 (1 ∷ []) ∷ []))
    (record {
      winner = Odd ∷ (Even ∷ (Even ∷ (Even ∷ [])));
      choice = 0 ∷ (1 ∷ (0 ∷ (1 ∷ [])));
      counts = 0 ∷ (0 ∷ (0 ∷ (0 ∷ (0 ∷ (0 ∷ (0 ∷ (0 ∷ [])))))));
    })
    1 (true ∷ [])
