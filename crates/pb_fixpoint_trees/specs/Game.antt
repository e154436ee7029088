-- The max-parity game of an equation system's trees: Even wins an infinite play exactly where the
-- greatest priority that occurs infinitely often is even (Zielonka 1998; Mader 1997 for the games
-- of Boolean equation systems).
--
-- Vertex 0 is the false sink, of priority 1, and vertex 1 the true sink, of priority 0. Then comes
-- each reached instance in the order of its rows, followed by the brackets inside its tree in the
-- order in which they open.
use Rattle.std.specs.Prelude.{ℕ, suc, ◌+◌, ◌==◌, nat_lt, List, [], ◌∷◌, ◌++◌, if◌then◌else◌}
use Rattle.pb_fixpoint.specs.declared.Sign.{Sign}
use Rattle.pb_fixpoint.specs.declared.Sign.TheVariants.{Mu, Nu}
use Rattle.pb_fixpoint_trees.specs.declared.player.Player.{Player}
use Rattle.pb_fixpoint_trees.specs.declared.player.Player.TheVariants.{Even, Odd}
use Rattle.pb_fixpoint_trees.specs.declared.junction.Junction.{Junction}
use Rattle.pb_fixpoint_trees.specs.declared.junction.Junction.TheVariants.{Conjunction, Disjunction}
use Rattle.pb_fixpoint_trees.specs.Tree.{Leaf, Yes, No, Cut, Call, Operands, End, LeafThen, BracketThen, Tree, Single, Root}
use Rattle.pb_fixpoint_trees.specs.Equations.{Signature}
use Rattle.pb_fixpoint_trees.specs.Rows.{Row}

-- the player who moves at a vertex, its priority, and the vertices to which that player can move
pub record Vertex : Type 0 where
  pub owner : Player
  pub priority : ℕ
  pub successors : List ℕ

-- ---- priorities of equations

-- the priority of last equations of one sign
abbrev pub last_priority : Sign → ℕ
last_priority Nu = 0
last_priority Mu = 1

-- the priority of an equation of this sign before one of sign s and priority p: each change of sign
-- adds 1
abbrev pub priority_before : Sign → Sign → ℕ → ℕ
priority_before Mu Mu p = p
priority_before Mu Nu p = suc p
priority_before Nu Mu p = suc p
priority_before Nu Nu p = p

-- the priority of the first equation
abbrev pub first_priority : List Signature → ℕ
first_priority [] = 0
first_priority (s ∷ []) = last_priority s.sign
first_priority (s ∷ u ∷ signatures) =
    priority_before s.sign u.sign (first_priority (u ∷ signatures))

-- an instance's priority is that of the equation which owns its number, the numbers beginning at
-- first
abbrev pub priority_from : ℕ → List Signature → ℕ → ℕ
priority_from first [] n = 0
priority_from first (s ∷ signatures) n =
    if nat_lt n (first + s.size) then first_priority (s ∷ signatures)
    else priority_from (first + s.size) signatures n

-- ---- places of vertices

-- how many brackets there are among operands and within them
abbrev pub brackets : Operands → ℕ
brackets End = 0
brackets (LeafThen leaf after) = brackets after
brackets (BracketThen c inside after) = suc (brackets inside + brackets after)

-- how many brackets there are inside a tree, its root not counted
abbrev pub inner : Tree → ℕ
inner (Single leaf) = 0
inner (Root c operands) = brackets operands

-- the vertex of an instance, where the rows' vertices begin at next
abbrev pub vertex_from : List Row → ℕ → ℕ → ℕ
vertex_from [] next n = 0
vertex_from (row ∷ rows) next n =
    if row.number == n then next else vertex_from rows (suc (next + inner row.tree)) n

abbrev pub vertex_of : List Row → ℕ → ℕ
vertex_of rows n = vertex_from rows 2 n

-- ---- successors

-- where a leaf leads; `at` gives each instance its vertex
abbrev pub target : (ℕ → ℕ) → Leaf → ℕ
target at Yes = 1
target at No = 0
target at Cut = 0
target at (Call n) = at n

-- where operands lead, the vertices of the brackets among and within them beginning at next
abbrev pub targets : (ℕ → ℕ) → Operands → ℕ → List ℕ
targets at End next = []
targets at (LeafThen leaf after) next = target at leaf ∷ targets at after next
targets at (BracketThen c inside after) next =
    next ∷ targets at after (suc (next + brackets inside))

-- a rising list with one number more, each once
abbrev pub with_number : ℕ → List ℕ → List ℕ
with_number n [] = n ∷ []
with_number n (x ∷ xs) =
    if nat_lt n x then n ∷ (x ∷ xs) else (if n == x then x ∷ xs else x ∷ with_number n xs)

-- the numbers of a list, rising, each once
abbrev pub rising : List ℕ → List ℕ
rising [] = []
rising (x ∷ xs) = with_number x (rising xs)

-- where a bracket without operands leads: a conjunction to the true sink, a disjunction to the
-- false one
abbrev pub sink_of : Junction → ℕ
sink_of Conjunction = 1
sink_of Disjunction = 0

-- the numbers of a list, rising, each once; of an empty list this one
abbrev pub rising_or : ℕ → List ℕ → List ℕ
rising_or n [] = n ∷ []
rising_or n (x ∷ xs) = rising (x ∷ xs)

-- where a bracket leads, the vertices of the brackets inside it beginning at next
abbrev pub bracket_successors : (ℕ → ℕ) → Junction → Operands → ℕ → List ℕ
bracket_successors at c operands next = rising_or (sink_of c) (targets at operands next)

-- ---- vertices

-- Even chooses among the operands of a disjunction, Odd among those of a conjunction
abbrev pub owner_of : Junction → Player
owner_of Conjunction = Odd
owner_of Disjunction = Even

abbrev pub bracket_vertex : (ℕ → ℕ) → ℕ → Junction → Operands → ℕ → Vertex
bracket_vertex at priority c operands next =
    record {
      owner = owner_of c;
      priority = priority;
      successors = bracket_successors at c operands next;
    }

-- the vertices of brackets inside a tree, which have priority 0
abbrev pub inner_vertices : (ℕ → ℕ) → Operands → ℕ → List Vertex
inner_vertices at End next = []
inner_vertices at (LeafThen leaf after) next = inner_vertices at after next
inner_vertices at (BracketThen c inside after) next =
    bracket_vertex at 0 c inside (suc next)
    ∷ (inner_vertices at inside (suc next)
    ++ inner_vertices at after (suc (next + brackets inside)))

-- an instance's vertex, which stands at next, and those of the brackets inside its tree; a tree of
-- one leaf is Even's
abbrev pub tree_vertices : (ℕ → ℕ) → ℕ → Tree → ℕ → List Vertex
tree_vertices at priority (Single leaf) next =
    record { owner = Even; priority = priority; successors = target at leaf ∷ [] } ∷ []
tree_vertices at priority (Root c operands) next =
    bracket_vertex at priority c operands (suc next) ∷ inner_vertices at operands (suc next)

abbrev pub row_vertices : (ℕ → ℕ) → (ℕ → ℕ) → List Row → ℕ → List Vertex
row_vertices at priority [] next = []
row_vertices at priority (row ∷ rows) next =
    tree_vertices at (priority row.number) row.tree next
    ++ row_vertices at priority rows (suc (next + inner row.tree))

abbrev pub false_sink : Vertex
false_sink = record { owner = Even; priority = 1; successors = 0 ∷ [] }

abbrev pub true_sink : Vertex
true_sink = record { owner = Even; priority = 0; successors = 1 ∷ [] }

-- the vertices of the game of a system's rows, by number
abbrev pub game_vertices : List Signature → List Row → List Vertex
game_vertices signatures rows =
    false_sink ∷ (true_sink ∷ row_vertices (vertex_of rows) (priority_from 0 signatures) rows 2)
