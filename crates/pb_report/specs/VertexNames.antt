-- The names of the vertices of a game of reached instances: the sinks and the instances have one.
use Rattle.std.specs.Prelude.{ℕ, zero, suc, ◌+◌, ◌-◌, ◌<◌, ◌≤◌, ◌==◌, List, [], ◌∷◌, ◌++◌, Option}
use Rattle.std.specs.Prelude.{Some, None, codes, decimal, length, slice_index, if◌then◌else◌}
use Rattle.pb_fixpoint_trees.specs.Rows.{Row}
use Rattle.pb_fixpoint_trees.specs.Game.{inner}
use Rattle.pb_fixpoint_trees.specs.Row as in_memory
use Rattle.pb_game.specs.declared.Game.{Game}
use Rattle.pb_game.specs.Games.{vertex_count}
use Rattle.pb_bytecode.specs.Contents.{Contents}
use Rattle.pb_report.specs.InstanceName.{instance_name}
use Rattle.pb_report.specs.GameText.{vertex_at, vertex_line}

-- the number of the instance whose vertex this is, where the rows' vertices begin at next
abbrev pub instance_at : List Row → ℕ → ℕ → Option ℕ
instance_at [] next v = None
instance_at (row ∷ rows) next v =
    if v == next then Some row.number else instance_at rows (suc (next + inner row.tree)) v

abbrev pub instance_named : Contents → Option ℕ → Option (List ℕ)
instance_named m None = None
instance_named m (Some n) = Some (instance_name m n)

-- the name of a vertex: a sink's, else that of its instance, if it is one's
abbrev pub name_by : Contents → ℕ → Option ℕ → Option (List ℕ)
name_by m zero instance = Some (codes "false")
name_by m (suc zero) instance = Some (codes "true")
name_by m (suc (suc v)) instance = instance_named m instance

abbrev pub vertex_name : Contents → List Row → ℕ → Option (List ℕ)
vertex_name m rows v = name_by m v (instance_at rows 2 v)

-- ---- the same of what lies in memory: the vertex of each row

-- the number of the row whose vertex this is
abbrev pub number_in : List ℕ → List in_memory.TokenRow → ℕ → Option ℕ
number_in (x ∷ vertices) (row ∷ rows) v =
    if v == x then Some row.number else number_in vertices rows v
number_in (x ∷ vertices) [] v = None
number_in [] rows v = None

abbrev pub name_in : Contents → List ℕ → List in_memory.TokenRow → ℕ → Option (List ℕ)
name_in m vertices rows v = name_by m v (number_in vertices rows v)

-- the rows before place k have vertices below v, the others have theirs from v on
pub record IsAtRow (vertices : List ℕ) (k v : ℕ) : Type 0 where
  pub before : (j : ℕ) → j < k → slice_index vertices j < v
  pub behind : (j : ℕ) → k ≤ j → j < length vertices → v ≤ slice_index vertices j

abbrev pub AreRising : List ℕ → Type 0
AreRising vertices =
    (i j : ℕ) → i < j → j < length vertices → slice_index vertices i < slice_index vertices j

-- so many lines of a game, from the vertex v on
abbrev pub lines_of : (ℕ → Option (List ℕ)) → Game → ℕ → ℕ → List ℕ
lines_of names g v zero = []
lines_of names g v (suc n) = vertex_line v (vertex_at g v) (names v) ++ lines_of names g (suc v) n

abbrev pub lines_text : Contents → Game → List ℕ → List in_memory.TokenRow → List ℕ
lines_text m g vertices rows = lines_of (name_in m vertices rows) g 0 (vertex_count g)

-- the first line, which says how great a vertex's number is
abbrev pub first_line : ℕ → List ℕ
first_line greatest = codes "parity " ++ (decimal greatest ++ codes ";\n")

abbrev pub memory_text : Contents → Game → List ℕ → List in_memory.TokenRow → List ℕ
memory_text m g vertices rows = first_line (vertex_count g - 1) ++ lines_text m g vertices rows
