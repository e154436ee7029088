-- A certificate of a parity game as a text, in the form that PGSolver reads and writes solutions: a
-- line for each vertex, with its number, its winner by parity, and a successor where the winner
-- moves.
use Rattle.std.specs.Prelude.{ℕ, zero, suc, ◌-◌, List, [], ◌++◌, Option, None, Some, codes}
use Rattle.std.specs.Prelude.{decimal, if◌then◌else◌}
use Rattle.pb_fixpoint_trees.specs.Players.{parity_of, is_same}
use Rattle.pb_game.specs.declared.Game.{Game}
use Rattle.pb_game.specs.Games.{vertex_count, owner_of}
use Rattle.pb_game.specs.declared.certificate.Solution.{Solution}
use Rattle.pb_game.specs.Solutions.{winner_of, choice_of}
use Rattle.pb_report.specs.GameText.{field}

-- the successor that the winner's strategy names, where the winner moves
abbrev pub strategy_at : Game → Solution → ℕ → Option ℕ
strategy_at g s v = if is_same (owner_of g v) (winner_of s v) then Some (choice_of s v) else None

abbrev pub strategy_part : Option ℕ → List ℕ
strategy_part None = codes ";\n"
strategy_part (Some choice) = codes " " ++ (decimal choice ++ codes ";\n")

abbrev pub winner_line : Game → Solution → ℕ → List ℕ
winner_line g s v =
    field v ++ (decimal (parity_of (winner_of s v)) ++ strategy_part (strategy_at g s v))

-- so many lines, from the vertex v on
abbrev pub winner_lines : Game → Solution → ℕ → ℕ → List ℕ
winner_lines g s v zero = []
winner_lines g s v (suc n) = winner_line g s v ++ winner_lines g s (suc v) n

-- the first line, which says how great a vertex's number is
abbrev pub certificate_head : ℕ → List ℕ
certificate_head greatest = codes "paritysol " ++ (decimal greatest ++ codes ";\n")

abbrev pub certificate_text : Game → Solution → List ℕ
certificate_text g s =
    certificate_head (vertex_count g - 1) ++ winner_lines g s 0 (vertex_count g)
