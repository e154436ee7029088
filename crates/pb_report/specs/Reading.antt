-- The truth that a tree is read to, token by token, with its cut calls true.
use Rattle.std.specs.Prelude.{ℕ, Bool, true, false, ◌&&◌, ◌||◌, List, [], ◌∷◌, reverse}
use Rattle.pb_fixpoint.specs.Solution.{Environment}
use Rattle.pb_fixpoint_trees.specs.declared.Token.{Token}
use Rattle.pb_fixpoint_trees.specs.declared.Token.TheVariants as token
use Rattle.pb_report.specs.declared.tree_truth.Bracket.{Bracket}
use Rattle.pb_report.specs.declared.tree_truth.Bracket.TheVariants.{All, Any}
use Rattle.pb_report.specs.declared.tree_truth.Reading.{Reading}

-- of the operands of a bracket so far
abbrev pub bracket_truth : Bracket → Bool
bracket_truth (All x) = x
bracket_truth (Any x) = x

abbrev pub with_operand : Bracket → Bool → Bracket
with_operand (All x) y = All (x && y)
with_operand (Any x) y = Any (x || y)

-- where these brackets are open, the innermost first, and these tokens follow
abbrev pub read : Environment ℕ → Bracket → List Bracket → List Token → Bool
read t inner outer [] = bracket_truth inner
read t inner outer (token.And ∷ rest) = read t (All true) (inner ∷ outer) rest
read t inner outer (token.Or ∷ rest) = read t (Any false) (inner ∷ outer) rest
read t inner [] (token.Close ∷ rest) = read t inner [] rest
read t inner (next ∷ outer) (token.Close ∷ rest) =
    read t (with_operand next (bracket_truth inner)) outer rest
read t inner outer (token.Yes ∷ rest) = read t (with_operand inner true) outer rest
read t inner outer (token.No ∷ rest) = read t (with_operand inner false) outer rest
read t inner outer (token.Cut ∷ rest) = read t (with_operand inner true) outer rest
read t inner outer (token.Call n ∷ rest) = read t (with_operand inner (t n)) outer rest

-- where a reading has come to, and these tokens follow
abbrev pub read_on : Environment ℕ → Reading → List Token → Bool
read_on t r rest = read t r.inner (reverse r.outer.items) rest
