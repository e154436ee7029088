-- The small systems, by computing.
use Rattle.std.proofs.Common.{◌≡◌, ℕ, zero, suc, ◌+◌, ◌*◌, ◌<◌, Bool, true, ◌&&◌, List, [], ◌∷◌, length, refl, sym, ap, ◌∙◌, subst, inl, inr, arith}
use Rattle.std.specs.Prelude.{Contains, nat_lt, slice_index_or, false}
use Rattle.std.proofs.lemmas.Bool.{and_parts, ltb-true, true≢false}
use Rattle.pb_fixpoint_trees.specs.Tree.{Leaf, Yes, No, Cut, Call, Operands, End, LeafThen, BracketThen, Tree, Single, Root, LeafCalls, OperandsCall, TreeCalls}
use Rattle.pb_fixpoint_trees.specs.Equations.{Signature, total}
use Rattle.pb_fixpoint_trees.specs.declared.player.Player.TheVariants.{Even}
use Rattle.pb_fixpoint_trees.specs.Players.{is_even}
use Rattle.pb_fixpoint_trees.specs.declared.player.Player.{Player}
use Rattle.pb_game.specs.Solutions.{winner_of}
use Rattle.pb_fixpoint_trees.specs.Examples.{mu, tree_at}
use Rattle.pb_fixpoint_trees.specs.Game.{Vertex, game_vertices, false_sink, true_sink}
use Rattle.pb_fixpoint_trees.specs.Rows.{Row, IsReached, AreRows}
use Rattle.pb_strategy.specs.Examples.{rows_from, values_from, Lists, IsWorked, GreatestOfItself, LeastOfItself, LeastFirst, GreatestFirst, EachOther, AlternatingInstances, NestedBracket, TrueOperand, WrongWinner}
use Rattle.pb_fixpoint_trees.proofs.Members.{Among, among_of_contains, contains_of_among}
use Rattle.pb_strategy.proofs.Winners.{winners_are_solved}
use Rattle.pb_strategy.proofs.Listed.{width, passes, certify}

-- whether all calls are below n
abbrev leaf_below : ℕ → Leaf → Bool
leaf_below n Yes = true
leaf_below n No = true
leaf_below n Cut = true
leaf_below n (Call m) = nat_lt m n

abbrev operands_below : ℕ → Operands → Bool
operands_below n End = true
operands_below n (LeafThen l after) = leaf_below n l && operands_below n after
operands_below n (BracketThen c inside after) = operands_below n inside && operands_below n after

abbrev tree_below : ℕ → Tree → Bool
tree_below n (Single l) = leaf_below n l
tree_below n (Root c f) = operands_below n f

abbrev all_below : ℕ → List Tree → Bool
all_below n [] = true
all_below n (tree ∷ trees) = tree_below n tree && all_below n trees

leaf_calls : (n : ℕ) (P : ℕ → Type 0) → ((m : ℕ) → m < n → P m) → (l : Leaf) → leaf_below n l ≡ true → LeafCalls P l
leaf_calls n P h Yes e = tt
leaf_calls n P h No e = tt
leaf_calls n P h Cut e = tt
leaf_calls n P h (Call m) e = h m (ltb-true m n e)

operands_call : (n : ℕ) (P : ℕ → Type 0) → ((m : ℕ) → m < n → P m) → (f : Operands) → operands_below n f ≡ true → OperandsCall P f
operands_call n P h End e = tt
operands_call n P h (LeafThen l after) e =
    let both = and_parts (leaf_below n l) (operands_below n after) e in
    (leaf_calls n P h l both.0, operands_call n P h after both.1)
operands_call n P h (BracketThen c inside after) e =
    let both = and_parts (operands_below n inside) (operands_below n after) e in
    (operands_call n P h inside both.0, operands_call n P h after both.1)

tree_calls : (n : ℕ) (P : ℕ → Type 0) → ((m : ℕ) → m < n → P m) → (tree : Tree) → tree_below n tree ≡ true → TreeCalls P tree
tree_calls n P h (Single l) e = leaf_calls n P h l e
tree_calls n P h (Root c f) e = operands_call n P h f e

-- a row is that of a tree, by its place
record IsRowOf (n : ℕ) (first : ℕ) (trees : List Tree) (row : Row) : Type 0 where
  place : ℕ
  within : place < length trees
  numbered : row.number ≡ first + place
  of_tree : row.tree ≡ tree_at trees place
  calls : tree_below n row.tree ≡ true

row_of : (n first : ℕ) (trees : List Tree) (row : Row) → all_below n trees ≡ true → Among (rows_from first trees) row → IsRowOf n first trees row
row_of n first [] row e among = absurd among
row_of n first (tree ∷ trees) row e (inl is) =
    let both = and_parts (tree_below n tree) (all_below n trees) e in
    let here : first ≡ first + 0 = omega arith in
    subst (IsRowOf n first (tree ∷ trees)) is (record { place = 0; within = omega arith; numbered = here; of_tree = refl; calls = both.0 })
row_of n first (tree ∷ trees) row e (inr later) =
    let both = and_parts (tree_below n tree) (all_below n trees) e in
    let found = row_of n (suc first) trees row both.1 later in
    record { place = suc found.place; within = omega arith; numbered = omega arith; of_tree = found.of_tree; calls = found.calls }

reached : (first : ℕ) (trees : List Tree) (m : ℕ) → m < length trees → (row : Row) × Among (rows_from first trees) row × (row.number ≡ first + m)
reached first [] m h = absurd (omega arith)
reached first (tree ∷ trees) zero h = let here : first ≡ first + 0 = omega arith in (record { number = first; tree = tree }, inl refl, here)
reached first (tree ∷ trees) (suc m) h =
    let found = reached (suc first) trees m (omega arith) in
    let numbered = found.2 in
    (found.0, inr found.1, omega arith)

rows_are : (signatures : List Signature) (trees : List Tree) → all_below (length trees) trees ≡ true → total signatures ≡ length trees →
    AreRows signatures (tree_at trees) (rows_from 0 trees)
rows_are signatures trees e n = record {
  of_trees = λ row c. let of = of_row row c in
      let at : of.place ≡ row.number = (let numbered = of.numbered in omega arith) in of.of_tree ∙ ap (tree_at trees) at;
  closed = λ row c. tree_calls (length trees) (IsReached (rows_from 0 trees)) reached_at row.tree (of_row row c).calls;
  below = λ row c. let of = of_row row c in
      let numbered = of.numbered in let within = of.within in omega arith;
}
  where
    of_row : (row : Row) → Contains (rows_from 0 trees) row → IsRowOf (length trees) 0 trees row
    of_row row c = row_of (length trees) 0 trees row e (among_of_contains (rows_from 0 trees) row c)

    reached_at : (m : ℕ) → m < length trees → IsReached (rows_from 0 trees) m
    reached_at m h = let found = reached 0 trees m h in let numbered = found.2 in (found.0, contains_of_among (rows_from 0 trees) found.0 found.1, omega arith)

worked : {signatures : List Signature} {trees : List Tree} {behind : List Vertex} {lists : Lists} {count : ℕ} {values : List Bool} →
    all_below (length trees) trees ≡ true → total signatures ≡ length trees → game_vertices signatures (rows_from 0 trees) ≡ false_sink ∷ (true_sink ∷ behind) →
    length lists.winner ≡ length (game_vertices signatures (rows_from 0 trees)) → length lists.choice ≡ length (game_vertices signatures (rows_from 0 trees)) →
    length lists.counts ≡ length (game_vertices signatures (rows_from 0 trees)) * width (game_vertices signatures (rows_from 0 trees)) →
    passes lists (game_vertices signatures (rows_from 0 trees)) ≡ true → values_from signatures trees 0 count ≡ values →
    IsWorked signatures trees behind lists count values
worked {signatures} {trees} {lists = lists} calls sizes game winner choice counted pass solution = record {
  reached = rows_are signatures trees calls sizes;
  game = game;
  certificate = certify lists (game_vertices signatures (rows_from 0 trees)) winner choice counted pass;
  solution = solution;
}

pub greatest_of_itself : GreatestOfItself
greatest_of_itself = worked refl refl refl refl refl refl refl refl

pub least_of_itself : LeastOfItself
least_of_itself = worked refl refl refl refl refl refl refl refl

pub least_first : LeastFirst
least_first = worked refl refl refl refl refl refl refl refl

pub greatest_first : GreatestFirst
greatest_first = worked refl refl refl refl refl refl refl refl

pub each_other : EachOther
each_other = worked refl refl refl refl refl refl refl refl

pub alternating_instances : AlternatingInstances
alternating_instances = worked refl refl refl refl refl refl refl refl

pub nested_bracket : NestedBracket
nested_bracket = worked refl refl refl refl refl refl refl refl

pub true_operand : TrueOperand
true_operand = worked refl refl refl refl refl refl refl refl

-- it would make X true
pub wrong_winner : WrongWinner
unfolding winner_of
wrong_winner g s has of is =
    let trees : List Tree = Single (Call 0) ∷ [] in
    let row : Row = record { number = 0; tree = Single (Call 0) } in
    let solved_at : is_even (winner_of s 2) ≡ false =
    winners_are_solved g s is 2 (mu 1 ∷ []) (tree_at trees) (rows_from 0 trees)
    (record { reached = rows_are (mu 1 ∷ []) trees refl refl; vertices = has })
    row (contains_of_among (rows_from 0 trees) row (inl refl)) refl in
    let wins : is_even (winner_of s 2) ≡ true = ap (λ (ws : List Player). is_even (slice_index_or ws 2 Even)) of.winner in
    true≢false (sym wins ∙ solved_at)
