-- The tokens of a tree.
use Rattle.std.specs.Prelude.{List, [], ◌∷◌, ◌++◌}
use Rattle.pb_fixpoint_trees.specs.declared.Token.{Token}
use Rattle.pb_fixpoint_trees.specs.declared.Token.TheVariants as token
use Rattle.pb_fixpoint_trees.specs.declared.junction.Junction.{Junction}
use Rattle.pb_fixpoint_trees.specs.declared.junction.Junction.TheVariants.{Conjunction, Disjunction}
use Rattle.pb_fixpoint_trees.specs.Tree.{Leaf, Yes, No, Cut, Call, Operands, End, LeafThen, BracketThen, Tree, Single, Root}

abbrev pub opening : Junction → Token
opening Conjunction = token.And
opening Disjunction = token.Or

abbrev pub leaf_token : Leaf → Token
leaf_token Yes = token.Yes
leaf_token No = token.No
leaf_token Cut = token.Cut
leaf_token (Call n) = token.Call n

abbrev pub operands_tokens : Operands → List Token
operands_tokens End = []
operands_tokens (LeafThen leaf after) = leaf_token leaf ∷ operands_tokens after
operands_tokens (BracketThen c inside after) =
    opening c ∷ (operands_tokens inside ++ token.Close ∷ operands_tokens after)

abbrev pub tree_tokens : Tree → List Token
tree_tokens (Single leaf) = leaf_token leaf ∷ []
tree_tokens (Root c operands) = opening c ∷ (operands_tokens operands ++ token.Close ∷ [])
