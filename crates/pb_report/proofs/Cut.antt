-- A tree has a Cut where its tokens have one.
use Rattle.std.proofs.Common.{◌≡◌, Bool, false, List, [], ◌∷◌, suc, refl, sym, ap, ◌∙◌, arith, map}
use Rattle.std.specs.Prelude.{◌||◌, All}
use Rattle.std.specs.List.{list_any}
use Rattle.std.proofs.Math.Bool.{or-false}
use Rattle.std.proofs.lemmas.List.Folds.{list_any-append}
use Rattle.pb_fixpoint_trees.specs.declared.Token.TheVariants as token
use Rattle.pb_fixpoint_trees.specs.Rows.{Row}
use Rattle.pb_fixpoint_trees.specs.declared.junction.Junction.TheVariants.{Conjunction, Disjunction}
use Rattle.pb_fixpoint_trees.specs.Tree.{Leaf, Yes, No, Cut, Call, Operands, End, LeafThen, BracketThen, Tree, Single, Root}
use Rattle.pb_fixpoint_trees.specs.Tokens.{leaf_token, operands_tokens, tree_tokens}
use Rattle.pb_fixpoint_trees.specs.Row.{HasNoCut, token_is_cut}
use Rattle.pb_game_of_trees.specs.Held.{held}
use Rattle.pb_report.specs.CutCalls.{cut_count, has_cut, is_cut_leaf, one_if, operands_have_cut}

leaf_cut : (l : Leaf) → token_is_cut (leaf_token l) ≡ is_cut_leaf l
leaf_cut Yes = refl
leaf_cut No = refl
leaf_cut Cut = refl
leaf_cut (Call n) = refl

operands_cut : (f : Operands) → list_any token_is_cut (operands_tokens f) ≡ operands_have_cut f
operands_cut End = refl
operands_cut (LeafThen l after) =
    ap (λ (b : Bool). b || list_any token_is_cut (operands_tokens after)) (leaf_cut l) ∙ ap (λ (b : Bool). is_cut_leaf l || b) (operands_cut after)
operands_cut (BracketThen Conjunction inside after) =
    list_any-append token_is_cut (operands_tokens inside) (token.Close ∷ operands_tokens after)
    ∙ (ap (λ (b : Bool). b || list_any token_is_cut (operands_tokens after)) (operands_cut inside) ∙ ap (λ (b : Bool). operands_have_cut inside || b) (operands_cut after))
operands_cut (BracketThen Disjunction inside after) =
    list_any-append token_is_cut (operands_tokens inside) (token.Close ∷ operands_tokens after)
    ∙ (ap (λ (b : Bool). b || list_any token_is_cut (operands_tokens after)) (operands_cut inside) ∙ ap (λ (b : Bool). operands_have_cut inside || b) (operands_cut after))

pub tree_cut : (tree : Tree) → list_any token_is_cut (tree_tokens tree) ≡ has_cut tree
tree_cut (Single l) = ap (λ (b : Bool). b || false) (leaf_cut l) ∙ or-false (is_cut_leaf l)
tree_cut (Root Conjunction f) =
    list_any-append token_is_cut (operands_tokens f) (token.Close ∷ []) ∙ (or-false (list_any token_is_cut (operands_tokens f)) ∙ operands_cut f)
tree_cut (Root Disjunction f) =
    list_any-append token_is_cut (operands_tokens f) (token.Close ∷ []) ∙ (or-false (list_any token_is_cut (operands_tokens f)) ∙ operands_cut f)

-- where no token is a cut, no row counts
pub no_cuts : (reached : List Row) → All HasNoCut (map held reached) → cut_count reached ≡ 0
no_cuts [] none = refl
no_cuts (row ∷ rows) none =
    let first = ap one_if (sym (tree_cut row.tree) ∙ none 0 (held row) (omega arith)) in
    omega (arith, first, no_cuts rows (λ k other below. none (suc k) other (omega (arith, below))))
