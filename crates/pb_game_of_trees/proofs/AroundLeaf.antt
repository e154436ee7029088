-- A tree of three tokens is a bracket around a leaf.
use Rattle.std.proofs.Common.{◌≡◌, ℕ, List, [], ◌∷◌, ◌++◌, length, length-append, get_or, refl, sym, ap, ◌∙◌, subst, arith}
use Rattle.pb_fixpoint_trees.specs.declared.Token.{Token}
use Rattle.pb_fixpoint_trees.specs.declared.Token.TheVariants as token
use Rattle.pb_fixpoint_trees.specs.declared.junction.Junction.{Junction}
use Rattle.pb_fixpoint_trees.specs.Tree.{Leaf, End, LeafThen, BracketThen, Tree, Single, Root}
use Rattle.pb_fixpoint_trees.specs.declared.player.Player.{Player}
use Rattle.pb_fixpoint_trees.specs.Game.{Vertex, owner_of, target}
use Rattle.pb_game_of_trees.specs.Builder.{HasOneEdge}
use Rattle.pb_fixpoint_trees.specs.Tokens.{opening, leaf_token, operands_tokens, tree_tokens}

-- the tree is a bracket around a leaf, and these are its first tokens
pub record IsSmall (tokens : List Token) (d : Token) (tree : Tree) : Type 0 where
  pub joined : Junction
  pub leaf : Leaf
  pub is : tree ≡ Root joined (LeafThen leaf End)
  pub first : get_or tokens 0 d ≡ opening joined
  pub second : get_or tokens 1 d ≡ leaf_token leaf

small_of : (d : Token) (tree : Tree) → length (tree_tokens tree) ≡ 3 → IsSmall (tree_tokens tree) d tree
small_of d (Single l) e = absurd (omega arith)
small_of d (Root c End) e = absurd (omega arith)
small_of d (Root c (LeafThen l End)) e = record { joined = c; leaf = l; is = refl; first = refl; second = refl }
small_of d (Root c (LeafThen l (LeafThen m after))) e =
    absurd (omega (arith, e, length-append (operands_tokens after) (token.Close ∷ [])))
small_of d (Root c (LeafThen l (BracketThen b inside after))) e =
    absurd (omega (
      arith,
      e,
      length-append (operands_tokens inside ++ token.Close ∷ operands_tokens after) (token.Close ∷ []),
      length-append (operands_tokens inside) (token.Close ∷ operands_tokens after),
    ))
small_of d (Root c (BracketThen b inside after)) e =
    absurd (omega (
      arith,
      e,
      length-append (operands_tokens inside ++ token.Close ∷ operands_tokens after) (token.Close ∷ []),
      length-append (operands_tokens inside) (token.Close ∷ operands_tokens after),
    ))

pub small_tree : (tokens : List Token) (d : Token) (tree : Tree) → tokens ≡ tree_tokens tree → length tokens ≡ 3 → IsSmall tokens d tree
small_tree tokens d tree e three =
    subst (λ (ts : List Token). IsSmall ts d tree) (sym e) (small_of d tree (sym (ap length e) ∙ three))

-- it is one vertex
pub small_edge : (at : ℕ → ℕ) (tokens : List Token) (d : Token) (tree : Tree) (s : IsSmall tokens d tree) (owner : Player) (vertex : ℕ) →
    owner ≡ owner_of s.joined → vertex ≡ target at s.leaf → HasOneEdge at tree owner vertex
small_edge at tokens d tree s owner vertex o v =
    subst (λ (y : Tree). HasOneEdge at y owner vertex) (sym s.is)
    (record {
      inside = refl;
      vertices = λ p n.
          ap (λ (q : Player). let x : Vertex = record { owner = q; priority = p; successors = target at s.leaf ∷ [] } in x ∷ []) (sym o)
          ∙ ap (λ (u : ℕ). let x : Vertex = record { owner = owner; priority = p; successors = u ∷ [] } in x ∷ []) (sym v);
    })
