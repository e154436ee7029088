-- Tokens that stand as operands in an open bracket, and the truth to which they join.
use Rattle.std.proofs.Common.{◌≡◌, ℕ, Bool, true, false, List, [], ◌∷◌, ◌++◌, refl, sym, ap, ◌∙◌}
use Rattle.pb_fixpoint.specs.Solution.{Environment}
use Rattle.pb_fixpoint_trees.specs.declared.Token.{Token}
use Rattle.pb_fixpoint_trees.specs.declared.Token.TheVariants as token
use Rattle.pb_fixpoint_trees.specs.Tree as trees
use Rattle.pb_fixpoint_trees.specs.declared.junction.Junction.{Junction}
use Rattle.pb_fixpoint_trees.specs.declared.junction.Junction.TheVariants.{Conjunction, Disjunction}
use Rattle.pb_fixpoint_trees.specs.Junctions.{joined}
use Rattle.pb_fixpoint_trees.specs.Tree.{Operands, End, LeafThen, BracketThen, operands_truth}
use Rattle.pb_fixpoint_trees.specs.Tokens.{operands_tokens, leaf_token, opening}
use Rattle.pb_bytecode_program.specs.Machine
use Rattle.pb_bytecode_program.specs.declared.instruction.Leaf.{Leaf}
use Rattle.pb_bytecode_program.specs.declared.instruction.Leaf.TheVariants as leaf
use Rattle.pb_bytecode_program.proofs.Written.{append, append-tokens}
use Rattle.pb_assembler_scheme.specs.Scheme.{neutral}

abbrev pub Meaning : Type 0
Meaning = Environment ℕ → Bool

-- in a bracket of kind m these tokens are operands which join to this truth
pub record Joins (m : Junction) (xs : List Token) (φ : Meaning) : Type 0 where
  pub operands : Operands
  pub tokens : xs ≡ operands_tokens operands
  pub truth : (t : Environment ℕ) → operands_truth t m operands ≡ φ t

-- ---- laws of joining

joined_assoc : (m : Junction) (a b c : Bool) → joined m a (joined m b c) ≡ joined m (joined m a b) c
joined_assoc Conjunction true b c = refl
joined_assoc Conjunction false b c = refl
joined_assoc Disjunction true b c = refl
joined_assoc Disjunction false b c = refl

pub joined_unit : (m : Junction) (b : Bool) → joined m b (neutral m) ≡ b
joined_unit Conjunction true = refl
joined_unit Conjunction false = refl
joined_unit Disjunction true = refl
joined_unit Disjunction false = refl

unit_joined : (m : Junction) (b : Bool) → joined m (neutral m) b ≡ b
unit_joined Conjunction b = refl
unit_joined Disjunction b = refl

pub joined_comm : (m : Junction) (a b : Bool) → joined m a b ≡ joined m b a
joined_comm Conjunction true true = refl
joined_comm Conjunction true false = refl
joined_comm Conjunction false true = refl
joined_comm Conjunction false false = refl
joined_comm Disjunction true true = refl
joined_comm Disjunction true false = refl
joined_comm Disjunction false true = refl
joined_comm Disjunction false false = refl

-- ---- operands

append-truth : (t : Environment ℕ) (m : Junction) (x y : Operands)
    → operands_truth t m (append x y) ≡ joined m (operands_truth t m x) (operands_truth t m y)
append-truth t m End y = sym (unit_joined m _)
append-truth t m (LeafThen l after) y =
    ap (joined m (trees.leaf_truth t l)) (append-truth t m after y) ∙ joined_assoc m (trees.leaf_truth t l) _ _
append-truth t m (BracketThen c inside after) y =
    ap (joined m (operands_truth t c inside)) (append-truth t m after y) ∙ joined_assoc m (operands_truth t c inside) _ _

-- ---- tokens

pub joins_none : (m : Junction) → Joins m [] (λ t. neutral m)
joins_none m = record { operands = End; tokens = refl; truth = λ t. refl }

pub joins_append : (m : Junction) (xs ys : List Token) (φ ψ : Meaning) → Joins m xs φ → Joins m ys ψ → Joins m (xs ++ ys) (λ t. joined m (φ t) (ψ t))
joins_append m xs ys φ ψ h k = record {
  operands = append h.operands k.operands;
  tokens = ap (λ (ts : List Token). ts ++ ys) h.tokens ∙ ap (λ (ts : List Token). operands_tokens h.operands ++ ts) k.tokens ∙ sym (append-tokens h.operands k.operands);
  truth = λ t. append-truth t m h.operands k.operands ∙ ap (λ b. joined m b (operands_truth t m k.operands)) (h.truth t) ∙ ap (joined m (φ t)) (k.truth t);
}

joins_tree_leaf : (m : Junction) (l : trees.Leaf) → Joins m (leaf_token l ∷ []) (λ t. trees.leaf_truth t l)
joins_tree_leaf m l = record { operands = LeafThen l End; tokens = refl; truth = λ t. joined_unit m (trees.leaf_truth t l) }

-- only YES is true
abbrev pub leaf_truth : Leaf → Bool
leaf_truth leaf.Yes = true
leaf_truth leaf.No = false
leaf_truth leaf.Cut = false

pub joins_leaf : (m : Junction) (l : Leaf) → Joins m (Machine.leaf l ∷ []) (λ t. leaf_truth l)
joins_leaf m leaf.Yes = joins_tree_leaf m trees.Yes
joins_leaf m leaf.No = joins_tree_leaf m trees.No
joins_leaf m leaf.Cut = joins_tree_leaf m trees.Cut

pub joins_call : (m : Junction) (n : ℕ) → Joins m (token.Call n ∷ []) (λ t. t n)
joins_call m n = joins_tree_leaf m (trees.Call n)

-- a bracket is one operand of the bracket around it
pub joins_bracket : (k m : Junction) (xs : List Token) (φ : Meaning) → Joins m xs φ → Joins k (opening m ∷ (xs ++ token.Close ∷ [])) φ
joins_bracket k m xs φ h = record {
  operands = BracketThen m h.operands End;
  tokens = ap (λ (ts : List Token). opening m ∷ (ts ++ token.Close ∷ [])) h.tokens;
  truth = λ t. joined_unit k (operands_truth t m h.operands) ∙ h.truth t;
}

pub joins_same : (m : Junction) (xs : List Token) (φ ψ : Meaning) → ((t : Environment ℕ) → φ t ≡ ψ t) → Joins m xs φ → Joins m xs ψ
joins_same m xs φ ψ e h = record { operands = h.operands; tokens = h.tokens; truth = λ t. h.truth t ∙ e t }
