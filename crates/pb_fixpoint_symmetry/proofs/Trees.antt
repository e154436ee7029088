-- Trees whose calls go to instances to which symmetries carry those that were called.
use Rattle.std.proofs.Common.{◌≡◌, ℕ, ◌+◌, Bool, true, List, [], ◌∷◌, refl, sym, ◌∙◌, ap}
use Rattle.pb_fixpoint.specs.Solution.{Environment, empty}
use Rattle.pb_fixpoint_trees.specs.declared.junction.Junction.{Junction}
use Rattle.pb_fixpoint_trees.specs.Junctions.{joined}
use Rattle.pb_fixpoint_trees.specs.Tree.{Leaf, Yes, No, Cut, Call, Operands, Tree, leaf_truth, operands_truth, tree_truth}
use Rattle.pb_fixpoint_trees.specs.Equations.{Signature, numbered, solved}
use Rattle.pb_fixpoint_symmetry.specs.Symmetry.{IsSymmetry, IsInvariantUnder, Agree, AreReduced}
use Rattle.pb_fixpoint_symmetry.specs.Trees.{LeavesMatch, OperandsMatch, Ends, Leaves, Brackets, TreesMatch, Singles, Roots, MayBeCalledFor}
use Rattle.pb_fixpoint_symmetry.proofs.Reduced.{suffice}

module _ (R : ℕ → ℕ → Type 0) (t u : Environment ℕ) (same : (n k : ℕ) → R n k → u k ≡ t n) where
  leaves-same : (l k : Leaf) → LeavesMatch R l k → leaf_truth u k ≡ leaf_truth t l
  leaves-same (Call n) (Call k) r = same n k r
  leaves-same (Call n) Yes r = absurd r
  leaves-same (Call n) No r = absurd r
  leaves-same (Call n) Cut r = absurd r
  leaves-same Yes k r = ap (leaf_truth u) r
  leaves-same No k r = ap (leaf_truth u) r
  leaves-same Cut k r = ap (leaf_truth u) r

  operands-same : (c : Junction) (x y : Operands) → OperandsMatch R x y → operands_truth u c y ≡ operands_truth t c x
  operands-same c _ _ Ends = refl
  operands-same c _ _ (Leaves l k after following r rest) =
      ap (λ b. joined c b (operands_truth u c following)) (leaves-same l k r) ∙
      ap (λ b. joined c (leaf_truth t l) b) (operands-same c after following rest)
  operands-same c _ _ (Brackets d inside within after following r rest) =
      ap (λ b. joined c b (operands_truth u c following)) (operands-same d inside within r) ∙
      ap (λ b. joined c (operands_truth t d inside) b) (operands-same c after following rest)

  trees-same : (x y : Tree) → TreesMatch R x y → tree_truth u y ≡ tree_truth t x
  trees-same _ _ (Singles l k r) = leaves-same l k r
  trees-same _ _ (Roots c x y r) = operands-same c x y r

module _ (G : Type 0) (known : ℕ → Bool) (family : G → ℕ → ℕ) (trees fewer : ℕ → Tree)
    (same : (n : ℕ) → known n ≡ true → TreesMatch (MayBeCalledFor known family) (trees n) (fewer n)) where
  called : (t u : Environment ℕ) → IsInvariantUnder known family t → Agree known u t → (n k : ℕ) → MayBeCalledFor known family n k → u k ≡ t n
  called t u st ut n k may = ut k may.now ∙ (ap t may.carried.1 ∙ sym (st may.carried.0 n may.before))

  reduced-trees : (signatures : List Signature) (first : ℕ) → AreReduced known family (numbered first signatures trees) (numbered first signatures fewer)
  reduced-trees [] first = tt
  reduced-trees (s ∷ signatures) first = (
    record {
      sign = refl;
      size = refl;
      owns = λ n k. refl;
      holds = λ t u st ut n k. trees-same (MayBeCalledFor known family) t u (called t u st ut) (trees n) (fewer n) (same n k);
    },
    reduced-trees signatures (first + s.size),
  )

  pub trees-suffice : (signatures : List Signature) → ((g : G) → IsSymmetry known (numbered 0 signatures trees) (family g)) → Agree known (solved signatures fewer) (solved signatures trees)
  trees-suffice signatures syms =
      suffice ℕ G known family (numbered 0 signatures trees) (numbered 0 signatures fewer) syms (reduced-trees signatures 0) empty empty (λ g n k. refl) (λ n k. refl)
