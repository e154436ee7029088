-- What rests on cut calls doesn't depend on the trees that are not in the evidence.
use Rattle.std.proofs.Common.{◌≡◌, ℕ, suc, ◌<◌, Bool, true, false, not, List, [], ◌∷◌, length, get_or, map, inl, inr, refl, sym, ap, ◌∙◌, arith}
use Rattle.std.proofs.lemmas.Bool.{false≢true}
use Rattle.pb_fixpoint.specs.Solution.{Environment}
use Rattle.pb_fixpoint_trees.specs.Tree.{Tree, tree_truth}
use Rattle.pb_fixpoint_trees.specs.Equations.{Signature}
use Rattle.pb_evidence.specs.AssumedGraphs.{leaf_tree, IsAssumed, AreAssumed}
use Rattle.pb_evidence.specs.Evidence.{graph_of}
use Rattle.pb_evidence.specs.Assumed.{AssumedIsShown}
use Rattle.pb_evidence.proofs.Finding.{contains_at}
use Rattle.pb_report.specs.declared.module_evidence.Explanation.{Explanation}
use Rattle.pb_report.specs.Cuts.{rests_on_cut, is_cut}
use Rattle.pb_report.specs.ModuleEvidence.{Explains}

-- the leaf that hasn't the value
other_leaf : (t : Environment ℕ) (b : Bool) → tree_truth t (leaf_tree (not b)) ≡ b → ⊥
other_leaf t true h = false≢true h
other_leaf t false h = false≢true (sym h)

-- a tree with the value is the instance's own
own_tree : (t : Environment ℕ) (b : Bool) (trees assumed : ℕ → Tree) (n : ℕ) → IsAssumed trees assumed b n
    → tree_truth t (assumed n) ≡ b → assumed n ≡ trees n
own_tree t b trees assumed n is h = elim is [
  | inl own ↦ own
  | inr leaf ↦ absurd (other_leaf t b (ap (tree_truth t) (sym leaf) ∙ h))
]

same_values : (f g : ℕ → Bool) (xs : List ℕ) → ((k : ℕ) → k < length xs → f (get_or xs k 0) ≡ g (get_or xs k 0)) → map f xs ≡ map g xs
same_values f g [] h = refl
same_values f g (x ∷ xs) h =
    ap (λ (bs : List Bool). f x ∷ bs) (same_values f g xs (λ k l. h (suc k) (omega (arith, l))))
    ∙ ap (λ (b : Bool). b ∷ map g xs) (h 0 (omega arith))

-- what is explained over assumed trees is so over the instances' own
pub assumed_is_explained : AssumedIsShown → (signatures : List Signature) (trees assumed : ℕ → Tree) (n : ℕ) (x : Explanation)
    → Explains signatures assumed n x → AreAssumed trees assumed x.evidence.truth (graph_of x.evidence) → Explains signatures trees n x
assumed_is_explained law signatures trees assumed n x explains all = record {
  shown = law signatures trees assumed n x.evidence explains.shown all;
  cuts = explains.cuts ∙ same_values (is_cut assumed x.evidence) (is_cut trees x.evidence) x.evidence.instances.items (λ k l.
      let m = get_or x.evidence.instances.items k 0 in
      let there = contains_at x.evidence.instances.items k l in
      ap (rests_on_cut x.evidence.truth ((graph_of x.evidence).dependencies m))
      (own_tree _ x.evidence.truth trees assumed m (all m there) (explains.shown.graph.sufficient m there)));
}
