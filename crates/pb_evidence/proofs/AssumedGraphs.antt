-- No leaf that hasn't the value is in a proof graph, so that its instances have their own trees.
use Rattle.std.proofs.Common.{◌≡◌, ℕ, Bool, true, false, not, List, inl, inr, refl, sym, ap, ◌∙◌, subst}
use Rattle.std.proofs.lemmas.Bool.{false≢true}
use Rattle.pb_fixpoint.specs.Solution.{Environment}
use Rattle.pb_fixpoint_trees.specs.Tree.{Tree, tree_truth}
use Rattle.pb_strategy.proofs.Players.{not_other}
use Rattle.pb_evidence.specs.ProofGraphs.{exactly}
use Rattle.pb_evidence.specs.Supports.{IsSupport}
use Rattle.pb_evidence.specs.AssumedGraphs.{leaf_tree, IsAssumed, AssumedGraphsProve, AssumedChoicesHold}

leaf_truth_is : (t : Environment ℕ) (b : Bool) → tree_truth t (leaf_tree b) ≡ b
leaf_truth_is t true = refl
leaf_truth_is t false = refl

own_truth : (t : Environment ℕ) (b : Bool) (trees assumed : ℕ → Tree) (n : ℕ) → IsAssumed trees assumed b n
    → tree_truth t (assumed n) ≡ b → tree_truth t (trees n) ≡ b
own_truth t b trees assumed n is h = elim is [
  | inl own ↦ ap (tree_truth t) (sym own) ∙ h
  | inr leaf ↦ absurd (not_other b (sym (leaf_truth_is t (not b)) ∙ (ap (tree_truth t) (sym leaf) ∙ h)))
]

pub assumed_graphs_prove : AssumedGraphsProve
assumed_graphs_prove signatures trees assumed b graph is all = record {
  below = is.below;
  closed = is.closed;
  sufficient = λ n c. own_truth (exactly b (graph.dependencies n)) b trees assumed n (all n c) (is.sufficient n c);
  cycles = is.cycles;
}

no_support : (b : Bool) (calls : List ℕ) → IsSupport b (leaf_tree (not b)) calls → ⊥
no_support true calls h = false≢true (sym h.1.0)
no_support false calls h = false≢true h.1.0

own_support : (b : Bool) (trees assumed : ℕ → Tree) (n : ℕ) (calls : List ℕ) → IsAssumed trees assumed b n
    → IsSupport b (assumed n) calls → IsSupport b (trees n) calls
own_support b trees assumed n calls is h = elim is [
  | inl own ↦ subst (λ (t : Tree). IsSupport b t calls) own h
  | inr leaf ↦ absurd (no_support b calls (subst (λ (t : Tree). IsSupport b t calls) leaf h))
]

pub assumed_choices_hold : AssumedChoicesHold
assumed_choices_hold trees assumed b graph rests all n c =
    own_support b trees assumed n (graph.dependencies n) (all n c) (rests n c)
