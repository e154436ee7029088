-- Evidence where the trees of some instances are not known.
use Rattle.std.specs.Prelude.{ℕ, List}
use Rattle.pb_fixpoint_trees.specs.Tree.{Tree}
use Rattle.pb_fixpoint_trees.specs.Equations.{Signature}
use Rattle.pb_evidence.specs.AssumedGraphs.{AreAssumed}
use Rattle.pb_evidence.specs.declared.Evidence.{Evidence}
use Rattle.pb_evidence.specs.Evidence.{Shows, graph_of}

-- evidence over trees that are assumed so shows the instance's truth with the instances' own
abbrev pub AssumedIsShown : Type 0
AssumedIsShown =
    (signatures : List Signature) (trees assumed : ℕ → Tree) (n : ℕ) (e : Evidence) →
    Shows signatures assumed n e → AreAssumed trees assumed e.truth (graph_of e)
    → Shows signatures trees n e
