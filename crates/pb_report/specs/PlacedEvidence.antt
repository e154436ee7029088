-- What has to be known of evidence before it is written.
use Rattle.std.specs.Prelude.{ℕ, List, Option}
use Rattle.pb_text_tree.specs.declared.place.Place.{Place}
use Rattle.pb_bytecode.specs.Contents.{Contents}
use Rattle.pb_game_of_trees.specs.Explored.{ModuleHasTrees}
use Rattle.pb_report.specs.declared.module_evidence.Explanation.{Explanation}
use Rattle.pb_report.specs.CallPlaces.{AreCallPlaces}
use Rattle.pb_report.specs.ModuleEvidence.{IsExplanation}

-- the module's instances have trees, the evidence explains the truth of the initial one, and the
-- places are those of the calls in its lines
pub record IsPlacedEvidence (m : Contents) (x : Explanation) (call_places : List (Option Place))
    : Type 0 where
  pub trees : ModuleHasTrees m
  pub explanation : IsExplanation m x
  pub places : (place : ℕ → ℕ → Option Place) × AreCallPlaces place x.evidence call_places
