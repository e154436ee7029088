-- How the texts of a verified module come to the sink of a call.
use Rattle.std.specs.Prelude.{ℕ, List, Option, Result}
use Rattle.pb_text_tree.specs.declared.place.Place.{Place}
use Rattle.pb_sorts.specs.declared.sink.Sink.{Ghosts}
use Rattle.pb_sorts.specs.declared.counting.Counting.{Counting}
use Rattle.pb_bytecode.specs.Contents.{Contents}
use Rattle.pb_report.specs.CallPlaces.{AreCallPlaces}
use Rattle.pb_report.specs.ModuleEvidence.{IsExplanation}
use Rattle.pb_report.specs.declared.evidence_text.PlacedExplanation.{PlacedExplanation}
use Rattle.pb_command_faults.specs.declared.solve_error.SolveError.{SolveError}
use Rattle.pb_command_modules.specs.Delivery.{DeliversOrRefuses}
use Rattle.pb_command_modules.specs.Refusals.{IsRefusedModule}
use Rattle.pb_command_modules.specs.Writes.{WritesEvidence}

-- a text of the module is delivered; where the module is refused its game is too large, by which
-- instances count
abbrev pub DeliversOfModule : {S T : Type 0} → Counting → (Contents → List ℕ → Type 0)
    → Contents → Result T SolveError → Ghosts S → (old new : S) → Type 0
DeliversOfModule counting Writes m result sink old new =
    DeliversOrRefuses (Writes m) (IsRefusedModule counting m) result sink old new

-- the calls in the lines of the explanation have these places
abbrev pub HasCallPlaces : PlacedExplanation → (ℕ → ℕ → Option Place) → Type 0
HasCallPlaces placed place =
    AreCallPlaces place placed.explanation.now.evidence placed.call_places.now

-- it explains the truth of the module's initial instance, with places of the calls in its lines
pub record IsPlacedExplanation (m : Contents) (placed : PlacedExplanation) : Type 0 where
  pub explanation : IsExplanation m placed.explanation.now
  pub places : (place : ℕ → ℕ → Option Place) × HasCallPlaces placed place

-- The module's evidence is delivered, with whichever places the calls in its lines have. Nothing is
-- refused then, whichever instances count.
abbrev pub DeliversEvidence : {S T : Type 0} → Contents → PlacedExplanation → Result T SolveError
    → Ghosts S → (old new : S) → Type 0
DeliversEvidence m placed result sink old new =
    (counting : Counting) (place : ℕ → ℕ → Option Place) → HasCallPlaces placed place
    → DeliversOrRefuses (WritesEvidence m place) (IsRefusedModule counting m) result sink old new
