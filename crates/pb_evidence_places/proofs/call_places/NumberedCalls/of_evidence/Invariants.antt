use Rattle.pb_typing_calls.specs.View.{said_by}
use Rattle.pb_evidence_places.specs.CallPlaces.{place_of_call}
use Rattle.pb_evidence_places.proofs.Placing.{ArePlacedTo}
use Rattle.pb_evidence_places.proofs.call_places.NumberedCalls.of_evidence.Given as goal

abbrev pub invariant-loop-k : goal.invariant-loop-k
invariant-loop-k l =
    ArePlacedTo l.evidence.instances.items l.evidence.places.items l.evidence.dependencies.items l.evidence.divided
    (place_of_call (said_by l.self.calls) l.self.layout.now) l.k l.places.items
