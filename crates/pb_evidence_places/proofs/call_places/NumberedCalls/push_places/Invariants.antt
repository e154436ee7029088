use Rattle.std.proofs.Common.{◌≡◌, ◌++◌, map, take}
use Rattle.pb_typing_calls.specs.View.{said_by}
use Rattle.pb_evidence_places.specs.CallPlaces.{place_of_call}
use Rattle.pb_evidence_places.proofs.call_places.NumberedCalls.push_places.Given as goal

abbrev pub invariant-loop-k : goal.invariant-loop-k
invariant-loop-k l = l.places.items ≡ l.fn.places.items ++ map (place_of_call (said_by l.self.calls) l.self.layout.now l.caller) (take l.k l.called)
