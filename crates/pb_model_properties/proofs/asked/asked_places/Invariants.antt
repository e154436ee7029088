use Rattle.pb_model_properties.proofs.AskedNames.{HasPlaces, texts_of}
use Rattle.pb_model_properties.proofs.asked.asked_places.Given as goal

-- the places so far, and those that are left
abbrev pub invariant-loop-place : goal.invariant-loop-place
invariant-loop-place l = HasPlaces (texts_of l.names) l.properties l.places.items l.place
