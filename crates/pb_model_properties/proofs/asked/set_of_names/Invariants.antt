use Rattle.std.proofs.Common.{drop}
use Rattle.pb_model_properties.proofs.AskedNames.{HasAll, texts_of}
use Rattle.pb_model_properties.proofs.asked.set_of_names.Given as goal

-- the names in the set, and those that are left
abbrev pub invariant-loop-name : goal.invariant-loop-name
invariant-loop-name l = HasAll (texts_of l.names) l.set (texts_of (drop l.name-index l.names))
