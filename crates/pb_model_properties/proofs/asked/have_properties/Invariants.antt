use Rattle.std.proofs.Common.{◌≡◌, drop}
use Rattle.std.specs.List.{list_all}
use Rattle.pb_typing_declarations.specs.Faults.{is_among}
use Rattle.pb_model_properties.proofs.AskedNames.{names_of, texts_of}
use Rattle.pb_model_properties.proofs.asked.have_properties.Given as goal

-- all are known where those that are left are
abbrev pub invariant-loop-name : goal.invariant-loop-name
invariant-loop-name l =
    list_all (is_among (names_of l.properties)) (texts_of l.names) ≡ list_all (is_among (names_of l.properties)) (texts_of (drop l.name-index l.names))
