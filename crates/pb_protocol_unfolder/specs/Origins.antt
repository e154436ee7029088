-- The names by which users are told of flat steps, and where they stand in the protocol.
use Rattle.std.specs.Prelude.{List, map, string_bytes}
use Rattle.pb_text_tree.specs.declared.place.Place.{Place}
use Rattle.pb_text_meaning.specs.Syntax.{Name}
use Rattle.pb_protocol_tree.specs.Form.{ProtocolForm}
use Rattle.pb_protocol_meaning.specs.Erase.{erase}
use Rattle.pb_protocol_unfolding.specs.Unfolding.{instances}
use Rattle.pb_protocol_unfolder_steps.specs.Refusals.{instance_places}
use Rattle.pb_protocol_unfolder.specs.Told.{may_be_taken}
use Rattle.pb_protocol_unfolder.specs.Unfolded.{chosen_places}
use Rattle.pb_protocol_unfolder.specs.declared.origin.StepOrigin.{StepOrigin}

abbrev pub origin_name : StepOrigin → Name
origin_name origin = string_bytes origin.name

abbrev pub origin_place : StepOrigin → Place
origin_place origin = origin.place

-- of the names of all steps with their values, those of the ones that may be taken
abbrev pub told_step_places : ProtocolForm → List Place
told_step_places m =
    chosen_places (instance_places m) (map (may_be_taken (erase m)) (instances (erase m)))
