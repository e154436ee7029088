use Rattle.std.proofs.lemmas.List.Elements.{Contains-append_right}
use Rattle.pb_protocol_folding.specs.Places.{places_of}
use Rattle.pb_protocol_folding.proofs.formula.connected_formula.Goals as goal

pub returns-in-Right-clause-places : goal.returns-in-Right-clause-places
returns-in-Right-clause-places c = λ x at. Contains-append_right (places_of c.args.left) (places_of c.args.right) x at
