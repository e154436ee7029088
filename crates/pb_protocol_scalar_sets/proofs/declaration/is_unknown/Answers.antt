use Rattle.std.proofs.Common.{◌++◌, map}
use Rattle.std.specs.Prelude.{reverse}
use Rattle.pb_protocol_scalar_sets.specs.View.{signature_said}
use Rattle.pb_protocol_scalar_sets.proofs.Tested.{called-known, called-none}
use Rattle.pb_protocol_scalar_sets.proofs.declaration.is_unknown.Goals as goal

pub returns-in-Some : goal.returns-in-Some
returns-in-Some c =
    called-known (reverse (map signature_said c.args.definitions.now) ++ map signature_said c.args.state.now) c.args.name.now (signature_said c.in-Some.field-0.now) c.in-Some.ensures

pub returns-in-None : goal.returns-in-None
returns-in-None c = called-none (reverse (map signature_said c.args.definitions.now) ++ map signature_said c.args.state.now) c.args.name.now c.in-None.ensures
