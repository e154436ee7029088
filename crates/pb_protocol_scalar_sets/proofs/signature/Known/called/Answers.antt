use Rattle.std.proofs.Common.{◌∙◌, map}
use Rattle.std.specs.Prelude.{reverse}
use Rattle.pb_protocol_scalar_sets.specs.View.{signature_said}
use Rattle.pb_protocol_scalar_sets.proofs.Scopes.{called-first, called-behind}
use Rattle.pb_protocol_scalar_sets.proofs.signature.Known.called.Goals as goal

pub returns-in-Some : goal.returns-in-Some
returns-in-Some c =
    let k = c.args.self.now in
    called-first (reverse (map signature_said k.definitions.now)) (map signature_said k.state.now) c.args.name.now (signature_said c.in-Some.signature.now) c.in-Some.ensures

pub returns-in-None : goal.returns-in-None
returns-in-None c =
    let k = c.args.self.now in
    c.first_called.ensures ∙ called-behind (reverse (map signature_said k.definitions.now)) (map signature_said k.state.now) c.args.name.now c.in-None.ensures
