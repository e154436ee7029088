use Rattle.pb_model_names.proofs.Sets.{adds-one}
use Rattle.pb_model_names.proofs.Starts.{starts-inserted}
use Rattle.pb_model_names.proofs.taken.Taken.push.Goals as goal

pub invariant_of-self : goal.invariant_of-self
invariant_of-self c =
    let old = c.args.self.now in
    record { searched = starts-inserted c.insert.result old.names c.insert.new.self old.starts c.in_ok-name.name c.insert.ensures.updates c.insert.ensures.err old.searched }

pub returns : goal.returns
returns c = adds-one c.args.self.now.names c.insert.new.self c.in_ok-name.name c.args.name.now c.in_ok-insert.ensures.updates c.in_ok-name.ensures.ok
