use Rattle.std.proofs.Common.{sym}
use Rattle.pb_model_names.proofs.taken.Taken.start.Goals as goal

pub returns-in-Some : goal.returns-in-Some
returns-in-Some c = c.args.self.now.searched c.args.name.now c.in-Some.start.now (sym c.in-Some.ensures.value)
