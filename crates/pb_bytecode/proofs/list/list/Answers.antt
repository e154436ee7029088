use Rattle.std.proofs.Common.{refl}
use Rattle.pb_bytecode.specs.Decoded.{module_contents}
use Rattle.pb_bytecode.proofs.Appending.{module_countable}
use Rattle.pb_bytecode.proofs.list.list.Goals as goal

pub list_equations-requires : goal.list_equations-requires
list_equations-requires c = rw (c.deref-2.ensures.value) (module_countable (module_contents c.args.module.now) c.args.module.now.equations.items refl c.args.module.now.within_limits)
