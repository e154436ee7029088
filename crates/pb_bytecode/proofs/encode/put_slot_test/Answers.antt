use Rattle.std.proofs.Common.{◌∷◌, [], ◌++◌}
use Rattle.pb_bytecode.specs.Spelling
use Rattle.pb_bytecode.proofs.Appending.{append_both}
use Rattle.pb_bytecode.proofs.encode.put_slot_test.Goals as goal

pub returns : goal.returns
returns c =
    append_both c.args.out.now.items c.push.new.self.items c.put_test.new.out.items (c.args.slot ∷ [])
    (Spelling.bounds c.args.low.now c.args.high.now ++ Spelling.u16 c.args.target) c.in_ok-push.ensures.items c.in_ok-put_test.ensures
