use Rattle.std.proofs.Common.{rules}
use Rattle.pb_protocol_packer.specs.View.{term_of}
use Rattle.pb_protocol_packer.proofs.SmallNumbers.{whole-some, whole-none}
use Rattle.pb_protocol_packer.proofs.to_number.whole_number.Goals as goal

pub returns-in-Some : goal.returns-in-Some
returns-in-Some c =
    let e = whole-some c.args.low (term_of c.args.term) c.in-Some.value c.in-Some.ensures in
    search (rules, e)

pub returns-in-None : goal.returns-in-None
returns-in-None c =
    let e = whole-none c.args.low (term_of c.args.term) c.in-None.ensures in
    search (rules, e)
