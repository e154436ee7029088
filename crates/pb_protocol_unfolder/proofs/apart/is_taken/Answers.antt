use Rattle.std.proofs.Common.{◌∙◌}
use Rattle.pb_protocol_unfolder.proofs.ApartLemmas.{some-sort}
use Rattle.pb_protocol_unfolder.proofs.apart.is_taken.Goals as goal

pub returns : goal.returns
returns c = c.some_has_enumerator.ensures ∙ some-sort c.args.name.now c.args.declarations.now
