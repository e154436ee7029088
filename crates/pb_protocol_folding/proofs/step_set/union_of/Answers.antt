use Rattle.std.proofs.Common.{◌∙◌, sym}
use Rattle.pb_protocol_folding.proofs.Chains.{set-of-union}
use Rattle.pb_protocol_folding.proofs.step_set.union_of.Goals as goal

pub returns : goal.returns
returns c =
    set-of-union c.args.place c.in_ok-first.first c.in_ok-first.links c.args.left c.args.right c.in_ok-first.ensures.0
    (rw c.in_ok-first.ensures.1 at c.union_links-links.ensures) (sym c.is_none.ensures ∙ c.if-is_none.false) (sym c.is_none-2.ensures ∙ c.if-is_none-2.false)
