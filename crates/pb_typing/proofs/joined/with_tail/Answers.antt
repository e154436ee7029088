use Rattle.std.proofs.Common.{sym, ◌∙◌, rules}
use Rattle.pb_typing.proofs.ValueMade.{tail-made, head-removed}
use Rattle.pb_typing.proofs.joined.with_tail.Goals as goal

pub returns : goal.returns
returns c =
    tail-made c.args.connective c.args.formulas.items c.push.new.self.items c.args.terms.items c.remove-first.result c.in_ok-first.first c.remove-first.new.self
    c.in_ok-first.ensures.ok
    (head-removed c.args.terms.len c.args.terms.items c.remove-first.new.self.items c.remove-first.result
    (sym c.is_empty.ensures ∙ c.if-is_empty.false) (search rules) c.remove-first.ensures.value c.remove-first.ensures.items)
    c.in_ok-push.ensures.items
