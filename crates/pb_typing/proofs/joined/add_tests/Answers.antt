use Rattle.std.proofs.Common.{rules}
use Rattle.std.specs.Vec.Iter.{into_iter_items}
use Rattle.pb_typing_tree.specs.View.{formula_views}
use Rattle.pb_typing.proofs.ValueMade.{tests-ended}
use Rattle.pb_typing.proofs.joined.add_tests.Goals as goal

pub returns : goal.returns
returns c =
    tests-ended (formula_views c.loop-term.formulas.items) (formula_views c.args.formulas.items) (into_iter_items c.loop-term.term-iterator) c.args.terms.items (search rules) c.loop-term.invariant
