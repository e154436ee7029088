use Rattle.std.proofs.Common.{◌≡◌, ◌++◌, map}
use Rattle.std.specs.Vec.Iter.{into_iter_items}
use Rattle.pb_typing_tree.specs.Tree.{Test}
use Rattle.pb_typing_tree.specs.View.{term_views, formula_views}
use Rattle.pb_typing.proofs.joined.add_tests.Given as goal

abbrev pub invariant-loop-term : goal.invariant-loop-term
invariant-loop-term l =
    formula_views l.formulas.items ++ map Test (term_views (into_iter_items l.term-iterator)) ≡ formula_views l.fn.formulas.items ++ map Test (term_views l.fn.terms.items)
