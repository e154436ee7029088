use Rattle.std.proofs.Common.{ap}
use Rattle.pb_typing_tree.specs.declared.formula.Formula.{Formula}
use Rattle.pb_typing_tree.specs.Calls.{call_places}
use Rattle.pb_typing_tree.specs.View.{formula_view, nested}
use Rattle.pb_typing_nodes.proofs.variables.quantified.Goals as goal

pub returns-clause-view : goal.returns-clause-view
returns-clause-view c = ap (λ (f : Formula). nested c.args.quantifier c.args.bound.slot c.args.bound.carriers.items (formula_view f)) c.in_ok-new.ensures.ok

pub returns-clause-places : goal.returns-clause-places
returns-clause-places c = ap call_places c.in_ok-new.ensures.ok
