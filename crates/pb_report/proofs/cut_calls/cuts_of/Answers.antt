use Rattle.std.proofs.Common.{sym, ap, ◌∙◌}
use Rattle.std.specs.List.{list_any}
use Rattle.pb_fixpoint_trees.specs.Row.{token_is_cut}
use Rattle.pb_report.specs.CutCalls.{one_if}
use Rattle.pb_report.proofs.Cut.{tree_cut}
use Rattle.pb_report.proofs.cut_calls.cuts_of.Goals as goal

pub returns-then-any_cut-clause-cut : goal.returns-then-any_cut-clause-cut
returns-then-any_cut-clause-cut c = λ tree e.
    ap one_if (sym c.if-any_cut.true ∙ (c.any_cut.ensures ∙ (ap (list_any token_is_cut) e ∙ tree_cut tree)))

pub returns-else-any_cut-clause-cut : goal.returns-else-any_cut-clause-cut
returns-else-any_cut-clause-cut c = λ tree e.
    ap one_if (sym c.if-any_cut.false ∙ (c.any_cut.ensures ∙ (ap (list_any token_is_cut) e ∙ tree_cut tree)))
