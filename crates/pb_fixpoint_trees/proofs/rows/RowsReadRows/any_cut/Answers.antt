use Rattle.std.proofs.Common.{All, sym, ◌∙◌, subst}
use Rattle.pb_fixpoint_trees.specs.Row.{HasNoCut}
use Rattle.pb_fixpoint_trees.proofs.NoCut.{in_rows}
use Rattle.pb_fixpoint_trees.proofs.rows.RowsReadRows.any_cut.Goals as goal

pub returns : goal.returns
returns c = λ none.
    subst (All HasNoCut) c.self.view_is (in_rows c.self.inside.tokens c.self.inside.entries.items (sym c.any_cut.ensures ∙ none))
