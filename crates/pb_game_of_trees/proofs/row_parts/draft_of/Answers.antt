use Rattle.std.proofs.Common.{◌≡◌, ◌∙◌, length, sym, subst}
use Rattle.pb_fixpoint_trees.specs.Game.{row_vertices}
use Rattle.pb_game_of_trees.specs.Draft.{IsDraft}
use Rattle.pb_game_of_trees.specs.Levels.{priority_in}
use Rattle.pb_game_of_trees.specs.Numbering.{numbered_vertex}
use Rattle.pb_game_of_trees.proofs.Rows.{count_held}
use Rattle.pb_game_of_trees.proofs.RowRanges.{range_whole}
use Rattle.pb_game_of_trees.proofs.row_parts.draft_of.Goals as goal

pub returns : goal.returns
returns g c = λ plain hold.
    let r = c.args.rows in
    let at = numbered_vertex r.numbering.now in
    let p = priority_in r.levels.now.items.items in
    let all : r.to ≡ length plain = c.requires.last ∙ sym (count_held plain hold) in
    let is : IsDraft c.in_ok-draft.draft (row_vertices at p plain 2) =
    subst (IsDraft c.in_ok-draft.draft) (range_whole at p plain r.from r.to c.requires.first all) (c.in_ok-draft.ensures plain hold) in
    c.in_ok-put-2.ensures _ (c.in_ok-put.ensures _ is)
