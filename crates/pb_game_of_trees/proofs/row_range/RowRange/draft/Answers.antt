use Rattle.std.proofs.Common.{◌≡◌, ℕ, ◌-◌, ◌<◌, List, [], slice_range, sym, ap, ◌∙◌, subst, get_or, arith}
use Rattle.pb_fixpoint_trees.specs.Rows.{Row}
use Rattle.pb_fixpoint_trees.specs.Row.{nothing}
use Rattle.pb_fixpoint_trees.specs.Game.{row_vertices}
use Rattle.pb_game_of_trees.specs.Held.{Hold}
use Rattle.pb_game_of_trees.specs.Draft.{IsDraft}
use Rattle.pb_game_of_trees.specs.Builder.{IsAt, HasTree}
use Rattle.pb_game_of_trees.specs.Levels.{priority_in}
use Rattle.pb_game_of_trees.specs.Numbering.{numbered_vertex}
use Rattle.pb_game_of_trees.proofs.Rows.{IsNext, number, next_row, tokens_of, place_before}
use Rattle.pb_game_of_trees.proofs.RowRanges.{range_before}
use Rattle.pb_game_of_trees.proofs.row_range.RowRange.draft.Goals.{After-tokens, In_ok-put_tree}
use Rattle.pb_game_of_trees.proofs.row_range.RowRange.draft.Goals as goal

module _ (c : After-tokens) (plain : List Row) (hold : Hold c.args.self.rows.now plain) where
  some : 0 < c.loop-k.k
  some = let more = c.loop-k-test.true in omega (arith, more)

  -- the row before those that were put
  row : IsNext plain (c.loop-k.k - 1) (get_or c.args.self.rows.now (c.loop-k.k - 1) nothing)
  row =
      let to = c.loop-k.invariant.to in
      let inside = c.args.self.inside in
      next_row c.args.self.rows.now plain (c.loop-k.k - 1) hold (omega (arith, some, to, inside))

  -- what was put stays where room is made
  room : IsAt (numbered_vertex c.args.self.numbering.now) c.make_room.new.self []
      (row_vertices (numbered_vertex c.args.self.numbering.now) (priority_in c.args.self.levels.now.items.items) (slice_range plain c.loop-k.k c.args.self.to) c.loop-k.builder.next)
      c.loop-k.builder.next
  room = c.in_ok-make_room.ensures (numbered_vertex c.args.self.numbering.now) [] _ c.loop-k.builder.next (c.loop-k.invariant.behind plain hold)

pub put_tree-requires-clause-spelled : goal.put_tree-requires-clause-spelled
put_tree-requires-clause-spelled c =
    let l = c.loop-k in
    let r = c.requires.held in
    let n = row c r.0 r.1 in (
      n.next.tree,
      c.tokens.ensures ∙ tokens_of r.0 (l.k - 1) _ n,
      omega (arith, l.invariant.place r.0 r.1, place_before r.0 l.k (some c r.0 r.1) _ n, (room c r.0 r.1).reaches),
    )

pub put_tree-requires-clause-before : goal.put_tree-requires-clause-before
put_tree-requires-clause-before c = (_, _, room c c.requires.held.0 c.requires.held.1)

-- the row's vertices are put
put : (c : In_ok-put_tree) (plain : List Row) (hold : Hold c.args.self.rows.now plain) →
    HasTree (numbered_vertex c.args.self.numbering.now) c.put_tree.new.self c.priority_at-priority.result (row (goal.at.loop-k-preserved c).After-tokens plain hold).next.tree
    (row_vertices (numbered_vertex c.args.self.numbering.now) (priority_in c.args.self.levels.now.items.items) (slice_range plain c.loop-k.k c.args.self.to) c.loop-k.builder.next)
    c.loop-k.builder.next
put c plain hold =
    let n = row (goal.at.loop-k-preserved c).After-tokens plain hold in
    c.in_ok-put_tree.ensures n.next.tree _ c.loop-k.builder.next (c.tokens.ensures ∙ tokens_of plain (c.loop-k.k - 1) _ n) (room (goal.at.loop-k-preserved c).After-tokens plain hold)

pub loop-k-preserved : goal.loop-k-preserved
loop-k-preserved c =
    let l = c.loop-k in
    let p = priority_in c.args.self.levels.now.items.items in
    let more = c.loop-k-test.true in
    let to = l.invariant.to in
    record {
      from = omega (arith, more);
      to = omega (arith, to);
      level = c.priority_at-priority.ensures.place;
      place = λ plain hold.
          omega (
            arith,
            (put c plain hold).reaches,
            l.invariant.place plain hold,
            place_before plain l.k (omega (arith, more)) _ (row (goal.at.loop-k-preserved c).After-tokens plain hold),
          );
      behind = λ plain hold.
          let n = row (goal.at.loop-k-preserved c).After-tokens plain hold in
          let h = put c plain hold in
          let priority : c.priority_at-priority.result ≡ p n.next.number = c.priority_at-priority.ensures.priority ∙ ap (λ (x : ℕ). p x) (c.number.ensures ∙ sym (ap number n.is)) in
          record {
            targets = h.targets;
            starts = h.starts;
            draft = subst (IsDraft c.put_tree.new.self.draft)
                (range_before plain l.k c.args.self.to (omega (arith, more)) to _ n (numbered_vertex c.args.self.numbering.now) p c.put_tree.new.self.next l.builder.next priority
                (omega (arith, h.reaches))) h.draft;
            reaches = omega arith;
          };
    }
