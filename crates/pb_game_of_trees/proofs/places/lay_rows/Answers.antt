use Rattle.std.proofs.Common.{ℕ, ◌+◌, List, ◌∷◌, [], ◌++◌, drop, ap, ◌∙◌, append_assoc, arith}
use Rattle.pb_game_of_trees.specs.Places.{vertices_from}
use Rattle.pb_game_of_trees.proofs.Rows.{vertex_behind-more, vertices_from-more, next_fits}
use Rattle.pb_game_of_trees.proofs.places.lay_rows.Goals as goal

pub loop-k-preserved : goal.loop-k-preserved
loop-k-preserved c =
    let l = c.loop-k in
    let m = c.inner_of-inner.result in
    record {
      small = omega arith;
      counted = λ plain hold. vertex_behind-more c.args.rows.now plain l.k l.next m hold (omega arith) c.inner_of-inner.ensures.inner ∙ l.invariant.counted plain hold;
      pushed = λ plain hold.
          let later = vertices_from (drop (l.k + 1) plain) (l.next + (m + 1)) in
          ap (λ (xs : List ℕ). xs ++ later) c.in_ok-push.ensures.ok
          ∙ (append_assoc l.vertices.items (l.next ∷ []) later
          ∙ (ap (λ (xs : List ℕ). l.vertices.items ++ xs) (vertices_from-more c.args.rows.now plain l.k l.next m hold (omega arith) c.inner_of-inner.ensures.inner)
          ∙ l.invariant.pushed plain hold));
    }

pub returns-then-next-limit-clause-laid : goal.returns-then-next-limit-clause-laid
returns-then-next-limit-clause-laid c = λ plain hold. omega (
  arith,
  next_fits c.args.rows.now plain c.loop-k.k c.loop-k.next c.inner_of-inner.result hold (omega arith) c.inner_of-inner.ensures.inner,
  c.loop-k.invariant.counted plain hold,
)
