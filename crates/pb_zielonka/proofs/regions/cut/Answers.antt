use Rattle.std.proofs.Common.{◌≡◌, ◌<◌, ◌+◌, ℕ, List, length, arith, refl, sym, ◌∙◌, subst}
use Rattle.std.specs.Prelude.{IsPermutation}
use Rattle.std.proofs.lemmas.List.Sorted.{IsPermutation-refl, IsPermutation-trans}
use Rattle.pb_zielonka.proofs.Lists.{IsCutSoFar, cut_swapped, cut_kept}
use Rattle.pb_zielonka.proofs.regions.cut.Goals as goal
use Rattle.pb_zielonka.proofs.regions.cut.Goals.{then-rank-list-eq0, else-rank-list-eq0}

-- what a turn of the loop leaves
record IsTurned (rank old list : List ℕ) (first k : ℕ) : Type 0 where
  size : length list ≡ length old
  permuted : IsPermutation old list
  cut : IsCutSoFar rank list first k

at : (rank old xs ys : List ℕ) (first first' k : ℕ) → ys ≡ xs → first' ≡ first → IsTurned rank old xs first k → IsTurned rank old ys first' k
at rank old xs ys first first' k e e' t =
    subst (λ (zs : List ℕ). IsTurned rank old zs first' k) (sym e) (subst (λ (n : ℕ). IsTurned rank old xs n k) (sym e') t)

pub loop-k-preserved : goal.loop-k-preserved
loop-k-preserved c =
    let i = c.loop-k.invariant in
    let xs = c.loop-k.list in
    let rank = c.args.rank.now in
    let less : c.loop-k.k < length xs = omega (arith, i.end, c.loop-k-test.true) in
    let turned : IsTurned rank xs c.if-rank-list-eq0.list c.if-rank-list-eq0.first (c.loop-k.k + 1) = elim c.if-rank-list-eq0.branch [
      | then-rank-list-eq0 w ↦
          at rank xs w.swap.new.self _ (c.loop-k.first + 1) _ (c.loop-k.k + 1) w.list-is w.first-is (record {
            size = w.swap.ensures.len;
            permuted = w.swap.ensures.permutation;
            cut = cut_swapped rank xs w.swap.new.self c.loop-k.first c.loop-k.k w.swap.ensures.by_index w.swap.ensures.len less w.if-rank-list-eq0.true i.cut;
          })
      | else-rank-list-eq0 w ↦
          at rank xs xs _ c.loop-k.first _ (c.loop-k.k + 1) w.list-is w.first-is (record {
            size = refl;
            permuted = IsPermutation-refl xs;
            cut = cut_kept rank xs c.loop-k.first c.loop-k.k (omega (arith, w.if-rank-list-eq0.false)) i.cut;
          })
    ] in
    record {
      end = i.end ∙ sym turned.size;
      permuted = IsPermutation-trans c.args.list.now xs _ i.permuted turned.permuted;
      cut = turned.cut;
    }
