use Rattle.std.proofs.Common.{◌≡◌, ◌≤◌, ℕ, List, length, get_or, ◌+◌, sym, ap, subst, rules}
use Rattle.pb_game.specs.Games.{successors_of}
use Rattle.pb_game.specs.Certificates.{IsKept}
use Rattle.pb_evidence.specs.Finding.{Gains}
use Rattle.pb_strategy.proofs.Kept.{edge_at}
use Rattle.pb_evidence.proofs.Gaining.{IsKeptBefore, kept_more, kept_skip, kept_all}
use Rattle.pb_evidence.proofs.search.find_next.Goals as goal
use Rattle.pb_evidence.proofs.search.find_next.Goals.{then-keeps+in_ok-add, else-keeps}

pub loop-u-preserved : goal.loop-u-preserved
loop-u-preserved c =
    let g = c.args.from.now.game.now in
    let s = c.args.from.now.solution.now in
    let k = c.loop-u.u-index in
    let u = get_or c.successors-u-items.result.now k 0 in
    let at : get_or (successors_of g c.args.from.now.number) k 0 ≡ u = ap (λ (xs : List ℕ). get_or xs k 0) (sym c.successors-u-items.ensures.list) in
    elim c.if-keeps.branch [
      | then-keeps+in_ok-add w ↦
          let kept : IsKept g s c.args.from.now.number u = record {
            edge = edge_at g c.args.from.now.number k c.successors-u-items.ensures.list c.loop-u-test.true;
            choice = c.keeps.ensures.0 w.if-keeps.true;
          } in
          subst (λ f. Gains (IsKeptBefore g s c.args.from.now.number (k + 1)) c.args.found.now f) (sym w.found-is)
          (kept_more g s c.args.from.now.number k u c.args.found.now c.loop-u.found _ at kept c.loop-u.invariant w.in_ok-add.ensures)
      | else-keeps w ↦
          subst (λ f. Gains (IsKeptBefore g s c.args.from.now.number (k + 1)) c.args.found.now f) (sym w.found-is)
          (kept_skip g s c.args.from.now.number k u c.args.found.now c.loop-u.found at (λ kept. search (rules, kept.choice)) c.loop-u.invariant)
    ]

pub returns : goal.returns
returns c =
    let g = c.args.from.now.game.now in
    let end : length (successors_of g c.args.from.now.number) ≤ c.loop-u.u-index = subst (λ (xs : List ℕ). length xs ≤ c.loop-u.u-index) c.successors-u-items.ensures.list c.loop-u-test.false in
    kept_all g c.args.from.now.solution.now c.args.from.now.number c.loop-u.u-index c.args.found.now c.loop-u.found end c.loop-u.invariant
