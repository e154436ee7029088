-- What a turn's front and what its opponent attracts are.
use Rattle.std.proofs.Common.{◌≡◌, ◌≢◌, ◌+◌, ◌<◌, inl, inr, ℕ, List, Bool, get_or, sym, subst, arith}
use Rattle.pb_game.specs.Games.{vertex_count, priority_of}
use Rattle.pb_game.specs.Solutions.{choice_of}
use Rattle.pb_game.specs.declared.certificate.Solution.{Solution}
use Rattle.pb_zielonka.specs.declared.attractor.Attractor.{Attractor}
use Rattle.pb_zielonka.specs.declared.scopes.Standing.{Standing}
use Rattle.pb_zielonka.specs.Regions.{IsIn, ListsRegion, IsSelection}
use Rattle.pb_zielonka.specs.Attractors.{IsAttractor, IsWithout}
use Rattle.pb_zielonka.specs.Changes.{IsClaimedAt}
use Rattle.pb_zielonka.specs.Kept.{IsClosedOn, IsTargetOn}
use Rattle.pb_zielonka.specs.Turns.{IsClaimedFront}

-- the attractor of what stays kept and of the greatest priority is a front
pub claimed_front : (standing : Standing) (left marks kept' rest : List Bool) (target list : List ℕ) (a : Attractor) (s' : Solution) (height peak : ℕ) →
    standing.region.now ≡ left → ListsRegion left list → IsClosedOn standing marks kept' height →
    IsSelection (λ v. IsTargetOn standing kept' v) target list → IsAttractor standing.game.now left standing.player target a → IsWithout rest left a →
    ((v : ℕ) → v < vertex_count standing.game.now → IsClaimedAt standing.game.now standing.solution.now s' left a standing.player standing.top height v) →
    peak ≡ height + a.rounds → IsClaimedFront standing.game.now standing.solution.now s' left marks standing.player standing.top rest peak
claimed_front standing left marks kept' rest target list a s' height peak same listed closed part found w claimed counted =
    let g = standing.game.now in
    let top = standing.top in
    let on : (v : ℕ) → get_or a.rank.items v 0 ≡ 1 → priority_of g v ≢ top → IsIn kept' v = λ v one ne. elim (part.meets v (found.only_start v one)) [
      | inl on ↦ on
      | inr head ↦ absurd (ne head)
    ] in
    let inside : (v : ℕ) → IsIn left v → IsIn standing.region.now v = λ v h. subst (λ (x : List Bool). IsIn x v) (sym same) h in
    let ranked : (v : ℕ) → get_or a.rank.items v 0 ≡ 1 → IsIn standing.region.now v = λ v one. inside v (found.forcing.within v (omega arith)) in
    record {
      attractor = a;
      height = height;
      front = record {
        forcing = found.forcing;
        closed = found.closed;
        all = λ v h p. found.start v (part.all v (listed.all v h) (inr p));
        rounds = found.rounds;
        without = w;
      };
      claimed = claimed;
      still = λ v one ne. closed.fewer v (on v one ne);
      closed = λ v u one ne k h. found.start u (part.all u (listed.all u h) (closed.closed v u (ranked v one) (on v one ne) k (inside u h)));
      choice = λ v one ne o. subst (λ (x : List Bool). IsIn x (choice_of standing.solution.now v)) same (closed.choice v (ranked v one) (on v one ne) o);
      high = λ v below e one ne. closed.high v (ranked v one) (on v one ne) below e;
      counted = counted;
      small = closed.small;
    }
