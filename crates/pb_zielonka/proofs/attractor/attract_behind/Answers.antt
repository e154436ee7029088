use Rattle.std.proofs.Common.{ℕ, List, Bool, length, ap, arith, sym, subst}
use Rattle.pb_zielonka.specs.Regions.{IsIn, IsSubgame}
use Rattle.pb_zielonka.specs.Attractors.{IsAttractor, IsKnownWithin, IsCut}
use Rattle.pb_zielonka.proofs.Lists.{lists_permuted}
use Rattle.pb_zielonka.proofs.Parts.{list_below}
use Rattle.pb_zielonka.proofs.attractor.attract_behind.Goals as goal

pub attract-requires-clause-region : goal.attract-requires-clause-region
attract-requires-clause-region bound c κs fits = subst (λ (x : List Bool). IsSubgame c.args.game.now x) (sym c.deref.ensures.value) c.requires.region

pub attract-requires-clause-within : goal.attract-requires-clause-within
attract-requires-clause-within bound c κs fits = λ v h. subst (λ (x : List Bool). IsIn x v) (sym c.deref.ensures.value) (c.requires.within v h)

pub cut-requires : goal.cut-requires
cut-requires bound c = λ k h.
    omega (
      arith,
      list_below c.requires.region.size c.requires.listed k h,
      ap length c.deref-2.ensures.value,
      c.in_ok-attract.ensures.found.forcing.ranks,
    )

pub returns-clause-found : goal.returns-clause-found
returns-clause-found bound c =
    subst (λ (x : List Bool). IsAttractor c.args.game.now x c.args.player c.args.space.now.frontier.items c.attract.new.attractor) c.deref.ensures.value c.in_ok-attract.ensures.found

pub returns-clause-cut : goal.returns-clause-cut
returns-clause-cut bound c = record {
  known = subst (λ (x : List Bool). IsKnownWithin x c.attract.new.attractor) c.deref.ensures.value c.in_ok-attract.ensures.known;
  listed = lists_permuted c.cut.ensures.permuted c.requires.listed;
  cut = subst (λ (xs : List ℕ). IsCut xs c.cut.new.list c.cut.result) c.deref-2.ensures.value c.cut.ensures.cut;
}
