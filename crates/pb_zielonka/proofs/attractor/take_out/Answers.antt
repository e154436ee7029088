use Rattle.std.proofs.Common.{◌∙◌, ℕ, arith, refl, sym, subst}
use Rattle.pb_zielonka.specs.Attractors.{IsBlank, IsWithout}
use Rattle.pb_zielonka.proofs.Parts.{list_below, behind_below, without_cut, lists_cut}
use Rattle.pb_zielonka.proofs.attractor.take_out.Goals as goal

pub mark-requires : goal.mark-requires
mark-requires c = behind_below c.args.region.now.items c.args.list.now c.args.left _ c.requires.cut.cut.within refl c.requires.cut.listed

pub forget-requires : goal.forget-requires
forget-requires c =
    let known = c.requires.cut.known in
    let listed = c.requires.cut.listed in
    record {
      vertices = λ k h. omega (arith, list_below refl listed k h, known.choice_size);
      ranks = known.rank_size ∙ sym known.choice_size;
      passes = known.passed_size ∙ sym known.choice_size;
      lists = known.listed_size ∙ sym known.choice_size;
      ranked = λ v h. listed.all v (known.ranked v h);
      passed = λ v h. listed.all v (known.passed v h);
      listed = λ v h. listed.all v (known.listed v h);
    }

pub returns : goal.returns
returns c =
    let region = c.args.region.now.items in
    let a = c.args.attractor.now in
    let cut = c.requires.cut in
    let w : IsWithout c.mark.new.region.items region a = without_cut region _ a c.args.list.now c.args.left cut
    (record { size = c.mark.ensures.size; listed = c.mark.ensures.listed; others = c.mark.ensures.others }) in
    record {
      without = w;
      listed = lists_cut region _ a c.args.list.now c.args.left cut w;
      blank = subst (λ (n : ℕ). IsBlank n c.forget.new.attractor) cut.known.choice_size c.forget.ensures;
    }
