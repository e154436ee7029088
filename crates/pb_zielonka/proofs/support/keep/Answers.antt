use Rattle.std.proofs.Common.{inl, inr}
use Rattle.pb_game.specs.Games.{priority_of}
use Rattle.pb_game.specs.Solutions.{choice_of}
use Rattle.pb_game.proofs.Laws.{is_game}
use Rattle.pb_zielonka.proofs.LevelLemmas.{in_below, in_or_out}
use Rattle.std.proofs.lemmas.Bool.{cases_eq}
use Rattle.pb_zielonka.proofs.support.keep.Goals as goal

pub drop_fallen-requires-clause-choices : goal.drop_fallen-requires-clause-choices
drop_fallen-requires-clause-choices c = record {
  size = c.requires.size;
  choice = λ v i k p o.
      let st = c.args.standing.now in
      (is_game st.game.now).closed v (choice_of st.solution.now v) (in_below st.region.now v _ st.sized i) ((c.requires.won v i k p).choice o);
}

pub returns-clause-closed : goal.returns-clause-closed
returns-clause-closed c =
    let st = c.args.standing.now in
    let kept = c.drop_dependents.new.kept in
    let e = c.in_ok-drop_dependents.ensures in
    let sifted = e.sifted.sifted in
    record {
      size = sifted.size;
      fewer = λ v h. c.in_ok-drop_fallen.ensures.fewer v (e.sifted.fewer v h);
      below = sifted.below;
      closed = λ v u i on s i'. elim (in_or_out kept u) [
        | inl on' ↦ inl on'
        | inr out ↦ elim (cases_eq (priority_of st.game.now u) st.top) [
          | inl head ↦ inr head
          | inr ne ↦ absurd (e.cleared u (sifted.listed u i' out ne) v i on s)
        ]
      ];
      choice = sifted.choice;
      high = λ v i on. c.height_of.ensures.greatest v (c.requires.listed.all v i) on;
      small = c.height_of.ensures.small;
    }

pub returns-clause-target : goal.returns-clause-target
returns-clause-target c = c.in_ok-list_target.ensures
