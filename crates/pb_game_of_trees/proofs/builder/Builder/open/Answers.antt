use Rattle.std.proofs.Common.{◌≡◌, ℕ, suc, ◌+◌, List, [], ◌∷◌, ◌++◌, ◌∙◌, ap, subst, arith}
use Rattle.pb_fixpoint_trees.specs.Game.{brackets, targets}
use Rattle.pb_game_of_trees.specs.Draft.{IsDraft}
use Rattle.pb_game_of_trees.specs.Builder.{rest_targets, rest_starts, rest_vertices}
use Rattle.pb_game_of_trees.proofs.First.{bracket_first}
use Rattle.pb_game_of_trees.proofs.Opened.{targets_opened, starts_opened, vertices_opened}
use Rattle.pb_game_of_trees.proofs.Reading.{behind_bracket, with_bracket}
use Rattle.pb_game_of_trees.proofs.builder.Builder.open.Goals as goal

pub finish-requires : goal.finish-requires
finish-requires c =
    let b = bracket_first (c.args.bracket) c.requires.1 c.requires.4.first in
    let is = behind_bracket (c.args.bracket) c.requires.4 in
    (_, _, targets c.requires.0 b.inside c.args.self.now.next, record { targets = is.targets; starts = is.starts })

pub returns : goal.returns
returns c = λ at fs behind limit before.
    let k = c.args.bracket in
    let b = bracket_first k fs before.first in
    let i = b.inside in
    let a = b.after in
    let outer = b.outer in
    let is = behind_bracket k before in
    let m = c.args.self.now.next in
    let n = c.finish.new.self.next in
    let f = c.in_ok-finish.ensures (rest_targets at (a ∷ outer) (m + brackets i)) (rest_starts at (a ∷ outer) (m + brackets i)) (targets at i m)
    (rest_vertices at (i ∷ (a ∷ outer)) m ++ behind) (record { targets = is.targets; starts = is.starts }) is.draft in
    let same = f.next in
    let room = before.room in
    let e : m ≡ suc n = omega arith in
    let all = is.reaches in
    with_bracket k b
    (record {
      targets = c.in_ok-push.ensures.items ∙ (ap (λ (xs : List ℕ). xs ++ n ∷ []) f.targets ∙ targets_opened at k i a outer n m e);
      starts = f.starts ∙ starts_opened at k i a outer n m e;
      draft = subst (IsDraft c.finish.new.self.draft) (vertices_opened at k i a outer n m e behind) f.draft;
      reaches = omega arith;
    })
