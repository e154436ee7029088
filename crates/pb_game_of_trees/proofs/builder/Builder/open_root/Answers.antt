use Rattle.std.proofs.Common.{◌≡◌, ℕ, suc, List, [], ◌∷◌, ◌++◌, ◌∙◌, sym, ap, subst, arith, append-nil}
use Rattle.pb_fixpoint_trees.specs.Tree.{Tree}
use Rattle.pb_fixpoint_trees.specs.Game.{Vertex, targets, bracket_vertex, inner_vertices}
use Rattle.pb_game_of_trees.specs.Draft.{IsDraft}
use Rattle.pb_game_of_trees.specs.Builder.{rest_vertices, HasTree}
use Rattle.pb_game_of_trees.proofs.First.{root_first}
use Rattle.pb_game_of_trees.proofs.Reading.{behind_root}
use Rattle.pb_game_of_trees.proofs.builder.Builder.open_root.Goals as goal

pub finish-requires : goal.finish-requires
finish-requires c =
    let root = root_first (c.args.bracket) c.requires.1 c.requires.4.first in
    let is = behind_root (c.args.bracket) c.requires.4 in
    ([], [], targets c.requires.0 root.operands c.args.self.now.next, record { targets = is.targets; starts = is.starts })

pub returns : goal.returns
returns c = λ at tree behind limit before.
    let k = c.args.bracket in
    let root = root_first k tree before.first in
    let f = root.operands in
    let is = behind_root k before in
    let p = c.args.priority in
    let m = c.args.self.now.next in
    let n = c.finish.new.self.next in
    let done = c.in_ok-finish.ensures [] [] (targets at f m) (rest_vertices at (f ∷ []) m ++ behind) (record { targets = is.targets; starts = is.starts }) is.draft in
    let same = done.next in
    let room = before.room in
    let e : m ≡ suc n = omega arith in
    let all = is.reaches in
    let vertices : bracket_vertex at p k f m ∷ (rest_vertices at (f ∷ []) m ++ behind) ≡ bracket_vertex at p k f (suc n) ∷ (inner_vertices at f (suc n) ++ behind) =
    ap (λ (xs : List Vertex). bracket_vertex at p k f m ∷ (xs ++ behind)) (append-nil (inner_vertices at f m))
    ∙ ap (λ (x : ℕ). bracket_vertex at p k f x ∷ (inner_vertices at f x ++ behind)) e in
    subst (λ (y : Tree). HasTree at c.finish.new.self p y behind limit) (sym root.is)
    (record {
      targets = done.targets;
      starts = done.starts;
      draft = subst (IsDraft c.finish.new.self.draft) vertices done.draft;
      reaches = omega arith;
    })
