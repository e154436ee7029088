-- A certificate of a game of rows is one over the list of its vertices, and so its winners are the solution's values.
use Rattle.std.proofs.Common.{◌≡◌, ℕ, List, Some, refl, sym, ap, ◌∙◌, subst, arith}
use Rattle.std.specs.Prelude.{Bool, true, false, IsTrue, ◌↔◌, Contains, slice_get}
use Rattle.std.proofs.Math.Bool.{Bool-set}
use Rattle.std.proofs.Math.Logic.{∥∥₁_elim}
use Rattle.std.proofs.lemmas.Option.{slice_get_within}
use Rattle.pb_fixpoint_trees.specs.declared.player.Player.TheVariants.{Even, Odd}
use Rattle.pb_fixpoint_trees.specs.Players.{is_even}
use Rattle.pb_fixpoint_trees.specs.declared.player.Player.{Player}
use Rattle.pb_game.specs.declared.Game.{Game}
use Rattle.pb_game.specs.Games.{priority_count}
use Rattle.pb_game.specs.declared.certificate.Solution.{Solution}
use Rattle.pb_game.specs.Solutions.{winner_of, choice_of, count_of}
use Rattle.pb_game.specs.Certificates.{IsCertificate, IsCertifiedAt, IsKept, IsProgress}
use Rattle.pb_fixpoint_trees.specs.Equations.{solved}
use Rattle.pb_fixpoint_trees.specs.Game.{Vertex, game_vertices}
use Rattle.pb_strategy.specs.Vertices.{HasVertices}
use Rattle.pb_strategy.specs.Meaning.{IsSolvedAt, WinnersAreSolved}
use Rattle.pb_strategy.proofs.Players.{player}
use Rattle.pb_strategy.proofs.Local.{KeptEdge}
use Rattle.pb_strategy.proofs.CertifiedVertices.{IsCertified, value_at}

module _ (g : Game) (s : Solution) (vertices : List Vertex) (has : HasVertices g vertices) (is : IsCertificate g s) where
  pub at_vertex : (v : ℕ) (x : Vertex) → slice_get vertices v ≡ Some x → IsCertifiedAt g s v
  at_vertex v x h = is.vertices v (let below = slice_get_within vertices v x h in let count = has.count in omega arith)

  pub kept_there : (v w : ℕ) → (k : KeptEdge vertices (winner_of s) (choice_of s) v w) → IsKept g s v w
  kept_there v w k =
      let there = has.each v k.vertex k.stands in
      record {
        edge = subst (λ (ws : List ℕ). Contains ws w) (sym there.successors) k.edge;
        choice = λ own. k.chosen (sym there.owner ∙ own);
      }

  pub certified : IsCertified vertices (winner_of s) (choice_of s) (count_of g s) (priority_count g)
  certified = record {
    chosen = λ v x h own.
        let there = has.each v x h in
        subst (λ (ws : List ℕ). Contains ws (choice_of s v)) there.successors ((at_vertex v x h).choice (there.owner ∙ own));
    region = λ v w k. (at_vertex v k.vertex k.stands).region w (kept_there v w k);
    progress = λ v w k.
        subst (λ p. IsProgress (count_of g s v) (count_of g s w) (winner_of s v) p (priority_count g)) (has.each v k.vertex k.stands).priority
        ((at_vertex v k.vertex k.stands).progress w (kept_there v w k));
  }

-- each player is the one who wants what the test says
pub player_is : (p : Player) → p ≡ player (is_even p)
player_is Even = refl
player_is Odd = refl

-- what tells whether a player is Even is that test
pub even_test : (b : Bool) (p : Player) → (IsTrue b ↔ (p ≡ Even)) → b ≡ is_even p
even_test true p h = sym (ap is_even (h.0 refl))
even_test false Even h = absurd (cc (h.1 refl))
even_test false Odd h = refl

pub winners_are_solved : WinnersAreSolved
winners_are_solved g s is v signatures trees rows game row contained at =
    let vertices = game_vertices signatures rows in
    sym (value_at signatures trees rows game.reached (winner_of s) (choice_of s) (count_of g s) (priority_count g)
    (certified g s vertices game.vertices is) (is_even (winner_of s v)) row contained
    (ap (winner_of s) at ∙ player_is (winner_of s v)))

-- the same of a certificate of which a struct's ghost field says no more than that there is one
pub merely_solved : (g : Game) (s : Solution) → ∥ IsCertificate g s ∥₁ → (v : ℕ) → IsSolvedAt g v (is_even (winner_of s v))
merely_solved g s is v signatures trees rows game row contained at =
    ∥∥₁_elim is (Bool-set (is_even (winner_of s v)) (solved signatures trees row.number))
    (λ certificate. winners_are_solved g s certificate v signatures trees rows game row contained at)
