-- Lists that pass the test are a certificate of each game with these vertices.
use Rattle.std.proofs.Common.{◌≡◌, ℕ, zero, suc, ◌+◌, ◌*◌, ◌<◌, Bool, true, List, [], ◌∷◌, length, Some, refl, sym, ap, ap₂, ◌∙◌, subst, arith}
use Rattle.std.specs.Prelude.{Contains, slice_get, slice_index, slice_index_or}
use Rattle.pb_fixpoint_trees.specs.declared.player.Player.TheVariants.{Even}
use Rattle.pb_fixpoint_trees.specs.declared.player.Player.{Player}
use Rattle.pb_game.specs.declared.Game.{Game}
use Rattle.pb_game.specs.Adjacency.{greatest_of}
use Rattle.pb_game.specs.Games.{vertex_count, priority_of, greatest_priority, priority_count}
use Rattle.pb_game.specs.declared.certificate.Solution.{Solution}
use Rattle.pb_game.specs.Solutions.{winner_of, choice_of, count_of}
use Rattle.pb_game.specs.Certificates.{IsCertifiedAt, IsKept, IsProgress}
use Rattle.pb_fixpoint_trees.specs.Game.{Vertex}
use Rattle.pb_strategy.specs.Vertices.{HasVertices, IsVertex}
use Rattle.pb_strategy.specs.Examples.{Lists, HasLists, Certify}
use Rattle.pb_strategy.proofs.Tested.{vertices_pass, Meets, vertices_of_test}

abbrev priorities : List Vertex → List ℕ
priorities [] = []
priorities (x ∷ xs) = x.priority ∷ priorities xs

same_elements : (xs : List Vertex) (ps : List ℕ) → length ps ≡ length xs →
    ((k : ℕ) (x : Vertex) → slice_get xs k ≡ Some x → slice_index ps k ≡ x.priority) → ps ≡ priorities xs
same_elements [] [] e h = refl
same_elements [] (p ∷ ps) e h = absurd (omega arith)
same_elements (x ∷ xs) [] e h = absurd (omega arith)
same_elements (x ∷ xs) (p ∷ ps) e h = ap₂ (λ (q : ℕ) (qs : List ℕ). q ∷ qs) (h 0 x refl) (same_elements xs ps (omega arith) (λ k y g. h (suc k) y g))

-- how many priorities there are from 0 up to the greatest
abbrev pub width : List Vertex → ℕ
width vertices = greatest_of (priorities vertices) + 1

width_is : (g : Game) (vertices : List Vertex) → HasVertices g vertices → priority_count g ≡ width vertices
unfolding vertex_count priority_of greatest_priority
width_is g vertices has =
    let count = has.count in
    ap (λ (ps : List ℕ). greatest_of ps + 1)
    (same_elements vertices g.priorities.items (g.well_formed.priority ∙ count) (λ k x h. (has.each k x h).priority))

abbrev winners : Lists → ℕ → Player
winners lists v = slice_index_or lists.winner v Even

abbrev choices : Lists → ℕ → ℕ
choices lists v = slice_index lists.choice v

abbrev counts : Lists → ℕ → ℕ → ℕ → ℕ
counts lists width v q = slice_index lists.counts (v * width + q)

element : {A : Type 0} (xs : List A) (k : ℕ) → k < length xs → (x : A) × (slice_get xs k ≡ Some x)
element [] k h = absurd (omega arith)
element (x ∷ xs) zero h = (x, refl)
element (x ∷ xs) (suc k) h = element xs k (omega arith)

-- the test of all vertices
abbrev pub passes : Lists → List Vertex → Bool
passes lists vertices = vertices_pass (winners lists) (choices lists) (counts lists (width vertices)) (width vertices) 0 vertices

module _ (lists : Lists) (vertices : List Vertex) (g : Game) (s : Solution) (has : HasVertices g vertices) (of : HasLists s lists) where
  winner_is : winner_of s ≡ winners lists
  unfolding winner_of
  winner_is = ap {B = ℕ → Player} (λ (ws : List Player) (v : ℕ). slice_index_or ws v Even) of.winner

  choice_is : choice_of s ≡ choices lists
  unfolding choice_of
  choice_is = ap {B = ℕ → ℕ} (λ (ws : List ℕ) (v : ℕ). slice_index ws v) of.choice

  count_is : count_of g s ≡ counts lists (width vertices)
  unfolding count_of
  count_is =
      ap {B = ℕ → ℕ → ℕ} (λ (cs : List ℕ) (v q : ℕ). slice_index cs (v * priority_count g + q)) of.counts
      ∙ ap {B = ℕ → ℕ → ℕ} (λ (n v q : ℕ). slice_index lists.counts (v * n + q)) (width_is g vertices has)

  meets : (v : ℕ) (x : Vertex) → Meets (winners lists) (choices lists) (counts lists (width vertices)) (width vertices) v x →
      Meets (winner_of s) (choice_of s) (count_of g s) (priority_count g) v x
  meets v x m =
      subst (λ n. Meets (winner_of s) (choice_of s) (count_of g s) n v x) (sym (width_is g vertices has))
      (subst (λ (c : ℕ → ℕ → ℕ). Meets (winner_of s) (choice_of s) c (width vertices) v x) (sym count_is)
      (subst (λ (c : ℕ → ℕ). Meets (winner_of s) c (counts lists (width vertices)) (width vertices) v x) (sym choice_is)
      (subst (λ (w : ℕ → Player). Meets w (choices lists) (counts lists (width vertices)) (width vertices) v x) (sym winner_is) m)))

  certified_at : (v : ℕ) (x : Vertex) → IsVertex g v x → Meets (winner_of s) (choice_of s) (count_of g s) (priority_count g) v x → IsCertifiedAt g s v
  certified_at v x there m =
      let edge_to : (w : ℕ) → IsKept g s v w → Contains x.successors w = λ w k. subst (λ (ws : List ℕ). Contains ws w) there.successors k.edge in
      let own : (w : ℕ) → IsKept g s v w → x.owner ≡ winner_of s v → choice_of s v ≡ w = λ w k e. k.choice (there.owner ∙ e) in
      record {
        choice = λ e. subst (λ (ws : List ℕ). Contains ws (choice_of s v)) (sym there.successors) (m.chosen (sym there.owner ∙ e));
        region = λ w k. m.region w (edge_to w k) (own w k);
        progress = λ w k. subst (λ p. IsProgress (count_of g s v) (count_of g s w) (winner_of s v) p (priority_count g)) (sym there.priority)
            (m.progress w (edge_to w k) (own w k));
      }

pub certify : (lists : Lists) (vertices : List Vertex) → length lists.winner ≡ length vertices → length lists.choice ≡ length vertices →
    length lists.counts ≡ length vertices * width vertices → passes lists vertices ≡ true → Certify lists vertices
certify lists vertices winner choice counted pass g s has of =
    let count = has.count in
    record {
      lengths = record {
        winner = ap length of.winner ∙ (winner ∙ sym count);
        choice = ap length of.choice ∙ (choice ∙ sym count);
        counts = ap length of.counts ∙ (counted ∙ ap₂ (λ (m n : ℕ). m * n) (sym count) (sym (width_is g vertices has)));
      };
      vertices = λ v below.
          let x = element vertices v (omega arith) in
          let zero_add : 0 + v ≡ v = omega arith in
          certified_at lists vertices g s has of v x.0 (has.each v x.0 x.1)
          (meets lists vertices g s has of v x.0
          (subst (λ m. Meets (winners lists) (choices lists) (counts lists (width vertices)) (width vertices) m x.0) zero_add
          (vertices_of_test (winners lists) (choices lists) (counts lists (width vertices)) (width vertices) 0 vertices pass v x.0 x.1)));
    }
