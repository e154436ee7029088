-- One more vertex of a solution.
use Rattle.std.proofs.Common.{◌≡◌, ℕ, ◌+◌, ◌*◌, List, [], ◌∷◌, length, length-append, sym, ap, ◌∙◌, subst, add-mul, one-mul, mul_comm, arith}
use Rattle.std.specs.Prelude.{slice_index, slice_index_or}
use Rattle.std.proofs.lemmas.Nat.{mul-add-lt}
use mathlib.Core.Logic.{dite}
use native.Mathlib.Decide.{ℕ_discrete}
use Rattle.pb_fixpoint_trees.specs.declared.player.Player.TheVariants.{Even}
use Rattle.pb_fixpoint_trees.specs.declared.player.Player.{Player}
use Rattle.pb_game.specs.declared.Game.{Game}
use Rattle.pb_game.specs.declared.certificate.Solution.{Solution}
use Rattle.pb_game.specs.Games.{vertex_count, priority_count}
use Rattle.pb_game.specs.Solutions.{winner_of, choice_of, count_of}
use Rattle.pb_lifting.specs.Solutions.{winner_by, player_words, IsChoice, count_by_rank, IsSolutionTo, IsSolutionByMeasures, AddsVertex}
use Rattle.pb_lifting.proofs.Lists.{push_front, push_here, any_front, any_here}

one_more : (n w : ℕ) → (n + 1) * w ≡ n * w + w
one_more n w = add-mul n 1 w ∙ ap (λ x. n * w + x) (one-mul w)

module _ (g : Game) (even_words odd_words : List ℕ) where
  abbrev player : ℕ → Player
  player v = winner_by g even_words v

  abbrev words : ℕ → List ℕ
  words v = player_words (player v) even_words odd_words

  pub one_vertex_more : (n : ℕ) (s t : Solution) → IsSolutionTo g even_words odd_words s n → AddsVertex g (player n) (words n) n s t → IsSolutionTo g even_words odd_words t (n + 1)
  unfolding winner_of choice_of count_of
  one_vertex_more n s t h a = let winners = h.winners in let choices = h.choices in let rows = h.rows in record {
    winners = ap length a.winner ∙ omega (arith, length-append s.winner.items (player n ∷ []));
    choices = ap length a.choice.1 ∙ omega (arith, length-append s.choice.items (a.choice.0 ∷ []));
    rows = a.row.sized ∙ (ap (λ x. x + priority_count g) h.rows ∙ sym (one_more n (priority_count g)));
    winner = λ v b. dite (ℕ_discrete v n)
        (λ e. ap (λ l. slice_index_or l v Even) a.winner ∙ (any_here s.winner.items (player n) Even v (omega arith) ∙ sym (ap player e)))
        (λ ne. ap (λ l. slice_index_or l v Even) a.winner ∙ (any_front s.winner.items (player n) Even v (omega arith) ∙ h.winner v (omega arith)));
    choice = λ v b. dite (ℕ_discrete v n)
        (λ e. subst (λ x. IsChoice g (player x) (words x) x (slice_index t.choice.items v)) (sym e)
        (subst (IsChoice g (player n) (words n) n) (sym (ap (λ l. slice_index l v) a.choice.1 ∙ push_here s.choice.items a.choice.0 v (omega arith))) a.choice.2))
        (λ ne. subst (IsChoice g (player v) (words v) v) (sym (ap (λ l. slice_index l v) a.choice.1 ∙ push_front s.choice.items a.choice.0 v (omega arith))) (h.choice v (omega arith)));
    counts = λ v q b c. dite (ℕ_discrete v n)
        (λ e. let at : v * priority_count g + q ≡ length s.counts.items + q = ap (λ x. x * priority_count g + q) e ∙ ap (λ x. x + q) (sym h.rows) in
        ap (slice_index t.counts.items) at ∙ (a.row.row q c ∙ sym (ap (λ x. count_by_rank g (player x) (slice_index (words x) x) q) e)))
        (λ ne. let less = mul-add-lt v (priority_count g) q n (omega arith) c in
        let turned : priority_count g * n ≡ n * priority_count g = mul_comm (priority_count g) n in
        a.row.same (v * priority_count g + q) (omega arith) ∙ h.counts v q (omega arith) c);
  }

  pub whole : (n : ℕ) (s : Solution) → n ≡ vertex_count g → IsSolutionTo g even_words odd_words s n → IsSolutionByMeasures g even_words odd_words s
  whole n s e h = record {
    lengths = record { winner = h.winners ∙ e; choice = h.choices ∙ e; counts = h.rows ∙ ap (λ x. x * priority_count g) e };
    winner = λ v b. h.winner v (omega arith);
    choice = λ v b. h.choice v (omega arith);
    counts = λ v q b c. h.counts v q (omega arith) c;
  }
