-- Each line but the first comes from one.
use Rattle.std.proofs.Common.{◌≡◌, ℕ, ◌<◌, ◌==◌, Bool, true, true≢false, List, [], ◌∷◌, length, get_or, inl, inr, sym, ap, ◌∙◌, subst, arith}
use Rattle.std.specs.Prelude.{Contains}
use Rattle.std.proofs.Props.{props}
use Rattle.std.proofs.Math.Logic.{∥∥₁_elim}
use Rattle.std.specs.List.{position_or_len}
use Rattle.std.proofs.lemmas.Bool.{cases_lt, eq-eqb, ne_eqb}
use Rattle.std.proofs.lemmas.List.Sums.{fails_before_first, position_or_len_is}
use Rattle.pb_game.specs.Adjacency.{is_among}
use Rattle.pb_evidence.specs.ProofGraphs.{Graph, RestsOn, RestsThrough}
use Rattle.pb_evidence.specs.declared.Evidence.{Evidence}
use Rattle.pb_evidence.specs.Evidence.{graph_of}
use Rattle.pb_evidence.proofs.Finding.{IsAt, place_of, contains_at, contained}
use Rattle.pb_evidence.proofs.Proving.{test_of}
use Rattle.pb_evidence_words.specs.Lines.{HasLines}
use Rattle.pb_evidence_words.specs.Order as order
use Rattle.pb_evidence_words.specs.Order.{parent_at}
use Rattle.pb_evidence_words.proofs.Children.{numbers, row_at}

last-rests : (graph : Graph) (over : List ℕ) (n m : ℕ) → RestsThrough graph n over m → (x : ℕ) × RestsOn graph x m
last-rests graph [] n m rests = (n, rests)
last-rests graph (x ∷ over) n m rests = last-rests graph over x m rests.1

pub parent-within : (e : Evidence) → HasLines e → (k : ℕ) → 0 < k → k < length (numbers e) → parent_at (graph_of e) k < length (numbers e)
parent-within e have k later within =
    ∥∥₁_elim (have.reached k later within) (hlevel props) (λ path.
    let last = last-rests (graph_of e) path.0 (get_or (numbers e) 0 0) (get_or (numbers e) k 0) path.1 in
    let at = place_of (numbers e) last.0 last.1.0 in
    let test : ℕ → Bool = λ x. is_among ((graph_of e).dependencies x) (get_or (numbers e) k 0) in
    let holds : test (get_or (numbers e) at.place 0) ≡ true =
    ap test at.there ∙ test_of ((graph_of e).dependencies last.0) (get_or (numbers e) k 0) last.1.1 in
    elim (cases_lt (position_or_len test (numbers e)) (length (numbers e))) [
      | inl less ↦ less
      | inr over ↦
          absurd (true≢false (sym holds ∙ fails_before_first test (numbers e) at.place 0 (omega (arith, over, at.within))))
    ])

-- an instance's line stands at its place
pub position-is : (e : Evidence) → HasLines e → (n : ℕ) (at : IsAt (numbers e) n) → order.place_of (graph_of e) n ≡ at.place
position-is e have n at =
    position_or_len_is (λ x. x == n) (numbers e) at.place 0 (omega (arith, at.within))
    (λ k less. ne_eqb (get_or (numbers e) k 0) n (λ same. have.once k at.place less at.within (same ∙ sym at.there)))
    (λ within. eq-eqb (get_or (numbers e) at.place 0) n at.there)

-- what a line rests on has a line
pub child-contained : (e : Evidence) → HasLines e → (k : ℕ) → k < length (numbers e) → (xs : List ℕ) → xs ≡ row_at e k
    → (i : ℕ) → i < length xs → Contains (numbers e) (get_or xs i 0)
child-contained e have k within xs is i less =
    contained (numbers e) (get_or xs i 0)
    (have.closed (get_or (numbers e) k 0) (get_or xs i 0) (
      contains_at (numbers e) k within,
      subst (λ (ys : List ℕ). Contains ys (get_or xs i 0)) (is ∙ sym (have.each k within)) (contains_at xs i less),
    ))
