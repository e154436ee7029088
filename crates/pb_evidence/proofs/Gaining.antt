-- What is found by one step after another.
use Rattle.std.proofs.Common.{◌≡◌, ℕ, ◌+◌, ◌<◌, ◌≤◌, ◌⊎◌, length, get_or, inl, inr, sym, ap, ◌∙◌, subst, arith}
use Rattle.std.specs.Prelude.{Contains}
use Rattle.std.proofs.lemmas.Bool.{cases_eq}
use Rattle.std.proofs.lemmas.List.Elements.{Contains-get_or}
use Rattle.pb_game.specs.declared.Game.{Game}
use Rattle.pb_game.specs.Games.{successors_of}
use Rattle.pb_game.specs.declared.certificate.Solution.{Solution}
use Rattle.pb_game.specs.Certificates.{IsKept}
use Rattle.pb_strategy.specs.declared.position.Position.{Position}
use Rattle.pb_evidence.specs.declared.found.FoundVertices.{FoundVertices}
use Rattle.pb_evidence.specs.Finding.{Gains}
use Rattle.pb_evidence.proofs.Finding.{place_of}

-- the same property in other words
pub gains_as : (P Q : ℕ → Type 0) (old new : FoundVertices) → Gains P old new → ((u : ℕ) → P u → Q u) → ((u : ℕ) → Q u → P u) → Gains Q old new
gains_as P Q old new gains to from = record {
  width = gains.width;
  longer = gains.longer;
  same = gains.same;
  all = λ u h. gains.all u (from u h);
  only = λ u h. elim (gains.only u h) [ inl before ↦ inl before | inr here ↦ inr (to u here) ];
}

-- what was there stays there
pub still_there : (P : ℕ → Type 0) (old new : FoundVertices) → Gains P old new → (u : ℕ) → Contains old.vertices.items u → Contains new.vertices.items u
still_there P old new gains u h =
    let at = place_of old.vertices.items u h in
    let longer = gains.longer in
    let within = at.within in
    subst (λ x. Contains new.vertices.items x) (gains.same at.place at.within ∙ at.there)
    (Contains-get_or new.vertices.items at.place 0 (omega arith))

pub gains_then : (P Q R : ℕ → Type 0) (a b c : FoundVertices) → Gains P a b → Gains Q b c →
    ((u : ℕ) → P u → R u) → ((u : ℕ) → Q u → R u) → ((u : ℕ) → R u → P u ⊎ Q u) → Gains R a c
gains_then P Q R a b c first second of_first of_second cases = record {
  width = second.width ∙ first.width;
  longer = (let x = first.longer in let y = second.longer in omega arith);
  same = λ k h. second.same k (let x = first.longer in omega arith) ∙ first.same k h;
  all = λ u h. elim (cases u h) [
    | inl p ↦ still_there Q b c second u (first.all u p)
    | inr q ↦ second.all u q
  ];
  only = λ u h. elim (second.only u h) [
    | inl before ↦ elim (first.only u before) [ inl old ↦ inl old | inr p ↦ inr (of_first u p) ]
    | inr q ↦ inr (of_second u q)
  ];
}

-- ---- along the edges of a vertex

-- what is found along those of a position is found along those of its vertex
pub kept_from : (p : Position) (g : Game) (s : Solution) (v : ℕ) {old new : FoundVertices} → p.game.now ≡ g → p.solution.now ≡ s → p.number ≡ v →
    Gains (λ u. IsKept p.game.now p.solution.now p.number u) old new → Gains (λ u. IsKept g s v u) old new
kept_from p g s v {old} {new} game solution number gains =
    subst (λ n. Gains (λ u. IsKept g s n u) old new) number
    (subst (λ t. Gains (λ u. IsKept g t p.number u) old new) solution
    (subst (λ h. Gains (λ u. IsKept h p.solution.now p.number u) old new) game gains))

-- a kept edge leads to u, one of the first k edges
pub record IsKeptBefore (g : Game) (s : Solution) (v k u : ℕ) : Type 0 where
  pub place : ℕ
  pub before : place < k
  pub there : get_or (successors_of g v) place 0 ≡ u
  pub kept : IsKept g s v u

later : (g : Game) (s : Solution) (v k u : ℕ) → IsKeptBefore g s v k u → IsKeptBefore g s v (k + 1) u
later g s v k u h = record { place = h.place; before = (let b = h.before in omega arith); there = h.there; kept = h.kept }

pub kept_more : (g : Game) (s : Solution) (v k u : ℕ) (old f new : FoundVertices) → get_or (successors_of g v) k 0 ≡ u → IsKept g s v u →
    Gains (IsKeptBefore g s v k) old f → Gains (λ w. w ≡ u) f new → Gains (IsKeptBefore g s v (k + 1)) old new
kept_more g s v k u old f new at kept gains one =
    gains_then (IsKeptBefore g s v k) (λ w. w ≡ u) (IsKeptBefore g s v (k + 1)) old f new gains one
    (λ w h. later g s v k w h)
    (λ w e. subst (IsKeptBefore g s v (k + 1)) (sym e) (record { place = k; before = omega arith; there = at; kept = kept }))
    (λ w h. elim (cases_eq h.place k) [
      | inl here ↦ inr (sym h.there ∙ (ap (λ i. get_or (successors_of g v) i 0) here ∙ at))
      | inr other ↦ inl (record { place = h.place; before = (let b = h.before in omega arith); there = h.there; kept = h.kept })
    ])

pub kept_skip : (g : Game) (s : Solution) (v k u : ℕ) (old f : FoundVertices) → get_or (successors_of g v) k 0 ≡ u → (IsKept g s v u → ⊥) →
    Gains (IsKeptBefore g s v k) old f → Gains (IsKeptBefore g s v (k + 1)) old f
kept_skip g s v k u old f at lost gains =
    gains_as (IsKeptBefore g s v k) (IsKeptBefore g s v (k + 1)) old f gains (λ w h. later g s v k w h)
    (λ w h. elim (cases_eq h.place k) [
      | inl here ↦ absurd (lost (subst (IsKept g s v) (sym h.there ∙ (ap (λ i. get_or (successors_of g v) i 0) here ∙ at)) h.kept))
      | inr other ↦ record { place = h.place; before = (let b = h.before in omega arith); there = h.there; kept = h.kept }
    ])

pub kept_all : (g : Game) (s : Solution) (v k : ℕ) (old f : FoundVertices) → length (successors_of g v) ≤ k →
    Gains (IsKeptBefore g s v k) old f → Gains (λ u. IsKept g s v u) old f
kept_all g s v k old f end gains =
    gains_as (IsKeptBefore g s v k) (λ u. IsKept g s v u) old f gains (λ u h. h.kept)
    (λ u kept.
    let at = place_of (successors_of g v) u kept.edge in
    record { place = at.place; before = (let b = at.within in omega arith); there = at.there; kept = kept })
