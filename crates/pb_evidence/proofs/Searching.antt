-- A search of the vertices to which a vertex leads: those found so far, of which the first were looked at.
use Rattle.std.proofs.Common.{◌≡◌, ℕ, ◌+◌, ◌<◌, ◌≤◌, Bool, List, [], ◌∷◌, ◌++◌, length, get_or, inl, inr, sym, ap, ◌∙◌, subst, arith}
use Rattle.std.specs.Prelude.{Contains}
use Rattle.std.proofs.lemmas.Bool.{cases_eq}
use Rattle.std.proofs.lemmas.List.Elements.{Contains-get_or}
use Rattle.pb_game.specs.declared.Game.{Game}
use Rattle.pb_game.specs.Games.{vertex_count}
use Rattle.pb_game.specs.declared.certificate.Solution.{Solution}
use Rattle.pb_game.specs.Certificates.{IsKept}
use Rattle.pb_evidence.specs.Strategies.{IsKeptPath}
use Rattle.pb_evidence.proofs.Strategies.{path_then}
use Rattle.pb_evidence.specs.declared.found.FoundVertices.{FoundVertices}
use Rattle.pb_evidence.specs.Finding.{Gains}
use Rattle.pb_evidence.specs.Searching.{IsOpen, LeadsTo, IsSearched}
use Rattle.pb_evidence.proofs.Finding.{place_of, listed_within}
use Rattle.pb_evidence.proofs.Gaining.{still_there}

-- the first k of what was found were looked at
pub record IsSearching (g : Game) (s : Solution) (marks : List Bool) (v k : ℕ) (f : FoundVertices) : Type 0 where
  pub width : length f.marks.items ≡ vertex_count g
  pub bound : k ≤ length f.vertices.items
  pub some : (u : ℕ) → Contains f.vertices.items u → LeadsTo g s marks v u
  pub first : (u : ℕ) → IsKept g s v u → Contains f.vertices.items u
  pub done : (j : ℕ) → j < k → IsOpen g marks (get_or f.vertices.items j 0) → (w : ℕ) → IsKept g s (get_or f.vertices.items j 0) w → Contains f.vertices.items w

module _ (g : Game) (s : Solution) (marks : List Bool) (v : ℕ) where
  pub search_start : (old new : FoundVertices) → old.vertices.items ≡ [] → length old.marks.items ≡ vertex_count g →
      Gains (λ u. IsKept g s v u) old new → IsSearching g s marks v 0 new
  search_start old new none width gains = record {
    width = gains.width ∙ width;
    bound = omega arith;
    some = λ u h. elim (gains.only u h) [
      | inl before ↦ (
          let at = place_of old.vertices.items u before in
          let within = at.within in
          let size : length old.vertices.items ≡ 0 = ap length none in
          absurd (omega arith))
      | inr kept ↦ ([], kept)
    ];
    first = gains.all;
    done = λ j none' open' w kept. absurd (omega arith);
  }

  module _ (k : ℕ) (f : FoundVertices) (is : IsSearching g s marks v k f) (below : k < length f.vertices.items) where
    abbrev u : ℕ
    u = get_or f.vertices.items k 0

    pub looked_within : u < vertex_count g
    looked_within = let within = listed_within f k below in let width = is.width in omega arith

    pub search_more : (new : FoundVertices) → IsOpen g marks u → Gains (λ w. IsKept g s u w) f new → IsSearching g s marks v (k + 1) new
    search_more new is_open gains =
        let same_at = gains.same in
        record {
          width = gains.width ∙ is.width;
          bound = (let longer = gains.longer in omega arith);
          some = λ w h. elim (gains.only w h) [
            | inl before ↦ is.some w before
            | inr kept ↦
                let path = is.some u (Contains-get_or f.vertices.items k 0 below) in
                (path.0 ++ u ∷ [], path_then g s (IsOpen g marks) v path.0 u w path.1 is_open kept)
          ];
          first = λ w kept. still_there (λ x. IsKept g s u x) f new gains w (is.first w kept);
          done = λ j less open' w kept.
              let at : get_or new.vertices.items j 0 ≡ get_or f.vertices.items j 0 = gains.same j (omega arith) in
              elim (cases_eq j k) [
                | inl here ↦ gains.all w (subst (λ x. IsKept g s x w) (at ∙ ap (λ i. get_or f.vertices.items i 0) here) kept)
                | inr other ↦ still_there (λ x. IsKept g s u x) f new gains w
                    (is.done j (omega arith) (subst (IsOpen g marks) at open') w (subst (λ x. IsKept g s x w) at kept))
              ];
        }

    pub search_skip : (IsOpen g marks u → ⊥) → IsSearching g s marks v (k + 1) f
    search_skip closed = record {
      width = is.width;
      bound = omega arith;
      some = is.some;
      first = is.first;
      done = λ j less open' w kept. elim (cases_eq j k) [
        | inl here ↦ absurd (closed (subst (λ i. IsOpen g marks (get_or f.vertices.items i 0)) here open'))
        | inr other ↦ is.done j (omega arith) open' w kept
      ];
    }

  module _ (k : ℕ) (f : FoundVertices) (is : IsSearching g s marks v k f) (end : length f.vertices.items ≤ k) where
    next_found : (x w : ℕ) → Contains f.vertices.items x → IsOpen g marks x → IsKept g s x w → Contains f.vertices.items w
    next_found x w h is_open kept =
        let at = place_of f.vertices.items x h in
        is.done at.place (let within = at.within in omega arith) (subst (IsOpen g marks) (sym at.there) is_open) w (subst (λ y. IsKept g s y w) (sym at.there) kept)

    goes_on : (xs : List ℕ) (x u : ℕ) → Contains f.vertices.items x → IsOpen g marks x → IsKeptPath g s (IsOpen g marks) x xs u → Contains f.vertices.items u
    goes_on [] x u h is_open path = next_found x u h is_open path
    goes_on (y ∷ ys) x u h is_open path = goes_on ys y u (next_found x y h is_open path.0) path.1 path.2

    all_found : (xs : List ℕ) (u : ℕ) → IsKeptPath g s (IsOpen g marks) v xs u → Contains f.vertices.items u
    all_found [] u kept = is.first u kept
    all_found (x ∷ xs) u path = goes_on xs x u (is.first x path.0) path.1 path.2

    pub search_end : IsSearched g s marks v f
    search_end = record {
      width = is.width;
      some = is.some;
      all = λ u path. all_found path.0 u path.1;
    }
