-- Facts on lists of successors.
use Rattle.std.proofs.Common.{◌≡◌, ℕ, ◌<◌, List, length, get_or, subst, ◌∙◌, sym}
use Rattle.std.proofs.lemmas.List.{get_or_default}
use Rattle.std.specs.Prelude.{Contains}
use Rattle.std.proofs.Common.{refl}
use Rattle.pb_game.specs.declared.Game.{Game}
use Rattle.pb_game.specs.declared.certificate.Solution.{Solution}
use Rattle.pb_game.specs.Games.{vertex_count, successors_of, HasEdge}
use Rattle.pb_game.specs.Certificates.{IsKept}
use Rattle.pb_game.proofs.Laws.{is_game}

-- what holds of the element at each index holds of each element
pub each_element : (xs : List ℕ) (P : ℕ → Type 0) → ((k : ℕ) → k < length xs → P (get_or xs k 0)) → (x : ℕ) → Contains xs x → P x
each_element xs P each x h =
    let e : get_or xs h.0 0 ≡ x = get_or_default xs h.0 0 x h.1 ∙ h.2 in
    subst P e (each h.0 h.1)

-- an element that a loop reads is one of the list
pub element_in : (xs : List ℕ) (k x : ℕ) → k < length xs → x ≡ get_or xs k 0 → Contains xs x
element_in xs k x h e = (k, h, get_or_default xs k x 0 h ∙ sym e)

-- the same at the successors of a vertex
pub edge_at : (g : Game) (v k : ℕ) {xs : List ℕ} → xs ≡ successors_of g v → k < length xs → HasEdge g v (get_or xs k 0)
edge_at g v k {xs} e h = subst (λ (ys : List ℕ). Contains ys (get_or xs k 0)) e (element_in xs k (get_or xs k 0) h refl)

-- and it is a vertex of the game
pub edge_within : (g : Game) (v k : ℕ) {xs : List ℕ} → v < vertex_count g → xs ≡ successors_of g v → k < length xs → get_or xs k 0 < vertex_count g
edge_within g v k {xs} inside e h = (is_game g).closed v _ inside (edge_at g v k e h)

pub each_kept : (g : Game) (s : Solution) (v : ℕ) (P : ℕ → Type 0) →
    ((k : ℕ) → k < length (successors_of g v) → IsKept g s v (get_or (successors_of g v) k 0) → P (get_or (successors_of g v) k 0)) →
    (u : ℕ) → IsKept g s v u → P u
each_kept g s v P each u kept = each_element (successors_of g v) (λ x. IsKept g s v x → P x) each u kept.edge kept
