-- Flat lists of vertices, put before those of others.
use Rattle.std.proofs.Common.{◌≡◌, ℕ, zero, suc, ◌+◌, ◌-◌, ◌<◌, ◌≤◌, List, [], ◌∷◌, ◌++◌, length, get_or, drop, take, map, reverse, refl, sym, ap, ◌∙◌, length-append, arith}
use Rattle.std.proofs.lemmas.List.{map-append, reverse-append, length-reverse, get_or-reverse, take_more}
use Rattle.std.proofs.lemmas.List.Concat.{flat_map-append}
use Rattle.pb_fixpoint_trees.specs.Game.{Vertex}
use Rattle.pb_fixpoint_trees.specs.declared.player.Player.{Player}
use Rattle.pb_game_of_trees.specs.declared.draft.Draft.{Draft}
use Rattle.pb_game_of_trees.specs.Draft.{IsDraft, owners, priorities, all_successors, edge_sums}
use Rattle.pb_game_of_trees.proofs.Sums.{edge_sums-le}

-- how many successors some vertices have
abbrev count : List Vertex → ℕ
count vs = length (all_successors vs)

all_append : (vs ws : List Vertex) → all_successors (vs ++ ws) ≡ all_successors vs ++ all_successors ws
all_append vs ws = flat_map-append (λ (x : Vertex). x.successors) vs ws

-- the sums but for the last one, which is 0
abbrev front_sums : List Vertex → List ℕ
front_sums [] = []
front_sums (x ∷ vs) = count (x ∷ vs) ∷ front_sums vs

sums_of : (vs : List Vertex) → edge_sums vs ≡ front_sums vs ++ 0 ∷ []
sums_of [] = refl
sums_of (x ∷ vs) = ap (λ (ns : List ℕ). count (x ∷ vs) ∷ ns) (sums_of vs)

sums_append : (vs ws : List Vertex) → edge_sums (vs ++ ws) ≡ map (λ n. count ws + n) (front_sums vs) ++ edge_sums ws
sums_append [] ws = refl
sums_append (x ∷ vs) ws =
    let all : all_successors (x ∷ (vs ++ ws)) ≡ all_successors (x ∷ vs) ++ all_successors ws = all_append (x ∷ vs) ws in
    let here : count (x ∷ (vs ++ ws)) ≡ count ws + count (x ∷ vs) = omega (arith, ap length all, length-append (all_successors (x ∷ vs)) (all_successors ws)) in
    ap (λ (ns : List ℕ). count (x ∷ (vs ++ ws)) ∷ ns) (sums_append vs ws)
    ∙ ap (λ (n : ℕ). n ∷ (map (λ n. count ws + n) (front_sums vs) ++ edge_sums ws)) here

map-reverse : (f : ℕ → ℕ) (ns : List ℕ) → map f (reverse ns) ≡ reverse (map f ns)
map-reverse f [] = refl
map-reverse f (n ∷ ns) =
    ap (map f) (reverse-append (n ∷ []) ns)
    ∙ (map-append f (reverse ns) (n ∷ []) ∙ (ap (λ (ms : List ℕ). ms ++ f n ∷ []) (map-reverse f ns) ∙ sym (reverse-append (f n ∷ []) (map f ns))))

-- turned round, the last one comes first
front_turned : (vs : List Vertex) → drop 1 (reverse (edge_sums vs)) ≡ reverse (front_sums vs)
front_turned vs = ap (λ (ns : List ℕ). drop 1 (reverse ns)) (sums_of vs) ∙ ap (λ (ns : List ℕ). drop 1 ns) (reverse-append (front_sums vs) (0 ∷ []))

turned_sums : (vs ws : List Vertex) → reverse (edge_sums ws) ++ map (λ n. count ws + n) (drop 1 (reverse (edge_sums vs))) ≡ reverse (edge_sums (vs ++ ws))
turned_sums vs ws =
    ap (λ (ns : List ℕ). reverse (edge_sums ws) ++ map (λ n. count ws + n) ns) (front_turned vs)
    ∙ (ap (λ (ns : List ℕ). reverse (edge_sums ws) ++ ns) (map-reverse (λ n. count ws + n) (front_sums vs))
    ∙ (sym (reverse-append (map (λ n. count ws + n) (front_sums vs)) (edge_sums ws)) ∙ ap reverse (sym (sums_append vs ws))))

turned_le : (vs : List Vertex) (k d : ℕ) → k < length (edge_sums vs) → get_or (reverse (edge_sums vs)) k d ≤ count vs
turned_le vs k d l =
    let size = length-reverse (edge_sums vs) in
    let at = get_or-reverse (edge_sums vs) k d l in
    omega (arith, at, edge_sums-le vs (length (edge_sums vs) - 1 - k) d (omega (arith, l)))

-- one sum more
pub sums_step : (f : ℕ → ℕ) (xs : List ℕ) (k : ℕ) → 1 ≤ k → k < length xs → map f (take (k - 1) (drop 1 xs)) ++ f (get_or xs k 0) ∷ [] ≡ map f (take (k + 1 - 1) (drop 1 xs))
sums_step f [] k some l = absurd (omega arith)
sums_step f (x ∷ xs) zero some l = absurd (omega arith)
sums_step f (x ∷ xs) (suc j) some l =
    let e : j + 1 ≡ suc j + 1 - 1 = omega arith in
    let before : suc j - 1 ≡ j = omega arith in
    ap (λ (n : ℕ). map f (take n xs) ++ f (get_or xs j 0) ∷ []) before
    ∙ (sym (ap (map f) (take_more xs j 0 (omega arith)) ∙ map-append f (take j xs) (get_or xs j 0 ∷ [])) ∙ ap (λ (n : ℕ). map f (take n xs)) e)

-- each sum is at most the number of all edges
pub sums_fit : (vs : List Vertex) (draft : Draft) → IsDraft draft vs → (k d : ℕ) → k < length draft.edges.items → get_or draft.edges.items k d ≤ length draft.successors.items
sums_fit vs draft is k d l =
    let turned : get_or draft.edges.items k d ≡ get_or (reverse (edge_sums vs)) k d = ap (λ (ns : List ℕ). get_or ns k d) is.edges in
    let size : length draft.edges.items ≡ length (edge_sums vs) = ap length is.edges ∙ length-reverse (edge_sums vs) in
    omega (arith, turned, turned_le vs k d (omega (arith, l, size)), ap length is.successor, length-reverse (all_successors vs))

module _ (vs ws : List Vertex) (before behind : Draft) (is : IsDraft before vs) (are : IsDraft behind ws) where
  count_behind : length behind.successors.items ≡ count ws
  count_behind = ap length are.successor ∙ length-reverse (all_successors ws)

  pub appended : (n : ℕ) → n ≡ length behind.successors.items → (draft : Draft) → draft.owners.items ≡ behind.owners.items ++ before.owners.items →
      draft.priorities.items ≡ behind.priorities.items ++ before.priorities.items →
      draft.edges.items ≡ behind.edges.items ++ map (λ m. n + m) (drop 1 before.edges.items) →
      draft.successors.items ≡ behind.successors.items ++ before.successors.items → IsDraft draft (vs ++ ws)
  appended n same draft o p e s = record {
    owner = o ∙ (ap (λ (xs : List Player). xs ++ before.owners.items) are.owner ∙ (ap (λ (xs : List Player). reverse (owners ws) ++ xs) is.owner
        ∙ (sym (reverse-append (owners vs) (owners ws)) ∙ ap reverse (sym (map-append (λ (x : Vertex). x.owner) vs ws)))));
    priority = p ∙ (ap (λ (xs : List ℕ). xs ++ before.priorities.items) are.priority ∙ (ap (λ (xs : List ℕ). reverse (priorities ws) ++ xs) is.priority
        ∙ (sym (reverse-append (priorities vs) (priorities ws)) ∙ ap reverse (sym (map-append (λ (x : Vertex). x.priority) vs ws)))));
    edges = e ∙ (ap (λ (k : ℕ). behind.edges.items ++ map (λ m. k + m) (drop 1 before.edges.items)) (same ∙ count_behind)
        ∙ (ap (λ (xs : List ℕ). xs ++ map (λ m. count ws + m) (drop 1 before.edges.items)) are.edges
        ∙ (ap (λ (xs : List ℕ). reverse (edge_sums ws) ++ map (λ m. count ws + m) (drop 1 xs)) is.edges ∙ turned_sums vs ws)));
    successor = s ∙ (ap (λ (xs : List ℕ). xs ++ before.successors.items) are.successor ∙ (ap (λ (xs : List ℕ). reverse (all_successors ws) ++ xs) is.successor
        ∙ (sym (reverse-append (all_successors vs) (all_successors ws)) ∙ ap reverse (sym (all_append vs ws)))));
  }
