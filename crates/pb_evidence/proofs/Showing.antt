-- What was explored is a strategy graph of whatever system the game was built of, and so a proof graph.
use Rattle.std.proofs.Common.{◌≡◌, ◌≢◌, ℕ, ◌+◌, ◌<◌, Bool, true, false, List, [], ◌∷◌, length, get_or, map, inl, inr, refl, sym, ap, ◌∙◌, subst, arith}
use Rattle.std.specs.Prelude.{Contains, AllPairs, IsTrue, ◌↔◌}
use Rattle.std.proofs.lemmas.Bool.{false≢true}
use Rattle.std.proofs.lemmas.List.{get_or-map, length-map}
use Rattle.std.proofs.lemmas.List.Elements.{Contains-get_or}
use Rattle.pb_fixpoint_trees.proofs.Players.{even_or_odd}
use Rattle.pb_fixpoint_trees.specs.declared.player.Player.TheVariants.{Even}
use Rattle.pb_game.specs.declared.Game.{Game}
use Rattle.pb_game.specs.Adjacency.{row}
use Rattle.pb_game.specs.declared.certificate.Solution.{Solution}
use Rattle.pb_game.specs.Solutions.{winner_of}
use Rattle.pb_game.specs.Certificates.{IsCertificate}
use Rattle.pb_fixpoint_trees.specs.Tree.{Tree}
use Rattle.pb_fixpoint_trees.specs.Equations.{Signature, solved}
use Rattle.pb_fixpoint_trees.specs.Game.{vertex_of}
use Rattle.pb_fixpoint_trees.specs.Rows.{Row, IsReached}
use Rattle.pb_strategy.specs.Meaning.{IsGameOfRows, IsSolvedAt}
use Rattle.pb_evidence.specs.ProofGraphs.{Graph, IsProofGraph}
use Rattle.pb_evidence.specs.Supports.{RestsOnChoices}
use Rattle.pb_evidence.specs.Strategies.{player_for, IsInner, IsKeptPath, IsStrategyGraph}
use Rattle.pb_evidence.proofs.Strategies.{merely_prove}
use Rattle.pb_evidence.proofs.Choices.{merely_choose}
use Rattle.pb_evidence.specs.declared.exploration.DependencyGraph.{DependencyGraph}
use Rattle.pb_evidence.specs.declared.Evidence.{Evidence}
use Rattle.pb_evidence.specs.Marks.{IsMarked}
use Rattle.pb_evidence.specs.BreadthFirst.{IsInRow, IsBreadthFirst}
use Rattle.pb_evidence.specs.Searching.{IsOpen}
use Rattle.pb_evidence.specs.Exploring.{ListsNext, IsExplored}
use Rattle.pb_evidence.specs.Divided.{IsDividedIntoRows}
use Rattle.pb_evidence.specs.Evidence.{AreNumbers, graph_of, Shows}
use Rattle.pb_evidence.proofs.Finding.{place_of, marked_within}
use Rattle.pb_evidence.specs.Nearest.{IsNearestFirst}
use Rattle.pb_evidence.proofs.Nearest.{nearest_first}
use Rattle.pb_evidence.proofs.Rows.{row_named, IsNamed, named_of, named_contained, named_apart, looked_up}

-- a path over some vertices is one over others
pub path_as : (g : Game) (s : Solution) (P Q : ℕ → Type 0) → ((x : ℕ) → P x → Q x) → (v : ℕ) (xs : List ℕ) (u : ℕ) →
    IsKeptPath g s P v xs u → IsKeptPath g s Q v xs u
path_as g s P Q h v [] u path = path
path_as g s P Q h v (x ∷ xs) u path = (path.0, h x path.1, path_as g s P Q h x xs u path.2)

module _ (g : Game) (s : Solution) (marks : List Bool) (start : ℕ) (x : DependencyGraph) (explored : IsExplored g s marks start x)
    (name : ℕ → ℕ) (e : Evidence)
    (instances : e.instances.items ≡ map name x.reached.vertices.items) (places : e.places.items ≡ x.places.items)
    (dependencies : e.dependencies.items ≡ map name x.dependencies.items) where
  abbrev vertices : List ℕ
  vertices = x.reached.vertices.items

  abbrev names : List ℕ
  names = e.instances.items

  size : length names ≡ length vertices
  size = ap length instances ∙ length-map vertices name

  name_at : (j : ℕ) → j < length vertices → get_or names j 0 ≡ name (get_or vertices j 0)
  name_at j h = ap (λ (xs : List ℕ). get_or xs j 0) instances ∙ get_or-map name vertices j 0 0 h

  row_at : (j : ℕ) → row e.places.items e.dependencies.items j ≡ map name (row x.places.items x.dependencies.items j)
  row_at j =
      ap (λ (ps : List ℕ). row ps e.dependencies.items j) places
      ∙ (ap (λ (ds : List ℕ). row x.places.items ds j) dependencies ∙ row_named name x.places.items x.dependencies.items j)

  module _ (signatures : List Signature) (trees : ℕ → Tree) (rows : List Row) (game : IsGameOfRows signatures trees rows g) (certificate : ∥ IsCertificate g s ∥₁)
      (numbered : (n : ℕ) → IsReached rows n → name (vertex_of rows n) ≡ n)
      (marked : (n : ℕ) → IsReached rows n → IsMarked marks (vertex_of rows n))
      (only : (v : ℕ) → IsMarked marks v → (n : ℕ) × IsReached rows n × (vertex_of rows n ≡ v))
      (b : Bool) (wins : winner_of s start ≡ player_for b) where
    abbrev at : ℕ → ℕ
    at = vertex_of rows

    -- the instance whose vertex v is
    record Has (v : ℕ) : Type 0 where
      reached : IsReached rows (name v)
      place : at (name v) ≡ v

    has : (v : ℕ) → IsMarked marks v → Has v
    has v h =
        let found = only v h in
        let is : name v ≡ found.0 = ap name (sym found.2) ∙ numbered found.0 found.1 in
        record {
          reached = subst (IsReached rows) (sym is) found.1;
          place = ap at is ∙ found.2;
        }

    -- the place of an instance
    record HasPlace (n : ℕ) : Type 0 where
      place : ℕ
      within : place < length vertices
      reached : IsReached rows n
      vertex : get_or vertices place 0 ≡ at n
      names_it : get_or names place 0 ≡ n

    stands : (n : ℕ) → Contains names n → HasPlace n
    stands n h =
        let there = place_of names n h in
        let below : there.place < length vertices = (let w = there.within in let z = size in omega arith) in
        let v = get_or vertices there.place 0 in
        let v_has = has v (explored.marked v (Contains-get_or vertices there.place 0 below)) in
        let is : name v ≡ n = sym (name_at there.place below) ∙ there.there in
        record {
          place = there.place;
          within = below;
          reached = subst (IsReached rows) is v_has.reached;
          vertex = sym v_has.place ∙ ap at is;
          names_it = there.there;
        }

    pub once : (i j : ℕ) → i < j → j < length names → get_or names i 0 ≢ get_or names j 0
    once i j less below e' =
        let z = size in
        let v = get_or vertices i 0 in
        let u = get_or vertices j 0 in
        let i_below : i < length vertices = omega arith in
        let j_below : j < length vertices = omega arith in
        let v_has = has v (explored.marked v (Contains-get_or vertices i 0 i_below)) in
        let u_has = has u (explored.marked u (Contains-get_or vertices j 0 j_below)) in
        let same : name v ≡ name u = sym (name_at i i_below) ∙ (e' ∙ name_at j j_below) in
        x.reached.found.once i j less j_below (sym v_has.place ∙ (ap at same ∙ u_has.place))

    -- the rows of names have an instance where those of vertices have its vertex
    in_row : (p i : ℕ) → i < length vertices → IsInRow vertices x.places.items x.dependencies.items p i → IsInRow names e.places.items e.dependencies.items p i
    in_row p i h there =
        subst (λ (xs : List ℕ). Contains xs (get_or names i 0)) (sym (row_at p))
        (subst (λ n. Contains (map name (row x.places.items x.dependencies.items p)) n) (sym (name_at i h))
        (named_contained name (row x.places.items x.dependencies.items p) (get_or vertices i 0) there))

    in_row_back : (p i : ℕ) → p < length vertices → i < length vertices → IsInRow names e.places.items e.dependencies.items p i →
        IsInRow vertices x.places.items x.dependencies.items p i
    in_row_back p i l h there =
        let v = get_or vertices i 0 in
        let list = row x.places.items x.dependencies.items p in
        let found = named_of name list (name v)
        (subst (λ n. Contains (map name list) n) (name_at i h) (subst (λ (xs : List ℕ). Contains xs (get_or names i 0)) (row_at p) there)) in
        let u_has = has found.element (explored.marked found.element (explored.closed p found.element l found.contained)) in
        let v_has = has v (explored.marked v (Contains-get_or vertices i 0 h)) in
        subst (λ u. Contains list u) (sym u_has.place ∙ (ap at found.names ∙ v_has.place)) found.contained

    breadth_first : IsBreadthFirst names e.places.items e.dependencies.items (length names)
    breadth_first =
        let z = size in
        record {
          connected = λ i pos h.
              (let found = explored.ahead.connected i pos (omega arith) in
              let low = found.2 in
              (found.0, found.1, omega arith, in_row found.0 i (omega arith) found.3));
          nearest = λ i j q pos less h l there.
              (let found = explored.ahead.nearest i j q pos less (omega arith) (omega arith) (in_row_back q j (omega arith) (omega arith) there) in
              (found.0, found.1, in_row found.0 i (omega arith) found.2));
        }

    abbrev graph : Graph
    graph = graph_of e

    pub each : (k : ℕ) → k < length names → graph.dependencies (get_or names k 0) ≡ row e.places.items e.dependencies.items k
    each k h =
        let zero_add : 0 + k ≡ k = omega arith in
        looked_up names e.places.items e.dependencies.items 0 k once h ∙ ap (row e.places.items e.dependencies.items) zero_add

    pub nearest : IsNearestFirst graph
    nearest = nearest_first graph e.places.items e.dependencies.items each once breadth_first

    -- an instance's dependencies are the names of its row
    dependencies_at : (n : ℕ) (st : HasPlace n) → graph.dependencies n ≡ map name (row x.places.items x.dependencies.items st.place)
    dependencies_at n st =
        let below : st.place < length names = (let w = st.within in let z = size in omega arith) in
        ap graph.dependencies (sym st.names_it) ∙ (each st.place below ∙ row_at st.place)

    lists : (n : ℕ) (st : HasPlace n) → ListsNext g s marks (at n) (row x.places.items x.dependencies.items st.place)
    lists n st = subst (λ v. ListsNext g s marks v (row x.places.items x.dependencies.items st.place)) st.vertex (explored.rows st.place st.within)

    -- what an instance rests on is the name of a vertex of its row
    named_next : (n m : ℕ) (st : HasPlace n) → Contains (graph.dependencies n) m → IsNamed name (row x.places.items x.dependencies.items st.place) m
    named_next n m st h = named_of name (row x.places.items x.dependencies.items st.place) m (subst (λ (xs : List ℕ). Contains xs m) (dependencies_at n st) h)

    inner_of : (w : ℕ) → IsOpen g marks w → IsInner g rows w
    inner_of w h = record { priority = h.priority; bracket = λ n reached is. h.unmarked (subst (IsMarked marks) is (marked n reached)) }

    open_of : (w : ℕ) → IsInner g rows w → IsOpen g marks w
    open_of w h = record { priority = h.priority; unmarked = λ m. let found = only w m in h.bracket found.0 found.1 found.2 }

    strategy : IsStrategyGraph g s rows (player_for b) graph
    strategy = record {
      reached = λ n h. (stands n h).reached;
      won = λ n h.
          let st = stands n h in
          ap (winner_of s) (sym st.vertex) ∙ (explored.won (get_or vertices st.place 0) (Contains-get_or vertices st.place 0 st.within) ∙ wins);
      closed = λ n m h.
          let st = stands n h.0 in
          let next = named_next n m st h.1 in
          subst (λ k. Contains names k) next.names
          (subst (λ (xs : List ℕ). Contains xs (name next.element)) (sym instances)
          (named_contained name vertices next.element (explored.closed st.place next.element st.within next.contained)));
      some = λ n m h.
          let st = stands n h.0 in
          let next = named_next n m st h.1 in
          let is_next = (lists n st).some next.element next.contained in
          let u_has = has next.element is_next.marked in
          let is : next.element ≡ at m = sym u_has.place ∙ ap at next.names in (
            is_next.leads.0,
            subst (λ u. IsKeptPath g s (IsInner g rows) (at n) is_next.leads.0 u) is
                (path_as g s (IsOpen g marks) (IsInner g rows) inner_of (at n) is_next.leads.0 next.element is_next.leads.1),
          );
      all = λ n m h reached comes.
          let st = stands n h in
          let listed = (lists n st).all (at m) (record {
            marked = marked m reached;
            leads = (comes.0, path_as g s (IsInner g rows) (IsOpen g marks) open_of (at n) comes.0 (at m) comes.1);
          }) in
          subst (λ (xs : List ℕ). Contains xs m) (sym (dependencies_at n st))
          (subst (λ k. Contains (map name (row x.places.items x.dependencies.items st.place)) k) (numbered m reached)
          (named_contained name (row x.places.items x.dependencies.items st.place) (at m) listed));
    }

    pub proof : IsProofGraph signatures trees b graph
    proof = merely_prove g s certificate signatures trees rows game b graph strategy

    pub choices : RestsOnChoices trees b graph
    choices = merely_choose g s certificate signatures trees rows game b graph strategy

    -- names of different vertices that are instances' are different
    pub apart : (k : ℕ) → k < length names → AllPairs (λ (m p : ℕ). m ≢ p) (row e.places.items e.dependencies.items k)
    apart k h =
        let below : k < length vertices = (let z = size in omega arith) in
        let list = row x.places.items x.dependencies.items k in
        let next = explored.rows k below in
        subst (λ (ns : List ℕ). AllPairs (λ (m p : ℕ). m ≢ p) ns) (sym (row_at k))
        (named_apart name list (λ u. IsMarked marks u) (λ u c. (next.some u c).marked)
        (λ u w u_marked w_marked same. sym (has u u_marked).place ∙ (ap at same ∙ (has w w_marked).place)) next.apart)

    pub initial : (n : ℕ) → IsReached rows n → at n ≡ start → get_or names 0 0 ≡ n
    initial n reached is = name_at 0 explored.some ∙ (ap name (explored.first ∙ sym is) ∙ numbered n reached)

pub shown : (g : Game) (s : Solution) (marks : List Bool) (numbers : List ℕ) (start : ℕ) (x : DependencyGraph) → IsExplored g s marks start x →
    ∥ IsCertificate g s ∥₁ → (e : Evidence) →
    e.instances.items ≡ map (λ v. get_or numbers v 0) x.reached.vertices.items → e.places.items ≡ x.places.items →
    e.dependencies.items ≡ map (λ v. get_or numbers v 0) x.dependencies.items →
    winner_of s start ≡ player_for e.truth → IsSolvedAt g start e.truth →
    (signatures : List Signature) (trees : ℕ → Tree) (rows : List Row) → IsGameOfRows signatures trees rows g →
    AreNumbers rows marks numbers → (n : ℕ) → IsReached rows n → vertex_of rows n ≡ start → Shows signatures trees n e
shown g s marks numbers start x explored certificate e instances places dependencies wins meaning signatures trees rows game numbered n reached is =
    let name : ℕ → ℕ = λ v. get_or numbers v 0 in
    let first = initial g s marks start x explored name e instances places dependencies signatures trees rows game certificate
    numbered.number numbered.marked numbered.only e.truth wins n reached is in
    let some : 0 < length e.instances.items = (let z = explored.some in omega (arith, ap length instances, length-map x.reached.vertices.items name)) in
    record {
      truth = meaning signatures trees rows game reached.0 reached.1 (ap (vertex_of rows) reached.2 ∙ is) ∙ ap (solved signatures trees) reached.2;
      graph = proof g s marks start x explored name e instances places dependencies signatures trees rows game certificate
          numbered.number numbered.marked numbered.only e.truth wins;
      initial = subst (λ k. Contains e.instances.items k) first (Contains-get_or e.instances.items 0 0 some);
      first = first;
      once = once g s marks start x explored name e instances places dependencies signatures trees rows game certificate
          numbered.number numbered.marked numbered.only e.truth wins;
      nearest = nearest g s marks start x explored name e instances places dependencies signatures trees rows game certificate
          numbered.number numbered.marked numbered.only e.truth wins;
      each = each g s marks start x explored name e instances places dependencies signatures trees rows game certificate
          numbered.number numbered.marked numbered.only e.truth wins;
      choices = choices g s marks start x explored name e instances places dependencies signatures trees rows game certificate
          numbered.number numbered.marked numbered.only e.truth wins;
      apart = apart g s marks start x explored name e instances places dependencies signatures trees rows game certificate
          numbered.number numbered.marked numbered.only e.truth wins;
    }

-- what was listed are vertices
pub known_within : (g : Game) (s : Solution) (marks : List Bool) (start : ℕ) (x : DependencyGraph) → IsExplored g s marks start x →
    (k : ℕ) → k < length x.dependencies.items → get_or x.dependencies.items k 0 < length x.reached.marks.items
known_within g s marks start x explored k h =
    let u = get_or x.dependencies.items k 0 in
    marked_within x.reached.marks.items u (x.reached.found.listed u (explored.known u (Contains-get_or x.dependencies.items k 0 h)))

-- the rows of what was explored, under the vertices' names
pub divided : (g : Game) (s : Solution) (marks : List Bool) (start : ℕ) (x : DependencyGraph) → IsExplored g s marks start x → (name : ℕ → ℕ) →
    (instances dependencies : List ℕ) → instances ≡ map name x.reached.vertices.items → dependencies ≡ map name x.dependencies.items →
    IsDividedIntoRows instances x.places.items dependencies
divided g s marks start x explored name instances dependencies e d =
    let size : length instances ≡ length x.reached.vertices.items = ap length e ∙ length-map x.reached.vertices.items name in
    let many : length dependencies ≡ length x.dependencies.items = ap length d ∙ length-map x.dependencies.items name in
    record {
      sized = explored.sized ∙ ap (λ n. n + 1) (sym size);
      first = explored.first_place;
      last = ap (λ n. get_or x.places.items n 0) size ∙ (explored.last ∙ sym many);
      ordered = λ k h. explored.ordered k (omega arith);
      within = λ k h. let low = explored.within (k + 1) (omega arith) in omega arith;
    }

-- a winner in terms of the truth value
pub wins_of : (s : Solution) (v : ℕ) (b : Bool) → (IsTrue b ↔ (winner_of s v ≡ Even)) → winner_of s v ≡ player_for b
wins_of s v true h = h.0 refl
wins_of s v false h = elim (even_or_odd (winner_of s v)) [ inl e ↦ absurd (false≢true (h.1 e)) | inr o ↦ o ]
