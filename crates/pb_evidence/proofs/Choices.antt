-- A winner's strategy is a choice through each tree that it wins: the calls that the choice names are those of the
-- instances that the play comes to next.
use Rattle.std.proofs.Common.{◌≡◌, ◌≢◌, ℕ, suc, ◌+◌, ◌<◌, ◌≤◌, ◌⊎◌, Bool, true, false, not, List, [], ◌∷◌, ◌++◌, Some, inl, inr, refl, sym, ap, ◌∙◌, subst, arith}
use Rattle.std.specs.Prelude.{Contains, slice_get}
use Rattle.std.proofs.Math.Bool.{Bool-set, not-not}
use Rattle.std.proofs.Math.Nat.{ℕ_set}
use Rattle.std.proofs.Math.Logic.{∥∥₁_elim}
use Rattle.std.proofs.lemmas.Option.{slice_get_within}
use Rattle.std.proofs.lemmas.List.Elements.{Contains-append_left, Contains-append_right, Contains-append_cases}
use Rattle.pb_fixpoint_trees.proofs.Players.{parity_exact}
use Rattle.pb_fixpoint_trees.specs.Players.{parity_of}
use Rattle.pb_fixpoint_trees.specs.declared.player.Player.TheVariants.{Even}
use Rattle.pb_game.specs.declared.Game.{Game}
use Rattle.pb_game.specs.Adjacency.{is_among}
use Rattle.pb_game.specs.Games.{vertex_count, owner_of, successors_of, priority_count, HasEdge}
use Rattle.pb_game.specs.declared.certificate.Solution.{Solution}
use Rattle.pb_game.specs.Solutions.{winner_of, choice_of, count_of}
use Rattle.pb_game.specs.Certificates.{IsCertificate, IsKept}
use Rattle.pb_fixpoint_trees.specs.declared.junction.Junction.{Junction}
use Rattle.pb_fixpoint_trees.specs.declared.junction.Junction.TheVariants.{Conjunction, Disjunction}
use Rattle.pb_fixpoint_trees.specs.Junctions.{neutral}
use Rattle.pb_fixpoint_trees.specs.Tree.{Leaf, Yes, No, Cut, Call, Operands, End, LeafThen, BracketThen, Tree, Single, Root, LeafCalls, OperandsCall, TreeCalls}
use Rattle.pb_fixpoint_trees.specs.Equations.{Signature}
use Rattle.pb_fixpoint_trees.specs.Game.{Vertex, brackets, inner, target, targets, vertex_of, sink_of, bracket_successors, bracket_vertex, inner_vertices, tree_vertices, row_vertices, priority_from, game_vertices, false_sink, true_sink}
use Rattle.pb_fixpoint_trees.specs.Rows.{Row, IsReached}
use Rattle.pb_fixpoint_trees.proofs.Members.{Among, among_of_contains, contains_of_among, among_rising, among_from_rising}
use Rattle.pb_strategy.specs.Meaning.{IsGameOfRows}
use Rattle.pb_strategy.proofs.Players.{player, choosing, connective_cases, not_other, owner-choosing, owner-other, neutral-choosing}
use Rattle.pb_strategy.proofs.Standing.{StandAt, BracketStands, bracket_stands, stand_all, row_stands}
use Rattle.pb_strategy.proofs.CertifiedVertices.{false_sink-value, true_sink-value}
use Rattle.pb_strategy.proofs.Winners.{certified}
use Rattle.pb_evidence.specs.ProofGraphs.{Graph, RestsOn}
use Rattle.pb_evidence.specs.Supports.{IsLeafSupport, IsJoined, IsOperandsSupport, IsTreeSupport, RestsOnChoices}
use Rattle.pb_evidence.specs.Strategies.{player_for, IsInner, IsKeptPath, IsStrategyGraph, StrategiesChoose}
use Rattle.pb_evidence.proofs.Proving.{test_of, contained_of}
use Rattle.pb_evidence.proofs.Signs.{player_is}
use Rattle.pb_evidence.proofs.Places.{HasRow, has_row, apart, from_next, same_instance}

-- ---- lists of calls

-- P holds of the list, which has the reached instances that Q holds of
record Supported (Reached : ℕ → Type 0) (P : List ℕ → Type 0) (Q : ℕ → Type 0) : Type 0 where
  list : List ℕ
  is : P list
  reached : (m : ℕ) → Contains list m → Reached m
  to : (m : ℕ) → Contains list m → Q m
  from : (m : ℕ) → Reached m → Q m → Contains list m

supported_as : (Reached : ℕ → Type 0) (P P' : List ℕ → Type 0) (Q Q' : ℕ → Type 0) → ((calls : List ℕ) → P calls → P' calls) →
    ((m : ℕ) → Reached m → Q m → Q' m) → ((m : ℕ) → Reached m → Q' m → Q m) → Supported Reached P Q → Supported Reached P' Q'
supported_as Reached P P' Q Q' is to from x = record {
  list = x.list;
  is = is x.list x.is;
  reached = x.reached;
  to = λ m h. to m (x.reached m h) (x.to m h);
  from = λ m r q. x.from m r (from m r q);
}

one_joined : (b : Bool) (P P' : List ℕ → Type 0) (calls : List ℕ) → P calls → IsJoined b (choosing b) P P' calls
one_joined true P P' calls h = inl h
one_joined false P P' calls h = inl h

other_joined : (b : Bool) (P P' : List ℕ → Type 0) (calls : List ℕ) → P' calls → IsJoined b (choosing b) P P' calls
other_joined true P P' calls h = inr h
other_joined false P P' calls h = inr h

both_joined : (b : Bool) (P P' : List ℕ → Type 0) (xs ys : List ℕ) → P xs → P' ys → IsJoined b (choosing (not b)) P P' (xs ++ ys)
both_joined true P P' xs ys h k = (xs, ys, h, k, refl)
both_joined false P P' xs ys h k = (xs, ys, h, k, refl)

supported_both : (Reached : ℕ → Type 0) (b : Bool) (P P' : List ℕ → Type 0) (Q Q' : ℕ → Type 0) → Supported Reached P Q → Supported Reached P' Q' →
    Supported Reached (IsJoined b (choosing (not b)) P P') (λ m. Q m ⊎ Q' m)
supported_both Reached b P P' Q Q' x y = record {
  list = x.list ++ y.list;
  is = both_joined b P P' x.list y.list x.is y.is;
  reached = λ m h. elim (Contains-append_cases x.list y.list m h) [ inl k ↦ x.reached m k | inr k ↦ y.reached m k ];
  to = λ m h. elim (Contains-append_cases x.list y.list m h) [ inl k ↦ inl (x.to m k) | inr k ↦ inr (y.to m k) ];
  from = λ m r q. elim q [
    | inl k ↦ Contains-append_left x.list y.list m (x.from m r k)
    | inr k ↦ Contains-append_right x.list y.list m (y.from m r k)
  ];
}

supported_none : (Reached : ℕ → Type 0) (P : List ℕ → Type 0) (Q : ℕ → Type 0) → P [] → ((m : ℕ) → Reached m → Q m → ⊥) → Supported Reached P Q
supported_none Reached P Q is none = record {
  list = [];
  is = is;
  reached = λ m h. absurd (among_of_contains [] m h);
  to = λ m h. absurd (among_of_contains [] m h);
  from = λ m r q. absurd (none m r q);
}

-- ---- plays to the next instance's vertex

module _ (g : Game) (s : Solution) (at : ℕ → ℕ) (Inner : ℕ → Type 0) where
  -- the play from v can come to m's vertex over inner ones
  abbrev Comes : ℕ → ℕ → Type 0
  Comes v m = (over : List ℕ) × IsKeptPath g s Inner v over (at m)

  -- w is m's vertex, or an inner one from which the play can come to it
  abbrev Ends : ℕ → ℕ → Type 0
  Ends w m = (w ≡ at m) ⊎ (Inner w × Comes w m)

  -- one of these is such a vertex
  abbrev SomeEnds : List ℕ → ℕ → Type 0
  SomeEnds [] m = ⊥
  SomeEnds (w ∷ ws) m = Ends w m ⊎ SomeEnds ws m

  record FirstStep (v m : ℕ) : Type 0 where
    next : ℕ
    kept : IsKept g s v next
    ends : Ends next m

  comes_by : (v w m : ℕ) → IsKept g s v w → Ends w m → Comes v m
  comes_by v w m kept (inl e) = ([], subst (IsKept g s v) e kept)
  comes_by v w m kept (inr h) = (w ∷ h.1.0, (kept, h.0, h.1.1))

  first_step_of : (v : ℕ) (over : List ℕ) (m : ℕ) → IsKeptPath g s Inner v over (at m) → FirstStep v m
  first_step_of v [] m path = record { next = at m; kept = path; ends = inl refl }
  first_step_of v (x ∷ xs) m path = record { next = x; kept = path.0; ends = inr (path.1, (xs, path.2)) }

  first_step : (v m : ℕ) → Comes v m → FirstStep v m
  first_step v m comes = first_step_of v comes.0 m comes.1

  some_ends : (ws : List ℕ) (w m : ℕ) → Among ws w → Ends w m → SomeEnds ws m
  some_ends [] w m among ends = among
  some_ends (x ∷ ws) w m (inl e) ends = inl (subst (λ y. Ends y m) (sym e) ends)
  some_ends (x ∷ ws) w m (inr there) ends = inr (some_ends ws w m there ends)

  record OneEnds (ws : List ℕ) (m : ℕ) : Type 0 where
    vertex : ℕ
    among : Among ws vertex
    ends : Ends vertex m

  one_ends : (ws : List ℕ) (m : ℕ) → SomeEnds ws m → OneEnds ws m
  one_ends [] m h = absurd h
  one_ends (w ∷ ws) m (inl h) = record { vertex = w; among = inl refl; ends = h }
  one_ends (w ∷ ws) m (inr h) = let found = one_ends ws m h in record { vertex = found.vertex; among = inr found.among; ends = found.ends }

  -- a play that stays at v comes to no other vertex
  stays : (v : ℕ) → ((w : ℕ) → IsKept g s v w → w ≡ v) → (over : List ℕ) (u : ℕ) → IsKeptPath g s Inner v over u → u ≡ v
  stays v only [] u path = only u path
  stays v only (x ∷ xs) u path = stays v only xs u (subst (λ y. IsKeptPath g s Inner y xs u) (only x path.0) path.2)

-- ---- choices

-- what is read of a certificate of which there merely is one
record Follows (g : Game) (s : Solution) (b : Bool) : Type 0 where
  chosen : (v : ℕ) → v < vertex_count g → owner_of g v ≡ winner_of s v → HasEdge g v (choice_of s v)
  region : (v w : ℕ) → v < vertex_count g → IsKept g s v w → winner_of s w ≡ winner_of s v
  at_false : winner_of s 0 ≡ player b → b ≡ false
  at_true : winner_of s 1 ≡ player b → b ≡ true

follows : (g : Game) (s : Solution) → ∥ IsCertificate g s ∥₁ → (signatures : List Signature) (trees : ℕ → Tree) (rows : List Row) →
    IsGameOfRows signatures trees rows g → (b : Bool) → Follows g s b
follows g s is signatures trees rows game b =
    let vertices = game_vertices signatures rows in
    record {
      chosen = λ v below mine. contained_of (successors_of g v) (choice_of s v)
          (∥∥₁_elim is (Bool-set (is_among (successors_of g v) (choice_of s v)) true)
          (λ certificate. test_of (successors_of g v) (choice_of s v) ((certificate.vertices v below).choice mine)));
      region = λ v w below kept.
          parity_exact _ _ (∥∥₁_elim is (ℕ_set (parity_of (winner_of s w)) (parity_of (winner_of s v)))
          (λ certificate. ap parity_of ((certificate.vertices v below).region w kept)));
      at_false = λ wins. ∥∥₁_elim is (Bool-set b false)
          (λ certificate. false_sink-value signatures trees rows game.reached (winner_of s) (choice_of s) (count_of g s) (priority_count g)
          (certified g s vertices game.vertices certificate) b wins);
      at_true = λ wins. ∥∥₁_elim is (Bool-set b true)
          (λ certificate. true_sink-value signatures trees rows game.reached (winner_of s) (choice_of s) (count_of g s) (priority_count g)
          (certified g s vertices game.vertices certificate) b wins);
    }

module _ (g : Game) (s : Solution) (signatures : List Signature) (trees : ℕ → Tree) (rows : List Row) (game : IsGameOfRows signatures trees rows g)
    (b : Bool) (of : Follows g s b) where
  abbrev vertices : List Vertex
  vertices = game_vertices signatures rows

  abbrev at : ℕ → ℕ
  at = vertex_of rows

  abbrev Reached : ℕ → Type 0
  Reached = IsReached rows

  abbrev Won : ℕ → Type 0
  Won v = winner_of s v ≡ player b

  abbrev To : ℕ → ℕ → Type 0
  To = Ends g s at (IsInner g rows)

  abbrev From : ℕ → ℕ → Type 0
  From = Comes g s at (IsInner g rows)

  abbrev ToSome : List ℕ → ℕ → Type 0
  ToSome = SomeEnds g s at (IsInner g rows)

  row_of : (n : ℕ) → Reached n → HasRow rows n
  row_of n h = has_row rows h.0 n (among_of_contains rows h.0 h.1) h.2

  -- the sinks lead to themselves alone
  stops : (v : ℕ) → v < 2 → ((w : ℕ) → IsKept g s v w → w ≡ v) → (m : ℕ) → Reached m → To v m → ⊥
  stops v low only m reached (inl e) = let below = from_next rows 2 m (row_of m reached) in absurd (omega arith)
  stops v low only m reached (inr h) =
      let below = from_next rows 2 m (row_of m reached) in
      let same = stays g s at (IsInner g rows) v only h.1.0 (at m) h.1.1 in
      absurd (omega arith)

  only_of : (v u : ℕ) → successors_of g v ≡ u ∷ [] → (w : ℕ) → IsKept g s v w → w ≡ u
  only_of v u is w kept =
      elim (among_of_contains (u ∷ []) w (subst (λ (ws : List ℕ). Contains ws w) is kept.edge)) [ inl e ↦ sym e | inr none ↦ absurd none ]

  false_stops : (m : ℕ) → Reached m → To 0 m → ⊥
  false_stops = stops 0 (omega arith) (only_of 0 0 (game.vertices.each 0 false_sink refl).successors)

  true_stops : (m : ℕ) → Reached m → To 1 m → ⊥
  true_stops = stops 1 (omega arith) (only_of 1 1 (game.vertices.each 1 true_sink refl).successors)

  sink_stops : (c : Junction) (m : ℕ) → Reached m → To (sink_of c) m → ⊥
  sink_stops Conjunction m reached h = true_stops m reached h
  sink_stops Disjunction m reached h = false_stops m reached h

  empty_value : (c : Junction) → Won (sink_of c) → neutral c ≡ b
  empty_value Conjunction wins = sym (of.at_true wins)
  empty_value Disjunction wins = sym (of.at_false wins)

  leaf_supported : (l : Leaf) → LeafCalls Reached l → Won (target at l) → Supported Reached (IsLeafSupport b l) (To (target at l))
  leaf_supported Yes h wins = supported_none Reached (IsLeafSupport b Yes) (To 1) (of.at_true wins, refl) true_stops
  leaf_supported No h wins = supported_none Reached (IsLeafSupport b No) (To 0) (of.at_false wins, refl) false_stops
  leaf_supported Cut h wins = supported_none Reached (IsLeafSupport b Cut) (To 0) (of.at_false wins, refl) false_stops
  leaf_supported (Call n) h wins = record {
    list = n ∷ [];
    is = refl;
    reached = λ m k. subst Reached (only m k) h;
    to = λ m k. inl (ap at (only m k));
    from = λ m r ends. contains_of_among (n ∷ []) m (inl (elim ends [
      | inl e ↦ same_instance rows 2 n m (row_of n h) (row_of m r) e
      | inr inner' ↦ absurd (inner'.0.bracket n h refl)
    ]));
  }
    where
      only : (m : ℕ) → Contains (n ∷ []) m → n ≡ m
      only m k = elim (among_of_contains (n ∷ []) m k) [ inl e ↦ e | inr none ↦ absurd none ]

  -- what a choice names of operands whose brackets' vertices begin at n
  record Chosen (f : Operands) (n : ℕ) : Type 0 where
    one : (w : ℕ) → Among (targets at f n) w → Won w → Supported Reached (IsOperandsSupport b (choosing b) f) (To w)
    all : ((w : ℕ) → Among (targets at f n) w → Won w) → Supported Reached (IsOperandsSupport b (choosing (not b)) f) (ToSome (targets at f n))

  -- one operand more, which leads to x
  chosen_one : (P P' : List ℕ → Type 0) (x : ℕ) (ws : List ℕ) → (Won x → Supported Reached P (To x)) →
      ((w : ℕ) → Among ws w → Won w → Supported Reached P' (To w)) →
      (w : ℕ) → Among (x ∷ ws) w → Won w → Supported Reached (IsJoined b (choosing b) P P') (To w)
  chosen_one P P' x ws here later w (inl e) wins =
      supported_as Reached P (IsJoined b (choosing b) P P') (To x) (To w) (one_joined b P P')
      (λ m r h. subst (λ y. To y m) e h) (λ m r h. subst (λ y. To y m) (sym e) h) (here (subst Won (sym e) wins))
  chosen_one P P' x ws here later w (inr there) wins =
      supported_as Reached P' (IsJoined b (choosing b) P P') (To w) (To w) (other_joined b P P') (λ m r h. h) (λ m r h. h) (later w there wins)

  -- where a bracket leads
  own_target : (f : Operands) (n w : ℕ) → Among (bracket_successors at (choosing b) f n) w → Won w → Among (targets at f n) w
  own_target End n w (inl e) wins = absurd (not_other b (sym (neutral-choosing b) ∙ empty_value (choosing b) (subst Won (sym e) wins)))
  own_target End n w (inr none) wins = absurd none
  own_target (LeafThen l after) n w h wins = among_from_rising (targets at (LeafThen l after) n) w h
  own_target (BracketThen c inside after) n w h wins = among_from_rising (targets at (BracketThen c inside after) n) w h

  to_targets : (c : Junction) (f : Operands) (n w : ℕ) → Among (targets at f n) w → Among (bracket_successors at c f n) w
  to_targets c End n w h = absurd h
  to_targets c (LeafThen l after) n w h = among_rising (targets at (LeafThen l after) n) w h
  to_targets c (BracketThen d inside after) n w h = among_rising (targets at (BracketThen d inside after) n) w h

  some_target : (c : Junction) (f : Operands) (n w m : ℕ) → Reached m → Among (bracket_successors at c f n) w → To w m → ToSome (targets at f n) m
  some_target c End n w m reached (inl e) ends = absurd (sink_stops c m reached (subst (λ y. To y m) (sym e) ends))
  some_target c End n w m reached (inr none) ends = absurd none
  some_target c (LeafThen l after) n w m reached h ends =
      some_ends g s at (IsInner g rows) (targets at (LeafThen l after) n) w m (among_from_rising (targets at (LeafThen l after) n) w h) ends
  some_target c (BracketThen d inside after) n w m reached h ends =
      some_ends g s at (IsInner g rows) (targets at (BracketThen d inside after) n) w m (among_from_rising (targets at (BracketThen d inside after) n) w h) ends

  within : (v : ℕ) (x : Vertex) → slice_get vertices v ≡ Some x → v < vertex_count g
  within v x stands = let below = slice_get_within vertices v x stands in let count = game.vertices.count in omega arith

  -- at the winner's own bracket the choice leads on
  own : (f : Operands) (v p : ℕ) → Chosen f (suc v) → slice_get vertices v ≡ Some (bracket_vertex at p (choosing b) f (suc v)) → Won v →
      Supported Reached (IsOperandsSupport b (choosing b) f) (From v)
  own f v p known stands wins =
      let x = bracket_vertex at p (choosing b) f (suc v) in
      let there = game.vertices.each v x stands in
      let below = within v x stands in
      let mine : owner_of g v ≡ winner_of s v = there.owner ∙ (owner-choosing b ∙ sym wins) in
      let u = choice_of s v in
      let kept : IsKept g s v u = record { edge = of.chosen v below mine; choice = λ _. refl } in
      let u_won : Won u = of.region v u below kept ∙ wins in
      let among = own_target f (suc v) u (among_of_contains x.successors u (subst (λ (ws : List ℕ). Contains ws u) there.successors kept.edge)) u_won in
      supported_as Reached (IsOperandsSupport b (choosing b) f) (IsOperandsSupport b (choosing b) f) (To u) (From v) (λ calls h. h)
      (λ m r ends. comes_by g s at (IsInner g rows) v u m kept ends)
      (λ m r comes. let step = first_step g s at (IsInner g rows) v m comes in subst (λ w. To w m) (sym (step.kept.choice mine)) step.ends)
      (known.one u among u_won)

  -- at the other player's each edge does
  others : (f : Operands) (v p : ℕ) → Chosen f (suc v) → slice_get vertices v ≡ Some (bracket_vertex at p (choosing (not b)) f (suc v)) → Won v →
      Supported Reached (IsOperandsSupport b (choosing (not b)) f) (From v)
  others f v p known stands wins =
      let c = choosing (not b) in
      let x = bracket_vertex at p c f (suc v) in
      let there = game.vertices.each v x stands in
      let below = within v x stands in
      let kept : (w : ℕ) → Among (targets at f (suc v)) w → IsKept g s v w = λ w among. record {
        edge = subst (λ (ws : List ℕ). Contains ws w) (sym there.successors) (contains_of_among x.successors w (to_targets c f (suc v) w among));
        choice = λ owned. absurd (owner-other b (sym there.owner ∙ (owned ∙ wins)));
      } in
      supported_as Reached (IsOperandsSupport b c f) (IsOperandsSupport b c f) (ToSome (targets at f (suc v))) (From v) (λ calls h. h)
      (λ m r ends. let found = one_ends g s at (IsInner g rows) (targets at f (suc v)) m ends in
      comes_by g s at (IsInner g rows) v found.vertex m (kept found.vertex found.among) found.ends)
      (λ m r comes. let step = first_step g s at (IsInner g rows) v m comes in
      some_target c f (suc v) step.next m r (among_of_contains x.successors step.next (subst (λ (ws : List ℕ). Contains ws step.next) there.successors step.kept.edge)) step.ends)
      (known.all (λ w among. of.region v w below (kept w among) ∙ wins))

  bracket_supported : (c : Junction) (f : Operands) (v p : ℕ) → Chosen f (suc v) → slice_get vertices v ≡ Some (bracket_vertex at p c f (suc v)) → Won v →
      Supported Reached (IsOperandsSupport b c f) (From v)
  bracket_supported c f v p known stands wins = elim (connective_cases b c) [
    | inl mine ↦ subst (λ d. slice_get vertices v ≡ Some (bracket_vertex at p d f (suc v)) → Supported Reached (IsOperandsSupport b d f) (From v)) (sym mine)
        (λ at_own. own f v p known at_own wins) stands
    | inr theirs ↦ subst (λ d. slice_get vertices v ≡ Some (bracket_vertex at p d f (suc v)) → Supported Reached (IsOperandsSupport b d f) (From v)) (sym theirs)
        (λ at_others. others f v p known at_others wins) stands
  ]

  -- the vertices of f's brackets, which begin at n, are no instance's
  abbrev AreApart : Operands → ℕ → Type 0
  AreApart f n = (k : ℕ) → n ≤ k → k < n + brackets f → (m : ℕ) → Reached m → at m ≢ k

  chosen : (f : Operands) (n : ℕ) → OperandsCall Reached f → AreApart f n → StandAt vertices n (inner_vertices at f n) → Chosen f n
  chosen End n h far stand = record {
    one = λ w among wins. absurd among;
    all = λ wins. supported_none Reached (IsOperandsSupport b (choosing (not b)) End) (ToSome []) (neutral-choosing (not b) ∙ not-not b, refl) (λ m r none. none);
  }
  chosen (LeafThen l after) n h far stand =
      let later = chosen after n h.1 far stand in
      record {
        one = chosen_one (IsLeafSupport b l) (IsOperandsSupport b (choosing b) after) (target at l) (targets at after n) (leaf_supported l h.0) later.one;
        all = λ wins. supported_both Reached b (IsLeafSupport b l) (IsOperandsSupport b (choosing (not b)) after) (To (target at l)) (ToSome (targets at after n))
            (leaf_supported l h.0 (wins (target at l) (inl refl))) (later.all (λ w among. wins w (inr among)));
      }
  chosen (BracketThen c inside after) n h far stand =
      let st : BracketStands vertices at c inside after n = bracket_stands vertices at c inside after n stand in
      let in_it = chosen inside (suc n) h.0 (λ k l m. far k (omega arith) (omega arith)) st.within in
      let next = suc (n + brackets inside) in
      let later = chosen after next h.1 (λ k l m. far k (omega arith) (omega arith)) st.behind in
      let bracket : (m : ℕ) → Reached m → at m ≢ n = far n (omega arith) (omega arith) in
      let is_inner : IsInner g rows n = record { priority = (game.vertices.each n (bracket_vertex at 0 c inside (suc n)) st.vertex).priority; bracket = bracket } in
      let here : Won n → Supported Reached (IsOperandsSupport b c inside) (To n) = λ wins.
      supported_as Reached (IsOperandsSupport b c inside) (IsOperandsSupport b c inside) (From n) (To n) (λ calls k. k)
      (λ m r comes. inr (is_inner, comes))
      (λ m r ends. elim ends [ inl e ↦ absurd (bracket m r (sym e)) | inr inner' ↦ inner'.1 ])
      (bracket_supported c inside n 0 in_it st.vertex wins) in
      record {
        one = chosen_one (IsOperandsSupport b c inside) (IsOperandsSupport b (choosing b) after) n (targets at after next) here later.one;
        all = λ wins. supported_both Reached b (IsOperandsSupport b c inside) (IsOperandsSupport b (choosing (not b)) after) (To n) (ToSome (targets at after next))
            (here (wins n (inl refl))) (later.all (λ w among. wins w (inr among)));
      }

  tree_supported : (tree : Tree) (v p : ℕ) → TreeCalls Reached tree → ((k : ℕ) → v < k → k < suc (v + inner tree) → (m : ℕ) → Reached m → at m ≢ k) →
      StandAt vertices v (tree_vertices at p tree v) → Won v → Supported Reached (IsTreeSupport b tree) (From v)
  tree_supported (Single l) v p calls far stand wins =
      let x : Vertex = record { owner = Even; priority = p; successors = target at l ∷ [] } in
      let there = game.vertices.each v x stand.0 in
      let below = within v x stand.0 in
      let only = only_of v (target at l) there.successors in
      let edge : (w : ℕ) → target at l ≡ w → HasEdge g v w = λ w e.
      subst (λ (ws : List ℕ). Contains ws w) (sym there.successors) (contains_of_among x.successors w (inl e)) in
      let kept : IsKept g s v (target at l) = record {
        edge = edge (target at l) refl;
        choice = λ mine. elim (among_of_contains x.successors (choice_of s v) (subst (λ (ws : List ℕ). Contains ws (choice_of s v)) there.successors (of.chosen v below mine))) [
          | inl e ↦ sym e
          | inr none ↦ absurd none
        ];
      } in
      supported_as Reached (IsLeafSupport b l) (IsTreeSupport b (Single l)) (To (target at l)) (From v) (λ calls h. h)
      (λ m r ends. comes_by g s at (IsInner g rows) v (target at l) m kept ends)
      (λ m r comes. let step = first_step g s at (IsInner g rows) v m comes in subst (λ w. To w m) (only step.next step.kept) step.ends)
      (leaf_supported l calls (of.region v (target at l) below kept ∙ wins))
  tree_supported (Root c f) v p calls far stand wins =
      supported_as Reached (IsOperandsSupport b c f) (IsTreeSupport b (Root c f)) (From v) (From v) (λ calls h. h) (λ m r h. h) (λ m r h. h)
      (bracket_supported c f v p (chosen f (suc v) calls (λ k l m. far k (omega arith) (omega arith)) stand.1) stand.0 wins)

  instance_supported : (n : ℕ) → Reached n → Won (at n) → Supported Reached (IsTreeSupport b (trees n)) (From (at n))
  instance_supported n reached wins =
      let level = priority_from 0 signatures in
      let found = row_stands vertices at level rows 2 n (stand_all (row_vertices at level rows 2) (false_sink ∷ (true_sink ∷ [])))
      reached.0 (among_of_contains rows reached.0 reached.1) reached.2 in
      let contained = contains_of_among rows found.row found.among in
      let of_tree : found.row.tree ≡ trees n = game.reached.of_trees found.row contained ∙ ap trees found.numbered in
      subst (λ tree. Supported Reached (IsTreeSupport b tree) (From (at n))) of_tree
      (tree_supported found.row.tree (at n) (level n) (game.reached.closed found.row contained)
      (subst (λ tree. (k : ℕ) → at n < k → k < suc (at n + inner tree) → (m : ℕ) → Reached m → at m ≢ k) (sym of_tree) (far n reached))
      found.stands wins)
    where
      far : (n : ℕ) → Reached n → (k : ℕ) → at n < k → k < suc (at n + inner (trees n)) → (m : ℕ) → Reached m → at m ≢ k
      far n reached k low high m reached' e =
          elim (apart trees rows 2 n m (λ r among. game.reached.of_trees r (contains_of_among rows r among)) (row_of n reached) (row_of m reached')) [
            | inl before ↦ omega arith
            | inr behind ↦ omega arith
          ]

  choices : (graph : Graph) → IsStrategyGraph g s rows (player_for b) graph → RestsOnChoices trees b graph
  choices graph is n contained =
      let reached = is.reached n contained in
      let found = instance_supported n reached (is.won n contained ∙ player_is b) in (
        found.list,
        found.is,
        λ m. (
          λ h. is.all n m contained (found.reached m h) (found.to m h),
          λ h. let rests : RestsOn graph n m = (contained, h) in
              found.from m (is.reached m (is.closed n m rests)) (is.some n m rests),
        ),
      )

-- of a certificate of which a struct's ghost field says no more than that there is one
pub merely_choose : (g : Game) (s : Solution) → ∥ IsCertificate g s ∥₁ →
    (signatures : List Signature) (trees : ℕ → Tree) (rows : List Row) → IsGameOfRows signatures trees rows g →
    (b : Bool) (graph : Graph) → IsStrategyGraph g s rows (player_for b) graph → RestsOnChoices trees b graph
merely_choose g s is signatures trees rows game b graph of =
    choices g s signatures trees rows game b (follows g s is signatures trees rows game b) graph of

pub strategies_choose : StrategiesChoose
strategies_choose g s is signatures trees rows game b graph of = merely_choose g s ∣ is ∣₁ signatures trees rows game b graph of
