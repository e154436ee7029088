-- The truth of a bracket from that of what its kept edges lead to.
use Rattle.std.proofs.Common.{◌≡◌, ℕ, suc, ◌+◌, ◌<◌, ◌≤◌, Bool, true, false, not, List, Some, refl, sym, ap, ◌∙◌, subst, inl, inr, arith}
use Rattle.std.specs.Prelude.{Contains, slice_get}
use Rattle.std.proofs.Math.Bool.{not-not}
use Rattle.pb_fixpoint_trees.specs.declared.player.Player.{Player}
use Rattle.pb_fixpoint.specs.Solution.{Environment}
use Rattle.pb_fixpoint_trees.specs.declared.junction.Junction.{Junction}
use Rattle.pb_fixpoint_trees.specs.declared.junction.Junction.TheVariants.{Conjunction, Disjunction}
use Rattle.pb_fixpoint_trees.specs.Junctions.{neutral}
use Rattle.pb_fixpoint_trees.specs.Tree.{Leaf, Yes, No, Cut, Call, Operands, End, LeafThen, BracketThen, LeafCalls, OperandsCall, leaf_truth, operands_truth}
use Rattle.pb_fixpoint_trees.specs.Game.{Vertex, brackets, target, targets, owner_of, bracket_successors, bracket_vertex, inner_vertices}
use Rattle.pb_strategy.proofs.Players.{player, choosing, connective_cases, owner-choosing, owner-other, neutral-choosing, joined_left, joined_right, joined_both}
use Rattle.pb_fixpoint_trees.proofs.Members.{Among, among_of_contains, contains_of_among, among_rising, among_from_rising}
use Rattle.pb_strategy.proofs.Standing.{StandAt, BracketStands, bracket_stands}

-- an edge that stays in a play by the winner's choices
pub record KeptEdge (vertices : List Vertex) (winner : ℕ → Player) (choice : ℕ → ℕ) (v w : ℕ) : Type 0 where
  pub vertex : Vertex
  pub stands : slice_get vertices v ≡ Some vertex
  pub edge : Contains vertex.successors w
  pub chosen : vertex.owner ≡ winner v → choice v ≡ w

-- S has vertices that the player who wants b wins, closed under kept edges from inner vertices, which the brackets inside
-- trees are; where it has an instance's vertex, t has b
module _ (b : Bool) (vertices : List Vertex) (winner : ℕ → Player) (choice : ℕ → ℕ)
    (chosen : (v : ℕ) (x : Vertex) → slice_get vertices v ≡ Some x → x.owner ≡ winner v → Contains x.successors (choice v))
    (at : ℕ → ℕ) (Reached : ℕ → Type 0) (IsInner : ℕ → Type 0) (S : ℕ → Type 0) (t : Environment ℕ)
    (won : (v : ℕ) → S v → winner v ≡ player b)
    (closed : (v w : ℕ) (x : Vertex) → S v → IsInner v → slice_get vertices v ≡ Some x → x.priority ≡ 0 → KeptEdge vertices winner choice v w → S w)
    (calls : (n : ℕ) → Reached n → S (at n) → t n ≡ b)
    (false_sink : S 0 → b ≡ false) (true_sink : S 1 → b ≡ true) where
  pub leaf-value : (l : Leaf) → LeafCalls Reached l → S (target at l) → leaf_truth t l ≡ b
  leaf-value Yes h s = sym (true_sink s)
  leaf-value No h s = sym (false_sink s)
  leaf-value Cut h s = sym (false_sink s)
  leaf-value (Call n) h s = calls n h s

  -- what is known of operands whose brackets' vertices begin at n
  pub record Values (f : Operands) (n : ℕ) : Type 0 where
    pub one : (w : ℕ) → Among (targets at f n) w → S w → operands_truth t (choosing b) f ≡ b
    pub all : ((w : ℕ) → Among (targets at f n) w → S w) → operands_truth t (choosing (not b)) f ≡ b

  -- the sink that an empty bracket leads to is in S only where the bracket has the value
  empty-value : (c : Junction) (v w : ℕ) → Among (bracket_successors at c End v) w → S w → neutral c ≡ b
  empty-value Disjunction v w (inl e) s = sym (false_sink (subst S (sym e) s))
  empty-value Disjunction v w (inr h) s = absurd h
  empty-value Conjunction v w (inl e) s = sym (true_sink (subst S (sym e) s))
  empty-value Conjunction v w (inr h) s = absurd h

  -- one successor in S, at the player's own bracket
  own : (f : Operands) (v : ℕ) → Values f v → (w : ℕ) → Among (bracket_successors at (choosing b) f v) w → S w → operands_truth t (choosing b) f ≡ b
  own End v values w h s = empty-value (choosing b) v w h s
  own (LeafThen l after) v values w h s = values.one w (among_from_rising (targets at (LeafThen l after) v) w h) s
  own (BracketThen c inside after) v values w h s = values.one w (among_from_rising (targets at (BracketThen c inside after) v) w h) s

  -- all successors in S, at the other player's
  others : (f : Operands) (v : ℕ) → Values f v → ((w : ℕ) → Among (bracket_successors at (choosing (not b)) f v) w → S w) → operands_truth t (choosing (not b)) f ≡ b
  others End v values h = neutral-choosing (not b) ∙ not-not b
  others (LeafThen l after) v values h = values.all (λ w among. h w (among_rising (targets at (LeafThen l after) v) w among))
  others (BracketThen c inside after) v values h = values.all (λ w among. h w (among_rising (targets at (BracketThen c inside after) v) w among))

  -- a bracket's vertex that the player wins, where all that its kept edges lead to is in S
  pub bracket-value : (c : Junction) (f : Operands) (v p : ℕ) → Values f (suc v) → slice_get vertices v ≡ Some (bracket_vertex at p c f (suc v)) →
      winner v ≡ player b → ((w : ℕ) → KeptEdge vertices winner choice v w → S w) → operands_truth t c f ≡ b
  bracket-value c f v p values stands wins kept = elim (connective_cases b c) [
    | inl mine ↦ by_choice mine
    | inr theirs ↦ by_all theirs
  ]
    where
      by_choice : c ≡ choosing b → operands_truth t c f ≡ b
      by_choice mine =
          let edge : Contains (bracket_successors at c f (suc v)) (choice v) = chosen v (bracket_vertex at p c f (suc v)) stands (ap owner_of mine ∙ (owner-choosing b ∙ sym wins)) in
          let s : S (choice v) = kept (choice v) (record { vertex = bracket_vertex at p c f (suc v); stands = stands; edge = edge; chosen = λ _. refl }) in
          let among : Among (bracket_successors at c f (suc v)) (choice v) = among_of_contains (bracket_successors at c f (suc v)) (choice v) edge in
          subst (λ j. operands_truth t j f ≡ b) (sym mine)
          (own f (suc v) values (choice v) (subst (λ j. Among (bracket_successors at j f (suc v)) (choice v)) mine among) s)

      by_all : c ≡ choosing (not b) → operands_truth t c f ≡ b
      by_all theirs =
          let all : (w : ℕ) → Among (bracket_successors at c f (suc v)) w → S w = λ w among.
          kept w (record {
            vertex = bracket_vertex at p c f (suc v);
            stands = stands;
            edge = contains_of_among (bracket_successors at c f (suc v)) w among;
            chosen = λ owned. absurd (owner-other b (sym (ap owner_of theirs) ∙ (owned ∙ wins)));
          }) in
          subst (λ j. operands_truth t j f ≡ b) (sym theirs)
          (others f (suc v) values (subst (λ j. (w : ℕ) → Among (bracket_successors at j f (suc v)) w → S w) theirs all))

  -- the vertices of f's brackets are inner ones
  abbrev pub AreInner : Operands → ℕ → Type 0
  AreInner f n = (k : ℕ) → n ≤ k → k < n + brackets f → IsInner k

  pub values : (f : Operands) (n : ℕ) → OperandsCall Reached f → AreInner f n → StandAt vertices n (inner_vertices at f n) → Values f n
  values End n h inner stand = record { one = λ w among s. absurd among; all = λ _. neutral-choosing (not b) ∙ not-not b }
  values (LeafThen l after) n h inner stand =
      let later : Values after n = values after n h.1 inner stand in
      record {
        one = λ w among s. elim among [
          | inl e ↦ joined_left b (leaf_truth t l) (operands_truth t (choosing b) after) (leaf-value l h.0 (subst S (sym e) s))
          | inr there ↦ joined_right b (leaf_truth t l) (operands_truth t (choosing b) after) (later.one w there s)
        ];
        all = λ s. joined_both b (leaf_truth t l) (operands_truth t (choosing (not b)) after) (leaf-value l h.0 (s (target at l) (inl refl))) (later.all (λ w among. s w (inr among)));
      }
  values (BracketThen c inside after) n h inner stand =
      let st : BracketStands vertices at c inside after n = bracket_stands vertices at c inside after n stand in
      let in_it : Values inside (suc n) = values inside (suc n) h.0 (λ k l m. inner k (omega arith) (omega arith)) st.within in
      let later : Values after (suc (n + brackets inside)) = values after (suc (n + brackets inside)) h.1 (λ k l m. inner k (omega arith) (omega arith)) st.behind in
      let value : S n → operands_truth t c inside ≡ b = λ s.
      bracket-value c inside n 0 in_it st.vertex (won n s) (λ w kept. closed n w (bracket_vertex at 0 c inside (suc n)) s (inner n (omega arith) (omega arith)) st.vertex refl kept) in
      record {
        one = λ w among s. elim among [
          | inl e ↦ joined_left b (operands_truth t c inside) (operands_truth t (choosing b) after) (value (subst S (sym e) s))
          | inr there ↦ joined_right b (operands_truth t c inside) (operands_truth t (choosing b) after) (later.one w there s)
        ];
        all = λ s. joined_both b (operands_truth t c inside) (operands_truth t (choosing (not b)) after) (value (s n (inl refl))) (later.all (λ w among. s w (inr among)));
      }
