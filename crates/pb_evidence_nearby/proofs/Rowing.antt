-- The rows of the nearest instances and of the frontier are those of a module's equations, with trees that are assumed.
use Rattle.std.proofs.Common.{◌≡◌, ℕ, ◌<◌, ◌≤◌, Bool, true, false, not, cond, List, [], ◌∷◌, All, length, map, get_or, inl, inr, refl, sym, ap, ◌∙◌, subst, arith}
use Rattle.std.specs.Prelude.{Contains}
use Rattle.std.specs.List.Sorted.{IsPermutation, IsStrictlyIncreasing}
use Rattle.std.proofs.lemmas.Bool.{cases_Bool, cond-true, cond-false}
use Rattle.std.proofs.lemmas.List.{get_or-take, get_or-map, length-map}
use Rattle.std.proofs.lemmas.List.Elements.{Contains-get_or}
use Rattle.pb_game.specs.Adjacency.{is_among}
use Rattle.pb_game.proofs.Membership.{contains_at, contains_place}
use Rattle.pb_fixpoint_trees.specs.declared.Token.{Token}
use Rattle.pb_fixpoint_trees.specs.Tree.{Tree, TreeCalls}
use Rattle.pb_fixpoint_trees.specs.Tokens.{tree_tokens}
use Rattle.pb_fixpoint_trees.specs.Equations.{total}
use Rattle.pb_fixpoint_trees.specs.Rows as plain
use Rattle.pb_fixpoint_trees.proofs.Members.{contains_of_among}
use Rattle.pb_bytecode.specs.Contents.{Contents}
use Rattle.pb_bytecode.specs.Meaning.{AreTrees, parameters, signature_of, initial_of}
use Rattle.pb_bytecode.proofs.InstanceCounts.{count_is_total}
use Rattle.pb_sorts.specs.Layout.{count_of}
use Rattle.pb_machine.specs.InstanceTree.{IsTreeAt}
use Rattle.pb_machine.specs.Reachable.{successors}
use Rattle.pb_machine.proofs.Successors.{tree_meant, successor_called}
use Rattle.pb_machine.proofs.TreeCalls.{each_tree}
use Rattle.pb_evidence.specs.AssumedGraphs.{leaf_tree, IsAssumed}
use Rattle.pb_evidence.proofs.Proving.{test_of, contained_of}
use Rattle.pb_exploration_reached.specs.Rows.{AreExploredRows}
use Rattle.pb_fixpoint_trees.specs.Row.{TokenRow, nothing, row_of_tokens}
use Rattle.pb_fixpoint_trees.specs.Reached.{numbers_of, row_of, rows_of}
use Rattle.pb_game_of_trees.specs.TreeGame.{AreRowsFrom}
use Rattle.pb_game_of_trees.proofs.Reached.{found_row}
use Rattle.pb_exploration_reached.specs.declared.nearby.Nearby.{Nearby}
use Rattle.pb_exploration_reached.specs.Nearby.{found_in, nearby_rows, IsNearby}
use Rattle.pb_evidence_nearby.specs.Around.{leaf_of, IsAround, AreAssumedRows}
use Rattle.pb_exploration_reached.proofs.Ordering.{numbered, numbered_back, reachable_found, row_number}

-- ---- leaves

leaf_tokens : (b : Bool) → leaf_of b ∷ [] ≡ tree_tokens (leaf_tree b)
leaf_tokens true = refl
leaf_tokens false = refl

leaf_calls_none : (P : ℕ → Type 0) (b : Bool) → TreeCalls P (leaf_tree b)
leaf_calls_none P true = tt
leaf_calls_none P false = tt

-- ---- rows and their places

module _ (m : Contents) (x : Nearby) (is : IsNearby m x) where
  one : (i j : ℕ) → i < length (found_in x) → j < length (found_in x) → get_or (found_in x) i 0 ≡ get_or (found_in x) j 0 → i ≡ j
  one i j li lj e = is.hashed.apart i j li lj e

  count : length (numbers_of (nearby_rows x)) ≡ length (nearby_rows x)
  count = length-map (nearby_rows x) (λ (r : TokenRow). r.number)

  -- where a number stands
  module _ (n k : ℕ) (below : k < length (found_in x)) (there : get_or (found_in x) k 0 ≡ n) where
    pub explored_row : k < length (nearby_rows x) → Contains (nearby_rows x) (row_of_tokens n (get_or (nearby_rows x) k nothing).tree)
    explored_row l =
        let number : (get_or (nearby_rows x) k nothing).number ≡ n = row_number m x is k l ∙ there in
        subst (λ (j : ℕ). Contains (nearby_rows x) (row_of_tokens j (get_or (nearby_rows x) k nothing).tree)) number (Contains-get_or (nearby_rows x) k nothing l)

    pub not_explored : length (nearby_rows x) ≤ k → Contains (numbers_of (nearby_rows x)) n → ⊥
    not_explored past c =
        let p = contains_place (numbers_of (nearby_rows x)) n c in
        let low : p.0 < length (nearby_rows x) = let l = p.1.within in omega (arith, l, count) in
        let of_found : get_or (found_in x) p.0 0 ≡ n =
        sym (get_or-take (length (nearby_rows x)) (found_in x) p.0 0 low) ∙ (ap (λ (ns : List ℕ). get_or ns p.0 0) (sym is.first) ∙ p.1.there) in
        let few = is.few in
        let same : p.0 ≡ k = one p.0 k (omega (arith, low, few)) below (of_found ∙ sym there) in
        omega (arith, same, low, past)

    pub explored_is : (b : Bool) → k < length (nearby_rows x) → (tokens : List Token) → tokens ≡ (get_or (nearby_rows x) k nothing).tree → IsAround x b (row_of_tokens n tokens)
    explored_is b l tokens e = inl (subst (λ (ts : List Token). Contains (nearby_rows x) (row_of_tokens n ts)) (sym e) (explored_row l))

    pub frontier_is : (b : Bool) → length (nearby_rows x) ≤ k → (leaf : Token) → leaf ≡ leaf_of (not b) → IsAround x b (row_of_tokens n (leaf ∷ []))
    frontier_is b past leaf e = inr (ap (λ (t : Token). t ∷ []) e, not_explored past)

  -- ---- the rows in order

  module _ (b : Bool) (rows : List TokenRow) (rising : IsStrictlyIncreasing (numbers_of rows)) (moved : IsPermutation (found_in x) (numbers_of rows)) (around : All (IsAround x b) rows) where
    explored_number : (r : TokenRow) → Contains (nearby_rows x) r → Contains (numbers_of (nearby_rows x)) r.number
    explored_number r c =
        let k = c.0 in
        let l = c.1 in
        (k, omega (arith, l, count), get_or-map (λ (z : TokenRow). z.number) (nearby_rows x) k r r.number l ∙ ap (λ (z : TokenRow). z.number) c.2)

    module _ (trees : ℕ → Tree) (are : AreTrees m trees) (assumed : ℕ → Tree)
        (known : (n : ℕ) → Contains (numbers_of (nearby_rows x)) n → assumed n ≡ trees n)
        (others : (n : ℕ) → Contains (numbers_of rows) n → (¬ Contains (numbers_of (nearby_rows x)) n) → assumed n ≡ leaf_tree (not b)) where
      tree_of : (r : TokenRow) → Contains (numbers_of rows) r.number → IsAround x b r → r.tree ≡ tree_tokens (assumed r.number)
      tree_of r c (inl explored) =
          tree_meant m r.number r.tree (subst (λ (z : TokenRow). IsTreeAt m z.number z.tree) explored.2 (is.trees explored.0 r explored.1)) trees are
          ∙ ap tree_tokens (sym (known r.number (explored_number r explored)))
      tree_of r c (inr leaf) = leaf.0 ∙ (leaf_tokens (not b) ∙ ap tree_tokens (sym (others r.number c leaf.1)))

      reached : (n : ℕ) → Contains (found_in x) n → plain.IsReached (rows_of assumed rows) n
      reached n c = found_row assumed rows n (numbered x rows moved n c)

      calls_of : (r : TokenRow) → Contains (numbers_of rows) r.number → IsAround x b r → TreeCalls (plain.IsReached (rows_of assumed rows)) (assumed r.number)
      calls_of r c (inl explored) =
          subst (TreeCalls (plain.IsReached (rows_of assumed rows))) (sym (known r.number (explored_number r explored)))
          (each_tree (plain.IsReached (rows_of assumed rows)) (trees r.number) (λ k a.
          let tree = subst (λ (z : TokenRow). IsTreeAt m z.number z.tree) explored.2 (is.trees explored.0 r explored.1) in
          reached k (is.closed r explored k (successor_called m r.number r.tree tree trees are k (contains_of_among (successors trees r.number) k a)))))
      calls_of r c (inr leaf) =
          subst (TreeCalls (plain.IsReached (rows_of assumed rows))) (sym (others r.number c leaf.1)) (leaf_calls_none (plain.IsReached (rows_of assumed rows)) (not b))

      number_there : (k : ℕ) (r : TokenRow) → k < length rows → Contains (numbers_of rows) (get_or rows k r).number
      number_there k r l = (k, omega (arith, l, length-map rows (λ (z : TokenRow). z.number)), get_or-map (λ (z : TokenRow). z.number) rows k r (get_or rows k r).number l)

      -- a row of the system is one of these
      record IsFrom (row : plain.Row) : Type 0 where
        from : TokenRow
        listed : Contains (numbers_of rows) from.number
        is_around : IsAround x b from
        same : row_of assumed from ≡ row

      from_rows : (row : plain.Row) → Contains (rows_of assumed rows) row → IsFrom row
      from_rows row c =
          let k = c.0 in
          let less = c.1 in
          let l : k < length rows = omega (arith, less, length-map rows (row_of assumed)) in
          record {
            from = get_or rows k nothing;
            listed = number_there k nothing l;
            is_around = around k nothing l;
            same = sym (get_or-map (row_of assumed) rows k nothing row l) ∙ c.2;
          }

      pub assumed_rows : AreRowsFrom (map signature_of m.equations) assumed rows (initial_of m)
      assumed_rows = record {
        are = record {
          rising = rising;
          of_trees = λ k d l. tree_of (get_or rows k d) (number_there k d l) (around k d l);
          system = record {
            of_trees = λ row c. let f = from_rows row c in sym (ap (λ (z : plain.Row). z.tree) f.same) ∙ ap (λ (z : plain.Row). assumed z.number) f.same;
            closed = λ row c.
                let f = from_rows row c in
                subst (λ (z : plain.Row). TreeCalls (plain.IsReached (rows_of assumed rows)) z.tree) f.same (calls_of f.from f.listed f.is_around);
            below = λ row c.
                let f = from_rows row c in
                let inside = is.inside f.from.number (numbered_back x rows moved f.from.number f.listed) in
                let all : count_of (parameters m) ≡ total (map signature_of m.equations) = count_is_total m in
                subst (λ (z : plain.Row). z.number < total (map signature_of m.equations)) f.same (omega (arith, inside, all));
          };
        };
        found = numbered x rows moved (initial_of m) is.initial;
      }

    -- the explored rows have their own trees, and all others the leaf
    abbrev pub guess : (ℕ → Tree) → ℕ → Tree
    guess trees n = cond (is_among (numbers_of (nearby_rows x)) n) (trees n) (leaf_tree (not b))

    guessed : (trees : ℕ → Tree) (n : ℕ) → IsAssumed trees (guess trees) b n
    guessed trees n = elim (cases_Bool (is_among (numbers_of (nearby_rows x)) n)) [
      | inl yes' ↦ inl (cond-true (is_among (numbers_of (nearby_rows x)) n) (trees n) (leaf_tree (not b)) yes')
      | inr no' ↦ inr (cond-false (is_among (numbers_of (nearby_rows x)) n) (trees n) (leaf_tree (not b)) no')
    ]

    pub are_assumed : AreAssumedRows m b rows
    are_assumed trees are = (
      guess trees,
      guessed trees,
      assumed_rows trees are (guess trees)
          (λ n c. cond-true (is_among (numbers_of (nearby_rows x)) n) (trees n) (leaf_tree (not b)) (test_of (numbers_of (nearby_rows x)) n c))
          (λ n _ not_there. elim (cases_Bool (is_among (numbers_of (nearby_rows x)) n)) [
            | inl yes' ↦ absurd (not_there (contained_of (numbers_of (nearby_rows x)) n yes'))
            | inr no' ↦ cond-false (is_among (numbers_of (nearby_rows x)) n) (trees n) (leaf_tree (not b)) no'
          ]),
    )

    -- where nothing is left, the rows are those of all reached instances
    pub are_whole : length (nearby_rows x) ≡ length (found_in x) → AreExploredRows m rows
    are_whole all trees are =
        let from = assumed_rows trees are trees (λ n c. refl)
        (λ n c not_there. absurd (not_there
        (let at = contains_place (found_in x) n (numbered_back x rows moved n c) in
        let l : at.0 < length (nearby_rows x) = let w = at.1.within in omega (arith, w, all) in
        let here : get_or (numbers_of (nearby_rows x)) at.0 0 ≡ n =
        ap (λ (ns : List ℕ). get_or ns at.0 0) is.first ∙ (get_or-take (length (nearby_rows x)) (found_in x) at.0 0 l ∙ at.1.there) in
        contains_at (numbers_of (nearby_rows x)) n at.0 (record { within = omega (arith, l, count); there = here })))) in
        record {
          rising = rising;
          all = λ n r. numbered x rows moved n (reachable_found m x is all trees are n r);
          only = λ n c. is.reachable trees are n (numbered_back x rows moved n c);
          of_trees = from.are.of_trees;
          system = from.are.system;
        }
