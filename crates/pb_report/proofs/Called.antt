-- The instances of evidence are those of rows that are closed under calls.
use Rattle.std.proofs.Common.{◌≡◌, ℕ, zero, suc, ◌<◌, Bool, true, false, List, [], ◌∷◌, ◌++◌, length, get_or, inl, inr, sym, ap, ◌∙◌, subst, arith}
use Rattle.std.specs.Prelude.{Contains}
use Rattle.std.proofs.lemmas.List.{get_or-map, length-map}
use Rattle.std.proofs.lemmas.List.Elements.{Contains-append_cases}
use Rattle.pb_fixpoint_trees.specs.declared.junction.Junction.{Junction}
use Rattle.pb_fixpoint_trees.specs.declared.junction.Junction.TheVariants.{Conjunction, Disjunction}
use Rattle.pb_fixpoint_trees.specs.Tree.{Leaf, Yes, No, Cut, Call, Operands, End, LeafThen, BracketThen, Tree, Single, Root, LeafCalls, OperandsCall, TreeCalls}
use Rattle.pb_fixpoint_trees.specs.Equations.{Signature}
use Rattle.pb_fixpoint_trees.specs.Rows as plain
use Rattle.pb_fixpoint_trees.specs.Row.{TokenRow, nothing}
use Rattle.pb_fixpoint_trees.specs.Reached.{numbers_of, row_of, rows_of}
use Rattle.pb_game_of_trees.specs.TreeGame.{AreRowsFrom}
use Rattle.pb_game_of_trees.proofs.Reached.{found_row}
use Rattle.pb_evidence.specs.ProofGraphs.{RestsOn, RestsThrough}
use Rattle.pb_evidence.specs.Supports.{IsLeafSupport, IsJoined, IsOperandsSupport, IsTreeSupport}
use Rattle.pb_evidence.specs.declared.Evidence.{Evidence}
use Rattle.pb_evidence.specs.Evidence.{graph_of, Shows}

module _ (P : ℕ → Type 0) (b : Bool) where
  -- P holds of each of the calls
  abbrev Hold : List ℕ → Type 0
  Hold calls = (m : ℕ) → Contains calls m → P m

  none_called : (calls : List ℕ) → calls ≡ [] → Hold calls
  none_called calls e m h = absurd (omega (arith, h.1, ap length e))

  one_called : (n : ℕ) (calls : List ℕ) → calls ≡ n ∷ [] → P n → Hold calls
  one_called n calls e holds m h =
      let at = subst (λ (xs : List ℕ). Contains xs m) e h in
      let less = at.1 in
      let first : at.0 ≡ 0 = omega (arith, less) in
      subst P (sym (ap (λ (k : ℕ). get_or (n ∷ []) k m) first) ∙ at.2) holds

  leaf_called : (l : Leaf) (calls : List ℕ) → IsLeafSupport b l calls → LeafCalls P l → Hold calls
  leaf_called Yes calls is holds m h = none_called calls is.1 m h
  leaf_called No calls is holds m h = none_called calls is.1 m h
  leaf_called Cut calls is holds m h = none_called calls is.1 m h
  leaf_called (Call n) calls is holds m h = one_called n calls is holds m h

  both_called : (xs ys calls : List ℕ) → calls ≡ xs ++ ys → Hold xs → Hold ys → Hold calls
  both_called xs ys calls e one other m h = elim (Contains-append_cases xs ys m (subst (λ (zs : List ℕ). Contains zs m) e h)) [
    | inl left ↦ one m left
    | inr right ↦ other m right
  ]

joined_called : (P : ℕ → Type 0) (b : Bool) (c : Junction) (One Other : List ℕ → Type 0) →
    ((xs : List ℕ) → One xs → Hold P b xs) → ((ys : List ℕ) → Other ys → Hold P b ys) →
    (calls : List ℕ) → IsJoined b c One Other calls → Hold P b calls
joined_called P true Disjunction One Other one other calls (inl h) = one calls h
joined_called P true Disjunction One Other one other calls (inr h) = other calls h
joined_called P false Conjunction One Other one other calls (inl h) = one calls h
joined_called P false Conjunction One Other one other calls (inr h) = other calls h
joined_called P true Conjunction One Other one other calls h = both_called P true h.0 h.1 calls h.4 (one h.0 h.2) (other h.1 h.3)
joined_called P false Disjunction One Other one other calls h = both_called P false h.0 h.1 calls h.4 (one h.0 h.2) (other h.1 h.3)

module _ (P : ℕ → Type 0) (b : Bool) where
  operands_called : (c : Junction) (f : Operands) → OperandsCall P f → (calls : List ℕ) → IsOperandsSupport b c f calls → Hold P b calls
  operands_called c End holds calls is = none_called P b calls is.1
  operands_called c (LeafThen l after) holds calls is =
      joined_called P b c (IsLeafSupport b l) (IsOperandsSupport b c after)
      (λ xs one. leaf_called P b l xs one holds.0) (λ ys other. operands_called c after holds.1 ys other) calls is
  operands_called c (BracketThen d inside after) holds calls is =
      joined_called P b c (IsOperandsSupport b d inside) (IsOperandsSupport b c after)
      (λ xs one. operands_called d inside holds.0 xs one) (λ ys other. operands_called c after holds.1 ys other) calls is

  tree_called : (tree : Tree) → TreeCalls P tree → (calls : List ℕ) → IsTreeSupport b tree calls → Hold P b calls
  tree_called (Single l) holds calls is = leaf_called P b l calls is holds
  tree_called (Root c f) holds calls is = operands_called c f holds calls is

-- a reached row by its number
number_reached : (trees : ℕ → Tree) (rows : List TokenRow) (n : ℕ) → plain.IsReached (rows_of trees rows) n → Contains (numbers_of rows) n
number_reached trees rows n found =
    let k = found.1.0 in
    let l : k < length rows = omega (arith, found.1.1, length-map rows (row_of trees)) in
    let there = sym (get_or-map (row_of trees) rows k nothing found.0 l) ∙ found.1.2 in (
      k,
      omega (arith, l, length-map rows (λ (r : TokenRow). r.number)),
      get_or-map (λ (r : TokenRow). r.number) rows k nothing n l ∙ (ap (λ (r : plain.Row). r.number) there ∙ found.2),
    )

module _ (signatures : List Signature) (trees : ℕ → Tree) (rows : List TokenRow) (initial : ℕ) (from : AreRowsFrom signatures trees rows initial)
    (e : Evidence) (shown : Shows signatures trees initial e) where
  abbrev IsRow : ℕ → Type 0
  IsRow = plain.IsReached (rows_of trees rows)

  rests_within : (n m : ℕ) → IsRow n → RestsOn (graph_of e) n m → IsRow m
  rests_within n m reached rests =
      let row = reached.0 in
      let calls = from.are.system.closed row reached.1 in
      let tree : row.tree ≡ trees n = from.are.system.of_trees row reached.1 ∙ ap trees reached.2 in
      let support = shown.choices n rests.0 in
      tree_called IsRow e.truth (trees n) (subst (TreeCalls IsRow) tree calls) support.0 support.1 m ((support.2 m).1 rests.1)

  leads_within : (over : List ℕ) (n m : ℕ) → IsRow n → RestsThrough (graph_of e) n over m → IsRow m
  leads_within [] n m reached leads = rests_within n m reached leads
  leads_within (x ∷ xs) n m reached leads = leads_within xs x m (rests_within n x reached leads.0) leads.1

  instance_reached : (k : ℕ) → k < length e.instances.items → IsRow (get_or e.instances.items k 0)
  instance_reached zero l = subst IsRow (sym shown.first) (found_row trees rows initial from.found)
  instance_reached (suc k) l =
      let path = shown.nearest.reached (suc k) (omega arith) l in
      leads_within path.0 (get_or e.instances.items 0 0) (get_or e.instances.items (suc k) 0)
      (subst IsRow (sym shown.first) (found_row trees rows initial from.found)) path.1

  -- each instance has a row
  pub instance_listed : (k : ℕ) → k < length e.instances.items → Contains (numbers_of rows) (get_or e.instances.items k 0)
  instance_listed k l = number_reached trees rows (get_or e.instances.items k 0) (instance_reached k l)
