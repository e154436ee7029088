-- Which instances of evidence rest on cut calls.
use Rattle.std.proofs.Common.{◌≡◌, ℕ, suc, ◌+◌, ◌<◌, ◌==◌, Bool, true, false, not, if◌then◌else◌, List, [], ◌∷◌, ◌++◌, length, get_or, map, take, refl, sym, ap, ◌∙◌, arith}
use Rattle.std.specs.Prelude.{replicate}
use Rattle.std.specs.Bool.{beq}
use Rattle.std.proofs.lemmas.List.{get_or-map, map_more}
use Rattle.std.proofs.lemmas.List.Elements.{All-get_or}
use Rattle.std.specs.List.Sorted.{IsPermutation}
use Rattle.std.proofs.lemmas.List.Sorted.{list_any-IsPermutation}
use Rattle.pb_fixpoint.specs.Solution.{Environment}
use Rattle.pb_game.specs.Adjacency.{row}
use Rattle.pb_fixpoint_trees.specs.declared.Token.{Token}
use Rattle.pb_fixpoint_trees.specs.declared.junction.Junction.{Junction}
use Rattle.pb_fixpoint_trees.specs.declared.junction.Junction.TheVariants.{Conjunction, Disjunction}
use Rattle.pb_fixpoint_trees.specs.Junctions.{joined}
use Rattle.pb_fixpoint_trees.specs.Tree.{Leaf, Yes, No, Cut, Call, Operands, End, LeafThen, BracketThen, Tree, Single, Root, leaf_truth, operands_truth, tree_truth}
use Rattle.pb_fixpoint_trees.specs.Tokens.{tree_tokens}
use Rattle.pb_fixpoint_trees.specs.Equations.{Signature}
use Rattle.pb_fixpoint_trees.specs.Row.{TokenRow, nothing}
use Rattle.pb_fixpoint_trees.specs.Reached.{numbers_of}
use Rattle.pb_game_of_trees.specs.TreeGame.{AreRowsFrom}
use Rattle.pb_evidence.specs.ProofGraphs.{exactly}
use Rattle.pb_evidence.specs.declared.Evidence.{Evidence}
use Rattle.pb_evidence.specs.Evidence.{graph_of, Shows}
use Rattle.pb_evidence.proofs.Finding.{contains_at}
use Rattle.pb_report.specs.Cuts.{uncut_leaf, uncut_operands, uncut, rests_on_cut, is_cut, cuts_of}

-- ---- true values

joined_true : (c : Junction) (x y x' y' : Bool) → (x ≡ true → x' ≡ true) → (y ≡ true → y' ≡ true) → joined c x y ≡ true → joined c x' y' ≡ true
joined_true Conjunction x y x' y' h k e = grind arith
joined_true Disjunction x y x' y' h k e = grind arith

module _ (t : Environment ℕ) where
  leaf_true : (l : Leaf) → leaf_truth t l ≡ true → leaf_truth t (uncut_leaf l) ≡ true
  leaf_true Yes e = refl
  leaf_true No e = e
  leaf_true Cut e = refl
  leaf_true (Call n) e = e

  operands_true : (c : Junction) (f : Operands) → operands_truth t c f ≡ true → operands_truth t c (uncut_operands f) ≡ true
  operands_true c End e = e
  operands_true c (LeafThen l after) e =
      joined_true c (leaf_truth t l) (operands_truth t c after) (leaf_truth t (uncut_leaf l)) (operands_truth t c (uncut_operands after))
      (leaf_true l) (operands_true c after) e
  operands_true c (BracketThen d inside after) e =
      joined_true c (operands_truth t d inside) (operands_truth t c after) (operands_truth t d (uncut_operands inside)) (operands_truth t c (uncut_operands after))
      (operands_true d inside) (operands_true c after) e

  -- what is true is so where cut calls are
  uncut_true : (tree : Tree) → tree_truth t tree ≡ true → tree_truth t (uncut tree) ≡ true
  uncut_true (Single l) e = leaf_true l e
  uncut_true (Root c f) e = operands_true c f e

true_rests : (b : Bool) (named : List ℕ) (tree : Tree) → b ≡ true → tree_truth (exactly b named) tree ≡ b → rests_on_cut b named tree ≡ false
true_rests b named tree e sufficient =
    let value = uncut_true (exactly b named) tree (sufficient ∙ e) in
    ap (λ (x : Bool). not (beq b x)) value ∙ ap (λ (x : Bool). not (beq x true)) e

all_false : (f : ℕ → Bool) (xs : List ℕ) → ((k : ℕ) → k < length xs → f (get_or xs k 0) ≡ false) → replicate (length xs) false ≡ map f xs
all_false f [] h = refl
all_false f (x ∷ xs) h =
    ap (λ (bs : List Bool). false ∷ bs) (all_false f xs (λ k l. h (suc k) (omega (arith, l))))
    ∙ ap (λ (b : Bool). b ∷ map f xs) (sym (h 0 (omega arith)))

pub true_values : (signatures : List Signature) (trees : ℕ → Tree) (initial : ℕ) (e : Evidence) → e.truth ≡ true → Shows signatures trees initial e
    → (n : ℕ) (bs : List Bool) → n ≡ length e.instances.items → bs ≡ replicate n false → bs ≡ cuts_of trees e
true_values signatures trees initial e is shown n bs count none =
    none
    ∙ (ap (λ (k : ℕ). replicate k false) count
    ∙ all_false (is_cut trees e) e.instances.items (λ k l.
    let m = get_or e.instances.items k 0 in
    true_rests e.truth ((graph_of e).dependencies m) (trees m) is (shown.graph.sufficient m (contains_at e.instances.items k l))))

-- ---- false ones, by their rows

exactly_sorted : (b : Bool) (named sorted : List ℕ) → IsPermutation named sorted → (n : ℕ) → exactly b sorted n ≡ exactly b named n
exactly_sorted b named sorted moved n =
    ap (λ (x : Bool). if x then b else not b) (sym (list_any-IsPermutation (λ (y : ℕ). y == n) named sorted moved))

module _ (s t : Environment ℕ) (same : (n : ℕ) → s n ≡ t n) where
  same_leaf : (l : Leaf) → leaf_truth s l ≡ leaf_truth t l
  same_leaf Yes = refl
  same_leaf No = refl
  same_leaf Cut = refl
  same_leaf (Call n) = same n

  same_operands : (c : Junction) (f : Operands) → operands_truth s c f ≡ operands_truth t c f
  same_operands c End = refl
  same_operands c (LeafThen l after) =
      ap (λ (x : Bool). joined c x (operands_truth s c after)) (same_leaf l) ∙ ap (joined c (leaf_truth t l)) (same_operands c after)
  same_operands c (BracketThen d inside after) =
      ap (λ (x : Bool). joined c x (operands_truth s c after)) (same_operands d inside) ∙ ap (joined c (operands_truth t d inside)) (same_operands c after)

  same_tree : (tree : Tree) → tree_truth s tree ≡ tree_truth t tree
  same_tree (Single l) = same_leaf l
  same_tree (Root c f) = same_operands c f

commuted : (x y : Bool) → not (beq x y) ≡ not (beq y x)
commuted true true = refl
commuted true false = refl
commuted false true = refl
commuted false false = refl

-- a tree was read with the named instances in rising order
pub read_cut : (b : Bool) (named : List ℕ) (value : Bool) (sorted : List ℕ) (tree : Tree) (found cut : Bool) → value ≡ b → IsPermutation named sorted
    → found ≡ tree_truth (exactly value sorted) (uncut tree) → cut ≡ not (beq found b) → cut ≡ rests_on_cut b named tree
read_cut b named value sorted tree found cut same moved is told =
    told
    ∙ (ap (λ (x : Bool). not (beq x b)) (is ∙ (ap (λ (v : Bool). tree_truth (exactly v sorted) (uncut tree)) same
    ∙ same_tree (exactly b sorted) (exactly b named) (exactly_sorted b named sorted moved) (uncut tree)))
    ∙ commuted (tree_truth (exactly b named) (uncut tree)) b)

module _ (signatures : List Signature) (trees : ℕ → Tree) (rows : List TokenRow) (initial : ℕ) (from : AreRowsFrom signatures trees rows initial)
    (e : Evidence) (shown : Shows signatures trees initial e) where
  -- the tokens at the row of the instance are those of its tree
  pub tokens_there : (numbers : List ℕ) (p n : ℕ) (tokens : List Token) → numbers ≡ numbers_of rows → p < length rows → get_or numbers p 0 ≡ n
      → tokens ≡ (get_or rows p nothing).tree → tokens ≡ tree_tokens (trees n)
  tokens_there numbers p n tokens listed within there read =
      let number : (get_or rows p nothing).number ≡ n =
      sym (get_or-map (λ (r : TokenRow). r.number) rows p nothing 0 within) ∙ (sym (ap (λ (ns : List ℕ). get_or ns p 0) listed) ∙ there) in
      read ∙ (All-get_or (λ (r : TokenRow). r.tree ≡ tree_tokens (trees r.number)) rows p nothing within from.are.of_trees
      ∙ ap (λ (k : ℕ). tree_tokens (trees k)) number)

  -- one more instance was judged
  pub one_more : (k : ℕ) → k < length e.instances.items → (bs : List Bool) (b : Bool) → bs ≡ map (is_cut trees e) (take k e.instances.items)
      → b ≡ rests_on_cut e.truth (row e.places.items e.dependencies.items k) (trees (get_or e.instances.items k 0))
      → bs ++ b ∷ [] ≡ map (is_cut trees e) (take (k + 1) e.instances.items)
  one_more k l bs b so_far is =
      let n = get_or e.instances.items k 0 in
      let judged : b ≡ is_cut trees e n = is ∙ ap (λ (list : List ℕ). rests_on_cut e.truth list (trees n)) (sym (shown.each k l)) in
      ap (λ (xs : List Bool). xs ++ b ∷ []) so_far
      ∙ (ap (λ (x : Bool). map (is_cut trees e) (take k e.instances.items) ++ x ∷ []) judged
      ∙ sym (map_more (is_cut trees e) e.instances.items k 0 l))
