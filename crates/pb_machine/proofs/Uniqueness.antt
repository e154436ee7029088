-- A module means one tree for each instance, and has one answer.
use Rattle.std.proofs.Common.{◌≡◌, ◌<◌, ◌≤◌, ◌+◌, ℕ, Bool, false, ◌&&◌, List, [], ◌∷◌, ◌++◌, map, Option, Some, None, refl, sym, ap, ◌∙◌, subst, ⊎_elim, if◌then◌else◌, arith}
use Rattle.std.specs.Prelude.{nat_le, nat_lt, slice_get}
use Rattle.std.proofs.lemmas.Bool.{cases_lt, lt-ltb, le-ltb, ltb-true}
use Rattle.std.proofs.lemmas.Option.{slice_get-get_or}
use Rattle.pb_fixpoint.specs.Solution.{Environment, assign, empty, solution, value_of}
use Rattle.pb_fixpoint.specs.Transfer.{AreSame}
use Rattle.pb_fixpoint.proofs.Transfer.{solution-matches}
use Rattle.pb_fixpoint_trees.specs.declared.Token.{Token}
use Rattle.pb_fixpoint_trees.specs.declared.junction.Junction.{Junction}
use Rattle.pb_fixpoint_trees.specs.Junctions.{joined}
use Rattle.pb_fixpoint_trees.specs.Tree.{Leaf, Yes, No, Cut, Call, Operands, End, LeafThen, BracketThen, Tree, Single, Root, LeafCalls, OperandsCall, TreeCalls, leaf_truth, operands_truth, tree_truth}
use Rattle.pb_fixpoint_trees.specs.Equations.{Signature, equation, numbered, solved, total}
use Rattle.pb_fixpoint_trees.specs.Laws.{TokensAreOneTree}
use Rattle.pb_fixpoint_trees.proofs.Calls.{tree_weaker}
use Rattle.pb_sorts.specs.Instance.{Instance, instances}
use Rattle.pb_sorts.specs.Layout.{carriers_of, count_of}
use Rattle.pb_sorts.proofs.Numbers.{number-is_instance, number_of-slice_get}
use Rattle.std.proofs.lemmas.Option.{slice_get_within}
use Rattle.std.proofs.Math.Bool.{and-false}
use Rattle.pb_bytecode_program.specs.Safety.{IsInstance}
use Rattle.pb_bytecode.specs.Contents.{EquationContents, Contents}
use Rattle.pb_bytecode.specs.Meaning.{AreTrees, answer, initial_of, number_at, parameters, program_of, signature_of}
use Rattle.pb_bytecode.proofs.InstanceCounts.{count_is_total}
use Rattle.pb_machine.proofs.ModuleInstances.{equation_of, tree_same}

-- ---- trees whose calls are true alike, are true alike

module _ (u v : Environment ℕ) where
  abbrev Alike : ℕ → Type 0
  Alike k = u k ≡ v k

  leaf_alike : (l : Leaf) → LeafCalls Alike l → leaf_truth u l ≡ leaf_truth v l
  leaf_alike Yes h = refl
  leaf_alike No h = refl
  leaf_alike Cut h = refl
  leaf_alike (Call n) h = h

  operands_alike : (c : Junction) (o : Operands) → OperandsCall Alike o → operands_truth u c o ≡ operands_truth v c o
  operands_alike c End h = refl
  operands_alike c (LeafThen leaf after) h = ap (λ b. joined c b (operands_truth u c after)) (leaf_alike leaf h.0) ∙ ap (joined c (leaf_truth v leaf)) (operands_alike c after h.1)
  operands_alike c (BracketThen d inside after) h =
      ap (λ b. joined c b (operands_truth u c after)) (operands_alike d inside h.0)
      ∙ ap (joined c (operands_truth v d inside)) (operands_alike c after h.1)

  tree_alike : (t : Tree) → TreeCalls Alike t → tree_truth u t ≡ tree_truth v t
  tree_alike (Single leaf) h = leaf_alike leaf h
  tree_alike (Root c operands) h = operands_alike c operands h

-- ---- a number that no equation owns stays as it was

not_owned : (first size n : ℕ) → first + size ≤ n → (nat_le first n && nat_lt n (first + size)) ≡ false
not_owned first size n past = rw (le-ltb n (first + size) past) (and-false (nat_le first n))

untouched : (first : ℕ) (signatures : List Signature) (trees : ℕ → Tree) (t : Environment ℕ) (n : ℕ) → first + total signatures ≤ n → solution (numbered first signatures trees) t n ≡ t n
untouched first [] trees t n past = refl
untouched first (s ∷ signatures) trees t n past =
    let X = equation first s trees in
    let E = numbered (first + s.size) signatures trees in
    untouched (first + s.size) signatures trees (assign t X (value_of X E t)) n (omega arith)
    ∙ ap (λ (b : Bool). if b then value_of X E t n else t n) (not_owned first s.size n (omega arith))

module _ (one_tree : TokensAreOneTree) (m : Contents) (s t : ℕ → Tree) (first : AreTrees m s) (second : AreTrees m t) where
  there : (n : ℕ) → n < count_of (parameters m) → (i : Instance) × (slice_get (instances (carriers_of (parameters m))) n ≡ Some i)
  there n inside = by (slice_get (instances (carriers_of (parameters m))) n) refl
    where
      none : slice_get (instances (carriers_of (parameters m))) n ≡ None → (i : Instance) × (slice_get (instances (carriers_of (parameters m))) n ≡ Some i)
      none e = absurd (let d : Instance = record { equation = 0; values = [] } in let f = slice_get-get_or (instances (carriers_of (parameters m))) n d inside in cc)

      by : (o : Option Instance) → slice_get (instances (carriers_of (parameters m))) n ≡ o → (i : Instance) × (slice_get (instances (carriers_of (parameters m))) n ≡ Some i)
      by None e = none e
      by (Some i) e = (i, e)

  pub tree_is_one : (n : ℕ) → n < count_of (parameters m) → s n ≡ t n
  tree_is_one n inside =
      let h = there n inside in
      let f = equation_of m n h.0 h.1 in
      let number : n ≡ number_at m h.0.equation h.0.values = number_of-slice_get (parameters m) n h.0 h.1 in
      let same = tree_same (program_of m f.equation) h.0.values _ _ (first h.0.equation f.equation h.0.values f.declared f.within) (second h.0.equation f.equation h.0.values f.declared f.within) in
      let one = one_tree (s (number_at m h.0.equation h.0.values)) (t (number_at m h.0.equation h.0.values)) [] [] (ap (λ (l : List Token). l ++ []) same) in
      ap s number ∙ one.0 ∙ sym (ap t number)

  -- the calls of an instance's tree are instances
  calls_inside : (n : ℕ) → n < count_of (parameters m) → TreeCalls (λ k. k < count_of (parameters m)) (t n)
  calls_inside n inside =
      let h = there n inside in
      let f = equation_of m n h.0 h.1 in
      let number : n ≡ number_at m h.0.equation h.0.values = number_of-slice_get (parameters m) n h.0 h.1 in
      let calls = (second h.0.equation f.equation h.0.values f.declared f.within).calls in
      subst (λ k. TreeCalls (λ j. j < count_of (parameters m)) (t k)) (sym number)
      (tree_weaker (IsInstance (program_of m f.equation)) (λ k. k < count_of (parameters m)) (instance_inside f.equation) (t (number_at m h.0.equation h.0.values)) calls)
    where
      instance_inside : (e : EquationContents) (k : ℕ) → IsInstance (program_of m e) k → k < count_of (parameters m)
      instance_inside e k i =
          let found = number-is_instance (carriers_of (parameters m)) i.instance i.declared in
          let same : found.number ≡ k = number_of-slice_get (parameters m) found.number i.instance found.at ∙ sym i.numbered in
          subst (λ x. x < count_of (parameters m)) same (slice_get_within (instances (carriers_of (parameters m))) found.number i.instance found.at)

  -- the equations are the same at the instances
  abbrev known : ℕ → Bool
  known n = nat_lt n (count_of (parameters m))

  same_from : (first : ℕ) (signatures : List Signature) → AreSame known (λ n. n) (numbered first signatures s) (numbered first signatures t)
  same_from first [] = tt
  same_from first (x ∷ signatures) = (
    record {
      sign = refl;
      size = refl;
      owns = λ n k. refl;
      holds = λ u v match n k.
          let inside = ltb-true n (count_of (parameters m)) k in
          tree_alike v u (t n) (tree_weaker (λ j. j < count_of (parameters m)) (Alike v u) (λ j below. match j (lt-ltb j (count_of (parameters m)) below)) (t n) (calls_inside n inside))
          ∙ sym (ap (tree_truth u) (tree_is_one n inside));
    },
    same_from (first + x.size) signatures,
  )

  solved_alike : (n : ℕ) → solved (map signature_of m.equations) s n ≡ solved (map signature_of m.equations) t n
  solved_alike n = ⊎_elim
      (λ (inside : n < count_of (parameters m)).
      sym (solution-matches ℕ ℕ known (λ j. j) (numbered 0 (map signature_of m.equations) s)
      (numbered 0 (map signature_of m.equations) t) (same_from 0 (map signature_of m.equations)) empty empty
      (λ j k. refl) n (lt-ltb n (count_of (parameters m)) inside)))
      (λ (past : count_of (parameters m) ≤ n).
      let outside : 0 + total (map signature_of m.equations) ≤ n = omega (arith, past, count_is_total m) in
      untouched 0 (map signature_of m.equations) s empty n outside ∙ sym (untouched 0 (map signature_of m.equations) t empty n outside))
      (cases_lt n (count_of (parameters m)))

  pub answer_is_one : answer m s ≡ answer m t
  answer_is_one = solved_alike (initial_of m)
