-- Reading the tokens of a tree gives its truth with cut calls true.
use Rattle.std.proofs.Common.{◌≡◌, ℕ, Bool, true, false, ◌&&◌, ◌||◌, List, [], ◌∷◌, ◌++◌, reverse, refl, sym, ap, ◌∙◌}
use Rattle.std.proofs.Math.Bool.{and-true, and_assoc, or_assoc}
use Rattle.std.proofs.lemmas.List.{append_assoc}
use Rattle.pb_fixpoint.specs.Solution.{Environment}
use Rattle.pb_fixpoint_trees.specs.declared.Token.{Token}
use Rattle.pb_fixpoint_trees.specs.declared.Token.TheVariants as token
use Rattle.pb_fixpoint_trees.specs.declared.junction.Junction.{Junction}
use Rattle.pb_fixpoint_trees.specs.declared.junction.Junction.TheVariants.{Conjunction, Disjunction}
use Rattle.pb_fixpoint_trees.specs.Tree.{Leaf, Yes, No, Cut, Call, Operands, End, LeafThen, BracketThen, Tree, Single, Root, leaf_truth, operands_truth, tree_truth}
use Rattle.pb_fixpoint_trees.specs.Tokens.{opening, leaf_token, operands_tokens, tree_tokens}
use Rattle.pb_report.specs.declared.tree_truth.Bracket.{Bracket}
use Rattle.pb_report.specs.declared.tree_truth.Bracket.TheVariants.{All, Any}
use Rattle.pb_report.specs.declared.tree_truth.Reading.{Reading}
use Rattle.pb_report.specs.Cuts.{uncut_leaf, uncut_operands, uncut}
use Rattle.pb_report.specs.Reading.{bracket_truth, with_operand, read, read_on}

-- a bracket before its first operand
abbrev started : Junction → Bracket
started Conjunction = All true
started Disjunction = Any false

or-false : (x : Bool) → (x || false) ≡ x
or-false true = refl
or-false false = refl

module _ (t : Environment ℕ) where
  -- with all these operands
  abbrev after : Bracket → Operands → Bracket
  after (All x) f = All (x && operands_truth t Conjunction (uncut_operands f))
  after (Any x) f = Any (x || operands_truth t Disjunction (uncut_operands f))

  after_none : (b : Bracket) → after b End ≡ b
  after_none (All x) = ap All (and-true x)
  after_none (Any x) = ap Any (or-false x)

  after_leaf : (b : Bracket) (l : Leaf) (f : Operands) → after (with_operand b (leaf_truth t (uncut_leaf l))) f ≡ after b (LeafThen l f)
  after_leaf (All x) l f = ap All (and_assoc x (leaf_truth t (uncut_leaf l)) (operands_truth t Conjunction (uncut_operands f)))
  after_leaf (Any x) l f = ap Any (or_assoc x (leaf_truth t (uncut_leaf l)) (operands_truth t Disjunction (uncut_operands f)))

  started_truth : (c : Junction) (f : Operands) → bracket_truth (after (started c) f) ≡ operands_truth t c (uncut_operands f)
  started_truth Conjunction f = refl
  started_truth Disjunction f = refl

  after_bracket : (b : Bracket) (c : Junction) (inside f : Operands) →
      after (with_operand b (bracket_truth (after (started c) inside))) f ≡ after b (BracketThen c inside f)
  after_bracket (All x) c inside f =
      ap (λ (y : Bool). All (x && y && operands_truth t Conjunction (uncut_operands f))) (started_truth c inside)
      ∙ ap All (and_assoc x (operands_truth t c (uncut_operands inside)) (operands_truth t Conjunction (uncut_operands f)))
  after_bracket (Any x) c inside f =
      ap (λ (y : Bool). Any (x || y || operands_truth t Disjunction (uncut_operands f))) (started_truth c inside)
      ∙ ap Any (or_assoc x (operands_truth t c (uncut_operands inside)) (operands_truth t Disjunction (uncut_operands f)))

  read_leaf : (l : Leaf) (b : Bracket) (outer : List Bracket) (rest : List Token) →
      read t b outer (leaf_token l ∷ rest) ≡ read t (with_operand b (leaf_truth t (uncut_leaf l))) outer rest
  read_leaf Yes b outer rest = refl
  read_leaf No b outer rest = refl
  read_leaf Cut b outer rest = refl
  read_leaf (Call n) b outer rest = refl

  read_opening : (c : Junction) (b : Bracket) (outer : List Bracket) (rest : List Token) →
      read t b outer (opening c ∷ rest) ≡ read t (started c) (b ∷ outer) rest
  read_opening Conjunction b outer rest = refl
  read_opening Disjunction b outer rest = refl

  read_operands : (f : Operands) (b : Bracket) (outer : List Bracket) (rest : List Token) →
      read t b outer (operands_tokens f ++ rest) ≡ read t (after b f) outer rest
  read_operands End b outer rest = ap (λ (x : Bracket). read t x outer rest) (sym (after_none b))
  read_operands (LeafThen l f) b outer rest =
      read_leaf l b outer (operands_tokens f ++ rest)
      ∙ (read_operands f (with_operand b (leaf_truth t (uncut_leaf l))) outer rest
      ∙ ap (λ (x : Bracket). read t x outer rest) (after_leaf b l f))
  read_operands (BracketThen c inside f) b outer rest =
      read_opening c b outer ((operands_tokens inside ++ token.Close ∷ operands_tokens f) ++ rest)
      ∙ (ap (read t (started c) (b ∷ outer)) (append_assoc (operands_tokens inside) (token.Close ∷ operands_tokens f) rest)
      ∙ (read_operands inside (started c) (b ∷ outer) (token.Close ∷ (operands_tokens f ++ rest))
      ∙ (read_operands f (with_operand b (bracket_truth (after (started c) inside))) outer rest
      ∙ ap (λ (x : Bracket). read t x outer rest) (after_bracket b c inside f))))

  pub read_tree : (tree : Tree) → read t (Any false) [] (tree_tokens tree) ≡ tree_truth t (uncut tree)
  read_tree (Single l) = read_leaf l (Any false) [] []
  read_tree (Root c f) =
      read_opening c (Any false) [] (operands_tokens f ++ token.Close ∷ [])
      ∙ (read_operands f (started c) (Any false ∷ []) (token.Close ∷ []) ∙ started_truth c f)

  -- all tokens were read, from no open bracket on
  pub read_to_end : (r : Reading) (tokens left : List Token) (none : List Bracket) (truth : Bool) → left ≡ [] → none ≡ []
      → read_on t r left ≡ read t (Any false) (reverse none) tokens → truth ≡ bracket_truth r.inner
      → (tree : Tree) → tokens ≡ tree_tokens tree → truth ≡ tree_truth t (uncut tree)
  read_to_end r tokens left none truth over empty so_far is tree spelled =
      is
      ∙ (sym (ap (read_on t r) over)
      ∙ (so_far
      ∙ (ap (λ (xs : List Bracket). read t (Any false) (reverse xs) tokens) empty
      ∙ (ap (read t (Any false) []) spelled ∙ read_tree tree))))
