-- The code of an equation ends with one tree that has the formula's truth.
use Rattle.std.proofs.Common.{◌≡◌, ℕ, zero, suc, ◌+◌, List, [], ◌∷◌, ◌++◌, refl, sym, ap, ◌∙◌, subst, arith, append-nil}
use Rattle.pb_fixpoint.specs.Solution.{Environment}
use Rattle.pb_base_values.specs.Carrier.{Tuple}
use Rattle.pb_fixpoint_trees.specs.declared.Token.{Token}
use Rattle.pb_fixpoint_trees.specs.declared.Token.TheVariants as token
use Rattle.pb_fixpoint_trees.specs.Tree.{Tree, Root, tree_truth}
use Rattle.pb_fixpoint_trees.specs.Tokens.{opening, tree_tokens}
use Rattle.pb_fixpoint_trees.specs.Laws.{TokensAreOneTree}
use Rattle.pb_text_meaning.specs.Syntax.{Spec}
use Rattle.pb_bytecode_program.specs.Values.{TaggedValue}
use Rattle.pb_bytecode_program.specs.Machine
use Rattle.pb_bytecode_program.specs.Machine.{Program, State, Outcome, Continues, Ends, Faults, MachineFault, run, start}
use Rattle.pb_bytecode_program.specs.Counts.{static_steps}
use Rattle.pb_bytecode_program.specs.Safety.{AreArguments, arguments, EndsWith}
use Rattle.pb_bytecode_program.specs.declared.instruction.Op.{Op}
use Rattle.pb_bytecode_program.specs.declared.instruction.Op.TheVariants as op
use Rattle.pb_bytecode_program.proofs.Trees.{longer}
use Rattle.pb_normal.specs.Normal.{Formula, Slots}
use Rattle.pb_normal.specs.Answer.{slots_of}
use Rattle.pb_assembler_scheme.specs.Pieces.{HasPieceAt}
use Rattle.pb_assembler_scheme.specs.Scheme.{head, formula_piece, equation_piece, equation_code}
use Rattle.pb_assembler_scheme.specs.Correct.{IsCompiled, HasFullCalls, Declares, IsFaultless, TreeHasTruth, Decides}
use Rattle.pb_assembler_scheme.proofs.Wins.{Wins, EndsIn, one}
use Rattle.pb_assembler_scheme.proofs.Joins.{Joins}
use Rattle.pb_assembler_scheme.proofs.Numbered.{numbered_truth, same-truth}
use Rattle.pb_assembler_scheme.proofs.Terms.{Agrees}
use Rattle.pb_assembler_scheme.proofs.Formulas.{enclosed, formula_runs}
use Rattle.pb_assembler_scheme.proofs.Calls.{call_runs}
use Rattle.pb_assembler_scheme.proofs.Flat.{stands, HasAt, has_all}
use Rattle.pb_assembler_scheme.proofs.Slots.{start-slots, program-slots}

pub equation_stands : (p : Program) (f : Formula) → IsCompiled p f → HasPieceAt p.code 0 0 (equation_piece p.callees f)
equation_stands p f compiled =
    stands p.code 0 0 (equation_piece p.callees f)
    (subst (λ (code : List Op). HasAt code 0 (equation_code p.callees f)) (sym compiled.code) (has_all (equation_code p.callees f)))

module _ (p : Program) (f : Formula) (args : List TaggedValue) (slots : Slots) where
  -- the tokens are those of a tree with the formula's truth
  pub record IsDecided (out : List Token) : Type 0 where
    pub tree : Tree
    pub tokens : out ≡ tree_tokens tree
    pub truth : (t : Environment ℕ) → tree_truth t tree ≡ numbered_truth p slots t f

  root-decided : (xs : List Token) → Joins (head f) xs (λ t. numbered_truth p slots t f) → IsDecided (opening (head f) ∷ (xs ++ token.Close ∷ []))
  root-decided xs j = record {
    tree = Root (head f) j.operands;
    tokens = ap (λ (ts : List Token). opening (head f) ∷ (ts ++ token.Close ∷ [])) j.tokens;
    truth = j.truth;
  }

  pub wins : HasFullCalls p.callees f → Agrees (start args) slots → HasPieceAt p.code 0 0 (equation_piece p.callees f) → Wins p IsDecided (start args)
  wins full agrees h =
      one p IsDecided (start args) (op.Open (head f)) h.0.0
      (enclosed p IsDecided (head f) (formula_piece p.callees (head f) f) (λ a t. numbered_truth p a t f) (formula_runs p IsDecided (call_runs p IsDecided) f (head f) full)
      (record (start args) { place = 1; brackets = 1; roots = 1; output = opening (head f) ∷ [] }) 0 slots 0 [] h.0.1 agrees refl refl
      (λ xs j. one p IsDecided _ op.End h.1 (root-decided xs j)))

-- a run that faults goes no further
longer-fault : (p : Program) (m k : ℕ) (st : State) (g : MachineFault) → run p m st ≡ Faults g → run p (m + k) st ≡ Faults g
longer-fault p zero k st g e = cc
longer-fault p (suc m) k st g e =
    let z : suc m + k ≡ suc (m + k) = omega arith in
    rw z (by (Machine.step p st) (λ st' e'. longer-fault p m k st' g e') e)
  where
    by : (x : Outcome) → ((st' : State) → run p m st' ≡ Faults g → run p (m + k) st' ≡ Faults g) → Machine.and_then x (run p m) ≡ Faults g → Machine.and_then x (run p (m + k)) ≡ Faults g
    by (Continues st') h e = h st' e
    by (Ends out) h e = e
    by (Faults f) h e = e

module _ (spec : Spec) (p : Program) (f : Formula) (tuple : Tuple) (compiled : IsCompiled p f)
    (full : HasFullCalls p.callees f) (declares : Declares spec p.callees) (fit : AreArguments p.parameters tuple) where
  decided : (n : ℕ) (x : Outcome) → run p n (start (arguments p.parameters tuple)) ≡ x
      → EndsIn (IsDecided p f (arguments p.parameters tuple) (slots_of tuple)) x → IsFaultless p tuple → Decides spec p f tuple
  decided n (Continues st) e h ok = absurd h
  decided n (Faults g) e h ok = absurd (ok n g e)
  decided n (Ends out) e h ok = record {
    tree = h.tree;
    steps = n;
    ends = e ∙ ap Ends h.tokens;
    has_truth = λ numbers t matches. h.truth numbers ∙ same-truth spec p declares numbers t matches f (slots_of tuple) (program-slots p f compiled.slots) full;
  }

  pub decides : IsFaultless p tuple → Decides spec p f tuple
  decides ok =
      let w = wins p f (arguments p.parameters tuple) (slots_of tuple) full (start-slots p.parameters tuple fit) (equation_stands p f compiled) in
      decided w.steps (run p w.steps (start (arguments p.parameters tuple))) refl w.ending ok

  -- ---- runs that end with a tree

  ends-faultless : (tree : Tree) → EndsWith p tuple tree → IsFaultless p tuple
  ends-faultless tree ended n g e =
      let late = longer-fault p n (static_steps p) (start (arguments p.parameters tuple)) g e in
      let early = ended.ends (n + static_steps p) (omega arith) in
      no-end (sym late ∙ early)
    where
      no-end : {out : List Token} → Faults g ≡ Ends out → ⊥
      no-end k = cc

  pub ended-decides : TokensAreOneTree → (tree : Tree) → EndsWith p tuple tree → TreeHasTruth spec f tuple tree
  ended-decides one-tree tree ended =
      let d = decides (ends-faultless tree ended) in
      let st = start (arguments p.parameters tuple) in
      let n = d.steps + static_steps p in
      let late = longer p d.steps (static_steps p) st (tree_tokens d.tree) d.ends in
      let early = ended.ends n (omega arith) in
      let same-end = sym late ∙ early in
      let tokens : tree_tokens d.tree ≡ tree_tokens tree = cc in
      let same : d.tree ≡ tree = (one-tree d.tree tree [] [] (append-nil (tree_tokens d.tree) ∙ tokens ∙ sym (append-nil (tree_tokens tree)))).0 in
      subst (TreeHasTruth spec f tuple) same d.has_truth
