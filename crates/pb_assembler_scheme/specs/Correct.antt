-- What the scheme's code of an equation decides.
use Rattle.std.specs.Prelude.{◌≡◌, ◌≢◌, ⊤, ℕ, suc, List, [], ◌∷◌, length, map, Option, Some, None}
use Rattle.std.specs.List.{slice_get, position_or_len}
use Rattle.pb_fixpoint.specs.Solution.{Environment}
use Rattle.pb_fixpoint.specs.Transfer.{Matches}
use Rattle.pb_base_values.specs.Carrier.{Tuple}
use Rattle.pb_sorts.specs.declared.carrier.Carrier.{Carrier}
use Rattle.pb_sorts.specs.Instance.{number_of}
use Rattle.pb_sorts.specs.Layout.{carriers_of}
use Rattle.pb_fixpoint_trees.specs.Tree.{Tree, tree_truth}
use Rattle.pb_fixpoint_trees.specs.Tokens.{tree_tokens}
use Rattle.pb_text_meaning.specs.Syntax.{same_name, Equation, Spec}
use Rattle.pb_text_meaning.specs.Formula.{Instance, is_instance}
use Rattle.pb_typing_declarations.specs.Shapes.{Shape}
use Rattle.pb_typing_declarations.specs.Entries.{carrier_shape}
use Rattle.pb_typing_declarations.specs.WellDeclared.{AreApart}
use Rattle.pb_typing_values.specs.Environment.{all_carriers}
use Rattle.pb_bytecode_program.specs.Machine.{Program, Ends, Faults, MachineFault, run, start}
use Rattle.pb_bytecode_program.specs.Counts.{static_steps, static_tokens}
use Rattle.pb_bytecode_program.specs.Safety.{arguments}
use Rattle.pb_normal.specs.Normal.{Argument, Formula, Test, Join, Each, Call, truth}
use Rattle.pb_normal.specs.Answer.{slots_of}
pub use Rattle.pb_normal.specs.SlotOrder.{quantifiers}
use Rattle.pb_assembler_scheme.specs.Scheme.{equation_code}

-- ---- programs of the scheme

-- slots with the shapes of their carriers, the first slot being n
abbrev pub slots_from : ℕ → List Carrier → List (ℕ × Shape)
slots_from n [] = []
slots_from n (c ∷ cs) = (n, carrier_shape (Some c)) ∷ slots_from (suc n) cs

-- the scheme's program for an equation with this right side: its code, a slot behind the parameters
-- for each quantifier in order, and exactly the static counts
pub record IsCompiled (p : Program) (f : Formula) : Type 0 where
  pub code : p.code ≡ equation_code p.callees f
  pub slots : quantifiers f ≡ slots_from (length p.parameters) p.loops
  pub steps : p.stated_steps ≡ static_steps p
  pub tokens : p.stated_tokens ≡ static_tokens p

-- ---- formulas that can be compiled

-- there is an argument for each parameter of the equation that is called
abbrev pub IsFullCall : Option (List Carrier) → List Argument → Type 0
IsFullCall None xs = ⊥
IsFullCall (Some cs) xs = length xs ≡ length cs

-- of each call
abbrev pub HasFullCalls : List (List Carrier) → Formula → Type 0
HasFullCalls callees (Test t) = ⊤
HasFullCalls callees (Join m f g) = HasFullCalls callees f × HasFullCalls callees g
HasFullCalls callees (Each q s shape f) = HasFullCalls callees f
HasFullCalls callees (Call equation xs) = IsFullCall (slice_get callees equation) xs

-- the equations of a specification have these parameters, and their names are apart
pub record Declares (spec : Spec) (callees : List (List Carrier)) : Type 0 where
  pub carriers : carriers_of callees ≡ all_carriers spec
  pub apart : AreApart (map (λ (X : Equation). X.name) spec.equations)

-- ---- numbers of instances

-- an instance's number; its equation is the first one of its name
abbrev pub number_in : Spec → Instance → ℕ
number_in spec i =
    number_of (all_carriers spec) (record {
      equation = position_or_len (λ (X : Equation). same_name X.name i.name) spec.equations;
      values = i.values;
    })

-- where an instance counts as true exactly if its number does, the tree has the truth of the
-- formula, the first slots holding these values
abbrev pub TreeHasTruth : Spec → Formula → Tuple → Tree → Type 0
TreeHasTruth spec f tuple tree =
    (numbers : Environment ℕ) (t : Environment Instance)
    → Matches (is_instance spec) (number_in spec) numbers t
    → tree_truth numbers tree ≡ truth spec (slots_of tuple) t f

-- ---- runs

-- no run on these values faults
abbrev pub IsFaultless : Program → Tuple → Type 0
IsFaultless p tuple =
    (n : ℕ) (fault : MachineFault) → run p n (start (arguments p.parameters tuple)) ≢ Faults fault

-- the run on these values ends with the tokens of a tree that has the formula's truth
pub record Decides (spec : Spec) (p : Program) (f : Formula) (tuple : Tuple) : Type 0 where
  pub tree : Tree
  pub steps : ℕ
  pub ends : run p steps (start (arguments p.parameters tuple)) ≡ Ends (tree_tokens tree)
  pub has_truth : TreeHasTruth spec f tuple tree
