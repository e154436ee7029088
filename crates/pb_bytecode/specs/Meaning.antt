-- What a module means: its equations as the nested solution reads them (Groote and Willemse 2005).
-- The right side at an instance is the and/or tree with which the run of the equation's code on the
-- instance's values ends.
use Rattle.std.specs.Prelude.{◌≡◌, ℕ, Bool, List, map, Some}
use Rattle.std.specs.List.{slice_get}
use Rattle.pb_base_values.specs.Carrier.{Tuple, tuple_count}
use Rattle.pb_fixpoint_trees.specs.Tree.{Tree}
use Rattle.pb_fixpoint_trees.specs.Equations.{Signature, solved}
use Rattle.pb_sorts.specs.Carrier.{values_of}
use Rattle.pb_sorts.specs.Instance.{number_of}
use Rattle.pb_sorts.specs.Layout.{carriers_of}
use Rattle.pb_sorts.specs.declared.carrier.Carrier.{Carrier}
use Rattle.pb_bytecode_program.specs.Machine.{Program}
use Rattle.pb_bytecode_program.specs.Safety.{AreArguments, EndsWith}
use Rattle.pb_bytecode.specs.Contents.{EquationContents, Contents, counts}

-- the carriers of each equation's parameters
abbrev pub parameters : Contents → List (List Carrier)
parameters m = map (λ (e : EquationContents). e.parameters) m.equations

-- an equation's code, and what it stands in
abbrev pub program_of : Contents → EquationContents → Program
program_of m e = record {
  sorts = counts m.sorts;
  callees = parameters m;
  parameters = e.parameters;
  loops = e.loops;
  stated_steps = e.steps;
  stated_tokens = e.tokens;
  code = e.code;
}

-- an equation's sign, and how many instances its predicate variable has
abbrev pub signature_of : EquationContents → Signature
signature_of e = record { sign = e.sign; size = tuple_count (map values_of e.parameters) }

-- the number of an equation's instance with these values
abbrev pub number_at : Contents → ℕ → Tuple → ℕ
number_at m k values =
    number_of (carriers_of (parameters m)) (record { equation = k; values = values })

-- each instance has the tree with which its run ends
abbrev pub AreTrees : Contents → (ℕ → Tree) → Type 0
AreTrees m trees =
    (k : ℕ) (e : EquationContents) (values : Tuple) → slice_get m.equations k ≡ Some e
    → AreArguments e.parameters values →
    EndsWith (program_of m e) values (trees (number_at m k values))

-- the number of the initial instance
abbrev pub initial_of : Contents → ℕ
initial_of m = number_at m m.initial.equation m.initial.values

-- the answer: the truth of the initial instance in the nested solution of the equations, the
-- instances having these trees
abbrev pub answer : Contents → (ℕ → Tree) → Bool
answer m trees = solved (map signature_of m.equations) trees (initial_of m)
