-- A run of the lock, by hand: process 2 goes in, and process 1 waits. And the calls of a counter's
-- text.
use Rattle.std.specs.Prelude.{ℕ, List, [], ◌∷◌, pos, codes}
use Rattle.pb_text_tree.specs.declared.place.Place.{Place}
use Rattle.pb_text_tree.specs.declared.operator.Connective.TheVariants.{And}
use Rattle.pb_text_tree.specs.declared.operator.Comparison.TheVariants.{Less, Greater}
use Rattle.pb_text_tree.specs.declared.operator.Arithmetic.TheVariants.{Plus}
use Rattle.pb_text_tree.specs.Form.{Named, VariableForm, TermForm, argument, no_arguments}
use Rattle.pb_model_tree.specs.Form.{StepForm, ModelForm}
use Rattle.pb_model_translation.specs.Placed.{every_step_form, placed}
use Rattle.pb_typing_calls.specs.MadeCalls.{MadeCall, calls_at}
use Rattle.pb_model_runs.specs.Runs.{Move}

abbrev pub waiting : List Move
waiting =
    record { name = codes "try1"; own = []; state = pos 1 ∷ pos 0 ∷ [] }
    ∷ record { name = codes "try2"; own = []; state = pos 1 ∷ pos 1 ∷ [] }
    ∷ record { name = codes "enter2"; own = []; state = pos 1 ∷ pos 2 ∷ [] }
    ∷ []

-- ---- a counter up to 2 with a step that adds, written at one line

abbrev pub at : ℕ → Place
at column = record { line = 1; column = column }

abbrev pub word : ℕ → List ℕ → Named
word column text = record { place = at column; text = text }

abbrev pub whole : ℕ → List ℕ → VariableForm
whole column text = record { name = word column text; sort = word column (codes "Nat") }

-- add(k: Nat) [n < 2 && k > 0] n := n + k
abbrev pub add : StepForm
add =
    let n : TermForm = TermForm.name (word 20 (codes "n")) in
    let k : TermForm = TermForm.name (word 30 (codes "k")) in
    record {
      name = word 10 (codes "add");
      variables = whole 14 (codes "k") ∷ [];
      guard = TermForm.connected And (at 26)
          (TermForm.compared Less (at 22) n (TermForm.number (at 24) 2))
          (TermForm.compared Greater (at 32) k (TermForm.number (at 34) 0));
      assignments = record {
        variable = word 40 (codes "n");
        place = at 45;
        value = TermForm.computed Plus (at 47) n k;
      } ∷ [];
    }

abbrev pub counter : ModelForm
counter = record {
  sorts = [];
  ranges = record { place = at 1; name = codes "Nat"; low = pos 0; high = pos 2 } ∷ [];
  variables = whole 5 (codes "n") ∷ [];
  steps = add ∷ [];
  initial = record {
    place = at 50;
    values = argument (at 55) (TermForm.number (at 55) 0) no_arguments;
  };
  properties = [];
}

-- the calls where the counter is at a value, in the text of every step
abbrev pub calls_of_counter : ℕ → List MadeCall
calls_of_counter n =
    calls_at (placed counter (at 60) (every_step_form (at 50)))
    (record { equation = 0; values = pos n ∷ [] })

-- the call of `add(k)` that leads to a value
abbrev pub added : ℕ → ℕ → MadeCall
added k n = record {
  place = at 10;
  own = pos k ∷ [];
  instance = record { equation = 0; values = pos n ∷ [] };
}
