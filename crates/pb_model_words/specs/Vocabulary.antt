-- The words in which a model is told: what its variables and steps are called.
use Rattle.std.specs.Prelude.{ℕ, List, [], ◌∷◌, map, Option, Some, None}
use Rattle.pb_text_tree.specs.Form.{Named, VariableForm, SortDeclarationForm}
use Rattle.pb_model_tree.specs.Form.{StepForm, ModelForm}
use Rattle.pb_protocol_packing.specs.Packing.{Group}

-- a step by what it is called, the place of its name, and its own variables
pub record ToldStep : Type 0 where
  pub name : Named
  pub variables : List VariableForm

-- the sorts, what variables and steps are called, and the groups that the variables are packed in
pub record Vocabulary : Type 0 where
  pub sorts : List SortDeclarationForm
  pub variables : List VariableForm
  pub steps : List ToldStep
  pub groups : Option (List Group)

abbrev pub told_step : StepForm → ToldStep
told_step a = record { name = a.name; variables = a.variables }

-- a model in its own words
abbrev pub plain_vocabulary : ModelForm → Vocabulary
plain_vocabulary m = record {
  sorts = m.sorts;
  variables = m.variables;
  steps = map told_step m.steps;
  groups = None;
}

-- a name where it stands, called otherwise
abbrev pub called : List ℕ → Named → Named
called x n = record { place = n.place; text = x }

-- variables and steps that are called otherwise, as many as have such a name
abbrev pub called_variables : List (List ℕ) → List VariableForm → List VariableForm
called_variables (x ∷ xs) (v ∷ vs) =
    record { name = called x v.name; sort = v.sort } ∷ called_variables xs vs
called_variables xs vs = []

abbrev pub called_steps : List (List ℕ) → List StepForm → List ToldStep
called_steps (x ∷ xs) (a ∷ steps) =
    record { name = called x a.name; variables = a.variables } ∷ called_steps xs steps
called_steps xs steps = []

-- a model whose variables and steps are called otherwise
abbrev pub told_vocabulary : ModelForm → List (List ℕ) → List (List ℕ) → Vocabulary
told_vocabulary m variables steps = record {
  sorts = m.sorts;
  variables = called_variables variables m.variables;
  steps = called_steps steps m.steps;
  groups = None;
}

-- the same of states in which the variables are packed in these groups
abbrev pub packed_vocabulary : List Group → Vocabulary → Vocabulary
packed_vocabulary groups m = record m { groups = Some groups }
