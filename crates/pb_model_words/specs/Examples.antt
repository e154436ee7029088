-- A small model, of which values, states and moves are written.
use Rattle.std.specs.Prelude.{ℕ, pos, negsuc, true, List, [], ◌∷◌, codes, None}
use Rattle.pb_text_tree.specs.declared.place.Place.{Place}
use Rattle.pb_text_tree.specs.Form.{Named, VariableForm, TermForm, no_arguments, EnumeratorForm}
use Rattle.pb_text_tree.specs.Form.{SortForm, struct, alias, SortDeclarationForm}
use Rattle.pb_model_tree.specs.Form.{StepForm, ModelForm}
use Rattle.pb_text_meaning.specs.Syntax.{Variable}
use Rattle.pb_protocol_packing.specs.Numbers.{Kind}
use Rattle.pb_protocol_packing.specs.Packing.{Group}
use Rattle.pb_model_words.specs.Vocabulary.{Vocabulary, plain_vocabulary, told_vocabulary}
use Rattle.pb_model_words.specs.Vocabulary.{packed_vocabulary}

-- the first column of a line
abbrev pub line : ℕ → Place
line n = record { line = n; column = 1 }

abbrev pub example_name : ℕ → List ℕ → Named
example_name n x = record { place = line n; text = x }

abbrev pub example_variable : List ℕ → List ℕ → VariableForm
example_variable x s = record { name = example_name 4 x; sort = example_name 4 s }

abbrev pub example_enumerator : List ℕ → EnumeratorForm
example_enumerator x = record { name = example_name 1 x; recogniser = None }

abbrev pub declaration : List ℕ → SortForm → SortDeclarationForm
declaration x s = record { name = example_name 1 x; sort = s }

-- a step whose name stands in a line; what it does isn't written
abbrev pub example_step : ℕ → List ℕ → List VariableForm → StepForm
example_step n x variables = record {
  name = example_name n x;
  variables = variables;
  guard = TermForm.constant (line n) true;
  assignments = [];
}

-- sort Where = struct noncritical | tested | critical; Flag = Bool;
-- state p, q: Where, flag: Flag, n: Int;
abbrev pub flagged_lock : ModelForm
flagged_lock = record {
  sorts =
      declaration (codes "Where") (struct (example_enumerator (codes "noncritical")
      ∷ example_enumerator (codes "tested") ∷ example_enumerator (codes "critical") ∷ []))
      ∷ declaration (codes "Flag") (alias (example_name 1 (codes "Bool"))) ∷ [];
  ranges = [];
  variables =
      example_variable (codes "p") (codes "Where") ∷ example_variable (codes "q") (codes "Where")
      ∷ example_variable (codes "flag") (codes "Flag")
      ∷ example_variable (codes "n") (codes "Int") ∷ [];
  steps =
      example_step 5 (codes "test2") []
      ∷ example_step 6 (codes "set") (example_variable (codes "x") (codes "Where")
      ∷ example_variable (codes "m") (codes "Int") ∷ []) ∷ [];
  initial = record { place = line 7; values = no_arguments };
  properties = [];
}

-- the model in its own words, and in others
abbrev pub own_words : Vocabulary
own_words = plain_vocabulary flagged_lock

abbrev pub other_words : Vocabulary
other_words =
    told_vocabulary flagged_lock (codes "at(1)" ∷ codes "at(2)" ∷ codes "up" ∷ codes "n" ∷ [])
    (codes "test(2)" ∷ codes "set" ∷ [])

-- ---- packed states

-- a variable of data, without places
abbrev pub data_variable : List ℕ → List ℕ → Variable
data_variable x s = record { name = x; sort = s }

-- the enumerators of Where, in order
abbrev pub enumerators : List (List ℕ)
enumerators = codes "noncritical" ∷ codes "tested" ∷ codes "critical" ∷ []

-- the first two variables in one group, whose number is below 3 * 3
abbrev pub groups : List Group
groups =
    Group.Joined (data_variable (codes "p'") (codes "p'")) (record {
      variable = data_variable (codes "p") (codes "Where");
      kind = Kind.Enumeration enumerators;
      low = pos 0;
      size = 3;
    } ∷ record {
      variable = data_variable (codes "q") (codes "Where");
      kind = Kind.Enumeration enumerators;
      low = pos 0;
      size = 3;
    } ∷ []) ∷ Group.Alone (data_variable (codes "flag") (codes "Flag"))
    ∷ Group.Alone (data_variable (codes "n") (codes "Int")) ∷ []

-- the model in its own words, of states in these groups
abbrev pub packed_words : Vocabulary
packed_words = packed_vocabulary groups own_words

-- the first variable alone, and the others in one group, whose number is below 3 * 2 * 6
abbrev pub other_groups : List Group
other_groups =
    Group.Alone (data_variable (codes "p") (codes "Where"))
    ∷ Group.Joined (data_variable (codes "q'") (codes "q'")) (record {
      variable = data_variable (codes "q") (codes "Where");
      kind = Kind.Enumeration enumerators;
      low = pos 0;
      size = 3;
    } ∷ record {
      variable = data_variable (codes "flag") (codes "Flag");
      kind = Kind.Boolean;
      low = pos 0;
      size = 2;
    } ∷ record {
      variable = data_variable (codes "n") (codes "Int");
      kind = Kind.Whole;
      low = negsuc 1;
      size = 6;
    } ∷ []) ∷ []

-- the model in other words, of states in these groups
abbrev pub called_words : Vocabulary
called_words = packed_vocabulary other_groups other_words
