-- Why a model isn't packed: the rules that fail, each with its place.
use Rattle.std.specs.Prelude.{suc, not, ◌==◌, Bool, List, [], ◌++◌, length, map, flat_map}
use Rattle.pb_text_tree.specs.Form.{Named, SortForm, struct, alias, SortDeclarationForm}
use Rattle.pb_text_meaning.specs.Syntax.{Name}
use Rattle.pb_typing_declarations.specs.Declarations.{own_names, variable_names}
use Rattle.pb_typing_declarations.specs.Faults.{unless, repeated}
use Rattle.pb_typing_declarations.specs.declared.fault.TypingFault.{TypingFault}
use Rattle.pb_typing_declarations.specs.declared.fault.TypingRule.TheVariants as rule
use Rattle.pb_model_tree.specs.Form.{StepForm, ModelForm}
use Rattle.pb_model_meaning.specs.Syntax.{Model}
use Rattle.pb_model_meaning.specs.Erase.{erase}
use Rattle.pb_protocol_packing.specs.Apart.{is_among, ends_within, term_count}
use Rattle.pb_protocol_groups.specs.Bound.{model_bound_names}
use Rattle.pb_protocol_groups.specs.Sizes.{size_faults}

-- ---- names

abbrev pub texts : List Named → List Name
texts = map (λ (x : Named). x.text)

abbrev pub step_own_names : StepForm → List Named
step_own_names a = variable_names a.variables

abbrev pub names_of_sort : SortForm → List Named
names_of_sort (struct es) = own_names es
names_of_sort (alias s) = []

abbrev pub sort_enumerators : SortDeclarationForm → List Named
sort_enumerators d = names_of_sort d.sort

-- T02: a name that is taken
abbrev pub taken_faults_by : (Name → Bool) → Named → List TypingFault
taken_faults_by is_taken x = unless (not (is_taken x.text)) rule.NameTwice x.place

-- or is one of these
abbrev pub taken_faults : List Name → Named → List TypingFault
taken_faults taken = taken_faults_by (is_among taken)

-- T02: two state variables have one name, or one has the name of a step's variable
abbrev pub state_faults : ModelForm → List TypingFault
state_faults m =
    let own = texts (flat_map step_own_names m.steps) in
    repeated (variable_names m.variables)
    ++ flat_map (taken_faults own) (variable_names m.variables)

-- T02: two enumerators have one name, or a variable has the name of an enumerator
abbrev pub listed_faults : ModelForm → List TypingFault
listed_faults m =
    let enumerators = flat_map sort_enumerators m.sorts in
    repeated enumerators ++ flat_map (taken_faults (texts enumerators)) (model_bound_names m)

-- ---- sorts and values

-- T03: an alias whose chain has no end
abbrev pub chain_faults : Model → SortDeclarationForm → List TypingFault
chain_faults m d =
    unless (ends_within (suc (length m.sorts)) m d.name.text) rule.UnknownSort d.name.place

-- T08 at `init`: not as many initial values as state variables
abbrev pub count_faults : ModelForm → List TypingFault
count_faults m =
    unless (term_count (erase m).initial == length (erase m).variables) rule.WrongCount
    m.initial.place

-- ---- models

-- what is tested before a model is packed
abbrev pub test_faults : ModelForm → List TypingFault
test_faults m =
    state_faults m
    ++ (listed_faults m ++ (flat_map (chain_faults (erase m)) m.sorts ++ count_faults m))

-- and that a group of several variables has some values, and not too many
abbrev pub packing_faults : ModelForm → List TypingFault
packing_faults m = test_faults m ++ size_faults m
