-- What the code's own values say, in the words of the definitions.
use Rattle.std.specs.Prelude.{ℕ, List, map, Option, Some, None}
use Rattle.std.specs.Fmt.{signed_decimal}
use Rattle.std.specs.Borrow.{Bor}
use Rattle.pb_base_values.specs.Carrier.{Value}
use Rattle.pb_text_tree.specs.declared.name.Name as declared_name
use Rattle.pb_text_tree.specs.declared.sort.Sort as declared_sort
use Rattle.pb_text_tree.specs.declared.sort.SortDeclaration as declared_declaration
use Rattle.pb_text_tree.specs.declared.sort.Enumerator as declared_enumerator
use Rattle.pb_text_tree.specs.Form.{VariableForm, named, enumerator_form, sort_form}
use Rattle.pb_text_tree.specs.Form.{sort_declaration_form, variable_forms}
use Rattle.pb_text_meaning.specs.Syntax.{Enumerator, Sort, SortDeclaration}
use Rattle.pb_text_meaning.specs.Erase.{erased_enumerator, erased_sort, erased_declaration}
use Rattle.pb_protocol_packing.specs.Packing.{Group}
use Rattle.pb_protocol_packer.specs.declared.group.Group as declared_group
use Rattle.pb_protocol_packer.specs.Groups.{groups_in}
use Rattle.pb_model_words.specs.declared.variables.Variable as declared_variable
use Rattle.pb_model_words.specs.declared.writing.Writing as declared_writing
use Rattle.pb_model_words.specs.declared.writing.Writing.TheVariants as writing
use Rattle.pb_model_words.specs.declared.vocabulary.Vocabulary as declared_vocabulary
use Rattle.pb_model_words.specs.declared.vocabulary.ToldStep as declared_step
use Rattle.pb_model_words.specs.Vocabulary.{ToldStep, Vocabulary}
use Rattle.pb_model_words.specs.Words.{truth_text, enumerator_text}

-- a variable by its own name and that of its sort
abbrev pub variable_of_sort : declared_name.Name → declared_name.Name → VariableForm
variable_of_sort sort name = record { name = named name; sort = named sort }

abbrev pub variable_said : declared_variable.Variable → VariableForm
variable_said x =
    record { name = record { place = x.place; text = x.name.now }; sort = named x.sort.now }

abbrev pub declarations : List declared_declaration.SortDeclaration → List SortDeclaration
declarations sorts = map erased_declaration (map sort_declaration_form sorts)

abbrev pub enumerators_said : List declared_enumerator.Enumerator → List Enumerator
enumerators_said es = map erased_enumerator (map enumerator_form es)

-- a value as it is written
abbrev pub written : declared_writing.Writing → Value → List ℕ
written writing.Truth v = truth_text v
written (writing.Enumerators es) v = enumerator_text (enumerators_said es.now) v
written writing.Decimal v = signed_decimal v

abbrev pub sort_said : Option (Bor declared_sort.Sort) → Option Sort
sort_said None = None
sort_said (Some s) = Some (erased_sort (sort_form s.now))

abbrev pub told_step_said : declared_step.ToldStep → ToldStep
told_step_said a = record {
  name = record { place = a.place; text = a.name.now };
  variables = variable_forms a.variables.now;
}

abbrev pub step_said : Option (Bor declared_step.ToldStep) → Option ToldStep
step_said None = None
step_said (Some a) = Some (told_step_said a.now)

-- groups that variables are packed in, if they are
abbrev pub groups_said : Option (Bor (List declared_group.Group)) → Option (List Group)
groups_said None = None
groups_said (Some groups) = Some (groups_in groups.now)

-- the words in which a model is told
abbrev pub vocabulary_of : declared_vocabulary.Vocabulary → Vocabulary
vocabulary_of v = record {
  sorts = map sort_declaration_form v.sorts.now;
  variables = map variable_said v.variables.items;
  steps = map told_step_said v.steps.items;
  groups = groups_said v.groups;
}
