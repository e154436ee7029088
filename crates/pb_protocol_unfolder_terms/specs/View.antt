-- What the code's own values say, in the words of the definitions.
use Rattle.std.specs.Prelude.{List, [], map, Option, Some, None}
use Rattle.std.specs.Borrow.{Bor}
use Rattle.pb_text_tree.specs.declared.sort.Sort as declared_sort
use Rattle.pb_text_tree.specs.declared.sort.SortDeclaration as declared_declaration
use Rattle.pb_text_tree.specs.declared.sort.Range as declared_range
use Rattle.pb_text_tree.specs.Form.{sort_form, range_form}
use Rattle.pb_text_meaning.specs.Syntax.{Variable, Sort, SortDeclaration, Range, NoTerms, Spec}
use Rattle.pb_text_meaning.specs.Erase.{erased_sort, erased_range}
use Rattle.pb_protocol_folding.specs.View.{declaration_of}
use Rattle.pb_protocol_unfolder_terms.specs.declared.sorts.Sorts as declared_sorts
use Rattle.pb_protocol_unfolder_terms.specs.declared.sorts.Variable as declared_variable

abbrev pub declarations : List declared_declaration.SortDeclaration → List SortDeclaration
declarations sorts = map declaration_of sorts

abbrev pub ranges_said : List declared_range.Range → List Range
ranges_said ranges = map erased_range (map range_form ranges)

-- sorts and ranges, as those of a text without equations
abbrev pub spec_of : declared_sorts.Sorts → Spec
spec_of sorts = record {
  sorts = declarations sorts.declarations.now;
  ranges = ranges_said sorts.ranges.now;
  equations = [];
  initial = [];
  arguments = NoTerms;
}

abbrev pub variable_of : declared_variable.Variable → Variable
variable_of x = record { name = x.name.now; sort = x.sort.now }

abbrev pub sort_said : Option (Bor declared_sort.Sort) → Option Sort
sort_said None = None
sort_said (Some s) = Some (erased_sort (sort_form s.now))

abbrev pub range_said : Option (Bor declared_range.Range) → Option Range
range_said None = None
range_said (Some r) = Some (erased_range (range_form r.now))
