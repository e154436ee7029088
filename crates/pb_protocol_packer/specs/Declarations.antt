-- What declarations say, without places.
use Rattle.std.specs.Prelude.{List, map}
use Rattle.pb_text_tree.specs.declared.sort.SortDeclaration as tree_declaration
use Rattle.pb_text_tree.specs.declared.sort.Range as tree_range
use Rattle.pb_text_tree.specs.Form.{sort_declaration_form, range_form}
use Rattle.pb_text_meaning.specs.Syntax.{SortDeclaration, Range}
use Rattle.pb_text_meaning.specs.Erase.{erased_declaration, erased_range}

abbrev pub declaration_of : tree_declaration.SortDeclaration → SortDeclaration
declaration_of d = erased_declaration (sort_declaration_form d)

abbrev pub declarations_in : List tree_declaration.SortDeclaration → List SortDeclaration
declarations_in = map declaration_of

abbrev pub syntax_range : tree_range.Range → Range
syntax_range r = erased_range (range_form r)

abbrev pub ranges_in : List tree_range.Range → List Range
ranges_in = map syntax_range
