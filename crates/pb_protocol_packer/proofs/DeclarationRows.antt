-- What declarations say is what their forms say.
use Rattle.std.proofs.Common.{◌≡◌, List, [], ◌∷◌, map, refl, ap}
use Rattle.pb_text_tree.specs.declared.sort.SortDeclaration as tree_declaration
use Rattle.pb_text_tree.specs.declared.sort.Range as tree_range
use Rattle.pb_text_tree.specs.Form.{sort_declaration_form, range_form}
use Rattle.pb_text_meaning.specs.Syntax.{SortDeclaration, Range}
use Rattle.pb_text_meaning.specs.Erase.{erased_declaration, erased_range}
use Rattle.pb_protocol_packer.specs.Declarations.{declaration_of, declarations_in, syntax_range, ranges_in}

pub declaration-forms : (ds : List tree_declaration.SortDeclaration) → map erased_declaration (map sort_declaration_form ds) ≡ declarations_in ds
declaration-forms [] = refl
declaration-forms (d ∷ ds) = ap (λ (es : List SortDeclaration). declaration_of d ∷ es) (declaration-forms ds)

pub range-forms : (rs : List tree_range.Range) → map erased_range (map range_form rs) ≡ ranges_in rs
range-forms [] = refl
range-forms (r ∷ rs) = ap (λ (qs : List Range). syntax_range r ∷ qs) (range-forms rs)
