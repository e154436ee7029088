use Rattle.std.proofs.Common.{length, map, vec_len}
use Rattle.pb_text_tree.specs.Form.{sort_declaration_form}
use Rattle.pb_text_lexer.specs.Steps.{nothing_between}
use Rattle.pb_text_terms.proofs.ListLemmas.{IsListed}
use Rattle.pb_text_formulas.specs.Reading.{declaration, declarations, is_name_kind}
use Rattle.pb_text_formulas.proofs.sort.declarations.Given as goal

abbrev pub invariant-declarations : goal.invariant-declarations
invariant-declarations l =
    IsListed declaration is_name_kind nothing_between (declarations l.fn.input) (map sort_declaration_form l.declarations.items) (vec_len l.declarations) (length l.fn.input.tokens) l.input

abbrev pub decreases-declarations : goal.decreases-declarations
decreases-declarations l = length l.input.tokens
