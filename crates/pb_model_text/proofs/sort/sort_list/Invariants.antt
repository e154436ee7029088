use Rattle.std.proofs.Common.{length, map, vec_len}
use Rattle.pb_text_lexer.specs.Steps.{nothing_between}
use Rattle.pb_text_terms.proofs.ListLemmas.{IsListed}
use Rattle.pb_text_formulas.specs.Reading.{is_name_kind}
use Rattle.pb_model_text.specs.Links.{declared_sort_form}
use Rattle.pb_model_text.specs.ModelReading.{sort, sort_list}
use Rattle.pb_model_text.proofs.sort.sort_list.Given as goal

abbrev pub invariant-sorts : goal.invariant-sorts
invariant-sorts l = IsListed (sort 64) is_name_kind nothing_between (sort_list 64 l.fn.input) (map declared_sort_form l.sorts.items) (vec_len l.sorts) (length l.fn.input.tokens) l.input

abbrev pub decreases-sorts : goal.decreases-sorts
decreases-sorts l = length l.input.tokens
