use Rattle.std.proofs.Common.{◌∙◌, ap, map, List}
use Rattle.std.specs.Prelude.{flat_map}
use Rattle.pb_text_tree.specs.declared.sort.Range.{Range}
use Rattle.pb_text_tree.specs.declared.sort.SortDeclaration.{SortDeclaration}
use Rattle.pb_text_tree.specs.declared.spec.Equation.{Equation}
use Rattle.pb_text_tree.specs.Form.{spec_form, range_form, sort_declaration_form, equation_form}
use Rattle.pb_text_printer.specs.Page.{after, page}
use Rattle.pb_text_printer.specs.Parts.{behind_ranges}
use Rattle.pb_text_printer.specs.Words.{sorts_words, equation_words}
use Rattle.pb_text_printer.proofs.TextParts.{text-written}
use Rattle.pb_text_printer.proofs.text.write_text.Goals as goal

pub returns : goal.returns
returns c =
    c.into_text.ensures
    ∙ text-written (spec_form c.args.spec.now) (page c.new-out.result) (page c.write_ranges.new.out) (page c.write_sorts.new.out) (page c.word.new.self) (page c.end_line.new.self)
    (page c.write_equations.new.out) (page c.word-2.new.self) (page c.write_instance.new.out) (page c.write_semicolon.new.out)
    c.new-out.ensures
    (c.in_ok-write_ranges.ensures ∙ ap (λ (v : List Range). behind_ranges (map range_form v) (page c.new-out.result)) c.deref.ensures.value)
    (c.in_ok-write_sorts.ensures ∙ ap (λ (v : List SortDeclaration). after (sorts_words (map sort_declaration_form v)) (page c.write_ranges.new.out)) c.deref-2.ensures.value)
    c.in_ok-word.ensures c.in_ok-end_line.ensures
    (c.in_ok-write_equations.ensures ∙ ap (λ (v : List Equation). after (flat_map equation_words (map equation_form v)) (page c.end_line.new.self)) c.deref-3.ensures.value)
    c.in_ok-word-2.ensures c.in_ok-write_instance.ensures c.in_ok-write_semicolon.ensures
