use Rattle.std.proofs.Common.{◌≡◌, ◌∙◌, [], ◌∷◌, ◌++◌, ap, subst, true, List, ℕ}
use Rattle.std.specs.Result.{OnOk}
use Rattle.pb_text_tree.specs.declared.variable.Variables.{Variables}
use Rattle.pb_text_tree.specs.Form.{formula_form, variable_forms, named}
use Rattle.pb_text_printer.specs.Page.{Page, after, page, typed}
use Rattle.pb_text_printer.specs.Words.{formula_words, parameter_words, semicolon_word, is_word, name_word}
use Rattle.pb_text_printer.proofs.PageLemmas.{left}
use Rattle.pb_text_printer.proofs.text.write_equation.Goals as goal

pub returns : goal.returns
returns c =
    let x = formula_words (formula_form c.args.equation.now.right) true in
    let vs = parameter_words (variable_forms c.args.equation.now.parameters.items) in
    let end = is_word ∷ x ++ semicolon_word ∷ [] in
    subst (λ (v : Page). OnOk c.write_semicolon.result (page c.write_semicolon.new.out ≡ v))
    (left x (semicolon_word ∷ []) (page c.word-2.new.self) (page c.write_plain.new.out) c.in_ok-write_plain.ensures
    ∙ ap (after (x ++ semicolon_word ∷ [])) c.in_ok-word-2.ensures
    ∙ left vs end (page c.word.new.self) (page c.write_parameters.new.out)
    (c.in_ok-write_parameters.ensures ∙ ap (λ (v : List Variables). after (parameter_words (variable_forms v)) (page c.word.new.self)) c.deref.ensures.value)
    ∙ ap (after (vs ++ end)) (c.in_ok-word.ensures ∙ ap (λ (v : List ℕ). typed true true v (page c.write_sign.new.out)) c.as_str.ensures.value)
    ∙ ap (after (name_word (named c.args.equation.now.name) ∷ vs ++ end)) c.in_ok-write_sign.ensures)
    c.write_semicolon.ensures
