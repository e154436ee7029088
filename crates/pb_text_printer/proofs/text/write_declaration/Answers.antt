use Rattle.std.proofs.Common.{◌≡◌, ◌∙◌, [], ◌∷◌, ◌++◌, ap, subst, true, List, ℕ}
use Rattle.std.specs.Result.{OnOk}
use Rattle.pb_text_tree.specs.Form.{sort_form}
use Rattle.pb_text_printer.specs.Page.{Page, after, page, typed}
use Rattle.pb_text_printer.specs.Words.{sort_words, semicolon_word, is_word}
use Rattle.pb_text_printer.proofs.PageLemmas.{left}
use Rattle.pb_text_printer.proofs.text.write_declaration.Goals as goal

pub returns : goal.returns
returns c =
    let x = sort_words (sort_form c.args.declaration.now.sort) in
    subst (λ (v : Page). OnOk c.write_semicolon.result (page c.write_semicolon.new.out ≡ v))
    (left x (semicolon_word ∷ []) (page c.word-2.new.self) (page c.write_sort.new.out) c.in_ok-write_sort.ensures
    ∙ ap (after (x ++ semicolon_word ∷ [])) c.in_ok-word-2.ensures
    ∙ ap (after (is_word ∷ x ++ semicolon_word ∷ [])) (c.in_ok-word.ensures ∙ ap (λ (v : List ℕ). typed true true v (page c.args.out.now)) c.as_str.ensures.value))
    c.write_semicolon.ensures
