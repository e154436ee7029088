use Rattle.std.proofs.Common.{◌≡◌, ◌∙◌, [], ◌∷◌, ◌++◌, ap, subst, true}
use Rattle.std.specs.Result.{OnOk}
use Rattle.pb_text_tree.specs.Form.{term_form}
use Rattle.pb_text_printer.specs.Page.{Page, after, page}
use Rattle.pb_text_printer.specs.Words.{term_words, close_word, list_word}
use Rattle.pb_text_printer.proofs.PageLemmas.{left}
use Rattle.pb_text_printer.proofs.formula.write_value.Goals as goal

pub returns : goal.returns
returns c =
    let x = term_words (term_form c.args.term.now) true in
    subst (λ (v : Page). OnOk c.close.result (page c.close.new.self ≡ v))
    (left x (close_word ∷ []) (page c.open_list.new.self) (page c.write_plain.new.out) c.in_ok-write_plain.ensures
    ∙ ap (after (x ++ close_word ∷ [])) c.in_ok-open_list.ensures
    ∙ ap (after (list_word ∷ x ++ close_word ∷ [])) c.in_ok-word.ensures)
    c.close.ensures
