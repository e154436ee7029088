use Rattle.std.proofs.Common.{◌≡◌, ◌∙◌, [], ◌∷◌, ◌++◌, ap, sym, subst, List}
use Rattle.std.specs.Result.{OnOk}
use Rattle.pb_text_tree.specs.Form.{variable_forms}
use Rattle.pb_text_printer.specs.Page.{Page, after, page}
use Rattle.pb_text_printer.specs.Words.{Word, variable_words, close_word}
use Rattle.pb_text_printer.proofs.PageLemmas.{left}
use Rattle.pb_text_printer.proofs.TextParts.{parameters}
use Rattle.pb_text_printer.proofs.text.write_parameters.Goals as goal

pub returns : goal.returns
returns c =
    let vs = variable_words (variable_forms c.args.parameters.now) in
    subst (λ (v : Page). OnOk c.close.result (page c.close.new.self ≡ v))
    (left vs (close_word ∷ []) (page c.open_list.new.self) (page c.write_variables.new.out) c.in_ok-write_variables.ensures
    ∙ ap (after (vs ++ close_word ∷ [])) c.in_ok-open_list.ensures
    ∙ ap (λ (w : List Word). after w (page c.args.out.now)) (parameters (variable_forms c.args.parameters.now) (sym c.are_none.ensures ∙ c.if-are_none.false)))
    c.close.ensures
