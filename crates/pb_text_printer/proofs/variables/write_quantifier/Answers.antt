use Rattle.std.proofs.Common.{◌≡◌, ◌∙◌, [], ◌∷◌, ◌++◌, ap, subst}
use Rattle.std.specs.Result.{OnOk}
use Rattle.pb_text_tree.specs.Form.{variable_forms}
use Rattle.pb_text_printer.specs.Page.{Page, after, page}
use Rattle.pb_text_printer.specs.Words.{variable_words, period_word}
use Rattle.pb_text_printer.proofs.PageLemmas.{left}
use Rattle.pb_text_printer.proofs.variables.write_quantifier.Goals as goal

pub returns : goal.returns
returns c =
    let vs = variable_words (variable_forms c.args.variables.now) in
    subst (λ (v : Page). OnOk c.close.result (page c.close.new.self ≡ v))
    (left vs (period_word ∷ []) (page c.write_binder.new.out) (page c.write_variables.new.out) c.in_ok-write_variables.ensures
    ∙ ap (after (vs ++ period_word ∷ [])) c.in_ok-write_binder.ensures)
    c.close.ensures
