use Rattle.std.proofs.Common.{rules, ◌≡◌, Some, Ok, ap, sym, ◌∙◌}
use Rattle.std.proofs.lemmas.Result.{IfOk-at_ok}
use Rattle.pb_text_tree.specs.Form.{alias, named, term_form}
use Rattle.pb_model_text.specs.Models.{declared_as, name_alone}
use Rattle.pb_model_text.proofs.SortLemmas.{named-taken}
use Rattle.pb_model_text.proofs.sort.sort_named.Goals as goal

pub returns : goal.returns
returns c =
    let found = c.in-Some.target in
    let alone : Some (named found.now) ≡ name_alone (term_form c.args.target.now) = search rules in
    record {
      reads = named-taken (named c.args.name) (named found.now) (term_form c.args.target.now) c.args.input.now c.take.new.self _ alone c.take.ensures.reads
          ∙ ap (λ v. Ok (v, c.take.new.self))
          (sym (c.declared_as.ensures ∙ ap (λ v. declared_as (named v) (alias (named c.in_ok-name.target))) c.in_ok-name.ensures.0
          ∙ ap (λ v. declared_as (named c.args.name) (alias v)) (IfOk-at_ok _ c.in_ok-name.ensures.1 c.copy_name.ensures)));
      fewer = search rules;
    }
