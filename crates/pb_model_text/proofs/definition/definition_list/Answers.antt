use Rattle.std.proofs.Common.{rules, arith, ◌≡◌, true, false, refl}
use Rattle.std.proofs.lemmas.List.{map_push}
use Rattle.pb_base.proofs.Faults.{if_fault}
use Rattle.pb_text_lexer.specs.Steps.{kind, nothing_between}
use Rattle.pb_text_terms.proofs.ReaderLemmas.{error-is}
use Rattle.pb_text_terms.proofs.ListLemmas.{listed-none, listed-fails, listed-ends, listed-goes-on}
use Rattle.pb_model_text.specs.ModelReading.{definition}
use Rattle.pb_text_formulas.specs.Reading.{is_name_kind}
use Rattle.pb_model_text.proofs.definition.definition_list.Goals as goal

pub definitions-init : goal.definitions-init
definitions-init c = rw (c.new-definitions.ensures.items, c.new-definitions.ensures.len) (listed-none (definition 64) is_name_kind nothing_between c.args.input.now)

pub returns-in_err-definition : goal.returns-in_err-definition
returns-in_err-definition c =
    rw (error-is c.from_residual.result _ c.from_residual.ensures.1)
    (if_fault c.in_err-definition.field-0.0 (listed-fails c.definitions.invariant) c.in_err-definition.ensures.reads)

pub returns-then-not-same_kind : goal.returns-then-not-same_kind
returns-then-not-same_kind c =
    let stops : is_name_kind (kind c.definition.new.input) ≡ false = search rules in
    rw (c.in_ok-push.ensures.items, map_push) (listed-ends c.definitions.invariant c.in_ok-definition.ensures.reads stops)

pub definitions-preserved : goal.definitions-preserved
definitions-preserved c =
    let goes : is_name_kind (kind c.definition.new.input) ≡ true = search rules in
    rw (c.in_ok-push.ensures.items, map_push)
    (listed-goes-on c.definitions.invariant c.in_ok-definition.ensures.reads goes refl c.in_ok-push.ensures.len (omega (arith, c.in_ok-definition.ensures.fewer)))
