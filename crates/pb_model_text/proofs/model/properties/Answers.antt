use Rattle.std.proofs.Common.{rules, arith, ◌≡◌, true, false, refl}
use Rattle.std.proofs.lemmas.List.{map_push}
use Rattle.pb_base.proofs.Faults.{if_fault}
use Rattle.pb_text_lexer.specs.Steps.{kind, nothing_between}
use Rattle.pb_text_terms.proofs.ReaderLemmas.{error-is}
use Rattle.pb_text_terms.proofs.ListLemmas.{listed-none, listed-fails, listed-ends, listed-goes-on}
use Rattle.pb_model_text.specs.Reading.{is_property}
use Rattle.pb_model_text.specs.ModelReading.{property}
use Rattle.pb_model_text.proofs.model.properties.Goals as goal

pub properties-init : goal.properties-init
properties-init c = rw (c.new-properties.ensures.items, c.new-properties.ensures.len) (listed-none (property 64) is_property nothing_between c.args.input.now)

pub returns-in_err-property : goal.returns-in_err-property
returns-in_err-property c =
    rw (error-is c.from_residual.result _ c.from_residual.ensures.1)
    (if_fault c.in_err-property.field-0.0 (listed-fails c.properties.invariant) c.in_err-property.ensures.reads)

pub returns-then-not-same_kind : goal.returns-then-not-same_kind
returns-then-not-same_kind c =
    let stops : is_property (kind c.property.new.input) ≡ false = search rules in
    rw (c.in_ok-push.ensures.items, map_push) (listed-ends c.properties.invariant c.in_ok-property.ensures.reads stops)

pub properties-preserved : goal.properties-preserved
properties-preserved c =
    let goes : is_property (kind c.property.new.input) ≡ true = search rules in
    rw (c.in_ok-push.ensures.items, map_push)
    (listed-goes-on c.properties.invariant c.in_ok-property.ensures.reads goes refl c.in_ok-push.ensures.len (omega (arith, c.in_ok-property.ensures.fewer)))
