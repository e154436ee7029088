use Rattle.std.proofs.Common.{◌∙◌, sym, ap}
use Rattle.std.specs.List.{list_any}
use Rattle.pb_text_meaning.specs.Syntax.{Name, same_name}
use Rattle.pb_protocol_folding.specs.Names.{enumerators_in}
use Rattle.pb_protocol_unfolder.specs.Apart.{declarations_said}
use Rattle.pb_protocol_unfolder.proofs.ApartLemmas.{others-more, others-none}
use Rattle.pb_protocol_unfolder.proofs.apart.first_taken.Goals as goal

pub loop-index-init : goal.loop-index-init
loop-index-init c = others-none (enumerators_in (declarations_said c.args.declarations.now))

pub loop-index-preserved : goal.loop-index-preserved
loop-index-preserved c =
    let es = enumerators_in (declarations_said c.args.declarations.now) in
    others-more es c.args.names.now c.loop-index.index c.index-names-index.result c.loop-index-test.true c.index-names-index.is c.loop-index.invariant
    (ap (λ (x : Name). list_any (same_name x) es) (sym c.as_str.ensures.value) ∙ sym c.is_taken.ensures ∙ c.if-is_taken.false)
