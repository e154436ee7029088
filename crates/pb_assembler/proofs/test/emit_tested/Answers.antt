use Rattle.std.proofs.Common.{sym, subst}
use Rattle.pb_normal.specs.View.{term_view}
use Rattle.pb_typing.specs.View.{is_positive}
use Rattle.pb_typing.specs.declared.polarity.Polarity.{Polarity}
use Rattle.pb_assembler_scheme.specs.Scheme.{data_piece}
use Rattle.pb_assembler.specs.Emitted.{Emits, nowhere}
use Rattle.pb_assembler_measures.specs.Tests.{signed_term}
use Rattle.pb_assembler.proofs.Emitting.{emits_then, on_ok}
use Rattle.pb_assembler.proofs.test.emit_tested.Goals as goal

pub returns-in-Negative : goal.returns-in-Negative
returns-in-Negative c =
    let x = term_view c.args.test.term.now in
    let d = c.args.builder.now in
    let d2 = c.emit_plain.new.builder in
    on_ok c.emit_plain.result _ _ c.emit_plain.ensures (λ h.
    subst (λ (p : Polarity). Emits (data_piece (signed_term (is_positive p) x)) nowhere d d2) (sym c.in-Negative.is)
    (emits_then c.in_ok-emit_term.ensures h))
