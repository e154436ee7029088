use Rattle.std.proofs.Common.{sym, arith}
use Rattle.std.proofs.lemmas.Bool.{ne_eqb}
use Rattle.std.proofs.lemmas.Option.{slice_get-get_or, slice_get_past}
use Rattle.pb_bytecode.specs.Formats.{first_formats}
use Rattle.pb_bytecode.proofs.format.format_of.Goals as goal

pub returns-then-code-lt37 : goal.returns-then-code-lt37
returns-then-code-lt37 c = rw (ne_eqb c.args.code 37 c.if-code-eq-SLOT_IN_RANGE.false) (sym (slice_get-get_or first_formats c.args.code _ c.if-code-lt37.true))

pub returns-else-code-lt37 : goal.returns-else-code-lt37
returns-else-code-lt37 c = rw (ne_eqb c.args.code 37 c.if-code-eq-SLOT_IN_RANGE.false) (sym (slice_get_past first_formats c.args.code (omega (arith, c.if-code-lt37.false))))
