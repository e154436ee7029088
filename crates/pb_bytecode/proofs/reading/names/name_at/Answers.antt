use Rattle.std.proofs.Common.{sym, ◌∙◌}
use Rattle.pb_bytecode.proofs.NameBytes.{IsUtf8-name}
use Rattle.pb_bytecode.proofs.reading.names.name_at.Goals as goal

pub unreachable-requires : goal.unreachable-requires
unreachable-requires c = c.in-Err.ensures.cases.0 (IsUtf8-name c.split_at.result.0.now (sym c.is_name.ensures ∙ c.if-not-is_name.false))
