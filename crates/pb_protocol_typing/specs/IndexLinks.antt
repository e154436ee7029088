-- Which names stand in operands that are joined, and which of these read the state, link by link.
use Rattle.std.specs.Prelude.{Bool}
use Rattle.pb_text_tree.specs.declared.term.TermLink.{TermLink}
use Rattle.pb_text_tree.specs.declared.term.ArithmeticLink.{ArithmeticLink}
use Rattle.pb_text_tree.specs.Form.{term_form}
use Rattle.pb_text_meaning.specs.Syntax.{Name}
use Rattle.pb_protocol_typing.specs.Indices.{stands_in}
use Rattle.pb_protocol_typing.specs.Scopes.{Scope}
use Rattle.pb_protocol_typing.specs.Terms.{reads_state}

abbrev pub operand_stands : Name → TermLink → Bool
operand_stands x link = stands_in x (term_form link.operand)

abbrev pub operation_stands : Name → ArithmeticLink → Bool
operation_stands x link = stands_in x (term_form link.operand)

abbrev pub operand_reads : Scope → TermLink → Bool
operand_reads s link = reads_state s (term_form link.operand)

abbrev pub operation_reads : Scope → ArithmeticLink → Bool
operation_reads s link = reads_state s (term_form link.operand)
