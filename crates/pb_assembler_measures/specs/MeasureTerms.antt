-- How much the code of a data term takes.
use Rattle.std.specs.Prelude.{ℕ, suc, ◌+◌, max, min}
use Rattle.pb_text_tree.specs.declared.operator.Connective.{Connective}
use Rattle.pb_text_tree.specs.declared.operator.Connective.TheVariants as connective
use Rattle.pb_text_meaning.specs.Syntax.{Operator}
use Rattle.pb_normal.specs.Normal.{Term, Number, Slot, Negative, Absolute, Successor, Predecessor, Binary, Maximum, Minimum, Choice, Recognised}
use Rattle.pb_assembler_scheme.specs.Limits.{one_kept, term_operands}
use Rattle.pb_assembler_measures.specs.declared.measure_load.Load.{Load}

-- how many instructions an operator adds to those of its operands
abbrev pub binary_length : Operator → ℕ → ℕ
binary_length Operator.Implies n = suc (suc n)
binary_length _ n = suc n

-- how many instructions the code of a term has
abbrev pub term_length : Term → ℕ
term_length (Term.Truth b) = 1
term_length (Number n) = 1
term_length (Term.Enumerator s i) = 1
term_length (Slot s) = 1
term_length (Term.Not x) = suc (term_length x)
term_length (Negative x) = suc (term_length x)
term_length (Absolute x) = suc (term_length x)
term_length (Successor x) = suc (term_length x + 1)
term_length (Predecessor x) = suc (term_length x + 1)
term_length (Binary o x y) = binary_length o (term_length x + term_length y)
term_length (Maximum x y) = suc (term_length x + term_length y)
term_length (Minimum x y) = suc (term_length x + term_length y)
term_length (Choice c x y) = suc (suc (term_length c + (term_length x + term_length y)))
term_length (Recognised s i x) = suc (term_length x + 1)

-- counted no further than just above a million
abbrev pub capped : ℕ → ℕ
capped n = min n 1000001

abbrev pub term_load : Term → Load
term_load t = record { instructions = term_length t; operands = term_operands t }

abbrev pub capped_load : Load → Load
capped_load l = record { instructions = capped l.instructions; operands = capped l.operands }

-- a push of one operand
abbrev pub single : Load
single = record { instructions = 1; operands = 1 }

-- an instruction behind
abbrev pub followed : Load → Load
followed l = record l { instructions = suc l.instructions }

-- the second one behind the first one, whose value is kept
abbrev pub both : Load → Load → Load
both l m = record {
  instructions = l.instructions + m.instructions;
  operands = one_kept l.operands m.operands;
}

-- the first one, and then one of the other two
abbrev pub choice_load : Load → Load → Load → Load
choice_load c l m = record {
  instructions = suc (suc (c.instructions + (l.instructions + m.instructions)));
  operands = max c.operands (max l.operands m.operands);
}

-- an operand of a connective behind the operands that follow it
abbrev pub connective_load : Connective → Load → Load → Load
connective_load connective.Implies behind operand = followed (followed (both behind operand))
connective_load _ behind operand = followed (both behind operand)
