use Rattle.std.proofs.Common.{◌≡◌, drop}
use Rattle.pb_protocol_packing.specs.Numbers.{is_one_of}
use Rattle.pb_protocol_packer.specs.View.{term_of, texts_of}
use Rattle.pb_protocol_packer.proofs.enumerators.is_one_of.Given as goal

-- the term is that of the enumerators from the index on
abbrev pub invariant-loop-index : goal.invariant-loop-index
invariant-loop-index l = term_of l.term ≡ is_one_of (texts_of (drop l.index l.enumerators)) (term_of l.value)
