-- What a protocol declares, by the set of elements that the code has.
use Rattle.std.specs.Prelude.{Bool, List}
use Rattle.pb_protocol_meaning.specs.Syntax.{Definition}
use Rattle.pb_protocol_symmetry.specs.Kinds.{Signature}
use Rattle.pb_protocol_symmetry.specs.ProtocolTest.{tested_signature, tested_signatures, are_defined}
use Rattle.pb_protocol_scalar_sets.specs.declared.scalar_set.ScalarSet.{ScalarSet}
use Rattle.pb_protocol_scalar_sets.specs.Sorts.{spec_of}

abbrev pub tested_signature_in : ScalarSet → List Signature → Definition → Signature
tested_signature_in s signatures d =
    tested_signature (spec_of s.protocol.now) s.sort.now s.moved.now signatures d

abbrev pub tested_in : ScalarSet → List Signature → List Definition → List Signature
tested_in s signatures ds =
    tested_signatures (spec_of s.protocol.now) s.sort.now s.moved.now signatures ds

abbrev pub are_defined_in : ScalarSet → List Signature → List Definition → Bool
are_defined_in s signatures ds =
    are_defined (spec_of s.protocol.now) s.sort.now s.moved.now signatures ds
