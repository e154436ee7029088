use Rattle.std.proofs.Common.{◌≡◌, ◌++◌, drop, string_bytes}
use Rattle.std.specs.Prelude.{flat_map}
use Rattle.pb_protocol_scalar_sets.specs.Lines.{element_text}
use Rattle.pb_protocol_scalar_sets.specs.Sorts.{enumerators_in}
use Rattle.pb_protocol_scalar_sets.proofs.line.push_elements.Given as goal

-- what is written, and what is left to write
abbrev pub invariant-loop-element : goal.invariant-loop-element
invariant-loop-element l =
    string_bytes l.line ++ flat_map (element_text (enumerators_in l.enumerators)) (drop l.element-index l.elements)
    ≡ string_bytes l.initial.line ++ flat_map (element_text (enumerators_in l.enumerators)) l.elements
