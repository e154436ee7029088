use Rattle.pb_assembler_places.proofs.Nesting.{most_loops}
use Rattle.pb_assembler_places.proofs.ReachedTexts.{most_operands, most_brackets, texts_hold}
use Rattle.pb_assembler_places.proofs.places.places_hold_what_is_counted.Goals as goal

pub returns : goal.returns
returns c = record { operands = most_operands; brackets = most_brackets; loops = most_loops; well_typed = texts_hold }
