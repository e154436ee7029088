use Rattle.std.proofs.Common.{◌≡◌, ◌++◌, length, map}
use Rattle.pb_text_tree.specs.Form.{range_form}
use Rattle.pb_text_lexer.specs.Lexing.{start}
use Rattle.pb_text_lexer.specs.Remaining.{ranges_from, IsWithin}
use Rattle.pb_text_lexer.proofs.ranges.ranges.Given as goal

abbrev pub invariant-pieces : goal.invariant-pieces
invariant-pieces l = record {
  ranges : ranges_from l.language l.bytes 0 start ≡ map range_form l.ranges.items ++ ranges_from l.language l.rest 0 l.place;
  within : IsWithin l.place l.rest;
}

abbrev pub decreases-pieces : goal.decreases-pieces
decreases-pieces l = length l.rest
