use Rattle.std.proofs.Common.{[], refl}
use Rattle.pb_text_meaning.specs.Functions.{named_function}
use Rattle.pb_protocol_meaning.specs.Examples as protocol
use Rattle.pb_protocol_symmetry.specs.Examples as example
use Rattle.pb_protocol_symmetry.proofs.ProtocolTest.{formulas-tested, protocols-tested}
use Rattle.pb_protocol_symmetry.proofs.worked_examples.Goals as goal

pub returns : goal.returns
unfolding named_function
returns c = record {
  symmetric = protocols-tested protocol.caches example.cache_sort example.both_caches refl;
  one_writer = formulas-tested protocol.caches example.cache_sort example.both_caches example.signatures [] protocol.one_writer refl;
  reads_share = formulas-tested protocol.caches example.cache_sort example.both_caches example.signatures [] protocol.reads_share refl;
  named = refl;
  fixed = refl;
  ordered = refl;
  each_node = protocols-tested (example.ballot example.all_seen) example.node_sort example.three_nodes refl;
  last_node = refl;
  third = refl;
  third_again = refl;
  counted = refl;
}
