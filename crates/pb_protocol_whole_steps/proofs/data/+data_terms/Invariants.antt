use Rattle.std.proofs.Common.{◌≡◌, drop, map}
use Rattle.std.specs.List.{list_all}
use Rattle.pb_protocol_folding.specs.View.{terms_of}
use Rattle.pb_protocol_unfolding.specs.Whole as whole
use Rattle.pb_protocol_whole_steps.specs.View.{is_data_link, is_data_operation, name_in}
use Rattle.pb_protocol_whole_steps.proofs.data.+data_terms.Given as goal

abbrev pub invariant-are_absent-loop-argument : goal.invariant-are_absent-loop-argument
invariant-are_absent-loop-argument l = whole.are_absent (map name_in l.own) (terms_of (drop l.argument-index l.arguments)) ≡ whole.are_absent (map name_in l.own) (terms_of l.arguments)

abbrev pub invariant-are_data_links-loop-link : goal.invariant-are_data_links-loop-link
invariant-are_data_links-loop-link l = list_all (is_data_link (map name_in l.own) l.free) (drop l.link-index l.links) ≡ list_all (is_data_link (map name_in l.own) l.free) l.links

abbrev pub invariant-are_data_operations-loop-link : goal.invariant-are_data_operations-loop-link
invariant-are_data_operations-loop-link l = list_all (is_data_operation (map name_in l.own) l.free) (drop l.link-index l.links) ≡ list_all (is_data_operation (map name_in l.own) l.free) l.links
