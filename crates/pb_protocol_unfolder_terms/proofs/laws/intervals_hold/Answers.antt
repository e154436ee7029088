use Rattle.pb_protocol_unfolder_terms.proofs.HeldLemmas.{intervals_hold}
use Rattle.pb_protocol_unfolder_terms.proofs.HeldNames.{elements_may_be_of_their_array, variables_hold}
use Rattle.pb_protocol_unfolder_terms.proofs.laws.intervals_hold.Goals as goal

pub returns : goal.returns
returns c = record { terms = intervals_hold; variables = variables_hold; elements = elements_may_be_of_their_array }
