use Rattle.std.proofs.Common.{◌≡◌, ◌<◌, ◌+◌, ◌*◌, Bool, false, drop, map, take}
use Rattle.pb_text_tree.specs.Form.{term_form}
use Rattle.pb_protocol_folding.specs.View as tree
use Rattle.pb_protocol_folding.specs.Kept.{joining}
use Rattle.pb_protocol_unfolding.specs.PutIn.{counted, joined}
use Rattle.pb_protocol_unfolder_terms.specs.Chains.{chain_term, operands_of}
use Rattle.pb_protocol_unfolder_terms.specs.Contexts.{folding_in}
use Rattle.pb_protocol_unfolder_terms.specs.Counted.{conditions_by}
use Rattle.pb_protocol_unfolder_terms.specs.Copies.{copies_by, copied_term}
use Rattle.pb_protocol_unfolder_terms.specs.Operands.{IsLeft}
use Rattle.pb_protocol_unfolder_terms.specs.Puts.{AreArguments, calculated_term, put, puts, truth_behind}
use Rattle.pb_protocol_unfolder_terms.proofs.MetLemmas.{IsChainOperand}
use Rattle.pb_protocol_unfolder_terms.specs.Unfolding.{IsUnfolded}
use Rattle.pb_protocol_unfolder_terms.specs.Values.{tuple_of}
use Rattle.pb_protocol_unfolder_terms.proofs.+unfolding.Given as goal

abbrev pub decreases-unfold::unfold_free : goal.decreases-unfold::unfold_free
decreases-unfold::unfold_free l = 8 * l.level.depth + 1

abbrev pub decreases-unfold::unfold_name : goal.decreases-unfold::unfold_name
decreases-unfold::unfold_name l = 8 * l.level.depth + 2

abbrev pub decreases-unfold::unfold : goal.decreases-unfold::unfold
decreases-unfold::unfold l = 8 * l.level.depth

abbrev pub decreases-unfold::unfold_opened : goal.decreases-unfold::unfold_opened
decreases-unfold::unfold_opened l = 8 * l.level.depth + 7

-- before a term is opened: what its parts are
abbrev pub decreases-connectives::unfold_operands : goal.decreases-connectives::unfold_operands
decreases-connectives::unfold_operands l = 8 * l.level.depth + 4

abbrev pub decreases-connectives::unfold_copies : goal.decreases-connectives::unfold_copies
decreases-connectives::unfold_copies l = 8 * l.level.depth + 4

abbrev pub decreases-connectives::unfold_quantified : goal.decreases-connectives::unfold_quantified
decreases-connectives::unfold_quantified l = 8 * l.level.depth + 5

abbrev pub decreases-applications::unfold_application : goal.decreases-applications::unfold_application
decreases-applications::unfold_application l = 8 * l.level.depth + 6

abbrev pub decreases-applications::unfold_arguments : goal.decreases-applications::unfold_arguments
decreases-applications::unfold_arguments l = 8 * l.level.depth + 4

abbrev pub decreases-applications::unfold_choice : goal.decreases-applications::unfold_choice
decreases-applications::unfold_choice l = 8 * l.level.depth + 4

abbrev pub decreases-applications::unfold_function : goal.decreases-applications::unfold_function
decreases-applications::unfold_function l = 8 * l.level.depth + 5

abbrev pub decreases-applications::unfold_arithmetic : goal.decreases-applications::unfold_arithmetic
decreases-applications::unfold_arithmetic l = 8 * l.level.depth + 4

abbrev pub decreases-reads::unfold_element : goal.decreases-reads::unfold_element
decreases-reads::unfold_element l = 8 * l.level.depth + 2

abbrev pub decreases-reads::unfold_known : goal.decreases-reads::unfold_known
decreases-reads::unfold_known l = 8 * l.level.depth + 3

abbrev pub decreases-reads::unfold_choices : goal.decreases-reads::unfold_choices
decreases-reads::unfold_choices l = 8 * l.level.depth

abbrev pub decreases-reads::unfold_read : goal.decreases-reads::unfold_read
decreases-reads::unfold_read l = 8 * l.level.depth + 1

abbrev pub decreases-counting::unfold_one : goal.decreases-counting::unfold_one
decreases-counting::unfold_one l = 8 * l.level.depth + 1

abbrev pub decreases-counting::unfold_sum : goal.decreases-counting::unfold_sum
decreases-counting::unfold_sum l = 8 * l.level.depth + 2

abbrev pub decreases-counting::unfold_counted : goal.decreases-counting::unfold_counted
decreases-counting::unfold_counted l = 8 * l.level.depth + 3

abbrev pub decreases-counting::unfold_count : goal.decreases-counting::unfold_count
decreases-counting::unfold_count l = 8 * l.level.depth + 5

-- what is left of the chain from the operand on that comes next
abbrev pub invariant-connectives::unfold_operands-loop-link : goal.invariant-connectives::unfold_operands-loop-link
invariant-connectives::unfold_operands-loop-link l =
    let c = l.chain.connective in
    let n = l.level.definitions in
    IsLeft (folding_in l.context) c l.level.truth l.level.room
    (put l.context n l.scope (chain_term c (tree.term_of l.fn.chain.first.now) (operands_of l.fn.chain.links.now)))
    (put l.context n l.scope (chain_term c (tree.term_of l.term) (operands_of (drop l.link-index l.chain.links.now))))
    (operands_of l.before.items) l.room
    × IsChainOperand (term_form l.fn.chain.first.now) l.fn.chain.links.now (term_form l.term)

-- what is left of the copies from the tuple on that comes next
abbrev pub invariant-connectives::unfold_copies-loop-values : goal.invariant-connectives::unfold_copies-loop-values
invariant-connectives::unfold_copies-loop-values l =
    let q = l.quantified.quantifier in
    let n = l.level.definitions in
    let body = tree.term_of l.quantified.body.now in
    IsLeft (folding_in l.context) (joining q) l.level.truth l.level.room
    (copied_term l.context n l.scope q l.copies body)
    (joined q (drop l.values-index (copies_by l.context n l.scope l.copies body)))
    (operands_of l.before.items) l.room

-- the operands before the next one are unfolded; of more than one the truth may count
abbrev pub invariant-applications::unfold_arithmetic-loop-link : goal.invariant-applications::unfold_arithmetic-loop-link
invariant-applications::unfold_arithmetic-loop-link l =
    (truth : Bool) → (l.link-index ≡ 0 → truth ≡ false)
    → IsUnfolded (folding_in l.context) truth l.fn.level.room
    (put l.context l.fn.level.definitions l.scope (calculated_term (tree.term_of l.first) (take l.link-index l.links))) l.left

-- the arguments before the next one are unfolded; of the first the truth may count
abbrev pub invariant-applications::unfold_arguments-loop-argument : goal.invariant-applications::unfold_arguments-loop-argument
invariant-applications::unfold_arguments-loop-argument l =
    let ts = puts l.context l.fn.level.definitions l.scope (tree.terms_of (take l.argument-index l.arguments)) in
    AreArguments (folding_in l.context) l.fn.level.truth l.fn.level.room ts l.unfolded
    × (l.truth ≡ truth_behind l.fn.level.truth ts)

-- the sum of the tuples before the next one is unfolded, whatever counts of it
abbrev pub invariant-counting::unfold_sum-loop-index : goal.invariant-counting::unfold_sum-loop-index
invariant-counting::unfold_sum-loop-index l =
    (0 < l.index)
    × ((truth : Bool) → IsUnfolded (folding_in l.context) truth l.level.room
    (counted (conditions_by l.context l.level.definitions l.scope l.counted (map tuple_of (take l.index l.tuples)))) l.sum)
