use Rattle.std.proofs.Common.{◌+◌, [], map, drop, codes, string_bytes, arith}
use Rattle.std.specs.Prelude.{if◌then◌else◌}
use Rattle.pb_protocol_packer.specs.Members.{members_said}
use Rattle.pb_protocol_packer.proofs.Weights.{weighted-at}
use Rattle.pb_model_words.specs.GroupLines.{counted_text, times_text, summands}
use Rattle.pb_model_words.specs.View.{variable_said}
use Rattle.pb_model_words.proofs.Listed.{went-on, ended}
use Rattle.pb_model_words.proofs.Summands.{summands-at, summands-end}
use Rattle.pb_model_words.proofs.group_lines.push_sum.Goals as goal

pub loop-k-preserved : goal.loop-k-preserved
loop-k-preserved c =
    let xs = c.args.variables.now in
    let ps = c.args.members.now in
    let k = c.loop-k.k in
    let x = c.index-variables-k.result in
    let p = c.index-members-k.result in
    let weighted = weighted-at ps k p (omega arith) c.index-members-k.is c.loop-k.invariant.1 in
    let at = summands-at xs ps k x p p.weight (omega arith) (omega arith) c.index-variables-k.is c.index-members-k.is weighted.weight in (
      went-on (string_bytes c.loop-k.text) (string_bytes c.push_mark.new.text) (string_bytes c.push_summand.new.text) (if c.loop-k.is_first then [] else codes " + ") (codes " + ")
          (times_text (counted_text (variable_said x).name.text p.low) p.weight) _
          (summands (map variable_said (drop k xs)) (members_said (drop k ps)))
          (summands (map variable_said (drop (k + 1) xs)) (members_said (drop (k + 1) ps)))
          c.loop-k.invariant.0 at c.in_ok-push_mark.ensures c.in_ok-push_summand.ensures,
      weighted.others,
    )

pub returns : goal.returns
returns c =
    let none = summands-end c.args.variables.now c.args.members.now c.loop-k.k (omega arith) in
    ended _ _ _ _ _ c.loop-k.invariant.0 none
