use Rattle.std.proofs.Common.{rules, ◌≡◌, ◌∙◌, ◌+◌, ◌/◌, ◌%◌, ◌++◌, ℕ, pos, ◌+ℤ◌, List, [], ◌∷◌, ap, sym, append_assoc, drop}
use Rattle.std.proofs.lemmas.List.{at_drop_more}
use Rattle.pb_base_values.specs.Carrier.{Tuple}
use Rattle.pb_protocol_packing.specs.Unpacked.{digits}
use Rattle.pb_protocol_packer.specs.declared.member.Member.{Member}
use Rattle.pb_protocol_packer.specs.Members.{members_said}
use Rattle.pb_protocol_packer.proofs.Weights.{weighted-at}
use Rattle.pb_protocol_packer.proofs.unpacking.push_digits.Goals as goal

pub loop-member-preserved : goal.loop-member-preserved
loop-member-preserved c =
    let ms = c.args.members.now in
    let k = c.loop-member.member-index in
    let p = c.member-item.result in
    let n = c.loop-member.left in
    let old = c.loop-member.state.items in
    let after = members_said (drop (k + 1) ms) in
    let weighted = weighted-at ms k p c.loop-member-test.true c.member-item.is c.loop-member.invariant.1 in
    let more : c.push.new.self.items ≡ old ++ (p.low +ℤ pos (n / p.weight)) ∷ [] = search rules in (
      ap (λ (xs : Tuple). xs ++ digits after (n % p.weight)) more
          ∙ append_assoc old ((p.low +ℤ pos (n / p.weight)) ∷ []) (digits after (n % p.weight))
          ∙ ap (λ (w : ℕ). old ++ (p.low +ℤ pos (n / w)) ∷ digits after (n % w)) weighted.weight
          ∙ ap (λ (q : Member). old ++ digits (members_said (q ∷ drop (k + 1) ms)) n) c.member-item.is
          ∙ sym (at_drop_more (λ (qs : List Member). old ++ digits (members_said qs) n) ms k p c.loop-member-test.true)
          ∙ c.loop-member.invariant.0,
      weighted.others,
    )
