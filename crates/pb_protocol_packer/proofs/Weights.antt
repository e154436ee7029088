-- What each variable of a group counts.
use Rattle.std.proofs.Common.{◌≡◌, ℕ, ◌<◌, ◌+◌, true, List, ◌∷◌, length, get_or, drop, sym, ap, ◌∙◌}
use Rattle.std.specs.Prelude.{nat_eq, nat_lt, ◌&&◌}
use Rattle.std.proofs.lemmas.Bool.{and_parts, eqb-true, ltb-true}
use Rattle.std.proofs.lemmas.List.{at_drop_more}
use Rattle.pb_protocol_packing.specs.Packing.{capacity}
use Rattle.pb_protocol_packer.specs.declared.member.Member.{Member}
use Rattle.pb_protocol_packer.specs.Members.{are_weighted, members_said}

pub record IsWeighted (p : Member) (ps : List Member) : Type 0 where
  pub weight : p.weight ≡ capacity (members_said ps)
  pub some : 0 < p.weight
  pub others : are_weighted ps ≡ true

pub first-weighted : (p : Member) (ps : List Member) → are_weighted (p ∷ ps) ≡ true → IsWeighted p ps
first-weighted p ps h =
    let both = and_parts (nat_eq p.weight (capacity (members_said ps))) (nat_lt 0 p.weight && are_weighted ps) h in
    let rest = and_parts (nat_lt 0 p.weight) (are_weighted ps) both.1 in
    record { weight = eqb-true p.weight (capacity (members_said ps)) both.0; some = ltb-true 0 p.weight rest.0; others = rest.1 }

-- the one at a place
pub weighted-at : (ps : List Member) (k : ℕ) (p : Member) → k < length ps → p ≡ get_or ps k p → are_weighted (drop k ps) ≡ true → IsWeighted p (drop (k + 1) ps)
weighted-at ps k p less is h =
    first-weighted p (drop (k + 1) ps)
    (ap (λ (q : Member). are_weighted (q ∷ drop (k + 1) ps)) is ∙ sym (at_drop_more are_weighted ps k p less) ∙ h)
