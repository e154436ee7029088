use Rattle.std.proofs.Common.{◌≡◌, ◌∙◌, ℕ, ◌-◌, ◌*◌, ◌∷◌, length, List, drop, ap, sym, subst, arith}
use Rattle.pb_base_values.specs.Carrier.{Carrier}
use Rattle.pb_model_meaning.specs.Erase.{model_of}
use Rattle.pb_protocol_packing.specs.Packing.{Member}
use Rattle.pb_protocol_packer.specs.declared.member.Member as declared_member
use Rattle.pb_protocol_packing.specs.Sizes.{is_few}
use Rattle.pb_protocol_groups.specs.Variables.{as_member, members_for, variable_of_state}
use Rattle.pb_protocol_groups.proofs.Links.{member-at-end}
use Rattle.pb_protocol_groups.proofs.Sizes.{AreMembers, many-times, more-members, refused-at, next-member}
use Rattle.pb_protocol_groups.proofs.members.few_members.Goals.{After-from-in-loop-index, After-size}
use Rattle.pb_protocol_groups.proofs.members.few_members.Goals as goal

-- how many values the variable has, and it has with those behind it
size-of : (c : After-size) → c.size.result ≡ (as_member (model_of c.args.model.now) c.index-variables-index.result).size
size-of c = c.size.ensures ∙ ap (λ (vs : Carrier). length vs) c.end_of-end.ensures.carrier

product-of : (c : After-from-in-loop-index) → c.size.result ≡ (as_member (model_of c.args.model.now) c.index-variables-index.result).size
    → c.from.result * c.from-in-loop-index.result ≡ (as_member (model_of c.args.model.now) c.index-variables-index.result).size * c.loop-index.capacity
product-of c size =
    let n = (as_member (model_of c.args.model.now) c.index-variables-index.result).size in
    let left : c.from.result ≡ c.in-Some.size = omega arith in
    let right : c.from-in-loop-index.result ≡ c.loop-index.capacity = omega arith in
    ap (λ (i : ℕ). i * c.from-in-loop-index.result) (left ∙ c.in-Some.ensures.0 ∙ size) ∙ ap (λ (i : ℕ). n * i) right

pub loop-index-preserved : goal.loop-index-preserved
loop-index-preserved c =
    let m = model_of c.args.model.now in
    let xs = c.args.variables.now in
    let x = c.index-variables-index.result in
    let product = product-of (goal.at.loop-index-preserved c).After-from-in-loop-index (size-of (goal.at.loop-index-preserved c).After-size) in
    let ps = members_for m (drop c.loop-index.index xs) in
    let made = c.loop-index.items.items in
    let y = c.in_ok-as_member.field-0 in
    let larger = c.in-Some-few.larger in
    let is = c.in_ok-as_member.ensures.member ∙ member-at-end m c.end_of-end.result (variable_of_state x) c.end_of-end.ensures.kind c.end_of-end.ensures.carrier in
    let h : AreMembers (as_member m x ∷ ps) (y ∷ made) larger =
    more-members (as_member m x) ps y made c.loop-index.capacity larger c.loop-index.invariant is c.in_ok-as_member.ensures.weight (c.in-Some-few.ensures.0 ∙ product) c.in-Some-few.ensures.1
    c.in-Some-few.ensures.2 in
    subst (λ (qs : List Member). AreMembers qs c.insert.new.self.items larger)
    (next-member m xs (c.loop-index.index - 1) c.loop-index.index x (omega (arith, c.loop-index-test.true)) (omega (arith, c.loop-index-test.true)) c.index-variables-index.is)
    (subst (λ (ms : List declared_member.Member). AreMembers (as_member m x ∷ ps) ms larger) (sym c.in_ok-insert.ensures.items) h)

pub returns-in_default : goal.returns-in_default
returns-in_default c =
    let m = model_of c.args.model.now in
    let x = c.index-variables-index.result in
    refused-at m c.args.variables.now (c.loop-index.index - 1) c.loop-index.index x c.loop-index.items.items c.loop-index.capacity
    (omega (arith, c.loop-index-test.true)) (omega (arith, c.loop-index-test.true)) c.index-variables-index.is c.loop-index.invariant
    (many-times (as_member m x).size c.loop-index.capacity (ap is_few (sym (size-of (goal.at.returns-in_default c).After-size)) ∙ c.in_default.ensures) c.loop-index.invariant.some)

pub returns-in_default-few : goal.returns-in_default-few
returns-in_default-few c =
    let product = product-of (goal.at.returns-in_default-few c).After-from-in-loop-index (size-of (goal.at.returns-in_default-few c).After-size) in
    refused-at (model_of c.args.model.now) c.args.variables.now (c.loop-index.index - 1) c.loop-index.index c.index-variables-index.result c.loop-index.items.items c.loop-index.capacity
    (omega (arith, c.loop-index-test.true)) (omega (arith, c.loop-index-test.true)) c.index-variables-index.is c.loop-index.invariant (ap is_few (sym product) ∙ c.in_default-few.ensures)
