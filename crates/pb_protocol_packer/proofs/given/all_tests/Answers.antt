use Rattle.std.proofs.Common.{◌∙◌, ◌+◌, ◌++◌, List, ap, append_assoc, drop, refl}
use Rattle.pb_text_meaning.specs.Syntax.{Term}
use Rattle.pb_model_meaning.specs.Steps.{assigned_term}
use Rattle.pb_protocol_packing.specs.Packing.{all_tests, tests_of}
use Rattle.pb_protocol_packer.specs.declared.member.Member.{Member}
use Rattle.pb_protocol_packer.specs.View.{name_bytes}
use Rattle.pb_protocol_packer.specs.Members.{member_of, members_said}
use Rattle.pb_protocol_packer.specs.Given.{given_in, terms_in}
use Rattle.pb_protocol_packer.proofs.LoopRows.{loop-goes, row-ends}
use Rattle.pb_protocol_packer.proofs.given.all_tests.Goals as goal

pub loop-member-preserved : goal.loop-member-preserved
loop-member-preserved c =
    let new = assigned_term (given_in c.args.given.now) in
    let p = c.member-item.result in
    let old = terms_in c.loop-member.tests.items in
    let rest = all_tests new (members_said (drop (c.loop-member.member-index + 1) c.args.members.now)) in
    loop-goes (λ (qs : List Member). old ++ all_tests new (members_said qs)) c.args.members.now c.loop-member.member-index p _ _ c.loop-member-test.true c.member-item.is
    (ap (λ (xs : List Term). xs ++ rest) c.in_ok-push_test.ensures ∙ append_assoc old (tests_of (new (name_bytes p.variable.name)) (member_of p)) rest) c.loop-member.invariant

pub returns : goal.returns
returns c =
    row-ends (λ (qs : List Member). all_tests (assigned_term (given_in c.args.given.now)) (members_said qs)) (terms_in c.loop-member.tests.items) c.args.members.now
    c.loop-member.member-index _ refl c.loop-member-test.false c.loop-member.invariant
