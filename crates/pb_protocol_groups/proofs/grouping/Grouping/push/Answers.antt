use Rattle.std.proofs.Common.{◌∙◌, ◌++◌, Bool, List, refl, ap, sym, subst}
use Rattle.std.specs.Prelude.{codes}
use Rattle.pb_base.specs.declared.or_memory.OrMemory.TheVariants.{Refused}
use Rattle.pb_typing_declarations.specs.declared.fault.TypingRule.TheVariants.{Limit}
use Rattle.pb_typing_declarations.specs.Faults.{unless, IsAmong}
use Rattle.pb_text_meaning.specs.Syntax.{Variable}
use Rattle.pb_model_meaning.specs.Erase.{model_of}
use Rattle.pb_protocol_packing.specs.Packing.{Member, Joined}
use Rattle.pb_protocol_packing.specs.Groups.{unused_name}
use Rattle.pb_protocol_packer.specs.Members.{members_said}
use Rattle.pb_protocol_groups.specs.Taken.{taken_of}
use Rattle.pb_protocol_groups.specs.Groups.{named_variable}
use Rattle.pb_protocol_groups.specs.Variables.{members_for, variable_of_state}
use Rattle.pb_protocol_groups.proofs.Cuts.{AreFound, are-few, makes-several, occupied, refused, several}
use Rattle.pb_protocol_groups.proofs.grouping.Grouping.push.Goals as goal

pub returns-in_default-2-clause-few : goal.returns-in_default-2-clause-few
returns-in_default-2-clause-few c =
    let m = model_of c.args.model.now in
    let p = c.args.model.now.initial.place in
    let many = subst (AreFound m c.args.variables.now) c.in_default-2.is c.in_ok-members.ensures in
    subst (λ (b : Bool). IsAmong (unless b Limit p) (Refused (record { rule = Limit; place = p })))
    (sym (makes-several m c.args.variables.now c.in-Some.first.now c.in-Some.others.now c.in-Some.ensures.cases.0 (occupied _ _ c.is_empty.ensures c.if-is_empty.false) ∙ many)) (refused p)

pub returns-clause-made : goal.returns-clause-made
returns-clause-made c others =
    let same = subst (AreFound (model_of c.args.model.now) c.args.variables.now) c.in-Some-2.is c.in_ok-members.ensures in
    let taken = taken_of c.args.self.now.names in
    let x = unused_name taken ((variable_of_state c.in-Some.first.now).name ++ codes "'") in
    several (model_of c.args.model.now) taken (taken_of c.group_variable.new.names) c.args.self.now.groups.items c.push-2.new.self.items _ x c.args.variables.now c.in-Some.others.now
    c.in-Some.first.now
    c.in_ok-push-2.ensures.items
    (ap (λ (v : Variable). Joined v (members_said c.in-Some-2.members.items.items)) c.in_ok-variable.ensures.variable ∙ ap (λ (ps : List Member). Joined (named_variable x) ps) same)
    c.in_ok-variable.ensures.taken refl c.in-Some.ensures.cases.0 (occupied _ _ c.is_empty.ensures c.if-is_empty.false) others

pub returns-clause-few : goal.returns-clause-few
returns-clause-few c =
    let m = model_of c.args.model.now in
    let ms = c.in-Some-2.members in
    let same = subst (AreFound m c.args.variables.now) c.in-Some-2.is c.in_ok-members.ensures in
    ap (λ (b : Bool). unless b Limit c.args.model.now.initial.place)
    (makes-several m c.args.variables.now c.in-Some.first.now c.in-Some.others.now c.in-Some.ensures.cases.0 (occupied _ _ c.is_empty.ensures c.if-is_empty.false)
    ∙ are-few (members_for m c.args.variables.now) (members_said ms.items.items) ms.capacity same ms.counted ms.some ms.few)
