-- The set has the names that it was filled with.
use Rattle.std.proofs.Common.{◌≡◌, ◌∙◌, Bool, flat_map, ap, sym, subst, rules}
use Rattle.std.proofs.Math.Path.{fun_ext}
use Rattle.std.specs.Prelude.{Contains}
use Rattle.pb_base.specs.declared.or_memory.OrMemory.TheVariants.{Refused}
use Rattle.pb_text_meaning.specs.Syntax.{Name}
use Rattle.pb_typing_declarations.specs.Faults.{IsAmong}
use Rattle.pb_protocol_typing.specs.View.{names_in}
use Rattle.pb_protocol_packer.specs.Initial.{names_by}
use Rattle.pb_protocol_groups.specs.Checks.{taken_faults, taken_faults_by}
use Rattle.pb_protocol_groups.proofs.checks.check_none_among.Goals as goal

pub returns-in_err-check_each : goal.returns-in_err-check_each
returns-in_err-check_each c =
    let f = c.in_err-check_each.field-0.0 in
    let others = names_in c.args.others.now in
    let h : IsAmong (flat_map (taken_faults (names_by c.args.names.now)) others) (Refused f) =
    subst (λ (has : Name → Bool). Contains (flat_map (taken_faults_by has) others) f) (fun_ext c.in_ok-taken.ensures) c.in_err-check_each.ensures in
    search rules

pub returns : goal.returns
returns c =
    ap (λ (has : Name → Bool). flat_map (taken_faults_by has) (names_in c.args.others.now)) (sym (fun_ext c.in_ok-taken.ensures)) ∙ c.in_ok-check_each.ensures
