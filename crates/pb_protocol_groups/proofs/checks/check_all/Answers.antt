-- The parts of what is tested.
use Rattle.std.proofs.Common.{flat_map, rules}
use Rattle.pb_base.specs.declared.or_memory.OrMemory.TheVariants.{Refused}
use Rattle.pb_typing_declarations.specs.Faults.{IsAmong}
use Rattle.pb_typing_declarations.proofs.Parts.{among_left, among_right}
use Rattle.pb_model_tree.specs.Form.{model_form}
use Rattle.pb_model_meaning.specs.Erase.{erase}
use Rattle.pb_protocol_groups.specs.Checks.{count_faults, chain_faults, listed_faults, state_faults, test_faults}
use Rattle.pb_protocol_groups.proofs.Packable.{all-tested}
use Rattle.pb_protocol_groups.proofs.checks.check_all.Goals as goal

pub returns-in_err-check_state : goal.returns-in_err-check_state
returns-in_err-check_state c =
    let m = model_form c.args.model.now in
    let e = c.in_err-check_state.field-0.0 in
    let h : IsAmong (test_faults m) e = among_left (state_faults m) _ e c.in_err-check_state.ensures in
    search rules

pub returns-in_err-check_enumerators : goal.returns-in_err-check_enumerators
returns-in_err-check_enumerators c =
    let m = model_form c.args.model.now in
    let e = c.in_err-check_enumerators.field-0.0 in
    let h : IsAmong (test_faults m) e = among_right (state_faults m) _ e (among_left (listed_faults m) _ e c.in_err-check_enumerators.ensures) in
    search rules

pub returns-in_err-check_ends : goal.returns-in_err-check_ends
returns-in_err-check_ends c =
    let m = model_form c.args.model.now in
    let f = c.in_err-check_ends.field-0.0 in
    let h : IsAmong (test_faults m) (Refused f) =
    among_right (state_faults m) _ (Refused f) (among_right (listed_faults m) _ (Refused f)
    (among_left (flat_map (chain_faults (erase m)) m.sorts) (count_faults m) (Refused f) c.in_err-check_ends.ensures)) in
    search rules

pub returns : goal.returns
returns c = all-tested (model_form c.args.model.now) c.check_count.result c.in_ok-check_state.ensures c.in_ok-check_enumerators.ensures c.in_ok-check_ends.ensures c.check_count.ensures
