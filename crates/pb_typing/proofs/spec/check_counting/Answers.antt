use Rattle.std.proofs.Common.{ap}
use Rattle.pb_sorts.specs.Counting.{instance_limit}
use Rattle.pb_sorts.specs.declared.counting.Counting.{Counting}
use Rattle.pb_sorts.specs.declared.counting.TheConstants.{MAX_NUMBERS}
use Rattle.pb_text_meaning.specs.Syntax.{Spec}
use Rattle.pb_typing_declarations.proofs.DeclaredLaw.{within_numbers}
use Rattle.pb_typing_rules.specs.WellTyped.{IsWellTypedWithin}
use Rattle.pb_text_tree.specs.Form.{spec_form}
use Rattle.pb_typing_rules.proofs.WellTypedLemmas.{well_typed, faultless, ill_typed}
use Rattle.pb_typing.specs.Typed.{is_none}
use Rattle.pb_typing.proofs.spec.check_counting.Goals as goal

-- what is within a limit is within the widest
wide : (counting : Counting) (spec : Spec) → IsWellTypedWithin (instance_limit counting) spec → IsWellTypedWithin MAX_NUMBERS spec
wide counting spec h = record { typed = h.typed; few = h.typed.declarations.few_instances }

pub invariant_of-result : goal.invariant_of-result
invariant_of-result c =
    let checked = c.in-Ok.ensures.1 in
    record {
      faultless = ap is_none (faultless (spec_form c.args.spec) (wide c.args.counting _ (well_typed (spec_form c.args.spec) (within_numbers c.args.counting) c.in-Ok.ensures.0)));
      laid_out = checked.laid_out;
      rights = checked.rights;
      loops =
          checked.loops;
      calls = checked.calls;
      asked = checked.asked;
    }

pub returns-in-Ok-clause-accepted : goal.returns-in-Ok-clause-accepted
returns-in-Ok-clause-accepted c = well_typed (spec_form c.args.spec) (within_numbers c.args.counting) c.in-Ok.ensures.0

pub returns-in-Err-clause-ill_typed : goal.returns-in-Err-clause-ill_typed
returns-in-Err-clause-ill_typed c = ill_typed (instance_limit c.args.counting) (spec_form c.args.spec) c.in-Err.error c.in-Err.ensures
