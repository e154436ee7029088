use Rattle.std.proofs.Common.{◌≡◌, subst, Err, arith}
use Rattle.pb_base.specs.OrMemory.{IfFault}
use Rattle.pb_sorts.specs.Counting.{instance_limit}
use Rattle.pb_bytecode.specs.Reading.{all_of}
use Rattle.pb_bytecode.specs.Views.{contents_of}
use Rattle.pb_bytecode.proofs.ModuleLaws.{all_takes, all_within, few_instances, fits_all, read_one, read_none}
use Rattle.pb_bytecode.proofs.decode.decode_counting.Goals as goal

pub invariant_of-result : goal.invariant_of-result
invariant_of-result c =
    let read = contents_of c.in-Ok.version c.in-Ok.sorts.items c.in-Ok.equations.items c.in-Ok.initial in
    record {
      within_limits =
          fits_all c.args.counting read
          (all_takes (instance_limit c.args.counting) c.args.bytes.now read (λ i. omega (arith, c.type_inv.bytes i)) c.in-Ok.ensures).1;
    }

pub overflow_sub-result : goal.overflow_sub-result
overflow_sub-result c =
    let met : all_of (instance_limit c.args.counting) c.args.bytes.now ≡ Err c.in-Err-Refused.fault =
    subst (λ e. IfFault e (λ f. all_of (instance_limit c.args.counting) c.args.bytes.now ≡ Err f)) c.in-Err-Refused.field-0-is c.in-Err-Refused.ensures in
    all_within (instance_limit c.args.counting) c.args.bytes.now c.in-Err-Refused.fault (λ i. omega (arith, c.type_inv.bytes i)) met

pub returns-in-Ok-clause-spelled : goal.returns-in-Ok-clause-spelled
returns-in-Ok-clause-spelled c =
    (all_takes (instance_limit c.args.counting) c.args.bytes.now
    (contents_of c.in-Ok.version c.in-Ok.sorts.items c.in-Ok.equations.items c.in-Ok.initial)
    (λ i. omega (arith, c.type_inv.bytes i)) c.in-Ok.ensures).0

pub returns-in-Ok-clause-few : goal.returns-in-Ok-clause-few
returns-in-Ok-clause-few c =
    let read = contents_of c.in-Ok.version c.in-Ok.sorts.items c.in-Ok.equations.items c.in-Ok.initial in
    few_instances (instance_limit c.args.counting) read
    (all_takes (instance_limit c.args.counting) c.args.bytes.now read (λ i. omega (arith, c.type_inv.bytes i)) c.in-Ok.ensures).1

pub returns-in-Ok-clause-read : goal.returns-in-Ok-clause-read
returns-in-Ok-clause-read c = λ m h few e.
    read_one (instance_limit c.args.counting) c.args.bytes.now
    (contents_of c.in-Ok.version c.in-Ok.sorts.items c.in-Ok.equations.items c.in-Ok.initial) m h few e c.in-Ok.ensures

pub returns-in-Err-Refused-clause-read : goal.returns-in-Err-Refused-clause-read
returns-in-Err-Refused-clause-read c =
    let met : all_of (instance_limit c.args.counting) c.args.bytes.now ≡ Err c.in-Err-Refused.fault =
    subst (λ e. IfFault e (λ f. all_of (instance_limit c.args.counting) c.args.bytes.now ≡ Err f)) c.in-Err-Refused.field-0-is c.in-Err-Refused.ensures in
    λ m h few e. read_none (instance_limit c.args.counting) c.args.bytes.now c.in-Err-Refused.fault m h few e met

pub returns-in-Err-Refused-clause-fault : goal.returns-in-Err-Refused-clause-fault
returns-in-Err-Refused-clause-fault c =
    let met : all_of (instance_limit c.args.counting) c.args.bytes.now ≡ Err c.in-Err-Refused.fault =
    subst (λ e. IfFault e (λ f. all_of (instance_limit c.args.counting) c.args.bytes.now ≡ Err f)) c.in-Err-Refused.field-0-is c.in-Err-Refused.ensures in
    let within = all_within (instance_limit c.args.counting) c.args.bytes.now c.in-Err-Refused.fault (λ i. omega (arith, c.type_inv.bytes i)) met in
    record { left = c.in-Err-Refused.fault.left; first = met; place = omega arith }
