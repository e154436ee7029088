use Rattle.std.proofs.Common.{refl, arith, length, false}
use Rattle.pb_base.specs.declared.limits.TheConstants.{MAX_ENUMERATORS}
use Rattle.pb_typing_declarations.specs.declared.fault.TypingRule.TheVariants.{Limit}
use Rattle.pb_base.specs.declared.or_memory.OrMemory.TheVariants.{Refused}
use Rattle.pb_typing_declarations.specs.Faults.{unless}
use Rattle.pb_typing_declarations.proofs.Loops.{among_same}
use Rattle.pb_typing_declarations.proofs.Structs.{count_at, count_clear, count_faults}
use Rattle.pb_typing_declarations.proofs.VariableLemmas.{below_length, not_below_length}
use Rattle.pb_typing_declarations.proofs.definition.check_count.Goals as goal

pub returns-in-None : goal.returns-in-None
returns-in-None c =
    let es = c.args.enumerators.now in
    let few = not_below_length MAX_ENUMERATORS (length es) c.in-None.ensures.lookup.0 in
    (count_clear es MAX_ENUMERATORS few, few)

pub returns-in-Some : goal.returns-in-Some
returns-in-Some c =
    let es = c.args.enumerators.now in
    let e = c.in-Some.enumerator.now in
    among_same (count_faults es) (unless false Limit e.name.place) (Refused (record { rule = Limit; place = e.name.place }))
    (count_at es MAX_ENUMERATORS e (below_length MAX_ENUMERATORS (length es) c.in-Some.ensures.lookup.0) c.in-Some.ensures.lookup.1) (0, omega arith, refl)
