use Rattle.std.proofs.Common.{refl, arith, length, false}
use Rattle.pb_typing_declarations.specs.declared.fault.TypingRule.TheVariants.{Limit}
use Rattle.pb_base.specs.declared.or_memory.OrMemory.TheVariants.{Refused}
use Rattle.pb_typing_declarations.specs.Faults.{unless}
use Rattle.pb_typing_declarations.specs.Tables.{entry_names}
use Rattle.pb_typing_declarations.specs.Declarations.{limit_faults}
use Rattle.pb_typing_declarations.proofs.Loops.{among_same}
use Rattle.pb_typing_declarations.proofs.VariableLemmas.{limit_at, below_length}
use Rattle.pb_typing_declarations.proofs.tables.check_limit.Goals as goal

pub returns-in-Some : goal.returns-in-Some
returns-in-Some g c =
    let es = c.args.entries.now in
    let e = c.in-Some.entry.now in
    among_same (limit_faults c.args.limit (entry_names es)) (unless false Limit e.place) (Refused (record { rule = Limit; place = e.place }))
    (limit_at es c.args.limit e (below_length c.args.limit (length es) c.in-Some.ensures.lookup.0) c.in-Some.ensures.lookup.1) (0, omega arith, refl)
