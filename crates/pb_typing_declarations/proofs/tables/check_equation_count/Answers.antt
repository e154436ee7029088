use Rattle.std.proofs.Common.{refl, arith, length, false, map}
use Rattle.pb_base.specs.declared.limits.TheConstants.{MAX_EQUATIONS}
use Rattle.pb_text_tree.specs.Form.{equation_form}
use Rattle.pb_typing_declarations.specs.declared.fault.TypingRule.TheVariants.{Limit}
use Rattle.pb_base.specs.declared.or_memory.OrMemory.TheVariants.{Refused}
use Rattle.pb_typing_declarations.specs.Faults.{unless}
use Rattle.pb_typing_declarations.specs.Declarations.{limit_faults, equation_names}
use Rattle.pb_typing_declarations.proofs.Loops.{among_same}
use Rattle.pb_typing_declarations.proofs.EquationLemmas.{equation_beyond}
use Rattle.pb_typing_declarations.proofs.VariableLemmas.{below_length}
use Rattle.pb_typing_declarations.proofs.tables.check_equation_count.Goals as goal

pub returns-in-Some : goal.returns-in-Some
returns-in-Some c =
    let xs = c.args.equations.now in
    let X = c.in-Some.equation.now in
    among_same (limit_faults MAX_EQUATIONS (equation_names (map equation_form xs))) (unless false Limit X.name.place) (Refused (record { rule = Limit; place = X.name.place }))
    (equation_beyond xs MAX_EQUATIONS X (below_length MAX_EQUATIONS (length xs) c.in-Some.ensures.lookup.0) c.in-Some.ensures.lookup.1) (0, omega arith, refl)
