use Rattle.std.proofs.Common.{sym}
use Rattle.std.proofs.lemmas.Result.{err_from_is_err_and}
use Rattle.pb_bytecode_program.specs.Machine.{Program}
use Rattle.pb_verifier_structure.specs.Views.{IsProgramOf}
use Rattle.pb_verifier_structure.specs.declared.equation_code.EquationCode.{EquationCode}
use Rattle.pb_verifier.specs.Names.{program_in_module}
use Rattle.pb_base.proofs.Faults.{if_fault, if_refused}
use Rattle.pb_verifier.proofs.Steps.{where_ok}
use Rattle.pb_verifier.proofs.Equations.{broken_structure, not_enough, enough, table_found, no_table}
use Rattle.pb_verifier.proofs.equation.check_equation.Goals as goal
use Rattle.pb_verifier.proofs.equation.check_equation.Goals.{After-equation_count}

abbrev program : After-equation_count → Program
program c = program_in_module c.args.checked.now

abbrev code : After-equation_count → EquationCode
code c = record { instructions = c.deref.result; parameters = c.deref-2.result; loops = c.deref-3.result; equations = c.equation_count.result }

is_program : (c : After-equation_count) → IsProgramOf (program c) (code c)
is_program c = record {
  same_code = sym c.deref.ensures.value;
  same_parameters = sym c.deref-2.ensures.value;
  same_loops = sym c.deref-3.ensures.value;
  same_equations = sym c.equation_count.ensures.count;
}

pub returns-in_err-check_structure-clause-refused : goal.returns-in_err-check_structure-clause-refused
returns-in_err-check_structure-clause-refused c =
    let at = (goal.at.returns-in_err-check_structure-clause-refused c).After-equation_count in
    let e = err_from_is_err_and c.from_residual.result c.from_residual.ensures.1 in
    rw (e.1, e.2) (if_fault c.in_err-check_structure.field-0.0 (λ fault. broken_structure (program at) (code at) (is_program at)) c.in_err-check_structure.ensures.refused)

pub are_enough-requires : goal.are_enough-requires
are_enough-requires c = c.in_ok-check_structure.ensures.ok

pub returns-then-not-are_enough-clause-refused : goal.returns-then-not-are_enough-clause-refused
returns-then-not-are_enough-clause-refused c =
    let at = (goal.at.returns-then-not-are_enough-clause-refused c).After-equation_count in
    not_enough (program at) c.are_enough.result (c.are_enough.ensures (program at) (is_program at)).1 c.if-not-are_enough.true

pub returns-clause-accepted : goal.returns-clause-accepted
returns-clause-accepted c =
    let at = (goal.at.returns-clause-accepted c).After-equation_count in
    where_ok c.pass.result
    (λ e. table_found (program at) (c.in_ok-check_structure.ensures.ok (program at) (is_program at)) c.args.checked.now.within_limits
    (enough (program at) c.are_enough.result (c.are_enough.ensures (program at) (is_program at)).0 c.if-not-are_enough.false) e) c.pass.ensures.passes

pub returns-clause-refused : goal.returns-clause-refused
returns-clause-refused c =
    let at = (goal.at.returns-clause-refused c).After-equation_count in
    if_refused c.pass.result (λ fault e. no_table (program at) (c.in_ok-check_structure.ensures.ok (program at) (is_program at)) c.args.checked.now.within_limits e) c.pass.ensures.refused
