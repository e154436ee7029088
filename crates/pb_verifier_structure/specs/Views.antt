-- The part of a program that the rules by position and the static counts read.
use Rattle.std.specs.Prelude.{◌≡◌, length}
use Rattle.pb_bytecode_program.specs.Machine.{Program}
use Rattle.pb_verifier_structure.specs.declared.equation_code.EquationCode.{EquationCode}

-- the program has this code, with these parameters and loop slots, in a system of this many
-- equations
pub record IsProgramOf (p : Program) (code : EquationCode) : Type 0 where
  pub same_code : p.code ≡ code.instructions.now
  pub same_parameters : p.parameters ≡ code.parameters.now
  pub same_loops : p.loops ≡ code.loops.now
  pub same_equations : length p.callees ≡ code.equations
