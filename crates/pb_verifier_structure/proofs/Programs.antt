-- A program with given code.
use Rattle.std.proofs.Common.{[], replicate, refl}
use Rattle.std.proofs.Math.ListN.{length-replicate}
use Rattle.pb_bytecode_program.specs.Machine.{Program}
use Rattle.pb_verifier_structure.specs.declared.equation_code.EquationCode.{EquationCode}
use Rattle.pb_verifier_structure.specs.Views.{IsProgramOf}

abbrev pub some_program : EquationCode → Program
some_program code =
    record {
      sorts = [];
      callees = replicate code.equations [];
      parameters = code.parameters.now;
      loops =
          code.loops.now;
      stated_steps = 0;
      stated_tokens = 0;
      code = code.instructions.now;
    }

pub of_code : (code : EquationCode) → IsProgramOf (some_program code) code
of_code code = record { same_code = refl; same_parameters = refl; same_loops = refl; same_equations = length-replicate code.equations [] }
