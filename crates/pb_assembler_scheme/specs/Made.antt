-- The scheme's program of a text's equation, with the carriers and sorts that the text declares.
use Rattle.std.specs.Prelude.{◌≡◌, List, map}
use Rattle.pb_text_meaning.specs.Syntax.{Equation, Spec}
use Rattle.pb_typing_declarations.specs.Shapes.{Shape}
use Rattle.pb_bytecode_program.specs.Machine.{Program}
use Rattle.pb_normal.specs.Equations.{normal_equation}
use Rattle.pb_normal.specs.Loops.{variable_shapes}
pub use Rattle.pb_normal.specs.Structs.{with_count, struct_counts}
use Rattle.pb_normal.specs.View.{shapes_of}
use Rattle.pb_assembler_scheme.specs.Correct.{IsCompiled}

-- the kinds and intervals of each equation's parameters
abbrev pub parameter_shapes : Spec → List Equation → List (List Shape)
parameter_shapes spec E = map (λ (X : Equation). variable_shapes spec X.parameters) E

pub record IsMadeOf (spec : Spec) (X : Equation) (p : Program) : Type 0 where
  pub compiled : IsCompiled p (normal_equation spec X)
  pub sorts : p.sorts ≡ struct_counts spec.sorts
  pub parameters : shapes_of p.parameters ≡ variable_shapes spec X.parameters
  pub callees : map shapes_of p.callees ≡ parameter_shapes spec spec.equations
