-- What a writer asks of the parts of a module: that their counts fit the fields.
use Rattle.std.specs.Prelude.{◌<◌, ◌^◌, vec_len}
use Rattle.pb_bytecode.specs.declared.equation.Equation.{Equation}

pub record HasCountableParts (e : Equation) : Type 0 where
  pub parameters : vec_len e.parameters < 256
  pub loops : vec_len e.loops < 256
  pub code : vec_len e.code < 2 ^ 16
