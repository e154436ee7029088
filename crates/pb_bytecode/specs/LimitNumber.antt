-- The numbers by which a user sees which limit of the machine an equation's code exceeds.
use Rattle.std.specs.Prelude.{ℕ, List, codes}
use Rattle.pb_bytecode.specs.declared.limit.Limit.{Limit}
use Rattle.pb_bytecode.specs.declared.limit.Limit.TheVariants as limit

abbrev pub limit_number : Limit → List ℕ
limit_number limit.Instructions = codes "C01"
limit_number limit.Operands = codes "C02"
limit_number limit.Brackets = codes "C03"
limit_number limit.Loops = codes "C04"
limit_number limit.Steps = codes "C05"
limit_number limit.Tokens = codes "C06"
