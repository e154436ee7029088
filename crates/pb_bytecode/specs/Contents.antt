-- What a module says, without where it lies in memory.
use Rattle.std.specs.Prelude.{ℕ, List, map, length}
use Rattle.pb_base_values.specs.Carrier.{Tuple}
use Rattle.pb_fixpoint.specs.declared.Sign.{Sign}
use Rattle.pb_sorts.specs.declared.carrier.Carrier.{Carrier}
use Rattle.pb_bytecode_program.specs.declared.instruction.Op.{Op}
use Rattle.pb_bytecode_program.specs.declared.version.Version.{Version}

-- the bytes of a name
abbrev pub Text : Type 0
Text = List ℕ

-- the names of a sort's enumerators
abbrev pub SortContents : Type 0
SortContents = List Text

pub record EquationContents : Type 0 where
  pub sign : Sign
  pub name : Text
  pub parameters : List Carrier
  pub loops : List Carrier
  pub steps : ℕ
  pub tokens : ℕ
  pub code : List Op

-- an equation, by its place, and a value for each of its parameters
pub record InitialContents : Type 0 where
  pub equation : ℕ
  pub values : Tuple

pub record Contents : Type 0 where
  pub version : Version
  pub sorts : List SortContents
  pub equations : List EquationContents
  pub initial : InitialContents

-- how many enumerators each sort has
abbrev pub counts : List SortContents → List ℕ
counts sorts = map (λ names. length names) sorts
