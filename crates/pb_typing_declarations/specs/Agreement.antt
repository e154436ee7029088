-- Tables that say what a specification declares.
use Rattle.std.specs.Prelude.{◌≡◌, ℕ, Option, position}
use Rattle.pb_sorts.specs.declared.carrier.Range.{Range}
use Rattle.pb_text_meaning.specs.Syntax.{Name, same_name, Equation, Spec}
use Rattle.pb_typing_declarations.specs.declared.definition.Definition.{Definition}
use Rattle.pb_typing_declarations.specs.declared.definition.DataName.{DataName}
use Rattle.pb_typing_declarations.specs.Shapes.{first, definitions, range_bounds}
use Rattle.pb_typing_declarations.specs.Enumerators.{enumerator_of, recogniser_of}
use Rattle.pb_typing_declarations.specs.Tables.{Table, entry_of}
use Rattle.pb_typing_declarations.specs.Entries.{definition_in, range_in, as_enumerator}
use Rattle.pb_typing_declarations.specs.Entries.{as_recogniser}

-- the place of the first equation with this name
abbrev pub equation_place : Spec → Name → Option ℕ
equation_place S x = position (λ (X : Equation). same_name X.name x) S.equations

pub record AreTables (S : Spec) (sorts : Table Definition) (ranges : Table Range)
    (names : Table DataName) (equations : Table ℕ) : Type 0 where
  pub definitions : (x : Name) → definition_in sorts x ≡ first (definitions S) x
  pub bounds : (x : Name) → range_in ranges x ≡ first (range_bounds S.ranges) x
  pub enumerators : (x : Name) → as_enumerator (entry_of names x) ≡ enumerator_of S x
  pub recognisers : (x : Name) → as_recogniser (entry_of names x) ≡ recogniser_of S x
  pub places : (x : Name) → entry_of equations x ≡ equation_place S x
