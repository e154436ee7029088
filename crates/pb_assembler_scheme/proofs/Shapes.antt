-- What is declared of sorts and enumerators, as programs know it.
use Rattle.std.proofs.Common.{◌≡◌, true, Option, Some, None, refl, sym, ap, subst}
use Rattle.std.specs.Prelude.{ℕ, List}
use Rattle.std.proofs.lemmas.Bool.{lt-ltb}
use Rattle.pb_bytecode_program.proofs.Ints.{from_le}
use Rattle.pb_sorts.specs.declared.carrier.Carrier.{Carrier}
use Rattle.pb_sorts.specs.declared.carrier.Carrier.TheVariants as carrier
use Rattle.pb_typing_declarations.specs.Shapes.{Shape}
use Rattle.pb_typing_declarations.specs.Entries.{carrier_shape}
use Rattle.pb_bytecode_program.specs.Values.{is_inhabited}
use Rattle.pb_bytecode_program.specs.Abstract.{abstraction_of}
pub use Rattle.pb_normal.specs.Structs.{IsDeclaredShape}
pub use Rattle.pb_normal.proofs.Structs.{IsPosition, struct_known, enumerator_known, recogniser_known, sort_known}
use Rattle.pb_assembler_scheme.proofs.AcceptedFormulas.{known_of}

-- ---- carriers of a shape

pub record HasCarrier (sizes : List ℕ) (o : Option Carrier) (s : Shape) : Type 0 where
  pub carrier : Carrier
  pub is : o ≡ Some carrier
  pub inhabited : is_inhabited carrier ≡ true
  pub known : abstraction_of carrier ≡ known_of s

pub has_carrier : (sizes : List ℕ) (o : Option Carrier) (s : Shape) → carrier_shape o ≡ s → IsDeclaredShape sizes s → HasCarrier sizes o s
has_carrier sizes None s e d = absurd (subst (IsDeclaredShape sizes) (sym e) d)
has_carrier sizes (Some carrier.Bool) s e d = record { carrier = carrier.Bool; is = refl; inhabited = refl; known = ap known_of e }
has_carrier sizes (Some (carrier.Enum n)) s e d =
    let h = subst (IsDeclaredShape sizes) (sym e) d in record { carrier = carrier.Enum n; is = refl; inhabited = lt-ltb 0 n.count h.1; known = ap known_of e }
has_carrier sizes (Some (carrier.Range r)) s e d =
    let h = subst (IsDeclaredShape sizes) (sym e) d in record { carrier = carrier.Range r; is = refl; inhabited = from_le r.low r.high h; known = ap known_of e }
