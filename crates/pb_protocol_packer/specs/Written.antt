-- Terms that are one token: truth values, numbers and names.
use Rattle.std.specs.Prelude.{ℕ, ℤ, pos, neg_ℤ, Bool, nat_lt, ◌^◌, if◌then◌else◌, Option, Some, None}
use Rattle.pb_text_meaning.specs.Syntax as syntax
use Rattle.pb_text_meaning.specs.Syntax.{Name}
use Rattle.pb_protocol_packer.specs.View.{name_bytes}
use Rattle.pb_protocol_packer.specs.declared.seen.Written as declared_written
use Rattle.pb_protocol_packer.specs.declared.seen.Written.TheVariants as seen

pub data Written : Type 0 where
  Truth : Bool → Written
  Number : ℕ → Written
  Named : Name → Written
  Other : Written

abbrev pub written_in : syntax.Term → Written
written_in (syntax.Term.Truth b) = Truth b
written_in (syntax.Term.Number n) = Number n
written_in (syntax.Term.Named x) = Named x
written_in x = Other

abbrev pub written_of : declared_written.Written → Written
written_of (seen.Truth b) = Truth b
written_of (seen.Number n) = Number n
written_of (seen.Name n) = Named (name_bytes n.now)
written_of seen.Other = Other

-- a small number that is written
abbrev pub small_in : Written → Option ℕ
small_in (Number n) = if nat_lt n (2 ^ 32) then Some n else None
small_in x = None

-- a written number below a limit
abbrev pub below_in : ℕ → Written → Option ℕ
below_in limit (Number n) = if nat_lt n limit then Some n else None
below_in limit x = None

-- the whole number that is written, and with `-` in front
abbrev pub number_in : Written → Option ℤ
number_in (Number n) = Some (pos n)
number_in x = None

abbrev pub negated_in : Written → Option ℤ
negated_in (Number n) = Some (neg_ℤ (pos n))
negated_in x = None

-- the whole number that a term is written as
abbrev pub written_number : syntax.Term → Option ℤ
written_number (syntax.Term.Negative x) = negated_in (written_in x)
written_number x = number_in (written_in x)
