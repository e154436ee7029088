-- Carriers that are read.
use Rattle.std.proofs.Common.{◌≡◌, ℕ, ◌<◌, Bool, true, false, List, length, Some, Ok, Err, get_or, refl, ap}
use Rattle.std.specs.Prelude.{ℤ, ◌≤ℤ◌, int_le, nat_lt}
use Rattle.std.specs.Int.{w32}
use Rattle.std.proofs.Props.{props}
use Rattle.std.proofs.lemmas.Bool.{lt-ltb}
use Rattle.std.proofs.lemmas.Option.{unwrap_or-slice_get}
use Rattle.pb_sorts.specs.Carrier.{IsRange}
use Rattle.pb_bytecode.specs.declared.fault.ModuleRule.TheVariants as rule
use Rattle.pb_sorts.specs.declared.carrier.Carrier.{Carrier}
use Rattle.pb_sorts.specs.declared.carrier.Carrier.TheVariants as carrier
use Rattle.pb_sorts.specs.declared.carrier.Range.{Range}
use Rattle.pb_sorts.specs.declared.carrier.Enumeration.{Enumeration}
use Rattle.pb_bytecode_program.proofs.Ints.{from_le}
use Rattle.pb_bytecode.specs.Limits.{enumerator_count}
use Rattle.pb_bytecode.specs.Reading.{byte_at, signed_at, range_from, enum_from, range_at, enum_at}

le_is_prop : (a b : ℤ) (p q : a ≤ℤ b) → p ≡ q
le_is_prop a b = hlevel props

lt_is_prop : (a b : ℕ) (p q : a < b) → p ≡ q
lt_is_prop a b = hlevel props

pub range_again : (r : Range) (b : Bool) (h : int_le r.low r.high ≡ b) → range_from r.low r.high b h ≡ Some (carrier.Range r)
range_again r true h = ap (λ (p : r.low ≤ℤ r.high). Some (carrier.Range (record { low = r.low; high = r.high; not_empty = p }))) (le_is_prop r.low r.high _ r.not_empty)
range_again r false h = absurd (let e = from_le r.low r.high r.not_empty in cc)

pub enum_again : (e : Enumeration) (b : Bool) (h : nat_lt 0 e.count ≡ b) → enum_from e.sort e.count b h ≡ Some (carrier.Enum e)
enum_again e true h = ap (λ (p : 0 < e.count). Some (carrier.Enum (record { sort = e.sort; count = e.count; not_empty = p }))) (lt_is_prop 0 e.count _ e.not_empty)
enum_again e false h = absurd (let t = lt-ltb 0 e.count e.not_empty in cc)

pub ranges : (c : Carrier) (low high : ℤ) (bytes second rest : List ℕ) → IsRange c low high
    → signed_at w32 bytes ≡ Ok (low, second) → signed_at w32 second ≡ Ok (high, rest) → range_at bytes ≡ Ok (c, rest)
unfolding range_at
ranges carrier.Bool low high bytes second rest r p q = absurd r
ranges (carrier.Enum e) low high bytes second rest r p q = absurd r
ranges (carrier.Range x) low high bytes second rest r p q =
    let p' : signed_at w32 bytes ≡ Ok (x.low, second) = rw (r.0) p in
    let q' : signed_at w32 second ≡ Ok (x.high, rest) = rw (r.1) q in
    rw (p', q', range_again x (int_le x.low x.high) refl) refl

pub enum_read : (e : Enumeration) (sizes bytes rest : List ℕ) → byte_at bytes ≡ Ok (e.sort, rest) → enumerator_count sizes e.sort ≡ e.count → enum_at sizes bytes ≡ Ok (carrier.Enum e, rest)
unfolding enum_at
enum_read e sizes bytes rest p q = rw (p, q, enum_again e (nat_lt 0 e.count) refl) refl

-- no such sort
pub enum_none : (sizes bytes : List ℕ) (s : ℕ) (rest : List ℕ) → byte_at bytes ≡ Ok (s, rest)
    → enumerator_count sizes s ≡ 0 → enum_at sizes bytes ≡ Err (record { rule = rule.Limit; left = length bytes })
unfolding enum_at
enum_none sizes bytes s rest p q = rw (p, q) refl

pub count_is : (sizes : List ℕ) (s : ℕ) → enumerator_count sizes s ≡ get_or sizes s 0
count_is sizes s = unwrap_or-slice_get sizes s 0
