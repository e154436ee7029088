-- Reading a module from left to right, with the first fault that is met. Laws join this to the
-- spelling: what is read is spelled so, and what is spelled so is read.
use Rattle.std.specs.Prelude.{◌≡◌, ℕ, zero, suc, Bool, true, false, ◌==◌, nat_le, nat_lt, List, [], ◌∷◌, length, take, drop, Option, Some, None, Result, Ok, Err, slice_get, unwrap_or, if◌then◌else◌, ℤ, int_le, ◌+◌}
use Rattle.std.proofs.Common.{refl}
use Rattle.std.proofs.lemmas.Bool.{ltb-true}
use Rattle.std.specs.Int.{Width, w16, w32, w64, byte_len, from_le_bytes, cast_signed}
use Rattle.pb_base_values.specs.Carrier.{Tuple, contains}
use Rattle.pb_base.specs.OrMemory.{IfFault}
use Rattle.pb_base.specs.declared.or_memory.OrMemory.{OrMemory}
use Rattle.pb_fixpoint.specs.declared.Sign.{Sign}
use Rattle.pb_fixpoint.specs.declared.Sign.TheVariants.{Mu, Nu}
use Rattle.pb_base.specs.declared.limits.TheConstants.{MAX_STRUCTS, MAX_ENUMERATORS, MAX_EQUATIONS, MAX_PARAMETERS, MAX_LOOP_SLOTS}
use Rattle.pb_sorts.specs.Carrier.{values_of}
use Rattle.pb_sorts.specs.declared.carrier.Carrier.{Carrier}
use Rattle.pb_sorts.specs.declared.carrier.Carrier.TheVariants as carrier
use Rattle.pb_bytecode_program.specs.declared.instruction.Op.{Op}
use Rattle.pb_bytecode_program.specs.declared.instruction.Op.TheVariants as op
use Rattle.pb_bytecode_program.proofs.Ints.{le_true}
use Rattle.pb_bytecode_program.specs.declared.version.Version.{Version}
use Rattle.pb_bytecode_program.specs.declared.version.Version.TheVariants as version
use Rattle.pb_bytecode.specs.declared.format.Format.{Format}
use Rattle.pb_bytecode.specs.declared.format.Format.TheVariants as format
use Rattle.pb_bytecode.specs.declared.fault.ModuleRule.{ModuleRule}
use Rattle.pb_bytecode.specs.declared.fault.ModuleRule.TheVariants as rule
use Rattle.pb_bytecode.specs.declared.fault.FieldFault.{FieldFault}
use Rattle.pb_bytecode.specs.Contents.{Text, SortContents, EquationContents, InitialContents, Contents, counts}
use Rattle.pb_bytecode.specs.Names.{is_module_name}
use Rattle.pb_bytecode.specs.Formats.{format_of}
use Rattle.pb_bytecode.specs.Limits.{is_between, enumerator_count, parameters_if_any, instance_count}
use Rattle.pb_bytecode.specs.Spelling.{mark}

infixl 10 ◌>>=◌
abbrev pub ◌>>=◌ : {A B : Type 0} → Result A FieldFault → (A → Result B FieldFault)
    → Result B FieldFault
(Ok x) >>= f = f x
(Err e) >>= f = Err e

-- what a function returned, seen by view, is what reading gives
abbrev pub IsRead : {X Y : Type 0} → (X → Y) → Result X FieldFault → Result Y FieldFault → Type 0
IsRead view (Ok x) read = read ≡ Ok (view x)
IsRead view (Err f) read = read ≡ Err f

-- the same of a function that takes memory, unless memory ran out
abbrev pub Gives : {X Y : Type 0} → (X → Y) → Result X (OrMemory FieldFault) → Result Y FieldFault
    → Type 0
Gives view (Ok x) read = read ≡ Ok (view x)
Gives view (Err error) read = IfFault error (λ fault. read ≡ Err fault)

-- a value and the bytes behind it
abbrev pub Field : Type 0 → Type 0
Field A = Result (A × List ℕ) FieldFault

-- B03: the input ends in a field, so that no byte is left
abbrev pub truncated : FieldFault
truncated = record { rule = rule.Truncated; left = 0 }

-- the value, where there is one; else the fault stands where the field begins
abbrev pub known : {A : Type 0} → Option A → ModuleRule → List ℕ → List ℕ → Field A
known None r field rest = Err (record { rule = r; left = length field })
known (Some x) r field rest = Ok (x, rest)

-- a field whose value has to be one that f knows
abbrev pub checked : {A B : Type 0} → (List ℕ → Field A) → (A → Option B) → ModuleRule → List ℕ
    → Field B
checked read f r bytes = read bytes >>= λ x. known (f x.0) r bytes x.1

-- the value, where it passes the test
abbrev pub kept : {A : Type 0} → (A → Bool) → A → Option A
kept test x = if test x then Some x else None

-- ---- numbers

abbrev pub byte_at : List ℕ → Field ℕ
byte_at [] = Err truncated
byte_at (b ∷ bytes) = Ok (b, bytes)

abbrev pub number_at : Width → List ℕ → Field ℕ
number_at w bytes =
    if nat_lt (length bytes) (byte_len w) then Err truncated
    else Ok (from_le_bytes w (take (byte_len w) bytes), drop (byte_len w) bytes)

unfoldable pub signed_at : Width → List ℕ → Field ℤ
signed_at w bytes = do
  n ← number_at w bytes
  Ok (cast_signed w n.0, n.1)

-- a byte from low on, and below end; else B05
unfoldable pub between_at : ℕ → ℕ → List ℕ → Field ℕ
between_at low end bytes = checked byte_at (kept (is_between low end)) rule.Limit bytes

-- two bounds of a range; the second isn't below the first
unfoldable pub bounds_at : List ℕ → Field (ℤ × ℤ)
bounds_at bytes = do
  low ← signed_at w32 bytes
  high ← checked (signed_at w32) (kept (λ high. int_le low.0 high)) rule.Limit low.1
  Ok ((low.0, high.0), high.1)

-- ---- lists

abbrev pub items_at : {A : Type 0} → (List ℕ → Field A) → ℕ → List ℕ → Field (List A)
items_at item zero bytes = Ok ([], bytes)
items_at item (suc n) bytes =
    item bytes >>= λ first. items_at item n first.1 >>= λ others. Ok (first.0 ∷ others.0, others.1)

-- a byte for how many there are, from low on and below end, and then each
unfoldable pub counted_at : {A : Type 0} → ℕ → ℕ → (List ℕ → Field A) → List ℕ → Field (List A)
counted_at low end item bytes = do
  n ← between_at low end bytes
  items_at item n.0 n.1

-- ---- names, sorts and carriers

-- one field: the length and the bytes; B05 where they are no name
unfoldable pub name_at : List ℕ → Field Text
name_at bytes = do
  n ← byte_at bytes
  if nat_lt (length n.1) n.0 then Err truncated
      else known (kept is_module_name (take n.0 n.1)) rule.Limit bytes (drop n.0 n.1)

unfoldable pub sort_at : List ℕ → Field SortContents
sort_at bytes = counted_at 1 (MAX_ENUMERATORS + 1) name_at bytes

-- the carrier of these bounds, unless it is empty
abbrev pub range_from : (low high : ℤ) (b : Bool) → int_le low high ≡ b → Option Carrier
range_from low high true h =
    Some (carrier.Range (record { low = low; high = high; not_empty = le_true low high h }))
range_from low high false h = None

-- the carrier of this sort, unless it is empty
abbrev pub enum_from : (s n : ℕ) (b : Bool) → nat_lt 0 n ≡ b → Option Carrier
enum_from s n true h =
    Some (carrier.Enum (record { sort = s; count = n; not_empty = ltb-true 0 n h }))
enum_from s n false h = None

unfoldable pub enum_at : List ℕ → List ℕ → Field Carrier
enum_at sizes bytes =
    checked byte_at
    (λ s. enum_from s (enumerator_count sizes s) (nat_lt 0 (enumerator_count sizes s)) refl)
    rule.Limit bytes

unfoldable pub range_at : List ℕ → Field Carrier
range_at bytes = do
  low ← signed_at w32 bytes
  checked (signed_at w32) (λ high. range_from low.0 high (int_le low.0 high) refl) rule.Limit low.1

abbrev pub tagged_at : List ℕ → ℕ → List ℕ → Field Carrier
tagged_at sizes zero bytes = Ok (carrier.Bool, bytes)
tagged_at sizes (suc zero) bytes = enum_at sizes bytes
tagged_at sizes (suc (suc n)) bytes = range_at bytes

unfoldable pub carrier_at : List ℕ → List ℕ → Field Carrier
carrier_at sizes bytes = do
  tag ← between_at 0 3 bytes
  tagged_at sizes tag.0 tag.1

-- ---- instructions

-- a sort and the place of one of its enumerators
unfoldable pub enumerator_at : List ℕ → List ℕ → Field (ℕ × ℕ)
enumerator_at sizes bytes = do
  s ← between_at 0 (length sizes) bytes
  i ← between_at 0 (enumerator_count sizes s.0) s.1
  Ok ((s.0, i.0), i.1)

-- two bounds and a target
unfoldable pub test_at : List ℕ → Field ((ℤ × ℤ) × ℕ)
test_at bytes = do
  b ← bounds_at bytes
  to ← number_at w16 b.1
  Ok ((b.0, to.0), to.1)

-- a slot, two bounds and a target
unfoldable pub slot_test_at : List ℕ → Field (ℕ × ((ℤ × ℤ) × ℕ))
slot_test_at bytes = do
  slot ← byte_at bytes
  t ← test_at slot.1
  Ok ((slot.0, t.0), t.1)

-- a field, as an instruction's operands
abbrev pub made : {A B : Type 0} → (A → B) → Field A → Field B
made f field = field >>= λ x. Ok (f x.0, x.1)

-- what follows the code of this format
abbrev pub operands_at : List ℕ → Format → List ℕ → Field Op
operands_at sizes (format.Plain i) bytes = Ok (i, bytes)
operands_at sizes format.Int bytes = made (λ k. op.PushInt k) (signed_at w64 bytes)
operands_at sizes format.Bool bytes = made (λ b. op.PushBool (b == 1)) (between_at 0 2 bytes)
operands_at sizes format.Enumerator bytes =
    made (λ e. op.PushEnum e.0 e.1) (enumerator_at sizes bytes)
operands_at sizes format.Get bytes = made (λ slot. op.Get slot) (byte_at bytes)
operands_at sizes format.Jump bytes = made (λ to. op.Jump to) (number_at w16 bytes)
operands_at sizes (format.JumpIf on) bytes = made (λ to. op.JumpIf on to) (number_at w16 bytes)
operands_at sizes format.InRange bytes = made (λ t. op.InRange t.0.0 t.0.1 t.1) (test_at bytes)
operands_at sizes format.Loop bytes = made (λ slot. op.Loop slot) (byte_at bytes)
operands_at sizes format.Call bytes = made (λ equation. op.Call equation) (byte_at bytes)
operands_at sizes format.SlotInRange bytes =
    made (λ t. op.SlotInRange t.0 t.1.0.0 t.1.0.1 t.1.1) (slot_test_at bytes)

-- an instruction whose code the version has; else B04
unfoldable pub op_at : Version → List ℕ → List ℕ → Field Op
op_at v sizes bytes = do
  f ← checked byte_at (format_of v) rule.UnknownOp bytes
  operands_at sizes f.0 f.1

unfoldable pub code_at : Version → List ℕ → List ℕ → Field (List Op)
code_at v sizes bytes = do
  n ← checked (number_at w16) (kept (λ n. nat_le 1 n)) rule.Limit bytes
  items_at (op_at v sizes) n.0 n.1

-- ---- modules

abbrev pub sign_of : ℕ → Option Sign
sign_of zero = Some Mu
sign_of (suc zero) = Some Nu
sign_of (suc (suc n)) = None

-- 0 or 1; else B05
unfoldable pub sign_at : List ℕ → Field Sign
sign_at bytes = checked byte_at sign_of rule.Limit bytes

unfoldable pub equation_at : Version → List ℕ → List ℕ → Field EquationContents
equation_at v sizes bytes = do
  sign ← sign_at bytes
  name ← name_at sign.1
  parameters ← counted_at 0 (MAX_PARAMETERS + 1) (carrier_at sizes) name.1
  loops ← counted_at 0 (MAX_LOOP_SLOTS + 1) (carrier_at sizes) parameters.1
  steps ← number_at w32 loops.1
  tokens ← number_at w32 steps.1
  code ← code_at v sizes tokens.1
  Ok (
    record {
      sign = sign.0;
      name = name.0;
      parameters = parameters.0;
      loops = loops.0;
      steps = steps.0;
      tokens = tokens.0;
      code = code.0;
    },
    code.1,
  )

-- B01: the first byte that differs
abbrev pub expect : List ℕ → List ℕ → Field (Unit {0})
expect [] bytes = Ok (tt, bytes)
expect (m ∷ ms) [] = Err truncated
expect (m ∷ ms) (b ∷ bytes) =
    if b == m then expect ms bytes else Err (record { rule = rule.Mark; left = length (b ∷ bytes) })

-- one field of four bytes
unfoldable pub mark_at : List ℕ → Field (Unit {0})
mark_at bytes = if nat_lt (length bytes) 4 then Err truncated else expect mark bytes

abbrev pub version_of : ℕ → Option Version
version_of (suc zero) = Some version.One
version_of (suc (suc zero)) = Some version.Two
version_of _ = None

-- version 1 or 2; else B02
unfoldable pub version_at : List ℕ → Field Version
version_at bytes = checked byte_at version_of rule.Version bytes

-- a value of the carrier; else B07
unfoldable pub value_in_carrier : Carrier → List ℕ → Field ℤ
value_in_carrier c bytes =
    checked (signed_at w64) (kept (contains (values_of c))) rule.Initial bytes

-- a value of each carrier
abbrev pub values_at : List Carrier → List ℕ → Field Tuple
values_at [] bytes = Ok ([], bytes)
values_at (c ∷ cs) bytes =
    value_in_carrier c bytes >>= λ z. values_at cs z.1 >>= λ zs. Ok (z.0 ∷ zs.0, zs.1)

-- the carriers of an equation's parameters
abbrev pub parameters_at : List EquationContents → ℕ → List Carrier
parameters_at equations e = unwrap_or (parameters_if_any (slice_get equations e)) []

-- an equation that is there, with a value for each parameter; else B07
unfoldable pub initial_at : List EquationContents → List ℕ → Field InitialContents
initial_at equations bytes = do
  e ← checked byte_at (kept (λ e. nat_lt e (length equations))) rule.Initial bytes
  values ← values_at (parameters_at equations e.0) e.1
  Ok (record { equation = e.0; values = values.0 }, values.1)

-- equations with no more instances than the limit; else the fault (B05) stands behind them
unfoldable pub equations_at : ℕ → Version → List ℕ → List ℕ → Field (List EquationContents)
equations_at limit v sizes bytes = do
  equations ← counted_at 1 (MAX_EQUATIONS + 1) (equation_at v sizes) bytes
  known (kept (λ es. nat_le (instance_count es) limit) equations.0) rule.Limit equations.1
      equations.1

-- a module with no more instances than the limit
unfoldable pub contents_at : ℕ → List ℕ → Field Contents
contents_at limit bytes = do
  mark ← mark_at bytes
  v ← version_at mark.1
  sorts ← counted_at 0 (MAX_STRUCTS + 1) sort_at v.1
  equations ← equations_at limit v.0 (counts sorts.0) sorts.1
  initial ← initial_at equations.0 equations.1
  Ok (
    record { version = v.0; sorts = sorts.0; equations = equations.0; initial = initial.0 },
    initial.1,
  )

-- all of the bytes; where some stand behind the module, B06
unfoldable pub all_of : ℕ → List ℕ → Result Contents FieldFault
all_of limit bytes = do
  m ← contents_at limit bytes
  if length m.1 == 0 then Ok m.0 else Err (record { rule = rule.Trailing; left = length m.1 })
