-- Which contents a module may have. Each test is one that computes, so that it can stand in an
-- invariant.
use Rattle.std.specs.Prelude.{ℕ, ◌+◌, ◌^◌, Bool, true, false, ◌&&◌, ◌==◌, nat_le, nat_lt, List, [], ◌∷◌, length, map, Option, Some, None, unwrap_or, slice_get, ℤ, pos, negsuc, int_le}
use Rattle.std.specs.List.{list_all}
use Rattle.pb_base_values.specs.Carrier.{Tuple, is_within, tuple_count}
use Rattle.pb_base.specs.declared.limits.TheConstants.{MAX_STRUCTS, MAX_ENUMERATORS, MAX_EQUATIONS, MAX_PARAMETERS, MAX_LOOP_SLOTS, MAX_INSTRUCTIONS}
use Rattle.pb_sorts.specs.declared.counting.TheConstants.{MAX_NUMBERS}
use Rattle.pb_sorts.specs.Carrier.{values_of}
use Rattle.pb_sorts.specs.declared.carrier.Carrier.{Carrier}
use Rattle.pb_sorts.specs.declared.carrier.Carrier.TheVariants as carrier
use Rattle.pb_bytecode_program.specs.Values.{fits64}
use Rattle.pb_bytecode_program.specs.declared.instruction.Op.{Op}
use Rattle.pb_bytecode_program.specs.declared.instruction.Op.TheVariants as op
use Rattle.pb_bytecode_program.specs.declared.version.Version.{Version}
use Rattle.pb_bytecode_program.specs.declared.version.Version.TheVariants as version
use Rattle.pb_bytecode.specs.Contents.{SortContents, EquationContents, InitialContents, Contents, counts}
use Rattle.pb_bytecode.specs.Names.{is_module_name}

-- ---- numbers

abbrev pub is_byte : ℕ → Bool
is_byte n = nat_lt n 256

abbrev pub is_u16 : ℕ → Bool
is_u16 n = nat_lt n (2 ^ 16)

abbrev pub is_u32 : ℕ → Bool
is_u32 n = nat_lt n (2 ^ 32)

abbrev pub is_i32 : ℤ → Bool
is_i32 z = int_le (negsuc 2147483647) z && int_le z (pos 2147483647)

abbrev pub is_i64 : ℤ → Bool
is_i64 z = fits64 z z

-- from low on, and below end
abbrev pub is_between : ℕ → ℕ → ℕ → Bool
is_between low end n = nat_le low n && nat_lt n end

-- two bounds of a range that isn't empty
abbrev pub are_bounds : ℤ → ℤ → Bool
are_bounds low high = (is_i32 low && is_i32 high) && int_le low high

-- ---- sorts and carriers

-- a sort has 1 to MAX_ENUMERATORS enumerators
abbrev pub fits_sort : SortContents → Bool
fits_sort names = is_between 1 (MAX_ENUMERATORS + 1) (length names) && list_all is_module_name names

-- how many enumerators a sort has
abbrev pub enumerator_count : List ℕ → ℕ → ℕ
enumerator_count sizes s = unwrap_or (slice_get sizes s) 0

-- a place in the list of sorts
abbrev pub is_sort : List ℕ → ℕ → Bool
is_sort sizes s = is_byte s && nat_lt s (length sizes)

abbrev pub fits_carrier : List ℕ → Carrier → Bool
fits_carrier sizes carrier.Bool = true
fits_carrier sizes (carrier.Enum enum) =
    is_byte enum.sort && enum.count == enumerator_count sizes enum.sort
fits_carrier sizes (carrier.Range range) = are_bounds range.low range.high

-- ---- instructions

abbrev pub is_second : Version → Bool
is_second version.One = false
is_second version.Two = true

-- Enumerators are there, and ranges aren't empty. Slots, callees and targets are a verifier's
-- matter.
abbrev pub fits_op : Version → List ℕ → Op → Bool
fits_op v sizes (op.PushInt k) = is_i64 k
fits_op v sizes (op.PushEnum s i) =
    is_sort sizes s && (is_byte i && nat_lt i (enumerator_count sizes s))
fits_op v sizes (op.Get slot) = is_byte slot
fits_op v sizes (op.Jump to) = is_u16 to
fits_op v sizes (op.JumpIf on to) = is_u16 to
fits_op v sizes (op.InRange low high to) = are_bounds low high && is_u16 to
fits_op v sizes (op.SlotInRange slot low high to) =
    is_second v && (is_byte slot && (are_bounds low high && is_u16 to))
fits_op v sizes (op.Loop slot) = is_byte slot
fits_op v sizes (op.Call equation) = is_byte equation
fits_op v sizes _ = true

-- ---- equations

-- at most MAX_PARAMETERS parameters and MAX_LOOP_SLOTS loop slots, and 1 to MAX_INSTRUCTIONS
-- instructions
abbrev pub fits_equation : Version → List ℕ → EquationContents → Bool
fits_equation v sizes e =
    is_module_name e.name
    && ((is_between 0 (MAX_PARAMETERS + 1) (length e.parameters)
    && list_all (fits_carrier sizes) e.parameters)
    && ((is_between 0 (MAX_LOOP_SLOTS + 1) (length e.loops)
    && list_all (fits_carrier sizes) e.loops)
    && (is_u32 e.steps
    && (is_u32 e.tokens
    && (is_between 1 (MAX_INSTRUCTIONS + 1) (length e.code)
    && list_all (fits_op v sizes) e.code)))))

-- how many instances the equations' predicate variables have
abbrev pub instance_count : List EquationContents → ℕ
instance_count [] = 0
instance_count (e ∷ es) = tuple_count (map values_of e.parameters) + instance_count es

-- ---- modules

abbrev pub parameters_if_any : Option EquationContents → Option (List Carrier)
parameters_if_any None = None
parameters_if_any (Some e) = Some e.parameters

-- numbers of 64 bits, one of each carrier
abbrev pub fits_values : List Carrier → Tuple → Bool
fits_values carriers values = list_all is_i64 values && is_within (map values_of carriers) values

abbrev pub is_tuple : Option (List Carrier) → Tuple → Bool
is_tuple None values = false
is_tuple (Some parameters) values = fits_values parameters values

-- the initial instance is of an equation that is there, with values of its parameters' carriers
abbrev pub fits_initial : List EquationContents → InitialContents → Bool
fits_initial equations i =
    is_byte i.equation && is_tuple (parameters_if_any (slice_get equations i.equation)) i.values

-- at most MAX_STRUCTS sorts, 1 to MAX_EQUATIONS equations, and MAX_NUMBERS instances over all
-- carriers: who reads a module may allow fewer
abbrev pub fits : Contents → Bool
fits m =
    (is_between 0 (MAX_STRUCTS + 1) (length m.sorts) && list_all fits_sort m.sorts)
    && ((is_between 1 (MAX_EQUATIONS + 1) (length m.equations)
    && list_all (fits_equation m.version (counts m.sorts)) m.equations)
    && (nat_le (instance_count m.equations) MAX_NUMBERS
    && fits_initial m.equations m.initial))
