-- Names are ASCII, so they are text.
use Rattle.std.proofs.Common.{◌≡◌, ℕ, zero, suc, ◌<◌, true, ◌&&◌, List, [], ◌∷◌, length, arith}
use Rattle.std.specs.Prelude.{nat_le}
use Rattle.std.specs.List.{list_all}
use Rattle.std.specs.Str.{IsAscii, IsUtf8}
use Rattle.std.proofs.lemmas.Bool.{and_parts, leb-true}
use Rattle.std.proofs.lemmas.Str.{IsUtf8-from_ascii}
use Rattle.pb_base.specs.declared.limits.TheConstants.{MAX_NAME_BYTES}
use Rattle.pb_bytecode.specs.Names.{is_name_byte, begins_with_letter, is_module_name}

name_byte_ascii : (b : ℕ) → is_name_byte b ≡ true → b < 128
name_byte_ascii b e = grind arith

all_ascii : (bs : List ℕ) → list_all is_name_byte bs ≡ true → IsAscii bs
all_ascii [] e i = omega arith
all_ascii (b ∷ bs) e zero = name_byte_ascii b (and_parts (is_name_byte b) (list_all is_name_byte bs) e).0
all_ascii (b ∷ bs) e (suc i) = all_ascii bs (and_parts (is_name_byte b) (list_all is_name_byte bs) e).1 i

pub IsUtf8-name : (bs : List ℕ) → is_module_name bs ≡ true → IsUtf8 bs
IsUtf8-name bs e =
    let rest = and_parts (begins_with_letter bs) (nat_le (length bs) MAX_NAME_BYTES && list_all is_name_byte bs) e in
    IsUtf8-from_ascii bs (all_ascii bs (and_parts (nat_le (length bs) MAX_NAME_BYTES) (list_all is_name_byte bs) rest.1).1)

pub name_short : (bs : List ℕ) → is_module_name bs ≡ true → length bs < 256
name_short bs e =
    let rest = and_parts (begins_with_letter bs) (nat_le (length bs) MAX_NAME_BYTES && list_all is_name_byte bs) e in
    let le = leb-true (length bs) MAX_NAME_BYTES (and_parts (nat_le (length bs) MAX_NAME_BYTES) (list_all is_name_byte bs) rest.1).0 in
    omega arith
