-- The names of enumerators and of predicate variables.
use Rattle.std.specs.Prelude.{ℕ, Bool, false, ◌&&◌, nat_le, List, [], ◌∷◌, length}
use Rattle.std.specs.List.{list_all}
pub use Rattle.pb_base.specs.Names.{is_letter, is_name_byte}
use Rattle.pb_base.specs.declared.limits.TheConstants.{MAX_NAME_BYTES}

abbrev pub begins_with_letter : List ℕ → Bool
begins_with_letter [] = false
begins_with_letter (b ∷ bs) = is_letter b

-- of 1 to MAX_NAME_BYTES bytes, the first of which is a letter or an underscore
abbrev pub is_module_name : List ℕ → Bool
is_module_name bs =
    begins_with_letter bs && (nat_le (length bs) MAX_NAME_BYTES && list_all is_name_byte bs)
