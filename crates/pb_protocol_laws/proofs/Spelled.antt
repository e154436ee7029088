-- Written values of sorts have words, and can stand in names.
use Rattle.std.proofs.Common.{◌≡◌, ℕ, zero, suc, Bool, true, false, true≢false, ◌||◌, sym, if◌then◌else◌, List, [], ◌∷◌, map, length, refl, arith}
use Rattle.std.specs.Prelude.{ℤ, pos, negsuc, ◌+ℤ◌, ◌-ℤ◌, ◌≤ℤ◌, Option, Some, None, codes, ◌==◌}
use Rattle.std.specs.Char.{is_ascii_digit}
use Rattle.std.specs.List.{list_all}
use Rattle.std.proofs.lemmas.Bool.{and_from, and_parts}
use Rattle.std.proofs.lemmas.Int.{ints}
use Rattle.pb_base_values.specs.Carrier.{numbers_from, at_least_none, interval}
use Rattle.pb_text_lexer.specs.Bytes.{is_name_byte}
use Rattle.pb_text_meaning.specs.Syntax.{Name, same_name, Term, Enumerator, Sort, Struct, Alias, SortDeclaration, Range, Spec}
use Rattle.pb_text_meaning.specs.Sorts.{declared, range_of}
use Rattle.pb_text_printer.specs.Sayable.{Each, IsBound}
use Rattle.pb_model_spelling.specs.Writable.{IsWord, TermWritable, EnumeratorWritable, SortWritable, DeclarationWritable, RangeWritable}
use Rattle.pb_model_translation.proofs.NumberedNames.{decimal-is-name}
use Rattle.pb_protocol_laws.proofs.Words.{primed_word, word_spelled}
use Rattle.pb_base.specs.Names.{is_letter}
use Rattle.pb_protocol_folding.specs.Folding.{number}
use Rattle.pb_protocol_unfolding.specs.Written.{written_by, written_within, written_values, spelled, element, element_of}

-- ---- numbers

-- a number that a text may write, with a sign or without
abbrev pub IsWritableNumber : ℤ → Type 0
IsWritableNumber v = (negsuc 4611686018427387903 ≤ℤ v) × (v ≤ℤ pos 4611686018427387904)

pub number-writable : (v : ℤ) → IsWritableNumber v → TermWritable (number v)
number-writable (pos n) h = let high = h.1 in omega (arith, ints)
number-writable (negsuc n) h = let low = h.0 in omega (arith, ints)

-- ---- written values

-- what can stand in a name
abbrev pub IsSpelled : Term → Type 0
IsSpelled k = TermWritable k × (list_all is_name_byte (spelled k) ≡ true)

number-spelled : (v : ℤ) → list_all is_name_byte (spelled (number v)) ≡ true
number-spelled (pos n) = decimal-is-name n
number-spelled (negsuc n) = decimal-is-name (suc n)

numbers-spelled : (n : ℕ) (low : ℤ) → negsuc 2147483647 ≤ℤ low → (low +ℤ pos n) ≤ℤ pos 2147483648 → Each IsSpelled (map number (numbers_from low n))
numbers-spelled zero low least most = tt
numbers-spelled (suc n) low least most = (
  (number-writable low (omega (arith, ints), omega (arith, ints)), number-spelled low),
  numbers-spelled n (low +ℤ pos 1) (omega (arith, ints)) (omega (arith, ints)),
)

pub bound-low : (v : ℤ) → IsBound v → negsuc 2147483647 ≤ℤ v
bound-low (pos n) h = omega (arith, ints)
bound-low (negsuc n) h = omega (arith, ints)

pub bound-high : (v : ℤ) → IsBound v → v ≤ℤ pos 2147483647
bound-high (pos n) h = omega (arith, ints)
bound-high (negsuc n) h = omega (arith, ints)

interval-spelled : (low high : ℤ) → IsBound low → IsBound high → Each IsSpelled (map number (interval low high))
interval-spelled low high l h = by (high -ℤ low +ℤ pos 1) refl
  where
    by : (d : ℤ) → high -ℤ low +ℤ pos 1 ≡ d → Each IsSpelled (map number (numbers_from low (at_least_none d)))
    by (pos n) e = let least = bound-low low l in let most = bound-high high h in numbers-spelled n low least (omega (arith, ints))
    by (negsuc n) e = tt

name-spelled : (x : Name) → IsWord x → list_all is_name_byte x ≡ true
name-spelled [] h = refl
name-spelled (b ∷ bs) h =
    let both = and_parts (is_letter b) (list_all is_name_byte bs) (word_spelled (b ∷ bs) h) in
    and_from (is_name_byte b) (list_all is_name_byte bs) (letter (is_letter b) both.0) both.1
  where
    letter : (c : Bool) → c ≡ true → (c || is_ascii_digit b || b == 39) ≡ true
    letter true e = refl
    letter false e = absurd (true≢false (sym e))

enumerators-spelled : (es : List Enumerator) → Each EnumeratorWritable es → Each IsSpelled (map (λ (e : Enumerator). Term.Named e.name) es)
enumerators-spelled [] h = tt
enumerators-spelled (e ∷ es) h = ((h.0.0, name-spelled e.name h.0.0), enumerators-spelled es h.1)

-- ---- sorts

-- the sorts and ranges of a text have words
pub record SortsWritable (spec : Spec) : Type 0 where
  pub sorts : Each DeclarationWritable spec.sorts
  pub ranges : Each RangeWritable spec.ranges

abbrev pub FoundRange : Option Range → Type 0
FoundRange None = Unit {0}
FoundRange (Some r) = RangeWritable r

abbrev pub FoundSort : Option Sort → Type 0
FoundSort None = Unit {0}
FoundSort (Some s) = SortWritable s

pub range-found : (rs : List Range) (s : Name) → Each RangeWritable rs → FoundRange (range_of rs s)
range-found [] s h = tt
range-found (r ∷ rs) s h = by (same_name r.name s) (range-found rs s h.1)
  where
    by : (b : Bool) → FoundRange (range_of rs s) → FoundRange (if b then Some r else range_of rs s)
    by true later = h.0
    by false later = later

pub sort-found : (ds : List SortDeclaration) (s : Name) → Each DeclarationWritable ds → FoundSort (declared ds s)
sort-found [] s h = tt
sort-found (d ∷ ds) s h = by (same_name d.name s) (sort-found ds s h.1)
  where
    by : (b : Bool) → FoundSort (declared ds s) → FoundSort (if b then Some d.sort else declared ds s)
    by true later = h.0.1
    by false later = later

pub structs-spelled : (es : List Enumerator) → SortWritable (Struct es) → Each EnumeratorWritable es
structs-spelled [] h = tt
structs-spelled (e ∷ es) h = h

by-spelled : (r : Option Range) (b : Bool) (s : Option Sort) (target : Name → List Term) → FoundRange r → FoundSort s → ((x : Name) → Each IsSpelled (target x)) →
    Each IsSpelled (written_by r b s target)
by-spelled (Some r) b s target h k more = interval-spelled r.low r.high h.low h.high
by-spelled None true s target h k more = ((tt, refl), ((tt, refl), tt))
by-spelled None false (Some (Struct es)) target h k more = enumerators-spelled es (structs-spelled es k)
by-spelled None false (Some (Alias s)) target h k more = more s
by-spelled None false None target h k more = tt

within-spelled : (n : ℕ) (spec : Spec) (s : Name) → SortsWritable spec → Each IsSpelled (written_within n spec s)
within-spelled zero spec s h = tt
within-spelled (suc n) spec s h =
    by-spelled (range_of spec.ranges s) (same_name s (codes "Bool")) (declared spec.sorts s) (written_within n spec)
    (range-found spec.ranges s h.ranges) (sort-found spec.sorts s h.sorts) (λ x. within-spelled n spec x h)

pub values-spelled : (spec : Spec) (s : Name) → SortsWritable spec → Each IsSpelled (written_values spec s)
values-spelled spec s h = within-spelled (suc (length spec.sorts)) spec s h

-- ---- names of elements

pub element-word : (x : Name) (k : Term) → IsWord x → IsSpelled k → IsWord (element x k)
element-word x k h s = primed_word x (spelled k) h s.1

pub element_of-word : (x : Name) (ks : List Term) → IsWord x → Each IsSpelled ks → IsWord (element_of x ks)
element_of-word x [] h s = h
element_of-word x (k ∷ ks) h s = element_of-word (element x k) ks (element-word x k h s.0) s.1
