-- What is spelled as a name stays so with a prime and a number behind it, and so does each name that an equation gets.
use Rattle.std.proofs.Common.{◌≡◌, ℕ, zero, suc, ◌/◌, ◌%◌, ◌<◌, ◌==◌, ◌∙◌, Bool, true, false, if◌then◌else◌, List, [], ◌∷◌, ◌++◌, length, refl, arith}
use Rattle.std.specs.Prelude.{decimal, nat_lt, codes}
use Rattle.std.specs.Fmt.{digits, digits_onto, digit_glyph}
use Rattle.std.specs.List.{list_all, list_any}
use Rattle.std.proofs.lemmas.Bool.{and_from, and_parts}
use Rattle.std.proofs.lemmas.List.Folds.{list_all-append}
use Rattle.pb_base.specs.Names.{is_letter, is_name_byte, is_spelled}
use Rattle.pb_text_meaning.specs.Syntax.{Name, same_name}
use Rattle.pb_model_translation.specs.Names.{numbered, primes, longest, first_numbered, with_room, new_name}

-- ---- the bytes of primes and numbers

primes-are-names : (n : ℕ) → list_all is_name_byte (primes n) ≡ true
primes-are-names zero = refl
primes-are-names (suc n) = primes-are-names n

glyph-is_name : (d : ℕ) → d < 10 → is_name_byte (digit_glyph false d) ≡ true
glyph-is_name zero less = refl
glyph-is_name (suc zero) less = refl
glyph-is_name (suc (suc zero)) less = refl
glyph-is_name (suc (suc (suc zero))) less = refl
glyph-is_name (suc (suc (suc (suc zero)))) less = refl
glyph-is_name (suc (suc (suc (suc (suc zero))))) less = refl
glyph-is_name (suc (suc (suc (suc (suc (suc zero)))))) less = refl
glyph-is_name (suc (suc (suc (suc (suc (suc (suc zero))))))) less = refl
glyph-is_name (suc (suc (suc (suc (suc (suc (suc (suc zero)))))))) less = refl
glyph-is_name (suc (suc (suc (suc (suc (suc (suc (suc (suc zero))))))))) less = refl
glyph-is_name d less = absurd (omega arith)

digits-are-names : (k n : ℕ) (bs : List ℕ) → list_all is_name_byte bs ≡ true → list_all is_name_byte (digits_onto k 10 false n bs) ≡ true
digits-are-names zero n bs h = h
digits-are-names (suc k) n bs h =
    let byte = and_from (is_name_byte (digit_glyph false (n % 10))) (list_all is_name_byte bs) (glyph-is_name (n % 10) (omega arith)) h in
    by (n / 10 == 0) byte (digits-are-names k (n / 10) (digit_glyph false (n % 10) ∷ bs) byte)
  where
    by : (b : Bool) → list_all is_name_byte (digit_glyph false (n % 10) ∷ bs) ≡ true
        → list_all is_name_byte (digits_onto k 10 false (n / 10) (digit_glyph false (n % 10) ∷ bs)) ≡ true
        → list_all is_name_byte (if b then digit_glyph false (n % 10) ∷ bs else digits_onto k 10 false (n / 10) (digit_glyph false (n % 10) ∷ bs)) ≡ true
    by true last others = last
    by false last others = others

pub decimal-is-name : (n : ℕ) → list_all is_name_byte (decimal n) ≡ true
unfolding digits
decimal-is-name n = digits-are-names 64 n [] refl

-- ---- a name that isn't taken

-- What holds of the wanted name, and of a prime and any bytes of names behind it or behind X, holds of the one that isn't taken.
module _ (P : Name → Type 0) (x : Name) (more : (bs : List ℕ) → list_all is_name_byte bs ≡ true → P (with_room x ++ (39 ∷ bs))) where
  pub first_numbered-holds : (taken : List Name) (k n : ℕ) → P (first_numbered taken (with_room x) k n)
  first_numbered-holds taken k zero = more (primes (longest taken)) (primes-are-names (longest taken))
  first_numbered-holds taken k (suc n) = by (list_any (same_name (numbered (with_room x) k)) taken) (first_numbered-holds taken (suc k) n)
    where
      by : (b : Bool) → P (first_numbered taken (with_room x) (suc k) n) → P (if b then first_numbered taken (with_room x) (suc k) n else numbered (with_room x) k)
      by true later = later
      by false later = more (decimal k) (decimal-is-name k)

  pub new_name-holds : P x → (taken : List Name) → P (new_name taken x)
  new_name-holds h taken = by (list_any (same_name x) taken)
    where
      by : (b : Bool) → P (if b then first_numbered taken (with_room x) 1 (suc (length taken)) else x)
      by true = first_numbered-holds taken 1 (suc (length taken))
      by false = h

-- X where there is no room
pub with_room-holds : (P : Name → Type 0) (x : Name) → P x → P (codes "X") → P (with_room x)
with_room-holds P x h outer = by (nat_lt 60 (length x))
  where
    by : (b : Bool) → P (if b then codes "X" else x)
    by true = outer
    by false = h

-- ---- how names are spelled

pub primed-spelled : (x : Name) (bs : List ℕ) → is_spelled x ≡ true → list_all is_name_byte bs ≡ true → is_spelled (x ++ (39 ∷ bs)) ≡ true
primed-spelled [] bs h names = absurd (cc h)
primed-spelled (b ∷ cs) bs h names =
    let both = and_parts (is_letter b) (list_all is_name_byte cs) h in
    and_from (is_letter b) (list_all is_name_byte (cs ++ (39 ∷ bs))) both.0
    (list_all-append is_name_byte cs (39 ∷ bs) ∙ and_from (list_all is_name_byte cs) (list_all is_name_byte (39 ∷ bs)) both.1 names)

pub room-spelled : (x : Name) → is_spelled x ≡ true → is_spelled (with_room x) ≡ true
room-spelled x h = with_room-holds (λ y. is_spelled y ≡ true) x h refl

pub first_numbered-spelled : (taken : List Name) (x : Name) (k n : ℕ) → is_spelled x ≡ true → is_spelled (first_numbered taken (with_room x) k n) ≡ true
first_numbered-spelled taken x k n h =
    first_numbered-holds (λ y. is_spelled y ≡ true) x (λ bs names. primed-spelled (with_room x) bs (room-spelled x h) names) taken k n

pub new_name-spelled : (taken : List Name) (x : Name) → is_spelled x ≡ true → is_spelled (new_name taken x) ≡ true
new_name-spelled taken x h =
    new_name-holds (λ y. is_spelled y ≡ true) x (λ bs names. primed-spelled (with_room x) bs (room-spelled x h) names) h taken
