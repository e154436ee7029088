-- Range lines: a comment `%range NAME LO HI` at the beginning of a line gives a sort of whole
-- numbers its carrier.
use Rattle.std.specs.Prelude.{ℕ, ℤ, pos, neg_ℤ, int_le, ◌-◌, Bool, true, false, not, ◌&&◌, ◌||◌, if◌then◌else◌, ◌==◌, List, [], ◌∷◌, length, take, drop, take_while, get_or, Option, Some, None, is_none}
use Rattle.std.specs.Borrow.{Bor}
use Rattle.pb_text_tree.specs.declared.place.Place.{Place}
use Rattle.pb_text_tree.specs.Form.{RangeForm}
use Rattle.pb_text_lexer.specs.declared.range_line.RangeLine as declared_line
use Rattle.pb_text_lexer.specs.Bytes.{line, is_name, whole_within}

-- ---- words, with spaces and tabs between them

abbrev pub is_gap : ℕ → Bool
is_gap b = b == 32 || b == 9

abbrev pub gap : List ℕ → List ℕ
gap = take_while is_gap

abbrev pub behind_gap : List ℕ → List ℕ
behind_gap bs = drop (length (gap bs)) bs

abbrev pub in_word : List ℕ → List ℕ
in_word = take_while (λ b. not (is_gap b))

-- the first word, and what stands behind it
abbrev pub word : List ℕ → List ℕ
word bs = in_word (behind_gap bs)

abbrev pub behind_word : List ℕ → List ℕ
behind_word bs = drop (length (word bs)) (behind_gap bs)

-- ---- bounds

abbrev pub positive : Option ℕ → Option ℤ
positive None = None
positive (Some n) = Some (pos n)

abbrev pub negative : Option ℕ → Option ℤ
negative None = None
negative (Some n) = Some (neg_ℤ (pos n))

-- digits, with `-` before them or not, that write a number from -2^31 to 2^31 - 1
unfoldable pub bound : List ℕ → Option ℤ
bound [] = None
bound (b ∷ bs) =
    if b == 45 then negative (whole_within 2147483648 bs)
    else positive (whole_within 2147483647 (b ∷ bs))

-- ---- the line

-- a name with two bounds
pub record Bounded : Type 0 where
  pub name : List ℕ
  pub low : ℤ
  pub high : ℤ

abbrev pub bounded : List ℕ → Option ℤ → Option ℤ → Option Bounded
bounded name None high = None
bounded name (Some low) None = None
bounded name (Some low) (Some high) =
    if int_le low high then Some (record { name = name; low = low; high = high }) else None

-- a name, two bounds, the lower one first, and nothing else
unfoldable pub words_bound : List ℕ → Option Bounded
words_bound bs =
    if is_name (word bs) && length (word (behind_word (behind_word (behind_word bs)))) == 0
    then bounded (word bs) (bound (word (behind_word bs)))
    (bound (word (behind_word (behind_word bs)))) else None

-- a line without the carriage return at its end
abbrev pub without_return : List ℕ → List ℕ
without_return bs = if get_or bs (length bs - 1) 0 == 13 then take (length bs - 1) bs else bs

-- A word ends where its line does, at a space or at a tab.
abbrev pub ends_word : List ℕ → Bool
ends_word [] = true
ends_word (b ∷ bs) = b == 32 || b == 9

-- what a comment has behind the word `range`, if it begins with that
unfoldable pub behind_range : List ℕ → Option (List ℕ)
behind_range (a ∷ b ∷ c ∷ d ∷ e ∷ rest) =
    if (a == 114 && b == 97 && c == 110 && d == 103 && e == 101) && ends_word rest then Some rest
    else None
behind_range _ = None

-- what a comment says of a carrier
abbrev pub said : Option (List ℕ) → Option Bounded
said None = None
said (Some bs) = words_bound (without_return bs)

-- P05: whether a comment that begins its line is a range line, and says nothing
abbrev pub is_wrong : Option (List ℕ) → Bool
is_wrong None = false
is_wrong (Some bs) = is_none (words_bound (without_return bs))

abbrev pub range_at_place : Place → Bounded → RangeForm
range_at_place p r = record { place = p; name = r.name; low = r.low; high = r.high }

-- the range at a place, as a list of none or of one
abbrev pub placed : Place → Option Bounded → List RangeForm
placed p None = []
placed p (Some r) = range_at_place p r ∷ []

unfoldable pub ranges_at : Place → List ℕ → List RangeForm
ranges_at p [] = []
ranges_at p (b ∷ bs) =
    if b == 37 && p.column == 1 then placed p (said (behind_range (line bs))) else []

-- the bytes without which no range line begins
abbrev pub is_mark : List ℕ → Bool
is_mark (a ∷ b ∷ bs) = a == 37 && b == 114
is_mark _ = false

-- ---- as the code has it

abbrev pub bounded_line : declared_line.RangeLine → Bounded
bounded_line l = record { name = l.name.now; low = l.low; high = l.high }

abbrev pub bounded_by : Option declared_line.RangeLine → Option Bounded
bounded_by None = None
bounded_by (Some l) = Some (bounded_line l)

abbrev pub now_of : Option (Bor (List ℕ)) → Option (List ℕ)
now_of None = None
now_of (Some b) = Some b.now
