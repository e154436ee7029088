-- The range lines of a text can be said.
use Rattle.std.proofs.Common.{◌≡◌, ◌≤◌, ℕ, zero, suc, Bool, true, false, cond, ◌&&◌, ◌==◌, List, [], ◌∷◌, ◌++◌, length, take, drop, refl, subst, arith, nat_lt, Option, Some, None, ℤ, pos, negsuc}
use Rattle.std.specs.Prelude.{int_le}
use Rattle.std.specs.Str.Parse.{digits_value}
use Rattle.std.proofs.lemmas.Bool.Decides.{nat_tests}
use Rattle.pb_text_tree.specs.declared.place.Place.{Place}
use Rattle.pb_text_tree.specs.Form.{RangeForm}
use Rattle.pb_text_lexer.specs.Bytes.{line, digits, is_name, value_within, whole_within}
use Rattle.pb_text_lexer.specs.Lexing.{Cuts, none, blank, token, past, start, IsCut}
use Rattle.pb_text_lexer.specs.RangeLines.{word, behind_word, bound, positive, negative, bounded, words_bound, Bounded, behind_range, without_return, said, placed, ranges_at}
use Rattle.pb_text_lexer.specs.Tokens.{Tok}
use Rattle.pb_text_printer.specs.Sayable.{Each, IsBound, RangeSayable}

-- ---- bounds

value-in : (largest : ℕ) (ds : List ℕ) (n : ℕ) (b : Bool) → nat_lt largest (digits_value 10 ds) ≡ b → cond b None (Some (digits_value 10 ds)) ≡ Some n → n ≤ largest
value-in largest ds n true e h = cc
value-in largest ds n false e h = let same : digits_value 10 ds ≡ n = cc in let small : digits_value 10 ds ≤ largest = grind (arith, nat_tests) in omega arith

whole-in : (largest : ℕ) (ds : List ℕ) (n : ℕ) → whole_within largest ds ≡ Some n → n ≤ largest
whole-in largest [] n h = cc
whole-in largest (d ∷ ds) n h = go (length (digits (d ∷ ds)) == length (d ∷ ds)) h
  where
    go : (b : Bool) → cond b (value_within largest (d ∷ ds)) None ≡ Some n → n ≤ largest
    go true e = value-in largest (d ∷ ds) n (nat_lt largest (digits_value 10 (d ∷ ds))) refl e
    go false e = cc

positive-in : (o : Option ℕ) (z : ℤ) → ((n : ℕ) → o ≡ Some n → n ≤ 2147483647) → positive o ≡ Some z → IsBound z
positive-in None z small h = cc
positive-in (Some n) z small h = let same : pos n ≡ z = cc in subst (λ (v : ℤ). IsBound v) same (small n refl)

negative-in : (o : Option ℕ) (z : ℤ) → ((n : ℕ) → o ≡ Some n → n ≤ 2147483648) → negative o ≡ Some z → IsBound z
negative-in None z small h = cc
negative-in (Some zero) z small h = let same : pos zero ≡ z = cc in subst (λ (v : ℤ). IsBound v) same (omega arith)
negative-in (Some (suc n)) z small h = let same : negsuc n ≡ z = cc in subst (λ (v : ℤ). IsBound v) same (small (suc n) refl)

bound-in : (bs : List ℕ) (z : ℤ) → bound bs ≡ Some z → IsBound z
unfolding bound
bound-in [] z h = cc
bound-in (b ∷ bs) z h = go (b == 45) h
  where
    go : (v : Bool) → cond v (negative (whole_within 2147483648 bs)) (positive (whole_within 2147483647 (b ∷ bs))) ≡ Some z → IsBound z
    go true e = negative-in (whole_within 2147483648 bs) z (λ n. whole-in 2147483648 bs n) e
    go false e = positive-in (whole_within 2147483647 (b ∷ bs)) z (λ n. whole-in 2147483647 (b ∷ bs) n) e

-- ---- lines

abbrev at : Place → Bounded → RangeForm
at p v = record { place = p; name = v.name; low = v.low; high = v.high }

bounded-in : (p : Place) (name : List ℕ) (low high : Option ℤ) (v : Bounded) → is_name name ≡ true → ((z : ℤ) → low ≡ Some z → IsBound z) → ((z : ℤ) → high ≡ Some z → IsBound z)
    → bounded name low high ≡ Some v → RangeSayable (at p v)
bounded-in p name None high v n l h e = cc
bounded-in p name (Some low) None v n l h e = cc
bounded-in p name (Some low) (Some high) v n l h e = go (int_le low high) refl e
  where
    go : (b : Bool) → int_le low high ≡ b → cond b (Some (record { name = name; low = low; high = high })) None ≡ Some v → RangeSayable (at p v)
    go false order e = cc
    go true order e =
        let bounds : Bounded = record { name = name; low = low; high = high } in
        let same : bounds ≡ v = cc in
        subst (λ (w : Bounded). RangeSayable (at p w)) same (record { name = n; low = l low refl; high = h high refl; order = order })

words-in : (p : Place) (bs : List ℕ) (v : Bounded) → words_bound bs ≡ Some v → RangeSayable (at p v)
unfolding words_bound
words-in p bs v e = go (is_name (word bs)) refl (length (word (behind_word (behind_word (behind_word bs)))) == 0) e
  where
    go : (a : Bool) → is_name (word bs) ≡ a → (b : Bool)
        → cond (a && b)
        (bounded (word bs) (bound (word (behind_word bs))) (bound (word (behind_word (behind_word bs))))) None ≡ Some v
        → RangeSayable (at p v)
    go true n true e =
        bounded-in p (word bs) (bound (word (behind_word bs))) (bound (word (behind_word (behind_word bs)))) v n
        (λ z. bound-in (word (behind_word bs)) z) (λ z. bound-in (word (behind_word (behind_word bs))) z) e
    go true n false e = cc
    go false n b e = cc

said-in : (p : Place) (o : Option (List ℕ)) → Each RangeSayable (placed p (said o))
said-in p None = tt
said-in p (Some bs) = go (words_bound (without_return bs)) refl
  where
    go : (v : Option Bounded) → words_bound (without_return bs) ≡ v → Each RangeSayable (placed p v)
    go None e = tt
    go (Some v) e = (words-in p (without_return bs) v e, tt)

line-in : (p : Place) (bs : List ℕ) → Each RangeSayable (ranges_at p bs)
unfolding ranges_at
line-in p [] = tt
line-in p (b ∷ bs) = go (b == 37 && p.column == 1)
  where
    go : (v : Bool) → Each RangeSayable (cond v (placed p (said (behind_range (line bs)))) [])
    go true = said-in p (behind_range (line bs))
    go false = tt

each-both : (xs ys : List RangeForm) → Each RangeSayable xs → Each RangeSayable ys → Each RangeSayable (xs ++ ys)
each-both [] ys h g = g
each-both (x ∷ xs) ys h g = (h.0, each-both xs ys h.1 g)

cuts-in : (p q : Place) (bs rest : List ℕ) (ts : List Tok) (rs : List RangeForm) → Cuts p bs ts rs q rest → Each RangeSayable rs
cuts-in p q bs rest ts rs none = tt
cuts-in p q bs rest ts rs (blank {rs = ss} {n = n} f c) = each-both (ranges_at p bs) ss (line-in p bs) (cuts-in (past p (take n bs)) q (drop n bs) rest ts ss c)
cuts-in p q bs rest ts rs (token {ts = us} {n = n} f c) = cuts-in (past p (take n bs)) q (drop n bs) rest us rs c

pub ranges-said : (bytes : List ℕ) (tokens : List Tok) (ranges : List RangeForm) → IsCut bytes tokens ranges → Each RangeSayable ranges
ranges-said bytes tokens ranges (ts, q, c, e) = cuts-in start q bytes [] ts ranges c
