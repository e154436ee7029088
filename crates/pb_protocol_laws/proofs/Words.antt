-- A name of the grammar is spelled as one, and stays one with a prime and any bytes of names behind
-- it.
use Rattle.std.proofs.Common.{◌≡◌, ◌∙◌, ℕ, ◌+◌, ◌==◌, ◌&&◌, Bool, true, false, cond, List, [], ◌∷◌, ◌++◌, length, refl, sym, ap, subst, arith, eq-eqb}
use Rattle.std.specs.List.{list_all, list_any, prefix_len}
use Rattle.std.specs.Str.{bytes_eq}
use Rattle.std.proofs.lemmas.Bool.{and_from, and_parts, or_right}
use Rattle.std.proofs.lemmas.Bool.Decides.{nat_tests}
use Rattle.std.proofs.lemmas.List.Folds.{length-prefix_len}
use Rattle.std.proofs.lemmas.Slice.Eq.{bytes_eq-Decides}
use Rattle.pb_base.specs.Names.{is_spelled}
use Rattle.pb_text_lexer.specs.declared.kind.Kind.{Kind}
use Rattle.pb_text_lexer.specs.declared.kind.Kind.TheVariants as k
use Rattle.pb_text_lexer.specs.Kinds.{same_kind}
use Rattle.pb_text_lexer.specs.Bytes.{is_letter, is_name_byte, name_bytes, kind_among, reserved, word_kind}
use Rattle.pb_text_lexer.proofs.PieceLemmas.{none-first, none-rest}
use Rattle.pb_text_lexer.proofs.TokenLemmas.{same-kind}
use Rattle.pb_text_meaning.specs.Syntax.{Name}
use Rattle.pb_model_translation.proofs.NumberedNames.{primed-spelled}
use Rattle.pb_model_spelling.specs.Writable.{IsWord}

-- ---- how a name is spelled

all_pass : (p : ℕ → Bool) (bs : List ℕ) → list_all p bs ≡ true → prefix_len p bs ≡ length bs
all_pass p [] h = refl
all_pass p (b ∷ bs) h =
    let both = and_parts (p b) (list_all p bs) h in
    let rest = all_pass p bs both.1 in
    let more : 1 + prefix_len p bs ≡ length (b ∷ bs) = omega arith in
    ap (λ v. cond v (1 + prefix_len p bs) 0) both.0 ∙ more

whole_passes : (p : ℕ → Bool) (bs : List ℕ) → prefix_len p bs ≡ length bs → list_all p bs ≡ true
whole_passes p [] h = refl
whole_passes p (b ∷ bs) h = go (p b) h (whole_passes p bs)
  where
    go : (v : Bool) → cond v (1 + prefix_len p bs) 0 ≡ length (b ∷ bs) → (prefix_len p bs ≡ length bs → list_all p bs ≡ true) → (v && list_all p bs) ≡ true
    go true e rest = rest (omega arith)
    go false e rest = absurd (omega arith)

pub word_spelled : (x : Name) → IsWord x → is_spelled x ≡ true
word_spelled [] h = absurd (cc h)
word_spelled (b ∷ bs) h =
    let front = and_parts (is_letter b) (length (name_bytes bs) == length bs) (and_parts (is_letter b && length (name_bytes bs) == length bs) (same_kind (word_kind (b ∷ bs)) k.Name) h).0 in
    let same = front.1 in
    let whole : length (name_bytes bs) ≡ length bs = grind (arith, nat_tests) in
    and_from (is_letter b) (list_all is_name_byte bs) front.0 (whole_passes is_name_byte bs (sym (length-prefix_len is_name_byte bs) ∙ whole))

-- what is spelled so is a name of the grammar, where it is no reserved word
pub spelled_word : (x : Name) → is_spelled x ≡ true → word_kind x ≡ k.Name → IsWord x
spelled_word [] h e = absurd (cc h)
spelled_word (b ∷ bs) h e =
    let both = and_parts (is_letter b) (list_all is_name_byte bs) h in
    let whole = length-prefix_len is_name_byte bs ∙ all_pass is_name_byte bs both.1 in
    and_from (is_letter b && length (name_bytes bs) == length bs) (same_kind (word_kind (b ∷ bs)) k.Name)
    (and_from (is_letter b) (length (name_bytes bs) == length bs) both.0 (eq-eqb (length (name_bytes bs)) (length bs) whole))
    (subst (λ (kind : Kind). same_kind kind k.Name ≡ true) (sym e) (same-kind k.Name))

-- ---- a prime behind a name, and any bytes of names behind it

abbrev has_prime : List ℕ → Bool
has_prime = list_any (λ b. b == 39)

other_word : (a w : List ℕ) → has_prime a ≡ false → has_prime w ≡ true → bytes_eq a w ≡ false
other_word a w none some = go (bytes_eq a w) refl
  where
    go : (b : Bool) → bytes_eq a w ≡ b → bytes_eq a w ≡ false
    go false e = e
    go true e = let same : has_prime a ≡ has_prime w = ap has_prime ((bytes_eq-Decides a w).0 e) in absurd (cc)

abbrev none_primed : List (List ℕ × Kind) → Bool
none_primed [] = true
none_primed (entry ∷ entries) = cond (has_prime entry.0) false (none_primed entries)

primed_among : (entries : List (List ℕ × Kind)) (w : List ℕ) → none_primed entries ≡ true → has_prime w ≡ true → kind_among entries w ≡ k.Name
primed_among [] w none some = refl
primed_among (entry ∷ entries) w none some =
    let first = none-first (has_prime entry.0) (none_primed entries) none in
    let rest = none-rest (has_prime entry.0) (none_primed entries) none in
    ap (λ v. cond v entry.1 (kind_among entries w)) (other_word entry.0 w first some) ∙ primed_among entries w rest some

with_prime : (x : Name) (bs : List ℕ) → has_prime (x ++ (39 ∷ bs)) ≡ true
with_prime [] bs = refl
with_prime (c ∷ cs) bs = or_right (c == 39) _ (with_prime cs bs)

pub primed_word : (x : Name) (bs : List ℕ) → IsWord x → list_all is_name_byte bs ≡ true → IsWord (x ++ (39 ∷ bs))
unfolding word_kind
primed_word x bs h names =
    spelled_word (x ++ (39 ∷ bs)) (primed-spelled x bs (word_spelled x h) names) (primed_among reserved (x ++ (39 ∷ bs)) refl (with_prime x bs))
