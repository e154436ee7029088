-- A word that is shorter or longer than each reserved word is a name.
use Rattle.std.proofs.Common.{◌≡◌, ◌≢◌, ℕ, suc, ◌<◌, Bool, true, false, cond, ◌&&◌, List, [], ◌∷◌, length, nat_lt, refl, ap, ◌∙◌, arith}
use Rattle.std.specs.Str.{bytes_eq}
use Rattle.std.proofs.lemmas.Bool.Decides.{nat_tests}
use Rattle.std.proofs.lemmas.Bool.{and_right}
use Rattle.pb_text_lexer.specs.declared.kind.Kind.{Kind}
use Rattle.pb_text_lexer.specs.declared.kind.Kind.TheVariants as k
use Rattle.pb_text_lexer.specs.Bytes.{word_kind, kind_among, reserved}

other-length : (xs ys : List ℕ) → length xs ≢ length ys → bytes_eq xs ys ≡ false
other-length [] [] other = absurd (other refl)
other-length [] (y ∷ ys) other = refl
other-length (x ∷ xs) [] other = refl
other-length (x ∷ xs) (y ∷ ys) other = and_right _ _ (other-length xs ys (λ same. other (ap suc same)))

-- each of the words has another length
abbrev Others : List (List ℕ × Kind) → List ℕ → Type 0
Others [] word = Unit {0}
Others (entry ∷ entries) word = (length entry.0 ≢ length word) × Others entries word

among-others : (entries : List (List ℕ × Kind)) (word : List ℕ) → Others entries word → kind_among entries word ≡ k.Name
among-others [] word others = refl
among-others (entry ∷ entries) word others =
    ap (λ v. cond v entry.1 (kind_among entries word)) (other-length entry.0 word others.0) ∙ among-others entries word others.1

-- each of the words has from two letters to six
abbrev bounded : List (List ℕ × Kind) → Bool
bounded [] = true
bounded (entry ∷ entries) = (nat_lt 1 (length entry.0) && nat_lt (length entry.0) 7) && bounded entries

bounded-first : (a b c : Bool) → ((a && b) && c) ≡ true → (a ≡ true) × (b ≡ true) × (c ≡ true)
bounded-first true true c h = (refl, refl, h)
bounded-first true false c h = cc
bounded-first false b c h = cc

shorter : (entries : List (List ℕ × Kind)) (word : List ℕ) → bounded entries ≡ true → length word < 2 → Others entries word
shorter [] word all short = tt
shorter (entry ∷ entries) word all short =
    let h = bounded-first (nat_lt 1 (length entry.0)) _ _ all in
    let least : 1 < length entry.0 = grind (arith, nat_tests) in
    ((λ same. omega arith), shorter entries word h.2 short)

longer : (entries : List (List ℕ × Kind)) (word : List ℕ) → bounded entries ≡ true → 6 < length word → Others entries word
longer [] word all long = tt
longer (entry ∷ entries) word all long =
    let h = bounded-first (nat_lt 1 (length entry.0)) (nat_lt (length entry.0) 7) _ all in
    let most : length entry.0 < 7 = grind (arith, nat_tests) in
    ((λ same. omega arith), longer entries word h.2 long)

pub short_name : (word : List ℕ) → length word < 2 → word_kind word ≡ k.Name
unfolding word_kind
short_name word short = among-others reserved word (shorter reserved word refl short)

pub long_name : (word : List ℕ) → 6 < length word → word_kind word ≡ k.Name
unfolding word_kind
long_name word long = among-others reserved word (longer reserved word refl long)
