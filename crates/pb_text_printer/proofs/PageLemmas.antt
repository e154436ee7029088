-- Words that are written one after another, and the bytes that they are.
use Rattle.std.proofs.Common.{◌≡◌, ℕ, ◌+◌, ◌<◌, suc, Bool, true, false, List, [], ◌∷◌, ◌++◌, length, get_or, drop, refl, sym, ◌∙◌, ap, add-one, append_assoc}
use Rattle.std.specs.Prelude.{◌&&◌, if◌then◌else◌, Some, None}
use Rattle.std.specs.List.{slice_get}
use Rattle.std.proofs.Math.Bool.{and_comm}
use Rattle.std.proofs.Math.Seq.{drop-cons}
use Rattle.std.proofs.lemmas.List.{append-nil}
use Rattle.pb_text_printer.specs.Words.{Word, written, put, open_word, close_word}
use Rattle.pb_text_printer.specs.Page.{Page, typed, ended, with_word, after}

pub after-append : (a b : List Word) (p : Page) → after (a ++ b) p ≡ after b (after a p)
after-append [] b p = refl
after-append (w ∷ a) b p = after-append a b (with_word w p)

-- what is left to write behind words
pub left : (a b : List Word) (p q : Page) → q ≡ after a p → after b q ≡ after (a ++ b) p
left a b p q first = ap (after b) first ∙ sym (after-append a b p)

-- what is left to write behind words in brackets
pub bracketed : (w : Bool → List Word) (b ends : Bool) (p q r : Page) → b ≡ false → q ≡ after (open_word ∷ []) p → r ≡ after (w true) q → after (close_word ∷ []) r ≡ after (put b w ends) p
bracketed w b ends p q r none opens inner =
    left (w true) (close_word ∷ []) q r inner ∙ ap (after (w true ++ close_word ∷ [])) opens ∙ ap (λ v. after (put v w ends) p) (sym none)

module _ {A : Type 0} where
  -- the elements that are left from k on
  pub left-next : (xs : List A) (k : ℕ) (x : A) → k < length xs → x ≡ get_or xs k x → drop k xs ≡ x ∷ drop (k + 1) xs
  left-next xs k x below at = rw add-one (drop-cons xs k x below ∙ ap (λ v. v ∷ drop (suc k) xs) (sym at))

  pub first-none : (xs : List A) → None ≡ slice_get xs 0 → xs ≡ []
  first-none [] h = refl
  first-none (x ∷ xs) h = cc

  pub first-some : (xs : List A) (x : A) → Some x ≡ slice_get xs 0 → xs ≡ x ∷ drop 1 xs
  first-some [] x h = cc
  first-some (y ∷ xs) x h = let same : x ≡ y = cc in ap (λ v. v ∷ xs) (sym same)

-- ---- bytes

broken-bytes : (b s t r : List ℕ) → (b ++ (s ++ t)) ++ r ≡ b ++ (s ++ (t ++ r))
broken-bytes b s t r = append_assoc b (s ++ t) r ∙ ap (λ (v : List ℕ). b ++ v) (append_assoc s t r)

-- the bytes behind a word
word-bytes : (w : Word) (ends : Bool) (p : Page) (rest : Bool → List ℕ) →
    (if ends then ended (typed w.spaced w.gap w.text p) else typed w.spaced w.gap w.text p).bytes ++ rest w.gap
    ≡ p.bytes ++ ((if p.gap && w.spaced then 32 ∷ [] else []) ++ (w.text ++ ((if ends then 10 ∷ [] else []) ++ rest w.gap)))
word-bytes w true p rest =
    append_assoc (p.bytes ++ ((if w.spaced && p.gap then 32 ∷ [] else []) ++ w.text)) (10 ∷ []) (rest w.gap)
    ∙ broken-bytes p.bytes (if w.spaced && p.gap then 32 ∷ [] else []) w.text (10 ∷ rest w.gap)
    ∙ ap (λ (v : Bool). p.bytes ++ ((if v then 32 ∷ [] else []) ++ (w.text ++ (10 ∷ rest w.gap)))) (and_comm w.spaced p.gap)
word-bytes w false p rest =
    broken-bytes p.bytes (if w.spaced && p.gap then 32 ∷ [] else []) w.text (rest w.gap)
    ∙ ap (λ (v : Bool). p.bytes ++ ((if v then 32 ∷ [] else []) ++ (w.text ++ rest w.gap))) (and_comm w.spaced p.gap)

word-gap : (w : Word) (ends : Bool) (p : Page) → (if ends then ended (typed w.spaced w.gap w.text p) else typed w.spaced w.gap w.text p).gap ≡ w.gap
word-gap w true p = refl
word-gap w false p = refl

-- words are written as their bytes
pub after-written : (ws : List Word) (p : Page) → (after ws p).bytes ≡ p.bytes ++ written p.gap ws
after-written [] p = sym (append-nil p.bytes)
after-written (w ∷ ws) p =
    after-written ws (with_word w p) ∙ ap (λ (v : Bool). (with_word w p).bytes ++ written v ws) (word-gap w w.ends_line p) ∙ word-bytes w w.ends_line p (λ v. written v ws)
