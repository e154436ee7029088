-- A chain of arithmetic whose brackets open before its first operand.
use Rattle.std.proofs.Common.{◌≡◌, ℕ, ◌+◌, ◌-◌, ◌<◌, suc, arith, Bool, true, false, List, [], ◌∷◌, ◌++◌, length, get_or, drop, refl, sym, ◌∙◌, ap, append_assoc, Box, Vec, Global}
use Rattle.std.specs.Prelude.{if◌then◌else◌, box_value, Option, Some, None}
use Rattle.std.specs.List.{slice_get}
use Rattle.std.proofs.lemmas.List.{append-nil}
use Rattle.pb_text_tree.specs.declared.place.Place.{Place}
use Rattle.pb_text_tree.specs.declared.operator.Arithmetic.{Arithmetic}
use Rattle.pb_text_tree.specs.declared.term.Term as term
use Rattle.pb_text_tree.specs.declared.term.Term.{Term}
use Rattle.pb_text_tree.specs.declared.term.ArithmeticLink.{ArithmeticLink}
use Rattle.pb_text_tree.specs.Form.{TermForm, calculated, term_form, arithmetic_link, arithmetic_links}
use Rattle.pb_text_tree.proofs.FormLemmas.{term-arithmetic}
use Rattle.pb_text_printer.specs.declared.level.Level.{Level}
use Rattle.pb_text_printer.specs.Words.{Word, put, fits, needs_no_brackets, goes_on, chains_with, term_words, arithmetic_word, arithmetic_level, open_word, close_word}
use Rattle.pb_text_printer.specs.declared.level.Bracketing.{Bracketing}
use Rattle.pb_text_printer.specs.declared.level.Bracketing.TheVariants.{Bare, Bracketed}
use Rattle.pb_text_printer.specs.Page.{Page, after}
use Rattle.pb_text_printer.specs.Parts.{continues, left_bracketing, operation_words, left_words, bracket, opened, computed_words}
use Rattle.pb_text_printer.proofs.PageLemmas.{left, left-next, first-none, first-some}

abbrev Link : Type 0
Link = Arithmetic × Place × TermForm

bracket-shift : (b : Bracketing) (r : List Word) → bracket b open_word ++ (open_word ∷ r) ≡ open_word ∷ (bracket b open_word ++ r)
bracket-shift Bare r = refl
bracket-shift Bracketed r = refl

-- opening brackets are all the same
opened-shift : (o : Option Arithmetic) (ls : List Link) (r : List Word) → opened o ls ++ (open_word ∷ r) ≡ open_word ∷ (opened o ls ++ r)
opened-shift o [] r = refl
opened-shift o (l ∷ ls) r =
    append_assoc (bracket (left_bracketing o l.0) open_word) (opened (Some l.0) ls) (open_word ∷ r)
    ∙ ap (λ (v : List Word). bracket (left_bracketing o l.0) open_word ++ v) (opened-shift (Some l.0) ls r)
    ∙ bracket-shift (left_bracketing o l.0) (opened (Some l.0) ls ++ r)
    ∙ ap (λ (v : List Word). open_word ∷ v) (sym (append_assoc (bracket (left_bracketing o l.0) open_word) (opened (Some l.0) ls) r))

-- what is computed, in brackets or not, before an operator with its right side
wrapped : (b : Bool) (opens x y r : List Word) → ((z : List Word) → opens ++ (open_word ∷ z) ≡ open_word ∷ (opens ++ z))
    → opens ++ ((put b (λ e. x) false ++ y) ++ r) ≡ (bracket (if b then Bare else Bracketed) open_word ++ opens) ++ (x ++ (bracket (if b then Bare else Bracketed) close_word ++ (y ++ r)))
wrapped true opens x y r shift = ap (λ (v : List Word). opens ++ v) (append_assoc x y r)
wrapped false opens x y r shift =
    shift (((x ++ close_word ∷ []) ++ y) ++ r)
    ∙ ap (λ (v : List Word). open_word ∷ (opens ++ v)) (append_assoc (x ++ close_word ∷ []) y r ∙ append_assoc x (close_word ∷ []) (y ++ r))

-- operators behind what an operator computes
behind-computed : (o : Arithmetic) (place : Place) (x y : TermForm) (ls : List Link) (ends : Bool)
    → term_words (calculated (TermForm.computed o place x y) ls) ends ≡ opened (Some o) ls ++ ((left_words o x ++ operation_words o y) ++ computed_words (Some o) ls)
behind-computed o place x y [] ends = sym (append-nil (left_words o x ++ operation_words o y))
behind-computed o place x y (l ∷ ls) ends =
    behind-computed l.0 l.1 (TermForm.computed o place x y) l.2 ls ends
    ∙ wrapped (continues o l.0) (opened (Some l.0) ls) (left_words o x ++ operation_words o y) (operation_words l.0 l.2) (computed_words (Some l.0) ls) (opened-shift (Some l.0) ls)

arithmetic-words : (x : TermForm) (l : Link) (ls : List Link) (ends : Bool) → term_words (calculated x (l ∷ ls)) ends ≡ opened None (l ∷ ls) ++ (left_words l.0 x ++ computed_words None (l ∷ ls))
arithmetic-words x l ls ends =
    behind-computed l.0 l.1 x l.2 ls ends ∙ ap (λ (v : List Word). opened (Some l.0) ls ++ v) (append_assoc (left_words l.0 x) (operation_words l.0 l.2) (computed_words (Some l.0) ls))

-- ---- loops

pub opened-next : (o : Option Arithmetic) (ls : List ArithmeticLink) (k : ℕ) (l : ArithmeticLink) (p q : Page)
    → k < length ls → l ≡ get_or ls k l → q ≡ after (bracket (left_bracketing o l.operator) open_word) p
    → after (opened (Some l.operator) (arithmetic_links (drop (k + 1) ls))) q ≡ after (opened o (arithmetic_links (drop k ls))) p
opened-next o ls k l p q below at first =
    left (bracket (left_bracketing o l.operator) open_word) (opened (Some l.operator) (arithmetic_links (drop (k + 1) ls))) p q first
    ∙ ap (λ (v : List ArithmeticLink). after (opened o (arithmetic_links v)) p) (sym (left-next ls k l below at))

pub computed-next : (o : Option Arithmetic) (ls : List ArithmeticLink) (k : ℕ) (l : ArithmeticLink) (p q r : Page)
    → k < length ls → l ≡ get_or ls k l → q ≡ after (bracket (left_bracketing o l.operator) close_word) p
    → r ≡ after (operation_words l.operator (term_form l.operand)) q
    → after (computed_words (Some l.operator) (arithmetic_links (drop (k + 1) ls))) r ≡ after (computed_words o (arithmetic_links (drop k ls))) p
computed-next o ls k l p q r below at first second =
    let rest = computed_words (Some l.operator) (arithmetic_links (drop (k + 1) ls)) in
    left (operation_words l.operator (term_form l.operand)) rest q r second
    ∙ left (bracket (left_bracketing o l.operator) close_word) (operation_words l.operator (term_form l.operand) ++ rest) p q first
    ∙ ap (λ (v : List ArithmeticLink). after (computed_words o (arithmetic_links v)) p) (sym (left-next ls k l below at))

-- ---- in the code's words

-- the operator that a chain ends with
pub record Outer (l : ArithmeticLink) (x : TermForm) : Type 0 where
  pub place : Place
  pub before : TermForm
  pub same : x ≡ TermForm.computed l.operator place before (term_form l.operand)

one-less : (m n : ArithmeticLink) (ls : List ArithmeticLink) → length (m ∷ n ∷ ls) - 1 ≡ suc (length (n ∷ ls) - 1)
one-less m n ls = omega arith

outer : (x : TermForm) (ls : List ArithmeticLink) (l : ArithmeticLink) → Some l ≡ slice_get ls (length ls - 1) → Outer l (calculated x (arithmetic_links ls))
outer x [] l h = cc
outer x (m ∷ []) l h = let same : m ≡ l = cc in record { place = m.place; before = x; same = ap (λ (v : ArithmeticLink). TermForm.computed v.operator m.place x (term_form v.operand)) same }
outer x (m ∷ n ∷ ls) l h = outer (TermForm.computed m.operator m.place x (term_form m.operand)) (n ∷ ls) l (h ∙ ap (slice_get (m ∷ n ∷ ls)) (one-less m n ls))

last-none : (ls : List ArithmeticLink) → None ≡ slice_get ls (length ls - 1) → ls ≡ []
last-none [] h = refl
last-none (m ∷ []) h = cc
last-none (m ∷ n ∷ ls) h = let none : n ∷ ls ≡ [] = last-none (n ∷ ls) (h ∙ ap (slice_get (m ∷ n ∷ ls)) (one-less m n ls)) in cc

form-of : (x : Box Term Global) (v : Vec ArithmeticLink Global) (ls : List ArithmeticLink) (t : Term) → t ≡ term.Arithmetic x v → ls ≡ v.items
    → calculated (term_form (box_value x)) (arithmetic_links ls) ≡ term_form t
form-of x v ls t is are = ap (λ (l : List ArithmeticLink). calculated (term_form (box_value x)) (arithmetic_links l)) are ∙ sym (term-arithmetic x v) ∙ ap term_form (sym is)

outer-of : (x : Box Term Global) (v : Vec ArithmeticLink Global) (ls : List ArithmeticLink) (l : ArithmeticLink)
    (t : Term) → t ≡ term.Arithmetic x v → ls ≡ v.items → Some l ≡ slice_get ls (length ls - 1) → Outer l (term_form t)
outer-of x v ls l t is are last =
    let o = outer (term_form (box_value x)) ls l last in
    record { place = o.place; before = o.before; same = sym (form-of x v ls t is are) ∙ o.same }

pub arithmetic-needs_no_brackets : (x : Box Term Global) (v : Vec ArithmeticLink Global) (ls : List ArithmeticLink)
    (l : ArithmeticLink) (t : Term) (asked : Level) (ends : Bool) → t ≡ term.Arithmetic x v → ls ≡ v.items
    → Some l ≡ slice_get ls (length ls - 1) → fits (arithmetic_level l.operator) asked ≡ needs_no_brackets (term_form t) asked ends
arithmetic-needs_no_brackets x v ls l t asked ends is are last = ap (λ (f : TermForm). needs_no_brackets f asked ends) (sym (outer-of x v ls l t is are last).same)

pub arithmetic-goes-on : (o : Arithmetic) (x : Box Term Global) (v : Vec ArithmeticLink Global) (ls : List ArithmeticLink) (l : ArithmeticLink) (t : Term) → t ≡ term.Arithmetic x v → ls ≡ v.items
    → Some l ≡ slice_get ls (length ls - 1) → chains_with o (arithmetic_word l.operator).kind ≡ goes_on o (term_form t)
arithmetic-goes-on o x v ls l t is are last = ap (goes_on o) (sym (outer-of x v ls l t is are last).same)

pub of-one-last : (x : Box Term Global) (v : Vec ArithmeticLink Global) (ls : List ArithmeticLink) (t : Term) → t ≡ term.Arithmetic x v → ls ≡ v.items → None ≡ slice_get ls (length ls - 1)
    → term_form (box_value x) ≡ term_form t
of-one-last x v ls t is are none = ap (λ (l : List ArithmeticLink). calculated (term_form (box_value x)) (arithmetic_links l)) (sym (last-none ls none)) ∙ form-of x v ls t is are

pub of-one-first : (x : Box Term Global) (v : Vec ArithmeticLink Global) (ls : List ArithmeticLink) (t : Term) → t ≡ term.Arithmetic x v → ls ≡ v.items → None ≡ slice_get ls 0
    → term_form (box_value x) ≡ term_form t
of-one-first x v ls t is are none = ap (λ (l : List ArithmeticLink). calculated (term_form (box_value x)) (arithmetic_links l)) (sym (first-none ls none)) ∙ form-of x v ls t is are

pub calculation : (x : Box Term Global) (v : Vec ArithmeticLink Global) (ls ms ns : List ArithmeticLink) (l : ArithmeticLink) (t : Term) (ends : Bool) (p q r : Page) → t ≡ term.Arithmetic x v
    → ls ≡ v.items → ms ≡ v.items → ns ≡ v.items → Some l ≡ slice_get ls 0
    → q ≡ after (opened None (arithmetic_links ms)) p → r ≡ after (left_words l.operator (term_form (box_value x))) q
    → after (computed_words None (arithmetic_links ns)) r ≡ after (term_words (term_form t) ends) p
calculation x v ls ms ns l t ends p q r is are are' are'' some first second =
    let all : ls ≡ l ∷ drop 1 ls = first-some ls l some in
    let body : List Word = left_words l.operator (term_form (box_value x)) ++ computed_words None (arithmetic_links ns) in
    left (left_words l.operator (term_form (box_value x))) (computed_words None (arithmetic_links ns)) q r second
    ∙ left (opened None (arithmetic_links ms)) body p q first
    ∙ ap (λ (m : List ArithmeticLink). after (opened None (arithmetic_links m) ++ body) p) (are' ∙ sym are ∙ all)
    ∙ ap (λ (m : List ArithmeticLink). after
    (opened None (arithmetic_links (l ∷ drop 1 ls))
    ++ (left_words l.operator (term_form (box_value x)) ++ computed_words None (arithmetic_links m))) p) (are'' ∙ sym are ∙ all)
    ∙ ap (λ (w : List Word). after w p) (sym (arithmetic-words (term_form (box_value x)) (arithmetic_link l) (arithmetic_links (drop 1 ls)) ends))
    ∙ ap (λ (m : List ArithmeticLink). after (term_words (calculated (term_form (box_value x)) (arithmetic_links m)) ends) p) (sym all)
    ∙ ap (λ (f : TermForm). after (term_words f ends) p) (form-of x v ls t is are)
