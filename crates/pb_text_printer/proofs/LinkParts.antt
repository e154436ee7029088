-- The links of a chain that are written one after another.
use Rattle.std.proofs.Common.{◌≡◌, ℕ, ◌+◌, ◌<◌, ◌≤◌, arith, Bool, true, false, List, [], ◌∷◌, ◌++◌, length, get_or, drop, map, refl, sym, ◌∙◌, ap, length-drop, Box, Vec, Global}
use Rattle.std.specs.Prelude.{box_value, Some, None}
use Rattle.std.specs.List.{slice_get}
use Rattle.std.proofs.lemmas.List.{drop_all}
use Rattle.pb_text_tree.specs.declared.place.Place.{Place}
use Rattle.pb_text_tree.specs.declared.operator.Connective.{Connective}
use Rattle.pb_text_tree.specs.declared.operator.Connective.TheVariants as connective
use Rattle.pb_text_tree.specs.declared.term.Term as term
use Rattle.pb_text_tree.specs.declared.term.Term.{Term}
use Rattle.pb_text_tree.specs.declared.term.TermLink.{TermLink}
use Rattle.pb_text_tree.specs.declared.formula.Formula as formula
use Rattle.pb_text_tree.specs.declared.formula.Formula.{Formula}
use Rattle.pb_text_tree.specs.declared.formula.Link.{Link}
use Rattle.pb_text_tree.specs.Form.{TermForm, FormulaForm, chained, term_form, term_link, term_links, formula_form, link_form, link_forms}
use Rattle.pb_text_tree.proofs.FormLemmas.{term-chain, formula-chain}
use Rattle.pb_text_printer.specs.declared.level.Level.{Level}
use Rattle.pb_text_printer.specs.Words.{Word, put, fits, needs_no_brackets, term_words, formula_needs_no_brackets, formula_words, connective_word, connective_level, term_side, formula_side}
use Rattle.pb_text_printer.specs.Page.{Page, after}
use Rattle.pb_text_printer.specs.Parts.{placed_words, placed_formula, chain_words, link_words, formula_link_words}
use Rattle.pb_text_printer.proofs.PageLemmas.{left, left-next, first-none, first-some}

module _ {A F : Type 0} (form : A → Place × F) (w : Word) (inner last : F → List Word) where
  abbrev pub words_of : List A → List Word
  words_of ls = chain_words w inner last (map form ls)

  inner-words : (l : A) (rest : List A) → (rest ≡ [] → ⊥) → words_of (l ∷ rest) ≡ w ∷ inner (form l).1 ++ words_of rest
  inner-words l [] some = absurd (some refl)
  inner-words l (m ∷ ms) some = refl

  pub link-next : (ls : List A) (k : ℕ) (l : A) (p q r : Page) → k < length ls → (k + 1 ≡ length ls → ⊥) → l ≡ get_or ls k l
      → q ≡ after (w ∷ []) p → r ≡ after (inner (form l).1) q → after (words_of (drop (k + 1) ls)) r ≡ after (words_of (drop k ls)) p
  link-next ls k l p q r below more at first second =
      left (inner (form l).1) (words_of (drop (k + 1) ls)) q r second
      ∙ ap (after (inner (form l).1 ++ words_of (drop (k + 1) ls))) first
      ∙ ap (λ (v : List Word). after v p) (sym (inner-words l (drop (k + 1) ls) (λ e. let short : length (drop (k + 1) ls) ≡ 0 = ap length e in more (omega (arith, short, length-drop (k + 1) ls)))))
      ∙ ap (λ (v : List A). after (words_of v) p) (sym (left-next ls k l below at))

  pub link-last : (ls : List A) (k : ℕ) (l : A) (p q : Page) → k + 1 ≡ length ls → l ≡ get_or ls k l
      → q ≡ after (w ∷ []) p → after (last (form l).1) q ≡ after (words_of (drop k ls)) p
  link-last ls k l p q end at first =
      ap (after (last (form l).1)) first
      ∙ ap (λ (v : List A). after (words_of (l ∷ v)) p) (sym (drop_all (k + 1) ls (omega arith)))
      ∙ ap (λ (v : List A). after (words_of v) p) (sym (left-next ls k l (omega arith) at))

  pub links-end : (ls : List A) (k : ℕ) (p : Page) → length ls ≤ k → p ≡ after (words_of (drop k ls)) p
  links-end ls k p end = ap (λ (v : List A). after (words_of v) p) (sym (drop_all k ls end))

fits-itself : (c : Connective) → fits (connective_level c) (connective_level c) ≡ true
fits-itself connective.And = refl
fits-itself connective.Or = refl
fits-itself connective.Implies = refl

-- a chain is its first operand and its links
chained-words : (c : Connective) (ends : Bool) (x : TermForm) (l : Place × TermForm) (ls : List (Place × TermForm))
    → term_words (chained (TermForm.connected c) x (l ∷ ls)) ends ≡ placed_words x (term_side c) false ++ link_words c ends (l ∷ ls)
chained-words c ends x l [] = refl
chained-words c ends x l (m ∷ ms) =
    ap (λ (v : List Word). placed_words x (term_side c) false ++ (connective_word c ∷ v))
    (ap (λ (b : Bool). put b (term_words (chained (TermForm.connected c) l.1 (m ∷ ms))) ends) (fits-itself c) ∙ chained-words c ends l.1 m ms)

chained-formula-words : (c : Connective) (ends : Bool) (x : FormulaForm) (l : Place × FormulaForm) (ls : List (Place × FormulaForm))
    → formula_words (chained (FormulaForm.connected c) x (l ∷ ls)) ends ≡ placed_formula x (formula_side c) false ++ formula_link_words c ends (l ∷ ls)
chained-formula-words c ends x l [] = refl
chained-formula-words c ends x l (m ∷ ms) =
    ap (λ (v : List Word). placed_formula x (formula_side c) false ++ (connective_word c ∷ v))
    (ap (λ (b : Bool). put b (formula_words (chained (FormulaForm.connected c) l.1 (m ∷ ms))) ends) (fits-itself c) ∙ chained-formula-words c ends l.1 m ms)

-- ---- in the code's words

-- a chain without links says its first operand
pub chain-of-one : (c : Connective) (x : Box Term Global) (v : Vec TermLink Global) (ls : List TermLink) (t : Term) → t ≡ term.Chain c x v → ls ≡ v.items → None ≡ slice_get ls 0
    → term_form (box_value x) ≡ term_form t
chain-of-one c x v ls t is are none =
    ap (λ (l : List TermLink). chained (TermForm.connected c) (term_form (box_value x)) (term_links l)) (sym (first-none ls none) ∙ are) ∙ sym (term-chain c x v) ∙ ap term_form (sym is)

-- a chain with links
pub chain-of-more : (c : Connective) (x : Box Term Global) (v : Vec TermLink Global) (ls : List TermLink) (l : TermLink) (t : Term) → t ≡ term.Chain c x v → ls ≡ v.items → Some l ≡ slice_get ls 0
    → chained (TermForm.connected c) (term_form (box_value x)) (term_link l ∷ term_links (drop 1 ls)) ≡ term_form t
chain-of-more c x v ls l t is are some =
    ap (λ (m : List TermLink). chained (TermForm.connected c) (term_form (box_value x)) (term_links m)) (sym (first-some ls l some) ∙ are) ∙ sym (term-chain c x v) ∙ ap term_form (sym is)

pub chain-needs_no_brackets : (c : Connective) (x : Box Term Global) (v : Vec TermLink Global) (ls : List TermLink)
    (l : TermLink) (t : Term) (asked : Level) (ends : Bool) → t ≡ term.Chain c x v → ls ≡ v.items
    → Some l ≡ slice_get ls 0 → fits (connective_level c) asked ≡ needs_no_brackets (term_form t) asked ends
chain-needs_no_brackets c x v ls l t asked ends is are some = ap (λ (f : TermForm). needs_no_brackets f asked ends) (chain-of-more c x v ls l t is are some)

pub chain-words : (c : Connective) (x : Box Term Global) (v : Vec TermLink Global) (ls ms : List TermLink)
    (l : TermLink) (t : Term) (ends : Bool) (p q : Page) → t ≡ term.Chain c x v → ls ≡ v.items → ms ≡ v.items
    → Some l ≡ slice_get ls 0 → q ≡ after (placed_words (term_form (box_value x)) (term_side c) false) p → after (link_words c ends (term_links ms)) q ≡ after (term_words (term_form t) ends) p
chain-words c x v ls ms l t ends p q is are are' some first =
    left (placed_words (term_form (box_value x)) (term_side c) false) (link_words c ends (term_links ms)) p q first
    ∙ ap (λ (m : List TermLink). after (placed_words (term_form (box_value x)) (term_side c) false ++ link_words c ends (term_links m)) p) (are' ∙ sym are ∙ first-some ls l some)
    ∙ ap (λ (w : List Word). after w p)
    (sym (chained-words c ends (term_form (box_value x)) (term_link l) (term_links (drop 1 ls)))
    ∙ ap (λ (f : TermForm). term_words f ends) (chain-of-more c x v ls l t is are some))

pub formula-of-one : (c : Connective) (x : Box Formula Global) (v : Vec Link Global) (ls : List Link) (t : Formula) → t ≡ formula.Chain c x v → ls ≡ v.items → None ≡ slice_get ls 0
    → formula_form (box_value x) ≡ formula_form t
formula-of-one c x v ls t is are none =
    ap (λ (l : List Link). chained (FormulaForm.connected c) (formula_form (box_value x)) (link_forms l)) (sym (first-none ls none) ∙ are) ∙ sym (formula-chain c x v) ∙ ap formula_form (sym is)

formula-of-more : (c : Connective) (x : Box Formula Global) (v : Vec Link Global) (ls : List Link) (l : Link) (t : Formula) → t ≡ formula.Chain c x v → ls ≡ v.items → Some l ≡ slice_get ls 0
    → chained (FormulaForm.connected c) (formula_form (box_value x)) (link_form l ∷ link_forms (drop 1 ls)) ≡ formula_form t
formula-of-more c x v ls l t is are some =
    ap (λ (m : List Link). chained (FormulaForm.connected c) (formula_form (box_value x)) (link_forms m)) (sym (first-some ls l some) ∙ are) ∙ sym (formula-chain c x v) ∙ ap formula_form (sym is)

pub formula-needs_no_brackets : (c : Connective) (x : Box Formula Global) (v : Vec Link Global) (ls : List Link)
    (l : Link) (t : Formula) (asked : Level) (ends : Bool) → t ≡ formula.Chain c x v → ls ≡ v.items
    → Some l ≡ slice_get ls 0 → fits (connective_level c) asked ≡ formula_needs_no_brackets (formula_form t) asked ends
formula-needs_no_brackets c x v ls l t asked ends is are some = ap (λ (f : FormulaForm). formula_needs_no_brackets f asked ends) (formula-of-more c x v ls l t is are some)

pub formula-chain-words : (c : Connective) (x : Box Formula Global) (v : Vec Link Global) (ls ms : List Link) (l : Link)
    (t : Formula) (ends : Bool) (p q : Page) → t ≡ formula.Chain c x v → ls ≡ v.items → ms ≡ v.items
    → Some l ≡ slice_get ls 0 → q ≡ after (placed_formula (formula_form (box_value x)) (formula_side c) false) p
    → after (formula_link_words c ends (link_forms ms)) q ≡ after (formula_words (formula_form t) ends) p
formula-chain-words c x v ls ms l t ends p q is are are' some first =
    left (placed_formula (formula_form (box_value x)) (formula_side c) false) (formula_link_words c ends (link_forms ms)) p q first
    ∙ ap (λ (m : List Link). after (placed_formula (formula_form (box_value x)) (formula_side c) false ++ formula_link_words c ends (link_forms m)) p) (are' ∙ sym are ∙ first-some ls l some)
    ∙ ap (λ (w : List Word). after w p)
    (sym (chained-formula-words c ends (formula_form (box_value x)) (link_form l) (link_forms (drop 1 ls)))
    ∙ ap (λ (f : FormulaForm). formula_words f ends) (formula-of-more c x v ls l t is are some))
