-- What can be said stays so within more levels, and where it stands less freely within one more.
use Rattle.std.proofs.Common.{◌≡◌, ℕ, zero, suc, Bool, true, false, ◌||◌, refl, arith, nat_le}
use Rattle.std.proofs.lemmas.Bool.Decides.{nat_tests}
use Rattle.pb_text_tree.specs.Form.{TermForm, ArgumentForms, no_arguments, argument, FormulaForm}
use Rattle.pb_text_printer.specs.declared.level.Level.{Level}
use Rattle.pb_text_printer.specs.declared.level.Level.TheVariants as level
use Rattle.pb_text_printer.specs.Words.{binding_strength, fits, comparison_level, arithmetic_level, needs_no_brackets, goes_on, formula_needs_no_brackets, connective_level, term_side, formula_side, comparison_side, arithmetic_side}
use Rattle.pb_text_printer.specs.Sayable.{Opens, IsPut, IsSayable, AreSayable, MoreSayable, SomeSayable, FormulaSayable}

-- ---- one level more

abbrev Grows : (Bool → ℕ → Type 0) → Type 0
Grows P = (ends : Bool) (depth : ℕ) → P ends depth → P ends (suc depth)

opens-more : (P : ℕ → Type 0) → ((d : ℕ) → P d → P (suc d)) → (d : ℕ) → Opens d P → Opens (suc d) P
opens-more P grows zero h = absurd h
opens-more P grows (suc d) h = grows d h

put-more : (b : Bool) (P : Bool → ℕ → Type 0) (ends : Bool) (d : ℕ) → Grows P → IsPut b P ends d → IsPut b P ends (suc d)
put-more true P ends d grows h = grows ends d h
put-more false P ends d grows h = opens-more (P true) (grows true) d h

mutual
  pub says-more : (x : TermForm) (ends : Bool) (d : ℕ) → IsSayable x ends d → IsSayable x ends (suc d)
  says-more (TermForm.constant p value) ends d h = h
  says-more (TermForm.number p n) ends d h = h
  says-more (TermForm.name n) ends d h = h
  says-more (TermForm.not p x) ends d h =
      opens-more (IsPut (needs_no_brackets x level.Unary false) (IsSayable x) false)
      (λ e. put-more (needs_no_brackets x level.Unary false) (IsSayable x) false e (says-more x)) d h
  says-more (TermForm.negative p x) ends d h =
      opens-more (IsPut (needs_no_brackets x level.Unary false) (IsSayable x) false)
      (λ e. put-more (needs_no_brackets x level.Unary false) (IsSayable x) false e (says-more x)) d h
  says-more (TermForm.connected c p x y) ends d h =
      (put-more (needs_no_brackets x (term_side c) false) (IsSayable x) false d (says-more x) h.0, put-more (needs_no_brackets y (connective_level c) ends) (IsSayable y) ends d (says-more y) h.1)
  says-more (TermForm.compared c p x y) ends d h = (
    put-more (needs_no_brackets x (comparison_side c) false) (IsSayable x) false d (says-more x) h.0,
    put-more
        (needs_no_brackets y (comparison_side c) false) (IsSayable y) false d (says-more y) h.1,
  )
  says-more (TermForm.computed o p x y) ends d h = (
    put-more (goes_on o x || needs_no_brackets x (arithmetic_side o) false) (IsSayable x) false d (says-more x) h.0,
    put-more (needs_no_brackets y (arithmetic_side o) false) (IsSayable y) false d (says-more y) h.1,
  )
  says-more (TermForm.application f xs) ends d h = (h.0, list-more xs d h.1)
  says-more (TermForm.quantified q p vars x) ends d h = (h.0, opens-more (IsSayable x true) (says-more x true) d h.1)

  list-more : (xs : ArgumentForms) (d : ℕ) → AreSayable xs d → AreSayable xs (suc d)
  list-more no_arguments d h = h
  list-more (argument p x xs) d h = opens-more (λ e. IsSayable x true e × MoreSayable xs e) (λ e i. (says-more x true e i.0, more-more xs e i.1)) d h

  more-more : (xs : ArgumentForms) (d : ℕ) → MoreSayable xs d → MoreSayable xs (suc d)
  more-more no_arguments d h = h
  more-more (argument p x xs) d h = (says-more x true d h.0, more-more xs d h.1)

instance-more : (xs : ArgumentForms) (d : ℕ) → SomeSayable xs d → SomeSayable xs (suc d)
instance-more no_arguments d h = h
instance-more (argument p x xs) d h = list-more (argument p x xs) d h

pub formula-more : (x : FormulaForm) (ends : Bool) (d : ℕ) → FormulaSayable x ends d → FormulaSayable x ends (suc d)
formula-more (FormulaForm.constant p value) ends d h = h
formula-more (FormulaForm.val p x) ends d h = opens-more (IsSayable x true) (says-more x true) d h
formula-more (FormulaForm.instance i) ends d h = (h.0, instance-more i.arguments d h.1)
formula-more (FormulaForm.negation p x) ends d h =
    opens-more (IsPut (formula_needs_no_brackets x level.Unary false) (FormulaSayable x) false)
    (λ e. put-more (formula_needs_no_brackets x level.Unary false) (FormulaSayable x) false e (formula-more x)) d h
formula-more (FormulaForm.connected c p x y) ends d h = (
  put-more (formula_needs_no_brackets x (formula_side c) false) (FormulaSayable x) false d (formula-more x) h.0,
  put-more (formula_needs_no_brackets y (connective_level c) ends) (FormulaSayable y) ends d (formula-more y) h.1,
)
formula-more (FormulaForm.quantified q p vars x) ends d h = (h.0, opens-more (FormulaSayable x true) (formula-more x true) d h.1)

-- ---- where a quantifier may end it, and where not

-- What can be said stays so within more levels, where a quantifier may end it, and within one more where none may.
pub record Bends (P : Bool → ℕ → Type 0) : Type 0 where
  pub more : (ends : Bool) (depth : ℕ) → P ends depth → P ends (suc depth)
  pub closed : (depth : ℕ) → P true depth → P false (suc depth)
  pub opened : (depth : ℕ) → P false depth → P true depth

put-closed : (b c : Bool) (P : Bool → ℕ → Type 0) (d : ℕ) → Grows P → (P true d → P false (suc d)) → (c ≡ true → b ≡ true) → IsPut b P true d → IsPut c P false (suc d)
put-closed true true P d grows close freer h = close h
put-closed true false P d grows close freer h = h
put-closed false true P d grows close freer h = let e : false ≡ true = freer refl in cc
put-closed false false P d grows close freer h = opens-more (P true) (grows true) d h

opens-out : (P : ℕ → Type 0) → ((d : ℕ) → P d → P (suc d)) → (d : ℕ) → Opens d P → P d
opens-out P grows zero h = absurd h
opens-out P grows (suc d) h = grows d h

put-opened : (b c : Bool) (P : Bool → ℕ → Type 0) (d : ℕ) → Grows P → (P false d → P true d) → (c ≡ true → b ≡ true) → IsPut c P false d → IsPut b P true d
put-opened true true P d grows opening freer h = opening h
put-opened true false P d grows opening freer h = opens-out (P true) (grows true) d h
put-opened false true P d grows opening freer h = let e : false ≡ true = freer refl in cc
put-opened false false P d grows opening freer h = h

needs_no_brackets-open : (x : TermForm) (l : Level) → needs_no_brackets x l false ≡ true → needs_no_brackets x l true ≡ true
needs_no_brackets-open (TermForm.quantified q p vars x) l h = refl
needs_no_brackets-open (TermForm.constant p value) l h = h
needs_no_brackets-open (TermForm.number p n) l h = h
needs_no_brackets-open (TermForm.name n) l h = h
needs_no_brackets-open (TermForm.not p x) l h = h
needs_no_brackets-open (TermForm.negative p x) l h = h
needs_no_brackets-open (TermForm.connected c p x y) l h = h
needs_no_brackets-open (TermForm.compared c p x y) l h = h
needs_no_brackets-open (TermForm.computed o p x y) l h = h
needs_no_brackets-open (TermForm.application f xs) l h = h

says-closed : (x : TermForm) (d : ℕ) → IsSayable x true d → IsSayable x false (suc d)
says-closed (TermForm.connected c p x y) d h = (
  put-more (needs_no_brackets x (term_side c) false) (IsSayable x) false d (says-more x) h.0,
  put-closed (needs_no_brackets y (connective_level c) true) (needs_no_brackets y (connective_level c) false)
      (IsSayable y) d (says-more y) (says-closed y d) (needs_no_brackets-open y (connective_level c)) h.1,
)
says-closed (TermForm.constant p value) d h = h
says-closed (TermForm.number p n) d h = h
says-closed (TermForm.name n) d h = h
says-closed (TermForm.not p x) d h = says-more (TermForm.not p x) false d h
says-closed (TermForm.negative p x) d h = says-more (TermForm.negative p x) false d h
says-closed (TermForm.compared c p x y) d h = says-more (TermForm.compared c p x y) false d h
says-closed (TermForm.computed o p x y) d h = says-more (TermForm.computed o p x y) false d h
says-closed (TermForm.application f xs) d h = says-more (TermForm.application f xs) false d h
says-closed (TermForm.quantified q p vars x) d h = says-more (TermForm.quantified q p vars x) false d h

says-opened : (x : TermForm) (d : ℕ) → IsSayable x false d → IsSayable x true d
says-opened (TermForm.connected c p x y) d h = (
  h.0,
  put-opened (needs_no_brackets y (connective_level c) true) (needs_no_brackets y (connective_level c) false)
      (IsSayable y) d (says-more y) (says-opened y d) (needs_no_brackets-open y (connective_level c)) h.1,
)
says-opened (TermForm.constant p value) d h = h
says-opened (TermForm.number p n) d h = h
says-opened (TermForm.name n) d h = h
says-opened (TermForm.not p x) d h = h
says-opened (TermForm.negative p x) d h = h
says-opened (TermForm.compared c p x y) d h = h
says-opened (TermForm.computed o p x y) d h = h
says-opened (TermForm.application f xs) d h = h
says-opened (TermForm.quantified q p vars x) d h = h

pub term-bends : (x : TermForm) → Bends (IsSayable x)
term-bends x = record { more = says-more x; closed = says-closed x; opened = says-opened x }

formula-needs_no_brackets-open : (x : FormulaForm) (l : Level) → formula_needs_no_brackets x l false ≡ true → formula_needs_no_brackets x l true ≡ true
formula-needs_no_brackets-open (FormulaForm.quantified q p vars x) l h = refl
formula-needs_no_brackets-open (FormulaForm.constant p value) l h = h
formula-needs_no_brackets-open (FormulaForm.val p x) l h = h
formula-needs_no_brackets-open (FormulaForm.instance i) l h = h
formula-needs_no_brackets-open (FormulaForm.negation p x) l h = h
formula-needs_no_brackets-open (FormulaForm.connected c p x y) l h = h

formula-closed : (x : FormulaForm) (d : ℕ) → FormulaSayable x true d → FormulaSayable x false (suc d)
formula-closed (FormulaForm.connected c p x y) d h = (
  put-more (formula_needs_no_brackets x (formula_side c) false) (FormulaSayable x) false d (formula-more x) h.0,
  put-closed (formula_needs_no_brackets y (connective_level c) true) (formula_needs_no_brackets y (connective_level c) false) (FormulaSayable y) d (formula-more y) (formula-closed y d)
      (formula-needs_no_brackets-open y (connective_level c)) h.1,
)
formula-closed (FormulaForm.constant p value) d h = h
formula-closed (FormulaForm.val p x) d h = formula-more (FormulaForm.val p x) false d h
formula-closed (FormulaForm.instance i) d h = formula-more (FormulaForm.instance i) false d h
formula-closed (FormulaForm.negation p x) d h = formula-more (FormulaForm.negation p x) false d h
formula-closed (FormulaForm.quantified q p vars x) d h = formula-more (FormulaForm.quantified q p vars x) false d h

formula-opened : (x : FormulaForm) (d : ℕ) → FormulaSayable x false d → FormulaSayable x true d
formula-opened (FormulaForm.connected c p x y) d h = (
  h.0,
  put-opened (formula_needs_no_brackets y (connective_level c) true) (formula_needs_no_brackets y (connective_level c) false) (FormulaSayable y) d (formula-more y) (formula-opened y d)
      (formula-needs_no_brackets-open y (connective_level c)) h.1,
)
formula-opened (FormulaForm.constant p value) d h = h
formula-opened (FormulaForm.val p x) d h = h
formula-opened (FormulaForm.instance i) d h = h
formula-opened (FormulaForm.negation p x) d h = h
formula-opened (FormulaForm.quantified q p vars x) d h = h

pub formula-bends : (x : FormulaForm) → Bends (FormulaSayable x)
formula-bends x = record { more = formula-more x; closed = formula-closed x; opened = formula-opened x }

-- ---- where it stands

-- where it stands without brackets more often, it can be said as well
pub puts : (P : Bool → ℕ → Type 0) → Bends P → (b c ends : Bool) (d : ℕ) → (b ≡ true → c ≡ true) → IsPut b P ends d → IsPut c P ends d
puts P bends true true ends d freer h = h
puts P bends true false ends d freer h = let e : false ≡ true = freer refl in cc
puts P bends false true true d freer h = opens-out (P true) (bends.more true) d h
puts P bends false true false zero freer h = absurd h
puts P bends false true false (suc d) freer h = bends.closed d h
puts P bends false false ends d freer h = h

-- and where a quantifier may end it
pub puts-open : (P : Bool → ℕ → Type 0) → Bends P → (b c : Bool) (d : ℕ) → (b ≡ true → c ≡ true) → IsPut b P false d → IsPut c P true d
puts-open P bends b c d freer h = put-opened c b P d bends.more (bends.opened d) freer h

-- in brackets
pub puts-bracketed : (P : Bool → ℕ → Type 0) → Bends P → (b : Bool) (d : ℕ) → P true d → IsPut b P false (suc d)
puts-bracketed P bends true d h = bends.closed d h
puts-bracketed P bends false d h = h

-- ---- levels

fits-more : (a b c : ℕ) → nat_le b a ≡ true → nat_le c b ≡ true → nat_le c a ≡ true
fits-more a b c h g = grind (arith, nat_tests)

-- what stands at a level stands at a looser one
pub looser : (x : TermForm) (l m : Level) (ends : Bool) → fits l m ≡ true → needs_no_brackets x l ends ≡ true → needs_no_brackets x m ends ≡ true
looser (TermForm.connected c p x y) l m ends e h = fits-more (binding_strength (connective_level c)) (binding_strength l) (binding_strength m) h e
looser (TermForm.compared c p x y) l m ends e h = fits-more (binding_strength (comparison_level c)) (binding_strength l) (binding_strength m) h e
looser (TermForm.computed o p x y) l m ends e h = fits-more (binding_strength (arithmetic_level o)) (binding_strength l) (binding_strength m) h e
looser (TermForm.quantified q p vars x) l m ends e h = h
looser (TermForm.constant p value) l m ends e h = h
looser (TermForm.number p n) l m ends e h = h
looser (TermForm.name n) l m ends e h = h
looser (TermForm.not p x) l m ends e h = h
looser (TermForm.negative p x) l m ends e h = h
looser (TermForm.application f xs) l m ends e h = h

pub formula-looser : (x : FormulaForm) (l m : Level) (ends : Bool) → fits l m ≡ true → formula_needs_no_brackets x l ends ≡ true → formula_needs_no_brackets x m ends ≡ true
formula-looser (FormulaForm.connected c p x y) l m ends e h = fits-more (binding_strength (connective_level c)) (binding_strength l) (binding_strength m) h e
formula-looser (FormulaForm.quantified q p vars x) l m ends e h = h
formula-looser (FormulaForm.constant p value) l m ends e h = h
formula-looser (FormulaForm.val p x) l m ends e h = h
formula-looser (FormulaForm.instance i) l m ends e h = h
formula-looser (FormulaForm.negation p x) l m ends e h = h

fits-lowest : (n : ℕ) → nat_le 0 n ≡ true
fits-lowest n = grind (arith, nat_tests)

-- where anything may stand, nothing needs brackets
pub needs_no_brackets-whole : (x : TermForm) → needs_no_brackets x level.Implication true ≡ true
needs_no_brackets-whole (TermForm.connected c p x y) = fits-lowest (binding_strength (connective_level c))
needs_no_brackets-whole (TermForm.compared c p x y) = fits-lowest (binding_strength (comparison_level c))
needs_no_brackets-whole (TermForm.computed o p x y) = fits-lowest (binding_strength (arithmetic_level o))
needs_no_brackets-whole (TermForm.quantified q p vars x) = refl
needs_no_brackets-whole (TermForm.constant p value) = refl
needs_no_brackets-whole (TermForm.number p n) = refl
needs_no_brackets-whole (TermForm.name n) = refl
needs_no_brackets-whole (TermForm.not p x) = refl
needs_no_brackets-whole (TermForm.negative p x) = refl
needs_no_brackets-whole (TermForm.application f xs) = refl

pub formula-needs_no_brackets-whole : (x : FormulaForm) → formula_needs_no_brackets x level.Implication true ≡ true
formula-needs_no_brackets-whole (FormulaForm.connected c p x y) = fits-lowest (binding_strength (connective_level c))
formula-needs_no_brackets-whole (FormulaForm.quantified q p vars x) = refl
formula-needs_no_brackets-whole (FormulaForm.constant p value) = refl
formula-needs_no_brackets-whole (FormulaForm.val p x) = refl
formula-needs_no_brackets-whole (FormulaForm.instance i) = refl
formula-needs_no_brackets-whole (FormulaForm.negation p x) = refl

-- ---- a looser level

pub term-looser : (x : TermForm) (l m : Level) (ends : Bool) (d : ℕ) → fits l m ≡ true
    → IsPut (needs_no_brackets x l ends) (IsSayable x) ends d → IsPut (needs_no_brackets x m ends) (IsSayable x) ends d
term-looser x l m ends d e h = puts (IsSayable x) (term-bends x) (needs_no_brackets x l ends) (needs_no_brackets x m ends) ends d (looser x l m ends e) h

pub term-freer : (x : TermForm) (l : Level) (ends : Bool) (d : ℕ) → IsPut (needs_no_brackets x l false) (IsSayable x) false d → IsPut (needs_no_brackets x l ends) (IsSayable x) ends d
term-freer x l false d h = h
term-freer x l true d h = puts-open (IsSayable x) (term-bends x) (needs_no_brackets x l false) (needs_no_brackets x l true) d (needs_no_brackets-open x l) h

pub formula-loosens : (x : FormulaForm) (l m : Level) (ends : Bool) (d : ℕ) → fits l m ≡ true
    → IsPut (formula_needs_no_brackets x l ends) (FormulaSayable x) ends d
    → IsPut (formula_needs_no_brackets x m ends) (FormulaSayable x) ends d
formula-loosens x l m ends d e h = puts (FormulaSayable x) (formula-bends x) (formula_needs_no_brackets x l ends) (formula_needs_no_brackets x m ends) ends d (formula-looser x l m ends e) h

pub formula-freer : (x : FormulaForm) (l : Level) (ends : Bool) (d : ℕ)
    → IsPut (formula_needs_no_brackets x l false) (FormulaSayable x) false d
    → IsPut (formula_needs_no_brackets x l ends) (FormulaSayable x) ends d
formula-freer x l false d h = h
formula-freer x l true d h = puts-open (FormulaSayable x) (formula-bends x) (formula_needs_no_brackets x l false) (formula_needs_no_brackets x l true) d (formula-needs_no_brackets-open x l) h
