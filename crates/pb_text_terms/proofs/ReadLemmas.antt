-- What the functions for terms give, step by step: comparisons, arithmetic, signs, brackets and names.
use Rattle.std.proofs.Common.{◌≡◌, ◌≢◌, ℕ, zero, suc, ◌-◌, ◌<◌, Bool, true, false, cond, List, [], ◌∷◌, ◌≤◌, length, map, refl, sym, ap, ◌∙◌, arith, Result, Ok, Err, OnOk}
use Rattle.std.specs.Str.Parse.{digits_value}
use Rattle.pb_text_tree.specs.declared.place.Place.{Place}
use Rattle.pb_text_tree.specs.declared.operator.Arithmetic.{Arithmetic}
use Rattle.pb_text_tree.specs.declared.term.Argument.{Argument}
use Rattle.pb_text_tree.specs.Form.{Named, TermForm, ArgumentForms, InstanceForm, term_form, argument_forms, calculated}
use Rattle.pb_text_lexer.specs.declared.fault.ReadingRule.TheVariants.{Unexpected}
use Rattle.pb_text_lexer.specs.declared.fault.Refusal.{Refusal}
use Rattle.pb_base.specs.declared.or_memory.OrMemory.{OrMemory}
use Rattle.pb_base.proofs.Faults.{if_fault}
use Rattle.pb_text_lexer.proofs.LoopLemmas.{resumed-first, resumed-first-fails, resumed-end}
use Rattle.pb_text_lexer.specs.declared.kind.Kind.{Kind}
use Rattle.pb_text_lexer.specs.declared.kind.Kind.TheVariants as k
use Rattle.pb_text_lexer.specs.Grammar.{State}
use Rattle.pb_text_lexer.specs.Kinds.{same_kind}
use Rattle.pb_text_lexer.specs.LeftGrammar.{grouped}
use Rattle.pb_text_lexer.specs.Steps.{Step, Outcome, and_then, ◌>>=◌, pure, refuse, refusal, kind, head_text, take_token, take_from, take_operator, expect, enter, operator_of, nothing_between, listed, series, place, link, linked, comparison, chain, Gives}
use Rattle.pb_text_lexer.specs.Tokens.{Tok}
use Rattle.pb_text_lexer.proofs.TokenLemmas.{kind-same}
use Rattle.pb_text_terms.specs.declared.operator.Operators.{Operators}
use Rattle.pb_text_terms.specs.declared.operator.Operators.TheVariants.{Additive, Times, Division}
use Rattle.pb_text_terms.specs.Operators.{computed_by, arithmetic_of, is_connective, is_times, is_division, is_additive, is_order, is_equality, is_operator, is_binder, compared_by}
use Rattle.pb_text_terms.specs.Grammar.{arguments_of, applied}
use Rattle.pb_text_terms.specs.Reading.{name, with_place, closed, is_open, is_among, operation, operations, numeral, product, sum, ordered, unary, begun, lowest, equated, term, below, instance, argument_list, argument_pair, quantifier_of, quantified_by, bound_by}
use Rattle.pb_text_terms.proofs.TermLemmas.{unary-is, lowest-is}

-- ---- a comparison

module _ {X : Type 0} (test : Kind → Bool) (join : X → Tok → X → X) (item : Step X) where
  pub left-fails : (s : State) (bad : Refusal) → item s ≡ Err bad → comparison test join item s ≡ Err bad
  left-fails s bad reads = rw reads refl

  pub left-alone : (s s1 : State) (x : X) → item s ≡ Ok (x, s1) → test (kind s1) ≡ false → comparison test join item s ≡ Ok (x, s1)
  left-alone s s1 x reads other = rw reads (rw other refl)

  pub sign-fails : (s s1 : State) (x : X) (bad : Refusal) → item s ≡ Ok (x, s1) → test (kind s1) ≡ true → take_operator s1 ≡ Err bad → comparison test join item s ≡ Err bad
  unfolding operator_of
  sign-fails s s1 x bad reads stands taken = rw reads (rw stands (rw stands (rw taken refl)))

  pub right-fails : (s s1 s2 : State) (x : X) (t : Tok) (bad : Refusal) → item s ≡ Ok (x, s1) → test (kind s1) ≡ true → take_operator s1 ≡ Ok (t, s2) → item s2 ≡ Err bad
      → comparison test join item s ≡ Err bad
  unfolding operator_of
  right-fails s s1 s2 x t bad reads stands taken fails = rw reads (rw stands (rw stands (rw taken (rw fails refl))))

  pub right-goes-on : (s s1 s2 s3 : State) (x y : X) (t : Tok) → item s ≡ Ok (x, s1) → test (kind s1) ≡ true → take_operator s1 ≡ Ok (t, s2) → item s2 ≡ Ok (y, s3) → test (kind s3) ≡ true
      → comparison test join item s ≡ Err (refusal Unexpected s3.tokens)
  unfolding operator_of
  right-goes-on s s1 s2 s3 x y t reads stands taken reads' again = rw reads (rw stands (rw stands (rw taken (rw reads' (rw again refl)))))

  pub both-read : (s s1 s2 s3 : State) (x y : X) (t : Tok) → item s ≡ Ok (x, s1) → test (kind s1) ≡ true → take_operator s1 ≡ Ok (t, s2) → item s2 ≡ Ok (y, s3) → test (kind s3) ≡ false
      → comparison test join item s ≡ Ok (join x t y, s3)
  unfolding operator_of
  both-read s s1 s2 s3 x y t reads stands taken reads' other = rw reads (rw stands (rw stands (rw taken (rw reads' (rw other refl)))))

-- ---- no operator

abbrev NoOperator : Kind → Type 0
NoOperator kind = (is_times kind ≡ false) × (is_division kind ≡ false) × (is_additive kind ≡ false) × (is_order kind ≡ false) × (is_equality kind ≡ false)

no-operator : (kind : Kind) → is_operator kind ≡ false → NoOperator kind
no-operator k.Plus h = absurd (let no : ⊥ = cc in no)
no-operator k.Minus h = absurd (let no : ⊥ = cc in no)
no-operator k.Times h = absurd (let no : ⊥ = cc in no)
no-operator k.Div h = absurd (let no : ⊥ = cc in no)
no-operator k.Mod h = absurd (let no : ⊥ = cc in no)
no-operator k.Less h = absurd (let no : ⊥ = cc in no)
no-operator k.LessOrEqual h = absurd (let no : ⊥ = cc in no)
no-operator k.Greater h = absurd (let no : ⊥ = cc in no)
no-operator k.GreaterOrEqual h = absurd (let no : ⊥ = cc in no)
no-operator k.Equal h = absurd (let no : ⊥ = cc in no)
no-operator k.NotEqual h = absurd (let no : ⊥ = cc in no)
no-operator _ h = (refl, refl, refl, refl, refl)

-- ---- one operator with its operand

module _ (o : Operators) (item : Step TermForm) where
  pub operation-fails : (s : State) (bad : Refusal) → is_among o (kind s) ≡ true → take_operator s ≡ Err bad → operation o item s ≡ Err bad
  unfolding operator_of
  operation-fails s bad stands taken = rw stands (rw taken refl)

  pub operation-operand-fails : (s s1 : State) (t : Tok) (bad : Refusal) → is_among o (kind s) ≡ true → take_operator s ≡ Ok (t, s1) → item s1 ≡ Err bad → operation o item s ≡ Err bad
  unfolding operator_of
  operation-operand-fails s s1 t bad stands taken fails = rw stands (rw taken (rw fails refl))

  pub operation-read : (s s1 s2 : State) (t : Tok) (x : TermForm) → is_among o (kind s) ≡ true → take_operator s ≡ Ok (t, s1) → item s1 ≡ Ok (x, s2)
      → operation o item s ≡ Ok ((arithmetic_of t.kind, t.place, x), s2)
  unfolding operator_of
  operation-read s s1 s2 t x stands taken reads = rw stands (rw taken (rw reads refl))

-- ---- links are operations

abbrev at_operator : Tok × TermForm → Arithmetic × Place × TermForm
at_operator l = (arithmetic_of l.0.kind, l.0.place, l.1)

grouped-is : (x : TermForm) (ls : List (Tok × TermForm)) → grouped computed_by x ls ≡ calculated x (map at_operator ls)
grouped-is x [] = refl
grouped-is x (l ∷ ls) = grouped-is (computed_by x l.0 l.1) ls

module _ (o : Operators) (item : Step TermForm) where
  abbrev links-from : ℕ → Step (List (Tok × TermForm))
  links-from n = listed (link (is_among o) item) (is_among o) nothing_between n

  abbrev operations-from : ℕ → Step (List (Arithmetic × Place × TermForm))
  operations-from n = listed (operation o item) (is_among o) nothing_between n

  abbrev mapped : Outcome (List (Tok × TermForm)) → Outcome (List (Arithmetic × Place × TermForm))
  mapped r = and_then r (λ ls. pure (map at_operator ls))

  rest-mapped : (l : Tok × TermForm) (r : Outcome (List (Tok × TermForm))) → mapped (and_then r (λ ls. pure (l ∷ ls))) ≡ and_then (mapped r) (λ ls. pure (at_operator l ∷ ls))
  rest-mapped l (Ok r) = refl
  rest-mapped l (Err bad) = refl

  links-mapped : (n : ℕ) (s : State) → mapped (links-from n s) ≡ operations-from n s
  unfolding series
  links-mapped zero s = refl
  links-mapped (suc n) s = at-sign (links-mapped n) (operator_of (is_among o) s)
    where
      goes-on : ((s2 : State) → mapped (links-from n s2) ≡ operations-from n s2) → (l : Tok × TermForm) (s2 : State) (b : Bool)
          → mapped (cond b (links-from n >>= (λ ls. pure (l ∷ ls))) (pure (l ∷ [])) s2) ≡ cond b (operations-from n >>= (λ ls. pure (at_operator l ∷ ls))) (pure (at_operator l ∷ [])) s2
      goes-on again l s2 true = rest-mapped l (links-from n s2) ∙ ap (λ r. and_then r (λ ls. pure (at_operator l ∷ ls))) (again s2)
      goes-on again l s2 false = refl

      at-operand : ((s2 : State) → mapped (links-from n s2) ≡ operations-from n s2) → (t : Tok) (r : Outcome TermForm)
          → mapped (and_then (and_then r (λ y. pure (t, y))) (λ l s2. cond (is_among o (kind s2)) (links-from n >>= (λ ls. pure (l ∷ ls))) (pure (l ∷ [])) s2))
          ≡ and_then (and_then r (λ y. pure (at_operator (t, y)))) (λ l s2. cond (is_among o (kind s2)) (operations-from n >>= (λ ls. pure (l ∷ ls))) (pure (l ∷ [])) s2)
      at-operand again t (Ok r) = goes-on again (t, r.0) r.1 (is_among o (kind r.1))
      at-operand again t (Err bad) = refl

      at-sign : ((s2 : State) → mapped (links-from n s2) ≡ operations-from n s2) → (r : Outcome Tok)
          → mapped (and_then (and_then r (λ t. item >>= (λ y. pure (t, y)))) (λ l s2. cond (is_among o (kind s2)) (links-from n >>= (λ ls. pure (l ∷ ls))) (pure (l ∷ [])) s2))
          ≡ and_then (and_then r (λ t. item >>= (λ y. pure (at_operator (t, y))))) (λ l s2. cond (is_among o (kind s2)) (operations-from n >>= (λ ls. pure (l ∷ ls))) (pure (l ∷ [])) s2)
      at-sign again (Ok r) = at-operand again r.0 (item r.1)
      at-sign again (Err bad) = refl

  pub linked-is : (x : TermForm) (s : State) → linked (is_among o) computed_by item x s ≡ and_then (operations o item s) (λ ls. pure (calculated x ls))
  linked-is x s = over (links-from (suc (length s.tokens)) s) ∙ ap (λ r. and_then r (λ ls. pure (calculated x ls))) (links-mapped (suc (length s.tokens)) s)
    where
      over : (r : Outcome (List (Tok × TermForm))) → and_then r (λ ls. pure (grouped computed_by x ls)) ≡ and_then (mapped r) (λ ls. pure (calculated x ls))
      over (Ok r) = ap (λ v. Ok (v, r.1)) (grouped-is x r.0)
      over (Err bad) = refl

-- ---- sums

module _ (u : Step TermForm) where
  pub sum-first-fails : (s : State) (bad : Refusal) → product u s ≡ Err bad → sum u s ≡ Err bad
  unfolding sum
  sum-first-fails s bad reads = rw reads refl

  pub sum-alone : (s s1 : State) (x : TermForm) → product u s ≡ Ok (x, s1) → is_additive (kind s1) ≡ false → sum u s ≡ Ok (x, s1)
  unfolding sum
  sum-alone s s1 x reads other = rw reads (rw other refl)

  sum-goes : (s s1 : State) (x : TermForm) → product u s ≡ Ok (x, s1) → is_additive (kind s1) ≡ true → sum u s ≡ linked is_additive computed_by (product u) x s1
  unfolding sum
  sum-goes s s1 x reads goes = rw reads (rw goes refl)

  pub sum-fails : (s s1 : State) (x : TermForm) (bad : Refusal) → product u s ≡ Ok (x, s1) → is_additive (kind s1) ≡ true → operations Additive (product u) s1 ≡ Err bad → sum u s ≡ Err bad
  sum-fails s s1 x bad reads goes fails = sum-goes s s1 x reads goes ∙ linked-is Additive (product u) x s1 ∙ ap (λ r. and_then r (λ ls. pure (calculated x ls))) fails

  pub sum-read : (s s1 s2 : State) (x : TermForm) (ls : List (Arithmetic × Place × TermForm)) → product u s ≡ Ok (x, s1) → is_additive (kind s1) ≡ true
      → operations Additive (product u) s1 ≡ Ok (ls, s2) → sum u s ≡ Ok (calculated x ls, s2)
  sum-read s s1 s2 x ls reads goes found = sum-goes s s1 x reads goes ∙ linked-is Additive (product u) x s1 ∙ ap (λ r. and_then r (λ ls. pure (calculated x ls))) found

-- ---- products

abbrev guarded : (Kind → Bool) → Outcome TermForm → Outcome TermForm
guarded test r = and_then r (λ x s. cond (test (kind s)) (refuse Unexpected) (pure x) s)

module _ (u : Step TermForm) where
  pub product-first-fails : (s : State) (bad : Refusal) → u s ≡ Err bad → product u s ≡ Err bad
  unfolding product
  product-first-fails s bad reads = rw reads refl

  pub product-alone : (s s1 : State) (x : TermForm) → u s ≡ Ok (x, s1) → is_times (kind s1) ≡ false → is_division (kind s1) ≡ false → product u s ≡ Ok (x, s1)
  unfolding product
  product-alone s s1 x reads other other' = rw reads (rw (other, other') refl)

  times-goes : (s s1 : State) (x : TermForm) → u s ≡ Ok (x, s1) → is_times (kind s1) ≡ true → product u s ≡ guarded is_division (linked is_times computed_by u x s1)
  unfolding product
  times-goes s s1 x reads goes = rw reads (rw goes (rw goes refl))

  division-goes : (s s1 : State) (x : TermForm) → u s ≡ Ok (x, s1) → is_times (kind s1) ≡ false → is_division (kind s1) ≡ true → product u s ≡ guarded is_times (linked is_division computed_by u x s1)
  unfolding product
  division-goes s s1 x reads other goes = rw reads (rw (other, goes) (rw other refl))

  pub times-fail : (s s1 : State) (x : TermForm) (bad : Refusal) → u s ≡ Ok (x, s1) → is_times (kind s1) ≡ true → operations Times u s1 ≡ Err bad → product u s ≡ Err bad
  times-fail s s1 x bad reads goes fails =
      times-goes s s1 x reads goes ∙ ap (guarded is_division) (linked-is Times u x s1 ∙ ap (λ r. and_then r (λ ls. pure (calculated x ls))) fails)

  times-found : (s s1 s2 : State) (x : TermForm) (ls : List (Arithmetic × Place × TermForm)) → u s ≡ Ok (x, s1) → is_times (kind s1) ≡ true → operations Times u s1 ≡ Ok (ls, s2)
      → product u s ≡ guarded is_division (Ok (calculated x ls, s2))
  times-found s s1 s2 x ls reads goes found =
      times-goes s s1 x reads goes ∙ ap (guarded is_division) (linked-is Times u x s1 ∙ ap (λ r. and_then r (λ ls. pure (calculated x ls))) found)

  pub times-mixed : (s s1 s2 : State) (x : TermForm) (ls : List (Arithmetic × Place × TermForm)) → u s ≡ Ok (x, s1) → is_times (kind s1) ≡ true → operations Times u s1 ≡ Ok (ls, s2)
      → is_division (kind s2) ≡ true → product u s ≡ Err (refusal Unexpected s2.tokens)
  times-mixed s s1 s2 x ls reads goes found mixed = times-found s s1 s2 x ls reads goes found ∙ rw mixed refl

  pub times-read : (s s1 s2 : State) (x : TermForm) (ls : List (Arithmetic × Place × TermForm)) → u s ≡ Ok (x, s1) → is_times (kind s1) ≡ true → operations Times u s1 ≡ Ok (ls, s2)
      → is_division (kind s2) ≡ false → product u s ≡ Ok (calculated x ls, s2)
  times-read s s1 s2 x ls reads goes found other = times-found s s1 s2 x ls reads goes found ∙ rw other refl

  pub division-fails : (s s1 : State) (x : TermForm) (bad : Refusal) → u s ≡ Ok (x, s1) → is_times (kind s1) ≡ false → is_division (kind s1) ≡ true → operations Division u s1 ≡ Err bad
      → product u s ≡ Err bad
  division-fails s s1 x bad reads other goes fails =
      division-goes s s1 x reads other goes ∙ ap (guarded is_times) (linked-is Division u x s1 ∙ ap (λ r. and_then r (λ ls. pure (calculated x ls))) fails)

  division-found : (s s1 s2 : State) (x : TermForm) (ls : List (Arithmetic × Place × TermForm)) → u s ≡ Ok (x, s1) → is_times (kind s1) ≡ false → is_division (kind s1) ≡ true
      → operations Division u s1 ≡ Ok (ls, s2) → product u s ≡ guarded is_times (Ok (calculated x ls, s2))
  division-found s s1 s2 x ls reads other goes found =
      division-goes s s1 x reads other goes ∙ ap (guarded is_times) (linked-is Division u x s1 ∙ ap (λ r. and_then r (λ ls. pure (calculated x ls))) found)

  pub division-mixed : (s s1 s2 : State) (x : TermForm) (ls : List (Arithmetic × Place × TermForm)) → u s ≡ Ok (x, s1) → is_times (kind s1) ≡ false → is_division (kind s1) ≡ true
      → operations Division u s1 ≡ Ok (ls, s2) → is_times (kind s2) ≡ true → product u s ≡ Err (refusal Unexpected s2.tokens)
  division-mixed s s1 s2 x ls reads other goes found mixed = division-found s s1 s2 x ls reads other goes found ∙ rw mixed refl

  pub division-read : (s s1 s2 : State) (x : TermForm) (ls : List (Arithmetic × Place × TermForm)) → u s ≡ Ok (x, s1) → is_times (kind s1) ≡ false → is_division (kind s1) ≡ true
      → operations Division u s1 ≡ Ok (ls, s2) → is_times (kind s2) ≡ false → product u s ≡ Ok (calculated x ls, s2)
  division-read s s1 s2 x ls reads other goes found unmixed = division-found s s1 s2 x ls reads other goes found ∙ rw unmixed refl

-- ---- names with arguments

module _ {X : Type 0} (p : Step X) where
  pub placed-fails : (s : State) (bad : Refusal) → p s ≡ Err bad → with_place p s ≡ Err bad
  placed-fails s bad reads = rw reads refl

  pub placed-read : (s z : State) (at : Place) (x : X) → at ≡ place s → p s ≡ Ok (x, z) → with_place p s ≡ Ok ((at, x), z)
  placed-read s z at x here reads = rw reads (ap (λ v. Ok ((v, x), z)) (sym here))

pub below-is : {X : Type 0} (p : ℕ → Step X) (depth : ℕ) → 0 < depth → below p depth ≡ p (depth - 1)
below-is p zero some = absurd (let no : ⊥ = omega (arith, some) in no)
below-is p (suc depth) some = let m : depth ≡ suc depth - 1 = omega arith in ap p m

pub arguments-is : (arguments : List Argument) → arguments_of (map argument_pair arguments) ≡ argument_forms arguments
arguments-is [] = refl
arguments-is (a ∷ arguments) = ap (λ v. ArgumentForms.argument a.place (term_form a.term) v) (arguments-is arguments)

module _ (depth : ℕ) (some : 0 < depth) (s s1 s2 : State) (found : Named) (t : Tok) (named : name s ≡ Ok (found, s1)) (opens : is_open (kind s1) ≡ true) (entered : enter depth s1 ≡ Ok (t, s2)) where
  pub arguments-fail : (bad : Refusal) → argument_list (term (depth - 1)) s2 ≡ Err bad → instance depth s ≡ Err bad
  arguments-fail bad fails = rw named (rw opens (rw (entered, below-is term depth some) (rw fails refl)))

  pub arguments-again : (s3 s4 : State) (c : Tok) (arguments : List (Place × TermForm)) → argument_list (term (depth - 1)) s2 ≡ Ok (arguments, s3) → expect k.Close s3 ≡ Ok (c, s4)
      → is_open (kind s4) ≡ true → instance depth s ≡ Err (refusal Unexpected s4.tokens)
  arguments-again s3 s4 c arguments reads closes again = rw named (rw opens (rw (entered, below-is term depth some) (rw reads (rw closes (rw again refl)))))

  pub arguments-read : (s3 s4 : State) (c : Tok) (arguments : List (Place × TermForm)) → argument_list (term (depth - 1)) s2 ≡ Ok (arguments, s3) → expect k.Close s3 ≡ Ok (c, s4)
      → is_open (kind s4) ≡ false → instance depth s ≡ Ok (record { name = found; arguments = arguments_of arguments }, s4)
  arguments-read s3 s4 c arguments reads closes other = rw named (rw opens (rw (entered, below-is term depth some) (rw reads (rw closes (rw other refl)))))

-- ---- signs, brackets, numbers and constants

pub begun-at : (depth : ℕ) (s : State) (k' : Kind) → kind s ≡ k' → unary depth s ≡ begun (enter depth) (below unary depth) (below term depth) k' s
begun-at depth s k' is = ap (λ p. p s) (unary-is depth) ∙ ap (λ v. begun (enter depth) (below unary depth) (below term depth) v s) is

pub inner-fails : (depth : ℕ) (s s1 : State) (t : Tok) (bad : Refusal) → 0 < depth → kind s ≡ k.Open → enter depth s ≡ Ok (t, s1) → term (depth - 1) s1 ≡ Err bad → unary depth s ≡ Err bad
inner-fails depth s s1 t bad some is entered fails = begun-at depth s k.Open is ∙ rw (entered, below-is term depth some) (rw fails refl)

abbrev token_or : Tok → Outcome Tok → Tok
token_or t (Ok r) = r.0
token_or t (Err bad) = t

text-of-taken : (ts : List Tok) (n : ℕ) (t : Tok) (s1 : State) → take_from ts n ≡ Ok (t, s1) → head_text ts ≡ t.text
text-of-taken [] n t s1 taken = cc
text-of-taken (u ∷ ts) n t s1 taken = ap (λ r. (token_or u r).text) taken

pub number-is : (s s1 : State) (t : Tok) → take_token s ≡ Ok (t, s1) → numeral s ≡ closed (TermForm.number t.place (digits_value 10 (head_text s.tokens))) s1
unfolding take_token
number-is s s1 t taken = rw taken (ap (λ text. closed (TermForm.number t.place (digits_value 10 text)) s1) (sym (text-of-taken s.tokens s.operators t s1 taken)))

pub name-is : (depth : ℕ) (s z : State) (i : InstanceForm) → kind s ≡ k.Name → instance depth s ≡ Ok (i, z) → unary depth s ≡ Ok (applied i.name i.arguments, z)
name-is depth s z i is reads = begun-at depth s k.Name is ∙ rw reads refl

begun-other : (entered : Step Tok) (u t : Step TermForm) (kind : Kind) → kind ≢ k.Not → kind ≢ k.Minus → kind ≢ k.Open → kind ≢ k.Number → kind ≢ k.True → kind ≢ k.False → kind ≢ k.Name
    → begun entered u t kind ≡ refuse Unexpected
begun-other entered u t k.Not a b c d e f g = absurd (a refl)
begun-other entered u t k.Minus a b c d e f g = absurd (b refl)
begun-other entered u t k.Open a b c d e f g = absurd (c refl)
begun-other entered u t k.Number a b c d e f g = absurd (d refl)
begun-other entered u t k.True a b c d e f g = absurd (e refl)
begun-other entered u t k.False a b c d e f g = absurd (f refl)
begun-other entered u t k.Name a b c d e f g = absurd (g refl)
begun-other entered u t _ a b c d e f g = refl

pub unary-other : (depth : ℕ) (s : State) → kind s ≢ k.Not → kind s ≢ k.Minus → kind s ≢ k.Open → kind s ≢ k.Number → kind s ≢ k.True → kind s ≢ k.False → kind s ≢ k.Name
    → unary depth s ≡ Err (refusal Unexpected s.tokens)
unary-other depth s a b c d e f g =
    begun-at depth s (kind s) refl ∙ ap (λ p. p s) (begun-other (enter depth) (below unary depth) (below term depth) (kind s) a b c d e f g)

-- ---- quantifiers

-- what doesn't count is a quantifier
pub bound-at : (enter : Step Tok) (body : Step TermForm) (kind : Kind) → same_kind kind k.Count ≡ false
    → bound_by enter body kind ≡ quantified_by TermForm.quantified enter body (quantifier_of kind)
unfolding same_kind
bound-at enter body k.Count h = let q : true ≡ false = h in absurd (let no : ⊥ = cc in no)
bound-at enter body _ h = refl

pub lowest-node : (depth : ℕ) (s : State) → is_binder (kind s) ≡ false → lowest depth s ≡ equated (unary depth) s
lowest-node depth s other = ap (λ p. p s) (lowest-is depth) ∙ rw other refl

-- ---- operands that are read first

module _ (depth : ℕ) where
  pub equated-first-fails : (s : State) (bad : Refusal) → unary depth s ≡ Err bad → equated (unary depth) s ≡ Err bad
  unfolding ordered equated
  equated-first-fails s bad fails =
      left-fails is_equality compared_by (ordered (unary depth)) s bad
      (left-fails is_order compared_by (sum (unary depth)) s bad (sum-first-fails (unary depth) s bad (product-first-fails (unary depth) s bad fails)))

  pub equated-alone : (s s1 : State) (x : TermForm) → unary depth s ≡ Ok (x, s1) → is_operator (kind s1) ≡ false → equated (unary depth) s ≡ Ok (x, s1)
  unfolding ordered equated
  equated-alone s s1 x reads other =
      let no = no-operator (kind s1) other in
      left-alone is_equality compared_by (ordered (unary depth)) s s1 x
      (left-alone is_order compared_by (sum (unary depth)) s s1 x
      (sum-alone (unary depth) s s1 x (product-alone (unary depth) s s1 x reads no.0 no.1) no.2) no.3) no.4

-- fewer tokens are left, where no more are left behind the first operand
pub on-fewer : {X E : Type 0} (r : Result X E) (a b c : ℕ) → OnOk r (a ≤ b) → b < c → OnOk r (a < c)
on-fewer (Ok x) a b c le lt = omega arith
on-fewer (Err e) a b c le lt = tt

-- a first operand behind which the connective doesn't stand
pub resumed-alone-or-fails : {X Y : Type 0} (c : Kind) (join : Place → X → X → X) (op : Step X) (view : Y → X) (n : ℕ) (s z : State) (r : Result Y (OrMemory Refusal))
    → Gives view (op s) r z → same_kind (kind z) c ≡ false → Gives view (chain c (λ x t y. join t.place x y) op (suc n) s) r z
resumed-alone-or-fails c join op view n s z (Ok x) reads other = resumed-first c join op n s z (view x) reads ∙ resumed-end c join op (n - 0) (view x) [] z other
resumed-alone-or-fails c join op view n s z (Err fault) reads other = if_fault fault (λ bad e. resumed-first-fails c join op n s bad e) reads

-- ---- connectives

pub no-connective : (c kind : Kind) → is_connective c ≡ true → is_connective kind ≡ false → same_kind kind c ≡ false
no-connective c kind is other = by (same_kind kind c) refl
  where
    by : (v : Bool) → same_kind kind c ≡ v → same_kind kind c ≡ false
    by true same = let no : false ≡ true = sym other ∙ ap is_connective (kind-same kind c same) ∙ is in absurd (let none : ⊥ = cc in none)
    by false same = same
