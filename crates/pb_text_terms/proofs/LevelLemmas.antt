-- Levels of operators: what is read at a level is read at each level above it, where no operator between them stands.
use Rattle.std.proofs.lemmas.Bool.{and_parts}
use Rattle.std.proofs.Common.{◌≡◌, ℕ, ◌&&◌, zero, suc, ◌+◌, ◌-◌, ◌<◌, ◌≤◌, Bool, true, false, List, [], length, refl, sym, ap, ◌∙◌, subst, arith, Some, Result, Ok, Err}
use Rattle.pb_text_tree.specs.declared.place.Place.{Place}
use Rattle.pb_text_tree.specs.declared.operator.Arithmetic.{Arithmetic}
use Rattle.pb_text_tree.specs.declared.operator.Connective.{Connective}
use Rattle.pb_text_tree.specs.declared.operator.Connective.TheVariants.{And, Or, Implies}
use Rattle.pb_text_tree.specs.declared.term.Term.{Term}
use Rattle.pb_text_tree.specs.Form.{TermForm, term_form, calculated}
use Rattle.pb_text_lexer.specs.declared.fault.ReadingRule.TheVariants.{Unexpected}
use Rattle.pb_base.specs.declared.or_memory.OrMemory.{OrMemory}
use Rattle.pb_base.proofs.Faults.{if_fault}
use Rattle.pb_text_lexer.specs.declared.fault.Refusal.{Refusal}
use Rattle.pb_text_lexer.specs.declared.kind.Kind.{Kind}
use Rattle.pb_text_lexer.specs.declared.kind.Kind.TheVariants as k
use Rattle.pb_text_lexer.specs.Grammar.{State}
use Rattle.pb_text_lexer.specs.Kinds.{same_kind}
use Rattle.pb_text_lexer.specs.Steps.{Step, enter, kind, refuse, refusal, comparison, chain, Gives}
use Rattle.pb_text_lexer.specs.Tokens.{Tok}
use Rattle.pb_text_lexer.proofs.LoopLemmas.{resumed-first, resumed-first-fails, resumed-end}
use Rattle.pb_text_lexer.proofs.TokenLemmas.{kind-same}
use Rattle.pb_text_terms.specs.declared.operator.Operators.{Operators}
use Rattle.pb_text_terms.specs.declared.operator.Operators.TheVariants.{Additive, Times, Division}
use Rattle.pb_text_terms.specs.declared.level.Level.{Level}
use Rattle.pb_text_terms.specs.declared.level.Level.TheVariants as l
use Rattle.pb_text_terms.specs.declared.level.Relation.{Relation}
use Rattle.pb_text_terms.specs.declared.level.Relation.TheVariants as relation
use Rattle.pb_text_terms.specs.declared.level.Operator.{Operator}
use Rattle.pb_text_terms.specs.declared.level.Operator.TheVariants as o
use Rattle.pb_text_terms.specs.Levels.{operator_of_token, level_of, operand_level, rank, may_quantify, is_related}
use Rattle.pb_text_terms.specs.Operators.{symbol_kind, is_times, is_division, is_additive, is_order, is_equality, is_binder, compared_by}
use Rattle.pb_text_terms.specs.Reading.{begun, unary, lowest, sum, ordered, equated, operand, operations, is_among, is_mixed, at, below, term, quantified_term}
use Rattle.pb_text_terms.proofs.TermLemmas.{lowest-is}
use Rattle.pb_text_terms.proofs.ReadLemmas.{left-alone, left-fails, begun-at, lowest-node, sum-first-fails, sum-alone, sum-fails, sum-read, product-first-fails, product-alone, times-fail, times-mixed, times-read, division-fails, division-mixed, division-read, equated-first-fails}

-- ---- levels in order

abbrev looser : Level → Level
looser l.Unary = l.Product
looser l.Product = l.Sum
looser l.Sum = l.Order
looser l.Order = l.Equality
looser l.Equality = l.Quantified
looser l.Quantified = l.Conjunction
looser l.Conjunction = l.Disjunction
looser l.Disjunction = l.Implication
looser l.Implication = l.Implication

abbrev tighter : Level → Level
tighter l.Unary = l.Unary
tighter l.Product = l.Unary
tighter l.Sum = l.Product
tighter l.Order = l.Sum
tighter l.Equality = l.Order
tighter l.Quantified = l.Equality
tighter l.Conjunction = l.Quantified
tighter l.Disjunction = l.Conjunction
tighter l.Implication = l.Disjunction

abbrev of_rank : ℕ → Level
of_rank zero = l.Unary
of_rank (suc n) = looser (of_rank n)

of-rank : (m : Level) → of_rank (rank m) ≡ m
of-rank l.Unary = refl
of-rank l.Product = refl
of-rank l.Sum = refl
of-rank l.Order = refl
of-rank l.Equality = refl
of-rank l.Quantified = refl
of-rank l.Conjunction = refl
of-rank l.Disjunction = refl
of-rank l.Implication = refl

same-rank : (m n : Level) → rank m ≡ rank n → m ≡ n
same-rank m n e = sym (of-rank m) ∙ ap of_rank e ∙ of-rank n

tighter-rank : (m : Level) (n : ℕ) → rank m ≡ suc n → rank (tighter m) ≡ n
tighter-rank l.Unary n e = let f : 0 ≡ suc n = e in let g : 0 ≡ n = omega arith in g
tighter-rank l.Product n e = let f : 1 ≡ suc n = e in let g : 0 ≡ n = omega arith in g
tighter-rank l.Sum n e = let f : 2 ≡ suc n = e in let g : 1 ≡ n = omega arith in g
tighter-rank l.Order n e = let f : 3 ≡ suc n = e in let g : 2 ≡ n = omega arith in g
tighter-rank l.Equality n e = let f : 4 ≡ suc n = e in let g : 3 ≡ n = omega arith in g
tighter-rank l.Quantified n e = let f : 5 ≡ suc n = e in let g : 4 ≡ n = omega arith in g
tighter-rank l.Conjunction n e = let f : 6 ≡ suc n = e in let g : 5 ≡ n = omega arith in g
tighter-rank l.Disjunction n e = let f : 7 ≡ suc n = e in let g : 6 ≡ n = omega arith in g
tighter-rank l.Implication n e = let f : 8 ≡ suc n = e in let g : 7 ≡ n = omega arith in g

pub operand-rank : (q : Operator) → suc (rank (operand_level q)) ≡ rank (level_of q)
operand-rank (o.Arithmetic Additive) = refl
operand-rank (o.Arithmetic Times) = refl
operand-rank (o.Arithmetic Division) = refl
operand-rank (o.Relation relation.Order) = refl
operand-rank (o.Relation relation.Equality) = refl
operand-rank (o.Connective And) = refl
operand-rank (o.Connective Or) = refl
operand-rank (o.Connective Implies) = refl

-- quantifiers may stand from a level upwards
pub may-rank : (m : Level) → 5 ≤ rank m → may_quantify m ≡ true
may-rank l.Unary le = absurd (let f : 5 ≤ 0 = le in let no : ⊥ = omega arith in no)
may-rank l.Product le = absurd (let f : 5 ≤ 1 = le in let no : ⊥ = omega arith in no)
may-rank l.Sum le = absurd (let f : 5 ≤ 2 = le in let no : ⊥ = omega arith in no)
may-rank l.Order le = absurd (let f : 5 ≤ 3 = le in let no : ⊥ = omega arith in no)
may-rank l.Equality le = absurd (let f : 5 ≤ 4 = le in let no : ⊥ = omega arith in no)
may-rank l.Quantified le = refl
may-rank l.Conjunction le = refl
may-rank l.Disjunction le = refl
may-rank l.Implication le = refl

pub rank-may : (m : Level) → may_quantify m ≡ true → 5 ≤ rank m
rank-may l.Unary h = absurd (let no : ⊥ = cc in no)
rank-may l.Product h = absurd (let no : ⊥ = cc in no)
rank-may l.Sum h = absurd (let no : ⊥ = cc in no)
rank-may l.Order h = absurd (let no : ⊥ = cc in no)
rank-may l.Equality h = absurd (let no : ⊥ = cc in no)
rank-may l.Quantified h = let g : 5 ≤ 5 = omega arith in g
rank-may l.Conjunction h = let g : 5 ≤ 6 = omega arith in g
rank-may l.Disjunction h = let g : 5 ≤ 7 = omega arith in g
rank-may l.Implication h = let g : 5 ≤ 8 = omega arith in g

pub may-above : (m n : Level) → rank m ≤ rank n → may_quantify m ≡ true → may_quantify n ≡ true
may-above m n le h = may-rank n (let low = rank-may m h in omega arith)

-- ---- no operator of a level stands next

abbrev Not : Level → Kind → Type 0
Not m kind = (q : Operator) → operator_of_token kind ≡ Some q → level_of q ≡ m → ⊥

not-times : (kind : Kind) → Not l.Product kind → is_times kind ≡ false
not-times k.Times h = absurd (h (o.Arithmetic Times) refl refl)
not-times _ h = refl

not-division : (kind : Kind) → Not l.Product kind → is_division kind ≡ false
not-division k.Div h = absurd (h (o.Arithmetic Division) refl refl)
not-division k.Mod h = absurd (h (o.Arithmetic Division) refl refl)
not-division _ h = refl

not-additive : (kind : Kind) → Not l.Sum kind → is_additive kind ≡ false
not-additive k.Plus h = absurd (h (o.Arithmetic Additive) refl refl)
not-additive k.Minus h = absurd (h (o.Arithmetic Additive) refl refl)
not-additive _ h = refl

not-order : (kind : Kind) → Not l.Order kind → is_order kind ≡ false
not-order k.Less h = absurd (h (o.Relation relation.Order) refl refl)
not-order k.LessOrEqual h = absurd (h (o.Relation relation.Order) refl refl)
not-order k.Greater h = absurd (h (o.Relation relation.Order) refl refl)
not-order k.GreaterOrEqual h = absurd (h (o.Relation relation.Order) refl refl)
not-order _ h = refl

not-equality : (kind : Kind) → Not l.Equality kind → is_equality kind ≡ false
not-equality k.Equal h = absurd (h (o.Relation relation.Equality) refl refl)
not-equality k.NotEqual h = absurd (h (o.Relation relation.Equality) refl refl)
not-equality _ h = refl

connective-stands : (c : Connective) → operator_of_token (symbol_kind c) ≡ Some (o.Connective c)
connective-stands And = refl
connective-stands Or = refl
connective-stands Implies = refl

not-symbol : (c : Connective) (kind : Kind) → Not (level_of (o.Connective c)) kind → same_kind kind (symbol_kind c) ≡ false
not-symbol c kind h = by (same_kind kind (symbol_kind c)) refl
  where
    by : (v : Bool) → same_kind kind (symbol_kind c) ≡ v → same_kind kind (symbol_kind c) ≡ false
    by true same = absurd (h (o.Connective c) (ap operator_of_token (kind-same kind (symbol_kind c) same) ∙ connective-stands c) refl)
    by false same = same

-- ---- operators, where they stand

pub among-stands : (a : Operators) (kind : Kind) → operator_of_token kind ≡ Some (o.Arithmetic a) → is_among a kind ≡ true
among-stands a k.Plus h = let is : a ≡ Additive = cc in subst (λ v. is_among v k.Plus ≡ true) (sym is) refl
among-stands a k.Minus h = let is : a ≡ Additive = cc in subst (λ v. is_among v k.Minus ≡ true) (sym is) refl
among-stands a k.Times h = let is : a ≡ Times = cc in subst (λ v. is_among v k.Times ≡ true) (sym is) refl
among-stands a k.Div h = let is : a ≡ Division = cc in subst (λ v. is_among v k.Div ≡ true) (sym is) refl
among-stands a k.Mod h = let is : a ≡ Division = cc in subst (λ v. is_among v k.Mod ≡ true) (sym is) refl
among-stands a _ h = absurd (let no : ⊥ = cc in no)

pub related-stands : (r : Relation) (kind : Kind) → operator_of_token kind ≡ Some (o.Relation r) → is_related r kind ≡ true
related-stands r k.Less h = let is : r ≡ relation.Order = cc in subst (λ v. is_related v k.Less ≡ true) (sym is) refl
related-stands r k.LessOrEqual h = let is : r ≡ relation.Order = cc in subst (λ v. is_related v k.LessOrEqual ≡ true) (sym is) refl
related-stands r k.Greater h = let is : r ≡ relation.Order = cc in subst (λ v. is_related v k.Greater ≡ true) (sym is) refl
related-stands r k.GreaterOrEqual h = let is : r ≡ relation.Order = cc in subst (λ v. is_related v k.GreaterOrEqual ≡ true) (sym is) refl
related-stands r k.Equal h = let is : r ≡ relation.Equality = cc in subst (λ v. is_related v k.Equal ≡ true) (sym is) refl
related-stands r k.NotEqual h = let is : r ≡ relation.Equality = cc in subst (λ v. is_related v k.NotEqual ≡ true) (sym is) refl
related-stands r _ h = absurd (let no : ⊥ = cc in no)

-- ---- a quantifier or `count` begins no term of operators

quantifier-begins : (e : Step Tok) (u t : Step TermForm) (kind : Kind) → is_binder kind ≡ true → begun e u t kind ≡ refuse Unexpected
quantifier-begins e u t k.Count h = refl
quantifier-begins e u t k.Forall h = refl
quantifier-begins e u t k.Exists h = refl
quantifier-begins e u t _ h = absurd (let no : ⊥ = cc in no)

module _ (depth : ℕ) where
  quantifier-fails : (s : State) → is_binder (kind s) ≡ true → unary depth s ≡ Err (refusal Unexpected s.tokens)
  quantifier-fails s h =
      begun-at depth s (kind s) refl ∙ ap (λ p. p s) (quantifier-begins (enter depth) (below unary depth) (below term depth) (kind s) h)

  first-fails : (m : Level) (s : State) (bad : Refusal) → rank m < 5 → unary depth s ≡ Err bad → at m depth s ≡ Err bad
  unfolding ordered
  first-fails l.Unary s bad low fails = fails
  first-fails l.Product s bad low fails = product-first-fails (unary depth) s bad fails
  first-fails l.Sum s bad low fails = sum-first-fails (unary depth) s bad (product-first-fails (unary depth) s bad fails)
  first-fails l.Order s bad low fails =
      left-fails is_order compared_by (sum (unary depth)) s bad (sum-first-fails (unary depth) s bad (product-first-fails (unary depth) s bad fails))
  first-fails l.Equality s bad low fails = equated-first-fails depth s bad fails
  first-fails l.Quantified s bad low fails = absurd (let f : 5 < 5 = low in let no : ⊥ = omega arith in no)
  first-fails l.Conjunction s bad low fails = absurd (let f : 6 < 5 = low in let no : ⊥ = omega arith in no)
  first-fails l.Disjunction s bad low fails = absurd (let f : 7 < 5 = low in let no : ⊥ = omega arith in no)
  first-fails l.Implication s bad low fails = absurd (let f : 8 < 5 = low in let no : ⊥ = omega arith in no)

  pub begins-plain : (m : Level) (s s1 : State) (x : TermForm) → rank m < 5 → at m depth s ≡ Ok (x, s1) → is_binder (kind s) ≡ false
  begins-plain m s s1 x low reads = by (is_binder (kind s)) refl
    where
      by : (v : Bool) → is_binder (kind s) ≡ v → is_binder (kind s) ≡ false
      by true is = let fails = first-fails m s (refusal Unexpected s.tokens) low (quantifier-fails s is) in absurd (let no : ⊥ = cc in no)
      by false is = is

  -- ---- from one level to the next

  chain-alone : (c : Connective) (item : Step TermForm) (n : ℕ) (s s1 : State) (x : TermForm) → item s ≡ Ok (x, s1) → same_kind (kind s1) (symbol_kind c) ≡ false
      → chain (symbol_kind c) (λ x t y. TermForm.connected c t.place x y) item (suc n) s ≡ Ok (x, s1)
  chain-alone c item n s s1 x reads other =
      resumed-first (symbol_kind c) (TermForm.connected c) item n s s1 x reads ∙ resumed-end (symbol_kind c) (TermForm.connected c) item (n - 0) x [] s1 other

  alone : (m : Level) (s s1 : State) (x : TermForm) → at (tighter m) depth s ≡ Ok (x, s1) → Not m (kind s1) → at m depth s ≡ Ok (x, s1)
  unfolding ordered equated
  alone l.Unary s s1 x reads other = reads
  alone l.Product s s1 x reads other = product-alone (unary depth) s s1 x reads (not-times (kind s1) other) (not-division (kind s1) other)
  alone l.Sum s s1 x reads other = sum-alone (unary depth) s s1 x reads (not-additive (kind s1) other)
  alone l.Order s s1 x reads other = left-alone is_order compared_by (sum (unary depth)) s s1 x reads (not-order (kind s1) other)
  alone l.Equality s s1 x reads other = left-alone is_equality compared_by (ordered (unary depth)) s s1 x reads (not-equality (kind s1) other)
  alone l.Quantified s s1 x reads other = lowest-node depth s (begins-plain l.Equality s s1 x (let g : 4 < 5 = omega arith in g) reads) ∙ reads
  alone l.Conjunction s s1 x reads other = chain-alone And (lowest depth) (length s.tokens) s s1 x reads (not-symbol And (kind s1) other)
  alone l.Disjunction s s1 x reads other =
      chain-alone Or (operand TermForm.connected Or (lowest depth)) (length s.tokens) s s1 x reads (not-symbol Or (kind s1) other)
  alone l.Implication s s1 x reads other =
      chain-alone Implies (operand TermForm.connected Implies (lowest depth)) (length s.tokens) s s1 x reads (not-symbol Implies (kind s1) other)

  fails : (m : Level) (s : State) (bad : Refusal) → (rank m ≡ 5 → is_binder (kind s) ≡ false) → at (tighter m) depth s ≡ Err bad → at m depth s ≡ Err bad
  unfolding ordered equated
  fails l.Unary s bad plain reads = reads
  fails l.Product s bad plain reads = product-first-fails (unary depth) s bad reads
  fails l.Sum s bad plain reads = sum-first-fails (unary depth) s bad reads
  fails l.Order s bad plain reads = left-fails is_order compared_by (sum (unary depth)) s bad reads
  fails l.Equality s bad plain reads = left-fails is_equality compared_by (ordered (unary depth)) s bad reads
  fails l.Quantified s bad plain reads = lowest-node depth s (plain refl) ∙ reads
  fails l.Conjunction s bad plain reads = resumed-first-fails k.And (TermForm.connected And) (lowest depth) (length s.tokens) s bad reads
  fails l.Disjunction s bad plain reads = resumed-first-fails k.Or (TermForm.connected Or) (operand TermForm.connected Or (lowest depth)) (length s.tokens) s bad reads
  fails l.Implication s bad plain reads =
      resumed-first-fails k.Implies (TermForm.connected Implies) (operand TermForm.connected Implies (lowest depth)) (length s.tokens) s bad reads

  -- ---- from a level to any above it

  pub skips : (n : ℕ) (low high : Level) (s s1 : State) (x : TermForm) → rank high ≡ n + rank low
      → ((q : Operator) → operator_of_token (kind s1) ≡ Some q → rank low < rank (level_of q) → rank (level_of q) ≤ rank high → ⊥)
      → at low depth s ≡ Ok (x, s1) → at high depth s ≡ Ok (x, s1)
  skips zero low high s s1 x e none reads = subst (λ v. at v depth s ≡ Ok (x, s1)) (same-rank low high (omega arith)) reads
  skips (suc n) low high s s1 x e none reads =
      let less : rank (tighter high) ≡ n + rank low = tighter-rank high (n + rank low) (omega arith) in
      alone high s s1 x (skips n low (tighter high) s s1 x less (λ q is above within. none q is above (omega arith)) reads)
      (λ q is same. let r : rank (level_of q) ≡ rank high = ap rank same in none q is (omega arith) (omega arith))

  pub fails-up : (n : ℕ) (low high : Level) (s : State) (bad : Refusal) → rank high ≡ n + rank low
      → (rank low < 5 → 5 ≤ rank high → is_binder (kind s) ≡ false) → at low depth s ≡ Err bad → at high depth s ≡ Err bad
  fails-up zero low high s bad e plain reads = subst (λ v. at v depth s ≡ Err bad) (same-rank low high (omega arith)) reads
  fails-up (suc n) low high s bad e plain reads =
      let less : rank (tighter high) ≡ n + rank low = tighter-rank high (n + rank low) (omega arith) in
      fails high s bad (λ five. plain (omega arith) (omega arith)) (fails-up n low (tighter high) s bad less (λ a b. plain a (omega arith)) reads)

  pub skips-to : (low high : Level) (s s1 : State) (x : TermForm) → rank low ≤ rank high
      → ((q : Operator) → operator_of_token (kind s1) ≡ Some q → rank low < rank (level_of q) → rank high < rank (level_of q))
      → at low depth s ≡ Ok (x, s1) → at high depth s ≡ Ok (x, s1)
  skips-to low high s s1 x le none reads = skips (rank high - rank low) low high s s1 x (omega arith) (λ q is above within. let out = none q is above in omega arith) reads

  -- a term of a lower level in front of an operator is an operand of it
  pub before-operator : (low : Level) (q : Operator) (s s1 : State) (x : TermForm) → operator_of_token (kind s1) ≡ Some q → rank low < rank (level_of q)
      → at low depth s ≡ Ok (x, s1) → at (operand_level q) depth s ≡ Ok (x, s1)
  before-operator low q s s1 x is above reads =
      let r = operand-rank q in
      skips-to low (operand_level q) s s1 x (omega arith) (λ p is' above'.
      let same : p ≡ q = cc in
      let e : rank (level_of p) ≡ rank (level_of q) = ap (λ v. rank (level_of v)) same in omega arith) reads

  -- what operators behind a term of a lower level make of it fails as a whole
  pub operator-fails : (low high : Level) (q : Operator) (s s1 : State) (x : TermForm) (bad : Refusal) → at low depth s ≡ Ok (x, s1) → rank low < rank (level_of q)
      → rank (level_of q) ≤ rank high → at (level_of q) depth s ≡ Err bad → at high depth s ≡ Err bad
  operator-fails low high q s s1 x bad reads above within fails =
      fails-up (rank high - rank (level_of q)) (level_of q) high s bad (omega arith) (λ a b. begins-plain low s s1 x (omega arith) reads) fails

  -- ---- a first operand

  plain-first : (high : Level) (s : State) → (may_quantify high && is_binder (kind s)) ≡ false → 5 ≤ rank high → is_binder (kind s) ≡ false
  plain-first high s other le = ap (λ v. v && is_binder (kind s)) (sym (may-rank high le)) ∙ other

  pub lowest-quantified : (s : State) → is_binder (kind s) ≡ true → lowest depth s ≡ quantified_term depth s
  lowest-quantified s is = ap (λ p. p s) (lowest-is depth) ∙ rw is refl

  pub quantified-fails : (high : Level) (s : State) (bad : Refusal) → (may_quantify high && is_binder (kind s)) ≡ true → quantified_term depth s ≡ Err bad → at high depth s ≡ Err bad
  quantified-fails high s bad is fails =
      let both = and_parts (may_quantify high) (is_binder (kind s)) is in
      let le = rank-may high both.0 in
      fails-up (rank high - 5) l.Quantified high s bad (let g : rank high ≡ rank high - 5 + 5 = omega arith in g)
      (λ a b. absurd (let f : 5 < 5 = a in let no : ⊥ = omega arith in no)) (lowest-quantified s both.1 ∙ fails)

  pub first-fails-as : (high : Level) (s : State) (bad : Refusal) → (may_quantify high && is_binder (kind s)) ≡ false → unary depth s ≡ Err bad → at high depth s ≡ Err bad
  first-fails-as high s bad other reads = fails-up (rank high) l.Unary high s bad (let g : rank high ≡ rank high + 0 = omega arith in g) (λ a b. plain-first high s other b) reads

  pub first-or-fails : (high : Level) (s z : State) (r : Result Term (OrMemory Refusal)) → (may_quantify high && is_binder (kind s)) ≡ false
      → ((q : Operator) → operator_of_token (kind z) ≡ Some q → 0 < rank (level_of q) → rank high < rank (level_of q))
      → Gives term_form (unary depth s) r z → Gives term_form (at high depth s) r z
  first-or-fails high s z (Ok x) other none reads = skips-to l.Unary high s z (term_form x) (let g : 0 ≤ rank high = omega arith in g) none reads
  first-or-fails high s z (Err fault) other none reads = if_fault fault (λ bad e. first-fails-as high s bad other e) reads

-- ---- chains of arithmetic

module _ (depth : ℕ) (s s1 : State) (x : TermForm) where
  abbrev Begins : Operators → Type 0
  Begins a = at (operand_level (o.Arithmetic a)) depth s ≡ Ok (x, s1)

  abbrev Reads : Operators → List (Arithmetic × Place × TermForm) → State → Type 0
  Reads a ls s2 = operations a (at (operand_level (o.Arithmetic a)) depth) s1 ≡ Ok (ls, s2)

  divides : (kind : Kind) → is_division kind ≡ true → is_times kind ≡ false
  divides k.Times h = absurd (let no : ⊥ = cc in no)
  divides _ h = refl

  pub calculation-fails : (a : Operators) (bad : Refusal) → Begins a → is_among a (kind s1) ≡ true → operations a (at (operand_level (o.Arithmetic a)) depth) s1 ≡ Err bad
      → at (level_of (o.Arithmetic a)) depth s ≡ Err bad
  calculation-fails Additive bad reads goes bads = sum-fails (unary depth) s s1 x bad reads goes bads
  calculation-fails Times bad reads goes bads = times-fail (unary depth) s s1 x bad reads goes bads
  calculation-fails Division bad reads goes bads = division-fails (unary depth) s s1 x bad reads (divides (kind s1) goes) goes bads

  pub calculation-mixed : (a : Operators) (ls : List (Arithmetic × Place × TermForm)) (s2 : State) → Begins a → is_among a (kind s1) ≡ true → Reads a ls s2 → is_mixed a (kind s2) ≡ true
      → at (level_of (o.Arithmetic a)) depth s ≡ Err (refusal Unexpected s2.tokens)
  calculation-mixed Additive ls s2 reads goes found mixed = absurd (let no : ⊥ = cc in no)
  calculation-mixed Times ls s2 reads goes found mixed = times-mixed (unary depth) s s1 s2 x ls reads goes found mixed
  calculation-mixed Division ls s2 reads goes found mixed = division-mixed (unary depth) s s1 s2 x ls reads (divides (kind s1) goes) goes found mixed

  pub calculation-read : (a : Operators) (ls : List (Arithmetic × Place × TermForm)) (s2 : State) → Begins a → is_among a (kind s1) ≡ true → Reads a ls s2 → is_mixed a (kind s2) ≡ false
      → at (level_of (o.Arithmetic a)) depth s ≡ Ok (calculated x ls, s2)
  calculation-read Additive ls s2 reads goes found other = sum-read (unary depth) s s1 s2 x ls reads goes found
  calculation-read Times ls s2 reads goes found other = times-read (unary depth) s s1 s2 x ls reads goes found other
  calculation-read Division ls s2 reads goes found other = division-read (unary depth) s s1 s2 x ls reads (divides (kind s1) goes) goes found other

-- ---- comparisons and connectives

pub relation-is : (r : Relation) (depth : ℕ) (s : State)
    → at (level_of (o.Relation r)) depth s ≡ comparison (is_related r) compared_by (at (operand_level (o.Relation r)) depth) s
unfolding ordered equated
relation-is relation.Order depth s = refl
relation-is relation.Equality depth s = refl

pub connection-is : (c : Connective) (depth : ℕ) (s : State)
    → at (level_of (o.Connective c)) depth s ≡ chain (symbol_kind c) (λ x t y. TermForm.connected c t.place x y) (at (operand_level (o.Connective c)) depth) (suc (length s.tokens)) s
connection-is And depth s = refl
connection-is Or depth s = refl
connection-is Implies depth s = refl

pub connects : (c : Connective) → may_quantify (level_of (o.Connective c)) ≡ true
connects And = refl
connects Or = refl
connects Implies = refl
