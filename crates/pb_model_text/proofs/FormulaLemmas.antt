-- A level of formulas is a chain, and what begins no formula.
use Rattle.std.proofs.Common.{Some, None, Ok, OnOk, arith, true, ◌<◌, ◌-◌, ◌≡◌, ◌≢◌, ℕ, zero, suc, length, List, [], ◌∷◌, ◌++◌, refl, sym, subst, ap, ◌∙◌, false, Result, Err, Bool, cond}
use Rattle.std.proofs.lemmas.List.{map-append}
use Rattle.std.specs.Result.{result_and}
use Rattle.pb_fixpoint.specs.declared.Sign.{Sign}
use Rattle.pb_text_tree.specs.declared.operator.Connective.{Connective}
use Rattle.pb_text_tree.specs.declared.operator.Connective.TheVariants.{And, Or, Implies}
use Rattle.pb_text_tree.specs.declared.operator.Quantifier.{Quantifier}
use Rattle.pb_protocol_tree.specs.declared.formula.Link.{Link}
use Rattle.pb_protocol_tree.specs.declared.formula.Formula.{Formula}
use Rattle.pb_model_tree.specs.declared.formula.Modality.{Modality}
use Rattle.pb_model_tree.specs.declared.formula.Modality.TheVariants as modality
use Rattle.pb_text_tree.specs.declared.place.Place.{Place}
use Rattle.pb_text_tree.specs.Form.{VariableForm, TermForm}
use Rattle.pb_protocol_tree.specs.Form.{StepSetForm, FormulaForm, formula_form}
use Rattle.pb_text_lexer.specs.declared.fault.Refusal.{Refusal}
use Rattle.pb_base.specs.declared.or_memory.OrMemory.{OrMemory}
use Rattle.pb_base.proofs.Faults.{if_fault}
use Rattle.pb_text_lexer.specs.declared.fault.ReadingRule.TheVariants.{Unexpected, Limit}
use Rattle.pb_text_lexer.specs.declared.kind.Kind.{Kind}
use Rattle.pb_text_lexer.specs.declared.kind.Kind.TheVariants as k
use Rattle.pb_text_lexer.specs.Grammar.{State}
use Rattle.pb_text_lexer.specs.Kinds.{same_kind, is_last}
use Rattle.pb_text_lexer.specs.Steps.{Step, Outcome, Gives, and_then, ◌>>=◌, pure, peek, refuse, refusal, kind, take_token, expect, unless_next, enter, chain}
use Rattle.pb_text_lexer.specs.Tokens.{Tok, token_at}
use Rattle.pb_text_lexer.proofs.LoopLemmas.{placed, resumed-first-fails}
use Rattle.pb_text_terms.specs.Operators.{symbol_kind, is_connective, is_quantifier}
use Rattle.pb_text_terms.specs.Reading.{name, variables, quantifier_of, below}
use Rattle.pb_text_terms.specs.Reading as terms
use Rattle.pb_text_terms.proofs.ReadLemmas.{below-is, resumed-alone-or-fails, no-connective}
use Rattle.pb_model_text.specs.Grammar.{FixpointNames, within}
use Rattle.pb_protocol_tree.specs.Links.{link_form, link_forms}
use Rattle.pb_model_text.specs.Reading.{begun, modal, opening_kind, closing, modal_steps, data_operand, goes_on, binding, step_set, sign_of, is_fixpoint, is_binder, plain, behind_fair, node, item, formula, fixpoint, quantification, primary, operand, level}

-- a level is a chain of its operands
pub level-chain : (c : Connective) (scope : FixpointNames) (depth : ℕ) (s : State)
    → level c scope depth s ≡ chain (symbol_kind c) (placed (symbol_kind c) (FormulaForm.connected c) (operand c scope depth)) (operand c scope depth) (suc (length s.tokens)) s
unfolding plain behind_fair formula fixpoint quantification
level-chain And scope depth s = refl
level-chain Or scope depth s = refl
level-chain Implies scope zero s = refl
level-chain Implies scope (suc depth) s = refl

pub links-last : (links : List Link) (link : Link) → link_forms (links ++ link ∷ []) ≡ link_forms links ++ link_form link ∷ []
links-last links link = map-append _ links (link ∷ [])

begun-other : (scope : FixpointNames) (enter : Step Tok) (below inner : Step FormulaForm) (term : Step TermForm) (sets : Step StepSetForm) (kind : Kind)
    → kind ≢ k.Not → kind ≢ k.Open → kind ≢ k.OpenSquare → kind ≢ k.Less → kind ≢ k.True → kind ≢ k.False → kind ≢ k.Val → kind ≢ k.Name → kind ≢ k.Number → kind ≢ k.Minus
    → begun scope enter below inner term sets kind ≡ refuse Unexpected
begun-other scope enter below inner term sets k.Not a b c d e f g h i j = absurd (a refl)
begun-other scope enter below inner term sets k.Open a b c d e f g h i j = absurd (b refl)
begun-other scope enter below inner term sets k.OpenSquare a b c d e f g h i j = absurd (c refl)
begun-other scope enter below inner term sets k.Less a b c d e f g h i j = absurd (d refl)
begun-other scope enter below inner term sets k.True a b c d e f g h i j = absurd (e refl)
begun-other scope enter below inner term sets k.False a b c d e f g h i j = absurd (f refl)
begun-other scope enter below inner term sets k.Val a b c d e f g h i j = absurd (g refl)
begun-other scope enter below inner term sets k.Name a b c d e f g h i j = absurd (h refl)
begun-other scope enter below inner term sets k.Number a b c d e f g h i j = absurd (i refl)
begun-other scope enter below inner term sets k.Minus a b c d e f g h i j = absurd (j refl)
begun-other scope enter below inner term sets _ a b c d e f g h i j = refl

pub plain-other : (scope : FixpointNames) (depth : ℕ) (s : State) → kind s ≢ k.Not → kind s ≢ k.Open
    → kind s ≢ k.OpenSquare → kind s ≢ k.Less → kind s ≢ k.True → kind s ≢ k.False → kind s ≢ k.Val → kind s ≢ k.Name
    → kind s ≢ k.Number → kind s ≢ k.Minus → plain scope depth s ≡ Err (refusal Unexpected s.tokens)
unfolding plain
plain-other scope zero s a b c d e f g h i j =
    ap (λ p. p s) (begun-other scope (refuse Limit) (refuse Limit) (refuse Limit) (data_operand 0) (refuse Limit) (kind s) a b c d e f g h i j)
plain-other scope (suc depth) s a b c d e f g h i j =
    ap (λ p. p s) (begun-other scope take_token (node scope depth) (formula scope depth) (data_operand (suc depth)) (step_set depth) (kind s) a b c d e f g h i j)

-- without a sign and a quantifier, no binder
no-binder : (kind : Kind) → sign_of kind ≡ None → quantifier_of kind ≡ None → is_binder kind ≡ false
no-binder k.Mu e f = cc
no-binder k.Nu e f = cc
no-binder k.Forall e f = cc
no-binder k.Exists e f = cc
no-binder _ e f = refl

pub primary-item : (scope : FixpointNames) (depth : ℕ) (s : State) → sign_of (kind s) ≡ None → quantifier_of (kind s) ≡ None → primary scope depth s ≡ item scope depth s
primary-item scope depth s other another = rw (no-binder (kind s) other another) refl

some-sign : (kind : Kind) (sign : Sign) → sign_of kind ≡ Some sign → is_fixpoint kind ≡ true
some-sign k.Mu sign e = refl
some-sign k.Nu sign e = refl
some-sign _ sign e = cc

pub primary-fixpoint : (scope : FixpointNames) (depth : ℕ) (s : State) (sign : Sign) → sign_of (kind s) ≡ Some sign → primary scope depth s ≡ fixpoint scope depth s
primary-fixpoint scope depth s sign is = rw (some-sign (kind s) sign is) refl

no-sign : (kind : Kind) (q : Quantifier) → quantifier_of kind ≡ Some q → is_fixpoint kind ≡ false
no-sign k.Forall q e = refl
no-sign k.Exists q e = refl
no-sign _ q e = cc

some-quantifier : (kind : Kind) (q : Quantifier) → quantifier_of kind ≡ Some q → is_quantifier kind ≡ true
some-quantifier k.Forall q e = refl
some-quantifier k.Exists q e = refl
some-quantifier _ q e = cc

pub primary-quantified : (scope : FixpointNames) (depth : ℕ) (s : State) (q : Quantifier) → quantifier_of (kind s) ≡ Some q → primary scope depth s ≡ quantification scope depth s
primary-quantified scope depth s q is = rw (no-sign (kind s) q is, some-quantifier (kind s) q is) refl

-- ---- what a token begins, where a level may open and where none may

abbrev opens_level : Kind → Bool
opens_level k.Not = true
opens_level k.Open = true
opens_level k.OpenSquare = true
opens_level k.Less = true
opens_level _ = false

pub plain-at : (scope : FixpointNames) (depth : ℕ) (s : State) (k' : Kind) → kind s ≡ k'
    → plain scope depth s ≡ begun scope (enter depth) (below (node scope) depth) (below (formula scope) depth) (data_operand depth) (below step_set depth) k' s
unfolding plain
plain-at scope zero s k' is = ap (λ v. begun scope (refuse Limit) (refuse Limit) (refuse Limit) (data_operand 0) (refuse Limit) v s) is
plain-at scope (suc depth) s k' is = ap (λ v. begun scope take_token (node scope depth) (formula scope depth) (data_operand (suc depth)) (step_set depth) v s) is

-- where no level may open that a token would open
pub plain-enter-fails : (scope : FixpointNames) (depth : ℕ) (s : State) (k' : Kind) → opens_level k' ≡ true → kind s ≡ k' → (bad : Refusal) → enter depth s ≡ Err bad → plain scope depth s ≡ Err bad
plain-enter-fails scope depth s k.Not e is bad fails = plain-at scope depth s k.Not is ∙ rw fails refl
plain-enter-fails scope depth s k.Open e is bad fails = plain-at scope depth s k.Open is ∙ rw fails refl
plain-enter-fails scope depth s k.OpenSquare e is bad fails = plain-at scope depth s k.OpenSquare is ∙ rw fails refl
plain-enter-fails scope depth s k.Less e is bad fails = plain-at scope depth s k.Less is ∙ rw fails refl
plain-enter-fails scope depth s _ e is bad fails = cc

plain-modal : (scope : FixpointNames) (depth : ℕ) (s : State) (m : Modality) → kind s ≡ opening_kind m
    → plain scope depth s ≡ modal m (closing m) (enter depth) (below (node scope) depth) (below step_set depth) s
plain-modal scope depth s modality.Box is = plain-at scope depth s k.OpenSquare is
plain-modal scope depth s modality.Diamond is = plain-at scope depth s k.Less is

pub modal-enter-fails : (scope : FixpointNames) (depth : ℕ) (s : State) (m : Modality) → kind s ≡ opening_kind m → (bad : Refusal) → enter depth s ≡ Err bad → plain scope depth s ≡ Err bad
modal-enter-fails scope depth s modality.Box is bad fails = plain-enter-fails scope depth s k.OpenSquare refl is bad fails
modal-enter-fails scope depth s modality.Diamond is bad fails = plain-enter-fails scope depth s k.Less refl is bad fails

pub closing-goes-on : (m : Modality) → is_last (closing m) ≡ false
closing-goes-on modality.Box = refl
closing-goes-on modality.Diamond = refl

-- the steps of a modality and the bracket behind them, as one part
steps-closed : (m : Modality) (word : Tok) (operand : Step FormulaForm) (o : Outcome StepSetForm)
    → and_then o (λ steps. expect (closing m) >>= (λ close_bracket. operand >>= (λ x. pure (FormulaForm.modal m word.place steps x))))
    ≡ and_then (and_then o (λ steps. expect (closing m) >>= (λ close_bracket. pure steps))) (λ steps. operand >>= (λ x. pure (FormulaForm.modal m word.place steps x)))
steps-closed m word operand (Err bad) = refl
steps-closed m word operand (Ok r) = by (expect (closing m) r.1)
  where
    by : (o : Outcome Tok) → and_then o (λ t. operand >>= (λ x. pure (FormulaForm.modal m word.place r.0 x)))
        ≡ and_then (and_then o (λ t. pure r.0)) (λ steps. operand >>= (λ x. pure (FormulaForm.modal m word.place steps x)))
    by (Ok q) = refl
    by (Err bad) = refl

-- behind a value that is there already
pub and-fewer : {T U E : Type 0} (r : Result T E) (x : U) (a b c : ℕ) → OnOk r (a < b) → b < c → OnOk (result_and r (Ok x)) (a < c)
and-fewer (Ok t) x a b c less low = omega arith
and-fewer (Err e) x a b c less low = tt

-- what a token that opens a level begins
module _ (scope : FixpointNames) (depth : ℕ) (s s1 : State) (word : Tok) (entered : enter depth s ≡ Ok (word, s1)) (some : 0 < depth) where
  node-below : (u : State) → below (node scope) depth u ≡ node scope (depth - 1) u
  node-below u = ap (λ p. p u) (below-is (node scope) depth some)

  formula-below : (u : State) → below (formula scope) depth u ≡ formula scope (depth - 1) u
  formula-below u = ap (λ p. p u) (below-is (formula scope) depth some)

  sets-below : (u : State) → below step_set depth u ≡ step_set (depth - 1) u
  sets-below u = ap (λ p. p u) (below-is step_set depth some)

  pub negation-fails : kind s ≡ k.Not → (bad : Refusal) → node scope (depth - 1) s1 ≡ Err bad → plain scope depth s ≡ Err bad
  negation-fails is bad fails = plain-at scope depth s k.Not is ∙ rw entered (rw (node-below s1, fails) refl)

  pub negation-read : kind s ≡ k.Not → (x : FormulaForm) (z : State) → node scope (depth - 1) s1 ≡ Ok (x, z) → plain scope depth s ≡ Ok (FormulaForm.negation word.place x, z)
  negation-read is x z reads = plain-at scope depth s k.Not is ∙ rw entered (rw (node-below s1, reads) refl)

  pub bracketed-fails : kind s ≡ k.Open → (bad : Refusal) → formula scope (depth - 1) s1 ≡ Err bad → plain scope depth s ≡ Err bad
  bracketed-fails is bad fails = plain-at scope depth s k.Open is ∙ rw entered (rw (formula-below s1, fails) refl)

  module _ (is : kind s ≡ k.Open) (x : FormulaForm) (s2 : State) (reads : formula scope (depth - 1) s1 ≡ Ok (x, s2)) where
    bracketed-closed : plain scope depth s ≡ and_then (unless_next goes_on (expect k.Close) s2) (λ t. pure x)
    bracketed-closed = plain-at scope depth s k.Open is ∙ rw entered (rw (formula-below s1, reads) (by (expect k.Close s2)))
      where
        by-kind : (b : Bool) (t : Tok) (z : State) → cond b (refuse Unexpected) (pure x) z ≡ and_then (cond b (refuse Unexpected) (pure t) z) (λ u. pure x)
        by-kind true t z = refl
        by-kind false t z = refl

        by : (o : Outcome Tok) → and_then (and_then o (λ t. pure x)) (λ y. peek >>= (λ kind. cond (goes_on kind) (refuse Unexpected) (pure y)))
            ≡ and_then (and_then o (λ t. peek >>= (λ kind. cond (goes_on kind) (refuse Unexpected) (pure t)))) (λ t. pure x)
        by (Ok r) = by-kind (goes_on (kind r.1)) r.0 r.1
        by (Err bad) = refl

    pub bracketed-close-fails : (bad : Refusal) → unless_next goes_on (expect k.Close) s2 ≡ Err bad → plain scope depth s ≡ Err bad
    bracketed-close-fails bad fails = bracketed-closed ∙ rw fails refl

    pub bracketed-read : (t : Tok) (z : State) → unless_next goes_on (expect k.Close) s2 ≡ Ok (t, z) → plain scope depth s ≡ Ok (x, z)
    bracketed-read t z closes = bracketed-closed ∙ rw closes refl

  pub bracketed-closes : {T : Type 0} (view : T → Tok) (r : Result T (OrMemory Refusal)) (f : Formula) (s2 z : State) → kind s ≡ k.Open → formula scope (depth - 1) s1 ≡ Ok (formula_form f, s2)
      → Gives view (unless_next goes_on (expect k.Close) s2) r z → Gives formula_form (plain scope depth s) (result_and r (Ok f)) z
  bracketed-closes view (Ok t) f s2 z is reads closes = bracketed-read is (formula_form f) s2 reads (view t) z closes
  bracketed-closes view (Err fault) f s2 z is reads closes = if_fault fault (λ bad e. bracketed-close-fails is (formula_form f) s2 reads bad e) closes

  -- a modality
  module _ (m : Modality) (is : kind s ≡ opening_kind m) where
    modal-at : plain scope depth s ≡ and_then (modal_steps m (step_set (depth - 1)) s1) (λ steps. below (node scope) depth >>= (λ x. pure (FormulaForm.modal m word.place steps x)))
    modal-at = plain-modal scope depth s m is ∙ rw entered (rw (sets-below s1) (steps-closed m word (below (node scope) depth) (step_set (depth - 1) s1)))

    pub modal-steps-fail : (bad : Refusal) → modal_steps m (step_set (depth - 1)) s1 ≡ Err bad → plain scope depth s ≡ Err bad
    modal-steps-fail bad fails = modal-at ∙ rw fails refl

    module _ (A : StepSetForm) (s2 : State) (steps : modal_steps m (step_set (depth - 1)) s1 ≡ Ok (A, s2)) where
      pub modal-operand-fails : (bad : Refusal) → node scope (depth - 1) s2 ≡ Err bad → plain scope depth s ≡ Err bad
      modal-operand-fails bad fails = modal-at ∙ rw steps (rw (node-below s2, fails) refl)

      pub modal-read : (x : FormulaForm) (z : State) → node scope (depth - 1) s2 ≡ Ok (x, z) → plain scope depth s ≡ Ok (FormulaForm.modal m word.place A x, z)
      modal-read x z reads = modal-at ∙ rw steps (rw (node-below s2, reads) refl)

-- data behind `val` with which more would go on
pub value-again : (scope : FixpointNames) (depth : ℕ) (s s1 s2 : State) (t : Tok) (x : TermForm) → kind s ≡ k.Val
    → take_token s ≡ Ok (t, s1) → data_operand depth s1 ≡ Ok (x, s2) → goes_on (kind s2) ≡ true
    → plain scope depth s ≡ Err (refusal Unexpected s2.tokens)
value-again scope depth s s1 s2 t x is taken reads again = plain-at scope depth s k.Val is ∙ rw taken (rw reads (rw again refl))

fixpoint-is : (scope : FixpointNames) (depth : ℕ) (s : State) (sign : Sign) → sign_of (kind s) ≡ Some sign
    → fixpoint scope depth s ≡ (enter depth >>= (λ word. binding sign word.place (λ name. below (formula (within scope name)) depth))) s
unfolding fixpoint
fixpoint-is scope zero s sign is = rw is refl
fixpoint-is scope (suc depth) s sign is = rw is refl

module _ (scope : FixpointNames) (depth : ℕ) (s s1 : State) (sign : Sign) (word : Tok) (is : sign_of (kind s) ≡ Some sign) (entered : enter depth s ≡ Ok (word, s1)) where
  pub fixpoint-name-fails : (bad : Refusal) → expect k.Name s1 ≡ Err bad → fixpoint scope depth s ≡ Err bad
  unfolding name
  fixpoint-name-fails bad fails = fixpoint-is scope depth s sign is ∙ rw entered (rw fails refl)

  module _ (s2 : State) (place : Place) (text : List ℕ) (named : expect k.Name s1 ≡ Ok (token_at place k.Name text, s2)) where
    pub fixpoint-period-fails : (bad : Refusal) → expect k.Period s2 ≡ Err bad → fixpoint scope depth s ≡ Err bad
    unfolding name
    fixpoint-period-fails bad fails = fixpoint-is scope depth s sign is ∙ rw entered (rw named (rw fails refl))

    module _ (s3 : State) (period : Tok) (stands : expect k.Period s2 ≡ Ok (period, s3)) (some : 0 < depth) where
      body-is : below (formula (within scope text)) depth s3 ≡ formula (within scope text) (depth - 1) s3
      body-is = ap (λ p. p s3) (below-is (formula (within scope text)) depth some)

      pub fixpoint-body-fails : (bad : Refusal) → formula (within scope text) (depth - 1) s3 ≡ Err bad → fixpoint scope depth s ≡ Err bad
      unfolding name
      fixpoint-body-fails bad fails = fixpoint-is scope depth s sign is ∙ rw entered (rw named (rw stands (rw (body-is, fails) refl)))

      pub fixpoint-read : (x : FormulaForm) (z : State) → formula (within scope text) (depth - 1) s3 ≡ Ok (x, z)
          → fixpoint scope depth s ≡ Ok (FormulaForm.fixpoint sign word.place (record { place = place; text = text }) x, z)
      unfolding name
      fixpoint-read x z reads = fixpoint-is scope depth s sign is ∙ rw entered (rw named (rw stands (rw (body-is, reads) refl)))

quantification-is : (scope : FixpointNames) (depth : ℕ) (s : State) (q : Quantifier) → quantifier_of (kind s) ≡ Some q
    → quantification scope depth s ≡ (enter depth >>= (λ word. terms.binding (FormulaForm.quantified q word.place) (below (formula scope) depth))) s
unfolding quantification
quantification-is scope zero s q is = rw is refl
quantification-is scope (suc depth) s q is = rw is refl

module _ (scope : FixpointNames) (depth : ℕ) (s : State) (q : Quantifier) (is : quantifier_of (kind s) ≡ Some q) where
  pub quantified-enter-fails : (bad : Refusal) → enter depth s ≡ Err bad → quantification scope depth s ≡ Err bad
  quantified-enter-fails bad fails = quantification-is scope depth s q is ∙ rw fails refl

  module _ (s1 : State) (word : Tok) (entered : enter depth s ≡ Ok (word, s1)) where
    pub quantified-variables-fail : (bad : Refusal) → variables s1 ≡ Err bad → quantification scope depth s ≡ Err bad
    quantified-variables-fail bad fails = quantification-is scope depth s q is ∙ rw entered (rw fails refl)

    module _ (s2 : State) (found : List VariableForm) (bound : variables s1 ≡ Ok (found, s2)) where
      pub quantified-period-fails : (bad : Refusal) → expect k.Period s2 ≡ Err bad → quantification scope depth s ≡ Err bad
      quantified-period-fails bad fails = quantification-is scope depth s q is ∙ rw entered (rw bound (rw fails refl))

      module _ (s3 : State) (period : Tok) (stands : expect k.Period s2 ≡ Ok (period, s3)) (some : 0 < depth) where
        inner-is : below (formula scope) depth s3 ≡ formula scope (depth - 1) s3
        inner-is = ap (λ p. p s3) (below-is (formula scope) depth some)

        pub quantified-body-fails : (bad : Refusal) → formula scope (depth - 1) s3 ≡ Err bad → quantification scope depth s ≡ Err bad
        quantified-body-fails bad fails = quantification-is scope depth s q is ∙ rw entered (rw bound (rw stands (rw (inner-is, fails) refl)))

        pub quantified-read : (x : FormulaForm) (z : State) → formula scope (depth - 1) s3 ≡ Ok (x, z) → quantification scope depth s ≡ Ok (FormulaForm.quantified q word.place found x, z)
        quantified-read x z reads = quantification-is scope depth s q is ∙ rw entered (rw bound (rw stands (rw (inner-is, reads) refl)))

-- ---- chains over chains

-- where an operand fails, its chain does
pub level-fails : (c : Connective) (scope : FixpointNames) (depth : ℕ) (s : State) (bad : Refusal) → operand c scope depth s ≡ Err bad → level c scope depth s ≡ Err bad
level-fails c scope depth s bad fails = level-chain c scope depth s ∙ resumed-first-fails (symbol_kind c) (FormulaForm.connected c) (operand c scope depth) (length s.tokens) s bad fails

pub conjunction-fails : (scope : FixpointNames) (depth : ℕ) (s : State) (bad : Refusal) → level And scope depth s ≡ Err bad → formula scope depth s ≡ Err bad
conjunction-fails scope depth s bad fails = level-fails Implies scope depth s bad (level-fails Or scope depth s bad fails)

pub disjunction-fails : (scope : FixpointNames) (depth : ℕ) (s : State) (bad : Refusal) → level Or scope depth s ≡ Err bad → formula scope depth s ≡ Err bad
disjunction-fails scope depth s bad fails = level-fails Implies scope depth s bad fails

pub primary-fails : (scope : FixpointNames) (depth : ℕ) (s : State) (bad : Refusal) → primary scope depth s ≡ Err bad → formula scope depth s ≡ Err bad
primary-fails scope depth s bad fails = conjunction-fails scope depth s bad (level-fails And scope depth s bad fails)

-- an operand behind which the connective doesn't stand
pub level-alone-or-fails : (c : Connective) (scope : FixpointNames) (depth : ℕ) (s z : State)
    (r : Result Formula (OrMemory Refusal)) → Gives formula_form (operand c scope depth s) r z → same_kind (kind z) (symbol_kind c) ≡ false
    → Gives formula_form (level c scope depth s) r z
level-alone-or-fails c scope depth s z r reads other =
    subst (λ (o : Outcome FormulaForm). Gives formula_form o r z) (sym (level-chain c scope depth s))
    (resumed-alone-or-fails (symbol_kind c) (FormulaForm.connected c) (operand c scope depth) formula_form (length s.tokens) s z r reads other)

-- a first part behind which no connective stands
pub primary-alone-or-fails : (scope : FixpointNames) (depth : ℕ) (s z : State) (r : Result Formula (OrMemory Refusal)) → Gives formula_form (primary scope depth s) r z → is_connective (kind z) ≡ false
    → Gives formula_form (formula scope depth s) r z
primary-alone-or-fails scope depth s z r reads other =
    level-alone-or-fails Implies scope depth s z r
    (level-alone-or-fails Or scope depth s z r (level-alone-or-fails And scope depth s z r reads (no-connective k.And (kind z) refl other)) (no-connective k.Or (kind z) refl other))
    (no-connective k.Implies (kind z) refl other)
