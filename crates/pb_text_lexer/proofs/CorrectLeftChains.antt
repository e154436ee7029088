-- Chains that group to the left, chains of unmixed operators and comparisons are read rightly.
use Rattle.std.proofs.Common.{◌≡◌, ◌≢◌, ℕ, suc, ◌+◌, ◌-◌, ◌≤◌, ◌<◌, Bool, true, false, cond, ◌||◌, ◌==◌, ◌⊎◌, inl, inr, List, [], ◌∷◌, ◌++◌, length, refl, sym, ◌∙◌, ap, subst, arith, Ok, Err}
use Rattle.std.proofs.lemmas.Bool.Decides.{eqb_tells}
use Rattle.std.proofs.Math.Bool.{or_assoc, or-true}
use Rattle.pb_text_lexer.specs.declared.kind.Kind.{Kind}
use Rattle.pb_text_lexer.specs.declared.fault.ReadingRule.TheVariants.{Unexpected, Limit}
use Rattle.pb_text_lexer.specs.Kinds.{is_last, is_limited}
use Rattle.pb_text_lexer.specs.Tokens.{Tok}
use Rattle.pb_text_lexer.specs.Grammar.{State, Is, last, more}
use Rattle.pb_text_lexer.specs.Grammar as grammar
use Rattle.pb_text_lexer.specs.OpenGrammar.{Either}
use Rattle.pb_text_lexer.specs.LeftGrammar.{OperatorOf, Link, Links, Linked, LeftChain, UnmixedChain, Comparison, grouped}
use Rattle.pb_text_lexer.specs.Steps.{ends, head_kind, Step, pure, refuse, kind, take_from, take_token, take_operator, operator_of, unless_next, nothing_between, link, links, linked, left_chain, unmixed_chain, comparison}
use Rattle.pb_text_lexer.specs.Steps as step
use Rattle.pb_text_lexer.proofs.TokenLemmas.{ends-behind}
use Rattle.pb_text_lexer.proofs.Correct.{st, Family, Stops, never, GoesOn, some-token, Took, Answers, Answering, Correct, one-took, refused-here, unlike, then-answers, then-correct, pure-correct}
use Rattle.pb_text_lexer.proofs.CorrectSeries.{going, Passes, passes-at, shorter, no-longer, series-correct}
use Rattle.pb_text_lexer.proofs.CorrectPlain.{Always, anywhere, then-plain-answers, is-correct, unlimited-nothing}
use Rattle.pb_text_lexer.proofs.CorrectLeft.{head-passes, unless_next-answers, extended-correct, choice-answers, going-alike-answers}

-- ---- one operator

-- operators with two operands, behind which more tokens stand
pub record AreOperators (test : Kind → Bool) : Type 0 where
  pub one : Kind
  pub passes : test one ≡ true
  pub not_last : (k : Kind) → test k ≡ true → is_last k ≡ false
  pub limited : (k : Kind) → test k ≡ true → is_limited k ≡ true

of-parts : (test : Kind → Bool) (t : Tok) (n : ℕ) (after : List Tok) (y : Tok) (w : State) → OperatorOf test (st (t ∷ after) n) y w → (y ≡ t) × (w.tokens ≡ after) × (n ≡ 1 + w.operators)
of-parts test t n after y w r =
    let e = r.0 in let p : y ≡ t = cc in let q : w.tokens ≡ after = cc in let c = r.2 in (p, q, omega arith)

module _ (test : Kind → Bool) (depth : ℕ) (are : AreOperators test) where
  of-taken : (t : Tok) (ts : List Tok) (n m : ℕ) → n ≡ suc m → ends (t ∷ ts) ≡ true → test t.kind ≡ true → Took (λ d. OperatorOf test) never depth (st (t ∷ ts) n) t (st ts m)
  of-taken t ts n m count e head =
      subst (λ (v : ℕ). Took (λ d. OperatorOf test) never depth (st (t ∷ ts) v) t (st ts m)) (omega arith)
      (one-took (λ d. OperatorOf test) depth t ts 1 m t (ends-behind (t ∷ ts) e (are.not_last t.kind head))
      (λ d i after. (refl, head, (omega arith))) (λ d i after y w r. of-parts test t i after y w r))

  of-counted : (ts : List Tok) (n : ℕ) (b : Bool) → ((b ≡ true) × (n ≡ 0)) ⊎ ((b ≡ false) × (n ≢ 0)) → ends ts ≡ true → Passes test ts
      → Answers (λ d. OperatorOf test) never depth (st ts n) (cond b (refuse Limit (st ts n)) (take_from ts (n - 1)))
  of-counted [] n b tells e head = absurd head
  of-counted (t ∷ ts) n true tells e head =
      refused-here (λ d. OperatorOf test) never depth (st (t ∷ ts) n) Limit e (λ q. are.limited t.kind head)
      (λ d i u tail y w same within r over. none n i w.operators tells within.1 r.2)
      (λ u same. record { tail = []; value = u; left = n; reads = λ after. (refl, ap test same ∙ head, refl) })
    where
      none : (n i m : ℕ) → ((true ≡ true) × (n ≡ 0)) ⊎ ((true ≡ false) × (n ≢ 0)) → i ≤ n → i ≡ suc m → ⊥
      none n i m (inl p) le is = let q = p.1 in omega arith
      none n i m (inr p) le is = let q = p.0 in cc
  of-counted (t ∷ ts) n false tells e head = of-taken t ts n (n - 1) (some n tells) e head
    where
      some : (n : ℕ) → ((false ≡ true) × (n ≡ 0)) ⊎ ((false ≡ false) × (n ≢ 0)) → n ≡ suc (n - 1)
      some n (inl p) = let q = p.0 in cc
      some n (inr p) = let q = p.1 in omega arith

  some-operator : (n : ℕ) → GoesOn (λ d. OperatorOf test) (suc depth) (suc n) []
  some-operator n = record { tail = some-token are.one ∷ []; value = some-token are.one; left = n; reads = λ after. (refl, are.passes, refl) }

  of-tested : (s : State) (b : Bool) → test (kind s) ≡ b → ends s.tokens ≡ true → Answers (λ d. OperatorOf test) never depth s (cond b (take_operator s) (refuse Unexpected s))
  unfolding take_operator take_token
  of-tested s true same e = of-counted s.tokens s.operators (s.operators == 0) (eqb_tells s.operators 0) e (head-passes test s.tokens e same)
  of-tested s false same e =
      refused-here (λ d. OperatorOf test) never depth s Unexpected e (λ q. absurd (unlike q))
      (λ d n u tail y w head within r over. other s.tokens u y w.tokens tail head same r.0 r.1) (λ t is. some-operator s.operators)
    where
      other : (ts : List Tok) (u y : Tok) (ws tail : List Tok) → u.kind ≡ head_kind ts → test (head_kind ts) ≡ false → u ∷ tail ≡ y ∷ ws → test y.kind ≡ true → ⊥
      other ts u y ws tail head same e is =
          let p : u ≡ y = cc in
          let q : y.kind ≡ head_kind ts = ap (λ v. v.kind) (sym p) ∙ head in
          let r : test (head_kind ts) ≡ true = subst (λ (v : Kind). test v ≡ true) q is in cc

  pub operator_of-answers : Answering Always (operator_of test) (λ d. OperatorOf test) never depth
  unfolding operator_of
  operator_of-answers s end u = of-tested s (test (kind s)) refl end

pub operator_of-starts : (test : Kind → Bool) (s : State) (t : Tok) (z : State) → OperatorOf test s t z → Passes test s.tokens
operator_of-starts test s t z r = passes-at test s.tokens z.tokens t r.0 r.1

-- ---- links

module _ {X : Type 0} (item : Family X) (g test : Kind → Bool) (join : X → Tok → X → X) (depth : ℕ) (are : AreOperators test)
    (apart : (k : Kind) → test k ≡ true → g k ≡ false) (p : Step X) (right-p : Correct Always p item g depth) where
  follows : (d : ℕ) (y : X) (t : Tok) (m : State) (r : Tok × X) (z : State) → Is (t, y) m r z → Stops g z.tokens → Stops g m.tokens
  follows d y t m r z h over = subst (λ (v : State). Stops g v.tokens) h.1 over

  link-answers : Answering Always (link test p) (λ d. Link test (item d)) g depth
  link-answers =
      then-plain-answers (λ d. OperatorOf test) (λ t d. grammar.◌>>=◌ (item d) (λ y. Is (t, y))) g depth Always (operator_of test) (λ t. step.◌>>=◌ p (λ y. pure (t, y)))
      (operator_of-answers test depth are)
      (λ t. then-correct item (λ y d. Is (t, y)) g g depth (λ d y m r z h over. follows d y t m r z h over) Always p (λ y. pure (t, y)) right-p (λ y. pure-correct (t, y) g depth))

  abbrev link-at : Family (Tok × X)
  link-at d = Link test (item d)

  link-starts : (d : ℕ) (s : State) (y : Tok × X) (z : State) → link-at d s y z → Passes test s.tokens
  link-starts d s y z r = operator_of-starts test s r.0 r.1 r.2

  links-start : (d : ℕ) (s : State) (y : List (Tok × X)) (z : State) → Links test (item d) s y z → Passes test s.tokens
  links-start d s y z (last r) = link-starts d s _ z r
  links-start d s y z (more {m = m} r b rest) = link-starts d s _ m r

  pub links-answers : Answering Always (links test p) (λ d. Links test (item d)) (going g test) depth
  links-answers s end u =
      series-correct link-at (λ d. Is {X = Unit {0}} tt) (λ x. x ∷ []) (λ x t xs. x ∷ xs) g test depth apart
      (λ d m t o y z b r. subst (λ (v : State). Passes test v.tokens) b.1 (links-start d o y z r))
      (link test p) link-answers nothing_between (anywhere (Passes test) nothing_between (λ d. Is {X = Unit {0}} tt) never depth (is-correct tt depth)).answers
      (λ m bad is. absurd (unlike-error is))
      (λ m t z a. unlimited-nothing depth m t z a)
      (λ s0 s1 s2 x t a b. less s0.tokens s1.tokens s2.tokens a.front b.front (a.reads []).0 (a.reads []).1.tokens a.tokens b.tokens (a.reads []).2.0)
      (suc (length s.tokens)) s (omega arith) end
    where
      unlike-error : {A E : Type 0} {a : A} {e : E} → Ok a ≡ Err e → ⊥
      unlike-error h = cc

      less : (ts us vs front behind_front : List Tok) (t : Tok) (rest : List Tok) → ts ≡ front ++ us → us ≡ behind_front ++ vs → front ++ [] ≡ t ∷ rest → length vs < length ts
      less ts us vs front behind_front t rest h q r = let a = no-longer us behind_front vs q in let b = shorter ts front us rest t h r in omega arith

  linked-follow : (d : ℕ) (x : X) (ls : List (Tok × X)) (m : State) (y : X) (z : State) → Is (grouped join x ls) m y z → Stops (going g test) z.tokens → Stops (going g test) m.tokens
  linked-follow d x ls m y z h over = subst (λ (v : State). Stops (going g test) v.tokens) h.1 over

  pub linked-answers : (x : X) → Answering Always (linked test join p x) (λ d. Linked test join (item d) x) (going g test) depth
  linked-answers x =
      then-answers (λ d. Links test (item d)) (λ ls d. Is (grouped join x ls)) (going g test) (going g test) depth (λ d ls m y z h over. linked-follow d x ls m y z h over)
      Always (links test p) (λ ls. pure (grouped join x ls)) links-answers (λ ls. pure-correct (grouped join x ls) (going g test) depth)

  pub linked-starts : (d : ℕ) (x : X) (s : State) (y : X) (z : State) → Linked test join (item d) x s y z → Passes test s.tokens
  linked-starts d x s y z r = links-start d s r.0 r.1 r.2

  -- operands grouped to the left
  pub left_chain-correct : Correct Always (left_chain test join p) (λ d. LeftChain test join (item d)) (going g test) depth
  left_chain-correct =
      extended-correct item (λ x d. Linked test join (item d) x) g test depth apart (λ d x m y z r. linked-starts d x m y z r)
      Always p right-p (linked test join p) (λ x s end pre. linked-answers x s end tt)

  -- an operator and a second operand
  abbrev second : X → Family X
  second x d = grammar.◌>>=◌ (OperatorOf test) (λ t. grammar.◌>>=◌ (item d) (λ y. Is (join x t y)))

  second-answers : (x : X) → Answering Always (step.◌>>=◌ (operator_of test) (λ t. step.◌>>=◌ p (λ y. pure (join x t y)))) (second x) g depth
  second-answers x =
      then-plain-answers (λ d. OperatorOf test) (λ t d. grammar.◌>>=◌ (item d) (λ y. Is (join x t y))) g depth Always (operator_of test) (λ t. step.◌>>=◌ p (λ y. pure (join x t y)))
      (operator_of-answers test depth are)
      (λ t. then-correct item (λ y d. Is (join x t y)) g g depth
      (λ d y m r z h over. subst (λ (v : State). Stops g v.tokens) h.1 over) Always p (λ y. pure (join x t y))
      right-p (λ y. pure-correct (join x t y) g depth))

  -- one operand or two
  pub comparison-correct : Correct Always (comparison test join p) (λ d. Comparison test join (item d)) (going g test) depth
  comparison-correct =
      extended-correct item second g test depth apart (λ d x m y z r. operator_of-starts test m r.0 r.1 r.2)
      Always p right-p (λ x. unless_next test (step.◌>>=◌ (operator_of test) (λ t. step.◌>>=◌ p (λ y. pure (join x t y)))))
      (λ x s end pre. unless_next-answers (second x) g test depth Always (step.◌>>=◌ (operator_of test) (λ t. step.◌>>=◌ p (λ y. pure (join x t y)))) (second-answers x) s end tt)

-- ---- operators of one group or of the other

right-alike : (a b c : Bool) → ((a || c) || b) ≡ (a || (b || c))
right-alike true b c = refl
right-alike false true true = refl
right-alike false true false = refl
right-alike false false true = refl
right-alike false false false = refl

module _ {X : Type 0} (item : Family X) (g test other : Kind → Bool) (join : X → Tok → X → X) (depth : ℕ) (are : AreOperators test) (others-are : AreOperators other)
    (apart : (k : Kind) → test k ≡ true → g k ≡ false) (other-apart : (k : Kind) → other k ≡ true → g k ≡ false)
    (unmixed : (k : Kind) → test k ≡ true → other k ≡ true → ⊥) (p : Step X) (right-p : Correct Always p item g depth) where
  abbrev any : Kind → Bool
  any k = test k || other k

  any-apart : (k : Kind) → any k ≡ true → g k ≡ false
  any-apart k h = by (test k) refl h
    where
      by : (b : Bool) → test k ≡ b → (b || other k) ≡ true → g k ≡ false
      by true e h = apart k e
      by false e h = other-apart k h

  abbrev ones : X → Family X
  ones x d = Linked test join (item d) x

  abbrev others : X → Family X
  others x d = Linked other join (item d) x

  ones-answers : (x : X) → Answering (Passes test) (unless_next other (linked test join p x)) (ones x) (going g any) depth
  ones-answers x s end pre =
      going-alike-answers Always (unless_next other (linked test join p x)) (ones x) (going (going g test) other) (going g any) depth (λ k. or_assoc (g k) (test k) (other k))
      (unless_next-answers (ones x) (going g test) other depth Always (linked test join p x) (linked-answers item g test join depth are apart p right-p x)) s end tt

  others-answers : (x : X) → Answering (Passes other) (unless_next test (linked other join p x)) (others x) (going g any) depth
  others-answers x s end pre =
      going-alike-answers Always (unless_next test (linked other join p x)) (others x) (going (going g other) test) (going g any) depth (λ k. right-alike (g k) (test k) (other k))
      (unless_next-answers (others x) (going g other) test depth Always (linked other join p x) (linked-answers item g other join depth others-are other-apart p right-p x)) s end tt

  both-start : (d : ℕ) (x : X) (s : State) (y : X) (z : State) → Either (ones x d) (others x d) s y z → Passes any s.tokens
  both-start d x s y z (inl r) = more-kinds s.tokens (linked-starts item g test join depth are apart p right-p d x s y z r)
    where
      more-kinds : (ts : List Tok) → Passes test ts → Passes any ts
      more-kinds [] h = h
      more-kinds (t ∷ ts) h = ap (λ v. v || other t.kind) h
  both-start d x s y z (inr r) = more-kinds s.tokens (linked-starts item g other join depth others-are other-apart p right-p d x s y z r)
    where
      more-kinds : (ts : List Tok) → Passes other ts → Passes any ts
      more-kinds [] h = h
      more-kinds (t ∷ ts) h = ap (λ v. test t.kind || v) h ∙ or-true (test t.kind)

  pub unmixed_chain-correct : Correct Always (unmixed_chain test other join p) (λ d. UnmixedChain test other join (item d)) (going g any) depth
  unmixed_chain-correct =
      extended-correct item (λ x d. Either (ones x d) (others x d)) g any depth any-apart both-start
      Always p right-p (λ x s. cond (test (kind s)) (unless_next other (linked test join p x) s) (unless_next test (linked other join p x) s))
      (λ x. choice-answers (ones x) (others x) test other (going g any) depth unmixed
      (λ d. linked-starts item g test join depth are apart p right-p d x) (λ d. linked-starts item g other join depth others-are other-apart p right-p d x)
      (unless_next other (linked test join p x)) (unless_next test (linked other join p x)) (ones-answers x) (others-answers x))
