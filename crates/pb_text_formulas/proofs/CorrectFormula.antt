-- Formulas are read rightly.
use Rattle.std.proofs.Common.{◌≡◌, ℕ, zero, suc, ◌≤◌, Bool, true, false, cond, List, [], ◌∷◌, refl, sym, ap, ◌∙◌, subst, arith, ◌⊎◌, inl, inr}
use Rattle.pb_text_tree.specs.Form.{FormulaForm, TermForm, InstanceForm}
use Rattle.pb_text_lexer.specs.declared.fault.ReadingRule.TheVariants.{Unexpected, Limit}
use Rattle.pb_text_lexer.specs.declared.kind.Kind.{Kind}
use Rattle.pb_text_lexer.specs.declared.kind.Kind.TheVariants as k
use Rattle.pb_text_lexer.specs.Kinds.{same_kind, is_last, is_limited}
use Rattle.pb_text_lexer.specs.Grammar.{State, Reads, Is, One, First}
use Rattle.pb_text_lexer.specs.Grammar as grammar
use Rattle.pb_text_lexer.specs.Steps.{ends, head_kind, kind, Step, and_then, pure, take_token, expect, refuse, unless_next, connected}
use Rattle.pb_text_lexer.specs.Steps as step
use Rattle.pb_text_lexer.specs.Tokens.{Tok}
use Rattle.pb_text_lexer.proofs.TokenLemmas.{kind-same, same-kind}
use Rattle.pb_text_lexer.proofs.Correct.{st, Family, Stops, never, readable-is, readable-one, some-token, Answers, Answering, Correct, then-correct, pure-correct, HeadIs, take-correct, expect-correct, refused-here, unlike, Free, Readable, goes-free, readable-free, free-to, free-then, free-one}
use Rattle.pb_text_lexer.proofs.CorrectFamilies.{readable-first, readable-deeper, Nowhere, first-correct, deeper, deeper-correct, alike-correct}
use Rattle.pb_text_lexer.proofs.CorrectSeries.{going, Passes, head-at}
use Rattle.pb_text_lexer.proofs.CorrectPlain.{Always, anywhere, then-plain, then-behind, is-correct, leaf-correct, nothing-correct}
use Rattle.pb_text_lexer.proofs.CorrectLeft.{unless_next-answers, unless_next-correct}
use Rattle.pb_text_lexer.proofs.CorrectEither.{Not, connects, IsBelow, connected-correct}
use Rattle.pb_text_lexer.specs.OpenGrammar.{last, Connected}
use Rattle.pb_text_terms.specs.Grammar.{Instance, IsTerm, Quantified, QuantifiedBy}
use Rattle.pb_text_terms.specs.Operators.{connected_by, is_quantifier}
use Rattle.pb_text_terms.specs.Reading.{is_open}
use Rattle.pb_text_terms.specs.Reading as expressions
use Rattle.pb_text_formulas.specs.Grammar.{Begun, IsNode, IsFormula}
use Rattle.pb_text_formulas.specs.Reading.{opening, begun, data_term, node, formula}
use Rattle.pb_text_terms.proofs.CorrectOperators.{term_goes}
use Rattle.pb_text_terms.proofs.CorrectTerm.{term-correct, instance-correct}
use Rattle.pb_text_terms.proofs.CorrectVariable.{head-kind-is, head-limited, quantified-correct, quantified-last}
use Rattle.pb_text_terms.proofs.TermStarts.{readable-term}

-- what goes on with a node: a bracket, behind a name
abbrev pub node_goes : Kind → Bool
node_goes = going never is_open

abbrev pub formula_goes : Kind → Bool
formula_goes = connects node_goes

-- ---- tokens that begin a node

abbrev kinds : ℕ → Kind → Reads FormulaForm
kinds d = Begun (deeper IsNode d) (deeper IsFormula d) (deeper IsTerm d)

to-node : (d : ℕ) (s : State) (y : FormulaForm) (z : State) → First (kinds d) s y z → IsNode d s y z
to-node zero s y z r = r
to-node (suc d) s y z r = r

from-node : (d : ℕ) (s : State) (y : FormulaForm) (z : State) → IsNode d s y z → First (kinds d) s y z
from-node zero s y z r = r
from-node (suc d) s y z r = r

abbrev quantifieds : Family FormulaForm
quantifieds d = Quantified FormulaForm.quantified (deeper IsFormula d)

abbrev connecteds : Family FormulaForm
connecteds d = Connected (connected_by FormulaForm.connected) (IsNode d) (quantifieds d)

to-formula : (d : ℕ) (s : State) (y : FormulaForm) (z : State) → connecteds d s y z → IsFormula d s y z
to-formula zero s y z r = r
to-formula (suc d) s y z r = r

from-formula : (d : ℕ) (s : State) (y : FormulaForm) (z : State) → IsFormula d s y z → connecteds d s y z
from-formula zero s y z r = r
from-formula (suc d) s y z r = r

starts : (N F : Reads FormulaForm) (T : Reads TermForm) (kind : Kind) (s : State) (y : FormulaForm) (z : State) → Begun N F T kind s y z → HeadIs kind s.tokens
starts N F T k.Not s y z r = head-at k.Not s.tokens r.1.tokens r.0 r.2.0 r.2.1
starts N F T k.Open s y z r = head-at k.Open s.tokens r.1.tokens r.0 r.2.0 r.2.1
starts N F T k.True s y z r = head-at k.True s.tokens r.1.tokens r.0 r.2.0 r.2.1
starts N F T k.False s y z r = head-at k.False s.tokens r.1.tokens r.0 r.2.0 r.2.1
starts N F T k.Val s y z r = head-at k.Val s.tokens r.1.tokens r.0 r.2.0 r.2.1
starts N F T k.Name s y z r = name-starts T s r.0 r.1 r.2
  where
    name-starts : (T : Reads TermForm) (s : State) (x : InstanceForm) (m : State) → Instance T s x m → HeadIs k.Name s.tokens
    name-starts T s x m (inl q) = head-at k.Name s.tokens q.2.1.tokens q.2.0 q.2.2.0 q.2.2.1
    name-starts T s x m (inr q) = head-at k.Name s.tokens q.2.2.1.tokens q.2.2.0 q.2.2.2.0 q.2.2.2.1
starts N F T _ s y z r = absurd r

-- ---- formulas that are always there

abbrev true-node : Family FormulaForm
true-node d = kinds d k.True

readable-true : (level : ℕ) → Readable true-node level
readable-true level =
    free-then (λ d. One k.True) (λ word d. Is (FormulaForm.constant word.place true)) level [] (readable-one k.True level) (λ word. readable-is (FormulaForm.constant word.place true) level)

readable-node : (level : ℕ) → Readable IsNode level
readable-node level =
    free-to (λ d. First (kinds d)) IsNode (λ x. x) level level (to-node level) []
    (readable-first kinds never 0 (λ d kind. starts (deeper IsNode d) (deeper IsFormula d) (deeper IsTerm d) kind) k.True level (readable-true level))

readable-formula : (level : ℕ) → Readable IsFormula level
readable-formula level = free-to IsNode IsFormula (λ x. x) level level single [] (readable-node level)
  where
    single : (s : State) (y : FormulaForm) (z : State) → IsNode level s y z → IsFormula level s y z
    single s y z r = to-formula level s y z (last (last (last (inl r))))

-- ---- tokens at which a limit can be exceeded

-- a limit can be exceeded at a token of this kind
-- no bracket opens behind what is read
closed-correct : (P : List Tok → Type 0) (p : Step FormulaForm) (fam : Family FormulaForm) (depth : ℕ) → Correct P p fam never depth → Correct P (unless_next is_open p) fam node_goes depth
closed-correct P p fam depth a = unless_next-correct fam never is_open depth P p a

leaf : (kind : Kind) (f : Tok → FormulaForm) (depth : ℕ) → is_last kind ≡ false
    → Correct (HeadIs kind) (unless_next is_open (step.◌>>=◌ take_token (λ t. pure (f t)))) (λ d. grammar.◌>>=◌ (One kind) (λ t. Is (f t))) node_goes depth
leaf kind f depth ne = closed-correct (HeadIs kind) (step.◌>>=◌ take_token (λ t. pure (f t))) (λ d. grammar.◌>>=◌ (One kind) (λ t. Is (f t))) depth (leaf-correct kind f depth ne)

-- what is read says the value, whatever goes on with it
said-correct : {X : Type 0} (fam : Family X) (f : X → FormulaForm) (g : Kind → Bool) (depth : ℕ) (P : List Tok → Type 0) (p : Step X)
    → Correct P p fam g depth → Correct P (step.◌>>=◌ p (λ x. pure (f x))) (λ d. grammar.◌>>=◌ (fam d) (λ x. Is (f x))) g depth
said-correct fam f g depth P p a =
    then-correct fam (λ x d. Is (f x)) g g depth (λ d x m y z h over. subst (λ (v : State). Stops g v.tokens) h.1 over) P p (λ x. pure (f x)) a (λ x. pure-correct (f x) g depth)

instances : (depth : ℕ) → Correct (HeadIs k.Name) (step.◌>>=◌ (expressions.instance depth) (λ x. pure (FormulaForm.instance x))) (λ d. kinds d k.Name) node_goes depth
instances depth =
    said-correct (λ d. Instance (deeper IsTerm d)) FormulaForm.instance node_goes depth (HeadIs k.Name) (expressions.instance depth)
    (anywhere (HeadIs k.Name) (expressions.instance depth) (λ d. Instance (deeper IsTerm d)) node_goes depth (instance-correct depth))

-- ---- where no level may open

no-level-not : (d n : ℕ) (s : State) (y : FormulaForm) (w : State) → d ≤ 0 → kinds d k.Not s y w → ⊥
no-level-not zero n s y w le r = r.3.2
no-level-not (suc d) n s y w le r = omega arith

no-level-open : (d n : ℕ) (s : State) (y : FormulaForm) (w : State) → d ≤ 0 → kinds d k.Open s y w → ⊥
no-level-open zero n s y w le r = r.3.2
no-level-open (suc d) n s y w le r = omega arith

-- a data term in brackets, behind `val`
abbrev in_brackets : Tok → Family FormulaForm
in_brackets word d = grammar.◌>>=◌ (One k.Open) (λ open_bracket. grammar.◌>>=◌ (deeper IsTerm d) (λ x. grammar.◌>>=◌ (One k.Close) (λ close_bracket. Is (FormulaForm.val word.place x))))

no-level-val : (word : Tok) (d : ℕ) (s : State) (y : FormulaForm) (w : State) → d ≤ 0 → in_brackets word d s y w → ⊥
no-level-val word zero s y w le r = r.3.2
no-level-val word (suc d) s y w le r = omega arith

opens-not : (s : State) (t : Tok) (m : State) → One k.Open s t m → is_open (head_kind s.tokens) ≡ true
opens-not s t m r = head s.tokens r.0
  where
    head : (ts : List Tok) → ts ≡ t ∷ m.tokens → is_open (head_kind ts) ≡ true
    head ts e = subst (λ (v : List Tok). is_open (head_kind v) ≡ true) (sym e) (subst (λ (v : Kind). is_open v ≡ true) (sym r.1) (same-kind k.Open))

-- where a level may open, a negation's operand goes on, a formula in brackets, and a term in them
free-not : (t : Tok) → t.kind ≡ k.Not → Free (λ d. kinds d k.Not) 1 (t ∷ [])
free-not t is =
    free-then (λ d. One k.Not) (λ sign d. grammar.◌>>=◌ (deeper IsNode d) (λ operand. Is (FormulaForm.negation sign.place operand))) 1 (t ∷ []) (free-one k.Not 1 t is) (λ sign.
    free-then (deeper IsNode) (λ operand d. Is (FormulaForm.negation sign.place operand)) 1 [] (readable-deeper IsNode 0 (readable-node 0))
    (λ operand. readable-is (FormulaForm.negation sign.place operand) 1))

free-bracket : (t : Tok) → t.kind ≡ k.Open → Free (λ d. kinds d k.Open) 1 (t ∷ [])
free-bracket t is =
    free-then (λ d. One k.Open)
    (λ open_bracket d. grammar.◌>>=◌ (deeper IsFormula d)
    (λ inner. grammar.◌>>=◌ (One k.Close) (λ close_bracket. Is inner))) 1 (t ∷ []) (free-one k.Open 1 t is) (λ open_bracket.
    free-then (deeper IsFormula) (λ inner d. grammar.◌>>=◌ (One k.Close) (λ close_bracket. Is inner)) 1 [] (readable-deeper IsFormula 0 (readable-formula 0)) (λ inner.
    free-then (λ d. One k.Close) (λ close_bracket d. Is inner) 1 [] (readable-one k.Close 1) (λ close_bracket. readable-is inner 1)))

free-term : (word : Tok) (t : Tok) → t.kind ≡ k.Open → Free (in_brackets word) 1 (t ∷ [])
free-term word t is =
    free-then (λ d. One k.Open) (λ open_bracket d. grammar.◌>>=◌ (deeper IsTerm d) (λ x. grammar.◌>>=◌ (One k.Close) (λ close_bracket. Is (FormulaForm.val word.place x)))) 1 (t ∷ [])
    (free-one k.Open 1 t is) (λ open_bracket.
    free-then (deeper IsTerm) (λ x d. grammar.◌>>=◌ (One k.Close) (λ close_bracket. Is (FormulaForm.val word.place x))) 1 [] (readable-deeper IsTerm 0 (readable-term 0)) (λ x.
    free-then (λ d. One k.Close) (λ close_bracket d. Is (FormulaForm.val word.place x)) 1 [] (readable-one k.Close 1) (λ close_bracket. readable-is (FormulaForm.val word.place x) 1)))

readable-term-in : (word : Tok) → Readable (in_brackets word) 1
readable-term-in word = readable-free (in_brackets word) 1 (some-token k.Open ∷ []) (free-term word (some-token k.Open) refl)

-- no bracket may open
opening-last : (word : Tok) (q : Tok → Step FormulaForm) → Answering Always (step.◌>>=◌ (opening (refuse Limit)) q) (in_brackets word) never 0
unfolding opening
opening-last word q s ended u = go s.tokens s.operators ended
  where
    differs : (t u : Tok) (tail : List Tok) (n : ℕ) (m : State) → u.kind ≡ t.kind → is_open t.kind ≡ false → (y : Tok) → One k.Open (st (u ∷ tail) n) y m → ⊥
    differs t u tail n m head other y r =
        let a = opens-not (st (u ∷ tail) n) y m r in let b : is_open t.kind ≡ true = subst (λ (v : Kind). is_open v ≡ true) head a in cc

    at : (t : Tok) (ts : List Tok) (n : ℕ) (b : Bool) → is_open t.kind ≡ b → ends (t ∷ ts) ≡ true
        → Answers (in_brackets word) never 0 (st (t ∷ ts) n) (and_then (cond b (refuse Limit (st (t ∷ ts) n)) (refuse Unexpected (st (t ∷ ts) n))) q)
    at t ts n true same e =
        refused-here (in_brackets word) never 0 (st (t ∷ ts) n) Limit e
        (λ x. ap is_limited (kind-same t.kind k.Open same))
        (λ d m v tail y w head within r over. no-level-val word d (st (v ∷ tail) m) y w within.0 r)
        (λ v is. goes-free (in_brackets word) 1 (suc n) (v ∷ []) (free-term word v (is ∙ kind-same t.kind k.Open same)))
    at t ts n false other e =
        refused-here (in_brackets word) never 0 (st (t ∷ ts) n) Unexpected e (λ x. absurd (unlike x)) (λ d m v tail y w head within r over. differs t v tail m r.1 head other r.0 r.2)
        (λ v is. goes-free (in_brackets word) 1 (suc n) [] (readable-term-in word))

    go : (ts : List Tok) (n : ℕ) → ends ts ≡ true → Answers (in_brackets word) never 0 (st ts n) (step.◌>>=◌ (opening (refuse Limit)) q (st ts n))
    go [] n e = cc
    go (t ∷ ts) n e = at t ts n (is_open t.kind) refl e

valued-last : Answering (HeadIs k.Val) (begun (refuse Limit) (refuse Limit) (refuse Limit) (refuse Limit) (expressions.instance 0) k.Val) (λ d. kinds d k.Val) node_goes 0
valued-last =
    unless_next-answers (λ d. kinds d k.Val) never is_open 0 (HeadIs k.Val)
    (step.◌>>=◌ take_token
    (λ word. step.◌>>=◌ (opening (refuse Limit))
    (λ open_bracket. step.◌>>=◌ (refuse Limit)
    (λ x. step.◌>>=◌ (expect k.Close) (λ close_bracket. pure (FormulaForm.val word.place x))))))
    (then-behind k.Val in_brackets never 0
    (λ word. step.◌>>=◌ (opening (refuse Limit)) (λ open_bracket. step.◌>>=◌ (refuse Limit) (λ x. step.◌>>=◌ (expect k.Close) (λ close_bracket. pure (FormulaForm.val word.place x)))))
    refl refl
    (λ word. opening-last word (λ open_bracket. step.◌>>=◌ (refuse Limit) (λ x. step.◌>>=◌ (expect k.Close) (λ close_bracket. pure (FormulaForm.val word.place x))))))

at-last : (kind : Kind)
    → Answering (HeadIs kind)
    (begun (refuse Limit) (refuse Limit) (refuse Limit) (refuse Limit) (expressions.instance 0) kind)
    (λ d. kinds d kind) node_goes 0
    ⊎ Nowhere (begun (refuse Limit) (refuse Limit) (refuse Limit) (refuse Limit) (expressions.instance 0) kind) (λ d. kinds d kind)
at-last k.Not =
    inl (λ s end h. refused-here (λ d. kinds d k.Not) node_goes 0 s Limit end (λ q. head-limited k.Not s.tokens h refl)
    (λ d n t tail y w head within r over. no-level-not d n (st (t ∷ tail) n) y w within.0 r)
    (λ t is. goes-free (λ d. kinds d k.Not) 1 (suc s.operators) (t ∷ []) (free-not t (is ∙ head-kind-is k.Not s.tokens h))))
at-last k.Open =
    inl (λ s end h. refused-here (λ d. kinds d k.Open) node_goes 0 s Limit end
    (λ q. head-limited k.Open s.tokens h refl) (λ d n t tail y w head within r over. no-level-open d n (st (t ∷ tail) n) y w within.0 r)
    (λ t is. goes-free (λ d. kinds d k.Open) 1 (suc s.operators) (t ∷ []) (free-bracket t (is ∙ head-kind-is k.Open s.tokens h))))
at-last k.True = inl (leaf k.True (λ t. FormulaForm.constant t.place true) 0 refl).answers
at-last k.False = inl (leaf k.False (λ t. FormulaForm.constant t.place false) 0 refl).answers
at-last k.Val = inl valued-last
at-last k.Name = inl (instances 0).answers
at-last kind = inr nothing-correct

-- ---- where a level may open

closes : (ts us : List Tok) (t : Tok) → ts ≡ t ∷ us → t.kind ≡ k.Close → Stops formula_goes ts
unfolding same_kind
closes ts us t e is = subst (λ (v : List Tok). Stops formula_goes v) (sym e) (subst (λ (v : Kind). formula_goes v ≡ false) (sym is) refl)

term-closes : (ts us : List Tok) (t : Tok) → ts ≡ t ∷ us → t.kind ≡ k.Close → Stops term_goes ts
unfolding same_kind
term-closes ts us t e is = subst (λ (v : List Tok). Stops term_goes v) (sym e) (subst (λ (v : Kind). term_goes v ≡ false) (sym is) refl)

module _ (depth : ℕ) (right-node : Correct Always (node depth) IsNode node_goes depth) (right-formula : Correct Always (formula depth) IsFormula formula_goes depth) where
  inner-term : Correct Always (data_term depth) (deeper IsTerm) term_goes (suc depth)
  unfolding data_term
  inner-term = deeper-correct Always (data_term depth) IsTerm term_goes depth (term-correct depth)

  inner-formula : Correct Always (formula depth) (deeper IsFormula) formula_goes (suc depth)
  inner-formula = deeper-correct Always (formula depth) IsFormula formula_goes depth right-formula

  inner-node : Correct Always (node depth) (deeper IsNode) node_goes (suc depth)
  inner-node = deeper-correct Always (node depth) IsNode node_goes depth right-node

  -- a closing bracket, and then a value
  closing : {X : Type 0} (g : Kind → Bool) (x : X) → Correct (Stops g) (step.◌>>=◌ (expect k.Close) (λ t. pure x)) (λ d. grammar.◌>>=◌ (One k.Close) (λ t. Is x)) never (suc depth)
  closing g x =
      anywhere (Stops g) _ (λ d. grammar.◌>>=◌ (One k.Close) (λ t. Is x)) never (suc depth)
      (then-plain (λ d. One k.Close) (λ t d. Is x) never (suc depth) Always (expect k.Close) (λ t. pure x) (expect-correct k.Close (suc depth) refl) (λ t. is-correct x (suc depth)))

  open-correct : (word : Tok)
      → Correct Always
      (step.◌>>=◌ (opening take_token)
      (λ open_bracket. step.◌>>=◌ (data_term depth)
      (λ x. step.◌>>=◌ (expect k.Close) (λ close_bracket. pure (FormulaForm.val word.place x)))))
      (in_brackets word) never (suc depth)
  unfolding opening expect
  open-correct word =
      then-plain (λ d. One k.Open) (λ open_bracket d. grammar.◌>>=◌ (deeper IsTerm d) (λ x. grammar.◌>>=◌ (One k.Close) (λ close_bracket. Is (FormulaForm.val word.place x)))) never (suc depth)
      Always (opening take_token) _ (expect-correct k.Open (suc depth) refl) (λ open_bracket.
      then-correct (deeper IsTerm) (λ x d. grammar.◌>>=◌ (One k.Close) (λ close_bracket. Is (FormulaForm.val word.place x))) term_goes never (suc depth)
      (λ d x m y z r over. term-closes m.tokens r.1.tokens r.0 r.2.0 r.2.1) Always (data_term depth) _ inner-term (λ x. closing term_goes (FormulaForm.val word.place x)))

  negated : Correct (HeadIs k.Not) (begun take_token (node depth) (formula depth) (data_term depth) (expressions.instance (suc depth)) k.Not) (λ d. kinds d k.Not) node_goes (suc depth)
  negated =
      then-plain (λ d. One k.Not) (λ sign d. grammar.◌>>=◌ (deeper IsNode d) (λ operand. Is (FormulaForm.negation sign.place operand))) node_goes (suc depth)
      (HeadIs k.Not) take_token (λ sign. step.◌>>=◌ (node depth) (λ operand. pure (FormulaForm.negation sign.place operand))) (take-correct k.Not (suc depth) refl)
      (λ sign. said-correct (deeper IsNode) (λ operand. FormulaForm.negation sign.place operand) node_goes (suc depth) Always (node depth) inner-node)

  bracketed : Correct (HeadIs k.Open) (begun take_token (node depth) (formula depth) (data_term depth) (expressions.instance (suc depth)) k.Open) (λ d. kinds d k.Open) node_goes (suc depth)
  bracketed =
      closed-correct (HeadIs k.Open) _ (λ d. kinds d k.Open) (suc depth)
      (then-plain (λ d. One k.Open) (λ open_bracket d. grammar.◌>>=◌ (deeper IsFormula d) (λ inner. grammar.◌>>=◌ (One k.Close) (λ close_bracket. Is inner))) never (suc depth)
      (HeadIs k.Open) take_token (λ open_bracket. step.◌>>=◌ (formula depth) (λ inner. step.◌>>=◌ (expect k.Close) (λ close_bracket. pure inner))) (take-correct k.Open (suc depth) refl)
      (λ open_bracket. then-correct (deeper IsFormula) (λ inner d. grammar.◌>>=◌ (One k.Close) (λ close_bracket. Is inner)) formula_goes never (suc depth)
      (λ d x m y z r over. closes m.tokens r.1.tokens r.0 r.2.0 r.2.1) Always (formula depth) _ inner-formula (λ inner. closing formula_goes inner)))

  valued : Correct (HeadIs k.Val) (begun take_token (node depth) (formula depth) (data_term depth) (expressions.instance (suc depth)) k.Val) (λ d. kinds d k.Val) node_goes (suc depth)
  valued =
      closed-correct (HeadIs k.Val) _ (λ d. kinds d k.Val) (suc depth)
      (then-plain (λ d. One k.Val) in_brackets never (suc depth) (HeadIs k.Val) take_token _ (take-correct k.Val (suc depth) refl) open-correct)

  at-each : (kind : Kind)
      → Answering (HeadIs kind)
      (begun take_token (node depth) (formula depth) (data_term depth) (expressions.instance (suc depth)) kind)
      (λ d. kinds d kind) node_goes (suc depth)
      ⊎ Nowhere (begun take_token (node depth) (formula depth) (data_term depth) (expressions.instance (suc depth))
      kind) (λ d. kinds d kind)
  at-each k.Not = inl negated.answers
  at-each k.Open = inl bracketed.answers
  at-each k.True = inl (leaf k.True (λ t. FormulaForm.constant t.place true) (suc depth) refl).answers
  at-each k.False = inl (leaf k.False (λ t. FormulaForm.constant t.place false) (suc depth) refl).answers
  at-each k.Val = inl valued.answers
  at-each k.Name = inl (instances (suc depth)).answers
  at-each kind = inr nothing-correct

node-last : Correct Always (node 0) IsNode node_goes 0
unfolding node
node-last =
    alike-correct Always (node 0) (λ d. First (kinds d)) IsNode node_goes 0 to-node from-node
    (first-correct kinds node_goes 0 (λ d kind. starts (deeper IsNode d) (deeper IsFormula d) (deeper IsTerm d) kind)
    (begun (refuse Limit) (refuse Limit) (refuse Limit) (refuse Limit) (expressions.instance 0)) at-last k.True
    (readable-true 0) (readable-true 1))

node-over : (depth : ℕ) → Correct Always (node depth) IsNode node_goes depth
    → Correct Always (formula depth) IsFormula formula_goes depth → Correct Always (node (suc depth)) IsNode node_goes (suc depth)
unfolding node
node-over depth n f =
    alike-correct Always (node (suc depth)) (λ d. First (kinds d)) IsNode node_goes (suc depth) to-node from-node
    (first-correct kinds node_goes (suc depth) (λ d kind. starts (deeper IsNode d) (deeper IsFormula d) (deeper IsTerm d) kind)
    (begun take_token (node depth) (formula depth) (data_term depth) (expressions.instance (suc depth))) (at-each depth n f) k.True
    (readable-true (suc depth)) (readable-true (suc (suc depth))))

-- ---- the connectives

-- a node begins with no quantifier, and a quantified formula with one
node-starts : (d : ℕ) (s : State) (y : FormulaForm) (z : State) → IsNode d s y z → Passes (Not is_quantifier) s.tokens
node-starts d s y z r = at s.tokens s.operators (from-node d s y z r)
  where
    plain : (kind : Kind) (s : State) → kinds d kind s y z → Not is_quantifier kind ≡ true
    plain k.Not s r = refl
    plain k.Open s r = refl
    plain k.True s r = refl
    plain k.False s r = refl
    plain k.Val s r = refl
    plain k.Name s r = refl
    plain _ s r = absurd r

    at : (ts : List Tok) (n : ℕ) → First (kinds d) (st ts n) y z → Passes (Not is_quantifier) ts
    at [] n r = r
    at (t ∷ ts) n r = plain t.kind (st (t ∷ ts) n) r

quantified-starts : (d : ℕ) (s : State) (y : FormulaForm) (z : State) → quantifieds d s y z → Passes is_quantifier s.tokens
quantified-starts d s y z r = at s.tokens s.operators r
  where
    plain : (kind : Kind) (s : State) → QuantifiedBy FormulaForm.quantified (deeper IsFormula d) kind s y z → is_quantifier kind ≡ true
    plain k.Forall s r = refl
    plain k.Exists s r = refl
    plain _ s r = absurd r

    at : (ts : List Tok) (n : ℕ) → quantifieds d (st ts n) y z → Passes is_quantifier ts
    at [] n r = r
    at (t ∷ ts) n r = plain t.kind (st (t ∷ ts) n) r

below : IsBelow node_goes
unfolding same_kind
below = record { conjunction = refl; disjunction = refl; implication = refl }

connections-correct : (depth : ℕ) (n q : Step FormulaForm) → Correct Always n IsNode node_goes depth → Answering (Passes is_quantifier) q quantifieds formula_goes depth
    → Correct Always (connected (connected_by FormulaForm.connected) is_quantifier n q) IsFormula formula_goes depth
connections-correct depth n q right-n right-q =
    alike-correct Always (connected (connected_by FormulaForm.connected) is_quantifier n q) connecteds IsFormula formula_goes depth to-formula from-formula
    (connected-correct (connected_by FormulaForm.connected) IsNode quantifieds node_goes is_quantifier depth below node-starts quantified-starts n q right-n right-q)

-- both, so many levels being open to them
pub record AreCorrect (depth : ℕ) : Type 0 where
  pub nodes : Correct Always (node depth) IsNode node_goes depth
  pub formulas : Correct Always (formula depth) IsFormula formula_goes depth

formulas-last : Correct Always (formula 0) IsFormula formula_goes 0
unfolding node formula
formulas-last =
    connections-correct 0 (node 0) (expressions.quantified FormulaForm.quantified (refuse Limit) (refuse Limit))
    node-last (quantified-last FormulaForm.quantified IsFormula formula_goes (readable-formula 0) (refuse Limit))

formulas-over : (depth : ℕ) → Correct Always (node (suc depth)) IsNode node_goes (suc depth) → Correct Always (formula depth) IsFormula formula_goes depth
    → Correct Always (formula (suc depth)) IsFormula formula_goes (suc depth)
unfolding node formula
formulas-over depth n f =
    connections-correct (suc depth) (node (suc depth)) (expressions.quantified FormulaForm.quantified take_token (formula depth)) n
    (quantified-correct FormulaForm.quantified IsFormula formula_goes depth (formula depth) f).answers

pub formulas-correct : (depth : ℕ) → AreCorrect depth
formulas-correct zero = record { nodes = node-last; formulas = formulas-last }
formulas-correct (suc depth) =
    let less = formulas-correct depth in
    let nodes = node-over depth less.nodes less.formulas in
    record { nodes = nodes; formulas = formulas-over depth nodes less.formulas }
