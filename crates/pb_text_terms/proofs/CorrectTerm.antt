-- Reading terms is right at any number of levels: signs, brackets, numbers and constants, connectives, quantifiers and counting.
use Rattle.std.proofs.Common.{◌≡◌, ℕ, zero, suc, ◌≤◌, true, false, [], ◌∷◌, refl, ◌∙◌, arith, ◌⊎◌, inl, inr}
use Rattle.std.specs.Str.Parse.{digits_value}
use Rattle.pb_text_tree.specs.declared.place.Place.{Place}
use Rattle.pb_text_tree.specs.Form.{TermForm}
use Rattle.pb_text_lexer.specs.declared.fault.ReadingRule.TheVariants.{Limit}
use Rattle.pb_text_lexer.specs.declared.kind.Kind.{Kind}
use Rattle.pb_text_lexer.specs.declared.kind.Kind.TheVariants as k
use Rattle.pb_text_lexer.specs.Kinds.{is_last}
use Rattle.pb_text_lexer.specs.Grammar.{State, Is, One, First}
use Rattle.pb_text_lexer.specs.Grammar as grammar
use Rattle.pb_text_lexer.specs.Steps.{Step, pure, take_token, expect, refuse, place}
use Rattle.pb_text_lexer.specs.Steps as step
use Rattle.pb_text_lexer.specs.Tokens.{Tok}
use Rattle.pb_text_lexer.proofs.Correct.{st, Stops, never, readable-is, readable-one, Answering, Correct, then-correct, HeadIs, take-correct, expect-correct, refused-here, Free, goes-free, free-then, free-one}
use Rattle.pb_text_lexer.proofs.CorrectFamilies.{readable-deeper, Nowhere, first-correct, deeper, deeper-correct, alike-correct}
use Rattle.pb_text_lexer.proofs.CorrectSeries.{Passes}
use Rattle.pb_text_lexer.proofs.CorrectPlain.{Always, anywhere, then-plain, is-correct, nothing-correct}
use Rattle.pb_text_lexer.proofs.CorrectLeft.{unless_next-correct}
use Rattle.pb_text_lexer.proofs.CorrectEither.{connected-correct}
use Rattle.pb_text_terms.specs.Operators.{connected_by, is_binder}
use Rattle.pb_text_terms.specs.Grammar.{Instance, applied, Equated, IsUnary, IsTerm}
use Rattle.pb_text_terms.specs.Reading.{is_open, instance, closed, begun, equated, unary, term, bound}
use Rattle.pb_text_terms.proofs.CorrectVariable.{head-kind-is, head-limited, said-correct, stops-at-kind}
use Rattle.pb_text_terms.proofs.CorrectBound.{bound-correct, bound-last}
use Rattle.pb_text_terms.proofs.CorrectOperators.{below-connectives, equated_goes, equateds, term-closes, term_goes, unary_goes}
use Rattle.pb_text_terms.proofs.TermStarts.{connecteds, from-term, from-unary, kinds, node-starts, quantified-starts, quantifieds, readable-term, readable-true, readable-unary, starts, to-term, to-unary}
use Rattle.pb_text_terms.proofs.CorrectInstance.{inner-term, instance-last, instance-over, instances}

-- ---- signs, brackets, numbers and constants

closed-correct : (x : TermForm) (depth : ℕ) → Correct Always (closed x) (λ d. Is x) unary_goes depth
closed-correct x depth = unless_next-correct (λ d. Is x) never is_open depth Always (pure x) (is-correct x depth)

leaf : (kind : Kind) (f : Tok → TermForm) (depth : ℕ) → is_last kind ≡ false
    → Correct (HeadIs kind) (step.◌>>=◌ take_token (λ t. closed (f t))) (λ d. grammar.◌>>=◌ (One kind) (λ t. Is (f t))) unary_goes depth
leaf kind f depth ne =
    then-plain (λ d. One kind) (λ t d. Is (f t)) unary_goes depth (HeadIs kind) take_token (λ t. closed (f t)) (take-correct kind depth ne) (λ t. closed-correct (f t) depth)

names : (depth : ℕ) → Correct Always (instance depth) instances unary_goes depth
    → Correct (HeadIs k.Name) (step.◌>>=◌ (instance depth) (λ found. pure (applied found.name found.arguments))) (λ d. kinds d k.Name) unary_goes depth
names depth right =
    said-correct instances (λ found. applied found.name found.arguments) unary_goes depth (HeadIs k.Name) (instance depth)
    (anywhere (HeadIs k.Name) (instance depth) instances unary_goes depth right)

no-level-not : (d : ℕ) (s : State) (y : TermForm) (w : State) → d ≤ 0 → kinds d k.Not s y w → ⊥
no-level-not zero s y w le r = r.3.2
no-level-not (suc d) s y w le r = omega arith

no-level-minus : (d : ℕ) (s : State) (y : TermForm) (w : State) → d ≤ 0 → kinds d k.Minus s y w → ⊥
no-level-minus zero s y w le r = r.3.2
no-level-minus (suc d) s y w le r = omega arith

no-level-open : (d : ℕ) (s : State) (y : TermForm) (w : State) → d ≤ 0 → kinds d k.Open s y w → ⊥
no-level-open zero s y w le r = r.3.2
no-level-open (suc d) s y w le r = omega arith

-- where a level may open, a sign's operand goes on, and a term in brackets
free-signed : (kind : Kind) (f : Place → TermForm → TermForm) (t : Tok) → t.kind ≡ kind
    → Free (λ d. grammar.◌>>=◌ (One kind) (λ sign. grammar.◌>>=◌ (deeper IsUnary d) (λ operand. Is (f sign.place operand)))) 1 (t ∷ [])
free-signed kind f t is =
    free-then (λ d. One kind) (λ sign d. grammar.◌>>=◌ (deeper IsUnary d) (λ operand. Is (f sign.place operand))) 1 (t ∷ []) (free-one kind 1 t is)
    (λ sign. free-then (deeper IsUnary) (λ operand d. Is (f sign.place operand)) 1 [] (readable-deeper IsUnary 0 (readable-unary 0)) (λ operand. readable-is (f sign.place operand) 1))

free-bracket : (t : Tok) → t.kind ≡ k.Open → Free (λ d. kinds d k.Open) 1 (t ∷ [])
free-bracket t is =
    free-then (λ d. One k.Open)
    (λ open_bracket d. grammar.◌>>=◌ (deeper IsTerm d)
    (λ inner. grammar.◌>>=◌ (One k.Close) (λ close_bracket. Is inner))) 1 (t ∷ []) (free-one k.Open 1 t is) (λ open_bracket.
    free-then (deeper IsTerm) (λ inner d. grammar.◌>>=◌ (One k.Close) (λ close_bracket. Is inner)) 1 [] (readable-deeper IsTerm 0 (readable-term 0)) (λ inner.
    free-then (λ d. One k.Close) (λ close_bracket d. Is inner) 1 [] (readable-one k.Close 1) (λ close_bracket. readable-is inner 1)))

at-last : (kind : Kind)
    → Answering (HeadIs kind) (begun (refuse Limit) (refuse Limit) (refuse Limit) kind) (λ d. kinds d kind) unary_goes 0
    ⊎ Nowhere (begun (refuse Limit) (refuse Limit) (refuse Limit) kind) (λ d. kinds d kind)
at-last k.Not =
    inl (λ s end h. refused-here (λ d. kinds d k.Not) unary_goes 0 s Limit end (λ q. head-limited k.Not s.tokens h refl)
    (λ d n t tail y w head within r over. no-level-not d (st (t ∷ tail) n) y w within.0 r)
    (λ t is. goes-free (λ d. kinds d k.Not) 1 (suc s.operators) (t ∷ []) (free-signed k.Not TermForm.not t (is ∙ head-kind-is k.Not s.tokens h))))
at-last k.Minus =
    inl (λ s end h. refused-here (λ d. kinds d k.Minus) unary_goes 0 s Limit end
    (λ q. head-limited k.Minus s.tokens h refl) (λ d n t tail y w head within r over. no-level-minus d (st (t ∷ tail) n) y w within.0 r)
    (λ t is. goes-free (λ d. kinds d k.Minus) 1 (suc s.operators) (t ∷ []) (free-signed k.Minus TermForm.negative t (is ∙ head-kind-is k.Minus s.tokens h))))
at-last k.Open =
    inl (λ s end h. refused-here (λ d. kinds d k.Open) unary_goes 0 s Limit end
    (λ q. head-limited k.Open s.tokens h refl) (λ d n t tail y w head within r over. no-level-open d (st (t ∷ tail) n) y w within.0 r)
    (λ t is. goes-free (λ d. kinds d k.Open) 1 (suc s.operators) (t ∷ []) (free-bracket t (is ∙ head-kind-is k.Open s.tokens h))))
at-last k.Number = inl (leaf k.Number (λ t. TermForm.number t.place (digits_value 10 t.text)) 0 refl).answers
at-last k.True = inl (leaf k.True (λ t. TermForm.constant t.place true) 0 refl).answers
at-last k.False = inl (leaf k.False (λ t. TermForm.constant t.place false) 0 refl).answers
at-last k.Name = inl (names 0 instance-last).answers
at-last kind = inr nothing-correct

unary-last : Correct Always (unary 0) IsUnary unary_goes 0
unary-last =
    alike-correct Always (unary 0) (λ d. First (kinds d)) IsUnary unary_goes 0 to-unary from-unary
    (first-correct kinds unary_goes 0 (λ d kind. starts (deeper IsUnary d) (deeper IsTerm d) kind)
    (begun (refuse Limit) (refuse Limit) (refuse Limit)) at-last k.True (readable-true 0) (readable-true 1))

module _ (depth : ℕ) (right-unary : Correct Always (unary depth) IsUnary unary_goes depth) (right-term : Correct Always (term depth) IsTerm term_goes depth) where
  inner-unary : Correct Always (unary depth) (deeper IsUnary) unary_goes (suc depth)
  inner-unary = deeper-correct Always (unary depth) IsUnary unary_goes depth right-unary

  signed : (kind : Kind) (f : Place → TermForm → TermForm) → is_last kind ≡ false
      → Correct (HeadIs kind) (step.◌>>=◌ take_token (λ sign. step.◌>>=◌ (unary depth) (λ operand. pure (f sign.place operand))))
      (λ d. grammar.◌>>=◌ (One kind) (λ sign. grammar.◌>>=◌ (deeper IsUnary d) (λ operand. Is (f sign.place operand)))) unary_goes (suc depth)
  signed kind f ne =
      then-plain (λ d. One kind) (λ sign d. grammar.◌>>=◌ (deeper IsUnary d) (λ operand. Is (f sign.place operand))) unary_goes (suc depth) (HeadIs kind) take_token
      (λ sign. step.◌>>=◌ (unary depth) (λ operand. pure (f sign.place operand))) (take-correct kind (suc depth) ne)
      (λ sign. said-correct (deeper IsUnary) (λ operand. f sign.place operand) unary_goes (suc depth) Always (unary depth) inner-unary)

  bracketed : Correct (HeadIs k.Open) (begun take_token (unary depth) (term depth) k.Open) (λ d. kinds d k.Open) unary_goes (suc depth)
  bracketed =
      then-plain (λ d. One k.Open) (λ open_bracket d. grammar.◌>>=◌ (deeper IsTerm d) (λ inner. grammar.◌>>=◌ (One k.Close) (λ close_bracket. Is inner))) unary_goes (suc depth)
      (HeadIs k.Open) take_token _ (take-correct k.Open (suc depth) refl) (λ open_bracket.
      then-correct (deeper IsTerm) (λ inner d. grammar.◌>>=◌ (One k.Close) (λ close_bracket. Is inner)) term_goes unary_goes (suc depth)
      (λ d x m y z r over. stops-at-kind term_goes k.Close term-closes m.tokens r.1.tokens r.0 r.2.0 r.2.1) Always (term depth) _ (inner-term depth right-term) (λ inner.
      anywhere (Stops term_goes) _ (λ d. grammar.◌>>=◌ (One k.Close) (λ close_bracket. Is inner)) unary_goes (suc depth) (
      then-plain (λ d. One k.Close) (λ close_bracket d. Is inner) unary_goes (suc depth) Always (expect k.Close) (λ close_bracket. closed inner) (expect-correct k.Close (suc depth) refl)
      (λ close_bracket. closed-correct inner (suc depth)))))

  at-each : (kind : Kind)
      → Answering (HeadIs kind) (begun take_token (unary depth) (term depth) kind) (λ d. kinds d kind) unary_goes
      (suc depth) ⊎ Nowhere (begun take_token (unary depth) (term depth) kind) (λ d. kinds d kind)
  at-each k.Not = inl (signed k.Not TermForm.not refl).answers
  at-each k.Minus = inl (signed k.Minus TermForm.negative refl).answers
  at-each k.Open = inl bracketed.answers
  at-each k.Number = inl (leaf k.Number (λ t. TermForm.number t.place (digits_value 10 t.text)) (suc depth) refl).answers
  at-each k.True = inl (leaf k.True (λ t. TermForm.constant t.place true) (suc depth) refl).answers
  at-each k.False = inl (leaf k.False (λ t. TermForm.constant t.place false) (suc depth) refl).answers
  at-each k.Name = inl (names (suc depth) (instance-over depth right-term)).answers
  at-each kind = inr nothing-correct

  unary-over : Correct Always (unary (suc depth)) IsUnary unary_goes (suc depth)
  unary-over =
      alike-correct Always (unary (suc depth)) (λ d. First (kinds d)) IsUnary unary_goes (suc depth) to-unary from-unary
      (first-correct kinds unary_goes (suc depth) (λ d kind. starts (deeper IsUnary d) (deeper IsTerm d) kind) (begun take_token (unary depth) (term depth)) at-each k.True
      (readable-true (suc depth)) (readable-true (suc (suc depth))))

-- ---- connectives and quantifiers

connections-correct : (depth : ℕ) (n q : Step TermForm) → Correct Always n (λ d. Equated (IsUnary d)) equated_goes depth → Answering (Passes is_binder) q quantifieds term_goes depth
    → Correct Always (step.connected (connected_by TermForm.connected) is_binder n q) IsTerm term_goes depth
connections-correct depth n q right-n right-q =
    alike-correct Always (step.connected (connected_by TermForm.connected) is_binder n q) connecteds IsTerm term_goes depth to-term from-term
    (connected-correct (connected_by TermForm.connected) (λ d. Equated (IsUnary d)) quantifieds equated_goes is_binder depth below-connectives node-starts quantified-starts n q right-n right-q)

term-last : Correct Always (term 0) IsTerm term_goes 0
term-last =
    connections-correct 0 (equated (unary 0)) (bound (refuse Limit) (refuse Limit)) (equateds (unary 0) IsUnary 0 unary-last)
    (bound-last (refuse Limit))

term-over : (depth : ℕ) → Correct Always (unary (suc depth)) IsUnary unary_goes (suc depth) → Correct Always (term depth) IsTerm term_goes depth
    → Correct Always (term (suc depth)) IsTerm term_goes (suc depth)
term-over depth right-unary right-term =
    connections-correct (suc depth) (equated (unary (suc depth))) (bound take_token (term depth)) (equateds (unary (suc depth)) IsUnary (suc depth) right-unary)
    (bound-correct depth (term depth) right-term).answers

record AreCorrect (depth : ℕ) : Type 0 where
  units : Correct Always (unary depth) IsUnary unary_goes depth
  terms : Correct Always (term depth) IsTerm term_goes depth

both-correct : (depth : ℕ) → AreCorrect depth
both-correct zero = record { units = unary-last; terms = term-last }
both-correct (suc depth) =
    let less = both-correct depth in
    let units = unary-over depth less.units less.terms in
    record { units = units; terms = term-over depth units less.terms }

-- ---- the theorems

pub unary-correct : (depth : ℕ) → Correct Always (unary depth) IsUnary unary_goes depth
unary-correct depth = (both-correct depth).units

pub term-correct : (depth : ℕ) → Correct Always (term depth) IsTerm term_goes depth
term-correct depth = (both-correct depth).terms

pub instance-correct : (depth : ℕ) → Correct Always (instance depth) (λ d. Instance (deeper IsTerm d)) unary_goes depth
instance-correct zero = instance-last
instance-correct (suc depth) = instance-over depth (term-correct depth)
