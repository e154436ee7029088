-- Counting is read rightly, beside quantifiers.
use Rattle.std.proofs.Common.{◌≡◌, ℕ, zero, suc, ◌≤◌, [], ◌∷◌, refl, ◌∙◌, arith, ◌⊎◌, inl, inr}
use Rattle.pb_text_tree.specs.Form.{TermForm}
use Rattle.pb_text_counting.specs.Counting.{counted}
use Rattle.pb_text_lexer.specs.declared.fault.ReadingRule.TheVariants.{Limit}
use Rattle.pb_text_lexer.specs.declared.kind.Kind.{Kind}
use Rattle.pb_text_lexer.specs.declared.kind.Kind.TheVariants as k
use Rattle.pb_text_lexer.specs.Grammar.{State, Reads, One}
use Rattle.pb_text_lexer.specs.Steps.{Step, take_token, refuse}
use Rattle.pb_text_lexer.specs.Tokens.{Tok}
use Rattle.pb_text_lexer.proofs.Correct.{st, Answering, Correct, HeadIs, take-correct, refused-here, Free, goes-free, free-then, free-one}
use Rattle.pb_text_lexer.proofs.CorrectFamilies.{readable-first, Nowhere, first-answers, first-correct, deeper}
use Rattle.pb_text_lexer.proofs.CorrectSeries.{Passes, head-at}
use Rattle.pb_text_lexer.proofs.CorrectPlain.{Always, anywhere, then-plain, nothing-correct}
use Rattle.pb_text_terms.specs.Operators.{is_binder}
use Rattle.pb_text_terms.specs.Grammar.{Binding, BoundBy, Bound, IsTerm}
use Rattle.pb_text_terms.specs.Reading.{binding, bound_by, bound}
use Rattle.pb_text_terms.proofs.CorrectVariable.{head-kind-is, head-limited, binding-correct, forall-correct, exists-correct, readable-binding, readable-forall}
use Rattle.pb_text_terms.proofs.CorrectVariable as variable
use Rattle.pb_text_terms.proofs.CorrectOperators.{term_goes}
use Rattle.pb_text_terms.proofs.TermStarts.{quantifieds, readable-term}

abbrev kinds : ℕ → Kind → Reads TermForm
kinds d kind = BoundBy (deeper IsTerm d) kind

starts : (d : ℕ) (kind : Kind) (s : State) (y : TermForm) (z : State) → kinds d kind s y z → HeadIs kind s.tokens
starts d k.Count s y z r = head-at k.Count s.tokens r.1.tokens r.0 r.2.0 r.2.1
starts d k.Forall s y z r = variable.starts TermForm.quantified IsTerm term_goes d k.Forall s y z r
starts d k.Exists s y z r = variable.starts TermForm.quantified IsTerm term_goes d k.Exists s y z r
starts d _ s y z r = absurd r

-- ---- where a level may open

count-correct : (depth : ℕ) (p : Step TermForm) → Correct Always p IsTerm term_goes depth
    → Correct (HeadIs k.Count) (bound_by take_token p k.Count) (λ d. kinds d k.Count) term_goes (suc depth)
count-correct depth p right =
    then-plain (λ d. One k.Count) (λ word d. Binding (counted word.place) (deeper IsTerm d)) term_goes (suc depth) (HeadIs k.Count) take_token (λ word. binding (counted word.place) p)
    (take-correct k.Count (suc depth) refl) (λ word. binding-correct TermForm.quantified IsTerm term_goes (counted word.place) depth p right)

at-each : (depth : ℕ) (p : Step TermForm) → Correct Always p IsTerm term_goes depth → (kind : Kind)
    → Answering (HeadIs kind) (bound_by take_token p kind) (λ d. kinds d kind) term_goes (suc depth)
    ⊎ Nowhere (bound_by take_token p kind) (λ d. kinds d kind)
at-each depth p right k.Count = inl (count-correct depth p right).answers
at-each depth p right k.Forall = inl (forall-correct TermForm.quantified IsTerm term_goes depth p right).answers
at-each depth p right k.Exists = inl (exists-correct TermForm.quantified IsTerm term_goes depth p right).answers
at-each depth p right kind = inr nothing-correct

pub bound-correct : (depth : ℕ) (p : Step TermForm) → Correct Always p IsTerm term_goes depth → Correct (Passes is_binder) (bound take_token p) quantifieds term_goes (suc depth)
bound-correct depth p right =
    let all = forall-correct TermForm.quantified IsTerm term_goes depth p right in
    anywhere (Passes is_binder) (bound take_token p) quantifieds term_goes (suc depth)
    (first-correct kinds term_goes (suc depth) starts (bound_by take_token p) (at-each depth p right) k.Forall all.here all.some)

-- ---- where none may

no-count : (d : ℕ) (s : State) (y : TermForm) (w : State) → d ≤ 0 → kinds d k.Count s y w → ⊥
no-count zero s y w le r = r.3.3.3.2
no-count (suc d) s y w le r = omega arith

free-count : (t : Tok) → t.kind ≡ k.Count → Free (λ d. kinds d k.Count) 1 (t ∷ [])
free-count t is =
    free-then (λ d. One k.Count) (λ word d. Binding (counted word.place) (deeper IsTerm d)) 1 (t ∷ []) (free-one k.Count 1 t is)
    (λ word. readable-binding TermForm.quantified IsTerm term_goes (counted word.place) 0 (readable-term 0))

at-last : (p : Step TermForm) (kind : Kind)
    → Answering (HeadIs kind) (bound_by (refuse Limit) p kind) (λ d. kinds d kind) term_goes 0
    ⊎ Nowhere (bound_by (refuse Limit) p kind) (λ d. kinds d kind)
at-last p k.Count =
    inl (λ s end h. refused-here (λ d. kinds d k.Count) term_goes 0 s Limit end (λ q. head-limited k.Count s.tokens h refl)
    (λ d n t tail y w head within r over. no-count d (st (t ∷ tail) n) y w within.0 r)
    (λ t is. goes-free (λ d. kinds d k.Count) 1 (suc s.operators) (t ∷ []) (free-count t (is ∙ head-kind-is k.Count s.tokens h))))
at-last p k.Forall = variable.at-last TermForm.quantified IsTerm term_goes (readable-term 0) p k.Forall
at-last p k.Exists = variable.at-last TermForm.quantified IsTerm term_goes (readable-term 0) p k.Exists
at-last p kind = inr nothing-correct

pub bound-last : (p : Step TermForm) → Answering (Passes is_binder) (bound (refuse Limit) p) quantifieds term_goes 0
bound-last p s end head =
    first-answers kinds term_goes 0 starts (bound_by (refuse Limit) p) (at-last p)
    (readable-first kinds term_goes 0 starts k.Forall 1 (readable-forall TermForm.quantified IsTerm term_goes 0 (readable-term 0))) s end
