-- Sets of steps are read rightly.
use Rattle.std.proofs.lemmas.Bool.{or_right}
use Rattle.std.proofs.Common.{◌≡◌, ℕ, zero, suc, ◌≤◌, Bool, false, List, [], ◌∷◌, refl, ◌∙◌, arith, ◌⊎◌, inl, inr, Ok, Err}
use Rattle.pb_protocol_tree.specs.Form.{StepSetForm}
use Rattle.pb_text_lexer.specs.declared.fault.ReadingRule.TheVariants.{Limit}
use Rattle.pb_text_lexer.specs.declared.kind.Kind.{Kind}
use Rattle.pb_text_lexer.specs.declared.kind.Kind.TheVariants as k
use Rattle.pb_text_lexer.specs.Kinds.{same_kind}
use Rattle.pb_text_lexer.specs.Grammar.{State, Reads, Is, One, First}
use Rattle.pb_text_lexer.specs.Grammar as grammar
use Rattle.pb_text_lexer.specs.OpenGrammar.{last}
use Rattle.pb_text_lexer.specs.Steps.{ends, Step, Outcome, pure, take_token, expect, refuse, unless_next}
use Rattle.pb_text_lexer.specs.Steps as step
use Rattle.pb_text_lexer.specs.Tokens.{Tok}
use Rattle.pb_text_lexer.proofs.Correct.{st, Family, Stops, never, readable-is, readable-one, Answers, Answering, Correct, then-correct, HeadIs, take-correct, expect-correct, refused-here, Free, Readable, goes-free, free-to, free-then, free-one}
use Rattle.pb_text_lexer.proofs.CorrectFamilies.{readable-first, readable-deeper, Nowhere, first-correct, deeper, deeper-correct, alike-correct}
use Rattle.pb_text_lexer.proofs.CorrectSeries.{going, head-at, stops-less}
use Rattle.pb_text_lexer.proofs.CorrectChained.{AnswersOpen, CorrectOpen, open-chains-correct}
use Rattle.pb_text_lexer.proofs.CorrectEither.{top-correct}
use Rattle.pb_text_lexer.proofs.CorrectPlain.{Always, anywhere, then-plain, leaf-correct, is-correct, nothing-correct}
use Rattle.pb_text_lexer.proofs.CorrectLeft.{unless_next-correct}
use Rattle.pb_text_terms.specs.Reading.{is_open, instance}
use Rattle.pb_text_terms.proofs.CorrectOperators.{unary_goes}
use Rattle.pb_text_terms.proofs.CorrectVariable.{head-kind-is, head-limited, said-correct, stops-at-kind}
use Rattle.pb_model_text.specs.Grammar.{IsInstance, set_of, SetBegun, united_by, Union, IsSet, IsStepSet}
use Rattle.pb_model_text.specs.Reading.{is_or, set_begun, union, set, step_set}
use Rattle.pb_model_text.proofs.CorrectInstances.{instance-correct, instance-starts}

-- what goes on with a set: a bracket, behind a name
abbrev pub set_goes : Kind → Bool
set_goes = unary_goes

-- what goes on with sets
abbrev pub sets_go : Kind → Bool
sets_go = going set_goes is_or

abbrev kinds : ℕ → Kind → Reads StepSetForm
kinds d = SetBegun (deeper IsSet d) (deeper IsStepSet d) (IsInstance d)

to-set : (d : ℕ) (s : State) (y : StepSetForm) (z : State) → First (kinds d) s y z → IsSet d s y z
to-set zero s y z r = r
to-set (suc d) s y z r = r

from-set : (d : ℕ) (s : State) (y : StepSetForm) (z : State) → IsSet d s y z → First (kinds d) s y z
from-set zero s y z r = r
from-set (suc d) s y z r = r

abbrev unions : Family StepSetForm
unions d = Union (IsSet d)

to-sets : (d : ℕ) (s : State) (y : StepSetForm) (z : State) → unions d s y z → IsStepSet d s y z
to-sets zero s y z r = r
to-sets (suc d) s y z r = r

from-sets : (d : ℕ) (s : State) (y : StepSetForm) (z : State) → IsStepSet d s y z → unions d s y z
from-sets zero s y z r = r
from-sets (suc d) s y z r = r

starts : (d : ℕ) (kind : Kind) (s : State) (y : StepSetForm) (z : State) → kinds d kind s y z → HeadIs kind s.tokens
starts d k.True s y z r = head-at k.True s.tokens r.1.tokens r.0 r.2.0 r.2.1
starts d k.Name s y z r = instance-starts d s r.0 r.1 r.2
starts d k.Not s y z r = head-at k.Not s.tokens r.1.tokens r.0 r.2.0 r.2.1
starts d k.Open s y z r = head-at k.Open s.tokens r.1.tokens r.0 r.2.0 r.2.1
starts d _ s y z r = absurd r

-- ---- sets that are always there

readable-true : (level : ℕ) → Readable (λ d. kinds d k.True) level
readable-true level =
    free-then (λ d. One k.True) (λ word d. Is (StepSetForm.all word.place)) level [] (readable-one k.True level) (λ word. readable-is (StepSetForm.all word.place) level)

readable-set : (level : ℕ) → Readable IsSet level
readable-set level =
    free-to (λ d. First (kinds d)) IsSet (λ x. x) level level (to-set level) []
    (readable-first kinds never 0 starts k.True level (readable-true level))

pub readable-sets : (level : ℕ) → Readable IsStepSet level
readable-sets level = free-to IsSet IsStepSet (λ x. x) level level single [] (readable-set level)
  where
    single : (s : State) (y : StepSetForm) (z : State) → IsSet level s y z → IsStepSet level s y z
    single s y z r = to-sets level s y z (last r)

-- ---- where no level may open

no-level-not : (d : ℕ) (s : State) (y : StepSetForm) (w : State) → d ≤ 0 → kinds d k.Not s y w → ⊥
no-level-not zero s y w le r = r.3.2
no-level-not (suc d) s y w le r = omega arith

no-level-open : (d : ℕ) (s : State) (y : StepSetForm) (w : State) → d ≤ 0 → kinds d k.Open s y w → ⊥
no-level-open zero s y w le r = r.3.2
no-level-open (suc d) s y w le r = omega arith

free-not : (t : Tok) → t.kind ≡ k.Not → Free (λ d. kinds d k.Not) 1 (t ∷ [])
free-not t is =
    free-then (λ d. One k.Not) (λ sign d. grammar.◌>>=◌ (deeper IsSet d) (λ operand. Is (StepSetForm.complement sign.place operand))) 1 (t ∷ []) (free-one k.Not 1 t is)
    (λ sign. free-then (deeper IsSet) (λ operand d. Is (StepSetForm.complement sign.place operand)) 1 []
    (readable-deeper IsSet 0 (readable-set 0)) (λ operand. readable-is (StepSetForm.complement sign.place operand) 1))

free-bracket : (t : Tok) → t.kind ≡ k.Open → Free (λ d. kinds d k.Open) 1 (t ∷ [])
free-bracket t is =
    free-then (λ d. One k.Open)
    (λ open_bracket d. grammar.◌>>=◌ (deeper IsStepSet d)
    (λ inner. grammar.◌>>=◌ (One k.Close) (λ close_bracket. Is inner))) 1 (t ∷ []) (free-one k.Open 1 t is) (λ open_bracket.
    free-then (deeper IsStepSet) (λ inner d. grammar.◌>>=◌ (One k.Close) (λ close_bracket. Is inner)) 1 [] (readable-deeper IsStepSet 0 (readable-sets 0)) (λ inner.
    free-then (λ d. One k.Close) (λ close_bracket d. Is inner) 1 [] (readable-one k.Close 1) (λ close_bracket. readable-is inner 1)))

-- ---- one set

-- no bracket opens behind what is closed
closed-correct : (P : List Tok → Type 0) (p : Step StepSetForm) (fam : Family StepSetForm) (depth : ℕ) → Correct P p fam never depth → Correct P (unless_next is_open p) fam set_goes depth
closed-correct P p fam depth a = unless_next-correct fam never is_open depth P p a

all-steps : (depth : ℕ) → Correct (HeadIs k.True) (unless_next is_open (step.◌>>=◌ take_token (λ t. pure (StepSetForm.all t.place)))) (λ d. kinds d k.True) set_goes depth
all-steps depth =
    closed-correct (HeadIs k.True) (step.◌>>=◌ take_token (λ t. pure (StepSetForm.all t.place))) (λ d. kinds d k.True)
    depth (leaf-correct k.True (λ t. StepSetForm.all t.place) depth refl)

names : (depth : ℕ) → Correct (HeadIs k.Name) (step.◌>>=◌ (instance depth) (λ found. pure (set_of found))) (λ d. kinds d k.Name) set_goes depth
names depth =
    said-correct IsInstance (λ found. set_of found) set_goes depth (HeadIs k.Name) (instance depth)
    (anywhere (HeadIs k.Name) (instance depth) IsInstance set_goes depth (instance-correct depth))

abbrev begun-last : Kind → Step StepSetForm
begun-last = set_begun (refuse Limit) (refuse Limit) (refuse Limit) (instance 0)

at-last : (kind : Kind) → Answering (HeadIs kind) (begun-last kind) (λ d. kinds d kind) set_goes 0 ⊎ Nowhere (begun-last kind) (λ d. kinds d kind)
at-last k.True = inl (all-steps 0).answers
at-last k.Name = inl (names 0).answers
at-last k.Not =
    inl (λ s end h. refused-here (λ d. kinds d k.Not) set_goes 0 s Limit end (λ q. head-limited k.Not s.tokens h refl)
    (λ d n t tail y w head within r over. no-level-not d (st (t ∷ tail) n) y w within.0 r)
    (λ t is. goes-free (λ d. kinds d k.Not) 1 (suc s.operators) (t ∷ []) (free-not t (is ∙ head-kind-is k.Not s.tokens h))))
at-last k.Open =
    inl (λ s end h. refused-here (λ d. kinds d k.Open) set_goes 0 s Limit end (λ q. head-limited k.Open s.tokens h refl)
    (λ d n t tail y w head within r over. no-level-open d (st (t ∷ tail) n) y w within.0 r)
    (λ t is. goes-free (λ d. kinds d k.Open) 1 (suc s.operators) (t ∷ []) (free-bracket t (is ∙ head-kind-is k.Open s.tokens h))))
at-last kind = inr nothing-correct

set-last : Correct Always (set 0) IsSet set_goes 0
unfolding set
set-last =
    alike-correct Always (set 0) (λ d. First (kinds d)) IsSet set_goes 0 to-set from-set
    (first-correct kinds set_goes 0 starts begun-last at-last k.True (readable-true 0) (readable-true 1))

sets-close : sets_go k.Close ≡ false
unfolding same_kind
sets-close = refl

module _ (depth : ℕ) (right-set : Correct Always (set depth) IsSet set_goes depth) (right-sets : Correct Always (step_set depth) IsStepSet sets_go depth) where
  abbrev begun-over : Kind → Step StepSetForm
  begun-over = set_begun take_token (set depth) (step_set depth) (instance (suc depth))

  complemented : Correct (HeadIs k.Not) (begun-over k.Not) (λ d. kinds d k.Not) set_goes (suc depth)
  complemented =
      then-plain (λ d. One k.Not) (λ sign d. grammar.◌>>=◌ (deeper IsSet d) (λ operand. Is (StepSetForm.complement sign.place operand))) set_goes (suc depth) (HeadIs k.Not) take_token
      (λ sign. step.◌>>=◌ (set depth) (λ operand. pure (StepSetForm.complement sign.place operand))) (take-correct k.Not (suc depth) refl)
      (λ sign. said-correct (deeper IsSet) (λ operand. StepSetForm.complement sign.place operand) set_goes (suc depth)
      Always (set depth) (deeper-correct Always (set depth) IsSet set_goes depth right-set))

  bracketed : Correct (HeadIs k.Open) (begun-over k.Open) (λ d. kinds d k.Open) set_goes (suc depth)
  bracketed =
      closed-correct (HeadIs k.Open) _ (λ d. kinds d k.Open) (suc depth)
      (then-plain (λ d. One k.Open) (λ open_bracket d. grammar.◌>>=◌ (deeper IsStepSet d) (λ inner. grammar.◌>>=◌ (One k.Close) (λ close_bracket. Is inner))) never (suc depth)
      (HeadIs k.Open) take_token
      (λ open_bracket. step.◌>>=◌ (step_set depth)
      (λ inner. step.◌>>=◌ (expect k.Close) (λ close_bracket. pure inner))) (take-correct k.Open (suc depth) refl) (λ open_bracket.
      then-correct (deeper IsStepSet) (λ inner d. grammar.◌>>=◌ (One k.Close) (λ close_bracket. Is inner)) sets_go never (suc depth)
      (λ d x m y z r over. stops-at-kind sets_go k.Close sets-close m.tokens r.1.tokens r.0 r.2.0 r.2.1) Always
      (step_set depth) _ (deeper-correct Always (step_set depth) IsStepSet sets_go depth right-sets) (λ inner.
      anywhere (Stops sets_go) _ (λ d. grammar.◌>>=◌ (One k.Close) (λ close_bracket. Is inner)) never (suc depth) (
      then-plain (λ d. One k.Close) (λ close_bracket d. Is inner) never (suc depth) Always (expect k.Close) (λ close_bracket. pure inner) (expect-correct k.Close (suc depth) refl)
      (λ close_bracket. is-correct inner (suc depth))))))

  at-each : (kind : Kind) → Answering (HeadIs kind) (begun-over kind) (λ d. kinds d kind) set_goes (suc depth) ⊎ Nowhere (begun-over kind) (λ d. kinds d kind)
  at-each k.True = inl (all-steps (suc depth)).answers
  at-each k.Name = inl (names (suc depth)).answers
  at-each k.Not = inl complemented.answers
  at-each k.Open = inl bracketed.answers
  at-each kind = inr nothing-correct

  set-over : Correct Always (set (suc depth)) IsSet set_goes (suc depth)
  unfolding set
  set-over =
      alike-correct Always (set (suc depth)) (λ d. First (kinds d)) IsSet set_goes (suc depth) to-set from-set
      (first-correct kinds set_goes (suc depth) starts begun-over at-each k.True
      (readable-true (suc depth)) (readable-true (suc (suc depth))))

-- ---- sets with `||` between them

or-apart : set_goes k.Or ≡ false
unfolding same_kind
or-apart = refl

as-opened : (depth : ℕ) (s : State) (o : Outcome StepSetForm) → Answers IsSet set_goes depth s o → AnswersOpen IsSet IsSet set_goes sets_go depth s o
as-opened depth s (Ok r) a = record {
  front = a.front;
  used = a.used;
  tokens = a.tokens;
  operators = a.operators;
  stops = a.stops;
  ended = a.ended;
  reads = a.reads;
  closes = λ pass after. a.reads after;
  only_open = λ d n after y w like r over. a.only d n after y w like.stops r (stops-less set_goes is_or w.tokens over);
  only_closed = λ d n after y w like r over. a.only d n after y w like.stops r over;
  one_more = a.one_more;
  one_more_closed = λ pass after. a.one_more after;
}
as-opened depth s (Err bad) a = record {
  front = a.front;
  next = a.next;
  more_tokens = a.more;
  tokens = a.tokens;
  kind = a.kind;
  place = a.place;
  limited = a.limited;
  none_open = λ d n tail y w inside r over. a.none d n tail y w inside r (stops-less set_goes is_or w.tokens over);
  none_closed = λ d n tail y w inside r over. a.none d n tail y w inside r over;
  goes_on = a.goes_on;
  first = a.first;
}

unions-correct : (depth : ℕ) (p : Step StepSetForm) → Correct Always p IsSet set_goes depth → Correct Always (union p) IsStepSet sets_go depth
unions-correct depth p right =
    alike-correct Always (union p) unions IsStepSet sets_go depth to-sets from-sets
    (record { answers = λ s ended u. top-correct unions unions sets_go depth s (union p s) (chains.answers s ended); here = chains.here; some = chains.some })
  where
    operands : CorrectOpen p IsSet IsSet set_goes sets_go depth
    operands = record { answers = λ s ended. as-opened depth s (p s) (right.answers s ended tt); here = right.here; some = right.some }

    chains : CorrectOpen (union p) unions unions sets_go sets_go depth
    chains = open-chains-correct k.Or united_by IsSet IsSet set_goes sets_go depth or-apart refl refl (λ kind h. or_right (set_goes kind) (is_or kind) h) p operands

record AreCorrect (depth : ℕ) : Type 0 where
  one : Correct Always (set depth) IsSet set_goes depth
  several : Correct Always (step_set depth) IsStepSet sets_go depth

sets-last : Correct Always (step_set 0) IsStepSet sets_go 0
unfolding set step_set
sets-last = unions-correct 0 (set 0) set-last

sets-over : (depth : ℕ) → Correct Always (set (suc depth)) IsSet set_goes (suc depth) → Correct Always (step_set (suc depth)) IsStepSet sets_go (suc depth)
unfolding set step_set
sets-over depth right = unions-correct (suc depth) (set (suc depth)) right

both-correct : (depth : ℕ) → AreCorrect depth
both-correct zero = record { one = set-last; several = sets-last }
both-correct (suc depth) =
    let less = both-correct depth in
    let one = set-over depth less.one less.several in
    record { one = one; several = sets-over depth one }

pub step_set-correct : (depth : ℕ) → Correct Always (step_set depth) IsStepSet sets_go depth
step_set-correct depth = (both-correct depth).several
