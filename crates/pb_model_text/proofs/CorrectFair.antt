-- The sets of `fair` are read rightly.
use Rattle.std.specs.Prelude.{codes}
use Rattle.std.proofs.Common.{◌≡◌, ℕ, zero, suc, Bool, true, false, cond, List, [], ◌∷◌, refl, sym, ◌∙◌, ap, subst, inl, inr}
use Rattle.pb_text_lexer.specs.declared.fault.ReadingRule.TheVariants.{Unexpected}
use Rattle.pb_text_lexer.specs.declared.kind.Kind.{Kind}
use Rattle.pb_text_lexer.specs.declared.kind.Kind.TheVariants as k
use Rattle.pb_text_lexer.specs.Kinds.{same_kind}
use Rattle.pb_text_lexer.proofs.TokenLemmas.{kind-same, same-kind}
use Rattle.pb_text_lexer.specs.Grammar.{State, Is, One}
use Rattle.pb_text_lexer.specs.Grammar as grammar
use Rattle.pb_text_lexer.specs.Steps.{ends, Step, pure, take_token, refuse, expect, kind, head_kind, extended}
use Rattle.pb_text_lexer.specs.Steps as step
use Rattle.pb_text_lexer.specs.Tokens.{Tok}
use Rattle.pb_text_lexer.proofs.Correct.{st, Family, Stops, never, Free, free-to, free-then, free-one, goes-free, unlike, Answers, Correct, then-correct, pure-correct, refused-here, HeadIs, take-correct, expect-correct}
use Rattle.pb_text_lexer.proofs.CorrectFamilies.{deeper, deeper-correct, alike-correct}
use Rattle.pb_text_lexer.proofs.CorrectSeries.{going, Passes, stops-less, passes-at}
use Rattle.pb_text_lexer.proofs.CorrectPlain.{Always, anywhere, then-plain, is-correct}
use Rattle.pb_text_lexer.proofs.CorrectLeft.{unless_next-correct, extended-correct}
use Rattle.pb_text_terms.specs.Reading.{is_comma, is_open}
use Rattle.pb_text_terms.proofs.CorrectVariable.{said-correct, stops-at-kind}
use Rattle.pb_protocol_tree.specs.Form.{StepSetForm}
use Rattle.pb_model_text.specs.Words.{fairly_of}
use Rattle.pb_model_text.specs.Grammar.{Word, IsStepSet, Others, most_others, IsProcesses}
use Rattle.pb_model_text.specs.Reading.{take_word, step_set, other_sets, processes_behind, processes}
use Rattle.pb_model_text.proofs.CorrectWords.{HasWord, word-correct}
use Rattle.pb_model_text.proofs.CorrectStepSets.{sets_go, step_set-correct}

-- what goes on with sets behind commas
abbrev sets_on : Kind → Bool
sets_on = going sets_go is_comma

comma-apart : (kind : Kind) → is_comma kind ≡ true → sets_go kind ≡ false
unfolding same_kind
comma-apart k.Comma h = refl
comma-apart _ h = cc

sets-close : sets_on k.Close ≡ false
unfolding same_kind
sets-close = refl

fairly-word : HasWord fairly_of
fairly-word = record { text = codes "inevitably"; word = tt; tells = refl }

abbrev others : ℕ → Family (List StepSetForm)
others n d = Others n (deeper IsStepSet d)

abbrev closing : {X : Type 0} → X → Family X
closing x d = grammar.◌>>=◌ (One k.Close) (λ close_bracket. grammar.◌>>=◌ (Word fairly_of) (λ word. Is x))

-- behind a comma
abbrev further : ℕ → StepSetForm → Family (List StepSetForm)
further n first d = grammar.◌>>=◌ (others n d) (λ xs. Is (first ∷ xs))

abbrev sets_behind : ℕ → Family (List StepSetForm)
sets_behind n d = grammar.◌>>=◌ (deeper IsStepSet d) (λ first. further n first d)

abbrev beyond : ℕ → List StepSetForm → Family (List StepSetForm)
beyond n none d = grammar.◌>>=◌ (One k.Comma) (λ comma. sets_behind n d)

beyond-starts : (n d : ℕ) (x : List StepSetForm) (m : State) (y : List StepSetForm) (z : State) → beyond n x d m y z → Passes is_comma m.tokens
beyond-starts n d x m y z r = passes-at is_comma m.tokens r.1.tokens r.0 r.2.0 (ap is_comma r.2.1 ∙ same-kind k.Comma)

stops-moved : (m z : State) → z ≡ m → Stops sets_on z.tokens → Stops sets_go m.tokens
stops-moved m z e over = stops-less sets_go is_comma m.tokens (subst (λ (v : State). Stops sets_on v.tokens) e over)

others-follow : (n d : ℕ) (m : State) (y : List StepSetForm) (z : State) → others n d m y z → Stops sets_on z.tokens → Stops sets_go m.tokens
others-follow zero d m y z r over = stops-moved m z r.1 over
others-follow (suc n) d m y z (inl r) over = stops-moved m z r.1 over
others-follow (suc n) d m y z (inr r) over =
    let at : beyond n r.0 d r.1 y z = r.3 in
    let same : r.1 ≡ m = r.2.1 in
    subst (λ (v : State). Stops sets_go v.tokens) same (stops-at-kind sets_go k.Comma (comma-apart k.Comma (same-kind k.Comma)) r.1.tokens at.1.tokens at.0 at.2.0 at.2.1)

comma-head : (ts : List Tok) → Passes is_comma ts → HeadIs k.Comma ts
comma-head [] h = absurd h
comma-head (t ∷ ts) h = kind-same t.kind k.Comma h

module _ (depth : ℕ) where
  some-sets : Correct Always (step_set depth) (deeper IsStepSet) sets_go (suc depth)
  some-sets = deeper-correct Always (step_set depth) IsStepSet sets_go depth (step_set-correct depth)

  -- so many sets behind commas
  abbrev AreOthers : ℕ → Type 0
  AreOthers n = Correct (Stops sets_go) (other_sets n (step_set depth)) (others n) sets_on (suc depth)

  abbrev after_set : ℕ → StepSetForm → Step (List StepSetForm)
  after_set n first = step.◌>>=◌ (other_sets n (step_set depth)) (λ xs. pure (first ∷ xs))

  abbrev after_comma : ℕ → Tok → Step (List StepSetForm)
  after_comma n comma = step.◌>>=◌ (step_set depth) (after_set n)

  behind-comma : (n : ℕ) → AreOthers n → Correct Always (step.◌>>=◌ (step_set depth) (after_set n)) (sets_behind n) sets_on (suc depth)
  behind-comma n right =
      then-correct (deeper IsStepSet) (further n) sets_go sets_on (suc depth)
      (λ d x m y z r over. others-follow n d m r.0 r.1 r.2 (subst (λ (v : State). Stops sets_on v.tokens) r.3.1 over))
      Always (step_set depth) (after_set n) some-sets (λ first. said-correct (others n) (λ xs. first ∷ xs) sets_on (suc depth) (Stops sets_go) (other_sets n (step_set depth)) right)

  comma-correct : (n : ℕ) → AreOthers n → Correct (HeadIs k.Comma) (step.◌>>=◌ take_token (after_comma n)) (beyond n []) sets_on (suc depth)
  comma-correct n right =
      then-plain (λ d. One k.Comma) (λ comma d. sets_behind n d) sets_on (suc depth) (HeadIs k.Comma) take_token (after_comma n) (take-correct k.Comma (suc depth) refl) (λ comma. behind-comma n right)

  others-correct : (n : ℕ) → AreOthers n
  unfolding other_sets
  others-correct zero = unless_next-correct (λ d. Is []) sets_go is_comma (suc depth) (Stops sets_go) (pure []) (pure-correct [] sets_go (suc depth))
  others-correct (suc n) =
      let right = others-correct n in
      extended-correct (λ d. Is []) (beyond n) sets_go is_comma (suc depth) comma-apart (beyond-starts n) (Stops sets_go) (pure []) (pure-correct [] sets_go (suc depth))
      (λ none. step.◌>>=◌ take_token (after_comma n)) (λ none s end h. (comma-correct n right).answers s end (comma-head s.tokens h))

  -- behind the bracket
  abbrev lasts : StepSetForm → Family (StepSetForm × List StepSetForm)
  lasts first d = grammar.◌>>=◌ (others most_others d) (λ xs. closing (first, xs) d)

  abbrev behinds : Family (StepSetForm × List StepSetForm)
  behinds d = grammar.◌>>=◌ (deeper IsStepSet d) (λ first. lasts first d)

  closing-correct : {X : Type 0} (x : X) → Correct Always (step.◌>>=◌ (expect k.Close) (λ close_bracket. step.◌>>=◌ (take_word fairly_of) (λ word. pure x))) (closing x) never (suc depth)
  closing-correct x =
      then-plain (λ d. One k.Close) (λ close_bracket d. grammar.◌>>=◌ (Word fairly_of) (λ word. Is x)) never (suc depth)
      Always (expect k.Close) _ (expect-correct k.Close (suc depth) refl) (λ close_bracket.
      then-plain (λ d. Word fairly_of) (λ word d. Is x) never (suc depth) Always (take_word fairly_of) (λ word. pure x)
      (word-correct fairly_of fairly-word (suc depth)) (λ word. is-correct x (suc depth)))

  closed-stops : {X : Type 0} (x : X) (d : ℕ) (m : State) (y : X) (z : State) → closing x d m y z → Stops sets_on m.tokens
  closed-stops x d m y z r = stops-at-kind sets_on k.Close sets-close m.tokens r.1.tokens r.0 r.2.0 r.2.1

  behinds-correct : Correct Always (processes_behind (step_set depth)) behinds never (suc depth)
  behinds-correct =
      then-correct (deeper IsStepSet) lasts sets_go never (suc depth)
      (λ d first m y z r over. others-follow most_others d m r.0 r.1 r.2 (closed-stops (first, r.0) d r.1 y z r.3))
      Always (step_set depth) _ some-sets (λ first.
      then-correct (others most_others) (λ xs d. closing (first, xs) d) sets_on never (suc depth) (λ d xs m y z r over. closed-stops (first, xs) d m y z r)
      (Stops sets_go) (other_sets most_others (step_set depth)) _ (others-correct most_others) (λ xs.
      anywhere (Stops sets_on) _ (closing (first, xs)) never (suc depth) (closing-correct (first, xs))))

  abbrev openeds : Family (StepSetForm × List StepSetForm)
  openeds d = grammar.◌>>=◌ (One k.Open) (λ open_bracket. behinds d)

  opened-correct : Correct (HeadIs k.Open) (step.◌>>=◌ take_token (λ open_bracket. processes_behind (step_set depth))) openeds never (suc depth)
  opened-correct =
      then-plain (λ d. One k.Open) (λ open_bracket d. behinds d) never (suc depth) (HeadIs k.Open) take_token (λ open_bracket. processes_behind (step_set depth)) (take-correct k.Open (suc depth) refl)
      (λ open_bracket. behinds-correct)

  to-processes : (d : ℕ) (s : State) (y : StepSetForm × List StepSetForm) (z : State) → openeds d s y z → IsProcesses d s y z
  to-processes zero s y z r = r.3.2
  to-processes (suc d) s y z r = r

  from-processes : (d : ℕ) (s : State) (y : StepSetForm × List StepSetForm) (z : State) → IsProcesses d s y z → openeds d s y z
  from-processes zero s y z r = absurd r
  from-processes (suc d) s y z r = r

  bracket-correct : Correct (HeadIs k.Open) (step.◌>>=◌ take_token (λ open_bracket. processes_behind (step_set depth))) IsProcesses never (suc depth)
  bracket-correct = alike-correct (HeadIs k.Open) _ openeds IsProcesses never (suc depth) to-processes from-processes opened-correct

  -- with a bracket it is free to go on
  pub free-bracket : (t : Tok) → t.kind ≡ k.Open → Free IsProcesses (suc depth) (t ∷ [])
  free-bracket t is =
      free-to openeds IsProcesses (λ v. v) (suc depth) (suc depth) (to-processes (suc depth)) (t ∷ [])
      (free-then (λ d. One k.Open) (λ open_bracket d. behinds d) (suc depth) (t ∷ []) (free-one k.Open (suc depth) t is) (λ open_bracket. behinds-correct.here))

open-head : (ts : List Tok) → ends ts ≡ true → is_open (head_kind ts) ≡ true → HeadIs k.Open ts
open-head [] end h = cc
open-head (t ∷ ts) end h = kind-same t.kind k.Open h

-- no sets begin with another token
pub no-bracket : (d : ℕ) (t : Tok) (ts : List Tok) (n : ℕ) (kind : Kind) (y : StepSetForm × List StepSetForm) (z : State) → t.kind ≡ kind → is_open kind ≡ false → IsProcesses d (st (t ∷ ts) n) y z → ⊥
no-bracket zero t ts n kind y z is other r = r
no-bracket (suc d) t ts n kind y z is other r =
    let e = r.2.0 in let p : t ≡ r.0 = cc in
    let opens : kind ≡ k.Open = sym is ∙ ap (λ (v : Tok). v.kind) p ∙ r.2.1 in
    let on : is_open kind ≡ true = ap is_open opens ∙ same-kind k.Open in
    let no : true ≡ false = sym on ∙ other in cc

pub processes-correct : (depth : ℕ) → Correct Always (processes (suc depth)) IsProcesses never (suc depth)
unfolding processes
processes-correct depth = record {
  answers = λ s end u. tested s end (is_open (kind s)) refl;
  here = (bracket-correct depth).here;
  some = (bracket-correct depth).some;
}
  where
    tested : (s : State) → ends s.tokens ≡ true → (b : Bool) → is_open (kind s) ≡ b
        → Answers IsProcesses never (suc depth) s (cond b (step.◌>>=◌ take_token (λ open_bracket. processes_behind (step_set depth))) (refuse Unexpected) s)
    tested s end true same = (bracket-correct depth).answers s end (open-head s.tokens end same)
    tested s end false same =
        refused-here IsProcesses never (suc depth) s Unexpected end (λ q. absurd (unlike q))
        (λ d n t tail y w head within r over. no-bracket d t tail n (kind s) y w head same r)
        (λ t is. goes-free IsProcesses (suc (suc depth)) (suc s.operators) [] (bracket-correct depth).some)
