-- A level whose last operand may be a quantifier, and the three levels of connectives over it.
use Rattle.std.proofs.Common.{◌≡◌, ℕ, suc, ◌+◌, Bool, true, false, cond, if◌then◌else◌, ◌||◌, inl, inr, List, [], ◌∷◌, ◌++◌, refl, ap, ◌∙◌, Ok, Err}
use Rattle.std.proofs.lemmas.Bool.{or_from, or_parts}
use Rattle.std.proofs.Math.Bool.{or-true}
use Rattle.pb_text_lexer.specs.declared.kind.Kind.{Kind}
use Rattle.pb_text_lexer.specs.declared.kind.Kind.TheVariants.{And, Or, Implies}
use Rattle.pb_text_lexer.specs.declared.fault.Refusal.{Refusal}
use Rattle.pb_text_lexer.specs.Kinds.{same_kind}
use Rattle.pb_text_lexer.specs.Tokens.{Tok}
use Rattle.pb_text_lexer.specs.Grammar.{State, WithinLimits, going_on}
use Rattle.pb_text_lexer.specs.OpenGrammar.{Either, Conjunction, Disjunction, Implication, Connected}
use Rattle.pb_text_lexer.specs.Steps.{ends, head_kind, Step, Outcome, kind, either, conjunction, disjunction, connected}
use Rattle.pb_text_lexer.proofs.Correct.{st, Family, Stops, free-to, goes-to, reaches-to, Took, Refused, Answers, Answering, Correct}
use Rattle.pb_text_lexer.proofs.CorrectSeries.{going, Passes, passes-is}
use Rattle.pb_text_lexer.proofs.CorrectChained.{is_symbol, Like, Opened, RefusedOpen, AnswersOpen, CorrectOpen, open-chains-correct}

-- ---- the lowest level: an operand, or a quantifier, by the first token

abbrev pub Not : (Kind → Bool) → Kind → Bool
Not test k = if◌then◌else◌ (test k) false true

pub both-ways : (test : Kind → Bool) (ts : List Tok) → Passes test ts → Passes (Not test) ts → ⊥
both-ways test [] h e = h
both-ways test (t ∷ ts) h e = let p : Not test t.kind ≡ false = ap (λ b. if◌then◌else◌ b false true) h in cc

module _ {X : Type 0} (node quant : Family X) (g conn is_quant : Kind → Bool) (depth : ℕ) (less : (k : Kind) → conn k ≡ false → g k ≡ false)
    (node-starts : (d : ℕ) (s : State) (y : X) (z : State) → node d s y z → Passes (Not is_quant) s.tokens)
    (quant-starts : (d : ℕ) (s : State) (y : X) (z : State) → quant d s y z → Passes is_quant s.tokens) where
  abbrev pub both : Family X
  both d = Either (node d) (quant d)

  left : (d : ℕ) (s : State) (x : X) (z : State) → node d s x z → both d s x z
  left d s x z r = inl r

  right : (d : ℕ) (s : State) (x : X) (z : State) → quant d s x z → both d s x z
  right d s x z r = inr r

  stops-too : (ts : List Tok) → Stops conn ts → Stops g ts
  stops-too [] h = refl
  stops-too (t ∷ ts) h = less t.kind h

  quant-opened : (s : State) (x : X) (z : State) → Took quant conn depth s x z → Opened both node g conn depth s x z
  quant-opened s x z a = record {
    front = a.front;
    used = a.used;
    tokens = a.tokens;
    operators = a.operators;
    stops = stops-too z.tokens a.stops;
    ended = a.ended;
    reads = λ after. inr (a.reads after);
    closes = λ pass after. absurd (conflict z.tokens pass a.stops);
    only_open = λ d n after y w like r over. at d n after y w like r over;
    only_closed = λ d n after y w like r over. absurd (both-ways is_quant _ (begins after) (node-starts d _ y w r));
    one_more = λ after. inr (a.one_more after);
    one_more_closed = λ pass after. absurd (conflict z.tokens pass a.stops);
  }
    where
      conflict : (ts : List Tok) → Passes conn ts → Stops conn ts → ⊥
      conflict [] h e = h
      conflict (t ∷ ts) h e = cc

      begins : (after : List Tok) → Passes is_quant (a.front ++ after)
      begins after = quant-starts depth (st (a.front ++ after) s.operators) x (st after z.operators) (a.reads after)

      at : (d n : ℕ) (after : List Tok) (y : X) (w : State) → Like g conn z.tokens after → both d (st (a.front ++ after) n) y w → Stops conn w.tokens
          → (y ≡ x) × (w.tokens ≡ after) × (n ≡ a.used + w.operators)
      at d n after y w like (inl r) over = absurd (both-ways is_quant _ (begins after) (node-starts d _ y w r))
      at d n after y w like (inr r) over = a.only d n after y w (like.fits a.stops) r over

  node-opened : (s : State) (x : X) (z : State) → Took node g depth s x z → Opened both node g conn depth s x z
  node-opened s x z a = record {
    front = a.front;
    used = a.used;
    tokens = a.tokens;
    operators = a.operators;
    stops = a.stops;
    ended = a.ended;
    reads = λ after. inl (a.reads after);
    closes = λ pass after. a.reads after;
    only_open = λ d n after y w like r over. at d n after y w like.stops r (stops-too w.tokens over);
    only_closed = λ d n after y w like r over. a.only d n after y w like.stops r over;
    one_more = λ after. inl (a.one_more after);
    one_more_closed = λ pass after. a.one_more after;
  }
    where
      begins : (after : List Tok) → Passes (Not is_quant) (a.front ++ after)
      begins after = node-starts depth (st (a.front ++ after) s.operators) x (st after z.operators) (a.reads after)

      at : (d n : ℕ) (after : List Tok) (y : X) (w : State) → Stops g after → both d (st (a.front ++ after) n) y w → Stops g w.tokens
          → (y ≡ x) × (w.tokens ≡ after) × (n ≡ a.used + w.operators)
      at d n after y w stop (inl r) over = a.only d n after y w stop r over
      at d n after y w stop (inr r) over = absurd (both-ways is_quant _ (quant-starts d _ y w r) (begins after))

  quant-refused : (s : State) (bad : Refusal) → Passes is_quant s.tokens → Refused quant conn depth s bad → RefusedOpen both node g conn depth s bad
  quant-refused s bad head a = record {
    front = a.front;
    next = a.next;
    more_tokens = a.more;
    tokens = a.tokens;
    kind = a.kind;
    place = a.place;
    limited = a.limited;
    none_open = λ d n tail y w inside r over. at d n tail y w inside r over;
    none_closed = λ d n tail y w inside r over. both-ways is_quant _ (begins tail) (node-starts d _ y w r);
    goes_on = goes-to quant both (λ v. v) (suc depth) (suc depth) (suc s.operators) (right (suc depth)) (a.front ++ going_on bad.rule a.next) a.goes_on;
    first = reaches-to quant both (λ v. v) depth depth s.operators (right depth) a.front a.first;
  }
    where
      begins : (tail : List Tok) → Passes is_quant (a.front ++ a.next ∷ tail)
      begins tail = passes-is is_quant a.front a.next a.more tail s.tokens a.tokens head

      at : (d n : ℕ) (tail : List Tok) (y : X) (w : State) → WithinLimits bad.rule depth s.operators d n → both d (st (a.front ++ a.next ∷ tail) n) y w → Stops conn w.tokens → ⊥
      at d n tail y w inside (inl r) over = both-ways is_quant _ (begins tail) (node-starts d _ y w r)
      at d n tail y w inside (inr r) over = a.none d n tail y w inside r over

  node-refused : (s : State) (bad : Refusal) → Passes (Not is_quant) s.tokens → Refused node g depth s bad → RefusedOpen both node g conn depth s bad
  node-refused s bad head a = record {
    front = a.front;
    next = a.next;
    more_tokens = a.more;
    tokens = a.tokens;
    kind = a.kind;
    place = a.place;
    limited = a.limited;
    none_open = λ d n tail y w inside r over. at d n tail y w inside r (stops-too w.tokens over);
    none_closed = λ d n tail y w inside r over. a.none d n tail y w inside r over;
    goes_on = goes-to node both (λ v. v) (suc depth) (suc depth) (suc s.operators) (left (suc depth)) (a.front ++ going_on bad.rule a.next) a.goes_on;
    first = reaches-to node both (λ v. v) depth depth s.operators (left depth) a.front a.first;
  }
    where
      begins : (tail : List Tok) → Passes (Not is_quant) (a.front ++ a.next ∷ tail)
      begins tail = passes-is (Not is_quant) a.front a.next a.more tail s.tokens a.tokens head

      at : (d n : ℕ) (tail : List Tok) (y : X) (w : State) → WithinLimits bad.rule depth s.operators d n → both d (st (a.front ++ a.next ∷ tail) n) y w → Stops g w.tokens → ⊥
      at d n tail y w inside (inl r) over = a.none d n tail y w inside r over
      at d n tail y w inside (inr r) over = both-ways is_quant _ (quant-starts d _ y w r) (begins tail)

  pub either-correct : (n q : Step X) → Correct (λ ts. Unit {0}) n node g depth → Answering (Passes is_quant) q quant conn depth
      → CorrectOpen (either is_quant n q) both node g conn depth
  either-correct n q right-n right-q = record {
    answers = λ s ended. at s ended (is_quant (kind s)) refl;
    here = free-to node both (λ v. v) depth depth (left depth) [] right-n.here;
    some = free-to node both (λ v. v) (suc depth) (suc depth) (left (suc depth)) [] right-n.some;
  }
    where
      as-node : (s : State) (o : Outcome X) → Passes (Not is_quant) s.tokens → Answers node g depth s o → AnswersOpen both node g conn depth s o
      as-node s (Ok r) h a = node-opened s r.0 r.1 a
      as-node s (Err bad) h a = node-refused s bad h a

      as-quant : (s : State) (o : Outcome X) → Passes is_quant s.tokens → Answers quant conn depth s o → AnswersOpen both node g conn depth s o
      as-quant s (Ok r) h a = quant-opened s r.0 r.1 a
      as-quant s (Err bad) h a = quant-refused s bad h a

      passes : (test : Kind → Bool) (ts : List Tok) → ends ts ≡ true → test (head_kind ts) ≡ true → Passes test ts
      passes test [] e h = cc
      passes test (t ∷ ts) e h = h

      at : (s : State) → ends s.tokens ≡ true → (b : Bool) → is_quant (kind s) ≡ b → AnswersOpen both node g conn depth s (cond b (q s) (n s))
      at s ended true h = let head = passes is_quant s.tokens ended h in as-quant s (q s) head (right-q s ended head)
      at s ended false h = as-node s (n s) (passes (Not is_quant) s.tokens ended (ap (λ b. if◌then◌else◌ b false true) h)) (right-n.answers s ended tt)

-- At the top all connectives are what goes on with a chain, and an open level is read as any other.
pub top-correct : {X : Type 0} (famO famC : Family X) (g : Kind → Bool) (depth : ℕ) (s : State) (o : Outcome X) → AnswersOpen famO famC g g depth s o → Answers famO g depth s o
top-correct famO famC g depth s (Ok r) a = record {
  front = a.front;
  used = a.used;
  tokens = a.tokens;
  operators = a.operators;
  stops = a.stops;
  ended = a.ended;
  reads = a.reads;
  only = λ d n after y w stop q over. a.only_open d n after y w (record { stops = stop; fits = λ h. stop }) q over;
  one_more = a.one_more;
}
top-correct famO famC g depth s (Err bad) a = record {
  front = a.front;
  next = a.next;
  more = a.more_tokens;
  tokens = a.tokens;
  kind = a.kind;
  place = a.place;
  limited = a.limited;
  none = a.none_open;
  goes_on = a.goes_on;
  first = a.first;
}

-- ---- the three levels

-- what goes on with the connectives over a level with which g goes on
abbrev pub connects : (Kind → Bool) → Kind → Bool
connects g = going (going (going g (is_symbol And)) (is_symbol Or)) (is_symbol Implies)

-- none of the connectives goes on with what stands below them
pub record IsBelow (g : Kind → Bool) : Type 0 where
  pub conjunction : g And ≡ false
  pub disjunction : g Or ≡ false
  pub implication : g Implies ≡ false

module _ {X : Type 0} (join : Kind → X → Tok → X → X) (node quant : Family X) (g is_quant : Kind → Bool) (depth : ℕ) (below : IsBelow g)
    (node-starts : (d : ℕ) (s : State) (y : X) (z : State) → node d s y z → Passes (Not is_quant) s.tokens)
    (quant-starts : (d : ℕ) (s : State) (y : X) (z : State) → quant d s y z → Passes is_quant s.tokens) where
  less : (k : Kind) → connects g k ≡ false → g k ≡ false
  less k h = (or_parts (g k) _ (or_parts _ _ (or_parts _ _ h).0).0).0

  on-and : (k : Kind) → is_symbol And k ≡ true → connects g k ≡ true
  on-and k h = ap (λ v. ((g k || v) || is_symbol Or k) || is_symbol Implies k) h
      ∙ ap (λ v. (v || is_symbol Or k) || is_symbol Implies k) (or-true (g k))

  on-or : (k : Kind) → is_symbol Or k ≡ true → connects g k ≡ true
  on-or k h = ap (λ v. (going g (is_symbol And) k || v) || is_symbol Implies k) h ∙ ap (λ v. v || is_symbol Implies k) (or-true (going g (is_symbol And) k))

  on-implies : (k : Kind) → is_symbol Implies k ≡ true → connects g k ≡ true
  on-implies k h = ap (λ v. going (going g (is_symbol And)) (is_symbol Or) k || v) h ∙ or-true (going (going g (is_symbol And)) (is_symbol Or) k)

  or-apart : going g (is_symbol And) Or ≡ false
  unfolding same_kind
  or-apart = or_from (g Or) false below.disjunction refl

  implies-apart : going (going g (is_symbol And)) (is_symbol Or) Implies ≡ false
  unfolding same_kind
  implies-apart = or_from (going g (is_symbol And) Implies) false (or_from (g Implies) false below.implication refl) refl

  -- three levels over a node and a quantifier
  pub connected-correct : (n q : Step X) → Correct (λ ts. Unit {0}) n node g depth → Answering (Passes is_quant) q quant (connects g) depth
      → Correct (λ ts. Unit {0}) (connected join is_quant n q) (λ d. Connected join (node d) (quant d)) (connects g) depth
  connected-correct n q right-n right-q = record {
    answers = λ s ended u.
        top-correct (λ d. Connected join (node d) (quant d)) (λ d. Implication join (node d) (node d)) (connects g) depth s (connected join is_quant n q s) (implications.answers s ended);
    here = implications.here;
    some = implications.some;
  }
    where
      lowest : CorrectOpen (either is_quant n q) (λ d. Either (node d) (quant d)) node g (connects g) depth
      lowest = either-correct node quant g (connects g) is_quant depth less node-starts quant-starts n q right-n right-q

      conjunctions : CorrectOpen (conjunction join (either is_quant n q)) (λ d. Conjunction join (node d) (Either (node d) (quant d))) (λ d. Conjunction join (node d) (node d))
          (going g (is_symbol And)) (connects g) depth
      conjunctions = open-chains-correct And (join And) node (λ d. Either (node d) (quant d)) g (connects g) depth below.conjunction refl refl on-and
          (either is_quant n q) lowest

      disjunctions : CorrectOpen (disjunction join (either is_quant n q)) (λ d. Disjunction join (node d) (Either (node d) (quant d))) (λ d. Disjunction join (node d) (node d))
          (going (going g (is_symbol And)) (is_symbol Or)) (connects g) depth
      disjunctions = open-chains-correct Or (join Or) (λ d. Conjunction join (node d) (node d)) (λ d. Conjunction join (node d) (Either (node d) (quant d)))
          (going g (is_symbol And)) (connects g) depth or-apart refl refl on-or
          (conjunction join (either is_quant n q)) conjunctions

      implications : CorrectOpen (connected join is_quant n q) (λ d. Connected join (node d) (quant d)) (λ d. Implication join (node d) (node d)) (connects g) (connects g) depth
      implications = open-chains-correct Implies (join Implies) (λ d. Disjunction join (node d) (node d)) (λ d. Disjunction join (node d) (Either (node d) (quant d)))
          (going (going g (is_symbol And)) (is_symbol Or)) (connects g) depth implies-apart refl refl on-implies
          (disjunction join (either is_quant n q)) disjunctions
