-- What is read by the next token is read rightly: more behind a thing, nothing behind it, one of two.
use Rattle.std.proofs.Common.{◌≡◌, ℕ, suc, ◌+◌, Bool, true, false, cond, ◌||◌, inl, inr, List, [], ◌∷◌, ◌++◌, refl, sym, ◌∙◌, append_assoc, Ok, Err}
use Rattle.std.proofs.lemmas.Bool.{or_from}
use Rattle.pb_text_lexer.specs.declared.kind.Kind.{Kind}
use Rattle.pb_text_lexer.specs.declared.fault.ReadingRule.TheVariants.{Unexpected}
use Rattle.pb_text_lexer.specs.declared.fault.Refusal.{Refusal}
use Rattle.pb_text_lexer.specs.Tokens.{Tok}
use Rattle.pb_text_lexer.specs.Grammar.{State, WithinLimits, going_on, more}
use Rattle.pb_text_lexer.specs.Grammar as grammar
use Rattle.pb_text_lexer.specs.OpenGrammar.{Either}
use Rattle.pb_text_lexer.specs.LeftGrammar.{Extended}
use Rattle.pb_text_lexer.specs.Steps.{ends, head_kind, Step, Outcome, and_then, pure, peek, refuse, refusal, kind, extended, unless_next}
use Rattle.pb_text_lexer.specs.Steps as step
use Rattle.pb_text_lexer.proofs.Correct.{st, Family, Stops, free-to, goes-to, goes-then, goes-ended, reaches-to, reaches-read, reaches-append, Took, Refused, Answers, Answering, Correct, move, unlike, then-took, then-tokens, then-none}
use Rattle.pb_text_lexer.proofs.CorrectSeries.{going, Passes, stops-less, stops-at, goes-at, passes-move, passes-is}

-- ---- tests of the next token

pub head-passes : (test : Kind → Bool) (ts : List Tok) → ends ts ≡ true → test (head_kind ts) ≡ true → Passes test ts
head-passes test [] e same = cc
head-passes test (t ∷ ts) e same = same

passes-head : (test : Kind → Bool) (ts : List Tok) → Passes test ts → test (head_kind ts) ≡ true
passes-head test [] h = absurd h
passes-head test (t ∷ ts) h = h

head-stops : (g test : Kind → Bool) (ts : List Tok) → Stops g ts → test (head_kind ts) ≡ false → Stops (going g test) ts
head-stops g test [] h other = refl
head-stops g test (t ∷ ts) h other = or_from (g t.kind) _ h other

-- ---- a step behind which no token stands that passes the test

module _ {X : Type 0} (fam : Family X) (g test : Kind → Bool) (depth : ℕ) where
  stopped : (s : State) (x : X) (z : State) → Took fam g depth s x z → Stops (going g test) z.tokens → Took fam (going g test) depth s x z
  stopped s x z a stops = record {
    front = a.front;
    used = a.used;
    tokens = a.tokens;
    operators = a.operators;
    stops = stops;
    ended = a.ended;
    reads = a.reads;
    only = λ d n after y w stop r over. a.only d n after y w (stops-less g test after stop) r (stops-less g test w.tokens over);
    one_more = a.one_more;
  }

  next-refused : (s : State) (x : X) (ts : List Tok) (n : ℕ) → Took fam g depth s x (st ts n) → Passes test ts → Refused fam (going g test) depth s (refusal Unexpected ts)
  next-refused s x [] n a head = absurd head
  next-refused s x (t ∷ ts) n a head = record {
    front = a.front;
    next = t;
    more = ts;
    tokens = a.tokens;
    kind = refl;
    place = refl;
    limited = λ q. absurd (unlike q);
    none = λ d i tail y w within r over.
        let found = a.only d i (t ∷ tail) y w a.stops r (stops-less g test w.tokens over) in
        goes-at g test w.tokens (passes-move test w.tokens (t ∷ tail) found.1 head) over;
    goes_on = goes-ended fam (suc depth) (suc s.operators) (suc n) a.front x a.one_more;
    first = reaches-read fam depth s.operators n a.front x a.reads;
  }

  refused-more : (s : State) (bad : Refusal) → Refused fam g depth s bad → Refused fam (going g test) depth s bad
  refused-more s bad a = record {
    front = a.front;
    next = a.next;
    more = a.more;
    tokens = a.tokens;
    kind = a.kind;
    place = a.place;
    limited = a.limited;
    none = λ d n tail y w within r over. a.none d n tail y w within r (stops-less g test w.tokens over);
    goes_on = a.goes_on;
    first = a.first;
  }

  pub unless_next-answers : (P : List Tok → Type 0) (p : Step X) → Answering P p fam g depth → Answering P (unless_next test p) fam (going g test) depth
  unless_next-answers P p right s end pre = went s (p s) (right s end pre)
    where
      tested : (s : State) (x : X) (z : State) (b : Bool) → test (kind z) ≡ b → Took fam g depth s x z → Answers fam (going g test) depth s (cond b (refuse Unexpected) (pure x) z)
      tested s x z true same a = next-refused s x z.tokens z.operators a (head-passes test z.tokens a.ended same)
      tested s x z false same a = stopped s x z a (head-stops g test z.tokens a.stops same)

      went : (s : State) (o : Outcome X) → Answers fam g depth s o → Answers fam (going g test) depth s (and_then o (λ x. step.◌>>=◌ peek (λ k. cond (test k) (refuse Unexpected) (pure x))))
      went s (Ok r) a = tested s r.0 r.1 (test (kind r.1)) refl a
      went s (Err bad) a = refused-more s bad a

  pub unless_next-correct : (P : List Tok → Type 0) (p : Step X) → Correct P p fam g depth → Correct P (unless_next test p) fam (going g test) depth
  unless_next-correct P p right = record { answers = λ s end pre. unless_next-answers P p right.answers s end pre; here = right.here; some = right.some }

-- ---- a thing, and more where the test holds of the next token

module _ {X : Type 0} (item : Family X) (beyond : X → Family X) (g test : Kind → Bool) (depth : ℕ)
    (apart : (k : Kind) → test k ≡ true → g k ≡ false)
    (starts : (d : ℕ) (x : X) (m : State) (y : X) (z : State) → beyond x d m y z → Passes test m.tokens) where
  abbrev many : Family X
  many d = Extended (item d) (λ x. beyond x d)

  abbrev longer : Family X
  longer d = grammar.◌>>=◌ (item d) (λ x. beyond x d)

  alone : (d : ℕ) (s : State) (x : X) (z : State) → item d s x z → many d s x z
  alone d s x z r = inl r

  with-more : (d : ℕ) (s : State) (x : X) (z : State) → longer d s x z → many d s x z
  with-more d s x z r = inr r

  follow : (d : ℕ) (x : X) (m : State) (y : X) (z : State) → beyond x d m y z → Stops (going g test) z.tokens → Stops g m.tokens
  follow d x m y z r over = stops-at g test m.tokens apart (starts d x m y z r)

  -- where more follows, no item alone is what was read
  not-alone : (s s1 : State) (x : X) (a : Took item g depth s x s1) (d n : ℕ) (ts : List Tok) (y : X) (w : State)
      → Passes test ts → item d (st (a.front ++ ts) n) y w → Stops (going g test) w.tokens → ⊥
  not-alone s s1 x a d n ts y w head r over =
      let found = a.only d n ts y w (stops-at g test ts apart head) r (stops-less g test w.tokens over) in
      goes-at g test w.tokens (passes-move test w.tokens ts found.1 head) over

  more-took : (s s1 : State) (x y : X) (z : State) → Took item g depth s x s1 → Took (beyond x) (going g test) depth s1 y z → Took many (going g test) depth s y z
  unfolding then-took
  more-took s s1 x y z a b = record {
    front = t.front;
    used = t.used;
    tokens = t.tokens;
    operators = t.operators;
    stops = t.stops;
    ended = t.ended;
    reads = λ after. inr (t.reads after);
    only = λ d n after v w stop r over. only d n after v w stop r over;
    one_more = λ after. inr ((then-took item beyond g (going g test) depth follow s s1 x y z a b).one_more after);
  }
    where
      t : Took longer (going g test) depth s y z
      t = then-took item beyond g (going g test) depth follow s s1 x y z a b

      only : (d n : ℕ) (after : List Tok) (v : X) (w : State) → Stops (going g test) after
          → many d (st ((a.front ++ b.front) ++ after) n) v w → Stops (going g test) w.tokens
          → (v ≡ y) × (w.tokens ≡ after) × (n ≡ a.used + b.used + w.operators)
      only d n after v w stop (inr r) over = (then-took item beyond g (going g test) depth follow s s1 x y z a b).only d n after v w stop r over
      only d n after v w stop (inl r) over = absurd (not-alone s s1 x a d n (b.front ++ after) v w
          (starts depth x (st (b.front ++ after) s1.operators) y (st after z.operators) (b.reads after))
          (move (item d) _ _ n n v w (append_assoc a.front b.front after) refl r) over)

  more-refused : (s s1 : State) (x : X) (bad : Refusal) → Took item g depth s x s1 → Passes test s1.tokens
      → Refused (beyond x) (going g test) depth s1 bad → Refused many (going g test) depth s bad
  more-refused s s1 x bad a head b = record {
    front = a.front ++ b.front;
    next = b.next;
    more = b.more;
    tokens = then-tokens item beyond g (going g test) depth follow s s1 x bad a b;
    kind = b.kind;
    place = b.place;
    limited = b.limited;
    none = λ d n tail v w within r over. none d n tail v w within r over;
    goes_on = goes-to longer many (λ v. v) (suc depth) (suc depth) (suc s.operators) (with-more (suc depth)) ((a.front ++ b.front) ++ going_on bad.rule b.next)
        (goes-then item beyond (suc depth) a.front b.front (going_on bad.rule b.next) (suc s.operators) (suc s1.operators) x a.one_more b.goes_on);
    first = reaches-append many depth s.operators a.front b.front (reaches-read many depth s.operators s1.operators a.front x (λ after. inl (a.reads after)))
        (λ before behind t e lim.
        goes-to longer many (λ v. v) depth depth s.operators (with-more depth) ((a.front ++ before) ++ t ∷ [])
        (goes-then item beyond depth a.front before (t ∷ []) s.operators s1.operators x a.reads (b.first before behind t e lim)));
  }
    where
      none : (d n : ℕ) (tail : List Tok) (v : X) (w : State) → WithinLimits bad.rule depth s.operators d n
          → many d (st ((a.front ++ b.front) ++ b.next ∷ tail) n) v w → Stops (going g test) w.tokens → ⊥
      none d n tail v w within (inr r) over = then-none item beyond g (going g test) depth follow s s1 x bad a b d n tail v w within r over
      none d n tail v w within (inl r) over = not-alone s s1 x a d n (b.front ++ b.next ∷ tail) v w
          (passes-is test b.front b.next b.more tail s1.tokens b.tokens head)
          (move (item d) _ _ n n v w (append_assoc a.front b.front (b.next ∷ tail)) refl r) over

  item-refused : (s : State) (bad : Refusal) → Refused item g depth s bad → Refused many (going g test) depth s bad
  item-refused s bad a = record {
    front = a.front;
    next = a.next;
    more = a.more;
    tokens = a.tokens;
    kind = a.kind;
    place = a.place;
    limited = a.limited;
    none = λ d n tail v w within r over. none d n tail v w within r over;
    goes_on = goes-to item many (λ v. v) (suc depth) (suc depth) (suc s.operators) (alone (suc depth)) (a.front ++ going_on bad.rule a.next) a.goes_on;
    first = reaches-to item many (λ v. v) depth depth s.operators (alone depth) a.front a.first;
  }
    where
      none : (d n : ℕ) (tail : List Tok) (v : X) (w : State) → WithinLimits bad.rule depth s.operators d n
          → many d (st (a.front ++ a.next ∷ tail) n) v w → Stops (going g test) w.tokens → ⊥
      none d n tail v w within (inl r) over = a.none d n tail v w within r (stops-less g test w.tokens over)
      none d n tail v w within (inr r) over = a.none d n tail r.0 r.1 within r.2 (follow d r.0 r.1 v w r.3 over)

  alone-took : (s s1 : State) (x : X) → Took item g depth s x s1 → Stops (going g test) s1.tokens → Took many (going g test) depth s x s1
  alone-took s s1 x a stops = record {
    front = a.front;
    used = a.used;
    tokens = a.tokens;
    operators = a.operators;
    stops = stops;
    ended = a.ended;
    reads = λ after. inl (a.reads after);
    only = λ d n after v w stop r over. only d n after v w stop r over;
    one_more = λ after. inl (a.one_more after);
  }
    where
      only : (d n : ℕ) (after : List Tok) (v : X) (w : State) → Stops (going g test) after
          → many d (st (a.front ++ after) n) v w → Stops (going g test) w.tokens
          → (v ≡ x) × (w.tokens ≡ after) × (n ≡ a.used + w.operators)
      only d n after v w stop (inl r) over = a.only d n after v w (stops-less g test after stop) r (stops-less g test w.tokens over)
      only d n after v w stop (inr r) over =
          let found = a.only d n after r.0 r.1 (stops-less g test after stop) r.2 (follow d r.0 r.1 v w r.3 over) in
          absurd (goes-at g test after (passes-move test after r.1.tokens (sym found.1) (starts d r.0 r.1 v w r.3)) stop)

  pub extended-correct : (P : List Tok → Type 0) (p : Step X) → Correct P p item g depth
      → (q : X → Step X) → ((x : X) → Answering (Passes test) (q x) (beyond x) (going g test) depth)
      → Correct P (extended test p q) many (going g test) depth
  extended-correct P p right-p q right-q = record {
    answers = λ s end pre. went s (p s) (right-p.answers s end pre);
    here = free-to item many (λ v. v) depth depth (alone depth) [] right-p.here;
    some = free-to item many (λ v. v) (suc depth) (suc depth) (alone (suc depth)) [] right-p.some;
  }
    where
      followed : (s s1 : State) (x : X) → Took item g depth s x s1 → Passes test s1.tokens → (o : Outcome X) → Answers (beyond x) (going g test) depth s1 o → Answers many (going g test) depth s o
      followed s s1 x a head (Ok r) b = more-took s s1 x r.0 r.1 a b
      followed s s1 x a head (Err bad) b = more-refused s s1 x bad a head b

      tested : (s : State) (x : X) (z : State) (b : Bool) → test (kind z) ≡ b → Took item g depth s x z → Answers many (going g test) depth s (cond b (q x) (pure x) z)
      tested s x z true same a = let head = head-passes test z.tokens a.ended same in followed s z x a head (q x z) (right-q x z a.ended head)
      tested s x z false same a = alone-took s z x a (head-stops g test z.tokens a.stops same)

      went : (s : State) (o : Outcome X) → Answers item g depth s o → Answers many (going g test) depth s (and_then o (λ x. step.◌>>=◌ peek (λ k. cond (test k) (q x) (pure x))))
      went s (Ok r) a = tested s r.0 r.1 (test (kind r.1)) refl a
      went s (Err bad) a = item-refused s bad a

-- ---- one of two, by the first token

module _ {X : Type 0} (fam other : Family X) (test test' g : Kind → Bool) (depth : ℕ)
    (apart : (k : Kind) → test k ≡ true → test' k ≡ true → ⊥)
    (starts : (d : ℕ) (s : State) (y : X) (z : State) → fam d s y z → Passes test s.tokens)
    (starts' : (d : ℕ) (s : State) (y : X) (z : State) → other d s y z → Passes test' s.tokens) where
  abbrev one-of : Family X
  one-of d = Either (fam d) (other d)

  left : (d : ℕ) (s : State) (x : X) (z : State) → fam d s x z → one-of d s x z
  left d s x z r = inl r

  right : (d : ℕ) (s : State) (x : X) (z : State) → other d s x z → one-of d s x z
  right d s x z r = inr r

  not-both : (ts : List Tok) → Passes test ts → Passes test' ts → ⊥
  not-both [] h e = h
  not-both (t ∷ ts) h e = apart t.kind h e

  left-took : (s : State) (x : X) (z : State) → Took fam g depth s x z → Took one-of g depth s x z
  left-took s x z a = record {
    front = a.front;
    used = a.used;
    tokens = a.tokens;
    operators = a.operators;
    stops = a.stops;
    ended = a.ended;
    reads = λ after. inl (a.reads after);
    only = λ d n after y w stop r over. only d n after y w stop r over;
    one_more = λ after. inl (a.one_more after);
  }
    where
      only : (d n : ℕ) (after : List Tok) (y : X) (w : State) → Stops g after → one-of d (st (a.front ++ after) n) y w → Stops g w.tokens
          → (y ≡ x) × (w.tokens ≡ after) × (n ≡ a.used + w.operators)
      only d n after y w stop (inl r) over = a.only d n after y w stop r over
      only d n after y w stop (inr r) over = absurd (not-both (a.front ++ after) (starts depth (st (a.front ++ after) s.operators) x (st after z.operators) (a.reads after)) (starts' d _ y w r))

  right-took : (s : State) (x : X) (z : State) → Took other g depth s x z → Took one-of g depth s x z
  right-took s x z a = record {
    front = a.front;
    used = a.used;
    tokens = a.tokens;
    operators = a.operators;
    stops = a.stops;
    ended = a.ended;
    reads = λ after. inr (a.reads after);
    only = λ d n after y w stop r over. only d n after y w stop r over;
    one_more = λ after. inr (a.one_more after);
  }
    where
      only : (d n : ℕ) (after : List Tok) (y : X) (w : State) → Stops g after → one-of d (st (a.front ++ after) n) y w → Stops g w.tokens
          → (y ≡ x) × (w.tokens ≡ after) × (n ≡ a.used + w.operators)
      only d n after y w stop (inr r) over = a.only d n after y w stop r over
      only d n after y w stop (inl r) over = absurd (not-both (a.front ++ after) (starts d _ y w r) (starts' depth (st (a.front ++ after) s.operators) x (st after z.operators) (a.reads after)))

  left-refused : (s : State) (bad : Refusal) → Passes test s.tokens → Refused fam g depth s bad → Refused one-of g depth s bad
  left-refused s bad head a = record {
    front = a.front;
    next = a.next;
    more = a.more;
    tokens = a.tokens;
    kind = a.kind;
    place = a.place;
    limited = a.limited;
    none = λ d n tail y w within r over. none d n tail y w within r over;
    goes_on = goes-to fam one-of (λ v. v) (suc depth) (suc depth) (suc s.operators) (left (suc depth)) (a.front ++ going_on bad.rule a.next) a.goes_on;
    first = reaches-to fam one-of (λ v. v) depth depth s.operators (left depth) a.front a.first;
  }
    where
      none : (d n : ℕ) (tail : List Tok) (y : X) (w : State) → WithinLimits bad.rule depth s.operators d n → one-of d (st (a.front ++ a.next ∷ tail) n) y w → Stops g w.tokens → ⊥
      none d n tail y w within (inl r) over = a.none d n tail y w within r over
      none d n tail y w within (inr r) over = not-both _ (passes-is test a.front a.next a.more tail s.tokens a.tokens head) (starts' d _ y w r)

  right-refused : (s : State) (bad : Refusal) → Passes test' s.tokens → Refused other g depth s bad → Refused one-of g depth s bad
  right-refused s bad head a = record {
    front = a.front;
    next = a.next;
    more = a.more;
    tokens = a.tokens;
    kind = a.kind;
    place = a.place;
    limited = a.limited;
    none = λ d n tail y w within r over. none d n tail y w within r over;
    goes_on = goes-to other one-of (λ v. v) (suc depth) (suc depth) (suc s.operators) (right (suc depth)) (a.front ++ going_on bad.rule a.next) a.goes_on;
    first = reaches-to other one-of (λ v. v) depth depth s.operators (right depth) a.front a.first;
  }
    where
      none : (d n : ℕ) (tail : List Tok) (y : X) (w : State) → WithinLimits bad.rule depth s.operators d n → one-of d (st (a.front ++ a.next ∷ tail) n) y w → Stops g w.tokens → ⊥
      none d n tail y w within (inr r) over = a.none d n tail y w within r over
      none d n tail y w within (inl r) over = not-both _ (starts d _ y w r) (passes-is test' a.front a.next a.more tail s.tokens a.tokens head)

  pub choice-answers : (p q : Step X) → Answering (Passes test) p fam g depth → Answering (Passes test') q other g depth
      → Answering (Passes (λ k. test k || test' k)) (λ s. cond (test (kind s)) (p s) (q s)) one-of g depth
  choice-answers p q right-p right-q s end pre = tested s end pre (test (kind s)) refl
    where
      as-left : (s : State) (o : Outcome X) → Passes test s.tokens → Answers fam g depth s o → Answers one-of g depth s o
      as-left s (Ok r) h a = left-took s r.0 r.1 a
      as-left s (Err bad) h a = left-refused s bad h a

      as-right : (s : State) (o : Outcome X) → Passes test' s.tokens → Answers other g depth s o → Answers one-of g depth s o
      as-right s (Ok r) h a = right-took s r.0 r.1 a
      as-right s (Err bad) h a = right-refused s bad h a

      or-other : (a b : Bool) → (a || b) ≡ true → a ≡ false → b ≡ true
      or-other true b h e = cc
      or-other false b h e = h

      tested : (s : State) → ends s.tokens ≡ true → Passes (λ k. test k || test' k) s.tokens → (b : Bool) → test (kind s) ≡ b → Answers one-of g depth s (cond b (p s) (q s))
      tested s end pre true same = let head = head-passes test s.tokens end same in as-left s (p s) head (right-p s end head)
      tested s end pre false same =
          let head = head-passes test' s.tokens end (or-other (test (kind s)) (test' (kind s)) (passes-head (λ k. test k || test' k) s.tokens pre) same) in
          as-right s (q s) head (right-q s end head)

-- ---- tests that hold of the same kinds

-- what goes on with the same kinds
same-stops : (g h : Kind → Bool) → ((k : Kind) → g k ≡ h k) → (ts : List Tok) → Stops g ts → Stops h ts
same-stops g h same [] e = refl
same-stops g h same (t ∷ ts) e = sym (same t.kind) ∙ e

stops-same : (g h : Kind → Bool) → ((k : Kind) → g k ≡ h k) → (ts : List Tok) → Stops h ts → Stops g ts
stops-same g h same [] e = refl
stops-same g h same (t ∷ ts) e = same t.kind ∙ e

pub going-alike-answers : {X : Type 0} (P : List Tok → Type 0) (p : Step X) (fam : Family X) (g h : Kind → Bool) (depth : ℕ) → ((k : Kind) → g k ≡ h k)
    → Answering P p fam g depth → Answering P p fam h depth
going-alike-answers {X} P p fam g h depth same a s end pre = went s (p s) (a s end pre)
  where
    went : (s : State) (o : Outcome X) → Answers fam g depth s o → Answers fam h depth s o
    went s (Ok r) t = record {
      front = t.front;
      used = t.used;
      tokens = t.tokens;
      operators = t.operators;
      stops = same-stops g h same r.1.tokens t.stops;
      ended = t.ended;
      reads = t.reads;
      only = λ d n after y w stop q over. t.only d n after y w (stops-same g h same after stop) q (stops-same g h same w.tokens over);
      one_more = t.one_more;
    }
    went s (Err bad) t = record {
      front = t.front;
      next = t.next;
      more = t.more;
      tokens = t.tokens;
      kind = t.kind;
      place = t.place;
      limited = t.limited;
      none = λ d n tail y w within q over. t.none d n tail y w within q (stops-same g h same w.tokens over);
      goes_on = t.goes_on;
      first = t.first;
    }
