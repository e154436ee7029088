-- A series of items is read rightly, whatever the items are.
use Rattle.std.proofs.Common.{◌≡◌, ℕ, zero, suc, ◌+◌, ◌≤◌, ◌<◌, Bool, true, false, cond, ◌||◌, ◌⊎◌, inl, inr, List, [], ◌∷◌, ◌++◌, length, refl, sym, ◌∙◌, ap, subst, append_assoc, arith, length-append, Ok, Err}
use Rattle.std.proofs.lemmas.Bool.{or_from, or_parts}
use Rattle.std.proofs.Math.Bool.{or-true}
use Rattle.pb_text_lexer.specs.declared.kind.Kind.{Kind}
use Rattle.pb_text_lexer.specs.declared.fault.Refusal.{Refusal}
use Rattle.pb_text_lexer.specs.Tokens.{Tok}
use Rattle.pb_text_lexer.specs.Grammar.{State, WithinLimits, going_on, Is, Series, last, more}
use Rattle.pb_text_lexer.specs.Grammar as grammar
use Rattle.pb_text_lexer.specs.Steps.{ends, head_kind, Step, Outcome, and_then, pure, kind, series}
use Rattle.pb_text_lexer.specs.Steps as step
use Rattle.pb_text_lexer.proofs.Correct.{st, Family, Stops, never, stops-never, Readable, free-to, readable-is, free-then, goes-to, goes-then, Unlimited, reaches-to, reaches-read, reaches-append, reaches-unlimited, Took, Refused, Answers, Answering, move, then-took, then-tokens, then-none, then-refused, first-refused, pure-correct, HeadIs}

-- what goes on with a series: what goes on with an item, and what passes the test
abbrev pub going : (Kind → Bool) → (Kind → Bool) → Kind → Bool
going g test k = g k || test k

-- the list begins with a token that passes the test
abbrev pub Passes : (Kind → Bool) → List Tok → Type 0
Passes test [] = ⊥
Passes test (t ∷ ts) = test t.kind ≡ true

pub stops-less : (g test : Kind → Bool) (ts : List Tok) → Stops (going g test) ts → Stops g ts
stops-less g test [] h = refl
stops-less g test (t ∷ ts) h = (or_parts (g t.kind) _ h).0

pub stops-at : (g test : Kind → Bool) (ts : List Tok) → ((k : Kind) → test k ≡ true → g k ≡ false) → Passes test ts → Stops g ts
stops-at g test [] apart h = absurd h
stops-at g test (t ∷ ts) apart h = apart t.kind h

pub goes-at : (g test : Kind → Bool) (ts : List Tok) → Passes test ts → Stops (going g test) ts → ⊥
goes-at g test [] h e = h
goes-at g test (t ∷ ts) h e = let on : (g t.kind || test t.kind) ≡ true = ap (λ v. g t.kind || v) h ∙ or-true (g t.kind) in cc

pub head-at : (k : Kind) (ts us : List Tok) (t : Tok) → ts ≡ t ∷ us → t.kind ≡ k → HeadIs k ts
head-at k ts us t e h = subst (λ (v : List Tok). HeadIs k v) (sym e) h

pub passes-at : (test : Kind → Bool) (ts us : List Tok) (t : Tok) → ts ≡ t ∷ us → test t.kind ≡ true → Passes test ts
passes-at test ts us t e h = subst (λ (v : List Tok). Passes test v) (sym e) h

pub passes-move : (test : Kind → Bool) (ts us : List Tok) → ts ≡ us → Passes test us → Passes test ts
passes-move test ts us e h = subst (λ (v : List Tok). Passes test v) (sym e) h

pub passes-is : (test : Kind → Bool) (front : List Tok) (t : Tok) (a b ts : List Tok) → ts ≡ front ++ t ∷ a → Passes test ts → Passes test (front ++ t ∷ b)
passes-is test [] t a b ts e h = subst (λ (v : List Tok). Passes test v) e h
passes-is test (f ∷ fs) t a b ts e h = subst (λ (v : List Tok). Passes test v) e h

-- what takes a token leaves fewer
pub shorter : (ts front us vs : List Tok) (t : Tok) → ts ≡ front ++ us → front ++ [] ≡ t ∷ vs → length us < length ts
shorter ts [] us vs t e h = cc
shorter ts (f ∷ fs) us vs t e h = let p = ap length e in let q = length-append {A = Tok} fs us in omega arith

pub no-longer : (ts front us : List Tok) → ts ≡ front ++ us → length us ≤ length ts
no-longer ts front us e = let p = ap length e in let q = length-append {A = Tok} front us in omega arith

-- ---- a series of one item

module _ {X T Y : Type 0} (item : Family X) (between : Family T) (end : X → Y) (join : X → T → Y → Y) where
  last-of : (d : ℕ) (s : State) (x : X) (z : State) → item d s x z → Series (item d) (between d) end join s (end x) z
  last-of d s x z r = last r

  pub readable-series : (level : ℕ) → Readable item level → Readable (λ d. Series (item d) (between d) end join) level
  readable-series level a = free-to item (λ d. Series (item d) (between d) end join) end level level (last-of level) [] a

module _ {X T Y : Type 0} (item : Family X) (between : Family T) (end : X → Y) (join : X → T → Y → Y) (g test : Kind → Bool) (depth : ℕ)
    (apart : (k : Kind) → test k ≡ true → g k ≡ false)
    (starts : (d : ℕ) (m : State) (t : T) (o : State) (y : Y) (z : State) → between d m t o → Series (item d) (between d) end join o y z → Passes test m.tokens) where
  abbrev many : Family Y
  many d = Series (item d) (between d) end join

  abbrev closing : X → T → Y → Family Y
  closing x t y d = Is (join x t y)

  abbrev right : X → T → Family Y
  right x t d = grammar.◌>>=◌ (many d) (λ y. closing x t y d)

  abbrev behind : X → Family Y
  behind x d = grammar.◌>>=◌ (between d) (λ t. right x t d)

  abbrev longer : Family Y
  longer d = grammar.◌>>=◌ (item d) (λ x. behind x d)

  abbrev single : Family Y
  single d = grammar.◌>>=◌ (item d) (λ x. Is (end x))

  split : (d : ℕ) (s : State) (y : Y) (w : State) → many d s y w → single d s y w ⊎ longer d s y w
  split d s y w (last {x = x} r) = inl (x, w, r, (refl, refl))
  split d s y w (more {m = m} {o = o} {z = z} {x = x} {t = t} {y = v} r op rest) = inr (x, m, r, (t, o, op, (v, z, rest, (refl, refl))))

  join-longer : (d : ℕ) (s : State) (y : Y) (w : State) → longer d s y w → many d s y w
  join-longer d s y w r = subst (λ (v : State). many d s y v) (sym r.3.3.3.1) (subst (λ (v : Y). many d s v r.3.3.1) (sym r.3.3.3.0) (more r.2 r.3.2 r.3.3.2))

  -- where more follows, no item alone is what was read
  not-alone : (s s1 : State) (x : X) (a : Took item g depth s x s1) (d n : ℕ) (ts : List Tok) (y : Y) (w : State)
      → Passes test ts → single d (st (a.front ++ ts) n) y w → Stops (going g test) w.tokens → ⊥
  not-alone s s1 x a d n ts y w head r over =
      let over' : Stops (going g test) r.1.tokens = subst (λ (v : State). Stops (going g test) v.tokens) r.3.1 over in
      let found = a.only d n ts r.0 r.1 (stops-at g test ts apart head) r.2 (stops-less g test r.1.tokens over') in
      goes-at g test r.1.tokens (passes-move test r.1.tokens ts found.1 head) over'

  behind-starts : (d : ℕ) (x : X) (s : State) (y : Y) (z : State) → behind x d s y z → Passes test s.tokens
  behind-starts d x s y z r = starts d s r.0 r.1 r.3.0 r.3.1 r.2 r.3.2

  follow : (d : ℕ) (x : X) (m : State) (y : Y) (z : State) → behind x d m y z → Stops (going g test) z.tokens → Stops g m.tokens
  follow d x m y z r over = stops-at g test m.tokens apart (behind-starts d x m y z r)

  more-took : (s s1 : State) (x : X) (y : Y) (z : State) → Took item g depth s x s1 → Took (behind x) (going g test) depth s1 y z → Took many (going g test) depth s y z
  unfolding then-took
  more-took s s1 x y z a b = record {
    front = t.front;
    used = t.used;
    tokens = t.tokens;
    operators = t.operators;
    stops = t.stops;
    ended = t.ended;
    reads = λ after. join-longer depth _ y (st after z.operators) (t.reads after);
    only = λ d n after v w stop r over. only d n after v w stop (split d _ v w r) over;
    one_more = λ after. join-longer (suc depth) _ y _ ((then-took item behind g (going g test) depth follow s s1 x y z a b).one_more after);
  }
    where
      t : Took longer (going g test) depth s y z
      t = then-took item behind g (going g test) depth follow s s1 x y z a b

      only : (d n : ℕ) (after : List Tok) (v : Y) (w : State) → Stops (going g test) after
          → single d (st ((a.front ++ b.front) ++ after) n) v w ⊎ longer d (st ((a.front ++ b.front) ++ after) n) v w → Stops (going g test) w.tokens
          → (v ≡ y) × (w.tokens ≡ after) × (n ≡ a.used + b.used + w.operators)
      only d n after v w stop (inr r) over = (then-took item behind g (going g test) depth follow s s1 x y z a b).only d n after v w stop r over
      only d n after v w stop (inl r) over = absurd (not-alone s s1 x a d n (b.front ++ after) v w
          (behind-starts depth x (st (b.front ++ after) s1.operators) y (st after z.operators) (b.reads after))
          (move (single d) _ _ n n v w (append_assoc a.front b.front after) refl r) over)

  more-refused : (s s1 : State) (x : X) (bad : Refusal) → Took item g depth s x s1 → Passes test s1.tokens
      → Refused (behind x) (going g test) depth s1 bad → Refused many (going g test) depth s bad
  more-refused s s1 x bad a head b = record {
    front = a.front ++ b.front;
    next = b.next;
    more = b.more;
    tokens = then-tokens item behind g (going g test) depth follow s s1 x bad a b;
    kind = b.kind;
    place = b.place;
    limited = b.limited;
    none = λ d n tail v w within r over. none d n tail v w within (split d _ v w r) over;
    goes_on = goes-to longer many (λ v. v) (suc depth) (suc depth) (suc s.operators) (join-longer (suc depth)) ((a.front ++ b.front) ++ going_on bad.rule b.next)
        (goes-then item behind (suc depth) a.front b.front (going_on bad.rule b.next) (suc s.operators) (suc s1.operators) x a.one_more b.goes_on);
    first = reaches-append many depth s.operators a.front b.front (reaches-read many depth s.operators s1.operators a.front (end x) (λ after. last (a.reads after)))
        (λ before behind-it t e lim.
        goes-to longer many (λ v. v) depth depth s.operators (join-longer depth) ((a.front ++ before) ++ t ∷ [])
        (goes-then item behind depth a.front before (t ∷ []) s.operators s1.operators x a.reads (b.first before behind-it t e lim)));
  }
    where
      none : (d n : ℕ) (tail : List Tok) (v : Y) (w : State) → WithinLimits bad.rule depth s.operators d n
          → single d (st ((a.front ++ b.front) ++ b.next ∷ tail) n) v w ⊎ longer d (st ((a.front ++ b.front) ++ b.next ∷ tail) n) v w → Stops (going g test) w.tokens → ⊥
      none d n tail v w within (inr r) over = then-none item behind g (going g test) depth follow s s1 x bad a b d n tail v w within r over
      none d n tail v w within (inl r) over = not-alone s s1 x a d n (b.front ++ b.next ∷ tail) v w
          (passes-is test b.front b.next b.more tail s1.tokens b.tokens head)
          (move (single d) _ _ n n v w (append_assoc a.front b.front (b.next ∷ tail)) refl r) over

  item-refused : (s : State) (bad : Refusal) → Refused item g depth s bad → Refused many (going g test) depth s bad
  item-refused s bad a = record {
    front = a.front;
    next = a.next;
    more = a.more;
    tokens = a.tokens;
    kind = a.kind;
    place = a.place;
    limited = a.limited;
    none = λ d n tail v w within r over. none d n tail v w within (split d _ v w r) over;
    goes_on = goes-to item many end (suc depth) (suc depth) (suc s.operators) (λ s x z r. last r) (a.front ++ going_on bad.rule a.next) a.goes_on;
    first = reaches-to item many end depth depth s.operators (λ s x z r. last r) a.front a.first;
  }
    where
      none : (d n : ℕ) (tail : List Tok) (v : Y) (w : State) → WithinLimits bad.rule depth s.operators d n
          → single d (st (a.front ++ a.next ∷ tail) n) v w ⊎ longer d (st (a.front ++ a.next ∷ tail) n) v w → Stops (going g test) w.tokens → ⊥
      none d n tail v w within (inl r) over = a.none d n tail r.0 r.1 within r.2 (stops-less g test r.1.tokens (subst (λ (v : State). Stops (going g test) v.tokens) r.3.1 over))
      none d n tail v w within (inr r) over = a.none d n tail r.0 r.1 within r.2 (follow d r.0 r.1 v w r.3 over)

  last-took : (s s1 : State) (x : X) → Took item g depth s x s1 → Stops (going g test) s1.tokens → Took many (going g test) depth s (end x) s1
  last-took s s1 x a stops = record {
    front = a.front;
    used = a.used;
    tokens = a.tokens;
    operators = a.operators;
    stops = stops;
    ended = a.ended;
    reads = λ after. last (a.reads after);
    only = λ d n after v w stop r over. only d n after v w stop (split d _ v w r) over;
    one_more = λ after. last (a.one_more after);
  }
    where
      only : (d n : ℕ) (after : List Tok) (v : Y) (w : State) → Stops (going g test) after
          → single d (st (a.front ++ after) n) v w ⊎ longer d (st (a.front ++ after) n) v w → Stops (going g test) w.tokens
          → (v ≡ end x) × (w.tokens ≡ after) × (n ≡ a.used + w.operators)
      only d n after v w stop (inl r) over =
          let found = a.only d n after r.0 r.1 (stops-less g test after stop) r.2 (stops-less g test r.1.tokens (subst (λ (u : State). Stops (going g test) u.tokens) r.3.1 over)) in
          (r.3.0 ∙ ap end found.0, ap (λ u. u.tokens) r.3.1 ∙ found.1, (let p : w.operators ≡ r.1.operators = ap (λ u. u.operators) r.3.1 in let q = found.2 in omega arith))
      only d n after v w stop (inr r) over =
          let found = a.only d n after r.0 r.1 (stops-less g test after stop) r.2 (follow d r.0 r.1 v w r.3 over) in
          absurd (goes-at g test after (passes-move test after r.1.tokens (sym found.1) (behind-starts d r.0 r.1 v w r.3)) stop)

  -- Where what stands between is refused there is something to be read. At no token of it a limit can be exceeded.
  module _ (p : Step X) (right-p : Answering (λ ts. Unit {0}) p item g depth) (q : Step T) (right-q : Answering (Passes test) q between never depth)
      (some : (s : State) (bad : Refusal) → q s ≡ Err bad → Readable item depth × Readable item (suc depth))
      (unlimited : (s : State) (t : T) (z : State) (a : Took between never depth s t z) → Unlimited a.front)
      (consumes : (s s1 s2 : State) (x : X) (t : T) → Took item g depth s x s1 → Took between never depth s1 t s2 → length s2.tokens < length s.tokens) where
    pub series-correct : (n : ℕ) (s : State) → length s.tokens ≤ n → ends s.tokens ≡ true → Answers many (going g test) depth s (series p test q end join n s)
    unfolding series
    series-correct zero s le ended = absurd (empty s.tokens le ended)
      where
        empty : (ts : List Tok) → length ts ≤ 0 → ends ts ≡ true → ⊥
        empty [] le e = cc
        empty (t ∷ ts) le e = omega arith
    series-correct (suc n) s le ended = at-item (series-correct n) (p s) (right-p s ended tt)
      where
        some-right : (x : X) (t : T) (level : ℕ) → Readable item level → Readable (right x t) level
        some-right x t level a = free-then many (closing x t) level [] (readable-series item between end join level a) (λ y. readable-is (join x t y) level)

        no-more : (x : X) (t : T) (d : ℕ) (u : Y) (m : State) (y : Y) (z : State) → closing x t u d m y z → Stops (going g test) z.tokens → Stops (going g test) m.tokens
        no-more x t d u m y z h over = subst (λ (v : State). Stops (going g test) v.tokens) h.1 over

        ends-with : (s1 : State) (x : X) (t : T) (s2 : State) → Took item g depth s x s1 → Passes test s1.tokens → Took between never depth s1 t s2
            → (o : Outcome Y) → Answers many (going g test) depth s2 o → Answers many (going g test) depth s (and_then o (λ y. pure (join x t y)))
        ends-with s1 x t s2 a head b (Ok r) rest =
            more-took s s1 x (join x t r.0) r.1 a
            (then-took between (right x) never (going g test) depth (λ d u m y z h over. stops-never m.tokens) s1 s2 t (join x t r.0) r.1 b
            (then-took many (closing x t) (going g test) (going g test) depth (no-more x t) s2 r.1 r.0 (join x t r.0) r.1 rest
            ((pure-correct (join x t r.0) (going g test) depth).answers r.1 rest.ended rest.stops)))
        ends-with s1 x t s2 a head b (Err bad) rest =
            more-refused s s1 x bad a head
            (then-refused between (right x) never (going g test) depth (λ d u m y z h over. stops-never m.tokens) s1 s2 t bad b
            (reaches-unlimited (behind x) depth s1.operators b.front (unlimited s1 t s2 b))
            (first-refused many (closing x t) (going g test) (going g test) depth (no-more x t) s2 bad (λ y. readable-is (join x t y) depth) (λ y. readable-is (join x t y) (suc depth)) rest))

        fewer : (i j : ℕ) → length s.tokens ≤ suc n → i < length s.tokens → i ≤ n
        fewer i j a b = omega arith

        at-between : (s1 : State) (x : X) → Took item g depth s x s1 → Passes test s1.tokens
            → ((s2 : State) → length s2.tokens ≤ n → ends s2.tokens ≡ true → Answers many (going g test) depth s2 (series p test q end join n s2))
            → (o : Outcome T) → q s1 ≡ o → Answers between never depth s1 o
            → Answers many (going g test) depth s (and_then o (λ t. step.◌>>=◌ (series p test q end join n) (λ y. pure (join x t y))))
        at-between s1 x a head again (Ok r) is b =
            ends-with s1 x r.0 r.1 a head b (series p test q end join n r.1) (again r.1 (fewer (length r.1.tokens) 0 le (consumes s s1 r.1 x r.0 a b)) b.ended)
        at-between s1 x a head again (Err bad) is b =
            let found = some s1 bad is in
            more-refused s s1 x bad a head
            (first-refused between (right x) never (going g test) depth (λ d u m y z h over. stops-never m.tokens) s1
            bad (λ t. some-right x t depth found.0) (λ t. some-right x t (suc depth) found.1) b)

        head-of : (ts : List Tok) → ends ts ≡ true → test (head_kind ts) ≡ true → Passes test ts
        head-of [] e same = cc
        head-of (t ∷ ts) e same = same

        stops-of : (ts : List Tok) → Stops g ts → test (head_kind ts) ≡ false → Stops (going g test) ts
        stops-of [] h other = refl
        stops-of (t ∷ ts) h other = or_from (g t.kind) _ h other

        at-kind : (s1 : State) (x : X) → Took item g depth s x s1
            → ((s2 : State) → length s2.tokens ≤ n → ends s2.tokens ≡ true → Answers many (going g test) depth s2 (series p test q end join n s2))
            → (b : Bool) → test (kind s1) ≡ b
            → Answers many (going g test) depth s (cond b (step.◌>>=◌ q (λ t. step.◌>>=◌ (series p test q end join n) (λ y. pure (join x t y)))) (pure (end x)) s1)
        at-kind s1 x a again true same =
            let head = head-of s1.tokens a.ended same in
            at-between s1 x a head again (q s1) refl (right-q s1 a.ended head)
        at-kind s1 x a again false other = last-took s s1 x a (stops-of s1.tokens a.stops other)

        at-item : ((s2 : State) → length s2.tokens ≤ n → ends s2.tokens ≡ true → Answers many (going g test) depth s2 (series p test q end join n s2))
            → (o : Outcome X) → Answers item g depth s o
            → Answers many (going g test) depth s
            (and_then o
            (λ x. step.◌>>=◌ step.peek
            (λ kind. cond (test kind)
            (step.◌>>=◌ q (λ t. step.◌>>=◌ (series p test q end join n) (λ y. pure (join x t y)))) (pure (end x)))))
        at-item again (Ok r) a = at-kind r.1 r.0 a again (test (kind r.1)) refl
        at-item again (Err bad) a = item-refused s bad a
