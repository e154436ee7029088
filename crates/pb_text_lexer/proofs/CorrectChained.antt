-- Chains whose last operand may be open. A reading of an open level is followed by no connective; one of a closed level may be.
use Rattle.std.proofs.Common.{◌≡◌, ℕ, zero, suc, ◌+◌, ◌≤◌, ◌<◌, Bool, true, false, cond, ◌⊎◌, inl, inr, List, [], ◌∷◌, ◌++◌, length, refl, sym, ◌∙◌, ap, subst, append_assoc, arith, Ok, Err}
use Rattle.std.proofs.lemmas.Bool.{or_from}
use Rattle.pb_text_lexer.specs.declared.kind.Kind.{Kind}
use Rattle.pb_text_lexer.specs.declared.fault.ReadingRule.{ReadingRule}
use Rattle.pb_text_lexer.specs.declared.fault.ReadingRule.TheVariants.{Limit}
use Rattle.pb_text_lexer.specs.declared.fault.Refusal.{Refusal}
use Rattle.pb_text_lexer.specs.Kinds.{same_kind, is_last, is_limited}
use Rattle.pb_text_lexer.specs.Tokens.{Tok}
use Rattle.pb_text_lexer.specs.Grammar.{State, WithinLimits, going_on, Operator}
use Rattle.pb_text_lexer.specs.OpenGrammar.{Chained, last, more}
use Rattle.pb_text_lexer.specs.Steps.{ends, head_kind, Step, Outcome, and_then, pure, take_operator, series, chain, kind}
use Rattle.pb_text_lexer.specs.Steps as step
use Rattle.pb_text_lexer.proofs.TokenLemmas.{kind-same, same-kind}
use Rattle.pb_text_lexer.proofs.Correct.{st, Family, Stops, never, stops-never, Readable, GoesOn, free-to, goes-to, Reaches, reaches-to, reaches-read, reaches-append, parted, Took, Refused, Answers, HeadIs, move, within-less, operator-answers}
use Rattle.pb_text_lexer.proofs.CorrectSeries.{shorter, no-longer, going, Passes, stops-less, stops-at, goes-at, passes-at, passes-move, passes-is}

abbrev pub is_symbol : Kind → Kind → Bool
is_symbol c kind = same_kind kind c

pub is-symbol-at : (c k : Kind) → k ≡ c → is_symbol c k ≡ true
is-symbol-at c k e = subst (λ (v : Kind). same_kind k v ≡ true) e (same-kind k)

pub head-of-passes : (c : Kind) (ts : List Tok) → Passes (is_symbol c) ts → HeadIs c ts
head-of-passes c [] h = h
head-of-passes c (t ∷ ts) h = kind-same t.kind c h

-- Any reading of a list that begins so, and is followed rightly, is this one.
abbrev pub Only : {X : Type 0} → Family X → (List Tok → Type 0) → (List Tok → Type 0) → List Tok → ℕ → X → Type 0
Only {X} fam W A front used x = (d n : ℕ) (after : List Tok) (y : X) (w : State) → A after → fam d (st (front ++ after) n) y w → W w.tokens
    → (y ≡ x) × (w.tokens ≡ after) × (n ≡ used + w.operators)

-- There is no reading of a list that begins so.
abbrev pub None : {X : Type 0} → Family X → (List Tok → Type 0) → ReadingRule → ℕ → ℕ → List Tok → Tok → Type 0
None {X} fam W rule depth operators front next = (d n : ℕ) (tail : List Tok) (y : X) (w : State) → WithinLimits rule depth operators d n
    → fam d (st (front ++ next ∷ tail) n) y w → W w.tokens → ⊥

-- what may follow instead of ts, where conn are all connectives
pub record Like (g conn : Kind → Bool) (ts after : List Tok) : Type 0 where
  pub stops : Stops g after
  pub fits : Stops conn ts → Stops conn after

pub record Opened {X : Type 0} (famO famC : Family X) (g conn : Kind → Bool) (depth : ℕ) (s : State) (x : X) (z : State) : Type 0 where
  pub front : List Tok
  pub used : ℕ
  pub tokens : s.tokens ≡ front ++ z.tokens
  pub operators : s.operators ≡ used + z.operators
  pub stops : Stops g z.tokens
  pub ended : ends z.tokens ≡ true
  pub reads : (after : List Tok) → famO depth (st (front ++ after) s.operators) x (st after z.operators)
  pub closes : Passes conn z.tokens → (after : List Tok) → famC depth (st (front ++ after) s.operators) x (st after z.operators)
  pub only_open : Only famO (Stops conn) (Like g conn z.tokens) front used x
  pub only_closed : Only famC (Stops g) (Like g conn z.tokens) front used x
  pub one_more : (after : List Tok) → famO (suc depth) (st (front ++ after) (suc s.operators)) x (st after (suc z.operators))
  pub one_more_closed : Passes conn z.tokens → (after : List Tok) → famC (suc depth) (st (front ++ after) (suc s.operators)) x (st after (suc z.operators))

pub record RefusedOpen {X : Type 0} (famO famC : Family X) (g conn : Kind → Bool) (depth : ℕ) (s : State) (bad : Refusal) : Type 0 where
  pub front : List Tok
  pub next : Tok
  pub more_tokens : List Tok
  pub tokens : s.tokens ≡ front ++ next ∷ more_tokens
  pub kind : bad.kind ≡ next.kind
  pub place : bad.place ≡ next.place
  pub limited : bad.rule ≡ Limit → is_limited next.kind ≡ true
  pub none_open : None famO (Stops conn) bad.rule depth s.operators front next
  pub none_closed : None famC (Stops g) bad.rule depth s.operators front next
  pub goes_on : GoesOn famO (suc depth) (suc s.operators) (front ++ going_on bad.rule next)
  pub first : Reaches famO depth s.operators front

abbrev pub AnswersOpen : {X : Type 0} → Family X → Family X → (Kind → Bool) → (Kind → Bool) → ℕ → State → Outcome X → Type 0
AnswersOpen famO famC g conn depth s (Ok r) = Opened famO famC g conn depth s r.0 r.1
AnswersOpen famO famC g conn depth s (Err bad) = RefusedOpen famO famC g conn depth s bad

pub record CorrectOpen {X : Type 0} (p : Step X) (famO famC : Family X) (g conn : Kind → Bool) (depth : ℕ) : Type 0 where
  pub answers : (s : State) → ends s.tokens ≡ true → AnswersOpen famO famC g conn depth s (p s)
  pub here : Readable famO depth
  pub some : Readable famO (suc depth)

-- ---- a chain, by the family L of its last operand and what W says may follow it

module _ {X : Type 0} (c : Kind) (join : X → Tok → X → X) (famC L : Family X) (g : Kind → Bool) (WL W : List Tok → Type 0) (depth : ℕ) (apart : g c ≡ false)
    (weaker : (ts : List Tok) → W ts → WL ts) (not-on : (ts : List Tok) → Passes (is_symbol c) ts → W ts → ⊥) where
  abbrev pub many : Family X
  many d = Chained c join (famC d) (L d)

  -- a closed operand, the connective and the rest
  abbrev pub Longer : ℕ → State → X → State → Type 0
  Longer d s y w = (x : X) × (m : State) × famC d s x m × ((t : Tok) × (o : State) × Operator c m t o × ((v : X) × many d o v w × (y ≡ join x t v)))

  split : (d : ℕ) (s : State) (y : X) (w : State) → many d s y w → L d s y w ⊎ Longer d s y w
  split d s y w (last r) = inl r
  split d s y w (more {m = m} {o = o} {z = z} {x = x} {y = v} {t = t} r op rest) = inr (x, m, r, (t, o, op, (v, rest, refl)))

  apart-on : (k : Kind) → is_symbol c k ≡ true → g k ≡ false
  apart-on k h = ap g (kind-same k c h) ∙ apart

  starts : (m o : State) (t : Tok) → Operator c m t o → Passes (is_symbol c) m.tokens
  starts m o t r = passes-at (is_symbol c) m.tokens o.tokens t r.0 (is-symbol-at c t.kind r.1)

  pub last_only : (A B : List Tok → Type 0) (front : List Tok) (used : ℕ) (x : X) → ((ts : List Tok) → B ts → A ts) → ((ts : List Tok) → B ts → Stops (going g (is_symbol c)) ts)
      → Only L WL A front used x → Only famC (Stops g) A front used x → Only many W B front used x
  last_only A B front used x into stop wide closed d n after y w b r over = at (split d _ y w r)
    where
      at : L d (st (front ++ after) n) y w ⊎ Longer d (st (front ++ after) n) y w → (y ≡ x) × (w.tokens ≡ after) × (n ≡ used + w.operators)
      at (inl q) = wide d n after y w (into after b) q (weaker w.tokens over)
      at (inr q) =
          let found = closed d n after q.0 q.1 (into after b) q.2 (stops-at g (is_symbol c) q.1.tokens apart-on (starts q.1 q.3.1 q.3.0 q.3.2)) in
          absurd (goes-at g (is_symbol c) after (passes-move (is_symbol c) after q.1.tokens (sym found.1) (starts q.1 q.3.1 q.3.0 q.3.2)) (stop after b))

  pub more_only : (A B : List Tok → Type 0) (s1 s2 : State) (x v : X) (t : Tok) (af rf : List Tok) (au ru : ℕ)
      → ((ts : List Tok) → Passes (is_symbol c) ts → A ts)
      → Only L WL A af au x → Only famC (Stops g) A af au x → (b : Took (λ d. Operator c) never depth s1 t s2) → Only many W B rf ru v
      → Only many W B (af ++ (b.front ++ rf)) (au + (b.used + ru)) (join x t v)
  more_only A B s1 s2 x v t af rf au ru on wide closed b rest d n after y w bs r over =
      at (split d _ y w (move (many d) _ (af ++ (b.front ++ (rf ++ after))) n n y w (append_assoc af (b.front ++ rf) after ∙ ap (λ ts. af ++ ts) (append_assoc b.front rf after)) refl r))
    where
      begins : Passes (is_symbol c) (b.front ++ (rf ++ after))
      begins = starts (st (b.front ++ (rf ++ after)) s1.operators) (st (rf ++ after) s2.operators) t (b.reads (rf ++ after))

      at-rest : (t' : Tok) (o : State) (u : X) → (t' ≡ t) × (o.tokens ≡ rf ++ after) × ℕ → many d o u w → (u ≡ v) × (w.tokens ≡ after) × (o.operators ≡ ru + w.operators)
      at-rest t' o u e q = rest d o.operators after u w bs (move (many d) o.tokens (rf ++ after) o.operators o.operators u w e.1 refl q) over

      at : L d (st (af ++ (b.front ++ (rf ++ after))) n) y w ⊎ Longer d (st (af ++ (b.front ++ (rf ++ after))) n) y w
          → (y ≡ join x t v) × (w.tokens ≡ after) × (n ≡ au + (b.used + ru) + w.operators)
      at (inl q) =
          let found = wide d n (b.front ++ (rf ++ after)) y w (on _ begins) q (weaker w.tokens over) in
          absurd (not-on w.tokens (passes-move (is_symbol c) w.tokens _ found.1 begins) over)
      at (inr q) =
          let one = closed d n (b.front ++ (rf ++ after)) q.0 q.1 (on _ begins) q.2 (stops-at g (is_symbol c) q.1.tokens apart-on (starts q.1 q.3.1 q.3.0 q.3.2)) in
          let two = b.only d q.1.operators (rf ++ after) q.3.0 q.3.1 (stops-never (rf ++ after))
          (move (Operator c) q.1.tokens (b.front ++ (rf ++ after)) q.1.operators q.1.operators q.3.0 q.3.1 one.1 refl q.3.2) (stops-never q.3.1.tokens) in
          let three = at-rest q.3.0 q.3.1 q.3.3.0 (two.0, two.1, 0) q.3.3.1 in (
            q.3.3.2 ∙ ap (λ u. join q.0 u q.3.3.0) two.0 ∙ ap (λ u. join u t q.3.3.0) one.0 ∙ ap (λ u. join x t u) three.0,
            three.1,
            (let i = one.2 in let j = two.2 in let l = three.2 in omega arith),
          )

  pub operand-none : (rule : ReadingRule) (operators : ℕ) (front : List Tok) (next : Tok)
      → None L WL rule depth operators front next → None famC (Stops g) rule depth operators front next → None many W rule depth operators front next
  operand-none rule operators front next wide closed d n tail y w inside r over = at (split d _ y w r)
    where
      at : L d (st (front ++ next ∷ tail) n) y w ⊎ Longer d (st (front ++ next ∷ tail) n) y w → ⊥
      at (inl q) = wide d n tail y w inside q (weaker w.tokens over)
      at (inr q) = closed d n tail q.0 q.1 inside q.2 (stops-at g (is_symbol c) q.1.tokens apart-on (starts q.1 q.3.1 q.3.0 q.3.2))

  -- the connective is refused
  pub operator-none : (A : List Tok → Type 0) (s s1 : State) (x : X) (bad : Refusal) (af : List Tok) (au : ℕ) → s.operators ≡ au + s1.operators
      → ((ts : List Tok) → Passes (is_symbol c) ts → A ts) → Passes (is_symbol c) s1.tokens
      → Only L WL A af au x → Only famC (Stops g) A af au x → (b : Refused (λ d. Operator c) never depth s1 bad)
      → None many W bad.rule depth s.operators (af ++ b.front) b.next
  operator-none A s s1 x bad af au count on head wide closed b d n tail y w inside r over =
      at (split d _ y w (move (many d) _ (af ++ (b.front ++ b.next ∷ tail)) n n y w (append_assoc af b.front (b.next ∷ tail)) refl r))
    where
      begins : Passes (is_symbol c) (b.front ++ b.next ∷ tail)
      begins = passes-is (is_symbol c) b.front b.next b.more tail s1.tokens b.tokens head

      at : L d (st (af ++ (b.front ++ b.next ∷ tail)) n) y w ⊎ Longer d (st (af ++ (b.front ++ b.next ∷ tail)) n) y w → ⊥
      at (inl q) =
          let found = wide d n (b.front ++ b.next ∷ tail) y w (on _ begins) q (weaker w.tokens over) in
          not-on w.tokens (passes-move (is_symbol c) w.tokens _ found.1 begins) over
      at (inr q) =
          let one = closed d n (b.front ++ b.next ∷ tail) q.0 q.1 (on _ begins) q.2 (stops-at g (is_symbol c) q.1.tokens apart-on (starts q.1 q.3.1 q.3.0 q.3.2)) in
          b.none d q.1.operators tail q.3.0 q.3.1 (within-less bad.rule depth d n q.1.operators au s.operators s1.operators one.2 count inside)
          (move (Operator c) q.1.tokens (b.front ++ b.next ∷ tail) q.1.operators q.1.operators q.3.0 q.3.1 one.1 refl q.3.2) (stops-never q.3.1.tokens)

  -- what follows the connective is refused
  pub rest-none : (A : List Tok → Type 0) (s s1 s2 : State) (x : X) (t : Tok) (rule : ReadingRule) (af rf : List Tok) (au : ℕ) (next : Tok) → s.operators ≡ au + s1.operators
      → ((ts : List Tok) → Passes (is_symbol c) ts → A ts)
      → Only L WL A af au x → Only famC (Stops g) A af au x → (b : Took (λ d. Operator c) never depth s1 t s2)
      → None many W rule depth s2.operators rf next → None many W rule depth s.operators (af ++ (b.front ++ rf)) next
  rest-none A s s1 s2 x t rule af rf au next count on wide closed b rest d n tail y w inside r over =
      at (split d _ y w
      (move (many d) _ (af ++ (b.front ++ (rf ++ next ∷ tail))) n n y w
      (append_assoc af (b.front ++ rf) (next ∷ tail) ∙ ap (λ ts. af ++ ts) (append_assoc b.front rf (next ∷ tail))) refl r))
    where
      begins : Passes (is_symbol c) (b.front ++ (rf ++ next ∷ tail))
      begins = starts (st (b.front ++ (rf ++ next ∷ tail)) s1.operators) (st (rf ++ next ∷ tail) s2.operators) t (b.reads (rf ++ next ∷ tail))

      at : L d (st (af ++ (b.front ++ (rf ++ next ∷ tail))) n) y w ⊎ Longer d (st (af ++ (b.front ++ (rf ++ next ∷ tail))) n) y w → ⊥
      at (inl q) =
          let found = wide d n (b.front ++ (rf ++ next ∷ tail)) y w (on _ begins) q (weaker w.tokens over) in
          not-on w.tokens (passes-move (is_symbol c) w.tokens _ found.1 begins) over
      at (inr q) =
          let one = closed d n (b.front ++ (rf ++ next ∷ tail)) q.0 q.1 (on _ begins) q.2 (stops-at g (is_symbol c) q.1.tokens apart-on (starts q.1 q.3.1 q.3.0 q.3.2)) in
          let two = b.only d q.1.operators (rf ++ next ∷ tail) q.3.0 q.3.1 (stops-never (rf ++ next ∷ tail))
          (move (Operator c) q.1.tokens (b.front ++ (rf ++ next ∷ tail)) q.1.operators q.1.operators q.3.0 q.3.1 one.1 refl q.3.2) (stops-never q.3.1.tokens) in
          rest d q.3.1.operators tail q.3.3.0 w
          (within-less rule depth d q.1.operators q.3.1.operators b.used s1.operators s2.operators two.2 b.operators
          (within-less rule depth d n q.1.operators au s.operators s1.operators one.2 count inside))
          (move (many d) q.3.1.tokens (rf ++ next ∷ tail) q.3.1.operators q.3.1.operators q.3.3.0 w two.1 refl q.3.3.1) over

-- ---- the level: from an operand that may be open to a chain that may be

module _ {X : Type 0} (c : Kind) (join : X → Tok → X → X) (famC famO : Family X) (g conn : Kind → Bool) (depth : ℕ) (apart : g c ≡ false)
    (not-last : is_last c ≡ false) (limited : is_limited c ≡ true) (goes-on : (k : Kind) → is_symbol c k ≡ true → conn k ≡ true) where
  abbrev gg : Kind → Bool
  gg = going g (is_symbol c)

  abbrev opens : Family X
  opens d = Chained c join (famC d) (famO d)

  abbrev closeds : Family X
  closeds d = Chained c join (famC d) (famC d)

  conn-on : (ts : List Tok) → Passes (is_symbol c) ts → Stops conn ts → ⊥
  conn-on [] h e = h
  conn-on (t ∷ ts) h e = let p = goes-on t.kind h in cc

  passes-conn : (ts : List Tok) → Passes (is_symbol c) ts → Passes conn ts
  passes-conn [] h = h
  passes-conn (t ∷ ts) h = goes-on t.kind h

  itself : (ts : List Tok) → Stops conn ts → Stops conn ts
  itself ts h = h

  less : (ts : List Tok) → Stops gg ts → Stops g ts
  less ts h = stops-less g (is_symbol c) ts h

  on-closed : (ts : List Tok) → Passes (is_symbol c) ts → Stops gg ts → ⊥
  on-closed ts h e = goes-at g (is_symbol c) ts h e

  into : (us ts : List Tok) → Like gg conn us ts → Like g conn us ts
  into us ts l = record { stops = less ts l.stops; fits = l.fits }

  like-on : (us : List Tok) → Passes (is_symbol c) us → (ts : List Tok) → Passes (is_symbol c) ts → Like g conn us ts
  like-on us head ts h = record { stops = stops-at g (is_symbol c) ts (λ k e. ap g (kind-same k c e) ∙ apart) h; fits = λ e. absurd (conn-on us head e) }

  last-open : (d : ℕ) (s : State) (x : X) (z : State) → famO d s x z → opens d s x z
  last-open d s x z r = last r

  -- a closed operand, as it is read where so many levels and operators are allowed, which leaves so many operators
  abbrev Operand : ℕ → List Tok → ℕ → X → ℕ → Type 0
  Operand level ts n x m = (after : List Tok) → famC level (st (ts ++ after) n) x (st after m)

  -- what goes on behind the connective, with which a chain goes on
  goes-more : (level n m k : ℕ) (ts us vs ws : List Tok) (x : X) (t : Tok) → Operand level ts n x m
      → ((after : List Tok) → Operator c (st (us ++ after) m) t (st after k))
      → GoesOn opens level k (vs ++ ws) → GoesOn opens level n ((ts ++ (us ++ vs)) ++ ws)
  goes-more level n m k ts us vs ws x t a b r = record {
    tail = r.tail;
    value = join x t r.value;
    left = r.left;
    reads = λ after. move (opens level) (ts ++ (us ++ (((vs ++ ws) ++ r.tail) ++ after))) _ _ _ (join x t r.value) (st after r.left) (regroup after) refl
        (more (a (us ++ (((vs ++ ws) ++ r.tail) ++ after))) (b (((vs ++ ws) ++ r.tail) ++ after)) (r.reads after));
  }
    where
      regroup : (after : List Tok) → ts ++ (us ++ (((vs ++ ws) ++ r.tail) ++ after)) ≡ (((ts ++ (us ++ vs)) ++ ws) ++ r.tail) ++ after
      regroup after =
          ap (λ u. ts ++ u) (sym (append_assoc us ((vs ++ ws) ++ r.tail) after) ∙ ap (λ u. u ++ after) (sym (append_assoc us (vs ++ ws) r.tail) ∙ ap (λ u. u ++ r.tail) (sym (append_assoc us vs ws))))
          ∙ sym (append_assoc ts (((us ++ vs) ++ ws) ++ r.tail) after)
          ∙ ap (λ u. u ++ after) (sym (append_assoc ts ((us ++ vs) ++ ws) r.tail) ∙ ap (λ u. u ++ r.tail) (sym (append_assoc ts (us ++ vs) ws)))

  -- a connective with which it goes on, and then an operand
  goes-connective : (level n m : ℕ) (ts us vs : List Tok) (x : X) → Operand level ts n x m → GoesOn (λ d. Operator c) level m (us ++ vs) → Readable famO level
      → GoesOn opens level n ((ts ++ us) ++ vs)
  goes-connective level n m ts us vs x a b o = record {
    tail = b.tail ++ o.tail;
    value = join x b.value o.value;
    left = b.left;
    reads = λ after. move (opens level) (ts ++ (((us ++ vs) ++ b.tail) ++ (o.tail ++ after))) _ _ _ (join x b.value o.value) (st after b.left) (regroup after) refl
        (more (a (((us ++ vs) ++ b.tail) ++ (o.tail ++ after))) (b.reads (o.tail ++ after)) (last (o.reads b.left after)));
  }
    where
      regroup : (after : List Tok) → ts ++ (((us ++ vs) ++ b.tail) ++ (o.tail ++ after)) ≡ (((ts ++ us) ++ vs) ++ (b.tail ++ o.tail)) ++ after
      regroup after =
          ap (λ u. ts ++ u) (sym (append_assoc ((us ++ vs) ++ b.tail) o.tail after) ∙ ap (λ u. u ++ after) (append_assoc (us ++ vs) b.tail o.tail))
          ∙ sym (append_assoc ts ((us ++ vs) ++ (b.tail ++ o.tail)) after)
          ∙ ap (λ u. u ++ after) (sym (append_assoc ts (us ++ vs) (b.tail ++ o.tail)) ∙ ap (λ u. u ++ (b.tail ++ o.tail)) (sym (append_assoc ts us vs)))

  last-opened : (s s1 : State) (x : X) → Opened famO famC g conn depth s x s1 → Stops gg s1.tokens → Opened opens closeds gg conn depth s x s1
  last-opened s s1 x a stops = record {
    front = a.front;
    used = a.used;
    tokens = a.tokens;
    operators = a.operators;
    stops = stops;
    ended = a.ended;
    reads = λ after. last (a.reads after);
    closes = λ pass after. last (a.closes pass after);
    only_open =
        last_only c join famC famO g (Stops conn) (Stops conn) depth apart itself conn-on (Like g conn s1.tokens)
        (Like gg conn s1.tokens) a.front a.used x (into s1.tokens) (λ ts l. l.stops) a.only_open a.only_closed;
    only_closed =
        last_only c join famC famC g (Stops g) (Stops gg) depth apart less on-closed (Like g conn s1.tokens)
        (Like gg conn s1.tokens) a.front a.used x (into s1.tokens) (λ ts l. l.stops) a.only_closed a.only_closed;
    one_more = λ after. last (a.one_more after);
    one_more_closed = λ pass after. last (a.one_more_closed pass after);
  }

  more-opened : (s s1 s2 z : State) (x v : X) (t : Tok) → Opened famO famC g conn depth s x s1 → Passes (is_symbol c) s1.tokens
      → Took (λ d. Operator c) never depth s1 t s2 → Opened opens closeds gg conn depth s2 v z → Opened opens closeds gg conn depth s (join x t v) z
  more-opened s s1 s2 z x v t a head b r = record {
    front = a.front ++ (b.front ++ r.front);
    used = a.used + (b.used + r.used);
    tokens = a.tokens
        ∙ ap (λ ts. a.front ++ ts)
        (b.tokens ∙ ap (λ ts. b.front ++ ts) r.tokens ∙ sym (append_assoc b.front r.front z.tokens))
        ∙ sym (append_assoc a.front (b.front ++ r.front) z.tokens);
    operators = let i = a.operators in let j = b.operators in let l = r.operators in omega arith;
    stops = r.stops;
    ended = r.ended;
    reads = λ after. move (opens depth) (a.front ++ (b.front ++ (r.front ++ after))) _ _ _ _ (st after z.operators) (regroup after) refl
        (more (a.closes (passes-conn s1.tokens head) (b.front ++ (r.front ++ after))) (b.reads (r.front ++ after)) (r.reads after));
    closes = λ pass after. move (closeds depth) (a.front ++ (b.front ++ (r.front ++ after))) _ _ _ _ (st after z.operators) (regroup after) refl
        (more (a.closes (passes-conn s1.tokens head) (b.front ++ (r.front ++ after))) (b.reads (r.front ++ after)) (r.closes pass after));
    only_open =
        more_only c join famC famO g (Stops conn) (Stops conn) depth apart itself conn-on (Like g conn s1.tokens)
        (Like gg conn z.tokens) s1 s2 x v t a.front r.front a.used r.used (like-on s1.tokens head) a.only_open a.only_closed b r.only_open;
    only_closed =
        more_only c join famC famC g (Stops g) (Stops gg) depth apart less on-closed (Like g conn s1.tokens)
        (Like gg conn z.tokens) s1 s2 x v t a.front r.front a.used r.used (like-on s1.tokens head) a.only_closed
        a.only_closed b r.only_closed;
    one_more = λ after. move (opens (suc depth)) (a.front ++ (b.front ++ (r.front ++ after))) _ _ _ _ (st after (suc z.operators)) (regroup after) refl
        (more (a.one_more_closed (passes-conn s1.tokens head) (b.front ++ (r.front ++ after))) (b.one_more (r.front ++ after)) (r.one_more after));
    one_more_closed = λ pass after. move (closeds (suc depth)) (a.front ++ (b.front ++ (r.front ++ after))) _ _ _ _ (st after (suc z.operators)) (regroup after) refl
        (more (a.one_more_closed (passes-conn s1.tokens head) (b.front ++ (r.front ++ after))) (b.one_more (r.front ++ after)) (r.one_more_closed pass after));
  }
    where
      regroup : (after : List Tok) → a.front ++ (b.front ++ (r.front ++ after)) ≡ (a.front ++ (b.front ++ r.front)) ++ after
      regroup after = sym (append_assoc a.front (b.front ++ r.front) after ∙ ap (λ ts. a.front ++ ts) (append_assoc b.front r.front after))

  operand-refused : (s : State) (bad : Refusal) → RefusedOpen famO famC g conn depth s bad → RefusedOpen opens closeds gg conn depth s bad
  operand-refused s bad a = record {
    front = a.front;
    next = a.next;
    more_tokens = a.more_tokens;
    tokens = a.tokens;
    kind = a.kind;
    place = a.place;
    limited = a.limited;
    none_open = operand-none c join famC famO g (Stops conn) (Stops conn) depth apart itself conn-on bad.rule s.operators a.front a.next a.none_open a.none_closed;
    none_closed = operand-none c join famC famC g (Stops g) (Stops gg) depth apart less on-closed bad.rule s.operators a.front a.next a.none_closed a.none_closed;
    goes_on = goes-to famO opens (λ v. v) (suc depth) (suc depth) (suc s.operators) (last-open (suc depth)) (a.front ++ going_on bad.rule a.next) a.goes_on;
    first = reaches-to famO opens (λ v. v) depth depth s.operators (last-open depth) a.front a.first;
  }

  operator-refused : (s s1 : State) (x : X) (bad : Refusal) → Readable famO depth → Readable famO (suc depth) → Opened famO famC g conn depth s x s1 → Passes (is_symbol c) s1.tokens
      → Refused (λ d. Operator c) never depth s1 bad → RefusedOpen opens closeds gg conn depth s bad
  operator-refused s s1 x bad here some a head b = record {
    front = a.front ++ b.front;
    next = b.next;
    more_tokens = b.more;
    tokens = a.tokens ∙ ap (λ ts. a.front ++ ts) b.tokens ∙ sym (append_assoc a.front b.front (b.next ∷ b.more));
    kind = b.kind;
    place = b.place;
    limited = b.limited;
    none_open =
        operator-none c join famC famO g (Stops conn) (Stops conn) depth apart itself conn-on (Like g conn s1.tokens) s
        s1 x bad a.front a.used a.operators (like-on s1.tokens head) head a.only_open a.only_closed b;
    none_closed =
        operator-none c join famC famC g (Stops g) (Stops gg) depth apart less on-closed (Like g conn s1.tokens) s s1 x
        bad a.front a.used a.operators (like-on s1.tokens head) head a.only_closed a.only_closed b;
    goes_on = goes-connective (suc depth) (suc s.operators) (suc s1.operators) a.front b.front (going_on bad.rule b.next) x (a.one_more_closed (passes-conn s1.tokens head)) b.goes_on some;
    first = reaches-append opens depth s.operators a.front b.front (reaches-read opens depth s.operators s1.operators a.front x (λ after. last (a.reads after)))
        (λ before behind u e lim. goes-connective depth s.operators s1.operators a.front before (u ∷ []) x (a.closes (passes-conn s1.tokens head)) (b.first before behind u e lim) here);
  }

  rest-refused : (s s1 s2 : State) (x : X) (t : Tok) (bad : Refusal) → Readable famO depth → Opened famO famC g conn depth s x s1 → Passes (is_symbol c) s1.tokens
      → Took (λ d. Operator c) never depth s1 t s2 → RefusedOpen opens closeds gg conn depth s2 bad → RefusedOpen opens closeds gg conn depth s bad
  rest-refused s s1 s2 x t bad here a head b r = record {
    front = a.front ++ (b.front ++ r.front);
    next = r.next;
    more_tokens = r.more_tokens;
    tokens = a.tokens
        ∙ ap (λ ts. a.front ++ ts)
        (b.tokens ∙ ap (λ ts. b.front ++ ts) r.tokens ∙ sym (append_assoc b.front r.front (r.next ∷ r.more_tokens)))
        ∙ sym (append_assoc a.front (b.front ++ r.front) (r.next ∷ r.more_tokens));
    kind = r.kind;
    place = r.place;
    limited = r.limited;
    none_open =
        rest-none c join famC famO g (Stops conn) (Stops conn) depth apart itself conn-on (Like g conn s1.tokens) s s1
        s2 x t bad.rule a.front r.front a.used r.next a.operators (like-on s1.tokens head) a.only_open a.only_closed b r.none_open;
    none_closed =
        rest-none c join famC famC g (Stops g) (Stops gg) depth apart less on-closed (Like g conn s1.tokens) s s1 s2 x t
        bad.rule a.front r.front a.used r.next a.operators (like-on s1.tokens head) a.only_closed a.only_closed b r.none_closed;
    goes_on = goes-more (suc depth) (suc s.operators) (suc s1.operators) (suc s2.operators) a.front b.front r.front
        (going_on bad.rule r.next) x t (a.one_more_closed (passes-conn s1.tokens head)) b.one_more r.goes_on;
    first = reaches-append opens depth s.operators a.front (b.front ++ r.front) (reaches-read opens depth s.operators s1.operators a.front x (λ after. last (a.reads after)))
        (λ before behind u e lim. at before behind u lim (parted b.front r.front before behind u e));
  }
    where
      closed : Operand depth a.front s.operators x s1.operators
      closed = a.closes (passes-conn s1.tokens head)

      -- the connective, or what follows it
      at : (before behind : List Tok) (u : Tok) → is_limited u.kind ≡ true
          → ((rest : List Tok) × (b.front ≡ before ++ u ∷ rest)) ⊎ ((start : List Tok) × (before ≡ b.front ++ start) × (r.front ≡ start ++ u ∷ behind))
          → GoesOn opens depth s.operators ((a.front ++ before) ++ u ∷ [])
      at before behind u lim (inl f) =
          goes-connective depth s.operators s1.operators a.front before (u ∷ []) x closed
          (reaches-read (λ d. Operator c) depth s1.operators s2.operators b.front t b.reads before f.0 u f.1 lim) here
      at before behind u lim (inr f) =
          subst (λ (v : List Tok). GoesOn opens depth s.operators ((a.front ++ v) ++ u ∷ [])) (sym f.1)
          (goes-more depth s.operators s1.operators s2.operators a.front b.front f.0 (u ∷ []) x t closed b.reads (r.first f.0 behind u f.2 lim))

  fewer-left : (s s1 s2 : State) (x : X) (t : Tok) → Opened famO famC g conn depth s x s1 → Took (λ d. Operator c) never depth s1 t s2 → length s2.tokens < length s.tokens
  fewer-left s s1 s2 x t a b =
      let i = no-longer s.tokens a.front s1.tokens a.tokens in let j = shorter s1.tokens b.front s2.tokens [] t b.tokens (b.reads []).0 in omega arith

  module _ (op : Step X) (right-op : CorrectOpen op famO famC g conn depth) where
    pub open-chain-correct : (n : ℕ) (s : State) → length s.tokens ≤ n → ends s.tokens ≡ true → AnswersOpen opens closeds gg conn depth s (chain c join op n s)
    unfolding series
    open-chain-correct zero s le ended = absurd (empty s.tokens le ended)
      where
        empty : (ts : List Tok) → length ts ≤ 0 → ends ts ≡ true → ⊥
        empty [] le e = cc
        empty (t ∷ ts) le e = omega arith
    open-chain-correct (suc n) s le ended = at-item (open-chain-correct n) (op s) (right-op.answers s ended)
      where
        ends-with : (s1 : State) (x : X) (t : Tok) (s2 : State) → Opened famO famC g conn depth s x s1 → Passes (is_symbol c) s1.tokens → Took (λ d. Operator c) never depth s1 t s2
            → (o : Outcome X) → AnswersOpen opens closeds gg conn depth s2 o → AnswersOpen opens closeds gg conn depth s (and_then o (λ y. pure (join x t y)))
        ends-with s1 x t s2 a head b (Ok r) rest = more-opened s s1 s2 r.1 x r.0 t a head b rest
        ends-with s1 x t s2 a head b (Err bad) rest = rest-refused s s1 s2 x t bad right-op.here a head b rest

        fewer : (i : ℕ) → length s.tokens ≤ suc n → i < length s.tokens → i ≤ n
        fewer i a b = omega arith

        at-operator : (s1 : State) (x : X) → Opened famO famC g conn depth s x s1 → Passes (is_symbol c) s1.tokens
            → ((s2 : State) → length s2.tokens ≤ n → ends s2.tokens ≡ true → AnswersOpen opens closeds gg conn depth s2 (chain c join op n s2))
            → (o : Outcome Tok) → Answers (λ d. Operator c) never depth s1 o
            → AnswersOpen opens closeds gg conn depth s (and_then o (λ t. step.◌>>=◌ (chain c join op n) (λ y. pure (join x t y))))
        at-operator s1 x a head again (Ok r) b =
            ends-with s1 x r.0 r.1 a head b (chain c join op n r.1) (again r.1 (fewer (length r.1.tokens) le (fewer-left s s1 r.1 x r.0 a b)) b.ended)
        at-operator s1 x a head again (Err bad) b = operator-refused s s1 x bad right-op.here right-op.some a head b

        head-of : (ts : List Tok) → ends ts ≡ true → is_symbol c (head_kind ts) ≡ true → Passes (is_symbol c) ts
        head-of [] e same = cc
        head-of (t ∷ ts) e same = same

        stops-of : (ts : List Tok) → Stops g ts → is_symbol c (head_kind ts) ≡ false → Stops gg ts
        stops-of [] h other = refl
        stops-of (t ∷ ts) h other = or_from (g t.kind) _ h other

        at-kind : (s1 : State) (x : X) → Opened famO famC g conn depth s x s1
            → ((s2 : State) → length s2.tokens ≤ n → ends s2.tokens ≡ true → AnswersOpen opens closeds gg conn depth s2 (chain c join op n s2))
            → (b : Bool) → is_symbol c (kind s1) ≡ b
            → AnswersOpen opens closeds gg conn depth s (cond b (step.◌>>=◌ take_operator (λ t. step.◌>>=◌ (chain c join op n) (λ y. pure (join x t y)))) (pure x) s1)
        at-kind s1 x a again true same =
            let head = head-of s1.tokens a.ended same in
            at-operator s1 x a head again (take_operator s1) (operator-answers c depth not-last limited s1 a.ended (head-of-passes c s1.tokens head))
        at-kind s1 x a again false other = last-opened s s1 x a (stops-of s1.tokens a.stops other)

        at-item : ((s2 : State) → length s2.tokens ≤ n → ends s2.tokens ≡ true → AnswersOpen opens closeds gg conn depth s2 (chain c join op n s2))
            → (o : Outcome X) → AnswersOpen famO famC g conn depth s o
            → AnswersOpen opens closeds gg conn depth s
            (and_then o
            (λ x. step.◌>>=◌ step.peek
            (λ kind. cond (is_symbol c kind)
            (step.◌>>=◌ take_operator (λ t. step.◌>>=◌ (chain c join op n) (λ y. pure (join x t y)))) (pure x))))
        at-item again (Ok r) a = at-kind r.1 r.0 a again (is_symbol c (kind r.1)) refl
        at-item again (Err bad) a = operand-refused s bad a

    -- a chain of any length
    pub open-chains-correct : CorrectOpen (λ s. chain c join op (suc (length s.tokens)) s) opens closeds gg conn depth
    open-chains-correct = record {
      answers = λ s ended. open-chain-correct (suc (length s.tokens)) s (omega arith) ended;
      here = free-to famO opens (λ v. v) depth depth (last-open depth) [] right-op.here;
      some = free-to famO opens (λ v. v) (suc depth) (suc depth) (last-open (suc depth)) [] right-op.some;
    }
