-- Parsers that go by the first token, for families of relations: one level less, other families that relate the same, and an
-- allowance of operators of their own.
use Rattle.std.proofs.Common.{◌≡◌, ℕ, zero, suc, ◌+◌, Bool, true, List, [], ◌∷◌, ◌++◌, refl, sym, ◌∙◌, subst, zero-add, ◌⊎◌, inl, inr, arith, Ok, Err}
use Rattle.pb_text_lexer.specs.declared.kind.Kind.{Kind}
use Rattle.pb_text_lexer.specs.declared.fault.ReadingRule.{ReadingRule}
use Rattle.pb_text_lexer.specs.declared.fault.ReadingRule.TheVariants.{Unexpected, Limit}
use Rattle.pb_text_lexer.specs.declared.fault.Refusal.{Refusal}
use Rattle.pb_text_lexer.specs.Tokens.{Tok}
use Rattle.pb_text_lexer.specs.Grammar.{State, WithinLimits, going_on, Reads, Nothing, First}
use Rattle.pb_text_lexer.specs.Steps.{ends, head_kind, Step, Outcome, and_then, pure, peek, take_token, take_from, take_operator, expect, refuse, refusal, kind}
use Rattle.pb_text_lexer.specs.Steps as step
use Rattle.pb_text_lexer.proofs.Correct.{st, Family, Stops, Readable, Took, Refused, Answers, Answering, Correct, free-to, goes-to, goes-free, reaches-to, unlike, refused-here, HeadIs}

-- nothing begins here
pub record Nowhere {X : Type 0} (p : Step X) (fam : Family X) : Type 0 where
  pub refuses : p ≡ refuse Unexpected
  pub none : (d : ℕ) (s : State) (y : X) (z : State) → fam d s y z → ⊥

-- a list that goes on in the same way up to its next token begins alike
pub head-is : (k : Kind) (front : List Tok) (t : Tok) (a b ts : List Tok) → ts ≡ front ++ t ∷ a → HeadIs k ts → HeadIs k (front ++ t ∷ b)
head-is k [] t a b ts e h = subst (λ (v : List Tok). HeadIs k v) e h
head-is k (f ∷ fs) t a b ts e h = subst (λ (v : List Tok). HeadIs k v) e h

pub from-first : {X : Type 0} (R : Kind → Reads X) (k : Kind) (ts : List Tok) (n : ℕ) (y : X) (w : State) → HeadIs k ts → First R (st ts n) y w → R k (st ts n) y w
from-first R k [] n y w h r = absurd h
from-first R k (t ∷ ts) n y w h r = subst (λ (v : Kind). R v (st (t ∷ ts) n) y w) h r

pub to-first : {X : Type 0} (R : Kind → Reads X) (k : Kind) (ts : List Tok) (n : ℕ) (y : X) (w : State) → HeadIs k ts → R k (st ts n) y w → First R (st ts n) y w
to-first R k [] n y w h r = absurd h
to-first R k (t ∷ ts) n y w h r = subst (λ (v : Kind). R v (st (t ∷ ts) n) y w) (sym h) r

module _ {X : Type 0} (fam : ℕ → Kind → Reads X) (g : Kind → Bool) (depth : ℕ)
    (starts : (d : ℕ) (k : Kind) (s : State) (y : X) (z : State) → fam d k s y z → HeadIs k s.tokens) where
  abbrev firsts : Family X
  firsts d = First (fam d)

  to-firsts : (k : Kind) (d : ℕ) (s : State) (x : X) (z : State) → fam d k s x z → First (fam d) s x z
  to-firsts k d s x z r = to-first (fam d) k s.tokens s.operators x z (starts d k s x z r) r

  pub readable-first : (k : Kind) (level : ℕ) → Readable (λ d. fam d k) level → Readable firsts level
  readable-first k level a = free-to (λ d. fam d k) firsts (λ x. x) level level (to-firsts k level) [] a

  first-took : (k : Kind) (s : State) (x : X) (z : State) → Took (λ d. fam d k) g depth s x z → Took firsts g depth s x z
  first-took k s x z a = record {
    front = a.front;
    used = a.used;
    tokens = a.tokens;
    operators = a.operators;
    stops = a.stops;
    ended = a.ended;
    reads = λ after. to-first (fam depth) k _ _ x (st after z.operators) (at-front after) (a.reads after);
    only = λ d n after y w stop r over. a.only d n after y w stop (from-first (fam d) k _ n y w (at-front after) r) over;
    one_more = λ after. to-firsts k (suc depth) _ _ _ (a.one_more after);
  }
    where
      at-front : (after : List Tok) → HeadIs k (a.front ++ after)
      at-front after = starts depth k (st (a.front ++ after) s.operators) x (st after z.operators) (a.reads after)

  first-none : (k : Kind) (s : State) (bad : Refusal) → HeadIs k s.tokens → Refused (λ d. fam d k) g depth s bad → Refused firsts g depth s bad
  first-none k s bad h a = record {
    front = a.front;
    next = a.next;
    more = a.more;
    tokens = a.tokens;
    kind = a.kind;
    place = a.place;
    limited = a.limited;
    none = λ d n tail y w within r over.
        a.none d n tail y w within (from-first (fam d) k _ n y w (head-is k a.front a.next a.more tail s.tokens a.tokens h) r) over;
    goes_on = goes-to (λ d. fam d k) firsts (λ x. x) (suc depth) (suc depth) (suc s.operators) (to-firsts k (suc depth)) (a.front ++ going_on bad.rule a.next) a.goes_on;
    first = reaches-to (λ d. fam d k) firsts (λ x. x) depth depth s.operators (to-firsts k depth) a.front a.first;
  }

  pub first-answers : (f : Kind → Step X) → ((k : Kind) → Answering (HeadIs k) (f k) (λ d. fam d k) g depth ⊎ Nowhere (f k) (λ d. fam d k)) → Readable firsts (suc depth)
      → (s : State) → ends s.tokens ≡ true → Answers firsts g depth s (step.◌>>=◌ peek f s)
  first-answers f each some s end = go (kind s) refl (begins s.tokens end)
    where
      begins : (ts : List Tok) → ends ts ≡ true → HeadIs (head_kind ts) ts
      begins [] e = cc
      begins (t ∷ ts) e = refl

      wrap : (k : Kind) → HeadIs k s.tokens → (o : Outcome X) → Answers (λ d. fam d k) g depth s o → Answers firsts g depth s o
      wrap k h (Ok r) t = first-took k s r.0 r.1 t
      wrap k h (Err bad) t = first-none k s bad h t

      nowhere : (k : Kind) → kind s ≡ k → Nowhere (f k) (λ d. fam d k) → Refused firsts g depth s (refusal Unexpected s.tokens)
      nowhere k is here-none =
          refused-here firsts g depth s Unexpected end (λ q. absurd (unlike q))
          (λ d n t tail y w head within r over. here-none.none d (st (t ∷ tail) n) y w
          (from-first (fam d) k (t ∷ tail) n y w (head ∙ is) r)) (λ t is. goes-free firsts (suc depth) (suc s.operators) [] some)

      by : (k : Kind) → kind s ≡ k → HeadIs k s.tokens → Answering (HeadIs k) (f k) (λ d. fam d k) g depth ⊎ Nowhere (f k) (λ d. fam d k) → Answers firsts g depth s (f k s)
      by k is h (inl a) = wrap k h (f k s) (a s end h)
      by k is h (inr none) = subst (λ (p : Step X). Answers firsts g depth s (p s)) (sym none.refuses) (nowhere k is none)

      go : (k : Kind) → kind s ≡ k → HeadIs k s.tokens → Answers firsts g depth s (f k s)
      go k is h = by k is h (each k)

  -- there is something to be read that begins with a token of the kind c
  pub first-correct : (f : Kind → Step X) → ((k : Kind) → Answering (HeadIs k) (f k) (λ d. fam d k) g depth ⊎ Nowhere (f k) (λ d. fam d k))
      → (c : Kind) → Readable (λ d. fam d c) depth → Readable (λ d. fam d c) (suc depth) → Correct (λ ts. Unit {0}) (step.◌>>=◌ peek f) firsts g depth
  first-correct f each c here some = record {
    answers = λ s end u. first-answers f each (readable-first c (suc depth) some) s end;
    here = readable-first c depth here;
    some = readable-first c (suc depth) some;
  }

-- one level less
abbrev pub deeper : {X : Type 0} → Family X → Family X
deeper fam zero = Nothing
deeper fam (suc d) = fam d

pub readable-deeper : {X : Type 0} (fam : Family X) (level : ℕ) → Readable fam level → Readable (deeper fam) (suc level)
readable-deeper fam level a = record { tail = a.tail; value = a.value; reads = a.reads }

deeper-answers : {X : Type 0} (P : List Tok → Type 0) (p : Step X) (fam : Family X) (g : Kind → Bool) (depth : ℕ)
    → Answering P p fam g depth → Answering P p (deeper fam) g (suc depth)
deeper-answers {X} P p fam g depth a s end pre = go (p s) (a s end pre)
  where
    only : (front : List Tok) (used : ℕ) (x : X)
        → ((d n : ℕ) (after : List Tok) (y : X) (w : State) → Stops g after → fam d (st (front ++ after) n) y w → Stops g w.tokens → (y ≡ x) × (w.tokens ≡ after) × (n ≡ used + w.operators))
        → (d n : ℕ) (after : List Tok) (y : X) (w : State) → Stops g after → deeper fam d (st (front ++ after) n) y w → Stops g w.tokens → (y ≡ x) × (w.tokens ≡ after) × (n ≡ used + w.operators)
    only front used x f zero n after y w stop r over = absurd r
    only front used x f (suc d) n after y w stop r over = f d n after y w stop r over

    less : (rule : ReadingRule) (d n : ℕ) → WithinLimits rule (suc depth) s.operators (suc d) n → WithinLimits rule depth s.operators d n
    less Unexpected d n w = tt
    less Limit d n w = let p = w.0 in (omega arith, w.1)

    none : (rule : ReadingRule) (front : List Tok) (next : Tok)
        → ((d n : ℕ) (tail : List Tok) (y : X) (w : State) → WithinLimits rule depth s.operators d n → fam d (st (front ++ next ∷ tail) n) y w → Stops g w.tokens → ⊥)
        → (d n : ℕ) (tail : List Tok) (y : X) (w : State) → WithinLimits rule (suc depth) s.operators d n → deeper fam d (st (front ++ next ∷ tail) n) y w → Stops g w.tokens → ⊥
    none rule front next f zero n tail y w within r over = r
    none rule front next f (suc d) n tail y w within r over = f d n tail y w (less rule d n within) r over

    go : (o : Outcome X) → Answers fam g depth s o → Answers (deeper fam) g (suc depth) s o
    go (Ok r) t =
        record {
          front = t.front;
          used = t.used;
          tokens = t.tokens;
          operators = t.operators;
          stops = t.stops;
          ended =
              t.ended;
          reads = t.reads;
          only = only t.front t.used r.0 t.only;
          one_more = t.one_more;
        }
    go (Err bad) t = record {
      front = t.front;
      next = t.next;
      more = t.more;
      tokens = t.tokens;
      kind = t.kind;
      place = t.place;
      limited = t.limited;
      none = none bad.rule t.front t.next t.none;
      goes_on = let c = t.goes_on in record { tail = c.tail; value = c.value; left = c.left; reads = c.reads };
      first = λ before behind u e lim. let c = t.first before behind u e lim in record { tail = c.tail; value = c.value; left = c.left; reads = c.reads };
    }

pub deeper-correct : {X : Type 0} (P : List Tok → Type 0) (p : Step X) (fam : Family X) (g : Kind → Bool) (depth : ℕ)
    → Correct P p fam g depth → Correct P p (deeper fam) g (suc depth)
deeper-correct {X} P p fam g depth a = record {
  answers = λ s end pre. deeper-answers P p fam g depth a.answers s end pre;
  here = readable-deeper fam depth a.here;
  some = readable-deeper fam (suc depth) a.some;
}

-- two families that relate the same
pub alike-correct : {X : Type 0} (P : List Tok → Type 0) (p : Step X) (fam fam' : Family X) (g : Kind → Bool) (depth : ℕ)
    → ((d : ℕ) (s : State) (y : X) (z : State) → fam d s y z → fam' d s y z)
    → ((d : ℕ) (s : State) (y : X) (z : State) → fam' d s y z → fam d s y z)
    → Correct P p fam g depth → Correct P p fam' g depth
alike-correct {X} P p fam fam' g depth to from a = record {
  answers = λ s end pre. go s (p s) (a.answers s end pre);
  here = free-to fam fam' (λ x. x) depth depth (to depth) [] a.here;
  some = free-to fam fam' (λ x. x) (suc depth) (suc depth) (to (suc depth)) [] a.some;
}
  where
    go : (s : State) (o : Outcome X) → Answers fam g depth s o → Answers fam' g depth s o
    go s (Ok r) t = record {
      front = t.front;
      used = t.used;
      tokens = t.tokens;
      operators = t.operators;
      stops = t.stops;
      ended = t.ended;
      reads = λ after. to depth _ _ _ (t.reads after);
      only = λ d n after y w stop q over. t.only d n after y w stop (from d _ y w q) over;
      one_more = λ after. to (suc depth) _ _ _ (t.one_more after);
    }
    go s (Err bad) t = record {
      front = t.front;
      next = t.next;
      more = t.more;
      tokens = t.tokens;
      kind = t.kind;
      place = t.place;
      limited = t.limited;
      none = λ d n tail y w within q over. t.none d n tail y w within (from d _ y w q) over;
      goes_on = goes-to fam fam' (λ x. x) (suc depth) (suc depth) (suc s.operators) (to (suc depth)) (t.front ++ going_on bad.rule t.next) t.goes_on;
      first = reaches-to fam fam' (λ x. x) depth depth s.operators (to depth) t.front t.first;
    }

pub weaker-correct : {X : Type 0} (P Q : List Tok → Type 0) (p : Step X) (fam : Family X) (g : Kind → Bool) (depth : ℕ)
    → ((ts : List Tok) → Q ts → P ts) → Correct P p fam g depth → Correct Q p fam g depth
weaker-correct P Q p fam g depth h a = record { answers = λ s end pre. a.answers s end (h s.tokens pre); here = a.here; some = a.some }

-- what is read inside with all the operators that are allowed, and takes none of them from what follows
abbrev pub own : {X : Type 0} → Family X → Family X
own fam d s x z = (m : ℕ) × fam d s x (st z.tokens m) × (z.operators ≡ s.operators)

pub own-correct : {X : Type 0} (P : List Tok → Type 0) (p : Step X) (fam : Family X) (g : Kind → Bool) (depth : ℕ)
    → Correct P p fam g depth → Correct P (step.alone p) (own fam) g depth
own-correct {X} P p fam g depth a = record {
  answers = λ s end pre. go s (p s) (a.answers s end pre);
  here = let c = a.here in record { tail = c.tail; value = c.value; reads = λ n after. (n, c.reads n after, refl) };
  some = let c = a.some in record { tail = c.tail; value = c.value; reads = λ n after. (n, c.reads n after, refl) };
}
  where
    go : (s : State) (o : Outcome X) → Answers fam g depth s o → Answers (own fam) g depth s (step.with_operators s.operators o)
    go s (Ok r) t = record {
      front = t.front;
      used = 0;
      tokens = t.tokens;
      operators = sym (zero-add s.operators);
      stops = t.stops;
      ended = t.ended;
      reads = λ after. (r.1.operators, t.reads after, refl);
      only = λ d n after y w stop q over. (let f = t.only d n after y (st w.tokens q.0) stop q.1 over in (f.0, f.1, (let e = q.2 in omega arith)));
      one_more = λ after. (suc r.1.operators, t.one_more after, refl);
    }
    go s (Err bad) t = record {
      front = t.front;
      next = t.next;
      more = t.more;
      tokens = t.tokens;
      kind = t.kind;
      place = t.place;
      limited = t.limited;
      none = λ d n tail y w within q over. t.none d n tail y (st w.tokens q.0) within q.1 over;
      goes_on = let c = t.goes_on in record { tail = c.tail; value = c.value; left = suc s.operators; reads = λ after. (c.left, c.reads after, refl) };
      first = λ before behind u e lim.
          let c = t.first before behind u e lim in record { tail = c.tail; value = c.value; left = s.operators; reads = λ after. (c.left, c.reads after, refl) };
    }
