-- When a parser is right for a relation: what it reads is read so, nothing else is, and where it refuses nothing is.
use Rattle.std.proofs.Common.{◌≡◌, ◌≢◌, ℕ, suc, ◌+◌, ◌-◌, ◌≤◌, Bool, true, false, cond, List, [], ◌∷◌, ◌++◌, refl, sym, ◌∙◌, ap, subst, append_assoc, zero-add, ◌==◌, ◌⊎◌, inl, inr, arith, Ok, Err}
use Rattle.std.proofs.lemmas.Bool.Decides.{eqb_tells}
use Rattle.std.proofs.lemmas.List.{append-nil}
use Rattle.pb_text_lexer.specs.declared.kind.Kind.{Kind}
use Rattle.pb_text_lexer.specs.declared.fault.ReadingRule.{ReadingRule}
use Rattle.pb_text_lexer.specs.declared.fault.ReadingRule.TheVariants.{Unexpected, Limit}
use Rattle.pb_text_lexer.specs.declared.fault.Refusal.{Refusal}
use Rattle.pb_text_lexer.specs.Kinds.{same_kind, is_last, is_limited}
use Rattle.pb_text_lexer.specs.Lexing.{start}
use Rattle.pb_text_lexer.specs.Tokens.{Tok, token_at}
use Rattle.pb_text_lexer.specs.Grammar.{State, WithinLimits, going_on, Reads, Is, Nothing, One, Operator, First, by_first}
use Rattle.pb_text_lexer.specs.Grammar as grammar
use Rattle.pb_text_lexer.specs.Steps.{ends, head_kind, Step, Outcome, and_then, pure, peek, take_token, take_from, take_operator, expect, refuse, refusal, kind}
use Rattle.pb_text_lexer.specs.Steps as step
use Rattle.pb_text_lexer.proofs.TokenLemmas.{ends-behind, kind-same, same-kind}

abbrev pub st : List Tok → ℕ → State
st ts n = record { tokens = ts; operators = n }

-- a relation for each number of levels that may open
abbrev pub Family : Type 0 → Type 1
Family X = ℕ → Reads X

-- whether the first token would go on with what was read
abbrev pub goes_at : (Kind → Bool) → List Tok → Bool
goes_at g [] = false
goes_at g (t ∷ ts) = g t.kind

abbrev pub Stops : (Kind → Bool) → List Tok → Type 0
Stops g ts = goes_at g ts ≡ false

abbrev pub never : Kind → Bool
never k = false

pub stops-never : (ts : List Tok) → Stops never ts
stops-never [] = refl
stops-never (t ∷ ts) = refl

-- what begins with these tokens is read so, if it goes on rightly, where so many levels and operators are allowed
pub record GoesOn {X : Type 0} (fam : Family X) (level operators : ℕ) (ts : List Tok) : Type 0 where
  pub tail : List Tok
  pub value : X
  pub left : ℕ
  pub reads : (after : List Tok) → fam level (st ((ts ++ tail) ++ after) operators) value (st after left)

-- the same without an operator
pub record Free {X : Type 0} (fam : Family X) (level : ℕ) (ts : List Tok) : Type 0 where
  pub tail : List Tok
  pub value : X
  pub reads : (n : ℕ) (after : List Tok) → fam level (st ((ts ++ tail) ++ after) n) value (st after n)

-- something is read so
abbrev pub Readable : {X : Type 0} → Family X → ℕ → Type 0
Readable fam level = Free fam level []

-- Up to each of these tokens at which a limit can be exceeded, what begins so is read so, if it goes on rightly.
abbrev pub Reaches : {X : Type 0} → Family X → ℕ → ℕ → List Tok → Type 0
Reaches fam level operators ts = (before behind : List Tok) (t : Tok) → ts ≡ before ++ t ∷ behind → is_limited t.kind ≡ true
    → GoesOn fam level operators (before ++ t ∷ [])

pub record Took {X : Type 0} (fam : Family X) (g : Kind → Bool) (depth : ℕ) (s : State) (x : X) (z : State) : Type 0 where
  pub front : List Tok
  pub used : ℕ
  pub tokens : s.tokens ≡ front ++ z.tokens
  pub operators : s.operators ≡ used + z.operators
  pub stops : Stops g z.tokens
  pub ended : ends z.tokens ≡ true
  pub reads : (after : List Tok) → fam depth (st (front ++ after) s.operators) x (st after z.operators)
  pub only : (d n : ℕ) (after : List Tok) (y : X) (w : State) → Stops g after → fam d (st (front ++ after) n) y w → Stops g w.tokens
      → (y ≡ x) × (w.tokens ≡ after) × (n ≡ used + w.operators)
  pub one_more : (after : List Tok) → fam (suc depth) (st (front ++ after) (suc s.operators)) x (st after (suc z.operators))

pub record Refused {X : Type 0} (fam : Family X) (g : Kind → Bool) (depth : ℕ) (s : State) (bad : Refusal) : Type 0 where
  pub front : List Tok
  pub next : Tok
  pub more : List Tok
  pub tokens : s.tokens ≡ front ++ next ∷ more
  pub kind : bad.kind ≡ next.kind
  pub place : bad.place ≡ next.place
  pub limited : bad.rule ≡ Limit → is_limited next.kind ≡ true
  pub none : (d n : ℕ) (tail : List Tok) (y : X) (w : State) → WithinLimits bad.rule depth s.operators d n
      → fam d (st (front ++ next ∷ tail) n) y w → Stops g w.tokens → ⊥
  pub goes_on : GoesOn fam (suc depth) (suc s.operators) (front ++ going_on bad.rule next)
  pub first : Reaches fam depth s.operators front

abbrev pub Answers : {X : Type 0} → Family X → (Kind → Bool) → ℕ → State → Outcome X → Type 0
Answers fam g depth s (Ok r) = Took fam g depth s r.0 r.1
Answers fam g depth s (Err bad) = Refused fam g depth s bad

-- from each state whose tokens end rightly and meet P
abbrev pub Answering : {X : Type 0} → (List Tok → Type 0) → Step X → Family X → (Kind → Bool) → ℕ → Type 0
Answering P p fam g depth = (s : State) → ends s.tokens ≡ true → P s.tokens → Answers fam g depth s (p s)

-- so it answers, and there is something to be read, also with one level more
pub record Correct {X : Type 0} (P : List Tok → Type 0) (p : Step X) (fam : Family X) (g : Kind → Bool) (depth : ℕ) : Type 0 where
  pub answers : Answering P p fam g depth
  pub here : Readable fam depth
  pub some : Readable fam (suc depth)

-- ---- one thing and then another

pub move : {Y : Type 0} (R : State → Y → State → Type 0) (ts us : List Tok) (n m : ℕ) (y : Y) (z : State) → ts ≡ us → n ≡ m → R (st ts n) y z → R (st us m) y z
move R ts us n m y z p q h = subst (λ (v : List Tok). R (st v m) y z) p (subst (λ (v : ℕ). R (st ts v) y z) q h)

-- the first token of what is left does not depend on what follows it
pub same-head : (g : Kind → Bool) (front : List Tok) (t : Tok) (a b ts : List Tok) → ts ≡ front ++ t ∷ a → Stops g ts → Stops g (front ++ t ∷ b)
same-head g [] t a b ts e h = subst (λ (v : List Tok). Stops g v) e h
same-head g (f ∷ fs) t a b ts e h = subst (λ (v : List Tok). Stops g v) e h

pub within-less : (rule : ReadingRule) (depth d n m used a b : ℕ) → n ≡ used + m → a ≡ used + b → WithinLimits rule depth a d n → WithinLimits rule depth b d m
within-less Unexpected depth d n m used a b p q h = tt
within-less Limit depth d n m used a b p q h = (h.0, omega arith)

-- ---- what goes on

pub goes-free : {X : Type 0} (fam : Family X) (level n : ℕ) (ts : List Tok) → Free fam level ts → GoesOn fam level n ts
goes-free fam level n ts a = record { tail = a.tail; value = a.value; left = n; reads = λ after. a.reads n after }

pub readable-free : {X : Type 0} (fam : Family X) (level : ℕ) (ts : List Tok) → Free fam level ts → Readable fam level
readable-free fam level ts a = record { tail = ts ++ a.tail; value = a.value; reads = a.reads }

-- what relates the same of another value
pub free-to : {X Y : Type 0} (fam : Family X) (fam' : Family Y) (f : X → Y) (level level' : ℕ) → ((s : State) (x : X) (z : State) → fam level s x z → fam' level' s (f x) z)
    → (ts : List Tok) → Free fam level ts → Free fam' level' ts
free-to fam fam' f level level' to ts a = record { tail = a.tail; value = f a.value; reads = λ n after. to _ _ _ (a.reads n after) }

pub goes-to : {X Y : Type 0} (fam : Family X) (fam' : Family Y) (f : X → Y) (level level' n : ℕ) → ((s : State) (x : X) (z : State) → fam level s x z → fam' level' s (f x) z)
    → (ts : List Tok) → GoesOn fam level n ts → GoesOn fam' level' n ts
goes-to fam fam' f level level' n to ts a = record { tail = a.tail; value = f a.value; left = a.left; reads = λ after. to _ _ _ (a.reads after) }

pub readable-is : {X : Type 0} (x : X) (level : ℕ) → Readable (λ d. Is x) level
readable-is x level = record { tail = []; value = x; reads = λ n after. (refl, refl) }

-- a token of a kind, wherever it stands
abbrev pub some-token : Kind → Tok
some-token k = token_at start k []

pub free-one : (k : Kind) (level : ℕ) (t : Tok) → t.kind ≡ k → Free (λ d. One k) level (t ∷ [])
free-one k level t is = record { tail = []; value = t; reads = λ n after. (refl, is, refl) }

pub readable-one : (k : Kind) (level : ℕ) → Readable (λ d. One k) level
readable-one k level = readable-free (λ d. One k) level (some-token k ∷ []) (free-one k level (some-token k) refl)

-- behind the last token
pub goes-ended : {X : Type 0} (fam : Family X) (level n m : ℕ) (ts : List Tok) (x : X) → ((after : List Tok) → fam level (st (ts ++ after) n) x (st after m)) → GoesOn fam level n (ts ++ [])
goes-ended fam level n m ts x reads = record {
  tail = [];
  value = x;
  left = m;
  reads = λ after. move (fam level) (ts ++ after) (((ts ++ []) ++ []) ++ after) n n x (st after m) (ap (λ v. v ++ after) (sym (append-nil (ts ++ []) ∙ append-nil ts))) refl (reads after);
}

-- ---- up to each token at which a limit can be exceeded

pub reaches-none : {X : Type 0} (fam : Family X) (level n : ℕ) → Reaches fam level n []
reaches-none fam level n [] behind t e lim = cc
reaches-none fam level n (b ∷ before) behind t e lim = cc

pub reaches-to : {X Y : Type 0} (fam : Family X) (fam' : Family Y) (f : X → Y) (level level' n : ℕ) → ((s : State) (x : X) (z : State) → fam level s x z → fam' level' s (f x) z)
    → (ts : List Tok) → Reaches fam level n ts → Reaches fam' level' n ts
reaches-to fam fam' f level level' n to ts a before behind t e lim = goes-to fam fam' f level level' n to (before ++ t ∷ []) (a before behind t e lim)

-- what is read as it stands
pub reaches-read : {X : Type 0} (fam : Family X) (level n m : ℕ) (ts : List Tok) (x : X) → ((after : List Tok) → fam level (st (ts ++ after) n) x (st after m)) → Reaches fam level n ts
reaches-read fam level n m ts x reads before behind t e lim = record {
  tail = behind;
  value = x;
  left = m;
  reads = λ after. move (fam level) (ts ++ after) (((before ++ t ∷ []) ++ behind) ++ after) n n x (st after m)
      (ap (λ v. v ++ after) (e ∙ sym (append_assoc before (t ∷ []) behind))) refl (reads after);
}

-- a token of two lists is one of the first or one of the second
pub parted : (ts us before behind : List Tok) (t : Tok) → ts ++ us ≡ before ++ t ∷ behind
    → ((rest : List Tok) × (ts ≡ before ++ t ∷ rest)) ⊎ ((start : List Tok) × (before ≡ ts ++ start) × (us ≡ start ++ t ∷ behind))
parted [] us before behind t e = inr (before, refl, e)
parted (x ∷ ts) us [] behind t e = inl (ts, cc)
parted (x ∷ ts) us (b ∷ before) behind t e = let p : x ≡ b = cc in let q : ts ++ us ≡ before ++ t ∷ behind = cc in by p (parted ts us before behind t q)
  where
    by : x ≡ b → ((rest : List Tok) × (ts ≡ before ++ t ∷ rest)) ⊎ ((start : List Tok) × (before ≡ ts ++ start) × (us ≡ start ++ t ∷ behind))
        → ((rest : List Tok) × (x ∷ ts ≡ b ∷ before ++ t ∷ rest)) ⊎ ((start : List Tok) × (b ∷ before ≡ (x ∷ ts) ++ start) × (us ≡ start ++ t ∷ behind))
    by p (inl f) = let q = f.1 in inl (f.0, cc)
    by p (inr f) = let q = f.1 in inr (f.0, cc, f.2)

-- a list, and then another behind it
pub reaches-append : {X : Type 0} (fam : Family X) (level n : ℕ) (ts us : List Tok) → Reaches fam level n ts
    → ((before behind : List Tok) (t : Tok) → us ≡ before ++ t ∷ behind → is_limited t.kind ≡ true → GoesOn fam level n ((ts ++ before) ++ t ∷ []))
    → Reaches fam level n (ts ++ us)
reaches-append fam level n ts us early late before behind t e lim = by (parted ts us before behind t e)
  where
    by : ((rest : List Tok) × (ts ≡ before ++ t ∷ rest)) ⊎ ((start : List Tok) × (before ≡ ts ++ start) × (us ≡ start ++ t ∷ behind)) → GoesOn fam level n (before ++ t ∷ [])
    by (inl f) = early before f.0 t f.1 lim
    by (inr f) = subst (λ (v : List Tok). GoesOn fam level n (v ++ t ∷ [])) (sym f.1) (late f.0 behind t f.2 lim)

-- at none of these tokens a limit can be exceeded
abbrev pub Unlimited : List Tok → Type 0
Unlimited ts = (before behind : List Tok) (t : Tok) → ts ≡ before ++ t ∷ behind → is_limited t.kind ≡ true → ⊥

pub reaches-unlimited : {X : Type 0} (fam : Family X) (level n : ℕ) (ts : List Tok) → Unlimited ts → Reaches fam level n ts
reaches-unlimited fam level n ts none before behind t e lim = absurd (none before behind t e lim)

pub unlimited-none : Unlimited []
unlimited-none [] behind t e lim = cc
unlimited-none (b ∷ before) behind t e lim = cc

pub unlimited-one : (t : Tok) → is_limited t.kind ≡ false → Unlimited (t ∷ [])
unlimited-one t off [] behind u e lim = let p : t ≡ u = cc in let q : is_limited t.kind ≡ true = subst (λ (v : Tok). is_limited v.kind ≡ true) (sym p) lim in cc
unlimited-one t off (b ∷ before) behind u e lim = let q : [] ≡ before ++ u ∷ behind = cc in unlimited-none before behind u q lim

module _ {X Y : Type 0} (famR : Family X) (famS : X → Family Y) (level : ℕ) where
  abbrev both-of : Family Y
  both-of d = grammar.◌>>=◌ (famR d) (λ x. famS x d)

  regroup : (ts us vs after : List Tok) → (ts ++ us) ++ (vs ++ after) ≡ (ts ++ (us ++ vs)) ++ after
  regroup ts us vs after = sym (append_assoc (ts ++ us) vs after) ∙ ap (λ v. v ++ after) (append_assoc ts us vs)

  pub free-then : (ts : List Tok) → Free famR level ts → ((x : X) → Readable (famS x) level) → Free both-of level ts
  free-then ts a rest =
      let b = rest a.value in record {
        tail = a.tail ++ b.tail;
        value = b.value;
        reads = λ n after. move (both-of level) ((ts ++ a.tail) ++ (b.tail ++ after)) _ n n b.value (st after n) (regroup ts a.tail b.tail after) refl
            (a.value, st (b.tail ++ after) n, a.reads n (b.tail ++ after), b.reads n after);
      }

  pub goes-first : (ts : List Tok) (n : ℕ) → GoesOn famR level n ts → ((x : X) → Readable (famS x) level) → GoesOn both-of level n ts
  goes-first ts n a rest =
      let b = rest a.value in record {
        tail = a.tail ++ b.tail;
        value = b.value;
        left = a.left;
        reads = λ after. move (both-of level) ((ts ++ a.tail) ++ (b.tail ++ after)) _ n n b.value (st after a.left) (regroup ts a.tail b.tail after) refl
            (a.value, st (b.tail ++ after) a.left, a.reads (b.tail ++ after), b.reads a.left after);
      }

  pub goes-then : (ts us vs : List Tok) (n m : ℕ) (x : X) → ((after : List Tok) → famR level (st (ts ++ after) n) x (st after m)) → GoesOn (famS x) level m (us ++ vs)
      → GoesOn both-of level n ((ts ++ us) ++ vs)
  goes-then ts us vs n m x first b = record {
    tail = b.tail;
    value = b.value;
    left = b.left;
    reads = λ after. move (both-of level) (ts ++ (((us ++ vs) ++ b.tail) ++ after)) _ n n b.value (st after b.left)
        (sym (append_assoc ts ((us ++ vs) ++ b.tail) after) ∙ ap (λ v. v ++ after) (sym (append_assoc ts (us ++ vs) b.tail) ∙ ap (λ v. v ++ b.tail) (sym (append_assoc ts us vs)))) refl
        (x, st (((us ++ vs) ++ b.tail) ++ after) m, first (((us ++ vs) ++ b.tail) ++ after), b.reads after);
  }

  pub reaches-first : (ts : List Tok) (n : ℕ) → Reaches famR level n ts → ((x : X) → Readable (famS x) level) → Reaches both-of level n ts
  reaches-first ts n a rest before behind t e lim = goes-first (before ++ t ∷ []) n (a before behind t e lim) rest

  pub reaches-then : (ts us : List Tok) (n m : ℕ) (x : X) → ((after : List Tok) → famR level (st (ts ++ after) n) x (st after m)) → Reaches both-of level n ts → Reaches (famS x) level m us
      → Reaches both-of level n (ts ++ us)
  reaches-then ts us n m x reads early late =
      reaches-append both-of level n ts us early (λ before behind t e lim. goes-then ts before (t ∷ []) n m x reads (late before behind t e lim))

module _ {X Y : Type 0} (famR : Family X) (famS : X → Family Y) (g h : Kind → Bool) (depth : ℕ)
    (follow : (d : ℕ) (x : X) (m : State) (y : Y) (z : State) → famS x d m y z → Stops h z.tokens → Stops g m.tokens) where
  abbrev pub both : Family Y
  both d = grammar.◌>>=◌ (famR d) (λ x. famS x d)

  unfoldable pub then-took : (s m : State) (x : X) (y : Y) (z : State) → Took famR g depth s x m → Took (famS x) h depth m y z → Took both h depth s y z
  then-took s m x y z a b = record {
    front = a.front ++ b.front;
    used = a.used + b.used;
    tokens = a.tokens ∙ ap (λ v. a.front ++ v) b.tokens ∙ sym (append_assoc a.front b.front z.tokens);
    operators = let p = a.operators in let q = b.operators in omega arith;
    stops = b.stops;
    ended = b.ended;
    reads = λ after. move (both depth) _ _ _ _ y (st after z.operators) (sym (append_assoc a.front b.front after)) refl
        (x, st (b.front ++ after) m.operators, a.reads (b.front ++ after), b.reads after);
    only = λ d n after v w stop r over. only d n after v w stop (move (both d) _ _ _ _ v w (append_assoc a.front b.front after) refl r) over;
    one_more = λ after. move (both (suc depth)) _ _ _ _ y (st after (suc z.operators)) (sym (append_assoc a.front b.front after)) refl
        (x, st (b.front ++ after) (suc m.operators), a.one_more (b.front ++ after), b.one_more after);
  }
    where
      last : (d n : ℕ) (after : List Tok) (v : Y) (w m' : State) (x' : X) → Stops h after → Stops h w.tokens
          → (x' ≡ x) → (m'.tokens ≡ b.front ++ after) → (n ≡ a.used + m'.operators) → famS x' d m' v w
          → (v ≡ y) × (w.tokens ≡ after) × (n ≡ a.used + b.used + w.operators)
      last d n after v w m' x' stop over same at count r =
          let r' : famS x d (st (b.front ++ after) m'.operators) v w = move (famS x d) m'.tokens _ _ _ v w at refl (subst (λ (u : X). famS u d m' v w) same r) in
          let found = b.only d m'.operators after v w stop r' over in
          (found.0, found.1, (let p = found.2 in omega arith))

      only : (d n : ℕ) (after : List Tok) (v : Y) (w : State) → Stops h after → both d (st (a.front ++ (b.front ++ after)) n) v w → Stops h w.tokens
          → (v ≡ y) × (w.tokens ≡ after) × (n ≡ a.used + b.used + w.operators)
      only d n after v w stop r over =
          let here = follow depth x (st (b.front ++ after) m.operators) y (st after z.operators) (b.reads after) stop in
          let found = a.only d n (b.front ++ after) r.0 r.1 here r.2 (follow d r.0 r.1 v w r.3 over) in
          last d n after v w r.1 r.0 stop over found.0 found.1 found.2 r.3

  pub then-tokens : (s m : State) (x : X) (bad : Refusal) (a : Took famR g depth s x m) (b : Refused (famS x) h depth m bad) → s.tokens ≡ (a.front ++ b.front) ++ b.next ∷ b.more
  then-tokens s m x bad a b = a.tokens ∙ ap (λ v. a.front ++ v) b.tokens ∙ sym (append_assoc a.front b.front (b.next ∷ b.more))

  pub then-none : (s m : State) (x : X) (bad : Refusal) (a : Took famR g depth s x m) (b : Refused (famS x) h depth m bad) (d n : ℕ) (tail : List Tok) (v : Y) (w : State)
      → WithinLimits bad.rule depth s.operators d n → both d (st ((a.front ++ b.front) ++ b.next ∷ tail) n) v w → Stops h w.tokens → ⊥
  then-none s m x bad a b d n tail v w within r over = none d n tail v w within (move (both d) _ _ _ _ v w (append_assoc a.front b.front (b.next ∷ tail)) refl r) over
    where
      last : (d n : ℕ) (tail : List Tok) (v : Y) (w m' : State) (x' : X) → WithinLimits bad.rule depth s.operators d n → Stops h w.tokens
          → (x' ≡ x) → (m'.tokens ≡ b.front ++ b.next ∷ tail) → (n ≡ a.used + m'.operators) → famS x' d m' v w → ⊥
      last d n tail v w m' x' within over same at count r =
          b.none d m'.operators tail v w (within-less bad.rule depth d n m'.operators a.used s.operators m.operators count a.operators within)
          (move (famS x d) m'.tokens _ _ _ v w at refl (subst (λ (u : X). famS u d m' v w) same r)) over

      none : (d n : ℕ) (tail : List Tok) (v : Y) (w : State) → WithinLimits bad.rule depth s.operators d n
          → both d (st (a.front ++ (b.front ++ b.next ∷ tail)) n) v w → Stops h w.tokens → ⊥
      none d n tail v w within r over =
          let found = a.only d n (b.front ++ b.next ∷ tail) r.0 r.1 (same-head g b.front b.next b.more tail m.tokens b.tokens a.stops) r.2 (follow d r.0 r.1 v w r.3 over) in
          last d n tail v w r.1 r.0 within over found.0 found.1 found.2 r.3

  -- what follows is refused, where both go on up to each token of the first at which a limit can be exceeded
  pub then-refused : (s m : State) (x : X) (bad : Refusal) (a : Took famR g depth s x m) → Reaches both depth s.operators a.front → Refused (famS x) h depth m bad → Refused both h depth s bad
  then-refused s m x bad a early b = record {
    front = a.front ++ b.front;
    next = b.next;
    more = b.more;
    tokens = then-tokens s m x bad a b;
    kind = b.kind;
    place = b.place;
    limited = b.limited;
    none = then-none s m x bad a b;
    goes_on = goes-then famR famS (suc depth) a.front b.front (going_on bad.rule b.next) (suc s.operators) (suc m.operators) x a.one_more b.goes_on;
    first = reaches-then famR famS depth a.front b.front s.operators m.operators x a.reads early b.first;
  }

  pub first-refused : (s : State) (bad : Refusal) → ((x : X) → Readable (famS x) depth) → ((x : X) → Readable (famS x) (suc depth)) → Refused famR g depth s bad → Refused both h depth s bad
  first-refused s bad here rest a = record {
    front = a.front;
    next = a.next;
    more = a.more;
    tokens = a.tokens;
    kind = a.kind;
    place = a.place;
    limited = a.limited;
    none = λ d n tail v w within r over. a.none d n tail r.0 r.1 within r.2 (follow d r.0 r.1 v w r.3 over);
    goes_on = goes-first famR famS (suc depth) (a.front ++ going_on bad.rule a.next) (suc s.operators) a.goes_on rest;
    first = reaches-first famR famS depth a.front s.operators a.first here;
  }

  pub then-answers : (P : List Tok → Type 0) (p : Step X) (q : X → Step Y) → Answering P p famR g depth
      → ((x : X) → Correct (Stops g) (q x) (famS x) h depth) → Answering P (step.◌>>=◌ p q) both h depth
  then-answers P p q a b s end pre = step (p s) (a s end pre)
    where
      second : (m : State) (x : X) → Took famR g depth s x m → (o : Outcome Y) → Answers (famS x) h depth m o → Answers both h depth s o
      second m x t (Ok r) u = then-took s m x r.0 r.1 t u
      second m x t (Err bad) u =
          then-refused s m x bad t (reaches-first famR famS depth t.front s.operators (reaches-read famR depth s.operators m.operators t.front x t.reads) (λ y. (b y).here)) u

      step : (o : Outcome X) → Answers famR g depth s o → Answers both h depth s (and_then o q)
      step (Ok r) t = second r.1 r.0 t (q r.0 r.1) ((b r.0).answers r.1 t.ended t.stops)
      step (Err bad) t = first-refused s bad (λ x. (b x).here) (λ x. (b x).some) t

  pub then-correct : (P : List Tok → Type 0) (p : Step X) (q : X → Step Y) → Correct P p famR g depth
      → ((x : X) → Correct (Stops g) (q x) (famS x) h depth) → Correct P (step.◌>>=◌ p q) both h depth
  then-correct P p q a b = record {
    answers = then-answers P p q a.answers b;
    here = free-then famR famS depth [] a.here (λ x. (b x).here);
    some = free-then famR famS (suc depth) [] a.some (λ x. (b x).some);
  }

-- ---- a value at no token; a token; a refusal; by the first token

pub pure-correct : {X : Type 0} (x : X) (g : Kind → Bool) (depth : ℕ) → Correct (Stops g) (pure x) (λ d. Is x) g depth
pure-correct {X} x g depth = record { answers = λ s end stop. took s end stop; here = readable-is x depth; some = readable-is x (suc depth) }
  where
    took : (s : State) → ends s.tokens ≡ true → Stops g s.tokens → Took (λ d. Is x) g depth s x s
    took s end stop = record {
      front = [];
      used = 0;
      tokens = refl;
      operators = omega arith;
      stops = stop;
      ended = end;
      reads = λ after. (refl, refl);
      only = λ d n after y w stops r over. (r.0, ap (λ v. v.tokens) r.1, (let p : w.operators ≡ n = ap (λ v. v.operators) r.1 in omega arith));
      one_more = λ after. (refl, refl);
    }

-- a relation on the next token alone
pub one-took : {X : Type 0} (fam : Family X) (depth : ℕ) (t : Tok) (ts : List Tok) (used n : ℕ) (x : X) → ends ts ≡ true
    → ((d m : ℕ) (after : List Tok) → fam d (st (t ∷ after) (used + m)) x (st after m))
    → ((d m : ℕ) (after : List Tok) (y : X) (w : State) → fam d (st (t ∷ after) m) y w → (y ≡ x) × (w.tokens ≡ after) × (m ≡ used + w.operators))
    → Took fam never depth (st (t ∷ ts) (used + n)) x (st ts n)
one-took fam depth t ts used n x end reads only = record {
  front = t ∷ [];
  used = used;
  tokens = refl;
  operators = refl;
  stops = stops-never ts;
  ended = end;
  reads = λ after. reads depth n after;
  only = λ d m after y w stop r over. only d m after y w r;
  one_more = λ after. move (fam (suc depth)) (t ∷ after) (t ∷ after) (used + suc n) (suc (used + n)) x (st after (suc n)) refl (omega arith) (reads (suc depth) (suc n) after);
}

pub unlike : Unexpected ≡ Limit → ⊥
unlike e = cc

pub refused-here : {X : Type 0} (fam : Family X) (g : Kind → Bool) (depth : ℕ) (s : State) (rule : ReadingRule) → ends s.tokens ≡ true → (rule ≡ Limit → is_limited (head_kind s.tokens) ≡ true)
    → ((d n : ℕ) (t : Tok) (tail : List Tok) (y : X) (w : State) → t.kind ≡ head_kind s.tokens → WithinLimits rule depth s.operators d n
    → fam d (st (t ∷ tail) n) y w → Stops g w.tokens → ⊥)
    → ((t : Tok) → t.kind ≡ head_kind s.tokens → GoesOn fam (suc depth) (suc s.operators) (going_on rule t))
    → Refused fam g depth s (refusal rule s.tokens)
refused-here {X} fam g depth s rule end limited none goes = go s.tokens end limited none goes
  where
    go : (ts : List Tok) → ends ts ≡ true → (rule ≡ Limit → is_limited (head_kind ts) ≡ true)
        → ((d n : ℕ) (t : Tok) (tail : List Tok) (y : X) (w : State) → t.kind ≡ head_kind ts → WithinLimits rule depth s.operators d n
        → fam d (st (t ∷ tail) n) y w → Stops g w.tokens → ⊥)
        → ((t : Tok) → t.kind ≡ head_kind ts → GoesOn fam (suc depth) (suc s.operators) (going_on rule t))
        → Refused fam g depth (st ts s.operators) (refusal rule ts)
    go [] e lim f goes = cc
    go (t ∷ ts) e lim f goes = record {
      front = [];
      next = t;
      more = ts;
      tokens = refl;
      kind = refl;
      place = refl;
      limited = lim;
      none = λ d n tail y w within r over. f d n t tail y w refl within r over;
      goes_on = goes t refl;
      first = reaches-none fam depth s.operators;
    }

one-parts : (k : Kind) (t : Tok) (n : ℕ) (after : List Tok) (y : Tok) (w : State) → One k (st (t ∷ after) n) y w → (y ≡ t) × (w.tokens ≡ after) × (n ≡ 0 + w.operators)
one-parts k t n after y w r =
    let e = r.0 in let p : y ≡ t = cc in let q : w.tokens ≡ after = cc in let c = r.2 in (p, q, omega arith)

-- the list begins with a token of this kind
abbrev pub HeadIs : Kind → List Tok → Type 0
HeadIs k [] = ⊥
HeadIs k (t ∷ ts) = t.kind ≡ k

pub take-correct : (k : Kind) (depth : ℕ) → is_last k ≡ false → Correct (HeadIs k) take_token (λ d. One k) never depth
unfolding take_token
take-correct k depth ne = record { answers = λ s end head. go s.tokens s.operators end head; here = readable-one k depth; some = readable-one k (suc depth) }
  where
    go : (ts : List Tok) (n : ℕ) → ends ts ≡ true → HeadIs k ts → Answers (λ d. One k) never depth (st ts n) (take_from ts n)
    go [] n e head = absurd head
    go (t ∷ ts) n e head =
        subst (λ (v : ℕ). Took (λ d. One k) never depth (st (t ∷ ts) v) t (st ts n)) (zero-add n)
        (one-took (λ d. One k) depth t ts 0 n t (ends-behind (t ∷ ts) e (ap is_last head ∙ ne)) (λ d m after. (refl, head, sym (zero-add m))) (λ d m after y w r. one-parts k t m after y w r))

pub expect-correct : (k : Kind) (depth : ℕ) → is_last k ≡ false → Correct (λ ts. Unit {0}) (expect k) (λ d. One k) never depth
unfolding expect
expect-correct k depth ne = record { answers = λ s end u. go s.tokens s.operators end; here = readable-one k depth; some = readable-one k (suc depth) }
  where
    decided : (ts : List Tok) (n : ℕ) (b : Bool) → ends ts ≡ true → same_kind (head_kind ts) k ≡ b
        → Answers (λ d. One k) never depth (st ts n) (cond b (take_token (st ts n)) (refuse Unexpected (st ts n)))
    decided [] n b e same = cc
    decided (t ∷ ts) n true e same = (take-correct k depth ne).answers (st (t ∷ ts) n) e (kind-same t.kind k same)
    decided (t ∷ ts) n false e same =
        refused-here (λ d. One k) never depth (st (t ∷ ts) n) Unexpected e (λ q. absurd (unlike q))
        (λ d m u tail y w head within r over. different u y w.tokens tail head same r.0 r.1) (λ u is. goes-free (λ d. One k) (suc depth) (suc n) [] (readable-one k (suc depth)))
      where
        different : (u y : Tok) (ws tail : List Tok) → u.kind ≡ t.kind → same_kind t.kind k ≡ false → u ∷ tail ≡ y ∷ ws → y.kind ≡ k → ⊥
        different u y ws tail head same e is =
            let p : u ≡ y = cc in let q : t.kind ≡ k = sym head ∙ ap (λ v. v.kind) p ∙ is in
            let r : same_kind t.kind k ≡ true = subst (λ (v : Kind). same_kind t.kind v ≡ true) q (same-kind t.kind) in cc

    go : (ts : List Tok) (n : ℕ) → ends ts ≡ true → Answers (λ d. One k) never depth (st ts n) (expect k (st ts n))
    go ts n e = decided ts n (same_kind (head_kind ts) k) e refl

operator-parts : (k : Kind) (t : Tok) (n : ℕ) (after : List Tok) (y : Tok) (w : State) → Operator k (st (t ∷ after) n) y w → (y ≡ t) × (w.tokens ≡ after) × (n ≡ 1 + w.operators)
operator-parts k t n after y w r =
    let e = r.0 in let p : y ≡ t = cc in let q : w.tokens ≡ after = cc in let c = r.2 in (p, q, omega arith)

pub operator-answers : (k : Kind) (depth : ℕ) → is_last k ≡ false → is_limited k ≡ true → Answering (HeadIs k) take_operator (λ d. Operator k) never depth
unfolding take_operator take_token
operator-answers k depth ne lim s end head = go s.tokens s.operators (s.operators == 0) (eqb_tells s.operators 0) end head
  where
    taken : (t : Tok) (ts : List Tok) (n m : ℕ) → n ≡ suc m → ends (t ∷ ts) ≡ true → t.kind ≡ k → Took (λ d. Operator k) never depth (st (t ∷ ts) n) t (st ts m)
    taken t ts n m count e head =
        subst (λ (v : ℕ). Took (λ d. Operator k) never depth (st (t ∷ ts) v) t (st ts m)) (omega arith)
        (one-took (λ d. Operator k) depth t ts 1 m t (ends-behind (t ∷ ts) e (ap is_last head ∙ ne)) (λ d i after. (refl, head, (omega arith))) (λ d i after y w r. operator-parts k t i after y w r))

    go : (ts : List Tok) (n : ℕ) (b : Bool) → ((b ≡ true) × (n ≡ 0)) ⊎ ((b ≡ false) × (n ≢ 0)) → ends ts ≡ true → HeadIs k ts
        → Answers (λ d. Operator k) never depth (st ts n) (cond b (refuse Limit (st ts n)) (take_from ts (n - 1)))
    go [] n b tells e head = absurd head
    go (t ∷ ts) n true tells e head =
        refused-here (λ d. Operator k) never depth (st (t ∷ ts) n) Limit e (λ q. ap is_limited head ∙ lim)
        (λ d i u tail y w same within r over. none n i w.operators tells within.1 r.2)
        (λ u same. record { tail = []; value = u; left = n; reads = λ after. (refl, same ∙ head, refl) })
      where
        none : (n i m : ℕ) → ((true ≡ true) × (n ≡ 0)) ⊎ ((true ≡ false) × (n ≢ 0)) → i ≤ n → i ≡ suc m → ⊥
        none n i m (inl p) le is = let q = p.1 in omega arith
        none n i m (inr p) le is = let q = p.0 in cc
    go (t ∷ ts) n false tells e head = taken t ts n (n - 1) (some n tells) e head
      where
        some : (n : ℕ) → ((false ≡ true) × (n ≡ 0)) ⊎ ((false ≡ false) × (n ≢ 0)) → n ≡ suc (n - 1)
        some n (inl p) = let q = p.0 in cc
        some n (inr p) = let q = p.1 in omega arith
