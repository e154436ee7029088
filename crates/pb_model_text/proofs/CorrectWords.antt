-- Words, and what begins with a word or without, are read rightly.
use Rattle.std.proofs.Common.{◌≡◌, ℕ, suc, ◌+◌, Bool, true, false, cond, List, [], ◌∷◌, refl, sym, ◌∙◌, ap, subst, zero-add, inl, inr, arith, Ok, Err, Option, Some, None}
use Rattle.pb_text_tree.specs.declared.place.Place.{Place}
use Rattle.pb_text_lexer.specs.declared.fault.ReadingRule.TheVariants.{Unexpected}
use Rattle.pb_text_lexer.specs.declared.kind.Kind.{Kind}
use Rattle.pb_text_lexer.specs.declared.kind.Kind.TheVariants as k
use Rattle.pb_text_lexer.specs.Kinds.{same_kind, is_last, is_limited}
use Rattle.pb_text_lexer.specs.Grammar.{State}
use Rattle.pb_text_lexer.specs.OpenGrammar.{Either}
use Rattle.pb_text_lexer.specs.Grammar as grammar
use Rattle.pb_text_lexer.specs.Steps.{ends, Step, Outcome, and_then, take_token, refuse}
use Rattle.pb_text_lexer.specs.Steps as step
use Rattle.std.proofs.lemmas.List.{append-nil}
use Rattle.pb_text_lexer.specs.Lexing.{start}
use Rattle.pb_text_lexer.specs.Tokens.{Tok, token_at}
use Rattle.pb_text_lexer.proofs.TokenLemmas.{ends-behind, kind-same, same-kind}
use Rattle.pb_text_lexer.proofs.Correct.{st, Family, Stops, never, stops-never, Readable, goes-free, free-to, free-then, reaches-none, reaches-unlimited, Unlimited, unlimited-one, then-took, then-refused, one-took, unlike, Took, Answers, Answering, Correct}
use Rattle.pb_text_lexer.proofs.CorrectSeries.{Passes}
use Rattle.pb_text_lexer.proofs.CorrectPlain.{Always}
use Rattle.pb_model_text.specs.Grammar.{Word, begins_word, Wordless}
use Rattle.pb_model_text.proofs.CorrectFirst.{asked-answers, told-answers}
use Rattle.pb_model_text.specs.Reading.{word_at, word_taken, take_word}

-- ---- a word

-- text that is a word
pub record HasWord {W : Type 0} (of : List ℕ → Option W) : Type 0 where
  pub text : List ℕ
  pub word : W
  pub tells : of text ≡ Some word

module _ {W : Type 0} (of : List ℕ → Option W) (one : HasWord of) where
  abbrev words : Family (W × Place)
  words d = Word of

  pub readable-word : (level : ℕ) → Readable words level
  readable-word level =
      let t = token_at start k.Name one.text in record {
        tail = t ∷ [];
        value = (one.word, start);
        reads = λ n after. (t, (refl, refl, refl), one.tells, refl);
      }

  only-one : (t : Tok) (w : W) (n : ℕ) (after : List Tok) (y : W × Place) (z : State) → of t.text ≡ Some w
      → Word of (st (t ∷ after) n) y z → (y ≡ (w, t.place)) × (z.tokens ≡ after) × (n ≡ 0 + z.operators)
  only-one t w n after y z tells r =
      let e = r.1.0 in let p : t ≡ r.0 = cc in let q : after ≡ z.tokens = cc in let c = r.1.2 in
      let some : Some y.0 ≡ Some w = sym r.2 ∙ ap (λ (v : Tok). of v.text) (sym p) ∙ tells in
      let same : y.0 ≡ w = cc in
      let there : y.1 ≡ t.place = r.3 ∙ ap (λ (v : Tok). v.place) (sym p) in
      (ap (λ v. (v, y.1)) same ∙ ap (λ v. (w, v)) there, sym q, omega arith)

  no-word : (t : Tok) (n : ℕ) (after : List Tok) (y : W × Place) (z : State) → word_at of (t ∷ after) ≡ None → Word of (st (t ∷ after) n) y z → ⊥
  no-word t n after y z none r =
      let e = r.1.0 in let p : t ≡ r.0 = cc in
      let name : t.kind ≡ k.Name = ap (λ (v : Tok). v.kind) p ∙ r.1.1 in
      let on : same_kind t.kind k.Name ≡ true = subst (λ (v : Kind). same_kind v k.Name ≡ true) (sym name) (same-kind k.Name) in
      let tells : of t.text ≡ Some y.0 = ap (λ (v : Tok). of v.text) p ∙ r.2 in
      let found : word_at of (t ∷ after) ≡ Some y.0 = ap (λ b. cond b (of t.text) None) on ∙ tells in
      let no : None ≡ Some y.0 = sym none ∙ found in cc

  pub word-correct : (depth : ℕ) → Correct Always (take_word of) words never depth
  unfolding take_token
  word-correct depth = record { answers = λ s end u. go s.tokens s.operators end; here = readable-word depth; some = readable-word (suc depth) }
    where
      at : (t : Tok) (ts : List Tok) (n : ℕ) (b : Bool) (o : Option W) → ends (t ∷ ts) ≡ true → same_kind t.kind k.Name ≡ b → cond b (of t.text) None ≡ o
          → word_at of (t ∷ ts) ≡ o → Answers words never depth (st (t ∷ ts) n) (word_taken o (st (t ∷ ts) n))
      at t ts n true (Some w) e name tells whole =
          let is : t.kind ≡ k.Name = kind-same t.kind k.Name name in
          subst (λ (v : ℕ). Took words never depth (st (t ∷ ts) v) (w, t.place) (st ts n)) (zero-add n)
          (one-took words depth t ts 0 n (w, t.place) (ends-behind (t ∷ ts) e (ap is_last is))
          (λ d m after. (t, (refl, is, sym (zero-add m)), tells, refl)) (λ d m after y z r. only-one t w m after y z tells r))
      at t ts n false (Some w) e name tells whole = cc
      at t ts n b None e name tells whole = record {
        front = [];
        next = t;
        more = ts;
        tokens = refl;
        kind = refl;
        place = refl;
        limited = λ q. absurd (unlike q);
        none = λ d m tail y z within r over. no-word t m tail y z whole r;
        goes_on = goes-free words (suc depth) (suc n) [] (readable-word (suc depth));
        first = reaches-none words depth n;
      }

      go : (ts : List Tok) (n : ℕ) → ends ts ≡ true → Answers words never depth (st ts n) (word_taken (word_at of ts) (st ts n))
      go [] n e = cc
      go (t ∷ ts) n e = at t ts n (same_kind t.kind k.Name) (word_at of (t ∷ ts)) e refl refl refl

  -- ---- a word, and what need not be there where no level may open

  unlimited-word : (depth : ℕ) (s : State) (w : W × Place) (z : State) (a : Took words never depth s w z) → Unlimited a.front
  unlimited-word depth s w z a =
      let r = a.reads [] in
      subst (λ (v : List Tok). Unlimited v) (sym (sym (append-nil a.front) ∙ r.1.0)) (unlimited-one r.0 (ap is_limited r.1.1))

  module _ {Y : Type 0} (famS : W × Place → Family Y) (g : Kind → Bool) (depth : ℕ) (q : W × Place → Step Y)
      (right-q : (w : W × Place) → Answering Always (q w) (famS w) g depth) (some : (w : W × Place) → Readable (famS w) (suc depth)) where
    abbrev behind-word : Family Y
    behind-word d = grammar.◌>>=◌ (Word of) (λ w. famS w d)

    follow : (d : ℕ) (w : W × Place) (m : State) (y : Y) (z : State) → famS w d m y z → Stops g z.tokens → Stops never m.tokens
    follow d w m y z r over = stops-never m.tokens

    second : (s m : State) (w : W × Place) → Took words never depth s w m → (o : Outcome Y) → Answers (famS w) g depth m o → Answers behind-word g depth s o
    second s m w a (Ok r) b = then-took words famS never g depth follow s m w r.0 r.1 a b
    second s m w a (Err bad) b =
        then-refused words famS never g depth follow s m w bad a (reaches-unlimited behind-word depth s.operators a.front (unlimited-word depth s w m a)) b

    pub word-then-answers : Answering Always (step.◌>>=◌ (take_word of) q) behind-word g depth
    unfolding take_token
    word-then-answers s end u = go s.tokens s.operators end
      where
        took : (t : Tok) (ts : List Tok) (n : ℕ) (w : W) → ends (t ∷ ts) ≡ true → word_at of (t ∷ ts) ≡ Some w → Took words never depth (st (t ∷ ts) n) (w, t.place) (st ts n)
        took t ts n w e tells =
            subst (λ (o : Outcome (W × Place)). Answers words never depth (st (t ∷ ts) n) o) (ap (λ v. word_taken v (st (t ∷ ts) n)) tells) ((word-correct depth).answers (st (t ∷ ts) n) e tt)

        at : (t : Tok) (ts : List Tok) (n : ℕ) (o : Option W) → ends (t ∷ ts) ≡ true → word_at of (t ∷ ts) ≡ o
            → Answers behind-word g depth (st (t ∷ ts) n) (and_then (word_taken o (st (t ∷ ts) n)) q)
        at t ts n (Some w) e tells =
            let a = took t ts n w e tells in
            second (st (t ∷ ts) n) (st ts n) (w, t.place) a (q (w, t.place) (st ts n)) (right-q (w, t.place) (st ts n) a.ended tt)
        at t ts n None e tells = record {
          front = [];
          next = t;
          more = ts;
          tokens = refl;
          kind = refl;
          place = refl;
          limited = λ q. absurd (unlike q);
          none = λ d m tail y z within r over. no-word t m tail r.0 r.1 tells r.2;
          goes_on = goes-free behind-word (suc depth) (suc n) [] (free-then words famS (suc depth) [] (readable-word (suc depth)) some);
          first = reaches-none behind-word depth n;
        }

        go : (ts : List Tok) (n : ℕ) → ends ts ≡ true → Answers behind-word g depth (st ts n) (and_then (word_taken (word_at of ts) (st ts n)) q)
        go [] n e = cc
        go (t ∷ ts) n e = at t ts n (word_at of (t ∷ ts)) e refl

-- ---- what begins with a word, and what doesn't

not-both : (ts : List Tok) → begins_word ts ≡ true → begins_word ts ≡ false → ⊥
not-both ts a b = let e : true ≡ false = sym a ∙ b in cc

module _ {X : Type 0} (fam : Family X) (g : Kind → Bool) (depth : ℕ)
    (starts : (d : ℕ) (s : State) (y : X) (z : State) → fam d s y z → Passes (λ kind. true) s.tokens)
    (here : Readable (λ d. Wordless (fam d)) depth) (some : Readable (λ d. Wordless (fam d)) (suc depth)) where
  abbrev without : Family X
  without d = Wordless (fam d)

  pub wordless-answers : (p : Step X) → Answering Always p fam g depth → Answering (λ ts. begins_word ts ≡ false) p without g depth
  wordless-answers = asked-answers (λ ts. begins_word ts ≡ false) (λ ts. begins_word ts ≡ false) (λ f a b h. h) fam g depth starts some

  -- a word is refused
  pub wordless-correct : (p : Step X) → Answering Always p fam g depth → Correct Always (λ s. cond (begins_word s.tokens) (refuse Unexpected s) (p s)) without g depth
  wordless-correct p right = record { answers = λ s end u. tested s.tokens s.operators end (begins_word s.tokens) refl; here = here; some = some }
    where
      tested : (ts : List Tok) (n : ℕ) → ends ts ≡ true → (b : Bool) → begins_word ts ≡ b → Answers without g depth (st ts n) (cond b (refuse Unexpected (st ts n)) (p (st ts n)))
      tested [] n end b h = cc
      tested (t ∷ ts) n end false h = wordless-answers p right (st (t ∷ ts) n) end h
      tested (t ∷ ts) n end true h = record {
        front = [];
        next = t;
        more = ts;
        tokens = refl;
        kind = refl;
        place = refl;
        limited = λ q. absurd (unlike q);
        none = λ d m tail y w within r over. not-both (t ∷ ts) h r.0;
        goes_on = goes-free without (suc depth) (suc n) [] some;
        first = reaches-none without depth n;
      }

-- ---- one of two, by whether the first token is a word

module _ {X : Type 0} (fam other : Family X) (g : Kind → Bool) (depth : ℕ)
    (starts : (d : ℕ) (s : State) (y : X) (z : State) → fam d s y z → begins_word s.tokens ≡ false)
    (starts' : (d : ℕ) (s : State) (y : X) (z : State) → other d s y z → begins_word s.tokens ≡ true) where
  abbrev one-of : Family X
  one-of d = Either (fam d) (other d)

  left : (d : ℕ) (s : State) (x : X) (z : State) → fam d s x z → one-of d s x z
  left d s x z r = inl r

  right : (d : ℕ) (s : State) (x : X) (z : State) → other d s x z → one-of d s x z
  right d s x z r = inr r

  told-left : (d : ℕ) (s : State) (x : X) (z : State) → begins_word s.tokens ≡ false → one-of d s x z → fam d s x z
  told-left d s x z h (inl r) = r
  told-left d s x z h (inr r) = absurd (not-both s.tokens (starts' d s x z r) h)

  told-right : (d : ℕ) (s : State) (x : X) (z : State) → begins_word s.tokens ≡ true → one-of d s x z → other d s x z
  told-right d s x z h (inr r) = r
  told-right d s x z h (inl r) = absurd (not-both s.tokens h (starts d s x z r))

  pub by-word-correct : (p q : Step X) → Answering (λ ts. begins_word ts ≡ false) p fam g depth → Answering Always q other g depth
      → Readable fam depth → Readable fam (suc depth) → Correct Always (λ s. cond (begins_word s.tokens) (q s) (p s)) one-of g depth
  by-word-correct p q right-p right-q here some = record {
    answers = λ s end u. tested s end (begins_word s.tokens) refl;
    here = free-to fam one-of (λ v. v) depth depth (left depth) [] here;
    some = free-to fam one-of (λ v. v) (suc depth) (suc depth) (left (suc depth)) [] some;
  }
    where
      tested : (s : State) → ends s.tokens ≡ true → (b : Bool) → begins_word s.tokens ≡ b → Answers one-of g depth s (cond b (q s) (p s))
      tested s end true h = told-answers other one-of g depth (λ ts. begins_word ts ≡ true) (λ f a b h. h) starts' right told-right s (q s) h (right-q s end tt)
      tested s end false h = told-answers fam one-of g depth (λ ts. begins_word ts ≡ false) (λ f a b h. h) starts left told-left s (p s) h (right-p s end h)
