-- A whole text, in whichever language: behind it stands nothing but the end, and it is read rightly, whatever its range lines are.
use Rattle.std.proofs.Common.{◌≡◌, ℕ, suc, Bool, true, false, cond, List, [], ◌∷◌, ◌++◌, refl, sym, ◌∙◌, ap, subst, append_assoc, Ok, Err}
use Rattle.pb_text_tree.specs.declared.place.Place.{Place}
use Rattle.pb_text_tree.specs.Form.{RangeForm}
use Rattle.pb_text_lexer.specs.declared.fault.ReadingRule.{ReadingRule}
use Rattle.pb_text_lexer.specs.declared.fault.ReadingRule.TheVariants.{Unexpected, Limit}
use Rattle.pb_text_lexer.specs.declared.fault.Refusal.{Refusal}
use Rattle.pb_text_lexer.specs.declared.kind.Kind.{Kind}
use Rattle.pb_text_lexer.specs.declared.kind.Kind.TheVariants as k
use Rattle.pb_text_lexer.specs.declared.language.Language.{Language}
use Rattle.pb_text_lexer.specs.Kinds.{same_kind, is_last, is_limited}
use Rattle.pb_text_lexer.specs.Lexing.{IsCutIn, IsDefectIn, BeginsIn}
use Rattle.pb_text_lexer.specs.Grammar.{State, WithinLimits, going_on}
use Rattle.pb_text_lexer.specs.Steps.{ends, Step, Outcome, and_then, pure, refuse, refusal, kind}
use Rattle.pb_text_lexer.specs.Steps as step
use Rattle.pb_text_lexer.specs.Tokens.{Tok}
use Rattle.pb_text_lexer.proofs.TokenLemmas.{kind-same, same-kind}
use Rattle.pb_text_lexer.proofs.Correct.{st, Family, Stops, GoesOn, goes-ended, reaches-read, some-token, Took, Answers, Correct, move, unlike}
use Rattle.pb_text_lexer.proofs.CorrectPlain.{Always}
use Rattle.pb_text.specs.Parsing.{depth_limit, operator_limit}

-- the tokens are this text, and then the end
abbrev pub IsWhole : {X : Type 0} → (List RangeForm → Family X) → ℕ → ℕ → List Tok → List RangeForm → X → Type 0
IsWhole Says d n tokens ranges x = (m : ℕ) × (end : Tok) × Says ranges d (st tokens n) x (st (end ∷ []) m) × (end.kind ≡ k.End)

-- Up to each of these tokens at which a limit can be exceeded, some text begins so.
abbrev pub Within : (ℕ → ℕ → List Tok → Type 0) → ℕ → ℕ → List Tok → Type 0
Within Begins depth operators tokens = (before behind : List Tok) (t : Tok) → tokens ≡ before ++ t ∷ behind → is_limited t.kind ≡ true → Begins depth operators (before ++ t ∷ [])

-- no list that begins with these tokens is a text within the limits
abbrev pub NoneBegins : {X : Type 0} → (List RangeForm → Family X) → ReadingRule → ℕ → ℕ → List Tok → Tok → Type 0
NoneBegins {X} Says rule depth operators front next =
    (d n : ℕ) (tail : List Tok) (ranges : List RangeForm) (y : X) → WithinLimits rule depth operators d n → IsWhole Says d n (front ++ next ∷ tail) ranges y → ⊥

-- The texts of a language: what their tokens say, the function that reads them up to the end, and what contracts say of their bytes.
pub record TextSyntax : Type 1 where
  pub Form : Type 0
  pub Says : List RangeForm → Family Form
  pub text : List RangeForm → ℕ → Step Form
  pub goes : Kind → Bool
  pub correct : (ranges : List RangeForm) (depth : ℕ) → Correct Always (text ranges depth) (Says ranges) goes depth
  pub closes : goes k.End ≡ false
  -- a text with other range lines
  pub put : List RangeForm → Form → Form
  pub puts_last : (rs us : List RangeForm) (y : Form) → put rs (put us y) ≡ put rs y
  pub says_put : (rs us : List RangeForm) (d : ℕ) (s : State) (y : Form) (z : State) → Says us d s y z → Says rs d s (put rs y) z
  pub is_put : (rs : List RangeForm) (d : ℕ) (s : State) (y : Form) (z : State) → Says rs d s y z → y ≡ put rs y
  pub Begins : ℕ → ℕ → List Tok → Type 0
  pub begins : (d n : ℕ) (tokens tail : List Tok) (ranges : List RangeForm) (x : Form) → IsWhole Says d n (tokens ++ tail) ranges x → Begins d n tokens
  -- of bytes
  pub language : Language
  pub Tree : Type 0
  pub form : Tree → Form
  pub ReadingWithin : ℕ → ℕ → List ℕ → Form → Type 0
  pub reading : (d n : ℕ) (bytes : List ℕ) (x : Form) (tokens : List Tok) (ranges : List RangeForm) → IsCutIn language bytes tokens ranges
      → IsWhole Says d n tokens ranges x → ReadingWithin d n bytes x
  pub cut_of : (d n : ℕ) (bytes : List ℕ) (x : Form) → ReadingWithin d n bytes x →
      (tokens : List Tok) × (ranges : List RangeForm) × IsCutIn language bytes tokens ranges × IsWhole Says d n tokens ranges x
  pub Broken : List ℕ → Kind → Place → Type 0
  pub broken : (bytes : List ℕ) (kind : Kind) (place : Place) (front : List Tok) → IsDefectIn language bytes front place kind
      → Begins (suc depth_limit) (suc operator_limit) front → Within Begins depth_limit operator_limit front → Broken bytes kind place
  pub Refused : List ℕ → ReadingRule → Place → Type 0
  pub refused : (bytes : List ℕ) (rule : ReadingRule) (place : Place) (front : List Tok) (next : Tok) → BeginsIn language bytes (front ++ next ∷ []) → next.place ≡ place
      → (rule ≡ Limit → is_limited next.kind ≡ true) → NoneBegins Says rule depth_limit operator_limit front next
      → Begins (suc depth_limit) (suc operator_limit) (front ++ going_on rule next) → Within Begins depth_limit operator_limit front → Refused bytes rule place

module _ (G : TextSyntax) where
  -- Before one of the tokens a fault stands: no list that begins with those up to it, and it, is a text within the limits.
  pub record IsFault (depth operators : ℕ) (tokens : List Tok) (bad : Refusal) : Type 0 where
    pub front : List Tok
    pub next : Tok
    pub more : List Tok
    pub cut : tokens ≡ front ++ next ∷ more
    pub kind : bad.kind ≡ next.kind
    pub place : bad.place ≡ next.place
    pub limited : bad.rule ≡ Limit → is_limited next.kind ≡ true
    pub none : NoneBegins G.Says bad.rule depth operators front next
    pub goes_on : G.Begins (suc depth) (suc operators) (front ++ going_on bad.rule next)
    pub first : Within G.Begins depth operators front

  -- the tokens are this text, within the limits, and no other, within any
  pub record IsRead (depth operators : ℕ) (tokens : List Tok) (ranges : List RangeForm) (x : G.Form) : Type 0 where
    pub front : List Tok
    pub end : Tok
    pub cut : tokens ≡ front ++ end ∷ []
    pub end_is : end.kind ≡ k.End
    pub reads : IsWhole G.Says depth operators tokens ranges x
    pub only : (d n : ℕ) (y : G.Form) → IsWhole G.Says d n tokens ranges y → y ≡ x

  -- A refusal is the same whatever the range lines are.
  abbrev pub Reading : List RangeForm → ℕ → State → Outcome G.Form → Type 0
  Reading ranges depth s (Ok r) = IsRead depth s.operators s.tokens ranges r.0
  Reading ranges depth s (Err bad) = IsFault depth s.operators s.tokens bad

  pub with-ranges : (rs : List RangeForm) (depth operators : ℕ) (tokens : List Tok) (x : G.Form) → IsRead depth operators tokens [] x → IsRead depth operators tokens rs (G.put rs x)
  with-ranges rs depth operators tokens x a = record {
    front = a.front;
    end = a.end;
    cut = a.cut;
    end_is = a.end_is;
    reads = (a.reads.0, a.reads.1, G.says_put rs [] depth _ x _ a.reads.2, a.reads.3);
    only = λ d n y r.
        G.is_put rs d _ y _ r.2 ∙ (sym (G.puts_last rs [] y) ∙ ap (λ (v : G.Form). G.put rs v) (a.only d n (G.put [] y) (r.0, r.1, G.says_put [] rs d _ y _ r.2, r.3)));
  }

  -- a text, and nothing behind it
  abbrev pub whole : List RangeForm → ℕ → Step G.Form
  whole ranges depth = step.◌>>=◌ (G.text ranges depth) (λ x. step.◌>>=◌ step.peek (λ last. cond (same_kind last k.End) (pure x) (refuse Unexpected)))

  end-stops : (t : Tok) → t.kind ≡ k.End → Stops G.goes (t ∷ [])
  end-stops t is = subst (λ (v : Kind). G.goes v ≡ false) (sym is) G.closes

  pub whole-reads : (ranges : List RangeForm) (depth : ℕ) (s : State) → ends s.tokens ≡ true → Reading ranges depth s (whole ranges depth s)
  whole-reads ranges depth s ended = at-text (G.text ranges depth s) ((G.correct ranges depth).answers s ended tt)
    where
      end-only : (ts : List Tok) → ends ts ≡ true → same_kind (step.head_kind ts) k.End ≡ true → (t : Tok) × (ts ≡ t ∷ []) × (t.kind ≡ k.End)
      end-only [] e same = cc
      end-only (t ∷ []) e same = (t, refl, kind-same t.kind k.End same)
      end-only (t ∷ u ∷ ts) e same =
          let last : is_last t.kind ≡ true = ap is_last (kind-same t.kind k.End same) in
          let none : ends (t ∷ u ∷ ts) ≡ false = ap (λ v. cond v false (ends (u ∷ ts))) last in
          let apart : false ≡ true = sym none ∙ e in
          absurd (let never : ⊥ = cc in never)

      is-end : (t u : Tok) (ts us : List Tok) → u ∷ us ≡ t ∷ ts → u.kind ≡ k.End → same_kind t.kind k.End ≡ false → ⊥
      is-end t u ts us e end other =
          let p : u ≡ t = cc in let q : t.kind ≡ k.End = sym (ap (λ v. v.kind) p) ∙ end in
          let r : same_kind t.kind k.End ≡ true = subst (λ (v : Kind). same_kind t.kind v ≡ true) q (same-kind t.kind) in cc

      found : (x : G.Form) (z : State) → Took (G.Says ranges) G.goes depth s x z → (t : Tok) → z.tokens ≡ t ∷ [] → t.kind ≡ k.End → IsRead depth s.operators s.tokens ranges x
      found x z a t is end = record {
        front = a.front;
        end = t;
        cut = a.tokens ∙ ap (λ v. a.front ++ v) is;
        end_is = end;
        reads = (
          z.operators,
          t,
          move (G.Says ranges depth) (a.front ++ t ∷ []) s.tokens s.operators s.operators x
              (st (t ∷ []) z.operators) (sym (a.tokens ∙ ap (λ v. a.front ++ v) is)) refl (a.reads (t ∷ [])),
          end,
        );
        only = λ d n y r.
            (a.only d n (t ∷ []) y (st (r.1 ∷ []) r.0) (end-stops t end)
            (move (G.Says ranges d) s.tokens (a.front ++ t ∷ []) n n y (st (r.1 ∷ []) r.0) (a.tokens ∙ ap (λ v. a.front ++ v) is) refl r.2) (end-stops r.1 r.3)).0;
      }

      begins : (level n : ℕ) (ts : List Tok) → GoesOn (G.Says ranges) level n ts → G.Begins level n ts
      begins level n ts a =
          G.begins level n ts (a.tail ++ some-token k.End ∷ []) ranges a.value (
            a.left,
            some-token k.End,
            move (G.Says ranges level) ((ts ++ a.tail) ++ some-token k.End ∷ []) (ts ++ (a.tail ++ some-token k.End ∷ [])) n n a.value (st (some-token k.End ∷ []) a.left)
                (append_assoc ts a.tail (some-token k.End ∷ [])) refl (a.reads (some-token k.End ∷ [])),
            refl,
          )

      not-end : (x : G.Form) (z : State) → Took (G.Says ranges) G.goes depth s x z → (ts : List Tok) → z.tokens ≡ ts → ends ts ≡ true → same_kind (step.head_kind ts) k.End ≡ false
          → IsFault depth s.operators s.tokens (refusal Unexpected ts)
      not-end x z a [] is e other = cc
      not-end x z a (t ∷ ts) is e other = record {
        front = a.front;
        next = t;
        more = ts;
        cut = a.tokens ∙ ap (λ v. a.front ++ v) is;
        kind = refl;
        place = refl;
        limited = λ q. absurd (unlike q);
        goes_on = begins (suc depth) (suc s.operators) (a.front ++ []) (goes-ended (G.Says ranges) (suc depth) (suc s.operators) (suc z.operators) a.front x a.one_more);
        first = λ before behind u e lim.
            begins depth s.operators (before ++ u ∷ []) (reaches-read (G.Says ranges) depth s.operators z.operators a.front x a.reads before behind u e lim);
        none = λ d n tail us y within r.
            let same = G.says_put ranges us d _ y _ r.2 in
            let stops : Stops G.goes (t ∷ tail) = subst (λ (v : List Tok). Stops G.goes v) is a.stops in
            is-end t r.1 tail [] (a.only d n (t ∷ tail) (G.put ranges y) (st (r.1 ∷ []) r.0) stops same (end-stops r.1 r.3)).1 r.3 other;
      }

      at-kind : (x : G.Form) (z : State) → Took (G.Says ranges) G.goes depth s x z → (b : Bool) → same_kind (kind z) k.End ≡ b
          → Reading ranges depth s (cond b (pure x) (refuse Unexpected) z)
      at-kind x z a true same = let e = end-only z.tokens a.ended same in found x z a e.0 e.1 e.2
      at-kind x z a false other = not-end x z a z.tokens refl a.ended other

      at-text : (o : Outcome G.Form) → Answers (G.Says ranges) G.goes depth s o
          → Reading ranges depth s (and_then o (λ x. step.◌>>=◌ step.peek (λ last. cond (same_kind last k.End) (pure x) (refuse Unexpected))))
      at-text (Ok r) a = at-kind r.0 r.1 a (same_kind (kind r.1) k.End) refl
      at-text (Err bad) a = record {
        front = a.front;
        next = a.next;
        more = a.more;
        cut = a.tokens;
        kind = a.kind;
        place = a.place;
        limited = a.limited;
        goes_on = begins (suc depth) (suc s.operators) (a.front ++ going_on bad.rule a.next) a.goes_on;
        first = λ before behind u e lim. begins depth s.operators (before ++ u ∷ []) (a.first before behind u e lim);
        none = λ d n tail us y within r.
            let same = G.says_put ranges us d _ y _ r.2 in a.none d n tail (G.put ranges y) (st (r.1 ∷ []) r.0) within same (end-stops r.1 r.3);
      }
