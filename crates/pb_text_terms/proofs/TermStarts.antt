-- What a term and an operand of it begin with.
use Rattle.std.proofs.Common.{◌≡◌, ℕ, zero, suc, Bool, true, List, [], ◌∷◌, refl, ◌⊎◌, inl, inr}
use Rattle.pb_text_tree.specs.Form.{TermForm, InstanceForm}
use Rattle.pb_text_lexer.specs.declared.kind.Kind.{Kind}
use Rattle.pb_text_lexer.specs.declared.kind.Kind.TheVariants as k
use Rattle.pb_text_lexer.specs.Grammar.{State, Reads, Is, One, First}
use Rattle.pb_text_lexer.specs.OpenGrammar.{Chained, last, more, Connected}
use Rattle.pb_text_lexer.specs.LeftGrammar.{Extended}
use Rattle.pb_text_lexer.specs.Tokens.{Tok}
use Rattle.pb_text_lexer.proofs.Correct.{st, Family, never, readable-is, readable-one, HeadIs, Readable, free-to, free-then}
use Rattle.pb_text_lexer.proofs.CorrectFamilies.{readable-first, deeper}
use Rattle.pb_text_lexer.proofs.CorrectSeries.{Passes, head-at}
use Rattle.pb_text_lexer.proofs.CorrectEither.{Not}
use Rattle.pb_text_terms.specs.Operators.{connected_by, is_binder}
use Rattle.pb_text_terms.specs.Grammar.{Instance, Begun, Equated, BoundBy, Bound, IsUnary, IsTerm}

-- ---- what a term begins with

extended-starts : {X : Type 0} (P : State → Type 0) (Item : Reads X) (More : X → Reads X) → ((s : State) (x : X) (z : State) → Item s x z → P s)
    → (s : State) (y : X) (z : State) → Extended Item More s y z → P s
extended-starts P Item More h s y z (inl r) = h s y z r
extended-starts P Item More h s y z (inr r) = h s r.0 r.1 r.2

-- what a term begins with that has no connective
equated-starts : (P : State → Type 0) (U : Reads TermForm) → ((s : State) (x : TermForm) (z : State) → U s x z → P s) → (s : State) (y : TermForm) (z : State) → Equated U s y z → P s
equated-starts P U h =
    extended-starts P _ _ (extended-starts P _ _ (extended-starts P _ _ (extended-starts P U _ h)))

chained-starts : {X : Type 0} (P : State → Type 0) (kind : Kind) (join : X → Tok → X → X) (Closed Open : Reads X) → ((s : State) (x : X) (z : State) → Closed s x z → P s)
    → ((s : State) (x : X) (z : State) → Open s x z → P s) → (s : State) (y : X) (z : State) → Chained kind join Closed Open s y z → P s
chained-starts P kind join Closed Open c o s y z (last r) = o s y z r
chained-starts P kind join Closed Open c o s y z (more {m = m} {x = x} r op rest) = c s x m r

connected-starts : {X : Type 0} (P : State → Type 0) (join : Kind → X → Tok → X → X) (Node Quantifier : Reads X) → ((s : State) (x : X) (z : State) → Node s x z → P s)
    → ((s : State) (x : X) (z : State) → Quantifier s x z → P s) → (s : State) (y : X) (z : State) → Connected join Node Quantifier s y z → P s
connected-starts {X} P join Node Quantifier n q =
    chained-starts P k.Implies (join k.Implies) _ _
    (chained-starts P k.Or (join k.Or) _ _ (chained-starts P k.And (join k.And) Node Node n n) (chained-starts P k.And (join k.And) Node Node n n))
    (chained-starts P k.Or (join k.Or) _ _ (chained-starts P k.And (join k.And) Node Node n n) (chained-starts P k.And (join k.And) Node _ n either))
  where
    either : (s : State) (x : X) (z : State) → Node s x z ⊎ Quantifier s x z → P s
    either s x z (inl r) = n s x z r
    either s x z (inr r) = q s x z r

abbrev Some : State → Type 0
Some s = Passes (λ kind. true) s.tokens

some-of : (test : Kind → Bool) (ts : List Tok) → Passes test ts → Passes (λ kind. true) ts
some-of test [] h = h
some-of test (t ∷ ts) h = refl

abbrev pub kinds : ℕ → Kind → Reads TermForm
kinds d = Begun (deeper IsUnary d) (deeper IsTerm d)

pub to-unary : (d : ℕ) (s : State) (y : TermForm) (z : State) → First (kinds d) s y z → IsUnary d s y z
to-unary zero s y z r = r
to-unary (suc d) s y z r = r

pub from-unary : (d : ℕ) (s : State) (y : TermForm) (z : State) → IsUnary d s y z → First (kinds d) s y z
from-unary zero s y z r = r
from-unary (suc d) s y z r = r

instance-starts : (T : Reads TermForm) (s : State) (x : InstanceForm) (z : State) → Instance T s x z → HeadIs k.Name s.tokens
instance-starts T s x z (inl q) = head-at k.Name s.tokens q.2.1.tokens q.2.0 q.2.2.0 q.2.2.1
instance-starts T s x z (inr q) = head-at k.Name s.tokens q.2.2.1.tokens q.2.2.0 q.2.2.2.0 q.2.2.2.1

pub starts : (U T : Reads TermForm) (kind : Kind) (s : State) (y : TermForm) (z : State) → Begun U T kind s y z → HeadIs kind s.tokens
starts U T k.Not s y z r = head-at k.Not s.tokens r.1.tokens r.0 r.2.0 r.2.1
starts U T k.Minus s y z r = head-at k.Minus s.tokens r.1.tokens r.0 r.2.0 r.2.1
starts U T k.Open s y z r = head-at k.Open s.tokens r.1.tokens r.0 r.2.0 r.2.1
starts U T k.Number s y z r = head-at k.Number s.tokens r.1.tokens r.0 r.2.0 r.2.1
starts U T k.True s y z r = head-at k.True s.tokens r.1.tokens r.0 r.2.0 r.2.1
starts U T k.False s y z r = head-at k.False s.tokens r.1.tokens r.0 r.2.0 r.2.1
starts U T k.Name s y z r = instance-starts T s r.0 r.1 r.2
starts U T _ s y z r = absurd r

-- no quantifier and no `count` begins a sign's operand
unary-starts : (d : ℕ) (s : State) (y : TermForm) (z : State) → IsUnary d s y z → Passes (Not is_binder) s.tokens
unary-starts d s y z r = at s.tokens s.operators (from-unary d s y z r)
  where
    plain : (kind : Kind) (s : State) → kinds d kind s y z → Not is_binder kind ≡ true
    plain k.Not s r = refl
    plain k.Minus s r = refl
    plain k.Open s r = refl
    plain k.Number s r = refl
    plain k.True s r = refl
    plain k.False s r = refl
    plain k.Name s r = refl
    plain _ s r = absurd r

    at : (ts : List Tok) (n : ℕ) → First (kinds d) (st ts n) y z → Passes (Not is_binder) ts
    at [] n r = r
    at (t ∷ ts) n r = plain t.kind (st (t ∷ ts) n) r

pub node-starts : (d : ℕ) (s : State) (y : TermForm) (z : State) → Equated (IsUnary d) s y z → Passes (Not is_binder) s.tokens
node-starts d = equated-starts (λ s. Passes (Not is_binder) s.tokens) (IsUnary d) (unary-starts d)

abbrev pub quantifieds : Family TermForm
quantifieds d = Bound (deeper IsTerm d)

pub quantified-starts : (d : ℕ) (s : State) (y : TermForm) (z : State) → quantifieds d s y z → Passes is_binder s.tokens
quantified-starts d s y z r = at s.tokens s.operators r
  where
    plain : (kind : Kind) (s : State) → BoundBy (deeper IsTerm d) kind s y z → is_binder kind ≡ true
    plain k.Count s r = refl
    plain k.Forall s r = refl
    plain k.Exists s r = refl
    plain _ s r = absurd r

    at : (ts : List Tok) (n : ℕ) → quantifieds d (st ts n) y z → Passes is_binder ts
    at [] n r = r
    at (t ∷ ts) n r = plain t.kind (st (t ∷ ts) n) r

abbrev pub connecteds : Family TermForm
connecteds d = Connected (connected_by TermForm.connected) (Equated (IsUnary d)) (quantifieds d)

pub to-term : (d : ℕ) (s : State) (y : TermForm) (z : State) → connecteds d s y z → IsTerm d s y z
to-term zero s y z r = r
to-term (suc d) s y z r = r

pub from-term : (d : ℕ) (s : State) (y : TermForm) (z : State) → IsTerm d s y z → connecteds d s y z
from-term zero s y z r = r
from-term (suc d) s y z r = r

-- a term has at least one token
term-some : (d : ℕ) (s : State) (y : TermForm) (z : State) → IsTerm d s y z → Passes (λ kind. true) s.tokens
term-some d s y z r =
    connected-starts Some (connected_by TermForm.connected) (Equated (IsUnary d)) (quantifieds d) (λ s y z r. some-of (Not is_binder) s.tokens (node-starts d s y z r))
    (λ s y z r. some-of is_binder s.tokens (quantified-starts d s y z r)) s y z (from-term d s y z r)

pub deeper-some : (d : ℕ) (s : State) (y : TermForm) (z : State) → deeper IsTerm d s y z → Passes (λ kind. true) s.tokens
deeper-some zero s y z r = absurd r
deeper-some (suc d) s y z r = term-some d s y z r

-- ---- a term that is always there

abbrev true-term : Family TermForm
true-term d = Begun (deeper IsUnary d) (deeper IsTerm d) k.True

pub readable-true : (level : ℕ) → Readable true-term level
readable-true level =
    free-then (λ d. One k.True) (λ word d. Is (TermForm.constant word.place true)) level [] (readable-one k.True level) (λ word. readable-is (TermForm.constant word.place true) level)

pub readable-unary : (level : ℕ) → Readable IsUnary level
readable-unary level =
    free-to (λ d. First (kinds d)) IsUnary (λ x. x) level level (to-unary level) []
    (readable-first kinds never 0 (λ d kind. starts (deeper IsUnary d) (deeper IsTerm d) kind) k.True level (readable-true level))

pub readable-term : (level : ℕ) → Readable IsTerm level
readable-term level = free-to IsUnary IsTerm (λ x. x) level level single [] (readable-unary level)
  where
    single : (s : State) (y : TermForm) (z : State) → IsUnary level s y z → IsTerm level s y z
    single s y z r = to-term level s y z (last (last (last (inl (inl (inl (inl (inl r))))))))
