-- Steps behind which anything may stand, and steps that are right wherever they begin.
use Rattle.std.proofs.Common.{◌≡◌, ℕ, Bool, true, false, List, [], ◌∷◌, refl, sym, ◌∙◌, ap, subst, Ok, Err}
use Rattle.std.proofs.lemmas.List.{append-nil}
use Rattle.pb_text_lexer.specs.declared.fault.ReadingRule.TheVariants.{Unexpected}
use Rattle.pb_text_lexer.specs.declared.kind.Kind.{Kind}
use Rattle.pb_text_lexer.specs.Kinds.{is_last, is_limited}
use Rattle.pb_text_lexer.specs.Tokens.{Tok}
use Rattle.pb_text_lexer.specs.Grammar.{State, Reads, Is, Nothing, One}
use Rattle.pb_text_lexer.specs.Grammar as grammar
use Rattle.pb_text_lexer.specs.Steps.{ends, head_kind, Step, Outcome, and_then, pure, take_token, take_from, refuse}
use Rattle.pb_text_lexer.specs.Steps as step
use Rattle.pb_text_lexer.proofs.Correct.{st, Family, Stops, never, stops-never, Took, Answers, Answering, Correct, Unlimited, unlimited-none, unlimited-one, reaches-unlimited, then-took, then-refused, then-answers, then-correct, pure-correct, HeadIs, take-correct}
use Rattle.pb_text_lexer.proofs.CorrectFamilies.{Nowhere, weaker-correct}

abbrev pub Always : List Tok → Type 0
Always ts = Unit {0}

pub anywhere : {X : Type 0} (P : List Tok → Type 0) (p : Step X) (fam : Family X) (g : Kind → Bool) (depth : ℕ) → Correct Always p fam g depth → Correct P p fam g depth
anywhere P p fam g depth a = weaker-correct Always P p fam g depth (λ ts h. tt) a

-- one thing and then another, where nothing goes on with the first
pub then-plain : {X Y : Type 0} (famR : Family X) (famS : X → Family Y) (g : Kind → Bool) (depth : ℕ) (P : List Tok → Type 0) (p : Step X) (q : X → Step Y)
    → Correct P p famR never depth → ((x : X) → Correct Always (q x) (famS x) g depth)
    → Correct P (step.◌>>=◌ p q) (λ d. grammar.◌>>=◌ (famR d) (λ x. famS x d)) g depth
then-plain famR famS g depth P p q a b =
    then-correct famR famS never g depth (λ d x m y z r over. stops-never m.tokens) P p q a
    (λ x. anywhere (Stops never) (q x) (famS x) g depth (b x))

pub is-correct : {X : Type 0} (x : X) (depth : ℕ) → Correct Always (pure x) (λ d. Is x) never depth
is-correct x depth = weaker-correct (Stops never) Always (pure x) (λ d. Is x) never depth (λ ts h. stops-never ts) (pure-correct x never depth)

-- a single token that is a value
pub leaf-correct : {X : Type 0} (kind : Kind) (f : Tok → X) (depth : ℕ) → is_last kind ≡ false
    → Correct (HeadIs kind) (step.◌>>=◌ take_token (λ t. pure (f t))) (λ d. grammar.◌>>=◌ (One kind) (λ t. Is (f t))) never depth
leaf-correct kind f depth ne =
    then-plain (λ d. One kind) (λ t d. Is (f t)) never depth (HeadIs kind) take_token (λ t. pure (f t)) (take-correct kind depth ne) (λ t. is-correct (f t) depth)

-- a kind of token with which nothing begins
pub nothing-correct : {X : Type 0} → Nowhere (refuse Unexpected) (λ d. Nothing {X = X})
nothing-correct = record { refuses = refl; none = λ d s y z r. r }

-- the same where the first begins with an operator, so that an operator at least is needed to read it
pub then-plain-answers : {X Y : Type 0} (famR : Family X) (famS : X → Family Y) (g : Kind → Bool) (depth : ℕ) (P : List Tok → Type 0) (p : Step X) (q : X → Step Y)
    → Answering P p famR never depth → ((x : X) → Correct Always (q x) (famS x) g depth)
    → Answering P (step.◌>>=◌ p q) (λ d. grammar.◌>>=◌ (famR d) (λ x. famS x d)) g depth
then-plain-answers famR famS g depth P p q a b =
    then-answers famR famS never g depth (λ d x m y z r over. stops-never m.tokens) P p q a
    (λ x. anywhere (Stops never) (q x) (famS x) g depth (b x))

-- ---- tokens at which no limit can be exceeded

unlimited-alike : (ts us : List Tok) → ts ≡ us → Unlimited us → Unlimited ts
unlimited-alike ts us e h = subst (λ (v : List Tok). Unlimited v) (sym e) h

pub unlimited-token : (k : Kind) (depth : ℕ) → is_limited k ≡ false → (s : State) (t : Tok) (z : State) (a : Took (λ d. One k) never depth s t z) → Unlimited a.front
unlimited-token k depth off s t z a =
    let r = a.reads [] in
    unlimited-alike a.front (t ∷ []) (sym (append-nil a.front) ∙ r.0) (unlimited-one t (ap is_limited r.1 ∙ off))

pub unlimited-nothing : (depth : ℕ) (s : State) (t : Unit {0}) (z : State) (a : Took (λ d. Is {X = Unit {0}} tt) never depth s t z) → Unlimited a.front
unlimited-nothing depth s t z a =
    let r = a.reads [] in
    unlimited-alike a.front [] (sym (append-nil a.front) ∙ sym (ap (λ v. v.tokens) r.1)) unlimited-none

-- such a token, and then what need not be there where no level may open
pub then-behind : {Y : Type 0} (k : Kind) (famS : Tok → Family Y) (g : Kind → Bool) (depth : ℕ) (q : Tok → Step Y) → is_last k ≡ false → is_limited k ≡ false
    → ((t : Tok) → Answering Always (q t) (famS t) g depth) → Answering (HeadIs k) (step.◌>>=◌ take_token q) (λ d. grammar.◌>>=◌ (One k) (λ t. famS t d)) g depth
unfolding take_token
then-behind {Y} k famS g depth q ne off right-q s end head = go s.tokens s.operators end head
  where
    follow : (d : ℕ) (t : Tok) (m : State) (y : Y) (z : State) → famS t d m y z → Stops g z.tokens → Stops never m.tokens
    follow d t m y z r over = stops-never m.tokens

    second : (s m : State) (t : Tok) → Took (λ d. One k) never depth s t m → (o : Outcome Y) → Answers (famS t) g depth m o → Answers (λ d. grammar.◌>>=◌ (One k) (λ t. famS t d)) g depth s o
    second s m t a (Ok r) b = then-took (λ d. One k) famS never g depth follow s m t r.0 r.1 a b
    second s m t a (Err bad) b =
        then-refused (λ d. One k) famS never g depth follow s m t bad a
        (reaches-unlimited (λ d. grammar.◌>>=◌ (One k) (λ t. famS t d)) depth s.operators a.front (unlimited-token k depth off s t m a)) b

    go : (ts : List Tok) (n : ℕ) → ends ts ≡ true → HeadIs k ts → Answers (λ d. grammar.◌>>=◌ (One k) (λ t. famS t d)) g depth (st ts n) (and_then (take_from ts n) q)
    go [] n e h = absurd h
    go (t ∷ ts) n e h = let a = (take-correct k depth ne).answers (st (t ∷ ts) n) e h in second (st (t ∷ ts) n) (st ts n) t a (q t (st ts n)) (right-q t (st ts n) a.ended tt)
