-- What is read of the tokens of a model, and that such tokens are left, through each word of the grammar.
use Rattle.std.proofs.Common.{◌≡◌, ℕ, Bool, true, List, [], ◌∷◌, sym, subst, inl, inr}
use Rattle.pb_text_lexer.specs.declared.kind.Kind.{Kind}
use Rattle.pb_text_lexer.specs.declared.kind.Kind.TheVariants as k
use Rattle.pb_text_lexer.specs.Bytes.{is_name, WritesNumber}
use Rattle.pb_text_lexer.specs.Tokens.{Tok}
use Rattle.pb_text_lexer.specs.Grammar.{State, Reads, ◌>>=◌, Is, Nothing, One, by_first, First, last, more, CountedApart}
use Rattle.pb_text_lexer.specs.OpenGrammar.{Chained, last as last_operand, more as more_operands, Either}
use Rattle.pb_text_lexer.specs.LeftGrammar.{OperatorOf, Extended, Link, Links, Linked, LeftChain, UnmixedChain, Comparison, Listed, grouped}
use Rattle.pb_text_terms.specs.Grammar.{Name, Placed}
use Rattle.pb_model_text.specs.Grammar.{Beginning}
use Rattle.pb_text_tree.specs.declared.place.Place.{Place}
use Rattle.pb_text_printer.specs.Sayable.{Each, EachOf, IsName}
use Rattle.pb_text_printer.proofs.SaidLemmas.{each-of}

-- ---- tokens as a model is cut into them, of which some may count

pub record IsLexical (t : Tok) : Type 0 where
  pub name : t.kind ≡ k.Name → is_name t.text ≡ true
  pub number : t.kind ≡ k.Number → WritesNumber t.text

abbrev pub AreLexical : List Tok → Type 0
AreLexical [] = Unit {0}
AreLexical (t ∷ ts) = IsLexical t × AreLexical ts

pub lexical_behind : (ts us : List Tok) (t : Tok) → ts ≡ t ∷ us → AreLexical ts → IsLexical t × AreLexical us
lexical_behind ts us t e h = subst AreLexical e h

-- ---- what is read

-- of lexical tokens something is read of which P holds, and lexical tokens are left
abbrev pub Gives : {X : Type 0} → (X → Type 0) → Reads X → Type 0
Gives {X} P R = (s : State) (x : X) (z : State) → R s x z → AreLexical s.tokens → P x × AreLexical z.tokens

abbrev pub Any : {X : Type 0} → X → Type 0
Any x = Unit {0}

pub gives_as : {X : Type 0} (P Q : X → Type 0) (R : Reads X) → ((x : X) → P x → Q x) → Gives P R → Gives Q R
gives_as P Q R turn gives s x z r h = let found = gives s x z r h in (turn x found.0, found.1)

pub gives_is : {X : Type 0} (P : X → Type 0) (x : X) → P x → Gives P (Is x)
gives_is P x p s y z r h = (subst P (sym r.0) p, subst (λ (v : State). AreLexical v.tokens) (sym r.1) h)

pub gives_nothing : {X : Type 0} (P : X → Type 0) → Gives P (Nothing {X = X})
gives_nothing P s y z r h = absurd r

pub gives_then : {X Y : Type 0} (P : X → Type 0) (Q : Y → Type 0) (R : Reads X) (S : X → Reads Y) → Gives P R → ((x : X) → P x → Gives Q (S x)) → Gives Q (R >>= S)
gives_then P Q R S first next s y z r h =
    let one = first s r.0 r.1 r.2 h in
    next r.0 one.0 r.1 y z r.3 one.1

pub gives_one : (kind : Kind) → Gives Any (One kind)
gives_one kind s t z r h = (tt, (lexical_behind s.tokens z.tokens t r.0 h).1)

-- an operator that passes a test
pub gives_operator : (test : Kind → Bool) → Gives Any (OperatorOf test)
gives_operator test s t z r h = (tt, (lexical_behind s.tokens z.tokens t r.0 h).1)

-- behind one token
pub gives_behind : {Y : Type 0} (kind : Kind) (Q : Y → Type 0) (S : Tok → Reads Y) → ((t : Tok) → Gives Q (S t)) → Gives Q (One kind >>= S)
gives_behind kind Q S next = gives_then Any Q (One kind) S (gives_one kind) (λ t u. next t)

pub gives_name : Gives IsName Name
gives_name s x z (t, m, r, is) h =
    let lexical = lexical_behind s.tokens m.tokens t r.0 h in
    gives_is IsName (record { place = t.place; text = t.text }) (lexical.0.name r.1) m x z is lexical.1

pub gives_first : {X : Type 0} (P : X → Type 0) (R : Kind → Reads X) → ((kind : Kind) → Gives P (R kind)) → Gives P (First R)
gives_first {X} P R each s x z r h = by_tokens s.tokens r
  where
    by_tokens : (ts : List Tok) → by_first R ts s x z → P x × AreLexical z.tokens
    by_tokens [] q = absurd q
    by_tokens (t ∷ ts) q = each t.kind s x z q h

pub gives_listed : {X T : Type 0} (P : X → Type 0) (Item : Reads X) (Between : Reads T) → Gives P Item → Gives Any Between → Gives (EachOf P) (Listed Item Between)
gives_listed P Item Between item between s xs z (last {x = x} r) h = let one = item s x z r h in ((one.0, tt), one.1)
gives_listed P Item Between item between s xs z (more {m = m} {o = o} {x = x} {t = t} {y = ys} r b rest) h =
    let one = item s x m r h in
    let two = between m t o b one.1 in
    let three = gives_listed P Item Between item between o ys z rest two.1 in
    ((one.0, each-of P ys three.0), three.1)

pub gives_own : {X : Type 0} (P : X → Type 0) (R : Reads X) → Gives P R → Gives P (CountedApart R)
gives_own P R gives s x z r h = gives s x (record { tokens = z.tokens; operators = r.0 }) r.1 h

pub gives_either : {X : Type 0} (P : X → Type 0) (A B : Reads X) → Gives P A → Gives P B → Gives P (Either A B)
gives_either P A B a b s x z (inl r) h = a s x z r h
gives_either P A B a b s x z (inr r) h = b s x z r h

pub gives_extended : {X : Type 0} (P : X → Type 0) (Item : Reads X) (More : X → Reads X) → Gives P Item → ((x : X) → P x → Gives P (More x)) → Gives P (Extended Item More)
gives_extended P Item More item next s x z (inl r) h = item s x z r h
gives_extended P Item More item next s x z (inr r) h = gives_then P P Item More item next s x z r h

pub gives_placed : {X : Type 0} (P : X → Type 0) (R : Reads X) → Gives P R → Gives (λ (a : Place × X). P a.1) (Placed R)
gives_placed P R gives s a z r h = gives s a.1 z r.0 h

pub gives_chained : {X : Type 0} (P : X → Type 0) (kind : Kind) (join : X → Tok → X → X) (Closed Open : Reads X) → ((x : X) (t : Tok) (y : X) → P x → P y → P (join x t y))
    → Gives P Closed → Gives P Open → Gives P (Chained kind join Closed Open)
gives_chained P kind join Closed Open joins closed opened s x z (last_operand r) h = opened s _ z r h
gives_chained P kind join Closed Open joins closed opened s x z (more_operands {m = m} {o = o} {x = a} {y = b} {t = t} r p rs) h =
    let one = closed s a m r h in
    let two = lexical_behind m.tokens o.tokens t p.0 one.1 in
    let three = gives_chained P kind join Closed Open joins closed opened o b z rs two.1 in
    (joins a t b one.0 three.0, three.1)

pub gives_beginning : {X : Type 0} (kind : Kind) (P : X → Type 0) (R : Reads X) → Gives P R → Gives P (Beginning kind R)
gives_beginning kind P R gives s x z r h = gives s x z r.1 h

-- ---- operators

links_given : {X : Type 0} (P : X → Type 0) (test : Kind → Bool) (Item : Reads X) → Gives P Item → Gives (EachOf (λ (l : Tok × X). P l.1)) (Links test Item)
links_given {X} P test Item item =
    let Q : (Tok × X) → Type 0 = λ l. P l.1 in
    gives_listed Q (Link test Item) (Is {X = Unit {0}} tt)
    (gives_then Any Q (OperatorOf test) _ (gives_operator test) (λ t u. gives_then P Q Item _ item (λ x h. gives_is Q (t, x) h))) (gives_is Any tt tt)

grouped_has : {X : Type 0} (P : X → Type 0) (join : X → Tok → X → X) → ((x : X) (t : Tok) (y : X) → P x → P y → P (join x t y))
    → (x : X) (links : List (Tok × X)) → P x → Each (λ (l : Tok × X). P l.1) links → P (grouped join x links)
grouped_has P join joins x [] h each = h
grouped_has P join joins x (l ∷ links) h each = grouped_has P join joins (join x l.0 l.1) links (joins x l.0 l.1 h each.0) each.1

linked_given : {X : Type 0} (P : X → Type 0) (test : Kind → Bool) (join : X → Tok → X → X) (Item : Reads X) → ((x : X) (t : Tok) (y : X) → P x → P y → P (join x t y)) → Gives P Item
    → (x : X) → P x → Gives P (Linked test join Item x)
linked_given {X} P test join Item joins item x h =
    gives_then _ P (Links test Item) _ (links_given P test Item item) (λ links each.
    gives_is P (grouped join x links) (grouped_has P join joins x links h (each-of (λ (l : Tok × X). P l.1) links each)))

pub gives_left : {X : Type 0} (P : X → Type 0) (test : Kind → Bool) (join : X → Tok → X → X) (Item : Reads X) → ((x : X) (t : Tok) (y : X) → P x → P y → P (join x t y)) → Gives P Item
    → Gives P (LeftChain test join Item)
gives_left P test join Item joins item = gives_extended P Item (Linked test join Item) item (linked_given P test join Item joins item)

pub gives_unmixed : {X : Type 0} (P : X → Type 0) (test other : Kind → Bool) (join : X → Tok → X → X) (Item : Reads X) → ((x : X) (t : Tok) (y : X) → P x → P y → P (join x t y))
    → Gives P Item → Gives P (UnmixedChain test other join Item)
gives_unmixed P test other join Item joins item =
    gives_extended P Item _ item (λ x h.
    gives_either P (Linked test join Item x) (Linked other join Item x) (linked_given P test join Item joins item x h) (linked_given P other join Item joins item x h))

pub gives_comparison : {X : Type 0} (P : X → Type 0) (test : Kind → Bool) (join : X → Tok → X → X) (Item : Reads X) → ((x : X) (t : Tok) (y : X) → P x → P y → P (join x t y)) → Gives P Item
    → Gives P (Comparison test join Item)
gives_comparison P test join Item joins item =
    gives_extended P Item _ item (λ x h. gives_then Any P (OperatorOf test) _ (gives_operator test) (λ t u. gives_then P P Item _ item (λ y g. gives_is P (join x t y) (joins x t y h g))))
