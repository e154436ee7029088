-- What is read keeps its places: they are those of the tokens that were read, one after the other.
use Rattle.std.proofs.Common.{◌≡◌, ◌⊎◌, List, [], ◌∷◌, ◌++◌, map, append_assoc, sym, ap, ◌∙◌, subst, inl, inr, arith}
use Rattle.std.specs.Prelude.{Contains}
use Rattle.std.proofs.lemmas.List.{map-append}
use Rattle.pb_text_tree.specs.declared.place.Place.{Place}
use Rattle.pb_text_lexer.specs.declared.kind.Kind.{Kind}
use Rattle.pb_text_lexer.specs.Grammar.{State, Reads, ◌>>=◌, Is, Nothing, One, Operator, First, by_first, Series, last, more, CountedApart}
use Rattle.pb_text_lexer.specs.OpenGrammar as open_grammar
use Rattle.pb_text_lexer.specs.OpenGrammar.{Chained, Either}
use Rattle.pb_text_lexer.specs.LeftGrammar.{Extended}
use Rattle.pb_text_lexer.specs.Tokens.{Tok}
use Rattle.pb_text_terms.specs.Grammar.{Placed}
use Rattle.pb_model_runs.proofs.Elements.{in-left, in-right, in-either}

abbrev pub places_of : List Tok → List Place
places_of = map (λ (t : Tok). t.place)

-- tokens are taken, and each place is one of these or that of a token
pub record Took (s z : State) (before places : List Place) : Type 0 where
  pub front : List Tok
  pub tokens : s.tokens ≡ front ++ z.tokens
  pub among : (p : Place) → Contains places p → Contains before p ⊎ Contains (places_of front) p

abbrev pub Keeps : {X : Type 0} → List Place → (X → List Place) → Reads X → Type 0
Keeps before places R = (s : State) (x : _) (z : State) → R s x z → Took s z before (places x)

abbrev pub Skips : {X : Type 0} → Reads X → Type 0
Skips R = Keeps [] (λ x. []) R

pub no-place : {A : Type 0} (p : Place) → Contains (places_of []) p → A
no-place p h = absurd (omega (arith, h.1))

pub keeps-nothing : {X : Type 0} (before : List Place) (places : X → List Place) → Keeps before places (Nothing {X = X})
keeps-nothing before places s x z h = absurd h

pub keeps-is : {X : Type 0} (before : List Place) (places : X → List Place) (x : X) → ((p : Place) → Contains (places x) p → Contains before p) → Keeps before places (Is x)
keeps-is before places x within s y z h = record {
  front = [];
  tokens = ap (λ (v : State). v.tokens) (sym h.1);
  among = λ p e. inl (within p (subst (λ v. Contains (places v) p) h.0 e));
}

pub skips-is : {X : Type 0} (x : X) → Skips (Is x)
skips-is x = keeps-is [] (λ x. []) x (λ p h. h)

pub keeps-one : (kind : Kind) → Keeps [] (λ (t : Tok). t.place ∷ []) (One kind)
keeps-one kind s t z h = record { front = t ∷ []; tokens = h.0; among = λ p e. inr e }

pub keeps-bind : {X Y : Type 0} (R : Reads X) (S : X → Reads Y) (before : List Place) (first : X → List Place) (places : Y → List Place)
    → Keeps [] first R → ((x : X) → Keeps (first x ++ before) places (S x)) → Keeps before places (R >>= S)
keeps-bind R S before first places r next s y z h =
    let a = r s h.0 h.1 h.2 in
    let b = next h.0 h.1 y z h.3 in
    record {
      front = a.front ++ b.front;
      tokens = a.tokens ∙ ap (λ v. a.front ++ v) b.tokens ∙ sym (append_assoc a.front b.front z.tokens);
      among = λ p e. elim (b.among p e) [
        | inl known ↦ elim (in-either (first h.0) before p known) [
          | inl here ↦ elim (a.among p here) [
            | inl none ↦ no-place p none
            | inr token ↦ inr (subst (λ ps. Contains ps p) (sym (map-append (λ (t : Tok). t.place) a.front b.front)) (in-left (places_of a.front) (places_of b.front) p token))
          ]
          | inr there ↦ inl there
        ]
        | inr token ↦ inr (subst (λ ps. Contains ps p) (sym (map-append (λ (t : Tok). t.place) a.front b.front)) (in-right (places_of a.front) (places_of b.front) p token))
      ];
    }

pub skips-of : {X : Type 0} (R : Reads X) (places : X → List Place) → Keeps [] places R → Skips R
skips-of R places r s x z h = let a = r s x z h in record { front = a.front; tokens = a.tokens; among = λ p e. no-place p e }

pub skip : {X Y : Type 0} (R : Reads X) (S : X → Reads Y) (before : List Place) (places : Y → List Place)
    → Skips R → ((x : X) → Keeps before places (S x)) → Keeps before places (R >>= S)
skip R S before places r next = keeps-bind R S before (λ x. []) places r next

pub skips-one : (kind : Kind) → Skips (One kind)
skips-one kind = skips-of (One kind) (λ (t : Tok). t.place ∷ []) (keeps-one kind)

pub skips-operator : (kind : Kind) → Skips (Operator kind)
skips-operator kind s t z h = record { front = t ∷ []; tokens = h.0; among = λ p e. no-place p e }

pub keeps-first : {X : Type 0} (before : List Place) (places : X → List Place) (R : Kind → Reads X) → ((k : Kind) → Keeps before places (R k)) → Keeps before places (First R)
keeps-first before places R r s x z h = by s.tokens h
  where
    by : (ts : List Tok) → by_first R ts s x z → Took s z before (places x)
    by [] h = absurd h
    by (t ∷ ts) h = r t.kind s x z h

pub keeps-extended : {X : Type 0} (before : List Place) (places : X → List Place) (Item : Reads X) (More : X → Reads X)
    → Keeps before places Item → Keeps before places (Item >>= More) → Keeps before places (Extended Item More)
keeps-extended before places Item More item longer s x z (inl h) = item s x z h
keeps-extended before places Item More item longer s x z (inr h) = longer s x z h

pub keeps-either : {X : Type 0} (before : List Place) (places : X → List Place) (A B : Reads X)
    → Keeps before places A → Keeps before places B → Keeps before places (Either A B)
keeps-either before places A B a b s x z (inl h) = a s x z h
keeps-either before places A B a b s x z (inr h) = b s x z h

pub keeps-placed : {X : Type 0} (places : X → List Place) (R : Reads X) → Keeps [] places R → Keeps [] (λ (y : Place × X). places y.1) (Placed R)
keeps-placed places R r s y z h = r s y.1 z h.0

pub keeps-counted : {X : Type 0} (places : X → List Place) (R : Reads X) → Keeps [] places R → Keeps [] places (CountedApart R)
keeps-counted places R r s x z h = let a = r s x (record { tokens = z.tokens; operators = h.0 }) h.1 in record { front = a.front; tokens = a.tokens; among = a.among }

-- one after the other
pub joined-took : (s m z : State) (ps qs rs : List Place) → Took s m [] ps → Took m z [] qs → ((p : Place) → Contains rs p → Contains (ps ++ qs) p) → Took s z [] rs
joined-took s m z ps qs rs a b within = record {
  front = a.front ++ b.front;
  tokens = a.tokens ∙ ap (λ v. a.front ++ v) b.tokens ∙ sym (append_assoc a.front b.front z.tokens);
  among = λ p e.
      let over = λ (ts : Contains (places_of a.front ++ places_of b.front) p). subst (λ us. Contains us p) (sym (map-append (λ (t : Tok). t.place) a.front b.front)) ts in
      elim (in-either ps qs p (within p e)) [
        | inl first ↦ elim (a.among p first) [ inl none ↦ no-place p none | inr token ↦ inr (over (in-left (places_of a.front) (places_of b.front) p token)) ]
        | inr second ↦ elim (b.among p second) [ inl none ↦ no-place p none | inr token ↦ inr (over (in-right (places_of a.front) (places_of b.front) p token)) ]
      ];
}

pub keeps-series : {X T Y : Type 0} (Item : Reads X) (Between : Reads T) (end : X → Y) (join : X → T → Y → Y) (first : X → List Place) (places : Y → List Place)
    → ((x : X) (p : Place) → Contains (places (end x)) p → Contains (first x) p)
    → ((x : X) (t : T) (y : Y) (p : Place) → Contains (places (join x t y)) p → Contains (first x ++ places y) p)
    → Keeps [] first Item → Skips Between → Keeps [] places (Series Item Between end join)
keeps-series Item Between end join first places at-end at-join item between s y z (last {x = x} h) =
    let a = item s x z h in record { front = a.front; tokens = a.tokens; among = λ p e. a.among p (at-end x p e) }
keeps-series Item Between end join first places at-end at-join item between s y z (more {m = m} {o = o} {x = x} {t = t} {y = rest} h k l) =
    let a = item s x m h in
    let b = between m t o k in
    let c = keeps-series Item Between end join first places at-end at-join item between o rest z l in
    joined-took s o z (first x) (places rest) (places (join x t rest))
    (joined-took s m o (first x) [] (first x) a b (λ p e. in-left (first x) [] p e)) c (at-join x t rest)

pub skips-series : {X T Y : Type 0} (Item : Reads X) (Between : Reads T) (end : X → Y) (join : X → T → Y → Y) → Skips Item → Skips Between → Skips (Series Item Between end join)
skips-series Item Between end join item between =
    keeps-series Item Between end join (λ x. []) (λ y. []) (λ x p e. e) (λ x t y p e. e) item between

pub keeps-chained : {X : Type 0} (kind : Kind) (join : X → Tok → X → X) (Closed Open : Reads X) (places : X → List Place)
    → ((x : X) (t : Tok) (y : X) (p : Place) → Contains (places (join x t y)) p → Contains (places x ++ places y) p)
    → Keeps [] places Closed → Keeps [] places Open → Keeps [] places (Chained kind join Closed Open)
keeps-chained kind join Closed Open places at-join closed opened s y z (open_grammar.last h) = opened s y z h
keeps-chained kind join Closed Open places at-join closed opened s y z (open_grammar.more {m = m} {o = o} {x = x} {y = rest} {t = t} h k l) =
    let a = closed s x m h in
    let b = skips-operator kind m t o k in
    let c = keeps-chained kind join Closed Open places at-join closed opened o rest z l in
    joined-took s o z (places x) (places rest) (places (join x t rest))
    (joined-took s m o (places x) [] (places x) a b (λ p e. in-left (places x) [] p e)) c (at-join x t rest)

-- the three levels of connectives
pub keeps-connected : {X : Type 0} (join : Kind → X → Tok → X → X) (Node Open : Reads X) (places : X → List Place)
    → ((k : Kind) (x : X) (t : Tok) (y : X) (p : Place) → Contains (places (join k x t y)) p → Contains (places x ++ places y) p)
    → Keeps [] places Node → Keeps [] places Open → Keeps [] places (open_grammar.Connected join Node Open)
keeps-connected join Node Open places at-join node opened =
    let either = keeps-either [] places Node Open node opened in
    let closed_and = keeps-chained _ (join _) Node Node places (at-join _) node node in
    let open_and = keeps-chained _ (join _) Node (Either Node Open) places (at-join _) node either in
    keeps-chained _ (join _) _ _ places (at-join _)
    (keeps-chained _ (join _) _ _ places (at-join _) closed_and closed_and)
    (keeps-chained _ (join _) _ _ places (at-join _) closed_and open_and)
