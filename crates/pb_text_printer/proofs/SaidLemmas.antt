-- What is read has names and numbers that are such, and counts its operators: for the words of grammars.
use Rattle.std.proofs.Common.{◌≡◌, ℕ, ◌+◌, Bool, true, List, [], ◌∷◌, ◌++◌, map, refl, sym, subst, arith}
use Rattle.std.specs.Prelude.{flat_map}
use Rattle.pb_text_tree.specs.declared.place.Place.{Place}
use Rattle.pb_text_tree.specs.declared.operator.Quantifier.{Quantifier}
use Rattle.pb_text_tree.specs.declared.operator.Quantifier.TheVariants.{Forall, Exists}
use Rattle.pb_text_tree.specs.Form.{Named, VariableForm}
use Rattle.pb_text_lexer.specs.declared.kind.Kind.{Kind}
use Rattle.pb_text_lexer.specs.declared.kind.Kind.TheVariants as k
use Rattle.pb_text_lexer.specs.Bytes.{is_name, WritesNumber}
use Rattle.pb_text_lexer.specs.Tokens.{Tok}
use Rattle.pb_text_lexer.specs.Grammar.{State, Reads, Is, One, Operator, First, by_first, last, more}
use Rattle.pb_text_lexer.specs.LeftGrammar.{OperatorOf, Listed}
use Rattle.pb_text_lexer.proofs.Correct.{st}
use Rattle.pb_text_terms.specs.Grammar.{Name, Group, Variables, Binding, QuantifiedBy, Quantified}
use Rattle.pb_text_printer.specs.Sayable.{Each, EachOf, IsName, AreNames, AreVariables}

-- ---- tokens as a text is cut into them: none counts

pub record IsLexical (t : Tok) : Type 0 where
  pub name : t.kind ≡ k.Name → is_name t.text ≡ true
  pub number : t.kind ≡ k.Number → WritesNumber t.text
  pub plain : t.kind ≡ k.Count → ⊥

abbrev pub AreLexical : List Tok → Type 0
AreLexical [] = Unit {0}
AreLexical (t ∷ ts) = IsLexical t × AreLexical ts

-- ---- what a reading shows of what is read

pub record Said (P : Type 0) (n : ℕ) (s z : State) : Type 0 where
  pub says : P
  pub rest : AreLexical z.tokens
  pub count : s.operators ≡ n + z.operators

-- whatever is read so is P, and has so many operators
abbrev pub EachReadingIs : {X : Type 0} → Reads X → (X → Type 0) → (X → ℕ) → Type 0
EachReadingIs {X} R P n = (s z : State) (x : X) → AreLexical s.tokens → R s x z → Said (P x) (n x) s z

pub lexical-along : (ts us : List Tok) → ts ≡ us → AreLexical ts → AreLexical us
lexical-along ts us e h = subst (λ (v : List Tok). AreLexical v) e h

pub one-said : (kind : Kind) → EachReadingIs (One kind) IsLexical (λ t. 0)
one-said kind s z t lex h =
    let both : AreLexical (t ∷ z.tokens) = lexical-along s.tokens (t ∷ z.tokens) h.0 lex in
    record { says = both.0; rest = both.1; count = omega arith }

pub operator-said : (kind : Kind) → EachReadingIs (Operator kind) IsLexical (λ t. 1)
operator-said kind s z t lex h =
    let both : AreLexical (t ∷ z.tokens) = lexical-along s.tokens (t ∷ z.tokens) h.0 lex in
    record { says = both.0; rest = both.1; count = omega arith }

pub operator_of-said : (test : Kind → Bool) → EachReadingIs (OperatorOf test) IsLexical (λ t. 1)
operator_of-said test s z t lex h =
    let both : AreLexical (t ∷ z.tokens) = lexical-along s.tokens (t ∷ z.tokens) h.0 lex in
    record { says = both.0; rest = both.1; count = omega arith }

-- the end of a production
pub finish : {X : Type 0} (P : X → Type 0) (n : X → ℕ) (v y : X) (s m z : State) → y ≡ v → z ≡ m → Said (P v) (n v) s m → Said (P y) (n y) s z
finish P n v y s m z e f h =
    subst (λ (w : State). Said (P y) (n y) s w) (sym f) (subst (λ x. Said (P x) (n x) s m) (sym e) h)

pub first-said : {X : Type 0} (R : Kind → Reads X) (P : X → Type 0) (n : X → ℕ) → ((kind : Kind) → EachReadingIs (R kind) P n) → EachReadingIs (First R) P n
first-said R P n each s z x lex h = go s.tokens s.operators lex h
  where
    go : (ts : List Tok) (operators : ℕ) → AreLexical ts → by_first R ts (st ts operators) x z → Said (P x) (n x) (st ts operators) z
    go [] operators lex h = absurd h
    go (t ∷ ts) operators lex h = each t.kind (st (t ∷ ts) operators) z x lex h

-- ---- lists

abbrev pub total : {X : Type 0} → (X → ℕ) → List X → ℕ
total n [] = 0
total n (x ∷ xs) = n x + total n xs

pub each-of : {X : Type 0} (P : X → Type 0) (xs : List X) → EachOf P xs → Each P xs
each-of P [] h = absurd h
each-of P (x ∷ xs) h = h

pub total-none : {X : Type 0} (xs : List X) → total (λ x. 0) xs ≡ 0
total-none [] = refl
total-none (x ∷ xs) = let h = total-none xs in omega arith

pub listed-said : {X T : Type 0} (Item : Reads X) (Between : Reads T) (P : X → Type 0) (n : X → ℕ) → EachReadingIs Item P n → EachReadingIs Between (λ t. Unit {0}) (λ t. 0)
    → EachReadingIs (Listed Item Between) (EachOf P) (total n)
listed-said Item Between P n item between s z xs lex (last {x = x} r) =
    let h = item s z x lex r in
    let count = h.count in
    record { says = (h.says, tt); rest = h.rest; count = omega arith }
listed-said Item Between P n item between s z xs lex (more {m = m} {o = o} {x = x} {t = t} {y = ys} r b rest) =
    let h = item s m x lex r in let g = between m o t h.rest b in
    let f = listed-said Item Between P n item between o z ys g.rest rest in
    let p = h.count in let q = g.count in let u = f.count in
    record { says = (h.says, each-of P ys f.says); rest = f.rest; count = omega arith }

pub comma-said : EachReadingIs (One k.Comma) (λ t. Unit {0}) (λ t. 0)
comma-said s z t lex h = let found = one-said k.Comma s z t lex h in record { says = tt; rest = found.rest; count = found.count }

pub nothing-said : EachReadingIs (Is {X = Unit {0}} tt) (λ t. Unit {0}) (λ t. 0)
nothing-said s z t lex h = finish (λ t. Unit {0}) (λ t. 0) tt t s s z h.0 h.1 (record { says = tt; rest = lex; count = omega arith })

-- ---- names and variables

pub name-said : EachReadingIs Name IsName (λ n. 0)
name-said s z n lex (t, m, r, e) =
    let h = one-said k.Name s m t lex r in
    let is = h.says in
    finish IsName (λ n. 0) (record { place = t.place; text = t.text }) n s m z e.0 e.1 (record { says = is.name r.1; rest = h.rest; count = h.count })

group-names : (names : List Named) (sort : Named) → Each IsName names → IsName sort → AreNames (map (λ name. record { name = name; sort = sort }) names)
group-names [] sort h g = tt
group-names (n ∷ names) sort h g = (h.0, g, group-names names sort h.1 g)

group-variables : (names : List Named) (sort : Named) → EachOf IsName names → IsName sort → AreVariables (map (λ name. record { name = name; sort = sort }) names)
group-variables [] sort h g = absurd h
group-variables (n ∷ names) sort h g = (h.0, g, group-names names sort h.1 g)

group-said : EachReadingIs Group AreVariables (λ vs. 0)
group-said s z vs lex (names, m, r, (colon, o, c, (sort, q, n, e))) =
    let h = listed-said Name (One k.Comma) IsName (λ n. 0) name-said comma-said s m names lex r in
    let g = one-said k.Colon m o colon h.rest c in
    let f = name-said o q sort g.rest n in
    let none = total-none names in let a = h.count in let b = g.count in let d = f.count in
    finish AreVariables (λ vs. 0) (map (λ name. record { name = name; sort = sort }) names) vs s q z e.0 e.1
    (record { says = group-variables names sort h.says f.says; rest = f.rest; count = omega arith })

are-names : (vs : List VariableForm) → AreVariables vs → AreNames vs
are-names [] h = absurd h
are-names (v ∷ vs) h = h

both-names : (vs ws : List VariableForm) → AreNames vs → AreNames ws → AreNames (vs ++ ws)
both-names [] ws h g = g
both-names (v ∷ vs) ws h g = (h.0, h.1, both-names vs ws h.2 g)

flat-names : (groups : List (List VariableForm)) → Each AreVariables groups → AreNames (flat_map (λ group. group) groups)
flat-names [] h = tt
flat-names (vs ∷ groups) h = both-names vs (flat_map (λ group. group) groups) (are-names vs h.0) (flat-names groups h.1)

flat-variables : (groups : List (List VariableForm)) → EachOf AreVariables groups → AreVariables (flat_map (λ group. group) groups)
flat-variables [] h = absurd h
flat-variables ([] ∷ groups) h = absurd h.0
flat-variables ((v ∷ vs) ∷ groups) h = both-names (v ∷ vs) (flat_map (λ group. group) groups) h.0 (flat-names groups h.1)

pub variables-said : EachReadingIs Variables AreVariables (λ vs. 0)
variables-said s z vs lex (groups, m, r, e) =
    let h = listed-said Group (One k.Comma) AreVariables (λ vs. 0) group-said comma-said s m groups lex r in
    let none = total-none groups in let a = h.count in
    finish AreVariables (λ vs. 0) (flat_map (λ group. group) groups) vs s m z e.0 e.1 (record { says = flat-variables groups h.says; rest = h.rest; count = omega arith })

-- ---- quantifiers

module _ {X : Type 0} (made : Quantifier → Place → List VariableForm → X → X) (Body : Reads X) (P Q : X → Type 0) (n : X → ℕ)
    (body : EachReadingIs Body P n)
    (bound : (q : Quantifier) (p : Place) (vars : List VariableForm) (x : X) → AreVariables vars → P x → Q (made q p vars x))
    (same : (q : Quantifier) (p : Place) (vars : List VariableForm) (x : X) → n (made q p vars x) ≡ n x) where
  binding-said : (q : Quantifier) (p : Place) → EachReadingIs (Binding (made q p) Body) Q n
  binding-said q p s z x lex (vars, m, r, (period, o, c, (inner, w, b, e))) =
      let h = variables-said s m vars lex r in
      let g = one-said k.Period m o period h.rest c in
      let f = body o w inner g.rest b in
      let a = h.count in let d = g.count in let u = f.count in let v = same q p vars inner in
      finish Q n (made q p vars inner) x s w z e.0 e.1 (record { says = bound q p vars inner h.says f.says; rest = f.rest; count = omega arith })

  pub quantified-by-said : (kind : Kind) → EachReadingIs (QuantifiedBy made Body kind) Q n
  quantified-by-said k.Forall s z x lex (t, m, r, b) =
      let h = one-said k.Forall s m t lex r in let f = binding-said Forall t.place m z x h.rest b in
      let a = h.count in let u = f.count in
      record { says = f.says; rest = f.rest; count = omega arith }
  quantified-by-said k.Exists s z x lex (t, m, r, b) =
      let h = one-said k.Exists s m t lex r in let f = binding-said Exists t.place m z x h.rest b in
      let a = h.count in let u = f.count in
      record { says = f.says; rest = f.rest; count = omega arith }
  quantified-by-said _ s z x lex h = absurd h

  pub quantified-said : EachReadingIs (Quantified made Body) Q n
  quantified-said = first-said (QuantifiedBy made Body) Q n quantified-by-said
