-- What is read by the upper levels of a grammar, those of the connectives, can be said at them.
use Rattle.std.proofs.Common.{◌≡◌, ℕ, suc, ◌+◌, Bool, true, false, refl, arith, inl, inr}
use Rattle.pb_text_tree.specs.declared.place.Place.{Place}
use Rattle.pb_text_tree.specs.declared.operator.Connective.{Connective}
use Rattle.pb_text_tree.specs.declared.operator.Connective.TheVariants as connective
use Rattle.pb_text_lexer.specs.declared.kind.Kind.{Kind}
use Rattle.pb_text_lexer.specs.declared.kind.Kind.TheVariants as k
use Rattle.pb_text_lexer.specs.Tokens.{Tok}
use Rattle.pb_text_lexer.specs.Grammar.{Reads}
use Rattle.pb_text_lexer.specs.OpenGrammar.{Chained, last, more, Either, Conjunction, Disjunction, Connected}
use Rattle.pb_text_terms.specs.Operators.{connected_by}
use Rattle.pb_text_printer.specs.declared.level.Level.{Level}
use Rattle.pb_text_printer.specs.declared.level.Level.TheVariants as level
use Rattle.pb_text_printer.specs.Words.{fits}
use Rattle.pb_text_printer.proofs.SaidLemmas.{EachReadingIs, operator-said}

pub chained-said : {X : Type 0} (kind : Kind) (join : X → Tok → X → X) (Closed Open : Reads X) (P R Q : X → Type 0) (n : X → ℕ)
    → EachReadingIs Closed P n → EachReadingIs Open R n → ((x : X) → R x → Q x) → ((x : X) (t : Tok) (y : X) → P x → Q y → Q (join x t y))
    → ((x : X) (t : Tok) (y : X) → n (join x t y) ≡ n x + suc (n y)) → EachReadingIs (Chained kind join Closed Open) Q n
chained-said kind join Closed Open P R Q n closed opened base joins same s z y lex (last r) =
    let h = opened s z y lex r in record { says = base y h.says; rest = h.rest; count = h.count }
chained-said kind join Closed Open P R Q n closed opened base joins same s z w lex (more {m = m} {o = o} {x = x} {y = y} {t = t} r b rest) =
    let h = closed s m x lex r in
    let g = operator-said kind m o t h.rest b in
    let f = chained-said kind join Closed Open P R Q n closed opened base joins same o z y g.rest rest in
    let a = h.count in let c = g.count in let u = f.count in let v = same x t y in
    record { says = joins x t y h.says f.says; rest = f.rest; count = omega arith }

module _ {X : Type 0} (made : Connective → Place → X → X → X) (Node Quantifier : Reads X) (A : X → Level → Bool → Type 0) (n : X → ℕ) (bottom : Level)
    (node : EachReadingIs Node (λ x. A x bottom false) n)
    (quantifier : EachReadingIs Quantifier (λ x. A x bottom true) n)
    (free : (x : X) (l : Level) → A x l false → A x l true)
    (loose : (x : X) (l m : Level) (ends : Bool) → fits l m ≡ true → A x l ends → A x m ends)
    (low : fits bottom level.Conjunction ≡ true)
    (conjoined : (p : Place) (x y : X) (ends : Bool) → A x bottom false → A y level.Conjunction ends → A (made connective.And p x y) level.Conjunction ends)
    (disjoined : (p : Place) (x y : X) (ends : Bool) → A x level.Conjunction false → A y level.Disjunction ends → A (made connective.Or p x y) level.Disjunction ends)
    (implied : (p : Place) (x y : X) (ends : Bool) → A x level.Disjunction false → A y level.Implication ends → A (made connective.Implies p x y) level.Implication ends)
    (same : (c : Connective) (p : Place) (x y : X) → n (made c p x y) ≡ n x + suc (n y)) where
  conjunction-said : (Open : Reads X) (ends : Bool) → EachReadingIs Open (λ x. A x bottom ends) n → EachReadingIs (Conjunction (connected_by made) Node Open) (λ x. A x level.Conjunction ends) n
  conjunction-said Open ends opened =
      chained-said k.And (connected_by made k.And) Node Open (λ x. A x bottom false) (λ x. A x bottom ends) (λ x. A x level.Conjunction ends) n node opened
      (λ x. loose x bottom level.Conjunction ends low) (λ x t y. conjoined t.place x y ends) (λ x t y. same connective.And t.place x y)

  disjunction-said : (Open : Reads X) (ends : Bool) → EachReadingIs Open (λ x. A x bottom ends) n → EachReadingIs (Disjunction (connected_by made) Node Open) (λ x. A x level.Disjunction ends) n
  disjunction-said Open ends opened =
      chained-said k.Or (connected_by made k.Or) (Conjunction (connected_by made) Node Node) (Conjunction (connected_by made) Node Open)
      (λ x. A x level.Conjunction false) (λ x. A x level.Conjunction ends) (λ x. A x level.Disjunction ends) n
      (conjunction-said Node false node) (conjunction-said Open ends opened)
      (λ x. loose x level.Conjunction level.Disjunction ends refl) (λ x t y. disjoined t.place x y ends) (λ x t y. same connective.Or t.place x y)

  either-said : EachReadingIs (Either Node Quantifier) (λ x. A x bottom true) n
  either-said s z x lex (inl r) = let h = node s z x lex r in record { says = free x bottom h.says; rest = h.rest; count = h.count }
  either-said s z x lex (inr r) = quantifier s z x lex r

  pub connected-said : EachReadingIs (Connected (connected_by made) Node Quantifier) (λ x. A x level.Implication true) n
  connected-said =
      chained-said k.Implies (connected_by made k.Implies) (Disjunction (connected_by made) Node Node) (Disjunction (connected_by made) Node (Either Node Quantifier))
      (λ x. A x level.Disjunction false) (λ x. A x level.Disjunction true) (λ x. A x level.Implication true) n
      (disjunction-said Node false node) (disjunction-said (Either Node Quantifier) true either-said)
      (λ x. loose x level.Disjunction level.Implication true refl) (λ x t y. implied t.place x y true) (λ x t y. same connective.Implies t.place x y)
