-- What is printed with a connective is read back at its level.
use Rattle.std.proofs.Common.{◌≡◌, ℕ, suc, ◌+◌, Bool, true, false, List, ◌∷◌, ◌++◌, refl, arith, inl}
use Rattle.pb_text_tree.specs.declared.place.Place.{Place}
use Rattle.pb_text_tree.specs.declared.operator.Connective.{Connective}
use Rattle.pb_text_tree.specs.declared.operator.Connective.TheVariants as connective
use Rattle.pb_text_lexer.specs.Tokens.{Tok}
use Rattle.pb_text_lexer.specs.Grammar.{State, Reads}
use Rattle.pb_text_lexer.specs.OpenGrammar.{more, Either, Conjunction, Disjunction, Implication}
use Rattle.pb_text_lexer.proofs.Correct.{st}
use Rattle.pb_text_terms.specs.Operators.{connected_by}
use Rattle.pb_text_printer.specs.Words.{Spells, Word, connective_word}
use Rattle.pb_text_printer.proofs.BackLemmas.{spells-split, Back, Restores}

-- a quantifier too, if one may end it
abbrev pub Ended : {X : Type 0} → Bool → Reads X → Reads X → Reads X
Ended true R Quantifier = Either R Quantifier
Ended false R Quantifier = R

pub ended : {X : Type 0} (ends : Bool) (R Quantifier : Reads X) (s : State) (x : X) (z : State) → R s x z → Ended ends R Quantifier s x z
ended true R Quantifier s x z h = inl h
ended false R Quantifier s x z h = h

-- what is read at the level of a connective
abbrev pub LevelOf : {X : Type 0} → (Connective → Place → X → X → X) → Reads X → Reads X → Connective → Bool → Reads X
LevelOf made Node Quantifier connective.And ends = Conjunction (connected_by made) Node (Ended ends Node Quantifier)
LevelOf made Node Quantifier connective.Or ends = Disjunction (connected_by made) Node (Ended ends Node Quantifier)
LevelOf made Node Quantifier connective.Implies ends = Implication (connected_by made) Node (Ended ends Node Quantifier)

-- and at that of its left side
abbrev pub SideOf : {X : Type 0} → (Connective → Place → X → X → X) → Reads X → Connective → Reads X
SideOf made Node connective.And = Node
SideOf made Node connective.Or = Conjunction (connected_by made) Node Node
SideOf made Node connective.Implies = Disjunction (connected_by made) Node Node

module _ {X : Type 0} (made : Connective → Place → X → X → X) (Node Quantifier : Reads X) (forget : X → X)
    (joined : (c : Connective) (p o : Place) (x y u v : X) → forget x ≡ forget u → forget y ≡ forget v → forget (made c p x y) ≡ forget (made c o u v)) where
  join : (c : Connective) (ends : Bool) (s m o z : State) (x y : X) (t : Tok) → SideOf made Node c s x m → m.tokens ≡ t ∷ o.tokens → t.kind ≡ (connective_word c).kind → m.operators ≡ suc o.operators
      → LevelOf made Node Quantifier c ends o y z → LevelOf made Node Quantifier c ends s (made c t.place x y) z
  join connective.And ends s m o z x y t h e i n g = more h (e, i, n) g
  join connective.Or ends s m o z x y t h e i n g = more h (e, i, n) g
  join connective.Implies ends s m o z x y t h e i n g = more h (e, i, n) g

  pub connected-back : (c : Connective) (ends : Bool) (p : Place) (x y : X) (n l : ℕ) (us vs : List Word)
      → Restores (SideOf made Node c) forget x n us → Restores (LevelOf made Node Quantifier c ends) forget y l vs
      → Restores (LevelOf made Node Quantifier c ends) forget (made c p x y) (n + suc l) (us ++ connective_word c ∷ vs)
  connected-back c ends p x y n l us vs left right s r a b e w =
      let cut = spells-split us (connective_word c ∷ vs) s r w in
      go cut.mid (left s cut.mid a (suc (l + b)) (omega arith) cut.front) cut.back
    where
      go : (mid : List Tok) → Back (SideOf made Node c) forget x (st s a) (st mid (suc (l + b)))
          → Spells (connective_word c ∷ vs) mid r → Back (LevelOf made Node Quantifier c ends) forget (made c p x y) (st s a) (st r b)
      go mid h (t, m, f, i, z, rest) =
          let g = right m r (l + b) b refl rest in
          record {
            said = made c t.place h.said g.said;
            reads = join c ends (st s a) (st mid (suc (l + b))) (st m (l + b)) (st r b) h.said g.said t h.reads f i refl g.reads;
            same = joined c t.place p h.said g.said x y h.same g.same;
          }
