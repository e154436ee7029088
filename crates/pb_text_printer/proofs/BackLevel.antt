-- What is written in levels, as terms and formulas are, is read back at its level: with brackets or without, and with a connective.
use Rattle.std.proofs.Common.{◌≡◌, ℕ, zero, suc, ◌+◌, Bool, true, false, List, [], ◌∷◌, ◌++◌, refl, inr}
use Rattle.pb_text_tree.specs.declared.place.Place.{Place}
use Rattle.pb_text_tree.specs.declared.operator.Connective.{Connective}
use Rattle.pb_text_tree.specs.declared.operator.Connective.TheVariants as connective
use Rattle.pb_text_lexer.specs.declared.kind.Kind.{Kind}
use Rattle.pb_text_lexer.specs.declared.kind.Kind.TheVariants as k
use Rattle.pb_text_lexer.specs.Tokens.{Tok}
use Rattle.pb_text_lexer.specs.Grammar.{State, Reads, Is, One}
use Rattle.pb_text_lexer.specs.Grammar as grammar
use Rattle.pb_text_lexer.specs.OpenGrammar.{last}
use Rattle.pb_text_lexer.proofs.Correct.{st, Family}
use Rattle.pb_text_printer.specs.declared.level.Level.{Level}
use Rattle.pb_text_printer.specs.declared.level.Level.TheVariants as level
use Rattle.pb_text_printer.specs.Words.{Spells, Word, open_word, close_word, connective_word, put, fits, connective_level}
use Rattle.pb_text_printer.specs.Sayable.{IsPut}
use Rattle.pb_text_printer.proofs.BackLemmas.{Split, spells-split, Back, Restores, at-end, at-last}
use Rattle.pb_text_printer.proofs.BackConnected.{Ended, LevelOf, SideOf, connected-back}

-- what is read so is read otherwise too
restores-to : {X : Type 0} (R Q : Reads X) (forget : X → X) (x : X) (n : ℕ) (ws : List Word) → ((s z : State) (y : X) → R s y z → Q s y z) → Restores R forget x n ws → Restores Q forget x n ws
restores-to R Q forget x n ws to h s r a b e w = let p = h s r a b e w in record { said = p.said; reads = to _ _ p.said p.reads; same = p.same }

-- ---- levels

module _ {X : Type 0} (made : Connective → Place → X → X → X) (Below : Level → Family X) (Quantifier : Family X) where
  abbrev pub ConnectedAt : Connective → Bool → Family X
  ConnectedAt c ends d = LevelOf made (Below level.Equality d) (Quantifier d) c ends

  -- what is read where a level is asked for
  abbrev pub LevelAt : Level → Bool → Family X
  LevelAt level.Implication ends d = ConnectedAt connective.Implies ends d
  LevelAt level.Disjunction ends d = ConnectedAt connective.Or ends d
  LevelAt level.Conjunction ends d = ConnectedAt connective.And ends d
  LevelAt l ends d = Ended ends (Below l d) (Quantifier d)

  pub own-connected : (c : Connective) (l : Level) (ends : Bool) (d : ℕ) (s z : State) (y : X) → fits (connective_level c) l ≡ true → ConnectedAt c ends d s y z → LevelAt l ends d s y z
  own-connected connective.And level.Conjunction ends d s z y e h = h
  own-connected connective.And level.Disjunction ends d s z y e h = last h
  own-connected connective.And level.Implication ends d s z y e h = last (last h)
  own-connected connective.Or level.Disjunction ends d s z y e h = h
  own-connected connective.Or level.Implication ends d s z y e h = last h
  own-connected connective.Implies level.Implication ends d s z y e h = h
  own-connected _ _ ends d s z y e h = cc

  pub own-quantified : (l : Level) (ends : Bool) (d : ℕ) (s z : State) (y : X) → ends ≡ true → Quantifier d s y z → LevelAt l ends d s y z
  own-quantified l false d s z y e h = cc
  own-quantified level.Implication true d s z y e h = last (last (last (inr h)))
  own-quantified level.Disjunction true d s z y e h = last (last (inr h))
  own-quantified level.Conjunction true d s z y e h = last (inr h)
  own-quantified level.Equality true d s z y e h = inr h
  own-quantified level.Order true d s z y e h = inr h
  own-quantified level.Sum true d s z y e h = inr h
  own-quantified level.Product true d s z y e h = inr h
  own-quantified level.Unary true d s z y e h = inr h

  -- what is read at the level of equality, at it and at those of connectives
  pub from-equality : (l : Level) (ends : Bool) (d : ℕ) (s z : State) (x : X) → fits level.Equality l ≡ true → Ended ends (Below level.Equality d) (Quantifier d) s x z → LevelAt l ends d s x z
  from-equality level.Implication ends d s z x e h = last (last (last h))
  from-equality level.Disjunction ends d s z x e h = last (last h)
  from-equality level.Conjunction ends d s z x e h = last h
  from-equality level.Equality ends d s z x e h = h
  from-equality level.Order ends d s z x e h = cc
  from-equality level.Sum ends d s z x e h = cc
  from-equality level.Product ends d s z x e h = cc
  from-equality level.Unary ends d s z x e h = cc

  -- ---- with a connective

  level-back : (c : Connective) (ends : Bool) (d : ℕ) (s z : State) (x : X) → LevelAt (connective_level c) ends d s x z → ConnectedAt c ends d s x z
  level-back connective.And ends d s z x h = h
  level-back connective.Or ends d s z x h = h
  level-back connective.Implies ends d s z x h = h

  module _ (side : Connective → Level) (sides : (c : Connective) (d : ℕ) (s z : State) (x : X) → LevelAt (side c) false d s x z → SideOf made (Below level.Equality d) c s x z) (forget : X → X)
      (alike : (c : Connective) (p o : Place) (x y u v : X) → forget x ≡ forget u → forget y ≡ forget v → forget (made c p x y) ≡ forget (made c o u v)) where
    pub connects-back : (c : Connective) (ends : Bool) (p : Place) (x y : X) (n l : ℕ) (us vs : List Word) (d : ℕ)
        → Restores (LevelAt (side c) false d) forget x n us → Restores (LevelAt (connective_level c) ends d) forget y l vs
        → Restores (ConnectedAt c ends d) forget (made c p x y) (n + suc l) (us ++ connective_word c ∷ vs)
    connects-back c ends p x y n l us vs d left right =
        connected-back made (Below level.Equality d) (Quantifier d) forget alike c ends p x y n l us vs
        (restores-to (LevelAt (side c) false d) (SideOf made (Below level.Equality d) c) forget x n us (sides c d) left)
        (restores-to (LevelAt (connective_level c) ends d) (ConnectedAt c ends d) forget y l vs (level-back c ends d) right)

-- ---- what begins with a token

-- one token, and what is made of its place
abbrev pub Mark : {X : Type 0} → (Place → X) → Kind → Reads X
Mark made kind = grammar.◌>>=◌ (One kind) (λ t. Is (made t.place))

-- a token before something
abbrev pub Prefixed : {X : Type 0} → (Place → X → X) → Kind → Reads X → Reads X
Prefixed made kind Operand = grammar.◌>>=◌ (One kind) (λ t. grammar.◌>>=◌ Operand (λ x. Is (made t.place x)))

abbrev pub Bracketed : {X : Type 0} → Reads X → Reads X
Bracketed Inner = grammar.◌>>=◌ (One k.Open) (λ t. grammar.◌>>=◌ Inner (λ x. grammar.◌>>=◌ (One k.Close) (λ u. Is x)))

-- what begins with a token of this kind, and then is read so, is read at the tightest level
abbrev pub Begins : {X : Type 0} → Kind → Reads X → Reads X → Type 0
Begins {X} kind Inner Outer = (s : List Tok) (a : ℕ) (y : X) (z : State) (t : Tok) (m : List Tok) → s ≡ t ∷ m → t.kind ≡ kind → Inner (st s a) y z → Outer (st s a) y z

-- ---- with brackets or without

module _ {X : Type 0} (Unary Whole : Family X) (brackets : (d : ℕ) → Begins k.Open (Bracketed (Whole d)) (Unary (suc d))) (forget : X → X) (x : X) (n : ℕ) (words : Bool → List Word)
    (Sayable : Bool → ℕ → Type 0) (Own : Bool → Family X) (whole : (d : ℕ) (s z : State) (y : X) → Own true d s y z → Whole d s y z)
    (plain : (ends : Bool) (d : ℕ) → Sayable ends d → Restores (Own ends d) forget x n (words ends)) where
  pub whole-back : (d : ℕ) → Sayable true d → Restores (Whole d) forget x n (words true)
  whole-back d h = restores-to (Own true d) (Whole d) forget x n (words true) (whole d) (plain true d h)

  bracketed-back : (d : ℕ) → Sayable true d → Restores (Unary (suc d)) forget x n (open_word ∷ words true ++ close_word ∷ [])
  bracketed-back d h s r a b e (t, m, f, i, z, rest) = go (spells-split (words true) (close_word ∷ []) m r rest)
    where
      last-of : (mid : List Tok) → Back (Whole d) forget x (st m a) (st mid b) → Spells (close_word ∷ []) mid r → Back (Unary (suc d)) forget x (st s a) (st r b)
      last-of mid p (u, n, g, j, y, end) = record {
        said = p.said;
        reads = brackets d s a p.said (st r b) t m f i (t, st m a, (f, i, refl), (p.said, st mid b, p.reads, (u, st n b, (g, j, refl), (refl, at-end n r b b end refl))));
        same = p.same;
      }

      go : Split (words true) (close_word ∷ []) m r → Back (Unary (suc d)) forget x (st s a) (st r b)
      go cut = last-of cut.mid (whole-back d h m cut.mid a b e cut.front) cut.back

  -- where the level asked for is read so
  pub put-back : (bare ends : Bool) (Asked : Family X) → (bare ≡ true → (d : ℕ) (s z : State) (y : X) → Own ends d s y z → Asked d s y z)
      → ((d : ℕ) (s z : State) (y : X) → Unary d s y z → Asked d s y z) → (d : ℕ) → IsPut bare Sayable ends d → Restores (Asked d) forget x n (put bare words ends)
  put-back true ends Asked own unary d h = restores-to (Own ends d) (Asked d) forget x n (words ends) (own refl d) (plain ends d h)
  put-back false ends Asked own unary zero h = absurd h
  put-back false ends Asked own unary (suc d) h = restores-to (Unary (suc d)) (Asked (suc d)) forget x n (open_word ∷ words true ++ close_word ∷ []) (unary (suc d)) (bracketed-back d h)

-- ---- what begins with a token of its own

module _ {X : Type 0} (Outer : Reads X) (forget : X → X) (w : Word) where
  pub mark-back : (made : Place → X) → ((p o : Place) → forget (made p) ≡ forget (made o)) → Begins w.kind (Mark made w.kind) Outer → (p : Place) → Restores Outer forget (made p) 0 (w ∷ [])
  mark-back made alike begins p s r a b e (t, m, f, i, z, end) = record {
    said = made t.place;
    reads = begins s a (made t.place) (st r b) t m f i (t, st m a, (f, i, refl), (refl, at-last m r a b end e));
    same = alike t.place p;
  }

  pub prefixed-back : (made : Place → X → X) → ((p o : Place) (x y : X) → forget x ≡ forget y → forget (made p x) ≡ forget (made o y)) → (Operand : Reads X)
      → Begins w.kind (Prefixed made w.kind Operand) Outer → (p : Place) (x : X) (n : ℕ) (ws : List Word) → Restores Operand forget x n ws → Restores Outer forget (made p x) n (w ∷ ws)
  prefixed-back made alike Operand begins p x n ws operand s r a b e (t, m, f, i, z, rest) =
      let g = operand m r a b e rest in
      record {
        said = made t.place g.said;
        reads = begins s a (made t.place g.said) (st r b) t m f i (t, st m a, (f, i, refl), (g.said, st r b, g.reads, (refl, refl)));
        same = alike t.place p g.said x g.same;
      }
