-- A term behind whose first operand an operator stands is no name.
use Rattle.std.proofs.Common.{◌≡◌, ℕ, zero, suc, Bool, true, false, cond, ◌||◌, List, [], ◌∷◌, length, refl, sym, ap, ◌∙◌, subst, ◌⊎◌, inl, inr, Ok, Err}
use Rattle.pb_text_tree.specs.declared.place.Place.{Place}
use Rattle.pb_text_tree.specs.Form.{TermForm}
use Rattle.pb_protocol_tree.specs.Form.{FormulaForm}
use Rattle.pb_text_lexer.specs.declared.fault.ReadingRule.TheVariants.{Unexpected}
use Rattle.pb_text_lexer.specs.declared.kind.Kind.{Kind}
use Rattle.pb_text_lexer.specs.declared.kind.Kind.TheVariants as k
use Rattle.pb_text_lexer.specs.Grammar.{State}
use Rattle.pb_text_lexer.specs.LeftGrammar.{grouped}
use Rattle.pb_text_lexer.specs.Steps.{Step, Outcome, and_then, ◌>>=◌, pure, peek, refuse, kind, series, operator_of, extended, unless_next, nothing_between, link, links, linked}
use Rattle.pb_text_lexer.specs.Tokens.{Tok}
use Rattle.pb_text_terms.specs.Operators.{is_equality, is_order, compared_by, is_additive, is_times, is_division, computed_by, is_operator}
use Rattle.pb_text_terms.specs.Reading.{product, sum, ordered, equated}
use Rattle.pb_model_text.specs.Grammar.{FixpointNames, atom_of}

abbrev IsCompound : TermForm → Type 0
IsCompound (TermForm.compared c p x y) = Unit {0}
IsCompound (TermForm.computed c p x y) = Unit {0}
IsCompound _ = ⊥

-- what is read, and what is left, where something is
abbrev value_or : {X : Type 0} → X → Outcome X → X
value_or x (Ok r) = r.0
value_or x (Err bad) = x

abbrev state_or : {X : Type 0} → State → Outcome X → State
state_or s (Ok r) = r.1
state_or s (Err bad) = s

-- compound, or the first operand alone where no such operator stands behind it
abbrev Either : TermForm → State → Type 0 → TermForm → State → Type 0
Either x s1 none y z = IsCompound y ⊎ ((y ≡ x) × (z ≡ s1) × none)

abbrev Compounds : (TermForm → Step TermForm) → Type 0
Compounds more = (x : TermForm) (s : State) (y : TermForm) (z : State) → more x s ≡ Ok (y, z) → IsCompound y

module _ (test : Kind → Bool) (item : Step TermForm) (more : TermForm → Step TermForm) (compounds : Compounds more) (none : Type 0) (x : TermForm) (s1 : State) where
  pub climb : (s : State) → ((y : TermForm) (z : State) → item s ≡ Ok (y, z) → Either x s1 none y z)
      → (y : TermForm) (z : State) → extended test item more s ≡ Ok (y, z) → Either x s1 (none × (test (kind s1) ≡ false)) y z
  climb s first y z h = at (item s) refl h
    where
      tested : (y1 : TermForm) (z1 : State) → Either x s1 none y1 z1 → (b : Bool) → test (kind z1) ≡ b → cond b (more y1) (pure y1) z1 ≡ Ok (y, z)
          → Either x s1 (none × (test (kind s1) ≡ false)) y z
      tested y1 z1 e true on h = inl (compounds y1 z1 y z h)
      tested y1 z1 (inl c) false off h = inl (subst IsCompound (ap (value_or y1) h) c)
      tested y1 z1 (inr a) false off h =
          inr (sym (ap (value_or y1) h) ∙ a.0, sym (ap (state_or z1) h) ∙ a.1, (a.2, subst (λ (v : State). test (kind v) ≡ false) a.1 off))

      at : (o : Outcome TermForm) → item s ≡ o → and_then o (λ v. peek >>= (λ kind. cond (test kind) (more v) (pure v))) ≡ Ok (y, z)
          → Either x s1 (none × (test (kind s1) ≡ false)) y z
      at (Ok r) is h = tested r.0 r.1 (first r.0 r.1 is) (test (kind r.1)) refl h
      at (Err bad) is h = cc

-- ---- what stands behind a first operand makes it compound

unless-read : (test : Kind → Bool) (p : Step TermForm) (s : State) (y : TermForm) (z : State) → unless_next test p s ≡ Ok (y, z) → p s ≡ Ok (y, z)
unless-read test p s y z h = at (p s) refl h
  where
    tested : (r : TermForm × State) (b : Bool) → p s ≡ Ok r → cond b (refuse Unexpected) (pure r.0) r.1 ≡ Ok (y, z) → p s ≡ Ok (y, z)
    tested r true is h = cc
    tested r false is h = is ∙ h

    at : (o : Outcome TermForm) → p s ≡ o → and_then o (λ v. peek >>= (λ kind. cond (test kind) (refuse Unexpected) (pure v))) ≡ Ok (y, z) → p s ≡ Ok (y, z)
    at (Ok r) is h = tested r (test (kind r.1)) is h
    at (Err bad) is h = cc

abbrev IsSome : {X : Type 0} → List X → Type 0
IsSome [] = ⊥
IsSome (x ∷ xs) = Unit {0}

-- a list that is read has an item
some-listed : {X T : Type 0} (item : Step X) (test : Kind → Bool) (between : Step T) (n : ℕ) (s : State) (xs : List X) (z : State)
    → series item test between (λ x. x ∷ []) (λ x t xs. x ∷ xs) n s ≡ Ok (xs, z) → IsSome xs
unfolding series
some-listed item test between zero s xs z h = cc
some-listed {X} {T} item test between (suc n) s xs z h = at (item s) h
  where
    rested : (x : X) (o : Outcome (List X)) → and_then o (λ y. pure (x ∷ y)) ≡ Ok (xs, z) → IsSome xs
    rested x (Ok r) h = subst IsSome (ap (value_or (x ∷ r.0)) h) tt
    rested x (Err bad) h = cc

    behind : (x : X) (o : Outcome T) → and_then o (λ t. series item test between (λ x. x ∷ []) (λ x t xs. x ∷ xs) n >>= (λ y. pure (x ∷ y))) ≡ Ok (xs, z) → IsSome xs
    behind x (Ok r) h = rested x (series item test between (λ x. x ∷ []) (λ x t xs. x ∷ xs) n r.1) h
    behind x (Err bad) h = cc

    tested : (x : X) (s1 : State) (b : Bool)
        → cond b (between >>= (λ t. series item test between (λ x. x ∷ []) (λ x t xs. x ∷ xs) n >>= (λ y. pure (x ∷ y)))) (pure (x ∷ [])) s1 ≡ Ok (xs, z) → IsSome xs
    tested x s1 true h = behind x (between s1) h
    tested x s1 false h = subst IsSome (ap (value_or (x ∷ [])) h) tt

    at : (o : Outcome X)
        → and_then o
        (λ x. peek >>=
        (λ kind. cond (test kind)
        (between >>= (λ t. series item test between (λ x. x ∷ []) (λ x t xs. x ∷ xs) n >>= (λ y. pure (x ∷ y))))
        (pure (x ∷ [])))) ≡ Ok (xs, z)
        → IsSome xs
    at (Ok r) h = tested r.0 r.1 (test (kind r.1)) h
    at (Err bad) h = cc

grouped-compound : (x : TermForm) (found : List (Tok × TermForm)) → IsCompound x → IsCompound (grouped computed_by x found)
grouped-compound x [] c = c
grouped-compound x (link ∷ found) c = grouped-compound (computed_by x link.0 link.1) found tt

some-grouped : (x : TermForm) (found : List (Tok × TermForm)) → IsSome found → IsCompound (grouped computed_by x found)
some-grouped x [] some = absurd some
some-grouped x (link ∷ found) some = grouped-compound (computed_by x link.0 link.1) found tt

linked-compounds : (test : Kind → Bool) (item : Step TermForm) → Compounds (linked test computed_by item)
linked-compounds test item x s y z h = at (links test item s) refl h
  where
    at : (o : Outcome (List (Tok × TermForm))) → links test item s ≡ o → and_then o (λ found. pure (grouped computed_by x found)) ≡ Ok (y, z) → IsCompound y
    at (Ok r) is h =
        subst IsCompound (ap (value_or (grouped computed_by x r.0)) h) (some-grouped x r.0 (some-listed (link test item) test nothing_between (suc (length s.tokens)) s r.0 r.1 is))
    at (Err bad) is h = cc

unmixed-compounds : (item : Step TermForm)
    → Compounds (λ x s. cond (is_times (kind s)) (unless_next is_division (linked is_times computed_by item x) s) (unless_next is_times (linked is_division computed_by item x) s))
unmixed-compounds item x s y z h = at (is_times (kind s)) h
  where
    at : (b : Bool) → cond b (unless_next is_division (linked is_times computed_by item x) s) (unless_next is_times (linked is_division computed_by item x) s) ≡ Ok (y, z) → IsCompound y
    at true h = linked-compounds is_times item x s y z (unless-read is_division (linked is_times computed_by item x) s y z h)
    at false h = linked-compounds is_division item x s y z (unless-read is_times (linked is_division computed_by item x) s y z h)

compared-compounds : (test : Kind → Bool) (item : Step TermForm) → Compounds (λ x. unless_next test (operator_of test >>= (λ t. item >>= (λ y. pure (compared_by x t y)))))
compared-compounds test item x s y z h =
    at (operator_of test s) (unless-read test (operator_of test >>= (λ t. item >>= (λ y. pure (compared_by x t y)))) s y z h)
  where
    righted : (t : Tok) (o : Outcome TermForm) → and_then o (λ y. pure (compared_by x t y)) ≡ Ok (y, z) → IsCompound y
    righted t (Ok r) h = subst IsCompound (ap (value_or (compared_by x t r.0)) h) tt
    righted t (Err bad) h = cc

    at : (o : Outcome Tok) → and_then o (λ t. item >>= (λ y. pure (compared_by x t y))) ≡ Ok (y, z) → IsCompound y
    at (Ok r) h = righted r.0 (item r.1) h
    at (Err bad) h = cc

-- ---- all operators

abbrev NoOperator : Kind → Type 0
NoOperator kind = (((Unit {0} × ((is_times kind || is_division kind) ≡ false)) × (is_additive kind ≡ false)) × (is_order kind ≡ false)) × (is_equality kind ≡ false)

equated-either : (u : Step TermForm) (s s1 : State) (x : TermForm) → u s ≡ Ok (x, s1) → (y : TermForm) (z : State) → equated u s ≡ Ok (y, z) → Either x s1 (NoOperator (kind s1)) y z
unfolding product sum ordered equated
equated-either u s s1 x reads =
    climb is_equality (ordered u) _ (compared-compounds is_equality (ordered u)) _ x s1 s (
    climb is_order (sum u) _ (compared-compounds is_order (sum u)) _ x s1 s (
    climb is_additive (product u) _ (linked-compounds is_additive (product u)) _ x s1 s (
    climb (λ kind. is_times kind || is_division kind) u _ (unmixed-compounds u) (Unit {0}) x s1 s
    (λ y z h. let e = sym reads ∙ h in inr (sym (ap (value_or x) e), sym (ap (state_or s1) e), tt)))))

an-operator : (kind : Kind) → is_operator kind ≡ true → NoOperator kind → ⊥
an-operator k.Plus h without = let e = without.0.0.1 in cc
an-operator k.Minus h without = let e = without.0.0.1 in cc
an-operator k.Times h without = let e = without.0.0.0.1 in cc
an-operator k.Div h without = let e = without.0.0.0.1 in cc
an-operator k.Mod h without = let e = without.0.0.0.1 in cc
an-operator k.Less h without = let e = without.0.1 in cc
an-operator k.LessOrEqual h without = let e = without.0.1 in cc
an-operator k.Greater h without = let e = without.0.1 in cc
an-operator k.GreaterOrEqual h without = let e = without.0.1 in cc
an-operator k.Equal h without = let e = without.1 in cc
an-operator k.NotEqual h without = let e = without.1 in cc
an-operator _ h without = cc

compound-data : (scope : FixpointNames) (p : Place) (y : TermForm) → IsCompound y → atom_of scope p y ≡ FormulaForm.«data» p y
compound-data scope p (TermForm.compared c q x y) h = refl
compound-data scope p (TermForm.computed c q x y) h = refl
compound-data scope p _ h = absurd h

pub operated-data : (u : Step TermForm) (s s1 : State) (x y : TermForm) (z : State) → u s ≡ Ok (x, s1) → is_operator (kind s1) ≡ true → equated u s ≡ Ok (y, z)
    → (scope : FixpointNames) (p : Place) → atom_of scope p y ≡ FormulaForm.«data» p y
operated-data u s s1 x y z reads on h scope p = at (equated-either u s s1 x reads y z h)
  where
    at : Either x s1 (NoOperator (kind s1)) y z → atom_of scope p y ≡ FormulaForm.«data» p y
    at (inl c) = compound-data scope p y c
    at (inr a) = absurd (an-operator (kind s1) on a.2)
