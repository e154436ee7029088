-- Names, lists with commas, variables and quantifiers are read rightly.
use Rattle.std.proofs.Common.{◌≡◌, ℕ, zero, suc, ◌≤◌, ◌<◌, Bool, true, false, List, [], ◌∷◌, ◌++◌, length, map, refl, sym, ap, ◌∙◌, subst, arith, ◌⊎◌, inl, inr}
use Rattle.std.specs.Prelude.{flat_map}
use Rattle.pb_text_tree.specs.declared.place.Place.{Place}
use Rattle.pb_text_tree.specs.declared.operator.Quantifier.{Quantifier}
use Rattle.pb_text_tree.specs.declared.operator.Quantifier.TheVariants.{Forall, Exists}
use Rattle.pb_text_tree.specs.Form.{Named, VariableForm}
use Rattle.pb_text_lexer.specs.declared.fault.ReadingRule.TheVariants.{Limit}
use Rattle.pb_text_lexer.specs.declared.kind.Kind.{Kind}
use Rattle.pb_text_lexer.specs.declared.kind.Kind.TheVariants as k
use Rattle.pb_text_lexer.specs.Kinds.{same_kind, is_limited}
use Rattle.pb_text_lexer.specs.Grammar.{State, WithinLimits, Reads, Is, One, First}
use Rattle.pb_text_lexer.specs.Grammar as grammar
use Rattle.pb_text_lexer.specs.LeftGrammar.{Listed}
use Rattle.pb_text_lexer.specs.Steps.{ends, head_kind, Step, pure, peek, take_token, expect, refuse, listed}
use Rattle.pb_text_lexer.specs.Steps as step
use Rattle.pb_text_lexer.specs.Tokens.{Tok}
use Rattle.pb_text_lexer.proofs.TokenLemmas.{kind-same}
use Rattle.pb_text_lexer.proofs.Correct.{st, Family, Stops, never, readable-is, readable-one, Answers, Answering, Correct, then-correct, pure-correct, HeadIs, take-correct, expect-correct, refused-here, Free, Readable, goes-free, readable-free, free-then, free-one, some-token}
use Rattle.pb_text_lexer.proofs.CorrectFamilies.{readable-first, readable-deeper, Nowhere, first-answers, first-correct, deeper, deeper-correct, weaker-correct}
use Rattle.pb_text_lexer.proofs.CorrectSeries.{going, Passes, head-at, passes-at, shorter, no-longer, readable-series, series-correct}
use Rattle.pb_text_lexer.proofs.CorrectPlain.{Always, anywhere, then-plain, is-correct, nothing-correct, unlimited-token}
use Rattle.pb_text_lexer.proofs.CorrectChained.{is-symbol-at, head-of-passes}
use Rattle.pb_text_terms.specs.Operators.{is_quantifier}
use Rattle.pb_text_terms.specs.Grammar.{Name, Group, Variables, Binding, QuantifiedBy, Quantified}
use Rattle.pb_text_terms.specs.Reading.{name, names, is_comma, group, groups, variables, binding, quantifier_of, quantified_by, quantified}

pub name-correct : (depth : ℕ) → Correct Always name (λ d. Name) never depth
unfolding name
name-correct depth =
    then-plain (λ d. One k.Name) (λ t d. Is (record { place = t.place; text = t.text })) never depth Always (expect k.Name) (λ t. pure (record { place = t.place; text = t.text }))
    (expect-correct k.Name depth refl) (λ t. is-correct (record { place = t.place; text = t.text }) depth)

-- what is read says the value, whatever goes on with it
pub said-correct : {X Y : Type 0} (fam : Family X) (f : X → Y) (g : Kind → Bool) (depth : ℕ) (P : List Tok → Type 0) (p : Step X)
    → Correct P p fam g depth → Correct P (step.◌>>=◌ p (λ x. pure (f x))) (λ d. grammar.◌>>=◌ (fam d) (λ x. Is (f x))) g depth
said-correct fam f g depth P p a =
    then-correct fam (λ x d. Is (f x)) g g depth (λ d x m y z h over. subst (λ (v : State). Stops g v.tokens) h.1 over) P p (λ x. pure (f x)) a (λ x. pure-correct (f x) g depth)

listed-answers : {X : Type 0} (item : Family X) (g : Kind → Bool) (depth : ℕ) → g k.Comma ≡ false → (p : Step X) → Correct Always p item g depth
    → (s : State) → ends s.tokens ≡ true → Answers (λ d. Listed (item d) (One k.Comma)) (going g is_comma) depth s (listed p is_comma take_token (suc (length s.tokens)) s)
listed-answers item g depth apart p right-p s end =
    series-correct item (λ d. One k.Comma) (λ x. x ∷ []) (λ x t xs. x ∷ xs) g is_comma depth
    (λ kind h. ap g (kind-same kind k.Comma h) ∙ apart)
    (λ d m t o y z r rest. passes-at is_comma m.tokens o.tokens t r.0 (is-symbol-at k.Comma t.kind r.1))
    p right-p.answers take_token (weaker-correct (HeadIs k.Comma) (Passes is_comma) take_token (λ d. One k.Comma) never depth (head-of-passes k.Comma) (take-correct k.Comma depth refl)).answers
    (λ m bad is. (right-p.here, right-p.some))
    (λ m t z a. unlimited-token k.Comma depth refl m t z a)
    (λ s0 s1 s2 x t a b. less s0.tokens s1.tokens s2.tokens a.front b.front t a.tokens b.tokens (b.reads []).0)
    (suc (length s.tokens)) s (omega arith) end
  where
    less : (ts us vs front behind_front : List Tok) (t : Tok) → ts ≡ front ++ us → us ≡ behind_front ++ vs → behind_front ++ [] ≡ t ∷ [] → length vs < length ts
    less ts us vs front behind_front t p q r =
        let a = no-longer ts front us p in let b = shorter us behind_front vs [] t q r in omega arith

-- things with commas between them
pub listed-correct : {X : Type 0} (item : Family X) (g : Kind → Bool) (depth : ℕ) → g k.Comma ≡ false → (p : Step X) → Correct Always p item g depth
    → Correct Always (λ s. listed p is_comma take_token (suc (length s.tokens)) s) (λ d. Listed (item d) (One k.Comma)) (going g is_comma) depth
listed-correct item g depth apart p right-p = record {
  answers = λ s end u. listed-answers item g depth apart p right-p s end;
  here = readable-series item (λ d. One k.Comma) (λ x. x ∷ []) (λ x t xs. x ∷ xs) depth right-p.here;
  some = readable-series item (λ d. One k.Comma) (λ x. x ∷ []) (λ x t xs. x ∷ xs) (suc depth) right-p.some;
}

-- ---- variables

abbrev pub commas : Kind → Bool
commas = going never is_comma

-- a token of another kind ends a list
pub stops-at-kind : (g : Kind → Bool) (kind : Kind) → g kind ≡ false → (ts us : List Tok) (t : Tok) → ts ≡ t ∷ us → t.kind ≡ kind → Stops g ts
stops-at-kind g kind h ts us t e is = subst (λ (v : List Tok). Stops g v) (sym e) (subst (λ (v : Kind). g v ≡ false) (sym is) h)

colon-ends : commas k.Colon ≡ false
unfolding same_kind
colon-ends = refl

period-ends : commas k.Period ≡ false
unfolding same_kind
period-ends = refl

abbrev sorted : List Named → Family (List VariableForm)
sorted found d = grammar.◌>>=◌ (One k.Colon) (λ colon. grammar.◌>>=◌ Name (λ sort. Is (map (λ n. record { name = n; sort = sort }) found)))

group-correct : (depth : ℕ) → Correct Always group (λ d. Group) never depth
unfolding group
group-correct depth =
    then-correct (λ d. Listed Name (One k.Comma)) sorted commas never depth (λ d x m y z r over. stops-at-kind commas k.Colon colon-ends m.tokens r.1.tokens r.0 r.2.0 r.2.1)
    Always names _ (listed-correct (λ d. Name) never depth refl name (name-correct depth)) (λ found. anywhere (Stops commas) _ (sorted found) never depth (
    then-plain (λ d. One k.Colon) (λ colon d. grammar.◌>>=◌ Name (λ sort. Is (map (λ n. record { name = n; sort = sort }) found))) never depth
    Always (expect k.Colon) _ (expect-correct k.Colon depth refl) (λ colon.
    said-correct (λ d. Name) (λ sort. map (λ n. record { name = n; sort = sort }) found) never depth Always name (name-correct depth))))

pub variables-correct : (depth : ℕ) → Correct Always variables (λ d. Variables) commas depth
unfolding variables
variables-correct depth =
    said-correct (λ d. Listed Group (One k.Comma)) (λ found. flat_map (λ g. g) found) commas depth Always groups (listed-correct (λ d. Group) never depth refl group (group-correct depth))

-- ---- quantifiers

-- the kind of the first token
pub head-kind-is : (kind : Kind) (ts : List Tok) → HeadIs kind ts → head_kind ts ≡ kind
head-kind-is kind [] h = absurd h
head-kind-is kind (t ∷ ts) h = h

pub head-limited : (kind : Kind) (ts : List Tok) → HeadIs kind ts → is_limited kind ≡ true → is_limited (head_kind ts) ≡ true
head-limited kind ts h lim = ap is_limited (head-kind-is kind ts h) ∙ lim

module _ {X : Type 0} (made : Quantifier → Place → List VariableForm → X → X) (fam : Family X) (g : Kind → Bool) where
  abbrev pub kinds : ℕ → Kind → Reads X
  kinds d kind = QuantifiedBy made (deeper fam d) kind

  pub starts : (d : ℕ) (kind : Kind) (s : State) (y : X) (z : State) → kinds d kind s y z → HeadIs kind s.tokens
  starts d k.Forall s y z r = head-at k.Forall s.tokens r.1.tokens r.0 r.2.0 r.2.1
  starts d k.Exists s y z r = head-at k.Exists s.tokens r.1.tokens r.0 r.2.0 r.2.1
  starts d _ s y z r = absurd r

  abbrev pub bodies : (List VariableForm → X → X) → List VariableForm → Family X
  bodies bound found d = grammar.◌>>=◌ (One k.Period) (λ period. grammar.◌>>=◌ (deeper fam d) (λ body. Is (bound found body)))

  pub binding-correct : (bound : List VariableForm → X → X) (depth : ℕ) (p : Step X) → Correct Always p fam g depth
      → Correct Always (binding bound p) (λ d. Binding bound (deeper fam d)) g (suc depth)
  binding-correct bound depth p right =
      then-correct (λ d. Variables) (bodies bound) commas g (suc depth) (λ d x m y z r over. stops-at-kind commas k.Period period-ends m.tokens r.1.tokens r.0 r.2.0 r.2.1)
      Always variables _ (variables-correct (suc depth)) (λ found. anywhere (Stops commas) _ (bodies bound found) g (suc depth) (
      then-plain (λ d. One k.Period) (λ period d. grammar.◌>>=◌ (deeper fam d) (λ body. Is (bound found body))) g (suc depth)
      Always (expect k.Period) _ (expect-correct k.Period (suc depth) refl) (λ period.
      said-correct (deeper fam) (λ body. bound found body) g (suc depth) Always p (deeper-correct Always p fam g depth right))))

  pub forall-correct : (depth : ℕ) (p : Step X) → Correct Always p fam g depth
      → Correct (HeadIs k.Forall) (quantified_by made take_token p (quantifier_of k.Forall)) (λ d. kinds d k.Forall) g (suc depth)
  forall-correct depth p right =
      then-plain (λ d. One k.Forall) (λ word d. Binding (made Forall word.place) (deeper fam d)) g (suc depth) (HeadIs k.Forall) take_token (λ word. binding (made Forall word.place) p)
      (take-correct k.Forall (suc depth) refl) (λ word. binding-correct (made Forall word.place) depth p right)

  pub exists-correct : (depth : ℕ) (p : Step X) → Correct Always p fam g depth
      → Correct (HeadIs k.Exists) (quantified_by made take_token p (quantifier_of k.Exists)) (λ d. kinds d k.Exists) g (suc depth)
  exists-correct depth p right =
      then-plain (λ d. One k.Exists) (λ word d. Binding (made Exists word.place) (deeper fam d)) g (suc depth) (HeadIs k.Exists) take_token (λ word. binding (made Exists word.place) p)
      (take-correct k.Exists (suc depth) refl) (λ word. binding-correct (made Exists word.place) depth p right)

  pub at-each : (depth : ℕ) (p : Step X) → Correct Always p fam g depth → (kind : Kind)
      → Answering (HeadIs kind) (quantified_by made take_token p (quantifier_of kind)) (λ d. kinds d kind) g (suc depth)
      ⊎ Nowhere (quantified_by made take_token p (quantifier_of kind)) (λ d. kinds d kind)
  at-each depth p right k.Forall = inl (forall-correct depth p right).answers
  at-each depth p right k.Exists = inl (exists-correct depth p right).answers
  at-each depth p right kind = inr nothing-correct

  -- a quantifier over a body that stands a level deeper
  pub quantified-correct : (depth : ℕ) (p : Step X) → Correct Always p fam g depth → Correct (Passes is_quantifier) (quantified made take_token p) (λ d. Quantified made (deeper fam d)) g (suc depth)
  quantified-correct depth p right =
      anywhere (Passes is_quantifier) (quantified made take_token p) (λ d. Quantified made (deeper fam d)) g (suc depth)
      (first-correct kinds g (suc depth) starts (λ kind. quantified_by made take_token p (quantifier_of kind)) (at-each depth p right) k.Forall
      (forall-correct depth p right).here (forall-correct depth p right).some)

  -- where no level may open
  no-level : (kind : Kind) → is_quantifier kind ≡ true → (d : ℕ) (s : State) (y : X) (w : State) → d ≤ 0 → kinds d kind s y w → ⊥
  no-level k.Forall is zero s y w le r = r.3.3.3.2
  no-level k.Exists is zero s y w le r = r.3.3.3.2
  no-level k.Forall is (suc d) s y w le r = omega arith
  no-level k.Exists is (suc d) s y w le r = omega arith
  no-level _ is d s y w le r = absurd r

  -- where a level may open, a body goes on behind variables
  pub readable-binding : (bound : List VariableForm → X → X) (level : ℕ) → Readable fam level → Readable (λ d. Binding bound (deeper fam d)) (suc level)
  readable-binding bound level some =
      free-then (λ d. Variables) (bodies bound) (suc level) [] (variables-correct level).some
      (λ found. free-then (λ d. One k.Period) (λ period d. grammar.◌>>=◌ (deeper fam d) (λ body. Is (bound found body))) (suc level) [] (readable-one k.Period (suc level))
      (λ period. free-then (deeper fam) (λ body d. Is (bound found body)) (suc level) [] (readable-deeper fam level some) (λ body. readable-is (bound found body) (suc level))))

  free-forall : (level : ℕ) → Readable fam level → (t : Tok) → t.kind ≡ k.Forall → Free (λ d. kinds d k.Forall) (suc level) (t ∷ [])
  free-forall level some t is =
      free-then (λ d. One k.Forall) (λ word d. Binding (made Forall word.place) (deeper fam d)) (suc level) (t ∷ []) (free-one k.Forall (suc level) t is)
      (λ word. readable-binding (made Forall word.place) level some)

  free-exists : (level : ℕ) → Readable fam level → (t : Tok) → t.kind ≡ k.Exists → Free (λ d. kinds d k.Exists) (suc level) (t ∷ [])
  free-exists level some t is =
      free-then (λ d. One k.Exists) (λ word d. Binding (made Exists word.place) (deeper fam d)) (suc level) (t ∷ []) (free-one k.Exists (suc level) t is)
      (λ word. readable-binding (made Exists word.place) level some)

  pub readable-forall : (level : ℕ) → Readable fam level → Readable (λ d. kinds d k.Forall) (suc level)
  readable-forall level some =
      readable-free (λ d. kinds d k.Forall) (suc level) (some-token k.Forall ∷ []) (free-forall level some (some-token k.Forall) refl)

  pub at-last : Readable fam 0 → (p : Step X) (kind : Kind)
      → Answering (HeadIs kind) (quantified_by made (refuse Limit) p (quantifier_of kind)) (λ d. kinds d kind) g 0
      ⊎ Nowhere (quantified_by made (refuse Limit) p (quantifier_of kind)) (λ d. kinds d kind)
  at-last some p k.Forall =
      inl (λ s end h. refused-here (λ d. kinds d k.Forall) g 0 s Limit end (λ q. head-limited k.Forall s.tokens h refl)
      (λ d n t tail y w head within r over. no-level k.Forall refl d (st (t ∷ tail) n) y w within.0 r)
      (λ t is. goes-free (λ d. kinds d k.Forall) 1 (suc s.operators) (t ∷ []) (free-forall 0 some t (is ∙ head-kind-is k.Forall s.tokens h))))
  at-last some p k.Exists =
      inl (λ s end h. refused-here (λ d. kinds d k.Exists) g 0 s Limit end (λ q. head-limited k.Exists s.tokens h refl)
      (λ d n t tail y w head within r over. no-level k.Exists refl d (st (t ∷ tail) n) y w within.0 r)
      (λ t is. goes-free (λ d. kinds d k.Exists) 1 (suc s.operators) (t ∷ []) (free-exists 0 some t (is ∙ head-kind-is k.Exists s.tokens h))))
  at-last some p kind = inr nothing-correct

  pub quantified-last : Readable fam 0 → (p : Step X) → Answering (Passes is_quantifier) (quantified made (refuse Limit) p) (λ d. Quantified made (deeper fam d)) g 0
  quantified-last some p s end head =
      first-answers kinds g 0 starts (λ kind. quantified_by made (refuse Limit) p (quantifier_of kind)) (at-last some p)
      (readable-first kinds g 0 starts k.Forall 1 (readable-forall 0 some)) s end
