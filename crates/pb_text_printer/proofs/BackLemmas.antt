-- Words are read back as what they were printed of, but for places: for the words of grammars.
use Rattle.std.proofs.Common.{◌≡◌, ℕ, ◌+◌, Bool, true, false, cond, List, [], ◌∷◌, ◌++◌, map, refl, sym, ◌∙◌, subst, arith}
use Rattle.std.specs.Prelude.{flat_map}
use Rattle.std.specs.Str.{bytes_eq}
use Rattle.std.specs.Cmp.Lexicographic.{same_text}
use Rattle.pb_text_tree.specs.declared.place.Place.{Place}
use Rattle.pb_text_tree.specs.declared.operator.Quantifier.{Quantifier}
use Rattle.pb_text_tree.specs.declared.operator.Quantifier.TheVariants.{Forall, Exists}
use Rattle.pb_text_tree.specs.Form.{Named, VariableForm}
use Rattle.pb_text_lexer.specs.declared.kind.Kind.{Kind}
use Rattle.pb_text_lexer.specs.declared.kind.Kind.TheVariants as k
use Rattle.pb_text_lexer.specs.Tokens.{Tok}
use Rattle.pb_text_lexer.specs.Grammar.{State, Reads, One, First, by_first, last, more}
use Rattle.pb_text_lexer.specs.LeftGrammar.{Listed}
use Rattle.pb_text_lexer.proofs.Correct.{st}
use Rattle.pb_text_terms.specs.Grammar.{Name, Group, Variables, Binding, QuantifiedBy, Quantified}
use Rattle.pb_text_printer.specs.Unplaced.{unplaced_variables}
use Rattle.pb_text_printer.specs.Words.{Word, name_word, comma_word, colon_word, period_word, variable_words, binding_words, Spells}
use Rattle.pb_text_printer.specs.Sayable.{AreVariables}

pub record Split (us vs : List Word) (s r : List Tok) : Type 0 where
  pub mid : List Tok
  pub front : Spells us s mid
  pub back : Spells vs mid r

pub spells-split : (us vs : List Word) (s r : List Tok) → Spells (us ++ vs) s r → Split us vs s r
spells-split [] vs s r h = record { mid = s; front = refl; back = h }
spells-split (u ∷ us) vs s r (t, m, e, k, x, h) =
    let f = spells-split us vs m r h in record { mid = f.mid; front = (t, m, e, k, x, f.front); back = f.back }

-- read as x but for places
pub record Back {X : Type 0} (R : Reads X) (forget : X → X) (x : X) (s z : State) : Type 0 where
  pub said : X
  pub reads : R s said z
  pub same : forget said ≡ forget x

-- whatever tokens these words are, they are read as x, with so many operators
abbrev pub Restores : {X : Type 0} → Reads X → (X → X) → X → ℕ → List Word → Type 0
Restores R forget x n ws = (s r : List Tok) (a b : ℕ) → a ≡ n + b → Spells ws s r → Back R forget x (st s a) (st r b)

pub at-end : (m r : List Tok) (a b : ℕ) → m ≡ r → a ≡ b → st r b ≡ st m a
at-end m r a b e f = cc

pub at-last : (m r : List Tok) (a b : ℕ) → m ≡ r → a ≡ 0 + b → st r b ≡ st m a
at-last m r a b e f = at-end m r a b e (omega arith)

pub first-back : {X : Type 0} (R : Kind → Reads X) (kind : Kind) (s : List Tok) (a : ℕ) (y : X) (z : State) (t : Tok) (m : List Tok) → s ≡ t ∷ m → t.kind ≡ kind
    → R kind (st s a) y z → First R (st s a) y z
first-back R kind s a y z t m e f h =
    let here : R t.kind (st (t ∷ m) a) y z = subst (λ (v : Kind). R v (st (t ∷ m) a) y z) (sym f) (subst (λ (v : List Tok). R kind (st v a) y z) e h) in
    subst (λ (v : List Tok). by_first R v (st v a) y z) (sym e) here

-- ---- names and variables

abbrev sorted : Named → Named → VariableForm
sorted sort name = record { name = name; sort = sort }

abbrev at : Tok → Named
at t = record { place = t.place; text = t.text }

-- Variables that are read back: the names of the first group, and how the list goes on, whatever names that group has.
record VariablesBack (v : VariableForm) (vs : List VariableForm) (s z : State) : Type 0 where
  names : List Named
  mid : State
  reads : Listed Name (One k.Comma) s names mid
  sort : Named
  groups : List (List VariableForm)
  close : (start : State) (some : List Named) → Listed Name (One k.Comma) start some mid → Listed Group (One k.Comma) start (map (sorted sort) some ∷ groups) z
  same : unplaced_variables (map (sorted sort) names ++ flat_map (λ group. group) groups) ≡ unplaced_variables (v ∷ vs)
  text : sort.text ≡ v.sort.text

variables-from : (v : VariableForm) (vs : List VariableForm) (s r : List Tok) (a : ℕ) → Spells (variable_words (v ∷ vs)) s r → VariablesBack v vs (st s a) (st r a)
variables-from v [] s r a (t, m, e, k, x, (u, n, f, l, y, (w, o, g, i, z, end))) = record {
  names = at t ∷ [];
  mid = st m a;
  reads = last (t, st m a, (e, k, refl), (refl, refl));
  sort = at w;
  groups = [];
  close = λ start some h. last (some, st m a, h, (u, st n a, (f, l, refl), (at w, st r a, (w, st o a, (g, i, refl), (refl, at-end o r a a end refl)), (refl, refl))));
  same = cc;
  text = z;
}
variables-from v (w ∷ vs) s r a h = go (λ n. variables-from w vs n r a) (bytes_eq v.sort.text w.sort.text) refl h
  where
    go : ((n : List Tok) → Spells (variable_words (w ∷ vs)) n r → VariablesBack w vs (st n a) (st r a)) → (b : Bool)
        → bytes_eq v.sort.text w.sort.text ≡ b → Spells (cond b (name_word v.name ∷ comma_word ∷ variable_words (w ∷ vs))
        (name_word v.name ∷ colon_word ∷ name_word v.sort ∷ comma_word ∷ variable_words (w ∷ vs))) s r → VariablesBack v (w ∷ vs) (st s a) (st r a)
    go again true b (t, m, e, k, x, (u, n, f, l, y, rest)) =
        let h = again n rest in
        let alike : v.sort.text ≡ w.sort.text = same_text v.sort.text w.sort.text (sym b) in
        record {
          names = at t ∷ h.names;
          mid = h.mid;
          reads = more (t, st m a, (e, k, refl), (refl, refl)) (f, l, refl) h.reads;
          sort = h.sort;
          groups = h.groups;
          close = h.close;
          same = let e = h.same in let i = h.text in cc;
          text = h.text ∙ sym alike;
        }
    go again false b (t, m, e, k, x, (u, n, f, l, y, (q, o, g, i, z, (c, p, j, d, w', rest)))) =
        let h = again p rest in
        record {
          names = at t ∷ [];
          mid = st m a;
          reads = last (t, st m a, (e, k, refl), (refl, refl));
          sort = at q;
          groups = map (sorted h.sort) h.names ∷ h.groups;
          close = λ start some given. more (some, st m a, given, (u, st n a, (f, l, refl), (at q, st o a, (q, st o a, (g, i, refl), (refl, refl)), (refl, refl)))) (j, d, refl)
              (h.close (st p a) h.names h.reads);
          same = let e = h.same in cc;
          text = z;
        }

pub variables-back : (vars : List VariableForm) → AreVariables vars → (s r : List Tok) (a : ℕ) → Spells (variable_words vars) s r → Back Variables unplaced_variables vars (st s a) (st r a)
variables-back [] h s r a w = absurd h
variables-back (v ∷ vs) h s r a w =
    let f = variables-from v vs s r a w in
    let list = map (sorted f.sort) f.names in
    record {
      said = flat_map (λ group. group) (list ∷ f.groups);
      reads = (list ∷ f.groups, st r a, f.close (st s a) f.names f.reads, (refl, refl));
      same = f.same;
    }

-- ---- quantifiers

module _ {X : Type 0} (made : Quantifier → Place → List VariableForm → X → X) (Body : Reads X) (forget : X → X) (n : X → ℕ)
    (bound : (q : Quantifier) (p : Place) (vars ws : List VariableForm) (x y : X) → unplaced_variables vars ≡ unplaced_variables ws → forget x ≡ forget y → (o : Place)
    → forget (made q p vars x) ≡ forget (made q o ws y)) where
  binding-back : (q : Quantifier) (p o : Place) (vars : List VariableForm) (x : X) (body : List Word) → AreVariables vars → Restores Body forget x (n x) body
      → Restores (Binding (made q p) Body) forget (made q o vars x) (n x) (variable_words vars ++ period_word ∷ body)
  binding-back q p o vars x body names inner s r a b e w =
      let cut = spells-split (variable_words vars) (period_word ∷ body) s r w in
      go cut.mid (variables-back vars names s cut.mid a cut.front) cut.back
    where
      go : (mid : List Tok) → Back Variables unplaced_variables vars (st s a) (st mid a) → Spells (period_word ∷ body) mid r → Back (Binding (made q p) Body) forget (made q o vars x) (st s a) (st r b)
      go mid v (t, m, f, i, z, rest) =
          let h = inner m r a b e rest in
          record {
            said = made q p v.said h.said;
            reads = (v.said, st mid a, v.reads, (t, st m a, (f, i, refl), (h.said, st r b, h.reads, (refl, refl))));
            same = bound q p v.said vars h.said x v.same h.same o;
          }

  pub quantified-back : (q : Quantifier) (o : Place) (vars : List VariableForm) (x : X) (body : List Word) → AreVariables vars → Restores Body forget x (n x) body
      → Restores (Quantified made Body) forget (made q o vars x) (n x) (binding_words q vars body)
  quantified-back Forall o vars x body names inner s r a b e (t, m, f, i, z, rest) =
      let h = binding-back Forall t.place o vars x body names inner m r a b e rest in
      record { said = h.said; reads = first-back (QuantifiedBy made Body) k.Forall s a h.said (st r b) t m f i (t, st m a, (f, i, refl), h.reads); same = h.same }
  quantified-back Exists o vars x body names inner s r a b e (t, m, f, i, z, rest) =
      let h = binding-back Exists t.place o vars x body names inner m r a b e rest in
      record { said = h.said; reads = first-back (QuantifiedBy made Body) k.Exists s a h.said (st r b) t m f i (t, st m a, (f, i, refl), h.reads); same = h.same }
