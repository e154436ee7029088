-- The words of a text that can be said are read back as that text.
use Rattle.std.proofs.Common.{◌≡◌, ◌≤◌, ℕ, zero, suc, ◌+◌, ◌-◌, true, List, [], ◌∷◌, ◌++◌, map, refl, ap, ◌∙◌, subst, arith, inl, inr, Option, Some, None}
use Rattle.std.specs.Prelude.{flat_map}
use Rattle.pb_fixpoint.specs.declared.Sign.{Sign}
use Rattle.pb_fixpoint.specs.declared.Sign.TheVariants as sign
use Rattle.pb_text_tree.specs.Form.{Named, VariableForm, InstanceForm, EnumeratorForm, SortForm, struct, alias, SortDeclarationForm, RangeForm, EquationForm, SpecForm}
use Rattle.pb_text_lexer.specs.declared.kind.Kind.TheVariants as k
use Rattle.pb_text_lexer.specs.Tokens.{Tok}
use Rattle.pb_text_lexer.specs.Grammar.{State, Reads, Is, One, First, last, more, CountedApart}
use Rattle.pb_text_lexer.specs.LeftGrammar.{Extended, Listed}
use Rattle.pb_text_lexer.proofs.Correct.{st}
use Rattle.pb_text_terms.specs.Grammar.{Variables}
use Rattle.pb_text_formulas.specs.Grammar.{Enumerator, SortBy, SortDecl, SortParts, IsFormula}
use Rattle.pb_text.specs.Grammar.{SignOf, Declared, IsEquation, IsInitialInstance, IsText}
use Rattle.pb_text_printer.specs.Unplaced.{unplaced_name, unplaced_variables, unplaced_formula, unplaced_instance, unplaced_enumerator, unplaced_sort, unplaced_declaration, unplaced_range, unplaced_equation, unplaced}
use Rattle.pb_text_printer.specs.Words.{Spells, Word, word, last_of_line, close_word, variable_words, instance_words, formula_words, is_word, semicolon_word, sign_word, enumerator_words, enumerators_words, sort_words, declaration_words, parameter_words, equation_words, sorts_words, text_words}
use Rattle.pb_text_printer.specs.Sayable.{Each, EachOf, list_operators, formula_operators, InstanceSayable, SortSayable, DeclarationSayable, ParametersSayable, EquationSayable, TextSayable}
use Rattle.pb_text_printer.proofs.BackLemmas.{Split, spells-split, Back, at-end, first-back, variables-back}
use Rattle.pb_text_printer.proofs.BackTerm.{arguments-back, instance-back}
use Rattle.pb_text_printer.proofs.BackFormula.{formula-back}

-- whatever tokens these words are, they are read as x, and so many operators are left
abbrev RestoresAt : {X : Type 0} → ℕ → Reads X → (X → X) → X → List Word → Type 0
RestoresAt a R forget x ws = (s r : List Tok) → Spells ws s r → Back R forget x (st s a) (st r a)

-- ---- lists

record ListBack {X : Type 0} (Item : Reads X) (forget : X → X) (xs : List X) (s z : State) : Type 0 where
  list : List X
  reads : Listed Item (Is {X = Unit {0}} tt) s list z
  same : map forget list ≡ map forget xs

flat-back : {X : Type 0} (a : ℕ) (Item : Reads X) (forget : X → X) (words : X → List Word) (P : X → Type 0) → ((x : X) → P x → RestoresAt a Item forget x (words x))
    → (x : X) (xs : List X) → P x → Each P xs → (s r : List Tok) → Spells (flat_map words (x ∷ xs)) s r → ListBack Item forget (x ∷ xs) (st s a) (st r a)
flat-back a Item forget words P item x [] h hs s r w = go (spells-split (words x) [] s r w)
  where
    go : Split (words x) [] s r → ListBack Item forget (x ∷ []) (st s a) (st r a)
    go cut =
        let g = item x h s r (subst (λ (v : List Tok). Spells (words x) s v) cut.back cut.front) in
        let e = g.same in
        record { list = g.said ∷ []; reads = last g.reads; same = cc }
flat-back a Item forget words P item x (y ∷ ys) h hs s r w = go (spells-split (words x) (flat_map words (y ∷ ys)) s r w) (λ m v. flat-back a Item forget words P item y ys hs.0 hs.1 m r v)
  where
    go : Split (words x) (flat_map words (y ∷ ys)) s r
        → ((m : List Tok) → Spells (flat_map words (y ∷ ys)) m r → ListBack Item forget (y ∷ ys) (st m a) (st r a))
        → ListBack Item forget (x ∷ y ∷ ys) (st s a) (st r a)
    go cut again =
        let g = item x h s cut.mid cut.front in
        let f = again cut.mid cut.back in
        let e = g.same in let i = f.same in
        record { list = g.said ∷ f.list; reads = more g.reads (refl, refl) f.reads; same = cc }

-- ---- sorts

enumerator-back : (a : ℕ) (n : Named) (recogniser : Option Named)
    → RestoresAt a Enumerator unplaced_enumerator (record { name = n; recogniser = recogniser })
    (enumerator_words (record { name = n; recogniser = recogniser }))
enumerator-back a n None s r (t, m, e, i, x, end) = record {
  said = record { name = record { place = t.place; text = t.text }; recogniser = None };
  reads = inl (record { place = t.place; text = t.text }, st m a, (t, st m a, (e, i, refl), (refl, refl)), (refl, at-end m r a a end refl));
  same = cc;
}
enumerator-back a n (Some f) s r (t, m, e, i, x, (u, o, g, j, y, (v, w, h, l, z, end))) =
    let name : Named = record { place = t.place; text = t.text } in
    let other : Named = record { place = v.place; text = v.text } in
    record {
      said = record { name = name; recogniser = Some other };
      reads = inr (
        record { name = name; recogniser = None },
        st m a,
        (name, st m a, (t, st m a, (e, i, refl), (refl, refl)), (refl, refl)),
        (u, st o a, (g, j, refl), (other, st w a, (v, st w a, (h, l, refl), (refl, refl)), (refl, at-end w r a a end refl))),
      );
      same = cc;
    }

record BarsBack (xs : List EnumeratorForm) (s z : State) : Type 0 where
  list : List EnumeratorForm
  reads : Listed Enumerator (One k.Bar) s list z
  same : map unplaced_enumerator list ≡ map unplaced_enumerator xs

bars-back : (a : ℕ) (x : EnumeratorForm) (xs : List EnumeratorForm) (s r : List Tok) → Spells (enumerators_words (x ∷ xs)) s r → BarsBack (x ∷ xs) (st s a) (st r a)
bars-back a x [] s r w =
    let g = enumerator-back a x.name x.recogniser s r w in
    let e = g.same in
    record { list = g.said ∷ []; reads = last g.reads; same = cc }
bars-back a x (y ∷ ys) s r w = go (spells-split (enumerator_words x) (word k.Bar (124 ∷ []) ∷ enumerators_words (y ∷ ys)) s r w) (λ m v. bars-back a y ys m r v)
  where
    go : Split (enumerator_words x) (word k.Bar (124 ∷ []) ∷ enumerators_words (y ∷ ys)) s r
        → ((m : List Tok) → Spells (enumerators_words (y ∷ ys)) m r → BarsBack (y ∷ ys) (st m a) (st r a))
        → BarsBack (x ∷ y ∷ ys) (st s a) (st r a)
    go cut again = bar cut.mid (enumerator-back a x.name x.recogniser s cut.mid cut.front) cut.back
      where
        bar : (mid : List Tok) → Back Enumerator unplaced_enumerator x (st s a) (st mid a) → Spells (word k.Bar (124 ∷ []) ∷ enumerators_words (y ∷ ys)) mid r → BarsBack (x ∷ y ∷ ys) (st s a) (st r a)
        bar mid g (t, m, e, i, z, rest) =
            let f = again m rest in
            let u = g.same in let v = f.same in
            record { list = g.said ∷ f.list; reads = more g.reads (e, i, refl) f.reads; same = cc }

sort-back : (a : ℕ) (x : SortForm) → SortSayable x → RestoresAt a (First SortBy) unplaced_sort x (sort_words x ++ semicolon_word ∷ [])
sort-back a (struct []) h s r w = absurd h
sort-back a (struct (x ∷ xs)) h s r (t, m, e, i, y, rest) = go (spells-split (enumerators_words (x ∷ xs)) (semicolon_word ∷ []) m r rest)
  where
    go : Split (enumerators_words (x ∷ xs)) (semicolon_word ∷ []) m r → Back (First SortBy) unplaced_sort (struct (x ∷ xs)) (st s a) (st r a)
    go cut = semicolon cut.mid (bars-back a x xs m cut.mid cut.front) cut.back
      where
        semicolon : (mid : List Tok) → BarsBack (x ∷ xs) (st m a) (st mid a) → Spells (semicolon_word ∷ []) mid r → Back (First SortBy) unplaced_sort (struct (x ∷ xs)) (st s a) (st r a)
        semicolon mid g (u, n, f, j, z, end) = record {
          said = struct g.list;
          reads = first-back SortBy k.Struct s a (struct g.list) (st r a) t m e i (t, st m a, (e, i, refl), (g.list, st mid a, g.reads, (u, st n a, (f, j, refl), (refl, at-end n r a a end refl))));
          same = ap (λ v. struct v) g.same;
        }
sort-back a (alias n) h s r (t, m, e, i, y, (u, o, f, j, z, end)) =
    let name : Named = record { place = t.place; text = t.text } in
    record {
      said = alias name;
      reads = first-back SortBy k.Name s a (alias name) (st r a) t m e i (name, st m a, (t, st m a, (e, i, refl), (refl, refl)), (u, st o a, (f, j, refl), (refl, at-end o r a a end refl)));
      same = cc;
    }

declaration-back : (a : ℕ) (x : SortDeclarationForm) → DeclarationSayable x → RestoresAt a SortDecl unplaced_declaration x (declaration_words x)
declaration-back a x h s r (t, m, e, i, y, (u, n, f, j, z, rest)) =
    let g = sort-back a x.sort h.1 n r rest in
    let name : Named = record { place = t.place; text = t.text } in
    let w = g.same in
    record {
      said = record { name = name; sort = g.said };
      reads = (name, st m a, (t, st m a, (e, i, refl), (refl, refl)), (u, st n a, (f, j, refl), (g.said, st r a, g.reads, (refl, refl))));
      same = cc;
    }

record SortsBack (xs : List SortDeclarationForm) (s z : State) : Type 0 where
  list : List SortDeclarationForm
  reads : SortParts s list z
  same : map unplaced_declaration list ≡ map unplaced_declaration xs

sorts-back : (a : ℕ) (xs : List SortDeclarationForm) → Each DeclarationSayable xs → (s r : List Tok) → Spells (sorts_words xs) s r → SortsBack xs (st s a) (st r a)
sorts-back a [] h s r end = record { list = []; reads = inl (refl, at-end s r a a end refl); same = refl }
sorts-back a (x ∷ xs) h s r (t, m, e, i, y, rest) =
    let g = flat-back a SortDecl unplaced_declaration declaration_words DeclarationSayable (declaration-back a) x xs h.0 h.1 m r rest in
    record { list = g.list; reads = inr ([], st s a, (refl, refl), last (t, st m a, (e, i, refl), (g.list, st r a, g.reads, (refl, refl)))); same = g.same }

-- ---- equations

own-back : {X : Type 0} (R : Reads X) (forget : X → X) (x : X) (n a : ℕ) (ws : List Word) → n ≤ a
    → ((s r : List Tok) (a b : ℕ) → a ≡ n + b → Spells ws s r → Back R forget x (st s a) (st r b)) → RestoresAt a (CountedApart R) forget x ws
own-back R forget x n a ws le item s r w =
    let g = item s r a (a - n) (omega arith) w in
    record { said = g.said; reads = (a - n, g.reads, refl); same = g.same }

record ParametersBack (depth : ℕ) (vs : List VariableForm) (s z : State) : Type 0 where
  list : List VariableForm
  reads : Extended (Is []) (λ none. Declared depth) s list z
  same : unplaced_variables list ≡ unplaced_variables vs

parameters-back : (a depth : ℕ) (vs : List VariableForm) → ParametersSayable vs depth → (s r : List Tok) → Spells (parameter_words vs) s r → ParametersBack depth vs (st s a) (st r a)
parameters-back a depth [] h s r end = record { list = []; reads = inl (refl, at-end s r a a end refl); same = refl }
parameters-back a zero (v ∷ vs) h s r w = absurd h
parameters-back a (suc d) (v ∷ vs) h s r (t, m, e, i, y, rest) = go (spells-split (variable_words (v ∷ vs)) (close_word ∷ []) m r rest)
  where
    go : Split (variable_words (v ∷ vs)) (close_word ∷ []) m r → ParametersBack (suc d) (v ∷ vs) (st s a) (st r a)
    go cut = close cut.mid (variables-back (v ∷ vs) h m cut.mid a cut.front) cut.back
      where
        close : (mid : List Tok) → Back Variables unplaced_variables (v ∷ vs) (st m a) (st mid a) → Spells (close_word ∷ []) mid r → ParametersBack (suc d) (v ∷ vs) (st s a) (st r a)
        close mid g (u, n, f, j, z, end) = record {
          list = g.said;
          reads = inr ([], st s a, (refl, refl), (t, st m a, (e, i, refl), (g.said, st mid a, g.reads, (u, st n a, (f, j, refl), (refl, at-end n r a a end refl)))));
          same = g.same;
        }

record SignBack (x : Sign) (s z : State) : Type 0 where
  reads : First SignOf s x z

sign-back : (a : ℕ) (x : Sign) (s m : List Tok) (t : Tok) → s ≡ t ∷ m → t.kind ≡ (sign_word x).kind → SignBack x (st s a) (st m a)
sign-back a sign.Mu s m t e i = record { reads = first-back SignOf k.Mu s a sign.Mu (st m a) t m e i (t, st m a, (e, i, refl), (refl, refl)) }
sign-back a sign.Nu s m t e i = record { reads = first-back SignOf k.Nu s a sign.Nu (st m a) t m e i (t, st m a, (e, i, refl), (refl, refl)) }

abbrev at : Tok → Named
at t = record { place = t.place; text = t.text }

named-at : (t : Tok) (n : Named) → t.text ≡ n.text → unplaced_name (at t) ≡ unplaced_name n
named-at t n e = cc

equation-back : (a depth : ℕ) (x : EquationForm) → EquationSayable depth a x → RestoresAt a (IsEquation depth) unplaced_equation x (equation_words x)
equation-back a depth x h s r (t, m, e, i, y, (u, n, f, j, z, rest)) =
    parameters (spells-split (parameter_words x.parameters) (is_word ∷ formula_words x.right true ++ semicolon_word ∷ []) n r rest)
  where
    parameters : Split (parameter_words x.parameters) (is_word ∷ formula_words x.right true ++ semicolon_word ∷ []) n r → Back (IsEquation depth) unplaced_equation x (st s a) (st r a)
    parameters cut = right cut.mid (parameters-back a depth x.parameters h.1 n cut.mid cut.front) cut.back
      where
        right : (mid : List Tok) → ParametersBack depth x.parameters (st n a) (st mid a)
            → Spells (is_word ∷ formula_words x.right true ++ semicolon_word ∷ []) mid r
            → Back (IsEquation depth) unplaced_equation x (st s a) (st r a)
        right mid g (v, o, l, p, w, rest) = semicolon (spells-split (formula_words x.right true) (semicolon_word ∷ []) o r rest)
          where
            semicolon : Split (formula_words x.right true) (semicolon_word ∷ []) o r → Back (IsEquation depth) unplaced_equation x (st s a) (st r a)
            semicolon cut = last-of cut.mid
                (own-back (IsFormula depth) unplaced_formula x.right (formula_operators x.right) a (formula_words x.right true) h.3 (formula-back x.right depth h.2) o cut.mid cut.front) cut.back
              where
                last-of : (end : List Tok)
                    → Back (CountedApart (IsFormula depth)) unplaced_formula x.right (st o a) (st end a)
                    → Spells (semicolon_word ∷ []) end r → Back (IsEquation depth) unplaced_equation x (st s a) (st r a)
                last-of end b (c, d, q, aa, bb, over) =
                    let first = sign-back a x.sign s m t e i in
                    let same = named-at u x.name z in let parameters = g.same in let formula = b.same in
                    record {
                      said = record { sign = x.sign; name = at u; parameters = g.list; right = b.said };
                      reads = (
                        x.sign,
                        st m a,
                        first.reads,
                        (
                          at u,
                          st n a,
                          (u, st n a, (f, j, refl), (refl, refl)),
                          (
                            g.list,
                            st mid a,
                            g.reads,
                            (
                              v,
                              st o a,
                              (l, p, refl),
                              (b.said, st end a, b.reads, (c, st d a, (q, aa, refl), (refl, at-end d r a a over refl))),
                            ),
                          ),
                        ),
                      );
                      same = cc;
                    }

-- ---- whole texts

initial-back : (a depth : ℕ) (i : InstanceForm) → InstanceSayable i depth → list_operators i.arguments ≤ a
    → RestoresAt a (CountedApart (IsInitialInstance depth)) unplaced_instance i (instance_words i)
initial-back a zero i h le =
    own-back (IsInitialInstance zero) unplaced_instance i (list_operators i.arguments) a (instance_words i) le
    (instance-back i.name i.arguments zero (arguments-back i.arguments) h)
initial-back a (suc d) i h le =
    own-back (IsInitialInstance (suc d)) unplaced_instance i (list_operators i.arguments) a (instance_words i) le
    (instance-back i.name i.arguments (suc d) (arguments-back i.arguments) h)

some-equations : (a depth : ℕ) (xs : List EquationForm) → EachOf (EquationSayable depth a) xs → (s r : List Tok) → Spells (flat_map equation_words xs) s r
    → ListBack (IsEquation depth) unplaced_equation xs (st s a) (st r a)
some-equations a depth [] h s r w = absurd h
some-equations a depth (x ∷ xs) h s r w = flat-back a (IsEquation depth) unplaced_equation equation_words (EquationSayable depth a) (equation-back a depth) x xs h.0 h.1 s r w

-- what stands behind the equations
record TailBack (depth : ℕ) (i : InstanceForm) (s z : State) : Type 0 where
  said : InstanceForm
  word : Tok
  behind : State
  mid : State
  end : Tok
  init : One k.Init s word behind
  reads : CountedApart (IsInitialInstance depth) behind said mid
  closes : One k.Semicolon mid end z
  same : unplaced_instance said ≡ unplaced_instance i

tail-back : (a depth : ℕ) (i : InstanceForm) → InstanceSayable i depth → list_operators i.arguments ≤ a → (s r : List Tok)
    → Spells (word k.Init (105 ∷ 110 ∷ 105 ∷ 116 ∷ []) ∷ instance_words i ++ semicolon_word ∷ []) s r → TailBack depth i (st s a) (st r a)
tail-back a depth i h le s r (t, m, e, j, y, rest) = go (spells-split (instance_words i) (semicolon_word ∷ []) m r rest)
  where
    go : Split (instance_words i) (semicolon_word ∷ []) m r → TailBack depth i (st s a) (st r a)
    go cut = last-of cut.mid (initial-back a depth i h le m cut.mid cut.front) cut.back
      where
        last-of : (mid : List Tok) → Back (CountedApart (IsInitialInstance depth)) unplaced_instance i (st m a) (st mid a) → Spells (semicolon_word ∷ []) mid r → TailBack depth i (st s a) (st r a)
        last-of mid g (u, n, f, l, z, end) = record {
          said = g.said;
          word = t;
          behind = st m a;
          mid = st mid a;
          end = u;
          init = (e, j, refl);
          reads = g.reads;
          closes = (f ∙ ap (λ v. u ∷ v) end, l, refl);
          same = g.same;
        }

abbrev tail_words : SpecForm → List Word
tail_words x = word k.Init (105 ∷ 110 ∷ 105 ∷ 116 ∷ []) ∷ instance_words x.initial ++ semicolon_word ∷ []

abbrev body_words : SpecForm → List Word
body_words x = last_of_line (word k.Pbes (112 ∷ 98 ∷ 101 ∷ 115 ∷ [])) ∷ flat_map equation_words x.equations ++ tail_words x

-- tokens that are read as a text but for places
pub record TextBack (depth limit : ℕ) (ranges : List RangeForm) (x : SpecForm) (tokens : List Tok) : Type 0 where
  pub says : SpecForm
  pub reads : IsText depth limit tokens ranges says
  pub same : unplaced says ≡ unplaced x

-- the words of a text that can be said are read back as that text, with whatever range lines say the same
pub text-back : (depth limit : ℕ) (x : SpecForm) (ranges : List RangeForm) → TextSayable depth limit x → map unplaced_range ranges ≡ map unplaced_range x.ranges
    → (tokens : List Tok) (end : Tok) → end.kind ≡ k.End → Spells (text_words x) tokens (end ∷ []) → TextBack depth limit ranges x tokens
text-back a-depth limit x ranges h alike tokens end e w = sorts (spells-split (sorts_words x.sorts) (body_words x) tokens (end ∷ []) w)
  where
    sorts : Split (sorts_words x.sorts) (body_words x) tokens (end ∷ []) → TextBack a-depth limit ranges x tokens
    sorts cut = pbes cut.mid (sorts-back limit x.sorts h.sorts tokens cut.mid cut.front) cut.back
      where
        pbes : (mid : List Tok) → SortsBack x.sorts (st tokens limit) (st mid limit) → Spells (body_words x) mid (end ∷ []) → TextBack a-depth limit ranges x tokens
        pbes mid g (t, m, f, i, y, rest) = equations (spells-split (flat_map equation_words x.equations) (tail_words x) m (end ∷ []) rest)
          where
            equations : Split (flat_map equation_words x.equations) (tail_words x) m (end ∷ []) → TextBack a-depth limit ranges x tokens
            equations cut =
                let es = some-equations limit a-depth x.equations h.equations m cut.mid cut.front in
                let b = tail-back limit a-depth x.initial h.initial h.operators cut.mid (end ∷ []) cut.back in
                let u = g.same in let v = es.same in let w = b.same in
                record {
                  says = record { sorts = g.list; ranges = ranges; equations = es.list; initial = b.said };
                  reads = (
                    limit,
                    end,
                    (
                      g.list,
                      st mid limit,
                      g.reads,
                      (
                        t,
                        st m limit,
                        (f, i, refl),
                        (
                          es.list,
                          st cut.mid limit,
                          es.reads,
                          (
                            b.word,
                            b.behind,
                            b.init,
                            (b.said, b.mid, b.reads, (b.end, st (end ∷ []) limit, b.closes, (refl, refl))),
                          ),
                        ),
                      ),
                    ),
                    e,
                  );
                  same = cc;
                }
