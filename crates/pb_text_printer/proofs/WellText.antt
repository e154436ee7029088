-- The words of a text that can be said can be written one behind another, each part on its line.
use Rattle.std.proofs.Common.{ℕ, zero, suc, true, false, List, [], ◌∷◌, ◌++◌, sym, refl, subst, append_assoc, Option, Some, None}
use Rattle.std.specs.Prelude.{codes, flat_map}
use Rattle.pb_fixpoint.specs.declared.Sign.{Sign}
use Rattle.pb_fixpoint.specs.declared.Sign.TheVariants as sign
use Rattle.pb_text_tree.specs.Form.{Named, VariableForm, EnumeratorForm, SortForm, struct, alias, SortDeclarationForm, EquationForm, SpecForm}
use Rattle.pb_text_lexer.specs.declared.kind.Kind.TheVariants as k
use Rattle.pb_text_printer.specs.Words.{Word, word, last_of_line, list_word, close_word, name_word, sign_word, is_word, semicolon_word, variable_words, instance_words, formula_words, recogniser_words, enumerator_words, enumerators_words, sort_words, declaration_words, parameter_words, equation_words, sorts_words, text_words}
use Rattle.pb_text_printer.specs.Sayable.{Each, EachOf, IsName, RecogniserSayable, EnumeratorSayable, SortSayable, DeclarationSayable, ParametersSayable, EquationSayable, TextSayable}
use Rattle.pb_text_printer.proofs.CutWords.{list-cut, close-cut, sign-cut, is-cut, semicolon-cut, question-cut, bar-cut, struct-cut, init-cut, sort-cut, pbes-cut}
use Rattle.pb_text_printer.proofs.WrittenLemmas.{Well}
use Rattle.pb_text_printer.proofs.WellTerm.{Solid, solid-behind, solid-word, solid-both, solid-name, some-variables-solid, instance-solid, formula-solid}

-- lines behind which others may stand
record Lines (ws : List Word) : Type 0 where
  before : (vs : List Word) → Well false vs → Well false (ws ++ vs)

-- words up to a semicolon
line : (ws : List Word) → Solid ws → Lines (ws ++ semicolon_word ∷ [])
line ws solid = record {
  before = λ vs h. subst (λ (v : List Word). Well false v) (sym (append_assoc ws (semicolon_word ∷ []) vs)) (solid.before false (semicolon_word ∷ vs) (refl, semicolon-cut, h));
}

both-lines : (us vs : List Word) → Lines us → Lines vs → Lines (us ++ vs)
both-lines us vs left right = record { before = λ ws h. subst (λ (v : List Word). Well false v) (sym (append_assoc us vs ws)) (left.before (vs ++ ws) (right.before ws h)) }

flat-lines : {X : Type 0} (words : X → List Word) (P : X → Type 0) → ((x : X) → P x → Lines (words x)) → (xs : List X) → Each P xs → Lines (flat_map words xs)
flat-lines words P each [] h = record { before = λ vs g. g }
flat-lines words P each (x ∷ xs) h = both-lines (words x) (flat_map words xs) (each x h.0) (flat-lines words P each xs h.1)

-- ---- sorts

enumerator-solid : (e : EnumeratorForm) → EnumeratorSayable e → Solid (enumerator_words e)
enumerator-solid e h = go e.recogniser h.1
  where
    go : (r : Option Named) → RecogniserSayable r → Solid (name_word e.name ∷ recogniser_words r)
    go None g = solid-name e.name h.0
    go (Some n) g =
        solid-both (name_word e.name ∷ []) (word k.Question (codes "?") ∷ name_word n ∷ []) (solid-name e.name h.0)
        (solid-behind (word k.Question (codes "?")) (name_word n ∷ []) tt refl question-cut (solid-name n g))

enumerators-solid : (e : EnumeratorForm) (es : List EnumeratorForm) → EnumeratorSayable e → Each EnumeratorSayable es → Solid (enumerators_words (e ∷ es))
enumerators-solid e [] h hs = enumerator-solid e h
enumerators-solid e (f ∷ es) h hs =
    solid-both (enumerator_words e) (word k.Bar (codes "|") ∷ enumerators_words (f ∷ es)) (enumerator-solid e h)
    (solid-behind (word k.Bar (codes "|")) (enumerators_words (f ∷ es)) tt refl bar-cut (enumerators-solid f es hs.0 hs.1))

sort-solid : (x : SortForm) → SortSayable x → Solid (sort_words x)
sort-solid (struct []) h = absurd h
sort-solid (struct (e ∷ es)) h = solid-behind (word k.Struct (codes "struct")) (enumerators_words (e ∷ es)) tt refl struct-cut (enumerators-solid e es h.0 h.1)
sort-solid (alias n) h = solid-name n h

-- the equals sign, behind words
is-solid : (us vs : List Word) → Solid us → Solid vs → Solid (us ++ is_word ∷ vs)
is-solid us vs left right = record {
  before = λ g ws h. subst (λ (v : List Word). Well g v) (sym (append_assoc us (is_word ∷ vs) ws)) (left.before g (is_word ∷ vs ++ ws) (tt, is-cut, right.before true ws h));
}

declaration-lines : (d : SortDeclarationForm) → DeclarationSayable d → Lines (declaration_words d)
declaration-lines d h = line (name_word d.name ∷ is_word ∷ sort_words d.sort) (is-solid (name_word d.name ∷ []) (sort_words d.sort) (solid-name d.name h.0) (sort-solid d.sort h.1))

sorts-lines : (ds : List SortDeclarationForm) → Each DeclarationSayable ds → Lines (sorts_words ds)
sorts-lines [] h = record { before = λ vs g. g }
sorts-lines (d ∷ ds) h = record {
  before = λ vs g. (refl, sort-cut, (flat-lines declaration_words DeclarationSayable declaration-lines (d ∷ ds) h).before vs g);
}

-- ---- equations

parameters-solid : (n : Named) (vs : List VariableForm) (d : ℕ) → IsName n → ParametersSayable vs d → Solid (name_word n ∷ parameter_words vs)
parameters-solid n [] d h g = solid-name n h
parameters-solid n (v ∷ vs) zero h g = absurd g
parameters-solid n (v ∷ vs) (suc d) h g =
    solid-both (name_word n ∷ []) (list_word ∷ variable_words (v ∷ vs) ++ close_word ∷ []) (solid-name n h)
    (solid-behind list_word (variable_words (v ∷ vs) ++ close_word ∷ []) refl refl list-cut
    (solid-both (variable_words (v ∷ vs)) (close_word ∷ []) (some-variables-solid (v ∷ vs) g)
    (solid-word close_word refl refl close-cut refl)))

sign-solid : (x : Sign) (vs : List Word) → Solid vs → Solid (sign_word x ∷ vs)
sign-solid sign.Mu vs h = solid-behind (sign_word sign.Mu) vs tt refl (sign-cut sign.Mu) h
sign-solid sign.Nu vs h = solid-behind (sign_word sign.Nu) vs tt refl (sign-cut sign.Nu) h

equation-lines : (depth limit : ℕ) (e : EquationForm) → EquationSayable depth limit e → Lines (equation_words e)
equation-lines depth limit e h =
    let left = name_word e.name ∷ parameter_words e.parameters in
    let whole = sign-solid e.sign (left ++ is_word ∷ formula_words e.right true)
    (is-solid left (formula_words e.right true) (parameters-solid e.name e.parameters depth h.0 h.1) (formula-solid e.right true depth h.2)) in
    subst (λ (v : List Word). Lines v) (append_assoc (sign_word e.sign ∷ left) (is_word ∷ formula_words e.right true) (semicolon_word ∷ []))
    (line (sign_word e.sign ∷ left ++ is_word ∷ formula_words e.right true) whole)

some-equations : (depth limit : ℕ) (es : List EquationForm) → EachOf (EquationSayable depth limit) es → Each (EquationSayable depth limit) es
some-equations depth limit [] h = absurd h
some-equations depth limit (e ∷ es) h = h

-- ---- whole texts

tail-well : (depth limit : ℕ) (s : SpecForm) → TextSayable depth limit s → Well false (word k.Init (codes "init") ∷ instance_words s.initial ++ semicolon_word ∷ [])
tail-well depth limit s h =
    (refl, init-cut, (instance-solid s.initial.name s.initial.arguments depth h.initial.0 h.initial.1).before true (semicolon_word ∷ []) (refl, semicolon-cut, tt))

pub text-well : (depth limit : ℕ) (s : SpecForm) → TextSayable depth limit s → Well false (text_words s)
text-well depth limit s h =
    let tail = word k.Init (codes "init") ∷ instance_words s.initial ++ semicolon_word ∷ [] in
    (sorts-lines s.sorts h.sorts).before (last_of_line (word k.Pbes (codes "pbes")) ∷ flat_map equation_words s.equations ++ tail) (
      refl,
      pbes-cut,
      (flat-lines equation_words (EquationSayable depth limit) (equation-lines depth limit) s.equations
          (some-equations depth limit s.equations h.equations)).before tail (tail-well depth limit s h),
    )
