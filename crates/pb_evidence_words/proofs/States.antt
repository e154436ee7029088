-- A state of a property's text is one of every text of the model.
use Rattle.std.proofs.Common.{◌≡◌, ℕ, suc, ◌+◌, Bool, true, false, true≢false, List, [], ◌∷◌, map, refl, sym, ap, ◌∙◌, subst, if◌then◌else◌, Option, Some, None}
use Rattle.std.specs.Prelude.{⊤, is_some}
use Rattle.std.specs.List.{slice_get}
use Rattle.std.specs.Option.{option_map}
use Rattle.std.proofs.lemmas.Option.{slice_get-map}
use Rattle.pb_fixpoint.specs.declared.Sign.{Sign}
use Rattle.pb_fixpoint.specs.declared.Sign.TheVariants.{Nu}
use Rattle.pb_text_tree.specs.declared.operator.Connective.TheVariants.{And, Or, Implies}
use Rattle.pb_text_tree.specs.declared.place.Place.{Place}
use Rattle.pb_text_tree.specs.Form.{EquationForm}
use Rattle.pb_base_values.specs.Carrier as carriers
use Rattle.pb_base_values.specs.Carrier.{Tuple, is_within}
use Rattle.pb_text_meaning.specs.Syntax.{Name, Equation, Spec}
use Rattle.pb_text_meaning.specs.Formula as formula
use Rattle.pb_text_meaning.specs.Erase.{erase, erased_equation, erased_variables}
use Rattle.pb_model_tree.specs.declared.formula.Modality.TheVariants.{Box, Diamond}
use Rattle.pb_model_tree.specs.Form.{FormulaForm, ModelForm}
use Rattle.pb_model_meaning.specs.Erase.{erased_formula}
use Rattle.pb_model_translation.specs.Translation.{FixpointScope, has_equation, next_if, equation_count}
use Rattle.pb_model_translation.specs.Placed.{placed, equation_forms, all_equation_forms, right_form, equation_at}
use Rattle.pb_model_translation.specs.Names.{names_of}
use Rattle.pb_model_translation.proofs.Data.{carriers-same}
use Rattle.pb_sorts.specs.declared.carrier.Carrier.{Carrier}
use Rattle.pb_sorts.specs.Instance.{Instance, is_instance, is_tuple_of}
use Rattle.pb_sorts.specs.Layout.{carriers_of}
use Rattle.pb_typing.specs.Typed.{IsLayout}

-- all equations have the model's variables
abbrev Own : ModelForm → List EquationForm → Type 0
Own m [] = ⊤
Own m (X ∷ E) = (X.parameters ≡ m.variables) × Own m E

own-if : (m : ModelForm) (b : Bool) (X : EquationForm) (E : List EquationForm) → X.parameters ≡ m.variables → Own m E
    → Own m (if b then X ∷ E else E)
own-if m true X E is own = (is, own)
own-if m false X E is own = own

module _ (m : ModelForm) (names : ℕ → Name) (here : Place) where
  owned : (f : FormulaForm) (scope : FixpointScope) (sign : Sign) (n : ℕ) (E : List EquationForm) → Own m E
      → Own m (equation_forms m names here scope sign n f E)
  owned (FormulaForm.constant p b) scope sign n E own = own
  owned (FormulaForm.«data» p x) scope sign n E own = own
  owned (FormulaForm.variable x) scope sign n E own = own
  owned (FormulaForm.negation p f) scope sign n E own = owned f scope sign n E own
  owned (FormulaForm.connected c p f g) scope sign n E own =
      let rest = owned g scope sign (n + equation_count (erased_formula f)) E own in
      owned f scope sign n (equation_forms m names here scope sign (n + equation_count (erased_formula f)) g E) rest
  owned (FormulaForm.modal k p A f) scope sign n E own =
      let b = has_equation (erased_formula f) in
      own-if m b (equation_at m names here sign n (right_form m names scope (next_if b n) f))
      (equation_forms m names here scope sign (next_if b n) f E) refl (owned f scope sign (next_if b n) E own)
  owned (FormulaForm.fixpoint inner p x f) scope sign n E own =
      (refl, owned f ((x.text, n) ∷ scope) inner (suc n) E own)

  owned-all : (f : FormulaForm) → Own m (all_equation_forms m names here f)
  owned-all (FormulaForm.constant p b) = (refl, tt)
  owned-all (FormulaForm.«data» p x) = (refl, tt)
  owned-all (FormulaForm.variable x) = (refl, tt)
  owned-all (FormulaForm.negation p f) = (refl, owned (FormulaForm.negation p f) [] Nu 1 [] tt)
  owned-all (FormulaForm.connected And p f g) = (refl, owned (FormulaForm.connected And p f g) [] Nu 1 [] tt)
  owned-all (FormulaForm.connected Or p f g) = (refl, owned (FormulaForm.connected Or p f g) [] Nu 1 [] tt)
  owned-all (FormulaForm.connected Implies p f g) = (refl, owned (FormulaForm.connected Implies p f g) [] Nu 1 [] tt)
  owned-all (FormulaForm.modal Box p A f) = (refl, owned (FormulaForm.modal Box p A f) [] Nu 1 [] tt)
  owned-all (FormulaForm.modal Diamond p A f) = (refl, owned (FormulaForm.modal Diamond p A f) [] Nu 1 [] tt)
  owned-all (FormulaForm.fixpoint inner p x f) = owned (FormulaForm.fixpoint inner p x f) [] Nu 0 [] tt

  has-first : (f : FormulaForm) → is_some (slice_get (all_equation_forms m names here f) 0) ≡ true
  has-first (FormulaForm.constant p b) = refl
  has-first (FormulaForm.«data» p x) = refl
  has-first (FormulaForm.variable x) = refl
  has-first (FormulaForm.negation p f) = refl
  has-first (FormulaForm.connected And p f g) = refl
  has-first (FormulaForm.connected Or p f g) = refl
  has-first (FormulaForm.connected Implies p f g) = refl
  has-first (FormulaForm.modal Box p A f) = refl
  has-first (FormulaForm.modal Diamond p A f) = refl
  has-first (FormulaForm.fixpoint inner p x f) = refl

-- so each has the same carriers
own-carriers : (spec : Spec) (m : ModelForm) (E : List EquationForm) → Own m E
    → map (λ (X : Equation). formula.carriers_of spec X.parameters) (map erased_equation E)
    ≡ map (λ (X : EquationForm). formula.carriers_of spec (erased_variables m.variables)) E
own-carriers spec m [] own = refl
own-carriers spec m (X ∷ E) own =
    ap (λ xs. formula.carriers_of spec (erased_variables xs) ∷ map (λ (X : Equation). formula.carriers_of spec X.parameters) (map erased_equation E)) own.0
    ∙ ap (λ cs. formula.carriers_of spec (erased_variables m.variables) ∷ cs) (own-carriers spec m E own.1)

within-of : {A : Type 0} (cs : List carriers.Carrier) (o : Option A) (vs : Tuple) → is_tuple_of (option_map (λ (x : A). cs) o) vs ≡ true
    → is_within cs vs ≡ true
within-of cs None vs is = absurd (true≢false (sym is))
within-of cs (Some x) vs is = is

of-within : {A : Type 0} (cs : List carriers.Carrier) (o : Option A) (vs : Tuple) → is_some o ≡ true → is_within cs vs ≡ true
    → is_tuple_of (option_map (λ (x : A). cs) o) vs ≡ true
of-within cs None vs some is = absurd (true≢false (sym some))
of-within cs (Some x) vs some is = is

module _ (m : ModelForm) where
  abbrev text_of : Place → FormulaForm → Spec
  text_of here f = erase (placed m here f)

  abbrev own : Place → FormulaForm → List carriers.Carrier
  own here f = formula.carriers_of (text_of here f) (erased_variables m.variables)

  abbrev forms : Place → FormulaForm → List EquationForm
  forms here f = all_equation_forms m (names_of (erased_formula f)) here f

  laid : (here : Place) (f : FormulaForm) (layout : List (List Carrier)) → IsLayout (text_of here f) layout → (k : ℕ)
      → slice_get (carriers_of layout) k ≡ option_map (λ (X : EquationForm). own here f) (slice_get (forms here f) k)
  laid here f layout is k =
      ap (λ css. slice_get css k) (is.values ∙ own-carriers (text_of here f) m (forms here f) (owned-all m (names_of (erased_formula f)) here f))
      ∙ slice_get-map (λ (X : EquationForm). own here f) (forms here f) k

  same-own : (here there : Place) (f g : FormulaForm) → own there g ≡ own here f
  same-own here there f g =
      carriers-same (text_of here f) (text_of there g).equations (text_of there g).initial (text_of there g).arguments (erased_variables m.variables)

  pub state-known : (here there : Place) (f g : FormulaForm) (layout other : List (List Carrier)) → IsLayout (text_of here f) layout
      → IsLayout (text_of there g) other → (i : Instance) → is_instance (carriers_of layout) i ≡ true
      → is_instance (carriers_of other) (record { equation = 0; values = i.values }) ≡ true
  state-known here there f g layout other is too i known =
      let mine = within-of (own here f) (slice_get (forms here f) i.equation) i.values
      (ap (λ o. is_tuple_of o i.values) (sym (laid here f layout is i.equation)) ∙ known) in
      ap (λ o. is_tuple_of o i.values) (laid there g other too 0)
      ∙ of-within (own there g) (slice_get (forms there g) 0) i.values (has-first m (names_of (erased_formula g)) there g)
      (subst (λ cs. is_within cs i.values ≡ true) (sym (same-own here there f g)) mine)
