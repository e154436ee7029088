-- What has no equation of its own, form by form.
use Rattle.std.proofs.Common.{◌≡◌, List, [], ◌∷◌, ◌++◌, flat_map, refl, sym, subst, ap, ◌∙◌, arith, Vec, Box, Global}
use Rattle.std.specs.Prelude.{box_value, ⊤}
use Rattle.pb_text_tree.specs.declared.operator.Connective.{Connective}
use Rattle.pb_text_tree.specs.declared.operator.Connective.TheVariants as connective
use Rattle.pb_text_tree.specs.declared.operator.Quantifier.{Quantifier}
use Rattle.pb_text_tree.specs.declared.operator.Quantifier.TheVariants.{Forall, Exists}
use Rattle.pb_text_tree.specs.Form.{chained}
use Rattle.pb_text_meaning.specs.Syntax.{Variable, Spec}
use Rattle.pb_model_tree.specs.declared.formula.Modality.{Modality}
use Rattle.pb_model_tree.specs.declared.formula.Modality.TheVariants as modality
use Rattle.pb_model_meaning.specs.Syntax as flat
use Rattle.pb_model_translation.specs.Translation.{next_if, equation_count}
use Rattle.pb_protocol_tree.specs.declared.formula.Formula as formula
use Rattle.pb_protocol_tree.specs.declared.formula.Formula.{Formula, Row_of-Link, end_of-Link, more_of-Link, items-the_row-Link, items_hidden-the_row-Link-0}
use Rattle.pb_protocol_tree.specs.declared.formula.Link.{Link}
use Rattle.pb_protocol_tree.specs.Form.{FormulaForm, formula_form, links_in}
use Rattle.pb_protocol_meaning.specs.Syntax as syntax
use Rattle.pb_protocol_meaning.specs.Syntax.{Protocol, StepSet}
use Rattle.pb_protocol_meaning.specs.Steps.{data_of}
use Rattle.pb_protocol_meaning.specs.Erase.{erased_formula, joined, modal}
use Rattle.pb_protocol_unfolding.specs.Written.{written_values}
use Rattle.pb_protocol_unfolding.specs.PutIn.{TermScope, copies}
use Rattle.pb_protocol_unfolding.specs.Unfolding.{unfolded_formula, joined_formulas}
use Rattle.pb_protocol_symmetry_unfolded.specs.Laws.{IsQuantifiedAlone}
use Rattle.pb_protocol_quantified_alone.specs.Alone.{formula_said, HasNone, HaveNone, IsBare, AreAlone}
use mathlib.Core.Former.{Count}

-- ---- copies that are written out

abbrev AreNone : List flat.Formula → Type 0
AreNone [] = ⊤
AreNone (f ∷ fs) = (equation_count f ≡ 0) × AreNone fs

none-append : (fs gs : List flat.Formula) → AreNone fs → AreNone gs → AreNone (fs ++ gs)
none-append [] gs hs ks = ks
none-append (f ∷ fs) gs hs ks = (hs.0, none-append fs gs hs.1 ks)

none-flat : {A : Type 0} (g : A → List flat.Formula) (as_ : List A) → ((a : A) → AreNone (g a)) → AreNone (flat_map g as_)
none-flat g [] h = tt
none-flat g (a ∷ as_) h = none-append (g a) (flat_map g as_) (h a) (none-flat g as_ h)

none-copies : (spec : Spec) (xs : List Variable) (f : TermScope → flat.Formula) → ((σ : TermScope) → equation_count (f σ) ≡ 0) → (ρ : TermScope) → AreNone (copies spec xs f ρ)
none-copies spec [] f h ρ = (h ρ, tt)
none-copies spec (x ∷ xs) f h ρ = none-flat (λ k. copies spec xs f ((x.name, k) ∷ ρ)) (written_values spec x.sort) (λ k. none-copies spec xs f h ((x.name, k) ∷ ρ))

none-joined : (q : Quantifier) (fs : List flat.Formula) → AreNone fs → equation_count (joined_formulas q fs) ≡ 0
none-joined Forall [] h = refl
none-joined Forall (f ∷ fs) h = let rest = none-joined Forall fs h.1 in omega (arith, h.0, rest)
none-joined Exists [] h = refl
none-joined Exists (f ∷ fs) h = let rest = none-joined Exists fs h.1 in omega (arith, h.0, rest)

pub none-quantified : (m : Protocol) (q : Quantifier) (xs : List Variable) (f : syntax.Formula) → HasNone m f → HasNone m (syntax.Formula.Quantified q xs f)
none-quantified m q xs f h ρ = none-joined q (copies (data_of m) xs (λ σ. unfolded_formula m σ f) ρ) (none-copies (data_of m) xs (λ σ. unfolded_formula m σ f) h ρ)

pub none-modal : (m : Protocol) (k : Modality) (A : StepSet) (f : syntax.Formula) → IsBare m f → HasNone m (modal k A f)
none-modal m modality.Box A f h ρ = ap (λ b. next_if b (equation_count (unfolded_formula m ρ f))) (h.operand ρ) ∙ h.none ρ
none-modal m modality.Diamond A f h ρ = ap (λ b. next_if b (equation_count (unfolded_formula m ρ f))) (h.operand ρ) ∙ h.none ρ

none-connected : (m : Protocol) (k : Connective) (f g : syntax.Formula) → HasNone m f → HasNone m g → HasNone m (joined k f g)
none-connected m connective.And f g h i ρ = let a = h ρ in let b = i ρ in omega (arith, a, b)
none-connected m connective.Or f g h i ρ = let a = h ρ in let b = i ρ in omega (arith, a, b)
none-connected m connective.Implies f g h i ρ = let a = h ρ in let b = i ρ in omega (arith, a, b)

alone-connected : (m : Protocol) (k : Connective) (f g : syntax.Formula) → IsQuantifiedAlone m f → IsQuantifiedAlone m g → IsQuantifiedAlone m (joined k f g)
alone-connected m connective.And f g h i = (h, i)
alone-connected m connective.Or f g h i = (h, i)
alone-connected m connective.Implies f g h i = (h, i)

-- ---- chains

abbrev formula_row : Formula → (n : Count) × Row_of-Link n
formula_row (formula.Chain' c p first shape row) = (_, row)
formula_row _ = (_, end_of-Link)

none-row : (m : Protocol) (k : Connective) (f : FormulaForm) (n : _) (row : Row_of-Link n) → HasNone m (erased_formula f) → HaveNone m (items-the_row-Link n row)
    → HasNone m (erased_formula (chained (FormulaForm.connected k) f (links_in row)))
none-row m k f n end_of-Link h hs = h
none-row m k f n (more_of-Link place operand row) h hs =
    none-connected m k (erased_formula f) (erased_formula (chained (FormulaForm.connected k) (formula_form operand) (links_in row))) h (none-row m k (formula_form operand) _ row hs.0 hs.1)

alone-row : (m : Protocol) (k : Connective) (f : FormulaForm) (n : _) (row : Row_of-Link n) → IsQuantifiedAlone m (erased_formula f) → AreAlone m (items-the_row-Link n row)
    → IsQuantifiedAlone m (erased_formula (chained (FormulaForm.connected k) f (links_in row)))
alone-row m k f n end_of-Link h hs = h
alone-row m k f n (more_of-Link place operand row) h hs =
    alone-connected m k (erased_formula f) (erased_formula (chained (FormulaForm.connected k) (formula_form operand) (links_in row))) h (alone-row m k (formula_form operand) _ row hs.0 hs.1)

module _ (m : Protocol) (f x : Formula) (k : Connective) (p : Box Formula Global) (v : Vec Link Global) (ls : List Link)
    (is : f ≡ formula.Chain k p v) (at : x ≡ box_value p) (same : ls ≡ v.items) where
  pub none-chain : HasNone m (formula_said x) → HaveNone m ls → HasNone m (formula_said f)
  none-chain h hs =
      let row = formula_row (formula.Chain k p v) in
      let items : List Link → Type 0 = λ xs. HaveNone m xs in
      let said : Formula → Type 0 = λ g. HasNone m (formula_said g) in
      subst said (sym is) (none-row m k (formula_form (box_value p)) row.0 row.1 (subst said at h) (subst items (same ∙ sym (items_hidden-the_row-Link-0 v)) hs))

  pub alone-chain : IsQuantifiedAlone m (formula_said x) → AreAlone m ls → IsQuantifiedAlone m (formula_said f)
  alone-chain h hs =
      let row = formula_row (formula.Chain k p v) in
      let items : List Link → Type 0 = λ xs. AreAlone m xs in
      let said : Formula → Type 0 = λ g. IsQuantifiedAlone m (formula_said g) in
      subst said (sym is) (alone-row m k (formula_form (box_value p)) row.0 row.1 (subst said at h) (subst items (same ∙ sym (items_hidden-the_row-Link-0 v)) hs))

pub alone-modal : (m : Protocol) (k : Modality) (A : StepSet) (f : syntax.Formula) → IsQuantifiedAlone m f → IsQuantifiedAlone m (modal k A f)
alone-modal m modality.Box A f h = h
alone-modal m modality.Diamond A f h = h
