-- A chain of formulas without links is its first operand; another is a formula of its connective.
use Rattle.std.proofs.Common.{◌≡◌, ◌∙◌, List, [], ◌∷◌, ◌++◌, length, true, false, true≢false, ◌&&◌, ◌||◌, refl, sym, ap, Some, None, Vec, Box, Global}
use Rattle.std.specs.Prelude.{box_value, flat_map, nat_eq}
use Rattle.std.specs.List.{list_all, slice_get}
use Rattle.std.proofs.Math.Bool.{and-true}
use Rattle.std.proofs.Math.Dec.{eqb-suc-zero}
use Rattle.std.proofs.lemmas.List.{append-nil}
use Rattle.pb_text_tree.specs.declared.operator.Connective.{Connective}
use Rattle.pb_text_tree.specs.declared.operator.Connective.TheVariants.{And, Or, Implies}
use Rattle.pb_text_tree.specs.declared.place.Place.{Place}
use Rattle.pb_text_tree.specs.Form.{chained}
use Rattle.pb_model_tree.specs.declared.formula.Formula as formula
use Rattle.pb_model_tree.specs.declared.formula.Formula.{Formula}
use Rattle.pb_model_tree.specs.declared.formula.Link.{Link}
use Rattle.pb_model_tree.specs.declared.step_set.StepSet as step_set
use Rattle.pb_model_tree.specs.declared.step_set.StepSet.{StepSet}
use Rattle.pb_model_tree.specs.declared.step_set.StepSetLink.{StepSetLink}
use Rattle.pb_model_tree.specs.Form.{StepSetForm, step_set_form, FormulaForm, formula_form}
use Rattle.pb_model_invariants.specs.Invariants.{conjuncts, is_fixpoint_free}
use Rattle.pb_model_invariants.specs.Links.{conjuncts_of_link, is_and, is_free_link, link_forms, set_links}
use Rattle.pb_model_invariants.proofs.CopyLemmas.{formula-chain, set-union}

-- ---- formulas

pub chain-form : (f x : Formula) (c : Connective) (p : Box Formula Global) (v : Vec Link Global) (ls : List Link) → f ≡ formula.Chain c p v → x ≡ box_value p → ls ≡ v.items
    → formula_form f ≡ chained (FormulaForm.connected c) (formula_form x) (link_forms ls)
chain-form f x c p v ls is at same =
    ap formula_form is ∙ (formula-chain c p v
    ∙ (ap (λ (ks : List Link). chained (FormulaForm.connected c) (formula_form (box_value p)) (link_forms ks)) (sym same)
    ∙ ap (λ (y : Formula). chained (FormulaForm.connected c) (formula_form y) (link_forms ls)) (sym at)))

-- what holds of the first operand alone
pub alone : {A : Type 0} (P : FormulaForm → A) (f x : Formula) (c : Connective) (p : Box Formula Global) (v : Vec Link Global) (ls : List Link)
    → f ≡ formula.Chain c p v → x ≡ box_value p → ls ≡ v.items → None ≡ slice_get ls 0 → P (formula_form f) ≡ P (formula_form x)
alone P f x c p v [] is at same none = ap P (chain-form f x c p v [] is at same)
alone P f x c p v (l ∷ ls) is at same none = cc

-- what holds of each formula of a connective
pub several : {A : Type 0} (P : FormulaForm → A) (d : A) → ((c : Connective) (q : Place) (g h : FormulaForm) → P (FormulaForm.connected c q g h) ≡ d)
    → (f : Formula) (c : Connective) (p : Box Formula Global) (v : Vec Link Global) (ls : List Link) (l : Link)
    → f ≡ formula.Chain c p v → ls ≡ v.items → Some l ≡ slice_get ls 0 → P (formula_form f) ≡ d
several P d each f c p v [] l is same some = cc
several P d each f c p v (k ∷ ls) l is same some =
    ap P (chain-form f (box_value p) c p v (k ∷ ls) is refl same)
    ∙ each c k.place (formula_form (box_value p)) (chained (FormulaForm.connected c) (formula_form k.operand) (link_forms ls))

-- ---- sets of steps

union-form : (A B : StepSet) (p : Box StepSet Global) (v : Vec StepSetLink Global) (ls : List StepSetLink) → A ≡ step_set.Union p v → B ≡ box_value p → ls ≡ v.items
    → step_set_form A ≡ chained StepSetForm.union (step_set_form B) (set_links ls)
union-form A B p v ls is at same =
    ap step_set_form is ∙ (set-union p v
    ∙ (ap (λ (ks : List StepSetLink). chained StepSetForm.union (step_set_form (box_value p)) (set_links ks)) (sym same)
    ∙ ap (λ (C : StepSet). chained StepSetForm.union (step_set_form C) (set_links ls)) (sym at)))

pub set-alone : {R : Type 0} (P : StepSetForm → R) (A B : StepSet) (p : Box StepSet Global) (v : Vec StepSetLink Global) (ls : List StepSetLink)
    → A ≡ step_set.Union p v → B ≡ box_value p → ls ≡ v.items → None ≡ slice_get ls 0 → P (step_set_form A) ≡ P (step_set_form B)
set-alone P A B p v [] is at same none = ap P (union-form A B p v [] is at same)
set-alone P A B p v (l ∷ ls) is at same none = cc

pub set-several : {R : Type 0} (P : StepSetForm → R) (d : R) → ((q : Place) (C D : StepSetForm) → P (StepSetForm.union q C D) ≡ d)
    → (A : StepSet) (p : Box StepSet Global) (v : Vec StepSetLink Global) (ls : List StepSetLink) (l : StepSetLink)
    → A ≡ step_set.Union p v → ls ≡ v.items → Some l ≡ slice_get ls 0 → P (step_set_form A) ≡ d
set-several P d each A p v [] l is same some = cc
set-several P d each A p v (k ∷ ls) l is same some =
    ap P (union-form A (box_value p) p v (k ∷ ls) is refl same)
    ∙ each k.place (step_set_form (box_value p)) (chained StepSetForm.union (step_set_form k.operand) (set_links ls))

-- ---- fixpoints in chains

links-free : (c : Connective) (f : FormulaForm) (ls : List Link) → is_fixpoint_free (chained (FormulaForm.connected c) f (link_forms ls)) ≡ (is_fixpoint_free f && list_all is_free_link ls)
links-free c f [] = sym (and-true (is_fixpoint_free f))
links-free c f (l ∷ ls) = ap (λ b. is_fixpoint_free f && b) (links-free c (formula_form l.operand) ls)

pub chain-free : (f x : Formula) (c : Connective) (p : Box Formula Global) (v : Vec Link Global) (ls : List Link) → f ≡ formula.Chain c p v → x ≡ box_value p → ls ≡ v.items
    → is_fixpoint_free (formula_form f) ≡ (is_fixpoint_free (formula_form x) && list_all is_free_link ls)
chain-free f x c p v ls is at same = ap is_fixpoint_free (chain-form f x c p v ls is at same) ∙ links-free c (formula_form x) ls

-- ---- conjuncts in chains

joined-links : (f : FormulaForm) (ls : List Link) → conjuncts (chained (FormulaForm.connected And) f (link_forms ls)) ≡ conjuncts f ++ flat_map conjuncts_of_link ls
joined-links f [] = sym (append-nil (conjuncts f))
joined-links f (l ∷ ls) = ap (λ (fs : List FormulaForm). conjuncts f ++ fs) (joined-links (formula_form l.operand) ls)

joined : (c : Connective) (f : FormulaForm) (ls : List Link) → true ≡ (is_and c || nat_eq (length ls) 0)
    → conjuncts (chained (FormulaForm.connected c) f (link_forms ls)) ≡ conjuncts f ++ flat_map conjuncts_of_link ls
joined And f ls e = joined-links f ls
joined Or f [] e = sym (append-nil (conjuncts f))
joined Or f (l ∷ ls) e = absurd (true≢false (e ∙ eqb-suc-zero (length ls)))
joined Implies f [] e = sym (append-nil (conjuncts f))
joined Implies f (l ∷ ls) e = absurd (true≢false (e ∙ eqb-suc-zero (length ls)))

-- a conjunction, or a first operand alone
pub chain-joined : (f x : Formula) (c : Connective) (p : Box Formula Global) (v : Vec Link Global) (ks ls : List Link) → f ≡ formula.Chain c p v → x ≡ box_value p → ks ≡ v.items
    → ls ≡ v.items → true ≡ (is_and c || nat_eq (length ks) 0) → conjuncts (formula_form f) ≡ conjuncts (formula_form x) ++ flat_map conjuncts_of_link ls
chain-joined f x c p v ks ls is at other same e =
    ap conjuncts (chain-form f x c p v ks is at other) ∙ (joined c (formula_form x) ks e
    ∙ ap (λ (zs : List Link). conjuncts (formula_form x) ++ flat_map conjuncts_of_link zs) (other ∙ sym same))

apart : (c : Connective) (f : FormulaForm) (ls : List Link) → false ≡ (is_and c || nat_eq (length ls) 0)
    → conjuncts (chained (FormulaForm.connected c) f (link_forms ls)) ≡ chained (FormulaForm.connected c) f (link_forms ls) ∷ []
apart And f ls e = absurd (true≢false (sym e))
apart Or f [] e = absurd (true≢false (sym e))
apart Or f (l ∷ ls) e = refl
apart Implies f [] e = absurd (true≢false (sym e))
apart Implies f (l ∷ ls) e = refl

-- another chain
pub chain-apart : (f : Formula) (c : Connective) (p : Box Formula Global) (v : Vec Link Global) (ls : List Link) → f ≡ formula.Chain c p v → ls ≡ v.items
    → false ≡ (is_and c || nat_eq (length ls) 0) → conjuncts (formula_form f) ≡ formula_form f ∷ []
chain-apart f c p v ls is same e =
    let form = chain-form f (box_value p) c p v ls is refl same in
    ap conjuncts form ∙ (apart c (formula_form (box_value p)) ls e ∙ ap (λ (g : FormulaForm). g ∷ []) (sym form))
