-- A chain without links is its first operand, and any other is an operator of two terms.
use Rattle.std.proofs.Common.{◌≡◌, ◌==◌, ℕ, Bool, true, false, true≢false, List, [], ◌∷◌, length, vec_len, refl, sym, ap, ◌∙◌, arith, Vec, Global, Box}
use Rattle.std.specs.Prelude.{box_value}
use Rattle.std.proofs.lemmas.Bool.Decides.{nat_tests}
use Rattle.pb_text_tree.specs.declared.place.Place.{Place}
use Rattle.pb_text_tree.specs.declared.operator.Connective.{Connective}
use Rattle.pb_text_tree.specs.declared.operator.Arithmetic.{Arithmetic}
use Rattle.pb_text_tree.specs.declared.term.Term as term
use Rattle.pb_text_tree.specs.declared.term.Term.{Term}
use Rattle.pb_text_tree.specs.declared.term.TermLink.{TermLink}
use Rattle.pb_text_tree.specs.declared.term.ArithmeticLink.{ArithmeticLink}
use Rattle.pb_text_tree.specs.Form.{TermForm, term_form, term_links, arithmetic_links, chained, calculated}
use Rattle.pb_text_tree.proofs.FormLemmas.{term-chain, term-arithmetic}
use Rattle.pb_text_meaning.specs.Syntax as syntax
use Rattle.pb_text_meaning.specs.Syntax.{Operator}
use Rattle.pb_text_meaning.specs.Erase.{of_connective, of_arithmetic, erased_term}
use Rattle.pb_model_tree.specs.declared.formula.Formula as formula
use Rattle.pb_model_tree.specs.declared.formula.Formula.{Formula}
use Rattle.pb_model_tree.specs.declared.formula.Link.{Link}
use Rattle.pb_model_tree.specs.declared.step_set.StepSet as step_set
use Rattle.pb_model_tree.specs.declared.step_set.StepSet.{StepSet}
use Rattle.pb_model_tree.specs.declared.step_set.StepSetLink.{StepSetLink}
use Rattle.pb_model_tree.specs.Form.{StepSetForm, step_set_form, FormulaForm, formula_form}
use Rattle.pb_model_meaning.specs.Syntax as model
use Rattle.pb_model_meaning.specs.Erase.{joined, erased_formula, erased_steps}
use Rattle.pb_protocol_folding.specs.View.{term_of, formula_of, set_of, link_forms, set_links}
use Rattle.pb_protocol_folding.proofs.Chains.{formula-chain, set-union}

-- what `is_empty` says
pub none-there : {A : Type 0} (v : Vec A Global) (b : Bool) → b ≡ (vec_len v == 0) → b ≡ true → length v.items ≡ 0
none-there v b e h = let same : (vec_len v == 0) ≡ true = sym e ∙ h in let ok = v.ok.0 in grind (arith, nat_tests)

pub some-there : {A : Type 0} (v : Vec A Global) (b : Bool) → b ≡ (vec_len v == 0) → b ≡ false → length v.items ≡ 0 → ⊥
some-there v b e h none =
    let zero : vec_len v ≡ 0 = omega (arith, none, v.ok.0) in
    let test : (vec_len v == 0) ≡ true = ap (λ (n : ℕ). n == 0) zero in
    true≢false (sym test ∙ sym e ∙ h)

no-links : {A B : Type 0} (f : List A → List B) → f [] ≡ [] → (ls : List A) → length ls ≡ 0 → f ls ≡ []
no-links f h [] e = h
no-links f h (l ∷ ls) e = absurd (omega arith)

-- ---- chains of a connective

pub chain-alone : (k : Connective) (first : Box Term Global) (v : Vec TermLink Global) (x y : Term) (b : Bool)
    → x ≡ term.Chain k first v → b ≡ (vec_len v == 0) → b ≡ true → y ≡ box_value first → term_of y ≡ term_of x
chain-alone k first v x y b is e h at =
    ap term_of at
    ∙ sym (ap term_of is ∙ ap erased_term (term-chain k first v)
    ∙ ap (λ ls. erased_term (chained (TermForm.connected k) (term_form (box_value first)) ls))
    (no-links term_links refl v.items (none-there v b e h)))

connected-links : {A : Type 0} (g : syntax.Term → A) (a : A) (k : Connective)
    → ((l r : syntax.Term) → g (syntax.Term.Binary (of_connective k) l r) ≡ a) → (x : TermForm) (ls : List TermLink) → (length ls ≡ 0 → ⊥) →
    g (erased_term (chained (TermForm.connected k) x (term_links ls))) ≡ a
connected-links g a k h x [] some = absurd (some refl)
connected-links g a k h x (l ∷ ls) some = h (erased_term x) (erased_term (chained (TermForm.connected k) (term_form l.operand) (term_links ls)))

-- what is seen of each operator of two terms is seen of a chain
pub chain-many : {A : Type 0} (g : syntax.Term → A) (a : A) (k : Connective) → ((l r : syntax.Term) → g (syntax.Term.Binary (of_connective k) l r) ≡ a) →
    (first : Box Term Global) (v : Vec TermLink Global) (x : Term) (b : Bool) → x ≡ term.Chain k first v → b ≡ (vec_len v == 0) → b ≡ false → a ≡ g (term_of x)
chain-many g a k h first v x b is e f =
    sym (ap (λ y. g (term_of y)) is ∙ ap (λ y. g (erased_term y)) (term-chain k first v) ∙ connected-links g a k h (term_form (box_value first)) v.items (some-there v b e f))

-- ---- chains of arithmetic

pub arithmetic-alone : (first : Box Term Global) (v : Vec ArithmeticLink Global) (x y : Term) (b : Bool)
    → x ≡ term.Arithmetic first v → b ≡ (vec_len v == 0) → b ≡ true → y ≡ box_value first → term_of y ≡ term_of x
arithmetic-alone first v x y b is e h at =
    ap term_of at
    ∙ sym (ap term_of is ∙ ap erased_term (term-arithmetic first v)
    ∙ ap (λ ls. erased_term (calculated (term_form (box_value first)) ls))
    (no-links arithmetic_links refl v.items (none-there v b e h)))

calculated-links : {A : Type 0} (g : syntax.Term → A) (a : A)
    → ((o : Arithmetic) (l r : syntax.Term) → g (syntax.Term.Binary (of_arithmetic o) l r) ≡ a)
    → (x : TermForm) (ls : List (Arithmetic × Place × TermForm)) → g (erased_term x) ≡ a →
    g (erased_term (calculated x ls)) ≡ a
calculated-links g a h x [] e = e
calculated-links g a h x ((o, p, y) ∷ ls) e = calculated-links g a h (TermForm.computed o p x y) ls (h o (erased_term x) (erased_term y))

operated-links : {A : Type 0} (g : syntax.Term → A) (a : A)
    → ((o : Arithmetic) (l r : syntax.Term) → g (syntax.Term.Binary (of_arithmetic o) l r) ≡ a)
    → (x : TermForm) (ls : List ArithmeticLink) → (length ls ≡ 0 → ⊥) →
    g (erased_term (calculated x (arithmetic_links ls))) ≡ a
operated-links g a h x [] some = absurd (some refl)
operated-links g a h x (l ∷ ls) some =
    calculated-links g a h (TermForm.computed l.operator l.place x (term_form l.operand)) (arithmetic_links ls)
    (h l.operator (erased_term x) (erased_term (term_form l.operand)))

pub arithmetic-many : {A : Type 0} (g : syntax.Term → A) (a : A) → ((o : Arithmetic) (l r : syntax.Term) → g (syntax.Term.Binary (of_arithmetic o) l r) ≡ a) →
    (first : Box Term Global) (v : Vec ArithmeticLink Global) (x : Term) (b : Bool) → x ≡ term.Arithmetic first v → b ≡ (vec_len v == 0) → b ≡ false → a ≡ g (term_of x)
arithmetic-many g a h first v x b is e f =
    sym (ap (λ y. g (term_of y)) is ∙ ap (λ y. g (erased_term y)) (term-arithmetic first v) ∙ operated-links g a h (term_form (box_value first)) v.items (some-there v b e f))

-- ---- chains of formulas and unions of sets

pub formula-alone : (k : Connective) (first : Box Formula Global) (v : Vec Link Global) (x y : Formula) (b : Bool)
    → x ≡ formula.Chain k first v → b ≡ (vec_len v == 0) → b ≡ true → y ≡ box_value first → formula_of y ≡ formula_of x
formula-alone k first v x y b is e h at =
    ap formula_of at
    ∙ sym (ap formula_of is ∙ ap erased_formula (formula-chain k first v)
    ∙ ap (λ ls. erased_formula (chained (FormulaForm.connected k) (formula_form (box_value first)) ls))
    (no-links link_forms refl v.items (none-there v b e h)))

formula-links : {A : Type 0} (g : model.Formula → A) (a : A) (k : Connective) → ((l r : model.Formula) → g (joined k l r) ≡ a) → (x : FormulaForm) (ls : List Link) → (length ls ≡ 0 → ⊥) →
    g (erased_formula (chained (FormulaForm.connected k) x (link_forms ls))) ≡ a
formula-links g a k h x [] some = absurd (some refl)
formula-links g a k h x (l ∷ ls) some = h (erased_formula x) (erased_formula (chained (FormulaForm.connected k) (formula_form l.operand) (link_forms ls)))

pub formula-many : {A : Type 0} (g : model.Formula → A) (a : A) (k : Connective) → ((l r : model.Formula) → g (joined k l r) ≡ a) →
    (first : Box Formula Global) (v : Vec Link Global) (x : Formula) (b : Bool) → x ≡ formula.Chain k first v → b ≡ (vec_len v == 0) → b ≡ false → a ≡ g (formula_of x)
formula-many g a k h first v x b is e f =
    sym (ap (λ y. g (formula_of y)) is ∙ ap (λ y. g (erased_formula y)) (formula-chain k first v) ∙ formula-links g a k h (formula_form (box_value first)) v.items (some-there v b e f))

pub set-alone : (first : Box StepSet Global) (v : Vec StepSetLink Global) (x y : StepSet) (b : Bool)
    → x ≡ step_set.Union first v → b ≡ (vec_len v == 0) → b ≡ true → y ≡ box_value first → set_of y ≡ set_of x
set-alone first v x y b is e h at =
    ap set_of at
    ∙ sym (ap set_of is ∙ ap erased_steps (set-union first v)
    ∙ ap (λ ls. erased_steps (chained StepSetForm.union (step_set_form (box_value first)) ls))
    (no-links set_links refl v.items (none-there v b e h)))

union-links : {A : Type 0} (g : model.StepSet → A) (a : A) → ((l r : model.StepSet) → g (model.StepSet.Union l r) ≡ a) → (x : StepSetForm) (ls : List StepSetLink) → (length ls ≡ 0 → ⊥) →
    g (erased_steps (chained StepSetForm.union x (set_links ls))) ≡ a
union-links g a h x [] some = absurd (some refl)
union-links g a h x (l ∷ ls) some = h (erased_steps x) (erased_steps (chained StepSetForm.union (step_set_form l.operand) (set_links ls)))

pub set-many : {A : Type 0} (g : model.StepSet → A) (a : A) → ((l r : model.StepSet) → g (model.StepSet.Union l r) ≡ a) →
    (first : Box StepSet Global) (v : Vec StepSetLink Global) (x : StepSet) (b : Bool) → x ≡ step_set.Union first v → b ≡ (vec_len v == 0) → b ≡ false → a ≡ g (set_of x)
set-many g a h first v x b is e f =
    sym (ap (λ y. g (set_of y)) is ∙ ap (λ y. g (erased_steps y)) (set-union first v) ∙ union-links g a h (step_set_form (box_value first)) v.items (some-there v b e f))
