-- A chain of terms as a guard: where it is cut a formula stands behind its operands one by one, and else behind the whole.
use Rattle.std.proofs.Common.{◌≡◌, Bool, true, false, List, [], ◌∷◌, length, refl, ap, ◌∙◌, sym, arith, Vec, Global, Box}
use Rattle.std.specs.Prelude.{box_value}
use Rattle.pb_text_tree.specs.declared.place.Place.{Place}
use Rattle.pb_text_tree.specs.declared.operator.Connective.{Connective}
use Rattle.pb_text_tree.specs.declared.operator.Connective.TheVariants.{And, Or, Implies}
use Rattle.pb_text_tree.specs.declared.operator.Arithmetic.{Arithmetic}
use Rattle.pb_text_tree.specs.declared.term.Term as term
use Rattle.pb_text_tree.specs.declared.term.Term.{Term}
use Rattle.pb_text_tree.specs.declared.term.TermLink.{TermLink}
use Rattle.pb_text_tree.specs.declared.term.ArithmeticLink.{ArithmeticLink}
use Rattle.pb_text_tree.specs.Form.{TermForm, FormulaForm, term_form, term_links, arithmetic_links, chained, calculated}
use Rattle.pb_text_tree.proofs.FormLemmas.{term-chain, term-arithmetic}
use Rattle.pb_model_translation.specs.Placed.{behind_form}
use Rattle.pb_model_modalities.specs.Guard.{is_cut, negates_first, signed_term, operand_sign, behind_operands}

-- a formula behind a guard that stays whole
abbrev pub behind_whole : Connective → Place → Bool → TermForm → FormulaForm → FormulaForm
behind_whole c p negated x f = FormulaForm.connected c p (FormulaForm.val p (signed_term p negated x)) f

-- ---- chains of a connective

cut-two : (c k : Connective) (p q : Place) (negated : Bool) (x y : TermForm) (f : FormulaForm) → is_cut k negated ≡ true
    → behind_form c p negated (TermForm.connected k q x y) f ≡ behind_form c q (negates_first k) x (behind_form c q negated y f)
cut-two c And p q false x y f e = refl
cut-two c And p q true x y f e = absurd (cc e)
cut-two c Or p q true x y f e = refl
cut-two c Or p q false x y f e = absurd (cc e)
cut-two c Implies p q true x y f e = refl
cut-two c Implies p q false x y f e = absurd (cc e)

whole-two : (c k : Connective) (p q : Place) (negated : Bool) (x y : TermForm) (f : FormulaForm) → is_cut k negated ≡ false
    → behind_form c p negated (TermForm.connected k q x y) f ≡ behind_whole c p negated (TermForm.connected k q x y) f
whole-two c And p q false x y f e = absurd (cc e)
whole-two c And p q true x y f e = refl
whole-two c Or p q true x y f e = absurd (cc e)
whole-two c Or p q false x y f e = refl
whole-two c Implies p q true x y f e = absurd (cc e)
whole-two c Implies p q false x y f e = refl

cut-links : (c k : Connective) (p : Place) (negated : Bool) (x : TermForm) (ls : List (Place × TermForm)) (f : FormulaForm) → is_cut k negated ≡ true
    → behind_form c p negated (chained (TermForm.connected k) x ls) f ≡ behind_operands c negated (negates_first k) ((p, x) ∷ ls) f
cut-links c k p negated x [] f e = refl
cut-links c k p negated x (l ∷ ls) f e =
    cut-two c k p l.0 negated x (chained (TermForm.connected k) l.1 ls) f e ∙ ap (behind_form c l.0 (negates_first k) x) (cut-links c k l.0 negated l.1 ls f e)

whole-links : (c k : Connective) (p : Place) (negated : Bool) (x : TermForm) (ls : List (Place × TermForm)) (f : FormulaForm) → is_cut k negated ≡ false → (ls ≡ [] → ⊥)
    → behind_form c p negated (chained (TermForm.connected k) x ls) f ≡ behind_whole c p negated (chained (TermForm.connected k) x ls) f
whole-links c k p negated x [] f e some = absurd (some refl)
whole-links c k p negated x (l ∷ ls) f e some = whole-two c k p l.0 negated x (chained (TermForm.connected k) l.1 ls) f e

links-there : (ls : List TermLink) → (length ls ≡ 0 → ⊥) → term_links ls ≡ [] → ⊥
links-there [] some e = some refl
links-there (l ∷ ls) some e = absurd (cc e)

no-links : (ls : List TermLink) → length ls ≡ 0 → term_links ls ≡ []
no-links [] e = refl
no-links (l ∷ ls) e = absurd (omega arith)

-- as the code meets them
at-cut : (c k : Connective) (p : Place) (negated : Bool) (first : Box Term Global) (v : Vec TermLink Global) (x : Term) (f : FormulaForm) → x ≡ term.Chain k first v → is_cut k negated ≡ true
    → behind_form c p negated (term_form x) f ≡ behind_operands c negated (negates_first k) ((p, term_form (box_value first)) ∷ term_links v.items) f
at-cut c k p negated first v x f is cut =
    ap (λ (y : Term). behind_form c p negated (term_form y) f) is
    ∙ ap (λ (y : TermForm). behind_form c p negated y f) (term-chain k first v) ∙ cut-links c k p negated (term_form (box_value first)) (term_links v.items) f cut

-- the first operand with the formula behind the others
pub at-first : (c k : Connective) (p : Place) (negated : Bool) (first : Box Term Global) (v : Vec TermLink Global) (x : Term) (f : FormulaForm) → x ≡ term.Chain k first v → is_cut k negated ≡ true
    → (others : Bool) → others ≡ negates_first k → (rest links : List TermLink) → rest ≡ v.items → links ≡ v.items
    → (d : Connective) → d ≡ c → (q : Place) (m : Bool) → (q, m) ≡ operand_sign negated others p (term_links links)
    → (y : Term) → y ≡ box_value first → (g : FormulaForm) → g ≡ behind_operands c negated others (term_links rest) f
    → behind_form d q m (term_form y) g ≡ behind_form c p negated (term_form x) f
at-first c k p negated first v x f is cut others so rest links those these d same q m sign y at g behind =
    let signed : Bool → List TermLink → TermForm → FormulaForm → FormulaForm = λ o ls z h.
    behind_form c (operand_sign negated o p (term_links ls)).0 (operand_sign negated o p (term_links ls)).1 z h in
    let after : Bool → List TermLink → FormulaForm = λ o ls. behind_operands c negated o (term_links ls) f in
    let head : TermForm = term_form (box_value first) in
    ap (λ (e : Connective). behind_form e q m (term_form y) g) same
    ∙ ap (λ (s : Place × Bool). behind_form c s.0 s.1 (term_form y) g) sign
    ∙ ap (λ (z : Term). signed others links (term_form z) g) at
    ∙ ap (signed others links head) behind
    ∙ ap (λ (ls : List TermLink). signed others links head (after others ls)) those
    ∙ ap (λ (ls : List TermLink). signed others ls head (after others v.items)) these
    ∙ ap (λ (o : Bool). signed o v.items head (after o v.items)) so
    ∙ sym (at-cut c k p negated first v x f is cut)

pub at-whole : (c k : Connective) (p : Place) (negated : Bool) (first : Box Term Global) (v : Vec TermLink Global) (x : Term) (f : FormulaForm) → x ≡ term.Chain k first v → is_cut k negated ≡ false
    → (length v.items ≡ 0 → ⊥) → behind_form c p negated (term_form x) f ≡ behind_whole c p negated (term_form x) f
at-whole c k p negated first v x f is whole some =
    let said : term_form x ≡ chained (TermForm.connected k) (term_form (box_value first)) (term_links v.items) = ap term_form is ∙ term-chain k first v in
    ap (λ (y : TermForm). behind_form c p negated y f) said
    ∙ whole-links c k p negated (term_form (box_value first)) (term_links v.items) f whole (links-there v.items some)
    ∙ ap (λ (y : TermForm). behind_whole c p negated y f) (sym said)

pub alone-said : (k : Connective) (first : Box Term Global) (v : Vec TermLink Global) (x : Term) → x ≡ term.Chain k first v → length v.items ≡ 0 → term_form x ≡ term_form (box_value first)
alone-said k first v x is none = ap term_form is ∙ term-chain k first v ∙ ap (chained (TermForm.connected k) (term_form (box_value first))) (no-links v.items none)

-- ---- chains of arithmetic

computed-whole : (c : Connective) (p : Place) (negated : Bool) (o : Arithmetic) (q : Place) (x y : TermForm) (ls : List (Arithmetic × Place × TermForm)) (f : FormulaForm) →
    behind_form c p negated (calculated (TermForm.computed o q x y) ls) f ≡ behind_whole c p negated (calculated (TermForm.computed o q x y) ls) f
computed-whole c p false o q x y [] f = refl
computed-whole c p true o q x y [] f = refl
computed-whole c p negated o q x y (l ∷ ls) f = computed-whole c p negated l.0 l.1 (TermForm.computed o q x y) l.2 ls f

calculated-whole : (c : Connective) (p : Place) (negated : Bool) (x : TermForm) (ls : List ArithmeticLink) (f : FormulaForm) → (length ls ≡ 0 → ⊥) →
    behind_form c p negated (calculated x (arithmetic_links ls)) f ≡ behind_whole c p negated (calculated x (arithmetic_links ls)) f
calculated-whole c p negated x [] f some = absurd (some refl)
calculated-whole c p negated x (l ∷ ls) f some = computed-whole c p negated l.operator l.place x (term_form l.operand) (arithmetic_links ls) f

no-operations : (ls : List ArithmeticLink) → length ls ≡ 0 → arithmetic_links ls ≡ []
no-operations [] e = refl
no-operations (l ∷ ls) e = absurd (omega arith)

pub at-arithmetic : (c : Connective) (p : Place) (negated : Bool) (first : Box Term Global) (v : Vec ArithmeticLink Global) (x : Term) (f : FormulaForm) → x ≡ term.Arithmetic first v
    → (length v.items ≡ 0 → ⊥) → behind_form c p negated (term_form x) f ≡ behind_whole c p negated (term_form x) f
at-arithmetic c p negated first v x f is some =
    let said : term_form x ≡ calculated (term_form (box_value first)) (arithmetic_links v.items) = ap term_form is ∙ term-arithmetic first v in
    ap (λ (y : TermForm). behind_form c p negated y f) said
    ∙ calculated-whole c p negated (term_form (box_value first)) v.items f some
    ∙ ap (λ (y : TermForm). behind_whole c p negated y f) (sym said)

pub alone-calculated : (first : Box Term Global) (v : Vec ArithmeticLink Global) (x : Term) → x ≡ term.Arithmetic first v → length v.items ≡ 0 → term_form x ≡ term_form (box_value first)
alone-calculated first v x is none = ap term_form is ∙ term-arithmetic first v ∙ ap (calculated (term_form (box_value first))) (no-operations v.items none)
