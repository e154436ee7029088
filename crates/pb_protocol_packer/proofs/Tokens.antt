-- Chains without links are their operand, and those with links are no token.
use Rattle.std.proofs.Common.{◌≡◌, Bool, true, false, ◌&&◌, ◌⊎◌, inl, inr, if◌then◌else◌, arith, List, [], ◌∷◌, length, refl, sym, ap, ◌∙◌, Vec, Global, Box}
use Rattle.std.specs.Prelude.{box_value, Some, None, codes}
use Rattle.std.specs.List.{slice_get}
use Rattle.pb_text_tree.specs.declared.operator.Connective.{Connective}
use Rattle.pb_text_tree.specs.declared.operator.Connective.TheVariants as connective
use Rattle.pb_text_tree.specs.declared.operator.Arithmetic.{Arithmetic}
use Rattle.pb_text_tree.specs.declared.operator.Arithmetic.TheVariants as operator
use Rattle.pb_text_tree.specs.declared.term.Term as tree
use Rattle.pb_text_tree.specs.declared.term.TermLink.{TermLink}
use Rattle.pb_text_tree.specs.declared.term.ArithmeticLink.{ArithmeticLink}
use Rattle.pb_text_tree.specs.declared.term.Argument.{Argument}
use Rattle.pb_text_meaning.specs.Syntax.{Name, same_name, Operator, Term}
use Rattle.pb_text_meaning.specs.Erase.{of_connective, of_arithmetic}
use Rattle.pb_protocol_packing.specs.Numbers.{is_truth, is_enumerator, either, place_of, place_number}
use Rattle.pb_protocol_packer.specs.View.{term_of, operand_of, operands_of, operations_of, terms_of, joined_terms, calculated_terms, chooses, chosen_place}
use Rattle.pb_protocol_packer.specs.Written.{Written, written_in}
use Rattle.pb_protocol_packer.proofs.Nodes.{at-chain, at-arithmetic}

pub alone : (c : Connective) (x : tree.Term) (p : Box tree.Term Global) (v : Vec TermLink Global) (ls : List TermLink) (t : tree.Term) → t ≡ tree.Chain c p v → x ≡ box_value p → ls ≡ v.items
    → None ≡ slice_get ls 0 → term_of t ≡ term_of x
alone c x p v [] t is at same none = at-chain c x p v [] t is at same
alone c x p v (l ∷ ls) t is at same none = cc

pub alone-computed : (x : tree.Term) (p : Box tree.Term Global) (v : Vec ArithmeticLink Global) (ls : List ArithmeticLink) (t : tree.Term) → t ≡ tree.Arithmetic p v → x ≡ box_value p → ls ≡ v.items
    → None ≡ slice_get ls 0 → term_of t ≡ term_of x
alone-computed x p v [] t is at same none = at-arithmetic x p v [] t is at same
alone-computed x p v (l ∷ ls) t is at same none = cc

-- ---- with links

gives-truth : (c : Connective) (x y : Term) → is_truth (Term.Binary (of_connective c) x y) ≡ true
gives-truth connective.And x y = refl
gives-truth connective.Or x y = refl
gives-truth connective.Implies x y = refl

gives-number : (o : Arithmetic) (x y : Term) → is_truth (Term.Binary (of_arithmetic o) x y) ≡ false
gives-number operator.Plus x y = refl
gives-number operator.Minus x y = refl
gives-number operator.Times x y = refl
gives-number operator.Div x y = refl
gives-number operator.Mod x y = refl

computed-number : (o : Arithmetic) (x y : Term) (ls : List ArithmeticLink) → is_truth (calculated_terms (Term.Binary (of_arithmetic o) x y) (operations_of ls)) ≡ false
computed-number o x y [] = gives-number o x y
computed-number o x y (l ∷ ls) = computed-number l.operator (Term.Binary (of_arithmetic o) x y) (term_of l.operand) ls

computed-other : (o : Arithmetic) (x y : Term) (ls : List ArithmeticLink) → written_in (calculated_terms (Term.Binary (of_arithmetic o) x y) (operations_of ls)) ≡ Written.Other
computed-other o x y [] = refl
computed-other o x y (l ∷ ls) = computed-other l.operator (Term.Binary (of_arithmetic o) x y) (term_of l.operand) ls

pub several : (c : Connective) (p : Box tree.Term Global) (v : Vec TermLink Global) (ls : List TermLink) (l : TermLink) (t : tree.Term) → t ≡ tree.Chain c p v → ls ≡ v.items
    → Some l ≡ slice_get ls 0 → (written_in (term_of t) ≡ Written.Other) × (is_truth (term_of t) ≡ true)
several c p v [] l t is same some = cc
several c p v (k ∷ ls) l t is same some =
    let said = at-chain c (box_value p) p v (k ∷ ls) t is refl same in (
      ap written_in said,
      ap is_truth said ∙ gives-truth c (term_of (box_value p)) (joined_terms (of_connective c) (operand_of k) (operands_of ls)),
    )

pub several-computed : (p : Box tree.Term Global) (v : Vec ArithmeticLink Global) (ls : List ArithmeticLink) (l : ArithmeticLink) (t : tree.Term) → t ≡ tree.Arithmetic p v → ls ≡ v.items
    → Some l ≡ slice_get ls 0 → (written_in (term_of t) ≡ Written.Other) × (is_truth (term_of t) ≡ false)
several-computed p v [] l t is same some = cc
several-computed p v (k ∷ ls) l t is same some =
    let said = at-arithmetic (box_value p) p v (k ∷ ls) t is refl same in (
      ap written_in said ∙ computed-other k.operator (term_of (box_value p)) (term_of k.operand) ls,
      ap is_truth said ∙ computed-number k.operator (term_of (box_value p)) (term_of k.operand) ls,
    )

-- what a function gives for each operator it gives for rows of operands
module _ {A : Type 0} (G H : Term → A) (says : (o : Operator) (x y : Term) → G (Term.Binary o x y) ≡ H (Term.Binary o x y)) where
  computed-rows : (o : Operator) (x y : Term) (ls : List ArithmeticLink) → G (calculated_terms (Term.Binary o x y) (operations_of ls)) ≡ H (calculated_terms (Term.Binary o x y) (operations_of ls))
  computed-rows o x y [] = says o x y
  computed-rows o x y (l ∷ ls) = computed-rows (of_arithmetic l.operator) (Term.Binary o x y) (term_of l.operand) ls

  pub chain-as : (c : Connective) (p : Box tree.Term Global) (v : Vec TermLink Global) (ls : List TermLink) (l : TermLink) (t : tree.Term) → t ≡ tree.Chain c p v → ls ≡ v.items
      → Some l ≡ slice_get ls 0 → G (term_of t) ≡ H (term_of t)
  chain-as c p v [] l t is same some = cc
  chain-as c p v (k ∷ ls) l t is same some =
      let said = at-chain c (box_value p) p v (k ∷ ls) t is refl same in
      ap G said ∙ says (of_connective c) (term_of (box_value p)) (joined_terms (of_connective c) (operand_of k) (operands_of ls)) ∙ sym (ap H said)

  pub computed-as : (p : Box tree.Term Global) (v : Vec ArithmeticLink Global) (ls : List ArithmeticLink) (l : ArithmeticLink) (t : tree.Term) → t ≡ tree.Arithmetic p v → ls ≡ v.items
      → Some l ≡ slice_get ls 0 → G (term_of t) ≡ H (term_of t)
  computed-as p v [] l t is same some = cc
  computed-as p v (k ∷ ls) l t is same some =
      let said = at-arithmetic (box_value p) p v (k ∷ ls) t is refl same in
      ap G said ∙ computed-rows (of_arithmetic k.operator) (term_of (box_value p)) (term_of k.operand) ls ∙ sym (ap H said)

-- ---- `if`

pub not-three : (test : Term → Bool) (xs : List Argument) → (length xs ≡ 3 → ⊥) → false ≡ chooses test (terms_of xs)
not-three test [] h = refl
not-three test (a ∷ []) h = refl
not-three test (a ∷ b ∷ []) h = refl
not-three test (a ∷ b ∷ d ∷ []) h = absurd (h refl)
not-three test (a ∷ b ∷ d ∷ e ∷ xs) h = refl

pub truth-choice : (f : Name) (xs : List Argument) → same_name f (codes "if") ≡ true → chooses is_truth (terms_of xs) ≡ is_truth (Term.Apply f (terms_of xs))
truth-choice f [] h = refl
truth-choice f (a ∷ []) h = refl
truth-choice f (a ∷ b ∷ []) h = refl
truth-choice f (a ∷ b ∷ d ∷ []) h = ap (λ (q : Bool). q && (is_truth (term_of b.term) && is_truth (term_of d.term))) (sym h)
truth-choice f (a ∷ b ∷ d ∷ e ∷ xs) h = refl

pub enumerator-choice : (es : List Name) (f : Name) (xs : List Argument) → same_name f (codes "if") ≡ true → chooses (is_enumerator es) (terms_of xs) ≡ is_enumerator es (Term.Apply f (terms_of xs))
enumerator-choice es f [] h = refl
enumerator-choice es f (a ∷ []) h = refl
enumerator-choice es f (a ∷ b ∷ []) h = refl
enumerator-choice es f (a ∷ b ∷ d ∷ []) h = ap (λ (q : Bool). q && (is_enumerator es (term_of b.term) && is_enumerator es (term_of d.term))) (sym h)
enumerator-choice es f (a ∷ b ∷ d ∷ e ∷ xs) h = refl

pub place-choice : (es : List Name) (f : Name) (xs : List Argument) → same_name f (codes "if") ≡ true → length xs ≡ 3 → chosen_place es (terms_of xs) ≡ place_number es (Term.Apply f (terms_of xs))
place-choice es f [] h three = absurd (omega (arith, three))
place-choice es f (a ∷ []) h three = absurd (omega (arith, three))
place-choice es f (a ∷ b ∷ []) h three = absurd (omega (arith, three))
place-choice es f (a ∷ b ∷ d ∷ []) h three =
    let whole = Term.Apply f (terms_of (a ∷ b ∷ d ∷ [])) in
    ap (λ (q : Bool). if q then either (term_of a.term) (place_number es (term_of b.term)) (place_number es (term_of d.term)) else place_of 0 es whole) (sym h)
place-choice es f (a ∷ b ∷ d ∷ e ∷ xs) h three = absurd (omega (arith, three))

-- and otherwise it is found by tests
pub place-no-choice : (es : List Name) (f : Name) (xs : List Argument)
    → (same_name f (codes "if") ≡ false) ⊎ (length xs ≡ 3 → ⊥)
    → place_of 0 es (Term.Apply f (terms_of xs)) ≡ place_number es (Term.Apply f (terms_of xs))
place-no-choice es f [] h = refl
place-no-choice es f (a ∷ []) h = refl
place-no-choice es f (a ∷ b ∷ []) h = refl
place-no-choice es f (a ∷ b ∷ d ∷ []) (inl h) =
    let whole = Term.Apply f (terms_of (a ∷ b ∷ d ∷ [])) in
    ap (λ (q : Bool). if q then either (term_of a.term) (place_number es (term_of b.term)) (place_number es (term_of d.term)) else place_of 0 es whole) (sym h)
place-no-choice es f (a ∷ b ∷ d ∷ []) (inr h) = absurd (h refl)
place-no-choice es f (a ∷ b ∷ d ∷ e ∷ xs) h = refl
