-- The kinds of operands that are joined, and of arguments, as the code meets them.
use Rattle.std.proofs.Common.{◌≡◌, suc, Bool, true, false, ◌&&◌, List, [], ◌∷◌, map, length, get_or, refl, sym, ◌∙◌, ap, arith, Option, Some, None, Vec, Box, Global}
use Rattle.std.specs.Prelude.{box_value}
use Rattle.std.specs.List.{slice_get}
use Rattle.std.proofs.Math.Bool.{and_assoc}
use Rattle.pb_text_tree.specs.declared.operator.Connective.{Connective}
use Rattle.pb_text_tree.specs.declared.operator.Connective.TheVariants as connective
use Rattle.pb_text_tree.specs.declared.operator.Arithmetic.{Arithmetic}
use Rattle.pb_text_tree.specs.declared.operator.Arithmetic.TheVariants as arithmetic
use Rattle.pb_text_tree.specs.declared.name.Name as declared_name
use Rattle.pb_text_tree.specs.declared.term.Term as term
use Rattle.pb_text_tree.specs.declared.term.Term.{Term}
use Rattle.pb_text_tree.specs.declared.term.TermLink.{TermLink}
use Rattle.pb_text_tree.specs.declared.term.ArithmeticLink.{ArithmeticLink}
use Rattle.pb_text_tree.specs.declared.term.Argument.{Argument}
use Rattle.pb_text_tree.specs.Form.{TermForm, named, term_form, term_links, arithmetic_links, argument_forms, chained, calculated}
use Rattle.pb_text_tree.proofs.FormLemmas.{term-chain, term-arithmetic, term-application}
use Rattle.pb_text_meaning.specs.Syntax as syntax
use Rattle.pb_text_meaning.specs.Syntax.{Name, Variable, Operator}
use Rattle.pb_text_meaning.specs.Erase.{of_connective, of_arithmetic, erased_term}
use Rattle.pb_protocol_symmetry.specs.Permutation.{Kind, Element, Plain, kind_of}
use Rattle.pb_protocol_symmetry.specs.Test.{when, is_plain, is_equality, operator_kind, same_kind, are_for, call_kind, choice_kind}
use Rattle.pb_protocol_symmetry.specs.ProtocolTest.{is_kind}
use Rattle.pb_protocol_scalar_sets.specs.Joined.{both_plain, joined_kinds, link_kind, operation_kind}
use Rattle.pb_protocol_scalar_sets.specs.declared.term.Context.{Context}
use Rattle.pb_protocol_scalar_sets.specs.Terms.{term_said, terms_said, called_kind, kinds_at, count_at, body_at}

-- an operator of two values that stay
plain-operator : (o : Operator) → is_equality o ≡ false → (j k : Option Kind) → operator_kind o j k ≡ both_plain j k
plain-operator o h None k = refl
plain-operator o h (Some Plain) None = refl
plain-operator o h (Some Plain) (Some Plain) = refl
plain-operator o h (Some Plain) (Some Element) = refl
plain-operator o h (Some Element) None = refl
plain-operator o h (Some Element) (Some Plain) = refl
plain-operator o h (Some Element) (Some Element) = ap (λ b. when b Plain) h

connective-plain : (c : Connective) → is_equality (of_connective c) ≡ false
connective-plain connective.And = refl
connective-plain connective.Or = refl
connective-plain connective.Implies = refl

arithmetic-plain : (o : Arithmetic) → is_equality (of_arithmetic o) ≡ false
arithmetic-plain arithmetic.Plus = refl
arithmetic-plain arithmetic.Minus = refl
arithmetic-plain arithmetic.Times = refl
arithmetic-plain arithmetic.Div = refl
arithmetic-plain arithmetic.Mod = refl

plain-when : (b : Bool) → is_plain (when b Plain) ≡ b
plain-when true = refl
plain-when false = refl

both-assoc : (a b c : Option Kind) → both_plain a (both_plain b c) ≡ both_plain (both_plain a b) c
both-assoc a b c =
    ap (λ (d : Bool). when (is_plain a && d) Plain) (plain-when (is_plain b && is_plain c))
    ∙ (ap (λ (d : Bool). when d Plain) (sym (and_assoc (is_plain a) (is_plain b) (is_plain c)))
    ∙ ap (λ (d : Bool). when (d && is_plain c) Plain) (sym (plain-when (is_plain a && is_plain b))))

-- an operand before operands that are joined
joined-before : (a b : Option Kind) (ks : List (Option Kind)) → both_plain a (joined_kinds b ks) ≡ joined_kinds (both_plain a b) ks
joined-before a b [] = refl
joined-before a b (k ∷ ks) = joined-before a (both_plain b k) ks ∙ ap (λ (j : Option Kind). joined_kinds j ks) (both-assoc a b k)

module _ (kind : syntax.Term → Option Kind)
    (of-operator : (o : Operator) (x y : syntax.Term) → kind (syntax.Term.Binary o x y) ≡ operator_kind o (kind x) (kind y)) where
  chain-kinds : (c : Connective) (f : TermForm) (ls : List TermLink)
      → kind (erased_term (chained (TermForm.connected c) f (term_links ls))) ≡ joined_kinds (kind (erased_term f)) (map (link_kind kind) ls)
  chain-kinds c f [] = refl
  chain-kinds c f (l ∷ ls) =
      let rest = kind (erased_term (chained (TermForm.connected c) (term_form l.operand) (term_links ls))) in
      of-operator (of_connective c) (erased_term f) (erased_term (chained (TermForm.connected c) (term_form l.operand) (term_links ls)))
      ∙ (plain-operator (of_connective c) (connective-plain c) (kind (erased_term f)) rest
      ∙ (ap (both_plain (kind (erased_term f))) (chain-kinds c (term_form l.operand) ls)
      ∙ joined-before (kind (erased_term f)) (kind (term_said l.operand)) (map (link_kind kind) ls)))

  arithmetic-kinds : (f : TermForm) (ls : List ArithmeticLink)
      → kind (erased_term (calculated f (arithmetic_links ls))) ≡ joined_kinds (kind (erased_term f)) (map (operation_kind kind) ls)
  arithmetic-kinds f [] = refl
  arithmetic-kinds f (l ∷ ls) =
      arithmetic-kinds (TermForm.computed l.operator l.place f (term_form l.operand)) ls
      ∙ ap (λ (j : Option Kind). joined_kinds j (map (operation_kind kind) ls))
      (of-operator (of_arithmetic l.operator) (erased_term f) (term_said l.operand)
      ∙ plain-operator (of_arithmetic l.operator) (arithmetic-plain l.operator) (kind (erased_term f)) (kind (term_said l.operand)))

  -- a chain has the kind of its operands, joined
  pub chain-said : (t x : Term) (c : Connective) (p : Box Term Global) (v : Vec TermLink Global) (ls : List TermLink) → t ≡ term.Chain c p v → x ≡ box_value p → ls ≡ v.items
      → kind (term_said t) ≡ joined_kinds (kind (term_said x)) (map (link_kind kind) ls)
  chain-said t x c p v ls is at same =
      ap (λ u. kind (term_said u)) is ∙ (ap (λ u. kind (erased_term u)) (term-chain c p v) ∙ (chain-kinds c (term_form (box_value p)) v.items
      ∙ (ap (λ ks. joined_kinds (kind (term_said (box_value p))) (map (link_kind kind) ks)) (sym same)
      ∙ ap (λ u. joined_kinds (kind (term_said u)) (map (link_kind kind) ls)) (sym at))))

  pub arithmetic-said : (t x : Term) (p : Box Term Global) (v : Vec ArithmeticLink Global) (ls : List ArithmeticLink) → t ≡ term.Arithmetic p v → x ≡ box_value p → ls ≡ v.items
      → kind (term_said t) ≡ joined_kinds (kind (term_said x)) (map (operation_kind kind) ls)
  arithmetic-said t x p v ls is at same =
      ap (λ u. kind (term_said u)) is ∙ (ap (λ u. kind (erased_term u)) (term-arithmetic p v) ∙ (arithmetic-kinds (term_form (box_value p)) v.items
      ∙ (ap (λ ks. joined_kinds (kind (term_said (box_value p))) (map (operation_kind kind) ks)) (sym same)
      ∙ ap (λ u. joined_kinds (kind (term_said u)) (map (operation_kind kind) ls)) (sym at))))

  pub application-said : (t : Term) (f : declared_name.Name) (v : Vec Argument Global) (es : List Argument) → t ≡ term.Application f v → es ≡ v.items
      → kind (term_said t) ≡ kind (erased_term (TermForm.application (named f) (argument_forms es)))
  application-said t f v es is same =
      ap (λ u. kind (term_said u)) is ∙ (ap (λ u. kind (erased_term u)) (term-application f v)
      ∙ ap (λ ks. kind (erased_term (TermForm.application (named f) (argument_forms ks)))) (sym same))

-- ---- chains with links, and those without

module _ {A : Type 0} (g : syntax.Term → A) (a : A) (h : (o : Operator) (x y : syntax.Term) → g (syntax.Term.Binary o x y) ≡ a) where
  connected-other : (c : Connective) (f : TermForm) (ls : List TermLink) (l : TermLink) → Some l ≡ slice_get ls 0 → a ≡ g (erased_term (chained (TermForm.connected c) f (term_links ls)))
  connected-other c f [] l some = cc
  connected-other c f (m ∷ ls) l some = sym (h (of_connective c) (erased_term f) (erased_term (chained (TermForm.connected c) (term_form m.operand) (term_links ls))))

  calculated-binary : (f : TermForm) (ls : List ArithmeticLink) → g (erased_term f) ≡ a → g (erased_term (calculated f (arithmetic_links ls))) ≡ a
  calculated-binary f [] e = e
  calculated-binary f (m ∷ ls) e = calculated-binary (TermForm.computed m.operator m.place f (term_form m.operand)) ls (h (of_arithmetic m.operator) (erased_term f) (term_said m.operand))

  calculated-other : (f : TermForm) (ls : List ArithmeticLink) (l : ArithmeticLink) → Some l ≡ slice_get ls 0 → a ≡ g (erased_term (calculated f (arithmetic_links ls)))
  calculated-other f [] l some = cc
  calculated-other f (m ∷ ls) l some = sym (calculated-binary (TermForm.computed m.operator m.place f (term_form m.operand)) ls (h (of_arithmetic m.operator) (erased_term f) (term_said m.operand)))

  pub chain-other : (t : Term) (c : Connective) (p : Box Term Global) (v : Vec TermLink Global) (ls : List TermLink) (l : TermLink) → t ≡ term.Chain c p v → ls ≡ v.items → Some l ≡ slice_get ls 0
      → a ≡ g (term_said t)
  chain-other t c p v ls l is same some =
      connected-other c (term_form (box_value p)) v.items l (some ∙ ap (λ ks. slice_get ks 0) same)
      ∙ sym (ap (λ u. g (term_said u)) is ∙ ap (λ u. g (erased_term u)) (term-chain c p v))

  pub arithmetic-other : (t : Term) (p : Box Term Global) (v : Vec ArithmeticLink Global) (ls : List ArithmeticLink) (l : ArithmeticLink)
      → t ≡ term.Arithmetic p v → ls ≡ v.items → Some l ≡ slice_get ls 0 → a ≡ g (term_said t)
  arithmetic-other t p v ls l is same some =
      calculated-other (term_form (box_value p)) v.items l (some ∙ ap (λ ks. slice_get ks 0) same)
      ∙ sym (ap (λ u. g (term_said u)) is ∙ ap (λ u. g (erased_term u)) (term-arithmetic p v))

connected-alone : (c : Connective) (f : TermForm) (ls : List TermLink) → None ≡ slice_get ls 0 → erased_term (chained (TermForm.connected c) f (term_links ls)) ≡ erased_term f
connected-alone c f [] none = refl
connected-alone c f (m ∷ ls) none = cc

calculated-alone : (f : TermForm) (ls : List ArithmeticLink) → None ≡ slice_get ls 0 → erased_term (calculated f (arithmetic_links ls)) ≡ erased_term f
calculated-alone f [] none = refl
calculated-alone f (m ∷ ls) none = cc

pub chain-alone : (t x : Term) (c : Connective) (p : Box Term Global) (v : Vec TermLink Global) (ls : List TermLink) → t ≡ term.Chain c p v → x ≡ box_value p → ls ≡ v.items → None ≡ slice_get ls 0
    → term_said x ≡ term_said t
chain-alone t x c p v ls is at same none =
    ap term_said at
    ∙ sym (ap term_said is ∙ ap erased_term (term-chain c p v) ∙ connected-alone c (term_form (box_value p)) v.items (none ∙ ap (λ ks. slice_get ks 0) same))

pub arithmetic-alone : (t x : Term) (p : Box Term Global) (v : Vec ArithmeticLink Global) (ls : List ArithmeticLink) → t ≡ term.Arithmetic p v → x ≡ box_value p → ls ≡ v.items → None ≡ slice_get ls 0
    → term_said x ≡ term_said t
arithmetic-alone t x p v ls is at same none =
    ap term_said at
    ∙ sym (ap term_said is ∙ ap erased_term (term-arithmetic p v) ∙ calculated-alone (term_form (box_value p)) v.items (none ∙ ap (λ ks. slice_get ks 0) same))

-- ---- arguments

same-either : (j k : Kind) → same_kind j k ≡ same_kind k j
same-either Element Element = refl
same-either Element Plain = refl
same-either Plain Element = refl
same-either Plain Plain = refl

-- of the first argument, and those after it
for-first : (sort : Name) (z : Variable) (zs : List Variable) (k : Option Kind) (ks : List (Option Kind))
    → are_for sort (z ∷ zs) (k ∷ ks) ≡ (is_kind (kind_of sort z.sort) k && are_for sort zs ks)
for-first sort z zs None ks = refl
for-first sort z zs (Some k) ks = ap (λ b. b && are_for sort zs ks) (same-either (kind_of sort z.sort) k)

pub for-other : (sort : Name) (zs : List Variable) (ks : List (Option Kind)) → (length zs ≡ length ks → ⊥) → are_for sort zs ks ≡ false
for-other sort [] [] other = absurd (other refl)
for-other sort [] (k ∷ ks) other = refl
for-other sort (z ∷ zs) [] other = refl
for-other sort (z ∷ zs) (k ∷ ks) other =
    for-first sort z zs k ks ∙ (ap (λ b. is_kind (kind_of sort z.sort) k && b) (for-other sort zs ks (λ e. other (ap suc e))) ∙ and-false (is_kind (kind_of sort z.sort) k))
  where
    and-false : (b : Bool) → (b && false) ≡ false
    and-false true = refl
    and-false false = refl

pub called-call : (sort : Name) (zs : List Variable) (k : Option Kind) (ks : List (Option Kind)) → called_kind zs (are_for sort zs ks) k ≡ call_kind sort zs k ks
called-call sort [] k ks = refl
called-call sort (z ∷ zs) k ks = refl

-- ---- how many arguments

module _ (c : Context) (scope : List Variable) where
  pub length-kinds : (es : List Argument) → length (kinds_at c scope (terms_said es)) ≡ length es
  length-kinds [] = refl
  length-kinds (e ∷ es) = ap suc (length-kinds es)

  -- a choice has three
  pub no-choice : (es : List Argument) → (length es ≡ 3 → ⊥) → None ≡ choice_kind (kinds_at c scope (terms_said es))
  no-choice [] other = refl
  no-choice (d ∷ []) other = refl
  no-choice (d ∷ e ∷ []) other = refl
  no-choice (d ∷ e ∷ f ∷ []) other = absurd (other refl)
  no-choice (d ∷ e ∷ f ∷ g ∷ es) other = refl

  -- and a count has one
  pub no-count : (es : List Argument) → (length es ≡ 1 → ⊥) → None ≡ count_at c scope (terms_said es)
  no-count [] other = refl
  no-count (d ∷ []) other = absurd (other refl)
  no-count (d ∷ e ∷ es) other = refl

pub one-count : (c : Context) (scope : List Variable) (es : List Argument) (e : Argument) → length es ≡ 1 → e ≡ get_or es 0 e → body_at c scope (term_said e.term) ≡ count_at c scope (terms_said es)
one-count c scope [] e one at = absurd (omega (arith, one))
one-count c scope (d ∷ []) e one at = ap (λ (u : Argument). body_at c scope (term_said u.term)) at
one-count c scope (d ∷ f ∷ es) e one at = absurd (omega (arith, one))
