-- What fits in the text fits in the typed tree.
use Rattle.std.proofs.Common.{◌≡◌, ℕ, zero, suc, ◌+◌, ◌<◌, ◌≤◌, pos, Bool, true, false, ◌||◌, if◌then◌else◌, List, [], ◌∷◌, ◌++◌, length, Option, Some, None, refl, sym, ◌∙◌, ap, subst, arith, true≢false, length-append}
use Rattle.std.specs.Prelude.{⊤}
use Rattle.std.proofs.lemmas.Bool.{ne_eqb}
use Rattle.pb_base_values.specs.Carrier.{Value, Carrier, contains}
use Rattle.pb_text_meaning.specs.Syntax as syntax
use Rattle.pb_text_meaning.specs.Syntax.{Name, same_name, Variable, Operator, Terms, Equation, Spec}
use Rattle.pb_text_meaning.specs.declared.function.NamedFunction.{NamedFunction}
use Rattle.pb_text_meaning.specs.declared.function.NamedFunction.TheVariants.{If, Succ, Pred, Abs, Max, Min, Pos2Nat, Pos2Int, Nat2Int}
use Rattle.pb_text_meaning.specs.Functions.{named_function}
use Rattle.pb_text_meaning.specs.Value.{Assignment}
use Rattle.pb_text_meaning.specs.Fits as text
use Rattle.pb_text_meaning.specs.Fits.{IsBounded, DivisorFits, FitsFor}
use Rattle.pb_text_tree.specs.declared.operator.Quantifier.{Quantifier}
use Rattle.pb_typing_declarations.specs.Enumerators.{Position, enumerator_of, recogniser_of}
use Rattle.pb_typing_rules.specs.Scope.{Scope, bound}
use Rattle.pb_typing_tree.specs.Tree.{Term, Formula}
use Rattle.pb_typing_tree.specs.Meaning.{Slots, set, value}
use Rattle.pb_typing_tree.specs.Elaboration as made
use Rattle.pb_typing_tree.specs.Elaboration.{Slotting, with_slot, applied_to_one, applied_to_two, applied_to_three, applied, slotted, slotted_all, width, each, arguments, place_of}
use Rattle.pb_typing_tree.specs.Expansion.{has_quantifier, have_quantifier, connected, expanded_term, expanded}
use Rattle.pb_typing_tree.specs.Plain.{IsPlain, AreFree, Agree}
use Rattle.pb_typing_tree.specs.Fits.{Fits, AllFit, FormulaFits, AreClear}
use Rattle.pb_typing_tree.proofs.Slotted.{slotted-value, neither-left, neither-right}
use Rattle.pb_typing_tree.proofs.Truth.{HasCarriers, more-free, free-with, agree-with}

-- ---- names and functions

enumerator-fits : (n : ℕ) (a : Slots) (o : Option Position) → IsBounded (value a (made.term_of_enumerator o)) → Fits n a (made.term_of_enumerator o)
enumerator-fits n a None b = b
enumerator-fits n a (Some p) b = b

named-fits : (spec : Spec) (n : ℕ) (a : Slots) (o : Option ℕ) (x : Name) → ((s : ℕ) → o ≡ Some s → s < n) → IsBounded (value a (made.term_of_name spec o x)) → Fits n a (made.term_of_name spec o x)
named-fits spec n a (Some s) x below b = (below s refl, b)
named-fits spec n a None x below b = enumerator-fits n a (enumerator_of spec x) b

recognised-fits : (n : ℕ) (a : Slots) (o : Option Position) (x : Term) → Fits n a x → Fits n a (made.recognised o x)
recognised-fits n a None x f = tt
recognised-fits n a (Some p) x f = f

one-fits : (spec : Spec) (n : ℕ) (a : Slots) (f : Name) (g : Option NamedFunction) (x : Term) → Fits n a x → IsBounded (value a (applied_to_one spec f g x)) → Fits n a (applied_to_one spec f g x)
one-fits spec n a f (Some If) x h b = b
one-fits spec n a f (Some Succ) x h b = (h, b)
one-fits spec n a f (Some Pred) x h b = (h, b)
one-fits spec n a f (Some Abs) x h b = (h, b)
one-fits spec n a f (Some Max) x h b = b
one-fits spec n a f (Some Min) x h b = b
one-fits spec n a f (Some Pos2Nat) x h b = h
one-fits spec n a f (Some Pos2Int) x h b = h
one-fits spec n a f (Some Nat2Int) x h b = h
one-fits spec n a f None x h b = recognised-fits n a (recogniser_of spec f) x h

two-fits : (n : ℕ) (a : Slots) (g : Option NamedFunction) (x y : Term) → Fits n a x → Fits n a y → IsBounded (value a (applied_to_two g x y)) → Fits n a (applied_to_two g x y)
two-fits n a (Some If) x y h k b = b
two-fits n a (Some Succ) x y h k b = b
two-fits n a (Some Pred) x y h k b = b
two-fits n a (Some Abs) x y h k b = b
two-fits n a (Some Max) x y h k b = (h, k)
two-fits n a (Some Min) x y h k b = (h, k)
two-fits n a (Some Pos2Nat) x y h k b = b
two-fits n a (Some Pos2Int) x y h k b = b
two-fits n a (Some Nat2Int) x y h k b = b
two-fits n a None x y h k b = b

three-fits : (n : ℕ) (a : Slots) (g : Option NamedFunction) (x y z : Term) → Fits n a x → Fits n a y → Fits n a z → IsBounded (value a (applied_to_three g x y z)) → Fits n a (applied_to_three g x y z)
three-fits n a (Some If) x y z h k l b = (h, k, l)
three-fits n a (Some Succ) x y z h k l b = b
three-fits n a (Some Pred) x y z h k l b = b
three-fits n a (Some Abs) x y z h k l b = b
three-fits n a (Some Max) x y z h k l b = b
three-fits n a (Some Min) x y z h k l b = b
three-fits n a (Some Pos2Nat) x y z h k l b = b
three-fits n a (Some Pos2Int) x y z h k l b = b
three-fits n a (Some Nat2Int) x y z h k l b = b
three-fits n a None x y z h k l b = b

abbrev TermsFit : ℕ → Slots → List Term → Type 0
TermsFit n a [] = ⊤
TermsFit n a (x ∷ xs) = Fits n a x × TermsFit n a xs

applied-fits : (spec : Spec) (n : ℕ) (a : Slots) (f : Name) (xs : List Term) → TermsFit n a xs → IsBounded (value a (applied spec f xs)) → Fits n a (applied spec f xs)
applied-fits spec n a f [] h b = b
applied-fits spec n a f (x ∷ []) h b = one-fits spec n a f (named_function f) x h.0 b
applied-fits spec n a f (x ∷ y ∷ []) h b = two-fits n a (named_function f) x y h.0 h.1.0 b
applied-fits spec n a f (x ∷ y ∷ z ∷ []) h b = three-fits n a (named_function f) x y z h.0 h.1.0 h.1.1.0 b
applied-fits spec n a f (x ∷ y ∷ z ∷ w ∷ ws) h b = b

-- ---- terms

mutual
  pub slotted-fits : (spec : Spec) (c : Slotting) (n : ℕ) (a : Slots) (g : Assignment) → AreFree c n → Agree c a g
      → (x : syntax.Term) → has_quantifier x ≡ false → text.Fits spec g x → Fits n a (slotted spec c x)
  slotted-fits spec c n a g free agree (syntax.Term.Truth b) e f = tt
  slotted-fits spec c n a g free agree (syntax.Term.Number k) e f = f
  slotted-fits spec c n a g free agree (syntax.Term.Named x) e f =
      named-fits spec n a (c x) x (free x) (subst IsBounded (sym (slotted-value spec c a g agree (syntax.Term.Named x) e)) f)
  slotted-fits spec c n a g free agree (syntax.Term.Not x) e f = slotted-fits spec c n a g free agree x e f
  slotted-fits spec c n a g free agree (syntax.Term.Negative x) e f =
      (slotted-fits spec c n a g free agree x e f.0, subst IsBounded (sym (slotted-value spec c a g agree (syntax.Term.Negative x) e)) f.1)
  slotted-fits spec c n a g free agree (syntax.Term.Binary o x y) e f =
      let right = neither-right (has_quantifier x) (has_quantifier y) e in (
        slotted-fits spec c n a g free agree x (neither-left (has_quantifier x) (has_quantifier y) e) f.0,
        slotted-fits spec c n a g free agree y right f.1,
        subst (DivisorFits o) (sym (slotted-value spec c a g agree y right)) f.2,
        subst IsBounded (sym (slotted-value spec c a g agree (syntax.Term.Binary o x y) e)) f.3,
      )
  slotted-fits spec c n a g free agree (syntax.Term.Apply h xs) e f =
      applied-fits spec n a h (slotted_all spec c xs) (all-fit spec c n a g free agree xs e f.0)
      (subst IsBounded (sym (slotted-value spec c a g agree (syntax.Term.Apply h xs) e)) f.1)
  slotted-fits spec c n a g free agree (syntax.Term.Quantified q xs x) e f = absurd (true≢false e)

  all-fit : (spec : Spec) (c : Slotting) (n : ℕ) (a : Slots) (g : Assignment) → AreFree c n → Agree c a g → (xs : Terms)
      → have_quantifier xs ≡ false → text.AllFit spec g xs → TermsFit n a (slotted_all spec c xs)
  all-fit spec c n a g free agree Terms.NoTerms e f = tt
  all-fit spec c n a g free agree (Terms.Then x xs) e f = (
    slotted-fits spec c n a g free agree x (neither-left (has_quantifier x) (have_quantifier xs) e) f.0,
    all-fit spec
        c n a g free agree xs (neither-right (has_quantifier x) (have_quantifier xs) e) f.1,
  )

-- ---- slots

clear-with : (n : ℕ) (a : Slots) (v : Value) → AreClear n a → AreClear (suc n) (set a n v)
clear-with n a v clear s le = ap (λ b. if b then v else a s) (ne_eqb s n (λ e. omega (arith, e, le))) ∙ clear s (omega (arith, le))

pub more-clear : (n m : ℕ) (a : Slots) → n ≤ m → AreClear n a → AreClear m a
more-clear n m a le clear s over = clear s (omega (arith, le, over))

-- ---- quantifiers

-- what a body has to do under each assignment, in a scope and with w free slots
abbrev HasFits : ℕ → ℕ → (Assignment → Type 0) → ℕ → (Slotting → ℕ → Formula) → Type 0
HasFits k m P w body = (c : Slotting) (n : ℕ) (a : Slots) (g : Assignment) → AreFree c n → Agree c a g → AreClear n a → n + w ≤ m → P g → FormulaFits k m a (body c n)

each-fits : (spec : Spec) (k m : ℕ) (q : Quantifier) (xs : List Variable) (P : Assignment → Type 0) (w : ℕ) (body : Slotting → ℕ → Formula) → HasCarriers spec → HasFits k m P w body
    → HasFits k m (FitsFor spec xs P) (length xs + w) (λ c n. each spec q xs c n body)
each-fits spec k m q [] P w body carriers says c n a g free agree clear room f = says c n a g free agree clear (omega (arith, room)) f
each-fits spec k m q (x ∷ xs) P w body carriers says c n a g free agree clear room f = (
  omega (arith, room),
  clear n (omega arith),
  λ v has. each-fits spec k m q xs P w body carriers says (with_slot x.name n c) (suc n) (set a n v) ((x.name, v) ∷ g) (free-with c n x.name free)
      (agree-with c n a g x.name v free agree) (clear-with n a v clear) (omega (arith, room)) (f v (ap (λ (vs : Carrier). contains vs v) (carriers x.sort) ∙ has)),
)

-- ---- calls

abbrev IsUnder : ℕ → Option ℕ → Type 0
IsUnder m None = ⊤
IsUnder m (Some k) = k < m

choose-under : (m n : ℕ) (b : Bool) (o : Option ℕ) → n < m → IsUnder m o → IsUnder m (if b then Some n else o)
choose-under m n true o lt h = lt
choose-under m n false o lt h = h

place-under : (m n : ℕ) (E : List Equation) (x : Name) → m ≡ n + length E → IsUnder m (place_of n E x)
place-under m n [] x e = tt
place-under m n (X ∷ E) x e = choose-under m n (same_name X.name x) (place_of (suc n) E x) (omega (arith, e)) (place-under m (suc n) E x (omega (arith, e)))

arguments-fit : (spec : Spec) (c : Slotting) (scope : Scope) (n : ℕ) (a : Slots) (g : Assignment) → AreFree c n
    → Agree c a g → (es : Terms) → have_quantifier es ≡ false → text.AllFit spec g es → AllFit n a (arguments spec c scope es)
arguments-fit spec c scope n a g free agree Terms.NoTerms e f = tt
arguments-fit spec c scope n a g free agree (Terms.Then x xs) e f = (
  slotted-fits spec c n a g free agree x (neither-left (has_quantifier x) (have_quantifier xs) e) f.0,
  arguments-fit
      spec c scope n a g free agree xs (neither-right (has_quantifier x) (have_quantifier xs) e) f.1,
)

call-fits : (k m : ℕ) (a : Slots) (o : Option ℕ) (es : List _) → IsUnder k o → AllFit m a es → FormulaFits k m a (made.call o es)
call-fits k m a None es under f = tt
call-fits k m a (Some X) es under f = (under, f)

-- ---- formulas

pub elaborated-fits : (spec : Spec) (m : ℕ) (f : syntax.Formula) (scope : Scope) → HasCarriers spec → IsPlain f
    → HasFits (length spec.equations) m (λ g. text.FormulaFits spec g f) (width f) (λ c n. made.elaborated spec c scope n f)
elaborated-fits spec m (syntax.Formula.Truth b) scope carriers plain c n a g free agree clear room h = tt
elaborated-fits spec m (syntax.Formula.Val x) scope carriers plain c n a g free agree clear room h =
    slotted-fits spec c m a g (more-free c n m (omega (arith, room)) free) agree x plain h
elaborated-fits spec m (syntax.Formula.Not f) scope carriers plain c n a g free agree clear room h = elaborated-fits spec m f scope carriers plain c n a g free agree clear room h
elaborated-fits spec m (syntax.Formula.And f f') scope carriers plain c n a g free agree clear room h = (
  elaborated-fits spec m f scope carriers plain.0 c n a g free agree clear (omega (arith, room)) h.0,
  elaborated-fits spec m f' scope carriers plain.1 c (n + width f) a g (more-free c n (n + width f) (omega arith) free)
      agree (more-clear n (n + width f) a (omega arith) clear) (omega (arith, room)) h.1,
)
elaborated-fits spec m (syntax.Formula.Or f f') scope carriers plain c n a g free agree clear room h = (
  elaborated-fits spec m f scope carriers plain.0 c n a g free agree clear (omega (arith, room)) h.0,
  elaborated-fits spec m f' scope carriers plain.1 c (n + width f) a g (more-free c n (n + width f) (omega arith) free)
      agree (more-clear n (n + width f) a (omega arith) clear) (omega (arith, room)) h.1,
)
elaborated-fits spec m (syntax.Formula.Implies f f') scope carriers plain c n a g free agree clear room h = (
  elaborated-fits spec m f scope carriers plain.0 c n a g free agree clear (omega (arith, room)) h.0,
  elaborated-fits spec m f' scope carriers plain.1 c (n + width f) a g (more-free c n (n + width f) (omega arith) free)
      agree (more-clear n (n + width f) a (omega arith) clear) (omega (arith, room)) h.1,
)
elaborated-fits spec m (syntax.Formula.Quantified q xs f) scope carriers plain c n a g free agree clear room h =
    each-fits spec (length spec.equations) m q xs (λ b. text.FormulaFits spec b f) (width f) (λ d l. made.elaborated spec d (bound spec xs scope) l f) carriers
    (elaborated-fits spec m f (bound spec xs scope) carriers plain) c n a g free agree clear room h
elaborated-fits spec m (syntax.Formula.Call X es) scope carriers plain c n a g free agree clear room h =
    call-fits (length spec.equations) m a (place_of 0 spec.equations X) (arguments spec c scope es) (place-under (length spec.equations) 0 spec.equations X (omega arith))
    (arguments-fit spec c scope m a g (more-free c n m (omega (arith, room)) free) agree es plain h)

-- ---- data with quantifiers, read as formulas

fits-for : (spec : Spec) (xs : List Variable) (P Q : Assignment → Type 0) → ((a : Assignment) → P a → Q a) → (a : Assignment) → FitsFor spec xs P a → FitsFor spec xs Q a
fits-for spec [] P Q h a f = h a f
fits-for spec (x ∷ xs) P Q h a f = λ v has. fits-for spec xs P Q h ((x.name, v) ∷ a) (f v has)

choose-fits : (spec : Spec) (a : Assignment) (b : Bool) (f g : syntax.Formula) → text.FormulaFits spec a f → text.FormulaFits spec a g → text.FormulaFits spec a (if b then f else g)
choose-fits spec a true f g h k = h
choose-fits spec a false f g h k = k

connected-fits : (spec : Spec) (a : Assignment) (o : Operator) (f g other : syntax.Formula) → text.FormulaFits spec a f
    → text.FormulaFits spec a g → text.FormulaFits spec a other → text.FormulaFits spec a (connected o f g other)
connected-fits spec a Operator.And f g other h k l = (h, k)
connected-fits spec a Operator.Or f g other h k l = (h, k)
connected-fits spec a Operator.Implies f g other h k l = (h, k)
connected-fits spec a Operator.Equal f g other h k l = l
connected-fits spec a Operator.NotEqual f g other h k l = l
connected-fits spec a Operator.Less f g other h k l = l
connected-fits spec a Operator.LessEqual f g other h k l = l
connected-fits spec a Operator.Greater f g other h k l = l
connected-fits spec a Operator.GreaterEqual f g other h k l = l
connected-fits spec a Operator.Plus f g other h k l = l
connected-fits spec a Operator.Minus f g other h k l = l
connected-fits spec a Operator.Times f g other h k l = l
connected-fits spec a Operator.Div f g other h k l = l
connected-fits spec a Operator.Mod f g other h k l = l

expanded-term-fits : (spec : Spec) (x : syntax.Term) (a : Assignment) → text.Fits spec a x → text.FormulaFits spec a (expanded_term x)
expanded-term-fits spec (syntax.Term.Truth b) a h = h
expanded-term-fits spec (syntax.Term.Number n) a h = h
expanded-term-fits spec (syntax.Term.Named x) a h = h
expanded-term-fits spec (syntax.Term.Not x) a h =
    choose-fits spec a (has_quantifier x) (syntax.Formula.Not (expanded_term x)) (syntax.Formula.Val (syntax.Term.Not x)) (expanded-term-fits spec x a h) h
expanded-term-fits spec (syntax.Term.Negative x) a h = h
expanded-term-fits spec (syntax.Term.Binary o x y) a h =
    let all = syntax.Formula.Val (syntax.Term.Binary o x y) in
    choose-fits spec a (has_quantifier x || has_quantifier y) (connected o (expanded_term x) (expanded_term y) all) all
    (connected-fits spec a o (expanded_term x) (expanded_term y) all (expanded-term-fits spec x a h.0) (expanded-term-fits spec y a h.1) h) h
expanded-term-fits spec (syntax.Term.Apply f xs) a h = h
expanded-term-fits spec (syntax.Term.Quantified q xs x) a h =
    fits-for spec xs (λ b. text.Fits spec b x) (λ b. text.FormulaFits spec b (expanded_term x)) (expanded-term-fits spec x) a h

pub expanded-fits : (spec : Spec) (f : syntax.Formula) (a : Assignment) → text.FormulaFits spec a f → text.FormulaFits spec a (expanded f)
expanded-fits spec (syntax.Formula.Truth b) a h = h
expanded-fits spec (syntax.Formula.Val x) a h = expanded-term-fits spec x a h
expanded-fits spec (syntax.Formula.Not f) a h = expanded-fits spec f a h
expanded-fits spec (syntax.Formula.And f g) a h = (expanded-fits spec f a h.0, expanded-fits spec g a h.1)
expanded-fits spec (syntax.Formula.Or f g) a h = (expanded-fits spec f a h.0, expanded-fits spec g a h.1)
expanded-fits spec (syntax.Formula.Implies f g) a h = (expanded-fits spec f a h.0, expanded-fits spec g a h.1)
expanded-fits spec (syntax.Formula.Quantified q xs f) a h =
    fits-for spec xs (λ b. text.FormulaFits spec b f) (λ b. text.FormulaFits spec b (expanded f)) (expanded-fits spec f) a h
expanded-fits spec (syntax.Formula.Call X es) a h = h
