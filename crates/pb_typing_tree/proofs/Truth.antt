-- A typed formula has the truth of the formula that it comes from.
use Rattle.std.proofs.Common.{◌≡◌, ℕ, suc, ◌+◌, ◌<◌, ◌≤◌, Bool, true, false, not, ◌||◌, ◌&&◌, if◌then◌else◌, List, [], ◌∷◌, map, Option, Some, None, refl, sym, ◌∙◌, ap, arith}
use Rattle.std.specs.List.{slice_get}
use Rattle.std.specs.Option.{option_map}
use Rattle.std.specs.Prelude.{unwrap_or}
use Rattle.std.specs.Cmp.Lexicographic.{same_text}
use Rattle.std.proofs.lemmas.Bool.{ne_eqb, eq-eqb}
use Rattle.pb_fixpoint.specs.Solution.{Environment}
use Rattle.pb_text_tree.specs.declared.operator.Connective.TheVariants as connective
use Rattle.pb_text_tree.specs.declared.operator.Quantifier.{Quantifier}
use Rattle.pb_base_values.specs.Carrier.{Value, Carrier}
use Rattle.pb_text_meaning.specs.Syntax as syntax
use Rattle.pb_text_meaning.specs.Syntax.{Name, same_name, Variable, Terms, Equation, Spec}
use Rattle.pb_text_meaning.specs.Sorts.{carrier_of}
use Rattle.pb_text_meaning.specs.Value.{Assignment, looked_up, of_values, quantified, is_true, values}
use Rattle.pb_text_meaning.specs.Formula as meaning
use Rattle.pb_text_meaning.specs.Formula.{Instance, equation_named, fits, call_truth}
use Rattle.pb_text_meaning.proofs.Truths.{is_true-of_bool}
use Rattle.pb_typing_declarations.specs.Shapes.{shape_carrier, sort_shape}
use Rattle.pb_typing_rules.specs.Scope.{Scope, bound}
use Rattle.pb_typing_tree.specs.Tree.{Term, Argument, Formula}
use Rattle.pb_typing_tree.specs.Meaning.{Slots, set, name_of, truth, value, connected_truth}
use Rattle.pb_typing_tree.specs.Elaboration as made
use Rattle.pb_typing_tree.specs.Elaboration.{Slotting, with_slot, slotted, width, each, arguments, place_of}
use Rattle.pb_typing_tree.specs.Expansion.{have_quantifier}
use Rattle.pb_typing_tree.specs.Plain.{IsPlain, AreFree, Agree}
use Rattle.pb_typing_tree.proofs.Expanded.{same-of-values}
use Rattle.pb_typing_tree.proofs.Slotted.{slotted-value, slotted-values}

-- ---- slots

kept : (a : Slots) (s i : ℕ) (v : Value) → i < s → set a s v i ≡ a i
kept a s i v lt = ap (λ b. if b then v else a i) (ne_eqb i s (λ e. omega (arith, e, lt)))

written : (a : Slots) (s : ℕ) (v : Value) → set a s v s ≡ v
written a s v = ap (λ b. if b then v else a s) (eq-eqb s s refl)

pub more-free : (c : Slotting) (n m : ℕ) → n ≤ m → AreFree c n → AreFree c m
more-free c n m le free x s e = let lt = free x s e in omega (arith, lt, le)

pub free-with : (c : Slotting) (n : ℕ) (y : Name) → AreFree c n → AreFree (with_slot y n c) (suc n)
free-with c n y free x s e = by-name (same_name y x) e
  where
    by-name : (same : Bool) → (if same then Some n else c x) ≡ Some s → s < suc n
    by-name true e = let f : n ≡ s = ap (λ o. unwrap_or o 0) e in omega (arith, f)
    by-name false e = let lt = free x s e in omega (arith, lt)

-- a slot that no variable in scope has changes nothing
kept-slot : (c : Slotting) (n : ℕ) (a : Slots) (v : Value) (x : Name) (o : Option ℕ) → c x ≡ o → AreFree c n → option_map (set a n v) (c x) ≡ option_map a (c x)
kept-slot c n a v x None e free = ap (option_map (set a n v)) e ∙ sym (ap (option_map a) e)
kept-slot c n a v x (Some s) e free = ap (option_map (set a n v)) e ∙ ap Some (kept a n s v (free x s e)) ∙ sym (ap (option_map a) e)

pub agree-with : (c : Slotting) (n : ℕ) (a : Slots) (g : Assignment) (y : Name) (v : Value) → AreFree c n → Agree c a g → Agree (with_slot y n c) (set a n v) ((y, v) ∷ g)
agree-with c n a g y v free agree x = by-name (same_name y x)
  where
    by-name : (same : Bool) → (if same then Some v else looked_up g x) ≡ option_map (set a n v) (if same then Some n else c x)
    by-name true = ap Some (sym (written a n v))
    by-name false = agree x ∙ sym (kept-slot c n a v x (c x) refl free)

-- ---- quantifiers

-- what a body has to say under each assignment, in a scope and with free slots
abbrev HasTruth : Spec → Environment Instance → (Assignment → Bool) → (Slotting → ℕ → Formula) → Type 0
HasTruth spec t p body = (c : Slotting) (n : ℕ) (a : Slots) (g : Assignment) → AreFree c n → Agree c a g → truth spec a t (body c n) ≡ p g

abbrev pub HasCarriers : Spec → Type 0
HasCarriers spec = (s : Name) → carrier_of spec s ≡ shape_carrier (sort_shape spec s)

each-truth : (spec : Spec) (t : Environment Instance) (q : Quantifier) (xs : List Variable) (p : Assignment → Bool) (body : Slotting → ℕ → Formula) → HasCarriers spec → HasTruth spec t p body
    → HasTruth spec t (quantified spec q xs p) (λ c n. each spec q xs c n body)
each-truth spec t q [] p body carriers says c n a g free agree = says c n a g free agree
each-truth spec t q (x ∷ xs) p body carriers says c n a g free agree =
    let rest : Value → Bool = λ v. quantified spec q xs p ((x.name, v) ∷ g) in
    same-of-values q _ rest
    (λ v. each-truth spec t q xs p body carriers says (with_slot x.name n c) (suc n) (set a n v) ((x.name, v) ∷ g) (free-with c n x.name free) (agree-with c n a g x.name v free agree))
    (shape_carrier (sort_shape spec x.sort))
    ∙ ap (of_values q rest) (sym (carriers x.sort))

-- ---- calls

argument-values : (spec : Spec) (c : Slotting) (scope : Scope) (a : Slots) (es : Terms)
    → map (λ (e : Argument). value a e.term) (arguments spec c scope es) ≡ map (value a) (made.slotted_all spec c es)
argument-values spec c scope a Terms.NoTerms = refl
argument-values spec c scope a (Terms.Then x xs) = ap (λ vs. value a (slotted spec c x) ∷ vs) (argument-values spec c scope a xs)

-- an equation that is found has the name, and no other stands before it
pub record IsFound (E : List Equation) (x : Name) (n k : ℕ) : Type 0 where
  pub behind : ℕ
  pub place : k ≡ n + behind
  pub named : name_of (slice_get E behind) ≡ x

abbrev Finds : List Equation → Name → ℕ → Option ℕ → Type 0
Finds E x n None = equation_named E x ≡ None
Finds E x n (Some k) = IsFound E x n k

finds-next : (n : ℕ) (X : Equation) (E : List Equation) (x : Name) (same : Bool) → same_name X.name x ≡ same → (o : Option ℕ) → Finds E x (suc n) o → Finds (X ∷ E) x n (if same then Some n else o)
finds-next n X E x true e o h = record { behind = 0; place = omega arith; named = same_text X.name x (sym e) }
finds-next n X E x false e None h = ap (λ (b : Bool). if b then Some X else equation_named E x) e ∙ h
finds-next n X E x false e (Some k) h = let p = h.place in record { behind = suc h.behind; place = omega (arith, p); named = h.named }

place-found : (n : ℕ) (E : List Equation) (x : Name) → Finds E x n (place_of n E x)
place-found n [] x = refl
place-found n (X ∷ E) x = finds-next n X E x (same_name X.name x) refl (place_of (suc n) E x) (place-found (suc n) E x)

call-values : (spec : Spec) (c : Slotting) (scope : Scope) (a : Slots) (g : Assignment) → Agree c a g → (es : Terms)
    → have_quantifier es ≡ false → map (λ (e : Argument). value a e.term) (arguments spec c scope es) ≡ values spec g es
call-values spec c scope a g agree es plain = argument-values spec c scope a es ∙ slotted-values spec c a g agree es plain

call-kept : (spec : Spec) (t : Environment Instance) (c : Slotting) (scope : Scope) (a : Slots) (g : Assignment)
    → Agree c a g → (X : Name) (es : Terms) (o : Option ℕ) → Finds spec.equations X 0 o → have_quantifier es ≡ false
    → truth spec a t (made.call o (arguments spec c scope es)) ≡ call_truth spec t (record { name = X; values = values spec g es })
call-kept spec t c scope a g agree X es None h plain =
    sym (ap (λ (f : Option Equation). fits spec f (values spec g es) && t (record { name = X; values = values spec g es })) h)
call-kept spec t c scope a g agree X es (Some k) h plain =
    let at : k ≡ h.behind = let p = h.place in omega (arith, p) in
    let name : name_of (slice_get spec.equations k) ≡ X = ap (λ j. name_of (slice_get spec.equations j)) at ∙ h.named in
    ap (λ x. call_truth spec t (record { name = x; values = map (λ (e : Argument). value a e.term) (arguments spec c scope es) })) name
    ∙ ap (λ vs. call_truth spec t (record { name = X; values = vs })) (call-values spec c scope a g agree es plain)

-- ---- formulas

pub elaborated-truth : (spec : Spec) (t : Environment Instance) (f : syntax.Formula) (scope : Scope) → HasCarriers spec → IsPlain f
    → HasTruth spec t (λ g. meaning.truth spec g t f) (λ c n. made.elaborated spec c scope n f)
elaborated-truth spec t (syntax.Formula.Truth b) scope carriers plain c n a g free agree = is_true-of_bool b
elaborated-truth spec t (syntax.Formula.Val x) scope carriers plain c n a g free agree = ap is_true (slotted-value spec c a g agree x plain)
elaborated-truth spec t (syntax.Formula.Not f) scope carriers plain c n a g free agree = ap not (elaborated-truth spec t f scope carriers plain c n a g free agree)
elaborated-truth spec t (syntax.Formula.And f h) scope carriers plain c n a g free agree =
    ap (λ b. b && truth spec a t (made.elaborated spec c scope (n + width f) h)) (elaborated-truth spec t f scope carriers plain.0 c n a g free agree)
    ∙ ap (λ b. meaning.truth spec g t f && b) (elaborated-truth spec t h scope carriers plain.1 c (n + width f) a g (more-free c n (n + width f) (omega arith) free) agree)
elaborated-truth spec t (syntax.Formula.Or f h) scope carriers plain c n a g free agree =
    ap (λ b. b || truth spec a t (made.elaborated spec c scope (n + width f) h)) (elaborated-truth spec t f scope carriers plain.0 c n a g free agree)
    ∙ ap (λ b. meaning.truth spec g t f || b) (elaborated-truth spec t h scope carriers plain.1 c (n + width f) a g (more-free c n (n + width f) (omega arith) free) agree)
elaborated-truth spec t (syntax.Formula.Implies f h) scope carriers plain c n a g free agree =
    ap (λ b. not b || truth spec a t (made.elaborated spec c scope (n + width f) h)) (elaborated-truth spec t f scope carriers plain.0 c n a g free agree)
    ∙ ap (λ b. not (meaning.truth spec g t f) || b) (elaborated-truth spec t h scope carriers plain.1 c (n + width f) a g (more-free c n (n + width f) (omega arith) free) agree)
elaborated-truth spec t (syntax.Formula.Quantified q xs f) scope carriers plain c n a g free agree =
    each-truth spec t q xs (λ k. meaning.truth spec k t f) (λ d m. made.elaborated spec d (bound spec xs scope) m f)
    carriers (elaborated-truth spec t f (bound spec xs scope) carriers plain) c n a g free agree
elaborated-truth spec t (syntax.Formula.Call X es) scope carriers plain c n a g free agree =
    call-kept spec t c scope a g agree X es (place_of 0 spec.equations X) (place-found 0 spec.equations X) plain
