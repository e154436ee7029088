-- What names stand for, as the code looks for it.
use Rattle.std.proofs.Common.{◌≡◌, ℕ, zero, suc, ◌<◌, Bool, true, false, if◌then◌else◌, List, [], ◌∷◌, map, drop, length, get_or, Option, Some, None, refl, sym, ◌∙◌, ap, arith, add-one, ◌+◌}
use Rattle.pb_text_meaning.specs.Syntax.{Name, same_name, Term, Terms, Spec}
use Rattle.pb_text_tree.specs.declared.term.Argument.{Argument}
use Rattle.pb_protocol_folding.specs.View as tree
use Rattle.pb_protocol_unfolding.specs.PutIn.{TermScope, Forms, term_of, standing, put_in, all_put_in}
use Rattle.pb_protocol_unfolding.specs.Unfolding.{terms_of}
use Rattle.pb_protocol_unfolder_terms.specs.declared.sorts.Variable.{Variable}
use Rattle.pb_protocol_unfolder_terms.specs.declared.written.Written.{Written}
use Rattle.pb_protocol_unfolder_terms.specs.View.{variable_of}
use Rattle.pb_protocol_unfolder_terms.specs.Values.{written_term}
use Rattle.pb_protocol_unfolder_terms.specs.Scopes.{looked}

looked-step : {A : Type 0} (vs : List Variable) (ks : List A) (p : ℕ) (d : Variable) (e : A) (x : Name) (o : Option A)
    (b : Bool) → p < length vs → p < length ks → b ≡ same_name (get_or vs p d).name.now x
    → looked (drop p vs) (drop p ks) x o ≡ looked (drop (suc p) vs) (drop (suc p) ks) x (if b then Some (get_or ks p e) else o)
looked-step [] ks p d e x o b within inside same = absurd (omega (arith, within))
looked-step (w ∷ vs) [] p d e x o b within inside same = absurd (omega (arith, inside))
looked-step (w ∷ vs) (l ∷ ks) zero d e x o b within inside same = ap (λ (t : Bool). looked vs ks x (if t then Some l else o)) (sym same)
looked-step (w ∷ vs) (l ∷ ks) (suc p) d e x o b within inside same = looked-step vs ks p d e x o b (omega (arith, within)) (omega (arith, inside)) same

-- one place further, where the name is that of the variable there
pub looked-some : {A : Type 0} (vs : List Variable) (ks : List A) (p : ℕ) (d : Variable) (e : A) (x : Name)
    (o o' : Option A) → p < length vs → p < length ks → true ≡ same_name (get_or vs p d).name.now x → o' ≡ Some (get_or ks p e)
    → looked (drop p vs) (drop p ks) x o ≡ looked (drop (p + 1) vs) (drop (p + 1) ks) x o'
looked-some vs ks p d e x o o' within inside same is =
    looked-step vs ks p d e x o true within inside same
    ∙ ap (looked (drop (suc p) vs) (drop (suc p) ks) x) (sym is)
    ∙ ap (λ (q : ℕ). looked (drop q vs) (drop q ks) x o') (sym (add-one p))

-- and where it isn't
pub looked-none : {A : Type 0} (vs : List Variable) (ks : List A) (p : ℕ) (d : Variable) (x : Name) (o : Option A) → p < length vs → p < length ks → false ≡ same_name (get_or vs p d).name.now x
    → looked (drop p vs) (drop p ks) x o ≡ looked (drop (p + 1) vs) (drop (p + 1) ks) x o
looked-none vs ks p d x o within inside same = skip vs ks p d x o within inside same ∙ ap (λ (q : ℕ). looked (drop q vs) (drop q ks) x o) (sym (add-one p))
  where
    skip : {A : Type 0} (vs : List Variable) (ks : List A) (p : ℕ) (d : Variable) (x : Name) (o : Option A)
        → p < length vs → p < length ks → false ≡ same_name (get_or vs p d).name.now x
        → looked (drop p vs) (drop p ks) x o ≡ looked (drop (suc p) vs) (drop (suc p) ks) x o
    skip [] ks p d x o within inside same = absurd (omega (arith, within))
    skip (w ∷ vs) [] p d x o within inside same = absurd (omega (arith, inside))
    skip (w ∷ vs) (l ∷ ks) zero d x o within inside same = ap (λ (t : Bool). looked vs ks x (if t then Some l else o)) (sym same)
    skip (w ∷ vs) (l ∷ ks) (suc p) d x o within inside same = skip vs ks p d x o (omega (arith, within)) (omega (arith, inside)) same

looked-empty : {A : Type 0} (vs : List Variable) (x : Name) (o : Option A) → looked vs [] x o ≡ o
looked-empty [] x o = refl
looked-empty (v ∷ vs) x o = refl

-- past the end of one of them
pub looked-end : {A : Type 0} (vs : List Variable) (ks : List A) (p : ℕ) (x : Name) (o : Option A) → ((q : ℕ) → q < length vs → q < length ks → q < p) → looked (drop p vs) (drop p ks) x o ≡ o
looked-end [] ks p x o past = by-none p
  where
    by-none : (p : ℕ) → looked (drop p []) (drop p ks) x o ≡ o
    by-none zero = refl
    by-none (suc p) = refl
looked-end (v ∷ vs) [] zero x o past = refl
looked-end (v ∷ vs) [] (suc p) x o past = looked-empty (drop p vs) x o
looked-end (v ∷ vs) (k ∷ ks) zero x o past = absurd (omega (arith, past 0 (omega arith) (omega arith)))
looked-end (v ∷ vs) (k ∷ ks) (suc p) x o past = looked-end vs ks p x o (λ q h l. omega (arith, past (suc q) (omega (arith, h)) (omega (arith, l))))

module _ {A : Type 0} (f : A → Term) where
  abbrev pub terms_by : List A → Terms
  terms_by [] = Terms.NoTerms
  terms_by (k ∷ ks) = Terms.Then (f k) (terms_by ks)

  abbrev pub fallback : Option A → Option Term → Option Term
  fallback (Some k) t = Some (f k)
  fallback None t = t

  chosen : (b : Bool) (k : A) (o : Option A) (s t : Option Term) → s ≡ fallback o t → (if b then Some (f k) else s) ≡ fallback (if b then Some k else o) t
  chosen true k o s t e = refl
  chosen false k o s t e = e

  pub standing-looked : (vs : List Variable) (ks : List A) (ρ : TermScope) (x : Name) (o : Option A) (t : Option Term) → term_of ρ x ≡ fallback o t
      → term_of (standing (map variable_of vs) (terms_by ks) ρ) x ≡ fallback (looked vs ks x o) t
  standing-looked [] ks ρ x o t e = e
  standing-looked (v ∷ vs) [] ρ x o t e = e
  standing-looked (v ∷ vs) (k ∷ ks) ρ x o t e =
      standing-looked vs ks ((v.name.now, f k) ∷ ρ) x (if same_name v.name.now x then Some k else o) t (chosen (same_name v.name.now x) k o (term_of ρ x) t e)

pub values-by : (ks : List Written) → terms_of (map written_term ks) ≡ terms_by written_term ks
values-by [] = refl
values-by (k ∷ ks) = ap (Terms.Then (written_term k)) (values-by ks)

abbrev pub put_argument : Spec → Forms → TermScope → Argument → Term
put_argument spec forms ρ a = put_in spec forms ρ (tree.term_of a.term)

pub arguments-by : (spec : Spec) (forms : Forms) (ρ : TermScope) (given : List Argument) → all_put_in spec forms ρ (tree.terms_of given) ≡ terms_by (put_argument spec forms ρ) given
arguments-by spec forms ρ [] = refl
arguments-by spec forms ρ (a ∷ given) = ap (Terms.Then (put_argument spec forms ρ a)) (arguments-by spec forms ρ given)

-- what variables stand for, else what is around
pub values-found : (vs : List Variable) (ks : List Written) (ρ : TermScope) (x : Name)
    → term_of (standing (map variable_of vs) (terms_of (map written_term ks)) ρ) x
    ≡ fallback written_term (looked vs ks x None) (term_of ρ x)
values-found vs ks ρ x =
    ap (λ ts. term_of (standing (map variable_of vs) ts ρ) x) (values-by ks) ∙ standing-looked written_term vs ks ρ x None (term_of ρ x) refl

pub arguments-found : (spec : Spec) (forms : Forms) (ρ : TermScope) (vs : List Variable) (given : List Argument)
    (x : Name)
    → term_of (standing (map variable_of vs) (all_put_in spec forms ρ (tree.terms_of given)) []) x
    ≡ fallback (put_argument spec forms ρ) (looked vs given x None) None
arguments-found spec forms ρ vs given x =
    ap (λ ts. term_of (standing (map variable_of vs) ts []) x) (arguments-by spec forms ρ given) ∙ standing-looked (put_argument spec forms ρ) vs given [] x None None refl
