-- Arithmetic, operand by operand: the operands before a link are unfolded.
use Rattle.std.proofs.Common.{◌≡◌, ◌<◌, ◌+◌, ℕ, suc, Bool, false, List, take, length, get_or, refl, sym, ap, subst, arith}
use Rattle.std.specs.Prelude.{Result, IsErrAnd}
use Rattle.pb_base.specs.declared.or_memory.OrMemory.{OrMemory}
use Rattle.pb_base.specs.declared.or_memory.OrMemory.TheVariants.{Refused}
use Rattle.pb_text_tree.specs.declared.operator.Arithmetic.{Arithmetic}
use Rattle.pb_text_tree.specs.declared.place.Place.{Place}
use Rattle.pb_text_tree.specs.declared.sort.SortDeclaration.{SortDeclaration}
use Rattle.pb_text_tree.specs.declared.term.ArithmeticLink.{ArithmeticLink}
use Rattle.pb_text_meaning.specs.Erase.{of_arithmetic}
use Rattle.pb_text_meaning.specs.Syntax.{Term}
use Rattle.pb_protocol_folding.specs.View as tree
use Rattle.pb_protocol_unfolder_terms.specs.declared.context.Context.{Context}
use Rattle.pb_protocol_unfolder_terms.specs.declared.fault.UnfoldFault.{UnfoldFault}
use Rattle.pb_protocol_unfolder_terms.specs.declared.fault.UnfoldRule.TheVariants as rule
use Rattle.pb_protocol_unfolder_terms.specs.declared.level.Level.{Level}
use Rattle.pb_protocol_unfolder_terms.specs.declared.scope.TermScope.{TermScope}
use Rattle.pb_protocol_unfolder_terms.specs.declared.unfolded.Unfolded.{Unfolded}
use Rattle.pb_protocol_unfolder_terms.specs.Contexts.{folding_in, forms_in, spec_in}
use Rattle.pb_protocol_unfolder_terms.specs.Puts.{calculated_term, put}
use Rattle.pb_protocol_unfolder_terms.specs.Scopes.{scope_of}
use Rattle.pb_protocol_unfolder_terms.specs.Unfolding.{IsRefusal, IsUnfolded, Unfolds}
use Rattle.pb_protocol_unfolder_terms.proofs.ArgumentLemmas.{taken-none}
use Rattle.pb_protocol_unfolder_terms.proofs.ChainLemmas.{err-kept, no-room, refusal-weaker}
use Rattle.pb_protocol_unfolder_terms.proofs.TermLemmas.{calculated-end, calculated-next, calculated-within, next-within}

abbrev pub calculated_by : Context → Level → TermScope → Term → List ArithmeticLink → Term
calculated_by k v s first links = put k v.definitions s (calculated_term first links)

-- u is the operands before the i-th link, of more than one of which the truth may count
abbrev pub IsCalculatedUpTo : Context → Level → TermScope → Term → List ArithmeticLink → ℕ → Unfolded → Type 0
IsCalculatedUpTo k v s first links i u =
    (truth : Bool) → (i ≡ 0 → truth ≡ false) → IsUnfolded (folding_in k) truth v.room (calculated_by k v s first (take i links)) u

-- the sum, or what the operator gives, of two unfolded operands
abbrev pub IsCalculation : List SortDeclaration → Arithmetic → Unfolded → Unfolded → Unfolded → Type 0
IsCalculation D o left right r =
    (x y : Term) (n room : ℕ) (truth : Bool) → left.room ≡ suc room → IsUnfolded (tree.spec_of D) false n x left → IsUnfolded (tree.spec_of D) false room y right
    → IsUnfolded (tree.spec_of D) truth n (Term.Binary (of_arithmetic o) x y) r

module _ (k : Context) (v : Level) (s : TermScope) (first : Term) (links : List ArithmeticLink) where
  -- the first operand alone
  pub first-calculated : {u : Unfolded} → IsUnfolded (folding_in k) false v.room (put k v.definitions s first) u → IsCalculatedUpTo k v s first links 0 u
  first-calculated {u = u} h truth falls =
      subst (λ (ms : List ArithmeticLink). IsUnfolded (folding_in k) truth v.room (calculated_by k v s first ms) u) (sym (taken-none links))
      (subst (λ (b : Bool). IsUnfolded (folding_in k) b v.room (put k v.definitions s first) u) (sym (falls refl)) h)

  -- it is refused
  pub first-operand-refused : (r : Result Unfolded (OrMemory UnfoldFault)) (e : OrMemory UnfoldFault) → IsErrAnd r (λ d. d ≡ e)
      → IsRefusal v.room (put k v.definitions s first) e → Unfolds (folding_in k) v.truth v.room (calculated_by k v s first links) r
  first-operand-refused r e same h =
      let within = calculated-within (spec_in k) (forms_in k v.definitions) (scope_of (spec_in k) (forms_in k) s) first links in
      err-kept r e _ (IsRefusal v.room (calculated_by k v s first links)) same
      (refusal-weaker v.room v.room (put k v.definitions s first) (calculated_by k v s first links) e (λ g. omega (arith, within, g)) h)

  -- all of them
  pub all-calculated : (i : ℕ) {u : Unfolded} → 0 < length links → (i < length links → ⊥) → IsCalculatedUpTo k v s first links i u
      → IsUnfolded (folding_in k) v.truth v.room (calculated_by k v s first links) u
  all-calculated i {u = u} some end h =
      subst (λ (z : Term). IsUnfolded (folding_in k) v.truth v.room (put k v.definitions s z) u) (calculated-end first links i end) (h v.truth (λ e. absurd (end (omega (arith, e, some)))))

  module _ (i : ℕ) (l : ArithmeticLink) (within : i < length links) (is : l ≡ get_or links i l) {u : Unfolded} (before : IsCalculatedUpTo k v s first links i u) where
    -- there is no room for an operator
    pub operator-without-room : {place : Place} (r : Result Unfolded (OrMemory UnfoldFault)) (e : OrMemory UnfoldFault) → IsErrAnd r (λ d. d ≡ e)
        → e ≡ Refused (record { rule = rule.Operators; place = place }) → u.room ≡ 0 → Unfolds (folding_in k) v.truth v.room (calculated_by k v s first links) r
    operator-without-room {place = place} r e same refused none =
        let left = (before false (λ g. refl)).room in
        let size = next-within (spec_in k) (forms_in k v.definitions) (scope_of (spec_in k) (forms_in k) s) first links i l within is in
        err-kept r e _ (IsRefusal v.room (calculated_by k v s first links)) same (no-room v.room (calculated_by k v s first links) e place refused (omega (arith, none, left, size)))

    -- or for the operand behind it
    pub operand-refused : {inner : ℕ} (r : Result Unfolded (OrMemory UnfoldFault)) (e : OrMemory UnfoldFault) → IsErrAnd r (λ d. d ≡ e) → u.room ≡ suc inner
        → IsRefusal inner (put k v.definitions s (tree.term_of l.operand)) e → Unfolds (folding_in k) v.truth v.room (calculated_by k v s first links) r
    operand-refused {inner = inner} r e same one h =
        let left = (before false (λ g. refl)).room in
        let size = next-within (spec_in k) (forms_in k v.definitions) (scope_of (spec_in k) (forms_in k) s) first links i l within is in
        err-kept r e _ (IsRefusal v.room (calculated_by k v s first links)) same
        (refusal-weaker v.room inner (put k v.definitions s (tree.term_of l.operand)) (calculated_by k v s first links) e (λ g. omega (arith, one, left, size, g)) h)

    -- the next operand
    pub further-calculated : {inner : ℕ} {D : List SortDeclaration} {right r : Unfolded} → D ≡ k.declarations.now → u.room ≡ suc inner
        → IsUnfolded (folding_in k) false inner (put k v.definitions s (tree.term_of l.operand)) right → IsCalculation D l.operator u right r → IsCalculatedUpTo k v s first links (i + 1) r
    further-calculated {inner = inner} {right = right} {r = r} sorts one h calculation truth falls =
        subst (λ (z : Term). IsUnfolded (folding_in k) truth v.room z r) (ap (put k v.definitions s) (calculated-next first links i l within is))
        (subst (λ (ds : List SortDeclaration). IsCalculation ds l.operator u right r) sorts calculation _ _ v.room inner truth one (before false (λ g. refl)) h)
