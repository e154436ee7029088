-- Arguments one after another: those before a place are unfolded.
use Rattle.std.proofs.Common.{◌≡◌, ◌<◌, ◌+◌, ℕ, Bool, false, List, take, length, get_or, sym, ◌∙◌, ap, subst}
use Rattle.std.specs.Prelude.{Result, IsErrAnd}
use Rattle.pb_base.specs.declared.or_memory.OrMemory.{OrMemory}
use Rattle.pb_text_tree.specs.declared.sort.SortDeclaration.{SortDeclaration}
use Rattle.pb_text_tree.specs.declared.term.Argument.{Argument}
use Rattle.pb_text_meaning.specs.Syntax.{Term, Terms}
use Rattle.pb_protocol_folding.specs.View as tree
use Rattle.pb_protocol_unfolder_terms.specs.declared.arguments.UnfoldedArguments.{UnfoldedArguments}
use Rattle.pb_protocol_unfolder_terms.specs.declared.context.Context.{Context}
use Rattle.pb_protocol_unfolder_terms.specs.declared.fault.UnfoldFault.{UnfoldFault}
use Rattle.pb_protocol_unfolder_terms.specs.declared.level.Level.{Level}
use Rattle.pb_protocol_unfolder_terms.specs.declared.scope.TermScope.{TermScope}
use Rattle.pb_protocol_unfolder_terms.specs.declared.unfolded.Unfolded.{Unfolded}
use Rattle.pb_protocol_unfolder_terms.specs.Contexts.{folding_in, forms_in, spec_in}
use Rattle.pb_protocol_unfolder_terms.specs.Puts.{AreArguments, IsRefusalOfAll, UnfoldsAll, put, puts, truth_behind, with_last}
use Rattle.pb_protocol_unfolder_terms.specs.Scopes.{scope_of}
use Rattle.pb_protocol_unfolder_terms.specs.Unfolding.{IsRefusal, IsUnfolded}
use Rattle.pb_protocol_unfolder_terms.proofs.ArgumentLemmas.{argument-next, argument-within, behind-last, next-refused, taken-all, taken-none}
use Rattle.pb_protocol_unfolder_terms.proofs.ChainLemmas.{err-kept}

abbrev pub given_by : Context → Level → TermScope → List Argument → Terms
given_by k v s given = puts k v.definitions s (tree.terms_of given)

-- u is the arguments before the i-th, whose truth counts where it says so
abbrev pub AreUnfoldedUpTo : Context → Level → TermScope → List Argument → ℕ → UnfoldedArguments → Bool → Type 0
AreUnfoldedUpTo k v s given i u truth =
    AreArguments (folding_in k) v.truth v.room (given_by k v s (take i given)) u × (truth ≡ truth_behind v.truth (given_by k v s (take i given)))

module _ (k : Context) (v : Level) (s : TermScope) (given : List Argument) where
  -- none of them
  pub none-unfolded : {u : UnfoldedArguments} → AreArguments (folding_in k) v.truth v.room Terms.NoTerms u → AreUnfoldedUpTo k v s given 0 u v.truth
  none-unfolded {u = u} h =
      let start = ap (given_by k v s) (sym (taken-none given)) in
      (subst (λ (ts : Terms). AreArguments (folding_in k) v.truth v.room ts u) start h, ap (truth_behind v.truth) start)

  -- all of them
  pub all-unfolded : (i : ℕ) {u : UnfoldedArguments} → (i < length given → ⊥) → AreArguments (folding_in k) v.truth v.room (given_by k v s (take i given)) u
      → AreArguments (folding_in k) v.truth v.room (given_by k v s given) u
  all-unfolded i {u = u} end h = subst (λ (bs : List Argument). AreArguments (folding_in k) v.truth v.room (given_by k v s bs) u) (taken-all given i end) h

  module _ (i : ℕ) (a : Argument) (within : i < length given) (is : a ≡ get_or given i a) {u : UnfoldedArguments} {truth : Bool} (before : AreUnfoldedUpTo k v s given i u truth) where
    -- there is no room for the next one
    pub next-argument-refused : (r : Result UnfoldedArguments (OrMemory UnfoldFault)) (e : OrMemory UnfoldFault) → IsErrAnd r (λ d. d ≡ e)
        → IsRefusal u.room (put k v.definitions s (tree.term_of a.term)) e
        → UnfoldsAll (folding_in k) v.truth v.room (given_by k v s given) r
    next-argument-refused r e same h =
        err-kept r e (AreArguments (folding_in k) v.truth v.room (given_by k v s given)) (IsRefusalOfAll v.room (given_by k v s given)) same
        (next-refused v.room u.room (put k v.definitions s (tree.term_of a.term)) (given_by k v s (take i given)) (given_by k v s given) e before.0.room
        (argument-within (spec_in k) (forms_in k v.definitions) (scope_of (spec_in k) (forms_in k) s) given i a within is) h)

    -- with the next one
    pub next-argument-unfolded : {D : List SortDeclaration} {last : Unfolded} {r : UnfoldedArguments} → D ≡ k.declarations.now
        → IsUnfolded (folding_in k) truth u.room (put k v.definitions s (tree.term_of a.term)) last
        → ((xs : Terms) (x : Term) (n : ℕ) (b : Bool) → AreArguments (tree.spec_of D) b n xs u → IsUnfolded (tree.spec_of D) (truth_behind b xs) u.room x last
        → AreArguments (tree.spec_of D) b n (with_last xs x) r)
        → AreUnfoldedUpTo k v s given (i + 1) r false
    next-argument-unfolded {last = last} {r = r} sorts h more =
        let xs = given_by k v s (take i given) in
        let x = put k v.definitions s (tree.term_of a.term) in
        let next = argument-next (spec_in k) (forms_in k v.definitions) (scope_of (spec_in k) (forms_in k) s) given i a within is in
        let all = subst (λ (ds : List SortDeclaration). (xs : Terms) (x : Term) (n : ℕ) (b : Bool) → AreArguments (tree.spec_of ds) b n xs u
        → IsUnfolded (tree.spec_of ds) (truth_behind b xs) u.room x last → AreArguments (tree.spec_of ds) b n (with_last xs x) r) sorts more in (
          subst (λ (ts : Terms). AreArguments (folding_in k) v.truth v.room ts r) next
              (all xs x v.room v.truth before.0 (subst (λ (z : Bool). IsUnfolded (folding_in k) z u.room x last) before.1 h)),
          behind-last v.truth xs x ∙ ap (truth_behind v.truth) next,
        )
