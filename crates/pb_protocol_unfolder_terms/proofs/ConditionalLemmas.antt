-- `if` with its three arguments, behind its condition: the one that is chosen, or both.
use Rattle.std.proofs.Common.{◌≡◌, ◌≤◌, ◌+◌, ℕ, suc, Bool, true, false, if◌then◌else◌, List, [], ◌∷◌, length, get_or, Some, refl, sym, ◌∙◌, subst, arith}
use Rattle.std.specs.Prelude.{Result, IsErrAnd, string_bytes}
use Rattle.pb_base.specs.declared.or_memory.OrMemory.{OrMemory}
use Rattle.pb_text_tree.specs.declared.name.Name as declared_name
use Rattle.pb_text_tree.specs.declared.sort.SortDeclaration.{SortDeclaration}
use Rattle.pb_text_tree.specs.declared.term.Argument.{Argument}
use Rattle.pb_text_meaning.specs.Functions.{named_function}
use Rattle.pb_text_meaning.specs.Syntax.{Name, Term, Spec}
use Rattle.pb_protocol_folding.specs.Folding.{folded, is_if, truth_value}
use Rattle.pb_protocol_folding.specs.View as tree
use Rattle.pb_protocol_unfolding.specs.PutIn.{Forms, TermScope, all_put_in, put_in}
use Rattle.pb_protocol_unfolder_terms.specs.declared.context.Context.{Context}
use Rattle.pb_protocol_unfolder_terms.specs.declared.fault.UnfoldFault.{UnfoldFault}
use Rattle.pb_protocol_unfolder_terms.specs.declared.level.Level.{Level}
use Rattle.pb_protocol_unfolder_terms.specs.declared.scope.TermScope as declared_scope
use Rattle.pb_protocol_unfolder_terms.specs.declared.unfolded.Unfolded.{Unfolded}
use Rattle.pb_protocol_unfolder_terms.specs.Contexts.{folding_in}
use Rattle.pb_protocol_unfolder_terms.specs.Puts.{choice_of, put, puts}
use Rattle.pb_protocol_unfolder_terms.specs.Unfolding.{IsRefusal, IsUnfolded, Unfolds, operator_count}
use Rattle.pb_protocol_unfolder_terms.proofs.ChainLemmas.{err-kept}
use Rattle.pb_protocol_unfolder_terms.proofs.ChoiceLemmas.{IsChoice, IsChosen, chosen-refused, right-refused, truth-said, two-unfolded}

-- three arguments one by one; what stands where there is none doesn't count
pub three-arguments : (S : Spec) (forms : Forms) (ρ : TermScope) (f : Name) (given : List Argument) (a b d : Argument) → length given ≡ 3
    → choice_of f (put_in S forms ρ (tree.term_of (get_or given 0 a).term)) (put_in S forms ρ (tree.term_of (get_or given 1 b).term))
    (put_in S forms ρ (tree.term_of (get_or given 2 d).term)) ≡ Term.Apply f (all_put_in S forms ρ (tree.terms_of given))
three-arguments S forms ρ f [] a b d three = absurd (omega (arith, three))
three-arguments S forms ρ f (x ∷ []) a b d three = absurd (omega (arith, three))
three-arguments S forms ρ f (x ∷ y ∷ []) a b d three = absurd (omega (arith, three))
three-arguments S forms ρ f (x ∷ y ∷ z ∷ []) a b d three = refl
three-arguments S forms ρ f (x ∷ y ∷ z ∷ w ∷ given) a b d three = absurd (omega (arith, three))

-- the argument at a place
abbrev pub argument_by : Context → Level → declared_scope.TermScope → List Argument → ℕ → Argument → Term
argument_by k v s given i otherwise = put k v.definitions s (tree.term_of (get_or given i otherwise).term)

abbrev pub conditional_by : Context → Level → declared_scope.TermScope → Name → List Argument → Term
conditional_by k v s f given = Term.Apply f (puts k v.definitions s (tree.terms_of given))

-- an `if` whose condition is unfolded
pub record IsConditional (k : Context) (v : Level) (s : declared_scope.TermScope) (f : Name) (given : List Argument) (a : Argument) (condition : Unfolded) : Type 0 where
  pub choice : is_if (named_function f) ≡ true
  pub arguments : length given ≡ 3
  pub term : tree.term_of condition.term ≡ folded (folding_in k) true (argument_by k v s given 0 a)
  pub room : v.room ≤ condition.room + suc (operator_count (argument_by k v s given 0 a))

pub conditional : (k : Context) (v : Level) (s : declared_scope.TermScope) (f : Name) (given : List Argument) (a : Argument) {condition : Unfolded} {inner : ℕ} → is_if (named_function f) ≡ true
    → length given ≡ 3
    → v.room ≡ suc inner → IsUnfolded (folding_in k) true inner (argument_by k v s given 0 a) condition → IsConditional k v s f given a condition
conditional k v s f given a choice three one h = record { choice = choice; arguments = three; term = h.term; room = omega (arith, one, h.room) }

module _ {k : Context} {v : Level} {s : declared_scope.TermScope} {f : Name} {given : List Argument} {a : Argument} {condition : Unfolded} (is : IsConditional k v s f given a condition) where
  arguments-said : (b d : Argument) → choice_of f (argument_by k v s given 0 a) (argument_by k v s given 1 b) (argument_by k v s given 2 d) ≡ conditional_by k v s f given
  arguments-said b d = three-arguments _ _ _ f given a b d is.arguments

  -- decided, it is the argument that is chosen
  pub branch-unfolded : (decision : Bool) (b : Argument) {u r : Unfolded} → Some decision ≡ truth_value (tree.term_of condition.term)
      → IsUnfolded (folding_in k) false condition.room (if decision then argument_by k v s given 1 b else argument_by k v s given 2 b) u
      → IsChosen u r → IsUnfolded (folding_in k) v.truth v.room (conditional_by k v s f given) r
  branch-unfolded decision b {r = r} says h chosen =
      subst (λ (z : Term). IsUnfolded (folding_in k) v.truth v.room z r) (arguments-said b b)
      (chosen (folding_in k) f _ _ _ _ _ decision v.truth is.choice (sym is.term ∙ truth-said condition.term decision says) h is.room)

  -- or refused, and so is the first of both
  pub branch-refused : (decision : Bool) (b : Argument) (r : Result Unfolded (OrMemory UnfoldFault)) (e : OrMemory UnfoldFault) → IsErrAnd r (λ d. d ≡ e)
      → IsRefusal condition.room (if decision then argument_by k v s given 1 b else argument_by k v s given 2 b) e → Unfolds (folding_in k) v.truth v.room (conditional_by k v s f given) r
  branch-refused decision b r e same h =
      err-kept r e _ (IsRefusal v.room (conditional_by k v s f given)) same
      (subst (λ (z : Term). IsRefusal v.room z e) (arguments-said b b)
      (chosen-refused v.room condition.room f (argument_by k v s given 0 a) (argument_by k v s given 1 b) (argument_by k v s given 2 b) decision e is.room h))

  -- the second of both is
  pub second-refused : (b d : Argument) {left : Unfolded} (r : Result Unfolded (OrMemory UnfoldFault)) (e : OrMemory UnfoldFault) → IsErrAnd r (λ d. d ≡ e)
      → IsUnfolded (folding_in k) false condition.room (argument_by k v s given 1 b) left
      → IsRefusal left.room (argument_by k v s given 2 d) e → Unfolds (folding_in k) v.truth v.room (conditional_by k v s f given) r
  second-refused b d {left = left} r e same l h =
      err-kept r e _ (IsRefusal v.room (conditional_by k v s f given)) same
      (subst (λ (z : Term). IsRefusal v.room z e) (arguments-said b d)
      (right-refused v.room condition.room left.room f (argument_by k v s given 0 a) (argument_by k v s given 1 b) (argument_by k v s given 2 d) e is.room l.room h))

  -- not decided, it is a choice of both
  pub both-unfolded : (b d : Argument) (name : declared_name.Name) {D : List SortDeclaration} {left right r : Unfolded} → D ≡ k.declarations.now → string_bytes name.text ≡ f
      → IsUnfolded (folding_in k) false condition.room (argument_by k v s given 1 b) left → IsUnfolded (folding_in k) false left.room (argument_by k v s given 2 d) right
      → IsChoice D name condition.term left right r → IsUnfolded (folding_in k) v.truth v.room (conditional_by k v s f given) r
  both-unfolded b d name sorts named l h choice = two-unfolded k v.truth name condition.term sorts named (arguments-said b d) is.term l h is.room choice
