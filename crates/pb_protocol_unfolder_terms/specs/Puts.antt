-- Terms with what their names stand for put in, in the words of the code.
use Rattle.std.specs.Prelude.{◌≡◌, ◌≤◌, ◌<◌, ◌+◌, ℕ, Bool, true, false, List, [], ◌∷◌, map}
use Rattle.std.specs.Prelude.{Option, Some, None}
use Rattle.std.specs.Prelude.{Result, MatchResult, string_bytes}
use Rattle.pb_text_tree.specs.declared.term.ArithmeticLink as declared_link
use Rattle.pb_text_meaning.specs.Syntax.{Name, Term, Terms, Spec}
use Rattle.pb_text_meaning.specs.Erase.{of_arithmetic}
use Rattle.pb_base.specs.declared.or_memory.OrMemory.{OrMemory}
use Rattle.pb_base.specs.OrMemory.{IfFault}
use Rattle.pb_protocol_folding.specs.Folding.{folded_arguments}
use Rattle.pb_protocol_folding.specs.View as tree
use Rattle.pb_protocol_unfolding.specs.Written.{is_written, element}
use Rattle.pb_protocol_unfolding.specs.PutIn.{put_in, all_put_in, read}
use Rattle.pb_protocol_unfolder_terms.specs.declared.array.Array as declared_array
use Rattle.pb_protocol_unfolder_terms.specs.declared.arguments.UnfoldedArguments as declared_arguments
use Rattle.pb_protocol_unfolder_terms.specs.declared.context.Context as declared_context
use Rattle.pb_protocol_unfolder_terms.specs.declared.fault.UnfoldFault.{UnfoldFault}
use Rattle.pb_protocol_unfolder_terms.specs.declared.scope.TermScope as declared_scope
use Rattle.pb_protocol_unfolder_terms.specs.declared.written.Written as declared_written
use Rattle.pb_protocol_unfolder_terms.specs.Contexts.{forms_in, spec_in}
use Rattle.pb_protocol_unfolder_terms.specs.Scopes.{scope_of}
use Rattle.pb_protocol_unfolder_terms.specs.Unfolding.{OnOperators, operator_counts}
use Rattle.pb_protocol_unfolder_terms.specs.Values.{written_term}
use Rattle.pb_protocol_unfolder_terms.specs.View.{variable_of}

-- a term, by the first n definitions
abbrev pub put : declared_context.Context → ℕ → declared_scope.TermScope → Term → Term
put c n scope x = put_in (spec_in c) (forms_in c n) (scope_of (spec_in c) (forms_in c) scope) x

abbrev pub puts : declared_context.Context → ℕ → declared_scope.TermScope → Terms → Terms
puts c n scope xs =
    all_put_in (spec_in c) (forms_in c n) (scope_of (spec_in c) (forms_in c) scope) xs

-- the element of an array, or the part of one, that its arguments say
abbrev pub read_by :
    declared_context.Context → ℕ → declared_scope.TermScope → declared_array.Array → Term
read_by c n scope a =
    read (spec_in c) (string_bytes a.name.now.text) (map variable_of a.indices.now)
    (puts c n scope (tree.terms_of a.arguments.now))

-- the one at one more value, the arguments being those behind it
abbrev pub element_by :
    declared_context.Context → ℕ → declared_scope.TermScope → declared_array.Array → Term → Term
element_by c n scope a k =
    read (spec_in c) (element (string_bytes a.name.now.text) k) (map variable_of a.indices.now)
    (puts c n scope (tree.terms_of a.arguments.now))

-- ((first o operand) o operand) ..
abbrev pub calculated_term : Term → List declared_link.ArithmeticLink → Term
calculated_term x [] = x
calculated_term x (l ∷ ls) =
    calculated_term (Term.Binary (of_arithmetic l.operator) x (tree.term_of l.operand)) ls

-- arguments with one more behind them
abbrev pub with_last : Terms → Term → Terms
with_last Terms.NoTerms y = Terms.Then y Terms.NoTerms
with_last (Terms.Then x xs) y = Terms.Then x (with_last xs y)

-- of the one behind them the truth alone may count where it is the first
abbrev pub truth_behind : Bool → Terms → Bool
truth_behind truth Terms.NoTerms = truth
truth_behind truth (Terms.Then x xs) = false

-- f(c, x, y)
abbrev pub choice_of : Name → Term → Term → Term → Term
choice_of f c x y =
    Term.Apply f (Terms.Then c (Terms.Then x (Terms.Then y Terms.NoTerms)))

-- a term is written as this value, or as none of them
abbrev pub IsWrittenAs : Option declared_written.Written → Term → List Term → Type 0
IsWrittenAs (Some v) t ks = (is_written t ks ≡ true) × (t ≡ written_term v)
IsWrittenAs None t ks = is_written t ks ≡ false

-- u is these arguments folded, of the first of which the truth alone may count; of room for n
-- operators they take at least what isn't left
pub record AreArguments (spec : Spec) (truth : Bool) (n : ℕ) (whole : Terms)
    (u : declared_arguments.UnfoldedArguments) : Type 0 where
  pub terms : tree.terms_of u.arguments.items ≡ folded_arguments spec truth whole
  pub room : n ≤ u.room + operator_counts whole

-- there is no room: the arguments have more than n operators, if that is the fault
abbrev pub IsRefusalOfAll : ℕ → Terms → OrMemory UnfoldFault → Type 0
IsRefusalOfAll n whole error =
    IfFault error (λ fault. OnOperators fault.rule (n < operator_counts whole))

abbrev pub UnfoldsAll : Spec → Bool → ℕ → Terms →
    Result declared_arguments.UnfoldedArguments (OrMemory UnfoldFault) → Type 0
UnfoldsAll spec truth n whole result =
    MatchResult result (AreArguments spec truth n whole) (IsRefusalOfAll n whole)
