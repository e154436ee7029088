-- What an element of an array gets by assignments, in the words of the code.
use Rattle.std.specs.Prelude.{◌≡◌, ◌<◌, ◌+◌, ℕ, suc, true, false, Some, List, length, map, take}
use Rattle.std.specs.Prelude.{string_bytes}
use Rattle.std.specs.List.{slice_get}
use Rattle.pb_protocol_unfolder_terms.specs.declared.copies.AssignmentCopy as declared_copy
use Rattle.pb_protocol_unfolder_terms.specs.AssignmentCopies.{copy_behind, copy_said, placed_copy}
use Rattle.pb_protocol_unfolder_terms.specs.AssignmentCopies.{scope_in_copy}
use Rattle.pb_protocol_unfolder_terms.specs.TermFaults.{PlacedCopy}
use Rattle.pb_text_meaning.specs.Syntax.{Name, Term}
use Rattle.pb_protocol_folding.specs.Folding.{folded}
use Rattle.pb_protocol_folding.specs.View.{term_of}
use Rattle.pb_protocol_folding.specs.View as tree
use Rattle.pb_protocol_unfolding.specs.PutIn.{TermScope, all_put_in, choice, put_in}
use Rattle.pb_protocol_unfolding.specs.Unfolding.{Copy, Element, after_copies, is_index, name_of}
use Rattle.pb_protocol_unfolder_terms.specs.declared.assigned.Compared as declared_compared
use Rattle.pb_protocol_unfolder_terms.specs.declared.assigned.Element as declared_element
use Rattle.pb_protocol_unfolder_terms.specs.declared.assigned.Latest as declared_latest
use Rattle.pb_protocol_unfolder_terms.specs.declared.assigned.Latest.TheVariants as latest
use Rattle.pb_protocol_unfolder_terms.specs.declared.context.Context as declared_context
use Rattle.pb_protocol_unfolder_terms.specs.declared.scope.TermScope as declared_scope
use Rattle.pb_protocol_unfolder_terms.specs.Behind.{IsBehind}
use Rattle.pb_protocol_unfolder_terms.specs.Contexts.{folding_in, forms_in, spec_in}
use Rattle.pb_protocol_unfolder_terms.specs.Puts.{puts}
use Rattle.pb_protocol_unfolder_terms.specs.Scopes.{scope_of}
use Rattle.pb_protocol_unfolder_terms.specs.Unfolding.{IsUnfolded, operator_count}
use Rattle.pb_protocol_unfolder_terms.specs.Values.{written_term}

abbrev pub copies_of : List declared_copy.AssignmentCopy → TermScope → List Copy
copies_of cs ρ = map (copy_said ρ) (map copy_behind cs)

-- an element with its sort
abbrev pub element_said : declared_element.Element → Name → Element
element_said e sort = record {
  array = string_bytes e.array.now.text;
  index = map written_term e.index.now;
  sort = sort;
}

-- whether the arguments are these written values
abbrev pub compared_by :
    declared_context.Context → ℕ → declared_scope.TermScope → declared_compared.Compared → Term
compared_by c n scope a =
    is_index (puts c n scope (tree.terms_of a.arguments.now)) (map written_term a.index.now)

-- what names stand for around assignments, and in a copy of one
abbrev pub scope_around : declared_context.Context → declared_scope.TermScope → TermScope
scope_around c scope = scope_of (spec_in c) (forms_in c) scope

abbrev pub scope_inside :
    declared_context.Context → declared_scope.TermScope → declared_copy.AssignmentCopy → TermScope
scope_inside c scope b = scope_in_copy (scope_around c scope) (copy_behind b)

-- the copies, each with its places
abbrev pub placed_by :
    declared_context.Context → declared_scope.TermScope → List declared_copy.AssignmentCopy →
    List PlacedCopy
placed_by c scope bs = map (placed_copy (scope_around c scope)) (map copy_behind bs)

-- what the element is after all copies of assignments
abbrev pub after_by :
    declared_context.Context → ℕ → declared_scope.TermScope →
    List declared_copy.AssignmentCopy → Element → Term
after_by c n scope bs e =
    after_copies (spec_in c) (forms_in c n) (copies_of bs (scope_around c scope)) e
    (Term.Named (name_of e))

-- whether a copy's index is the element's
abbrev pub condition_by :
    declared_context.Context → ℕ → declared_scope.TermScope → declared_copy.AssignmentCopy →
    Element → Term
condition_by c n scope b e =
    is_index (all_put_in (spec_in c) (forms_in c n) (scope_inside c scope b)
    (tree.terms_of b.assignment.now.index.items)) e.index

-- what the element gets by a copy, and else by those before it
abbrev pub choice_by :
    declared_context.Context → ℕ → declared_scope.TermScope →
    List declared_copy.AssignmentCopy → declared_copy.AssignmentCopy → Element → Term
choice_by c n scope before b e =
    choice (condition_by c n scope b e)
    (put_in (spec_in c) (forms_in c n) (scope_inside c scope b)
    (tree.term_of b.assignment.now.value.term))
    (after_by c n scope before e)

-- the element is u after all copies; or the one at the place counts where the condition holds, and
-- else those before it
abbrev pub IsLatest :
    declared_context.Context → ℕ → ℕ → declared_scope.TermScope →
    List declared_copy.AssignmentCopy → Element → declared_latest.Latest → Type 0
IsLatest c n room scope bs e (latest.Unassigned u) =
    IsUnfolded (folding_in c) false room (after_by c n scope bs e) u
IsLatest c n room scope bs e (latest.Assigned place condition) =
    (place < length bs)
    × ((a : declared_copy.AssignmentCopy) → slice_get bs place ≡ Some a →
    (term_of condition.term ≡ folded (folding_in c) true (condition_by c n scope a e))
    × IsBehind (folding_in c) room (after_by c n scope bs e)
    (choice_by c n scope (take place bs) a e) true
    (condition.room + suc (operator_count (condition_by c n scope a e))))
