-- What terms are unfolded by, in the words of the definitions.
use Rattle.std.specs.Prelude.{◌≡◌, ℕ, suc, ⊤, List, [], ◌∷◌, map, take, Option, Some}
use Rattle.std.specs.Prelude.{None, string_bytes}
use Rattle.std.specs.Borrow.{Bor}
use Rattle.std.specs.List.{slice_get}
use Rattle.pb_base_values.specs.Interval.{IntegerInterval}
use Rattle.pb_text_meaning.specs.Syntax.{Name, Term, Terms, Spec, NoTerms}
use Rattle.pb_protocol_meaning.specs.Syntax.{StateVariable, Definition, Protocol}
use Rattle.pb_protocol_folding.specs.View as tree
use Rattle.pb_protocol_meaning.specs.Steps.{data_of}
use Rattle.pb_protocol_unfolding.specs.PutIn.{Forms, TermScope, standing, put_in, read, reads}
use Rattle.pb_protocol_unfolding.specs.PutIn.{with_definitions}
use Rattle.pb_protocol_unfolder_terms.specs.declared.context.Context as declared_context
use Rattle.pb_protocol_unfolder_terms.specs.declared.context.StateVariable as declared_variable
use Rattle.pb_protocol_unfolder_terms.specs.declared.context.Definition as declared_definition
use Rattle.pb_protocol_unfolder_terms.specs.declared.meant.Meant as declared_meant
use Rattle.pb_protocol_unfolder_terms.specs.declared.meant.Meant.TheVariants as meant
use Rattle.pb_protocol_unfolder_terms.specs.declared.sorts.Variable as declared_index
use Rattle.pb_protocol_unfolder_terms.specs.declared.scope.TermScope as declared_scope
use Rattle.pb_protocol_unfolder_terms.specs.Bounds.{IsSeenWithin, interval, intervals, sort_interval}
use Rattle.pb_protocol_unfolder_terms.specs.Scopes.{scope_of}
use Rattle.pb_protocol_unfolder_terms.specs.View.{declarations, ranges_said, variable_of}

abbrev pub state_variable_of : declared_variable.StateVariable → StateVariable
state_variable_of x = record {
  name = string_bytes x.name.now.text;
  indices = map variable_of x.indices.items;
  sort = x.sort.now;
}

abbrev pub definition_of : declared_definition.Definition → Definition
definition_of d = record {
  name = d.name.now;
  parameters = map variable_of d.parameters.items;
  term = tree.term_of d.term.now;
}

abbrev pub spec_in : declared_context.Context → Spec
spec_in c = record {
  sorts = declarations c.declarations.now;
  ranges = ranges_said c.ranges.now;
  equations = [];
  initial = [];
  arguments = NoTerms;
}

-- between which numbers a flat term stays
abbrev pub interval_in : declared_context.Context → Term → Option IntegerInterval
interval_in c t = interval (spec_in c) (map state_variable_of c.variables.items) t

abbrev pub intervals_in : declared_context.Context → Terms → List (Option IntegerInterval)
intervals_in c ts = intervals (spec_in c) (map state_variable_of c.variables.items) ts

-- it is seen to stay among the values of the first of these indices, if there is one
abbrev pub IsSeenInside :
    declared_context.Context → List declared_index.Variable → Term → Type 0
IsSeenInside c [] t = ⊤
IsSeenInside c (i ∷ is) t =
    IsSeenWithin (interval_in c t) (sort_interval (spec_in c) i.sort.now)

-- what terms are folded by: the sorts alone
abbrev pub folding_in : declared_context.Context → Spec
folding_in c = tree.spec_of c.declarations.now

-- what names become by the first n definitions
abbrev pub forms_in : declared_context.Context → ℕ → Forms
forms_in c n =
    with_definitions (spec_in c) (reads (spec_in c) (map state_variable_of c.variables.items))
    (take n (map definition_of c.definitions.items))

abbrev pub terms_count : Terms → ℕ
terms_count Terms.NoTerms = 0
terms_count (Terms.Then t ts) = suc (terms_count ts)

-- a definition with its arguments put in, by the definitions before it
abbrev pub defined_term : Spec → Forms → Option Definition → Terms → Option Term
defined_term spec before None ts = None
defined_term spec before (Some d) ts =
    Some (put_in spec before (standing d.parameters ts []) d.term)

abbrev pub definition_term : Spec → Forms → List Definition → Option ℕ → Name → Terms → Option Term
definition_term spec base ds None x ts = base x ts
definition_term spec base ds (Some n) x ts =
    defined_term spec (with_definitions spec base (take n ds)) (slice_get ds n) ts

abbrev pub variable_term : Spec → Option (Bor declared_variable.StateVariable) → Terms → Option Term
variable_term spec None ts = None
variable_term spec (Some y) ts =
    Some (read spec (state_variable_of y.now).name (state_variable_of y.now).indices ts)

-- what a name with these arguments becomes
abbrev pub meant_term : declared_context.Context → declared_meant.Meant → Terms → Option Term
meant_term c meant.Neither ts = None
meant_term c (meant.Definition d n) ts =
    defined_term (spec_in c) (forms_in c n) (Some (definition_of d.now)) ts
meant_term c (meant.Variable y) ts = variable_term (spec_in c) (Some y) ts

-- it is what the terms of a protocol are unfolded by
pub record IsContext (m : Protocol) (c : declared_context.Context) : Type 0 where
  pub sorts : declarations c.declarations.now ≡ m.sorts
  pub ranges : ranges_said c.ranges.now ≡ m.ranges
  pub variables : map state_variable_of c.variables.items ≡ m.variables
  pub definitions : map definition_of c.definitions.items ≡ m.definitions

-- a protocol without state variables, which its initial state may not name
abbrev pub without_state : Protocol → Protocol
without_state m = record m { variables = [] }

-- what names become by the first n definitions of a protocol
abbrev pub forms_by : Protocol → ℕ → Forms
forms_by m n =
    with_definitions (data_of m) (reads (data_of m) m.variables) (take n m.definitions)

-- what names stand for in it, the innermost first
abbrev pub scope_in : Protocol → declared_scope.TermScope → TermScope
scope_in m scope = scope_of (data_of m) (forms_by m) scope
