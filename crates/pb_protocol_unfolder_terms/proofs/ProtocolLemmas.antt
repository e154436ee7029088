-- What terms of a protocol are unfolded to, by the protocol in place of the code's context.
use Rattle.std.proofs.Common.{◌≡◌, ℕ, suc, Bool, List, [], ◌∷◌, map, take, length, refl, ◌∙◌, ap, subst}
use Rattle.std.specs.Prelude.{Result, Ok, Err}
use Rattle.pb_text_meaning.specs.Syntax.{Term, NoTerms, SortDeclaration, Range, Spec}
use Rattle.pb_protocol_meaning.specs.Syntax.{StateVariable, Definition, Protocol}
use Rattle.pb_text_tree.specs.Form.{TermForm}
use Rattle.pb_protocol_tree.specs.Form.{ProtocolForm}
use Rattle.pb_protocol_meaning.specs.Erase.{erase}
use Rattle.pb_protocol_meaning.specs.Steps.{data_of}
use Rattle.pb_base.specs.declared.or_memory.OrMemory.{OrMemory}
use Rattle.pb_protocol_unfolding.specs.PutIn.{Forms, TermScope, reads, with_definitions}
use Rattle.pb_protocol_unfolder_terms.specs.declared.context.Context.{Context}
use Rattle.pb_protocol_unfolder_terms.specs.declared.fault.UnfoldFault.{UnfoldFault}
use Rattle.pb_protocol_unfolder_terms.specs.declared.scope.TermScope as declared_scope
use Rattle.pb_protocol_unfolder_terms.specs.declared.unfolded.Unfolded.{Unfolded}
use Rattle.pb_protocol_unfolder_terms.specs.Contexts.{IsContext, definition_of, folding_in, scope_in, spec_in, state_variable_of, without_state}
use Rattle.pb_protocol_unfolder_terms.specs.Scopes.{scope_of}
use Rattle.pb_protocol_unfolder_terms.specs.Met.{Surroundings}
use Rattle.pb_protocol_unfolder_terms.specs.Tells.{placed_term, surroundings_in}
use Rattle.pb_protocol_unfolder_terms.specs.TermFaults.{surroundings_at_start, surroundings_of, term_of_definition}
use Rattle.pb_protocol_unfolder_terms.specs.Unfolding.{Unfolds}
use Rattle.pb_protocol_unfolder_terms.proofs.SortsLemmas.{same-folded}

taken : {A : Type 0} (xs : List A) → take (length xs) xs ≡ xs
taken [] = refl
taken (x ∷ xs) = ap (λ ys. x ∷ ys) (taken xs)

pub mapped-length : {A B : Type 0} (f : A → B) (xs : List A) → length xs ≡ length (map f xs)
mapped-length f [] = refl
mapped-length f (x ∷ xs) = ap suc (mapped-length f xs)

by-sorts : (S T : Spec) → S.sorts ≡ T.sorts → (b : Bool) (n : ℕ) (whole : Term) (r : Result Unfolded (OrMemory UnfoldFault)) → Unfolds S b n whole r → Unfolds T b n whole r
by-sorts S T same b n whole (Ok u) h = record { term = h.term ∙ same-folded S T same b whole; form = h.form; room = h.room }
by-sorts S T same b n whole (Err e) h = h

abbrev sorts-and-ranges : List SortDeclaration → List Range → Spec
sorts-and-ranges ds rs = record { sorts = ds; ranges = rs; equations = []; initial = []; arguments = NoTerms }

same-spec : (m : Protocol) (c : Context) → IsContext m c → spec_in c ≡ data_of m
same-spec m c is = ap (λ ds. sorts-and-ranges ds (spec_in c).ranges) is.sorts ∙ ap (sorts-and-ranges m.sorts) is.ranges

abbrev made : Spec → List StateVariable → List Definition → List TermForm → Surroundings
made S ys ds ts = record { spec = S; variables = ys; definitions = ds; terms = ts }

-- what terms are unfolded by is what the protocol has
pub same-surroundings : (p : ProtocolForm) (c : Context) → IsContext (erase p) c → map placed_term c.definitions.items ≡ map term_of_definition p.definitions → surroundings_in c ≡ surroundings_of p
same-surroundings p c is terms =
    ap (λ S. made S (surroundings_in c).variables (surroundings_in c).definitions (surroundings_in c).terms) (same-spec (erase p) c is)
    ∙ ap (λ ys. made (data_of (erase p)) ys (surroundings_in c).definitions (surroundings_in c).terms) is.variables
    ∙ ap (λ ds. made (data_of (erase p)) (erase p).variables ds (surroundings_in c).terms) is.definitions
    ∙ ap (made (data_of (erase p)) (erase p).variables (erase p).definitions) terms

-- and at the start without the state
pub same-at-start : (p : ProtocolForm) (c : Context) → IsContext (without_state (erase p)) c → map placed_term c.definitions.items ≡ map term_of_definition p.definitions
    → surroundings_in c ≡ surroundings_at_start p
same-at-start p c is terms =
    ap (λ S. made S (surroundings_in c).variables (surroundings_in c).definitions (surroundings_in c).terms) (same-spec (without_state (erase p)) c is)
    ∙ ap (λ ys. made (data_of (erase p)) ys (surroundings_in c).definitions (surroundings_in c).terms) is.variables
    ∙ ap (λ ds. made (data_of (erase p)) [] ds (surroundings_in c).terms) is.definitions
    ∙ ap (made (data_of (erase p)) [] (erase p).definitions) terms

abbrev forms-by : Spec → List StateVariable → List Definition → ℕ → Forms
forms-by S ys ds n = with_definitions S (reads S ys) (take n ds)

-- what is made of a specification, of forms and of what names stand for is the same by the protocol
module _ (m : Protocol) (c : Context) (is : IsContext m c) (scope : declared_scope.TermScope) (make : Spec → Forms → TermScope → Term) where
  abbrev by : Spec → List StateVariable → List Definition → ℕ → Term
  by S ys ds n = make S (forms-by S ys ds n) (scope_of S (forms-by S ys ds) scope)

  pub of-protocol : by (spec_in c) (map state_variable_of c.variables.items) (map definition_of c.definitions.items) (length c.definitions.items)
      ≡ make (data_of m) (with_definitions (data_of m) (reads (data_of m) m.variables) m.definitions) (scope_in m scope)
  of-protocol =
      ap (λ S. by S (map state_variable_of c.variables.items) (map definition_of c.definitions.items) (length c.definitions.items)) (same-spec m c is)
      ∙ ap (λ ys. by (data_of m) ys (map definition_of c.definitions.items) (length c.definitions.items)) is.variables
      ∙ ap (by (data_of m) m.variables (map definition_of c.definitions.items)) (mapped-length definition_of c.definitions.items)
      ∙ ap (λ ds. by (data_of m) m.variables ds (length ds)) is.definitions
      ∙ ap (λ ds. make (data_of m) (with_definitions (data_of m) (reads (data_of m) m.variables) ds) (scope_in m scope)) (taken m.definitions)

  pub unfolds-of-protocol : (b : Bool) (n : ℕ) (r : Result Unfolded (OrMemory UnfoldFault))
      → Unfolds (folding_in c) b n (by (spec_in c) (map state_variable_of c.variables.items) (map definition_of c.definitions.items) (length c.definitions.items)) r
      → Unfolds (data_of m) b n (make (data_of m) (with_definitions (data_of m) (reads (data_of m) m.variables) m.definitions) (scope_in m scope)) r
  unfolds-of-protocol b n r h =
      by-sorts (folding_in c) (data_of m) is.sorts b n (make (data_of m) (with_definitions (data_of m) (reads (data_of m) m.variables) m.definitions) (scope_in m scope)) r
      (subst (λ (t : Term). Unfolds (folding_in c) b n t r) of-protocol h)
