use Rattle.std.proofs.Common.{arith, ◌≡◌, ◌∷◌, [], ◌++◌, map, length, sym, ap, ◌∙◌, append_assoc, append-nil}
use Rattle.std.specs.Prelude.{flat_map}
use Rattle.std.proofs.lemmas.List.{map-append}
use Rattle.std.specs.Vec.Iter.{into_iter_items}
use Rattle.pb_text_tree.specs.Form.{sort_declaration_form}
use Rattle.pb_protocol_tree.specs.Form.{bounds_form}
use Rattle.pb_model_text.specs.Links.{bounds_said, declared_sort_form}
use Rattle.pb_model_text.specs.Models.{declaration_in, bounds_in, listed_bounds}
use Rattle.pb_model_text.proofs.InstanceLemmas.{nothing-left}
use Rattle.pb_model_text.proofs.SortLemmas.{declarations-last, bounds-last}
use Rattle.pb_model_text.proofs.model.apart.Goals as goal

pub sorts-preserved : goal.sorts-preserved
sorts-preserved c =
    let at = c.sorts in
    let x = c.in-Some.sort in
    let steps : into_iter_items at.sort-iterator ≡ x ∷ into_iter_items c.next.new.self = c.in-Some.ensures.steps.0 in
    let declared : map sort_declaration_form c.push.new.self.items ≡ map declaration_in (map declared_sort_form (at.yielded ++ x ∷ [])) =
    ap (map sort_declaration_form) c.in_ok-push.ensures.items ∙ map-append sort_declaration_form at.declarations.items (x.declaration ∷ [])
    ∙ ap (λ v. v ++ sort_declaration_form x.declaration ∷ []) at.invariant.1 ∙ declarations-last at.yielded x in
    let bounded : map bounds_form c.push_bounds.new.bounds.items ≡ flat_map bounds_in (map declared_sort_form (at.yielded ++ x ∷ [])) =
    c.in_ok-push_bounds.ensures ∙ ap (λ v. v ++ listed_bounds (bounds_said x.bounds)) at.invariant.2 ∙ bounds-last at.yielded x in (
      append_assoc at.yielded (x ∷ []) _ ∙ rw (← steps) at.invariant.0,
      declared,
      bounded,
      let was = at.invariant.3 in
          let gone = c.in-Some.ensures.steps.1 in
          let short = ap length steps in
          omega arith,
    )

pub returns-clause-declarations : goal.returns-clause-declarations
returns-clause-declarations c =
    let at = c.sorts in
    let none = c.in-None.ensures.steps in
    let empty : into_iter_items at.sort-iterator ≡ [] = nothing-left _ (sym at.invariant.3 ∙ none.0) in
    let all : at.yielded ≡ c.args.sorts.items = sym (append-nil at.yielded) ∙ rw empty at at.invariant.0 ∙ c.into_iter-sort-iterator.ensures.into_iter_gives.0 in
    at.invariant.1 ∙ ap (λ v. map declaration_in (map declared_sort_form v)) all

pub returns-clause-bounds : goal.returns-clause-bounds
returns-clause-bounds c =
    let at = c.sorts in
    let none = c.in-None.ensures.steps in
    let empty : into_iter_items at.sort-iterator ≡ [] = nothing-left _ (sym at.invariant.3 ∙ none.0) in
    let all : at.yielded ≡ c.args.sorts.items = sym (append-nil at.yielded) ∙ rw empty at at.invariant.0 ∙ c.into_iter-sort-iterator.ensures.into_iter_gives.0 in
    at.invariant.2 ∙ ap (λ v. flat_map bounds_in (map declared_sort_form v)) all
