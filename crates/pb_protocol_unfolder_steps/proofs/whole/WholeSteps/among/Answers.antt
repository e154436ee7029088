use Rattle.std.proofs.Common.{◌∙◌, ◌++◌, ap, List, map}
use Rattle.pb_text_tree.specs.declared.sort.SortDeclaration.{SortDeclaration}
use Rattle.pb_text_meaning.specs.Syntax.{Name}
use Rattle.pb_protocol_meaning.specs.Erase.{protocol_of}
use Rattle.pb_protocol_unfolding.specs.Unfolding.{Element, all_elements, name_of}
use Rattle.pb_protocol_unfolder_terms.specs.View.{spec_of}
use Rattle.pb_protocol_unfolder_steps.specs.WholeSteps.{names_declared}
use Rattle.pb_protocol_unfolder_steps.proofs.WholeLemmas.{declared-named, many-said}
use Rattle.pb_protocol_unfolder_steps.proofs.whole.WholeSteps.among.Goals as goal

pub invariant_of-result : goal.invariant_of-result
invariant_of-result c =
    let p = c.args.protocol.now in
    let m = protocol_of p in
    record {
      counted = c.in_ok-many.ensures ∙ many-said (spec_of c.sorts_of.result) p c.deref.result.now c.sorts_of.ensures c.deref.ensures.value;
      fresh =
          c.in_ok-push_all_declared.ensures
          ∙ ap (λ (v : List Name). v ++ names_declared c.deref-2.result.now) (c.in_ok-others.ensures ∙ ap (λ (es : List Element). map name_of es) c.requires.all)
          ∙ ap (λ (v : List Name). map name_of (all_elements m) ++ v)
          (ap (λ (ds : List SortDeclaration). names_declared ds) c.deref-2.ensures.value ∙ declared-named p.sorts.items);
      by_values = c.in_ok-valued.ensures;
    }
