use Rattle.std.proofs.Common.{◌≡◌, ◌∙◌, ℕ, sym, ap, drop, length, List}
use Rattle.pb_sorts.specs.declared.carrier.Carrier.{Carrier}
use Rattle.pb_typing_tree.specs.Elaboration.{elaborated}
use Rattle.pb_typing_nodes.specs.Contexts.{scope_in, slots_in, text_in}
use Rattle.pb_typing_nodes.proofs.SlotLemmas.{shapes_behind}
use Rattle.pb_typing.specs.Tree.{formula_of}
use Rattle.pb_typing.proofs.equation.check_under.Goals as goal

pub returns : goal.returns
returns c =
    let context = c.args.context.now in
    let f = c.args.formula.now in
    let parameters = c.args.parameters.now in
    let begun = c.in_ok-carriers.carriers.items in
    let at : length begun ≡ length parameters = ap length c.in_ok-carriers.ensures.items in
    let own = c.in_ok-loops.ensures ∙ ap (λ (cs : List Carrier). drop (length parameters) cs) c.deref.ensures.value in
    let h = c.in_ok-right.ensures in (
      h.checked.0,
      record {
        right = h.checked.1 ∙ ap (λ (n : ℕ). elaborated (text_in context) (slots_in context) (scope_in context) n (formula_of f)) at;
        loops = shapes_behind begun c.check_formula.new.carriers.items c.in_ok-loops.loops.items (length parameters) _ h.carriers (sym at) own;
        calls = h.places;
      },
    )
