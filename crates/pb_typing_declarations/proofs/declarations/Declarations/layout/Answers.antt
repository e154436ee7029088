use Rattle.std.proofs.Common.{◌≡◌, ◌∙◌, ◌≤◌, ◌<◌, ℕ, List, length, map, subst, sym, ap, arith, get_or, Vec, Global}
use Rattle.pb_sorts.specs.declared.carrier.Carrier.{Carrier}
use Rattle.std.specs.Prelude.{Result, Err, vec_len}
use Rattle.pb_base.specs.OrMemory.{IfFault}
use Rattle.pb_base.specs.declared.or_memory.OrMemory.{OrMemory}
use Rattle.pb_base.specs.declared.or_memory.OrMemory.TheVariants.{Refused, Memory}
use Rattle.pb_sorts.specs.declared.layout.Layout.{Layout}
use Rattle.pb_sorts.specs.declared.layout.TooManyInstances.{TooManyInstances}
use Rattle.pb_base.specs.declared.limits.TheConstants.{MAX_EQUATIONS, MAX_PARAMETERS}
use Rattle.pb_sorts.specs.Layout as layouts
use Rattle.pb_sorts.specs.Layout.{lists_of, count_of}
use Rattle.pb_typing_declarations.specs.Entries.{shapes_of}
use Rattle.pb_typing_declarations.specs.View.{limit_of, spec_of, text_of}
use Rattle.pb_typing_declarations.proofs.ReadParts.{few_clear}
use Rattle.pb_typing_declarations.proofs.LayoutLemmas.{few_lists, few_carriers, few_instances}
use Rattle.pb_typing_declarations.proofs.declarations.Declarations.layout.Goals as goal

pub counting-requires-clause-equations : goal.counting-requires-clause-equations
counting-requires-clause-equations c =
    let d = c.args.self.now in
    subst (λ (vs : List (Vec Carrier Global)). length vs ≤ MAX_EQUATIONS) (sym c.deref.ensures.value)
    (few_lists (spec_of d) (text_of d).equations d.carriers.items d.carried (few_clear (text_of d) (limit_of d) d.faultless))

pub counting-requires-clause-parameters : goal.counting-requires-clause-parameters
counting-requires-clause-parameters c =
    let d = c.args.self.now in
    subst (λ (vs : List (Vec Carrier Global)). (k : ℕ) (e : Vec Carrier Global) → k < length vs → vec_len (get_or vs k e) ≤ MAX_PARAMETERS) (sym c.deref.ensures.value)
    (few_carriers d.carriers.items d.carried.few)

fits : (r : Result Layout (OrMemory TooManyInstances)) (e : OrMemory TooManyInstances) → r ≡ Err e → (r ≡ Err (Refused (record {})) → ⊥) → IfFault e (λ _. ⊥)
fits r (Refused fault) is none = none is
fits r Memory is none = tt

pub only_memory-requires : goal.only_memory-requires
only_memory-requires c =
    let d = c.args.self.now in
    let few = few_instances (spec_of d) (text_of d).equations (lists_of d.carriers.items) d.carried in
    let same : count_of (lists_of c.deref.result.now) ≡ count_of (lists_of d.carriers.items) = ap (λ (vs : List (Vec Carrier Global)). count_of (lists_of vs)) c.deref.ensures.value in
    fits c.counting.result c.in-Err.error c.in-Err.is (λ is. let many = c.counting.ensures.too_many.0 is in omega (arith, few, same, many))

pub returns-in-Ok-clause-carriers : goal.returns-in-Ok-clause-carriers
returns-in-Ok-clause-carriers c =
    ap layouts.carriers_of (c.in-Ok.ensures.ok ∙ ap lists_of c.deref.ensures.value) ∙ c.args.self.now.carried.values

pub returns-in-Ok-clause-shapes : goal.returns-in-Ok-clause-shapes
returns-in-Ok-clause-shapes c =
    ap (λ (ls : List (List Carrier)). map shapes_of ls) (c.in-Ok.ensures.ok ∙ ap lists_of c.deref.ensures.value) ∙ c.args.self.now.carried.shapes
