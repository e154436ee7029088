use Rattle.std.proofs.Common.{ℕ, List, [], ◌∷◌, ◌++◌, length, get_or, map, take, Some, sym, ap, ◌∙◌, subst, true, ◌≡◌, ◌≤◌, ◌&&◌, arith}
use Rattle.std.specs.Prelude.{slice_get, nat_le}
use Rattle.std.specs.List.{list_all}
use Rattle.std.proofs.lemmas.Bool.{and_parts, ltb-true}
use Rattle.pb_bytecode.specs.Limits.{fits, fits_sort, fits_equation, is_between}
use Rattle.std.proofs.lemmas.List.{take_all, take_more, get_or-map, length-map, map_push}
use Rattle.std.proofs.lemmas.Option.{get_or_from_slice_get}
use Rattle.pb_fixpoint_trees.specs.Equations.{Signature, total}
use Rattle.pb_sorts.specs.Layout.{count_of, carriers_of}
use Rattle.pb_sorts.specs.Instance.{size_of}
use Rattle.pb_bytecode.specs.Contents.{EquationContents, Contents, counts}
use Rattle.pb_bytecode.specs.Views.{equation_contents}
use Rattle.pb_bytecode.specs.Decoded.{module_contents}
use Rattle.pb_sorts.specs.declared.carrier.Carrier.{Carrier}
use Rattle.pb_bytecode.specs.Meaning.{signature_of}
use Rattle.pb_bytecode.proofs.InstanceCounts.{count_is_total}
use Rattle.pb_game_of_trees.specs.Equations.{plain}
use Rattle.pb_game_of_trees.proofs.Sizes.{size_at, contents_at}
use Rattle.pb_game_of_trees.proofs.signatures.Signatures.of_module.Goals.{After-equation_count-k-end}
use Rattle.pb_game_of_trees.proofs.signatures.Signatures.of_module.Goals as goal

-- as many signatures are made as the module has equations
many : (c : After-equation_count-k-end) → length c.args.verified.now.equations ≡ c.equation_count-k-end.result
many c = omega (arith, c.equation_count-k-end.ensures.count, ap length c.layout-layout.ensures, length-map c.args.verified.now.equations (λ (e : EquationContents). e.parameters))

-- all of them, where k are
all_taken : (c : After-equation_count-k-end) (k : ℕ) → c.equation_count-k-end.result ≤ k →
    take k (map signature_of c.args.verified.now.equations) ≡ map signature_of c.args.verified.now.equations
all_taken c k all = take_all k (map signature_of c.args.verified.now.equations) (omega (arith, many c, length-map c.args.verified.now.equations signature_of))

pub invariant_of-result-clause-numbered : goal.invariant_of-result-clause-numbered
invariant_of-result-clause-numbered c =
    let xs = map signature_of c.args.verified.now.equations in
    let count : c.count-few.result ≡ total xs = c.count-few.ensures.count ∙ (ap count_of c.layout-layout.ensures ∙ count_is_total c.args.verified.now) in
    omega (arith, ap total (c.loop-k.invariant ∙ all_taken (goal.at.invariant_of-result-clause-numbered c).After-equation_count-k-end c.loop-k.k (omega arith)), count, c.count-few.ensures.few)

-- a module has at most 64 equations
few_equations : (m : Contents) → fits m ≡ true → length m.equations ≤ 64
few_equations m h =
    let rest = (and_parts (is_between 0 256 (length m.sorts) && list_all fits_sort m.sorts) _ h).1 in
    let equations = (and_parts (is_between 1 65 (length m.equations) && list_all (fits_equation m.version (counts m.sorts)) m.equations) _ rest).0 in
    let between = (and_parts (is_between 1 65 (length m.equations)) _ equations).0 in
    omega (arith, ltb-true (length m.equations) 65 (and_parts (nat_le 1 (length m.equations)) _ between).1)

pub invariant_of-result-clause-few : goal.invariant_of-result-clause-few
invariant_of-result-clause-few c =
    let es = c.args.verified.now.equations in
    let same : module_contents c.module-module.result.now ≡ c.args.verified.now = c.module-module.ensures in
    let few = few_equations c.args.verified.now (subst (λ (x : Contents). fits x ≡ true) same c.module-module.result.now.within_limits) in
    let all = c.loop-k.invariant ∙ all_taken (goal.at.invariant_of-result-clause-few c).After-equation_count-k-end c.loop-k.k (omega arith) in
    omega (arith, few, ap length all, length-map c.loop-k.signatures.items plain, length-map es signature_of)

pub loop-k-preserved : goal.loop-k-preserved
loop-k-preserved c =
    let k = c.loop-k.k in
    let es = c.args.verified.now.equations in
    let xs = map signature_of es in
    let equation = c.index.result.now in
    let e = equation_contents equation in
    let same : module_contents c.module-module.result.now ≡ c.args.verified.now = c.module-module.ensures in
    let count_es : length es ≡ c.equation_count-k-end.result = many (goal.at.loop-k-preserved c).After-equation_count-k-end in
    let listed : map equation_contents c.module-module.result.now.equations.items ≡ es = ap (λ (m : Contents). m.equations) same in
    let count : length c.module-module.result.now.equations.items ≡ length es =
    sym (length-map c.module-module.result.now.equations.items equation_contents) ∙ ap length listed in
    let at : slice_get es k ≡ Some e =
    sym (ap (λ (ys : List EquationContents). slice_get ys k) listed) ∙ contents_at c.module-module.result.now.equations.items k equation (omega (arith, count_es, count)) c.index.ensures in
    let size : c.size.result ≡ (signature_of e).size = c.size.ensures ∙ (ap (λ (ls : List (List Carrier)). size_of (carriers_of ls) k) c.layout-layout.ensures ∙ size_at es k e at) in
    let value : Signature = record { sign = equation.sign; size = c.size.result } in
    let is : value ≡ signature_of e = ap (λ (n : ℕ). let s : Signature = record { sign = equation.sign; size = n } in s) size in
    let here : get_or xs k value ≡ signature_of e =
    get_or-map signature_of es k e value (omega (arith, count_es)) ∙ ap signature_of (get_or_from_slice_get es k e e at) in
    let pushed : map plain c.push.new.self.items ≡ map plain c.loop-k.signatures.items ++ value ∷ [] =
    ap (map plain) c.in_ok-push.ensures.items ∙ map_push plain c.loop-k.signatures.items _ in
    pushed ∙ (ap (λ (ys : List Signature). ys ++ value ∷ []) c.loop-k.invariant
    ∙ (ap (λ (s : Signature). take k xs ++ s ∷ []) (is ∙ sym here)
    ∙ sym (take_more xs k value (omega (arith, count_es, length-map es signature_of)))))
