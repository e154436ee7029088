use Rattle.std.proofs.Common.{◌+◌, pos, [], drop, get_or, codes, string_bytes, arith, SFits, w64, to_z, of_z, to_z-of_z}
use Rattle.std.specs.Prelude.{if◌then◌else◌}
use Rattle.pb_model_words.specs.Words.{binding_text}
use Rattle.pb_model_words.specs.View.{declarations, variable_said}
use Rattle.pb_model_words.proofs.Listed.{each_equation, equations-at, equations-end, went-on, ended}
use Rattle.pb_model_words.proofs.values.Values.push_each.Goals as goal

pub loop-k-preserved : goal.loop-k-preserved
loop-k-preserved c =
    let sorts = declarations c.args.self.now.sorts.now in
    let xs = c.args.variables.now in
    let vs = c.args.values.now in
    let k = c.loop-k.k in
    let x = c.index-variables-k.result in
    let v = get_or vs k (pos 0) in
    let fits : SFits w64 v = record { sfits = omega arith } in
    let word = to_z w64 (of_z w64 v) in
    let at = equations-at sorts xs vs k x word (omega arith) (omega arith) c.index-variables-k.is (to_z-of_z fits) in
    went-on (string_bytes c.loop-k.text) (string_bytes c.push_mark.new.text) (string_bytes c.push_binding.new.text) (if c.loop-k.is_first then [] else codes ", ") (codes ", ")
    (binding_text sorts (variable_said x) (codes " = ") word) _ (each_equation sorts (drop k xs) (drop k vs)) (each_equation sorts (drop (k + 1) xs) (drop (k + 1) vs))
    c.loop-k.invariant at c.in_ok-push_mark.ensures c.in_ok-push_binding.ensures

pub returns : goal.returns
returns c =
    let none = equations-end (declarations c.args.self.now.sorts.now) c.args.variables.now c.args.values.now c.loop-k.k (omega arith) in
    ended _ _ _ _ _ c.loop-k.invariant none
