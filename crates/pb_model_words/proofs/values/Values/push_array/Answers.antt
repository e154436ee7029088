use Rattle.std.proofs.Common.{◌≡◌, ◌<◌, [], codes, length, map, get_or, pos, string_bytes, sym, ◌∙◌, arith, SFits, w64, to_z, of_z, to_z-of_z}
use Rattle.std.specs.Prelude.{if◌then◌else◌}
use Rattle.std.proofs.lemmas.Bool.Decides.{Decides-eqb}
use Rattle.std.proofs.lemmas.List.{length-map}
use Rattle.pb_model_words.specs.Arrays.{merged_array, variable_values}
use Rattle.pb_model_words.specs.View.{declarations, variable_said}
use Rattle.pb_model_words.proofs.FirstArrays.{merged-each, merged-none}
use Rattle.pb_model_words.proofs.ArrayWords.{array_words, not-none, one-word, same-words, word-put}
use Rattle.pb_model_words.proofs.values.Values.push_array.Goals as goal
use Rattle.pb_model_words.proofs.values.Values.push_array.Goals.{then-is_empty-via-then-is_empty, then-is_empty-via-else-is_empty+then-not-are_equal}

pub returns-then-is_empty : goal.returns-then-is_empty
returns-then-is_empty c =
    let xs = map variable_said c.args.variables.now in
    let vs = c.args.values.now in
    let long = length-map c.args.variables.now variable_said in
    let same : merged_array (variable_values xs vs) ≡ variable_values xs vs = elim c.then-is_empty.branch [
      | then-is_empty-via-then-is_empty w ↦ merged-none xs vs (long ∙ (Decides-eqb (length c.args.variables.now) 0).0 (sym c.is_empty.ensures ∙ w.if-is_empty.true))
      | then-is_empty-via-else-is_empty+then-not-are_equal w ↦
          merged-each xs vs (omega (arith, long, c.requires)) (sym w.are_equal.ensures ∙ w.if-not-are_equal.true)
    ] in
    same-words (declarations c.args.self.now.sorts.now) c.push_each.result _ _ _ _ _ _ same c.push_each.ensures

pub returns : goal.returns
returns c =
    let sorts = declarations c.args.self.now.sorts.now in
    let x = c.index-variables-0.result in
    let v = get_or c.args.values.now 0 (pos 0) in
    let fits : SFits w64 v = record { sfits = omega arith } in
    let some : 0 < length c.args.variables.now = not-none (length c.args.variables.now) c.is_empty.result c.is_empty.ensures c.if-is_empty.false in
    let word = one-word sorts c.args.variables.now c.args.values.now x (to_z w64 (of_z w64 v)) c.array_name.result.now c.requires some
    c.index-variables-0.is (to_z-of_z fits) (sym c.are_equal.ensures ∙ c.if-not-are_equal.false) c.array_name.ensures in
    word-put c.push_binding.result (string_bytes c.args.text.now) (string_bytes c.push_mark.new.text) (string_bytes c.push_binding.new.text)
    (if c.args.begins then [] else codes ", ") (codes ", ") _ (array_words sorts (map variable_said c.args.variables.now) c.args.values.now) word
    c.in_ok-push_mark.ensures c.push_binding.ensures
