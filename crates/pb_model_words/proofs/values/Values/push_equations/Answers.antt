use Rattle.std.proofs.Common.{◌≡◌, ◌<◌, ◌≤◌, [], ◌++◌, codes, length, take, string_bytes, refl, sym, ap, ◌∙◌, append-nil, arith}
use Rattle.std.specs.Prelude.{if◌then◌else◌}
use Rattle.std.proofs.lemmas.Bool.Decides.{Decides-eqb}
use Rattle.std.proofs.lemmas.List.{length-drop, length-take}
use Rattle.pb_model_words.specs.Words.{marked}
use Rattle.pb_model_words.specs.View.{declarations}
use Rattle.pb_model_words.proofs.ArrayWords.{array-put, array-within, equations-cut, equations-none, not-none}
use Rattle.pb_model_words.proofs.values.Values.push_equations.Goals as goal
use Rattle.pb_model_words.proofs.values.Values.push_equations.Goals.{After-first_array_length-length}

-- there are variables left, and the first array is within them
some : (c : After-first_array_length-length) → 0 < length c.loop-variables_left.variables_left.now
some c = not-none (length c.loop-variables_left.variables_left.now) c.is_empty.result c.is_empty.ensures c.loop-variables_left-test.true

within : (c : After-first_array_length-length) → c.first_array_length-length.result ≤ length c.loop-variables_left.variables_left.now
within c = array-within c.loop-variables_left.variables_left.now c.first_array_length-length.result (some c) c.first_array_length-length.ensures

pub slice_bounds-elements-end : goal.slice_bounds-elements-end
slice_bounds-elements-end c =
    let n = c.first_array_length-length.result in
    omega (arith, length-take n c.loop-variables_left.variables_left.now, within (goal.at.slice_bounds-elements-end c).After-first_array_length-length)

pub slice_bounds-push_array-end : goal.slice_bounds-push_array-end
slice_bounds-push_array-end c =
    let n = c.first_array_length-length.result in
    omega (arith, length-take n c.loop-variables_left.values_left.now, c.loop-variables_left.invariant.0, within (goal.at.slice_bounds-push_array-end c).After-first_array_length-length)

pub variables_behind-variables_left-requires : goal.variables_behind-variables_left-requires
variables_behind-variables_left-requires c = within (goal.at.variables_behind-variables_left-requires c).After-first_array_length-length

pub values_behind-values_left-requires : goal.values_behind-values_left-requires
values_behind-values_left-requires c =
    omega (arith, c.loop-variables_left.invariant.0, within (goal.at.values_behind-values_left-requires c).After-first_array_length-length)

pub loop-variables_left-preserved : goal.loop-variables_left-preserved
loop-variables_left-preserved c =
    let D = c.loop-variables_left.variables_left.now in
    let V = c.loop-variables_left.values_left.now in
    let n = c.first_array_length-length.result in (
      ap length c.variables_behind-variables_left.ensures
          ∙ (omega (arith, length-drop n D, length-drop n V, c.loop-variables_left.invariant.0) ∙ sym (ap length c.values_behind-values_left.ensures)),
      array-put (declarations c.args.self.now.sorts.now) D (take n D) c.variables_behind-variables_left.result.now V (take n V) c.values_behind-values_left.result.now n
          (string_bytes c.loop-variables_left.text) (string_bytes c.push_array.new.text) _ (if c.loop-variables_left.is_first then [] else codes ", ") (codes ", ")
          c.loop-variables_left.invariant.0 (some (goal.at.loop-variables_left-preserved c).After-first_array_length-length) c.first_array_length-length.ensures
          refl c.variables_behind-variables_left.ensures refl c.values_behind-values_left.ensures c.in_ok-push_array.ensures c.loop-variables_left.invariant.1,
    )

pub returns : goal.returns
returns c =
    let sorts = declarations c.args.self.now.sorts.now in
    let none : length c.loop-variables_left.variables_left.now ≡ 0 =
    (Decides-eqb (length c.loop-variables_left.variables_left.now) 0).0 (sym c.is_empty.ensures ∙ c.loop-variables_left-test.false) in
    let mark = if c.loop-variables_left.is_first then [] else codes ", " in
    let text = string_bytes c.loop-variables_left.text in
    sym (append-nil text)
    ∙ (ap (λ us. text ++ marked mark (codes ", ") us) (sym (equations-none sorts c.loop-variables_left.variables_left.now c.loop-variables_left.values_left.now none))
    ∙ (c.loop-variables_left.invariant.1
    ∙ ap (λ us. string_bytes c.args.text.now ++ marked [] (codes ", ") us)
    (equations-cut sorts c.args.variables.now c.args.values.now c.min-count.result (omega arith))))
