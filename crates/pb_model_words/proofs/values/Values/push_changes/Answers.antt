use Rattle.std.proofs.Common.{◌≡◌, Bool, false, String, Global, ◌+◌, ◌++◌, ℕ, List, pos, map, drop, get_or, codes, string_bytes, refl, sym, ap, ◌∙◌, arith, SFits, w64, to_z, of_z, to_z-of_z}
use Rattle.std.specs.Prelude.{if◌then◌else◌}
use Rattle.pb_model_words.specs.Words.{binding_text, changes, marked}
use Rattle.pb_model_words.specs.View.{declarations, variable_said}
use Rattle.pb_model_words.proofs.Listed.{changes-same, changes-other, changes-end, went-on, ended, same-word}
use Rattle.pb_model_words.proofs.values.Values.push_changes.Goals as goal
use Rattle.pb_model_words.proofs.values.Values.push_changes.Goals.{then-before-k+in_ok-push_mark+in_ok-push_binding, else-before-k}

-- where the branches join
joined : (t u first next R : List ℕ) (b d : Bool) (ws : List (List ℕ)) → t ≡ u → b ≡ d
    → u ++ marked (if d then first else next) next ws ≡ R → t ++ marked (if b then first else next) next ws ≡ R
joined t u first next R b d ws e f whole =
    ap (λ x. x ++ marked (if b then first else next) next ws) e
    ∙ ap (λ x. u ++ marked (if x then first else next) next ws) f
    ∙ whole

pub loop-k-preserved : goal.loop-k-preserved
loop-k-preserved c =
    let sorts = declarations c.args.self.now.sorts.now in
    let xs = c.args.variables.now in
    let vs = c.args.before.now in
    let ws = c.args.after.now in
    let k = c.loop-k.k in
    let v = get_or vs k (pos 0) in
    let w = get_or ws k (pos 0) in
    let v_fits : SFits w64 v = record { sfits = omega arith } in
    let w_fits : SFits w64 w = record { sfits = omega arith } in
    let rest = changes sorts (map variable_said (drop (k + 1) xs)) (drop (k + 1) vs) (drop (k + 1) ws) in
    let all = changes sorts (map variable_said (drop k xs)) (drop k vs) (drop k ws) in
    elim c.if-before-k.branch [
      | then-before-k+in_ok-push_mark+in_ok-push_binding h ↦
          let x = h.index-variables-k.result in
          let word = to_z w64 (of_z w64 w) in
          let other = changes-other sorts xs vs ws k x v word (omega arith) (omega arith) (omega arith) h.index-variables-k.is refl (to_z-of_z w_fits)
          (λ e. h.if-before-k.true (ap (of_z w64) (e ∙ to_z-of_z w_fits))) in
          joined (string_bytes c.if-before-k.text) (string_bytes h.push_binding.new.text) (codes ": ") (codes ", ") _ c.if-before-k.is_first false rest
          (ap (λ (s : String Global). string_bytes s) h.text-is) h.is_first-is
          (went-on (string_bytes c.loop-k.text) (string_bytes h.push_mark.new.text) (string_bytes h.push_binding.new.text) (if c.loop-k.is_first then codes ": " else codes ", ") (codes ", ")
          (binding_text sorts (variable_said x) (codes " := ") word) _ all rest c.loop-k.invariant other h.in_ok-push_mark.ensures h.in_ok-push_binding.ensures)
      | else-before-k h ↦
          let same = changes-same sorts xs vs ws k v w (omega arith) (omega arith) (omega arith) refl refl (same-word v w v_fits w_fits h.if-before-k.false) in
          joined (string_bytes c.if-before-k.text) (string_bytes c.loop-k.text) (codes ": ") (codes ", ") _ c.if-before-k.is_first c.loop-k.is_first rest
          (ap (λ (s : String Global). string_bytes s) h.text-is) h.is_first-is
          (ap (λ (us : List (List ℕ)). string_bytes c.loop-k.text ++ marked (if c.loop-k.is_first then codes ": " else codes ", ") (codes ", ") us) (sym same) ∙ c.loop-k.invariant)
    ]

pub returns : goal.returns
returns c =
    let none = changes-end (declarations c.args.self.now.sorts.now) c.args.variables.now c.args.before.now c.args.after.now c.loop-k.k (omega arith) in
    ended _ _ _ _ _ c.loop-k.invariant none
