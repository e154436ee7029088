use Rattle.std.proofs.Common.{◌≡◌, ℕ, List, ◌+◌, ◌++◌, pos, map, drop, get_or, length, codes, string_bytes, sym, ap, ◌∙◌, arith, SFits, w64, to_z, of_z, to_z-of_z}
use Rattle.std.specs.Prelude.{if◌then◌else◌}
use Rattle.std.proofs.lemmas.List.{append-nil}
use Rattle.pb_model_words.specs.declared.variables.Variable as declared_variable
use Rattle.pb_model_words.specs.Words.{value_text, value_texts, in_brackets}
use Rattle.pb_model_words.specs.View.{declarations, variable_said}
use Rattle.pb_model_words.proofs.Listed.{value_texts-at, value_texts-end, value_texts-length, went-on, ended, bracketed, on_ok}
use Rattle.pb_model_words.proofs.values.Values.push_in_brackets.Goals as goal

pub returns-then-count-eq0 : goal.returns-then-count-eq0
returns-then-count-eq0 c =
    let none = value_texts-end (declarations c.args.self.now.sorts.now) c.args.variables.now c.args.values.now 0 (omega arith) in
    sym (append-nil (string_bytes c.args.text.now)) ∙ ap (λ (ws : List (List ℕ)). string_bytes c.args.text.now ++ in_brackets ws) (sym none)

pub loop-k-preserved : goal.loop-k-preserved
loop-k-preserved c =
    let sorts = declarations c.args.self.now.sorts.now in
    let xs = c.args.variables.now in
    let vs = c.args.values.now in
    let k = c.loop-k.k in
    let x = c.index-variables-k.result in
    let v = get_or vs k (pos 0) in
    let fits : SFits w64 v = record { sfits = omega arith } in
    let word = to_z w64 (of_z w64 v) in
    let at = value_texts-at sorts xs vs k x word (omega arith) (omega arith) c.index-variables-k.is (to_z-of_z fits) in
    went-on (string_bytes c.loop-k.text) (string_bytes c.push_mark.new.text) (string_bytes c.push.new.text) (if c.loop-k.is_first then codes "(" else codes ",") (codes ",")
    (value_text sorts (variable_said x).sort.text word) _ (value_texts sorts (map variable_said (drop k xs)) (drop k vs)) (value_texts sorts (map variable_said (drop (k + 1) xs)) (drop (k + 1) vs))
    c.loop-k.invariant at c.in_ok-push_mark.ensures (c.in_ok-push.ensures ∙ ap (λ (s : List ℕ). string_bytes c.push_mark.new.text ++ value_text sorts s word)
    (c.as_str.ensures.value ∙ ap (λ (y : declared_variable.Variable). string_bytes y.sort.now.text) (sym c.index-variables-k.is)))

pub returns : goal.returns
returns c =
    let sorts = declarations c.args.self.now.sorts.now in
    let xs = c.args.variables.now in
    let vs = c.args.values.now in
    let ws = value_texts sorts (map variable_said xs) vs in
    let none = value_texts-end sorts xs vs c.loop-k.k (omega arith) in
    let whole = ended _ _ _ _ _ c.loop-k.invariant none in
    let long : length ws ≡ c.min-count.result = value_texts-length sorts xs vs ∙ sym c.min-count.ensures in
    on_ok _ _ (string_bytes c.loop-k.text) (codes ")") _ c.push_str.ensures.bytes
    (λ e. bracketed (string_bytes c.loop-k.text) (string_bytes c.push_str.new.self) (string_bytes c.args.text.now) ws c.min-count.result long c.if-count-eq0.false whole e)
