-- One more byte, after the label where it begins a line.
use Rattle.std.proofs.Common.{◌≡◌, ◌<◌, ◌+◌, ◌++◌, ◌∙◌, ℕ, suc, Bool, List, [], ◌∷◌, add-one, ap, drop, get_or, length, rules, subst, sym}
use Rattle.std.specs.Prelude.{◌==◌, if◌then◌else◌, true}
use Rattle.std.proofs.Math.Seq.{drop-cons}
use Rattle.std.proofs.lemmas.List.{append_assoc}
use Rattle.pb_command_files.specs.Labels.{labelled}
use Rattle.pb_command_files.proofs.labels.push_labelled.Goals as goal

labelled_next : (label : List ℕ) (begins : Bool) (text : List ℕ) (k : ℕ) (start before after : List ℕ) → k < length text
    → after ≡ (before ++ (if begins then label else [])) ++ get_or text k 0 ∷ [] → before ++ labelled label begins (drop k text) ≡ start
    → after ++ labelled label (get_or text k 0 == 10) (drop (k + 1) text) ≡ start
labelled_next label begins text k start before after within is so =
    let first = if begins then label else [] in
    let byte = get_or text k 0 in
    let rest = labelled label (byte == 10) (drop (k + 1) text) in
    let cut : drop k text ≡ byte ∷ drop (k + 1) text = drop-cons text k 0 within ∙ ap (λ j. byte ∷ drop j text) (sym (add-one k)) in
    ap (λ xs. xs ++ rest) is
    ∙ (append_assoc (before ++ first) (byte ∷ []) rest
    ∙ (append_assoc before first (byte ∷ rest) ∙ (ap (λ t. before ++ labelled label begins t) (sym cut) ∙ so)))

pub loop-byte-preserved : goal.loop-byte-preserved
loop-byte-preserved c =
    labelled_next c.args.label.now c.loop-byte.begins c.args.text.now c.loop-byte.byte-index (c.args.lines.now.items ++ labelled c.args.label.now true c.args.text.now)
    c.loop-byte.lines.items c.push.new.self.items c.loop-byte-test.true (search rules) c.loop-byte.invariant
