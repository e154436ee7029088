-- Of what a group's variables add to its number, what those from k on add: the first one and the
-- others, and that nothing is left where there are no more. The same of lines, group by group.
use Rattle.std.proofs.Common.{◌≡◌, ℕ, zero, suc, ◌+◌, ◌<◌, ◌≤◌, min, List, [], ◌∷◌, ◌++◌, ◌-◌, length, get_or, take, drop, map, refl, sym, ap, ◌∙◌, append_assoc, arith}
use Rattle.std.proofs.lemmas.List.{drop-map, drop_min, take_all, length-drop}
use Rattle.pb_text_tree.specs.Form.{VariableForm}
use Rattle.pb_protocol_packing.specs.Packing.{capacity}
use Rattle.pb_protocol_packer.specs.declared.member.Member as declared_member
use Rattle.pb_protocol_packer.specs.declared.group.Group as declared_group
use Rattle.pb_protocol_packer.specs.Groups.{group_of, groups_in}
use Rattle.pb_protocol_packer.specs.Members.{members_said}
use Rattle.pb_model_words.specs.declared.variables.Variable as declared_variable
use Rattle.pb_model_words.specs.GroupLines.{counted_text, times_text, summands, line_of, variable_count, lines_of}
use Rattle.pb_model_words.specs.View.{variable_said}
use Rattle.pb_model_words.proofs.Listed.{drop-at}

pub summands-at : (xs : List declared_variable.Variable) (ps : List declared_member.Member) (k : ℕ) (x : declared_variable.Variable) (p : declared_member.Member) (weight : ℕ)
    → k < length xs → k < length ps → x ≡ get_or xs k x → p ≡ get_or ps k p → weight ≡ capacity (members_said (drop (k + 1) ps))
    → summands (map variable_said (drop k xs)) (members_said (drop k ps))
    ≡ times_text (counted_text (variable_said x).name.text p.low) weight ∷ summands (map variable_said (drop (k + 1) xs)) (members_said (drop (k + 1) ps))
summands-at xs ps k x p weight h h' e e' w =
    ap (λ (ys : List declared_variable.Variable). summands (map variable_said ys) (members_said (drop k ps))) (drop-at xs k x x h e)
    ∙ ap (λ (qs : List declared_member.Member). summands (map variable_said (x ∷ drop (k + 1) xs)) (members_said qs)) (drop-at ps k p p h' e')
    ∙ ap (λ (n : ℕ). times_text (counted_text (variable_said x).name.text p.low) n ∷ summands (map variable_said (drop (k + 1) xs)) (members_said (drop (k + 1) ps))) (sym w)

pub summands-end : (xs : List declared_variable.Variable) (ps : List declared_member.Member) (k : ℕ)
    → min (length xs) (length ps) ≤ k → summands (map variable_said (drop k xs)) (members_said (drop k ps)) ≡ []
summands-end [] ps zero h = refl
summands-end [] ps (suc k) h = refl
summands-end (x ∷ xs) [] zero h = refl
summands-end (x ∷ xs) [] (suc k) h = none (map variable_said (drop k xs))
  where
    none : (ys : List VariableForm) → summands ys [] ≡ []
    none [] = refl
    none (y ∷ ys) = refl
summands-end (x ∷ xs) (p ∷ ps) zero h = absurd (omega arith)
summands-end (x ∷ xs) (p ∷ ps) (suc k) h = summands-end xs ps k (omega arith)

-- a text so far with the lines that are left, one group on
pub lines-went-on : (text after R : List ℕ) (gs : List declared_group.Group) (k : ℕ) (g : declared_group.Group) (xs ys : List VariableForm) → k < length gs → g ≡ get_or gs k g
    → text ++ lines_of (groups_in (drop k gs)) xs ≡ R → after ≡ text ++ line_of (group_of g) xs → ys ≡ drop (variable_count (group_of g)) xs
    → after ++ lines_of (groups_in (drop (k + 1) gs)) ys ≡ R
lines-went-on text after R gs k g xs ys h e whole more behind =
    let rest = groups_in (drop (k + 1) gs) in
    ap (λ v. v ++ lines_of rest ys) more
    ∙ ap (λ v. (text ++ line_of (group_of g) xs) ++ lines_of rest v) behind
    ∙ append_assoc text (line_of (group_of g) xs) (lines_of rest (drop (variable_count (group_of g)) xs))
    ∙ ap (λ (hs : List declared_group.Group). text ++ lines_of (groups_in hs) xs) (sym (drop-at gs k g g h e))
    ∙ whole

-- the variables behind the first n
pub said-behind : (xs : List declared_variable.Variable) (n m : ℕ) → m ≡ min n (length xs) → map variable_said (take (length xs - m) (drop m xs)) ≡ drop n (map variable_said xs)
said-behind xs n m cut =
    let whole : length (drop m xs) ≤ length xs - m = omega (arith, length-drop m xs) in
    ap (map variable_said) (take_all (length xs - m) (drop m xs) whole)
    ∙ ap (λ (k : ℕ). map variable_said (drop k xs)) cut
    ∙ ap (map variable_said) (drop_min n xs)
    ∙ sym (drop-map variable_said n xs)
