-- How the numbers of packed groups are made of the values of their variables, a line for each.
use Rattle.std.specs.Prelude.{ℕ, suc, ◌==◌, ℤ, pos, negsuc, if◌then◌else◌, List, [], ◌∷◌, ◌++◌}
use Rattle.std.specs.Prelude.{drop, length, Option, Some, None, codes}
use Rattle.std.specs.Fmt.{decimal}
use Rattle.std.specs.Ordering.{int_eq}
use Rattle.pb_text_tree.specs.Form.{VariableForm}
use Rattle.pb_text_meaning.specs.Syntax.{Variable}
use Rattle.pb_protocol_packing.specs.Packing.{Member, Group, Alone, Joined, capacity}
use Rattle.pb_model_words.specs.Vocabulary.{Vocabulary}
use Rattle.pb_model_words.specs.Words.{marked}

-- ` - 2` or ` + 3`: a number is taken off
abbrev pub taken_off : ℤ → List ℕ
taken_off (pos n) = codes " - " ++ decimal n
taken_off (negsuc n) = codes " + " ++ decimal (suc n)

-- a variable's values counted from 0 on: `n`, `(n - 2)`, `(n + 3)`
abbrev pub counted_text : List ℕ → ℤ → List ℕ
counted_text x low =
    if int_eq low (pos 0) then x else codes "(" ++ (x ++ (taken_off low ++ codes ")"))

-- so many times: `n * 25`, and `n` where it is once
abbrev pub times_text : List ℕ → ℕ → List ℕ
times_text x n = if n == 1 then x else x ++ (codes " * " ++ decimal n)

-- what each variable of a group adds to its number: as often as the others have values together
abbrev pub summands : List VariableForm → List Member → List (List ℕ)
summands (x ∷ xs) (p ∷ ps) =
    times_text (counted_text x.name.text p.low) (capacity ps) ∷ summands xs ps
summands xs ps = []

-- `line' = line(c1) * 5 + line(c2)`, where the first variables are those of the group
abbrev pub group_line : Variable → List Member → List VariableForm → List ℕ
group_line y ps xs =
    y.name ++ (codes " = " ++ (marked [] (codes " + ") (summands xs ps) ++ 10 ∷ []))

-- of one variable nothing is said
abbrev pub line_of : Group → List VariableForm → List ℕ
line_of (Alone y) xs = []
line_of (Joined y ps) xs = group_line y ps xs

abbrev pub variable_count : Group → ℕ
variable_count (Alone y) = 1
variable_count (Joined y ps) = length ps

-- group by group, each of the variables that come next
abbrev pub lines_of : List Group → List VariableForm → List ℕ
lines_of [] xs = []
lines_of (g ∷ gs) xs = line_of g xs ++ lines_of gs (drop (variable_count g) xs)

abbrev pub lines_by : Option (List Group) → List VariableForm → List ℕ
lines_by None xs = []
lines_by (Some gs) xs = lines_of gs xs

-- a line for each group of several variables that a vocabulary's variables are packed in
abbrev pub group_lines : Vocabulary → List ℕ
group_lines m = lines_by m.groups m.variables
