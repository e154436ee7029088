-- The report of an answer: four lines.
use Rattle.std.specs.Prelude.{ℕ, Bool, true, false, List, ◌++◌, codes, decimal}
use Rattle.pb_report.specs.declared.answer.Answer.{Answer}

-- whether the initial instance is true
abbrev pub truth_line : Bool → List ℕ
truth_line true = codes "answer true\n"
truth_line false = codes "answer false\n"

-- a number, behind a label
abbrev pub counted_line : List ℕ → ℕ → List ℕ
counted_line label n = label ++ (decimal n ++ codes "\n")

-- how many instances were reached, how many of these have a Cut in their trees, and how many
-- vertices the game has
abbrev pub counts_text : Answer → List ℕ
counts_text a =
    counted_line (codes "instances ") a.instances
    ++ (counted_line (codes "cut ") a.cut ++ counted_line (codes "vertices ") a.vertices)

abbrev pub report_text : Answer → List ℕ
report_text a = truth_line a.truth ++ counts_text a
