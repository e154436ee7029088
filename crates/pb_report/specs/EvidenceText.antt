-- Evidence as a text: the answer, and then a line for each instance of a proof graph, with its
-- truth value and the instances that it rests on. `X(0) false: Y(1) Y(2)` says that X(0) is false
-- since Y(1) and Y(2) are; nothing stands behind the colon where data alone decides, and `cut`
-- stands last where a call that was cut decides too. Where places are told, `Y(1)@12:8` says that
-- the call stands in line 12, column 8.
use Rattle.std.specs.Prelude.{ℕ, Bool, true, false, List, [], ◌∷◌, ◌++◌, Option, Some, None, codes, decimal}
use Rattle.std.specs.List.{flat_map}
use Rattle.pb_text_tree.specs.declared.place.Place.{Place}
use Rattle.pb_evidence.specs.ProofGraphs.{Graph}
use Rattle.pb_report.specs.Report.{truth_line}

abbrev pub truth_mark : Bool → List ℕ
truth_mark true = codes " true:"
truth_mark false = codes " false:"

-- the place of a call, where it is told
abbrev pub place_mark : Option Place → List ℕ
place_mark None = []
place_mark (Some place) = codes "@" ++ (decimal place.line ++ (codes ":" ++ decimal place.column))

-- an instance that another one rests on
abbrev pub dependency_text : (ℕ → List ℕ) → ℕ → Option Place → List ℕ
dependency_text name n place = codes " " ++ (name n ++ place_mark place)

abbrev pub dependencies_text : (ℕ → List ℕ) → (ℕ → Option Place) → List ℕ → List ℕ
dependencies_text name place dependencies =
    flat_map (λ n. dependency_text name n (place n)) dependencies

-- where an instance rests on a cut call
abbrev pub cut_mark : Bool → List ℕ
cut_mark true = codes " cut"
cut_mark false = []

-- what stands behind an instance's name
abbrev pub line_tail : Bool → List ℕ → Bool → List ℕ
line_tail truth dependencies cut =
    truth_mark truth ++ (dependencies ++ (cut_mark cut ++ codes "\n"))

abbrev pub evidence_line :
    (ℕ → List ℕ) → (ℕ → Option Place) → Bool → ℕ → List ℕ → Bool → List ℕ
evidence_line name place truth n dependencies cut =
    name n ++ line_tail truth (dependencies_text name place dependencies) cut

-- a line for each of these instances
abbrev pub evidence_lines : (ℕ → List ℕ) → (ℕ → ℕ → Option Place) → Bool → (ℕ → List ℕ)
    → (ℕ → Bool) → List ℕ → List ℕ
evidence_lines name place truth dependencies cut [] = []
evidence_lines name place truth dependencies cut (n ∷ instances) =
    evidence_line name (place n) truth n (dependencies n) (cut n)
    ++ evidence_lines name place truth dependencies cut instances

-- a proof graph for this truth value, whose instances have these names, and where the places are
-- told at which one calls another
abbrev pub evidence_text :
    (ℕ → List ℕ) → (ℕ → ℕ → Option Place) → Bool → (ℕ → Bool) → Graph → List ℕ
evidence_text name place truth cut graph =
    truth_line truth ++ evidence_lines name place truth graph.dependencies cut graph.instances
