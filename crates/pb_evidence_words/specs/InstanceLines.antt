-- The same evidence as lines of instances, for programs that read it: each line with the instances
-- that it rests on, and with each the step that leads to it.
--
--     line     = instance ( " true:" | " false:" ) { " " instance [ mark ] } [ " cut" ] NEWLINE
--     instance = FORMULA [ "(" VALUE { "," VALUE } ")" ]
--     mark     = "@" STEP [ "(" VALUE { "," VALUE } ")" ]
use Rattle.std.specs.Prelude.{ℕ, List, [], ◌++◌, codes, flat_map, length, Option, Some, None}
use Rattle.std.specs.List.{range_with_len}
use Rattle.pb_sorts.specs.Instance.{Instance}
use Rattle.pb_model_words.specs.Vocabulary.{Vocabulary}
use Rattle.pb_model_words.specs.Words.{values_text, mark_text}
use Rattle.pb_typing_calls.specs.MadeCalls.{MadeCall}
use Rattle.pb_report.specs.EvidenceText.{line_tail}
use Rattle.pb_evidence_words.specs.WhyText.{Told, call_between, dependencies_at, formula_text}
use Rattle.pb_evidence_words.specs.WhyText.{is_cut_at, line_instance, shown_instance}

-- an equation's name with the values of a state
abbrev pub instance_text : Told → Instance → List ℕ
instance_text t i = formula_text t i ++ values_text t.vocabulary i.values

-- the step of a call, where one is made and it stands at a step's name
abbrev pub call_mark : Vocabulary → Option MadeCall → List ℕ
call_mark m None = []
call_mark m (Some c) = mark_text m c.place c.own

-- the instance n, come to from another one
abbrev pub told_dependency : Told → Instance → ℕ → List ℕ
told_dependency t i n =
    codes " " ++ (instance_text t (shown_instance t n)
    ++ call_mark t.vocabulary (call_between t i (shown_instance t n)))

-- what the line at k rests on
abbrev pub told_dependencies : Told → ℕ → List ℕ
told_dependencies t k = flat_map (told_dependency t (line_instance t k)) (dependencies_at t k)

abbrev pub instance_line : Told → ℕ → List ℕ
instance_line t k =
    instance_text t (line_instance t k)
    ++ line_tail t.truth (told_dependencies t k) (is_cut_at t k)

abbrev pub instance_lines : Told → List ℕ
instance_lines t = flat_map (instance_line t) (range_with_len 0 (length t.graph.instances))
