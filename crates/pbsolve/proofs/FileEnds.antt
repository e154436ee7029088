-- How a run over files ends, by how each of them does.
use Rattle.std.proofs.Common.{rules, ◌≡◌, ◌⊎◌, ◌∙◌, ℕ, Bool, true, false, List, [], ◌∷◌, refl, sym, ap, subst, inl, inr}
use Rattle.std.specs.Prelude.{if◌then◌else◌, nat_le, Contains}
use Rattle.std.specs.List.{All}
use Rattle.std.proofs.lemmas.List.Elements.{All-head, All-tail, Contains-append_left, Contains-append_right}
use Rattle.pb_command_faults.specs.declared.solve_fault.SolveFault.{SolveFault}
use Rattle.pb_command_faults.specs.declared.solve_fault.SolveFault.TheVariants.{Text, Typing, Limit, Module, Acceptance, Property, TooManyVertices, NoProperty}
use Rattle.pb_command_line.specs.Status.{weight_of, worse}
use Rattle.pb_command_line.specs.declared.request.Request.{Request}
use Rattle.pb_command_line.specs.declared.status.Status.{Status}
use Rattle.pb_command_line.specs.declared.status.Status.TheVariants as status
use Rattle.pbsolve.specs.Errors.{run_error_of_fault}
use Rattle.pbsolve.specs.Files.{AnswersFiles, IsFileOutcome, KnownFiles, LackInFiles, Outcome, end_of, file_diagnostics, names_of}
use Rattle.pbsolve.specs.Program.{is_answer}
use Rattle.pbsolve.specs.Requests.{OfInput, RefusesBytes, status_of}
use Rattle.pbsolve.proofs.Refusals.{answers_end, is_end}

-- ---- of two ends

chosen : (b : Bool) (x y : Status) → ((if b then x else y) ≡ x) ⊎ ((if b then x else y) ≡ y)
chosen true x y = inl refl
chosen false x y = inr refl

worse_is_one : (x y : Status) → (worse x y ≡ x) ⊎ (worse x y ≡ y)
worse_is_one x y = chosen (nat_le (weight_of y) (weight_of x)) x y

-- where the worse is an answer, so are both
both_answer : (x y : Status) → is_answer (worse x y) ≡ true → (is_answer x ≡ true) × (is_answer y ≡ true)
both_answer status.Answered status.Answered h = (refl, refl)
both_answer status.Answered status.Unknown h = (refl, refl)
both_answer status.Answered status.False h = (refl, refl)
both_answer status.Unknown status.Answered h = (refl, refl)
both_answer status.Unknown status.Unknown h = (refl, refl)
both_answer status.Unknown status.False h = (refl, refl)
both_answer status.False status.Answered h = (refl, refl)
both_answer status.False status.Unknown h = (refl, refl)
both_answer status.False status.False h = (refl, refl)
both_answer status.Answered status.Refused h = absurd (cc h)
both_answer status.Answered status.Usage h = absurd (cc h)
both_answer status.Answered status.OutOfMemory h = absurd (cc h)
both_answer status.Answered status.Failed h = absurd (cc h)
both_answer status.Unknown status.Refused h = absurd (cc h)
both_answer status.Unknown status.Usage h = absurd (cc h)
both_answer status.Unknown status.OutOfMemory h = absurd (cc h)
both_answer status.Unknown status.Failed h = absurd (cc h)
both_answer status.False status.Refused h = absurd (cc h)
both_answer status.False status.Usage h = absurd (cc h)
both_answer status.False status.OutOfMemory h = absurd (cc h)
both_answer status.False status.Failed h = absurd (cc h)
both_answer status.Refused status.Answered h = absurd (cc h)
both_answer status.Refused status.Unknown h = absurd (cc h)
both_answer status.Refused status.False h = absurd (cc h)
both_answer status.Refused status.Refused h = absurd (cc h)
both_answer status.Refused status.Usage h = absurd (cc h)
both_answer status.Refused status.OutOfMemory h = absurd (cc h)
both_answer status.Refused status.Failed h = absurd (cc h)
both_answer status.Usage status.Answered h = absurd (cc h)
both_answer status.Usage status.Unknown h = absurd (cc h)
both_answer status.Usage status.False h = absurd (cc h)
both_answer status.Usage status.Refused h = absurd (cc h)
both_answer status.Usage status.Usage h = absurd (cc h)
both_answer status.Usage status.OutOfMemory h = absurd (cc h)
both_answer status.Usage status.Failed h = absurd (cc h)
both_answer status.OutOfMemory status.Answered h = absurd (cc h)
both_answer status.OutOfMemory status.Unknown h = absurd (cc h)
both_answer status.OutOfMemory status.False h = absurd (cc h)
both_answer status.OutOfMemory status.Refused h = absurd (cc h)
both_answer status.OutOfMemory status.Usage h = absurd (cc h)
both_answer status.OutOfMemory status.OutOfMemory h = absurd (cc h)
both_answer status.OutOfMemory status.Failed h = absurd (cc h)
both_answer status.Failed status.Answered h = absurd (cc h)
both_answer status.Failed status.Unknown h = absurd (cc h)
both_answer status.Failed status.False h = absurd (cc h)
both_answer status.Failed status.Refused h = absurd (cc h)
both_answer status.Failed status.Usage h = absurd (cc h)
both_answer status.Failed status.OutOfMemory h = absurd (cc h)
both_answer status.Failed status.Failed h = absurd (cc h)

-- ---- of one file

-- a file that is refused has this status, or that of words where a property isn't there
refused_status : (fault : SolveFault) → (status_of (run_error_of_fault fault) ≡ status.Refused) ⊎ ((status_of (run_error_of_fault fault) ≡ status.Usage) × (fault ≡ NoProperty))
refused_status NoProperty = inr (refl, refl)
refused_status (Text x) = inl refl
refused_status (Typing x) = inl refl
refused_status (Limit x) = inl refl
refused_status (Module x) = inl refl
refused_status (Acceptance x) = inl refl
refused_status (Property x) = inl refl
refused_status TooManyVertices = inl refl

-- no file ends so
abbrev pub never : Status → Bool
never status.OutOfMemory = true
never status.Answered = false
never status.Unknown = false
never status.False = false
never status.Refused = false
never status.Usage = false
never status.Failed = false

end_is_some : (end : Status) → is_end end ≡ true → never end ≡ false
end_is_some status.Answered h = refl
end_is_some status.Unknown h = refl
end_is_some status.False h = refl
end_is_some status.Refused h = refl
end_is_some status.Usage h = absurd (cc h)
end_is_some status.OutOfMemory h = absurd (cc h)
end_is_some status.Failed h = absurd (cc h)

refused_ends : (fault : SolveFault) (end : Status) → end ≡ status_of (run_error_of_fault fault) → never end ≡ false
refused_ends fault end is = elim (refused_status fault) [
  | inl refused ↦ ap never (is ∙ refused)
  | inr usage ↦ ap never (is ∙ usage.0)
]

-- a file that is refused isn't answered
refused_is_no_answer : (fault : SolveFault) (end : Status) → end ≡ status_of (run_error_of_fault fault) → is_answer end ≡ false
refused_is_no_answer fault end is = elim (refused_status fault) [
  | inl refused ↦ ap is_answer (is ∙ refused)
  | inr usage ↦ ap is_answer (is ∙ usage.0)
]

not_answered : (end : Status) (P : Type 0) → is_answer end ≡ true → is_answer end ≡ false → P
not_answered end P is not = absurd (cc (is, not))

module _ (request : Request) (known : KnownFiles) (o : Outcome) where
  file_ends : IsFileOutcome request known o → never o.status ≡ false
  file_ends outcome = elim outcome [
    | inl answered ↦ end_is_some o.status (answers_end request answered.0.0 o.status o.written answered.0.2)
    | inr unanswered ↦ elim unanswered.0 [
      | inl refused ↦ refused_ends refused.0 o.status refused.2
      | inr other ↦ elim other [
        | inl long ↦ ap never long.1
        | inr lost ↦ ap never lost.1
      ]
    ]
  ]

  -- where the status is an answer there is no line on standard error
  answered_is_silent : IsFileOutcome request known o → is_answer o.status ≡ true → o.diagnostics ≡ []
  answered_is_silent outcome answers = elim outcome [
    | inl answered ↦ answered.1
    | inr unanswered ↦ elim unanswered.0 [
      | inl refused ↦ not_answered o.status _ answers (refused_is_no_answer refused.0 o.status refused.2)
      | inr other ↦ elim other [
        | inl long ↦ not_answered o.status _ answers (ap is_answer long.1)
        | inr lost ↦ not_answered o.status _ answers (ap is_answer lost.1)
      ]
    ]
  ]

  -- where it is that of wrong words the file's model has no property of a name
  usage_lacks : IsFileOutcome request known o → o.status ≡ status.Usage → OfInput request (known.contents o.name) (λ r bytes. RefusesBytes r bytes NoProperty)
  usage_lacks outcome usage = elim outcome [
    | inl answered ↦ absurd (cc (answers_end request answered.0.0 o.status o.written answered.0.2, ap is_end usage))
    | inr unanswered ↦ elim unanswered.0 [
      | inl refused ↦ elim (refused_status refused.0) [
        | inl other ↦ absurd (cc (usage, refused.2, other))
        | inr lacks ↦ subst (λ (fault : SolveFault). OfInput request (known.contents o.name) (λ r bytes. RefusesBytes r bytes fault)) lacks.1 refused.1
      ]
      | inr other ↦ elim other [
        | inl long ↦ absurd (cc (usage, long.1))
        | inr lost ↦ absurd (cc (usage, lost.1))
      ]
    ]
  ]

-- ---- of all files

module _ (request : Request) (known : KnownFiles) where
  pub files_end : (files : List Outcome) → All (IsFileOutcome request known) files → never (end_of files) ≡ false
  files_end [] all = refl
  files_end (o ∷ before) all = elim (worse_is_one (end_of before) o.status) [
    | inl earlier ↦ ap never earlier ∙ files_end before (All-tail (IsFileOutcome request known) o before all)
    | inr last ↦ ap never last ∙ file_ends request known o (All-head (IsFileOutcome request known) o before all)
  ]

  -- where all are answered there is no line on standard error
  pub answered_are_silent : (several : Bool) (files : List Outcome) → All (IsFileOutcome request known) files → is_answer (end_of files) ≡ true
      → file_diagnostics several files ≡ []
  answered_are_silent several [] all answers = refl
  answered_are_silent several (o ∷ before) all answers =
      let both = both_answer (end_of before) o.status answers in
      let earlier = answered_are_silent several before (All-tail (IsFileOutcome request known) o before all) both.0 in
      let silent = answered_is_silent request known o (All-head (IsFileOutcome request known) o before all) both.1 in
      rw (earlier, silent) refl

  -- where the status is that of wrong words, some file's model has no property of a name
  some_lacks : (files : List Outcome) → All (IsFileOutcome request known) files → end_of files ≡ status.Usage
      → (name : List ℕ) × Contains (names_of files) name × OfInput request (known.contents name) (λ r bytes. RefusesBytes r bytes NoProperty)
  some_lacks [] all usage = absurd (cc usage)
  some_lacks (o ∷ before) all usage = elim (worse_is_one (end_of before) o.status) [
    | inl earlier ↦
        let found = some_lacks before (All-tail (IsFileOutcome request known) o before all) (sym earlier ∙ usage) in
        (found.0, Contains-append_left (names_of before) (o.name ∷ []) found.0 found.1, found.2)
    | inr last ↦ (
      o.name,
      Contains-append_right (names_of before) (o.name ∷ []) o.name (search rules),
      usage_lacks request known o (All-head (IsFileOutcome request known) o before all) (sym last ∙ usage),
    )
  ]

  pub files_lack : (diagnostics written : List ℕ) → AnswersFiles request known status.Usage diagnostics written → LackInFiles request known
  files_lack diagnostics written answers =
      let found = some_lacks answers.0 answers.2 (sym answers.3) in
      (found.0, subst (λ names. Contains names found.0) answers.1 found.1, found.2)
