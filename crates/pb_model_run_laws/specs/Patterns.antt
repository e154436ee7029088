-- What each word stands for: a formula of a pattern of `pb_model_run_laws` or `pb_model_runs`, over
-- all steps or those that stand with it, in the model that a protocol is written out as.
use Rattle.std.specs.Prelude.{◌≡◌, List, map, codes}
use Rattle.pb_text_tree.specs.declared.place.Place.{Place}
use Rattle.pb_model_meaning.specs.Syntax.{StepSet, Formula}
use Rattle.pb_protocol_tree.specs.Form.{StepSetForm, FormulaForm}
use Rattle.pb_protocol_meaning.specs.Erase.{erased_steps, erased_formula}
use Rattle.pb_protocol_meaning.specs.Syntax.{Protocol}
use Rattle.pb_protocol_unfolding.specs.PutIn.{TermScope}
use Rattle.pb_protocol_unfolding.specs.Unfolding.{unfolded_set, unfolded_formula}
use Rattle.pb_model_text.specs.Words.{always, possibly, inevitably, no_deadlock, until, leads_to}
use Rattle.pb_model_text.specs.Words.{fair}
use Rattle.pb_model_runs.specs.Always.{always_by}
use Rattle.pb_model_runs.specs.Possibly.{possibly_by}
use Rattle.pb_model_runs.specs.Inevitably.{inevitably_by}
use Rattle.pb_model_run_laws.specs.Deadlock.{no_deadlock_by}
use Rattle.pb_model_run_laws.specs.Response.{response_by}
use Rattle.pb_model_run_laws.specs.Until.{until_by}
use Rattle.pb_model_run_laws.specs.WeakFairness.{fairly_at_last}

-- a formula that is read, in the model that its protocol is written out as
abbrev pub written_out : Protocol → TermScope → FormulaForm → Formula
written_out m ρ f = unfolded_formula m ρ (erased_formula f)

-- `always p` is p in each state of each run
abbrev pub AlwaysIsItsPattern : Type 0
AlwaysIsItsPattern =
    (m : Protocol) (ρ : TermScope) (at : Place) (p : FormulaForm) →
    written_out m ρ (always at p) ≡ always_by StepSet.All (codes "always") (written_out m ρ p)

-- `possibly p` is a run to p
abbrev pub PossiblyIsItsPattern : Type 0
PossiblyIsItsPattern =
    (m : Protocol) (ρ : TermScope) (at : Place) (p : FormulaForm) →
    written_out m ρ (possibly at p)
    ≡ possibly_by StepSet.All (codes "possibly") (written_out m ρ p)

-- `inevitably p` is a bound on how long p can be put off
abbrev pub InevitablyIsItsPattern : Type 0
InevitablyIsItsPattern =
    (m : Protocol) (ρ : TermScope) (at : Place) (p : FormulaForm) →
    written_out m ρ (inevitably at p)
    ≡ inevitably_by StepSet.All (codes "inevitably") (written_out m ρ p)

-- `no_deadlock` is a step in each state of each run
abbrev pub NoDeadlockIsItsPattern : Type 0
NoDeadlockIsItsPattern =
    (m : Protocol) (ρ : TermScope) (at : Place) →
    written_out m ρ (no_deadlock at) ≡ no_deadlock_by StepSet.All (codes "no_deadlock")

-- `p until q` is such a bound on q, with p till then
abbrev pub UntilIsItsPattern : Type 0
UntilIsItsPattern =
    (m : Protocol) (ρ : TermScope) (at : Place) (p q : FormulaForm) →
    written_out m ρ (until at p q)
    ≡ until_by StepSet.All (codes "until") (written_out m ρ p) (written_out m ρ q)

-- `p leads_to q` is such a bound on q behind each run to p
abbrev pub LeadsToIsItsPattern : Type 0
LeadsToIsItsPattern =
    (m : Protocol) (ρ : TermScope) (at : Place) (p q : FormulaForm) →
    written_out m ρ (leads_to at p q)
    ≡ response_by StepSet.All StepSet.All (codes "leads_to") (codes "inevitably")
    (written_out m ρ p) (written_out m ρ q)

-- a set of steps that is read, in that model
abbrev pub written_set : Protocol → TermScope → StepSetForm → StepSet
written_set m ρ A = unfolded_set m ρ (erased_steps A)

-- `fair (A, ..) inevitably p` is p at last on infinite runs that are weakly fair to each set
abbrev pub FairIsItsPattern : Type 0
FairIsItsPattern =
    (m : Protocol) (ρ : TermScope) (at : Place) (A : StepSetForm) (others : List StepSetForm)
    (p : FormulaForm) →
    written_out m ρ (fair at A others p)
    ≡ fairly_at_last (written_set m ρ A) (map (written_set m ρ) others) (codes "inevitably")
    (codes "fair") (written_out m ρ p)
