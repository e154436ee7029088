-- Two caches of one line, and a round of votes: parts of their flat models.
use Rattle.std.specs.Prelude.{true, false, [], ◌∷◌, codes}
use Rattle.pb_text_meaning.specs.Syntax.{Name, Operator, Term, Terms}
use Rattle.pb_model_meaning.specs.Syntax as flat
use Rattle.pb_model_meaning.specs.Examples.{both, same, becomes, step}
use Rattle.pb_protocol_folding.specs.Folding.{folded}
use Rattle.pb_protocol_folding.specs.FoldedModels.{folded_step}
use Rattle.pb_protocol_meaning.specs.Syntax.{Formula}
use Rattle.pb_protocol_meaning.specs.Steps.{data_of}
use Rattle.pb_protocol_meaning.specs.Examples.{caches, read, grant, c1, invalid, shared}
use Rattle.pb_protocol_meaning.specs.Examples.{modified, owner, negated, round_of_votes}
use Rattle.pb_protocol_meaning.specs.Examples.{votes_counted, reset}
use Rattle.pb_protocol_unfolding.specs.Written.{element_of}
use Rattle.pb_protocol_unfolding.specs.PutIn.{choice, one_if}
use Rattle.pb_protocol_unfolding.specs.Unfolding.{Instance, with_own, unfolded_term}
use Rattle.pb_protocol_unfolding.specs.Unfolding.{unfolded_step}
use Rattle.pb_protocol_unfolding.specs.ModelLaws as model
use Rattle.pb_protocol_unfolding.specs.ModelLaws.{flat_model}

abbrev pub line1 : Name
line1 = codes "line'c1"

abbrev pub line2 : Name
line2 = codes "line'c2"

-- read'c1: line'c1 == invalid && !(line'c2 == modified) -> line'c1 := shared
abbrev pub flat_read : flat.Step
flat_read =
    step (codes "read'c1") (both (same line1 invalid) (negated (same line2 modified)))
    (becomes line1 (Term.Named shared) ∷ [])

-- grant'c1'c1: line'c1 == invalid && line'c1 == modified -> line'c1 := modified, owner := c1
abbrev pub flat_grant : flat.Step
flat_grant =
    step (codes "grant'c1'c1") (both (same line1 invalid) (same line1 modified))
    (becomes line1 (Term.Named modified) ∷ becomes owner (Term.Named c1) ∷ [])

-- [read'c1] line'c1 == shared && [read'c2] line'c2 == shared
abbrev pub flat_reads_share : flat.Formula
flat_reads_share =
    flat.Formula.And
    (flat.Formula.Box (flat.StepSet.Only (codes "read'c1")) (flat.Formula.Data (same line1 shared)))
    (flat.Formula.Box (flat.StepSet.Only (codes "read'c2")) (flat.Formula.Data (same line2 shared)))

-- if(owner == c1, line'c1, line'c2)
abbrev pub flat_owners_line : Term
flat_owners_line =
    Term.Apply (codes "if")
    (Terms.Then (same owner c1)
    (Terms.Then (Term.Named line1) (Terms.Then (Term.Named line2) Terms.NoTerms)))

-- read with c1, grant with c1 and c1
abbrev pub read_c1 : Instance
read_c1 = with_own read (Term.Named c1 ∷ [])

abbrev pub grant_c1_c1 : Instance
grant_c1_c1 = with_own grant (Term.Named c1 ∷ Term.Named c1 ∷ [])

-- the flat model, its steps, formulas and terms
abbrev pub flat_caches : flat.Model
flat_caches = flat_model caches

abbrev pub flat_step : Instance → flat.Step
flat_step i = folded_step (data_of caches) (unfolded_step caches i)

abbrev pub flat_formula : Formula → flat.Formula
flat_formula f = model.flat_formula caches f

abbrev pub flat_term : Term → Term
flat_term x = folded (data_of caches) false (unfolded_term caches [] x)

-- x'20'm1'true, the element of x at 20, -1 and true
abbrev pub element_name : Name
element_name =
    element_of (codes "x")
    (Term.Number 20 ∷ Term.Negative (Term.Number 1) ∷ Term.Truth true ∷ [])

-- ---- a round of votes

abbrev pub said1 : Name
said1 = codes "said'1"

abbrev pub said2 : Name
said2 = codes "said'2"

abbrev pub said3 : Name
said3 = codes "said'3"

abbrev pub round : Name
round = codes "round"

-- if(said'1, 1, 0) + if(said'2, 1, 0) + if(said'3, 1, 0)
abbrev pub flat_votes : Term
flat_votes =
    Term.Binary Operator.Plus
    (Term.Binary Operator.Plus (one_if (Term.Named said1)) (one_if (Term.Named said2)))
    (one_if (Term.Named said3))

-- round == 1: of the elements that all get false, the one of the round gets true
abbrev pub is_round : Term → Term
is_round k = Term.Binary Operator.Equal (Term.Named round) k

-- if(b, true, false)
abbrev pub flat_choice : Term → Term
flat_choice b = choice b (Term.Truth true) (Term.Truth false)

-- reset: that == 3 -> said'1 := round == 1, .., round := that
abbrev pub flat_reset : flat.Step
flat_reset =
    step (codes "reset") (Term.Binary Operator.Equal flat_votes (Term.Number 3))
    (becomes said1 (flat_choice (is_round (Term.Number 1)))
    ∷ becomes said2 (flat_choice (is_round (Term.Number 2)))
    ∷ becomes said3 (flat_choice (is_round (Term.Number 3)))
    ∷ becomes round flat_votes ∷ [])

abbrev pub reset_instance : Instance
reset_instance = with_own reset []

-- the votes of the protocol, and its step, in the flat model
abbrev pub votes_put_in : Term
votes_put_in = folded (data_of round_of_votes) false (unfolded_term round_of_votes [] votes_counted)

abbrev pub reset_put_in : flat.Step
reset_put_in = folded_step (data_of round_of_votes) (unfolded_step round_of_votes reset_instance)
