-- Operands of one connective that are unfolded, up to the first that decides what it gives.
use Rattle.std.specs.Prelude.{◌≡◌, ◌+◌, ◌≤◌, ℕ, Bool, true, false, List, [], ◌∷◌}
use Rattle.pb_text_tree.specs.declared.operator.Connective.{Connective}
use Rattle.pb_text_meaning.specs.Syntax.{Term, Spec}
use Rattle.pb_protocol_folding.specs.Folding.{folded}
use Rattle.pb_protocol_folding.specs.Kept.{folded_connective, truth_counts}
use Rattle.pb_protocol_folding.specs.View.{term_of}
use Rattle.pb_protocol_unfolder_terms.specs.declared.operands.Operands as declared_operands
use Rattle.pb_protocol_unfolder_terms.specs.Chains.{operands_of}
use Rattle.pb_protocol_unfolder_terms.specs.Forms.{is_plain}
use Rattle.pb_protocol_unfolder_terms.specs.Unfolding.{operator_count}

-- a folded term behind folded operands
abbrev pub behind : Connective → Bool → List Term → Term → Term
behind c truth [] t = t
behind c truth (x ∷ xs) t = folded_connective c truth x (behind c true xs t)

-- joined, the operands are the term `whole` folded; of room for n operators `whole` takes at least
-- what isn't left
pub record AreOperands (spec : Spec) (c : Connective) (truth : Bool) (n : ℕ) (whole : Term)
    (os : declared_operands.Operands) : Type 0 where
  pub term :
      behind c truth (operands_of os.before.items) (term_of os.last) ≡ folded spec truth whole
  pub form : is_plain whole ≡ false
  pub room : n ≤ os.room + operator_count whole

-- what is left of the term `whole` behind these operands
pub record IsLeft (spec : Spec) (c : Connective) (truth : Bool) (n : ℕ) (whole rest : Term)
    (before : List Term) (left : ℕ) : Type 0 where
  pub term : behind c truth before (folded spec (truth_counts truth before) rest)
      ≡ folded spec truth whole
  pub room : n + operator_count rest ≤ left + operator_count whole
