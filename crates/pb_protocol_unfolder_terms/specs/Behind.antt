-- What stands for a term behind parts of it that are passed over.
use Rattle.std.specs.Prelude.{◌≡◌, ◌+◌, ◌≤◌, ℕ, Bool, true, false}
use Rattle.pb_text_meaning.specs.Syntax.{Term, Spec}
use Rattle.pb_protocol_folding.specs.Folding.{folded}
use Rattle.pb_protocol_unfolder_terms.specs.Forms.{is_plain}
use Rattle.pb_protocol_unfolder_terms.specs.Unfolding.{operator_count}

-- where nothing is passed over, the rest is the whole; else the whole is neither a name nor a value
abbrev pub HasPassed : Bool → Term → Term → Type 0
HasPassed true whole rest = is_plain whole ≡ false
HasPassed false whole rest = rest ≡ whole

-- the whole folded is the rest folded; of room for n operators the parts that are passed over take
-- at least what isn't left
pub record IsBehind (spec : Spec) (n : ℕ) (whole rest : Term) (passed : Bool) (left : ℕ) : Type 0
  where
    pub term : folded spec false rest ≡ folded spec false whole
    pub form : HasPassed passed whole rest
    pub room : n + operator_count rest ≤ left + operator_count whole
