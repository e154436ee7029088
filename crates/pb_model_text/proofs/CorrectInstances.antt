-- Names with arguments are read rightly.
use Rattle.std.proofs.Common.{ℕ, zero, suc}
use Rattle.pb_text_tree.specs.Form.{InstanceForm}
use Rattle.pb_text_lexer.specs.Grammar.{State}
use Rattle.pb_text_lexer.proofs.Correct.{Correct, HeadIs}
use Rattle.pb_text_lexer.proofs.CorrectFamilies.{deeper, alike-correct}
use Rattle.pb_text_lexer.proofs.CorrectSeries.{head-at}
use Rattle.pb_text_lexer.proofs.CorrectPlain.{Always}
use Rattle.pb_text_lexer.specs.declared.kind.Kind.TheVariants as k
use Rattle.pb_text_terms.specs.Grammar.{Instance, IsTerm}
use Rattle.pb_text_terms.specs.Reading.{instance}
use Rattle.pb_text_terms.proofs.CorrectOperators.{unary_goes}
use Rattle.pb_text_terms.proofs.CorrectTerm as terms
use Rattle.pb_model_text.specs.Grammar.{IsInstance}
use Rattle.std.proofs.Common.{inl, inr}

to-instance : (d : ℕ) (s : State) (y : InstanceForm) (z : State) → Instance (deeper IsTerm d) s y z → IsInstance d s y z
to-instance zero s y z r = r
to-instance (suc d) s y z r = r

from-instance : (d : ℕ) (s : State) (y : InstanceForm) (z : State) → IsInstance d s y z → Instance (deeper IsTerm d) s y z
from-instance zero s y z r = r
from-instance (suc d) s y z r = r

pub instance-correct : (depth : ℕ) → Correct Always (instance depth) IsInstance unary_goes depth
instance-correct depth = alike-correct Always (instance depth) (λ d. Instance (deeper IsTerm d)) IsInstance unary_goes depth to-instance from-instance (terms.instance-correct depth)

-- a name comes first
pub instance-starts : (d : ℕ) (s : State) (y : InstanceForm) (z : State) → IsInstance d s y z → HeadIs k.Name s.tokens
instance-starts d s y z r = at (from-instance d s y z r)
  where
    at : Instance (deeper IsTerm d) s y z → HeadIs k.Name s.tokens
    at (inl q) = head-at k.Name s.tokens q.2.1.tokens q.2.0 q.2.2.0 q.2.2.1
    at (inr q) = head-at k.Name s.tokens q.2.2.1.tokens q.2.2.0 q.2.2.2.0 q.2.2.2.1
