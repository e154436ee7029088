-- Terms as they are read: applications, and the functions at any number of levels.
use Rattle.std.proofs.Common.{◌≡◌, ◌≢◌, ℕ, zero, suc, List, [], ◌∷◌, length, refl}
use Rattle.pb_text_tree.specs.declared.term.Argument.{Argument}
use Rattle.pb_text_tree.specs.Form.{Named, TermForm, argument_forms}
use Rattle.pb_text_lexer.specs.Steps.{enter}
use Rattle.pb_text_terms.specs.Grammar.{applied}
use Rattle.pb_text_terms.specs.Reading.{unary, unary_over, lowest, lowest_over, term, below}

-- with arguments, a name is applied
pub some-applied : (name : Named) (arguments : List Argument) → length arguments ≢ 0 → TermForm.application name (argument_forms arguments) ≡ applied name (argument_forms arguments)
some-applied name [] some = absurd (some refl)
some-applied name (a ∷ arguments) some = refl

pub unary-is : (depth : ℕ) → unary depth ≡ unary_over (enter depth) (below unary depth) (below term depth)
unary-is zero = refl
unary-is (suc depth) = refl

pub lowest-is : (depth : ℕ) → lowest depth ≡ lowest_over (enter depth) (unary depth) (below term depth)
lowest-is zero = refl
lowest-is (suc depth) = refl
