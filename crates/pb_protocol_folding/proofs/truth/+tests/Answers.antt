use Rattle.std.proofs.Common.{◌≡◌, ◌∙◌, ap, refl, true, false}
use Rattle.pb_text_tree.specs.declared.operator.Connective.{Connective}
use Rattle.pb_text_tree.specs.declared.operator.Connective.TheVariants as connective
use Rattle.pb_text_tree.specs.declared.operator.Arithmetic.{Arithmetic}
use Rattle.pb_text_tree.specs.declared.operator.Arithmetic.TheVariants as arithmetic
use Rattle.pb_text_meaning.specs.Syntax as syntax
use Rattle.pb_text_meaning.specs.Erase.{of_connective, of_arithmetic}
use Rattle.pb_protocol_folding.specs.Folding as folding
use Rattle.pb_protocol_folding.proofs.Seen.{chain-alone, chain-many, arithmetic-alone, arithmetic-many}
use Rattle.pb_protocol_folding.proofs.truth.+tests.Goals as goal

connected-tests : (k : Connective) (l r : syntax.Term) → folding.is_test (syntax.Term.Binary (of_connective k) l r) ≡ true
connected-tests connective.And l r = refl
connected-tests connective.Or l r = refl
connected-tests connective.Implies l r = refl

no-tests : (o : Arithmetic) (l r : syntax.Term) → folding.is_test (syntax.Term.Binary (of_arithmetic o) l r) ≡ false
no-tests arithmetic.Plus l r = refl
no-tests arithmetic.Minus l r = refl
no-tests arithmetic.Times l r = refl
no-tests arithmetic.Div l r = refl
no-tests arithmetic.Mod l r = refl

pub returns-then-is_empty : goal.returns-then-is_empty
returns-then-is_empty t c = c.is_test.ensures ∙ ap (folding.is_test) (chain-alone _ _ _ _ _ _ c.in-Chain.is c.is_empty.ensures c.if-is_empty.true c.deref.ensures)

pub returns-then-is_empty-2 : goal.returns-then-is_empty-2
returns-then-is_empty-2 t c =
    c.is_test-then-is_empty-2.ensures
    ∙ ap (folding.is_test)
    (arithmetic-alone _ _ _ _ _ c.in-Arithmetic.is c.is_empty-in-Arithmetic.ensures c.if-is_empty-2.true c.deref-then-is_empty-2.ensures)

pub returns-else-is_empty : goal.returns-else-is_empty
returns-else-is_empty t c = chain-many (folding.is_test) (true) c.in-Chain.connective (connected-tests c.in-Chain.connective) _ _ _ _ c.in-Chain.is c.is_empty.ensures c.if-is_empty.false

pub returns-else-is_empty-2 : goal.returns-else-is_empty-2
returns-else-is_empty-2 t c = arithmetic-many (folding.is_test) (false) (no-tests) _ _ _ _ c.in-Arithmetic.is c.is_empty-in-Arithmetic.ensures c.if-is_empty-2.false
