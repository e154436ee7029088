-- The program's operations, as the definitions name them.
use Rattle.pb_text_tree.specs.declared.operator.Arithmetic.{Arithmetic}
use Rattle.pb_text_tree.specs.declared.operator.Arithmetic.TheVariants as arithmetic
use Rattle.pb_base_values.specs.Operation as operations
use Rattle.pb_typing_nodes.specs.declared.operation.UnaryOperation.{UnaryOperation}
use Rattle.pb_typing_nodes.specs.declared.operation.UnaryOperation.TheVariants as unary
use Rattle.pb_typing_nodes.specs.declared.operation.BinaryOperation.{BinaryOperation}
use Rattle.pb_typing_nodes.specs.declared.operation.BinaryOperation.TheVariants as binary

abbrev pub unary_operation : UnaryOperation → operations.UnaryOperation
unary_operation unary.Negation = operations.Negation
unary_operation unary.Successor = operations.Successor
unary_operation unary.Predecessor = operations.Predecessor
unary_operation unary.AbsoluteValue = operations.AbsoluteValue

abbrev pub binary_operation : BinaryOperation → operations.BinaryOperation
binary_operation binary.Sum = operations.Sum
binary_operation binary.Difference = operations.Difference
binary_operation binary.Product = operations.Product
binary_operation binary.Quotient = operations.Quotient
binary_operation binary.Remainder = operations.Remainder
binary_operation binary.Maximum = operations.Maximum
binary_operation binary.Minimum = operations.Minimum

abbrev pub operation_of : Arithmetic → operations.BinaryOperation
operation_of arithmetic.Plus = operations.Sum
operation_of arithmetic.Minus = operations.Difference
operation_of arithmetic.Times = operations.Product
operation_of arithmetic.Div = operations.Quotient
operation_of arithmetic.Mod = operations.Remainder
