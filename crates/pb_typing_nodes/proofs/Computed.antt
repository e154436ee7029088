-- Operations on two numbers: where no rule fails, and what comes out.
use Rattle.std.proofs.Common.{◌≡◌, Bool, true, false, cond, ◌||◌, not, [], ◌++◌, refl, sym, ◌∙◌, ap, arith, Some, None, true≢false}
use Rattle.pb_text_tree.specs.declared.place.Place.{Place}
use Rattle.pb_text_tree.specs.declared.operator.Arithmetic.{Arithmetic}
use Rattle.pb_text_tree.specs.declared.operator.Arithmetic.TheVariants as arithmetic
use Rattle.pb_base_values.specs.Interval.{IntegerInterval, is_included, within, literals}
use Rattle.pb_base_values.specs.Operation.{BinaryOperation, binary_interval}
use Rattle.pb_text_meaning.specs.Erase.{of_arithmetic}
use Rattle.pb_typing_declarations.specs.declared.fault.TypingRule.TheVariants as rule
use Rattle.pb_typing_declarations.specs.Faults.{unless}
use Rattle.pb_base.specs.declared.or_memory.OrMemory.TheVariants.{Refused}
use Rattle.pb_typing_declarations.specs.Faults.{IsAmong}
use Rattle.pb_typing_declarations.specs.Shapes.{Shape, Unknown, Wholes}
use Rattle.pb_typing_rules.specs.Shapes.{may_divide, binary_shape, binary_is_limited, of_interval, kind_of, Computed}
use Rattle.pb_typing_rules.specs.Faults.{operator_faults}
use Rattle.pb_typing_declarations.proofs.Parts.{no_whole, unless_holds}
use Rattle.pb_typing_nodes.specs.View.{operation_of}

-- an interval within the limits, and one that isn't
some_within : (j i : IntegerInterval) → Some i ≡ within literals j → (is_included j literals ≡ true) × (i ≡ j)
some_within j i e = by_test (is_included j literals) refl e
  where
    by_test : (b : Bool) → is_included j literals ≡ b → Some i ≡ cond b (Some j) None → (is_included j literals ≡ true) × (i ≡ j)
    by_test true is f = (is, cc)
    by_test false is f = absurd (cc)

none_within : (j : IntegerInterval) → None ≡ within literals j → is_included j literals ≡ false
none_within j e = by_test (is_included j literals) refl e
  where
    by_test : (b : Bool) → is_included j literals ≡ b → None ≡ cond b (Some j) None → is_included j literals ≡ false
    by_test true is f = absurd (cc)
    by_test false is f = is

abbrev wholes : IntegerInterval → Shape
wholes i = Wholes i.low i.high

limited : (d w : Bool) → w ≡ true → (not d || w) ≡ true
limited true w e = e
limited false w e = refl

pub computed : (o : BinaryOperation) (l r : IntegerInterval) (p : Place) (i : IntegerInterval) → may_divide o (wholes r) ≡ true → Some i ≡ within literals (binary_interval o l r)
    → (operator_faults (Computed o) (wholes l) (wholes r) p ≡ []) × (wholes i ≡ binary_shape o (wholes l) (wholes r))
computed o l r p i d e =
    let w = some_within (binary_interval o l r) i e in (
      no_whole (unless (may_divide o (wholes r)) rule.Divisor p) _ (unless_holds (may_divide o (wholes r)) rule.Divisor p d)
          (unless_holds (binary_is_limited o (wholes l) (wholes r)) rule.LargeInterval p (limited (may_divide o (wholes r)) (is_included (binary_interval o l r) literals) w.0)),
      ap of_interval e ∙ sym (ap (λ (b : Bool). cond b (of_interval (within literals (binary_interval o l r))) Unknown) d),
    )

fails : (d w : Bool) (p : Place) → d ≡ true → w ≡ false → IsAmong (unless d rule.Divisor p ++ unless (not d || w) rule.LargeInterval p) (Refused (record { rule = rule.LargeInterval; place = p }))
fails true true p e f = absurd (true≢false f)
fails true false p e f = (0, omega arith, refl)
fails false w p e f = absurd (true≢false (sym e))

pub beyond : (o : BinaryOperation) (l r : IntegerInterval) (p : Place) → may_divide o (wholes r) ≡ true → None ≡ within literals (binary_interval o l r)
    → IsAmong (operator_faults (Computed o) (wholes l) (wholes r) p) (Refused (record { rule = rule.LargeInterval; place = p }))
beyond o l r p d e = fails (may_divide o (wholes r)) (is_included (binary_interval o l r) literals) p d (none_within (binary_interval o l r) e)

pub kind_of-arithmetic : (o : Arithmetic) → kind_of (of_arithmetic o) ≡ Computed (operation_of o)
kind_of-arithmetic arithmetic.Plus = refl
kind_of-arithmetic arithmetic.Minus = refl
kind_of-arithmetic arithmetic.Times = refl
kind_of-arithmetic arithmetic.Div = refl
kind_of-arithmetic arithmetic.Mod = refl
