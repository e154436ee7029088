-- Two equations with the programs that the scheme gives them, and what these write.
use Rattle.std.specs.Prelude.{◌≡◌, ℕ, true, false, List, [], ◌∷◌, None, pos, negsuc, codes}
use Rattle.pb_fixpoint.specs.declared.Sign.TheVariants.{Mu, Nu}
use Rattle.pb_text_tree.specs.declared.operator.Quantifier.TheVariants.{Forall}
use Rattle.std.proofs.Common.{refl}
use Rattle.std.proofs.lemmas.Bool.{ltb-true}
use Rattle.pb_base_values.proofs.Ends.{le_true}
use Rattle.pb_sorts.specs.declared.carrier.Carrier.{Carrier}
use Rattle.pb_sorts.specs.declared.carrier.Carrier.TheVariants as carrier
use Rattle.pb_text_meaning.specs.Syntax as syntax
use Rattle.pb_text_meaning.specs.Syntax.{Operator, Equation, Spec, Variable}
use Rattle.pb_typing_declarations.specs.Shapes.{Places, Wholes}
use Rattle.pb_fixpoint_trees.specs.declared.Token.TheVariants as token
use Rattle.pb_bytecode_program.specs.Machine.{Program, Ends, run, start}
use Rattle.pb_bytecode_program.specs.Safety.{arguments}
use Rattle.pb_bytecode_program.specs.declared.instruction.Arithmetic.TheVariants as arithmetic
use Rattle.pb_fixpoint_trees.specs.declared.junction.Junction.TheVariants as junction
use Rattle.pb_bytecode_program.specs.declared.instruction.Equality.TheVariants as equality
use Rattle.pb_bytecode_program.specs.declared.instruction.Leaf.TheVariants as leaf
use Rattle.pb_bytecode_program.specs.declared.instruction.Op.{Op}
use Rattle.pb_bytecode_program.specs.declared.instruction.Op.TheVariants as op
use Rattle.pb_normal.specs.Equations.{normal_equation}
use Rattle.pb_fixpoint_trees.specs.declared.junction.Junction.TheVariants.{Disjunction}
use Rattle.pb_normal.specs.Normal.{Term, Formula, Number, Slot, Binary, Test, Join, Each, Call}
use Rattle.pb_assembler_scheme.specs.Equations.{IsProgramOf}

-- ---- sort D = struct a | b | c; nu X(d: D) = forall e: D . val(e != d) => X(e)

abbrev pub letter : List ℕ → syntax.Enumerator
letter name = record { name = name; recogniser = None }

abbrev pub letters : syntax.SortDeclaration
letters = record {
  name = codes "D";
  sort = syntax.Struct (letter (codes "a") ∷ (letter (codes "b") ∷ (letter (codes "c") ∷ [])));
}

abbrev pub others_equation : Equation
others_equation = record {
  sign = Nu;
  name = codes "X";
  parameters = record { name = codes "d"; sort = codes "D" } ∷ [];
  right = syntax.Formula.Quantified Forall (record { name = codes "e"; sort = codes "D" } ∷ [])
      (syntax.Formula.Implies
      (syntax.Formula.Val
      (syntax.Binary Operator.NotEqual (syntax.Named (codes "e")) (syntax.Named (codes "d"))))
      (syntax.Formula.Call (codes "X") (syntax.Then (syntax.Named (codes "e")) syntax.NoTerms)));
}

abbrev pub others_spec : Spec
others_spec = record {
  sorts = letters ∷ [];
  ranges = [];
  equations = others_equation ∷ [];
  initial = codes "X";
  arguments = syntax.Then (syntax.Named (codes "a")) syntax.NoTerms;
}

abbrev pub others_form : Formula
others_form =
    Each Forall 1 (Places 0 3)
    (Join Disjunction (Test (Term.Not (Binary Operator.NotEqual (Slot 1) (Slot 0))))
    (Call 0 (record { term = Slot 1; shape = Places 0 3 } ∷ [])))

abbrev pub others_code : List Op
others_code =
    op.Open junction.Conjunction
    ∷ (op.Loop 1
    ∷ (op.Get 1
    ∷ (op.Get 0
    ∷ (op.Equality equality.NotEqual
    ∷ (op.Not
    ∷ (op.JumpIf true 9
    ∷ (op.Get 1
    ∷ (op.Call 0
    ∷ (op.Next
    ∷ (op.Close
    ∷ (op.End
    ∷ [])))))))))))

abbrev pub letter_carrier : Carrier
letter_carrier = carrier.Enum (record { sort = 0; count = 3; not_empty = ltb-true 0 3 refl })

abbrev pub others_program : Program
others_program = record {
  sorts = 3 ∷ [];
  callees = (letter_carrier ∷ []) ∷ [];
  parameters = letter_carrier ∷ [];
  loops = letter_carrier ∷ [];
  stated_steps = 28;
  stated_tokens = 5;
  code = others_code;
}

pub record OthersAreCompiled : Type 0 where
  pub form : normal_equation others_spec others_equation ≡ others_form
  pub program : IsProgramOf others_spec others_equation others_program
  pub at_b :
      run others_program 28 (start (arguments others_program.parameters (pos 1 ∷ [])))
      ≡ Ends (token.And ∷ (token.Call 0 ∷ (token.Call 2 ∷ (token.Close ∷ []))))

-- ---- %range Int 0 9; mu X(n: Int) = val(n == 0) || X(n - 1)

abbrev pub countdown_equation : Equation
countdown_equation = record {
  sign = Mu;
  name = codes "X";
  parameters = record { name = codes "n"; sort = codes "Int" } ∷ [];
  right = syntax.Formula.Or
      (syntax.Formula.Val
      (syntax.Binary Operator.Equal (syntax.Named (codes "n")) (syntax.Number 0)))
      (syntax.Formula.Call (codes "X")
      (syntax.Then (syntax.Binary Operator.Minus (syntax.Named (codes "n")) (syntax.Number 1))
      syntax.NoTerms));
}

abbrev pub countdown_spec : Spec
countdown_spec = record {
  sorts = [];
  ranges = record { name = codes "Int"; low = pos 0; high = pos 9 } ∷ [];
  equations = countdown_equation ∷ [];
  initial = codes "X";
  arguments = syntax.Then (syntax.Number 9) syntax.NoTerms;
}

abbrev pub countdown_form : Formula
countdown_form =
    Join Disjunction (Test (Binary Operator.Equal (Slot 0) (Number 0)))
    (Call 0
    (record {
      term = Binary Operator.Minus (Slot 0) (Number 1);
      shape = Wholes (negsuc 0) (pos 8);
    } ∷ []))

abbrev pub countdown_code : List Op
countdown_code =
    op.Open junction.Disjunction
    ∷ (op.Get 0
    ∷ (op.PushInt (pos 0)
    ∷ (op.Equality equality.Equal
    ∷ (op.JumpIf false 7
    ∷ (op.Emit leaf.Yes
    ∷ (op.Jump 15
    ∷ (op.Get 0
    ∷ (op.PushInt (pos 1)
    ∷ (op.Arithmetic arithmetic.Sub
    ∷ (op.InRange (pos 0) (pos 9) 13
    ∷ (op.Call 0
    ∷ (op.Jump 15
    ∷ (op.Pop
    ∷ (op.Emit leaf.Cut
    ∷ (op.Close
    ∷ (op.End
    ∷ []))))))))))))))))

abbrev pub digit_carrier : Carrier
digit_carrier = carrier.Range (record {
  low = pos 0;
  high = pos 9;
  not_empty = le_true (pos 0) (pos 9) refl;
})

abbrev pub countdown_program : Program
countdown_program = record {
  sorts = [];
  callees = (digit_carrier ∷ []) ∷ [];
  parameters = digit_carrier ∷ [];
  loops = [];
  stated_steps = 17;
  stated_tokens = 5;
  code = countdown_code;
}

pub record CountdownIsCompiled : Type 0 where
  pub form : normal_equation countdown_spec countdown_equation ≡ countdown_form
  pub program : IsProgramOf countdown_spec countdown_equation countdown_program
  pub at_0 :
      run countdown_program 17 (start (arguments countdown_program.parameters (pos 0 ∷ [])))
      ≡ Ends (token.Or ∷ (token.Yes ∷ (token.Close ∷ [])))
  pub at_9 :
      run countdown_program 17 (start (arguments countdown_program.parameters (pos 9 ∷ [])))
      ≡ Ends (token.Or ∷ (token.Call 8 ∷ (token.Close ∷ [])))
