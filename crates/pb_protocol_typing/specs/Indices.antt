-- Which indices are plainly the same: terms that are written out, and an operator of two of them;
-- and which variables stand in an index.
use Rattle.std.specs.Prelude.{Bool, true, false, not, ◌&&◌, ◌||◌, is_some}
use Rattle.pb_text_tree.specs.declared.operator.Arithmetic.{Arithmetic}
use Rattle.pb_text_tree.specs.declared.operator.Arithmetic.TheVariants as operator
use Rattle.pb_text_tree.specs.Form.{TermForm, ArgumentForms, no_arguments, argument}
use Rattle.pb_text_meaning.specs.Syntax.{Name, same_name}
use Rattle.pb_protocol_typing.specs.Written.{Written, Boolean, Number, Alone, Other, written}
use Rattle.pb_protocol_typing.specs.Written.{is_same}
use Rattle.pb_protocol_typing.specs.Scopes.{sort_in}

-- `i`, or `i + 1`
pub data IndexTerm : Type 0 where
  Plain : Written → IndexTerm
  Computed : Arithmetic → Written → Written → IndexTerm

-- where the left operand isn't written out, as in `i * 2 + 1`, nothing is said of the term
abbrev pub computed_term : Arithmetic → Written → Written → IndexTerm
computed_term o Other w = Plain Other
computed_term o (Boolean b) w = Computed o (Boolean b) w
computed_term o (Number b n) w = Computed o (Number b n) w
computed_term o (Alone x) w = Computed o (Alone x) w

-- what an index term is as it is written
abbrev pub index_term : TermForm → IndexTerm
index_term (TermForm.computed o p x y) = computed_term o (written x) (written y)
index_term x = Plain (written x)

-- one operator
abbrev pub same_operator : Arithmetic → Arithmetic → Bool
same_operator operator.Plus operator.Plus = true
same_operator operator.Minus operator.Minus = true
same_operator operator.Times operator.Times = true
same_operator operator.Div operator.Div = true
same_operator operator.Mod operator.Mod = true
same_operator o p = false

-- plainly the same
abbrev pub is_same_term : IndexTerm → IndexTerm → Bool
is_same_term (Plain v) (Plain w) = is_same v w
is_same_term (Computed o v w) (Computed p x y) = same_operator o p && (is_same v x && is_same w y)
is_same_term _ _ = false

-- and so of all terms of two indices
abbrev pub are_same : ArgumentForms → ArgumentForms → Bool
are_same no_arguments no_arguments = true
are_same (argument p x xs) (argument q y ys) =
    is_same_term (index_term x) (index_term y) && are_same xs ys
are_same _ _ = false

-- ---- variables in indices

-- whether a name stands in a term, where no quantifier there has a variable of that name
abbrev mutual
  pub stands_in : Name → TermForm → Bool
  stands_in x (TermForm.constant p b) = false
  stands_in x (TermForm.number p n) = false
  stands_in x (TermForm.name y) = same_name y.text x
  stands_in x (TermForm.not p y) = stands_in x y
  stands_in x (TermForm.negative p y) = stands_in x y
  stands_in x (TermForm.connected c p y z) = stands_in x y || stands_in x z
  stands_in x (TermForm.compared c p y z) = stands_in x y || stands_in x z
  stands_in x (TermForm.computed o p y z) = stands_in x y || stands_in x z
  stands_in x (TermForm.application f ys) = stands_among x ys
  stands_in x (TermForm.quantified q p ys y) = not (is_some (sort_in ys x)) && stands_in x y

  pub stands_among : Name → ArgumentForms → Bool
  stands_among x no_arguments = false
  stands_among x (argument p y ys) = stands_in x y || stands_among x ys
