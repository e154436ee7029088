-- Equations and whole texts are read rightly.
use Rattle.std.proofs.Common.{◌≡◌, ℕ, zero, suc, ◌≤◌, true, false, List, [], ◌∷◌, refl, ◌∙◌, ap, arith, ◌⊎◌, inl, inr}
use Rattle.pb_fixpoint.specs.declared.Sign.{Sign}
use Rattle.pb_fixpoint.specs.declared.Sign.TheVariants as sign
use Rattle.pb_text_tree.specs.Form.{VariableForm, InstanceForm, RangeForm, EquationForm, SpecForm}
use Rattle.pb_text_tree.specs.declared.operator.Connective.TheVariants as connective
use Rattle.pb_text_lexer.specs.declared.fault.ReadingRule.TheVariants.{Limit}
use Rattle.pb_text_lexer.specs.declared.kind.Kind.{Kind}
use Rattle.pb_text_lexer.specs.declared.kind.Kind.TheVariants as k
use Rattle.pb_text_lexer.specs.Kinds.{same_kind, is_limited}
use Rattle.pb_text_lexer.specs.Grammar.{State, WithinLimits, going_on, Is, One, First, CountedApart}
use Rattle.pb_text_lexer.specs.Grammar as grammar
use Rattle.pb_text_lexer.specs.LeftGrammar.{Extended}
use Rattle.pb_text_lexer.specs.Steps.{pure, take_token, expect, kind, unless_next}
use Rattle.pb_text_lexer.specs.Tokens.{Tok}
use Rattle.pb_text_lexer.proofs.Correct.{st, Family, Stops, never, readable-is, readable-one, Answering, Correct, then-correct, HeadIs, take-correct, expect-correct, refused-here, Free, Readable, goes-free, free-to, free-then, free-one}
use Rattle.pb_text_lexer.proofs.CorrectFamilies.{Nowhere, first-correct, deeper, deeper-correct, alike-correct, own-correct}
use Rattle.pb_text_lexer.proofs.CorrectSeries.{going, Passes, head-at}
use Rattle.pb_text_lexer.proofs.CorrectPlain.{Always, anywhere, then-plain, is-correct, nothing-correct}
use Rattle.pb_text_lexer.proofs.CorrectLeft.{unless_next-answers, extended-correct}
use Rattle.pb_text_terms.specs.Grammar.{Name, Variables, Instance, IsTerm}
use Rattle.pb_text_terms.specs.Reading.{name, variables, is_open, is_comma}
use Rattle.pb_text_terms.specs.Reading as expressions
use Rattle.pb_text_formulas.specs.Grammar.{IsFormula, SortParts}
use Rattle.pb_text.specs.Grammar.{SignOf, Declared, IsEquation, Equations, IsInitialInstance, IsSpec}
use Rattle.pb_text_formulas.specs.Reading.{level, sort_parts}
use Rattle.pb_text.specs.Reading.{sign_by, sign_of, declared, parameters, right_side, equation, begins_equation, equations, initial_instance, text}
use Rattle.pb_text_terms.proofs.CorrectVariable.{head-kind-is, name-correct, variables-correct}
use Rattle.pb_text_terms.proofs.CorrectTerm.{instance-correct}
use Rattle.pb_text_formulas.proofs.CorrectFormula.{node_goes, formula_goes, formulas-correct}
use Rattle.pb_text_formulas.proofs.CorrectSorts.{passes-kind, head-of, other-stops, token-correct, many-correct, parts_go, sort_parts-correct}

-- ---- signs

sign-starts : (kind : Kind) (s : State) (y : Sign) (z : State) → SignOf kind s y z → HeadIs kind s.tokens
sign-starts k.Mu s y z r = head-at k.Mu s.tokens r.1.tokens r.0 r.2.0 r.2.1
sign-starts k.Nu s y z r = head-at k.Nu s.tokens r.1.tokens r.0 r.2.0 r.2.1
sign-starts _ s y z r = absurd r

mu-correct : (depth : ℕ) → Correct (HeadIs k.Mu) (sign_by k.Mu) (λ d. SignOf k.Mu) never depth
mu-correct depth = then-plain (λ d. One k.Mu) (λ t d. Is sign.Mu) never depth (HeadIs k.Mu) take_token (λ t. pure sign.Mu) (take-correct k.Mu depth refl) (λ t. is-correct sign.Mu depth)

nu-correct : (depth : ℕ) → Correct (HeadIs k.Nu) (sign_by k.Nu) (λ d. SignOf k.Nu) never depth
nu-correct depth = then-plain (λ d. One k.Nu) (λ t d. Is sign.Nu) never depth (HeadIs k.Nu) take_token (λ t. pure sign.Nu) (take-correct k.Nu depth refl) (λ t. is-correct sign.Nu depth)

at-sign : (depth : ℕ) (kind : Kind) → Answering (HeadIs kind) (sign_by kind) (λ d. SignOf kind) never depth ⊎ Nowhere (sign_by kind) (λ d. SignOf kind)
at-sign depth k.Mu = inl (mu-correct depth).answers
at-sign depth k.Nu = inl (nu-correct depth).answers
at-sign depth kind = inr nothing-correct

sign-correct : (depth : ℕ) → Correct Always sign_of (λ d. First SignOf) never depth
unfolding sign_of
sign-correct depth = first-correct (λ d. SignOf) never depth (λ d. sign-starts) sign_by (at-sign depth) k.Mu (mu-correct depth).here (mu-correct depth).some

-- ---- parameters

comma-closes : going never is_comma k.Close ≡ false
unfolding same_kind
comma-closes = refl

-- variables in brackets
abbrev in_brackets : Family (List VariableForm)
in_brackets d = grammar.◌>>=◌ (One k.Open) (λ open_bracket. grammar.◌>>=◌ (deeper (λ d. Variables) d) (λ found. grammar.◌>>=◌ (One k.Close) (λ close_bracket. Is found)))

to-declared : (d : ℕ) (s : State) (y : List VariableForm) (z : State) → in_brackets d s y z → Declared d s y z
to-declared zero s y z r = absurd r.3.2
to-declared (suc d) s y z r = r

from-declared : (d : ℕ) (s : State) (y : List VariableForm) (z : State) → Declared d s y z → in_brackets d s y z
from-declared zero s y z r = absurd r
from-declared (suc d) s y z r = r

declared-starts : (d : ℕ) (none : List VariableForm) (s : State) (y : List VariableForm) (z : State) → Declared d s y z → Passes is_open s.tokens
declared-starts d none s y z r = let b = from-declared d s y z r in passes-kind k.Open s.tokens b.1.tokens b.0 b.2.0 b.2.1

no-level : (d : ℕ) (s : State) (y : List VariableForm) (z : State) → d ≤ 0 → Declared d s y z → ⊥
no-level zero s y z le r = r
no-level (suc d) s y z le r = omega arith

-- where a level may open, variables in brackets go on
some-variables : Readable (deeper (λ d. Variables)) 1
some-variables = let c = (variables-correct 0).some in record { tail = c.tail; value = c.value; reads = c.reads }

free-declared : (t : Tok) → t.kind ≡ k.Open → Free Declared 1 (t ∷ [])
free-declared t is =
    free-to in_brackets Declared (λ x. x) 1 1 (to-declared 1) (t ∷ [])
    (free-then (λ d. One k.Open)
    (λ open_bracket d. grammar.◌>>=◌ (deeper (λ d. Variables) d)
    (λ found. grammar.◌>>=◌ (One k.Close) (λ close_bracket. Is found))) 1 (t ∷ []) (free-one k.Open 1 t is) (λ open_bracket.
    free-then (deeper (λ d. Variables)) (λ found d. grammar.◌>>=◌ (One k.Close) (λ close_bracket. Is found)) 1 [] some-variables (λ found.
    free-then (λ d. One k.Close) (λ close_bracket d. Is found) 1 [] (readable-one k.Close 1) (λ close_bracket. readable-is found 1))))

declared-answers : (depth : ℕ) → Answering (HeadIs k.Open) (declared depth) Declared never depth
declared-answers zero =
    λ s end h. refused-here Declared never 0 s Limit end (λ q. ap is_limited (head-kind-is k.Open s.tokens h)) (λ d n t tail y w head within r over. no-level d (st (t ∷ tail) n) y w within.0 r)
    (λ t is. goes-free Declared 1 (suc s.operators) (t ∷ []) (free-declared t (is ∙ head-kind-is k.Open s.tokens h)))
declared-answers (suc depth) =
    (alike-correct (HeadIs k.Open) (declared (suc depth)) in_brackets Declared never (suc depth) to-declared from-declared
    (then-plain (λ d. One k.Open) (λ open_bracket d. grammar.◌>>=◌ (deeper (λ d. Variables) d) (λ found. grammar.◌>>=◌ (One k.Close) (λ close_bracket. Is found))) never (suc depth)
    (HeadIs k.Open) take_token _ (take-correct k.Open (suc depth) refl) (λ open_bracket.
    then-correct (deeper (λ d. Variables)) (λ found d. grammar.◌>>=◌ (One k.Close) (λ close_bracket. Is found)) (going never is_comma) never (suc depth)
    (λ d x m y z r over. other-stops (going never is_comma) k.Close m.tokens r.1.tokens r.0 comma-closes r.2.0 r.2.1) Always variables _
    (deeper-correct Always variables (λ d. Variables) (going never is_comma) depth (variables-correct depth))
    (λ found. anywhere (Stops (going never is_comma)) _ _ never (suc depth) (token-correct k.Close (suc depth) found refl))))).answers

abbrev pub parameters_of : Family (List VariableForm)
parameters_of d = Extended (Is []) (λ none. Declared d)

pub parameters-correct : (depth : ℕ) → Correct Always (parameters depth) parameters_of (going never is_open) depth
unfolding parameters
parameters-correct depth =
    extended-correct (λ d. Is []) (λ none d. Declared d) never is_open depth (λ kind h. refl) declared-starts Always (pure []) (is-correct [] depth)
    (λ none. unless_next is_open (declared depth))
    (λ none. unless_next-answers Declared never is_open depth (Passes is_open) (declared depth)
    (λ s end head. declared-answers depth s end (head-of k.Open s.tokens head)))

-- ---- equations

right_side-correct : (depth : ℕ) → Correct Always (right_side depth) (λ d. CountedApart (IsFormula d)) formula_goes depth
unfolding right_side
right_side-correct depth = own-correct Always (level connective.Implies depth) IsFormula formula_goes depth (formulas-correct depth).formulas

is-stops : going never is_open k.Is ≡ false
unfolding same_kind
is-stops = refl

semicolon-stops : formula_goes k.Semicolon ≡ false
unfolding same_kind
semicolon-stops = refl

equation-correct : (depth : ℕ) → Correct Always (equation depth) IsEquation never depth
unfolding equation
equation-correct depth =
    then-plain (λ d. First SignOf)
    (λ sign d. grammar.◌>>=◌ Name
    (λ name. grammar.◌>>=◌ (parameters_of d)
    (λ ps. grammar.◌>>=◌ (One k.Is)
    (λ equals. grammar.◌>>=◌ (CountedApart (IsFormula d))
    (λ right. grammar.◌>>=◌ (One k.Semicolon)
    (λ semicolon. Is (record { sign = sign; name = name; parameters = ps; right = right }))))))) never depth
    Always sign_of _ (sign-correct depth) (λ sign.
    then-plain (λ d. Name)
    (λ name d. grammar.◌>>=◌ (parameters_of d)
    (λ ps. grammar.◌>>=◌ (One k.Is)
    (λ equals. grammar.◌>>=◌ (CountedApart (IsFormula d))
    (λ right. grammar.◌>>=◌ (One k.Semicolon)
    (λ semicolon. Is (record { sign = sign; name = name; parameters = ps; right = right })))))) never depth
    Always name _ (name-correct depth) (λ name.
    then-correct parameters_of
    (λ ps d. grammar.◌>>=◌ (One k.Is)
    (λ equals. grammar.◌>>=◌ (CountedApart (IsFormula d))
    (λ right. grammar.◌>>=◌ (One k.Semicolon)
    (λ semicolon. Is (record { sign = sign; name = name; parameters = ps; right = right }))))) (going never is_open) never depth
    (λ d x m y z r over. other-stops (going never is_open) k.Is m.tokens r.1.tokens r.0 is-stops r.2.0 r.2.1) Always
    (parameters depth) _ (parameters-correct depth) (λ ps. anywhere (Stops (going never is_open)) _ _ never depth (
    then-plain (λ d. One k.Is)
    (λ equals d. grammar.◌>>=◌ (CountedApart (IsFormula d))
    (λ right. grammar.◌>>=◌ (One k.Semicolon)
    (λ semicolon. Is (record { sign = sign; name = name; parameters = ps; right = right })))) never depth
    Always (expect k.Is) _ (expect-correct k.Is depth refl) (λ equals.
    then-correct (λ d. CountedApart (IsFormula d))
    (λ right d. grammar.◌>>=◌ (One k.Semicolon)
    (λ semicolon. Is (record { sign = sign; name = name; parameters = ps; right = right }))) formula_goes never depth
    (λ d x m y z r over. other-stops formula_goes k.Semicolon m.tokens r.1.tokens r.0 semicolon-stops r.2.0 r.2.1) Always (right_side depth) _ (right_side-correct depth)
    (λ right. anywhere (Stops formula_goes) _ _ never depth (token-correct k.Semicolon depth (record { sign = sign; name = name; parameters = ps; right = right }) refl)))))))

equation-starts : (d : ℕ) (s : State) (e : EquationForm) (z : State) → IsEquation d s e z → Passes begins_equation s.tokens
unfolding same_kind
equation-starts d s e z r = sign-at s.tokens s.operators r.0 r.1 r.2
  where
    begins : (kind : Kind) (s m : State) (y : Sign) → SignOf kind s y m → begins_equation kind ≡ true
    begins k.Mu s m y r = refl
    begins k.Nu s m y r = refl
    begins _ s m y r = absurd r

    sign-at : (ts : List Tok) (n : ℕ) (y : Sign) (m : State) → First SignOf (st ts n) y m → Passes begins_equation ts
    sign-at [] n y m r = r
    sign-at (t ∷ ts) n y m r = begins t.kind (st (t ∷ ts) n) m y r

equations-correct : (depth : ℕ) → Correct Always (equations depth) Equations (going never begins_equation) depth
equations-correct depth =
    many-correct IsEquation never begins_equation depth (λ kind h. refl) equation-starts (λ x. x ∷ []) (λ x u xs. x ∷ xs) (equation depth) (equation-correct depth)

-- ---- the initial instance

to-initial : (d : ℕ) (s : State) (y : InstanceForm) (z : State) → Instance (deeper IsTerm d) s y z → IsInitialInstance d s y z
to-initial zero s y z r = r
to-initial (suc d) s y z r = r

from-initial : (d : ℕ) (s : State) (y : InstanceForm) (z : State) → IsInitialInstance d s y z → Instance (deeper IsTerm d) s y z
from-initial zero s y z r = r
from-initial (suc d) s y z r = r

initial-correct : (depth : ℕ) → Correct Always (initial_instance depth) (λ d. CountedApart (IsInitialInstance d)) node_goes depth
unfolding initial_instance
initial-correct depth =
    own-correct Always (expressions.instance depth) IsInitialInstance node_goes depth
    (alike-correct Always (expressions.instance depth) (λ d. Instance (deeper IsTerm d)) IsInitialInstance node_goes depth to-initial from-initial (instance-correct depth))

-- ---- the whole text

init-stops : going never begins_equation k.Init ≡ false
unfolding same_kind
init-stops = refl

pbes-stops : parts_go k.Pbes ≡ false
unfolding same_kind
pbes-stops = refl

end-stops : node_goes k.Semicolon ≡ false
unfolding same_kind
end-stops = refl

module _ (ranges : List RangeForm) (depth : ℕ) where
  pub text-correct : Correct Always (text ranges depth) (IsSpec ranges) never depth
  unfolding text
  text-correct =
      then-correct (λ d. SortParts)
      (λ sorts d. grammar.◌>>=◌ (One k.Pbes)
      (λ pbes. grammar.◌>>=◌ (Equations d)
      (λ found. grammar.◌>>=◌ (One k.Init)
      (λ init. grammar.◌>>=◌ (CountedApart (IsInitialInstance d))
      (λ initial. grammar.◌>>=◌ (One k.Semicolon)
      (λ semicolon. Is (record { sorts = sorts; ranges = ranges; equations = found; initial = initial }))))))) parts_go never depth
      (λ d x m y z r over. other-stops parts_go k.Pbes m.tokens r.1.tokens r.0 pbes-stops r.2.0 r.2.1) Always sort_parts
      _ (sort_parts-correct depth) (λ sorts. anywhere (Stops parts_go) _ _ never depth (
      then-plain (λ d. One k.Pbes)
      (λ pbes d. grammar.◌>>=◌ (Equations d)
      (λ found. grammar.◌>>=◌ (One k.Init)
      (λ init. grammar.◌>>=◌ (CountedApart (IsInitialInstance d))
      (λ initial. grammar.◌>>=◌ (One k.Semicolon)
      (λ semicolon. Is (record { sorts = sorts; ranges = ranges; equations = found; initial = initial })))))) never depth
      Always (expect k.Pbes) _ (expect-correct k.Pbes depth refl) (λ pbes.
      then-correct Equations
      (λ found d. grammar.◌>>=◌ (One k.Init)
      (λ init. grammar.◌>>=◌ (CountedApart (IsInitialInstance d))
      (λ initial. grammar.◌>>=◌ (One k.Semicolon)
      (λ semicolon. Is (record { sorts = sorts; ranges = ranges; equations = found; initial = initial })))))
      (going never begins_equation) never depth
      (λ d x m y z r over. other-stops (going never begins_equation) k.Init m.tokens r.1.tokens r.0 init-stops r.2.0
      r.2.1) Always (equations depth) _ (equations-correct depth)
      (λ found. anywhere (Stops (going never begins_equation)) _ _ never depth (
      then-plain (λ d. One k.Init)
      (λ init d. grammar.◌>>=◌ (CountedApart (IsInitialInstance d))
      (λ initial. grammar.◌>>=◌ (One k.Semicolon)
      (λ semicolon. Is (record { sorts = sorts; ranges = ranges; equations = found; initial = initial })))) never depth
      Always (expect k.Init) _ (expect-correct k.Init depth refl) (λ init.
      then-correct (λ d. CountedApart (IsInitialInstance d))
      (λ initial d. grammar.◌>>=◌ (One k.Semicolon)
      (λ semicolon. Is (record { sorts = sorts; ranges = ranges; equations = found; initial = initial }))) node_goes never depth
      (λ d x m y z r over. other-stops node_goes k.Semicolon m.tokens r.1.tokens r.0 end-stops r.2.0 r.2.1) Always (initial_instance depth) _ (initial-correct depth)
      (λ initial. anywhere (Stops node_goes) _ _ never depth (token-correct k.Semicolon depth (record { sorts = sorts; ranges = ranges; equations = found; initial = initial }) refl))))))))

-- the same with other range lines
pub other-ranges : (rs us : List RangeForm) (d : ℕ) (s : State) (y : SpecForm) (z : State) → IsSpec us d s y z → IsSpec rs d s (record y { ranges = rs }) z
other-ranges rs us d s y z r =
    let p = r.3 in
    let e = p.3 in
    let i = e.3 in
    let n = i.3 in
    let c = n.3 in
    (r.0, r.1, r.2, (p.0, p.1, p.2, (e.0, e.1, e.2, (i.0, i.1, i.2, (n.0, n.1, n.2, (c.0, c.1, c.2, (ap (λ (v : SpecForm). record v { ranges = rs }) c.3.0, c.3.1)))))))

-- its ranges are those
pub ranges-are : (rs : List RangeForm) (d : ℕ) (s : State) (y : SpecForm) (z : State) → IsSpec rs d s y z → y ≡ record y { ranges = rs }
ranges-are rs d s y z r =
    let e : y.ranges ≡ rs = ap (λ (v : SpecForm). v.ranges) r.3.3.3.3.3.3.0 in
    ap (λ (v : List RangeForm). record y { ranges = v }) e
