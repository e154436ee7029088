-- Formulas are read rightly.
use Rattle.std.specs.Prelude.{codes, is_some}
use Rattle.std.proofs.Common.{◌≡◌, ℕ, zero, suc, ◌≤◌, Bool, true, false, cond, ◌&&◌, ◌||◌, Option, Some, None, List, [], ◌∷◌, refl, ap, ◌∙◌, arith, ◌⊎◌, inl, inr}
use Rattle.std.specs.Str.Parse.{digits_value}
use Rattle.pb_text_tree.specs.declared.place.Place.{Place}
use Rattle.pb_text_tree.specs.Form.{TermForm, no_arguments}
use Rattle.pb_model_tree.specs.declared.formula.Modality.{Modality}
use Rattle.pb_model_tree.specs.declared.formula.Modality.TheVariants as modality
use Rattle.pb_protocol_tree.specs.Form.{FormulaForm}
use Rattle.pb_text_lexer.specs.declared.fault.ReadingRule.TheVariants.{Unexpected, Limit}
use Rattle.pb_text_lexer.specs.declared.kind.Kind.{Kind}
use Rattle.pb_text_lexer.specs.declared.kind.Kind.TheVariants as k
use Rattle.pb_text_lexer.specs.Kinds.{same_kind, is_last, is_limited}
use Rattle.pb_text_lexer.specs.Lexing.{start}
use Rattle.pb_text_lexer.specs.Steps.{extended}
use Rattle.pb_text_lexer.proofs.TokenLemmas.{kind-same, same-kind}
use Rattle.pb_text_lexer.specs.Grammar.{State, Reads, Is, One, First}
use Rattle.pb_text_lexer.specs.Grammar as grammar
use Rattle.pb_text_lexer.specs.OpenGrammar.{last, Connected}
use Rattle.pb_text_lexer.specs.Steps.{Step, and_then, pure, take_token, expect, refuse, unless_next, connected, kind, head_kind}
use Rattle.pb_text_lexer.specs.Steps as step
use Rattle.pb_text_lexer.specs.Tokens.{Tok}
use Rattle.pb_text_lexer.proofs.Correct.{st, Family, Stops, never, readable-is, readable-one, readable-free, some-token, unlike, Answers, Answering, Correct, then-correct, HeadIs, take-correct, expect-correct, refused-here, Free, Readable, goes-free, free-to, free-then, free-one}
use Rattle.pb_text_lexer.proofs.CorrectFamilies.{readable-deeper, Nowhere, first-correct, deeper, deeper-correct, alike-correct, to-first}
use Rattle.pb_text_lexer.proofs.CorrectSeries.{going, Passes, head-at, passes-at}
use Rattle.pb_text_lexer.proofs.CorrectPlain.{Always, anywhere, then-plain, leaf-correct, is-correct, nothing-correct}
use Rattle.pb_text_lexer.proofs.CorrectLeft.{unless_next-answers, unless_next-correct, going-alike-answers, extended-correct}
use Rattle.pb_text_lexer.proofs.CorrectEither.{Not, IsBelow, connects, connected-correct}
use Rattle.pb_text_terms.specs.Grammar.{Name, Instance, applied, Placed, Equated, IsUnary, IsTerm}
use Rattle.pb_text_terms.specs.Operators as operators
use Rattle.pb_text_terms.specs.Operators.{connected_by, is_equality, is_order, is_additive, is_times, is_division}
use Rattle.pb_text_terms.specs.Reading.{is_open, with_place, equated, unary}
use Rattle.pb_text_terms.proofs.CorrectVariable.{head-kind-is, head-limited, said-correct, stops-at-kind}
use Rattle.pb_text_terms.proofs.CorrectOperators.{equated_goes, equateds, unary_goes}
use Rattle.pb_text_terms.proofs.CorrectInstance.{placed-correct}
use Rattle.pb_text_terms.proofs.CorrectTerm.{unary-correct}
use Rattle.pb_text_terms.proofs.TermStarts as terms
use Rattle.pb_text_formulas.specs.Reading.{is_name_kind}
use Rattle.pb_model_text.specs.declared.word.Leading.{Leading}
use Rattle.pb_model_text.specs.declared.word.Leading.TheVariants as leading
use Rattle.pb_model_text.specs.declared.word.Infix.TheVariants as between
use Rattle.pb_model_text.specs.Words.{leading_of, infix_of, is_word, no_deadlock, fair, prefixed, infixed}
use Rattle.pb_model_text.specs.Grammar.{FixpointNames, atom_of, Beginning, Atom, Modal, Begun, Word, allowed, leading_within, begins_word, Wordless, LedBy, Led, Joined, within, within_fair, IsStepSet, IsProcesses, IsPlain, IsFair, IsNode, IsFormula}
use Rattle.pb_model_text.specs.Reading.{is_binder, goes_on, atom, modal, begun, data_operand, step_set, binder_over, take_word, wordless, led_by, led, joined_by, processes_behind, processes, plain, behind_fair, node, item, formula}
use Rattle.pb_model_text.proofs.CorrectWords.{HasWord, word-correct, word-then-answers, wordless-answers, wordless-correct, by-word-correct}
use Rattle.pb_model_text.proofs.CorrectFair.{no-bracket, processes-correct}
use Rattle.pb_model_text.proofs.CorrectFair as fair_sets
use Rattle.pb_model_text.proofs.CorrectStepSets.{sets_go, readable-sets, step_set-correct}
use Rattle.pb_model_text.proofs.CorrectBeginning.{begins, beginning-answers}
use Rattle.pb_model_text.proofs.CorrectBinder.{binders, binder-starts, binder-correct, binder-last}

-- what goes on with a node: what goes on with data
abbrev pub node_goes : Kind → Bool
node_goes = equated_goes

-- and with nodes with words between them: another word too
abbrev pub item_goes : Kind → Bool
item_goes = going node_goes is_name_kind

abbrev pub formula_goes : Kind → Bool
formula_goes = connects item_goes

below-item : IsBelow item_goes
unfolding same_kind
below-item = record { conjunction = refl; disjunction = refl; implication = refl }

no-name : node_goes k.Name ≡ false
unfolding same_kind
no-name = refl

-- ---- data

pub equated-some : (d : ℕ) (s : State) (y : TermForm) (z : State) → Equated (IsUnary d) s y z → Passes (λ kind. true) s.tokens
equated-some d s y z r = some-token-of (Not operators.is_binder) s.tokens (terms.node-starts d s y z r)
  where
    some-token-of : (test : Kind → Bool) (ts : List Tok) → Passes test ts → Passes (λ kind. true) ts
    some-token-of test [] h = h
    some-token-of test (t ∷ ts) h = refl

-- what begins with one token, and is an operand of data
pub unary-with : (kind : Kind) (level : ℕ) (t : Tok) → Free (λ d. terms.kinds d kind) level (t ∷ []) → Free IsUnary level (t ∷ [])
unary-with kind level t a =
    free-to (λ d. terms.kinds d kind) IsUnary (λ x. x) level level
    (λ s x z r. terms.to-unary level s x z (to-first (terms.kinds level) kind s.tokens s.operators x z (terms.starts (deeper IsUnary level) (deeper IsTerm level) kind s x z r) r)) (t ∷ []) a

pub free-name : (level : ℕ) (t : Tok) → t.kind ≡ k.Name → Free IsUnary level (t ∷ [])
free-name level t is =
    unary-with k.Name level t (
    free-then (λ d. Instance (deeper IsTerm d)) (λ found d. Is (applied found.name found.arguments)) level (t ∷ [])
    (free-to (λ d. grammar.◌>>=◌ Name (λ name. Is (record { name = name; arguments = no_arguments }))) (λ d. Instance (deeper IsTerm d)) (λ x. x) level level (λ s x z r. inl r) (t ∷ [])
    (free-then (λ d. Name) (λ name d. Is (record { name = name; arguments = no_arguments })) level (t ∷ [])
    (free-then (λ d. One k.Name) (λ token d. Is (record { place = token.place; text = token.text })) level (t ∷ []) (free-one k.Name level t is)
    (λ token. readable-is (record { place = token.place; text = token.text }) level))
    (λ name. readable-is (record { name = name; arguments = no_arguments }) level)))
    (λ found. readable-is (applied found.name found.arguments) level))

pub free-number : (level : ℕ) (t : Tok) → t.kind ≡ k.Number → Free IsUnary level (t ∷ [])
free-number level t is =
    unary-with k.Number level t (
    free-then (λ d. One k.Number) (λ token d. Is (TermForm.number token.place (digits_value 10 token.text))) level (t ∷ []) (free-one k.Number level t is)
    (λ token. readable-is (TermForm.number token.place (digits_value 10 token.text)) level))

pub free-minus : (level : ℕ) (t : Tok) → t.kind ≡ k.Minus → Free IsUnary (suc level) (t ∷ [])
free-minus level t is =
    unary-with k.Minus (suc level) t (
    free-then (λ d. One k.Minus) (λ sign d. grammar.◌>>=◌ (deeper IsUnary d) (λ operand. Is (TermForm.negative sign.place operand))) (suc level) (t ∷ []) (free-one k.Minus (suc level) t is)
    (λ sign. free-then (deeper IsUnary) (λ operand d. Is (TermForm.negative sign.place operand)) (suc level) [] (readable-deeper IsUnary level (terms.readable-unary level))
    (λ operand. readable-is (TermForm.negative sign.place operand) (suc level))))

module _ (made : Place → TermForm → FormulaForm) where
  abbrev atoms : Family FormulaForm
  atoms d = Atom made (IsUnary d)

  readable-atom : (kind : Kind) (level : ℕ) (t : Tok) → t.kind ≡ kind → Free IsUnary level (t ∷ []) → Readable (λ d. Beginning kind (atoms d)) level
  readable-atom kind level t is a = record {
    tail = t ∷ a.tail;
    value = made t.place a.value;
    reads = λ n after. (is, ((t.place, a.value), st after n, (inl (inl (inl (inl (a.reads n after)))), refl), (refl, refl)));
  }

  atoms-some : (d : ℕ) (s : State) (y : FormulaForm) (z : State) → atoms d s y z → Passes (λ kind. true) s.tokens
  atoms-some d s y z r = equated-some d s r.0.1 r.1 r.2.0

  atom-correct : (depth : ℕ) → Correct Always (atom made (data_operand depth)) atoms node_goes depth
  unfolding data_operand
  atom-correct depth =
      said-correct (λ d. Placed (Equated (IsUnary d))) (λ found. made found.0 found.1) node_goes depth Always (with_place (equated (unary depth)))
      (placed-correct (λ d. Equated (IsUnary d)) node_goes depth equated-some (equated (unary depth)) (equateds (unary depth) IsUnary depth (unary-correct depth)))

  atom-answers : (kind : Kind) (depth : ℕ) → Free IsUnary (suc depth) (some-token kind ∷ []) → Answering (HeadIs kind) (atom made (data_operand depth)) (λ d. Beginning kind (atoms d)) node_goes depth
  atom-answers kind depth a =
      beginning-answers atoms node_goes depth kind atoms-some (readable-atom kind (suc depth) (some-token kind) refl a) (atom made (data_operand depth)) (atom-correct depth).answers

-- ---- no data goes on behind what is closed

closed-correct : (P : List Tok → Type 0) (p : Step FormulaForm) (fam : Family FormulaForm) (depth : ℕ) → Correct P p fam never depth → Correct P (unless_next goes_on p) fam node_goes depth
closed-correct P p fam depth a = unless_next-correct fam never goes_on depth P p a

leaf : (kind : Kind) (f : Tok → FormulaForm) (depth : ℕ) → is_last kind ≡ false
    → Correct (HeadIs kind) (unless_next goes_on (step.◌>>=◌ take_token (λ t. pure (f t)))) (λ d. grammar.◌>>=◌ (One kind) (λ t. Is (f t))) node_goes depth
leaf kind f depth ne = closed-correct (HeadIs kind) (step.◌>>=◌ take_token (λ t. pure (f t))) (λ d. grammar.◌>>=◌ (One kind) (λ t. Is (f t))) depth (leaf-correct kind f depth ne)

once-more : (o t a r e : Bool) → (o || ((((o || t) || a) || r) || e)) ≡ ((((o || t) || a) || r) || e)
once-more true t a r e = refl
once-more false t a r e = refl

abbrev values : Family FormulaForm
values d = grammar.◌>>=◌ (One k.Val) (λ word. grammar.◌>>=◌ (IsUnary d) (λ x. Is (FormulaForm.«data» word.place x)))

value-answers : (depth : ℕ)
    → Answering (HeadIs k.Val) (unless_next goes_on (step.◌>>=◌ take_token (λ word. step.◌>>=◌ (data_operand depth) (λ x. pure (FormulaForm.«data» word.place x))))) values node_goes depth
unfolding data_operand
value-answers depth =
    going-alike-answers (HeadIs k.Val) _ values (going unary_goes goes_on) node_goes depth
    (λ kind. once-more (is_open kind) (is_times kind || is_division kind) (is_additive kind) (is_order kind) (is_equality kind))
    (unless_next-answers values unary_goes goes_on depth (HeadIs k.Val) _
    (then-plain (λ d. One k.Val) (λ word d. grammar.◌>>=◌ (IsUnary d) (λ x. Is (FormulaForm.«data» word.place x))) unary_goes depth (HeadIs k.Val) take_token
    (λ word. step.◌>>=◌ (unary depth) (λ x. pure (FormulaForm.«data» word.place x))) (take-correct k.Val depth refl)
    (λ word. said-correct IsUnary (λ x. FormulaForm.«data» word.place x) unary_goes depth Always (unary depth) (unary-correct depth))).answers)

square-closes : sets_go k.CloseSquare ≡ false
unfolding same_kind
square-closes = refl

angle-closes : sets_go k.Greater ≡ false
unfolding same_kind
angle-closes = refl

formula-closes : formula_goes k.Close ≡ false
unfolding same_kind
formula-closes = refl

-- ---- tokens that begin a node

module _ (scope : FixpointNames) where
  abbrev kinds : ℕ → Kind → Reads FormulaForm
  kinds d = Begun scope (deeper (IsNode scope) d) (deeper (IsFormula scope) d) (IsUnary d) (deeper IsStepSet d)

  to-plain : (d : ℕ) (s : State) (y : FormulaForm) (z : State) → First (kinds d) s y z → IsPlain scope d s y z
  to-plain zero s y z r = r
  to-plain (suc d) s y z r = r

  from-plain : (d : ℕ) (s : State) (y : FormulaForm) (z : State) → IsPlain scope d s y z → First (kinds d) s y z
  from-plain zero s y z r = r
  from-plain (suc d) s y z r = r

  abbrev items : Family FormulaForm
  items d = Joined (IsNode scope d)

  abbrev bound : Family FormulaForm
  bound = binders (λ name. IsFormula (within scope name)) (IsFormula scope) formula_goes

  abbrev connecteds : Family FormulaForm
  connecteds d = Connected (connected_by FormulaForm.connected) (items d) (bound d)

  to-formula : (d : ℕ) (s : State) (y : FormulaForm) (z : State) → connecteds d s y z → IsFormula scope d s y z
  to-formula zero s y z r = r
  to-formula (suc d) s y z r = r

  from-formula : (d : ℕ) (s : State) (y : FormulaForm) (z : State) → IsFormula scope d s y z → connecteds d s y z
  from-formula zero s y z r = r
  from-formula (suc d) s y z r = r

  starts : (d : ℕ) (kind : Kind) (s : State) (y : FormulaForm) (z : State) → kinds d kind s y z → HeadIs kind s.tokens
  starts d k.Not s y z r = head-at k.Not s.tokens r.1.tokens r.0 r.2.0 r.2.1
  starts d k.Open s y z r = head-at k.Open s.tokens r.1.tokens r.0 r.2.0 r.2.1
  starts d k.OpenSquare s y z r = head-at k.OpenSquare s.tokens r.1.tokens r.0 r.2.0 r.2.1
  starts d k.Less s y z r = head-at k.Less s.tokens r.1.tokens r.0 r.2.0 r.2.1
  starts d k.True s y z r = head-at k.True s.tokens r.1.tokens r.0 r.2.0 r.2.1
  starts d k.False s y z r = head-at k.False s.tokens r.1.tokens r.0 r.2.0 r.2.1
  starts d k.Val s y z r = head-at k.Val s.tokens r.1.tokens r.0 r.2.0 r.2.1
  starts d k.Name s y z r = begins k.Name s.tokens refl r.0
  starts d k.Number s y z r = begins k.Number s.tokens refl r.0
  starts d k.Minus s y z r = begins k.Minus s.tokens refl r.0
  starts d _ s y z r = absurd r

  -- ---- formulas that are always there

  readable-true : (level : ℕ) → Readable (λ d. kinds d k.True) level
  readable-true level =
      free-then (λ d. One k.True) (λ word d. Is (FormulaForm.constant word.place true)) level [] (readable-one k.True level) (λ word. readable-is (FormulaForm.constant word.place true) level)

  abbrev withouts : Family FormulaForm
  withouts d = Wordless (IsPlain scope d)

  no-word-first : (after : List Tok) → begins_word (some-token k.True ∷ after) ≡ false
  unfolding same_kind
  no-word-first after = refl

  readable-without : (level : ℕ) → Readable withouts level
  readable-without level = record {
    tail = some-token k.True ∷ [];
    value = FormulaForm.constant start true;
    reads = λ n after.
        (no-word-first after, to-plain level (st (some-token k.True ∷ after) n) (FormulaForm.constant start true) (st after n) (some-token k.True, st after n, (refl, refl, refl), (refl, refl)));
  }

  readable-operand : (level : ℕ) → Readable (λ d. Wordless (IsPlain (within_fair scope) d)) level
  readable-operand level = record {
    tail = some-token k.True ∷ [];
    value = FormulaForm.constant start true;
    reads = λ n after. (no-word-first after, at level n after);
  }
    where
      at : (level n : ℕ) (after : List Tok) → IsPlain (within_fair scope) level (st (some-token k.True ∷ after) n) (FormulaForm.constant start true) (st after n)
      at zero n after = (some-token k.True, st after n, (refl, refl, refl), (refl, refl))
      at (suc level) n after = (some-token k.True, st after n, (refl, refl, refl), (refl, refl))

  readable-node : (level : ℕ) → Readable (IsNode scope) level
  readable-node level = free-to withouts (IsNode scope) (λ x. x) level level (λ s y z r. inl r) [] (readable-without level)

  pub readable-formula : (level : ℕ) → Readable (IsFormula scope) level
  readable-formula level = free-to (IsNode scope) (IsFormula scope) (λ x. x) level level single [] (readable-node level)
    where
      single : (s : State) (y : FormulaForm) (z : State) → IsNode scope level s y z → IsFormula scope level s y z
      single s y z r = to-formula level s y z (last (last (last (inl (inl r)))))

  -- ---- `fair`

  abbrev operands : Family FormulaForm
  operands d = Wordless (IsPlain (within_fair scope) d)

  abbrev fairs : Place → Family FormulaForm
  fairs place d = grammar.◌>>=◌ (IsProcesses d) (λ sets. grammar.◌>>=◌ (deeper operands d) (λ x. Is (fair place sets.0 sets.1 x)))

  to-fair : (place : Place) (d : ℕ) (s : State) (y : FormulaForm) (z : State) → fairs place d s y z → IsFair scope d place s y z
  to-fair place zero s y z r = r.2
  to-fair place (suc d) s y z r = r

  from-fair : (place : Place) (d : ℕ) (s : State) (y : FormulaForm) (z : State) → IsFair scope d place s y z → fairs place d s y z
  from-fair place zero s y z r = absurd r
  from-fair place (suc d) s y z r = r

  -- behind a bracket, where a level may open
  free-fair : (level : ℕ) (place : Place) (t : Tok) → t.kind ≡ k.Open → Free (λ d. IsFair scope d place) (suc level) (t ∷ [])
  free-fair level place t is =
      free-to (fairs place) (λ d. IsFair scope d place) (λ x. x) (suc level) (suc level) (to-fair place (suc level)) (t ∷ [])
      (free-then IsProcesses (λ sets d. grammar.◌>>=◌ (deeper operands d) (λ x. Is (fair place sets.0 sets.1 x))) (suc level) (t ∷ []) (fair_sets.free-bracket level t is) (λ sets.
      free-then (deeper operands) (λ x d. Is (fair place sets.0 sets.1 x)) (suc level) [] (readable-deeper operands level (readable-operand level))
      (λ x. readable-is (fair place sets.0 sets.1 x) (suc level))))

  readable-fair : (level : ℕ) (place : Place) → Readable (λ d. IsFair scope d place) (suc level)
  readable-fair level place = readable-free (λ d. IsFair scope d place) (suc level) (some-token k.Open ∷ []) (free-fair level place (some-token k.Open) refl)

  -- where no level may open, the bracket is refused
  fair-last : (place : Place) → Answering Always (behind_fair scope 0 place) (λ d. IsFair scope d place) node_goes 0
  unfolding plain behind_fair processes
  fair-last place s end u = tested (is_open (kind s)) refl
    where
      none-below : (d : ℕ) (s : State) (y : FormulaForm) (w : State) → d ≤ 0 → IsFair scope d place s y w → ⊥
      none-below zero s y w le r = r
      none-below (suc d) s y w le r = omega arith

      not-open : (d n : ℕ) (t : Tok) (tail : List Tok) (y : FormulaForm) (w : State) → t.kind ≡ kind s → is_open (kind s) ≡ false → IsFair scope d place (st (t ∷ tail) n) y w → ⊥
      not-open d n t tail y w head other r = let q = from-fair place d (st (t ∷ tail) n) y w r in no-bracket d t tail n (kind s) q.0 q.1 head other q.2

      opens : is_open (kind s) ≡ true → kind s ≡ k.Open
      opens on = kind-same (kind s) k.Open on

      tested : (b : Bool) → is_open (kind s) ≡ b
          → Answers (λ d. IsFair scope d place) node_goes 0 s
          (and_then (cond b (step.◌>>=◌ (refuse {A = Tok} Limit) (λ open_bracket. processes_behind (refuse Limit))) (refuse Unexpected) s)
          (λ found. step.◌>>=◌ (refuse {A = FormulaForm} Limit) (λ x. pure (fair place found.0 found.1 x))))
      tested true on =
          refused-here (λ d. IsFair scope d place) node_goes 0 s Limit end (λ q. ap is_limited (opens on)) (λ d n t tail y w head within r over. none-below d (st (t ∷ tail) n) y w within.0 r)
          (λ t is. goes-free (λ d. IsFair scope d place) 1 (suc s.operators) (t ∷ []) (free-fair 0 place t (is ∙ opens on)))
      tested false other =
          refused-here (λ d. IsFair scope d place) node_goes 0 s Unexpected end (λ q. absurd (unlike q)) (λ d n t tail y w head within r over. not-open d n t tail y w head other r)
          (λ t is. goes-free (λ d. IsFair scope d place) 1 (suc s.operators) [] (readable-fair 0 place))

  fair-over : (depth : ℕ) → Correct Always (wordless (plain (within_fair scope) depth)) operands node_goes depth → (place : Place)
      → Answering Always (behind_fair scope (suc depth) place) (λ d. IsFair scope d place) node_goes (suc depth)
  unfolding plain behind_fair
  fair-over depth right place =
      (alike-correct Always (behind_fair scope (suc depth) place) (fairs place) (λ d. IsFair scope d place) node_goes (suc depth) (to-fair place) (from-fair place)
      (then-plain IsProcesses (λ sets d. grammar.◌>>=◌ (deeper operands d) (λ x. Is (fair place sets.0 sets.1 x))) node_goes (suc depth) Always (processes (suc depth))
      (λ found. step.◌>>=◌ (wordless (plain (within_fair scope) depth)) (λ x. pure (fair place found.0 found.1 x))) (processes-correct depth)
      (λ sets. said-correct (deeper operands) (λ x. fair place sets.0 sets.1 x) node_goes (suc depth) Always (wordless (plain (within_fair scope) depth))
      (deeper-correct Always (wordless (plain (within_fair scope) depth)) operands node_goes depth right)))).answers

  -- ---- where no level may open

  no-level-not : (d : ℕ) (s : State) (y : FormulaForm) (w : State) → d ≤ 0 → kinds d k.Not s y w → ⊥
  no-level-not zero s y w le r = r.3.2
  no-level-not (suc d) s y w le r = omega arith

  no-level-open : (d : ℕ) (s : State) (y : FormulaForm) (w : State) → d ≤ 0 → kinds d k.Open s y w → ⊥
  no-level-open zero s y w le r = r.3.2
  no-level-open (suc d) s y w le r = omega arith

  no-level-square : (d : ℕ) (s : State) (y : FormulaForm) (w : State) → d ≤ 0 → kinds d k.OpenSquare s y w → ⊥
  no-level-square zero s y w le r = r.3.2
  no-level-square (suc d) s y w le r = omega arith

  no-level-angle : (d : ℕ) (s : State) (y : FormulaForm) (w : State) → d ≤ 0 → kinds d k.Less s y w → ⊥
  no-level-angle zero s y w le r = r.3.2
  no-level-angle (suc d) s y w le r = omega arith

  free-not : (t : Tok) → t.kind ≡ k.Not → Free (λ d. kinds d k.Not) 1 (t ∷ [])
  free-not t is =
      free-then (λ d. One k.Not) (λ sign d. grammar.◌>>=◌ (deeper (IsNode scope) d) (λ operand. Is (FormulaForm.negation sign.place operand))) 1 (t ∷ []) (free-one k.Not 1 t is) (λ sign.
      free-then (deeper (IsNode scope)) (λ operand d. Is (FormulaForm.negation sign.place operand)) 1 [] (readable-deeper (IsNode scope) 0 (readable-node 0))
      (λ operand. readable-is (FormulaForm.negation sign.place operand) 1))

  free-bracket : (t : Tok) → t.kind ≡ k.Open → Free (λ d. kinds d k.Open) 1 (t ∷ [])
  free-bracket t is =
      free-then (λ d. One k.Open) (λ open_bracket d. grammar.◌>>=◌ (deeper (IsFormula scope) d) (λ inner. grammar.◌>>=◌ (One k.Close) (λ close_bracket. Is inner))) 1 (t ∷ [])
      (free-one k.Open 1 t is) (λ open_bracket.
      free-then (deeper (IsFormula scope)) (λ inner d. grammar.◌>>=◌ (One k.Close) (λ close_bracket. Is inner)) 1 [] (readable-deeper (IsFormula scope) 0 (readable-formula 0)) (λ inner.
      free-then (λ d. One k.Close) (λ close_bracket d. Is inner) 1 [] (readable-one k.Close 1) (λ close_bracket. readable-is inner 1)))

  abbrev modals : Modality → Kind → Tok → Family FormulaForm
  modals modality close open_bracket d = Modal modality close (deeper (IsNode scope) d) (deeper IsStepSet d) open_bracket

  free-modal : (opening closing : Kind) (modality : Modality) (t : Tok) → t.kind ≡ opening → Free (λ d. grammar.◌>>=◌ (One opening) (λ open_bracket. modals modality closing open_bracket d)) 1 (t ∷ [])
  free-modal opening closing modality t is =
      free-then (λ d. One opening) (λ open_bracket d. modals modality closing open_bracket d) 1 (t ∷ []) (free-one opening 1 t is) (λ open_bracket.
      free-then (deeper IsStepSet)
      (λ steps d. grammar.◌>>=◌ (One closing) (λ close_bracket. grammar.◌>>=◌ (deeper (IsNode scope) d) (λ operand. Is (FormulaForm.modal modality open_bracket.place steps operand)))) 1 []
      (readable-deeper IsStepSet 0 (readable-sets 0)) (λ steps.
      free-then (λ d. One closing) (λ close_bracket d. grammar.◌>>=◌ (deeper (IsNode scope) d) (λ operand. Is (FormulaForm.modal modality open_bracket.place steps operand))) 1 []
      (readable-one closing 1) (λ close_bracket.
      free-then (deeper (IsNode scope)) (λ operand d. Is (FormulaForm.modal modality open_bracket.place steps operand)) 1 [] (readable-deeper (IsNode scope) 0 (readable-node 0))
      (λ operand. readable-is (FormulaForm.modal modality open_bracket.place steps operand) 1))))

  abbrev begun-last : Kind → Step FormulaForm
  begun-last = begun scope (refuse Limit) (refuse Limit) (refuse Limit) (data_operand 0) (refuse Limit)

  at-last : (kind : Kind) → Answering (HeadIs kind) (begun-last kind) (λ d. kinds d kind) node_goes 0 ⊎ Nowhere (begun-last kind) (λ d. kinds d kind)
  at-last k.Not =
      inl (λ s end h. refused-here (λ d. kinds d k.Not) node_goes 0 s Limit end (λ q. head-limited k.Not s.tokens h refl)
      (λ d n t tail y w head within r over. no-level-not d (st (t ∷ tail) n) y w within.0 r)
      (λ t is. goes-free (λ d. kinds d k.Not) 1 (suc s.operators) (t ∷ []) (free-not t (is ∙ head-kind-is k.Not s.tokens h))))
  at-last k.Open =
      inl (λ s end h. refused-here (λ d. kinds d k.Open) node_goes 0 s Limit end (λ q. head-limited k.Open s.tokens h refl)
      (λ d n t tail y w head within r over. no-level-open d (st (t ∷ tail) n) y w within.0 r)
      (λ t is. goes-free (λ d. kinds d k.Open) 1 (suc s.operators) (t ∷ []) (free-bracket t (is ∙ head-kind-is k.Open s.tokens h))))
  at-last k.OpenSquare =
      inl (λ s end h. refused-here (λ d. kinds d k.OpenSquare) node_goes 0 s Limit end (λ q. head-limited k.OpenSquare s.tokens h refl)
      (λ d n t tail y w head within r over. no-level-square d (st (t ∷ tail) n) y w within.0 r)
      (λ t is. goes-free (λ d. kinds d k.OpenSquare) 1 (suc s.operators) (t ∷ []) (free-modal k.OpenSquare k.CloseSquare modality.Box t (is ∙ head-kind-is k.OpenSquare s.tokens h))))
  at-last k.Less =
      inl (λ s end h. refused-here (λ d. kinds d k.Less) node_goes 0 s Limit end (λ q. head-limited k.Less s.tokens h refl)
      (λ d n t tail y w head within r over. no-level-angle d (st (t ∷ tail) n) y w within.0 r)
      (λ t is. goes-free (λ d. kinds d k.Less) 1 (suc s.operators) (t ∷ []) (free-modal k.Less k.Greater modality.Diamond t (is ∙ head-kind-is k.Less s.tokens h))))
  at-last k.True = inl (leaf k.True (λ t. FormulaForm.constant t.place true) 0 refl).answers
  at-last k.False = inl (leaf k.False (λ t. FormulaForm.constant t.place false) 0 refl).answers
  at-last k.Val = inl (value-answers 0)
  at-last k.Name = inl (atom-answers (atom_of scope) k.Name 0 (free-name 1 (some-token k.Name) refl))
  at-last k.Number = inl (atom-answers FormulaForm.«data» k.Number 0 (free-number 1 (some-token k.Number) refl))
  at-last k.Minus = inl (atom-answers FormulaForm.«data» k.Minus 0 (free-minus 0 (some-token k.Minus) refl))
  at-last kind = inr nothing-correct

  -- ---- where a level may open

  module _ (depth : ℕ) (right-node : Correct Always (node scope depth) (IsNode scope) node_goes depth) (right-formula : Correct Always (formula scope depth) (IsFormula scope) formula_goes depth) where
    inner-node : Correct Always (node scope depth) (deeper (IsNode scope)) node_goes (suc depth)
    inner-node = deeper-correct Always (node scope depth) (IsNode scope) node_goes depth right-node

    abbrev begun-over : Kind → Step FormulaForm
    begun-over = begun scope take_token (node scope depth) (formula scope depth) (data_operand (suc depth)) (step_set depth)

    negated : Correct (HeadIs k.Not) (begun-over k.Not) (λ d. kinds d k.Not) node_goes (suc depth)
    negated =
        then-plain (λ d. One k.Not) (λ sign d. grammar.◌>>=◌ (deeper (IsNode scope) d) (λ operand. Is (FormulaForm.negation sign.place operand))) node_goes (suc depth)
        (HeadIs k.Not) take_token (λ sign. step.◌>>=◌ (node scope depth) (λ operand. pure (FormulaForm.negation sign.place operand))) (take-correct k.Not (suc depth) refl)
        (λ sign. said-correct (deeper (IsNode scope)) (λ operand. FormulaForm.negation sign.place operand) node_goes (suc depth) Always (node scope depth) inner-node)

    bracketed : Correct (HeadIs k.Open) (begun-over k.Open) (λ d. kinds d k.Open) node_goes (suc depth)
    bracketed =
        closed-correct (HeadIs k.Open) _ (λ d. kinds d k.Open) (suc depth)
        (then-plain (λ d. One k.Open) (λ open_bracket d. grammar.◌>>=◌ (deeper (IsFormula scope) d) (λ inner. grammar.◌>>=◌ (One k.Close) (λ close_bracket. Is inner))) never (suc depth)
        (HeadIs k.Open) take_token (λ open_bracket. step.◌>>=◌ (formula scope depth) (λ inner. step.◌>>=◌ (expect k.Close) (λ close_bracket. pure inner))) (take-correct k.Open (suc depth) refl)
        (λ open_bracket. then-correct (deeper (IsFormula scope)) (λ inner d. grammar.◌>>=◌ (One k.Close) (λ close_bracket. Is inner)) formula_goes never (suc depth)
        (λ d x m y z r over. stops-at-kind formula_goes k.Close formula-closes m.tokens r.1.tokens r.0 r.2.0 r.2.1) Always (formula scope depth) _
        (deeper-correct Always (formula scope depth) (IsFormula scope) formula_goes depth right-formula) (λ inner.
        anywhere (Stops formula_goes) _ (λ d. grammar.◌>>=◌ (One k.Close) (λ close_bracket. Is inner)) never (suc depth)
        (then-plain (λ d. One k.Close) (λ close_bracket d. Is inner) never (suc depth) Always (expect k.Close) (λ close_bracket. pure inner) (expect-correct k.Close (suc depth) refl)
        (λ close_bracket. is-correct inner (suc depth))))))

    modal-correct : (opening closing : Kind) (modality : Modality) → is_last opening ≡ false → is_last closing ≡ false → sets_go closing ≡ false
        → Correct (HeadIs opening) (modal modality closing take_token (node scope depth) (step_set depth))
        (λ d. grammar.◌>>=◌ (One opening) (λ open_bracket. modals modality closing open_bracket d)) node_goes (suc depth)
    modal-correct opening closing modality ne ce closes =
        then-plain (λ d. One opening) (λ open_bracket d. modals modality closing open_bracket d) node_goes (suc depth) (HeadIs opening) take_token _
        (take-correct opening (suc depth) ne) (λ open_bracket.
        then-correct (deeper IsStepSet)
        (λ steps d. grammar.◌>>=◌ (One closing) (λ close_bracket. grammar.◌>>=◌ (deeper (IsNode scope) d) (λ operand. Is (FormulaForm.modal modality open_bracket.place steps operand))))
        sets_go node_goes (suc depth) (λ d x m y z r over. stops-at-kind sets_go closing closes m.tokens r.1.tokens r.0 r.2.0 r.2.1) Always (step_set depth) _
        (deeper-correct Always (step_set depth) IsStepSet sets_go depth (step_set-correct depth)) (λ steps.
        anywhere (Stops sets_go) _ _ node_goes (suc depth)
        (then-plain (λ d. One closing) (λ close_bracket d. grammar.◌>>=◌ (deeper (IsNode scope) d) (λ operand. Is (FormulaForm.modal modality open_bracket.place steps operand))) node_goes (suc depth)
        Always (expect closing) (λ close_bracket. step.◌>>=◌ (node scope depth) (λ operand. pure (FormulaForm.modal modality open_bracket.place steps operand)))
        (expect-correct closing (suc depth) ce) (λ close_bracket.
        said-correct (deeper (IsNode scope)) (λ operand. FormulaForm.modal modality open_bracket.place steps operand) node_goes (suc depth) Always (node scope depth) inner-node))))

    at-each : (kind : Kind) → Answering (HeadIs kind) (begun-over kind) (λ d. kinds d kind) node_goes (suc depth) ⊎ Nowhere (begun-over kind) (λ d. kinds d kind)
    at-each k.Not = inl negated.answers
    at-each k.Open = inl bracketed.answers
    at-each k.OpenSquare = inl (modal-correct k.OpenSquare k.CloseSquare modality.Box refl refl square-closes).answers
    at-each k.Less = inl (modal-correct k.Less k.Greater modality.Diamond refl refl angle-closes).answers
    at-each k.True = inl (leaf k.True (λ t. FormulaForm.constant t.place true) (suc depth) refl).answers
    at-each k.False = inl (leaf k.False (λ t. FormulaForm.constant t.place false) (suc depth) refl).answers
    at-each k.Val = inl (value-answers (suc depth))
    at-each k.Name = inl (atom-answers (atom_of scope) k.Name (suc depth) (free-name (suc (suc depth)) (some-token k.Name) refl))
    at-each k.Number = inl (atom-answers FormulaForm.«data» k.Number (suc depth) (free-number (suc (suc depth)) (some-token k.Number) refl))
    at-each k.Minus = inl (atom-answers FormulaForm.«data» k.Minus (suc depth) (free-minus (suc depth) (some-token k.Minus) refl))
    at-each kind = inr nothing-correct

    plain-over : Correct Always (plain scope (suc depth)) (IsPlain scope) node_goes (suc depth)
    unfolding plain
    plain-over =
        alike-correct Always (plain scope (suc depth)) (λ d. First (kinds d)) (IsPlain scope) node_goes (suc depth) to-plain from-plain
        (first-correct kinds node_goes (suc depth) starts begun-over at-each k.True (readable-true (suc depth)) (readable-true (suc (suc depth))))

  plain-last : Correct Always (plain scope 0) (IsPlain scope) node_goes 0
  unfolding plain
  plain-last =
      alike-correct Always (plain scope 0) (λ d. First (kinds d)) (IsPlain scope) node_goes 0 to-plain from-plain
      (first-correct kinds node_goes 0 starts begun-last at-last k.True (readable-true 0) (readable-true 1))

  -- ---- words

  -- a plain one begins with no binder's word
  plain-starts : (d : ℕ) (s : State) (y : FormulaForm) (z : State) → IsPlain scope d s y z → Passes (Not is_binder) s.tokens
  plain-starts d s y z r = at s.tokens s.operators (from-plain d s y z r)
    where
      begun-plain : (kind : Kind) (s : State) → kinds d kind s y z → Not is_binder kind ≡ true
      begun-plain k.Not s r = refl
      begun-plain k.Open s r = refl
      begun-plain k.OpenSquare s r = refl
      begun-plain k.Less s r = refl
      begun-plain k.True s r = refl
      begun-plain k.False s r = refl
      begun-plain k.Val s r = refl
      begun-plain k.Name s r = refl
      begun-plain k.Number s r = refl
      begun-plain k.Minus s r = refl
      begun-plain _ s r = absurd r

      at : (ts : List Tok) (n : ℕ) → First (kinds d) (st ts n) y z → Passes (Not is_binder) ts
      at [] n r = r
      at (t ∷ ts) n r = begun-plain t.kind (st (t ∷ ts) n) r

  plain-some : (d : ℕ) (s : State) (y : FormulaForm) (z : State) → IsPlain scope d s y z → Passes (λ kind. true) s.tokens
  plain-some d s y z r = some-token-of s.tokens (plain-starts d s y z r)
    where
      some-token-of : (ts : List Tok) → Passes (Not is_binder) ts → Passes (λ kind. true) ts
      some-token-of [] h = h
      some-token-of (t ∷ ts) h = refl

  deadlock-word : HasWord (leading_within scope)
  deadlock-word = record { text = codes "no_deadlock"; word = leading.NoDeadlock; tells = refl }

  until-word : HasWord infix_of
  until-word = record { text = codes "until"; word = between.Until; tells = refl }

  -- what is allowed here is a word
  is-allowed : (o : Option Leading) (w : Leading) → allowed scope o ≡ Some w → is_some o ≡ true
  is-allowed None w tells = cc
  is-allowed (Some v) w tells = refl

  abbrev leds : Family FormulaForm
  leds d = Led scope (IsFair scope d) (withouts d)

  led-starts : (d : ℕ) (s : State) (y : FormulaForm) (z : State) → leds d s y z → begins_word s.tokens ≡ true
  led-starts d s y z r = at r.2.0 s.tokens r.1.tokens r.0.0 r.2.1.0 r.2.1.1 r.2.2
    where
      at : (t : Tok) (ts us : List Tok) (w : Leading) → ts ≡ t ∷ us → t.kind ≡ k.Name → leading_within scope t.text ≡ Some w → begins_word ts ≡ true
      at t ts us w e is tells =
          let name : same_kind t.kind k.Name ≡ true = ap (λ v. same_kind v k.Name) is ∙ same-kind k.Name in
          ap begins_word e ∙ ap (λ b. b && is_word t.text) name ∙ ap (λ v. v || is_some (infix_of t.text)) (is-allowed (leading_of t.text) w tells)

  -- behind `fair`, so many levels being open to it
  abbrev AnswersFair : ℕ → Type 0
  AnswersFair depth = (place : Place) → Answering Always (behind_fair scope depth place) (λ d. IsFair scope d place) node_goes depth

  readable-led : (level : ℕ) (word : Leading × Place) → Readable (λ d. LedBy (IsFair scope d) (withouts d) word.0 word.1) (suc level)
  readable-led level word = by word.0
    where
      by : (w : Leading) → Readable (λ d. LedBy (IsFair scope d) (withouts d) w word.1) (suc level)
      by leading.NoDeadlock = readable-is (no_deadlock word.1) (suc level)
      by leading.Fair = readable-fair level word.1
      by (leading.Before which) = free-then withouts (λ x d. Is (prefixed which word.1 x)) (suc level) [] (readable-without (suc level)) (λ x. readable-is (prefixed which word.1 x) (suc level))

  module _ (depth : ℕ) (right : Correct Always (plain scope depth) (IsPlain scope) node_goes depth) where
    pub without-correct : Correct Always (wordless (plain scope depth)) withouts node_goes depth
    without-correct = wordless-correct (IsPlain scope) node_goes depth plain-some (readable-without depth) (readable-without (suc depth)) (plain scope depth) right.answers

    module _ (right-fair : AnswersFair depth) where
      led-by-answers : (word : Leading) (place : Place)
          → Answering Always (led_by (behind_fair scope depth) (wordless (plain scope depth)) word place) (λ d. LedBy (IsFair scope d) (withouts d) word place) node_goes depth
      led-by-answers leading.NoDeadlock place =
          (closed-correct Always (pure (no_deadlock place)) (λ d. Is (no_deadlock place)) depth (is-correct (no_deadlock place) depth)).answers
      led-by-answers leading.Fair place = right-fair place
      led-by-answers (leading.Before which) place =
          (said-correct withouts (λ x. prefixed which place x) node_goes depth Always (wordless (plain scope depth)) without-correct).answers

      led-answers : Answering Always (led scope (behind_fair scope depth) (wordless (plain scope depth))) leds node_goes depth
      led-answers =
          word-then-answers (leading_within scope) deadlock-word (λ word d. LedBy (IsFair scope d) (withouts d) word.0 word.1) node_goes depth
          (λ word. led_by (behind_fair scope depth) (wordless (plain scope depth)) word.0 word.1) (λ word. led-by-answers word.0 word.1) (readable-led depth)

      node-correct : Correct Always (node scope depth) (IsNode scope) node_goes depth
      node-correct =
          by-word-correct withouts leds node_goes depth (λ d s y z r. r.0) led-starts (plain scope depth) (led scope (behind_fair scope depth) (wordless (plain scope depth)))
          (wordless-answers (IsPlain scope) node_goes depth plain-some (readable-without depth) (readable-without (suc depth)) (plain scope depth) right.answers)
          led-answers (readable-without depth) (readable-without (suc depth))

      -- a word between two nodes
      abbrev beyond : FormulaForm → Family FormulaForm
      beyond x d = grammar.◌>>=◌ (Word infix_of) (λ word. grammar.◌>>=◌ (IsNode scope d) (λ y. Is (infixed word.0 word.1 x y)))

      beyond-starts : (d : ℕ) (x : FormulaForm) (m : State) (y : FormulaForm) (z : State) → beyond x d m y z → Passes is_name_kind m.tokens
      beyond-starts d x m y z r = passes-at is_name_kind m.tokens r.1.tokens r.2.0 r.2.1.0 (ap is_name_kind r.2.1.1 ∙ same-kind k.Name)

      joined-by-correct : (x : FormulaForm) → Correct Always (joined_by (node scope depth) x) (beyond x) node_goes depth
      joined-by-correct x =
          then-plain (λ d. Word infix_of) (λ word d. grammar.◌>>=◌ (IsNode scope d) (λ y. Is (infixed word.0 word.1 x y))) node_goes depth Always (take_word infix_of)
          (λ word. step.◌>>=◌ (node scope depth) (λ y. pure (infixed word.0 word.1 x y))) (word-correct infix_of until-word depth)
          (λ word. said-correct (IsNode scope) (λ y. infixed word.0 word.1 x y) node_goes depth Always (node scope depth) node-correct)

      item-correct : Correct Always (item scope depth) items item_goes depth
      item-correct =
          extended-correct (IsNode scope) beyond node_goes is_name_kind depth (λ kind h. ap node_goes (kind-same kind k.Name h) ∙ no-name) beyond-starts Always (node scope depth) node-correct
          (λ x. unless_next is_name_kind (joined_by (node scope depth) x))
          (λ x. unless_next-answers (beyond x) node_goes is_name_kind depth (Passes is_name_kind) (joined_by (node scope depth) x)
          (anywhere (Passes is_name_kind) (joined_by (node scope depth) x) (beyond x) node_goes depth (joined-by-correct x)).answers)

  -- ---- the connectives

  -- a node begins with no binder's word
  node-starts : (d : ℕ) (s : State) (y : FormulaForm) (z : State) → IsNode scope d s y z → Passes (Not is_binder) s.tokens
  node-starts d s y z (inl r) = plain-starts d s y z r.1
  node-starts d s y z (inr r) = passes-at (Not is_binder) s.tokens r.1.tokens r.2.0 r.2.1.0 (ap (Not is_binder) r.2.1.1)

  item-starts : (d : ℕ) (s : State) (y : FormulaForm) (z : State) → items d s y z → Passes (Not is_binder) s.tokens
  item-starts d s y z (inl r) = node-starts d s y z r
  item-starts d s y z (inr r) = node-starts d s r.0 r.1 r.2

  connections-correct : (depth : ℕ) (n q : Step FormulaForm) → Correct Always n items item_goes depth → Answering (Passes is_binder) q bound formula_goes depth
      → Correct Always (connected (connected_by FormulaForm.connected) is_binder n q) (IsFormula scope) formula_goes depth
  connections-correct depth n q right-n right-q =
      alike-correct Always (connected (connected_by FormulaForm.connected) is_binder n q) connecteds (IsFormula scope) formula_goes depth to-formula from-formula
      (connected-correct (connected_by FormulaForm.connected) items bound item_goes is_binder depth below-item item-starts
      (binder-starts (λ name. IsFormula (within scope name)) (IsFormula scope) formula_goes) n q right-n right-q)

formulas-last : (scope : FixpointNames) → Correct Always (formula scope 0) (IsFormula scope) formula_goes 0
unfolding plain behind_fair formula
formulas-last scope =
    connections-correct scope 0 (item scope 0) (binder_over (refuse Limit) (λ name. refuse Limit) (refuse Limit)) (item-correct scope 0 (plain-last scope) (fair-last scope))
    (binder-last (λ name. IsFormula (within scope name)) (IsFormula scope) formula_goes (λ name. readable-formula (within scope name) 0) (readable-formula scope 0)
    (λ name. refuse Limit) (refuse Limit))

formulas-over : (scope : FixpointNames) (depth : ℕ) → Correct Always (plain scope (suc depth)) (IsPlain scope) node_goes (suc depth) → AnswersFair scope (suc depth)
    → Correct Always (formula scope depth) (IsFormula scope) formula_goes depth
    → ((name : List ℕ) → Correct Always (formula (within scope name) depth) (IsFormula (within scope name)) formula_goes depth)
    → Correct Always (formula scope (suc depth)) (IsFormula scope) formula_goes (suc depth)
unfolding plain behind_fair formula
formulas-over scope depth n fairs inner f =
    connections-correct scope (suc depth) (item scope (suc depth)) (binder_over take_token (λ name. formula (within scope name) depth) (formula scope depth)) (item-correct scope (suc depth) n fairs)
    (binder-correct (λ name. IsFormula (within scope name)) (IsFormula scope) formula_goes depth (λ name. formula (within scope name) depth) (formula scope depth) f inner)

-- all, so many levels being open to them, in any scope
pub record AreCorrect (depth : ℕ) : Type 0 where
  pub plains : (scope : FixpointNames) → Correct Always (plain scope depth) (IsPlain scope) node_goes depth
  pub fairs : (scope : FixpointNames) → AnswersFair scope depth
  pub formulas : (scope : FixpointNames) → Correct Always (formula scope depth) (IsFormula scope) formula_goes depth

abbrev plain-more : (depth : ℕ) → AreCorrect depth → (scope : FixpointNames) → Correct Always (plain scope (suc depth)) (IsPlain scope) node_goes (suc depth)
plain-more depth less scope = plain-over scope depth (node-correct scope depth (less.plains scope) (less.fairs scope)) (less.formulas scope)

abbrev fair-more : (depth : ℕ) → AreCorrect depth → (scope : FixpointNames) → AnswersFair scope (suc depth)
fair-more depth less scope = fair-over scope depth (without-correct (within_fair scope) depth (less.plains (within_fair scope)))

pub formulas-correct : (depth : ℕ) → AreCorrect depth
formulas-correct zero = record { plains = plain-last; fairs = fair-last; formulas = formulas-last }
formulas-correct (suc depth) =
    let less = formulas-correct depth in record {
      plains = plain-more depth less;
      fairs = fair-more depth less;
      formulas = λ scope. formulas-over scope depth (plain-more depth less scope) (fair-more depth less scope) (less.formulas scope) (λ name. less.formulas (within scope name));
    }
