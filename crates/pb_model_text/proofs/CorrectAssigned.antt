-- What a step assigns is read rightly.
use Rattle.std.proofs.Common.{◌≡◌, ℕ, suc, true, false, List, [], ◌∷◌, None, refl, ◌⊎◌, inl, inr}
use Rattle.pb_protocol_tree.specs.Form.{AssignmentForm}
use Rattle.pb_text_lexer.specs.declared.kind.Kind.{Kind}
use Rattle.pb_text_lexer.specs.declared.kind.Kind.TheVariants as k
use Rattle.pb_text_lexer.specs.Kinds.{same_kind}
use Rattle.pb_text_lexer.specs.Grammar.{State, Reads, Is, One, First, by_first}
use Rattle.pb_text_lexer.specs.Grammar as grammar
use Rattle.pb_text_lexer.specs.LeftGrammar.{Listed}
use Rattle.pb_text_lexer.specs.Steps.{take_token, expect}
use Rattle.pb_text_lexer.specs.Tokens.{Tok}
use Rattle.pb_text_lexer.proofs.Correct.{readable-is, readable-one, free-to, free-then, Readable, Stops, never, Answering, Correct, HeadIs, then-correct, take-correct, expect-correct}
use Rattle.pb_text_lexer.proofs.CorrectFamilies.{Nowhere, to-first, first-correct}
use Rattle.pb_text_lexer.proofs.CorrectSeries.{Passes, head-at}
use Rattle.pb_text_lexer.proofs.CorrectPlain.{Always, anywhere, then-plain, nothing-correct}
use Rattle.pb_text_terms.specs.Grammar.{Variables, Placed, IsTerm}
use Rattle.pb_text_terms.specs.Reading.{instance, variables, with_place, term}
use Rattle.pb_text_terms.proofs.CorrectVariable.{head-kind-is, variables-correct, commas, listed-correct, stops-at-kind, said-correct}
use Rattle.pb_text_terms.proofs.CorrectOperators.{unary_goes, term_goes, comma-apart, list_goes}
use Rattle.pb_text_terms.proofs.CorrectInstance.{placed-correct}
use Rattle.pb_text_terms.proofs.CorrectTerm.{term-correct}
use Rattle.pb_text_terms.proofs.TermStarts.{deeper-some}
use Rattle.pb_text_formulas.proofs.CorrectSorts.{token-correct}
use Rattle.pb_model_text.specs.Grammar.{Beginning, IsInstance}
use Rattle.pb_model_text.specs.Models.{IsAssigned, IsCopies, AssignmentBy, SomeAssigned, with_copies}
use Rattle.pb_model_text.specs.Models.{IsAssignment, AssignedBy, Assigned}
use Rattle.pb_model_text.specs.ModelReading.{assigned_alone, copies, assignment_by, some_assigned, assignment, assignments, assigned_by, assigned}
use Rattle.pb_model_text.proofs.CorrectBeginning.{begins, beginning-answers}
use Rattle.pb_model_text.proofs.CorrectInstances.{instance-correct, instance-starts}

pub placed_term-correct : (depth : ℕ) → Correct Always (with_place (term depth)) (λ d. Placed (IsTerm d)) term_goes depth
placed_term-correct depth = placed-correct IsTerm term_goes depth (λ d s y z r. deeper-some (suc d) s y z r) (term depth) (term-correct depth)

assign-stops : unary_goes k.Assign ≡ false
unfolding same_kind
assign-stops = refl

-- ---- one assignment

assigned_alone-correct : (depth : ℕ) → Correct Always (assigned_alone depth) IsAssigned term_goes depth
unfolding assigned_alone
assigned_alone-correct depth =
    then-correct IsInstance _ unary_goes term_goes depth
    (λ d x m y z r over. stops-at-kind unary_goes k.Assign assign-stops m.tokens r.1.tokens r.0 r.2.0 r.2.1) Always
    (instance depth) _ (instance-correct depth) (λ target. anywhere (Stops unary_goes) _ _ term_goes depth (
    then-plain (λ d. One k.Assign) _ term_goes depth
    Always (expect k.Assign) _ (expect-correct k.Assign depth refl) (λ assign.
    said-correct (λ d. Placed (IsTerm d))
    (λ value. record { copies = None; variable = target.name; index = target.arguments; place = value.0; value = value.1 })
    term_goes depth Always (with_place (term depth)) (placed_term-correct depth))))

period-stops : commas k.Period ≡ false
unfolding same_kind
period-stops = refl

copies-correct : (depth : ℕ) → Correct (HeadIs k.Forall) copies (λ d. IsCopies) never depth
unfolding copies
copies-correct depth =
    then-plain (λ d. One k.Forall) _ never depth (HeadIs k.Forall) take_token _ (take-correct k.Forall depth refl) (λ word.
    then-correct (λ d. Variables) _ commas never depth
    (λ d x m y z r over. stops-at-kind commas k.Period period-stops m.tokens r.1.tokens r.0 r.2.0 r.2.1) Always variables _ (variables-correct depth)
    (λ found. anywhere (Stops commas) _ _ never depth (token-correct k.Period depth (record { place = word.place; variables = found }) refl)))

abbrev assignment-kinds : ℕ → Kind → Reads AssignmentForm
assignment-kinds d = AssignmentBy d

assignment-starts : (d : ℕ) (kind : Kind) (s : State) (y : AssignmentForm) (z : State) → assignment-kinds d kind s y z → HeadIs kind s.tokens
assignment-starts d k.Name s y z r = instance-starts d s r.0 r.1 r.2
assignment-starts d k.Forall s y z r = let q = r.2 in head-at k.Forall s.tokens q.1.tokens q.0 q.2.0 q.2.1
assignment-starts d _ s y z r = absurd r

module _ (depth : ℕ) where
  alone : Correct (HeadIs k.Name) (assignment_by depth k.Name) (λ d. assignment-kinds d k.Name) term_goes depth
  unfolding assignment_by
  alone = anywhere (HeadIs k.Name) _ _ term_goes depth (assigned_alone-correct depth)

  for-all : Correct (HeadIs k.Forall) (assignment_by depth k.Forall) (λ d. assignment-kinds d k.Forall) term_goes depth
  unfolding assignment_by
  for-all =
      then-plain (λ d. IsCopies) _ term_goes depth (HeadIs k.Forall) copies _ (copies-correct depth) (λ found.
      said-correct IsAssigned (with_copies found) term_goes depth Always (assigned_alone depth) (assigned_alone-correct depth))

  assignment-each : (kind : Kind) → Answering (HeadIs kind) (assignment_by depth kind) (λ d. assignment-kinds d kind) term_goes depth ⊎ Nowhere (assignment_by depth kind)
      (λ d. assignment-kinds d kind)
  unfolding assignment_by
  assignment-each k.Name = inl alone.answers
  assignment-each k.Forall = inl for-all.answers
  assignment-each kind = inr nothing-correct

  pub assignment-correct : Correct Always (assignment depth) IsAssignment term_goes depth
  unfolding assignment
  assignment-correct = first-correct assignment-kinds term_goes depth assignment-starts (assignment_by depth) assignment-each k.Name alone.here alone.some

-- ---- all of them

assignments-correct : (depth : ℕ) → Correct Always (assignments depth) (λ d. Listed (IsAssignment d) (One k.Comma)) list_goes depth
assignments-correct depth = listed-correct IsAssignment term_goes depth comma-apart (assignment depth) (assignment-correct depth)

pub semicolon-stops : list_goes k.Semicolon ≡ false
unfolding same_kind
semicolon-stops = refl

some_assigned-correct : (depth : ℕ) → Correct Always (some_assigned depth) SomeAssigned never depth
unfolding some_assigned
some_assigned-correct depth =
    then-correct (λ d. Listed (IsAssignment d) (One k.Comma)) _ list_goes never depth
    (λ d x m y z r over. stops-at-kind list_goes k.Semicolon semicolon-stops m.tokens r.1.tokens r.0 r.2.0 r.2.1) Always (assignments depth) _ (assignments-correct depth)
    (λ found. anywhere (Stops list_goes) _ _ never depth (token-correct k.Semicolon depth found refl))

-- what goes by its first token takes one
first-some : {X : Type 0} (R : Kind → Reads X) (s : State) (y : X) (z : State) → First R s y z → Passes (λ kind. true) s.tokens
first-some {X} R s y z r = at s.tokens r
  where
    at : (ts : List Tok) → by_first R ts s y z → Passes (λ kind. true) ts
    at [] r = absurd r
    at (t ∷ ts) r = refl

-- what is assigned takes a token
some-some : (d : ℕ) (s : State) (y : List AssignmentForm) (z : State) → SomeAssigned d s y z → Passes (λ kind. true) s.tokens
some-some d s y z r = at r.0 s r.1 r.2
  where
    at : (xs : List AssignmentForm) (s z : State) → Listed (IsAssignment d) (One k.Comma) s xs z → Passes (λ kind. true) s.tokens
    at xs s z (grammar.last {x = x} q) = first-some (AssignmentBy d) s x z q
    at xs s z (grammar.more {m = m} {x = x} q b rest) = first-some (AssignmentBy d) s x m q

-- a single assignment that begins with a token of a kind
abbrev single : Kind → ℕ → Reads (List AssignmentForm)
single kind d = grammar.◌>>=◌ (AssignmentBy d kind) (λ x. grammar.◌>>=◌ (One k.Semicolon) (λ semicolon. Is (x ∷ [])))

to-some : (kind : Kind) (d : ℕ) (s : State) (y : List AssignmentForm) (z : State) → single kind d s y z → Beginning kind (SomeAssigned d) s y z
to-some kind d s y z r =
    let head = assignment-starts d kind s r.0 r.1 r.2 in
    (head-kind-is kind s.tokens head, (r.0 ∷ [], r.1, grammar.last (to-first (AssignmentBy d) kind s.tokens s.operators r.0 r.1 head r.2), r.3))

-- what is assigned may begin with a token with which an assignment may
readable-some : (kind : Kind) (level : ℕ) → Readable (λ d. AssignmentBy d kind) level → Readable (λ d. Beginning kind (SomeAssigned d)) level
readable-some kind level one =
    free-to (single kind) (λ d. Beginning kind (SomeAssigned d)) (λ x. x) level level (to-some kind level) []
    (free-then (λ d. AssignmentBy d kind) (λ x d. grammar.◌>>=◌ (One k.Semicolon) (λ semicolon. Is (x ∷ []))) level [] one
    (λ x. free-then (λ d. One k.Semicolon) (λ semicolon d. Is (x ∷ [])) level [] (readable-one k.Semicolon level) (λ semicolon. readable-is (x ∷ []) level)))

-- what is assigned, by the first token
abbrev assigned-kinds : ℕ → Kind → Reads (List AssignmentForm)
assigned-kinds d = AssignedBy d

assigned-starts : (d : ℕ) (kind : Kind) (s : State) (y : List AssignmentForm) (z : State) → assigned-kinds d kind s y z → HeadIs kind s.tokens
assigned-starts d k.Skip s y z r = head-at k.Skip s.tokens r.1.tokens r.0 r.2.0 r.2.1
assigned-starts d k.Name s y z r = begins k.Name s.tokens refl r.0
assigned-starts d k.Forall s y z r = begins k.Forall s.tokens refl r.0
assigned-starts d _ s y z r = absurd r

module _ (depth : ℕ) where
  none-assigned : Correct (HeadIs k.Skip) (assigned_by depth k.Skip) (λ d. assigned-kinds d k.Skip) never depth
  unfolding assigned_by
  none-assigned =
      then-plain (λ d. One k.Skip) (λ skip d. grammar.◌>>=◌ (One k.Semicolon) (λ semicolon. Is [])) never depth (HeadIs k.Skip) take_token _ (take-correct k.Skip depth refl)
      (λ skip. token-correct k.Semicolon depth [] refl)

  some-beginning : (kind : Kind) → Readable (λ d. AssignmentBy d kind) (suc depth) → Answering (HeadIs kind) (some_assigned depth) (λ d. Beginning kind (SomeAssigned d)) never depth
  some-beginning kind one = beginning-answers SomeAssigned never depth kind some-some (readable-some kind (suc depth) one) (some_assigned depth) (some_assigned-correct depth).answers

  assigned-each : (kind : Kind) → Answering (HeadIs kind) (assigned_by depth kind) (λ d. assigned-kinds d kind) never depth ⊎ Nowhere (assigned_by depth kind) (λ d. assigned-kinds d kind)
  unfolding assigned_by
  assigned-each k.Skip = inl none-assigned.answers
  assigned-each k.Name = inl (some-beginning k.Name (alone depth).some)
  assigned-each k.Forall = inl (some-beginning k.Forall (for-all depth).some)
  assigned-each kind = inr nothing-correct

  pub assigned-correct : Correct Always (assigned depth) Assigned never depth
  unfolding assigned
  assigned-correct = first-correct assigned-kinds never depth assigned-starts (assigned_by depth) assigned-each k.Skip none-assigned.here none-assigned.some
