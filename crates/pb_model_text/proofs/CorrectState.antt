-- State variables and definitions are read rightly.
use Rattle.std.proofs.Common.{◌≡◌, ℕ, Bool, false, List, [], ◌∷◌, map, refl, ◌⊎◌, inl, inr}
use Rattle.std.specs.Prelude.{flat_map}
use Rattle.pb_protocol_tree.specs.Form.{DefinitionForm}
use Rattle.pb_text_lexer.specs.declared.kind.Kind.{Kind}
use Rattle.pb_text_lexer.specs.declared.kind.Kind.TheVariants as k
use Rattle.pb_text_lexer.specs.Kinds.{same_kind}
use Rattle.pb_text_lexer.specs.Grammar.{State, Reads, Is, One, CountedApart}
use Rattle.pb_text_lexer.specs.Grammar as grammar
use Rattle.pb_text_lexer.specs.LeftGrammar.{Listed}
use Rattle.pb_text_lexer.specs.Steps.{take_token, expect}
use Rattle.pb_text_lexer.proofs.Correct.{Stops, never, Answering, Correct, HeadIs, then-correct, take-correct, expect-correct}
use Rattle.pb_text_lexer.proofs.CorrectFamilies.{Nowhere, first-correct, own-correct}
use Rattle.pb_text_lexer.proofs.CorrectSeries.{going, Passes, head-at}
use Rattle.pb_text_lexer.proofs.CorrectPlain.{Always, anywhere, then-plain, is-correct, nothing-correct}
use Rattle.pb_text_terms.specs.Grammar.{Name, IsTerm}
use Rattle.pb_text_terms.specs.Reading.{name, is_comma, is_open, term}
use Rattle.pb_text_terms.proofs.CorrectVariable.{name-correct, commas, listed-correct, stops-at-kind, said-correct}
use Rattle.pb_text_terms.proofs.CorrectOperators.{term_goes}
use Rattle.pb_text_terms.proofs.CorrectTerm.{term-correct}
use Rattle.pb_text_formulas.specs.Reading.{is_name_kind}
use Rattle.pb_text_formulas.proofs.CorrectSorts.{passes-kind, token-correct, many-correct}
use Rattle.pb_text.specs.Reading.{parameters}
use Rattle.pb_text.proofs.CorrectText.{parameters_of, parameters-correct}
use Rattle.pb_model_text.specs.Models.{Indexed, of_sort, StateGroup, StateVariables, IsDefinition, DefinedBy, Definitions}
use Rattle.pb_model_text.specs.ModelReading.{indexed_name, indexed_names, state_group, state_groups, state_variables, definition_parts, definition, definition_list, defined_by, definitions}

-- ---- the state

-- what goes on with a name that may have indices
abbrev indexed_goes : Kind → Bool
indexed_goes = going never is_open

indexed_name-correct : (depth : ℕ) → Correct Always (indexed_name depth) Indexed indexed_goes depth
unfolding indexed_name
indexed_name-correct depth =
    then-plain (λ d. Name) _ indexed_goes depth Always name _ (name-correct depth) (λ found.
    said-correct parameters_of (λ indices. (found, indices)) indexed_goes depth Always (parameters depth) (parameters-correct depth))

comma-stops : indexed_goes k.Comma ≡ false
unfolding same_kind
comma-stops = refl

colon-ends : going indexed_goes is_comma k.Colon ≡ false
unfolding same_kind
colon-ends = refl

state_group-correct : (depth : ℕ) → Correct Always (state_group depth) StateGroup never depth
unfolding state_group
state_group-correct depth =
    then-correct (λ d. Listed (Indexed d) (One k.Comma)) _ (going indexed_goes is_comma) never depth
    (λ d x m y z r over. stops-at-kind (going indexed_goes is_comma) k.Colon colon-ends m.tokens r.1.tokens r.0 r.2.0 r.2.1) Always (indexed_names depth) _
    (listed-correct Indexed indexed_goes depth comma-stops (indexed_name depth) (indexed_name-correct depth)) (λ found. anywhere (Stops (going indexed_goes is_comma)) _ _ never depth (
    then-plain (λ d. One k.Colon) _ never depth
    Always (expect k.Colon) _ (expect-correct k.Colon depth refl) (λ colon.
    said-correct (λ d. Name) (λ sort. map (of_sort sort) found) never depth Always name (name-correct depth))))

pub state_variables-correct : (depth : ℕ) → Correct Always (state_variables depth) StateVariables commas depth
unfolding state_variables
state_variables-correct depth =
    said-correct (λ d. Listed (StateGroup d) (One k.Comma)) (λ found. flat_map (λ group. group) found) commas depth Always (state_groups depth)
    (listed-correct StateGroup never depth refl (state_group depth) (state_group-correct depth))

-- ---- definitions

is-stops : indexed_goes k.Is ≡ false
unfolding same_kind
is-stops = refl

semicolon-stops : term_goes k.Semicolon ≡ false
unfolding same_kind
semicolon-stops = refl

definition_parts-correct : (depth : ℕ) → Correct Always (definition_parts depth) IsDefinition never depth
unfolding definition_parts
definition_parts-correct depth =
    then-plain (λ d. Name) _ never depth Always name _ (name-correct depth) (λ found.
    then-correct parameters_of _ indexed_goes never depth
    (λ d x m y z r over. stops-at-kind indexed_goes k.Is is-stops m.tokens r.1.tokens r.0 r.2.0 r.2.1) Always
    (parameters depth) _ (parameters-correct depth) (λ own. anywhere (Stops indexed_goes) _ _ never depth (
    then-plain (λ d. One k.Is) _ never depth
    Always (expect k.Is) _ (expect-correct k.Is depth refl) (λ is.
    then-correct IsTerm _ term_goes never depth
    (λ d x m y z r over. stops-at-kind term_goes k.Semicolon semicolon-stops m.tokens r.1.tokens r.0 r.2.0 r.2.1) Always (term depth) _ (term-correct depth)
    (λ body. anywhere (Stops term_goes) _ _ never depth (token-correct k.Semicolon depth (record { name = found; parameters = own; term = body }) refl))))))

definition-correct : (depth : ℕ) → Correct Always (definition depth) (λ d. CountedApart (IsDefinition d)) never depth
unfolding definition
definition-correct depth = own-correct Always (definition_parts depth) IsDefinition never depth (definition_parts-correct depth)

definition-starts : (d : ℕ) (s : State) (x : DefinitionForm) (z : State) → CountedApart (IsDefinition d) s x z → Passes is_name_kind s.tokens
definition-starts d s x z r = let q = r.1 in passes-kind k.Name s.tokens q.2.1.tokens q.2.0 q.2.2.0 q.2.2.1

-- what goes on with definitions
abbrev definitions_go : Kind → Bool
definitions_go = going never is_name_kind

abbrev lists : ℕ → Reads (List DefinitionForm)
lists d = Listed (CountedApart (IsDefinition d)) (Is {X = Unit {0}} tt)

definition_list-correct : (depth : ℕ) → Correct Always (definition_list depth) lists definitions_go depth
definition_list-correct depth =
    many-correct (λ d. CountedApart (IsDefinition d)) never is_name_kind depth (λ kind h. refl) definition-starts (λ x. x ∷ []) (λ x u xs. x ∷ xs) (definition depth) (definition-correct depth)

step-stops : definitions_go k.Step ≡ false
unfolding same_kind
step-stops = refl

abbrev kinds : ℕ → Kind → Reads (List DefinitionForm)
kinds d = DefinedBy d

starts : (d : ℕ) (kind : Kind) (s : State) (y : List DefinitionForm) (z : State) → kinds d kind s y z → HeadIs kind s.tokens
starts d k.Step s y z r = head-at k.Step s.tokens r.1.tokens r.0 r.2.0 r.2.1
starts d k.Define s y z r = head-at k.Define s.tokens r.1.tokens r.0 r.2.0 r.2.1
starts d _ s y z r = absurd r

module _ (depth : ℕ) where
  none-defined : Correct (HeadIs k.Step) (defined_by depth k.Step) (λ d. kinds d k.Step) never depth
  unfolding defined_by
  none-defined = then-plain (λ d. One k.Step) (λ step d. Is []) never depth (HeadIs k.Step) take_token _ (take-correct k.Step depth refl) (λ step. is-correct [] depth)

  some-defined : Correct (HeadIs k.Define) (defined_by depth k.Define) (λ d. kinds d k.Define) never depth
  unfolding defined_by
  some-defined =
      then-plain (λ d. One k.Define)
      (λ define d. grammar.◌>>=◌ (lists d) (λ found. grammar.◌>>=◌ (One k.Step) (λ step. Is found))) never depth
      (HeadIs k.Define) take_token _ (take-correct k.Define depth refl) (λ define.
      then-correct lists (λ found d. grammar.◌>>=◌ (One k.Step) (λ step. Is found)) definitions_go never depth
      (λ d x m y z r over. stops-at-kind definitions_go k.Step step-stops m.tokens r.1.tokens r.0 r.2.0 r.2.1) Always (definition_list depth) _ (definition_list-correct depth)
      (λ found. anywhere (Stops definitions_go) _ _ never depth (token-correct k.Step depth found refl)))

  at-each : (kind : Kind) → Answering (HeadIs kind) (defined_by depth kind) (λ d. kinds d kind) never depth ⊎ Nowhere (defined_by depth kind) (λ d. kinds d kind)
  unfolding defined_by
  at-each k.Step = inl none-defined.answers
  at-each k.Define = inl some-defined.answers
  at-each kind = inr nothing-correct

  pub definitions-correct : Correct Always (definitions depth) Definitions never depth
  unfolding definitions
  definitions-correct = first-correct kinds never depth starts (defined_by depth) at-each k.Step none-defined.here none-defined.some
