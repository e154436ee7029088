-- Steps, properties and whole models are read rightly.
use Rattle.std.specs.Prelude.{flat_map}
use Rattle.std.proofs.Common.{◌≡◌, ℕ, Bool, false, List, [], ◌∷◌, map, refl, sym, ap, subst, inl, inr}
use Rattle.pb_text_tree.specs.Form.{RangeForm}
use Rattle.pb_protocol_tree.specs.Form.{StepForm, PropertyForm, ModelTextForm}
use Rattle.pb_text_lexer.specs.declared.kind.Kind.{Kind}
use Rattle.pb_text_lexer.specs.declared.kind.Kind.TheVariants as k
use Rattle.pb_text_lexer.specs.Kinds.{same_kind}
use Rattle.pb_text_lexer.specs.Grammar.{State, One, CountedApart}
use Rattle.pb_text_lexer.specs.LeftGrammar.{Listed}
use Rattle.pb_text_lexer.specs.Tokens.{Tok}
use Rattle.pb_text_lexer.specs.Steps.{expect}
use Rattle.pb_text_lexer.proofs.Correct.{Stops, never, Correct, HeadIs, then-correct, expect-correct}
use Rattle.pb_text_lexer.proofs.CorrectFamilies.{own-correct}
use Rattle.pb_text_lexer.proofs.CorrectSeries.{going, Passes, stops-at, head-at}
use Rattle.pb_text_lexer.proofs.CorrectPlain.{Always, anywhere, then-plain}
use Rattle.pb_text_terms.specs.Grammar.{Name, Placed, arguments_of, IsTerm}
use Rattle.pb_text_terms.specs.Reading.{name, is_open, with_place, argument_list, term}
use Rattle.pb_text_terms.proofs.CorrectVariable.{name-correct, commas, listed-correct, stops-at-kind, said-correct}
use Rattle.pb_text_terms.proofs.CorrectOperators.{term_goes, comma-apart, list_goes}
use Rattle.pb_text_terms.proofs.CorrectTerm.{term-correct}
use Rattle.pb_text_formulas.specs.Reading.{is_name_kind}
use Rattle.pb_text.specs.Reading.{parameters}
use Rattle.pb_text_formulas.specs.Reading.{is_sort}
use Rattle.pb_text_formulas.proofs.CorrectSorts.{sort-apart, passes-kind, token-correct, many-correct}
use Rattle.pb_text.proofs.CorrectText.{parameters_of, parameters-correct}
use Rattle.pb_model_text.specs.Grammar.{IsFormula}
use Rattle.pb_model_text.specs.Models.{Constants, DeclaredSort, Sorts, declaration_in, bounds_in}
use Rattle.pb_model_text.specs.Models.{StateVariables, Definitions, Assigned, IsStep, Steps, IsInitialState, IsProperty, Properties, IsModel}
use Rattle.pb_model_text.specs.Reading.{is_property, formula}
use Rattle.pb_model_text.specs.ModelReading.{constants, sorts, state_variables, definitions, assignments, assigned, step_parts, steps, initial_parts, initial, property_parts, property, properties, model}
use Rattle.pb_model_text.specs.ModelReading as reading
use Rattle.pb_model_text.proofs.CorrectState.{state_variables-correct, definitions-correct}
use Rattle.pb_model_text.proofs.CorrectFormula.{formula_goes, formulas-correct}
use Rattle.pb_model_text.proofs.CorrectAssigned.{placed_term-correct, semicolon-stops, assigned-correct}
use Rattle.pb_model_text.proofs.CorrectConstants.{constants_go, constants-correct}
use Rattle.pb_model_text.proofs.CorrectSorts.{sorts_go, parts-start, sorts-correct}

-- ---- steps

colon-stops : going never is_open k.Colon ≡ false
unfolding same_kind
colon-stops = refl

arrow-stops : term_goes k.Arrow ≡ false
unfolding same_kind
arrow-stops = refl

step_parts-correct : (depth : ℕ) → Correct Always (step_parts depth) IsStep never depth
unfolding step_parts
step_parts-correct depth =
    then-plain (λ d. Name) _ never depth
    Always name _ (name-correct depth) (λ found.
    then-correct parameters_of _ (going never is_open) never depth
    (λ d x m y z r over. stops-at-kind (going never is_open) k.Colon colon-stops m.tokens r.1.tokens r.0 r.2.0 r.2.1)
    Always (parameters depth) _ (parameters-correct depth) (λ own. anywhere (Stops (going never is_open)) _ _ never depth (
    then-plain (λ d. One k.Colon) _ never depth
    Always (expect k.Colon) _ (expect-correct k.Colon depth refl) (λ colon.
    then-correct IsTerm _ term_goes never depth
    (λ d x m y z r over. stops-at-kind term_goes k.Arrow arrow-stops m.tokens r.1.tokens r.0 r.2.0 r.2.1) Always
    (term depth) _ (term-correct depth) (λ guard. anywhere (Stops term_goes) _ _ never depth (
    then-plain (λ d. One k.Arrow) _ never depth
    Always (expect k.Arrow) _ (expect-correct k.Arrow depth refl) (λ arrow.
    said-correct Assigned (λ assigned. record { name = found; variables = own; guard = guard; assignments = assigned }) never depth Always (assigned depth) (assigned-correct depth))))))))

step-correct : (depth : ℕ) → Correct Always (reading.step depth) (λ d. CountedApart (IsStep d)) never depth
unfolding reading.step
step-correct depth = own-correct Always (step_parts depth) IsStep never depth (step_parts-correct depth)

step-starts : (d : ℕ) (s : State) (x : StepForm) (z : State) → CountedApart (IsStep d) s x z → Passes is_name_kind s.tokens
step-starts d s x z r = let q = r.1 in passes-kind k.Name s.tokens q.2.1.tokens q.2.0 q.2.2.0 q.2.2.1

abbrev steps_go : Kind → Bool
steps_go = going never is_name_kind

steps-correct : (depth : ℕ) → Correct Always (steps depth) Steps steps_go depth
steps-correct depth =
    many-correct (λ d. CountedApart (IsStep d)) never is_name_kind depth (λ kind h. refl) step-starts (λ x. x ∷ []) (λ x u xs. x ∷ xs) (reading.step depth) (step-correct depth)

-- ---- the initial state

values-correct : (depth : ℕ) → Correct Always (argument_list (term depth)) (λ d. Listed (Placed (IsTerm d)) (One k.Comma)) list_goes depth
values-correct depth =
    listed-correct (λ d. Placed (IsTerm d)) term_goes depth comma-apart (with_place (term depth)) (placed_term-correct depth)

initial_parts-correct : (depth : ℕ) → Correct Always (initial_parts depth) IsInitialState never depth
unfolding initial_parts
initial_parts-correct depth =
    then-plain (λ d. One k.Init) _ never depth
    Always (expect k.Init) _ (expect-correct k.Init depth refl) (λ word.
    then-correct (λ d. Listed (Placed (IsTerm d)) (One k.Comma)) _ list_goes never depth
    (λ d x m y z r over. stops-at-kind list_goes k.Semicolon semicolon-stops m.tokens r.1.tokens r.0 r.2.0 r.2.1) Always (argument_list (term depth)) _ (values-correct depth)
    (λ values. anywhere (Stops list_goes) _ _ never depth (token-correct k.Semicolon depth (record { place = word.place; values = arguments_of values }) refl)))

initial-correct : (depth : ℕ) → Correct Always (initial depth) (λ d. CountedApart (IsInitialState d)) never depth
unfolding initial
initial-correct depth = own-correct Always (initial_parts depth) IsInitialState never depth (initial_parts-correct depth)

-- ---- properties

formula-stops : formula_goes k.Semicolon ≡ false
unfolding same_kind
formula-stops = refl

property_parts-correct : (depth : ℕ) → Correct Always (property_parts depth) IsProperty never depth
unfolding property_parts
property_parts-correct depth =
    then-plain (λ d. One k.Property) _ never depth
    Always (expect k.Property) _ (expect-correct k.Property depth refl) (λ word.
    then-plain (λ d. Name) _ never depth
    Always name _ (name-correct depth) (λ found.
    then-plain (λ d. One k.Is) _ never depth
    Always (expect k.Is) _ (expect-correct k.Is depth refl) (λ is.
    then-correct (IsFormula []) _ formula_goes never depth
    (λ d x m y z r over. stops-at-kind formula_goes k.Semicolon formula-stops m.tokens r.1.tokens r.0 r.2.0 r.2.1) Always (formula [] depth) _ ((formulas-correct depth).formulas [])
    (λ x. anywhere (Stops formula_goes) _ _ never depth (token-correct k.Semicolon depth (record { name = found; formula = x }) refl)))))

property-correct : (depth : ℕ) → Correct Always (property depth) (λ d. CountedApart (IsProperty d)) never depth
unfolding property
property-correct depth = own-correct Always (property_parts depth) IsProperty never depth (property_parts-correct depth)

property-starts : (d : ℕ) (s : State) (x : PropertyForm) (z : State) → CountedApart (IsProperty d) s x z → Passes is_property s.tokens
property-starts d s x z r = let q = r.1 in passes-kind k.Property s.tokens q.1.tokens q.0 q.2.0 q.2.1

-- what goes on with properties
abbrev pub properties_go : Kind → Bool
properties_go = going never is_property

properties-correct : (depth : ℕ) → Correct Always (properties depth) Properties properties_go depth
properties-correct depth =
    many-correct (λ d. CountedApart (IsProperty d)) never is_property depth (λ kind h. refl) property-starts (λ x. x ∷ []) (λ x u xs. x ∷ xs) (property depth) (property-correct depth)

-- ---- the whole model

model-stops : sorts_go k.Model ≡ false
unfolding same_kind
model-stops = refl

state-stops : commas k.Semicolon ≡ false
unfolding same_kind
state-stops = refl

init-stops : steps_go k.Init ≡ false
unfolding same_kind
init-stops = refl

pub end-stops : properties_go k.End ≡ false
unfolding same_kind
end-stops = refl

-- where sorts and `model` follow, no name does
sorts-stop-constants : (d : ℕ) (s m : State) (x : List DeclaredSort) → Sorts d s x m → HeadIs k.Model m.tokens → Stops constants_go s.tokens
unfolding same_kind
sorts-stop-constants d s m x (inl r) head = stops m.tokens s.tokens (ap (λ (v : State). v.tokens) r.1) head
  where
    at : (kind : Kind) → kind ≡ k.Model → constants_go kind ≡ false
    at kind e = subst (λ (v : Kind). constants_go v ≡ false) (sym e) refl

    stops : (ts us : List Tok) → ts ≡ us → HeadIs k.Model ts → Stops constants_go us
    stops ts us e h = subst (λ (v : List Tok). Stops constants_go v) e (here ts h)
      where
        here : (ts : List Tok) → HeadIs k.Model ts → Stops constants_go ts
        here [] h = refl
        here (t ∷ ts) h = at t.kind h
sorts-stop-constants d s m x (inr r) head =
    subst (λ (v : State). Stops constants_go v.tokens) r.2.1 (stops-at constants_go is_sort r.1.tokens sort-apart (parts-start d r.1 x m r.3))

module _ (ranges : List RangeForm) (depth : ℕ) where
  pub model-correct : Correct Always (model ranges depth) (IsModel ranges) properties_go depth
  unfolding model
  model-correct =
      then-correct Constants _ constants_go properties_go depth
      (λ d x m y z r over. let q = r.3 in sorts-stop-constants d m r.1 r.0 r.2 (head-at k.Model r.1.tokens q.1.tokens q.0 q.2.0 q.2.1)) Always
      (constants depth) _ (constants-correct depth) (λ its_constants. anywhere (Stops constants_go) _ _ properties_go depth (
      then-correct Sorts _ sorts_go properties_go depth
      (λ d x m y z r over. stops-at-kind sorts_go k.Model model-stops m.tokens r.1.tokens r.0 r.2.0 r.2.1) Always
      (sorts depth) _ (sorts-correct depth) (λ its_sorts. anywhere (Stops sorts_go) _ _ properties_go depth (
      then-plain (λ d. One k.Model) _ properties_go depth
      Always (expect k.Model) _ (expect-correct k.Model depth refl) (λ word.
      then-plain (λ d. One k.State) _ properties_go depth
      Always (expect k.State) _ (expect-correct k.State depth refl) (λ state.
      then-correct StateVariables _ commas properties_go depth
      (λ d x m y z r over. stops-at-kind commas k.Semicolon state-stops m.tokens r.1.tokens r.0 r.2.0 r.2.1) Always
      (state_variables depth) _ (state_variables-correct depth) (λ own. anywhere (Stops commas) _ _ properties_go depth (
      then-plain (λ d. One k.Semicolon) _ properties_go depth
      Always (expect k.Semicolon) _ (expect-correct k.Semicolon depth refl) (λ semicolon.
      then-plain Definitions _ properties_go depth
      Always (definitions depth) _ (definitions-correct depth) (λ defined.
      then-correct Steps _ steps_go properties_go depth
      (λ d x m y z r over. let q = r.2.1 in
      stops-at-kind steps_go k.Init init-stops m.tokens q.1.tokens q.0 q.2.0 q.2.1) Always (steps depth) _
      (steps-correct depth) (λ found. anywhere (Stops steps_go) _ _ properties_go depth (
      then-plain (λ d. CountedApart (IsInitialState d)) _ properties_go depth
      Always (initial depth) _ (initial-correct depth) (λ start.
      said-correct Properties
      (λ asked. record {
        constants = its_constants;
        bounds = flat_map bounds_in its_sorts;
        protocol = record {
          sorts = map declaration_in its_sorts;
          ranges = ranges;
          variables = own;
          definitions = defined;
          steps = found;
          initial = start;
          properties = asked;
        };
      }) properties_go depth Always (properties depth) (properties-correct depth))))))))))))))

abbrev pub with_ranges : List RangeForm → ModelTextForm → ModelTextForm
with_ranges rs y = record { constants = y.constants; bounds = y.bounds; protocol = record y.protocol { ranges = rs } }

-- the same with other range lines: as before, one part deeper (constants before sorts)
pub other-ranges : (rs us : List RangeForm) (d : ℕ) (s : State) (y : ModelTextForm) (z : State) → IsModel us d s y z → IsModel rs d s (with_ranges rs y) z
other-ranges rs us d s y z r =
    let p = r.3 in
    let h = p.3 in
    let e = h.3 in
    let i = e.3 in
    let n = i.3 in
    let c = n.3 in
    let b = c.3 in
    let a = b.3 in
    let v = a.3 in
    let w = v.3 in (
      r.0,
      r.1,
      r.2,
      (
        p.0,
        p.1,
        p.2,
        (
          h.0,
          h.1,
          h.2,
          (
            e.0,
            e.1,
            e.2,
            (
              i.0,
              i.1,
              i.2,
              (
                n.0,
                n.1,
                n.2,
                (
                  c.0,
                  c.1,
                  c.2,
                  (
                    b.0,
                    b.1,
                    b.2,
                    (
                      a.0,
                      a.1,
                      a.2,
                      (
                        v.0,
                        v.1,
                        v.2,
                        (
                          ap (with_ranges rs) w.0,
                          w.1,
                        ),
                      ),
                    ),
                  ),
                ),
              ),
            ),
          ),
        ),
      ),
    )

-- its ranges are those
pub ranges-are : (rs : List RangeForm) (d : ℕ) (s : State) (y : ModelTextForm) (z : State) → IsModel rs d s y z → y ≡ with_ranges rs y
ranges-are rs d s y z r =
    let e : y.protocol.ranges ≡ rs = ap (λ (v : ModelTextForm). v.protocol.ranges) r.3.3.3.3.3.3.3.3.3.3.0 in
    ap (λ (v : List RangeForm). with_ranges v y) e
