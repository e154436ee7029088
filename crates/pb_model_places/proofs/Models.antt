-- The names of steps, and where properties go on, stand at places of their own in a protocol that was
-- read, at columns from 1 on.
use Rattle.std.proofs.Common.{◌≡◌, ◌⊎◌, inl, inr, ℕ, suc, Bool, true, not, List, [], ◌∷◌, ◌++◌, flat_map, append_assoc, refl, sym, ap, ◌∙◌, subst, arith}
use Rattle.std.specs.Prelude.{Contains}
use Rattle.std.specs.List.{list_all}
use Rattle.std.proofs.lemmas.List.{map-append, same_from_push}
use Rattle.pb_text_tree.specs.declared.place.Place.{Place}
use Rattle.pb_text_tree.specs.Form.{RangeForm}
use Rattle.pb_text_lexer.specs.declared.kind.Kind.TheVariants as k
use Rattle.pb_text_lexer.specs.declared.language.Language.TheVariants.{Model}
use Rattle.pb_text_lexer.specs.Grammar.{State}
use Rattle.pb_text_lexer.specs.Tokens.{Tok}
use Rattle.pb_protocol_tree.specs.Form.{StepForm, PropertyForm, ProtocolForm, ModelTextForm}
use Rattle.pb_model_text.specs.Models.{IsInitialState, IsModel}
use Rattle.pb_typing_calls.specs.Calls.{same_place}
use Rattle.pb_text.specs.Parsing.{depth_limit, operator_limit}
use Rattle.pb_model_runs.proofs.Elements.{both-true, some_of, of-some, in-left, in-right}
use Rattle.pb_model_runs.specs.Exact.{is_among, are_apart}
use Rattle.pb_model_places.proofs.Tokens.{false-of, parts-apart, first-apart, second-apart, same-turned, tokens-apart, token-columns}
use Rattle.pb_model_places.specs.Apart.{formula_places, step_places, property_places, protocol_stands_apart, ReadProtocolsStandApart, ReadPlacesHaveColumns}
use Rattle.pb_model_places.proofs.Keeping.{joined-took, Took, places_of, skips-one, keeps-counted}
use Rattle.pb_model_places.proofs.Formulas.{no_places}
use Rattle.pb_model_places.proofs.Steps.{skips-constants, skips-sorts, skips-state, skips-definitions, keeps-steps, skips-initial, keeps-properties, known}

pub all-of : {A : Type 0} (t : A → Bool) (xs : List A) → ((x : A) → Contains xs x → t x ≡ true) → list_all t xs ≡ true
all-of t [] h = refl
all-of t (x ∷ xs) h = both-true (t x) (list_all t xs) (h x (0, omega arith, refl)) (all-of t xs (λ y e. h y (suc e.0, omega (arith, e.1), e.2)))

-- the tokens before the steps, those of the steps, and those behind
record TookModel (tokens : List Tok) (m : ProtocolForm) : Type 0 where
  before : List Tok
  steps : List Tok
  behind : List Tok
  end : Tok
  are : tokens ≡ (before ++ (steps ++ behind)) ++ end ∷ []
  among_steps : (p : Place) → Contains (step_places m.steps) p → Contains (places_of steps) p
  steps_apart : are_apart (places_of steps) ≡ true → are_apart (step_places m.steps) ≡ true
  among_behind : (p : Place) → Contains (flat_map property_places m.properties) p → Contains (places_of behind) p

then : (s m z : State) → Took s m [] [] → Took m z [] [] → Took s z [] []
then s m z a b = joined-took s m z [] [] [] a b (λ p e. e)

took-model : (ranges : List RangeForm) (depth : ℕ) (s : State) (t : ModelTextForm) (z : State) (end : Tok) → z.tokens ≡ end ∷ [] → IsModel ranges depth s t z → TookModel s.tokens t.protocol
took-model ranges depth s t z end ends h =
    let a = h.3 in let b = a.3 in let c = b.3 in let d = c.3 in let e = d.3 in let f = e.3 in let g = f.3 in let i = g.3 in let j = i.3 in
    let headers = then s h.1 a.1 (skips-constants depth s h.0 h.1 h.2) (skips-sorts depth h.1 a.0 a.1 a.2) in
    let words = then s b.1 c.1 (then s a.1 b.1 headers (skips-one k.Model a.1 b.0 b.1 b.2)) (skips-one k.State b.1 c.0 c.1 c.2) in
    let variables = then s d.1 e.1 (then s c.1 d.1 words (skips-state depth c.1 d.0 d.1 d.2)) (skips-one k.Semicolon d.1 e.0 e.1 e.2) in
    let before = then s e.1 f.1 variables (skips-definitions depth e.1 f.0 f.1 f.2) in
    let steps = keeps-steps depth f.1 g.0 g.1 g.2 in
    let initial = keeps-counted no_places (IsInitialState depth) (skips-initial depth) g.1 i.0 i.1 i.2 in
    let behind = joined-took g.1 i.1 j.1 [] (flat_map property_places j.0) (flat_map property_places j.0) initial (keeps-properties depth i.1 j.0 j.1 j.2) (λ p q. q) in
    let last_tokens : j.1.tokens ≡ end ∷ [] = ap (λ (v : State). v.tokens) (sym j.3.1) ∙ ends in
    let same_steps : t.protocol.steps ≡ g.0 = ap (λ (v : ModelTextForm). v.protocol.steps) j.3.0 in
    let same_properties : t.protocol.properties ≡ j.0 = ap (λ (v : ModelTextForm). v.protocol.properties) j.3.0 in
    record {
      before = before.front;
      steps = steps.front;
      behind = behind.front;
      end = end;
      are = before.tokens ∙ ap (λ v. before.front ++ v) (steps.tokens ∙ ap (λ v. steps.front ++ v) (behind.tokens ∙ ap (λ v. behind.front ++ v) last_tokens))
          ∙ ap (λ v. before.front ++ v) (sym (append_assoc steps.front behind.front (end ∷ []))) ∙ sym (append_assoc before.front (steps.front ++ behind.front) (end ∷ []));
      among_steps = λ p q. steps.among p (subst (λ (v : List StepForm). Contains (step_places v) p) same_steps q);
      steps_apart = λ q. ap (λ (v : List StepForm). are_apart (step_places v)) same_steps ∙ steps.apart q;
      among_behind = λ p q. known p (places_of behind.front) (behind.among p (subst (λ (v : List PropertyForm). Contains (flat_map property_places v) p) same_properties q));
    }

stand-apart : (m : ProtocolForm) (p : PropertyForm) (tokens ts : List Tok) (end : Tok) → tokens ≡ ts ++ end ∷ [] → are_apart (places_of ts) ≡ true
    → TookModel tokens m → Contains m.properties p → protocol_stands_apart m p.formula ≡ true
stand-apart m p tokens ts end are apart took among =
    let same : ts ≡ took.before ++ (took.steps ++ took.behind) = (same_from_push ts (took.before ++ (took.steps ++ took.behind)) end took.end (sym are ∙ took.are)).0 in
    let place_of : Tok → Place = λ t. t.place in
    let split : places_of ts ≡ places_of took.before ++ (places_of took.steps ++ places_of took.behind) =
    ap places_of same ∙ map-append place_of took.before (took.steps ++ took.behind) ∙ ap (λ v. places_of took.before ++ v) (map-append place_of took.steps took.behind) in
    let all : are_apart (places_of took.steps ++ places_of took.behind) ≡ true =
    second-apart (places_of took.before) (places_of took.steps ++ places_of took.behind) (ap are_apart (sym split) ∙ apart) in
    both-true (are_apart (step_places m.steps)) _ (took.steps_apart (first-apart (places_of took.steps) (places_of took.behind) all))
    (all-of (λ q. not (is_among (step_places m.steps) q)) (formula_places p.formula) (λ q here.
    false-of (is_among (step_places m.steps) q) (λ found.
    let r = some_of (λ v. same_place v q) (step_places m.steps) found in
    parts-apart (places_of took.steps) (places_of took.behind) r.0 q all (took.among_steps r.0 r.1)
    (took.among_behind q (of-some property_places m.properties p q among here)) (same-turned r.0 q r.2))))

pub read-protocols-stand-apart : ReadProtocolsStandApart
read-protocols-stand-apart bytes t p reading among =
    let says = reading.says in
    let apart = tokens-apart Model bytes reading.tokens reading.ranges reading.cut in
    stand-apart t.protocol p reading.tokens apart.0 apart.1 apart.2 apart.3
    (took-model reading.ranges depth_limit (record { tokens = reading.tokens; operators = operator_limit }) t (record { tokens = says.1 ∷ []; operators = says.0 }) says.1 refl says.2) among

-- a place of the steps' names, or where properties go on, is a token's
of-tokens : (m : ProtocolForm) (tokens ts : List Tok) (end : Tok) (p : Place) → tokens ≡ ts ++ end ∷ [] → TookModel tokens m
    → Contains (step_places m.steps) p ⊎ Contains (flat_map property_places m.properties) p → Contains (places_of ts) p
of-tokens m tokens ts end p are took e =
    let same : ts ≡ took.before ++ (took.steps ++ took.behind) = (same_from_push ts (took.before ++ (took.steps ++ took.behind)) end took.end (sym are ∙ took.are)).0 in
    let place_of : Tok → Place = λ t. t.place in
    let split : places_of ts ≡ places_of took.before ++ (places_of took.steps ++ places_of took.behind) =
    ap places_of same ∙ map-append place_of took.before (took.steps ++ took.behind) ∙ ap (λ v. places_of took.before ++ v) (map-append place_of took.steps took.behind) in
    subst (λ (v : List Place). Contains v p) (sym split) (in-right (places_of took.before) (places_of took.steps ++ places_of took.behind) p (elim e [
      | inl step ↦ in-left (places_of took.steps) (places_of took.behind) p (took.among_steps p step)
      | inr goes ↦ in-right (places_of took.steps) (places_of took.behind) p (took.among_behind p goes)
    ]))

pub read-places-have-columns : ReadPlacesHaveColumns
read-places-have-columns bytes t p reading e =
    let says = reading.says in
    let columns = token-columns Model bytes reading.tokens reading.ranges reading.cut in
    columns.3 p (of-tokens t.protocol reading.tokens columns.0 columns.1 p columns.2
    (took-model reading.ranges depth_limit (record { tokens = reading.tokens; operators = operator_limit }) t (record { tokens = says.1 ∷ []; operators = says.0 }) says.1 refl says.2) e)
