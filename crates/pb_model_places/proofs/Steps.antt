-- What stands before, at and behind the steps of a model: their names and where properties go on are
-- places of tokens.
use Rattle.std.proofs.Common.{◌≡◌, ◌⊎◌, ℕ, zero, suc, true, not, List, [], ◌∷◌, ◌++◌, flat_map, append_assoc, refl, sym, ap, ◌∙◌, subst, inl, inr, arith}
use Rattle.std.specs.Prelude.{Contains}
use Rattle.std.proofs.lemmas.List.{map-append}
use Rattle.pb_text_tree.specs.declared.place.Place.{Place}
use Rattle.pb_text_lexer.specs.declared.kind.Kind.{Kind}
use Rattle.pb_text_lexer.specs.declared.kind.Kind.TheVariants as k
use Rattle.pb_text_lexer.specs.Grammar.{State, Reads, Is, One, last, more, CountedApart}
use Rattle.pb_text_lexer.specs.LeftGrammar.{Extended}
use Rattle.pb_text_lexer.specs.Tokens.{Tok}
use Rattle.pb_text_tree.specs.Form.{Named, TermForm}
use Rattle.pb_text_terms.specs.Grammar.{Name, Placed, Equated, IsUnary, IsTerm}
use Rattle.pb_text_formulas.specs.Grammar.{Plain, Enumerator}
use Rattle.pb_text.specs.Grammar.{Declared}
use Rattle.pb_protocol_tree.specs.Form.{StepForm}
use Rattle.pb_model_text.specs.Grammar.{Beginning, IsFormula, Word}
use Rattle.pb_model_text.specs.Models.{const_of, IsConstant, ConstantPart, Constants, IsBound, Greatest, UpTo, SortNamed, SortBehind, SortWithin, SortBy, IsSort, SortPart, Sorts}
use Rattle.pb_model_text.specs.Models.{Indexed, StateGroup, StateVariables, IsDefinition, DefinedBy, Definitions, IsAssigned, IsCopies, AssignmentBy, IsAssignment, SomeAssigned, AssignedBy, Assigned, IsStep, Steps, IsInitialState, IsProperty, Properties}
use Rattle.pb_typing_calls.specs.Calls.{same_place}
use Rattle.pb_model_runs.proofs.Elements.{both-true, either_of, some_of, in-left, in-right, in-either}
use Rattle.pb_model_runs.specs.Exact.{is_among, are_apart}
use Rattle.pb_model_places.specs.Apart.{formula_places, step_places, property_places}
use Rattle.pb_model_places.proofs.Tokens.{false-of, parts-apart, second-apart}
use Rattle.pb_model_places.proofs.Keeping.{Keeps, Skips, places_of, no-place, keeps-nothing, keeps-is, skips-is, keeps-bind, skips-of, skip, skips-one, keeps-first, keeps-extended, keeps-placed, keeps-counted, keeps-series, skips-series}
use Rattle.pb_model_places.proofs.Terms.{name_places, skips-name, named_at, keeps-name, skips-variables, keeps-equated, keeps-unary, skips-term}
use Rattle.pb_model_places.proofs.Formulas.{no_places, skips-instance, keeps-formula, keeps-word}

-- ---- what stands before the steps

skips-beginning : {X : Type 0} (kind : Kind) (R : Reads X) → Skips R → Skips (Beginning kind R)
skips-beginning kind R r s y z h = r s y z h.1

skips-constant : (depth : ℕ) → Skips (IsConstant depth)
skips-constant depth =
    skip _ _ [] no_places skips-name (λ name. skip _ _ [] no_places (skips-one k.Is) (λ is.
    skip _ _ [] no_places (keeps-placed no_places (IsTerm depth) (skips-term depth)) (λ value. skips-is _)))

skips-constant-part : (depth : ℕ) → Skips (ConstantPart depth)
skips-constant-part depth =
    skip _ _ [] no_places (skips-of (Word const_of) (λ word. word.1 ∷ []) (keeps-word const_of)) (λ word.
    skip _ _ [] no_places (skips-series (IsConstant depth) (One k.Comma) _ _ (skips-constant depth) (skips-one k.Comma)) (λ constants.
    skip _ _ [] no_places (skips-one k.Semicolon) (λ semicolon. skips-is _)))

pub skips-constants : (depth : ℕ) → Skips (Constants depth)
skips-constants depth =
    keeps-extended [] no_places _ _ (skips-is []) (skip _ _ [] no_places (skips-is []) (λ none. keeps-counted no_places (ConstantPart depth) (skips-constant-part depth)))

skips-enumerator : Skips Enumerator
skips-enumerator =
    let plain : Skips Plain = skip _ _ [] no_places skips-name (λ name. skips-is _) in
    keeps-extended [] no_places _ _ plain (skip _ _ [] no_places plain (λ x.
    skip _ _ [] no_places (skips-one k.Question) (λ question. skip _ _ [] no_places skips-name (λ name. skips-is _))))

skips-bound : (depth : ℕ) → Skips (IsBound depth)
skips-bound depth =
    keeps-placed no_places (Equated (IsUnary depth)) (skips-of (Equated (IsUnary depth)) name_places (keeps-equated (IsUnary depth) (keeps-unary depth)))

skips-greatest : (depth : ℕ) → Skips (Greatest depth)
skips-greatest depth =
    skip _ _ [] no_places (skips-one k.Period) (λ first_period. skip _ _ [] no_places (skips-one k.Period) (λ second_period.
    skip _ _ [] no_places (skips-bound depth) (λ high. skip _ _ [] no_places (skips-one k.Semicolon) (λ semicolon. skips-is _))))

skips-up-to : (depth : ℕ) (name : Named) (low : Place × TermForm) → Skips (UpTo depth name low)
skips-up-to depth name low = skip _ _ [] no_places (skips-greatest depth) (λ high. skips-is _)

skips-sort-named : (name : Named) (x : TermForm) → Skips (SortNamed name x)
skips-sort-named name (TermForm.name target) = skip _ _ [] no_places (skips-one k.Semicolon) (λ semicolon. skips-is _)
skips-sort-named name _ = keeps-nothing [] no_places

skips-sort-behind : (depth : ℕ) (name : Named) (low : Place × TermForm) (kind : Kind) → Skips (SortBehind depth name low kind)
skips-sort-behind depth name low k.Semicolon = skips-sort-named name low.1
skips-sort-behind depth name low k.Period = skips-up-to depth name low
skips-sort-behind depth name low _ = keeps-nothing [] no_places

skips-sort-within : (depth : ℕ) (name : Named) (kind : Kind) → Skips (SortWithin depth name kind)
skips-sort-within depth name kind =
    skip _ _ [] no_places (skips-beginning kind (IsBound depth) (skips-bound depth)) (λ low. skips-up-to depth name low)

skips-sort-by : (depth : ℕ) (name : Named) (kind : Kind) → Skips (SortBy depth name kind)
skips-sort-by depth name k.Struct =
    skip _ _ [] no_places (skips-one k.Struct) (λ word. skip _ _ [] no_places (skips-series Enumerator (One k.Bar) _ _ skips-enumerator (skips-one k.Bar)) (λ enumerators.
    skip _ _ [] no_places (skips-one k.Semicolon) (λ semicolon. skips-is _)))
skips-sort-by depth name k.Name =
    skip _ _ [] no_places (skips-beginning k.Name (IsBound depth) (skips-bound depth)) (λ first.
    keeps-first [] no_places (SortBehind depth name first) (skips-sort-behind depth name first))
skips-sort-by depth name k.Number = skips-sort-within depth name k.Number
skips-sort-by depth name k.Minus = skips-sort-within depth name k.Minus
skips-sort-by depth name k.Open = skips-sort-within depth name k.Open
skips-sort-by depth name _ = keeps-nothing [] no_places

skips-sort : (depth : ℕ) → Skips (IsSort depth)
skips-sort depth =
    skip _ _ [] no_places skips-name (λ name. skip _ _ [] no_places (skips-one k.Is) (λ is. keeps-first [] no_places (SortBy depth name) (skips-sort-by depth name)))

skips-sort-part : (depth : ℕ) → Skips (SortPart depth)
skips-sort-part depth =
    skip _ _ [] no_places (skips-one k.Sort) (λ word.
    skip _ _ [] no_places (skips-series (CountedApart (IsSort depth)) (Is {X = Unit {0}} tt) _ _ (keeps-counted no_places (IsSort depth) (skips-sort depth)) (skips-is tt)) (λ sorts. skips-is _))

pub skips-sorts : (depth : ℕ) → Skips (Sorts depth)
skips-sorts depth =
    keeps-extended [] no_places _ _ (skips-is [])
    (skip _ _ [] no_places (skips-is []) (λ none. skips-series (SortPart depth) (Is {X = Unit {0}} tt) _ _ (skips-sort-part depth) (skips-is tt)))

-- ---- steps

skips-declared : (depth : ℕ) → Skips (Declared depth)
skips-declared zero = keeps-nothing [] no_places
skips-declared (suc depth) =
    skip _ _ [] no_places (skips-one k.Open) (λ open_bracket. skip _ _ [] no_places skips-variables (λ parameters. skip _ _ [] no_places (skips-one k.Close) (λ close_bracket. skips-is parameters)))

skips-parameters : (depth : ℕ) → Skips (Extended (Is []) (λ none. Declared depth))
skips-parameters depth = keeps-extended [] no_places _ _ (skips-is []) (skip _ _ [] no_places (skips-is []) (λ none. skips-declared depth))

skips-indexed : (depth : ℕ) → Skips (Indexed depth)
skips-indexed depth = skip _ _ [] no_places skips-name (λ name. skip _ _ [] no_places (skips-parameters depth) (λ indices. skips-is _))

skips-state-group : (depth : ℕ) → Skips (StateGroup depth)
skips-state-group depth =
    skip _ _ [] no_places (skips-series (Indexed depth) (One k.Comma) _ _ (skips-indexed depth) (skips-one k.Comma)) (λ variables.
    skip _ _ [] no_places (skips-one k.Colon) (λ colon. skip _ _ [] no_places skips-name (λ sort. skips-is _)))

pub skips-state : (depth : ℕ) → Skips (StateVariables depth)
skips-state depth = skip _ _ [] no_places (skips-series (StateGroup depth) (One k.Comma) _ _ (skips-state-group depth) (skips-one k.Comma)) (λ groups. skips-is _)

skips-definition : (depth : ℕ) → Skips (IsDefinition depth)
skips-definition depth =
    skip _ _ [] no_places skips-name (λ name. skip _ _ [] no_places (skips-parameters depth) (λ parameters. skip _ _ [] no_places (skips-one k.Is) (λ is.
    skip _ _ [] no_places (skips-term depth) (λ term. skip _ _ [] no_places (skips-one k.Semicolon) (λ semicolon. skips-is _)))))

skips-defined-by : (depth : ℕ) (kind : Kind) → Skips (DefinedBy depth kind)
skips-defined-by depth k.Step = skip _ _ [] no_places (skips-one k.Step) (λ step. skips-is _)
skips-defined-by depth k.Define =
    skip _ _ [] no_places (skips-one k.Define) (λ define.
    skip _ _ [] no_places
    (skips-series (CountedApart (IsDefinition depth)) (Is {X = Unit {0}} tt) _ _
    (keeps-counted no_places (IsDefinition depth) (skips-definition depth)) (skips-is tt)) (λ definitions.
    skip _ _ [] no_places (skips-one k.Step) (λ step. skips-is _)))
skips-defined-by depth _ = keeps-nothing [] no_places

pub skips-definitions : (depth : ℕ) → Skips (Definitions depth)
skips-definitions depth = keeps-first [] no_places (DefinedBy depth) (skips-defined-by depth)

skips-alone : (depth : ℕ) → Skips (IsAssigned depth)
skips-alone depth =
    skip _ _ [] no_places (skips-instance depth) (λ assigned. skip _ _ [] no_places (skips-one k.Assign) (λ assign.
    skip _ _ [] no_places (keeps-placed no_places (IsTerm depth) (skips-term depth)) (λ value. skips-is _)))

skips-copies : Skips IsCopies
skips-copies =
    skip _ _ [] no_places (skips-one k.Forall) (λ word. skip _ _ [] no_places skips-variables (λ variables.
    skip _ _ [] no_places (skips-one k.Period) (λ period. skips-is _)))

skips-assignment-by : (depth : ℕ) (kind : Kind) → Skips (AssignmentBy depth kind)
skips-assignment-by depth k.Name = skips-alone depth
skips-assignment-by depth k.Forall = skip _ _ [] no_places skips-copies (λ copies. skip _ _ [] no_places (skips-alone depth) (λ assigned. skips-is _))
skips-assignment-by depth _ = keeps-nothing [] no_places

skips-assignment : (depth : ℕ) → Skips (IsAssignment depth)
skips-assignment depth = keeps-first [] no_places (AssignmentBy depth) (skips-assignment-by depth)

skips-some-assigned : (depth : ℕ) → Skips (SomeAssigned depth)
skips-some-assigned depth =
    skip _ _ [] no_places (skips-series (IsAssignment depth) (One k.Comma) _ _ (skips-assignment depth) (skips-one k.Comma)) (λ assignments.
    skip _ _ [] no_places (skips-one k.Semicolon) (λ semicolon. skips-is _))

skips-assigned-by : (depth : ℕ) (kind : Kind) → Skips (AssignedBy depth kind)
skips-assigned-by depth k.Skip = skip _ _ [] no_places (skips-one k.Skip) (λ word. skip _ _ [] no_places (skips-one k.Semicolon) (λ semicolon. skips-is _))
skips-assigned-by depth k.Name = skips-beginning k.Name (SomeAssigned depth) (skips-some-assigned depth)
skips-assigned-by depth k.Forall = skips-beginning k.Forall (SomeAssigned depth) (skips-some-assigned depth)
skips-assigned-by depth _ = keeps-nothing [] no_places

skips-assigned : (depth : ℕ) → Skips (Assigned depth)
skips-assigned depth = keeps-first [] no_places (AssignedBy depth) (skips-assigned-by depth)

abbrev step_place : StepForm → List Place
step_place a = a.name.place ∷ []

keeps-step : (depth : ℕ) → Keeps [] step_place (IsStep depth)
keeps-step depth =
    keeps-bind Name _ [] named_at step_place keeps-name (λ name.
    skip _ _ (named_at name) step_place (skips-parameters depth) (λ variables.
    skip _ _ (named_at name) step_place (skips-one k.Colon) (λ colon.
    skip _ _ (named_at name) step_place (skips-term depth) (λ guard.
    skip _ _ (named_at name) step_place (skips-one k.Arrow) (λ arrow.
    skip _ _ (named_at name) step_place (skips-assigned depth) (λ assignments. keeps-is (named_at name) step_place _ (λ p e. e)))))))

-- what was read, and so many tokens, of places that are apart
pub record TookSteps (s z : State) (steps : List StepForm) : Type 0 where
  pub front : List Tok
  pub tokens : s.tokens ≡ front ++ z.tokens
  pub among : (p : Place) → Contains (step_places steps) p → Contains (places_of front) p
  pub apart : are_apart (places_of front) ≡ true → are_apart (step_places steps) ≡ true

pub known : (p : Place) (ps : List Place) → Contains (places_of []) p ⊎ Contains ps p → Contains ps p
known p ps (inl none) = no-place p none
known p ps (inr token) = token

pub keeps-steps : (depth : ℕ) (s : State) (steps : List StepForm) (z : State) → Steps depth s steps z → TookSteps s z steps
keeps-steps depth s steps z (last {x = a} h) =
    let one = keeps-counted step_place (IsStep depth) (keeps-step depth) s a z h in
    record { front = one.front; tokens = one.tokens; among = λ p e. known p (places_of one.front) (one.among p e); apart = λ e. refl }
keeps-steps depth s steps z (more {m = m} {o = o} {x = a} {y = rest} h k l) =
    let one = keeps-counted step_place (IsStep depth) (keeps-step depth) s a m h in
    let others = keeps-steps depth o rest z l in
    let split = map-append (λ (t : Tok). t.place) one.front others.front in
    record {
      front = one.front ++ others.front;
      tokens = one.tokens ∙ ap (λ v. one.front ++ v) (ap (λ (v : State). v.tokens) (sym k.1) ∙ others.tokens) ∙ sym (append_assoc one.front others.front z.tokens);
      among = λ p e. subst (λ ps. Contains ps p) (sym split) (elim (either_of a.name.place (step_places rest) p e) [
        | inl same ↦ in-left (places_of one.front) (places_of others.front) p (known p (places_of one.front) (one.among p (subst (λ r. Contains (a.name.place ∷ []) r) same (0, omega arith, refl))))
        | inr later ↦ in-right (places_of one.front) (places_of others.front) p (others.among p later)
      ]);
      apart = λ e.
          let whole : are_apart (places_of one.front ++ places_of others.front) ≡ true = ap are_apart (sym split) ∙ e in
          both-true (not (is_among (step_places rest) a.name.place)) (are_apart (step_places rest))
          (false-of (is_among (step_places rest) a.name.place) (λ found.
          let q = some_of (λ q. same_place q a.name.place) (step_places rest) found in
          parts-apart (places_of one.front) (places_of others.front) a.name.place q.0 whole
          (known a.name.place (places_of one.front) (one.among a.name.place (0, omega arith, refl))) (others.among q.0 q.1) q.2))
          (others.apart (second-apart (places_of one.front) (places_of others.front) whole));
    }

-- ---- what stands behind them

pub skips-initial : (depth : ℕ) → Skips (IsInitialState depth)
skips-initial depth =
    skip _ _ [] no_places (skips-one k.Init) (λ word.
    skip _ _ [] no_places (skips-series (Placed (IsTerm depth)) (One k.Comma) _ _ (keeps-placed no_places (IsTerm depth) (skips-term depth)) (skips-one k.Comma)) (λ values.
    skip _ _ [] no_places (skips-one k.Semicolon) (λ semicolon. skips-is _)))

keeps-property : (depth : ℕ) → Keeps [] property_places (IsProperty depth)
keeps-property depth =
    skip _ _ [] property_places (skips-one k.Property) (λ word. skip _ _ [] property_places skips-name (λ name. skip _ _ [] property_places (skips-one k.Is) (λ is.
    keeps-bind (IsFormula [] depth) _ [] formula_places property_places (keeps-formula [] depth) (λ f.
    skip _ _ (formula_places f ++ []) property_places (skips-one k.Semicolon) (λ semicolon. keeps-is _ property_places _ (λ p e. in-left (formula_places f) [] p e))))))

pub keeps-properties : (depth : ℕ) → Keeps [] (flat_map property_places) (Properties depth)
keeps-properties depth =
    keeps-series (CountedApart (IsProperty depth)) (Is {X = Unit {0}} tt) (λ x. x ∷ []) (λ x t xs. x ∷ xs) property_places (flat_map property_places)
    (λ x p e. elim (in-either (property_places x) [] p e) [ inl here ↦ here | inr none ↦ no-place p none ])
    (λ x t xs p e. e) (keeps-counted property_places (IsProperty depth) (keeps-property depth)) (skips-is tt)
