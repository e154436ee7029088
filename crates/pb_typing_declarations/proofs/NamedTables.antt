-- Tables of entries, in the words of what the entries are read of.
use Rattle.std.proofs.Common.{◌≡◌, ◌∙◌, ◌++◌, ℕ, List, [], map, sym, ap, subst, Result, Ok, Err}
use Rattle.std.specs.Prelude.{flat_map, MatchResult}
use Rattle.std.specs.Option.{option_map}
use Rattle.pb_sorts.specs.declared.carrier.Range.{Range}
use Rattle.pb_text_tree.specs.Form.{Named, RangeForm, EquationForm}
use Rattle.pb_text_meaning.specs.Syntax.{Name}
use Rattle.pb_typing_declarations.specs.declared.entry.Entry.{Entry}
use Rattle.pb_base.specs.declared.or_memory.OrMemory.{OrMemory}
use Rattle.pb_typing_declarations.specs.declared.fault.TypingFault.{TypingFault}
use Rattle.pb_typing_declarations.specs.Faults.{repeated, IsAmong}
use Rattle.pb_typing_declarations.specs.Shapes.{first}
use Rattle.pb_typing_declarations.specs.Tables.{Table, entry_names, entry_values, entry_of}
use Rattle.pb_typing_declarations.specs.Entries.{range_shown}
use Rattle.pb_typing_declarations.specs.Reading.{AreRanges, IsRangeTable, AreEquations, IsEquationTable}
use Rattle.pb_typing_declarations.specs.Declarations.{empty_faults, range_name, equation_names}
use Rattle.pb_typing_declarations.proofs.Lookups.{first-map, first-numbered_from}
use Rattle.pb_typing_declarations.proofs.Parts.{among_right}

-- a table of entries, or a name that stands twice among them
abbrev pub IsTabled : {V : Type 0} → Result (Table V) (OrMemory TypingFault) → List (Entry V) → Type 0
IsTabled r entries =
    MatchResult r
    (λ table. (repeated (entry_names entries) ≡ []) × ((x : Name) → entry_of table x ≡ first (entry_values entries) x))
    (IsAmong (repeated (entry_names entries)))

pub ranges_tabled : (rs : List RangeForm) (entries : List (Entry Range)) (r : Result (Table Range) (OrMemory TypingFault)) → AreRanges rs entries → IsTabled r entries
    → MatchResult r (IsRangeTable rs) (IsAmong (flat_map empty_faults rs ++ repeated (map range_name rs)))
ranges_tabled rs entries (Ok table) are h = record {
  clear = are.clear;
  apart = ap repeated (sym are.names) ∙ h.0;
  bounds = λ x. ap (option_map range_shown) (h.1 x) ∙ (sym (first-map range_shown (entry_values entries) x) ∙ ap (λ es. first es x) are.values);
}
ranges_tabled rs entries (Err e) are h = among_right (flat_map empty_faults rs) _ e (subst (λ (xs : List Named). IsAmong (repeated xs) e) are.names h)

pub equations_tabled : (E : List EquationForm) (entries : List (Entry ℕ)) (r : Result (Table ℕ) (OrMemory TypingFault)) → AreEquations E entries → IsTabled r entries
    → MatchResult r (IsEquationTable E) (IsAmong (repeated (equation_names E)))
equations_tabled E entries (Ok table) are h = record {
  apart = ap repeated (sym are.names) ∙ h.0;
  places = λ x. h.1 x ∙ (ap (λ es. first es x) are.values ∙ first-numbered_from E x);
}
equations_tabled E entries (Err e) are h = subst (λ (xs : List Named). IsAmong (repeated xs) e) are.names h
