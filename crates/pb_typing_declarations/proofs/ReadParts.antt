-- The faults that are found as names are gathered, and those that are found by the tables, part by part.
use Rattle.std.proofs.Common.{◌≡◌, ◌++◌, ℕ, List, [], map}
use Rattle.std.specs.Prelude.{flat_map}
use Rattle.pb_base.specs.declared.limits.TheConstants.{MAX_EQUATIONS}
use Rattle.pb_text_tree.specs.Form.{SpecForm}
use Rattle.pb_text_meaning.specs.Erase.{erase}
use Rattle.pb_typing_declarations.specs.declared.fault.TypingFault.{TypingFault}
use Rattle.pb_base.specs.declared.or_memory.OrMemory.{OrMemory}
use Rattle.pb_typing_declarations.specs.Faults.{repeated, IsAmong}
use Rattle.pb_typing_declarations.specs.Declarations.{structs_faults, empty_faults, names_of_enumerator, all_enumerator_forms, sort_names, range_name, equation_names, tables_faults, checks_faults, declaration_faults, sort_faults, range_faults, limit_faults, equations_faults_behind}
use Rattle.pb_typing_declarations.proofs.Parts.{among_left, among_right, among_parts, no_whole, no_parts}

module _ (t : SpecForm) where
  abbrev pub structs : List TypingFault
  structs = structs_faults 0 t.sorts

  abbrev pub empty : List TypingFault
  empty = flat_map empty_faults t.ranges

  abbrev pub data_twice : List TypingFault
  data_twice = repeated (flat_map names_of_enumerator (all_enumerator_forms t.sorts))

  abbrev pub sorts_twice : List TypingFault
  sorts_twice = repeated (sort_names t.sorts)

  abbrev pub ranges_twice : List TypingFault
  ranges_twice = repeated (map range_name t.ranges)

  abbrev pub equations_twice : List TypingFault
  equations_twice = repeated (equation_names t.equations)

  in_structs : (e : OrMemory TypingFault) → IsAmong structs e → IsAmong (tables_faults t) e
  in_structs e h = among_left structs _ e h

  in_empty : (e : OrMemory TypingFault) → IsAmong empty e → IsAmong (tables_faults t) e
  in_empty e h = among_right structs _ e (among_left empty _ e h)

  in_data_twice : (e : OrMemory TypingFault) → IsAmong data_twice e → IsAmong (tables_faults t) e
  in_data_twice e h = among_right structs _ e (among_right empty _ e (among_left data_twice _ e h))

  in_sorts_twice : (e : OrMemory TypingFault) → IsAmong sorts_twice e → IsAmong (tables_faults t) e
  in_sorts_twice e h = among_right structs _ e (among_right empty _ e (among_right data_twice _ e (among_left sorts_twice _ e h)))

  in_ranges_twice : (e : OrMemory TypingFault) → IsAmong ranges_twice e → IsAmong (tables_faults t) e
  in_ranges_twice e h = among_right structs _ e (among_right empty _ e (among_right data_twice _ e (among_right sorts_twice _ e (among_left ranges_twice _ e h))))

  pub in_definitions : (e : OrMemory TypingFault) → IsAmong (structs ++ (data_twice ++ sorts_twice)) e → IsAmong (tables_faults t) e
  in_definitions = among_parts structs _ _ in_structs (among_parts data_twice sorts_twice _ in_data_twice in_sorts_twice)

  pub in_range_lines : (e : OrMemory TypingFault) → IsAmong (empty ++ ranges_twice) e → IsAmong (tables_faults t) e
  in_range_lines = among_parts empty ranges_twice _ in_empty in_ranges_twice

  pub in_equations_twice : (e : OrMemory TypingFault) → IsAmong equations_twice e → IsAmong (tables_faults t) e
  in_equations_twice e h = among_right structs _ e (among_right empty _ e (among_right data_twice _ e (among_right sorts_twice _ e (among_right ranges_twice _ e h))))

  pub tables_clear : structs ≡ [] → empty ≡ [] → data_twice ≡ [] → sorts_twice ≡ [] → ranges_twice ≡ [] → equations_twice ≡ [] → tables_faults t ≡ []
  tables_clear a b c d e f = no_whole structs _ a (no_whole empty _ b (no_whole data_twice _ c (no_whole sorts_twice _ d (no_whole ranges_twice _ e f))))

  -- ---- what is found by the tables

  abbrev pub sorts : List TypingFault
  sorts = flat_map (sort_faults (erase t)) t.sorts

  abbrev pub ranges : List TypingFault
  ranges = flat_map (range_faults (erase t)) t.ranges

  abbrev pub too_many : List TypingFault
  too_many = limit_faults MAX_EQUATIONS (equation_names t.equations)

  abbrev pub equations : (limit : ℕ) → List TypingFault
  equations limit = equations_faults_behind limit (erase t) 0 t.equations

  pub in_sorts : (limit : ℕ) (e : OrMemory TypingFault) → IsAmong sorts e → IsAmong (checks_faults limit t) e
  in_sorts limit e h = among_left sorts _ e h

  pub in_ranges : (limit : ℕ) (e : OrMemory TypingFault) → IsAmong ranges e → IsAmong (checks_faults limit t) e
  in_ranges limit e h = among_right sorts _ e (among_left ranges _ e h)

  pub in_too_many : (limit : ℕ) (e : OrMemory TypingFault) → IsAmong too_many e → IsAmong (checks_faults limit t) e
  in_too_many limit e h = among_right sorts _ e (among_right ranges _ e (among_left too_many _ e h))

  pub in_equations : (limit : ℕ) (e : OrMemory TypingFault) → IsAmong (equations limit) e → IsAmong (checks_faults limit t) e
  in_equations limit e h = among_right sorts _ e (among_right ranges _ e (among_right too_many _ e h))

  pub checks_clear : (limit : ℕ) → sorts ≡ [] → ranges ≡ [] → too_many ≡ [] → equations limit ≡ [] → checks_faults limit t ≡ []
  checks_clear limit a b c d = no_whole sorts _ a (no_whole ranges _ b (no_whole too_many _ c d))

  -- ---- where there is no fault

  pub few_clear : (limit : ℕ) → declaration_faults limit t ≡ [] → too_many ≡ []
  few_clear limit e =
      let checks = (no_parts (tables_faults t) (checks_faults limit t) e).1 in
      let behind = (no_parts sorts _ checks).1 in
      (no_parts too_many _ (no_parts ranges _ behind).1).0
