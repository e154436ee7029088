use Rattle.std.proofs.Common.{◌+◌, List, [], drop, rules, sym, ap, ◌∙◌, arith}
use Rattle.std.specs.Prelude.{Option}
use Rattle.std.proofs.lemmas.List.{drop_all}
use Rattle.pb_text_meaning.specs.Syntax.{Name}
use Rattle.pb_typing_declarations.specs.declared.fault.TypingRule.TheVariants.{NameTwice}
use Rattle.pb_base.specs.declared.or_memory.OrMemory.TheVariants.{Refused}
use Rattle.pb_typing_declarations.specs.Faults.{unless, repeated, IsAmong}
use Rattle.pb_typing_declarations.specs.Shapes.{first}
use Rattle.pb_typing_declarations.specs.Tables.{entry_names, entry_values, entry_of}
use Rattle.pb_typing_declarations.proofs.Parts.{among_first, first_clear, holds_unless}
use Rattle.pb_typing_declarations.proofs.Filling.{Seen, seen_repeated, repeated_after-seen, has, or_first, faults_next, values-drop, none_in, none_has, put_in, has-put, first_put, or_none, absent, is_new}
use Rattle.pb_typing_declarations.proofs.table.table.Goals as goal

pub loop-entry-init : goal.loop-entry-init
loop-entry-init g c =
    let E = c.args.entries.now in
    record {
      left = repeated_after-seen [] (entry_names E) ∙ ap (λ (seen : Seen). seen_repeated seen (entry_names E)) (sym (none_has c.new-table.result c.new-table.ensures.empty));
      found = λ x. ap (λ (look : Name → Option _). or_first (look x) (first (entry_values E) x)) (sym (none_in c.new-table.result c.new-table.ensures.empty));
    }

pub returns-in_err-require : goal.returns-in_err-require
returns-in_err-require g c =
    let l = c.loop-entry in
    let x = c.entry-item in
    let e = Refused c.in_err-require.field-0.0 in
    let test = is_new c.is_none.result c.in_ok-earlier.earlier (entry_of l.table x.result.name.now) c.is_none.ensures c.in_ok-earlier.ensures.old in
    let h : IsAmong (repeated (entry_names c.args.entries.now)) e =
    among_first _ (unless c.is_none.result NameTwice x.result.place) _ e
    (l.invariant.left ∙ faults_next l.table c.args.entries.now l.entry-index x.result c.is_none.result c.loop-entry-test.true x.is test) c.in_err-require.ensures in
    search rules

pub loop-entry-preserved : goal.loop-entry-preserved
loop-entry-preserved g c =
    let E = c.args.entries.now in
    let old = c.loop-entry.table in
    let new = c.insert.new.self in
    let e = c.entry-item.result in
    let k = c.loop-entry.entry-index in
    let put = put_in old new e.name e.value c.in_ok-earlier.ensures.updates in
    let test = is_new c.is_none.result c.in_ok-earlier.earlier (entry_of old e.name.now) c.is_none.ensures c.in_ok-earlier.ensures.old in
    let none = absent (entry_of old e.name.now) (sym test ∙ holds_unless _ _ _ c.in_ok-require.ensures) in
    record {
      left =
          first_clear _ _ _ (c.loop-entry.invariant.left ∙ faults_next old E k e c.is_none.result c.loop-entry-test.true c.entry-item.is test) c.in_ok-require.ensures
          ∙ ap (λ (seen : Seen). seen_repeated seen (entry_names (drop (k + 1) E))) (sym (has-put old new e.name e.value put));
      found = λ x.
          c.loop-entry.invariant.found x
          ∙ (ap (λ (es : List _). or_first (entry_of old x) (first es x)) (values-drop E k e c.loop-entry-test.true c.entry-item.is)
          ∙ (first_put (entry_of old) e.name.now x e.value (first (entry_values (drop (k + 1) E)) x) none
          ∙ ap (λ (look : Name → Option _). or_first (look x) (first (entry_values (drop (k + 1) E)) x)) (sym put)));
    }

pub returns : goal.returns
returns g c =
    let E = c.args.entries.now in
    let end = drop_all c.loop-entry.entry-index E (omega (arith, c.loop-entry-test.false)) in (
      c.loop-entry.invariant.left ∙ ap (λ es. seen_repeated (has c.loop-entry.table) (entry_names es)) end,
      λ x. sym (c.loop-entry.invariant.found x ∙ (ap (λ es. or_first (entry_of c.loop-entry.table x) (first (entry_values es) x)) end ∙ or_none (entry_of c.loop-entry.table x))),
    )
