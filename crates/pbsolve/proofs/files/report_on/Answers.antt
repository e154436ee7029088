-- One more file is answered.
use Rattle.std.proofs.Common.{◌≡◌, ◌∙◌, ◌+◌, ◌++◌, ◌∷◌, Bool, [], ap, drop, map, refl, rules, string_bytes, subst, sym}
use Rattle.std.proofs.lemmas.List.{append-nil, append_assoc, at_drop_all}
use Rattle.std.proofs.lemmas.List.Elements.{All-cons, All-nil}
use Rattle.pb_sorts.proofs.Places.{drop-at}
use Rattle.pbsolve.specs.Endings.{LeavesFiles, outcome_form}
use Rattle.pbsolve.specs.Files.{IsFileOutcome, is_lost, known_files, names_of}
use Rattle.pbsolve.proofs.FileOutcomes.{left_alone, left_twice, outcome_stays, outcomes_stay, worse_lost}
use Rattle.pbsolve.proofs.files.report_on.Goals as goal

pub loop-name-init : goal.loop-name-init
loop-name-init g c = record {
  read = (
    [],
    search rules,
    All-nil (IsFileOutcome c.args.request.now (known_files g.F.NamedFiles c.args.files.now c.args.files.now)),
    record { end = refl; written = search rules; diagnostics = search rules },
  );
  left = left_alone g.F.NamedFiles c.args.files.now;
}

pub loop-name-preserved : goal.loop-name-preserved
loop-name-preserved g c =
    let shelf = g.F.NamedFiles in
    let request = c.args.request.now in
    let read = c.loop-name.invariant.read in
    let left = c.loop-name.invariant.left in
    let before = c.args.files.now in
    let mid = c.loop-name.files in
    let after = c.report_of.new.files in
    let ended = c.in_ok-one.ensures in
    let k = c.loop-name.name-index in
    let names = c.files-names.result.now in
    let name = c.as_str-name.result.now in
    let next = outcome_form name c.in_ok-one.one in
    let rest = map string_bytes (drop (k + 1) names) in
    let named : string_bytes c.name-item.result ≡ name = search rules in
    record {
      read = (
        next ∷ read.0,
        append_assoc (names_of read.0) (name ∷ []) rest
            ∙ (ap (λ n. names_of read.0 ++ n ∷ rest) (sym named)
            ∙ (ap (λ ns. names_of read.0 ++ map string_bytes ns) (sym (drop-at names k c.name-item.result c.loop-name-test.true c.name-item.is)) ∙ read.1)),
        All-cons (IsFileOutcome request (known_files shelf before after)) next read.0
            (outcome_stays request (known_files shelf mid after) (known_files shelf before after) (λ n. sym (left.same n)) (λ n failed. failed) next ended.outcome)
            (outcomes_stay request (known_files shelf before mid) (known_files shelf before after) (λ n. refl) ended.left.lasts read.0 read.2),
        search rules,
      );
      left = subst (λ (b : Bool). LeavesFiles b shelf before after)
          (sym (ap is_lost (search rules) ∙ worse_lost c.loop-name.report.status c.in_ok-one.one.status))
          (left_twice shelf before mid after (is_lost c.loop-name.report.status) (is_lost c.in_ok-one.one.status) left ended.left);
    }

pub returns-clause-answers : goal.returns-clause-answers
returns-clause-answers g c =
    let read = c.loop-name.invariant.read in (
      read.0,
      sym (append-nil (names_of read.0)) ∙ (sym (at_drop_all (λ ns. names_of read.0 ++ map string_bytes ns) c.files-names.result.now c.loop-name.name-index (search rules)) ∙ read.1),
      read.2,
      read.3.end,
      read.3.diagnostics,
      read.3.written,
    )
