use Rattle.std.proofs.Common.{◌≡◌, length, ap, ◌∙◌, arith}
use Rattle.std.specs.Prelude.{slice_get}
use Rattle.pb_instances.specs.Rule.{mark_of}
use Rattle.pb_instances.specs.Seats.{module_of_table, workers_of, view_of_seat}
use Rattle.pb_instances.proofs.Seating.{fresh_low, get_last}
use Rattle.test_modules.proofs.alone.work_branded.Goals as goal

pub work-rows-requires : goal.work-rows-requires
work-rows-requires g c =
    let t = c.in_ok-table.table in let items = c.in-Some.ensures.items in let front = c.pop.new.self.items in let seat = c.in-Some.seat in
    let fresh = c.in_ok-table.ensures.seats (length front) seat (ap (λ l. slice_get l (length front)) items ∙ get_last front seat) in (
      fresh.0,
      λ m two.
          let low = fresh_low (module_of_table t) (length front) (workers_of t) m in
          let e : mark_of (view_of_seat seat) m ≡ _ = ap (λ v. mark_of v m) fresh.1 in
          absurd (omega arith),
    )
