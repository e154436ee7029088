-- Ranges that follow one another are one range, and its first flaw is that of the first of them that has one.
use Rattle.std.proofs.Common.{◌≡◌, ℕ, ◌≤◌, Option, Some, None, inl, inr, subst, arith}
use Rattle.std.proofs.lemmas.Bool.{cases_lt}
use Rattle.std.specs.Option.{option_or}
use Rattle.pb_game.specs.declared.Game.{Game}
use Rattle.pb_game.specs.declared.certificate.Solution.{Solution}
use Rattle.pb_game.specs.declared.certificate.Flaw.{Flaw}
use Rattle.pb_game.specs.Solutions.{HasLengths}
use Rattle.pb_game.specs.Games.{vertex_count}
use Rattle.pb_strategy.specs.declared.range.Range.{Range}
use Rattle.pb_strategy.specs.Ranges.{AreCertified, IsFirstOfRange, IsPartOf, IsWhole, IsFlawOfRange, IsFlawOf}
use Rattle.pb_strategy.proofs.Flaws.{no_flaw}

-- the flaw of a range, by what the range consists of
abbrev Found : Game → Solution → ℕ → ℕ → Option Flaw → Type 0
Found g s from to None = AreCertified g s from to
Found g s from to (Some flaw) = IsFirstOfRange g s from to flaw.vertex flaw.rule

found_of : (range : Range) (found : Option Flaw) → IsFlawOfRange range found → Found range.game.now range.solution.now range.from range.to found
found_of range None h = h
found_of range (Some flaw) h = h

of_found : (range : Range) (found : Option Flaw) → Found range.game.now range.solution.now range.from range.to found → IsFlawOfRange range found
of_found range None h = h
of_found range (Some flaw) h = h

module _ (g : Game) (s : Solution) (from middle to : ℕ) where
  together : (last : ℕ) → AreCertified g s from middle → AreCertified g s middle last → AreCertified g s from last
  together last low high v a b = elim (cases_lt v middle) [ inl l ↦ low v a l | inr m ↦ high v m b ]

  halves : from ≤ middle → middle ≤ to → (first second : Option Flaw) → Found g s from middle first → Found g s middle to second → Found g s from to (option_or first second)
  halves a b (Some flaw) second low high =
      let inside = low.inside in
      record { inside = (inside.0, omega (arith, inside.1, b)); fails = low.fails; before = low.before }
  halves a b None (Some flaw) low high =
      let inside = high.inside in
      record { inside = (omega (arith, inside.0, a), inside.1); fails = high.fails; before = together flaw.vertex low high.before }
  halves a b None None low high = together to low high

-- what is found in both parts of a range
part_found : (whole part : Range) (first last : ℕ) → IsPartOf whole part first last → (found : Option Flaw) → IsFlawOfRange part found →
    Found whole.game.now whole.solution.now first last found
part_found whole part first last is found h =
    subst (λ n. Found whole.game.now whole.solution.now first n found) is.to
    (subst (λ n. Found whole.game.now whole.solution.now n part.to found) is.from
    (subst (λ s. Found whole.game.now s part.from part.to found) is.same.solution
    (subst (λ g. Found g part.solution.now part.from part.to found) is.same.game (found_of part found h))))

pub parts_found : (whole low high : Range) (middle : ℕ) → IsPartOf whole low whole.from middle → IsPartOf whole high middle whole.to →
    (first second : Option Flaw) → IsFlawOfRange low first → IsFlawOfRange high second → IsFlawOfRange whole (option_or first second)
parts_found whole low high middle l h first second f s =
    let a : whole.from ≤ middle = omega (arith, low.rising, l.from, l.to) in
    let b : middle ≤ whole.to = omega (arith, high.rising, h.from, h.to) in
    of_found whole (option_or first second)
    (halves whole.game.now whole.solution.now whole.from middle whole.to a b first second (part_found whole low whole.from middle l first f) (part_found whole high middle whole.to h second s))

-- what is found among all vertices
all_found : (g : Game) (s : Solution) (from : ℕ) → HasLengths g s → from ≡ 0 → (found : Option Flaw) → Found g s from (vertex_count g) found → IsFlawOf g s found
all_found g s from lengths none None all = record { lengths = lengths; vertices = λ v l. all v (omega (arith, none)) l }
all_found g s from lengths none (Some flaw) first = record {
  first = record {
    fails = first.fails.fails;
    first_rule = first.fails.first_rule;
    first_vertex = λ u other below. no_flaw g s u lengths (first.before u (omega (arith, none)) below) other;
  };
  none = λ certificate. no_flaw g s flaw.vertex lengths (certificate.vertices flaw.vertex first.inside.1) flaw.rule first.fails.fails;
}

pub whole_found : (g : Game) (s : Solution) (range : Range) → IsWhole g s range → (found : Option Flaw) → IsFlawOfRange range found → IsFlawOf g s found
whole_found g s range is found h =
    all_found g s range.from
    (subst (λ t. HasLengths g t) is.same.solution (subst (λ x. HasLengths x range.solution.now) is.same.game range.lengths))
    is.from found
    (subst (λ n. Found g s range.from n found) is.to
    (subst (λ t. Found g t range.from range.to found) is.same.solution
    (subst (λ x. Found x range.solution.now range.from range.to found) is.same.game (found_of range found h))))
