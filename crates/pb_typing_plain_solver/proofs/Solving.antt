-- The solver at one equation of a typed text: what its calls hand one another, on the lists of truths that they work with.
use Rattle.std.proofs.Common.{◌≡◌, ℕ, ◌+◌, ◌<◌, ◌∙◌, Bool, true, false, not, if◌then◌else◌, List, Some, length, drop, get_or, refl, sym, ap, subst}
use Rattle.std.specs.List.{slice_get}
use Rattle.pb_fixpoint.specs.declared.Sign.{Sign}
use Rattle.pb_fixpoint.specs.Solution as fixpoint
use Rattle.pb_fixpoint.specs.Solution.{Environment, solution}
use Rattle.pb_text_tree.specs.declared.spec.Equation as declared_equation
use Rattle.pb_text_tree.specs.Form.{equation_form}
use Rattle.pb_sorts.specs.declared.carrier.Carrier.{Carrier}
use Rattle.pb_sorts.specs.Instance.{size_of}
use Rattle.pb_sorts.specs.Layout.{carriers_of}
use Rattle.pb_text_meaning.specs.Erase.{erased_equation}
use Rattle.pb_text_meaning.specs.Formula.{Instance}
use Rattle.pb_text_meaning.specs.Meaning.{equation_of, equations_of}
use Rattle.pb_text_meaning.specs.Syntax.{Equation}
use Rattle.pb_typing.specs.declared.typed.Typed.{Typed}
use Rattle.pb_typing_values.specs.Environment.{environment_of}
use Rattle.pb_typing_plain_solver.specs.Bounds.{AreBounds}
use Rattle.pb_typing_plain_solver.specs.Side.{side_of}
use Rattle.pb_typing_plain_solver.specs.Step.{ChangesOnly, JoinsRight, TakesSet}
use Rattle.pb_typing_plain_solver.proofs.Approach.{IsApproach}
use Rattle.pb_typing_plain_solver.proofs.Owned.{equation_known}
use Rattle.pb_typing_plain_solver.proofs.Ready.{able, sign_there, text}
use Rattle.pb_typing_plain_solver.proofs.OneEquation.{begun, stepped, stopped, ended, far, fixed_bounds, fixed, equation_exists}

-- ---- lists of truths as sets of instances

abbrev pub environment : Typed → List Bool → Environment Instance
environment typed truths = environment_of (text typed) truths

-- the equations from place k on, and those behind that place
abbrev pub from_here : Typed → ℕ → List (fixpoint.Equation Instance)
from_here typed k = drop k (equations_of (text typed))

abbrev pub behind : Typed → ℕ → List (fixpoint.Equation Instance)
behind typed k = drop (k + 1) (equations_of (text typed))

-- a list bounds the sets of some equations, on a side that the sign of the equation at place k says
abbrev pub EachBounds : Typed → ℕ → (Sign → Bool) → List (fixpoint.Equation Instance) → List Bool → List Bool → Type 0
EachBounds typed k side E truths bound =
    (X : Equation) → slice_get (text typed).equations k ≡ Some X → AreBounds (side X.sign) E (environment typed truths) (environment typed bound)

abbrev pub other_side : Sign → Bool
other_side s = not (side_of s)

-- ---- bounds where the sign is known

module _ (typed : Typed) (k : ℕ) (R : declared_equation.Equation) (sign : Sign) (lt : k < length typed.layout) (there : R ≡ get_or typed.spec.equations.items k R) (is : R.sign ≡ sign) where
  to_each : (side : Sign → Bool) (E : List (fixpoint.Equation Instance)) (truths bound : List Bool)
      → AreBounds (side sign) E (environment typed truths) (environment typed bound) → EachBounds typed k side E truths bound
  to_each side E truths bound h X at =
      subst (λ (s : Sign). AreBounds (side s) E (environment typed truths) (environment typed bound)) (sym is ∙ sign_there typed k R X lt there at) h

  of_each : (side : Sign → Bool) (E : List (fixpoint.Equation Instance)) (truths bound : List Bool)
      → EachBounds typed k side E truths bound → AreBounds (side sign) E (environment typed truths) (environment typed bound)
  of_each side E truths bound h =
      subst (λ (s : Sign). AreBounds (side s) E (environment typed truths) (environment typed bound)) is
      (h (erased_equation (equation_form R)) (equation_known typed.spec typed.layout k R typed.laid_out.values lt there))

  pub to_both : (truths near far : List Bool) → AreBounds (side_of sign) (from_here typed k) (environment typed truths) (environment typed near)
      → AreBounds (not (side_of sign)) (from_here typed k) (environment typed truths) (environment typed far)
      → EachBounds typed k side_of (from_here typed k) truths near × EachBounds typed k other_side (from_here typed k) truths far
  to_both truths near far g h = (to_each side_of (from_here typed k) truths near g, to_each other_side (from_here typed k) truths far h)

  pub of_both : (truths near far : List Bool) → EachBounds typed k side_of (behind typed k) truths near → EachBounds typed k other_side (behind typed k) truths far
      → AreBounds (side_of sign) (behind typed k) (environment typed truths) (environment typed near)
      × AreBounds (not (side_of sign)) (behind typed k) (environment typed truths) (environment typed far)
  of_both truths near far g h = (of_each side_of (behind typed k) truths near g, of_each other_side (behind typed k) truths far h)

-- ---- the two bounds, in the order in which sets move

module _ {I : Type 0} (E : List (fixpoint.Equation I)) (t : Environment I) (of : List Bool → Environment I) where
  pub directed_bounds : (side : Bool) (least greatest near far : List Bool) → near ≡ (if side then least else greatest) → far ≡ (if side then greatest else least)
      → AreBounds true E t (of least) → AreBounds false E t (of greatest) → AreBounds side E t (of near) × AreBounds (not side) E t (of far)
  directed_bounds true least greatest near far e f g h = (subst (λ (u : List Bool). AreBounds true E t (of u)) (sym e) g, subst (λ (u : List Bool). AreBounds false E t (of u)) (sym f) h)
  directed_bounds false least greatest near far e f g h = (subst (λ (u : List Bool). AreBounds false E t (of u)) (sym e) h, subst (λ (u : List Bool). AreBounds true E t (of u)) (sym f) g)

  pub ordered_bounds : (side : Bool) (near far least greatest : List Bool) → least ≡ (if side then near else far) → greatest ≡ (if side then far else near)
      → AreBounds side E t (of near) → AreBounds (not side) E t (of far) → AreBounds true E t (of least) × AreBounds false E t (of greatest)
  ordered_bounds true near far least greatest e f g h = (subst (λ (u : List Bool). AreBounds true E t (of u)) (sym e) g, subst (λ (u : List Bool). AreBounds false E t (of u)) (sym f) h)
  ordered_bounds false near far least greatest e f g h = (subst (λ (u : List Bool). AreBounds true E t (of u)) (sym e) h, subst (λ (u : List Bool). AreBounds false E t (of u)) (sym f) g)

pub length-chosen : (b : Bool) (xs ys zs : List Bool) (n : ℕ) → zs ≡ (if b then xs else ys) → length xs ≡ n → length ys ≡ n → length zs ≡ n
length-chosen true xs ys zs n e x y = ap (λ (us : List Bool). length us) e ∙ x
length-chosen false xs ys zs n e x y = ap (λ (us : List Bool). length us) e ∙ y

module _ (typed : Typed) (k : ℕ) (R : declared_equation.Equation) (lt : k < length typed.layout) (there : R ≡ get_or typed.spec.equations.items k R) where
  pub each_directed : (truths least greatest near far : List Bool) → near ≡ (if side_of R.sign then least else greatest) → far ≡ (if side_of R.sign then greatest else least)
      → AreBounds true (from_here typed k) (environment typed truths) (environment typed least)
      → AreBounds false (from_here typed k) (environment typed truths) (environment typed greatest)
      → EachBounds typed k side_of (from_here typed k) truths near × EachBounds typed k other_side (from_here typed k) truths far
  each_directed truths least greatest near far e f g h =
      let p = directed_bounds (from_here typed k) (environment typed truths) (environment typed) (side_of R.sign) least greatest near far e f g h in
      to_both typed k R R.sign lt there refl truths near far p.0 p.1

  pub each_ordered : (truths near far least greatest : List Bool) → least ≡ (if side_of R.sign then near else far) → greatest ≡ (if side_of R.sign then far else near)
      → EachBounds typed k side_of (behind typed k) truths near → EachBounds typed k other_side (behind typed k) truths far
      → AreBounds true (behind typed k) (environment typed truths) (environment typed least)
      × AreBounds false (behind typed k) (environment typed truths) (environment typed greatest)
  each_ordered truths near far least greatest e f g h =
      let p = of_both typed k R R.sign lt there refl truths near far g h in
      ordered_bounds (behind typed k) (environment typed truths) (environment typed) (side_of R.sign) near far least greatest e f p.0 p.1

-- ---- a set that is taken from another list

-- the set of the equation at place k is that of `from`
pub record IsMoved (layout : List (List Carrier)) (k : ℕ) (from old new : List Bool) : Type 0 where
  pub others : ChangesOnly layout k old new
  pub taken : TakesSet layout k from new

-- it is that of both bounds
pub record IsFixed (layout : List (List Carrier)) (k : ℕ) (least greatest old new : List Bool) : Type 0 where
  pub below : k < length layout
  pub low : IsMoved layout k least old new
  pub high : IsMoved layout k greatest old new

pub fixed_at : (layout : List (List Carrier)) (k : ℕ) (least greatest old new : List Bool) → k < length layout → TakesSet layout k least greatest
    → ChangesOnly layout k old new → TakesSet layout k least new → IsFixed layout k least greatest old new
fixed_at layout k least greatest old new lt same others taken = record {
  below = lt;
  low = record { others = others; taken = taken };
  high = record { others = others; taken = λ n own. taken n own ∙ sym (same n own) };
}

module _ (typed : Typed) (k : ℕ) where
  -- the bound is one of the equations behind, too
  pub bounds_kept : (b : Bool) {from old new : List Bool} → k < length typed.layout → IsMoved typed.layout k from old new
      → AreBounds b (from_here typed k) (environment typed old) (environment typed from)
      → AreBounds b (behind typed k) (environment typed new) (environment typed from)
  bounds_kept b {from} {old} {new} lt m h =
      let X = equation_exists (text typed) typed.layout k typed.laid_out.values lt in
      fixed_bounds (text typed) typed.layout typed.laid_out.values (able typed) k X.0 X.1 old new b from m.others m.taken h

  -- and the solution of those is that from here on
  pub solution_kept : {least greatest old new : List Bool} → IsFixed typed.layout k least greatest old new
      → AreBounds true (from_here typed k) (environment typed old) (environment typed least)
      → AreBounds false (from_here typed k) (environment typed old) (environment typed greatest) → (done : List Bool)
      → environment typed done ≡ solution (behind typed k) (environment typed new)
      → environment typed done ≡ solution (from_here typed k) (environment typed old)
  solution_kept {least} {greatest} {old} {new} f g h done e =
      let X = equation_exists (text typed) typed.layout k typed.laid_out.values f.below in
      fixed (text typed) typed.layout typed.laid_out.values (able typed) k X.0 X.1 old least greatest new done f.low.others f.low.taken f.high.taken g h e

-- ---- the steps

-- the set has been approached in n steps, and what is kept bounds the sets behind it
pub record IsUnderway (typed : Typed) (k : ℕ) (start : List Bool) (n : ℕ) (truths kept : List Bool) : Type 0 where
  pub approach : (X : Equation) → slice_get (text typed).equations k ≡ Some X
      → IsApproach (equation_of (text typed) X) (behind typed k) (environment typed start) n (environment typed truths)
  pub bounds : EachBounds typed k side_of (behind typed k) truths kept

-- the sets behind are solved, and the set is joined with what its right side gives then
pub record IsStep (typed : Typed) (k : ℕ) (cur below next : List Bool) : Type 0 where
  pub solved : environment typed below ≡ solution (behind typed k) (environment typed cur)
  pub others : ChangesOnly typed.layout k cur next
  pub joins : (X : Equation) → slice_get (text typed).equations k ≡ Some X → JoinsRight (text typed) typed.layout k X below cur next

module _ (typed : Typed) (k : ℕ) where
  pub begins_at : {near start new : List Bool} (kept : List Bool) → IsMoved typed.layout k near start new → kept ≡ near
      → EachBounds typed k side_of (from_here typed k) start near → IsUnderway typed k start 0 new kept
  begins_at {near} {start} {new} kept m same h =
      let first =
      λ (X : Equation) (at : slice_get (text typed).equations k ≡ Some X).
      begun (text typed) typed.layout typed.laid_out.values (able typed) k X at start near new m.others m.taken (h X at) in
      record {
        approach = λ X at. (first X at).0;
        bounds = λ X at. subst (λ (u : List Bool). AreBounds (side_of X.sign) (behind typed k) (environment typed new) (environment typed u)) (sym same) (first X at).1;
      }

  module _ {start cur kept : List Bool} {n : ℕ} (u : IsUnderway typed k start n cur kept) where
    pub goes_on : {below next : List Bool} → IsStep typed k cur below next → IsUnderway typed k start (n + 1) next below
    goes_on {below} {next} s =
        let step =
        λ (X : Equation) (at : slice_get (text typed).equations k ≡ Some X).
        stepped (text typed) typed.layout typed.laid_out.values (able typed) k X at (environment typed start) n cur below next (u.approach X at) s.solved s.others (s.joins X at) in
        record {
          approach = λ X at. (step X at).0;
          bounds = λ X at. (step X at).1;
        }

    pub stops_at : {below next : List Bool} → k < length typed.layout → IsStep typed k cur below next → TakesSet typed.layout k cur next
        → environment typed below ≡ solution (from_here typed k) (environment typed start)
    stops_at {below} {next} lt s same =
        let X = equation_exists (text typed) typed.layout k typed.laid_out.values lt in
        stopped (text typed) typed.layout typed.laid_out.values (able typed) k X.0 X.1 (environment typed start) n cur below next (u.approach X.0 X.1) s.solved (s.joins X.0 X.1) same

    pub ends_at : (done : List Bool) → k < length typed.layout → n ≡ size_of (carriers_of typed.layout) k → environment typed done ≡ solution (behind typed k) (environment typed cur)
        → environment typed done ≡ solution (from_here typed k) (environment typed start)
    ends_at done lt all solved =
        let X = equation_exists (text typed) typed.layout k typed.laid_out.values lt in
        ended (text typed) typed.layout typed.laid_out.values (able typed) k X.0 X.1 (environment typed start) n cur done all (u.approach X.0 X.1) solved

    -- both bounds of the sets behind, in lists that are handed on
    pub bounds_behind : (truths near other : List Bool) → truths ≡ cur → near ≡ kept → EachBounds typed k other_side (from_here typed k) start other
        → EachBounds typed k side_of (behind typed k) truths near × EachBounds typed k other_side (behind typed k) truths other
    bounds_behind truths near other same same_near h = (
      (λ X at. subst (λ (v : List Bool). AreBounds (side_of X.sign) (behind typed k) (environment typed v) (environment typed near)) (sym same)
          (subst (λ (v : List Bool). AreBounds (side_of X.sign) (behind typed k) (environment typed cur) (environment typed v)) (sym same_near) (u.bounds X at))),
      λ X at. subst (λ (v : List Bool). AreBounds (other_side X.sign) (behind typed k) (environment typed v) (environment typed other)) (sym same)
          (far (text typed) typed.layout typed.laid_out.values (able typed) k X at (environment typed start) n cur (environment typed other) (u.approach X at) (h X at)),
    )

    -- the same in the order of the sets
    pub handed_on : (R : declared_equation.Equation) → k < length typed.layout → R ≡ get_or typed.spec.equations.items k R
        → (least greatest far truths near low high : List Bool) → far ≡ (if side_of R.sign then greatest else least)
        → AreBounds true (from_here typed k) (environment typed start) (environment typed least)
        → AreBounds false (from_here typed k) (environment typed start) (environment typed greatest)
        → truths ≡ cur → near ≡ kept → low ≡ (if side_of R.sign then near else far) → high ≡ (if side_of R.sign then far else near)
        → AreBounds true (behind typed k) (environment typed truths) (environment typed low)
        × AreBounds false (behind typed k) (environment typed truths) (environment typed high)
    handed_on R lt there least greatest far truths near low high e g h same same_near f f' =
        let b = each_directed typed k R lt there start least greatest (if side_of R.sign then least else greatest) far refl e g h in
        let p = bounds_behind truths near far same same_near b.1 in
        each_ordered typed k R lt there truths near far low high f f' p.0 p.1
