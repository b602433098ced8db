-- `charts::Chart::apply` meets its contract.
use Rattle.std.proofs.Common.{rules, ◌≡◌, sym, ap, ◌∙◌, ◌+◌, ◌*◌, ◌≤◌, ℕ, arith, mul-le-mul, to_z-of_z, SFits, w32}
use Rattle.std.specs.Prelude.{ℤ, pos, ◌+ℤ◌, ◌-ℤ◌}
use Rattle.std.specs.Int.{abs_diff}
use mir.Val.{to_z, of_z}
use Rattle.charts.specs.Charts.{applied_of, rising_term, falling_term, precision_term}
use Rattle.charts.specs.CodeLaws.{rising_code, falling_code, precision_code}
use Rattle.charts.specs.ChartSoundness.{DifferenceRanged, ChartSound, SumWithin, most_rising, most_falling}
use Rattle.charts.specs.ChartSoundnessLaws.{added_within, rising_most, falling_most}
use Rattle.charts.specs.Sums.{added}
use Rattle.charts.specs.declared.Chart.{Chart}
use Rattle.charts.specs.declared.Sum.{Sum}
use Rattle.charts.proofs.Chart.apply.Goals as goal

-- a difference, raised
raised-is : {z : ℤ} {r : ℕ} → SFits w32 z → pos r ≡ to_z w32 (of_z w32 z) +ℤ pos 800000 → pos r ≡ z +ℤ pos 800000
raised-is F R = R ∙ ap (λ (z : ℤ). z +ℤ pos 800000) (to_z-of_z {w = w32} F)

step_small : {x y step : ℕ} → step ≡ abs_diff x y → x ≤ 1200000 → y ≤ 1200000 → step * step ≤ 1200000 * 1200000
step_small {x} {y} {step} e h k =
    let s : step ≤ 1200000 = omega arith in
    mul-le-mul {n₂ = 1200000} {m₂ = 1200000} s s

-- the three sums are those of the definition
module _ (self : Chart) (s x : ℕ) (d : ℤ) (X : pos x ≡ d +ℤ pos 800000) {r : Sum} where
  rising-is : r ≡ added self.rising (pos (1000 * x) -ℤ pos (800000000 + 501 * s)) → r ≡ added self.rising (rising_term s d)
  rising-is e = e ∙ ap (added self.rising) (sym (rising_code s 800000 x d X))

  falling-is : r ≡ added self.falling (pos 800000000 -ℤ pos (1000 * x + 501 * s)) → r ≡ added self.falling (falling_term s d)
  falling-is e = e ∙ ap (added self.falling) (sym (falling_code s 800000 x d X))

  precision-is : {y step : ℕ} → pos y ≡ self.last +ℤ pos 800000 → step ≡ abs_diff x y → r ≡ added self.precision (pos (10 * (step * step)) -ℤ pos (37 * (s * s))) → r ≡ added self.precision (precision_term s (d -ℤ self.last))
  precision-is {y} Y S e =
      e ∙ ap (λ (n : ℕ). added self.precision (pos (10 * (n * n)) -ℤ pos (37 * (s * s)))) S
      ∙ ap (added self.precision) (sym (precision_code s 800000 x d X y self.last Y))

  -- and they stay within their bounds, as the adjustments ask
  rising-within : ChartSound self → DifferenceRanged d → r ≡ added self.rising (rising_term s d) → SumWithin most_rising (self.readings + 1) r
  rising-within S D e = rw e (added_within most_rising self.readings self.rising (rising_term s d) (rising_most s D) S.rising)

  falling-within : ChartSound self → DifferenceRanged d → r ≡ added self.falling (falling_term s d) → SumWithin most_falling (self.readings + 1) r
  falling-within S D e = rw e (added_within most_falling self.readings self.falling (falling_term s d) (falling_most s D) S.falling)

pub overflow_mul-step-2 : goal.overflow_mul-step-2
overflow_mul-step-2 c = omega (arith, step_small c.abs_diff-step.ensures c.raised-x.ensures.1 c.raised.ensures.1)

pub add-precision-requires : goal.add-precision-requires
add-precision-requires c =
    let p = c.requires.0.precision in
    let k = step_small c.abs_diff-step.ensures c.raised-x.ensures.1 c.raised.ensures.1 in
    (omega (arith, p.counted, p.bounded, c.requires.1), omega (arith, p.counted, c.requires.1), omega (arith, k))

pub adjustment-requires : goal.adjustment-requires
adjustment-requires c =
    let a = c.args in
    let x = raised-is c.ranges.d c.raised-x.ensures.0 in
    let w = rising-within a.self a.s c.raised-x.result a.d x c.requires.0 c.requires.2 (rising-is a.self a.s c.raised-x.result a.d x (rw c.from-q.ensures at c.add-rising.ensures)) in
    (omega (arith, w.counted, c.requires.1), omega (arith, w.bounded))

pub adjustment-requires-2 : goal.adjustment-requires-2
adjustment-requires-2 c =
    let a = c.args in
    let x = raised-is c.ranges.d c.raised-x.ensures.0 in
    let w = falling-within a.self a.s c.raised-x.result a.d x c.requires.0 c.requires.2 (falling-is a.self a.s c.raised-x.result a.d x (rw c.from-q.ensures at c.add-falling.ensures)) in
    (omega (arith, w.counted, c.requires.1), omega (arith, w.bounded))

pub returns : goal.returns
unfolding applied_of
returns c =
    let a = c.args in
    let x = raised-is c.ranges.d c.raised-x.ensures.0 in
    let F : SFits w32 a.self.last = search rules in
    let y = raised-is F c.raised.ensures.0 in
    let p = rising-is a.self a.s c.raised-x.result a.d x (rw c.from-q.ensures at c.add-rising.ensures) in
    let m = falling-is a.self a.s c.raised-x.result a.d x (rw c.from-q.ensures at c.add-falling.ensures) in
    let v = precision-is a.self a.s c.raised-x.result a.d x y c.abs_diff-step.ensures (rw c.from-q.ensures at c.add-precision.ensures) in
    simp (c.adjustment-2.ensures, c.adjustment.ensures, p, m, v, to_z-of_z {w = w32} c.ranges.d)
