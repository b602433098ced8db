-- A fit that is not refused gives a function in range.
use Rattle.std.specs.Prelude.{◌≡◌, not, List, ℕ, ◌≤◌, ◌<◌, ℤ, pos, length}
use Rattle.std.proofs.Common.{arith}
use Rattle.std.proofs.Math.Facts.{T_not-not}
use Rattle.std.specs.Int.Signed.{le_z}
use Rattle.charts.specs.Tests.{if_all, is_true}
use Rattle.calibration.specs.Pairs.{between_answers, AllRanged, RequirementsRanged, ZRanged}
use Rattle.calibration.specs.Calibration.{LineRanged, count_fits_of, divisor_of, fit_from_of, fit_of, flat_of, intercept_of, line_fits_of, refused_fit, slope_of, slope_ranged_of, some_beyond, sums_of}
use Rattle.calibration.proofs.SumLaws.{sums_ranged}
use Rattle.calibration.proofs.SizeLaws.{line_ranged}
use Rattle.calibration.proofs.VerdictLaws.{count_above}
use Rattle.calibration.specs.declared.pairs.Pair.{Pair}
use Rattle.calibration.specs.declared.pairs.Requirements.{Requirements}
use Rattle.calibration.specs.declared.line.Line.{Line}
use Rattle.calibration.specs.Outcomes.{Fitted}

-- not refused, and then with a function in range
abbrev Ranges : Fitted → Type 0
Ranges c = c.refusal ≡ 0 → LineRanged c.line

refused_ranges : (n : ℕ) → 0 < n → Ranges (refused_fit n)
refused_ranges n l e = absurd (omega arith)

counted : (ps : List Pair) → 0 < length ps → 0 < (sums_of ps).n
unfolding sums_of
counted ps h = h

module _ (edition : ℕ) (q : Requirements) (z : ℤ) (ps : List Pair) where
  line_fits_ranges : (l : Line) → LineRanged l → Ranges (line_fits_of edition q ps l)
  unfolding line_fits_of
  line_fits_ranges l L = if_all Ranges (some_beyond edition q.oxygen l ps) _ _ (λ t. refused_ranges 24 (omega arith)) (λ t e. L)

  module _ (Z : ZRanged z) (all : AllRanged ps) (few : length ps ≤ 30) (some : 0 < length ps) where
    from_ranges : Ranges (fit_from_of edition q z ps (sums_of ps))
    unfolding fit_from_of
    from_ranges =
        let flat = flat_of edition q ps in
        let b = slope_of edition flat (sums_of ps) z in
        if_all Ranges (le_z (divisor_of flat (sums_of ps) z) (pos 0)) _ _ (λ t. refused_ranges 22 (omega arith))
        (λ t. if_all Ranges (not (slope_ranged_of b)) _ _ (λ u. refused_ranges 23 (omega arith))
        (λ u. line_fits_ranges (record { slope = b; intercept = intercept_of edition flat (sums_of ps) z b })
        (line_ranged edition (sums_ranged ps all few) (counted ps some) Z ((between_answers (pos 1) (pos 1000000) b).sure (T_not-not (slope_ranged_of b) u)) flat)))

pub fitted_ranged : (edition : ℕ) (q : Requirements) (z : ℤ) (ps : List Pair) → RequirementsRanged q → ZRanged z → AllRanged ps → length ps ≤ 30
    → (fit_of edition q z ps).refusal ≡ 0 → LineRanged (fit_of edition q z ps).line
unfolding fit_of
fitted_ranged edition q z ps Q Z all few =
    if_all Ranges (not (count_fits_of (length ps))) _ _ (λ t. refused_ranges 20 (omega arith))
    (λ t. from_ranges edition q z ps Z all few (count_above (length ps) (is_true (count_fits_of (length ps)) (T_not-not (count_fits_of (length ps)) t))))
