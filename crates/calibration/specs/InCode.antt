-- What the code works with beside the definitions of paper 01, and the range in which its arithmetic fits: its
-- contracts cite these. That it comes to the same as the formulas is proved (proofs/SlopeLaws, DividedLaws,
-- ResidualLaws).
use Rattle.std.specs.Prelude.{ℕ, ◌*◌, ◌≤◌, ℤ, pos, Option, Some, None, ◌+ℤ◌, ◌-ℤ◌, ◌*ℤ◌, if◌then◌else◌}
use Rattle.charts.specs.Rounding.{near_of}
use Rattle.calibration.specs.Pairs.{Between}
use Rattle.calibration.specs.Calibration.{slope_ranged_of, higher_of}
use Rattle.calibration.specs.declared.conditions.Standard.{Standard}
use Rattle.calibration.specs.declared.regression.Sums.{Sums}
use Rattle.calibration.specs.declared.residuals.Residuals.{Residuals}

-- what at most thirty pairs in range sum to
pub record SumsRanged (u : Sums) : Type 0 where
  pub n : u.n ≤ 30
  pub x : Between (pos 0) (pos (400000 * u.n)) u.x
  pub y : Between (pos 0) (pos (400000 * u.n)) u.y
  pub xy : Between (pos 0) (pos (160000000000 * u.n)) u.xy
  pub xx : Between (pos 0) (pos (160000000000 * u.n)) u.xx

-- B where it is in its range
unfoldable pub slope_code : ℕ → ℤ → ℤ → Option ℤ
slope_code edition rise divisor =
    let b : ℤ = near_of edition (pos 100000 *ℤ rise) divisor in
    if slope_ranged_of b then Some b else None

-- one pair more in the residuals
unfoldable pub with_residual_of : Residuals → Standard → Standard → Residuals
with_residual_of r y c = record {
  most = higher_of r.most c;
  sum = r.sum +ℤ (y.0 -ℤ c.0);
  squares = r.squares +ℤ (y.0 -ℤ c.0) *ℤ (y.0 -ℤ c.0);
}

-- NΣD² - (ΣD)², from the sums
abbrev pub dispersion_of : ℕ → Residuals → ℤ
dispersion_of n r = pos n *ℤ r.squares -ℤ r.sum *ℤ r.sum
