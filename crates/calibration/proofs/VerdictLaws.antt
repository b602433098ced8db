-- What the verdicts take of the residuals, and the outcomes branch by branch.
use Rattle.std.specs.Prelude.{◌≡◌, Bool, true, false, List, ℕ, zero, suc, ◌-◌, ◌*◌, ◌≤◌, ◌<◌, leb, ℤ, pos, nat_abs, ◌*ℤ◌, length, ◌≤ℤ◌, ◌<ℤ◌}
use Rattle.std.proofs.Common.{sym, ap, subst, arith, mul-le-mul}
use Rattle.std.proofs.lemmas.Bool.{false≢true}
use Rattle.std.proofs.Math.Dec.{T}
use Rattle.std.proofs.lemmas.List.{length-map}
use Rattle.charts.specs.Tests.{answers_and, answers_le}
use Rattle.charts.specs.Integers.{abs_diff, le_le_z, lt_le_z}
use Rattle.calibration.specs.Calibration.{far_of, some_beyond, residual_of, deviations_of, q_of, residuals_of, top_of, k_of, varied_of, count_fits_of, refused_fit, line_fits_of, flat_of, divisor_of, slope_of, slope_ranged_of, intercept_of, fit_from_of, sums_of, fit_of}
use Rattle.calibration.specs.Annual.{annual_count_fits_of, annual_k_of, annual_varied_of, function_holds_of, refused_test, test_of}
use Rattle.calibration.specs.InCode.{dispersion_of}
use Rattle.calibration.proofs.DispersionLaws.{q_not_negative}
use Rattle.calibration.proofs.SizeLaws.{product_size}
use Rattle.calibration.proofs.ResidualLaws.{residuals_ranged}
use Rattle.calibration.specs.declared.line.Line.{Line}
use Rattle.calibration.specs.declared.pairs.Pair.{Pair}
use Rattle.calibration.specs.declared.pairs.Requirements.{Requirements}
use Rattle.calibration.specs.declared.residuals.Residuals.{Residuals}
use Rattle.calibration.specs.declared.conditions.Standard.{Standard}
use Rattle.calibration.specs.declared.regression.Sums.{Sums}

-- ---- Q from the sums of the residuals of n pairs
pub record Dispersed (n : ℕ) (r : Residuals) (q : ℤ) : Type 0 where
  pub is : dispersion_of n r ≡ q
  pub above : pos 0 ≤ℤ dispersion_of n r
  pub sum : nat_abs r.sum ≤ 600000000
  pub squares : nat_abs r.squares ≤ 12000000000000000
  pub size : nat_abs q ≤ 720000000000000000
  pub most : far_of r.most ≡ false

module _ (edition : ℕ) (o : ℤ) (l : Line) (ps : List Pair) (n : ℕ) (C : length ps ≡ n) (P : 0 < n) (N : n ≤ 30) (B : some_beyond edition o l ps ≡ false) where
  dispersion_is : dispersion_of n (residuals_of edition o l ps) ≡ q_of (deviations_of edition o l ps)
  unfolding q_of residuals_of
  dispersion_is = rw (length-map ps (residual_of edition o l), C)

  here : Dispersed n (residuals_of edition o l ps) (q_of (deviations_of edition o l ps))
  here =
      let r = residuals_of edition o l ps in
      let R = residuals_ranged edition o l ps (omega arith) B in
      let s : nat_abs r.sum ≤ 600000000 = omega (arith, R.sum) in
      let t : nat_abs r.squares ≤ 12000000000000000 = omega (arith, R.squares) in
      record {
        is = dispersion_is;
        above = rw dispersion_is (q_not_negative (deviations_of edition o l ps));
        sum = s;
        squares = t;
        size = omega (arith, ap nat_abs dispersion_is, abs_diff (pos n *ℤ r.squares) (r.sum *ℤ r.sum), product_size {m = 30} (pos n) r.squares N t, product_size r.sum r.sum s s);
        most = R.most;
      }

  pub residuals_dispersed : {r : Residuals} → r ≡ residuals_of edition o l ps → Dispersed n r (q_of (deviations_of edition o l ps))
  residuals_dispersed e = subst (λ (r : Residuals). Dispersed n r (q_of (deviations_of edition o l ps))) (sym e) here

pub pairs_of_pairs : (n : ℕ) → n ≤ 30 → n * (n - 1) ≤ 870
pairs_of_pairs n h = mul-le-mul {n₂ = 30} {m₂ = 29} h (omega arith)

-- ---- the calibration
module _ (edition : ℕ) (q : Requirements) (ps : List Pair) (l : Line) where
  pub line_beyond : some_beyond edition q.oxygen l ps ≡ true → line_fits_of edition q ps l ≡ refused_fit 24
  unfolding line_fits_of
  line_beyond h = rw h

  pub line_stands : (n d σ : ℕ) → some_beyond edition q.oxygen l ps ≡ false → length ps ≡ n → pos d ≡ q_of (deviations_of edition q.oxygen l ps) → q.uncertainty ≡ pos σ
      → (passed : Bool) → passed ≡ leb (100000000 * d) (n * (n - 1) * (σ * σ) * (k_of n * k_of n))
      → (top : Standard) → top ≡ top_of edition q.limit (residuals_of edition q.oxygen l ps).most
      → record { refusal = 0; passed = passed; line = l; top = top; count = n } ≡ line_fits_of edition q ps l
  unfolding line_fits_of varied_of residuals_of
  line_stands n d σ B C D S passed P top T = rw (P, T, B, C, ← D, S)

module _ (edition : ℕ) (q : Requirements) (z : ℤ) (ps : List Pair) (u : Sums) where
  -- the divisor and the slope, by the branch that the y' choose
  abbrev pub divisor_by : ℤ
  divisor_by = divisor_of (flat_of edition q ps) u z

  abbrev pub slope_by : ℤ
  slope_by = slope_of edition (flat_of edition q ps) u z

  pub no_divisor : divisor_by ≤ℤ pos 0 → fit_from_of edition q z ps u ≡ refused_fit 22
  unfolding fit_from_of
  no_divisor h = rw (le_le_z h)

  pub no_slope : pos 0 <ℤ divisor_by → slope_ranged_of slope_by ≡ false → fit_from_of edition q z ps u ≡ refused_fit 23
  unfolding fit_from_of
  no_slope h k = rw (lt_le_z h, k)

  pub a_line : pos 0 <ℤ divisor_by → slope_ranged_of slope_by ≡ true → fit_from_of edition q z ps u ≡ line_fits_of edition q ps (record { slope = slope_by; intercept = intercept_of edition (flat_of edition q ps) u z slope_by })
  unfolding fit_from_of
  a_line h k = rw (lt_le_z h, k)

module _ (edition : ℕ) (q : Requirements) (z : ℤ) (ps : List Pair) where
  pub count_unfit : count_fits_of (length ps) ≡ false → fit_of edition q z ps ≡ refused_fit 20
  unfolding fit_of
  count_unfit h = rw h

  pub count_fit : count_fits_of (length ps) ≡ true → fit_of edition q z ps ≡ fit_from_of edition q z ps (sums_of ps)
  unfolding fit_of
  count_fit h = rw h

pub count_above : (n : ℕ) → count_fits_of n ≡ true → 0 < n
unfolding count_fits_of
count_above zero h = absurd (false≢true h)
count_above (suc n) h = omega arith

-- ---- the annual test
module _ (edition : ℕ) (q : Requirements) (l : Line) (ps : List Pair) where
  pub test_unfit : annual_count_fits_of (length ps) ≡ false → test_of edition q l ps ≡ refused_test 20
  unfolding test_of
  test_unfit h = rw h

  pub test_beyond : annual_count_fits_of (length ps) ≡ true → some_beyond edition q.oxygen l ps ≡ true → test_of edition q l ps ≡ refused_test 24
  unfolding test_of
  test_beyond h k = rw (h, k)

  pub test_stands : (n d σ : ℕ) → annual_count_fits_of n ≡ true → some_beyond edition q.oxygen l ps ≡ false → length ps ≡ n → pos d ≡ q_of (deviations_of edition q.oxygen l ps) → q.uncertainty ≡ pos σ
      → (variability : Bool) → variability ≡ leb (400000000 * d) (9 * (n * (n - 1)) * (σ * σ) * (annual_k_of n * annual_k_of n))
      → (function : Bool) → function ≡ function_holds_of n (residuals_of edition q.oxygen l ps).sum (pos d) (pos σ)
      → record { refusal = 0; variability = variability; function = function } ≡ test_of edition q l ps
  unfolding test_of annual_varied_of residuals_of
  test_stands n d σ F B C D S variability P function Q = rw (P, Q, C, F, B, ← D, S)

pub annual_count : (n : ℕ) → annual_count_fits_of n ≡ true → (5 ≤ n) × (n ≤ 8)
unfolding annual_count_fits_of
annual_count n h = (answers_and (answers_le 5 n) (answers_le n 8)).sure (subst T (sym h) tt)
