-- Paper 01, 'Calibration (6.4, 6.5)', from the sums over the pairs to the verdict, and paper 02, C-12. Every formula
-- is over ℤ, as printed; whatever rounds has the edition as its first argument.
use Rattle.std.specs.Prelude.{Bool, true, false, not, ◌&&◌, ◌||◌, List, [], ◌∷◌, map, ℕ, ◌+◌, ◌-◌, ◌*◌, leb, eqb, ℤ}
use Rattle.std.specs.Prelude.{pos, neg_ℤ, ◌+ℤ◌, ◌-ℤ◌, ◌*ℤ◌, length, if◌then◌else◌}
use Rattle.std.specs.Int.Signed.{le_z, lt_z}
use Rattle.charts.specs.Rounding.{near_of}
use Rattle.calibration.specs.Pairs.{Between, between_of}
use Rattle.calibration.specs.Conditions.{standard_of}
use Rattle.calibration.specs.declared.conditions.Actual.{Actual}
use Rattle.calibration.specs.declared.conditions.Standard.{Standard}
use Rattle.calibration.specs.declared.conditions.Conditions.{Conditions}
use Rattle.calibration.specs.declared.pairs.Pair.{Pair}
use Rattle.calibration.specs.declared.pairs.Requirements.{Requirements}
use Rattle.calibration.specs.declared.line.Line.{Line}
use Rattle.calibration.specs.declared.regression.Sums.{Sums}
use Rattle.calibration.specs.declared.regression.Span.{Span}
use Rattle.calibration.specs.declared.residuals.Residuals.{Residuals}
pub use Rattle.calibration.specs.Outcomes.{Fitted, refused_fit}

-- ---- sums over a list of pairs, oldest first

-- Σ f
abbrev pub ∑ {ℓ} : {A : Type ℓ} → (A → ℤ) → List A → ℤ
∑ f [] = pos 0
∑ f (p ∷ ps) = f p +ℤ ∑ f ps

abbrev pub x_of : Pair → ℤ
x_of p = p.signal

abbrev pub y_of : Pair → ℤ
y_of p = p.srm.0

-- N, Σx, Σy, Σxy, Σx²: x the signal and y the SRM value, both as measured
unfoldable pub sums_of : List Pair → Sums
sums_of ps = record {
  n = length ps;
  x = ∑ x_of ps;
  y = ∑ y_of ps;
  xy = ∑ (λ (p : Pair). x_of p *ℤ y_of p) ps;
  xx = ∑ (λ (p : Pair). x_of p *ℤ x_of p) ps;
}

-- the sums with one pair more
unfoldable pub plus_of : Sums → Pair → Sums
plus_of u p = record {
  n = u.n + 1;
  x = u.x +ℤ x_of p;
  y = u.y +ℤ y_of p;
  xy = u.xy +ℤ x_of p *ℤ y_of p;
  xx = u.xx +ℤ x_of p *ℤ x_of p;
}

-- ---- the branch for the slope

-- y', a pair's SRM value in standard conditions
abbrev pub measured_of : ℕ → ℤ → Pair → Standard
measured_of edition reference p = standard_of edition reference p.conditions p.srm

-- the lower and the higher of two
unfoldable pub lower_of : Standard → Standard → Standard
lower_of a b = if lt_z b.0 a.0 then b else a

unfoldable pub higher_of : Standard → Standard → Standard
higher_of a b = if lt_z a.0 b.0 then b else a

-- a span that takes in one value more
unfoldable pub widened_of : Span → Standard → Span
widened_of s v = record { low = lower_of s.low v; high = higher_of s.high v }

abbrev pub span_from : Span → List Standard → Span
span_from s [] = s
span_from s (v ∷ vs) = span_from (widened_of s v) vs

-- the least and the greatest of a list that is not empty
unfoldable pub span_of : List Standard → Span
span_of [] = record { low = record { 0 = pos 0 }; high = record { 0 = pos 0 } }
span_of (v ∷ vs) = span_from (record { low = v; high = v }) vs

-- the y' differ by less than 15 % of the limit E: 100(max y' - min y') < 15E
unfoldable pub flat_of : ℕ → Requirements → List Pair → Bool
flat_of edition q ps =
    let s : Span = span_of (map (measured_of edition q.oxygen) ps) in
    lt_z (pos 100 *ℤ (s.high.0 -ℤ s.low.0)) (pos 15 *ℤ q.limit)

-- ---- the function: B is near(100000·m/d), with m and d by the branch, then A from the rounded B

-- Σy, or NΣxy - ΣxΣy
unfoldable pub rise_of : Bool → Sums → ℤ
rise_of true u = u.y
rise_of false u = pos u.n *ℤ u.xy -ℤ u.x *ℤ u.y

-- Σx - N·Z, or NΣx² - (Σx)²
unfoldable pub divisor_of : Bool → Sums → ℤ → ℤ
divisor_of true u z = u.x -ℤ pos u.n *ℤ z
divisor_of false u z = pos u.n *ℤ u.xx -ℤ u.x *ℤ u.x

abbrev pub slope_of : ℕ → Bool → Sums → ℤ → ℤ
slope_of edition flat u z = near_of edition (pos 100000 *ℤ rise_of flat u) (divisor_of flat u z)

-- -B·Z, or near((100000Σy - BΣx)/N)
unfoldable pub intercept_of : ℕ → Bool → Sums → ℤ → ℤ → ℤ
intercept_of edition true u z b = neg_ℤ (b *ℤ z)
intercept_of edition false u z b = near_of edition (pos 100000 *ℤ u.y -ℤ b *ℤ u.x) (pos u.n)

-- the slopes that are not refused
abbrev pub slope_ranged_of : ℤ → Bool
slope_ranged_of b = between_of (pos 1) (pos 1000000) b

-- ---- calibrated values

-- near((A + Bx)/100000), in analyser conditions
unfoldable pub calibrated_of : ℕ → Line → ℤ → Actual
calibrated_of edition l x = record { 0 = near_of edition (l.intercept +ℤ l.slope *ℤ x) (pos 100000) }

-- the same brought to standard conditions
abbrev pub value_of : ℕ → ℤ → Line → Conditions → ℤ → Standard
value_of edition reference l k x = standard_of edition reference k (calibrated_of edition l x)

-- c, a pair's calibrated value in standard conditions
abbrev pub c_of : ℕ → ℤ → Line → Pair → Standard
c_of edition reference l p = value_of edition reference l p.conditions (x_of p)

-- beyond ±10,000,000
abbrev pub far_of : Standard → Bool
far_of v = not (between_of (neg_ℤ (pos 10000000)) (pos 10000000) v.0)

-- a pair whose y' or c is beyond ±10,000,000, and a list that has one
unfoldable pub beyond_of : ℕ → ℤ → Line → Pair → Bool
beyond_of edition reference l p = far_of (measured_of edition reference p) || far_of (c_of edition reference l p)

abbrev pub some_beyond : ℕ → ℤ → Line → List Pair → Bool
some_beyond edition reference l [] = false
some_beyond edition reference l (p ∷ ps) = beyond_of edition reference l p || some_beyond edition reference l ps

-- D = y' - c
abbrev pub residual_of : ℕ → ℤ → Line → Pair → ℤ
residual_of edition reference l p = (measured_of edition reference p).0 -ℤ (c_of edition reference l p).0

-- the D's of a list of pairs
abbrev pub deviations_of : ℕ → ℤ → Line → List Pair → List ℤ
deviations_of edition reference l ps = map (residual_of edition reference l) ps

-- near(percent·v/100)
abbrev pub share_of : ℕ → ℤ → ℤ → Standard
share_of edition percent v = record { 0 = near_of edition (percent *ℤ v) (pos 100) }

-- near(110·max c/100); in edition 2 the higher of it and near(20·E/100) (paper 02, C-12)
unfoldable pub top_of : ℕ → ℤ → Standard → Standard
top_of edition limit most =
    if eqb edition 2 then higher_of (share_of edition (pos 110) most.0) (share_of edition (pos 20) limit)
    else share_of edition (pos 110) most.0

-- ΣD and ΣD²
abbrev pub deviations_total : List ℤ → ℤ
deviations_total ds = ∑ (λ (d : ℤ). d) ds

abbrev pub deviations_squared : List ℤ → ℤ
deviations_squared ds = ∑ (λ (d : ℤ). d *ℤ d) ds

-- Q = NΣD² - (ΣD)²
unfoldable pub q_of : List ℤ → ℤ
q_of ds = pos (length ds) *ℤ deviations_squared ds -ℤ deviations_total ds *ℤ deviations_total ds

-- max c, ΣD, ΣD²
unfoldable pub residuals_of : ℕ → ℤ → Line → List Pair → Residuals
residuals_of edition reference l ps = record {
  most = (span_of (map (c_of edition reference l) ps)).high;
  sum = deviations_total (deviations_of edition reference l ps);
  squares = deviations_squared (deviations_of edition reference l ps);
}

-- ---- the verdict

-- the counts that a calibration may have
unfoldable pub count_fits_of : ℕ → Bool
count_fits_of n = leb 15 n && leb n 20 || (eqb n 25 || eqb n 30)

unfoldable pub k_of : ℕ → ℕ
k_of n =
    if eqb n 15 then 9761
    else (if eqb n 16 then 9777
    else (if eqb n 17 then 9791
    else (if eqb n 18 then 9803
    else (if eqb n 19 then 9814
    else (if eqb n 20 then 9824
    else (if eqb n 25 then 9861
    else (if eqb n 30 then 9885
    else 0)))))))

-- 10⁸·Q ≤ N(N-1)σ²k²
unfoldable pub varied_of : ℕ → ℤ → ℤ → Bool
varied_of n q σ = le_z (pos 100000000 *ℤ q) (pos (n * (n - 1)) *ℤ (σ *ℤ σ) *ℤ pos (k_of n * k_of n))

-- ---- the outcome: refusals 20, 22, 23 and 24 in this order, or the figures and the verdict

-- the function stands: 24, or the verdict
unfoldable pub line_fits_of : ℕ → Requirements → List Pair → Line → Fitted
line_fits_of edition q ps l =
    if some_beyond edition q.oxygen l ps then refused_fit 24
    else record {
      refusal = 0;
      passed = varied_of (length ps) (q_of (deviations_of edition q.oxygen l ps)) q.uncertainty;
      line = l;
      top = top_of edition q.limit (span_of (map (c_of edition q.oxygen l) ps)).high;
      count = length ps;
    }

-- from the sums on: 22, 23, then the function
unfoldable pub fit_from_of : ℕ → Requirements → ℤ → List Pair → Sums → Fitted
fit_from_of edition q z ps u =
    let flat : Bool = flat_of edition q ps in
    let b : ℤ = slope_of edition flat u z in
    if le_z (divisor_of flat u z) (pos 0) then refused_fit 22
    else (if not (slope_ranged_of b) then refused_fit 23
    else line_fits_of edition q ps (record { slope = b; intercept = intercept_of edition flat u z b }))

unfoldable pub fit_of : ℕ → Requirements → ℤ → List Pair → Fitted
fit_of edition q z ps =
    if not (count_fits_of (length ps)) then refused_fit 20
    else fit_from_of edition q z ps (sums_of ps)

-- ---- the range of a function: it holds every one that a fit gives

pub record LineRanged (l : Line) : Type 0 where
  pub slope : Between (pos 1) (pos 1000000) l.slope
  pub intercept : Between (neg_ℤ (pos 400000000000)) (pos 400000000000) l.intercept

unfoldable pub line_ranged_of : Line → Bool
line_ranged_of l =
    between_of (pos 1) (pos 1000000) l.slope
    && between_of (neg_ℤ (pos 400000000000)) (pos 400000000000) l.intercept
