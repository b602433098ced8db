-- Paper 01, 'Cases': the eleven starred ones, jointly, as facts of the definitions in edition 1.
use Rattle.std.specs.Prelude.{◌≡◌, refl, Bool, true, false, List, ◌∷◌, ℤ, pos, ◌-ℤ◌, length, replicate, ◌<ℤ◌}
use Rattle.std.proofs.Common.{ap, arith}
use Rattle.charts.specs.Integers.{diff, le_ud, ud_lt}
use Rattle.charts.specs.Rounding.{odd, rounds_up_of, near_of}
use Rattle.charts.proofs.RoundingLaws.{near_whole}
use Rattle.charts.proofs.ChartCases.{ChartCases, chart_cases}
use Rattle.calibration.specs.Pairs.{OxygenRanged}
use Rattle.calibration.specs.Conditions.{standard_of}
use Rattle.calibration.specs.Calibration.{deviations_total, q_of, k_of, varied_of}
use Rattle.calibration.specs.Annual.{function_holds_of, t_of}

-- the verdicts on a list of D's, at the required uncertainty σ
abbrev pub varied_by : List ℤ → ℤ → Bool
varied_by ds σ = varied_of (length ds) (q_of ds) σ

abbrev pub function_held : List ℤ → ℤ → Bool
function_held ds σ = function_holds_of (length ds) (deviations_total ds) (q_of ds) σ

-- fifteen D's of which all but the first are 0, and five that are equal
abbrev pub one : ℤ → List ℤ
one d = d ∷ replicate 14 (pos 0)

abbrev pub five : ℤ → List ℤ
five d = replicate 5 d

pub record Cases : Type 0 where
  -- 1 to 6
  pub charts : ChartCases
  -- 7, whatever the reference oxygen
  pub standard : (o : ℤ) → OxygenRanged o
      → standard_of 1 o (record { temperature = pos 10000; pressure = pos 0; water = pos 1000; oxygen = o }) (record { 0 = pos 10000 }) ≡ record { 0 = pos 15179 }
  -- 8 and 9
  pub dispersed : (q_of (one (pos 3)) ≡ pos 126) × (varied_by (one (pos 3)) (pos 1) ≡ true)
  pub overdispersed : (q_of (one (pos 4)) ≡ pos 224) × (varied_by (one (pos 4)) (pos 1) ≡ false)
  -- 10 and 11
  pub covered : function_held (five (pos 700)) (pos 700) ≡ true
  pub uncovered : function_held (five (pos 701)) (pos 700) ≡ false

-- the oxygen factor is then 1
standard_is : (o : ℤ) → OxygenRanged o
    → standard_of 1 o (record { temperature = pos 10000; pressure = pos 0; water = pos 1000; oxygen = o }) (record { 0 = pos 10000 }) ≡ record { 0 = pos 15179 }
unfolding standard_of near_of rounds_up_of odd
standard_is o O =
    let d : pos 0 <ℤ (pos 2100 -ℤ o) = ud_lt (omega (arith, le_ud O.high, diff (pos 2100) o)) in
    ap (λ (z : ℤ). record { 0 = z }) (near_whole 1 (pos 15179) (pos 2100 -ℤ o) d)

pub cases : Cases
unfolding q_of varied_of k_of function_holds_of t_of
cases = record {
  charts = chart_cases;
  standard = standard_is;
  dispersed = (refl, refl);
  overdispersed = (refl, refl);
  covered = refl;
  uncovered = refl;
}
