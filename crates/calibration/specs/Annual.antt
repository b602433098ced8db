-- Paper 01, 'Annual test (8.4, 8.5)', and paper 02, C-12. The definitions are those of the calibration, with the
-- function in force.
use Rattle.std.specs.Prelude.{Bool, not, ◌&&◌, ◌||◌, List, ℕ, ◌-◌, ◌*◌, leb, eqb, ℤ, pos, nat_abs, ◌-ℤ◌, ◌*ℤ◌, length}
use Rattle.std.specs.Prelude.{if◌then◌else◌}
use Rattle.std.specs.Int.Signed.{le_z}
use Rattle.calibration.specs.Calibration.{some_beyond, deviations_of, deviations_total, q_of}
use Rattle.calibration.specs.declared.pairs.Pair.{Pair}
use Rattle.calibration.specs.declared.pairs.Requirements.{Requirements}
use Rattle.calibration.specs.declared.line.Line.{Line}
pub use Rattle.calibration.specs.Outcomes.{Tested, refused_test}

-- the counts that an annual test may have
unfoldable pub annual_count_fits_of : ℕ → Bool
annual_count_fits_of n = leb 5 n && leb n 8

unfoldable pub annual_k_of : ℕ → ℕ
annual_k_of n =
    if eqb n 5 then 9161
    else (if eqb n 6 then 9329
    else (if eqb n 7 then 9441
    else (if eqb n 8 then 9521
    else 0)))

unfoldable pub t_of : ℕ → ℕ
t_of n =
    if eqb n 5 then 2132
    else (if eqb n 6 then 2015
    else (if eqb n 7 then 1943
    else (if eqb n 8 then 1895
    else 0)))

-- variability: 4·10⁸·Q ≤ 9N(N-1)σ²k²
unfoldable pub annual_varied_of : ℕ → ℤ → ℤ → Bool
annual_varied_of n q σ =
    le_z (pos 400000000 *ℤ q) (pos (9 * (n * (n - 1))) *ℤ (σ *ℤ σ) *ℤ pos (annual_k_of n * annual_k_of n))

-- function: L is what |ΣD| exceeds Nσ by; none, or one that T covers
unfoldable pub function_holds_of : ℕ → ℤ → ℤ → ℤ → Bool
function_holds_of n sum q σ =
    let l : ℤ = pos (nat_abs sum) -ℤ pos n *ℤ σ in
    le_z l (pos 0) || le_z (pos (n - 1) *ℤ (l *ℤ l) *ℤ pos 1000000) (pos (t_of n * t_of n) *ℤ q)

-- the outcome: refusals 20 and 24 in this order, or the two verdicts
unfoldable pub test_of : ℕ → Requirements → Line → List Pair → Tested
test_of edition q l ps =
    let ds : List ℤ = deviations_of edition q.oxygen l ps in
    if not (annual_count_fits_of (length ps)) then refused_test 20
    else (if some_beyond edition q.oxygen l ps then refused_test 24
    else record {
      refusal = 0;
      variability = annual_varied_of (length ps) (q_of ds) q.uncertainty;
      function = function_holds_of (length ps) (deviations_total ds) (q_of ds) q.uncertainty;
    })
