-- The tests of both verdicts as the code makes them, where a product passes 64 bits.
use Rattle.std.specs.Prelude.{◌≡◌, true, ℕ, ◌+◌, ◌-◌, ◌*◌, ◌/◌, ◌%◌, ◌≤◌, ◌<◌, leb, ℤ, nat_abs, ◌-ℤ◌}
use Rattle.std.proofs.Common.{sym, ap, ◌∙◌, arith, le-div_iff_mul-le, div-add-mod'}
use borrow.Author.Tests.{lt-leb}
use Rattle.std.proofs.Math.IntN.{pos}
use Rattle.charts.specs.Tests.{same_answer, answers_as, answers_le}
use Rattle.charts.specs.Integers.{diff, ud_eq, ud_le, le_le_z}
use Rattle.calibration.specs.Annual.{function_holds_of, t_of}

-- ---- tests whose products pass 64 bits

-- s·q ≤ r is q ≤ r/s
pub divided : (s q r : ℕ) → 0 < s → leb q (r / s) ≡ leb (s * q) r
divided s q r h =
    let i = le-div_iff_mul-le {k = s} {x = q} {y = r} h in
    same_answer (answers_as (answers_le q (r / s)) (λ k. let m = i.0 k in omega arith) (λ k. i.1 (omega arith))) (answers_le (s * q) r)

-- a·10⁶ ≤ t·q, with q split at 10⁶
pub split_million : (a t q : ℕ) → leb a (t * (q / 1000000) + t * (q % 1000000) / 1000000) ≡ leb (a * 1000000) (t * q)
split_million a t q =
    let e : t * q ≡ t * (q / 1000000) * 1000000 + t * (q % 1000000) = ap (λ (n : ℕ). t * n) (sym (div-add-mod' q 1000000)) ∙ omega arith in
    same_answer (answers_as (answers_le a (t * (q / 1000000) + t * (q % 1000000) / 1000000)) (λ k. omega arith) (λ k. omega arith)) (answers_le (a * 1000000) (t * q))

-- ---- the function test, unsigned: the excess of |ΣD| over Nσ
module _ (n : ℕ) (sum : ℤ) (q σ : ℕ) where
  pub function_under : nat_abs sum ≤ n * σ → function_holds_of n sum (pos q) (pos σ) ≡ true
  unfolding function_holds_of
  function_under h =
      let l = pos (nat_abs sum) -ℤ pos (n * σ) in
      rw (le_le_z {a = l} {b = pos 0} (ud_le (omega (arith, diff (pos (nat_abs sum)) (pos (n * σ))))))

  pub function_over : n * σ < nat_abs sum
      → function_holds_of n sum (pos q) (pos σ) ≡ leb ((n - 1) * ((nat_abs sum - n * σ) * (nat_abs sum - n * σ)) * 1000000) (t_of n * t_of n * q)
  unfolding function_holds_of
  function_over h =
      let e : pos (nat_abs sum) -ℤ pos (n * σ) ≡ pos (nat_abs sum - n * σ) = ud_eq (omega (arith, diff (pos (nat_abs sum)) (pos (n * σ)))) in
      rw (e, lt-leb (nat_abs sum - n * σ) 0 (omega arith))
