-- What the ranges say of sizes, and of the machine's numbers.
use Rattle.std.specs.Prelude.{◌≡◌, ℕ, ◌^◌, ◌≤◌, ◌<◌, max, T, ltb, List, length, get_or, ℤ, pos, neg_ℤ, nat_abs, ◌≤ℤ◌}
use Rattle.std.proofs.Common.{sym, ap, arith, ltb→lt}
use Rattle.std.specs.Int.{Width, w32, w64}
use mir.Val.{SFits, to_z, of_z, hbits}
use Rattle.std.proofs.Math.Facts.{sfits_widen}
use Rattle.charts.specs.Tests.{Answers, answers_and, answers_as}
use Rattle.charts.specs.Integers.{one_zero, abs_ud, le_ud, ud_le, ud_eq, abs_sfits}
use Rattle.charts.specs.ListLaws.{member_at}
use Rattle.charts.specs.SignedLocals.{Loc, arg, cast}
use Rattle.charts.proofs.CastLaws.{unsigned}
use Rattle.calibration.specs.Pairs.{Between, between_answers, AllRanged, PairRanged, RequirementsRanged}
use Rattle.calibration.specs.Calibration.{LineRanged, line_ranged_of}
use Rattle.calibration.specs.declared.line.Line.{Line}
use Rattle.calibration.specs.declared.pairs.Pair.{Pair}
use Rattle.calibration.specs.declared.pairs.Requirements.{Requirements}

-- ---- a number between two others

-- in size it is at most the larger of the two
pub between_abs : {a b z : ℤ} → Between a b z → nat_abs z ≤ max (nat_abs a) (nat_abs b)
between_abs {a} {b} {z} B = omega (arith, le_ud B.low, le_ud B.high, abs_ud a, abs_ud b, abs_ud z, one_zero z)

-- between two literals that fit: `between_fits tt B`
pub between_fits : {w : Width} {a b z : ℤ} → T (ltb (max (nat_abs a) (nat_abs b)) (2 ^ hbits w)) → Between a b z → SFits w z
between_fits {w} {a} {b} t B = abs_sfits (omega (arith, between_abs B, ltb→lt (max (nat_abs a) (nat_abs b)) (2 ^ hbits w) t))

-- between two that are not negative, so is its size; it is not negative, and its size is itself
pub between_size : {a b : ℕ} {z : ℤ} → Between (pos a) (pos b) z → (a ≤ nat_abs z) × (nat_abs z ≤ b)
between_size {z} B =
    let low = le_ud B.low in
    let high = le_ud B.high in
    let e = abs_ud z in
    let o = one_zero z in
    (omega arith, omega arith)

pub between_above : {a b : ℕ} {z : ℤ} → Between (pos a) (pos b) z → pos 0 ≤ℤ z
between_above B = ud_le (omega (arith, le_ud B.low))

pub between_pos : {a b : ℕ} {z : ℤ} → Between (pos a) (pos b) z → z ≡ pos (nat_abs z)
between_pos {z} B = ud_eq (omega (arith, le_ud B.low, abs_ud z, one_zero z))

-- ---- the range of a function, as a test
pub line_answers : (l : Line) → Answers (line_ranged_of l) (LineRanged l)
unfolding line_ranged_of
line_answers l =
    answers_as (answers_and (between_answers (pos 1) (pos 1000000) l.slope) (between_answers (neg_ℤ (pos 400000000000)) (pos 400000000000) l.intercept))
    (λ p. record { slope = p.0; intercept = p.1 })
    (λ r. (r.slope, r.intercept))

-- ---- each pair of a list in range
-- what is read past a list's end
abbrev pub unset : Pair
unset = record {
  signal = pos 0;
  srm = record { 0 = pos 0 };
  conditions = record { temperature = pos 0; pressure = pos 0; water = pos 0; oxygen = pos 0 };
}

pub ranged_at : (ps : List Pair) (i : ℕ) → i < length ps → AllRanged ps → PairRanged (get_or ps i unset)
ranged_at ps i h P = member_at AllRanged PairRanged (λ p ps r. r) ps i unset h P

-- ---- an i32 as i64
abbrev pub wide : (z : ℤ) → SFits w32 z → Loc w64
wide z f = cast w64 (arg z f) (sfits_widen tt f)

-- ---- σ as u32
module _ {q : Requirements} (Q : RequirementsRanged q) {x : ℕ} (e : x ≡ of_z w32 (to_z w32 (of_z w32 q.uncertainty))) where
  pub sigma_taken : q.uncertainty ≡ pos x
  sigma_taken = sym (unsigned (arg {w = w32} q.uncertainty (between_fits tt Q.uncertainty)) (between_above Q.uncertainty) e)

  pub taken_small : x ≤ 10000
  taken_small = omega (arith, ap nat_abs sigma_taken, between_size Q.uncertainty)
