-- What the tests of a record say of its fields.
use Rattle.std.specs.Prelude.{◌≡◌, Bool, true, ◌&&◌, ◌≤◌, T, eqb, drop, pos, neg_ℤ, nat_abs}
use Rattle.std.proofs.Common.{arith}
use Rattle.charts.specs.Tests.{Answers, answers_and, answers_le}
pub use Rattle.charts.specs.Tests.{holds}
use Rattle.charts.specs.Integers.{diff, le_ud, ud_le}
use Rattle.charts.specs.ChartSoundness.{DifferenceRanged}
use Rattle.calibration.specs.Pairs.{Between, between_answers, ConditionsRanged, conditions_answers, PairRanged, pair_answers, RequirementsRanged, requirements_answers, ZRanged, z_ranged_of}
use Rattle.calibration.proofs.RangeLaws.{between_abs, between_size}
use Rattle.records.specs.Bytes.{byte_at, all_zero_of}
use Rattle.records.specs.Record.{Record, kind, mark, field_of, mark_limit, fields_end, plain_of, formed_of, requirements_of, difference_of, length_of, coverage_of, pair_of, z_of, signal_of, value_conditions, setting_ranged_of, reading_ranged_of, waiting_ranged_of, value_ranged_of, ranged_of}

-- ---- the fields of a kind in their ranges

pub record SettingFields (r : Record) : Type 0 where
  pub requirements : RequirementsRanged (requirements_of r)
  pub zero : Between (pos 1) (pos 10000) (field_of r 16)
  pub span : Between (pos 1) (pos 10000) (field_of r 20)
  pub response : Between (pos 0) (pos 60) (field_of r 28)

pub setting_fields : (r : Record) → setting_ranged_of r ≡ true → SettingFields r
unfolding setting_ranged_of
setting_fields r h =
    let p = holds
    (answers_and (requirements_answers (requirements_of r))
    (answers_and (between_answers (pos 1) (pos 10000) (field_of r 16))
    (answers_and (between_answers (pos 1) (pos 10000) (field_of r 20))
    (between_answers (pos 0) (pos 60) (field_of r 28))))) h in
    record { requirements = p.0; zero = p.1.0; span = p.1.1.0; response = p.1.1.1 }

pub record ReadingFields (r : Record) : Type 0 where
  pub reading : nat_abs (field_of r 8) ≤ 400000
  pub reference : Between (pos 0) (pos 400000) (field_of r 12)
  pub difference : DifferenceRanged (difference_of r)

pub reading_fields : (r : Record) → reading_ranged_of r ≡ true → ReadingFields r
unfolding reading_ranged_of difference_of
reading_fields r h =
    let p = holds
    (answers_and (between_answers (neg_ℤ (pos 400000)) (pos 400000) (field_of r 8))
    (between_answers (pos 0) (pos 400000) (field_of r 12))) h in
    let d = diff (field_of r 8) (field_of r 12) in
    let low = le_ud p.0.low in
    let high = le_ud p.0.high in
    let least = le_ud p.1.low in
    let most = le_ud p.1.high in
    record {
      reading = between_abs p.0;
      reference = p.1;
      difference = record { low = ud_le (omega arith); high = ud_le (omega arith) };
    }

pub record WaitingFields (r : Record) : Type 0 where
  pub length : Between (pos 30) (pos 1440) (field_of r 8)
  pub least : 30 ≤ length_of r
  pub most : length_of r ≤ 1440
  pub coverage : Between (pos 0) (pos 100) (coverage_of r)
  pub pair : PairRanged (pair_of r)

pub waiting_fields : (r : Record) → waiting_ranged_of r ≡ true → WaitingFields r
unfolding waiting_ranged_of length_of coverage_of
waiting_fields r h =
    let p = holds
    (answers_and (between_answers (pos 30) (pos 1440) (field_of r 8))
    (answers_and (between_answers (pos 0) (pos 100) (field_of r 12)) (pair_answers (pair_of r)))) h in
    record { length = p.0; least = (between_size p.0).0; most = (between_size p.0).1; coverage = p.1.0; pair = p.1.1 }

pub record ValueFields (r : Record) : Type 0 where
  pub signal : Between (pos 0) (pos 400000) (signal_of r)
  pub conditions : ConditionsRanged (value_conditions r)

pub value_fields : (r : Record) → value_ranged_of r ≡ true → ValueFields r
unfolding value_ranged_of
value_fields r h =
    let p = holds
    (answers_and (between_answers (pos 0) (pos 400000) (signal_of r)) (conditions_answers (value_conditions r))) h in
    record { signal = p.0; conditions = p.1 }

pub z_field : (r : Record) → z_ranged_of (z_of r) ≡ true → ZRanged (z_of r)
z_field r h = holds (between_answers (neg_ℤ (pos 10000)) (pos 10000) (z_of r)) h

-- ---- a record of a kind, in its ranges, passes that kind's test

module _ (r : Record) (h : ranged_of r ≡ true) where
  pub setting_ranged_lem : kind r ≡ 1 → setting_ranged_of r ≡ true
  unfolding ranged_of
  setting_ranged_lem k = rw k at h

  pub reading_ranged_lem : kind r ≡ 2 → reading_ranged_of r ≡ true
  unfolding ranged_of
  reading_ranged_lem k = rw k at h

  pub waiting_ranged_lem : kind r ≡ 4 → waiting_ranged_of r ≡ true
  unfolding ranged_of
  waiting_ranged_lem k = rw k at h

  pub z_ranged : kind r ≡ 5 → z_ranged_of (z_of r) ≡ true
  unfolding ranged_of
  z_ranged k = rw k at h

  pub value_ranged_lem : kind r ≡ 7 → value_ranged_of r ≡ true
  unfolding ranged_of
  value_ranged_lem k = rw k at h

-- ---- kind and mark

pub record FormedFields (r : Record) : Type 0 where
  pub least : 1 ≤ kind r
  pub most : kind r ≤ 8
  pub mark : mark r ≤ mark_limit (kind r)

pub formed_fields : (r : Record) → formed_of r ≡ true → FormedFields r
unfolding formed_of plain_of
formed_fields r h =
    let p = holds
    (answers_and (answers_and (answers_le 1 (kind r)) (answers_le (kind r) 8))
    (answers_and (answers_and (answers_le (mark r) (mark_limit (kind r))) (answers_itself (eqb (byte_at r 2) 0)))
    (answers_itself (eqb (byte_at r 3) 0 && all_zero_of (drop (fields_end (kind r)) r))))) h in
    record { least = p.0.0; most = p.0.1; mark = p.1.0.0 }
  where
    answers_itself : (b : Bool) → Answers b (T b)
    answers_itself b = record { sure = λ t. t; back = λ t. t }
