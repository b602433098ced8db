-- The range in which a chart's arithmetic fits its fields: the code's own, with no sentence of paper 01.
-- No chart leaves it that was reset and given at most 100,000 readings with differences in range ('Charts (7.2-7.6)').
use Rattle.std.specs.Prelude.{Bool, ◌&&◌, ℕ, ◌*◌, ◌≤◌, leb, ℤ, pos, neg_ℤ, ◌≤ℤ◌}
use Rattle.std.specs.Int.Signed.{le_z}
use Rattle.charts.specs.Tests.{Answers, answers_le, answers_le_z, answers_and, answers_as}
use Rattle.charts.specs.declared.Sum.{Sum}
use Rattle.charts.specs.declared.Chart.{Chart}

-- a difference of a reading in -400,000..400,000 and a reference in 0..400,000
pub record DifferenceRanged (d : ℤ) : Type 0 where
  pub low : neg_ℤ (pos 800000) ≤ℤ d
  pub high : d ≤ℤ pos 400000

unfoldable pub difference_ranged_of : ℤ → Bool
difference_ranged_of d = le_z (neg_ℤ (pos 800000)) d && le_z d (pos 400000)

pub difference_ranged_answers : (d : ℤ) → Answers (difference_ranged_of d) (DifferenceRanged d)
unfolding difference_ranged_of
difference_ranged_answers d =
    answers_as (answers_and (answers_le_z (neg_ℤ (pos 800000)) d) (answers_le_z d (pos 400000)))
    (λ p. record { low = p.0; high = p.1 })
    (λ r. (r.low, r.high))

-- a sum of at most as many terms as there are readings, and of at most `most` for each term
pub record SumWithin (most readings : ℕ) (u : Sum) : Type 0 where
  pub counted : u.count ≤ readings
  pub bounded : u.value ≤ most * u.count

unfoldable pub within_of : ℕ → ℕ → Sum → Bool
within_of most readings u = leb u.count readings && leb u.value (most * u.count)

pub within_answers : (most readings : ℕ) (u : Sum) → Answers (within_of most readings u) (SumWithin most readings u)
unfolding within_of
within_answers most readings u =
    answers_as (answers_and (answers_le u.count readings) (answers_le u.value (most * u.count)))
    (λ p. record { counted = p.0; bounded = p.1 })
    (λ r. (r.counted, r.bounded))

-- what no term of each sum exceeds
abbrev pub most_rising : ℕ
most_rising = 400000000

abbrev pub most_falling : ℕ
most_falling = 800000000

abbrev pub most_precision : ℕ
most_precision = 14400000000000

pub record ChartSound (c : Chart) : Type 0 where
  pub readings : c.readings ≤ 100000
  pub last : DifferenceRanged c.last
  pub rising : SumWithin most_rising c.readings c.rising
  pub falling : SumWithin most_falling c.readings c.falling
  pub precision : SumWithin most_precision c.readings c.precision

-- the same as a test
unfoldable pub chart_sound_of : Chart → Bool
chart_sound_of c =
    leb c.readings 100000
    && (((difference_ranged_of c.last
    && within_of most_rising c.readings c.rising)
    && within_of most_falling c.readings c.falling)
    && within_of most_precision c.readings c.precision)

pub chart_sound_answers : (c : Chart) → Answers (chart_sound_of c) (ChartSound c)
unfolding chart_sound_of
chart_sound_answers c =
    answers_as
    (answers_and (answers_le c.readings 100000)
    (answers_and
    (answers_and (answers_and (difference_ranged_answers c.last) (within_answers most_rising c.readings c.rising))
    (within_answers most_falling c.readings c.falling))
    (within_answers most_precision c.readings c.precision)))
    (λ p. record { readings = p.0; last = p.1.0.0.0; rising = p.1.0.0.1; falling = p.1.0.1; precision = p.1.1 })
    (λ r. (r.readings, (((r.last, r.rising), r.falling), r.precision)))
