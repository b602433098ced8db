-- Paper 01, 'Records', kinds 1, 4, 5 and 7: the ranges of the figures that a calibration works with, as questions and,
-- where the code asks them, as tests.
use Rattle.std.specs.Prelude.{Bool, ◌&&◌, List, [], ◌∷◌, ℤ, pos, neg_ℤ, ◌≤ℤ◌}
use Rattle.std.specs.Int.Signed.{le_z}
use Rattle.charts.specs.Tests.{Answers, answers_le_z, answers_and, answers_as}
use Rattle.calibration.specs.declared.conditions.Conditions.{Conditions}
use Rattle.calibration.specs.declared.pairs.Pair.{Pair}
use Rattle.calibration.specs.declared.pairs.Requirements.{Requirements}

-- a ≤ z ≤ b
pub record Between (a b z : ℤ) : Type 0 where
  pub low : a ≤ℤ z
  pub high : z ≤ℤ b

abbrev pub between_of : ℤ → ℤ → ℤ → Bool
between_of a b z = le_z a z && le_z z b

pub between_answers : (a b z : ℤ) → Answers (between_of a b z) (Between a b z)
between_answers a b z =
    answers_as (answers_and (answers_le_z a z) (answers_le_z z b))
    (λ p. record { low = p.0; high = p.1 })
    (λ r. (r.low, r.high))

-- t, p, h and o
pub record ConditionsRanged (k : Conditions) : Type 0 where
  pub temperature : Between (neg_ℤ (pos 5000)) (pos 50000) k.temperature
  pub pressure : Between (neg_ℤ (pos 2000)) (pos 2000) k.pressure
  pub water : Between (pos 0) (pos 5000) k.water
  pub oxygen : Between (pos 0) (pos 1800) k.oxygen

unfoldable pub conditions_ranged_of : Conditions → Bool
conditions_ranged_of k =
    ((between_of (neg_ℤ (pos 5000)) (pos 50000) k.temperature
    && between_of (neg_ℤ (pos 2000)) (pos 2000) k.pressure)
    && between_of (pos 0) (pos 5000) k.water)
    && between_of (pos 0) (pos 1800) k.oxygen

pub conditions_answers : (k : Conditions) → Answers (conditions_ranged_of k) (ConditionsRanged k)
unfolding conditions_ranged_of
conditions_answers k =
    answers_as
    (answers_and
    (answers_and
    (answers_and (between_answers (neg_ℤ (pos 5000)) (pos 50000) k.temperature)
    (between_answers (neg_ℤ (pos 2000)) (pos 2000) k.pressure))
    (between_answers (pos 0) (pos 5000) k.water))
    (between_answers (pos 0) (pos 1800) k.oxygen))
    (λ p. record { temperature = p.0.0.0; pressure = p.0.0.1; water = p.0.1; oxygen = p.1 })
    (λ r. (((r.temperature, r.pressure), r.water), r.oxygen))

-- the reference oxygen
abbrev pub OxygenRanged : ℤ → Type 0
OxygenRanged o = Between (pos 0) (pos 1800) o

-- the signal and the SRM value, and the conditions
pub record PairRanged (p : Pair) : Type 0 where
  pub signal : Between (pos 0) (pos 400000) p.signal
  pub srm : Between (pos 0) (pos 400000) p.srm.0
  pub conditions : ConditionsRanged p.conditions

unfoldable pub pair_ranged_of : Pair → Bool
pair_ranged_of p =
    (between_of (pos 0) (pos 400000) p.signal
    && between_of (pos 0) (pos 400000) p.srm.0)
    && conditions_ranged_of p.conditions

pub pair_answers : (p : Pair) → Answers (pair_ranged_of p) (PairRanged p)
unfolding pair_ranged_of
pair_answers p =
    answers_as
    (answers_and
    (answers_and (between_answers (pos 0) (pos 400000) p.signal) (between_answers (pos 0) (pos 400000) p.srm.0))
    (conditions_answers p.conditions))
    (λ q. record { signal = q.0.0; srm = q.0.1; conditions = q.1 })
    (λ r. ((r.signal, r.srm), r.conditions))

-- every pair of a list
abbrev pub AllRanged : List Pair → Type 0
AllRanged [] = Unit {0}
AllRanged (p ∷ ps) = PairRanged p × AllRanged ps

-- E, σ and the reference oxygen
pub record RequirementsRanged (q : Requirements) : Type 0 where
  pub limit : Between (pos 100) (pos 400000) q.limit
  pub uncertainty : Between (pos 1) (pos 10000) q.uncertainty
  pub oxygen : OxygenRanged q.oxygen

unfoldable pub requirements_ranged_of : Requirements → Bool
requirements_ranged_of q =
    (between_of (pos 100) (pos 400000) q.limit
    && between_of (pos 1) (pos 10000) q.uncertainty)
    && between_of (pos 0) (pos 1800) q.oxygen

pub requirements_answers : (q : Requirements) → Answers (requirements_ranged_of q) (RequirementsRanged q)
unfolding requirements_ranged_of
requirements_answers q =
    answers_as
    (answers_and
    (answers_and (between_answers (pos 100) (pos 400000) q.limit) (between_answers (pos 1) (pos 10000) q.uncertainty))
    (between_answers (pos 0) (pos 1800) q.oxygen))
    (λ p. record { limit = p.0.0; uncertainty = p.0.1; oxygen = p.1 })
    (λ r. ((r.limit, r.uncertainty), r.oxygen))

-- the zero offset Z of a calibration closing
abbrev pub ZRanged : ℤ → Type 0
ZRanged z = Between (neg_ℤ (pos 10000)) (pos 10000) z

abbrev pub z_ranged_of : ℤ → Bool
z_ranged_of z = between_of (neg_ℤ (pos 10000)) (pos 10000) z
