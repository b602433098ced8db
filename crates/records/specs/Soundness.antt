-- The range in which a state's arithmetic fits its fields: the code's own, with no sentence of paper 01. Every state
-- that calls leave is in it, and others may be. The edition may be any number, since none overflows anything (paper
-- 02, C-12). `most` bounds what is counted record by record: a state that has taken n blocks is sound for 12·n.
use Rattle.std.specs.Prelude.{Bool, true, false, ◌&&◌, List, [], ◌∷◌, ℕ, ◌≤◌, leb, take, None, Some}
use Rattle.charts.specs.Tests.{Answers, answers_le, answers_and, answers_as}
use Rattle.charts.specs.ChartSoundness.{ChartSound, chart_sound_of, chart_sound_answers}
use Rattle.calibration.specs.Pairs.{PairRanged, pair_ranged_of, pair_answers, RequirementsRanged, requirements_ranged_of, requirements_answers}
use Rattle.calibration.specs.Calibration.{LineRanged, line_ranged_of}
use Rattle.calibration.proofs.RangeLaws.{line_answers}
use Rattle.records.specs.Record.{minute_limit}
use Rattle.records.specs.Kinds.{line_of, Calibration}
use Rattle.records.specs.declared.state.Setting.{Setting}
use Rattle.records.specs.declared.state.Waiting.{Waiting}
use Rattle.records.specs.declared.state.State.{State}

-- a setting in its ranges
pub record SettingSound (s : Setting) : Type 0 where
  pub requirements : RequirementsRanged s.requirements
  pub zero : s.zero ≤ 10000
  pub span : s.span ≤ 10000
  pub response : s.response ≤ 60

unfoldable pub setting_sound_of : Setting → Bool
setting_sound_of s =
    (requirements_ranged_of s.requirements && leb s.zero 10000)
    && (leb s.span 10000 && leb s.response 60)

pub setting_answers : (s : Setting) → Answers (setting_sound_of s) (SettingSound s)
unfolding setting_sound_of
setting_answers s =
    answers_as
    (answers_and
    (answers_and (requirements_answers s.requirements) (answers_le s.zero 10000))
    (answers_and (answers_le s.span 10000) (answers_le s.response 60)))
    (λ p. record { requirements = p.0.0; zero = p.0.1; span = p.1.0; response = p.1.1 })
    (λ r. ((r.requirements, r.zero), (r.span, r.response)))

-- a pair that waits: its figures in their ranges, its times no later than the last minute there is
pub record WaitingSound (w : Waiting) : Type 0 where
  pub start : w.start ≤ minute_limit
  pub end : w.end ≤ minute_limit
  pub pair : PairRanged w.pair

unfoldable pub waiting_sound_of : Waiting → Bool
waiting_sound_of w = (leb w.start minute_limit && leb w.end minute_limit) && pair_ranged_of w.pair

pub waiting_answers : (w : Waiting) → Answers (waiting_sound_of w) (WaitingSound w)
unfolding waiting_sound_of
waiting_answers w =
    answers_as
    (answers_and (answers_and (answers_le w.start minute_limit) (answers_le w.end minute_limit)) (pair_answers w.pair))
    (λ p. record { start = p.0.0; end = p.0.1; pair = p.1 })
    (λ r. ((r.start, r.end), r.pair))

abbrev pub AllSound : List Waiting → Type 0
AllSound [] = Unit {0}
AllSound (w ∷ ws) = WaitingSound w × AllSound ws

abbrev pub all_sound_of : List Waiting → Bool
all_sound_of [] = true
all_sound_of (w ∷ ws) = waiting_sound_of w && all_sound_of ws

pub all_answers : (ws : List Waiting) → Answers (all_sound_of ws) (AllSound ws)
all_answers [] = record { sure = λ t. tt; back = λ u. tt }
all_answers (w ∷ ws) = answers_and (waiting_answers w) (all_answers ws)

-- the function in force is in the range of those that a fit gives
abbrev pub CalibrationSound : Calibration → Type 0
CalibrationSound None = Unit {0}
CalibrationSound (Some f) = LineRanged (line_of f)

abbrev pub calibration_sound_of : Calibration → Bool
calibration_sound_of None = true
calibration_sound_of (Some f) = line_ranged_of (line_of f)

pub calibration_answers : (c : Calibration) → Answers (calibration_sound_of c) (CalibrationSound c)
calibration_answers None = record { sure = λ t. tt; back = λ u. tt }
calibration_answers (Some f) = line_answers (line_of f)

-- before the first record there is no setting to be sound
abbrev pub BegunSound : Bool → Setting → Type 0
BegunSound false s = Unit {0}
BegunSound true s = SettingSound s

abbrev pub begun_sound_of : Bool → Setting → Bool
begun_sound_of false s = true
begun_sound_of true s = setting_sound_of s

pub begun_answers : (b : Bool) (s : Setting) → Answers (begun_sound_of b s) (BegunSound b s)
begun_answers false s = record { sure = λ t. tt; back = λ u. tt }
begun_answers true s = setting_answers s

pub record Sound (most : ℕ) (st : State) : Type 0 where
  pub minute : st.minute ≤ minute_limit
  pub setting : BegunSound st.begun st.setting
  pub zero : ChartSound st.zero
  pub span : ChartSound st.span
  pub waiting : st.waiting ≤ 30
  pub pairs : AllSound (take st.waiting st.pairs)
  pub calibration : CalibrationSound st.calibration
  pub total : st.tally.total ≤ most
  pub outside : st.tally.outside ≤ most
  pub over : st.over ≤ most

-- The counts leave room for one record more, in 32 bits. No list of calls comes near: it has at most 12,000,000
-- records.
abbrev pub count_limit : ℕ
count_limit = 4000000000

abbrev pub Fitting : State → Type 0
Fitting st = Sound count_limit st

unfoldable pub sound_of : ℕ → State → Bool
sound_of most st =
    (((leb st.minute minute_limit && begun_sound_of st.begun st.setting)
    && (chart_sound_of st.zero && chart_sound_of st.span))
    && ((leb st.waiting 30 && all_sound_of (take st.waiting st.pairs)) && calibration_sound_of st.calibration))
    && ((leb st.tally.total most && leb st.tally.outside most) && leb st.over most)

pub sound_answers : (most : ℕ) (st : State) → Answers (sound_of most st) (Sound most st)
unfolding sound_of
sound_answers most st =
    answers_as
    (answers_and
    (answers_and
    (answers_and
    (answers_and (answers_le st.minute minute_limit) (begun_answers st.begun st.setting))
    (answers_and (chart_sound_answers st.zero) (chart_sound_answers st.span)))
    (answers_and
    (answers_and (answers_le st.waiting 30) (all_answers (take st.waiting st.pairs)))
    (calibration_answers st.calibration)))
    (answers_and
    (answers_and (answers_le st.tally.total most) (answers_le st.tally.outside most))
    (answers_le st.over most)))
    (λ p. record {
      minute = p.0.0.0.0;
      setting = p.0.0.0.1;
      zero = p.0.0.1.0;
      span = p.0.0.1.1;
      waiting = p.0.1.0.0;
      pairs = p.0.1.0.1;
      calibration = p.0.1.1;
      total = p.1.0.0;
      outside = p.1.0.1;
      over = p.1.1;
    })
    (λ s. (
      (((s.minute, s.setting), (s.zero, s.span)), ((s.waiting, s.pairs), s.calibration)),
      ((s.total, s.outside), s.over),
    ))
