-- The six alarms and usable, worked out from a state (paper 01, 'Usable').
use Rattle.std.specs.Prelude.{Bool, true, false, not, ◌&&◌, ℕ, ◌-◌, leb, None, Some}
use Rattle.charts.specs.Charts.{alarms_of}
use Rattle.charts.specs.declared.Alarms.{Alarms}
use Rattle.records.specs.Kinds.{Point, at_zero, at_span, deviation_of, Calibration, Demand}
use Rattle.records.specs.State.{chart_of}
use Rattle.records.specs.declared.state.State.{State}

-- the three of a chart
unfoldable pub alarms_at : Point → State → Alarms
alarms_at c st = alarms_of (chart_of c st) (deviation_of c st.setting)

abbrev pub silent_of : Alarms → Bool
silent_of a = (not a.rising && not a.falling) && not a.precision

-- a calibration at most a number of minutes old; without one, no
abbrev pub young_of : ℕ → ℕ → Calibration → Bool
young_of limit m None = false
young_of limit m (Some f) = leb (m - f.minute) limit

-- no call, or a first one at most a number of minutes old
abbrev pub recent_of : ℕ → ℕ → Demand → Bool
recent_of limit m None = true
recent_of limit m (Some first) = leb (m - first) limit

unfoldable pub usable_of : State → Bool
usable_of st =
    (silent_of (alarms_at at_zero st) && silent_of (alarms_at at_span st))
    && (young_of 2629440 st.minute st.calibration && recent_of 263520 st.minute st.demand)
