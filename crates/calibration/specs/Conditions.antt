-- Paper 01, 'Standard conditions (formula 20)', and paper 02, C-12: each factor is rounded by the edition.
use Rattle.std.specs.Prelude.{ℕ, ℤ, pos, ◌+ℤ◌, ◌-ℤ◌, ◌*ℤ◌}
use Rattle.charts.specs.Rounding.{near_of}
use Rattle.calibration.specs.declared.conditions.Actual.{Actual}
use Rattle.calibration.specs.declared.conditions.Standard.{Standard}
use Rattle.calibration.specs.declared.conditions.Conditions.{Conditions}

-- one factor n/d of formula 20, rounded
abbrev pub times_of : ℕ → ℤ → ℤ → ℤ → ℤ
times_of edition v n d = near_of edition (v *ℤ n) d

-- A concentration brought to standard conditions: the factors for temperature, pressure, water and oxygen in turn,
-- rounded after each. `reference` is the setting's reference oxygen.
unfoldable pub standard_of : ℕ → ℤ → Conditions → Actual → Standard
standard_of edition reference k v =
    let t : ℤ = times_of edition v.0 (pos 27315 +ℤ k.temperature) (pos 27315) in
    let p : ℤ = times_of edition t (pos 10130) (pos 10130 +ℤ k.pressure) in
    let h : ℤ = times_of edition p (pos 10000) (pos 10000 -ℤ k.water) in
    let o : ℤ = times_of edition h (pos 2100 -ℤ reference) (pos 2100 -ℤ k.oxygen) in
    record { 0 = o }
