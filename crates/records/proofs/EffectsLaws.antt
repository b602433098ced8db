-- What the records before leave, read a second time by the kinds and marks themselves: where an effect in Kinds named other records than the papers do, these
-- laws would not hold. `WeekCount` does the same for weeks and demands.
use Rattle.std.specs.Prelude.{◌≡◌, refl, ◌&&◌, ◌||◌, List, [], ◌∷◌, ◌++◌, eqb, Some, None, if◌then◌else◌}
use Rattle.records.specs.Record.{kind, mark, function_of, setting_of, waiting_of}
use Rattle.records.specs.Kinds.{Calibration, calibrates, empties, is_pair, no_setting, sets}
use Rattle.records.specs.History.{History, function_in, setting_in, waiting_in}
use Rattle.records.specs.declared.state.Waiting.{Waiting}
use Rattle.records.specs.declared.state.Setting.{Setting}

-- the last setting
abbrev pub last_setting : History → Setting
last_setting [] = no_setting
last_setting (r ∷ h) = if eqb (kind r.bytes) 1 then setting_of r.bytes else last_setting h

pub setting_told : (h : History) → setting_in h ≡ last_setting h
unfolding setting_in sets
setting_told [] = refl
setting_told (r ∷ h) = rw (setting_told h)

-- the figures of the last calibration closing that was passed
abbrev pub last_function : History → Calibration
last_function [] = None
last_function (r ∷ h) = if eqb (kind r.bytes) 5 && eqb (mark r.bytes) 1 then Some (function_of r.bytes) else last_function h

pub function_told : (h : History) → function_in h ≡ last_function h
unfolding function_in calibrates
function_told [] = refl
function_told (r ∷ h) = rw (function_told h)

-- the pairs since the last closing or drop
abbrev pub last_pairs : History → List Waiting
last_pairs [] = []
last_pairs (r ∷ h) =
    if eqb (kind r.bytes) 5 || (eqb (kind r.bytes) 6 || eqb (kind r.bytes) 8) then []
    else (if eqb (kind r.bytes) 4 then last_pairs h ++ (waiting_of r.bytes ∷ []) else last_pairs h)

pub pairs_told : (h : History) → waiting_in h ≡ last_pairs h
unfolding waiting_in empties is_pair
pairs_told [] = refl
pairs_told (r ∷ h) = rw (pairs_told h)
