-- Paper 01, 'Where input is stopped', the paragraph below its table, and paper 02, C-12: the figures of a calibration
-- from a lent list of pairs, which comes with the edition to round by, E, σ, the reference oxygen and Z. 3 is tried
-- first, then 13 whatever the list's length; then 20, 22, 23 and 24, as the fit of a closing tries them.
use Rattle.std.specs.Prelude.{Bool, not, ◌&&◌, List, ℤ, if◌then◌else◌}
use Rattle.std.specs.List.{list_all}
use Rattle.charts.specs.Rounding.{edition_known_of}
use Rattle.calibration.specs.Pairs.{pair_ranged_of, requirements_ranged_of, z_ranged_of}
use Rattle.calibration.specs.Calibration.{refused_fit, fit_of}
use Rattle.calibration.specs.declared.pairs.Pair.{Pair}
use Rattle.calibration.specs.declared.pairs.Basis.{Basis}
use Rattle.calibration.specs.declared.pairs.Requirements.{Requirements}
use Rattle.calibration.specs.Outcomes.{Fitted}

-- all that comes in is in range
abbrev pub list_ranged_of : Requirements → ℤ → List Pair → Bool
list_ranged_of q z ps = (requirements_ranged_of q && z_ranged_of z) && list_all pair_ranged_of ps

-- 3; 13; then `fit_of`, which tries 20, 22, 23 and 24 in this order, or the figures
unfoldable pub fit_list_of : Basis → ℤ → List Pair → Fitted
fit_list_of b z ps =
    if not (edition_known_of b.edition) then refused_fit 3
    else (if not (list_ranged_of b.requirements z ps) then refused_fit 13
    else fit_of b.edition b.requirements z ps)
