-- `calibration::line::value` meets its contract.
use Rattle.std.proofs.Common.{to_z-of_z}
use Rattle.calibration.proofs.ConditionLaws.{calibrated_bound}
use Rattle.calibration.proofs.line.value.Goals as goal

pub standard_conditions-requires : goal.standard_conditions-requires
standard_conditions-requires c =
    let a = c.args in
    let q = c.requires in
    (rw (to_z-of_z c.ranges.reference) q.0, q.2, rw (c.calibrated.ensures, to_z-of_z c.ranges.x) (calibrated_bound a.edition a.l a.x q.1 q.3))
