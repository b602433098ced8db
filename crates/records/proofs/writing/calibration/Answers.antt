-- `writing::calibration` meets its contract.
use Rattle.std.proofs.Common.{◌∙◌, rules, SFits}
use Rattle.std.specs.Int.{w32, w64}
use mir.Facts.{to_z-of_z}
use Rattle.records.proofs.WritingLaws.{calibration_stored}
use Rattle.records.proofs.writing.calibration.Goals as goal

pub returns : goal.returns
returns c =
    let figures = c.args.c in
    let slope : SFits w32 figures.line.slope = search rules in
    let intercept : SFits w64 figures.line.intercept = search rules in
    let top : SFits w32 figures.top.0 = search rules in
    c.write32.ensures
    ∙ rw (c.write_field-3.ensures, c.write_long_field.ensures, c.write_field-2.ensures, c.write_field.ensures, c.head-record.ensures, c.pass_mark.ensures, to_z-of_z {w = w32} c.ranges.z, to_z-of_z {w = w32} slope, to_z-of_z {w = w64} intercept, to_z-of_z {w = w32} top) (calibration_stored _ c.args.minute c.args.z)
