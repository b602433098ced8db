-- `fields::difference` meets its contract.
use mathlib.Core.Path.{◌≡◌}
use mir.Syntax.{w32}
use mir.Val.{to_z, of_z}
use Rattle.calibration.proofs.RangeLaws.{between_abs}
use Rattle.records.specs.Record.{field_of}
use Rattle.records.specs.RecordLaws.{reading_fields}
use Rattle.records.proofs.SignedLaws.{given}
use Rattle.records.proofs.fields.difference.Goals as goal
use Rattle.records.proofs.fields.difference.Goals.{After-field, After-field-2}

-- the two fields, as they are passed on
reading : (c : After-field) → to_z w32 (of_z w32 c.field.result) ≡ field_of c.args.r.now 8
reading c = given w32 c.field.type_inv c.field.ensures

reference : (c : After-field-2) → to_z w32 (of_z w32 c.field-2.result) ≡ field_of c.args.r.now 12
reference c = given w32 c.field-2.type_inv c.field-2.ensures

pub difference-requires : goal.difference-requires
difference-requires c =
    let at = goal.at.difference-requires c in
    let d = reading_fields _ c.requires in
    rw (reading at.After-field, reference at.After-field-2) (d.reading, between_abs d.reference)
