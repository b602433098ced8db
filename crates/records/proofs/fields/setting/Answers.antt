-- `fields::setting` meets its contract.
use mathlib.Core.Path.{◌≡◌}
use lib.Dec.{lit<}
use mir.Syntax.{w16, w32}
use mir.Val.{to_z, of_z}
use Rattle.records.specs.Record.{field_of}
use Rattle.records.specs.RecordLaws.{setting_fields}
use Rattle.records.proofs.SignedLaws.{given, unsigned_need}
use Rattle.records.proofs.fields.setting.Goals as goal
use Rattle.records.proofs.fields.setting.Goals.{After-field, After-field-2, After-field-3}

-- the three fields, as they are cast
zero : (c : After-field) → to_z w32 (of_z w32 c.field.result) ≡ field_of c.args.r.now 16
zero c = given w32 c.field.type_inv c.field.ensures

span : (c : After-field-2) → to_z w32 (of_z w32 c.field-2.result) ≡ field_of c.args.r.now 20
span c = given w32 c.field-2.type_inv c.field-2.ensures

response : (c : After-field-3) → to_z w32 (of_z w32 c.field-3.result) ≡ field_of c.args.r.now 28
response c = given w32 c.field-3.type_inv c.field-3.ensures

pub overflow_cast-result : goal.overflow_cast-result
overflow_cast-result c = unsigned_need w16 (lit< tt) (zero (goal.at.overflow_cast-result c).After-field) (setting_fields _ c.requires).zero

pub overflow_cast-result-2 : goal.overflow_cast-result-2
overflow_cast-result-2 c = unsigned_need w16 (lit< tt) (span (goal.at.overflow_cast-result-2 c).After-field-2) (setting_fields _ c.requires).span

pub overflow_cast-result-3 : goal.overflow_cast-result-3
overflow_cast-result-3 c = unsigned_need w32 (lit< tt) (response (goal.at.overflow_cast-result-3 c).After-field-3) (setting_fields _ c.requires).response
