-- `fields::length` meets its contract.
use mathlib.Core.Path.{◌≡◌, ap}
use native.Mathlib.Omega.{arith}
use lib.Dec.{lit<}
use lib.IntN.{nat_abs}
use mir.Syntax.{w32}
use mir.Val.{to_z, of_z}
use Rattle.records.specs.Record.{length_of, field_of}
use Rattle.records.specs.RecordLaws.{waiting_fields}
use Rattle.records.proofs.SignedLaws.{given, unsigned_need}
use Rattle.records.proofs.fields.length.Goals as goal
use Rattle.records.proofs.fields.length.Goals.{After-field}

-- the field, as it is cast
reads : (c : After-field) → to_z w32 (of_z w32 c.field.result) ≡ field_of c.args.r.now 8
reads c = given w32 c.field.type_inv c.field.ensures

pub overflow_cast-result : goal.overflow_cast-result
overflow_cast-result c =
    unsigned_need w32 (lit< tt) (reads (goal.at.overflow_cast-result c).After-field) (waiting_fields _ c.requires).length

pub returns : goal.returns
unfolding length_of
returns c =
    let e = ap nat_abs (reads (goal.at.returns c).After-field) in
    (e, omega (arith, e, (waiting_fields _ c.requires).most))
