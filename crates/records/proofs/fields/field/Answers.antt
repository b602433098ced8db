-- `fields::field` meets its contract.
use Rattle.std.proofs.Common.{List, ℕ, ◌∙◌, ap}
use Rattle.std.specs.Int.{w32, cast_signed, from_le_bytes}
use Rattle.records.specs.Bytes.{le32}
use Rattle.records.specs.Record.{field_of}
use Rattle.records.specs.LittleEndian.{from_le_bytes_32, cast_signed_32}
use Rattle.records.proofs.SignedLaws.{given}
use Rattle.records.proofs.fields.field.Goals as goal

pub returns : goal.returns
unfolding field_of
returns c =
    let a = c.args in
    given w32 c.from_le_bytes.type_inv
    (c.from_le_bytes.ensures ∙ ap (λ (b : List ℕ). cast_signed w32 (from_le_bytes w32 b)) c.chunk.ensures
    ∙ ap (cast_signed w32) (from_le_bytes_32 a.r.now a.at) ∙ cast_signed_32 (le32 a.r.now a.at))
