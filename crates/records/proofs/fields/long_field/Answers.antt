-- `fields::long_field` meets its contract.
use Rattle.std.proofs.Common.{List, ℕ, ◌+◌, ◌*◌, ◌∙◌, ap}
use Rattle.std.specs.Int.{w64, cast_signed, from_le_bytes}
use Rattle.records.specs.Bytes.{le32}
use Rattle.records.specs.Record.{long_field_of}
use Rattle.records.specs.LittleEndian.{from_le_bytes_64, cast_signed_64}
use Rattle.records.proofs.SignedLaws.{given}
use Rattle.records.proofs.fields.long_field.Goals as goal

pub returns : goal.returns
unfolding long_field_of
returns c =
    let a = c.args in
    given w64 c.from_le_bytes.type_inv
    (c.from_le_bytes.ensures ∙ ap (λ (b : List ℕ). cast_signed w64 (from_le_bytes w64 b)) c.chunk.ensures
    ∙ ap (cast_signed w64) (from_le_bytes_64 a.r.now a.at) ∙ cast_signed_64 (le32 a.r.now a.at + 4294967296 * le32 a.r.now (a.at + 4)))
