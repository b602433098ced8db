-- A record as it is written, field after field, and read back.
use Rattle.std.specs.Prelude.{◌≡◌, List, [], ◌++◌, ℕ, ◌+◌, ◌-◌, ◌≤◌, ℤ, pos, negsuc, length, replicate}
use Rattle.std.proofs.Common.{refl, sym, ap, ◌∙◌, arith, SFits, append_assoc, length-append}
use Rattle.std.specs.Int.{w32, w64, to_le_bytes, cast_unsigned, cast_signed}
use mir.Facts.{to_z-of_z}
use Rattle.calibration.specs.Outcomes.{Fitted, Tested}
use Rattle.records.specs.Bytes.{bytes16, bytes32, written}
use Rattle.records.specs.BytesLaws.{written_more, zeros_written, bytes32_length}
use Rattle.records.specs.LittleEndian.{to_le_bytes_32, to_le_bytes_64}
use Rattle.records.specs.Record.{minute}
use Rattle.records.specs.Table.{pass_mark_of, test_mark_of}
use Rattle.records.specs.Writing.{annual_record, calibration_record, unsigned32, unsigned64, bytes64, field_bytes, long_bytes, head_of, record_of}

-- ---- signed numbers, as the code writes them by their bits

bits32 : (z : ℤ) → cast_unsigned w32 z ≡ unsigned32 z
unfolding unsigned32
bits32 (pos n) = refl
bits32 (negsuc n) = omega arith

bits64 : (z : ℤ) → cast_unsigned w64 z ≡ unsigned64 z
unfolding unsigned64
bits64 (pos n) = refl
bits64 (negsuc n) = omega arith

le64 : (n : ℕ) → to_le_bytes w64 n ≡ bytes64 n
unfolding bytes64
le64 n = to_le_bytes_64 n

-- what `to_le_bytes` gives, of a number as a call hands it over
pub signed_bytes32 : (z : ℤ) → SFits w32 z → to_le_bytes w32 (cast_unsigned w32 (cast_signed w32 (cast_unsigned w32 z))) ≡ field_bytes z
signed_bytes32 z f = ap (λ (y : ℤ). to_le_bytes w32 (cast_unsigned w32 y)) (to_z-of_z {w = w32} f) ∙ ap (to_le_bytes w32) (bits32 z) ∙ to_le_bytes_32 (unsigned32 z)

pub signed_bytes64 : (z : ℤ) → SFits w64 z → to_le_bytes w64 (cast_unsigned w64 (cast_signed w64 (cast_unsigned w64 z))) ≡ long_bytes z
signed_bytes64 z f = ap (λ (y : ℤ). to_le_bytes w64 (cast_unsigned w64 y)) (to_z-of_z {w = w64} f) ∙ ap (to_le_bytes w64) (bits64 z) ∙ le64 (unsigned64 z)

-- ---- writing

pub bytes64_length : (n : ℕ) → length (bytes64 n) ≡ 8
unfolding bytes64
bytes64_length n = simp (length-append, bytes32_length)

module _ (k m t : ℕ) where
  pub head_length : length (head_of k m t) ≡ 8
  head_length = simp bytes32_length

  module _ (fields : List ℕ) where
    pub parts_length : length (head_of k m t ++ fields) ≡ 8 + length fields
    parts_length = omega (arith, length-append (head_of k m t) fields, head_length)

    -- a record is its head and its fields written into zeros
    record_written : record_of k m t fields ≡ written (replicate 40 0) 0 (head_of k m t ++ fields)
    unfolding record_of
    record_written =
        let left : 40 - length (head_of k m t ++ fields) ≡ 32 - length fields = omega (arith, parts_length) in
        sym (zeros_written 40 (head_of k m t ++ fields) ∙ rw left refl)

  -- one field more
  pub field_more : (fields new r : List ℕ) (at : ℕ) → r ≡ record_of k m t fields → at ≡ 8 + length fields → at + length new ≤ 40
      → written r at new ≡ record_of k m t (fields ++ new)
  field_more fields new r at s e h =
      let room = parts_length fields in
      ap (λ (l : List ℕ). written l at new) (s ∙ record_written fields)
      ∙ written_more (replicate 40 0) 0 (head_of k m t ++ fields) (omega arith) new at (omega arith)
      ∙ ap (written (replicate 40 0) 0) (append_assoc (head_of k m t) fields new)
      ∙ sym (record_written (fields ++ new))

pub calibration_stored : (c : Fitted) (minute : ℕ) (z : ℤ)
    → let r1 = written (record_of 5 (pass_mark_of c) minute []) 8 (field_bytes z) in
    let r2 = written r1 12 (field_bytes c.line.slope) in
    let r3 = written r2 16 (long_bytes c.line.intercept) in
    written (written r3 24 (field_bytes c.top.0)) 28 (bytes32 c.count) ≡ calibration_record c minute z
unfolding calibration_record bytes64 bytes32 bytes16
calibration_stored c minute z =
    let more = field_more 5 (pass_mark_of c) minute in
    more _ _ _ 28 (more _ _ _ 24 (more _ _ _ 16 (more _ _ _ 12 (more [] _ _ 8 refl refl (omega arith)) refl (omega arith)) refl (omega arith)) refl (omega arith)) refl (omega arith)

pub annual_stored : (t : Tested) (count minute : ℕ) → written (record_of 6 (test_mark_of t) minute []) 8 (bytes32 count) ≡ annual_record t count minute
unfolding annual_record bytes32 bytes16
annual_stored t count minute = field_more 6 (test_mark_of t) minute [] (bytes32 count) _ 8 refl refl (omega arith)
