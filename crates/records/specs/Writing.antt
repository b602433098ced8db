-- Paper 01, 'Records' and 'Making blocks and closings': the forty bytes of a record from its kind, mark, minute and
-- fields. `Record` reads them.
use Rattle.std.specs.Prelude.{List, [], ◌∷◌, ◌++◌, ℕ, ◌-◌, ◌/◌, ◌%◌, ℤ, pos, negsuc, length, replicate}
use Rattle.calibration.specs.Outcomes.{Fitted, Tested}
use Rattle.records.specs.Bytes.{bytes32}
use Rattle.records.specs.Record.{Record}
use Rattle.records.specs.Table.{pass_mark_of, test_mark_of}

-- ---- fields

-- the unsigned number that has the same 32 bits as a signed one, or the same 64
unfoldable pub unsigned32 : ℤ → ℕ
unsigned32 (pos n) = n
unsigned32 (negsuc n) = 4294967295 - n

unfoldable pub unsigned64 : ℤ → ℕ
unsigned64 (pos n) = n
unsigned64 (negsuc n) = 18446744073709551615 - n

-- the eight bytes of a number
unfoldable pub bytes64 : ℕ → List ℕ
bytes64 n = bytes32 (n % 4294967296) ++ bytes32 (n / 4294967296)

-- a signed field of four bytes, and one of eight
abbrev pub field_bytes : ℤ → List ℕ
field_bytes z = bytes32 (unsigned32 z)

abbrev pub long_bytes : ℤ → List ℕ
long_bytes z = bytes64 (unsigned64 z)

-- ---- records

-- the first eight bytes
abbrev pub head_of : ℕ → ℕ → ℕ → List ℕ
head_of kind mark minute = (kind ∷ mark ∷ 0 ∷ 0 ∷ []) ++ bytes32 minute

-- the head, the fields one after another, and zeros past them
unfoldable pub record_of : ℕ → ℕ → ℕ → List ℕ → Record
record_of kind mark minute fields = head_of kind mark minute ++ fields ++ replicate (32 - length fields) 0

-- kind 5: Z, slope, intercept, top and N
unfoldable pub calibration_record : Fitted → ℕ → ℤ → Record
calibration_record c minute z =
    record_of 5 (pass_mark_of c) minute
    (field_bytes z ++ field_bytes c.line.slope ++ long_bytes c.line.intercept ++ field_bytes c.top.0
    ++ bytes32 c.count)

-- kind 6: N
unfoldable pub annual_record : Tested → ℕ → ℕ → Record
annual_record t count minute = record_of 6 (test_mark_of t) minute (bytes32 count)
