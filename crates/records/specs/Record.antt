-- Paper 01, 'Records', and paper 02, C-11: a record is forty bytes. What stands where, which bytes have to be zero,
-- and which ranges the fields have.
use Rattle.std.specs.Prelude.{Bool, true, ◌&&◌, ◌||◌, List, ℕ, ◌+◌, ◌-◌, ◌*◌, leb, ltb, eqb, ℤ, pos, negsuc, neg_ℤ, nat_abs, ◌-ℤ◌, drop, if◌then◌else◌}
use Rattle.calibration.specs.Pairs.{between_of, pair_ranged_of, conditions_ranged_of, requirements_ranged_of, z_ranged_of}
use Rattle.calibration.specs.declared.conditions.Conditions.{Conditions}
use Rattle.calibration.specs.declared.pairs.Pair.{Pair}
use Rattle.calibration.specs.declared.pairs.Requirements.{Requirements}
use Rattle.records.specs.Bytes.{byte_at, le32, all_zero_of}
use Rattle.records.specs.declared.state.Setting.{Setting}
use Rattle.records.specs.declared.state.Waiting.{Waiting}
use Rattle.records.specs.declared.state.Function.{Function}

abbrev pub Record : Type 0
Record = List ℕ

-- ---- what stands where

unfoldable pub kind : Record → ℕ
kind r = byte_at r 0

unfoldable pub mark : Record → ℕ
mark r = byte_at r 1

unfoldable pub minute : Record → ℕ
minute r = le32 r 4

-- the last minute that a record may have
abbrev pub minute_limit : ℕ
minute_limit = 100000000

-- a signed number of 32 bits, and one of 64, from the unsigned number that has the same bits
unfoldable pub signed32 : ℕ → ℤ
signed32 n = if ltb n 2147483648 then pos n else negsuc (4294967295 - n)

unfoldable pub signed64 : ℕ → ℤ
signed64 n = if ltb n 9223372036854775808 then pos n else negsuc (18446744073709551615 - n)

-- a signed field of four bytes, and one of eight
unfoldable pub field_of : Record → ℕ → ℤ
field_of r at = signed32 (le32 r at)

unfoldable pub long_field_of : Record → ℕ → ℤ
long_field_of r at = signed64 (le32 r at + 4294967296 * le32 r (at + 4))

-- ---- which marks, and where the fields end

-- the largest mark of a kind; for a value it comes from paper 02, C-11
unfoldable pub mark_limit : ℕ → ℕ
mark_limit k =
    if eqb k 2 || (eqb k 3 || (eqb k 5 || eqb k 7)) then 1
    else (if eqb k 6 then 3
    else 0)

-- the first byte past the fields of a kind: it and those after it are zero
unfoldable pub fields_end : ℕ → ℕ
fields_end k =
    if eqb k 1 then 32
    else (if eqb k 2 then 16
    else (if eqb k 3 then 8
    else (if eqb k 4 then 40
    else (if eqb k 5 then 32
    else (if eqb k 6 then 12
    else (if eqb k 7 then 28
    else 8))))))

-- a mark of at most so much, bytes 2 and 3 zero, and every byte from a place on
unfoldable pub plain_of : ℕ → ℕ → Record → Bool
plain_of marks end r = (leb (mark r) marks && eqb (byte_at r 2) 0) && (eqb (byte_at r 3) 0 && all_zero_of (drop end r))

-- kind 1 to 8, a mark of that kind, and no stray byte
unfoldable pub formed_of : Record → Bool
formed_of r = (leb 1 (kind r) && leb (kind r) 8) && plain_of (mark_limit (kind r)) (fields_end (kind r)) r

-- ---- the figures of each kind

-- kind 1: E, σ and the reference oxygen; s of the two charts; response minutes
unfoldable pub requirements_of : Record → Requirements
requirements_of r = record { limit = field_of r 8; uncertainty = field_of r 12; oxygen = field_of r 24 }

unfoldable pub setting_of : Record → Setting
setting_of r = record {
  requirements = requirements_of r;
  zero = nat_abs (field_of r 16);
  span = nat_abs (field_of r 20);
  response = nat_abs (field_of r 28);
}

-- kind 2: the difference, the reading less its reference
unfoldable pub difference_of : Record → ℤ
difference_of r = field_of r 8 -ℤ field_of r 12

-- t, p, h and o in four fields from a place on
unfoldable pub conditions_of : Record → ℕ → Conditions
conditions_of r at = record {
  temperature = field_of r at;
  pressure = field_of r (at + 4);
  water = field_of r (at + 8);
  oxygen = field_of r (at + 12);
}

-- kind 4: length, coverage, and the pair with its times; the record's minute is when the pair ends
unfoldable pub length_of : Record → ℕ
length_of r = nat_abs (field_of r 8)

unfoldable pub coverage_of : Record → ℤ
coverage_of r = field_of r 12

unfoldable pub pair_of : Record → Pair
pair_of r = record { signal = field_of r 16; srm = record { 0 = field_of r 20 }; conditions = conditions_of r 24 }

unfoldable pub waiting_of : Record → Waiting
waiting_of r = record { start = minute r - length_of r; end = minute r; pair = pair_of r }

-- kind 5: Z, and the stored slope, intercept and top with the minute
unfoldable pub z_of : Record → ℤ
z_of r = field_of r 8

unfoldable pub function_of : Record → Function
function_of r = record {
  slope = field_of r 12;
  intercept = long_field_of r 16;
  top = record { 0 = field_of r 24 };
  minute = minute r;
}

-- kind 7: the signal, and its conditions
unfoldable pub signal_of : Record → ℤ
signal_of r = field_of r 8

unfoldable pub value_conditions : Record → Conditions
value_conditions r = conditions_of r 12

-- ---- ranges

unfoldable pub setting_ranged_of : Record → Bool
setting_ranged_of r =
    requirements_ranged_of (requirements_of r)
    && (between_of (pos 1) (pos 10000) (field_of r 16)
    && (between_of (pos 1) (pos 10000) (field_of r 20) && between_of (pos 0) (pos 60) (field_of r 28)))

unfoldable pub reading_ranged_of : Record → Bool
reading_ranged_of r =
    between_of (neg_ℤ (pos 400000)) (pos 400000) (field_of r 8)
    && between_of (pos 0) (pos 400000) (field_of r 12)

unfoldable pub waiting_ranged_of : Record → Bool
waiting_ranged_of r =
    between_of (pos 30) (pos 1440) (field_of r 8)
    && (between_of (pos 0) (pos 100) (field_of r 12) && pair_ranged_of (pair_of r))

unfoldable pub value_ranged_of : Record → Bool
value_ranged_of r = between_of (pos 0) (pos 400000) (signal_of r) && conditions_ranged_of (value_conditions r)

-- every field that has a range is in it; of a closing that is Z alone
unfoldable pub ranged_of : Record → Bool
ranged_of r =
    if eqb (kind r) 1 then setting_ranged_of r
    else (if eqb (kind r) 2 then reading_ranged_of r
    else (if eqb (kind r) 4 then waiting_ranged_of r
    else (if eqb (kind r) 5 then z_ranged_of (z_of r)
    else (if eqb (kind r) 7 then value_ranged_of r
    else true))))
