-- The library's `from_le_bytes` and `to_le_bytes` are the numbers and bytes of the file.
use Rattle.std.proofs.Common.{◌≡◌, refl, ℕ, suc, ◌+◌, ◌-◌, ◌*◌, ◌/◌, ◌%◌, ◌<◌, Bool, true, false, ltb, pos, negsuc, cond, List, ◌++◌, take, drop, slice_index, ◌∙◌, ap, arith}
use Rattle.std.proofs.lemmas.List.{get_or-take, get_or-drop}
use Rattle.std.specs.Int.{w16, w32, w64, byte_worth, from_le_bytes, to_le_bytes, cast_signed}
use mir.Val.{sel}
use Rattle.records.specs.Bytes.{byte_at, le16, le32, bytes16, bytes32}
use Rattle.records.specs.Record.{signed32, signed64}

-- ---- reading

module _ (bytes : List ℕ) (at n : ℕ) where
  -- a byte of those from a place on, and the lowest as part of a number
  byte : (i j : ℕ) → i < n → j ≡ at + i → slice_index (take n (drop at bytes)) i ≡ byte_at bytes j
  byte i j h e = get_or-take n (drop at bytes) i 0 h ∙ get_or-drop at bytes i 0 ∙ ap (byte_at bytes) (omega arith)

  lowest : 0 < n → byte_worth 0 (slice_index (take n (drop at bytes)) 0) ≡ byte_at bytes at
  lowest h = byte 0 at h (omega arith)

module _ (bytes : List ℕ) (at : ℕ) where
  pub from_le_bytes_16 : from_le_bytes w16 (take 2 (drop at bytes)) ≡ le16 bytes at
  unfolding le16
  from_le_bytes_16 = omega (arith, lowest bytes at 2 (omega arith), byte bytes at 2 1 (at + 1) (omega arith) refl)

  pub from_le_bytes_32 : from_le_bytes w32 (take 4 (drop at bytes)) ≡ le32 bytes at
  unfolding le16 le32
  from_le_bytes_32 =
      let b0 = lowest bytes at 4 (omega arith) in
      let b1 = byte bytes at 4 1 (at + 1) (omega arith) refl in
      let b2 = byte bytes at 4 2 (at + 2) (omega arith) refl in
      let b3 = byte bytes at 4 3 (at + 2 + 1) (omega arith) (omega arith) in
      omega arith

  pub from_le_bytes_64 : from_le_bytes w64 (take 8 (drop at bytes)) ≡ le32 bytes at + 4294967296 * le32 bytes (at + 4)
  unfolding le16 le32
  from_le_bytes_64 =
      let b0 = lowest bytes at 8 (omega arith) in
      let b1 = byte bytes at 8 1 (at + 1) (omega arith) refl in
      let b2 = byte bytes at 8 2 (at + 2) (omega arith) refl in
      let b3 = byte bytes at 8 3 (at + 2 + 1) (omega arith) (omega arith) in
      let b4 = byte bytes at 8 4 (at + 4) (omega arith) refl in
      let b5 = byte bytes at 8 5 (at + 4 + 1) (omega arith) (omega arith) in
      let b6 = byte bytes at 8 6 (at + 4 + 2) (omega arith) (omega arith) in
      let b7 = byte bytes at 8 7 (at + 4 + 2 + 1) (omega arith) (omega arith) in
      omega arith

-- ---- signed numbers

pub cast_signed_32 : (n : ℕ) → cast_signed w32 n ≡ signed32 n
unfolding signed32
cast_signed_32 n = by_half (ltb n 2147483648)
  where
    by_half : (t : Bool) → sel t (pos n) (negsuc (4294967296 - suc n)) ≡ cond t (pos n) (negsuc (4294967295 - n))
    by_half true = refl
    by_half false = ap negsuc (omega arith)

pub cast_signed_64 : (n : ℕ) → cast_signed w64 n ≡ signed64 n
unfolding signed64
cast_signed_64 n = by_half (ltb n 9223372036854775808)
  where
    by_half : (t : Bool)
        → sel t (pos n) (negsuc (18446744073709551616 - suc n)) ≡ cond t (pos n) (negsuc (18446744073709551615 - n))
    by_half true = refl
    by_half false = ap negsuc (omega arith)

-- ---- writing

pub to_le_bytes_16 : (n : ℕ) → to_le_bytes w16 n ≡ bytes16 n
unfolding bytes16
to_le_bytes_16 n = refl

pub to_le_bytes_32 : (n : ℕ) → to_le_bytes w32 n ≡ bytes32 n
unfolding bytes16 bytes32
to_le_bytes_32 n =
    let e : n / 16777216 % 256 ≡ n / 65536 / 256 % 256 = omega arith in
    cc

pub to_le_bytes_64 : (n : ℕ) → to_le_bytes w64 n ≡ bytes32 (n % 4294967296) ++ bytes32 (n / 4294967296)
unfolding bytes16 bytes32
to_le_bytes_64 n =
    let e0 : n % 256 ≡ n % 4294967296 % 256 = omega arith in
    let e1 : n / 256 % 256 ≡ n % 4294967296 / 256 % 256 = omega arith in
    let e2 : n / 65536 % 256 ≡ n % 4294967296 / 65536 % 256 = omega arith in
    let e3 : n / 16777216 % 256 ≡ n % 4294967296 / 65536 / 256 % 256 = omega arith in
    let e5 : n / 1099511627776 % 256 ≡ n / 4294967296 / 256 % 256 = omega arith in
    let e6 : n / 281474976710656 % 256 ≡ n / 4294967296 / 65536 % 256 = omega arith in
    let e7 : n / 72057594037927936 % 256 ≡ n / 4294967296 / 65536 / 256 % 256 = omega arith in
    cc
