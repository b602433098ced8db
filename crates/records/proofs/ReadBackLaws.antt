-- A record that was written is read back: its kind, mark, minute and fields, and no stray byte.
use Rattle.std.specs.Prelude.{◌≡◌, Bool, true, false, ◌&&◌, List, [], ◌∷◌, ◌++◌, ℕ, ◌+◌, ◌-◌, ◌*◌, ◌≤◌, ◌<◌, leb, ℤ, pos, negsuc, length, drop, replicate, if◌then◌else◌}
use Rattle.std.proofs.Common.{refl, ap, ◌∙◌, arith, SFits, append_assoc, get_or-append-add}
use Rattle.std.proofs.Math.Seq.{drop-append-add}
use Rattle.std.proofs.lemmas.List.{drop-replicate}
use Rattle.std.specs.Int.{w32, w64}
use Rattle.std.specs.Int.Signed.{mag, ≤ℤ_refl}
use borrow.Author.Tests.{eq-eqb, lt-ltb, le-ltb, le-leb}
use Rattle.charts.specs.Integers.{le_le_z}
use Rattle.calibration.specs.Outcomes.{Fitted, Tested}
use Rattle.records.specs.Bytes.{byte_at, le16, le32, all_zero_of, bytes16, bytes32}
use Rattle.records.specs.BytesLaws.{replicate_zero}
use Rattle.records.specs.Record.{kind, mark, minute, signed32, signed64, field_of, long_field_of, formed_of, plain_of, mark_limit, fields_end, z_of}
use Rattle.records.specs.Table.{pass_mark_of, test_mark_of, sameℤ, stores_fit_of, stores_test_of}
use Rattle.records.specs.Writing.{unsigned32, unsigned64, bytes64, field_bytes, long_bytes, head_of, record_of, calibration_record, annual_record}
use Rattle.records.proofs.WritingLaws.{parts_length}

-- ---- numbers

signed32_back : (z : ℤ) → mag z < 2147483648 → signed32 (unsigned32 z) ≡ z
unfolding signed32 unsigned32
signed32_back (pos n) h = rw (lt-ltb n 2147483648 h)
signed32_back (negsuc n) h =
    let past : 2147483648 ≤ 4294967295 - n = omega arith in
    let e : 4294967295 - (4294967295 - n) ≡ n = omega arith in
    rw (le-ltb (4294967295 - n) 2147483648 past, e)

unsigned32_lt : (z : ℤ) → mag z < 2147483648 → unsigned32 z < 4294967296
unfolding unsigned32
unsigned32_lt (pos n) h = omega arith
unsigned32_lt (negsuc n) h = omega arith

signed64_back : (z : ℤ) → mag z < 9223372036854775808 → signed64 (unsigned64 z) ≡ z
unfolding signed64 unsigned64
signed64_back (pos n) h = rw (lt-ltb n 9223372036854775808 h)
signed64_back (negsuc n) h =
    let past : 9223372036854775808 ≤ 18446744073709551615 - n = omega arith in
    let e : 18446744073709551615 - (18446744073709551615 - n) ≡ n = omega arith in
    rw (le-ltb (18446744073709551615 - n) 9223372036854775808 past, e)

unsigned64_lt : (z : ℤ) → mag z < 9223372036854775808 → unsigned64 z < 18446744073709551616
unfolding unsigned64
unsigned64_lt (pos n) h = omega arith
unsigned64_lt (negsuc n) h = omega arith

module _ (rest : List ℕ) where
  le32_of : (n : ℕ) → n < 4294967296 → le32 (bytes32 n ++ rest) 0 ≡ n
  unfolding le32 le16 bytes32 bytes16
  le32_of n h = omega arith

  long_of : (n : ℕ) → n < 18446744073709551616 → le32 (bytes64 n ++ rest) 0 + 4294967296 * le32 (bytes64 n ++ rest) 4 ≡ n
  unfolding bytes64 le32 le16 bytes32 bytes16
  long_of n h = omega arith

-- the number past the first bytes
le32_past : (first rest : List ℕ) (at n : ℕ) → at ≡ length first + n → le32 (first ++ rest) at ≡ le32 rest n
unfolding le32 le16
le32_past first rest at n e = rw (past at n e, past (at + 1) (n + 1) (omega arith), past (at + 2) (n + 2) (omega arith), past (at + 2 + 1) (n + 2 + 1) (omega arith)) refl
  where
    past : (i j : ℕ) → i ≡ length first + j → byte_at (first ++ rest) i ≡ byte_at rest j
    past i j e = ap (byte_at (first ++ rest)) e ∙ get_or-append-add first rest j 0

-- ---- what stands in a record

module _ (k m t : ℕ) where
  module _ (fields : List ℕ) where
    pub kind_back : kind (record_of k m t fields) ≡ k
    unfolding kind record_of
    kind_back = refl

    pub mark_back : mark (record_of k m t fields) ≡ m
    unfolding mark record_of
    mark_back = refl

    pub minute_back : t < 4294967296 → minute (record_of k m t fields) ≡ t
    unfolding minute record_of
    minute_back h =
        let four : length (k ∷ m ∷ 0 ∷ 0 ∷ []) ≡ 4 = refl in
        let rest : List ℕ = fields ++ replicate (32 - length fields) 0 in
        ap (λ (l : List ℕ). le32 l 4) (spread (k ∷ m ∷ 0 ∷ 0 ∷ []) (bytes32 t) fields _)
        ∙ le32_past (k ∷ m ∷ 0 ∷ 0 ∷ []) (bytes32 t ++ rest) 4 0 refl ∙ le32_of rest t h
      where
        spread : (a b c d : List ℕ) → a ++ b ++ c ++ d ≡ a ++ (b ++ (c ++ d))
        spread a b c d = simp append_assoc

    -- a mark of its kind, and no field past the end of that kind's
    pub formed_back : (leb 1 k && leb k 8) ≡ true → m ≤ mark_limit k → 8 + length fields ≤ fields_end k → formed_of (record_of k m t fields) ≡ true
    unfolding formed_of plain_of kind mark record_of
    formed_back h a b = rw (h, le-leb m (mark_limit k) a, stray) refl
      where
        parts : List ℕ
        parts = head_of k m t ++ fields

        zeros : List ℕ
        zeros = replicate (32 - length fields) 0

        past : ℕ
        past = fields_end k - length parts

        end : fields_end k ≡ length parts + past
        end = omega (arith, parts_length k m t fields)

        stray : all_zero_of (drop (fields_end k) (parts ++ zeros)) ≡ true
        stray = rw (end, drop-append-add parts zeros past, drop-replicate {X = ℕ} past (32 - length fields) 0) (replicate_zero (32 - length fields - past))

  -- a field, between others
  module _ (front rest : List ℕ) (at : ℕ) (e : at ≡ 8 + length front) where
    number_in : (new : List ℕ) (n i : ℕ) → i ≡ at + n
        → le32 (record_of k m t (front ++ new ++ rest)) i ≡ le32 (new ++ (rest ++ replicate (32 - length (front ++ new ++ rest)) 0)) n
    unfolding record_of
    number_in new n i f =
        ap (λ (l : List ℕ). le32 l i) (spread (head_of k m t) front new rest _)
        ∙ le32_past (head_of k m t ++ front) _ i n (omega (arith, parts_length k m t front))
      where
        spread : (a b c d z : List ℕ) → a ++ (b ++ c ++ d) ++ z ≡ (a ++ b) ++ (c ++ (d ++ z))
        spread a b c d z = simp append_assoc

    pub count_back : (n : ℕ) → n < 2147483648 → field_of (record_of k m t (front ++ bytes32 n ++ rest)) at ≡ pos n
    unfolding field_of signed32
    count_back n h = ap signed32 (number_in (bytes32 n) 0 at (omega arith) ∙ le32_of _ n (omega arith)) ∙ rw (lt-ltb n 2147483648 h)

    pub field_back : (z : ℤ) → SFits w32 z → field_of (record_of k m t (front ++ field_bytes z ++ rest)) at ≡ z
    unfolding field_of
    field_back z f =
        ap signed32 (number_in (field_bytes z) 0 at (omega arith) ∙ le32_of _ (unsigned32 z) (unsigned32_lt z (omega (arith, f.sfits))))
        ∙ signed32_back z (omega (arith, f.sfits))

    pub long_field_back : (z : ℤ) → SFits w64 z → long_field_of (record_of k m t (front ++ long_bytes z ++ rest)) at ≡ z
    unfolding long_field_of
    long_field_back z f =
        let low = number_in (long_bytes z) 0 at (omega arith) in
        let high = number_in (long_bytes z) 4 (at + 4) refl in
        rw (low, high) (ap signed64 (long_of _ (unsigned64 z) (unsigned64_lt z (omega (arith, f.sfits)))) ∙ signed64_back z (omega (arith, f.sfits)))

-- ---- the closings

-- what a calibration closing stores fits its fields
pub record Stored (c : Fitted) : Type 0 where
  pub slope : SFits w32 c.line.slope
  pub intercept : SFits w64 c.line.intercept
  pub top : SFits w32 c.top.0
  pub count : c.count ≤ 30

same_refl : (z : ℤ) → sameℤ z z ≡ true
same_refl z = rw (le_le_z (≤ℤ_refl z))

module _ (c : Fitted) (m : ℕ) (z : ℤ) where
  pub calibration_formed : formed_of (calibration_record c m z) ≡ true
  unfolding calibration_record mark_limit fields_end bytes64 bytes32 bytes16
  calibration_formed = formed_back 5 (pass_mark_of c) m _ refl (by_mark c.passed) (omega arith)
    where
      by_mark : (b : Bool) → (if b then 1 else 0) ≤ 1
      by_mark true = omega arith
      by_mark false = omega arith

  pub calibration_kind : kind (calibration_record c m z) ≡ 5
  unfolding calibration_record
  calibration_kind = kind_back 5 (pass_mark_of c) m _

  pub calibration_minute : m < 4294967296 → minute (calibration_record c m z) ≡ m
  unfolding calibration_record
  calibration_minute = minute_back 5 (pass_mark_of c) m _

  pub calibration_z : SFits w32 z → z_of (calibration_record c m z) ≡ z
  unfolding z_of calibration_record bytes64 bytes32 bytes16
  calibration_z = field_back 5 (pass_mark_of c) m [] _ 8 refl z

  pub calibration_stores : Stored c → stores_fit_of c (calibration_record c m z) ≡ true
  unfolding stores_fit_of calibration_record bytes64 bytes32 bytes16
  calibration_stores S =
      let Z = field_bytes z in
      let slope = field_bytes c.line.slope in
      let intercept = long_bytes c.line.intercept in
      let top = field_bytes c.top.0 in
      let k = pass_mark_of c in
      rw (
        mark_back 5 k m (Z ++ slope ++ intercept ++ top ++ bytes32 c.count),
        field_back 5 k m Z (intercept ++ top ++ bytes32 c.count) 12 refl c.line.slope S.slope,
        long_field_back 5 k m (Z ++ slope) (top ++ bytes32 c.count) 16 refl c.line.intercept S.intercept,
        field_back 5 k m (Z ++ slope ++ intercept) (bytes32 c.count) 24 refl c.top.0 S.top,
        count_back 5 k m (Z ++ slope ++ intercept ++ top) [] 28 refl c.count (omega (arith, S.count)),
        eq-eqb k k refl,
        same_refl c.line.slope,
        same_refl c.line.intercept,
        same_refl c.top.0,
        same_refl (pos c.count),
      )

module _ (t : Tested) (n m : ℕ) where
  pub annual_formed : formed_of (annual_record t n m) ≡ true
  unfolding annual_record mark_limit fields_end bytes32 bytes16
  annual_formed = formed_back 6 (test_mark_of t) m _ refl (by_marks t.variability t.function) (omega arith)
    where
      by_marks : (a b : Bool) → (if a then 1 else 0) + (if b then 2 else 0) ≤ 3
      by_marks true true = omega arith
      by_marks true false = omega arith
      by_marks false true = omega arith
      by_marks false false = omega arith

  pub annual_kind : kind (annual_record t n m) ≡ 6
  unfolding annual_record
  annual_kind = kind_back 6 (test_mark_of t) m _

  pub annual_minute : m < 4294967296 → minute (annual_record t n m) ≡ m
  unfolding annual_record
  annual_minute = minute_back 6 (test_mark_of t) m _

  pub annual_stores : n ≤ 30 → stores_test_of t n (annual_record t n m) ≡ true
  unfolding stores_test_of annual_record bytes32 bytes16
  annual_stores h =
      rw (mark_back 6 (test_mark_of t) m (bytes32 n), count_back 6 (test_mark_of t) m [] [] 8 refl n (omega arith), eq-eqb (test_mark_of t) (test_mark_of t) refl, same_refl (pos n))
