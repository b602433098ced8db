-- Laws of bytes that are read and written.
use Rattle.std.specs.Prelude.{◌≡◌, refl, Bool, true, ◌&&◌, ℕ, zero, suc, ◌+◌, ◌-◌, ◌<◌, ◌≤◌, eqb, length, get_or, take, drop, replicate}
use Rattle.std.proofs.Common.{List, [], ◌∷◌, ◌++◌, append_assoc, sym, ap, ◌∙◌, arith, add-one, length-append, length-take, length-drop, drop_of_length-le, take_at, drop-drop, drop-cons, get_or-append-add, eqb-true}
use Rattle.std.proofs.Math.Bool.{and_assoc}
use Rattle.std.proofs.Math.Seq.{drop-append-add}
use Rattle.std.proofs.lemmas.List.{append-nil, drop-replicate, get_or-drop}
use Rattle.std.proofs.lemmas.Nat.{le_bytes_2, le_bytes_4}
use Rattle.std.proofs.lemmas.Bool.{and_parts}
use Rattle.records.specs.Bytes.{AllBytes, le16, le32, all_zero_of, written, bytes16, bytes32}
use Rattle.records.specs.LittleEndian.{from_le_bytes_16, from_le_bytes_32, to_le_bytes_16, to_le_bytes_32}

-- ---- writing

module _ (bytes : List ℕ) (at : ℕ) (new : List ℕ) (h : at + length new ≤ length bytes) where
  -- up to the end of what is written
  head_length : length (take at bytes ++ new) ≡ at + length new
  head_length = simp (length-append, length-take) (omega arith)

  -- writing keeps the length
  pub written_length : length (written bytes at new) ≡ length bytes
  written_length = simp (length-append, length-take, length-drop) (omega arith)

  -- more is written at the end of what was written
  pub written_more : (more : List ℕ) (end : ℕ) → end ≡ at + length new
      → written (written bytes at new) end more ≡ written bytes at (new ++ more)
  written_more more end e =
      let front = take at bytes ++ new in
      let rest = drop (at + length new) bytes in
      let count : at + length new + length more ≡ at + length (new ++ more) = omega (arith, length-append new more) in
      let f : take end (front ++ rest) ≡ front = take_at front rest end (head_length ∙ sym e) in
      let g : drop (end + length more) (front ++ rest) ≡ drop (at + length (new ++ more)) bytes =
      ap (λ (n : ℕ). drop (n + length more) (front ++ rest)) (e ∙ sym head_length)
      ∙ drop-append-add front rest (length more)
      ∙ drop-drop (length more) (at + length new) bytes
      ∙ ap (λ (n : ℕ). drop n bytes) count in
      let after : List ℕ = drop (at + length (new ++ more)) bytes in
      rw (f, g) (ap (λ (l : List ℕ). l ++ after) (append_assoc (take at bytes) new more))

-- what is written over all the bytes
pub written_whole : (bytes new : List ℕ) → length new ≡ length bytes → written bytes 0 new ≡ new
written_whole bytes new h =
    let past : length bytes ≤ 0 + length new = omega arith in
    let e : drop (0 + length new) bytes ≡ [] = drop_of_length-le bytes past in
    rw (e, append-nil)

-- what is written into zeros, with those that are left past it
pub zeros_written : (n : ℕ) (new : List ℕ) → written (replicate n 0) 0 new ≡ new ++ replicate (n - length new) 0
zeros_written n new =
    let start : 0 + length new ≡ length new = omega arith in
    rw (start, drop-replicate {X = ℕ} (length new) n 0) refl

-- ---- numbers

pub bytes16_length : (n : ℕ) → length (bytes16 n) ≡ 2
unfolding bytes16
bytes16_length n = refl

pub bytes32_length : (n : ℕ) → length (bytes32 n) ≡ 4
unfolding bytes16 bytes32
bytes32_length n = refl

-- the bytes of a number give it back
pub le16_of : (n : ℕ) → n < 65536 → le16 (bytes16 n) 0 ≡ n
unfolding le16 bytes16
le16_of n h = omega arith

-- a number past the first bytes
pub le16_past : (first rest : List ℕ) (at : ℕ) → length first ≡ at → le16 (first ++ rest) at ≡ le16 rest 0
unfolding le16
le16_past first rest at e =
    let start : at ≡ length first + 0 = omega arith in
    let zero-past : get_or (first ++ rest) at 0 ≡ get_or rest 0 0 =
    ap (λ (n : ℕ). get_or (first ++ rest) n 0) start ∙ get_or-append-add first rest 0 0 in
    let one-past : get_or (first ++ rest) (at + 1) 0 ≡ get_or rest 1 0 =
    ap (λ (n : ℕ). get_or (first ++ rest) (n + 1) 0) (sym e) ∙ get_or-append-add first rest 1 0 in
    rw (zero-past, one-past)

pub take_two : (bytes : List ℕ) (at : ℕ) → at + 2 ≤ length bytes
    → take 2 (drop at bytes) ≡ get_or bytes at 0 ∷ get_or bytes (at + 1) 0 ∷ []
take_two bytes at h =
    let one : at < length bytes = omega arith in
    let two : suc at < length bytes = omega arith in
    rw (add-one at, drop-cons bytes at 0 one, drop-cons bytes (suc at) 0 two)

-- ---- parts of bytes are bytes

pub bytes_take : (n : ℕ) (l : List ℕ) → AllBytes l → AllBytes (take n l)
bytes_take zero l b at = omega arith
bytes_take (suc n) [] b at = b at
bytes_take (suc n) (x ∷ l) b zero = b 0
bytes_take (suc n) (x ∷ l) b (suc at) = bytes_take n l (λ i. b (suc i)) at

pub bytes_drop : (n : ℕ) (l : List ℕ) → AllBytes l → AllBytes (drop n l)
bytes_drop n l b at = rw get_or-drop (b (n + at))

-- ---- the number of some bytes gives them back

module _ (bytes : List ℕ) (small : AllBytes bytes) (at : ℕ) where
  pub le16_back : at + 2 ≤ length bytes → bytes16 (le16 bytes at) ≡ take 2 (drop at bytes)
  le16_back h =
      sym (to_le_bytes_16 (le16 bytes at))
      ∙ le_bytes_2 (take 2 (drop at bytes)) (le16 bytes at) (simp (length-take, length-drop) (omega arith))
      (bytes_take 2 (drop at bytes) (bytes_drop at bytes small)) (sym (from_le_bytes_16 bytes at))

  pub le32_back : at + 4 ≤ length bytes → bytes32 (le32 bytes at) ≡ take 4 (drop at bytes)
  le32_back h =
      sym (to_le_bytes_32 (le32 bytes at))
      ∙ le_bytes_4 (take 4 (drop at bytes)) (le32 bytes at) (simp (length-take, length-drop) (omega arith))
      (bytes_take 4 (drop at bytes) (bytes_drop at bytes small)) (sym (from_le_bytes_32 bytes at))

-- ---- zeros

pub zero_append : (a b : List ℕ) → all_zero_of (a ++ b) ≡ (all_zero_of a && all_zero_of b)
unfolding all_zero_of
zero_append [] b = refl
zero_append (x ∷ a) b =
    ap (λ (t : Bool). eqb x 0 && t) (zero_append a b)
    ∙ sym (and_assoc (eqb x 0) (all_zero_of a) (all_zero_of b))

pub replicate_zero : (n : ℕ) → all_zero_of (replicate n 0) ≡ true
unfolding all_zero_of
replicate_zero zero = refl
replicate_zero (suc n) = replicate_zero n

-- bytes that are all zero are as many zeros
pub zero_is : (l : List ℕ) → all_zero_of l ≡ true → l ≡ replicate (length l) 0
unfolding all_zero_of
zero_is [] h = refl
zero_is (x ∷ l) h =
    let both = and_parts (eqb x 0) (all_zero_of l) h in
    rw (eqb-true x 0 both.0) (ap (λ (r : List ℕ). 0 ∷ r) (zero_is l both.1))
