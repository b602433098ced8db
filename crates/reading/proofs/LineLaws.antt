-- Laws of the printed lines: the digits, how long a line can be, and the lines of blocks one after another.
use Rattle.std.specs.Prelude.{◌≡◌, refl, Bool, true, false, List, [], ◌∷◌, ◌++◌, ℕ, zero, suc, ◌+◌, ◌*◌, ◌/◌, ◌%◌, ◌^◌, ◌≤◌, ◌<◌, ltb, eqb, length, take, drop, Some, None, if◌then◌else◌}
use Rattle.std.specs.Fmt.{decimal}
use Rattle.std.specs.Simd.{first_chunks}
use Rattle.std.proofs.Common.{sym, ap, ◌∙◌, get_or, get_or-take, append-nil, append_assoc, length-append, lt-ltb, le-ltb, eq-eqb, ne_eqb, add-zero}
use Rattle.std.proofs.lemmas.Fmt.{AppendsLastDigit, decimal_from_appends, length-decimal-le}
use native.Mathlib.Omega.{arith}
use Rattle.charts.specs.Tests.{if_all}
use Rattle.records.specs.Bytes.{byte_at}
use Rattle.file.specs.declared.Report.{Report}
use Rattle.reading.specs.Telling.{lines_of_blocks}
use Rattle.reading.specs.Lines.{alarms_word, usable, yes, no, dash, newline, decimal_from, decimal_of, place_text, yes_or_no_of, flags_text, taken_line, refused_line, stopped_line, report_line, taken_lines}

-- ---- numbers

appends_last : AppendsLastDigit decimal_from
unfolding decimal_from
appends_last = record {
  one = λ k n h. rw (lt-ltb n 10 h);
  more = λ k n h. rw (le-ltb n 10 h);
}

-- what is printed for a number of 64 bits
pub decimal_text : (n : ℕ) → n < 2 ^ 64 → decimal n ≡ decimal_of n
unfolding decimal_of
decimal_text n h = sym (decimal_from_appends decimal_from appends_last 20 n h (length-decimal-le 20 n (omega arith) (omega arith) h))

-- ---- lengths

from_length : (most n : ℕ) → length (decimal_from most n) ≤ most
unfolding decimal_from
from_length zero n = omega arith
from_length (suc most) n =
    if_all (λ (l : List ℕ). length l ≤ suc most) (ltb n 10) _ _ (λ t. omega arith)
    λ t. omega (arith, length-append (decimal_from most (n / 10)) ((48 + n % 10) ∷ []), from_length most (n / 10))

pub decimal_length : (n : ℕ) → length (decimal_of n) ≤ 20
unfolding decimal_of
decimal_length n = from_length 20 n

pub place_length : (place : ℕ) → length (place_text place) ≤ 20
unfolding place_text
place_length place = if_all (λ (l : List ℕ). length l ≤ 20) (eqb place 255) _ _ (λ t. omega arith) (λ t. decimal_length place)

-- no line of a block is longer than 80 bytes
pub taken_length : (number count : ℕ) → length (taken_line number count) ≤ 80
unfolding taken_line
taken_length number count = simp length-append (omega (arith, decimal_length number, decimal_length count))

pub refused_length : (number refusal place : ℕ) → length (refused_line number refusal place) ≤ 80
unfolding refused_line
refused_length number refusal place = simp length-append (omega (arith, decimal_length number, decimal_length refusal, place_length place))

-- ---- places

pub place_none : (place : ℕ) → place ≡ 255 → place_text place ≡ dash
unfolding place_text
place_none place e = rw (eq-eqb place 255 e)

pub place_some : (place : ℕ) → (place ≡ 255 → ⊥) → place_text place ≡ decimal_of place
unfolding place_text
place_some place n = rw (ne_eqb place 255 n)

pub stopped_none : (number refusal place : ℕ) → place ≡ 255 → refused_line number refusal place ≡ stopped_line number refusal None
unfolding refused_line
stopped_none number refusal place e = rw (place_none place e)

pub stopped_some : (number refusal place : ℕ) → (place ≡ 255 → ⊥) → refused_line number refusal place ≡ stopped_line number refusal (Some place)
unfolding refused_line
stopped_some number refusal place n = rw (place_some place n)

-- ---- the last line, as the code puts it together

pub report_text : (o : List ℕ) (r : Report) → (((((o ++ alarms_word) ++ flags_text r.zero) ++ flags_text r.span) ++ usable) ++ yes_or_no_of r.usable) ++ newline ≡ o ++ report_line r
unfolding report_line
report_text o r = simp append_assoc (ap (λ (l : List ℕ). o ++ (alarms_word ++ flags_text r.zero ++ flags_text r.span ++ usable ++ l)) (go r.usable))
  where
    go : (b : Bool) → yes_or_no_of b ++ newline ≡ (if b then yes else no)
    go true = refl
    go false = refl

-- ---- the lines of the blocks taken, one after another

pub lines_of_chunks : (n first : ℕ) (bytes : List ℕ) → lines_of_blocks first (first_chunks 512 n bytes) ≡ taken_lines n first bytes
unfolding taken_lines
lines_of_chunks zero first bytes = refl
lines_of_chunks (suc n) first bytes = rw (get_or-take 512 bytes 9 0 (omega arith), lines_of_chunks n (first + 1) (drop 512 bytes))

-- the first k of n blocks are the first k of the bytes
pub chunks_front : (k n : ℕ) (bytes : List ℕ) → k ≤ n → take k (first_chunks 512 n bytes) ≡ first_chunks 512 k bytes
chunks_front zero n bytes h = refl
chunks_front (suc k) zero bytes h = absurd (omega arith)
chunks_front (suc k) (suc n) bytes h = ap (λ (l : List (List ℕ)). take 512 bytes ∷ l) (chunks_front k n (drop 512 bytes) (omega arith))

-- one block more
pub lines_more : (first k : ℕ) (blocks : List (List ℕ)) (d : List ℕ) → k < length blocks
    → lines_of_blocks first (take (k + 1) blocks) ≡ lines_of_blocks first (take k blocks) ++ taken_line (first + k) (byte_at (get_or blocks k d) 9)
lines_more first k [] d h = absurd (omega arith)
lines_more first zero (block ∷ blocks) d h = rw (add-zero first) (append-nil _)
lines_more first (suc k) (block ∷ blocks) d h =
    let e : suc k + 1 ≡ suc (k + 1) = omega arith in
    let f : first + 1 + k ≡ first + suc k = omega arith in
    let line : List ℕ = taken_line first (byte_at block 9) in
    let rest : List ℕ = lines_of_blocks (first + 1) (take k blocks) in
    let last : ℕ = byte_at (get_or blocks k d) 9 in
    ap (λ (n : ℕ). lines_of_blocks first (take n (block ∷ blocks))) e ∙ ap (λ (l : List ℕ). line ++ l) (lines_more (first + 1) k blocks d (omega arith))
    ∙ sym (append_assoc line rest (taken_line (first + 1 + k) last)) ∙ ap (λ (n : ℕ). line ++ rest ++ taken_line n last) f

pub lines_length : (n first : ℕ) (bytes : List ℕ) → length (taken_lines n first bytes) ≤ 80 * n
unfolding taken_lines
lines_length zero first bytes = omega arith
lines_length (suc n) first bytes =
    omega (arith, length-append (taken_line first (byte_at bytes 9)) (taken_lines n (first + 1) (drop 512 bytes)), taken_length first (byte_at bytes 9), lines_length n (first + 1) (drop 512 bytes))
