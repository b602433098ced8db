-- What is printed: the lines of a piece from their parts, and the pieces of an input.
use Rattle.std.specs.Prelude.{◌≡◌, refl, Bool, true, false, not, ◌&&◌, take, drop, Result, Ok, Err, Some, None, IfSome, if◌then◌else◌}
use Rattle.std.specs.Simd.{first_chunks}
use Rattle.std.specs.Result.{is_ok}
use Rattle.std.specs.declared.option.Option.{Option}
use Rattle.std.proofs.lemmas.Bool.{and_parts, false≢true}
use Rattle.std.proofs.Math.Path.{sym, ap}
use Rattle.std.proofs.Common.{subst, ◌∙◌, zero-add, suc-add, length-take, length-drop, get_or-take, take-append-drop}
use mathlib.Core.List.{List, [], ◌∷◌, ◌++◌, append-nil, append_assoc}
use Prim.Native.Nat.{ℕ, zero, suc, ◌+◌, ◌-◌, ◌*◌, ◌/◌, ◌%◌, ◌≤◌, ◌<◌}
use native.Mathlib.Omega.{arith}
use borrow.Author.Tests.{eq-eqb, ne_eqb, eqb-true, eqb-false, le-leb, lt-leb}
use Rattle.std.proofs.Math.Dec.{eqb}
use Rattle.std.proofs.Math.ListN.{length, length-append, get_or-append}
use Rattle.std.proofs.Math.Seq.{take-length, take-append-add}
use Rattle.std.proofs.lemmas.List.{take-append-le, drop-append-le}
use Rattle.charts.specs.Tests.{if_yes, if_no, if_all}
use Rattle.refusals.specs.Rows.{number_of}
use Rattle.refusals.proofs.RowLaws.{some_row}
use Rattle.records.specs.Bytes.{byte_at, le16, le32}
use Rattle.records.specs.State.{initial_of}
use Rattle.records.specs.declared.state.State.{State}
use Rattle.blocks.proofs.BlockRoundTrip.{drop_take}
use Rattle.file.specs.Taking.{Took, take_blocks, run_refusal, taking}
use Rattle.file.specs.Calls.{machine}
use Rattle.file.specs.Answered.{PlaceOfTwelve, place_number, place_of, row_of, take_of}
use Rattle.file.specs.Statement.{report_of}
use Rattle.file.proofs.RunsOfBlocks.{Ready, initial_ready, added, taking_few, taking_all, taking_ready, taking_refused, taking_next, taking_on, taking_stop}
use Rattle.file.specs.declared.Refused.{Refused}
use Rattle.reading.specs.Lines.{taken_lines, refused_line, stopped_line, report_line}
use Rattle.reading.specs.Telling.{lines_of_blocks, stop_text}
use Rattle.reading.proofs.LineLaws.{chunks_front, lines_length, lines_of_chunks, refused_length, stopped_none, stopped_some}
use Rattle.reading.specs.Output.{file_analyser, whole_of, took_of, past_of, end_line, lines_of, output_of, goes_on, pieces_from}

-- ---- the first block's analyser number

pub analyser_none : (bytes : List ℕ) → length bytes + 1 ≤ 512 → file_analyser bytes ≡ 0
unfolding file_analyser
analyser_none bytes h = rw (lt-leb 512 (length bytes) (omega arith))

pub analyser_first : (bytes : List ℕ) → 512 ≤ length bytes → file_analyser bytes ≡ le32 bytes 0
unfolding file_analyser
analyser_first bytes h = rw (le-leb 512 (length bytes) h)

pub number_front : (a b : List ℕ) → 4 ≤ length a → le32 (a ++ b) 0 ≡ le32 a 0
unfolding le16 le32
number_front a b h =
    let e : byte_at (a ++ b) 0 ≡ byte_at a 0 = get_or-append a b 0 0 (omega arith) in
    let f : byte_at (a ++ b) 1 ≡ byte_at a 1 = get_or-append a b 0 1 (omega arith) in
    let g : byte_at (a ++ b) 2 ≡ byte_at a 2 = get_or-append a b 0 2 (omega arith) in
    let i : byte_at (a ++ b) 3 ≡ byte_at a 3 = get_or-append a b 0 3 (omega arith) in
    omega arith

-- the number that stands in the first whole block
pub analyser_chunk : (bytes block : List ℕ) → 512 ≤ length bytes → block ≡ take 512 bytes → file_analyser bytes ≡ le32 block 0
analyser_chunk bytes block h e =
    let l : 4 ≤ length (take 512 bytes) = simp length-take (omega arith) in
    analyser_first bytes h ∙ ap (λ (l : List ℕ). le32 l 0) (sym (take-append-drop 512 bytes)) ∙ number_front (take 512 bytes) (drop 512 bytes) l ∙ ap (λ (l : List ℕ). le32 l 0) (sym e)

-- ---- the line of what ends the reading

module _ (t : Took State) (size : ℕ) where
  pub end_refused : (t.refusal ≡ 0 → ⊥) → end_line t size ≡ refused_line t.kept.next t.refusal t.place
  unfolding end_line
  end_refused h = rw (ne_eqb t.refusal 0 h)

  pub end_tail : t.refusal ≡ 0 → (size % 512 ≡ 0 → ⊥) → end_line t size ≡ refused_line t.kept.next 1 255
  unfolding end_line
  end_tail e h = rw (eq-eqb t.refusal 0 e, ne_eqb (size % 512) 0 h)

  pub end_none : t.refusal ≡ 0 → size % 512 ≡ 0 → end_line t size ≡ []
  unfolding end_line
  end_none e h = rw (eq-eqb t.refusal 0 e, eq-eqb (size % 512) 0 h)

pub end_length : (t : Took State) (size : ℕ) → length (end_line t size) ≤ 80
unfolding end_line
end_length t size =
    if_all (λ (l : List ℕ). length l ≤ 80) (not (eqb t.refusal 0)) _ _ (λ _. refused_length t.kept.next t.refusal t.place)
    λ _. if_all (λ (l : List ℕ). length l ≤ 80) (not (eqb (size % 512) 0)) _ _ (λ _. refused_length t.kept.next 1 255) λ _. omega arith

stopped_refused : (number row : ℕ) (place : Option ℕ) → IfSome place (λ p. p < 12) → stopped_line number row place ≡ refused_line number row (place_number place)
stopped_refused number row None h = sym (stopped_none number row 255 refl)
stopped_refused number row (Some p) h = sym (stopped_some number row p (λ e. omega (arith, h)))

-- a refused block, or a tail that is empty
pub stop_line : (st : State) (blocks : ℕ) (ended : Result (Unit {0}) Refused) (size : ℕ) → PlaceOfTwelve ended → (is_ok ended ≡ true → size % 512 ≡ 0)
    → stop_text st.next ended ≡ end_line (record { blocks = blocks; kept = st; refusal = row_of ended; place = place_of ended }) size
stop_line st blocks (Ok u) size h f = sym (end_none (record { blocks = blocks; kept = st; refusal = 0; place = 255 }) size refl (f refl))
stop_line st blocks (Err e) size h f =
    stopped_refused st.next (number_of e.row) e.place h ∙ sym (end_refused (record { blocks = blocks; kept = st; refusal = number_of e.row; place = place_number e.place }) size (some_row e.row))

-- a short tail
pub stop_tail : (st : State) (blocks : ℕ) (ended : Result (Unit {0}) Refused) (size : ℕ) → is_ok ended ≡ true → (size % 512 ≡ 0 → ⊥)
    → stopped_line st.next 1 None ≡ end_line (record { blocks = blocks; kept = st; refusal = row_of ended; place = place_of ended }) size
stop_tail st blocks (Ok u) size o n = sym (stopped_none st.next 1 255 refl) ∙ sym (end_tail (record { blocks = blocks; kept = st; refusal = 0; place = 255 }) size refl n)
stop_tail st blocks (Err e) size o n = absurd (false≢true o)

-- of the size, only the tail counts
end_size : (t : Took State) (a b : ℕ) → a % 512 ≡ b % 512 → end_line t a ≡ end_line t b
unfolding end_line
end_size t a b e = rw e

end_added : (n : ℕ) (t : Took State) (size : ℕ) → end_line (added machine n t) size ≡ end_line t size
unfolding end_line
end_added n t size = refl

-- ---- what stands behind a refused block

pub past_none : (t : Took State) (size : ℕ) → t.refusal ≡ 0 → past_of t size ≡ 0
unfolding past_of
past_none t size e = rw (eq-eqb t.refusal 0 e)

pub past_most : (t : Took State) (size : ℕ) → past_of t size ≤ size
unfolding past_of
past_most t size = if_all (λ (n : ℕ). n ≤ size) (eqb t.refusal 0) 0 (size - 512 * (t.blocks + 1)) (λ e. omega arith) (λ e. omega arith)

-- of less than a block
pub past_short : (t : Took State) (size : ℕ) → size < 512 → past_of t size ≡ 0
unfolding past_of
past_short t size h = if_all (λ (n : ℕ). n ≡ 0) (eqb t.refusal 0) 0 (size - 512 * (t.blocks + 1)) (λ e. omega arith) (λ e. omega (arith, h))

-- with n blocks more in front
past_added : (n : ℕ) (t : Took State) (size : ℕ) → past_of (added machine n t) (512 * n + size) ≡ past_of t size
unfolding past_of
past_added n t size = ap (λ (m : ℕ). if eqb t.refusal 0 then 0 else m) (omega arith)

-- with some bytes more behind
past_behind : (t : Took State) (size more : ℕ) → (t.refusal ≡ 0 → ⊥) → 512 * (t.blocks + 1) ≤ size → past_of t (size + more) ≡ more + past_of t size
unfolding past_of
past_behind t size more n h = rw (ne_eqb t.refusal 0 n) (omega arith)

-- ---- reading goes on

module _ (st : State) (bytes : List ℕ) where
  goes_on_lem : (took_of st bytes).refusal ≡ 0 → length bytes % 512 ≡ 0 → goes_on st bytes ≡ true
  unfolding goes_on
  goes_on_lem e f = rw (eq-eqb (took_of st bytes).refusal 0 e, eq-eqb (length bytes % 512) 0 f)

  goes_not : ((took_of st bytes).refusal ≡ 0 → ⊥) → goes_on st bytes ≡ false
  unfolding goes_on
  goes_not n = rw (ne_eqb (took_of st bytes).refusal 0 n)

  pub goes_refusal : goes_on st bytes ≡ true → (took_of st bytes).refusal ≡ 0
  unfolding goes_on
  goes_refusal o = eqb-true (took_of st bytes).refusal 0 (and_parts (eqb (took_of st bytes).refusal 0) (eqb (length bytes % 512) 0) o).0

either : (b : Bool) (l : List ℕ) → (if b then l else l) ≡ l
either true l = refl
either false l = refl

-- ---- the lines of blocks taken are those of the bytes of these blocks

pub lines_within : (n first : ℕ) (bytes : List ℕ) → taken_lines n first (take (512 * n) bytes) ≡ taken_lines n first bytes
unfolding taken_lines
lines_within zero first bytes = refl
lines_within (suc n) first bytes =
    let e : 512 * suc n - 512 ≡ 512 * n = omega arith in
    let d : drop 512 (take (512 * suc n) bytes) ≡ take (512 * n) (drop 512 bytes) = drop_take 512 (512 * suc n) bytes ∙ ap (λ (m : ℕ). take m (drop 512 bytes)) e in
    rw (get_or-take (512 * suc n) bytes 9 0 (omega arith), d, lines_within n (first + 1) (drop 512 bytes))

-- the lines of blocks in two parts
pub lines_append : (n m first : ℕ) (a b : List ℕ) → length a ≡ 512 * n → taken_lines (n + m) first (a ++ b) ≡ taken_lines n first a ++ taken_lines m (first + n) b
unfolding taken_lines
lines_append zero m first [] b e =
    let z : first + 0 ≡ first = omega arith in
    rw (zero-add m, z)
lines_append zero m first (x ∷ a) b e = absurd (omega arith)
lines_append (suc n) m first a b e =
    let f : byte_at (a ++ b) 9 ≡ byte_at a 9 = get_or-append a b 0 9 (omega arith) in
    let g : drop 512 (a ++ b) ≡ drop 512 a ++ b = drop-append-le 512 a b (omega arith) in
    let k : first + 1 + n ≡ first + suc n = omega arith in
    let r = lines_append n m (first + 1) (drop 512 a) b (length-drop 512 a ∙ omega arith) in
    rw (suc-add, f, g, r, k, append_assoc)

-- what comes after the blocks taken makes no difference
pub lines_front : (n first : ℕ) (a b : List ℕ) → n ≤ length a / 512 → taken_lines n first (a ++ b) ≡ taken_lines n first a
lines_front n first a b l =
    sym (lines_within n first (a ++ b)) ∙ ap (λ (x : List ℕ). taken_lines n first x) (take-append-le (512 * n) a b (omega arith)) ∙ lines_within n first a

-- ---- a piece

pub whole_length : (bytes : List ℕ) → length (whole_of bytes) ≡ 512 * (length bytes / 512)
unfolding whole_of
whole_length bytes = simp length-take (omega arith)

-- no more blocks are taken than there are
pub took_few : (st : State) (bytes : List ℕ) → (took_of st bytes).blocks ≤ length bytes / 512
unfolding took_of
took_few st bytes = omega (arith, taking_few machine st (whole_of bytes), whole_length bytes)

-- the run that is taken of a piece has n blocks: all that are whole
pub took_blocks : (st : State) (bytes : List ℕ) (t : Took State) (n : ℕ) → t ≡ take_of st (take (512 * n) bytes) → n ≡ length bytes / 512 → t ≡ took_of st bytes
unfolding took_of whole_of
took_blocks st bytes t n e l = e ∙ ap (λ (m : ℕ). take_of st (take (512 * m) bytes)) l

module _ (st : State) (bytes : List ℕ) (t : Took State) (e : t ≡ took_of st bytes) where
  pub take_few : t.blocks ≤ length bytes / 512
  take_few = omega (arith, ap (λ (x : Took State). x.blocks) e, took_few st bytes)

  -- the lines of the blocks taken, and then the line of what ends the reading
  pub told_lines : {all : List (List ℕ)} {a b : List ℕ} → all ≡ first_chunks 512 (length bytes / 512) bytes → a ≡ lines_of_blocks st.next (take t.blocks all) → b ≡ end_line t (length bytes % 512) → a ++ b ≡ lines_of st bytes
  unfolding lines_of
  told_lines {all} {a} {b} c p q =
      let f : a ≡ taken_lines t.blocks st.next bytes =
      p ∙ ap (λ (l : List (List ℕ)). lines_of_blocks st.next (take t.blocks l)) c ∙ ap (lines_of_blocks st.next) (chunks_front t.blocks (length bytes / 512) bytes take_few) ∙ lines_of_chunks t.blocks st.next bytes in
      let g : b ≡ end_line t (length bytes) = q ∙ end_size t (length bytes % 512) (length bytes) (omega arith) in
      ap (λ (l : List ℕ). l ++ b) f ∙ ap (λ (l : List ℕ). taken_lines t.blocks st.next bytes ++ l) g ∙ ap (λ (x : Took State). taken_lines x.blocks st.next bytes ++ end_line x (length bytes)) e

  pub told_more : (eqb t.refusal 0 && eqb (length bytes % 512) 0) ≡ goes_on st bytes
  unfolding goes_on
  told_more = ap (λ (x : Took State). eqb x.refusal 0 && eqb (length bytes % 512) 0) e

-- the text of a piece of at most 128 blocks
pub lines_room : (st : State) (bytes : List ℕ) → length bytes ≤ 65536 → length (lines_of st bytes) ≤ 10320
unfolding lines_of
lines_room st bytes h =
    let t : Took State = took_of st bytes in
    omega (arith, length-append (taken_lines t.blocks st.next bytes) (end_line t (length bytes)), lines_length t.blocks st.next bytes, end_length t (length bytes), took_few st bytes)

-- ---- PIECES MAKE NO DIFFERENCE

-- the bytes of pieces in a row
abbrev pub joined : List (List ℕ) → List ℕ
joined [] = []
joined (piece ∷ pieces) = piece ++ joined pieces

-- every piece but the last is of whole blocks, and of one at least
abbrev pub Pieces : List (List ℕ) → Type 0
Pieces [] = Unit {0}
Pieces (piece ∷ []) = Unit {0}
Pieces (piece ∷ next ∷ pieces) = (512 ≤ length piece) × (length piece % 512 ≡ 0) × Pieces (next ∷ pieces)

-- all that is printed, read with a state
abbrev pub printed : State → List ℕ → List ℕ
printed st bytes = lines_of st bytes ++ report_line (report_of (took_of st bytes).kept)

-- how many of them need not be read
abbrev pub unread : State → List ℕ → ℕ
unread st bytes = past_of (took_of st bytes) (length bytes)

-- a piece of whole blocks, and what comes after it
module _ (st : State) (piece rest : List ℕ) (R : Ready st) (h : length piece % 512 ≡ 0) where
  whole_piece : whole_of piece ≡ piece
  unfolding whole_of
  whole_piece =
      let e : 512 * (length piece / 512) ≡ length piece = omega arith in
      rw e (take-length piece)

  whole_joined : whole_of (piece ++ rest) ≡ piece ++ whole_of rest
  unfolding whole_of
  whole_joined =
      let l = length-append piece rest in
      let e : 512 * (length (piece ++ rest) / 512) ≡ length piece + 512 * (length rest / 512) = omega arith in
      rw e (take-append-add piece rest (512 * (length rest / 512)))

  whole_rest : length (whole_of rest) % 512 ≡ 0
  whole_rest = omega (arith, whole_length rest)

  took_piece : took_of st piece ≡ taking machine st piece
  unfolding took_of
  took_piece = ap (taking machine st) whole_piece

  refusal_piece : (took_of st piece).refusal ≡ (taking machine st piece).refusal
  refusal_piece = ap (λ (t : Took State). t.refusal) took_piece

  pub took_ready : Ready (took_of st piece).kept
  took_ready = subst (λ (t : Took State). Ready t.kept) (sym took_piece) (taking_ready st piece R)

  -- the state after the piece
  abbrev after : State
  after = (took_of st piece).kept

  -- all its blocks are taken, or the rest is not met
  took_on : (took_of st piece).refusal ≡ 0 → took_of st (piece ++ rest) ≡ added machine (length piece / 512) (took_of after rest)
  unfolding took_of
  took_on e =
      let f : (taking machine st piece).refusal ≡ 0 = sym refusal_piece ∙ e in
      ap (taking machine st) whole_joined ∙ taking_on st piece (whole_of rest) R h whole_rest f
      ∙ ap (λ (n : ℕ). added machine n (taking machine (taking machine st piece).kept (whole_of rest))) (taking_all machine st piece f)
      ∙ ap (λ (t : Took State). added machine (length piece / 512) (taking machine t.kept (whole_of rest))) (sym took_piece)

  took_stop : ((took_of st piece).refusal ≡ 0 → ⊥) → took_of st (piece ++ rest) ≡ took_of st piece
  unfolding took_of
  took_stop n = ap (taking machine st) whole_joined ∙ taking_stop st piece (whole_of rest) R h whole_rest (λ e. n (refusal_piece ∙ e)) ∙ sym took_piece

  -- the number that the rest begins with
  pub after_next : (took_of st piece).refusal ≡ 0 → after.next ≡ st.next + length piece / 512
  after_next e =
      ap (λ (t : Took State). t.kept.next) took_piece ∙ taking_next st piece
      ∙ ap (λ (n : ℕ). st.next + n) (taking_all machine st piece (sym refusal_piece ∙ e))

  lines_on : (took_of st piece).refusal ≡ 0 → lines_of st (piece ++ rest) ≡ lines_of st piece ++ lines_of after rest
  unfolding lines_of
  lines_on e =
      let n : ℕ = length piece / 512 in
      let t : Took State = took_of after rest in
      let a : List ℕ = taken_lines n st.next piece in
      let b : List ℕ = taken_lines t.blocks (st.next + n) rest in
      let z : List ℕ = end_line t (length rest) in
      let on = took_on e in
      let len = length-append piece rest in
      let taken : taken_lines (took_of st (piece ++ rest)).blocks st.next (piece ++ rest) ≡ a ++ b =
      ap (λ (x : Took State). taken_lines x.blocks st.next (piece ++ rest)) on ∙ lines_append n t.blocks st.next piece rest (omega arith) in
      let last : end_line (took_of st (piece ++ rest)) (length (piece ++ rest)) ≡ z =
      ap (λ (x : Took State). end_line x (length (piece ++ rest))) on ∙ end_added n t (length (piece ++ rest)) ∙ end_size t (length (piece ++ rest)) (length rest) (omega arith) in
      let count : (took_of st piece).blocks ≡ n = ap (λ (x : Took State). x.blocks) took_piece ∙ taking_all machine st piece (sym refusal_piece ∙ e) in
      let first : taken_lines (took_of st piece).blocks st.next piece ++ end_line (took_of st piece) (length piece) ≡ a =
      ap (λ (k : ℕ). taken_lines k st.next piece ++ end_line (took_of st piece) (length piece)) count ∙ ap (λ (l : List ℕ). a ++ l) (end_none (took_of st piece) (length piece) e h) ∙ append-nil a in
      ap (λ (l : List ℕ). l ++ end_line (took_of st (piece ++ rest)) (length (piece ++ rest))) taken ∙ ap (λ (l : List ℕ). a ++ b ++ l) last ∙ append_assoc a b z
      ∙ sym (ap (λ (l : List ℕ). l ++ (taken_lines t.blocks after.next rest ++ z)) first ∙ ap (λ (k : ℕ). a ++ (taken_lines t.blocks k rest ++ z)) (after_next e))

  lines_stop : ((took_of st piece).refusal ≡ 0 → ⊥) → lines_of st (piece ++ rest) ≡ lines_of st piece
  unfolding lines_of
  lines_stop n =
      let t : Took State = took_of st piece in
      ap (λ (x : Took State). taken_lines x.blocks st.next (piece ++ rest) ++ end_line x (length (piece ++ rest))) (took_stop n)
      ∙ ap (λ (l : List ℕ). l ++ end_line t (length (piece ++ rest))) (lines_front t.blocks st.next piece rest (took_few st piece))
      ∙ ap (λ (l : List ℕ). taken_lines t.blocks st.next piece ++ l) (end_refused t (length (piece ++ rest)) n ∙ sym (end_refused t (length piece) n))

  printed_on : (took_of st piece).refusal ≡ 0 → printed st (piece ++ rest) ≡ lines_of st piece ++ printed after rest
  printed_on e =
      ap (λ (t : Took State). lines_of st (piece ++ rest) ++ report_line (report_of t.kept)) (took_on e)
      ∙ ap (λ (l : List ℕ). l ++ report_line (report_of (took_of after rest).kept)) (lines_on e)
      ∙ append_assoc (lines_of st piece) (lines_of after rest) (report_line (report_of (took_of after rest).kept))

  printed_stop : ((took_of st piece).refusal ≡ 0 → ⊥) → printed st (piece ++ rest) ≡ printed st piece
  printed_stop n =
      ap (λ (t : Took State). lines_of st (piece ++ rest) ++ report_line (report_of t.kept)) (took_stop n)
      ∙ ap (λ (l : List ℕ). l ++ report_line (report_of after)) (lines_stop n)

  unread_on : (took_of st piece).refusal ≡ 0 → unread st (piece ++ rest) ≡ unread after rest
  unread_on e =
      let n : ℕ = length piece / 512 in
      let l : length (piece ++ rest) ≡ 512 * n + length rest = omega (arith, length-append piece rest) in
      ap (λ (t : Took State). past_of t (length (piece ++ rest))) (took_on e) ∙ ap (past_of (added machine n (took_of after rest))) l
      ∙ past_added n (took_of after rest) (length rest)

  unread_stop : ((took_of st piece).refusal ≡ 0 → ⊥) → unread st (piece ++ rest) ≡ length rest + unread st piece
  unread_stop n =
      let t : Took State = took_of st piece in
      let m = taking_refused st piece R.ready h (λ e. n (refusal_piece ∙ e)) in
      let k = ap (λ (x : Took State). x.blocks) took_piece in
      ap (λ (x : Took State). past_of x (length (piece ++ rest))) (took_stop n) ∙ ap (past_of t) (length-append piece rest)
      ∙ past_behind t (length piece) (length rest) n (omega (arith, m, k))

  -- the rest is unread where a block of the piece was refused
  pub unread_next : unread st (piece ++ rest) ≡ (if goes_on st piece then unread after rest else (length rest + unread st piece))
  unread_next = go (eqb (took_of st piece).refusal 0) refl
    where
      go : (b : Bool) → eqb (took_of st piece).refusal 0 ≡ b → unread st (piece ++ rest) ≡ (if goes_on st piece then unread after rest else (length rest + unread st piece))
      go true f =
          let e = eqb-true (took_of st piece).refusal 0 f in
          unread_on e ∙ sym (if_yes (goes_on st piece) (unread after rest) (length rest + unread st piece) (goes_on_lem st piece e h))
      go false f =
          let n = eqb-false (took_of st piece).refusal 0 f in
          unread_stop n ∙ sym (if_no (goes_on st piece) (unread after rest) (length rest + unread st piece) (goes_not st piece n))

  -- the piece, and then the rest where reading goes on
  pub piece_next : (more : List ℕ) → more ≡ printed after rest → lines_of st piece ++ (if goes_on st piece then more else report_line (report_of after)) ≡ printed st (piece ++ rest)
  piece_next more m = go (eqb (took_of st piece).refusal 0) refl
    where
      go : (b : Bool) → eqb (took_of st piece).refusal 0 ≡ b → lines_of st piece ++ (if goes_on st piece then more else report_line (report_of after)) ≡ printed st (piece ++ rest)
      go true f =
          let e = eqb-true (took_of st piece).refusal 0 f in
          ap (λ (l : List ℕ). lines_of st piece ++ l) (if_yes (goes_on st piece) more (report_line (report_of after)) (goes_on_lem st piece e h) ∙ m) ∙ sym (printed_on e)
      go false f =
          let n = eqb-false (took_of st piece).refusal 0 f in
          ap (λ (l : List ℕ). lines_of st piece ++ l) (if_no (goes_on st piece) more (report_line (report_of after)) (goes_not st piece n)) ∙ sym (printed_stop n)

-- no bytes: nothing but the report
pub printed_none : (st : State) → Ready st → printed st [] ≡ report_line (report_of st)
unfolding lines_of took_of whole_of taking run_refusal take_blocks machine taken_lines end_line
printed_none st R = rw R.ready

-- from a state that is ready
pub pieces_printed : (st : State) (pieces : List (List ℕ)) → Ready st → Pieces pieces → pieces_from st pieces ≡ printed st (joined pieces)
pieces_printed st [] R P = sym (printed_none st R)
pieces_printed st (piece ∷ []) R P =
    ap (λ (l : List ℕ). lines_of st piece ++ l) (either (goes_on st piece) (report_line (report_of (took_of st piece).kept)))
    ∙ ap (printed st) (sym (append-nil piece))
pieces_printed st (piece ∷ next ∷ pieces) R P =
    piece_next st piece (joined (next ∷ pieces)) R P.1 _ (pieces_printed (took_of st piece).kept (next ∷ pieces) (took_ready st piece [] R P.1) P.2)

-- from a fresh state: what is printed piece by piece is what the definition has for the whole file
pub pieces_output : (pieces : List (List ℕ)) → Pieces pieces → pieces_from (initial_of (file_analyser (joined pieces))) pieces ≡ output_of (joined pieces)
unfolding output_of
pieces_output pieces P = pieces_printed (initial_of (file_analyser (joined pieces))) pieces (initial_ready (file_analyser (joined pieces))) P

-- the analyser number is in the first piece
pub analyser_piece : (piece : List ℕ) (pieces : List (List ℕ)) → Pieces (piece ∷ pieces) → file_analyser (joined (piece ∷ pieces)) ≡ file_analyser piece
analyser_piece piece [] P = ap file_analyser (append-nil piece)
analyser_piece piece (next ∷ pieces) P =
    let rest : List ℕ = joined (next ∷ pieces) in
    analyser_first (piece ++ rest) (omega (arith, P.0, length-append piece rest)) ∙ number_front piece rest (omega (arith, P.0)) ∙ sym (analyser_first piece P.0)

-- so the state that the first piece begins with is the fresh one for the file
pub pieces_read : (piece : List ℕ) (pieces : List (List ℕ)) → Pieces (piece ∷ pieces) → pieces_from (initial_of (file_analyser piece)) (piece ∷ pieces) ≡ output_of (joined (piece ∷ pieces))
pieces_read piece pieces P =
    ap (λ (n : ℕ). pieces_from (initial_of n) (piece ∷ pieces)) (sym (analyser_piece piece pieces P)) ∙ pieces_output (piece ∷ pieces) P
