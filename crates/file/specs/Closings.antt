-- Paper 01, 'Making blocks and closings', and paper 02, C-12 and C-13: making a closing, and the rows of 'Where input
-- is stopped' for it. Its figures are worked out from the state that the records before it lead to, in a block of the
-- edition told.
use Rattle.std.specs.Prelude.{Bool, not, ◌||◌, List, ℕ, ◌/◌, eqb, ℤ, pos, length, if◌then◌else◌, Result}
use Rattle.refusals.specs.Rows.{◌when◌, ◌or◌, unless_refused}
use Rattle.calibration.specs.Pairs.{z_ranged_of}
use Rattle.records.specs.Record.{Record}
use Rattle.records.specs.Writing.{calibration_record, annual_record}
use Rattle.records.specs.Table.{Facts, untimely_of, calibration_of, annual_of, sameℤ}
use Rattle.records.specs.State.{facts_of}
use Rattle.records.specs.Steps.{Ran}
use Rattle.records.specs.declared.state.State.{State}
use Rattle.blocks.specs.Blocks.{told_refusal}
use Rattle.file.specs.Taking.{records_fit_of}
use Rattle.file.specs.Calls.{ready_of, opened}
use Rattle.file.specs.Answered.{row_of, place_of, ran_of}
use Rattle.file.specs.declared.Refused.{Refused}

-- ---- the record

-- the closing that the records before it give
unfoldable pub closing_of : Facts → ℕ → ℕ → ℤ → Record
closing_of f kind minute z =
    if eqb kind 5 then calibration_record (calibration_of f z) minute z
    else annual_record (annual_of f) (length f.waiting) minute

-- ---- its rows: 11, 12, 13, then 19 to 24

-- Z in its range for a calibration, 0 for an annual test
unfoldable pub z_fits_of : ℕ → ℤ → Bool
z_fits_of kind z = if eqb kind 5 then z_ranged_of z else sameℤ z (pos 0)

unfoldable pub first_rows_of : Facts → ℕ → ℕ → ℤ → ℕ
first_rows_of f kind minute z =
    11 when not f.begun
    or 12 when untimely_of f minute
    or 13 when not (z_fits_of kind z)

unfoldable pub closing_refusal : Facts → ℕ → ℕ → ℤ → ℕ
closing_refusal f kind minute z =
    first_rows_of f kind minute z
    or (if eqb kind 5 then (calibration_of f z).refusal else (annual_of f).refusal)

-- ---- the call

-- the answer to making a closing: the row that refused (0: none), and the place of the record that it refused (255: no
-- record's row)
pub record Made : Type 0 where
  pub refusal : ℕ
  pub place : ℕ

-- the code's answer as such a one
abbrev pub made_by : Result Unit Refused → Made
made_by r = record { refusal = row_of r; place = place_of r }

abbrev pub made : ℕ → ℕ → Made
made refusal place = record { refusal = refusal; place = place }

abbrev pub made_at : ℕ → ℕ → Made
made_at place refusal = made refusal place

-- the records before it, one after another, in a block of the edition told
abbrev pub ran_before : State → ℕ → List ℕ → Ran State
ran_before st edition bytes = ran_of (opened st edition) bytes

-- the rows of making before its records', into a target of `size` bytes: 6 stands for the records, then for the kind,
-- and 3 and 26 for the edition told
unfoldable pub making_refusal : State → ℕ → List ℕ → ℕ → ℕ → ℕ
making_refusal st edition bytes kind size =
    1 when not (eqb size 40)
    or 6 when not (records_fit_of 0 11 (length bytes))
    or 6 when not (eqb kind 5 || eqb kind 6)
    or 7 when not (ready_of st)
    or told_refusal st.edition edition

-- making a closing: the rows of the call, then those of the records before the closing, then its own, at the place
-- past them
unfoldable pub make_of : State → ℕ → List ℕ → ℕ → ℕ → ℤ → ℕ → Made
make_of st edition bytes kind minute z size =
    let ran : Ran State = ran_before st edition bytes in
    unless_refused (made_at 255) (making_refusal st edition bytes kind size)
    (unless_refused (made_at ran.place) ran.refusal
    (unless_refused (made_at (length bytes / 40)) (closing_refusal (facts_of ran.kept) kind minute z)
    (made 0 255)))

-- the target after it: the new closing, or all bytes as before if there is none
unfoldable pub made_bytes : State → ℕ → List ℕ → ℕ → ℕ → ℤ → List ℕ → List ℕ
made_bytes st edition bytes kind minute z old =
    if eqb (make_of st edition bytes kind minute z (length old)).refusal 0
    then closing_of (facts_of (ran_before st edition bytes).kept) kind minute z
    else old
