-- Paper 01, 'Where input is stopped', and paper 02, C-13, row 26: the numbers of the rows, and rows read downwards. 7
-- is no row of the table: it refuses a state whose numbers are so large that the arithmetic would not fit
-- (docs/DECISIONS.md).
use Rattle.std.specs.Prelude.{ℕ, zero, suc, Bool, true, false, Result, Ok, Err}
use Rattle.refusals.specs.declared.Refusal.{Refusal}
use Rattle.refusals.specs.declared.Refusal.TheVariants.{Length, Records, Check, Header, Analyser, Sequence, Edition, State, Layout, Place, Minute, Range, Unstarted, Full, Times, Coverage, Waiting, Function, Count, Days, Divisor, Slope, Beyond, Stored}

-- `Length`: a run or a target of another length than it has to be. `Records`: bytes that are no whole number of
-- records or too many, or a closing of a kind that closes nothing.
abbrev pub number_of : Refusal → ℕ
number_of Length = 1
number_of Check = 2
number_of Header = 3
number_of Analyser = 4
number_of Sequence = 5
number_of Records = 6
number_of State = 7
number_of Layout = 10
number_of Place = 11
number_of Minute = 12
number_of Range = 13
number_of Unstarted = 14
number_of Full = 15
number_of Times = 16
number_of Coverage = 17
number_of Waiting = 18
number_of Function = 19
number_of Count = 20
number_of Days = 21
number_of Divisor = 22
number_of Slope = 23
number_of Beyond = 24
number_of Stored = 25
number_of Edition = 26

-- the number of an outcome: that of the row that refused, 0 where none did
abbrev pub outcome_of : {A : Type 0} → Result A Refusal → ℕ
outcome_of (Ok x) = 0
outcome_of (Err e) = number_of e

-- ---- rows of a table, read downwards: the first that fits gives its number, and 0 is no refusal

infixr 12 ◌or◌
infix 14 ◌when◌
-- one row: its number where the test holds, else 0
abbrev pub ◌when◌ : ℕ → Bool → ℕ
n when true = n
n when false = 0

-- the rows above, and where none of them fits the rows below
abbrev pub ◌or◌ : ℕ → ℕ → ℕ
zero or m = m
suc n or m = suc n

-- an answer that has rows before it: the first that fits has its number told, and without one the rest is answered
abbrev pub unless_refused : {A : Type 0} → (ℕ → A) → ℕ → A → A
unless_refused tell zero rest = rest
unless_refused tell (suc n) rest = tell (suc n)
