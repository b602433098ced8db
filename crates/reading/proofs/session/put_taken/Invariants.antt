use Rattle.std.proofs.Common.{◌≡◌, ◌+◌, ◌*◌, ◌≤◌, ◌++◌, take}
use Rattle.arrayvec.specs.ArrayString.{array_string_len}
use Rattle.reading.specs.Telling.{lines_of_blocks}
use Rattle.reading.proofs.session.put_taken.Given as goal

abbrev pub invariant-loop-k : goal.invariant-loop-k
invariant-loop-k l =
    (l.text.bytes ≡ l.initial.text.bytes ++ lines_of_blocks l.first (take l.k l.blocks))
    × (array_string_len l.text ≤ array_string_len l.initial.text + 80 * l.k)
