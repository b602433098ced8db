use Rattle.std.proofs.Common.{arith, ap, sym, ◌∙◌, ◌<◌, length, take, get_or, ℕ, List, [], ◌++◌, ◌+◌, append_assoc}
use Rattle.records.specs.Bytes.{byte_at}
use Rattle.reading.specs.Lines.{taken_line}
use Rattle.reading.specs.Telling.{lines_of_blocks}
use Rattle.reading.proofs.LineLaws.{lines_more}
use Rattle.reading.proofs.session.put_taken.Goals as goal

pub put-requires : goal.put-requires
put-requires c = omega (arith, c.loop-k.invariant.1, c.requires)

pub loop-k-preserved : goal.loop-k-preserved
loop-k-preserved c =
    let k = c.loop-k.k in
    let first = c.args.first in
    let blocks = c.args.blocks.now in
    let old : List ℕ = c.args.text.now.bytes in
    let lines : List ℕ = lines_of_blocks first (take k blocks) in
    let h : k < length blocks = omega arith in (
      c.put.ensures.bytes
          ∙ ap (λ (l : List ℕ). l ++ taken_line (c.from.result + k) (byte_at (get_or blocks k []) 9)) c.loop-k.invariant.0
          ∙ append_assoc old lines _
          ∙ ap (λ (n : ℕ). old ++ (lines ++ taken_line (n + k) (byte_at (get_or blocks k []) 9))) c.from.ensures
          ∙ ap (λ (l : List ℕ). old ++ l) (sym (lines_more first k blocks [] h)),
      omega (arith, c.put.ensures.len, c.loop-k.invariant.1),
    )
