use Rattle.std.proofs.Common.{arith, ap, ◌∙◌, ℕ, List, ◌++◌}
use Rattle.reading.proofs.LineLaws.{decimal_text}
use Rattle.reading.proofs.lines.put_number.Goals as goal

pub returns-clause-bytes : goal.returns-clause-bytes
returns-clause-bytes c = c.push_str.ensures.bytes ∙ ap (λ (l : List ℕ). c.args.text.now.bytes ++ l) (c.format.ensures.text ∙ decimal_text c.args.n (omega arith))
