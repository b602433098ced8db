use Rattle.std.proofs.Common.{ap, sym, ◌∙◌, ℕ, List, ◌++◌}
use Rattle.refusals.specs.Rows.{number_of}
use Rattle.reading.specs.Lines.{stopped_line}
use Rattle.reading.specs.Telling.{stop_text}
use Rattle.reading.proofs.session.put_end.Goals as goal

pub returns : goal.returns
returns c =
    let r = c.in-Err.refused in
    let e = ap (λ (n : ℕ). stopped_line n (number_of r.row) r.place) c.from.ensures ∙ sym (ap (stop_text c.args.number) c.in-Err.is) in
    c.put.ensures.bytes ∙ ap (λ (l : List ℕ). c.args.text.now.bytes ++ l) e
