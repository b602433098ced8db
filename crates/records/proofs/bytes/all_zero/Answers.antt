-- `bytes::all_zero` meets its contract.
use Rattle.std.proofs.Common.{ap, ◌∙◌, nat_eq, bit_or, rules}
use Rattle.std.proofs.lemmas.Iterator.{YieldsList-from_slice}
use Rattle.std.proofs.lemmas.Iterator.Consumers.{fold_from_yields_List}
use Rattle.records.specs.Bytes.{part}
use Rattle.records.proofs.NoBits.{no_bit}
use Rattle.records.proofs.bytes.all_zero.Goals as goal

pub returns : goal.returns
returns c =
    let a = c.args in
    let e = fold_from_yields_List _ bit_or 0 c.fold.result c.fold.ensures.ran (YieldsList-from_slice (part a.from a.to a.bytes.now) cc) (λ any x b q k. search rules) in
    ap (λ n. nat_eq n 0) e ∙ no_bit (part a.from a.to a.bytes.now) 0
