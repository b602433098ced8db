-- `writing::annual` meets its contract.
use Rattle.std.proofs.Common.{◌∙◌}
use Rattle.records.proofs.WritingLaws.{annual_stored}
use Rattle.records.proofs.writing.annual.Goals as goal

pub returns : goal.returns
returns c = c.write32.ensures ∙ rw (c.head-record.ensures, c.test_mark.ensures) (annual_stored _ c.args.count c.args.minute)
