use Rattle.reading.proofs.LineLaws.{report_text}
use Rattle.reading.proofs.lines.put_report.Goals as goal

pub returns-clause-bytes : goal.returns-clause-bytes
returns-clause-bytes c =
    rw (c.push_str-4.ensures.bytes, c.push_str-3.ensures.bytes, c.push_str-2.ensures.bytes, c.put_flags-2.ensures, c.put_flags.ensures, c.push_str.ensures.bytes, c.yes_or_no.ensures)
    (report_text c.args.text.now.bytes c.args.r)
