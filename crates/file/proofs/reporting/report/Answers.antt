-- `reporting::report` meets its contract: the equation on the state, and statement 3.
use Rattle.std.proofs.Common.{sym, subst}
use Rattle.records.specs.Answers.{alarms_at, usable_of}
use Rattle.file.specs.Statement.{report_of, Statement3}
use Rattle.file.proofs.StatementLaws.{statement3}
use Rattle.file.specs.declared.Report.{Report}
use Rattle.file.proofs.reporting.report.Goals as goal

pub returns-clause-value : goal.returns-clause-value
unfolding report_of usable_of alarms_at
returns-clause-value c = rw (c.recent.ensures, c.young.ensures, c.silent-2.ensures, c.silent.ensures, c.alarms-span.ensures, c.alarms-zero.ensures)

pub returns-clause-statement3 : goal.returns-clause-statement3
returns-clause-statement3 c = subst (λ (r : Report). Statement3 c.args.st r) (sym (returns-clause-value c)) (statement3 c.args.st)
