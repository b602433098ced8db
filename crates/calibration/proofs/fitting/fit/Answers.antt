-- `calibration::fitting::fit` meets its contract.
use Rattle.std.proofs.Common.{sym, ap, ◌∙◌, length, to_z-of_z, w32}
use Rattle.std.specs.Prelude.{ℤ}
use Rattle.calibration.specs.Calibration.{sums_of, fit_from_of}
use Rattle.calibration.proofs.SumLaws.{sums_ranged}
use Rattle.calibration.proofs.VerdictLaws.{count_unfit, count_fit, count_above}
use Rattle.calibration.proofs.SampleLaws.{all_tested}
use Rattle.calibration.proofs.fitting.fit.Goals as goal

pub returns-then-not-count_fits : goal.returns-then-not-count_fits
returns-then-not-count_fits c = sym (count_unfit c.args.b.edition c.args.b.requirements c.args.z c.args.pairs.now (sym c.count_fits.ensures ∙ c.if-not-count_fits.true))

pub invariant_of-sample : goal.invariant_of-sample
invariant_of-sample c = record { some = count_above (length c.args.pairs.now) (sym c.count_fits.ensures ∙ c.if-not-count_fits.false); few = c.requires.0; ranged = all_tested c.args.pairs.now c.requires.1; required = c.requires.2 }

pub fit_from-requires : goal.fit_from-requires
unfolding sums_of
fit_from-requires c =
    let ps = c.args.pairs.now in
    let above = count_above (length ps) (sym c.count_fits.ensures ∙ c.if-not-count_fits.false) in
    (rw (to_z-of_z {w = w32} c.ranges.z) c.requires.3, rw c.sums.ensures (sums_ranged ps c.requires.1 c.requires.0), rw c.sums.ensures above)

pub returns : goal.returns
returns c =
    let ps = c.args.pairs.now in
    let e = c.args.b.edition in
    let q = c.args.b.requirements in
    c.fit_from.ensures
    ∙ ap (λ (z : ℤ). fit_from_of e q z ps c.sums.result) (to_z-of_z {w = w32} c.ranges.z)
    ∙ ap (fit_from_of e q c.args.z ps) c.sums.ensures
    ∙ sym (count_fit e q c.args.z ps (sym c.count_fits.ensures ∙ c.if-not-count_fits.false))
