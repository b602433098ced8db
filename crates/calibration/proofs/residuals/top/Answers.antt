-- `calibration::residuals::top` meets its contract.
use Rattle.std.proofs.Common.{sym, ap, ◌∙◌, eq-eqb, ne_eqb, to_z-of_z, w32}
use Rattle.std.specs.Prelude.{pos, ◌==◌}
use Rattle.charts.specs.Tests.{if_yes, if_no}
use Rattle.calibration.specs.Calibration.{top_of, share_of, higher_of}
use Rattle.calibration.proofs.RangeLaws.{between_fits}
use Rattle.calibration.proofs.OrderLaws.{max_is}
use Rattle.calibration.proofs.ResidualLaws.{not_far}
use Rattle.calibration.specs.declared.conditions.Standard.{Standard}
use Rattle.calibration.proofs.residuals.top.Goals as goal

pub returns-then-edition-ne2 : goal.returns-then-edition-ne2
unfolding top_of
returns-then-edition-ne2 c =
    c.share-first.ensures
    ∙ ap (share_of c.args.edition (pos 110)) (to_z-of_z {w = w32} (between_fits tt (not_far c.args.most c.requires.0)))
    ∙ sym (if_no (c.args.edition == 2) _ _ (ne_eqb c.args.edition 2 c.if-edition-ne2.true))

pub returns : goal.returns
unfolding top_of
returns c =
    let first = c.share-first.ensures ∙ ap (share_of c.args.edition (pos 110)) (to_z-of_z {w = w32} (between_fits tt (not_far c.args.most c.requires.0))) in
    let second = c.share.ensures ∙ ap (share_of c.args.edition (pos 20)) (to_z-of_z {w = w32} c.ranges.limit) in
    c.max.ensures
    ∙ max_is c.share-first.result c.share.result
    ∙ ap (λ (v : Standard). higher_of v c.share.result) first
    ∙ ap (higher_of (share_of c.args.edition (pos 110) c.args.most.0)) second
    ∙ sym (if_yes (c.args.edition == 2) _ _ (eq-eqb c.args.edition 2 c.if-edition-ne2.false))
