-- `charts::Chart::sound` meets its contract.
use Rattle.std.proofs.Common.{rules, ◌≡◌, ap, ◌∙◌, le-leb, to_z-of_z, w32}
use Rattle.std.proofs.lemmas.Bool.{lt-leb}
use mir.Val.{to_z, of_z}
use Rattle.charts.specs.ChartSoundness.{difference_ranged_of, chart_sound_of}
use Rattle.charts.proofs.Chart.sound.Goals as goal

pub returns-then-n-le100000 : goal.returns-then-n-le100000
unfolding chart_sound_of
returns-then-n-le100000 c =
    let back : to_z w32 (of_z w32 c.args.self.last) ≡ c.args.self.last = to_z-of_z {w = w32} (search rules) in
    simp (le-leb _ _ c.if-n-le100000.true, c.difference_ranged.ensures ∙ ap difference_ranged_of back, c.within.ensures, c.within-then-n-le100000.ensures, c.within-then-n-le100000-2.ensures)

pub returns-else-n-le100000 : goal.returns-else-n-le100000
unfolding chart_sound_of
returns-else-n-le100000 c = simp (lt-leb _ _ c.if-n-le100000.false)
