-- `calibration::sample::Sample::is_flat` meets its contract.
use Rattle.std.proofs.Common.{◌≡◌, ap, ◌∙◌, ◌≤◌, ◌<◌, ℕ, List, map, length, drop, get_or, drop_of_length-le, arith, SFits}
use lib.Dec.{lit<}
use lib.IntN.{pos, nat_abs, ◌-ℤ◌, ◌*ℤ◌}
use lib.Signed.{lt_z}
use mir.Syntax.{w32, w64}
use Rattle.charts.specs.Integers.{abs_diff, abs_sfits}
use Rattle.charts.specs.SignedLocals.{Loc, lit, sub, mul, lt_flag}
use Rattle.calibration.proofs.RangeLaws.{between_abs, between_fits, wide}
use Rattle.calibration.specs.Pairs.{AllRanged, RequirementsRanged}
use Rattle.calibration.specs.Calibration.{measured_of, span_of, flat_of}
use Rattle.charts.specs.ListLaws.{drop_next}
use Rattle.calibration.proofs.RangeLaws.{ranged_at, unset}
use Rattle.calibration.proofs.SpanLaws.{Spanned, widened_spanned, span_begun}
use Rattle.calibration.proofs.ConditionLaws.{measured_bound}
use Rattle.calibration.proofs.SizeLaws.{product_size}
use Rattle.calibration.specs.declared.pairs.Basis.{Basis}
use Rattle.calibration.specs.declared.pairs.Pair.{Pair}
use Rattle.calibration.specs.declared.regression.Span.{Span}
use Rattle.calibration.proofs.SampleLaws.{all_ranged}
use Rattle.calibration.proofs.sample.Sample.is_flat.Goals as goal

-- y' of a pair of the list
module _ (b : Basis) (ps : List Pair) (P : AllRanged ps) (Q : RequirementsRanged b.requirements) (i : ℕ) (h : i < length ps) where
  sized : nat_abs (measured_of b.edition b.requirements.oxygen (get_or ps i unset)).0 ≤ 33600000
  sized = measured_bound b.edition Q.oxygen (ranged_at ps i h P)

pub loop-p-init : goal.loop-p-init
loop-p-init c =
    let ps = c.args.self.pairs.now in
    let b = c.args.self.basis in
    let e = c.measured-first.ensures in
    let h = sized b ps (all_ranged c.args.self.pairs.now c.args.self.ranged) c.args.self.required 0 c.args.self.some in
    record {
      spanned = rw e (record { low = h; high = h });
      whole = rw (e, drop_next ps 0 unset c.args.self.some) (span_begun (measured_of b.edition b.requirements.oxygen (get_or ps 0 unset)) (map (measured_of b.edition b.requirements.oxygen) (drop 1 ps)));
    }

pub measured-first-requires : goal.measured-first-requires
measured-first-requires c = ranged_at c.args.self.pairs.now 0 c.args.self.some (all_ranged c.args.self.pairs.now c.args.self.ranged)

pub measured-requires : goal.measured-requires
measured-requires c = (ranged_at c.args.self.pairs.now c.loop-p.p-index c.loop-p-test.true (all_ranged c.args.self.pairs.now c.args.self.ranged))

pub loop-p-preserved : goal.loop-p-preserved
loop-p-preserved c =
    let ps = c.args.self.pairs.now in
    let b = c.args.self.basis in
    let i = c.loop-p.p-index in
    let h = c.loop-p-test.true in
    let v = measured_of b.edition b.requirements.oxygen (get_or ps i unset) in
    let left = rw (drop_next ps i unset h) at c.loop-p.invariant.whole in
    record {
      spanned = rw (c.widened-s.ensures, c.measured.ensures) (widened_spanned v c.loop-p.invariant.spanned (sized b ps (all_ranged c.args.self.pairs.now c.args.self.ranged) c.args.self.required i h));
      whole = rw (c.widened-s.ensures, c.measured.ensures) left;
    }

-- ---- the test
abbrev K : Loc w64
K = lit 100 (lit< tt)

abbrev F : Loc w64
F = lit 15 (lit< tt)

module _ (s : Span) (S : Spanned 33600000 s) where
  high_fits : SFits w32 s.high.0
  high_fits = abs_sfits (omega (arith, S.high))

  low_fits : SFits w32 s.low.0
  low_fits = abs_sfits (omega (arith, S.low))

  abbrev H : Loc w64
  H = wide s.high.0 high_fits

  abbrev L : Loc w64
  L = wide s.low.0 low_fits

  d_small : nat_abs (H.num -ℤ L.num) ≤ 67200000
  d_small = omega (arith, abs_diff H.num L.num, S.high, S.low)

  abbrev D : Loc w64
  D = sub H L (abs_sfits (omega (arith, d_small)))

  abbrev KD : Loc w64
  KD = mul K D (abs_sfits (omega (arith, product_size {m = 100} (pos 100) D.num (omega arith) d_small)))

module _ (b : Basis) (Q : RequirementsRanged b.requirements) where
  abbrev E : Loc w64
  E = wide b.requirements.limit (between_fits tt Q.limit)

  abbrev FE : Loc w64
  FE = mul F E (abs_sfits (omega (arith, product_size {m = 15} (pos 15) E.num (omega arith) (between_abs Q.limit))))

pub returns : goal.returns
unfolding flat_of
returns c =
    let S = c.loop-p.invariant.spanned in
    let ps = c.args.self.pairs.now in
    let b = c.args.self.basis in
    let whole : c.loop-p.s ≡ span_of (map (measured_of b.edition b.requirements.oxygen) ps) = rw (drop_of_length-le ps {i = c.loop-p.p-index} c.loop-p-test.false) at c.loop-p.invariant.whole in
    rw (c.from.ensures, c.from-2.ensures, c.from-3.ensures) (lt_flag (KD c.loop-p.s S) (FE b c.args.self.required)) ∙ ap (λ (v : Span). lt_z (pos 100 *ℤ (v.high.0 -ℤ v.low.0)) (pos 15 *ℤ b.requirements.limit)) whole
