-- Where no value is beyond ±10,000,000: how large the top is, and residuals, made pair by pair, with the size of their sums.
use Rattle.std.specs.Prelude.{◌≡◌, refl, Bool, true, false, ◌||◌, ℕ, suc, ◌+◌, ◌*◌, ◌≤◌, ◌<◌, T, eqb, ℤ, pos, neg_ℤ, nat_abs, ◌+ℤ◌, ◌-ℤ◌, ◌*ℤ◌, length, get_or}
use Rattle.std.proofs.Math.Path.{sym, ap}
use Rattle.std.proofs.Common.{subst, ◌∙◌, true≢false, arith}
use mathlib.Core.List.{List, [], ◌∷◌, foldl, map}
use Rattle.std.proofs.lemmas.Bool.{not-false}
use Rattle.std.proofs.Math.IntN.{+ℤ_assoc, +ℤ_idl, +ℤ_idr}
use Rattle.charts.specs.Tests.{if_all}
use Rattle.charts.specs.Integers.{ints, abs_sum, abs_diff}
use Rattle.charts.proofs.RoundingLaws.{near_bound}
use Rattle.calibration.specs.Pairs.{Between, between_of, between_answers}
use Rattle.calibration.proofs.RangeLaws.{between_abs}
use Rattle.calibration.specs.Calibration.{measured_of, c_of, far_of, beyond_of, some_beyond, higher_of, share_of, top_of, span_from, span_of, deviations_total, deviations_squared, deviations_of, residuals_of}
use Rattle.calibration.specs.InCode.{with_residual_of}
use Rattle.calibration.proofs.SizeLaws.{product_size}
use Rattle.charts.specs.ListLaws.{member_at}
use Rattle.calibration.proofs.RangeLaws.{unset}
use Rattle.calibration.proofs.SpanLaws.{higher_has, higher_same, span_high}
use Rattle.calibration.specs.declared.line.Line.{Line}
use Rattle.calibration.specs.declared.pairs.Pair.{Pair}
use Rattle.calibration.specs.declared.residuals.Residuals.{Residuals}
use Rattle.calibration.specs.declared.regression.Span.{Span}
use Rattle.calibration.specs.declared.conditions.Standard.{Standard}

-- ---- values that are not beyond
pub not_far : (v : Standard) → far_of v ≡ false → Between (neg_ℤ (pos 10000000)) (pos 10000000) v.0
not_far v h =
    let t = between_of (neg_ℤ (pos 10000000)) (pos 10000000) v.0 in
    (between_answers (neg_ℤ (pos 10000000)) (pos 10000000) v.0).sure (subst T (sym (not-false t h)) tt)

-- ---- the top

pub share_bound : (edition : ℕ) (percent v : ℤ) → nat_abs percent ≤ 110 → nat_abs v ≤ 10000000 → nat_abs (share_of edition percent v).0 ≤ 11000000
share_bound edition percent v h k =
    near_bound edition (percent *ℤ v) (pos 100) 11000000 (omega ints) (omega (arith, product_size {m = 110} {k = 10000000} percent v h k))

-- in either edition it fits the field in which it is stored
pub top_bound : (edition : ℕ) (limit : ℤ) (most : Standard) → far_of most ≡ false → Between (pos 100) (pos 400000) limit → nat_abs (top_of edition limit most).0 ≤ 11000000
unfolding top_of
top_bound edition limit most far E =
    let a = share_bound edition (pos 110) most.0 (omega arith) (between_abs (not_far most far)) in
    let b = share_bound edition (pos 20) limit (omega arith) (omega (arith, between_abs E)) in
    if_all Small (eqb edition 2) _ _ (λ t. higher_has Small _ _ a b) (λ t. a)
  where
    Small : Standard → Type 0
    Small v = nat_abs v.0 ≤ 11000000

-- ---- residuals
neither : (a b : Bool) → (a || b) ≡ false → (a ≡ false) × (b ≡ false)
neither true b h = absurd (true≢false h)
neither false b h = (refl, h)

-- ---- D and its square
module _ (y c : Standard) (Y : far_of y ≡ false) (C : far_of c ≡ false) where
  pub residual_size : nat_abs (y.0 -ℤ c.0) ≤ 20000000
  residual_size = omega (arith, abs_diff y.0 c.0, between_abs (not_far y Y), between_abs (not_far c C))

  pub square_size : nat_abs ((y.0 -ℤ c.0) *ℤ (y.0 -ℤ c.0)) ≤ 400000000000000
  square_size = product_size (y.0 -ℤ c.0) (y.0 -ℤ c.0) residual_size residual_size

-- ---- the residuals of k pairs
pub record ResidualsRanged (k : ℕ) (r : Residuals) : Type 0 where
  pub most : far_of r.most ≡ false
  pub sum : nat_abs r.sum ≤ 20000000 * k
  pub squares : nat_abs r.squares ≤ 400000000000000 * k

pub with_residual_ranged : {k : ℕ} {r : Residuals} (y c : Standard) → ResidualsRanged k r → far_of y ≡ false → far_of c ≡ false → ResidualsRanged (k + 1) (with_residual_of r y c)
unfolding with_residual_of
with_residual_ranged {r} y c R Y C =
    let d = y.0 -ℤ c.0 in
    record {
      most = higher_has (λ v. far_of v ≡ false) r.most c R.most C;
      sum = omega (arith, R.sum, abs_sum r.sum d, residual_size y c Y C);
      squares = omega (arith, R.squares, abs_sum r.squares (d *ℤ d), square_size y c Y C);
    }

module _ (edition : ℕ) (reference : ℤ) (l : Line) where
  -- one pair more
  abbrev pub with_residual_of_pair : Residuals → Pair → Residuals
  with_residual_of_pair r p = with_residual_of r (measured_of edition reference p) (c_of edition reference l p)

  -- before the first pair, whose c is the greatest so far
  abbrev pub residuals_begun : Pair → Residuals
  residuals_begun p = record { most = c_of edition reference l p; sum = pos 0; squares = pos 0 }

  -- a pair that is not beyond, and one of a list that has none
  pub pair_near : (p : Pair) → beyond_of edition reference l p ≡ false → (far_of (measured_of edition reference p) ≡ false) × (far_of (c_of edition reference l p) ≡ false)
  unfolding beyond_of
  pair_near p h = neither (far_of (measured_of edition reference p)) (far_of (c_of edition reference l p)) h

  pub near_at : (ps : List Pair) (i : ℕ) → i < length ps → some_beyond edition reference l ps ≡ false → beyond_of edition reference l (get_or ps i unset) ≡ false
  near_at ps i h B =
      member_at (λ ps. some_beyond edition reference l ps ≡ false) (λ p. beyond_of edition reference l p ≡ false)
      (λ p ps b. neither (beyond_of edition reference l p) (some_beyond edition reference l ps) b) ps i unset h B

  -- from r on, the greatest c and each sum take in what follows
  from : (r : Residuals) (ps : List Pair)
      → foldl with_residual_of_pair r ps
      ≡ record {
        most = foldl higher_of r.most (map (c_of edition reference l) ps);
        sum = r.sum +ℤ deviations_total (deviations_of edition reference l ps);
        squares = r.squares +ℤ deviations_squared (deviations_of edition reference l ps);
      }
  unfolding with_residual_of
  from r [] = simp +ℤ_idr
  from r (p ∷ ps) = from (with_residual_of_pair r p) ps ∙ simp +ℤ_assoc

  pub residuals_from : (p : Pair) (ps : List Pair) → foldl with_residual_of_pair (residuals_begun p) (p ∷ ps) ≡ residuals_of edition reference l (p ∷ ps)
  unfolding residuals_of span_of
  residuals_from p ps =
      let c = c_of edition reference l p in
      let cs = map (c_of edition reference l) ps in
      let ds = deviations_of edition reference l (p ∷ ps) in
      let s : Span = record { low = c; high = c } in
      let most : foldl higher_of (higher_of c c) cs ≡ (span_from s cs).high = ap (λ (v : Standard). foldl higher_of v cs) (higher_same c) ∙ sym (span_high s cs) in
      from (residuals_begun p) (p ∷ ps) ∙ simp +ℤ_idl (ap (λ (v : Standard). record { most = v; sum = deviations_total ds; squares = deviations_squared ds }) most)

  -- ---- their ranges
  pub begun_ranged : (p : Pair) → beyond_of edition reference l p ≡ false → ResidualsRanged 0 (residuals_begun p)
  begun_ranged p h = record { most = (pair_near p h).1; sum = omega arith; squares = omega arith }

  from_ranged : (k : ℕ) (r : Residuals) (ps : List Pair) → ResidualsRanged k r → some_beyond edition reference l ps ≡ false → ResidualsRanged (k + length ps) (foldl with_residual_of_pair r ps)
  from_ranged k r [] R h = let e : k + 0 ≡ k = omega arith in rw e R
  from_ranged k r (p ∷ ps) R h =
      let b = neither (beyond_of edition reference l p) (some_beyond edition reference l ps) h in
      let f = pair_near p b.0 in
      let e : k + 1 + length ps ≡ k + suc (length ps) = omega arith in
      rw e at (from_ranged (k + 1) (with_residual_of_pair r p) ps (with_residual_ranged (measured_of edition reference p) (c_of edition reference l p) R f.0 f.1) b.1)

  pub residuals_ranged : (ps : List Pair) → 0 < length ps → some_beyond edition reference l ps ≡ false → ResidualsRanged (length ps) (residuals_of edition reference l ps)
  residuals_ranged [] h B = absurd (omega arith)
  residuals_ranged (p ∷ ps) h B =
      let b = neither (beyond_of edition reference l p) (some_beyond edition reference l ps) B in
      let e : 0 + suc (length ps) ≡ suc (length ps) = omega arith in
      rw (e, residuals_from p ps) at (from_ranged 0 (residuals_begun p) (p ∷ ps) (begun_ranged p b.0) B)
