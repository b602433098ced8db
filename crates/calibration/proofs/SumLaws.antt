-- The sums over the pairs, made pair by pair, and how large they become.
use Rattle.std.specs.Prelude.{◌≡◌, suc, ◌+◌, ◌≤◌, pos, ◌+ℤ◌, ◌*ℤ◌, length}
use Rattle.std.proofs.Common.{◌∙◌, arith}
use mathlib.Core.List.{List, [], ◌∷◌, foldl}
use Rattle.std.proofs.Math.IntN.{+ℤ_assoc, +ℤ_idl, +ℤ_idr}
use Rattle.calibration.specs.Pairs.{AllRanged}
use Rattle.calibration.specs.Calibration.{∑, x_of, y_of, sums_of, plus_of}
use Rattle.calibration.specs.InCode.{SumsRanged}
use Rattle.calibration.proofs.SizeLaws.{up_to, plus_ranged}
use Rattle.calibration.specs.declared.pairs.Pair.{Pair}
use Rattle.calibration.specs.declared.regression.Sums.{Sums}

abbrev pub none : Sums
none = record { n = 0; x = pos 0; y = pos 0; xy = pos 0; xx = pos 0 }

-- from u on, each sum grows by its terms
from : (u : Sums) (ps : List Pair)
    → foldl plus_of u ps
    ≡ record {
      n = u.n + length ps;
      x = u.x +ℤ ∑ x_of ps;
      y = u.y +ℤ ∑ y_of ps;
      xy = u.xy +ℤ ∑ (λ (p : Pair). x_of p *ℤ y_of p) ps;
      xx = u.xx +ℤ ∑ (λ (p : Pair). x_of p *ℤ x_of p) ps;
    }
unfolding plus_of
from u [] = let e : u.n + 0 ≡ u.n = omega arith in simp (e, +ℤ_idr)
from u (p ∷ ps) =
    let e : u.n + 1 + length ps ≡ u.n + suc (length ps) = omega arith in
    from (plus_of u p) ps
    ∙ simp (e, +ℤ_assoc)

pub sums_from : (ps : List Pair) → foldl plus_of none ps ≡ sums_of ps
unfolding sums_of
sums_from ps = let e : 0 + length ps ≡ length ps = omega arith in from none ps ∙ simp (e, +ℤ_idl)

-- ---- their ranges
pub none_ranged : SumsRanged none
none_ranged = record { n = omega arith; x = up_to (omega arith); y = up_to (omega arith); xy = up_to (omega arith); xx = up_to (omega arith) }

from_ranged : (u : Sums) (ps : List Pair) → SumsRanged u → AllRanged ps → u.n + length ps ≤ 30 → SumsRanged (foldl plus_of u ps)
unfolding plus_of
from_ranged u [] U P h = U
from_ranged u (p ∷ ps) U P h = from_ranged (plus_of u p) ps (plus_ranged U (omega arith) P.0) P.1 (omega arith)

pub sums_ranged : (ps : List Pair) → AllRanged ps → length ps ≤ 30 → SumsRanged (sums_of ps)
sums_ranged ps P h = rw (sums_from ps) at (from_ranged none ps none_ranged P (omega arith))
