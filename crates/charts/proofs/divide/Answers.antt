-- `charts::divide` meets its contract. The steps of the code are written again as `Loc`s, and each need is that of its step. Of what is added to the
-- remainder safety asks only that it is small; that it is d, only the equation says.
use mathlib.Core.Path.{◌≡◌}
use Prim.Native.Nat.{◌+◌, ◌*◌, ◌≤◌, ◌<◌, ◌^◌}
use native.Mathlib.Omega.{arith}
use lib.Dec.{lit<}
use lib.IntN.{ℤ, pos, nat_abs, ◌+ℤ◌, ◌-ℤ◌}
use lib.Signed.{quot_z, rem_z, ◌<ℤ◌}
use mir.Syntax.{Width, w64}
use mir.Val.{SFits, to_z}
use Rattle.charts.specs.Integers.{abs_sum, abs_diff, abs_sfits}
use Rattle.charts.specs.SignedLocals.{Loc, arg, lit, on_both, cast_u, add, add_need, sub, quot, rem}
use Rattle.charts.proofs.RoundingLaws.{abs_quot, abs_rem, quot_once, divided_raised, division_unique}
use Rattle.charts.proofs.divide.Goals as goal
use Rattle.charts.proofs.divide.Goals.{Start}

abbrev Zero : Loc w64
Zero = lit 0 (lit< tt)

abbrev One : Loc w64
One = lit 1 (lit< tt)

-- a result, from the need that says that it fits
abbrev held : {w : Width} {z : ℤ} → SFits w z → Loc w
held {z} f = arg z f

module _ (c : Start) where
  d-pos : pos 0 <ℤ c.args.d
  d-pos = c.requires.1

  abbrev N : Loc w64
  N = arg c.args.n c.ranges.n

  abbrev D : Loc w64
  D = arg c.args.d c.ranges.d

  -- the remainder and something that is added to it
  abbrev plus : Loc w64 → ℤ
  plus A = to_z w64 (rem N D d-pos).bits +ℤ to_z w64 A.bits

  plus-small : (A : Loc w64) → nat_abs A.num ≤ nat_abs D.num → nat_abs (plus A) < 2 * nat_abs D.num
  plus-small A h =
      let r = rem N D d-pos in
      omega (arith, abs_sum (to_z w64 r.bits) (to_z w64 A.bits), cast_u r, abs_rem N.num D.num d-pos, cast_u A)

  plus-fits : (A : Loc w64) → nat_abs A.num ≤ nat_abs D.num → SFits w64 (plus A)
  plus-fits A h = abs_sfits (omega (arith, plus-small A h, c.requires.2))

-- safe with d added, and it would be with 0 (the must-fail edit `remainder_below_zero`): only the equation tells the two apart
pub overflow_add-r : goal.overflow_add-r
overflow_add-r c = search (plus-fits c (D c) (omega arith), plus-fits c Zero (omega arith))

module _ (c : Start) where
  abbrev R : Loc w64
  R = held (overflow_add-r c)

  r_small : nat_abs R.num < 2 * nat_abs (D c).num
  r_small = search (plus-small c (D c) (omega arith), plus-small c Zero (omega arith))

  q-small : nat_abs (quot_z (N c).num (D c).num -ℤ pos 1) ≤ 2 ^ 62 + 1
  q-small = omega (arith, abs_diff (quot_z (N c).num (D c).num) (pos 1), abs_quot (N c).num (D c).num (d-pos c), c.requires.0)

  abbrev Q : Loc w64
  Q = sub (quot (N c) (D c) (d-pos c)) One (abs_sfits (omega (arith, q-small)))

  abbrev W : Loc w64
  W =
      add Q (quot R (D c) (d-pos c))
      (abs_sfits (omega (arith, abs_sum Q.num (quot_z R.num (D c).num), q-small, quot_once R.num (D c).num (d-pos c) r_small)))

pub overflow_add-result : goal.overflow_add-result
overflow_add-result c = add_need (Q c) (quot (R c) (D c) (d-pos c)) (W c).fit

pub returns : goal.returns
returns c =
    let n = c.args.n in
    let d = c.args.d in
    let raised : (R c).num ≡ rem_z n d +ℤ d = on_both (rem (N c) (D c) (d-pos c)) (D c) (λ u v. u +ℤ v) in
    rw ((W c).reads, (rem (R c) (D c) (d-pos c)).reads, raised) (division_unique n d (d-pos c) (divided_raised n d (d-pos c)))
