-- The lower and the higher of two values as the derived order gives them.
use Rattle.std.proofs.Common.{◌≡◌, refl, ap, ◌∙◌, T, arith, Less, Equal, Greater}
use Rattle.std.specs.Prelude.{Bool, true, false, not, cond, ℤ}
use Rattle.std.specs.Int.Signed.{lt_z, lt_z_yes, lt_z_no}
use Rattle.std.specs.Ordering.{is_lt, ord_min, ord_max}
use Rattle.charts.specs.Tests.{if_all}
use Rattle.charts.specs.Integers.{le_lt_z, le_ud, lt_ud, ud_le, ud_eq}
use Rattle.calibration.specs.Calibration.{lower_of, higher_of}
use Rattle.calibration.specs.contracts.conditions.StandardOrd.TheImpl.{cmp-value}
use Rattle.calibration.specs.declared.conditions.Standard.{Standard}

lesser : (t u : Bool) → is_lt (cond t Less (cond u Greater Equal)) ≡ t
lesser true u = refl
lesser false true = refl
lesser false false = refl

less_is : (a b : Standard) → is_lt (cmp-value.it a b) ≡ lt_z a.0 b.0
less_is a b = lesser (lt_z a.0 b.0) (lt_z b.0 a.0)

pub min_is : (a b : Standard) → ord_min cmp-value.it a b ≡ lower_of a b
unfolding lower_of
min_is a b = ap (λ (t : Bool). cond t b a) (less_is b a)

-- where neither is below the other they are one, whichever is taken
equal : (a b : Standard) → T (not (lt_z a.0 b.0)) → T (not (lt_z b.0 a.0)) → b ≡ a
equal a b h k =
    let e : b.0 ≡ a.0 = ud_eq (omega (arith, le_ud (lt_z_no {a = a.0} {b = b.0} h), le_ud (lt_z_no {a = b.0} {b = a.0} k))) in
    ap (λ (z : ℤ). record { 0 = z }) e

pub max_is : (a b : Standard) → ord_max cmp-value.it a b ≡ higher_of a b
unfolding higher_of
max_is a b =
    ap (λ (t : Bool). cond t a b) (less_is b a)
    ∙ if_all (λ (v : Standard). cond (lt_z b.0 a.0) a b ≡ v) (lt_z a.0 b.0) b a
    (λ t. let e : lt_z b.0 a.0 ≡ false = le_lt_z {a = b.0} {b = a.0} (ud_le (omega (arith, lt_ud (lt_z_yes {a = a.0} {b = b.0} t)))) in rw e)
    (λ t. if_all (λ (v : Standard). v ≡ a) (lt_z b.0 a.0) a b (λ u. refl) (λ u. equal a b t u))
