-- `calibration::conditions::standard_conditions` meets its contract: four calls of `times`, each on what the one before gave.
use Rattle.std.proofs.Common.{◌≡◌, ap, ◌∙◌, ℕ, ◌*◌, ◌^◌, ◌≤◌, arith, SFits, w32, w64}
use Rattle.std.specs.Prelude.{ℤ, pos, nat_abs, ◌<ℤ◌}
use lib.Dec.{lit<}
use mir.Val.{to_z, of_z}
use Rattle.charts.specs.Integers.{abs_sfits}
use Rattle.charts.specs.SignedLocals.{Loc, arg, lit, add, sub, cast, cast_need}
use Rattle.calibration.specs.Pairs.{ConditionsRanged, OxygenRanged}
use Rattle.calibration.specs.Conditions.{times_of, standard_of}
use Rattle.calibration.proofs.RangeLaws.{between_fits, wide}
use Rattle.calibration.specs.declared.conditions.Actual.{Actual}
use Rattle.calibration.specs.declared.conditions.Conditions.{Conditions}
use Rattle.calibration.proofs.ConditionLaws.{Factor, Sized, times_sized, temperature_factor, pressure_factor, water_factor, oxygen_factor}
use Rattle.calibration.proofs.conditions.standard_conditions.Goals as goal
use Rattle.calibration.proofs.conditions.standard_conditions.Goals.{After-times-o}

-- a call of `times`: its arguments, what it asks, what it answers, and what is known of the answer
record Call (f m : ℕ) : Type 0 where
  v : Loc w64
  n : Loc w64
  d : Loc w64
  factor : Factor f n.num d.num
  sized : Sized m v.num

module _ (edition : ℕ) {f m : ℕ} (K : Call f m) where
  abbrev Answer : ℤ → Type 0
  Answer x = x ≡ times_of edition (to_z w64 K.v.bits) (to_z w64 K.n.bits) (to_z w64 K.d.bits)

  asks : m ≤ 2 ^ 40 → (nat_abs (to_z w64 K.v.bits) ≤ 2 ^ 40) × (nat_abs (to_z w64 K.n.bits) ≤ 2 ^ 20) × (pos 0 <ℤ to_z w64 K.d.bits) × (nat_abs (to_z w64 K.d.bits) ≤ 2 ^ 20)
  asks h = rw (K.v.reads, K.n.reads, K.d.reads) (omega (arith, K.sized.size), K.factor.numerator, K.factor.above, K.factor.divisor)

  is : {x : ℤ} → Answer x → x ≡ times_of edition K.v.num K.n.num K.d.num
  is e = rw (K.v.reads, K.n.reads, K.d.reads) at e

  sized : {x : ℤ} → Answer x → Sized (f * m) x
  sized e = rw (is e) (times_sized edition K.factor K.sized)

abbrev Air : Loc w64
Air = lit 2100 (lit< tt)

-- the four calls
module _ (edition : ℕ) (reference : ℤ) (k : Conditions) (v : Actual) (F : SFits w32 reference) (Q : OxygenRanged reference × ConditionsRanged k × (nat_abs v.0 ≤ 8000000)) where
  abbrev call₁ : Call 3 8000000
  call₁ =
      let f = temperature_factor Q.1 in
      record {
        v = wide v.0 (abs_sfits (omega (arith, Q.2)));
        n = add (lit 27315 (lit< tt)) (wide k.temperature (between_fits tt Q.1.temperature)) (abs_sfits (omega (arith, f.numerator)));
        d = lit 27315 (lit< tt);
        factor = f;
        sized = record { size = Q.2 };
      }

  module _ {t : ℤ} (T : SFits w64 t) (e₁ : Answer edition call₁ t) where
    abbrev call₂ : Call 2 (3 * 8000000)
    call₂ =
        let f = pressure_factor Q.1 in
        record {
          v = arg t T;
          n = lit 10130 (lit< tt);
          d = add (lit 10130 (lit< tt)) (wide k.pressure (between_fits tt Q.1.pressure)) (abs_sfits (omega (arith, f.divisor)));
          factor = f;
          sized = sized edition call₁ e₁;
        }

    module _ {p : ℤ} (P : SFits w64 p) (e₂ : Answer edition call₂ p) where
      abbrev call₃ : Call 2 (2 * (3 * 8000000))
      call₃ =
          let f = water_factor Q.1 in
          record {
            v = arg p P;
            n = lit 10000 (lit< tt);
            d = sub (lit 10000 (lit< tt)) (wide k.water (between_fits tt Q.1.water)) (abs_sfits (omega (arith, f.divisor)));
            factor = f;
            sized = sized edition call₂ e₂;
          }

      module _ {h : ℤ} (H : SFits w64 h) (e₃ : Answer edition call₃ h) where
        abbrev call₄ : Call 7 (2 * (2 * (3 * 8000000)))
        call₄ =
            let f = oxygen_factor Q.1 Q.0 in
            record {
              v = arg h H;
              n = sub Air (wide reference F) (abs_sfits (omega (arith, f.numerator)));
              d = sub Air (wide k.oxygen (between_fits tt Q.1.oxygen)) (abs_sfits (omega (arith, f.divisor)));
              factor = f;
              sized = sized edition call₃ e₃;
            }

        module _ {o : ℤ} (O : SFits w64 o) (e₄ : Answer edition call₄ o) where
          small : SFits w32 o
          small = abs_sfits (omega (arith, (sized edition call₄ e₄).size))

          -- the last answer as i32
          result : to_z w32 (of_z w32 (to_z w64 (of_z w64 o))) ≡ (standard_of edition reference k v).0
          unfolding standard_of
          result = (cast w32 (arg o O) small).reads ∙ rw (is edition call₄ e₄, is edition call₃ e₃, is edition call₂ e₂, is edition call₁ e₁)

pub times-p-requires : goal.times-p-requires
times-p-requires c =
    let a = c.args in
    let e₁ = rw (c.from-x.ensures, c.from.ensures) at c.times-t.ensures in
    rw c.from-2.ensures (asks a.edition (call₂ a.edition a.reference a.k a.v c.ranges.reference c.requires (record { sfits = c.times-t.type_inv }) e₁) (omega arith))

pub times-h-requires : goal.times-h-requires
times-h-requires c =
    let a = c.args in
    let T : SFits w64 c.times-t.result = record { sfits = c.times-t.type_inv } in
    let P : SFits w64 c.times-p.result = record { sfits = c.times-p.type_inv } in
    let e₁ = rw (c.from-x.ensures, c.from.ensures) at c.times-t.ensures in
    let e₂ = rw c.from-2.ensures at c.times-p.ensures in
    rw c.from-3.ensures (asks a.edition (call₃ a.edition a.reference a.k a.v c.ranges.reference c.requires T e₁ P e₂) (omega arith))

pub times-o-requires : goal.times-o-requires
times-o-requires c =
    let a = c.args in
    let T : SFits w64 c.times-t.result = record { sfits = c.times-t.type_inv } in
    let P : SFits w64 c.times-p.result = record { sfits = c.times-p.type_inv } in
    let H : SFits w64 c.times-h.result = record { sfits = c.times-h.type_inv } in
    let e₁ = rw (c.from-x.ensures, c.from.ensures) at c.times-t.ensures in
    let e₂ = rw c.from-2.ensures at c.times-p.ensures in
    let e₃ = rw c.from-3.ensures at c.times-h.ensures in
    rw (c.from-air.ensures, c.from-4.ensures) (asks a.edition (call₄ a.edition a.reference a.k a.v c.ranges.reference c.requires T e₁ P e₂ H e₃) (omega arith))

-- the last answer, and that it fits
answered : (c : After-times-o)
    → SFits w32 c.times-o.result × (to_z w32 (of_z w32 (to_z w64 (of_z w64 c.times-o.result))) ≡ (standard_of c.args.edition c.args.reference c.args.k c.args.v).0)
answered c =
    let a = c.args in
    let T : SFits w64 c.times-t.result = record { sfits = c.times-t.type_inv } in
    let P : SFits w64 c.times-p.result = record { sfits = c.times-p.type_inv } in
    let H : SFits w64 c.times-h.result = record { sfits = c.times-h.type_inv } in
    let O : SFits w64 c.times-o.result = record { sfits = c.times-o.type_inv } in
    let e₁ = rw (c.from-x.ensures, c.from.ensures) at c.times-t.ensures in
    let e₂ = rw c.from-2.ensures at c.times-p.ensures in
    let e₃ = rw c.from-3.ensures at c.times-h.ensures in
    let e₄ = rw (c.from-air.ensures, c.from-4.ensures) at c.times-o.ensures in (
      small a.edition a.reference a.k a.v c.ranges.reference c.requires T e₁ P e₂ H e₃ O e₄,
      result a.edition a.reference a.k a.v c.ranges.reference c.requires T e₁ P e₂ H e₃ O e₄,
    )

pub overflow_cast-result : goal.overflow_cast-result
overflow_cast-result c =
    cast_need w32 (arg {w = w64} c.times-o.result (record { sfits = c.times-o.type_inv })) (answered (goal.at.overflow_cast-result c).After-times-o).0

pub returns : goal.returns
returns c = ap (λ (z : ℤ). record { 0 = z }) (answered (goal.at.returns c).After-times-o).1
