-- `closing::stores_fit` meets its contract.
use mathlib.Core.Path.{◌≡◌}
use mathlib.Core.Bool.{Bool, ◌&&◌}
use Prim.Native.Nat.{ℕ}
use lib.Dec.{eqb}
use lib.IntN.{pos}
use native.Mathlib.Omega.{arith}
use mir.Syntax.{w32, w64}
use mir.Val.{SFits}
use borrow.Author.Rules.{rules}
use Rattle.std.specs.Prelude.{Ok}
use Rattle.calibration.specs.Outcomes.{Fitted, fitted}
use Rattle.records.specs.Record.{Record, mark, field_of, long_field_of}
use Rattle.records.specs.Table.{sameℤ, stores_fit_of, pass_mark_of}
use Rattle.records.proofs.SignedLaws.{same_bits}
use Rattle.records.proofs.closing.stores_fit.Goals as goal

-- the definition by what the code compares
whole : (c : Fitted) (r : Record) {m : ℕ} {slope intercept top count : Bool}
    → m ≡ pass_mark_of c → slope ≡ sameℤ (field_of r 12) c.line.slope → intercept ≡ sameℤ (long_field_of r 16) c.line.intercept
    → top ≡ sameℤ (field_of r 24) c.top.0 → count ≡ sameℤ (field_of r 28) (pos c.count)
    → ((eqb (mark r) m && slope) && (intercept && (top && count))) ≡ stores_fit_of c r
unfolding stores_fit_of
whole c r e f g h k = rw (e, f, g, h, k)

pub returns : goal.returns
unfolding mark
returns c =
    let a = c.args in
    let slope : SFits w32 a.c.line.slope = search rules in
    let intercept : SFits w64 a.c.line.intercept = search rules in
    let top : SFits w32 a.c.top.0 = search rules in
    whole (fitted (Ok a.c)) a.r.now c.pass_mark.ensures
    (same_bits w32 c.field.type_inv c.field.ensures slope)
    (same_bits w64 c.long_field.type_inv c.long_field.ensures intercept)
    (same_bits w32 c.field-2.type_inv c.field-2.ensures top)
    (same_bits w32 c.field-3.type_inv c.field-3.ensures (record { sfits = omega arith }))
