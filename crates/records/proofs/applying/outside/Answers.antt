-- `applying::outside` meets its contract.
use mathlib.Core.Path.{◌≡◌, sym, ap, subst, ◌∙◌}
use mir.Syntax.{w32}
use mir.Val.{to_z, of_z}
use mir.Facts.{to_z-of_z}
use Rattle.calibration.specs.Calibration.{LineRanged, value_of}
use Rattle.calibration.proofs.RangeLaws.{between_fits}
use Rattle.calibration.proofs.ConditionLaws.{value_fits}
use Rattle.records.specs.Record.{signal_of, value_conditions}
use Rattle.records.specs.RecordLaws.{value_fields, ValueFields}
use Rattle.records.specs.Kinds.{line_of, outside_by, Calibration}
use Rattle.records.specs.Soundness.{CalibrationSound}
use borrow.Author.Rules.{rules}
use Rattle.records.proofs.applying.outside.Goals as goal
use Rattle.records.proofs.applying.outside.Goals.{After-field}

module _ (c : After-field) where
  fields : ValueFields c.args.r.now
  fields = value_fields c.args.r.now c.requires.2

  -- the function in force is in its range
  line : LineRanged (line_of c.in-Some.f)
  line = subst CalibrationSound c.in-Some.is c.requires.0

  oxygen-back : let o = c.args.st.now.setting.requirements.oxygen in to_z w32 (of_z w32 o) ≡ o
  oxygen-back = to_z-of_z {w = w32} (between_fits tt c.requires.1.requirements.oxygen)

  signal-back : to_z w32 (of_z w32 c.field.result) ≡ signal_of c.args.r.now
  unfolding signal_of
  signal-back = to_z-of_z {w = w32} (record { sfits = c.field.type_inv }) ∙ c.field.ensures

pub value-c-requires : goal.value-c-requires
unfolding value_conditions
value-c-requires c =
    let k = (goal.at.value-c-requires c).After-field in (
      rw (oxygen-back k) c.requires.1.requirements.oxygen,
      rw c.line.ensures (line k),
      rw c.conditions.ensures (fields k).conditions,
      rw (signal-back k) (fields k).signal,
    )

pub returns-in-Some : goal.returns-in-Some
unfolding outside_by line_of value_conditions
returns-in-Some c =
    let k = (goal.at.returns-in-Some c).After-field in
    let a = c.args in
    let f = c.in-Some.f in
    let is : c.value-c.result ≡ value_of a.st.now.edition a.st.now.setting.requirements.oxygen (line_of f) (value_conditions a.r.now) (signal_of a.r.now) =
    c.value-c.ensures ∙ rw (oxygen-back k, c.line.ensures, c.conditions.ensures, signal-back k) in
    let back : to_z w32 (of_z w32 c.value-c.result.0) ≡ c.value-c.result.0 =
    rw is (to_z-of_z {w = w32} (value_fits _ _ _ _ _ c.requires.1.requirements.oxygen (line k) (fields k).conditions (fields k).signal)) in
    let top : to_z w32 (of_z w32 f.top.0) ≡ f.top.0 = to_z-of_z {w = w32} (search rules) in
    rw (back, top, is)
    (sym (ap (λ (k : Calibration). outside_by a.st.now.edition k a.st.now.setting a.r.now) c.in-Some.is))
