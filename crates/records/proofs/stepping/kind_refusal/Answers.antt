-- `stepping::kind_refusal` meets its contract: an arm for each kind that has rows of its own.
use mathlib.Core.Path.{◌≡◌, refl, sym, ap, subst, ◌∙◌}
use mathlib.Core.Bool.{Bool, false, not}
use Prim.Native.Nat.{ℕ}
use lib.Dec.{T, eqb}
use Rattle.records.specs.Record.{Record, kind}
use Rattle.records.specs.RecordLaws.{waiting_ranged_lem, z_ranged, z_field}
use Rattle.records.specs.Kinds.{sets}
use Rattle.records.specs.Soundness.{SettingSound}
use Rattle.records.proofs.SoundnessLaws.{setting_known}
use Rattle.records.proofs.stepping.kind_refusal.Goals as goal
use Rattle.records.proofs.stepping.kind_refusal.Goals.{Start}

-- a record of another kind than 1 finds the setting
unset : (r : Record) (k : ℕ) → kind r ≡ k → eqb k 1 ≡ false → T (not (sets r))
unfolding sets
unset r k e n = subst (λ (b : Bool). T (not b)) (sym (ap (λ (m : ℕ). eqb m 1) e ∙ n)) tt

known : (s : Start) (k : ℕ) → kind s.args.r.now ≡ k → eqb k 1 ≡ false → SettingSound s.args.st.setting
known s k e n = setting_known s.args.st s.args.r.now s.requires.1 (unset s.args.r.now k e n) s.requires.0.setting

pub pair_refusal-requires : goal.pair_refusal-requires
unfolding kind
pair_refusal-requires c =
    let s = (goal.at.pair_refusal-requires c).Start in
    let k = c.in-4.is in
    (s.requires.0, known s 4 k refl, waiting_ranged_lem s.args.r.now s.requires.2 k)

pub calibration_refusal-requires : goal.calibration_refusal-requires
unfolding kind
calibration_refusal-requires c =
    let s = (goal.at.calibration_refusal-requires c).Start in
    let k = c.in-5.is in
    let r = s.args.r.now in
    (s.requires.0, known s 5 k refl, z_field r (z_ranged r s.requires.2 k))

pub annual_refusal-requires : goal.annual_refusal-requires
unfolding kind
annual_refusal-requires c =
    let s = (goal.at.annual_refusal-requires c).Start in
    (s.requires.0, known s 6 c.in-6.is refl)
