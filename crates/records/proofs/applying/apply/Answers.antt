-- `applying::apply` meets its contract.
use mathlib.Core.Path.{◌≡◌, refl, ap, ◌∙◌}
use native.Mathlib.Omega.{arith}
use lib.ListN.{length, length-take}
use Rattle.records.specs.Record.{Record, kind, minute, mark_limit}
use Rattle.records.specs.RecordLaws.{FormedFields, formed_fields, setting_ranged_lem, reading_ranged_lem, waiting_ranged_lem, value_ranged_lem}
use Rattle.records.specs.Kinds.{sets}
use Rattle.records.proofs.TableLaws.{Accepted, accepted, reading_passed, pair_passed, PairPasses, pair_passes}
use Rattle.records.specs.State.{facts_of}
use Rattle.records.specs.StateParts.{with_reading, with_reset, with_calibration, with_annual, emptied, judged_of}
use Rattle.records.proofs.SoundnessLaws.{setting_known}
use Rattle.records.specs.declared.state.State.{State}
use Rattle.records.proofs.ApplyLaws.{judged_total, judged_outside, applied_setting, applied_reading, applied_reset, applied_pair, applied_calibration, applied_annual, calibration_by, annual_by, charts_alike, applied_value, applied_drop}
use borrow.Author.Rules.{rules}
use Rattle.records.proofs.applying.apply.Goals as goal
use Rattle.records.proofs.applying.apply.Goals.{Start, After-judged-s}

-- the array has thirty places: what its type says stands among what is known of the fields, at the ninth
places : (c : Start) → length c.args.st.pairs ≡ 30
places c = c.well_formed.0.1.1.1.1.1.1.1.1.1.1.0.1.0.1

abbrev state_of : After-judged-s → State
state_of c = c.args.st

abbrev recordOf : After-judged-s → Record
recordOf c = c.args.r.now

passed : (c : After-judged-s) → Accepted (facts_of (state_of c)) (recordOf c)
passed c = accepted (facts_of (state_of c)) (recordOf c) c.requires.1

judged-is : (c : After-judged-s) → c.judged-s.result ≡ judged_of (state_of c) (minute (recordOf c))
unfolding minute
judged-is c = c.judged-s.ensures ∙ ap (judged_of (state_of c)) c.read32.ensures

pair_fits : (j : After-judged-s) → kind (recordOf j) ≡ 4 → PairPasses (facts_of (state_of j)) (recordOf j)
pair_fits j k = pair_passes (facts_of (state_of j)) (recordOf j) (pair_passed (facts_of (state_of j)) (recordOf j) (passed j) k)

record-formed : (c : After-judged-s) → FormedFields (recordOf c)
record-formed c = formed_fields (recordOf c) (passed c).formed

pub setting-requires : goal.setting-requires
unfolding kind
setting-requires c =
    let j = (goal.at.setting-requires c).After-judged-s in
    (setting_ranged_lem (recordOf j) (passed j).ranged c.in-1.is)

pub take_reading-requires : goal.take_reading-requires
unfolding kind judged_of
take_reading-requires c =
    let j = (goal.at.take_reading-requires c).After-judged-s in
    let A = passed j in
    rw (judged-is j)
    (reading_ranged_lem (recordOf j) A.ranged c.in-2.is, charts_alike (state_of j) _ (recordOf j) refl refl (reading_passed (facts_of (state_of j)) (recordOf j) A c.in-2.is), c.requires.0.zero, c.requires.0.span)

pub waiting-requires : goal.waiting-requires
unfolding kind
waiting-requires c =
    let j = (goal.at.waiting-requires c).After-judged-s in
    (waiting_ranged_lem (recordOf j) (passed j).ranged c.in-4.is, (pair_fits j c.in-4.is).starts)

pub add_pair-requires : goal.add_pair-requires
unfolding judged_of facts_of kind
add_pair-requires c =
    let j = (goal.at.add_pair-requires c).After-judged-s in
    rw (judged-is j) (omega (arith, (pair_fits j c.in-4.is).room, length-take (state_of j).waiting (state_of j).pairs, places (goal.at.add_pair-requires c).Start))

pub count_value-requires : goal.count_value-requires
unfolding kind sets judged_of
count_value-requires c =
    let j = (goal.at.count_value-requires c).After-judged-s in
    let S = c.requires.0 in
    let k = c.in-7.is in
    rw (judged-is j) record {
      counts = (omega (arith, judged_total (state_of j) (recordOf j), S.total), omega (arith, judged_outside (state_of j) (recordOf j), S.outside));
      figures = (k, S.calibration, setting_known (state_of j) (recordOf j) (passed j).placed (rw k tt) S.setting, value_ranged_lem (recordOf j) (passed j).ranged k);
    }

pub returns-in-1 : goal.returns-in-1
unfolding kind
returns-in-1 c =
    let j = (goal.at.returns-in-1 c).After-judged-s in
    rw (judged-is j, c.setting.ensures) (applied_setting (state_of j) (recordOf j) c.in-1.is)

pub returns-in-2 : goal.returns-in-2
unfolding kind mark_limit
returns-in-2 c =
    let j = (goal.at.returns-in-2 c).After-judged-s in
    let k = c.in-2.is in
    c.take_reading.ensures ∙ ap (λ (s : State). with_reading s (recordOf j)) (judged-is j) ∙ applied_reading (state_of j) (recordOf j) k (rw k at (record-formed j).mark)

pub returns-in-3 : goal.returns-in-3
unfolding kind mark_limit
returns-in-3 c =
    let j = (goal.at.returns-in-3 c).After-judged-s in
    let k = c.in-3.is in
    c.reset_chart.ensures ∙ ap (λ (s : State). with_reset s (recordOf j)) (judged-is j) ∙ applied_reset (state_of j) (recordOf j) k (rw k at (record-formed j).mark)

pub returns-in-4 : goal.returns-in-4
unfolding kind
returns-in-4 c =
    let j = (goal.at.returns-in-4 c).After-judged-s in
    c.add_pair.ensures ∙ rw (judged-is j, c.waiting.ensures) (applied_pair (state_of j) (recordOf j) c.in-4.is)

pub returns-in-5 : goal.returns-in-5
unfolding kind
returns-in-5 c =
    let j = (goal.at.returns-in-5 c).After-judged-s in
    let r = recordOf j in
    let C = c.with_closing.ensures in
    calibration_by c.judged-s.result r c.with_closing.result (λ e. let p = C.0 e in search rules) C.1
    ∙ ap (λ (s : State). with_calibration s r) (judged-is j) ∙ applied_calibration (state_of j) r c.in-5.is

pub returns-in-6 : goal.returns-in-6
unfolding kind
returns-in-6 c =
    let j = (goal.at.returns-in-6 c).After-judged-s in
    let r = recordOf j in
    let C = c.with_closing-in-6.ensures in
    annual_by c.judged-s.result r c.with_closing-in-6.result (λ e. let p = C.0 e in search rules) C.1
    ∙ ap (λ (s : State). with_annual s r) (judged-is j) ∙ applied_annual (state_of j) r c.in-6.is

pub returns-in-7 : goal.returns-in-7
unfolding kind judged_of
returns-in-7 c =
    let j = (goal.at.returns-in-7 c).After-judged-s in
    c.count_value.ensures ∙ rw (judged-is j) (applied_value (state_of j) (recordOf j) c.in-7.is)

pub returns-in-8 : goal.returns-in-8
unfolding kind
returns-in-8 c =
    let j = (goal.at.returns-in-8 c).After-judged-s in
    c.empty_pairs.ensures ∙ ap emptied (judged-is j) ∙ applied_drop (state_of j) (recordOf j) c.in-8.is

pub returns-in-0 : goal.returns-in-0
unfolding kind
returns-in-0 c = let F = record-formed (goal.at.returns-in-0 c).After-judged-s in let k = c.in-0.is in absurd (omega (arith, F.least))

pub returns-in-9-to-255 : goal.returns-in-9-to-255
unfolding kind
returns-in-9-to-255 c = let F = record-formed (goal.at.returns-in-9-to-255 c).After-judged-s in absurd (omega (arith, F.least, F.most))
