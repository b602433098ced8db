-- The summary of a history goes through any list of records as the history does, and stops at the same record for the same reason.
use Rattle.std.specs.Prelude.{◌≡◌, refl, Bool, true, false, List, [], ◌∷◌, ℕ, suc, ◌+◌, ◌≤◌, eqb, T, length, if◌then◌else◌}
use Rattle.std.proofs.Common.{subst, ◌∙◌, arith, eqb→eq}
use Rattle.charts.specs.Tests.{if_all}
use Rattle.records.specs.Record.{Record}
use Rattle.records.specs.History.{Entry, History, refusal_of}
use Rattle.records.specs.State.{applied_to}
use Rattle.records.specs.Soundness.{Sound}
use Rattle.records.proofs.SoundnessLaws.{elsewhere, none_sound, none_places, applied_sound, applied_places}
use Rattle.records.specs.Summary.{Taken, Position, entry_at, summary_of}
use Rattle.records.proofs.SummaryLaws.{refuses_alike, summary_after}
use Rattle.records.specs.Steps.{Ran, ran_from, history_rules, state_rules}
use Rattle.records.specs.declared.state.State.{State}

-- ---- the summary of accepted records is sound

-- a place in the block of an entry
abbrev with_edition : Position → Entry → Position
with_edition p x = record p { edition = x.edition }

-- its array has thirty places
pub summary_places : (p : Position) (h : History) → Taken h → length (summary_of p h).pairs ≡ 30
unfolding summary_of
summary_places p [] t = none_places p
summary_places p (x ∷ h) t =
    let q = with_edition p x in
    subst (λ (st : State). length st.pairs ≡ 30) (summary_after q h t.1 x.bytes t.0) (applied_places (summary_of q h) x.bytes (summary_places q h t.1))

-- and its counts are no more than the records
pub summary_sound : (p : Position) (h : History) → Taken h → Sound (length h) (summary_of p h)
unfolding summary_of
summary_sound p [] t = none_sound p
summary_sound p (x ∷ h) t =
    let q = with_edition p x in
    elsewhere p.analyser p.next p.edition (omega arith)
    (subst (Sound (length h + 1)) (summary_after q h t.1 x.bytes t.0)
    (applied_sound (length h) (summary_of q h) x.bytes (summary_places q h t.1) (summary_sound q h t.1) (refuses_alike q h x.bytes ∙ t.0)))

-- ---- the records of a block

-- the end of a list of records with the summary for the history
abbrev pub summarised : Position → Ran History → Ran State
summarised p x = record { kept = summary_of p x.kept; refusal = x.refusal; place = x.place }

pub ran_alike : (p : Position) (place : ℕ) (h : History) (rs : List Record) → Taken h
    → ran_from state_rules place (summary_of p h) rs ≡ summarised p (ran_from (history_rules p.edition) place h rs)
unfolding ran_from history_rules state_rules
ran_alike p place h [] t = refl
ran_alike p place h (r ∷ rs) t =
    rw (refuses_alike p h r)
    (go (eqb (refusal_of h x) 0) (λ y. eqb→eq (refusal_of h x) 0 y) (λ e. ran_alike p (place + 1) (x ∷ h) rs (e, t)))
  where
    x : Entry
    x = entry_at p r

    A : Ran History
    A = ran_from (history_rules p.edition) (place + 1) (x ∷ h) rs

    go : (b : Bool) → (T b → refusal_of h x ≡ 0) → (refusal_of h x ≡ 0 → ran_from state_rules (place + 1) (summary_of p (x ∷ h)) rs ≡ summarised p A)
        → (if b then ran_from state_rules (place + 1) (applied_to (summary_of p h) r) rs else record { kept = summary_of p h; refusal = refusal_of h x; place = place })
        ≡ summarised p (if b then A else record { kept = h; refusal = refusal_of h x; place = place })
    go true f rest = rw (summary_after p h t r (f tt)) (rest (f tt))
    go false f rest = refl

-- the history that they leave was accepted too, and is longer by no more than they are
pub ran_taken : (edition place : ℕ) (h : History) (rs : List Record) → Taken h
    → Taken (ran_from (history_rules edition) place h rs).kept × (length (ran_from (history_rules edition) place h rs).kept ≤ length h + length rs)
unfolding ran_from history_rules
ran_taken edition place h [] t = (t, omega arith)
ran_taken edition place h (r ∷ rs) t =
    if_all (λ (x : Ran History). Taken x.kept × (length x.kept ≤ length h + suc (length rs))) (eqb (refusal_of h x) 0) _ _
    (λ y. let k = ran_taken edition (place + 1) (x ∷ h) rs (eqb→eq (refusal_of h x) 0 y, t) in (k.0, omega (arith, k.1)))
    (λ n. (t, omega arith))
  where
    x : Entry
    x = record { edition = edition; bytes = r }
