-- A state that is changed in place is the state after the record.
use mathlib.Core.Path.{◌≡◌}
use mathlib.Core.Bool.{true, false}
use Prim.Native.Nat.{ℕ}
use lib.Dec.{eqb, leb}
use borrow.Author.Tests.{eqb-true, leb-true, le-ltb}
use Rattle.std.proofs.lemmas.Bool.{and_parts}
use Rattle.records.specs.Record.{Record, kind, minute}
use Rattle.records.specs.Kinds.{week_of, no_values, raises_demand_of}
use Rattle.records.specs.Table.{refusal_in}
use Rattle.records.specs.State.{facts_of, turns_from, judged_at, running_at}
use Rattle.records.specs.StateParts.{judged_of}
use Rattle.records.specs.Soundness.{Fitting}
use Rattle.records.specs.InPlace.{in_week_of, InWeek}
use Rattle.records.specs.declared.state.State.{State}

-- ---- in_week_of

pub in_week : (k : ℕ) (st : State) (r : Record) → in_week_of k st r ≡ true → Fitting st → refusal_in (facts_of st) r ≡ 0
    → InWeek k st r
unfolding in_week_of
in_week k st r t s a =
    let p = and_parts (eqb (kind r) k) (leb (week_of (minute r)) (week_of st.minute)) t in
    record {
      sound = s;
      accepted = a;
      is = eqb-true (kind r) k p.0;
      week = le-ltb _ _ (leb-true (week_of (minute r)) (week_of st.minute) p.1);
    }

-- ---- the state with the minute of a record of no later week is the judged state

pub in_place : (st : State) (r : Record) (m : ℕ) → turns_from st.minute (minute r) ≡ false → m ≡ minute r
    → record st { begun = true; minute = m } ≡ judged_of st (minute r)
unfolding judged_of judged_at running_at no_values raises_demand_of
in_place st r m w e = rw (e, w)
