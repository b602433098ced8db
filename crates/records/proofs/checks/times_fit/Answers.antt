-- `checks::times_fit` meets its contract.
use mathlib.Core.Path.{◌≡◌, sym, ◌∙◌}
use mathlib.Core.Bool.{Bool, ◌&&◌}
use mathlib.Core.Option.{Option}
use Prim.Native.Nat.{◌*◌, ◌-◌}
use lib.ListN.{take}
use lib.Dec.{leb}
use borrow.Author.Tests.{le-leb}
use Rattle.records.specs.Record.{minute}
use Rattle.records.specs.Table.{times_fit_of, follows, last_of}
use Rattle.records.specs.State.{facts_of}
use Rattle.records.proofs.PairLaws.{last_some, last_sound}
use Rattle.records.specs.declared.state.Waiting.{Waiting}
use Rattle.records.proofs.checks.times_fit.Goals as goal
use Rattle.records.proofs.checks.times_fit.Goals.{After-response, Else-m-l}

-- the definition from the length, the minute and the response minutes that the code has read, and from its first two tests
whole : (c : After-response) {long begun : Bool}
    → let k = c.length-l.result in
    let m = c.read32-m.result in
    let a = c.args in
    leb (4 * c.response.result) k ≡ long → leb k m ≡ begun
    → times_fit_of (facts_of a.st) a.r.now ≡ (long && (begun && follows (last_of (take a.st.waiting a.st.pairs)) (m - k) k))
unfolding times_fit_of facts_of minute
whole c e f = rw (← c.length-l.ensures.0, ← c.read32-m.ensures, ← c.response.ensures.0, e, f)

-- past the two tests the pair before decides
by_last : (c : Else-m-l) {o : Option Waiting}
    → let k = c.length-l.result in
    let m = c.read32-m.result in
    let a = c.args in
    last_of (take a.st.waiting a.st.pairs) ≡ o → times_fit_of (facts_of a.st) a.r.now ≡ follows o (m - k) k
by_last c e = whole c.before.before (le-leb _ _ c.if-l-response.false) (le-leb _ _ c.if-m-l.false) ∙ rw e

pub follows_one-requires : goal.follows_one-requires
follows_one-requires c = (last_sound (take c.args.st.waiting c.args.st.pairs) _ c.in-Some.ensures.value c.requires.0.pairs).start

pub returns-in-Some : goal.returns-in-Some
unfolding follows
returns-in-Some c = c.follows_one.ensures ∙ sym (by_last (goal.at.returns-in-Some c).Else-m-l (last_some (take c.args.st.waiting c.args.st.pairs) _ c.in-Some.ensures.value))
