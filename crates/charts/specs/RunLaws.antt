-- The run theorem: what a sum and its count say of the runs in its terms. Over any list of terms, newest first.
use Rattle.std.specs.Prelude.{◌≡◌, refl, not, List, [], ◌∷◌, ℕ, zero, suc, ◌+◌, ◌<◌, ◌≤◌, T, ltb, ℤ, pos, nat_abs}
use Rattle.std.specs.Prelude.{◌+ℤ◌, take, length, ◌<ℤ◌, ◌≤ℤ◌}
use Rattle.std.proofs.Common.{sym, ap, ◌∙◌, add-one, arith}
use Rattle.std.specs.Int.Signed.{lt_z, lt_z_yes, lt_z_no}
use Rattle.charts.specs.Integers.{ints, up, dn, one_zero, abs_ud, eq_ud, ud_eq, lt_ud}
use Rattle.charts.specs.Integers as Z
use Rattle.charts.specs.Tests.{if_all, Answers, answers_lt_z, answers_as}
use Rattle.charts.specs.Sums.{empty, added}
use Rattle.charts.specs.Runs.{total, RunOver}
use Rattle.charts.specs.declared.Sum.{Sum}

-- the sum and its count after the terms, newest first
unfoldable pub summed : List ℤ → Sum
summed [] = empty
summed (t ∷ ts) = added (summed ts) t

-- What a sum shows of its terms: it is the total of the newest `count` terms, and no run sums higher.
-- So with a count of 0 no run sums above 0.
pub record Shows (u : Sum) (ts : List ℤ) : Type 0 where
  pub there : u.count ≤ length ts
  pub exact : pos u.value ≡ total (take u.count ts)
  pub highest : (n : ℕ) → total (take n ts) ≤ℤ pos u.value
  pub nothing : u.count ≡ 0 → (n : ℕ) → total (take n ts) ≤ℤ pos 0

shows_empty : Shows empty []
unfolding empty
shows_empty = record { there = omega arith; exact = refl; highest = none; nothing = λ e. none }
  where
    none : (n : ℕ) → total (take n []) ≤ℤ pos 0
    none zero = omega ints
    none (suc n) = omega ints

-- one term more
shows_added : (u : Sum) (t : ℤ) (ts : List ℤ) → Shows u ts → Shows (added u t) (t ∷ ts)
unfolding added empty
shows_added u t ts S = if_all (λ (w : Sum). Shows w (t ∷ ts)) (lt_z (pos 0) z) _ _ kept lost
  where
    z : ℤ
    z = pos u.value +ℤ t

    bound : (n : ℕ) → total (take (suc n) (t ∷ ts)) ≤ℤ z
    bound n = let h = S.highest n in omega (ints, Z.sum (total (take n ts)) t, Z.sum (pos u.value) t)

    kept : T (lt_z (pos 0) z) → Shows (record { value = nat_abs z; count = u.count + 1 }) (t ∷ ts)
    kept b =
        let h : pos 0 <ℤ z = lt_z_yes b in
        let e : pos (nat_abs z) ≡ z = ud_eq (omega (arith, lt_ud h, abs_ud z, one_zero z)) in
        record {
          there = let l = S.there in omega arith;
          exact = e ∙ ap (λ (v : ℤ). v +ℤ t) S.exact ∙ ap (λ (n : ℕ). total (take n (t ∷ ts))) (sym (add-one u.count));
          highest = λ n. rw e (under n h);
          nothing = λ f. absurd (omega arith);
        }
      where
        under : (n : ℕ) → pos 0 <ℤ z → total (take n (t ∷ ts)) ≤ℤ z
        under zero h = omega ints
        under (suc n) h = bound n

    lost : T (not (lt_z (pos 0) z)) → Shows (record { value = 0; count = 0 }) (t ∷ ts)
    lost b = record { there = omega arith; exact = refl; highest = below; nothing = λ e. below }
      where
        below : (n : ℕ) → total (take n (t ∷ ts)) ≤ℤ pos 0
        below zero = omega ints
        below (suc n) = let h : z ≤ℤ pos 0 = lt_z_no b in let k = bound n in omega ints

-- THE RUN THEOREM, in its strong form
pub shows : (ts : List ℤ) → Shows (summed ts) ts
unfolding summed
shows [] = shows_empty
shows (t ∷ ts) = shows_added (summed ts) t ts (shows ts)

-- from it: the sum is over a limit exactly if some run is
pub over_answers : (limit : ℕ) (u : Sum) (ts : List ℤ) → Shows u ts
    → Answers (ltb limit u.value) (RunOver (pos limit) ts)
over_answers limit u ts S = answers_as (answers_lt_z (pos limit) (pos u.value)) there back
  where
    there : pos limit <ℤ pos u.value → RunOver (pos limit) ts
    there h = record { n = u.count; some = some u.count S.exact; there = S.there; above = rw S.exact at h }
      where
        some : (n : ℕ) → pos u.value ≡ total (take n ts) → 0 < n
        some zero e = absurd (omega (ints, lt_ud h, eq_ud e))
        some (suc n) e = omega arith

    back : RunOver (pos limit) ts → pos limit <ℤ pos u.value
    back r = let a = r.above in let h = S.highest r.n in omega ints
