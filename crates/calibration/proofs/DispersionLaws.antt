-- Q = NΣD² - (ΣD)² is not negative.
use Rattle.std.specs.Prelude.{◌≡◌, List, [], ◌∷◌, ℕ, suc, ◌+◌, ◌-◌, ◌*◌, ◌≤◌, ℤ, pos, negsuc, neg_ℤ, ◌+ℤ◌, ◌*ℤ◌, length, ◌≤ℤ◌}
use Rattle.std.proofs.Common.{⊎_elim, arith, eq-zero-or-pos}
use Rattle.std.proofs.Math.IntN.{*ℤ_comm}
use Rattle.std.specs.Int.Signed.{≤ℤ_refl}
use Rattle.charts.specs.Integers.{sum, diff, prod, up_neg, eq_ud, ud_eq, le_ud, ud_le, *ℤ-distrib, +ℤ-distrib-*}
use Rattle.calibration.specs.Calibration.{deviations_total, deviations_squared, q_of}

-- ---- twice a product is at most the squares
ordered : (m n : ℕ) → m ≤ n → 2 * (m * n) ≤ m * m + n * n
ordered m n h = let e : n ≡ m + (n - m) = omega arith in rw e (omega arith)

twice : (m n : ℕ) → 2 * (m * n) ≤ m * m + n * n
twice m n = ⊎_elim (λ e. omega (arith, ordered n m (omega arith))) (λ h. ordered m n (omega arith)) (eq-zero-or-pos (n - m))

twice_product : (a b : ℤ) → (pos 2 *ℤ (a *ℤ b)) ≤ℤ (a *ℤ a +ℤ b *ℤ b)
twice_product (pos m) (pos n) = ud_le (omega (arith, twice m n))
twice_product (pos m) (negsuc n) = let z = neg_ℤ (pos (m * suc n)) in ud_le (omega (arith, prod (pos 2) z, up_neg (pos (m * suc n))))
twice_product (negsuc m) (pos n) = let z = neg_ℤ (pos (suc m * n)) in ud_le (omega (arith, prod (pos 2) z, up_neg (pos (suc m * n))))
twice_product (negsuc m) (negsuc n) = ud_le (omega (arith, twice (suc m) (suc n)))

-- ---- (a + b)²
square_sum : (a b : ℤ) → (a +ℤ b) *ℤ (a +ℤ b) ≡ a *ℤ a +ℤ b *ℤ b +ℤ pos 2 *ℤ (a *ℤ b)
square_sum a b =
    let s = a +ℤ b in
    let f₁ = eq_ud (+ℤ-distrib-* a b s) in
    let f₂ = sum (a *ℤ s) (b *ℤ s) in
    let f₃ = eq_ud (*ℤ-distrib a a b) in
    let f₄ = sum (a *ℤ a) (a *ℤ b) in
    let f₅ = eq_ud (*ℤ-distrib b a b) in
    let f₆ = sum (b *ℤ a) (b *ℤ b) in
    let f₇ = eq_ud (*ℤ_comm b a) in
    let f₈ = sum (a *ℤ a) (b *ℤ b) in
    let f₉ = sum (a *ℤ a +ℤ b *ℤ b) (pos 2 *ℤ (a *ℤ b)) in
    ud_eq (omega (arith, prod (pos 2) (a *ℤ b)))

-- ---- 2dΣD ≤ ΣD² + Nd²
crossed : (d : ℤ) (ds : List ℤ) → (pos 2 *ℤ (d *ℤ deviations_total ds)) ≤ℤ (deviations_squared ds +ℤ pos (length ds) *ℤ (d *ℤ d))
crossed d [] = ud_le (omega (arith, prod d (pos 0), prod (pos 2) (d *ℤ pos 0), prod (pos 0) (d *ℤ d), sum (pos 0) (pos 0 *ℤ (d *ℤ d))))
crossed d (e ∷ ds) =
    let n = length ds in
    let s = deviations_total ds in
    let q = deviations_squared ds in
    let f₁ = le_ud (crossed d ds) in
    let f₂ = le_ud (twice_product d e) in
    let f₃ = eq_ud (*ℤ-distrib d e s) in
    let f₄ = sum (d *ℤ e) (d *ℤ s) in
    let f₅ = prod (pos 2) (d *ℤ (e +ℤ s)) in
    let f₆ = prod (pos 2) (d *ℤ e) in
    let f₇ = prod (pos 2) (d *ℤ s) in
    let f₈ = sum (d *ℤ d) (e *ℤ e) in
    let f₉ = sum (e *ℤ e) q in
    let g₁ = prod (pos n) (d *ℤ d) in
    let g₂ = prod (pos (suc n)) (d *ℤ d) in
    let g₃ = sum q (pos n *ℤ (d *ℤ d)) in
    ud_le (omega (arith, sum (e *ℤ e +ℤ q) (pos (suc n) *ℤ (d *ℤ d))))

pub q_not_negative : (ds : List ℤ) → pos 0 ≤ℤ q_of ds
unfolding q_of
q_not_negative [] = ≤ℤ_refl (pos 0)
q_not_negative (d ∷ ds) =
    let n = length ds in
    let s = deviations_total ds in
    let q = deviations_squared ds in
    let f₁ = le_ud (q_not_negative ds) in
    let f₂ = le_ud (crossed d ds) in
    let f₃ = eq_ud (square_sum d s) in
    let f₄ = sum (d *ℤ d) (s *ℤ s) in
    let f₅ = sum (d *ℤ d +ℤ s *ℤ s) (pos 2 *ℤ (d *ℤ s)) in
    let f₆ = eq_ud (*ℤ-distrib (pos (suc n)) (d *ℤ d) q) in
    let f₇ = sum (pos (suc n) *ℤ (d *ℤ d)) (pos (suc n) *ℤ q) in
    let f₈ = prod (pos (suc n)) (d *ℤ d) in
    let f₉ = prod (pos (suc n)) q in
    let g₁ = prod (pos n) (d *ℤ d) in
    let g₂ = prod (pos n) q in
    let g₃ = sum q (pos n *ℤ (d *ℤ d)) in
    let g₄ = diff (pos n *ℤ q) (s *ℤ s) in
    ud_le (omega (arith, diff (pos (suc n) *ℤ (d *ℤ d +ℤ q)) ((d +ℤ s) *ℤ (d +ℤ s))))
