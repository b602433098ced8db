-- Paper 01, 'Units and rounding': its three examples of near(n/d) as facts of the definition in edition 1, and paper 02, C-12: five of edition 2.
use Rattle.std.specs.Prelude.{◌≡◌, refl, pos, neg_ℤ}
use Rattle.charts.specs.Rounding.{odd, rounds_up_of, near_of}

pub record RoundingCases : Type 0 where
  pub half : near_of 1 (pos 1) (pos 2) ≡ pos 1
  pub minus_half : near_of 1 (neg_ℤ (pos 1)) (pos 2) ≡ pos 0
  pub minus_three_halves : near_of 1 (neg_ℤ (pos 3)) (pos 2) ≡ neg_ℤ (pos 1)
  pub even_half : near_of 2 (pos 1) (pos 2) ≡ pos 0
  pub even_three_halves : near_of 2 (pos 3) (pos 2) ≡ pos 2
  pub even_five_halves : near_of 2 (pos 5) (pos 2) ≡ pos 2
  pub even_minus_half : near_of 2 (neg_ℤ (pos 1)) (pos 2) ≡ pos 0
  pub even_minus_three_halves : near_of 2 (neg_ℤ (pos 3)) (pos 2) ≡ neg_ℤ (pos 2)

pub rounding_cases : RoundingCases
unfolding near_of rounds_up_of odd
rounding_cases = record {
  half = refl;
  minus_half = refl;
  minus_three_halves = refl;
  even_half = refl;
  even_three_halves = refl;
  even_five_halves = refl;
  even_minus_half = refl;
  even_minus_three_halves = refl;
}
