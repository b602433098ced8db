-- The lower and the higher of two values, and spans.
use Rattle.std.specs.Prelude.{◌≡◌, refl, ℕ, ◌≤◌, nat_abs}
use mathlib.Core.List.{List, [], ◌∷◌, foldl}
use Rattle.std.specs.Int.Signed.{lt_z}
use Rattle.charts.specs.Tests.{if_all}
use Rattle.calibration.specs.Calibration.{lower_of, higher_of, widened_of, span_from, span_of}
use Rattle.calibration.specs.declared.conditions.Standard.{Standard}
use Rattle.calibration.specs.declared.regression.Span.{Span}

-- each is one of the two
pub lower_has : (P : Standard → Type 0) (a b : Standard) → P a → P b → P (lower_of a b)
unfolding lower_of
lower_has P a b p q = if_all P (lt_z b.0 a.0) b a (λ t. q) (λ t. p)

pub higher_has : (P : Standard → Type 0) (a b : Standard) → P a → P b → P (higher_of a b)
unfolding higher_of
higher_has P a b p q = if_all P (lt_z a.0 b.0) b a (λ t. q) (λ t. p)

pub lower_same : (v : Standard) → lower_of v v ≡ v
lower_same v = lower_has (λ w. w ≡ v) v v refl refl

pub higher_same : (v : Standard) → higher_of v v ≡ v
higher_same v = higher_has (λ w. w ≡ v) v v refl refl

-- the ends of a span are at most m in size
pub record Spanned (m : ℕ) (s : Span) : Type 0 where
  pub low : nat_abs s.low.0 ≤ m
  pub high : nat_abs s.high.0 ≤ m

pub widened_spanned : {m : ℕ} {s : Span} (v : Standard) → Spanned m s → nat_abs v.0 ≤ m → Spanned m (widened_of s v)
unfolding widened_of
widened_spanned {m} {s} v S h = record {
  low = lower_has (λ w. nat_abs w.0 ≤ m) s.low v S.low h;
  high = higher_has (λ w. nat_abs w.0 ≤ m) s.high v S.high h;
}

-- the upper end, by itself
pub span_high : (s : Span) (vs : List Standard) → (span_from s vs).high ≡ foldl higher_of s.high vs
unfolding widened_of
span_high s [] = refl
span_high s (v ∷ vs) = span_high (widened_of s v) vs

-- a span that begins with the first value, and takes it in again
pub span_begun : (v : Standard) (vs : List Standard) → span_from (record { low = v; high = v }) (v ∷ vs) ≡ span_of (v ∷ vs)
unfolding widened_of span_of
span_begun v vs = rw (lower_same v, higher_same v)
