-- The laws of the slices, and of the checks before them.
-- Assumes nothing.
use Rattle.std.proofs.Common.{Result, Ok, Err}
use Prim.Native.Nat.{ℕ, zero, suc, ◌+◌, ◌-◌, ◌*◌, ◌/◌, ◌%◌, ◌≤◌, ◌<◌}
use mathlib.Core.Path.{◌≡◌, refl, sym, ap, ap₂, ◌∙◌}
use mathlib.Core.List.{List, [], ◌∷◌, ◌++◌, append_assoc, append-nil}
use lib.ListN.{length, get_or, replicate, length-append, replicate-append-replicate, get_or-append}
use lib.Seq.{get_or_at}
use native.Mathlib.Nat.{add-zero, add-suc, le-mul_of_pos_right, div-add-mod', mod-lt}
use native.Mathlib.Numerals.{add-one}
use native.Mathlib.Omega.{arith}
use native.Mathlib.Decide.{dec_lt}
use borrow.Author.Tests.{eq-eqb, ne_eqb, lt-ltb, le-ltb}
use Rattle.error.specs.declared.CalendarError.TheVariants.{NoTradingDayInRange}
use Rattle.checks.specs.Checks.{checked_room, final_buffer}
use Rattle.checks.proofs.CheckLaws.{room-checked}
use Rattle.orders.specs.Slices.{tabulate, slice, slices_of, slices, slice_days, sliced_by, slice_result, slice_buffer}
use Rattle.error.specs.declared.CalendarError.{CalendarError}
use Rattle.orders.specs.declared.Slicing.{Slicing}

-- ---- the days

module _ (count room : ℕ) where
  -- error 11
  pub no-day-to-slice : count ≡ 0 → slice_days count room ≡ Err NoTradingDayInRange
  unfolding slice_days
  no-day-to-slice e = simp (eq-eqb count 0 e)

  pub some-day : (count ≡ 0 → ⊥) → slice_days count room ≡ checked_room count room
  unfolding slice_days
  some-day n = simp (ne_eqb count 0 n)

-- days to slice over: those counted, one at least, and there is room for all
pub record SlicedDays (count room n : ℕ) : Type 0 where
  pub all : n ≡ count
  pub one : 1 ≤ n
  pub fit : n ≤ room

pub days-checked : (count room n : ℕ) → slice_days count room ≡ Ok n → SlicedDays count room n
days-checked zero room n q = absurd (let e = sym (no-day-to-slice zero room refl) ∙ q in let z : ◌≡◌ {A = ℕ} 0 1 = cc in omega arith)
days-checked (suc k) room n q =
    let r = room-checked (suc k) room n (sym (some-day (suc k) room (λ z. omega (arith, z))) ∙ q) in
    record { all = r.0; one = omega (arith, r); fit = omega (arith, r) }

-- ---- the slices

module _ (f : ℕ → ℕ) where
  pub tabulate-length : (n : ℕ) → length (tabulate f n) ≡ n
  unfolding tabulate
  tabulate-length zero = refl
  tabulate-length (suc n) = omega (arith, length-append (tabulate f n) (f n ∷ []), tabulate-length n)

  pub tabulate-entry : (n i : ℕ) → i < n → get_or (tabulate f n) i 0 ≡ f i
  unfolding tabulate
  tabulate-entry zero i h = absurd (omega arith)
  tabulate-entry (suc n) i h = elim (dec_lt i n) [
    | yes l ↦ get_or-append (tabulate f n) (f n ∷ []) 0 i (omega (arith, tabulate-length n)) ∙ tabulate-entry n i l
    | no g ↦ let e : n ≡ i = omega arith in get_or_at (tabulate f n) (f n) [] 0 i (tabulate-length n ∙ e) ∙ ap f e
  ]

  -- in two parts
  pub tabulate-parts : (n k : ℕ) → tabulate f (n + k) ≡ tabulate f n ++ tabulate (λ i. f (n + i)) k
  unfolding tabulate
  tabulate-parts n zero = rw (add-zero, append-nil) refl
  tabulate-parts n (suc k) = rw (add-suc, tabulate-parts n k, append_assoc) refl

  -- of one value
  pub tabulate-same : (value n : ℕ) → ((i : ℕ) → i < n → f i ≡ value) → tabulate f n ≡ replicate n value
  unfolding tabulate
  tabulate-same value zero h = refl
  tabulate-same value (suc n) h =
      ap₂ (λ (l : List ℕ) (x : ℕ). l ++ (x ∷ [])) (tabulate-same value n (λ i l. h i (omega arith))) (h n (omega arith))
      ∙ replicate-append-replicate n 1 value
      ∙ ap (λ (k : ℕ). replicate k value) (add-one n)

module _ (per_day remainder : ℕ) where
  pub one_more : (i : ℕ) → i < remainder → slice per_day remainder i ≡ per_day + 1
  unfolding slice
  one_more i h = simp (lt-ltb i remainder h)

  pub no_more : (i : ℕ) → remainder ≤ i → slice per_day remainder i ≡ per_day
  unfolding slice
  no_more i h = simp (le-ltb i remainder h)

  -- the first days, each with one share more, and then the others
  pub slices-are : (count more : ℕ) → remainder ≤ count → (0 < remainder → more ≡ per_day + 1)
      → replicate remainder more ++ replicate (count - remainder) per_day ≡ slices_of per_day remainder count
  slices-are count more h e =
      let k = count - remainder in
      let all : remainder + k ≡ count = omega arith in
      let first = tabulate-same (slice per_day remainder) more remainder (λ i l. one_more i l ∙ sym (e (omega arith))) in
      let others = tabulate-same (λ i. slice per_day remainder (remainder + i)) per_day k (λ i l. no_more (remainder + i) (omega arith)) in
      sym (ap (slices_of per_day remainder) (sym all) ∙ tabulate-parts (slice per_day remainder) remainder k ∙ ap₂ (λ (l r : List ℕ). l ++ r) first others)

-- Shares per day times days plus remainder is the order, so their plain sum is at most the order; the remainder is below the days.
module _ (quantity count : ℕ) (one : 1 ≤ count) where
  pub whole-order : (quantity / count) * count + quantity % count ≡ quantity
  whole-order = div-add-mod' quantity count

  pub remainder-less : quantity % count < count
  remainder-less = mod-lt quantity (omega arith)

  pub no-more-than : quantity / count + quantity % count ≤ quantity
  no-more-than = omega (arith, whole-order, le-mul_of_pos_right {m = count} (quantity / count) (omega arith))

-- ---- over the days counted

module _ (quantity count : ℕ) (buffer : List ℕ) where
  -- the answer and the final buffer, by what the checks came to
  pub slice-by-days : (days : Result ℕ CalendarError) (r : Result Slicing CalendarError) (final : List ℕ) → days ≡ slice_days count (length buffer) → r ≡ sliced_by quantity days → final ≡ final_buffer days (slices quantity count) buffer
      → (r ≡ slice_result quantity count buffer) × (final ≡ slice_buffer quantity count buffer)
  unfolding slice_result
  slice-by-days days r final q p f = (p ∙ ap (sliced_by quantity) q, f ∙ ap (λ (d : Result ℕ CalendarError). final_buffer d (slices quantity count) buffer) q)
