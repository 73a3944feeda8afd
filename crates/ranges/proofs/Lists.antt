-- Lists of days: joining them, filtering from them, and their mirror image.
-- Assumes nothing.
use Prim.Native.Nat.{ℕ, zero, suc, ◌+◌, ◌-◌, ◌≤◌, ◌<◌}
use mathlib.Core.Path.{◌≡◌, refl, sym, ap, ap₂, ◌∙◌}
use mathlib.Core.Bool.{Bool, true, false}
use mathlib.Core.Logic.{◌⊎◌, inl, inr, ⊎_elim}
use mathlib.Core.List.{List, [], ◌∷◌, ◌++◌, append-nil, map, map-append, reverse, reverse-append, reverse-cons}
use lib.Dec.{leb}
use lib.ListN.{length}
use native.Mathlib.Nat.{zero-add, suc-add, add-zero, add-suc}
use native.Mathlib.Omega.{arith}
use borrow.Author.Tests.{leb-true, leb-false}
use Rattle.ranges.specs.Ranges.{days_from, days, keep, filter, trading_days}
use Rattle.ranges.proofs.Items.{every-from, none_pass}

-- ---- cases that keep what they rest on

pub test : (t : Bool) → (t ≡ true) ⊎ (t ≡ false)
test true = inl refl
test false = inr refl

pub order : (m n : ℕ) → (m ≤ n) ⊎ (n < m)
order m n = ⊎_elim (λ e. inl (leb-true m n e)) (λ e. inr (leb-false m n e)) (test (leb m n))

pub clash : (t : Bool) → t ≡ true → t ≡ false → ⊥
clash t p q = let z : ◌≡◌ {A = ℕ} 0 1 = cc in omega arith

pub map-reverse : {A B : Type 0} (f : A → B) (l : List A) → map f (reverse l) ≡ reverse (map f l)
map-reverse f [] = refl
map-reverse f (x ∷ l) =
    ap (map f) (reverse-cons x l)
    ∙ map-append f (reverse l) (x ∷ [])
    ∙ ap (λ (r : List _). r ++ (f x ∷ [])) (map-reverse f l)
    ∙ sym (reverse-cons (f x) (map f l))

-- ---- days

pub from-none : (a : ℕ) → days_from a 0 ≡ []
unfolding days_from
from-none a = refl

pub from_next : (a k : ℕ) → days_from a (suc k) ≡ a ∷ days_from (suc a) k
unfolding days_from
from_next a k = refl

pub from-split : (i j a : ℕ) → days_from a (i + j) ≡ days_from a i ++ days_from (a + i) j
unfolding days_from
from-split zero j a = rw (zero-add, add-zero)
from-split (suc i) j a = rw (suc-add, from-split i j (suc a), add-suc, suc-add)

pub days-split : (a c b : ℕ) → a ≤ suc c → c ≤ b → days a b ≡ days a c ++ days (suc c) b
days-split a c b h k =
    ap (days_from a) (omega arith)
    ∙ from-split (suc c - a) (suc b - suc c) a
    ∙ ap (λ (x : ℕ). days a c ++ days_from x (suc b - suc c)) (omega arith)

pub days-none : (a b : ℕ) → b < a → days a b ≡ []
days-none a b h = ap (days_from a) (omega arith) ∙ from-none a

pub days-next : (a b : ℕ) → a ≤ b → days a b ≡ a ∷ days (suc a) b
days-next a b h = ap (days_from a) (omega arith) ∙ from_next a (suc b - suc a)

-- day n first
pub day-first : (a b n : ℕ) → a ≤ b → n ≡ a → days a b ≡ n ∷ days (n + 1) b
day-first a b n h e =
    let next : suc a ≡ n + 1 = omega arith in
    days-next a b h ∙ ap₂ (λ (i j : ℕ). i ∷ days j b) (sym e) next

from-length : (k a : ℕ) → length (days_from a k) ≡ k
unfolding days_from
from-length zero a = refl
from-length (suc k) a = ap suc (from-length k (suc a))

-- The days strictly between two days are one fewer than the days from the one to the other.
pub between-length : (earlier later : ℕ) → earlier < later → suc (length (days (suc earlier) (later - 1))) ≡ later - earlier
between-length earlier later h = omega (arith, from-length (suc (later - 1) - suc earlier) (suc earlier))

from_last : (k a : ℕ) → days_from a (suc k) ≡ days_from a k ++ ((a + k) ∷ [])
from_last k a =
    let e : suc k ≡ k + 1 = omega arith in
    ap (days_from a) e
    ∙ from-split k 1 a
    ∙ ap (λ (l : List ℕ). days_from a k ++ l) (from_next (a + k) 0 ∙ ap (λ (l : List ℕ). (a + k) ∷ l) (from-none (suc (a + k))))

-- the last day first
pub days-last : (a b : ℕ) → 1 ≤ b → a ≤ b → reverse (days a b) ≡ b ∷ reverse (days a (b - 1))
days-last a b o h =
    let k : suc b - a ≡ suc (b - a) = omega arith in
    let e : a + (b - a) ≡ b = omega arith in
    let l : b - a ≡ suc (b - 1) - a = omega arith in
    ap (λ (i : ℕ). reverse (days_from a i)) k
    ∙ ap reverse (from_last (b - a) a)
    ∙ reverse-append (days_from a (b - a)) ((a + (b - a)) ∷ [])
    ∙ ap₂ (λ (i j : ℕ). i ∷ reverse (days_from a j)) e l

-- The mirror image: the days backward are c less the days forward.
from-mirror : (k a c : ℕ) → a + k ≤ suc c → reverse (days_from a k) ≡ map (λ i. c - i) (days_from (suc c - (a + k)) k)
unfolding days_from
from-mirror zero a c h = refl
from-mirror (suc k) a c h =
    let s : ℕ = suc c - (a + suc k) in
    let e : suc c - (suc a + k) ≡ s = omega arith in
    let f : a ≡ c - (s + k) = omega arith in
    reverse-cons a (days_from (suc a) k)
    ∙ ap (λ (l : List ℕ). l ++ (a ∷ [])) (from-mirror k (suc a) c (omega arith))
    ∙ ap₂ (λ (x y : ℕ). map (λ i. c - i) (days_from x k) ++ (y ∷ [])) e f
    ∙ sym (map-append (λ i. c - i) (days_from s k) ((s + k) ∷ []))
    ∙ ap (map (λ i. c - i)) (sym (from_last k s))

pub days-mirror : (a b c : ℕ) → a ≤ suc b → a ≤ c → b ≤ c → reverse (days a b) ≡ map (λ i. c - i) (days (c - b) (c - a))
days-mirror a b c h l k = from-mirror (suc b - a) a c (omega arith) ∙ ap₂ (λ (x y : ℕ). map (λ i. c - i) (days_from x y)) (omega arith) (omega arith)

-- ---- filtering

-- a filter of mapped items
pub filter_map : {A B : Type 0} (p : B → Bool) (f : A → B) (l : List A) → filter p (map f l) ≡ map f (filter (λ x. p (f x)) l)
unfolding filter
filter_map p f [] = refl
filter_map p f (x ∷ l) = ap (keep (p (f x)) (f x)) (filter_map p f l) ∙ keep-map (p (f x))
  where
    keep-map : (t : Bool) → keep t (f x) (map f (filter (λ y. p (f y)) l)) ≡ map f (keep t x (filter (λ y. p (f y)) l))
    keep-map true = refl
    keep-map false = refl

-- A filter leaves at most as many.
pub filter-length : {A : Type 0} (p : A → Bool) (l : List A) → length (filter p l) ≤ length l
unfolding filter
filter-length p [] = omega arith
filter-length p (x ∷ l) = kept (p x) (filter-length p l)
  where
    kept : (t : Bool) → length (filter p l) ≤ length l → length (keep t x (filter p l)) ≤ suc (length l)
    kept true h = omega arith
    kept false h = omega arith

pub trading-length : (p : ℕ → Bool) (a b : ℕ) → length (trading_days p a b) ≤ suc b - a
trading-length p a b = omega (arith, filter-length p (days a b), from-length (suc b - a) a)

module _ (p : ℕ → Bool) where
  pub filter_none : filter p [] ≡ []
  unfolding filter
  filter_none = refl

  pub filter-next : (n : ℕ) (l : List ℕ) → filter p (n ∷ l) ≡ keep (p n) n (filter p l)
  unfolding filter
  filter-next n l = refl

  -- what passes of a list, by its first item
  pub filter-first : (n : ℕ) (l rest : List ℕ) → l ≡ n ∷ rest → (t : Bool) → p n ≡ t → filter p l ≡ keep t n (filter p rest)
  filter-first n l rest e t q = ap (filter p) e ∙ filter-next n rest ∙ ap (λ (u : Bool). keep u n (filter p rest)) q

  -- The list of a range: day a is looked at, and then the days after it; and none is left.
  module _ (a b : ℕ) where
    trading-day : a ≤ b → (t : Bool) → p a ≡ t → trading_days p a b ≡ keep t a (trading_days p (a + 1) b)
    trading-day h = filter-first a (days a b) (days (a + 1) b) (day-first a b a h refl)

    pub trading-kept : a ≤ b → p a ≡ true → trading_days p a b ≡ a ∷ trading_days p (a + 1) b
    trading-kept h e = trading-day h true e

    pub trading-passed : a ≤ b → p a ≡ false → trading_days p a b ≡ trading_days p (a + 1) b
    trading-passed h e = trading-day h false e

    pub trading-none : b < a → trading_days p a b ≡ []
    trading-none h = ap (filter p) (days-none a b h) ∙ filter_none

  keep_append : (t : Bool) (n : ℕ) (x y : List ℕ) → keep t n (x ++ y) ≡ keep t n x ++ y
  keep_append true n x y = refl
  keep_append false n x y = refl

  pub filter-append : (x y : List ℕ) → filter p (x ++ y) ≡ filter p x ++ filter p y
  unfolding filter
  filter-append [] y = refl
  filter-append (n ∷ x) y = ap (keep (p n) n) (filter-append x y) ∙ keep_append (p n) n (filter p x) (filter p y)

  filter-reverse : (l : List ℕ) → filter p (reverse l) ≡ reverse (filter p l)
  unfolding filter
  filter-reverse [] = refl
  filter-reverse (n ∷ l) =
      ap (filter p) (reverse-cons n l)
      ∙ filter-append (reverse l) (n ∷ [])
      ∙ ap (λ (r : List ℕ). r ++ keep (p n) n []) (filter-reverse l)
      ∙ last (p n)
    where
      last : (t : Bool) → reverse (filter p l) ++ keep t n [] ≡ reverse (keep t n (filter p l))
      last true = sym (reverse-cons n (filter p l))
      last false = append-nil (reverse (filter p l))

  -- none of the days passes
  from-fail : (k a : ℕ) → ((i : ℕ) → a ≤ i → i < a + k → p i ≡ false) → filter p (days_from a k) ≡ []
  from-fail k a h = none_pass p (days_from a k) (every-from _ k a h)

  pub all-fail : (a b : ℕ) → ((i : ℕ) → a ≤ i → i ≤ b → p i ≡ false) → trading_days p a b ≡ []
  all-fail a b h = from-fail (suc b - a) a (λ i x y. h i x (omega arith))

  pub trading-split : (a c b : ℕ) → a ≤ suc c → c ≤ b → trading_days p a b ≡ trading_days p a c ++ trading_days p (suc c) b
  trading-split a c b h k = ap (filter p) (days-split a c b h k) ∙ filter-append (days a c) (days (suc c) b)

  -- m is the first from a on that passes
  pub first_passes : (a m b : ℕ) → a ≤ m → m ≤ b → p m ≡ true → ((i : ℕ) → a ≤ i → i < m → p i ≡ false)
      → trading_days p a b ≡ m ∷ trading_days p (suc m) b
  first_passes a m b h k e c =
      ap (λ (x : ℕ). filter p (days_from a x)) (omega arith)
      ∙ ap (filter p) (from-split (m - a) (suc b - m) a)
      ∙ filter-append (days_from a (m - a)) (days_from (a + (m - a)) (suc b - m))
      ∙ ap (λ (l : List ℕ). l ++ filter p (days_from (a + (m - a)) (suc b - m))) (from-fail (m - a) a (λ i x y. c i x (omega arith)))
      ∙ ap (λ (x : ℕ). filter p (days_from x (suc b - m))) (omega arith)
      ∙ ap (filter p) (days-next m b k)
      ∙ filter-next m (days (suc m) b)
      ∙ ap (λ (t : Bool). keep t m (trading_days p (suc m) b)) e

  pub trading-mirror : (a b c : ℕ) → a ≤ suc b → a ≤ c → b ≤ c → reverse (trading_days p a b) ≡ map (λ i. c - i) (trading_days (λ i. p (c - i)) (c - b) (c - a))
  trading-mirror a b c h l k =
      sym (filter-reverse (days a b)) ∙ ap (filter p) (days-mirror a b c h l k) ∙ filter_map p (λ i. c - i) (days (c - b) (c - a))

pub days_length : (a b : ℕ) → length (days a b) ≡ suc b - a
days_length a b = from-length (suc b - a) a

pub day-last : (a b n : ℕ) → 1 ≤ b → a ≤ b → n ≡ b → reverse (days a b) ≡ n ∷ reverse (days a (n - 1))
day-last a b n l h e = days-last a b l h ∙ sym (ap (λ (i : ℕ). i ∷ reverse (days a (i - 1))) e)
