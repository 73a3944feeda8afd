-- What holds of each item of a list: of days, through a filter and a map; and two functions that agree on each item.
-- Assumes nothing.
use Prim.Native.Nat.{ℕ, zero, suc, ◌+◌, ◌-◌, ◌≤◌, ◌<◌}
use mathlib.Core.Path.{◌≡◌, refl, ap₂}
use mathlib.Core.Bool.{Bool, true, false}
use mathlib.Core.List.{List, [], ◌∷◌, ◌++◌, map}
use native.Mathlib.Omega.{arith}
use Rattle.ranges.specs.Ranges.{days_from, days, keep, filter, Every, trading_days}

pub every-from : (P : ℕ → Type 0) (k a : ℕ) → ((i : ℕ) → a ≤ i → i < a + k → P i) → Every P (days_from a k)
unfolding days_from
every-from P zero a h = tt
every-from P (suc k) a h = (h a (omega arith) (omega arith), every-from P k (suc a) (λ i x y. h i (omega arith) (omega arith)))

-- what follows of each item
pub every-each : {A : Type 0} (P Q : A → Type 0) → ((x : A) → P x → Q x) → (l : List A) → Every P l → Every Q l
every-each P Q h [] e = tt
every-each P Q h (x ∷ l) e = (h x e.0, every-each P Q h l e.1)

pub every_append : {A : Type 0} (P : A → Type 0) (l r : List A) → Every P l → Every P r → Every P (l ++ r)
every_append P [] r e f = f
every_append P (x ∷ l) r e f = (e.0, every_append P l r e.1 f)

pub every-filter : {A : Type 0} (P : A → Type 0) (p : A → Bool) (l : List A) → Every P l → Every P (filter p l)
unfolding filter
every-filter P p [] e = tt
every-filter P p (x ∷ l) e = kept (p x) (every-filter P p l e.1)
  where
    kept : (t : Bool) → Every P (filter p l) → Every P (keep t x (filter p l))
    kept true r = (e.0, r)
    kept false r = r

-- a fact of each day of a range holds of its trading days
pub every-trading-day : (P : ℕ → Type 0) (trades : ℕ → Bool) (a b : ℕ) → ((i : ℕ) → a ≤ i → i ≤ b → P i) → Every P (trading_days trades a b)
every-trading-day P trades a b h = every-filter P trades (days a b) (every-from P (suc b - a) a (λ i x y. h i x (omega arith)))

pub every_map : {A B : Type 0} (P : B → Type 0) (f : A → B) (l : List A) → Every (λ x. P (f x)) l → Every P (map f l)
every_map P f [] e = tt
every_map P f (x ∷ l) e = (e.0, every_map P f l e.1)

pub map_same : {A B : Type 0} (f g : A → B) (l : List A) → Every (λ x. f x ≡ g x) l → map f l ≡ map g l
map_same f g [] e = refl
map_same f g (x ∷ l) e = ap₂ (λ (y : _) (r : List _). y ∷ r) e.0 (map_same f g l e.1)

pub filter_same : {A : Type 0} (p q : A → Bool) (l : List A) → Every (λ x. p x ≡ q x) l → filter p l ≡ filter q l
unfolding filter
filter_same p q [] e = refl
filter_same p q (x ∷ l) e = ap₂ (λ (t : Bool) (r : List _). keep t x r) e.0 (filter_same p q l e.1)

-- Where each item passes, the filter keeps the list; where each fails, it keeps nothing.
pub all_pass : {A : Type 0} (p : A → Bool) (l : List A) → Every (λ x. p x ≡ true) l → filter p l ≡ l
unfolding filter
all_pass p [] e = refl
all_pass p (x ∷ l) e = ap₂ (λ (t : Bool) (r : List _). keep t x r) e.0 (all_pass p l e.1)

pub none_pass : {A : Type 0} (p : A → Bool) (l : List A) → Every (λ x. p x ≡ false) l → filter p l ≡ []
unfolding filter
none_pass p [] e = refl
none_pass p (x ∷ l) e = ap₂ (λ (t : Bool) (r : List _). keep t x r) e.0 (none_pass p l e.1)
