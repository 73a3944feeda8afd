-- The trading days of a date range and the ways to them: docs/SCOPE.md [next], [previous], [count], [agreement], [common-day]. A
-- day is its day number; `trades` is any rule of which days trade. Assumes nothing.
use Rattle.std.specs.Prelude.{ℕ, zero, suc, ◌+◌, ◌-◌, ◌≤◌, ◌≡◌, Bool, true, false, List, [], ◌∷◌, ◌++◌, reverse, Option, Some, None}

-- ---- the trading days of a range

-- the k days from a on
unfoldable pub days_from : ℕ → ℕ → List ℕ
days_from a zero = []
days_from a (suc k) = a ∷ days_from (suc a) k

-- the days from a to b, both included; none if b is before a
abbrev pub days : ℕ → ℕ → List ℕ
days a b = days_from a (suc b - a)

-- the days strictly between two days
abbrev pub days_between : ℕ → ℕ → List ℕ
days_between earlier later = days (suc earlier) (later - 1)

-- x in front of the list, if the test holds
abbrev pub keep : {A : Type 0} → Bool → A → List A → List A
keep true x l = x ∷ l
keep false x l = l

-- those of the list that pass the test
unfoldable pub filter : {A : Type 0} → (A → Bool) → List A → List A
filter test [] = []
filter test (x ∷ l) = keep (test x) x (filter test l)

-- P holds of each item of the list
abbrev pub Every : {A : Type 0} → (A → Type 0) → List A → Type 0
Every P [] = Unit {0}
Every P (x ∷ l) = P x × Every P l

-- [agreement-range]: the list of the range ("stretch") from a to b
abbrev pub trading_days : (ℕ → Bool) → ℕ → ℕ → List ℕ
trading_days trades a b = filter trades (days a b)

-- ---- the neighbouring trading days

-- day n if the test holds, or else what the rest of the search finds
abbrev pub found : Bool → ℕ → Option ℕ → Option ℕ
found true n rest = Some n
found false n rest = rest

-- the first of the days that trades
unfoldable pub find : (ℕ → Bool) → List ℕ → Option ℕ
find trades [] = None
find trades (n ∷ ds) = found (trades n) n (find trades ds)

-- [next]: the first that trades of the days after n, up to the last of all
abbrev pub next_trading_day : (ℕ → Bool) → ℕ → ℕ → Option ℕ
next_trading_day trades last n = find trades (days (suc n) last)

-- [previous]: the last that trades of the days before n, down to the first of all
abbrev pub previous_trading_day : (ℕ → Bool) → ℕ → ℕ → Option ℕ
previous_trading_day trades first n = find trades (reverse (days first (n - 1)))

-- ---- any trading day of a range

-- [common-day]: a day from a to b that trades, or none exactly if there is no such day. Which of several it is, is left free.
abbrev pub SomeTradingDay : (ℕ → Bool) → ℕ → ℕ → Option ℕ → Type 0
SomeTradingDay trades a b (Some n) = (a ≤ n) × (n ≤ b) × (trades n ≡ true)
SomeTradingDay trades a b None = (n : ℕ) → a ≤ n → n ≤ b → trades n ≡ false

-- ---- the count, day by day

abbrev pub one_more : Bool → ℕ → ℕ
one_more true count = suc count
one_more false count = count

-- the count so far, and k days from a on are left
unfoldable pub count_from : (ℕ → Bool) → ℕ → ℕ → ℕ → ℕ
count_from trades count a zero = count
count_from trades count a (suc k) = count_from trades (one_more (trades a) count) (suc a) k

-- [count]: from a to b, both included; 0 if b is before a
abbrev pub count_trading_days : (ℕ → Bool) → ℕ → ℕ → ℕ
count_trading_days trades a b = count_from trades 0 a (suc b - a)

-- ---- sums and joined lists

-- the sum of a number for each item
abbrev pub sum_of : {A : Type 0} → (A → ℕ) → List A → ℕ
sum_of f [] = 0
sum_of f (x ∷ l) = f x + sum_of f l

-- [agreement-months]: the lists of all items, joined in order
abbrev pub joined : {A B : Type 0} → (A → List B) → List A → List B
joined f [] = []
joined f (x ∷ l) = f x ++ joined f l
