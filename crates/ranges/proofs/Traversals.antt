-- Traversals: any, and the two of a range. The backward one is the forward one in the mirror.
-- Assumes nothing.
use Rattle.std.proofs.Common.{Some, None, option_map}
use Prim.Native.Nat.{ℕ, zero, suc, ◌+◌, ◌-◌, ◌≤◌, ◌<◌}
use mathlib.Core.Path.{◌≡◌, refl, sym, ap, ap₂, ◌∙◌, subst, subst₂}
use mathlib.Core.Bool.{Bool, true, false}
use mathlib.Core.Logic.{inl, inr, ⊎_elim}
use mathlib.Core.List.{List, [], ◌∷◌, map, map-id, reverse}
use lib.Dec.{leb}
use native.Mathlib.Omega.{arith}
use borrow.Author.Tests.{leb-true, le-leb, lt-leb}
use Rattle.ranges.specs.Ranges.{trading_days, next_trading_day, previous_trading_day}
use Rattle.ranges.specs.Steps.{NextStep, PreviousStep, ShortRuns}
use Rattle.ranges.specs.Traversals.{TraversalTo, EndsOutside, Traversal, TraversalOf, EndsOutsideOrNone}
use Rattle.ranges.proofs.Lists.{clash, order, all-fail, first_passes, trading-mirror}
use Rattle.ranges.proofs.Search.{none-or-day, none-trades}
use Rattle.ranges.proofs.Mirror.{mirrored, previous-mirror, mirror-call, mirror-runs}
use Rattle.ranges.proofs.StepLaws.{next-is-short}

-- ---- any traversal

-- The same calls under another view of their items. P is known of the first item, and then of each that is inside.
module _ {A B : Type 0} (f : A → B) (C : A → A → Type 0) (D : B → B → Type 0) (p : A → Bool) (q : B → Bool) (P : A → Type 0)
    (h : (n m : A) → P n → C n m → D (f n) (f m) × (q (f m) ≡ p m) × (p m ≡ true → P m)) where
  pub traversal-map : (E : A → Type 0) (F : B → Type 0) → ((n : A) → P n → E n → F (f n))
      → (n : A) (l : List A) → P n → TraversalTo C p E n l → TraversalTo D q F (f n) (map f l)
  traversal-map E F e n [] k t = e n k t
  traversal-map E F e n (m ∷ l) k t =
      let g = h n m k t.0 in
      (g.0, g.1 ∙ t.1, traversal-map E F e m l (g.2 t.1) t.2)

  pub outside-map : (n : A) → P n → EndsOutside C p n → EndsOutside D q (f n)
  outside-map n k t = let g = h n t.0 k t.1 in (f t.0, g.0, g.1 ∙ t.2)

-- The same traversal by calls of which less is known.
pub traversal-weaker : {A : Type 0} (C D : A → A → Type 0) (p : A → Bool) → ((n m : A) → C n m → D n m)
    → (n : A) (l : List A) → Traversal C p n l → Traversal D p n l
traversal-weaker C D p h n [] t = (t.0, h n t.0 t.1, t.2)
traversal-weaker C D p h n (m ∷ l) t = (h n m t.0, t.1, traversal-weaker C D p h m l t.2)

-- Where a call has one answer, and one that ends the traversal none inside, a traversal has one list.
module _ {A : Type 0} (C : A → A → Type 0) (p : A → Bool) (h : (n m k : A) → C n m → C n k → m ≡ k) where
  pub traversal-unique : (E : A → Type 0) → ((n m : A) → E n → C n m → p m ≡ false)
      → (n : A) (l r : List A) → TraversalTo C p E n l → TraversalTo C p E n r → l ≡ r
  traversal-unique E e n [] [] t u = refl
  traversal-unique E e n [] (k ∷ r) t u = absurd (clash (p k) u.1 (e n k t u.0))
  traversal-unique E e n (m ∷ l) [] t u = absurd (clash (p m) t.1 (e n m u t.0))
  traversal-unique E e n (m ∷ l) (k ∷ r) t u =
      let q = h n m k t.0 u.0 in
      ap₂ (λ (x : _) (y : List _). x ∷ y) q (traversal-unique E e m l r t.2 (subst (λ (x : _). TraversalTo C p E x r) (sym q) u.2))

  pub outside-ends : (n m : A) → EndsOutside C p n → C n m → p m ≡ false
  outside-ends n m t c = ap p (h n m t.0 c t.1) ∙ t.2

  pub outside-or-none-ends : (NoAnswer : A → Type 0) → ((n m : A) → NoAnswer n → C n m → ⊥) → (n m : A) → EndsOutsideOrNone C NoAnswer p n → C n m → p m ≡ false
  outside-or-none-ends NoAnswer e n m t c = ⊎_elim (λ x. outside-ends n m x c) (λ x. absurd (e n m x c)) t

-- From the first item of its list on, a traversal lists the same.
pub traversal-of : {A : Type 0} (C : A → A → Type 0) (p : A → Bool) (E : A → Type 0) (n : A) (l : List A) → TraversalTo C p E n l → TraversalOf C p E l
traversal-of C p E n [] t = tt
traversal-of C p E n (m ∷ l) t = t.2

-- Where every call answers, no traversal ends by none.
pub every-call-answers : {A : Type 0} (C D : A → A → Type 0) (NoAnswer : A → Type 0) (p : A → Bool) (P : A → Type 0)
    → ((n m : A) → P n → C n m → D n m × (p m ≡ true → P m)) → ((n : A) → P n → NoAnswer n → ⊥)
    → (n : A) (l : List A) → P n → TraversalTo C p (EndsOutsideOrNone C NoAnswer p) n l → TraversalTo D p (EndsOutside D p) n l
every-call-answers C D NoAnswer p P h e n l k t =
    subst (TraversalTo D p (EndsOutside D p) n) (map-id l)
    (traversal-map (λ i. i) C D p p P same (EndsOutsideOrNone C NoAnswer p) (EndsOutside D p) (λ n k. ⊎_elim (outside-map (λ i. i) C D p p P same n k) (λ z. absurd (e n k z))) n l k t)
  where
    same : (n m : _) → P n → C n m → D n m × (p m ≡ p m) × (p m ≡ true → P m)
    same n m k c = let g = h n m k c in (g.0, refl, g.1)

-- ---- forward

module _ (trades : ℕ → Bool) (most first last : ℕ) (runs : ShortRuns trades most first last) (b : ℕ) (z : b ≤ last) where
  abbrev Forward : ℕ → List ℕ → Type 0
  Forward = TraversalTo (NextStep trades most last) (λ m. leb m b) (EndsOutsideOrNone (NextStep trades most last) (λ n. next_trading_day trades last n ≡ None) (λ m. leb m b))

  -- The answers from n on up to b are the trading days after n up to b. At most k days are left.
  forward-from : (k n : ℕ) → first ≤ suc n → n ≤ b → b < n + k → Forward n (trading_days trades (suc n) b)
  forward-from zero n g h l = absurd (omega arith)
  forward-from (suc k) n g h l =
      ⊎_elim none (λ (r : (m : ℕ) × (next_trading_day trades last n ≡ Some m)). some r.0 r.1 (forward-from k r.0))
      (none-or-day (next_trading_day trades last n))
    where
      none : next_trading_day trades last n ≡ None → Forward n (trading_days trades (suc n) b)
      none e = subst (Forward n) (sym (all-fail trades (suc n) b (λ i x y. none-trades trades (suc n) last e i x (omega arith)))) (inr e)

      some : (m : ℕ) → next_trading_day trades last n ≡ Some m → (first ≤ suc m → m ≤ b → b < m + k → Forward m (trading_days trades (suc m) b))
          → Forward n (trading_days trades (suc n) b)
      some m e rest =
          let c = next-is-short trades most first last runs n m g e in
          let up = c.2.ordered in
          ⊎_elim
          (λ (t : m ≤ b).
          subst (Forward n) (sym (first_passes trades (suc n) m b up t c.1 c.2.non-trading))
          (c, le-leb m b t, rest (omega arith) t (omega arith)))
          (λ (t : b < m).
          subst (Forward n) (sym (all-fail trades (suc n) b (λ i x y. c.2.non-trading i x (omega arith)))) (inl (m, c, lt-leb m b t)))
          (order m b)

  pub forward : (a : ℕ) → 1 ≤ a → first ≤ a → a ≤ b → Forward (a - 1) (trading_days trades a b)
  forward a o l h =
      let e : suc (a - 1) ≡ a = omega arith in
      subst (λ (x : ℕ). Forward (a - 1) (trading_days trades x b)) e (forward-from (suc b) (a - 1) (omega arith) (omega arith) (omega arith))

-- ---- backward, in the mirror, where the day after the range is at 0 and the range at 1 to suc b - a

module _ (trades : ℕ → Bool) (most first last : ℕ) (o : 1 ≤ first) (runs : ShortRuns trades most first last) (a b : ℕ) (l : first ≤ a) (h : a ≤ b) (z : b ≤ last) where
  abbrev c : ℕ
  c = suc b

  -- the calls, and how the traversal ends, in the mirror and out of it
  abbrev In : ℕ → ℕ → Type 0
  In = NextStep (mirrored trades c) most (c - first)

  abbrev Out : ℕ → ℕ → Type 0
  Out = PreviousStep trades most first

  abbrev InEnds : ℕ → Type 0
  InEnds = EndsOutsideOrNone In (λ n. next_trading_day (mirrored trades c) (c - first) n ≡ None) (λ m. leb m (c - a))

  abbrev OutEnds : ℕ → Type 0
  OutEnds = EndsOutsideOrNone Out (λ n. previous_trading_day trades first n ≡ None) (λ m. leb a m)

  runs-in : ShortRuns (mirrored trades c) most 1 (c - first)
  runs-in =
      let one : c - b ≡ 1 = omega arith in
      subst (λ (x : ℕ). ShortRuns (mirrored trades c) most x (c - first)) one
      (mirror-runs trades c most first b (omega arith) (λ n x y. runs n x (omega arith)))

  call-out : (n m : ℕ) → n ≤ c - a → In n m → Out (c - n) (c - m) × (leb a (c - m) ≡ leb m (c - a)) × (leb m (c - a) ≡ true → m ≤ c - a)
  call-out n m k s =
      let same : c - (c - n) ≡ n = omega arith in (
        mirror-call trades c first o most (c - n) m (omega arith) (subst (λ (i : ℕ). In i m) (sym same) s),
        ⊎_elim (λ (t : m ≤ c - a). le-leb a (c - m) (omega arith) ∙ sym (le-leb m (c - a) t))
            (λ (t : c - a < m). lt-leb a (c - m) (omega arith) ∙ sym (lt-leb m (c - a) t)) (order m (c - a)),
        leb-true m (c - a),
      )

  ends-out : (n : ℕ) → n ≤ c - a → InEnds n → OutEnds (c - n)
  ends-out n k =
      ⊎_elim (λ t. inl (outside-map (λ i. c - i) In Out (λ m. leb m (c - a)) (λ m. leb a m) (λ n. n ≤ c - a) call-out n k t))
      (λ e.
      let same : c - (c - n) ≡ n = omega arith in
      inr (previous-mirror trades c first o (c - n) (omega arith)
      ∙ ap (λ (i : ℕ). option_map (λ j. c - j) (next_trading_day (mirrored trades c) (c - first) i)) same
      ∙ ap (option_map (λ j. c - j)) e))

  pub backward : TraversalTo Out (λ m. leb a m) OutEnds (suc b) (reverse (trading_days trades a b))
  backward =
      let start : c - 0 ≡ suc b = omega arith in
      let from : c - b ≡ 1 = omega arith in
      let list : reverse (trading_days trades a b) ≡ map (λ i. c - i) (trading_days (mirrored trades c) 1 (c - a)) =
      trading-mirror trades a b c (omega arith) (omega arith) (omega arith) ∙ ap (λ (x : ℕ). map (λ i. c - i) (trading_days (mirrored trades c) x (c - a))) from in
      subst₂ (TraversalTo Out (λ m. leb a m) OutEnds) start (sym list)
      (traversal-map (λ i. c - i) In Out (λ m. leb m (c - a)) (λ m. leb a m) (λ n. n ≤ c - a) call-out InEnds OutEnds ends-out
      0 (trading_days (mirrored trades c) 1 (c - a)) (omega arith)
      (forward (mirrored trades c) most 1 (c - first) runs-in (c - a) (omega arith) 1 (omega arith) (omega arith) (omega arith)))
