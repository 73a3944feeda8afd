-- The laws of bytes written to the start of a buffer, and of the rest of a slice.
-- Assumes nothing.
use Prim.Native.Nat.{ℕ, ◌+◌, ◌-◌, ◌≤◌, ◌<◌}
use mathlib.Core.Path.{◌≡◌, refl, sym, ap, ◌∙◌}
use mathlib.Core.List.{List, [], ◌∷◌, ◌++◌, append_assoc, append-nil}
use lib.ListN.{length, take, drop, set, length-append, length-drop}
use lib.Seq.{drop-drop, take_at, drop_at, take-length, drop-length, drop-cons, set_at}
use native.Mathlib.Numerals.{add-one}
use native.Mathlib.Omega.{arith}
use borrow.Rule.Slice.PartMut.{put_mid}
use Rattle.buffers.specs.Buffers.{overwrite}

-- ---- the rest of a slice

-- `&s[n..]`, as the code has it, is `drop n s`.
pub rest-is : (s : List ℕ) (n : ℕ) → take (length s - n) (drop n s) ≡ drop n s
rest-is s n = rw (← length-drop n s) (take-length (drop n s))

pub rest-length : (s : List ℕ) (n : ℕ) → length (take (length s - n) (drop n s)) ≡ length s - n
rest-length s n = rw rest-is (length-drop n s)

-- ---- bytes written to the start

-- The buffer keeps its length, and starts with the bytes.
pub overwrite-length : (bytes buffer : List ℕ) → length bytes ≤ length buffer → length (overwrite bytes buffer) ≡ length buffer
unfolding overwrite
overwrite-length bytes buffer h = omega (arith, length-append bytes (drop (length bytes) buffer), length-drop (length bytes) buffer)

pub overwrite-start : (bytes buffer : List ℕ) → take (length bytes) (overwrite bytes buffer) ≡ bytes
unfolding overwrite
overwrite-start bytes buffer = take_at bytes (drop (length bytes) buffer) (length bytes) refl

-- no byte
pub overwrite-none : (buffer : List ℕ) → overwrite [] buffer ≡ buffer
unfolding overwrite
overwrite-none buffer = refl

-- one byte more, right after the others
pub overwrite-byte : (bytes buffer : List ℕ) (b n : ℕ) → length bytes ≡ n → n < length buffer → set (overwrite bytes buffer) n b ≡ overwrite (bytes ++ (b ∷ [])) buffer
unfolding overwrite
overwrite-byte bytes buffer b n e h =
    let h' : length bytes < length buffer = omega arith in
    rw (drop-cons buffer (length bytes) 0 h', set_at bytes _ _ b n e, length-append, append_assoc, add-one) refl

-- a part, `&mut out[a..e]`, right after what was written
pub overwrite-part : (entries part buffer : List ℕ) (a e : ℕ) → length entries ≡ a → length part ≡ e - a
    → put_mid a (e - a) (overwrite entries buffer) part ≡ overwrite (entries ++ part) buffer
unfolding overwrite
overwrite-part entries part buffer a e n m =
    let left = drop (length entries) buffer in
    rw (take_at entries left a n, drop_at entries left a n, ← m, drop-drop, length-append, append_assoc) refl

-- Bytes are written, and then more into what is left of the buffer, `&mut out[n..]`, which is lent on.
module _ (bytes more text buffer : List ℕ) (whole : text ≡ bytes ++ more) (fits : length text ≤ length buffer) where
  lengths : length text ≡ length bytes + length more
  lengths = ap length whole ∙ length-append bytes more

  pub bytes_fit : length bytes ≤ length buffer
  bytes_fit = omega (arith, lengths)

  -- what the buffer holds after n bytes were written
  module _ (n : ℕ) (out : List ℕ) (w : (n ≡ length bytes) × (out ≡ overwrite bytes buffer)) where
    kept : length out ≡ length buffer
    kept = ap length w.1 ∙ overwrite-length bytes buffer bytes_fit

    pub rest-starts : n ≤ length out
    rest-starts = omega (arith, lengths, kept, w.0)

    pub more-fits : length more ≤ length (take (length out - n) (drop n out))
    more-fits = omega (arith, lengths, kept, w.0, rest-length out n)

    -- m more bytes
    pub all-written : (m : ℕ) (rest : List ℕ) → (m ≡ length more) × (rest ≡ overwrite more (take (length out - n) (drop n out)))
        → (n + m ≡ length text) × (put_mid n (length out - n) out rest ≡ overwrite text buffer)
    unfolding overwrite
    all-written m rest (f, q) =
        let left = drop (length bytes) buffer in
        let from : drop n (bytes ++ left) ≡ left = drop_at bytes left n (sym w.0) in
        let long : length (bytes ++ left) - n ≡ length left = omega (arith, length-append bytes left, w.0) in (
          omega (arith, lengths, w.0),
          rw (q, w.1, whole, take_at bytes left n (sym w.0), from, long, take-length, drop-length, append-nil, drop-drop, length-append, append_assoc) refl,
        )

-- Three texts, each after the first into what is left of the buffer.
pub third-written : (a b d buffer : List ℕ) → length (a ++ b ++ d) ≤ length buffer
    → (n : ℕ) (out : List ℕ) → (n ≡ length a) × (out ≡ overwrite a buffer)
    → (m : ℕ) (rest : List ℕ) → (m ≡ length b) × (rest ≡ overwrite b (take (length out - n) (drop n out)))
    → (k : ℕ) (last : List ℕ)
    → (let two = put_mid n (length out - n) out rest in
    (k ≡ length d) × (last ≡ overwrite d (take (length two - (n + m)) (drop (n + m) two)))
    → (n + m + k ≡ length (a ++ b ++ d)) × (put_mid (n + m) (length two - (n + m)) two last ≡ overwrite (a ++ b ++ d) buffer))
third-written a b d buffer fits n out w m rest v k last u =
    let two = all-written a b (a ++ b) buffer refl (bytes_fit (a ++ b) d (a ++ b ++ d) buffer refl fits) n out w m rest v in
    all-written (a ++ b) d (a ++ b ++ d) buffer refl fits (n + m) (put_mid n (length out - n) out rest) two k last u
