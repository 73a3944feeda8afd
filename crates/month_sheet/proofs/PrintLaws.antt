-- What is printed, by what the call answers on a buffer with room for every sheet.
-- Assumes nothing.
use Rattle.std.proofs.Common.{Option, Some, None, Result, Ok, Err}
use Prim.Native.Nat.{ℕ, ◌≤◌}
use mathlib.Core.Path.{◌≡◌, refl, sym, ap, ◌∙◌}
use mathlib.Core.List.{List}
use lib.ListN.{length, length-append}
use native.Mathlib.Omega.{arith}
use Rattle.buffers.specs.Buffers.{overwrite}
use Rattle.decimal.proofs.DecimalLaws.{length-at-most}
use Rattle.error.specs.declared.CalendarError.{CalendarError}
use Rattle.error.specs.Errors.{error_number}
use Rattle.error.proofs.ErrorLaws.{error-number}
use Rattle.checks.specs.Checks.{checked_room, final_buffer}
use Rattle.checks.proofs.CheckLaws.{room-enough}
use Rattle.answers.specs.declared.counts.CountAnswer.{CountAnswer}
use Rattle.answers.specs.Answers.{count_answer}
use Rattle.request.specs.declared.Request.{Request}
use Rattle.request.specs.Request.{read_request}
use Rattle.sheet.specs.SheetCall.{sheet_of_request, sheet_of, sheet_written, sheet_buffer, month_sheet_result, month_sheet_buffer}
use Rattle.sheet.proofs.SheetCallLaws.{sheet-asked, sheet-fits}
use Rattle.month_sheet.specs.Printed.{refused_line, printed_result, printed}

-- ---- how long it is

-- the sheet of a request
request-fits : (o : Option Request) (bytes : List ℕ) → sheet_of_request o ≡ Ok bytes → length bytes ≤ 136
request-fits (Some r) bytes e =
    let a = sheet-asked r.market r.year r.month bytes e in
    omega (arith, ap length a.1, sheet-fits r.market r.year r.month a.0)
request-fits None bytes e = absurd (let z : ◌≡◌ {A = ℕ} 0 1 = cc in omega arith)

refused-length : (n : ℕ) → n ≤ 12 → length (refused_line n) ≤ 136
refused-length n h = simp length-append (omega (arith, length-at-most 1 n (omega arith)))

-- ---- what the call answers, and what the buffer holds after it

module _ (text buffer : List ℕ) (room : 136 ≤ length buffer) (a : CountAnswer) (out : List ℕ)
    (w : (a ≡ count_answer (month_sheet_result text buffer)) × (out ≡ month_sheet_buffer text buffer)) where
  -- what print has to answer, and what the buffer has to hold at the end
  abbrev Prints : ℕ → List ℕ → Type 0
  Prints n final = (n ≡ length (printed text)) × (final ≡ overwrite (printed text) buffer)

  -- a sheet fits
  no-error-9 : (bytes : List ℕ) → sheet_of text ≡ Ok bytes → checked_room (length bytes) (length buffer) ≡ Ok (length bytes)
  no-error-9 bytes e = room-enough (length bytes) (length buffer) (omega (arith, request-fits (read_request text) bytes e))

  -- Without an error the bytes are the sheet's.
  pub sheet-printed : a.error ≡ 0 → Prints a.count out
  unfolding count_answer
  sheet-printed z = by (sheet_of text) refl w.0 w.1
    where
      by : (r : Result (List ℕ) CalendarError) → sheet_of text ≡ r → a ≡ count_answer (sheet_written r buffer) → out ≡ sheet_buffer r buffer
          → (a.count ≡ length (printed_result r)) × (out ≡ overwrite (printed_result r) buffer)
      by (Ok bytes) e p q =
          let fits = no-error-9 bytes e in
          (ap (λ (x : CountAnswer). x.count) (p ∙ ap count_answer fits), q ∙ ap (λ (x : Result ℕ CalendarError). final_buffer x bytes buffer) fits)
      by (Err d) e p q = absurd (omega (arith, ap (λ (x : CountAnswer). x.error) p, error-number d))

  -- With one the buffer is as it was, and what is to be printed is the line of its number.
  module _ (z : 1 ≤ a.error) where
    refused : (printed text ≡ refused_line a.error) × (out ≡ buffer) × (length (refused_line a.error) ≤ 136)
    unfolding count_answer
    refused = by (sheet_of text) refl w.0 w.1
      where
        by : (r : Result (List ℕ) CalendarError) → sheet_of text ≡ r → a ≡ count_answer (sheet_written r buffer) → out ≡ sheet_buffer r buffer
            → (printed_result r ≡ refused_line a.error) × (out ≡ buffer) × (length (refused_line a.error) ≤ 136)
        by (Ok bytes) e p q = absurd (omega (arith, ap (λ (x : CountAnswer). x.error) (p ∙ ap count_answer (no-error-9 bytes e))))
        by (Err d) e p q =
            let number : a.error ≡ error_number d = ap (λ (x : CountAnswer). x.error) p in
            (ap refused_line (sym number), q, refused-length a.error (omega (arith, error-number d)))

    pub line-fits : length (refused_line a.error) ≤ length out
    line-fits = omega (arith, refused.2, room, ap length refused.1)

    pub line-printed : (n : ℕ) (final : List ℕ) → (n ≡ length (refused_line a.error)) × (final ≡ overwrite (refused_line a.error) out)
        → Prints n final
    line-printed n final (l, q) =
        let whole = sym refused.0 in
        (l ∙ ap length whole, q ∙ (λ j. overwrite (whole j) (refused.1 j)))
