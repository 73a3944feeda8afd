-- The laws of the month sheet hold.
-- Assumes nothing.
use Rattle.std.proofs.Common.{Option, Some, None, Result, Ok, Err}
use Prim.Native.Nat.{ℕ, ◌^◌, ◌≤◌, ◌<◌}
use mathlib.Core.Path.{◌≡◌, refl, sym, ap, ◌∙◌}
use mathlib.Core.Bool.{true}
use mathlib.Core.List.{List, [], ◌∷◌, ◌++◌, map}
use lib.ListN.{length, take, length-map}
use native.Mathlib.Omega.{arith}
use Rattle.gregorian.specs.Calendar.{month_length}
use Rattle.gregorian.proofs.Formulas.{month-high}
use Rattle.markets.specs.Markets.{is_market}
use Rattle.markets.specs.Years.{is_supported}
use Rattle.markets.proofs.MarketLaws.{market-code}
use Rattle.markets.proofs.YearLaws.{supported-years}
use Rattle.ranges.specs.Ranges.{Every}
use Rattle.ranges.proofs.Items.{every-each, every_append, every_map}
use Rattle.trading_days.specs.Month.{month_list}
use Rattle.trading_days.proofs.MonthDayLaws.{list-in-month, list_length}
use Rattle.buffers.specs.Buffers.{overwrite}
use Rattle.buffers.proofs.BufferLaws.{overwrite-start}
use Rattle.checks.specs.Checks.{checked_room, final_buffer}
use Rattle.checks.proofs.CheckLaws.{CheckedMonth, month-passes, month-checked, room-enough, room-checked}
use Rattle.range_calls.specs.RangeCalls.{trading_days_in_month_result, trading_days_in_month_buffer}
use Rattle.range_calls.proofs.MonthLaws.{month-of-years}
use Rattle.answers.specs.Answers.{count_answer}
use Rattle.answers.specs.Expected.{counted}
use Rattle.answers.proofs.AnswerLaws.{counted_is, was-counted}
use Rattle.decimal.specs.Decimal.{decimal, value_of}
use Rattle.decimal.proofs.DecimalLaws.{length-positive, length-at-most, decimal-digits, decimal-value, no-leading-zero}
use Rattle.request.specs.declared.Request.{Request}
use Rattle.request.specs.Text.{ascii}
use Rattle.request.specs.Request.{request_text, read_request}
use Rattle.sheet_lines.specs.Sheet.{comma_separated, sheet_lines, month_sheet}
use Rattle.sheet.specs.SheetCall.{sheet_of_month, sheet_of_request, sheet_written, sheet_buffer}
use Rattle.request.proofs.Form.{reads-the-form}
use Rattle.sheet.proofs.SheetCallLaws.{sheet-by-check, sheet-asked, sheet-fits}
use Rattle.sheet_laws.specs.SheetLaws.{split_lines, first_lines, split_list, IsNumber, sheet_call, SheetLaws, AllSheetLaws}
use Rattle.sheet_laws.proofs.Splitting.{Above, decimal-above, split_text, first-lines, numbers-above, split-list}
use Rattle.error.specs.declared.CalendarError.{CalendarError}

-- ---- numbers

-- A number below 10 ^ 9 in decimal is one of the sheet, and its value is the number.
is_number : (n : ℕ) → n < 10 ^ 9 → IsNumber (decimal n)
is_number n h = record { digit-string = (decimal-digits n, length-positive n, length-at-most 8 n h); no-leading-zero = no-leading-zero n }

values : (numbers : List ℕ) → map value_of (map decimal numbers) ≡ numbers
values [] = refl
values (n ∷ ns) = λ j. decimal-value n j ∷ values ns j

-- ---- what the calls wrote

-- Bytes that were written without an error are all there.
written-bytes : (bytes buffer : List ℕ) (n : ℕ) → checked_room (length bytes) (length buffer) ≡ Ok n
    → (n ≡ length bytes) × (take n (final_buffer (checked_room (length bytes) (length buffer)) bytes buffer) ≡ bytes)
written-bytes bytes buffer n e =
    let l = (room-checked (length bytes) (length buffer) n e).0 in (
      l,
      ap (λ (r : Result ℕ CalendarError). take n (final_buffer r bytes buffer)) e ∙ ap (λ (k : ℕ). take k (overwrite bytes buffer)) l ∙ overwrite-start bytes buffer,
    )

-- The call gave no error, and so what it wrote is the sheet.
sheet-checked : (market year month n : ℕ) (buffer : List ℕ) → sheet_written (sheet_of_month market year month) buffer ≡ Ok n
    → CheckedMonth market year month × (sheet_of_month market year month ≡ Ok (month_sheet market year month))
sheet-checked market year month n buffer h = by (sheet_of_month market year month) refl
  where
    by : (r : Result (List ℕ) CalendarError) → sheet_of_month market year month ≡ r
        → CheckedMonth market year month × (sheet_of_month market year month ≡ Ok (month_sheet market year month))
    by (Ok bytes) e = let a = sheet-asked market year month bytes e in (a.0, e ∙ ap Ok a.1)
    by (Err d) e =
        let z : Err d ≡ Ok n = ap (λ (r : Result (List ℕ) CalendarError). sheet_written r buffer) (sym e) ∙ h in
        absurd (let z : ◌≡◌ {A = ℕ} 0 1 = cc in omega arith)

-- ---- the sheet of a month

module _ (market year month : ℕ) (k : CheckedMonth market year month) where
  abbrev days : List ℕ
  days = month_list market year month

  -- what the month call answers and writes
  month-answer : (buffer : List ℕ) → trading_days_in_month_result market year month buffer ≡ checked_room (length days) (length buffer)
  month-answer buffer = month-of-years market year month buffer k.known k.supported k.from k.to

  month-written : (buffer : List ℕ) (i : ℕ) → trading_days_in_month_result market year month buffer ≡ Ok i
      → (i ≡ length days) × (take i (trading_days_in_month_buffer market year month buffer) ≡ days)
  month-written buffer i e = rw (month-answer buffer) (written-bytes days buffer i (sym (month-answer buffer) ∙ e))

  -- the days as numbers of the sheet
  numbers : Every IsNumber (map decimal days)
  numbers =
      every_map IsNumber decimal days
      (every-each (λ d. d ≤ month_length year month) (λ d. IsNumber (decimal d))
      (λ d h. is_number d (omega (arith, month-high year month k.to))) days (list-in-month market year month))

  -- Each line is a name and then digits and commas, so that no line feed occurs in it.
  above : Every (Above 10) (sheet_lines market year month days)
  unfolding sheet_lines
  above =
      let m = named (ascii "market=") (omega arith) market in
      let y = named (ascii "year=") (omega arith) year in
      let o = named (ascii "month=") (omega arith) month in
      let c = named (ascii "count=") (omega arith) (length days) in
      let d = every_append _ (ascii "days=") (comma_separated days) (omega arith) (numbers-above days) in
      (m, (y, (o, (c, (d, tt)))))
    where
      named : (name : List ℕ) → Above 10 name → (n : ℕ) → Above 10 (name ++ decimal n)
      named name h n = every_append _ name (decimal n) h (decimal-above 10 n (omega arith))

  lines : split_lines (month_sheet market year month) ≡
      (ascii "market=" ++ decimal market)
      ∷ (ascii "year=" ++ decimal year)
      ∷ (ascii "month=" ++ decimal month)
      ∷ (ascii "count=" ++ decimal (length days))
      ∷ (ascii "days=" ++ comma_separated days)
      ∷ []
      ∷ []
  unfolding sheet_lines
  lines = split_text _ above

  small : (market < 10 ^ 9) × (year < 10 ^ 9) × (month < 10 ^ 9) × (length days < 10 ^ 9)
  small = (
    omega (arith, market-code market k.known),
    omega (arith, supported-years year k.supported),
    omega (arith, k.to),
    omega (arith, list_length market year month),
  )

  -- The first three lines are a text of the form, with the digits of the three numbers.
  read_back : read_request (first_lines 3 (month_sheet market year month)) ≡ Some (record { market = market; year = year; month = month })
  unfolding request_text sheet_lines
  read_back =
      ap read_request (first-lines 3 (sheet_lines market year month days) above)
      ∙ reads-the-form.accepts (decimal market) (decimal year) (decimal month)
      (is_number market small.0).digit-string (is_number year small.1).digit-string (is_number month small.2).digit-string
      ∙ (λ j. Some (record { market = decimal-value market j; year = decimal-value year j; month = decimal-value month j }))

  -- the claim about this month
  laws : (text : List ℕ) (n : ℕ) → read_request text ≡ Some (record { market = market; year = year; month = month }) → n ≡ length (month_sheet market year month)
      → SheetLaws text n (month_sheet market year month)
  laws text n e l =
      let list = split-list days in
      let count = decimal-value (length days) in
      let same : map value_of (split_list (comma_separated days)) ≡ days = ap (map value_of) list ∙ values days in
      record {
        market = market;
        year = year;
        month = month;
        request = e;
        length-is = sym l;
        at_most = omega (arith, l, sheet-fits market year month k);
        market-digits = decimal market;
        year-digits = decimal year;
        month-digits = decimal month;
        count-digits = decimal (length days);
        days = comma_separated days;
        lines = lines;
        numbers =
            (is_number market small.0, (is_number year small.1, (is_number month small.2, (is_number (length days) small.3, rw list numbers))));
        market-is = decimal-value market;
        year-is = decimal-value year;
        month-is = decimal-value month;
        read_back = read_back ∙ sym e;
        count-is = count ∙ sym (ap length list ∙ length-map days decimal);
        days-are = same;
        month-call = λ buffer i h. let w = month-written buffer i (was-counted _ i h) in (w.0 ∙ sym count, w.1 ∙ sym same);
        no-error = λ buffer h. ap count_answer (month-answer buffer ∙ room-enough (length days) (length buffer) (omega arith)) ∙ counted_is (length days) ∙ ap counted (sym count);
      }

-- ---- the call

-- The text asks for a month, as it gives no error 10.
by-request : (text buffer : List ℕ) (n : ℕ) (r : Option Request) → read_request text ≡ r → sheet_written (sheet_of_request r) buffer ≡ Ok n
    → SheetLaws text n (take n (sheet_buffer (sheet_of_request r) buffer))
by-request text buffer n (Some request) e h =
    let market = request.market in
    let year = request.year in
    let month = request.month in
    let s = sheet-checked market year month n buffer h in
    let w = written-bytes (month_sheet market year month) buffer n (ap (λ (r : Result (List ℕ) CalendarError). sheet_written r buffer) (sym s.1) ∙ h) in
    rw (s.1, w.1) (laws market year month s.0 text n e w.0)
by-request text buffer n None e h = absurd (let z : ◌≡◌ {A = ℕ} 0 1 = cc in omega arith)

-- The text asks for a month without an error, and every sheet has room.
answered : (text buffer : List ℕ) (market year month : ℕ) → read_request text ≡ Some (record { market = market; year = year; month = month }) → is_market market ≡ true → is_supported year ≡ true
    → 1 ≤ month → month ≤ 12 → 136 ≤ length buffer → (n : ℕ) × (sheet_call text buffer ≡ counted n)
answered text buffer market year month e k s l u room =
    let bytes = month_sheet market year month in
    let checked = month-passes market year month k s l u in
    let short = sheet-fits market year month (month-checked market year month checked) in (
      length bytes,
      ap (λ (r : Option Request). count_answer (sheet_written (sheet_of_request r) buffer)) e
          ∙ ap (λ (r : Result (List ℕ) CalendarError). count_answer (sheet_written r buffer)) (sheet-by-check market year month _ checked)
          ∙ ap count_answer (room-enough (length bytes) (length buffer) (omega arith))
          ∙ counted_is (length bytes),
    )

-- [sheet-output], [sheet-numbers], [sheet-return]
pub sheet-laws : AllSheetLaws
sheet-laws = record {
  answered = answered;
  written = λ text buffer n h. by-request text buffer n (read_request text) refl (was-counted _ n h);
}
