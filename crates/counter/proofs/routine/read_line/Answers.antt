use Rattle.std.proofs.Common.{rules, sym, ◌∙◌, arith, ◌≡◌, ◌≤◌, length, ℕ, suc, ◌+◌, ◌-◌, ◌<◌, get_or, get_or-take}
use native.Mathlib.Numerals.{add-one}
use Rattle.text.proofs.Digits.{sixteens, sixteens_grow}
use Rattle.counter.proofs.Reading.{too_short, no_digit, one_digit}
use Rattle.counter.proofs.routine.read_line.Goals as goal

-- The value with one digit more has at most eight digits.
one_more : (digits : ℕ) → digits < 8 → sixteens (suc digits) ≤ sixteens 8
one_more digits h =
    let k : suc digits + (8 - (digits + 1)) ≡ 8 = omega arith in
    rw k at (sixteens_grow (suc digits) (8 - (digits + 1)))

pub returns-in_err-digits : goal.returns-in_err-digits
returns-in_err-digits c =
    let h : length c.args.text.now < c.args.width = search rules in
    c.from_residual.ensures ∙ sym (too_short c.args.width 0 c.args.text.now (omega arith))

pub overflow_mul-word : goal.overflow_mul-word
overflow_mul-word c =
    let n : length c.in_ok-digits.digits.now ≡ c.args.width = search rules in
    omega (arith, one_more c.loop-digit.digit-index (omega arith))

pub returns-in_err-word : goal.returns-in_err-word
returns-in_err-word c =
    let l = c.loop-digit in
    let i = l.digit-index in
    let text = c.args.text.now in
    let n : length c.in_ok-digits.digits.now ≡ c.args.width = search rules in
    let within : c.args.width ≤ length text = search rules in
    let d : get_or c.in_ok-digits.digits.now i 0 ≡ get_or text i 0 = search (rules, get_or-take) in
    let left = c.args.width - (i + 1) in
    let k : c.args.width - i ≡ suc left = omega arith in
    let none = rw d at c.in_err-word.ensures.none in
    c.from_residual-in_err-word.ensures ∙ sym (l.invariant.1 ∙ rw k (no_digit text i left l.word (omega arith) (omega (arith, none))))

pub loop-digit-preserved : goal.loop-digit-preserved
loop-digit-preserved c =
    let l = c.loop-digit in
    let i = l.digit-index in
    let text = c.args.text.now in
    let n : length c.in_ok-digits.digits.now ≡ c.args.width = search rules in
    let within : c.args.width ≤ length text = search rules in
    let d : get_or c.in_ok-digits.digits.now i 0 ≡ get_or text i 0 = search (rules, get_or-take) in
    let left = c.args.width - (i + 1) in
    let k : c.args.width - i ≡ suc left = omega arith in
    let worth = c.in_ok-word.ensures.worth in
    let value = rw d at worth.0 in (
      rw add-one (omega (arith, worth.1)),
      l.invariant.1 ∙ rw (k, value) (one_digit text i left l.word (omega arith) (omega (arith, value, worth.1))),
    )
