-- `two_numbers` meets its contract: each of the two bytes is a number below 128.
-- Assumes nothing.
use Prim.Native.Nat.{◌+◌, ◌-◌}
use mathlib.Core.Path.{◌≡◌, ◌∙◌}
use native.Mathlib.Omega.{arith}
use Rattle.reading.proofs.ReadingNumbers.{last_two, next_byte, no_next_byte, the_error}
use Rattle.reading.proofs.short.two_numbers.Goals as goal

pub returns-in_err-p : goal.returns-in_err-p
returns-in_err-p c =
    let a = c.args in
    let s = a.trail.now in
    let large = no_next_byte s (a.end - 2) a.end 128 (omega arith) (omega arith) (omega arith) c.new-r.ensures _ c.next_number.ensures.reads c.in_err-p.was in
    rw (the_error c.from_residual.result c.from_residual.ensures.0) (last_two s (a.end - 2) (a.end - 1) a.end (omega arith) (omega arith) (omega arith), λ h. absurd (omega arith))

pub returns-in_err-value : goal.returns-in_err-value
returns-in_err-value c =
    let a = c.args in
    let s = a.trail.now in
    let next : a.end - 2 + 1 ≡ a.end - 1 = omega arith in
    let p = next_byte s (a.end - 2) a.end 128 (omega arith) (omega arith) (omega arith) c.new-r.ensures _ c.next_number.ensures.reads c.in_ok-p.was in
    let large = no_next_byte s (a.end - 1) a.end 128 (omega arith) (omega arith) (omega arith) (p.2 ∙ rw next) _ c.next_number-2.ensures.reads c.in_err-value.was in
    rw (the_error c.from_residual-in_err-value.result c.from_residual-in_err-value.ensures.0) (last_two s (a.end - 2) (a.end - 1) a.end (omega arith) (omega arith) (omega arith), λ h. large)

pub returns : goal.returns
returns c =
    let a = c.args in
    let s = a.trail.now in
    let next : a.end - 2 + 1 ≡ a.end - 1 = omega arith in
    let p = next_byte s (a.end - 2) a.end 128 (omega arith) (omega arith) (omega arith) c.new-r.ensures _ c.next_number.ensures.reads c.in_ok-p.was in
    let v = next_byte s (a.end - 1) a.end 128 (omega arith) (omega arith) (omega arith) (p.2 ∙ rw next) _ c.next_number-2.ensures.reads c.in_ok-value.was in
    (rw (last_two s (a.end - 2) (a.end - 1) a.end (omega arith) (omega arith) (omega arith), p.0, v.0), p.1, v.1)
