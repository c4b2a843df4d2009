-- `two_bytes` meets its contract: marks and P, each one byte.
-- Assumes nothing.
use Prim.Native.Nat.{◌+◌, ◌-◌}
use mathlib.Core.Path.{◌≡◌, refl}
use native.Mathlib.Omega.{arith}
use lib.ListN.{get_or}
use lib.Seq.{slice}
use mathlib.Core.List.{[], ◌∷◌}
use Rattle.reading.proofs.ReadingNumbers.{last_byte, next_byte, no_next_byte, the_error}
use Rattle.reading.proofs.ShortRecords.{marks_broken, p_kept, p_lacking, p_alone}
use Rattle.reading.proofs.short.two_bytes.Goals as goal

pub returns-in_err-marks : goal.returns-in_err-marks
returns-in_err-marks c =
    let a = c.args in
    let s = a.trail.now in
    let large = no_next_byte s (a.end - 2) a.end 64 (omega arith) (omega arith) (omega arith) c.new-r.ensures _ c.next_number.ensures.reads c.in_err-marks.was in
    rw (the_error c.from_residual.result c.from_residual.ensures.0)
    (marks_broken a.kind s a.end 2 (get_or s (a.end - 2) 0) (omega arith) (omega arith) (omega arith) refl large)

pub returns-then-marks-ne0 : goal.returns-then-marks-ne0
returns-then-marks-ne0 c =
    let a = c.args in
    let s = a.trail.now in
    let m = next_byte s (a.end - 2) a.end 64 (omega arith) (omega arith) (omega arith) c.new-r.ensures _ c.next_number.ensures.reads c.in_ok-marks.was in
    let b = last_byte s (a.end - 2 + 1) a.end (omega arith) (omega arith) in
    p_alone a.kind s a.end 2 _ (omega arith) (omega arith) (omega arith) m.0 m.1 _ b c.if-marks-ne0.true

pub returns-in_err-p : goal.returns-in_err-p
returns-in_err-p c =
    let a = c.args in
    let s = a.trail.now in
    let m = next_byte s (a.end - 2) a.end 64 (omega arith) (omega arith) (omega arith) c.new-r.ensures _ c.next_number.ensures.reads c.in_ok-marks.was in
    let b = last_byte s (a.end - 2 + 1) a.end (omega arith) (omega arith) in
    let large = no_next_byte s (a.end - 2 + 1) a.end 128 (omega arith) (omega arith) (omega arith) m.2 _ c.next_number-2.ensures.reads c.in_err-p.was in
    rw (the_error c.from_residual-in_err-p.result c.from_residual-in_err-p.ensures.0)
    (p_lacking a.kind s a.end 2 _ (omega arith) (omega arith) (omega arith) m.0 m.1 _ b large)

pub returns : goal.returns
returns c =
    let a = c.args in
    let s = a.trail.now in
    let m = next_byte s (a.end - 2) a.end 64 (omega arith) (omega arith) (omega arith) c.new-r.ensures _ c.next_number.ensures.reads c.in_ok-marks.was in
    let p = next_byte s (a.end - 2 + 1) a.end 128 (omega arith) (omega arith) (omega arith) m.2 _ c.next_number-2.ensures.reads c.in_ok-p.was in
    let b : slice (a.end - 2 + 1) a.end s ≡ c.in_ok-p.p ∷ [] = rw (last_byte s (a.end - 2 + 1) a.end (omega arith) (omega arith), p.0) in
    let left : a.end - 3 ≡ a.end - 2 - 1 = omega arith in
    rw (c.unmarked.ensures, left) (p_kept a.kind s a.end 2 _ (omega arith) (omega arith) (omega arith) m.0 m.1 _ b c.if-marks-ne0.false p.1)
