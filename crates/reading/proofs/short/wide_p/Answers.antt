-- `wide_p` meets its contract: nothing is marked, so P takes both bytes after the marks.
-- Assumes nothing.
use Prim.Native.Nat.{ℕ, ◌+◌, ◌-◌, ◌≤◌}
use mathlib.Core.Path.{◌≡◌, sym, ◌∙◌}
use mathlib.Core.List.{List}
use native.Mathlib.Omega.{arith}
use lib.Seq.{slice}
use Rattle.reading.proofs.ReadingNumbers.{the_error}
use Rattle.reading.proofs.ShortRecords.{no_p, p_ends, left_over}
use Rattle.reading.proofs.short.wide_p.Goals as goal

-- The two bytes before L are those after the marks.
after : (s : List ℕ) (end : ℕ) → 4 ≤ end → {old : List ℕ} → old ≡ slice (end - 2) end s → old ≡ slice (end - 3 + 1) end s
after s end four e =
    let next : end - 3 + 1 ≡ end - 2 = omega arith in
    e ∙ rw next

pub returns-in_err-p : goal.returns-in_err-p
returns-in_err-p c =
    let a = c.args in
    let m = c.requires.2 in
    rw (the_error c.from_residual.result c.from_residual.ensures.0)
    (no_p a.kind a.trail.now a.end 3 _ (omega arith) (omega arith) (omega arith) m.byte m.small (after a.trail.now a.end (omega arith) c.new-r.ensures) _ c.next_number.ensures.reads c.in_err-p.was)

pub returns-then-is_at_end : goal.returns-then-is_at_end
returns-then-is_at_end c =
    let a = c.args in
    let m = c.requires.2 in
    let left : a.end - 4 ≡ a.end - 3 - 1 = omega arith in
    rw (c.unmarked.ensures, left)
    (p_ends a.kind a.trail.now a.end 3 _ (omega arith) (omega arith) (omega arith) m.byte m.small (after a.trail.now a.end (omega arith) c.new-r.ensures) _ c.next_number.ensures.reads c.in_ok-p.was c.requires.3 (sym c.is_at_end.ensures ∙ c.if-is_at_end.true))

pub returns : goal.returns
returns c =
    let a = c.args in
    let m = c.requires.2 in
    left_over a.kind a.trail.now a.end 3 _ (omega arith) (omega arith) (omega arith) m.byte m.small (after a.trail.now a.end (omega arith) c.new-r.ensures) _ c.next_number.ensures.reads c.in_ok-p.was c.requires.3 (sym c.is_at_end.ensures ∙ c.if-is_at_end.false)
