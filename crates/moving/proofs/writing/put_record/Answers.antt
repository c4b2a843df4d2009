use native.Mathlib.Omega.{arith}
use Rattle.trail.proofs.Adding.{goes_on}
use Rattle.moving.proofs.Backwards.{has_room, copy_starts, puts_new, puts_old}
use Rattle.moving.proofs.writing.put_record.Goals as goal

pub loop-i-init : goal.loop-i-init
loop-i-init c =
    let a = c.args in
    let h = has_room a.new a.l a.to c.kind_bytes-lead.result c.kind_bytes.result c.kind_bytes-lead.ensures c.kind_bytes.ensures c.requires.1 c.requires.3 in
    copy_starts a.out.now a.s.now _ _ a.to _ (omega arith) (omega arith) c.requires.4 _ (omega (arith, h))

pub loop-i-preserved : goal.loop-i-preserved
loop-i-preserved c = goes_on c.loop-i.invariant c.loop-i-test.true

pub returns-then-new : goal.returns-then-new
returns-then-new c =
    let a = c.args in
    let h = has_room a.new a.l a.to c.kind_bytes-lead.result c.kind_bytes.result c.kind_bytes-lead.ensures c.kind_bytes.ensures c.requires.1 c.requires.3 in
    let k = rw c.if-new.true at c.kind_bytes.ensures in
    puts_new a.out.now a.s.now _ _ a.to _ (omega arith) (omega arith) c.requires.4 c.loop-i.invariant c.loop-i-test.false a.new a.start a.l c.if-new.true c.kind_bytes-lead.ensures (omega (arith, k)) (omega (arith, k)) (omega (arith, h))

pub returns-else-new : goal.returns-else-new
returns-else-new c =
    let a = c.args in
    let h = has_room a.new a.l a.to c.kind_bytes-lead.result c.kind_bytes.result c.kind_bytes-lead.ensures c.kind_bytes.ensures c.requires.1 c.requires.3 in
    let k = rw c.if-new.false at c.kind_bytes.ensures in
    puts_old a.out.now a.s.now _ _ a.to _ (omega arith) (omega arith) c.requires.4 c.loop-i.invariant c.loop-i-test.false a.new a.start a.l c.if-new.false c.kind_bytes-lead.ensures (omega (arith, k)) (omega (arith, k)) (omega (arith, h))
