-- Each way out is one of Completing's, at the values that the phases gave. The two ways to a register meet before the finish.
use mathlib.Core.Path.{refl}
use native.Mathlib.Omega.{arith}
use Prim.Native.Nat.{◌+◌, ◌<◌}
use lib.ListN.{length}
use Rattle.machine.specs.Held.{ram}
use Rattle.step.proofs.Completing.{told_bad, told_unfitted, kept_same, to_register, calls, jumps, register_low, computes_held, computes_bad, computes_lacking, jump_high, jump_fsf, skips_8, skips_9, jumps_held, jumps_bad, jumps_lacking}
use Rattle.step.proofs.phases.deliver.Goals as goal
use Rattle.step.proofs.phases.deliver.Goals.{then-class-ge7+else-class-b+else-class-b-2+in-Ok+else-f-ne1, else-class-ge7+in-Ok-o}

pub returns-then-class-b : goal.returns-then-class-b
returns-then-class-b c =
    let g = c.args.sources.now in (
      kept_same c.finish_flags.result g,
      skips_8 g _ _ _ _ _ _ _ c.requires.in_range c.requires.decodes.0 c.args.trail.now c.args.used c.if-class-ge7.true c.if-class-b.true (c.finish_flags.ensures _ g),
    )

pub returns-then-class-b-2 : goal.returns-then-class-b-2
returns-then-class-b-2 c =
    let g = c.args.sources.now in (
      kept_same c.finish_flags-then-class-b-2.result g,
      skips_9 g _ _ _ _ _ _ _ c.requires.in_range c.requires.decodes.0 c.args.trail.now c.args.used c.if-class-ge7.true c.if-class-b.false c.if-class-b-2.true (c.finish_flags-then-class-b-2.ensures _ g),
    )

pub alu_jump-t-requires : goal.alu_jump-t-requires
alu_jump-t-requires c =
    jump_fsf c.args.sources.now _ _ _ _ _ _ _ c.requires.in_range c.requires.decodes.0 c.args.trail.now c.args.used c.if-class-ge7.true

pub returns-then-f-ne1 : goal.returns-then-f-ne1
returns-then-f-ne1 c =
    let g = c.args.sources.now in
    let t = c.alu_jump-t.result in
    let j = jumps g c.args.p c.args.b c.args.f (c.args.p + 1) t.value t.b t.stop (omega (arith, c.requires.lawful.1)) (jump_high g _ _ _ _ _ _ _ c.requires.in_range c.requires.decodes.0 c.args.trail.now c.args.used c.if-class-ge7.true) c.if-f-ne1.true in (
      kept_same c.finish_flags-then-f-ne1.result g,
      jumps_held g _ _ _ _ _ _ _ c.requires.in_range c.requires.decodes.0 c.args.trail.now c.args.used c.if-class-ge7.true c.if-class-b.false c.if-class-b-2.false c.constant_or_read-o.ensures c.in-Ok.is c.alu_jump-t.ensures (rw j (c.finish_flags-then-f-ne1.ensures _ g)),
    )

pub returns-in-Err-Bad : goal.returns-in-Err-Bad
returns-in-Err-Bad c =
    let g = c.args.sources.now in (
      kept_same c.finish_flags-in-Err-Bad.result g,
      jumps_bad g _ _ _ _ _ _ _ c.requires.in_range c.requires.decodes.0 c.args.trail.now c.args.used c.if-class-ge7.true c.if-class-b.false c.if-class-b-2.false c.constant_or_read-o.ensures (told_bad c.in-Err-Bad.is (rw c.in-Err-Bad.is at c.in-Err-Bad.field-0-is)) (c.finish_flags-in-Err-Bad.ensures _ g),
    )

pub returns-in-Err-Unfitted : goal.returns-in-Err-Unfitted
returns-in-Err-Unfitted c =
    (refl, jumps_lacking c.args.sources.now _ _ _ _ _ _ _ c.requires.in_range c.requires.decodes.0 c.args.trail.now c.args.used c.if-class-ge7.true c.if-class-b.false c.if-class-b-2.false c.constant_or_read-o.ensures (told_unfitted c.in-Err-Unfitted.is (rw c.in-Err-Unfitted.is at c.in-Err-Unfitted.field-0-is)))

pub returns-in-Err-Bad-o : goal.returns-in-Err-Bad-o
returns-in-Err-Bad-o c =
    let g = c.args.sources.now in (
      kept_same c.finish_flags-in-Err-Bad-o.result g,
      computes_bad g _ _ _ _ _ _ _ c.requires.in_range c.requires.decodes.0 c.args.trail.now c.args.used c.requires.decodes.1 c.if-class-ge7.false c.operand_of-o.ensures (told_bad c.in-Err-Bad-o.is (rw c.in-Err-Bad-o.is at c.in-Err-Bad-o.field-0-is)) (c.finish_flags-in-Err-Bad-o.ensures _ g),
    )

pub returns-in-Err-Unfitted-o : goal.returns-in-Err-Unfitted-o
returns-in-Err-Unfitted-o c =
    (refl, computes_lacking c.args.sources.now _ _ _ _ _ _ _ c.requires.in_range c.requires.decodes.0 c.args.trail.now c.args.used c.requires.decodes.1 c.if-class-ge7.false c.operand_of-o.ensures (told_unfitted c.in-Err-Unfitted-o.is (rw c.in-Err-Unfitted-o.is at c.in-Err-Unfitted-o.field-0-is)))

pub finish_register-requires : goal.finish_register-requires
finish_register-requires c = (
  elim c.if-class-ge7.branch [
    | then-class-ge7+else-class-b+else-class-b-2+in-Ok+else-f-ne1 w ↦ rw w.d-is (omega arith)
    | else-class-ge7+in-Ok-o w ↦ rw w.d-is (register_low c.args.sources.now _ _ _ _ _ _ _ c.requires.in_range c.requires.decodes.0 c.args.trail.now c.args.used c.requires.decodes.1 w.if-class-ge7.false)
  ],
  c.requires.lawful.0.p_lt,
  c.requires.lawful.0.used_le,
  c.requires.lawful.1,
)

pub returns : goal.returns
returns c =
    let g = c.args.sources.now in
    let o = c.finish_register in
    let long : 2 < length g = omega (arith, c.requires.lawful.1) in (
      o.ensures.0,
      elim c.if-class-ge7.branch [
        | then-class-ge7+else-class-b+else-class-b-2+in-Ok+else-f-ne1 w ↦
            let t = w.alu_jump-t.result in
            jumps_held g _ _ _ _ _ _ _ c.requires.in_range c.requires.decodes.0 c.args.trail.now c.args.used w.if-class-ge7.true w.if-class-b.false w.if-class-b-2.false w.constant_or_read-o.ensures w.in-Ok.is w.alu_jump-t.ensures
            (rw (calls g c.args.p c.args.b c.args.f (c.args.p + 1) t.value t.b t.stop long (jump_high g _ _ _ _ _ _ _ c.requires.in_range c.requires.decodes.0 c.args.trail.now c.args.used w.if-class-ge7.true) w.if-f-ne1.false) (rw w.d-is at (o.ensures.1 (ram c.args.main.now c.args.ports.now))))
        | else-class-ge7+in-Ok-o w ↦
            let t = w.alu_register-t.result in
            computes_held g _ _ _ _ _ _ _ c.requires.in_range c.requires.decodes.0 c.args.trail.now c.args.used c.requires.decodes.1 w.if-class-ge7.false w.operand_of-o.ensures w.in-Ok-o.is w.alu_register-t.ensures
            (rw (to_register g c.args.p c.args.b c.args.f (c.args.p + 1) t.value t.b t.stop long (register_low g _ _ _ _ _ _ _ c.requires.in_range c.requires.decodes.0 c.args.trail.now c.args.used c.requires.decodes.1 w.if-class-ge7.false)) (rw w.d-is at (o.ensures.1 (ram c.args.main.now c.args.ports.now))))
      ],
    )
