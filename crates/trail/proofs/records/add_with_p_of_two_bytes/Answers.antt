-- `add_with_p_of_two_bytes` meets its contract: P takes two bytes, and each bound on the value tells how many groups it has.
-- Assumes nothing.
use native.Mathlib.Omega.{arith}
use Rattle.trail.proofs.NumbersReadBack.{groups_one}
use Rattle.trail.proofs.ShortRecords.{groups_two, groups_three, groups_four, groups_five, adds_groups}
use Rattle.trail.proofs.records.add_with_p_of_two_bytes.Goals as goal

pub group-requires : goal.group-requires
group-requires c = tt

pub overflow_cast-p : goal.overflow_cast-p
overflow_cast-p c = omega arith

pub overflow_cast-v : goal.overflow_cast-v
overflow_cast-v c = omega arith

pub returns-then-v-lt128 : goal.returns-then-v-lt128
returns-then-v-lt128 c =
    let a = c.args in
    adds_groups a.trail.now a.used a.marks a.p a.v
    (groups_two c.requires.1 c.requires.2 c.group.ensures)
    (groups_one a.v c.if-v-lt128.true)
    c.add_short.ensures

pub group-requires-then-v-lt16384 : goal.group-requires-then-v-lt16384
group-requires-then-v-lt16384 c = tt

pub overflow_cast-p-then-v-lt16384 : goal.overflow_cast-p-then-v-lt16384
overflow_cast-p-then-v-lt16384 c = omega arith

pub group-requires-then-v-lt16384-2 : goal.group-requires-then-v-lt16384-2
group-requires-then-v-lt16384-2 c = tt

pub overflow_cast-v-then-v-lt16384 : goal.overflow_cast-v-then-v-lt16384
overflow_cast-v-then-v-lt16384 c = omega arith

pub returns-then-v-lt16384 : goal.returns-then-v-lt16384
returns-then-v-lt16384 c =
    let a = c.args in
    adds_groups a.trail.now a.used a.marks a.p a.v
    (groups_two c.requires.1 c.requires.2 c.group-then-v-lt16384.ensures)
    (groups_two c.if-v-lt128.false c.if-v-lt16384.true c.group-then-v-lt16384-2.ensures)
    c.add_short-then-v-lt16384.ensures

pub group-second-requires : goal.group-second-requires
group-second-requires c = tt

pub group-requires-then-v-lt2097152 : goal.group-requires-then-v-lt2097152
group-requires-then-v-lt2097152 c = tt

pub overflow_cast-p-then-v-lt2097152 : goal.overflow_cast-p-then-v-lt2097152
overflow_cast-p-then-v-lt2097152 c = omega arith

pub group-requires-then-v-lt2097152-2 : goal.group-requires-then-v-lt2097152-2
group-requires-then-v-lt2097152-2 c = tt

pub overflow_cast-v-then-v-lt2097152 : goal.overflow_cast-v-then-v-lt2097152
overflow_cast-v-then-v-lt2097152 c = omega arith

pub returns-then-v-lt2097152 : goal.returns-then-v-lt2097152
returns-then-v-lt2097152 c =
    let a = c.args in
    adds_groups a.trail.now a.used a.marks a.p a.v
    (groups_two c.requires.1 c.requires.2 c.group-then-v-lt2097152.ensures)
    (groups_three c.if-v-lt16384.false c.if-v-lt2097152.true c.group-then-v-lt2097152-2.ensures c.group-second.ensures)
    c.add_short-then-v-lt2097152.ensures

pub group-third-requires : goal.group-third-requires
group-third-requires c = tt

pub group-requires-then-v-lt268435456 : goal.group-requires-then-v-lt268435456
group-requires-then-v-lt268435456 c = tt

pub overflow_cast-p-then-v-lt268435456 : goal.overflow_cast-p-then-v-lt268435456
overflow_cast-p-then-v-lt268435456 c = omega arith

pub group-requires-then-v-lt268435456-2 : goal.group-requires-then-v-lt268435456-2
group-requires-then-v-lt268435456-2 c = tt

pub overflow_cast-v-then-v-lt268435456 : goal.overflow_cast-v-then-v-lt268435456
overflow_cast-v-then-v-lt268435456 c = omega arith

pub returns-then-v-lt268435456 : goal.returns-then-v-lt268435456
returns-then-v-lt268435456 c =
    let a = c.args in
    adds_groups a.trail.now a.used a.marks a.p a.v
    (groups_two c.requires.1 c.requires.2 c.group-then-v-lt268435456.ensures)
    (groups_four c.if-v-lt2097152.false c.if-v-lt268435456.true c.group-then-v-lt268435456-2.ensures c.group-second.ensures c.group-third.ensures)
    c.add_short-then-v-lt268435456.ensures

pub group-fourth-requires : goal.group-fourth-requires
group-fourth-requires c = tt

pub group-requires-2 : goal.group-requires-2
group-requires-2 c = tt

pub overflow_cast-p-2 : goal.overflow_cast-p-2
overflow_cast-p-2 c = omega arith

pub group-requires-3 : goal.group-requires-3
group-requires-3 c = tt

pub overflow_cast-v-2 : goal.overflow_cast-v-2
overflow_cast-v-2 c = omega arith

pub returns : goal.returns
returns c =
    let a = c.args in
    adds_groups a.trail.now a.used a.marks a.p a.v
    (groups_two c.requires.1 c.requires.2 c.group-2.ensures)
    (groups_five c.if-v-lt268435456.false (omega arith) c.group-3.ensures c.group-second.ensures c.group-third.ensures c.group-fourth.ensures)
    c.add_short-2.ensures
