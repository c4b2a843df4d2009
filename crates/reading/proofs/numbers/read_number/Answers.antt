-- `read_number` meets its contract: a law for two groups, one for three, and one for more; the other ways out need none here.
-- Assumes nothing.
use Prim.Native.Nat.{ℕ, ◌+◌, ◌-◌, ◌*◌, ◌%◌, ◌<◌}
use mathlib.Core.Path.{◌≡◌}
use native.Mathlib.Omega.{arith}
use lib.ListN.{get_or}
use lib.Dec.{ltb}
use mathlib.Core.Bool.{true, ◌&&◌}
use Rattle.std.proofs.lemmas.Bool.Decides.{nat_tests}
use Rattle.reading.proofs.ReadingGroups.{two_groups, three_groups, more_groups}
use Rattle.reading.proofs.numbers.read_number.Goals as goal

-- What the tests say of the number n, whose last group is the second byte or the third.
second_fits : (last n bound : ℕ) → (ltb 0 last && ltb n bound) ≡ true → (0 < last) × (n < bound)
second_fits last n bound e = (grind (arith, nat_tests), grind (arith, nat_tests))

third_fits : (last n bound : ℕ) → (ltb 0 last && ltb last 128 && ltb n bound) ≡ true → (0 < last) × (last < 128) × (n < bound)
third_fits last n bound e = (grind (arith, nat_tests), grind (arith, nat_tests), grind (arith, nat_tests))

pub returns-then-c-n : goal.returns-then-c-n
returns-then-c-n c =
    let a = c.args in
    let first = get_or a.bytes.now a.at 0 in
    let second = get_or a.bytes.now (a.at + 1) 0 in
    let byte = c.type_inv.bytes a.at in
    let group : first % 128 ≡ first - 128 = omega arith in
    let t = second_fits second (first % 128 + 128 * second) a.bound c.if-c-n.true in
    rw group (two_groups a.bytes.now a.at a.end a.bound (omega arith) (omega arith) (omega arith) (omega arith) t.0 (omega arith) (omega arith))

pub returns-then-d-n : goal.returns-then-d-n
returns-then-d-n c =
    let a = c.args in
    let first = get_or a.bytes.now a.at 0 in
    let second = get_or a.bytes.now (a.at + 1) 0 in
    let third = get_or a.bytes.now (a.at + 2) 0 in
    let byte = c.type_inv.bytes a.at in
    let byte₂ = c.type_inv.bytes (a.at + 1) in
    let group : first % 128 ≡ first - 128 = omega arith in
    let group₂ : second % 128 ≡ second - 128 = omega arith in
    let t = third_fits third (first % 128 + 128 * (second % 128) + 16384 * third) a.bound c.if-d-n.true in
    rw (group, group₂)
    (three_groups a.bytes.now a.at a.end a.bound (omega arith) (omega arith) (omega arith) (omega arith) (omega arith) (omega arith) t.0 t.1 (omega arith))

pub returns : goal.returns
returns c =
    let a = c.args in
    let byte = c.type_inv.bytes a.at in
    rw (← more_groups a.bytes.now a.at a.end a.bound (omega arith) (omega arith) (omega arith) (omega arith))
    c.read_more.ensures
