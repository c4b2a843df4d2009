-- The table holds the class of every number of bits 29-20, and the word's number is of its fields.
use Rattle.std.proofs.Common.{◌≡◌, ◌/◌, ◌%◌, ◌^◌, arith}
use Rattle.report.specs.Parts.{msf, dsf, csf, fsf}
use Rattle.instruction.proofs.class.ClassTable.class_of.Goals as goal

pub returns : goal.returns
returns c =
    let w = c.args.w in
    let k = w / 2 ^ 20 % 1024 in
    let m : k / 256 ≡ msf w = omega arith in
    let d : k / 32 % 8 ≡ dsf w = omega arith in
    let s : k / 16 % 2 ≡ csf w = omega arith in
    let f : k % 16 ≡ fsf w = omega arith in
    rw (m, d, s, f) at (c.args.self.now.classified.entry k (omega arith))
