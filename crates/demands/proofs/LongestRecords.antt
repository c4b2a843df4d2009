-- The bounds on the records' lengths are reached: one state from which a step, a reset, a force and a set each make a record of the most bytes.
-- P is 4000 (hex), the word there writes A to port 0, and A, X, Y and port 0 hold numbers of five groups.
-- Assumes nothing.
use Prim.Native.Nat.{ℕ}
use mathlib.Core.Path.{◌≡◌, refl}
use mathlib.Core.Bool.{false}
use mathlib.Core.List.{List, [], ◌∷◌, ◌++◌}
use lib.ListN.{length, replicate}
use Rattle.report.specs.AnnexA.{EL, SEG, «V», BITS, NOT33, NOT32, ◌AND32◌, ◌OR32◌, FETCH21, STORE21}
use Rattle.report.specs.Section3.{State, TRIM32TO20, TRIM34TO32, PAD20TO32, SIGNEXT, RIGHT, LEFT, RIGHTARITH, NEG, ADD32, SUB32, INCP32, COMPARE, REG, OFFSET, INVALID, INSTFETCH, MEMREAD, MEMWRITE, ALU, WRITE, NILM, NOOP, SPAREFUNC, ILLEGALCALL, ILLEGALPDEST, ILLEGALWRITE, OUTPUT, INPUT, NEXT}
use Rattle.report.specs.Parts.{word_at, with_word, part_by, address, writes_by}
use Rattle.machine.specs.declared.Place.TheVariants.{Port}
use Rattle.trail.specs.Numbers.{groups_in, groups}
use Rattle.trail.specs.Records.{record_in, old_values}
use Rattle.viper.specs.Operations.{Operation, step, reset, force, set_word, record_for}
use Rattle.demands.proofs.SecondDemand.{longest}

abbrev at : List ℕ → State
at main = (record { main = main; ports = 0x80000000 ∷ [] }, 16384, 0x90000000, 0x90000000, 0x90000000, false, false)

-- A reset, a force and a set of port 0 need no word of main.
abbrev Reaches : Operation → List ℕ → Type 0
Reaches e main = length (record_for e (at main)) ≡ longest e

pub reset_reaches : Reaches reset []
unfolding record_in old_values groups groups_in
reset_reaches = refl

pub force_reaches : Reaches force []
unfolding record_in old_values groups groups_in
force_reaches = refl

pub set_reaches : Reaches (set_word (Port (record { 0 = 0 })) 7) []
unfolding record_in old_values groups groups_in word_at with_word
set_reaches = refl

pub step_reaches : Reaches step (replicate 16384 0 ++ (0x1C000000 ∷ []))
unfolding record_in old_values groups groups_in word_at with_word part_by address writes_by NEXT TRIM32TO20 TRIM34TO32 PAD20TO32 SIGNEXT RIGHT LEFT RIGHTARITH NEG ADD32 SUB32 INCP32 COMPARE REG OFFSET INVALID INSTFETCH MEMREAD MEMWRITE ALU WRITE NILM NOOP SPAREFUNC ILLEGALCALL ILLEGALPDEST ILLEGALWRITE OUTPUT INPUT EL SEG «V» BITS NOT33 NOT32 ◌AND32◌ ◌OR32◌ FETCH21 STORE21
step_reaches = refl
