-- What each phase of a step shows: the word fetched, the word decoded, R and M, and what the step changes.
-- That together they are the report's NEXT and document 01's refusal 5 is `phases_plan` in proofs/Planning.antt.
-- Assumes nothing.
use Rattle.std.specs.Prelude.{ℕ, ◌+◌, ◌%◌, ◌^◌, ◌<◌, ◌≡◌, Bool, true, false, not, cond, ◌||◌, List, eqb, ltb, length, get_or, Option, Some, None, Result, Ok, Err}
use Rattle.std.proofs.Math.Option.{Option as Maybe, none, some}
use Rattle.report.specs.AnnexA.{Mem}
use Rattle.report.specs.Section3.{State, Triple, REG, COMPARE, ALU, NEXT}
use Rattle.report.specs.Parts as parts
use Rattle.report.specs.Parts.{Part, stopped, halts, compares, writes, skips, computes, Where, fitted, word_at, reads, written}
use Rattle.machine.specs.Held.{machine_of, place_by, place_of}
use Rattle.machine.specs.declared.Machine.{Machine}
use Rattle.machine.specs.declared.Place.{Place}
use Rattle.instruction.specs.Fields.{Fielded}
use Rattle.instruction.specs.Classes.{class_of_word}
use Rattle.instruction.specs.declared.Fields.{Fields}
use Rattle.step.specs.declared.phases.NoOperand.{NoOperand}
use Rattle.step.specs.declared.phases.NoOperand.TheVariants as operand

-- ---- fetch

-- The word of a store at a number, where it has one.
abbrev pub word_in : List ℕ → ℕ → Option ℕ
word_in store at = cond (ltb at (length store)) (Some (get_or store at 0)) None

-- ---- decode

-- The machine in pieces: A, X and Y stand first among the four sources.
abbrev pub held : List ℕ → ℕ → Bool → Bool → Machine
held sources p b stop = record { a = get_or sources 0 0; x = get_or sources 1 0; y = get_or sources 2 0; p = p; b = b; stop = stop }

-- N modulo 2^20.
abbrev pub next_p : Machine → ℕ
next_p m = (m.p + 1) % 2 ^ 20

abbrev pub source_of : Machine → Fields → ℕ
source_of m f = REG (f.rsf, m.a, m.x, m.y, next_p m)

-- The word at P decoded, where N fits P: its fields, its class and R.
pub record Decodes (m : Machine) (main : List ℕ) (f : Fields) (class r : ℕ) : Type 0 where
  pub fetches : m.p < length main
  pub low : m.p + 1 < 2 ^ 20
  pub fields : Fielded (get_or main m.p 0) f
  pub classed : class ≡ class_of_word (get_or main m.p 0)
  pub source : r ≡ source_of m f

-- ---- operands

-- M as the code finds it. A bad address is told apart, since it halts.
abbrev pub constant_or : Fields → ℕ → List ℕ → Result ℕ NoOperand
constant_or f at store = cond (eqb f.msf 0) (Ok f.addr) (cond (parts.bad at) (Err operand.Bad) (cond (ltb at (length store)) (Ok (get_or store at 0)) (Err operand.Unfitted)))

-- A shift has no M, and function 2 reads a port.
abbrev pub operand_of : Fields → ℕ → List ℕ → List ℕ → Result ℕ NoOperand
operand_of f at main ports = cond (eqb f.fsf 12) (Ok 0) (constant_or f at (cond (eqb f.fsf 2) ports main))

-- R and M, once the word that is to be read or written is known to be fitted.
pub data Operands : Type 0 where
  Held : ℕ → ℕ → Operands
  Unfitted : Operands

abbrev pub word_from : List ℕ → ℕ → ℕ → Operands
word_from store at r = cond (ltb at (length store)) (Held r (get_or store at 0)) Unfitted

abbrev pub constant_or_word : Fields → List ℕ → ℕ → ℕ → Operands
constant_or_word f store at r = cond (eqb f.msf 0) (Held r f.addr) (word_from store at r)

abbrev pub write_to : ℕ → ℕ → ℕ → Operands
write_to words at r = cond (ltb at words) (Held r 0) Unfitted

-- By the part of the order, with an address that is not bad where it counts.
unfoldable pub operands_of : Part → Fields → ℕ → ℕ → List ℕ → List ℕ → Operands
operands_of stopped f at r main ports = Held r 0
operands_of halts f at r main ports = Held r 0
operands_of compares f at r main ports = constant_or_word f main at r
operands_of writes f at r main ports = cond (eqb f.dsf 6) (write_to (length ports) at r) (write_to (length main) at r)
operands_of skips f at r main ports = Held r 0
operands_of computes f at r main ports =
    cond (eqb f.fsf 12) (Held r 0)
    (cond (eqb f.fsf 2) (constant_or_word f ports at r) (constant_or_word f main at r))

-- ---- execute

-- What is written to a store.
pub data Written : Type 0 where
  Nothing : Written
  Word : Place → ℕ → Written

-- What an operation changes: the machine after it, and the word that it writes.
pub record Change : Type 0 where
  pub machine : Machine
  pub written : Written

abbrev pub with_flags : Machine → Bool → Bool → Machine
with_flags m b stop = record { a = m.a; x = m.x; y = m.y; p = next_p m; b = b; stop = stop }

unfoldable pub delivered : Machine → Fields → ℕ → Triple → Machine
delivered m f n (v, b, s) =
    cond (eqb f.dsf 0) (record { a = v; x = m.x; y = m.y; p = n; b = b; stop = s })
    (cond (eqb f.dsf 1) (record { a = m.a; x = v; y = m.y; p = n; b = b; stop = s })
    (cond (eqb f.dsf 2) (record { a = m.a; x = m.x; y = v; p = n; b = b; stop = s })
    (cond (eqb f.fsf 1) (record { a = m.a; x = m.x; y = n; p = v % 2 ^ 20; b = b; stop = s })
    (record { a = m.a; x = m.x; y = m.y; p = v % 2 ^ 20; b = b; stop = s }))))

abbrev pub alone : Machine → Change
alone m = record { machine = m; written = Nothing }

unfoldable pub executed : Part → Fields → ℕ → Machine → ℕ → ℕ → Change
executed stopped f at m r v = alone m
executed halts f at m r v = alone (with_flags m m.b true)
executed compares f at m r v = alone (with_flags m (COMPARE (f.fsf, r, v, m.b)) false)
executed writes f at m r v = record { machine = with_flags m m.b false; written = Word (place_by (eqb f.dsf 6) at) r }
executed skips f at m r v = alone (with_flags m m.b false)
executed computes f at m r v = alone (delivered m f (next_p m) (ALU (f.fsf, f.msf, f.dsf, r, v, m.b)))

-- ---- the four phases together: what a step changes, by the report's NEXT, or that it wants a word that is not fitted

pub data Plan : Type 0 where
  Go : Change → Plan
  Lacking : Plan

abbrev pub lacks : Mem → Maybe Where → Bool
lacks ram none = false
lacks ram (some q) = not (fitted ram q)

-- Refusal 5 in a step: the word at P, the word read or the word written is not fitted.
unfoldable pub step_unfitted : State → Bool
step_unfitted s = lacks s.0 (some (false, s.1)) || (lacks s.0 (reads s) || lacks s.0 (written s))

-- The word at a place, as what is to be written there.
abbrev pub writing : Maybe Where → Mem → Written
writing none ram = Nothing
writing (some q) ram = Word (place_of q) (word_at ram q)

abbrev pub change_of : State → Change
change_of s = record { machine = machine_of (NEXT s); written = writing (written s) (NEXT s).0 }

unfoldable pub planned : State → Plan
planned s = cond (step_unfitted s) Lacking (Go (change_of s))
