-- The lengths of a record in either form.
-- Assumes nothing.
use Prim.Native.Nat.{◌+◌, ◌<◌}
use mathlib.Core.Path.{◌≡◌, refl, ap}
use mathlib.Core.Bool.{Bool, true, false}
use mathlib.Core.List.{[], ◌∷◌}
use native.Mathlib.Omega.{arith}
use lib.ListN.{length, length-append}
use Rattle.report.specs.AnnexA.{BV}
use Rattle.trail.specs.declared.Kind.{Kind}
use Rattle.trail.specs.declared.Kind.TheVariants.{FromOld, Step, Reset, Force, Set}
use Rattle.trail.specs.declared.OldValues.{OldValues}
use Rattle.trail.specs.Numbers.{bytes_if}
use Rattle.trail.specs.Records.{from_marks, body_in, record_in, kind_number}
use Rattle.trail.proofs.NumbersReadBack.{groups_one}

-- A kind's number is below 5, and one byte in the form that has kinds.
pub kind_small : (k : Kind) → kind_number k < 5
kind_small FromOld = omega arith
kind_small Step = omega arith
kind_small Reset = omega arith
kind_small Force = omega arith
kind_small Set = omega arith

kind_length : (kinds : Bool) (k : Kind) → length (bytes_if kinds (kind_number k)) ≡ BV kinds
kind_length true k = ap length (groups_one (kind_number k) (omega (arith, kind_small k)))
kind_length false k = refl

-- A record's length, in the form in which it was read and in the other one.
pub entry_length : (kinds : Bool) (e : OldValues) → length (record_in kinds e) ≡ BV kinds + length (from_marks e) + 1
unfolding record_in
entry_length kinds e =
    omega (arith, kind_length kinds e.kind, length-append (bytes_if kinds (kind_number e.kind)) (from_marks e), length-append (body_in kinds e) (length (body_in kinds e) ∷ []))
