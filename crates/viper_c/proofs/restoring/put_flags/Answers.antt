-- A, X and Y as they are, and the three words of the record.
use mathlib.Core.Path.{◌≡◌}
use mathlib.Core.Bool.{Bool, true, false}
use Prim.Native.Nat.{ℕ, ◌/◌, ◌%◌}
use lib.Dec.{eqb}
use mir.Val.{bool_byte}
use Rattle.viper_c.specs.Surface.{one_or_zero}
use Rattle.viper_c.proofs.restoring.put_flags.Goals as goal

-- The word of a flag is 1 or 0.
word_of : (w : ℕ) (t : Bool) → w ≡ bool_byte t → w ≡ one_or_zero t
word_of w true e = e
word_of w false e = e

pub returns : goal.returns
returns c =
    let o = c.args.o in
    rw (word_of c.from-b.result (eqb (o.marks / 16 % 2) 1) c.from-b.ensures, word_of c.from-stop.result (eqb (o.marks / 32 % 2) 1) c.from-stop.ensures)
