-- Reading undoes printing: a word printed in eight hex digits, with a line feed, is read as that word. Each digit has its value again, so k of them have the number's.
-- Assumes nothing.
use Prim.Native.Nat.{ℕ, zero, suc, ◌+◌, ◌*◌, ◌/◌, ◌%◌, ◌^◌, ◌<◌}
use Prim.Native.Char.{code}
use Rattle.std.specs.Prelude.{Some}
use mathlib.Core.Path.{◌≡◌}
use mathlib.Core.List.{List, ◌∷◌, ◌++◌, append_assoc}
use native.Mathlib.Omega.{arith}
use native.Mathlib.Nat.{zero-add}
use borrow.Author.Tests.{lt-ltb}
use Rattle.text.specs.Digits.{digit, hex}
use Rattle.counter.specs.Routine.{line_after, first_line}
use Rattle.text.proofs.Digits.{sixteens}
use Rattle.text.proofs.ReadBack.{digit_again}

digits_again : (k j n : ℕ) (rest : List ℕ) → n < sixteens k → line_after (k + j) 0 (hex k n ++ rest) ≡ line_after j n rest
unfolding hex
digits_again zero j n rest h =
    let z : n ≡ 0 = omega arith in
    rw (zero-add, z)
digits_again (suc k) j n rest h =
    let d = digit (n % 16) in
    let e : suc k + j ≡ k + suc j = omega arith in
    let v : n / 16 * 16 + n % 16 ≡ n = omega arith in
    let w = digit_again (n % 16) (omega arith) in
    rw (e, append_assoc, digits_again k (suc j) (n / 16) (d ∷ rest) (omega arith), w, lt-ltb (n % 16) 16 (omega arith), v)

pub line_again : (w : ℕ) (rest : List ℕ) → w < 2 ^ 32 → first_line (hex 8 w ++ (code "\n" ∷ rest)) ≡ Some w
line_again w rest h = digits_again 8 0 w (code "\n" ∷ rest) h
