-- Reading undoes printing: each hex digit has its value again, so k of them make the number again, and no two numbers of k digits have the same digits.
-- Assumes nothing.
use Prim.Native.Nat.{ℕ, zero, suc, ◌+◌, ◌*◌, ◌-◌, ◌/◌, ◌%◌, ◌<◌}
use mathlib.Core.Path.{◌≡◌, refl, ap, sym, ◌∙◌}
use mathlib.Core.Bool.{Bool, true, false}
use mathlib.Core.List.{List, [], ◌∷◌, ◌++◌}
use native.Mathlib.Omega.{arith}
use lib.Dec.{ltb}
use borrow.Author.Tests.{ltb-true, ltb-false, le-leb, lt-leb}
use Rattle.text.specs.Digits.{digit, hex, digit_value, number}
use Rattle.text.proofs.Digits.{sixteens}

pub digit_again : (d : ℕ) → d < 16 → digit_value (digit d) ≡ d
unfolding digit_value
digit_again d h = go (ltb d 10) refl
  where
    go : (t : Bool) → ltb d 10 ≡ t → digit_value (digit d) ≡ d
    go true e =
        let l = ltb-true d 10 e in
        rw (e, le-leb 48 (48 + d) (omega arith), le-leb (48 + d) 57 (omega arith)) (omega arith)
    go false e =
        let l = ltb-false d 10 e in
        rw (
          e,
          le-leb 48 (65 + (d - 10)) (omega arith),
          lt-leb (65 + (d - 10)) 57 (omega arith),
          le-leb 65 (65 + (d - 10)) (omega arith),
          le-leb (65 + (d - 10)) 70 (omega arith),
        ) (omega arith)

number_append : (v : ℕ) (s t : List ℕ) → number v (s ++ t) ≡ number (number v s) t
unfolding number
number_append v [] t = refl
number_append v (b ∷ s) t = number_append (v * 16 + digit_value b) s t

pub number_again : (k n : ℕ) → n < sixteens k → number 0 (hex k n) ≡ n
unfolding hex number
number_again zero n h = omega arith
number_again (suc k) n h =
    let d = digit (n % 16) in
    rw (number_append 0 (hex k (n / 16)) (d ∷ []), number_again k (n / 16) (omega arith), digit_again (n % 16) (omega arith)) (omega arith)

pub same_digits : (k m n : ℕ) → m < sixteens k → n < sixteens k → hex k m ≡ hex k n → m ≡ n
same_digits k m n g h e = sym (number_again k m g) ∙ (ap (number 0) e ∙ number_again k n h)
