-- A sum and a difference as the report's ADD32 and SUB32, by std's carry and borrow and by the exact number.
-- Assumes nothing.
use Rattle.std.proofs.Common.{◌≡◌, ℕ, ℤ, ◌+◌, ◌-◌, ◌%◌, ◌^◌, ◌<◌, ◌≤◌, ◌+ℤ◌, ◌-ℤ◌, Bool, leb, ltb, arith}
use Rattle.std.specs.Bool.{FalseIff}
use Rattle.std.proofs.lemmas.Bool.Decides.{nat_tests}
use Rattle.report.specs.Section3.{Triple, ADD32, SUB32}
use Rattle.report.specs.Parts.{signed, overflows}
use Rattle.report.proofs.AnnexB.{add_is, sub_is}

carries : (t : Bool) (a b : ℕ) → FalseIff t (a < b) → t ≡ leb b a
carries t a b h = grind (arith, nat_tests)

borrows : (t : Bool) (a b : ℕ) → FalseIff t (b ≤ a) → t ≡ ltb a b
borrows t a b h = grind (arith, nat_tests)

module _ (r m : ℕ) (r_lt : r < 2 ^ 32) (m_lt : m < 2 ^ 32) {v : ℕ} {c o : Bool} {z : ℤ} (over : o ≡ overflows z) where
  pub sum_is_add : v ≡ (r + m) % 2 ^ 32 → FalseIff c (r + m < 2 ^ 32) → z ≡ signed r +ℤ signed m → ◌≡◌ {A = Triple} (v, c, o) (ADD32 (r, m))
  sum_is_add value carry exact = rw (add_is r m r_lt m_lt, over, exact, value, carries c (r + m) (2 ^ 32) carry)

  pub difference_is_sub : (v < 2 ^ 32) → (v + m) % 2 ^ 32 ≡ r → FalseIff c (m ≤ r) → z ≡ signed r -ℤ signed m → ◌≡◌ {A = Triple} (v, c, o) (SUB32 (r, m))
  difference_is_sub low value borrow exact =
      let back : v ≡ (r + (2 ^ 32 - m)) % 2 ^ 32 = omega arith in
      rw (sub_is r m r_lt m_lt, over, exact, back, borrows c r m borrow)
