-- Pages 12 to 16: COMPARE, INCP32, INVALID, OFFSET, REG, the reads and writes of memory and the ALU, each in document 01's arithmetic.
-- Each is the function unfolded, with Annex B and the dictionary of bits read at its words.
-- Assumes nothing.
use mathlib.Core.Path.{◌≡◌, refl, sym, ap, ◌∙◌}
use mathlib.Core.Bool.{Bool, true, false, not, cond, ◌||◌, beq}
use Prim.Native.Nat.{ℕ, ◌+◌, ◌-◌, ◌*◌, ◌/◌, ◌%◌, ◌^◌, ◌<◌}
use native.Mathlib.Nat.{mod-eq_of_lt}
use native.Mathlib.Omega.{arith}
use lib.Dec.{eqb, ltb}
use lib.ListN.{get_or}
use lib.Bits.{bit_and, bit_or, bit_xor, and_lt, or_lt}
use borrow.Author.Tests.{eq-eqb, ne_eqb, le-leb, lt-leb}
use Rattle.report.specs.AnnexA.{EL, «V», BV, BITS, CONS, NOT32, ◌AND32◌, ◌OR32◌, Mem, FETCH21, STORE21}
use Rattle.report.specs.Section3.{Triple, PAD20TO32, INCP32, COMPARE, REG, OFFSET, INVALID, INSTFETCH, MEMREAD, MEMWRITE, ALU}
use Rattle.report.specs.Parts.{less, bad, msf, addr, address, source, word_at, with_word, place_by, operand, to_p, shifted, computed, compared, compared_by}
use Rattle.report.proofs.Bits.{by_le, bit_small, v_cons, el_bits, el_0, el_31, el_32_34}
use Rattle.report.proofs.Words.{extended, trim32_is, pad_is, signext_is, signext_lt, neg_is, right_is, rightarith_is, left_is, not32_is, and32_is, or32_is}
use Rattle.report.proofs.ExclusiveOr.{xor_by}
use Rattle.report.proofs.AnnexB.{add_is, sub_is, sub_borrow, sub_less}
use Rattle.report.proofs.Finite.{same, below, flags, flag}

-- ---- COMPARE

-- the sixteen tests of COMPARE, by the number of the function, on what it finds less, equal and borrow
unfoldable pub tests : ℕ → Bool → Bool → Bool → Bool → Bool
tests op lt eq borrowed b =
    cond (eqb op 0) lt
    (cond (eqb op 1) (not lt)
    (cond (eqb op 2) eq
    (cond (eqb op 3) (not eq)
    (cond (eqb op 4) (lt || eq)
    (cond (eqb op 5) (not (lt || eq))
    (cond (eqb op 6) borrowed
    (cond (eqb op 7) (not borrowed)
    (cond (eqb op 8) (lt || b)
    (cond (eqb op 9) (not lt || b)
    (cond (eqb op 10) (eq || b)
    (cond (eqb op 11) (not eq || b)
    (cond (eqb op 12) ((lt || eq) || b)
    (cond (eqb op 13) (not (lt || eq) || b)
    (cond (eqb op 14) (borrowed || b)
    (not borrowed || b)))))))))))))))

-- 8 to 15 are 0 to 7 with the old B: computed over the numbers and the flags
agree : ℕ → Bool
agree k = flags (λ lt. flags (λ eq. flags (λ u. flags (λ b. beq (tests k lt eq u b) (compared_by k lt eq u b)))))

pub tests_are : (k : ℕ) → k < 16 → (lt eq u b : Bool) → tests k lt eq u b ≡ compared_by k lt eq u b
unfolding tests agree
tests_are k h lt eq u b =
    same _ _
    (flag (λ b. beq (tests k lt eq u b) (compared_by k lt eq u b))
    (flag (λ u. flags (λ b. beq (tests k lt eq u b) (compared_by k lt eq u b)))
    (flag (λ eq. flags (λ u. flags (λ b. beq (tests k lt eq u b) (compared_by k lt eq u b))))
    (flag (λ lt. flags (λ eq. flags (λ u. flags (λ b. beq (tests k lt eq u b) (compared_by k lt eq u b))))) (below agree 16 tt k h) lt)
    eq)
    u)
    b)

compare_tests : (ff r m : ℕ) (b : Bool) → r < 2 ^ 32 → m < 2 ^ 32 → COMPARE (ff, r, m, b) ≡ tests ff (less r m) (eqb r m) (ltb r m) b
unfolding COMPARE tests
compare_tests ff r m b hr hm =
    rw (← sub_less r m hr hm, ← sub_borrow r m hr hm)
    (simp (signext_is r hr, signext_is m hm, neg_is (extended m) (signext_lt m hm), el_31, el_32_34))

-- the test of number n, on what the orders of r and m say, is COMPARE of that function
pub by_test : (r m : ℕ) → r < 2 ^ 32 → m < 2 ^ 32 → (ff n : ℕ) (b l : Bool) → ff ≡ n → l ≡ less r m → tests n l (eqb r m) (ltb r m) b ≡ COMPARE (ff, r, m, b)
by_test r m hr hm ff n b l e h = rw (h, ← e) (sym (compare_tests ff r m b hr hm))

pub compare_is : (ff r m : ℕ) (b : Bool) → ff < 16 → r < 2 ^ 32 → m < 2 ^ 32 → COMPARE (ff, r, m, b) ≡ compared ff r m b
unfolding compared
compare_is ff r m b h hr hm = compare_tests ff r m b hr hm ∙ tests_are ff h (less r m) (eqb r m) (ltb r m) b

-- ---- addresses

pub incp_is : (p : ℕ) → p < 2 ^ 20 → INCP32 p ≡ p + 1
unfolding INCP32
incp_is p h = rw (pad_is p h, add_is p 1 (omega arith) (omega arith)) (omega arith)

pub invalid_is : (v : ℕ) → INVALID v ≡ bad v
unfolding INVALID PAD20TO32
invalid_is v =
    by_le (2 ^ 20) v
    (λ h. rw (trim32_is v) (ap not (ne_eqb v (v % 2 ^ 20 % 2 ^ 32) (omega arith)) ∙ sym (le-leb (2 ^ 20) v h)))
    (λ h. rw (trim32_is v) (ap not (eq-eqb v (v % 2 ^ 20 % 2 ^ 32) (omega arith)) ∙ sym (lt-leb (2 ^ 20) v h)))

pub offset_is : (mf ad x y : ℕ) → ad < 2 ^ 20 → x < 2 ^ 32 → y < 2 ^ 32 → OFFSET (mf, ad, x, y) ≡ address mf ad x y
unfolding OFFSET address
offset_is mf ad x y h hx hy =
    let k : ad < 2 ^ 32 = omega arith in
    simp (pad_is ad h, add_is ad x k hx, add_is ad y k hy)

pub reg_is : (rf a x y p : ℕ) → p < 2 ^ 20 → REG (rf, a, x, y, p) ≡ source rf a x y p
unfolding REG source
reg_is rf a x y p h = rw (pad_is p h)

-- ---- memory

-- the address of 21 bits: bit 20 is io, and the rest the address
io_bit : (io : Bool) (a : ℕ) → a < 2 ^ 20 → EL 20 (BITS 21 ((BV io * 2 ^ 20 + a) % 2 ^ 21)) ≡ io
io_bit true a h = el_bits 20 21 ((2 ^ 20 + a) % 2 ^ 21) (omega arith) ∙ eq-eqb ((2 ^ 20 + a) % 2 ^ 21 / 2 ^ 20 % 2) 1 (omega arith)
io_bit false a h = el_bits 20 21 ((0 + a) % 2 ^ 21) (omega arith) ∙ ne_eqb ((0 + a) % 2 ^ 21 / 2 ^ 20 % 2) 1 (omega arith)

low_20 : (io : Bool) (a : ℕ) → a < 2 ^ 20 → (BV io * 2 ^ 20 + a) % 2 ^ 21 % 2 ^ 20 ≡ a
low_20 io a h = omega (arith, bit_small io)

mod_20 : (a : ℕ) → a % 2 ^ 20 < 2 ^ 20
mod_20 a = omega arith

fetch_is : (ram : Mem) (io : Bool) (a : ℕ) → a < 2 ^ 20 → FETCH21 ram («V» (CONS io (BITS 20 a)) % 2 ^ 21) ≡ word_at ram (io, a)
unfolding FETCH21 word_at
fetch_is ram io a h = rw (v_cons io 20 a, mod-eq_of_lt h, io_bit io a h, low_20 io a h)

store_is : (ram : Mem) (io : Bool) (a v : ℕ) → a < 2 ^ 20 → STORE21 («V» (CONS io (BITS 20 a)) % 2 ^ 21) v ram ≡ with_word ram (io, a) v
unfolding STORE21 with_word
store_is ram io a v h = rw (v_cons io 20 a, mod-eq_of_lt h, io_bit io a h, low_20 io a h)

pub instfetch_is : (ram : Mem) (p : ℕ) → p < 2 ^ 20 → INSTFETCH (ram, p) ≡ get_or ram.main p 0
unfolding INSTFETCH word_at
instfetch_is ram p h = fetch_is ram false p h

module _ (ram : Mem) (w x y : ℕ) (hx : x < 2 ^ 32) (hy : y < 2 ^ 32) where
  trimmed : ℕ
  trimmed = address (msf w) (addr w) x y % 2 ^ 20

  pub memread_is : (io nil : Bool) → MEMREAD (ram, msf w, addr w, x, y, io, nil) ≡ operand ram nil io w x y
  unfolding MEMREAD operand trimmed
  memread_is io nil =
      let h : addr w < 2 ^ 20 = omega arith in
      rw (pad_is (addr w) h, offset_is (msf w) (addr w) x y h hx hy, trim32_is (address (msf w) (addr w) x y), fetch_is ram io trimmed (mod_20 (address (msf w) (addr w) x y)))

  pub memwrite_is : (v : ℕ) (io : Bool) → MEMWRITE (ram, v, msf w, addr w, x, y, io) ≡ cond (eqb (msf w) 0) ram (with_word ram (place_by io w x y) v)
  unfolding MEMWRITE trimmed
  memwrite_is v io =
      let h : addr w < 2 ^ 20 = omega arith in
      rw (offset_is (msf w) (addr w) x y h hx hy, trim32_is (address (msf w) (addr w) x y), store_is ram io trimmed v (mod_20 (address (msf w) (addr w) x y)))

-- ---- the ALU

xor32_is : (r m : ℕ) → r < 2 ^ 32 → m < 2 ^ 32 → (r OR32 m) AND32 (NOT32 (r AND32 m)) ≡ bit_xor r m
xor32_is r m hr hm =
    let k : bit_and r m < 2 ^ 32 = and_lt 32 r m hr hm in
    rw (or32_is r m hr hm, and32_is r m hr hm, not32_is (bit_and r m) k, and32_is (bit_or r m) (2 ^ 32 - 1 - bit_and r m) (or_lt 32 r m hr hm) (omega arith))
    (sym (xor_by 32 r m hr hm))

either : (t : Bool) (x : Triple) → cond t x x ≡ x
either true x = refl
either false x = refl

low_is : (r : ℕ) → r / 2 ^ 0 % 2 ≡ r % 2
low_is r = omega arith

pub alu_is : (ff mf df r m : ℕ) (b : Bool) → r < 2 ^ 32 → m < 2 ^ 32 → ALU (ff, mf, df, r, m, b) ≡ computed ff mf (to_p df) r m b
unfolding ALU computed shifted
alu_is ff mf df r m b hr hm =
    let n : 2 ^ 32 - 1 - m < 2 ^ 32 = omega arith in
    let o : bit_or r m < 2 ^ 32 = or_lt 32 r m hr hm in
    rw (xor32_is r m hr hm)
    (simp (
      or32_is r m hr hm,
      not32_is (bit_or r m) o,
      not32_is m hm,
      and32_is r m hr hm,
      and32_is r (2 ^ 32 - 1 - m) hr n,
      invalid_is,
      add_is r m hr hm,
      sub_is r m hr hm,
      add_is r r hr hr,
      rightarith_is r hr,
      right_is b r hr,
      left_is r b,
      el_0,
      el_31,
      low_is r,
      either,
    ))
