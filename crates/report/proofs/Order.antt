-- The report's NEXT is document 01's step in parts, on words in range: `next_by_parts`, at the end.
-- NEXT is unfolded once and its functions read in arithmetic; its tests on the fields are document 01's at each of the 1,024 classes; then each part's state is compared.
-- Assumes nothing.
use mathlib.Core.Path.{◌≡◌, refl, sym, ap, ◌∙◌}
use mathlib.Core.Bool.{Bool, true, false, not, cond, ◌&&◌, ◌||◌, or-false, and-true, true≢false}
use Prim.Native.Nat.{ℕ, ◌+◌, ◌-◌, ◌/◌, ◌%◌, ◌^◌, ◌<◌}
use native.Mathlib.Omega.{arith}
use lib.Dec.{eqb, leb}
use lib.ListN.{get_or}
use borrow.Author.Tests.{eq-eqb, ne_eqb, le-leb, lt-leb}
use Rattle.report.specs.AnnexA.{SEG, «V», BITS, Mem}
use Rattle.report.specs.Section3.{State, NEXT, WRITE, NILM, NOOP, SPAREFUNC, ILLEGALCALL, ILLEGALPDEST, ILLEGALWRITE, OUTPUT, INPUT}
use Rattle.report.specs.Parts.{rsf, msf, dsf, csf, fsf, addr, source, address, bad, top, comparison, write, output, input, shift, skip, always_halts, of, compared, computed, word_at, with_word, place_by, operand, placed, to_p, Part, halts, compares, writes, skips, computes, part_by, after_by, after, InRange}
use Rattle.report.proofs.Bits.{by_le, v_seg}
use Rattle.report.proofs.Words.{trim32_is}
use Rattle.report.proofs.Readings.{incp_is, invalid_is, offset_is, instfetch_is, memread_is, memwrite_is, reg_is, compare_is, alu_is}
use Rattle.report.proofs.Finite.{over}

-- ---- the fields of a word, as NEXT takes them

field_is : (i j w : ℕ) → j < 32 → «V» (SEG (i, j) (BITS 32 w)) % 2 ^ (j + 1 - i) ≡ w / 2 ^ i % 2 ^ (j + 1 - i) % 2 ^ (j + 1 - i)
field_is i j w h = ap (λ (v : ℕ). v % 2 ^ (j + 1 - i)) (v_seg i j 32 w h)

rsf_is : (w : ℕ) → «V» (SEG (30, 31) (BITS 32 w)) % 2 ^ 2 ≡ rsf w
rsf_is w = field_is 30 31 w (omega arith) ∙ omega arith

msf_is : (w : ℕ) → «V» (SEG (28, 29) (BITS 32 w)) % 2 ^ 2 ≡ msf w
msf_is w = field_is 28 29 w (omega arith) ∙ omega arith

dsf_is : (w : ℕ) → «V» (SEG (25, 27) (BITS 32 w)) % 2 ^ 3 ≡ dsf w
dsf_is w = field_is 25 27 w (omega arith) ∙ omega arith

csf_is : (w : ℕ) → «V» (SEG (24, 24) (BITS 32 w)) % 2 ^ 1 ≡ csf w
csf_is w = field_is 24 24 w (omega arith) ∙ omega arith

fsf_is : (w : ℕ) → «V» (SEG (20, 23) (BITS 32 w)) % 2 ^ 4 ≡ fsf w
fsf_is w = field_is 20 23 w (omega arith) ∙ omega arith

addr_is : (w : ℕ) → «V» (SEG (0, 19) (BITS 32 w)) % 2 ^ 20 ≡ addr w
addr_is w = field_is 0 19 w (omega arith) ∙ omega arith

-- ---- the report's tests on the fields are document 01's, at every word

pub nilm_is : (w : ℕ) → NILM (dsf w, csf w, fsf w) ≡ of shift w
unfolding NILM
nilm_is w = over (λ m d c f. NILM (d, c, f)) shift tt w

pub write_is : (w : ℕ) → WRITE (dsf w, csf w) ≡ of write w
unfolding WRITE
write_is w = over (λ m d c f. WRITE (d, c)) write tt w

pub output_is : (w : ℕ) → OUTPUT (dsf w, csf w) ≡ of output w
unfolding OUTPUT
output_is w = over (λ m d c f. OUTPUT (d, c)) output tt w

pub input_is : (w : ℕ) → INPUT (dsf w, csf w, fsf w) ≡ of input w
unfolding INPUT
input_is w = over (λ m d c f. INPUT (d, c, f)) input tt w

pub noop_is : (w : ℕ) (b : Bool) → NOOP (dsf w, csf w, b) ≡ of (skip b) w
unfolding NOOP
noop_is w true = over (λ m d c f. NOOP (d, c, true)) (skip true) tt w
noop_is w false = over (λ m d c f. NOOP (d, c, false)) (skip false) tt w

pub illegal_is : (w : ℕ)
    → ((ILLEGALCALL (dsf w, csf w, fsf w) || SPAREFUNC (dsf w, csf w, fsf w)) || (ILLEGALPDEST (dsf w, csf w, fsf w) || ILLEGALWRITE (dsf w, csf w, msf w))) ≡ of always_halts w
unfolding ILLEGALCALL SPAREFUNC ILLEGALPDEST ILLEGALWRITE WRITE
illegal_is w =
    over (λ m d c f. (ILLEGALCALL (d, c, f) || SPAREFUNC (d, c, f)) || (ILLEGALPDEST (d, c, f) || ILLEGALWRITE (d, c, m))) always_halts tt w

-- no comparison reads or writes a port; a write is no input; what is no write is no output; a write with msf 0 always halts
compare_no_io : (w : ℕ) → (of comparison w && (of output w || of input w)) ≡ false
compare_no_io w = over (λ m d c f. comparison m d c f && (output m d c f || input m d c f)) (λ m d c f. false) tt w

write_no_input : (w : ℕ) → (of write w && of input w) ≡ false
write_no_input w = over (λ m d c f. write m d c f && input m d c f) (λ m d c f. false) tt w

output_writes : (w : ℕ) → (not (of write w) && of output w) ≡ false
output_writes w = over (λ m d c f. not (write m d c f) && output m d c f) (λ m d c f. false) tt w

no_compare : (w : ℕ) → eqb (csf w) 0 ≡ not (of comparison w)
no_compare w = over (λ m d c f. eqb c 0) (λ m d c f. not (comparison m d c f)) tt w

constant_write : (w : ℕ) → (of write w && (eqb (msf w) 0 && not (of always_halts w))) ≡ false
constant_write w = over (λ m d c f. write m d c f && (eqb m 0 && not (always_halts m d c f))) (λ m d c f. false) tt w

-- ---- numbers in range

chosen : (t : Bool) (u v : ℕ) → u < 2 ^ 32 → v < 2 ^ 32 → cond t u v < 2 ^ 32
chosen true u v h k = h
chosen false u v h k = k

pub source_lt : (rf a x y n : ℕ) → a < 2 ^ 32 → x < 2 ^ 32 → y < 2 ^ 32 → n < 2 ^ 32 → source rf a x y n < 2 ^ 32
unfolding source
source_lt rf a x y n ha hx hy hn =
    chosen (eqb rf 0) a _ ha (chosen (eqb rf 1) x _ hx (chosen (eqb rf 2) y n hy hn))

pub operand_lt : (ram : Mem) (nil io : Bool) (w x y : ℕ) → ((k : ℕ) → get_or ram.main k 0 < 2 ^ 32) → ((k : ℕ) → get_or ram.ports k 0 < 2 ^ 32)
    → operand ram nil io w x y < 2 ^ 32
unfolding operand word_at
operand_lt ram nil io w x y hm hp =
    let i = address (msf w) (addr w) x y % 2 ^ 20 in
    chosen nil 0 _ (omega arith) (chosen (eqb (msf w) 0) (addr w) _ (omega arith) (chosen io _ _ (hp i) (hm i)))

pub top_is : (p : ℕ) → p < 2 ^ 20 → leb (2 ^ 20) (p + 1) ≡ top p
top_is p h =
    by_le (2 ^ 20) (p + 1)
    (λ g. le-leb (2 ^ 20) (p + 1) g ∙ sym (eq-eqb p 0xFFFFF (omega arith)))
    (λ g. lt-leb (2 ^ 20) (p + 1) g ∙ sym (ne_eqb p 0xFFFFF (omega arith)))

-- ---- part by part

-- a choice of states is the state of the chosen part
choice : (h c w k : Bool) {A : Type 0} (f : Part → A) (s₂ s₃ s₄ s₅ s₆ : A)
    → s₂ ≡ f halts
    → (c ≡ true → s₃ ≡ f compares)
    → (h ≡ false → w ≡ true → s₄ ≡ f writes)
    → s₅ ≡ f skips
    → (c ≡ false → w ≡ false → s₆ ≡ f computes)
    → cond h s₂ (cond c s₃ (cond w s₄ (cond k s₅ s₆))) ≡ f (cond h halts (cond c compares (cond w writes (cond k skips computes))))
choice true c w k f s₂ s₃ s₄ s₅ s₆ e₂ e₃ e₄ e₅ e₆ = e₂
choice false true w k f s₂ s₃ s₄ s₅ s₆ e₂ e₃ e₄ e₅ e₆ = e₃ refl
choice false false true k f s₂ s₃ s₄ s₅ s₆ e₂ e₃ e₄ e₅ e₆ = e₄ refl refl
choice false false false true f s₂ s₃ s₄ s₅ s₆ e₂ e₃ e₄ e₅ e₆ = e₅
choice false false false false f s₂ s₃ s₄ s₅ s₆ e₂ e₃ e₄ e₅ e₆ = e₆ refl refl

-- the order of the tests in one disjunction
regroup : (t n d k a : Bool) → ((t || (not n && (d && not k))) || a) ≡ (t || ((d && (not n && not k)) || a))
regroup true n d k a = refl
regroup false true true k a = refl
regroup false true false k a = refl
regroup false false true k a = refl
regroup false false false k a = refl

halts_no : (t g a : Bool) → (t || (g || a)) ≡ false → a ≡ false
halts_no true g a e = absurd (true≢false e)
halts_no false true a e = absurd (true≢false e)
halts_no false false a e = e

-- part 1: the report keeps the state
pub stays : (ram : Mem) (p a x y : ℕ) (b : Bool) → NEXT (ram, p, a, x, y, b, true) ≡ after (ram, p, a, x, y, b, true)
unfolding NEXT part_by after_by
stays ram p a x y b = refl

module _ (ram : Mem) (p a x y : ℕ) (b : Bool) (hp : p < 2 ^ 20) (ha : a < 2 ^ 32) (hx : x < 2 ^ 32) (hy : y < 2 ^ 32)
    (hm : (k : ℕ) → get_or ram.main k 0 < 2 ^ 32) (hq : (k : ℕ) → get_or ram.ports k 0 < 2 ^ 32) where
  abbrev w : ℕ
  w = get_or ram.main p 0

  abbrev n : ℕ
  n = (p + 1) % 2 ^ 20

  abbrev r : ℕ
  r = source (rsf w) a x y n

  abbrev io : Bool
  io = of output w || of input w

  -- NEXT, with each of its functions in arithmetic and its tests in document 01's words
  plain : NEXT (ram, p, a, x, y, b, false)
      ≡ cond ((top p || (not (of shift w) && (bad (address (msf w) (addr w) x y) && not (of (skip b) w)))) || of always_halts w) (ram, n, a, x, y, b, true)
      (cond (of comparison w) (ram, n, a, x, y, compared (fsf w) r (operand ram false io w x y) b, false)
      (cond (of write w) (cond (eqb (msf w) 0) ram (with_word ram (place_by io w x y) r), n, a, x, y, b, false)
      (cond (of (skip b) w) (ram, n, a, x, y, b, false)
      (let t = computed (fsf w) (msf w) (to_p (dsf w)) r (operand ram (of shift w) io w x y) b in
      cond (eqb (dsf w) 0) (ram, n, t.0, x, y, t.1, t.2)
      (cond (eqb (dsf w) 1) (ram, n, a, t.0, y, t.1, t.2)
      (cond (eqb (dsf w) 2) (ram, n, a, x, t.0, t.1, t.2)
      (cond (eqb (csf w) 0 && eqb (fsf w) 1) (ram, t.0 % 2 ^ 20, a, x, p + 1, t.1, t.2)
      (ram, t.0 % 2 ^ 20, a, x, y, t.1, t.2))))))))
  unfolding NEXT
  plain =
      let hn : n < 2 ^ 20 = omega arith in
      let hr : r < 2 ^ 32 = source_lt (rsf w) a x y n ha hx hy (omega arith) in
      let h : addr w < 2 ^ 20 = omega arith in
      let hf : fsf w < 16 = omega arith in
      let m₃ = operand ram false io w x y in
      let m₆ = operand ram (of shift w) io w x y in
      let h₃ : m₃ < 2 ^ 32 = operand_lt ram false io w x y hm hq in
      let h₆ : m₆ < 2 ^ 32 = operand_lt ram (of shift w) io w x y hm hq in
      simp (
        instfetch_is ram p hp,
        rsf_is w,
        msf_is w,
        dsf_is w,
        csf_is w,
        fsf_is w,
        addr_is w,
        nilm_is w,
        write_is w,
        output_is w,
        input_is w,
        noop_is w b,
        illegal_is w,
        incp_is p hp,
        trim32_is,
        invalid_is,
        top_is p hp,
        offset_is (msf w) (addr w) x y h hx hy,
        reg_is (rsf w) a x y n hn,
        memread_is ram w x y hx hy,
        memwrite_is ram w x y hx hy,
        compare_is (fsf w) r m₃ b hf hr h₃,
        alu_is (fsf w) (msf w) (dsf w) r m₆ b hr h₆,
      )

  compares_is : of comparison w ≡ true → (ram, n, a, x, y, compared (fsf w) r (operand ram false io w x y) b, false) ≡ after_by compares w (ram, p, a, x, y, b, false)
  unfolding after_by
  compares_is c = let e : io ≡ false = rw c at (compare_no_io w) in rw e

  writes_is : of always_halts w ≡ false → of write w ≡ true
      → (cond (eqb (msf w) 0) ram (with_word ram (place_by io w x y) r), n, a, x, y, b, false) ≡ after_by writes w (ram, p, a, x, y, b, false)
  unfolding after_by
  writes_is h c =
      let z : eqb (msf w) 0 ≡ false = sym (and-true (eqb (msf w) 0)) ∙ rw (c, h) at (constant_write w) in
      let i : of input w ≡ false = rw c at (write_no_input w) in
      rw (z, i, or-false)

  computes_is : of comparison w ≡ false → of write w ≡ false
      → (let t = computed (fsf w) (msf w) (to_p (dsf w)) r (operand ram (of shift w) io w x y) b in
      cond (eqb (dsf w) 0) (ram, n, t.0, x, y, t.1, t.2)
      (cond (eqb (dsf w) 1) (ram, n, a, t.0, y, t.1, t.2)
      (cond (eqb (dsf w) 2) (ram, n, a, x, t.0, t.1, t.2)
      (cond (eqb (csf w) 0 && eqb (fsf w) 1) (ram, t.0 % 2 ^ 20, a, x, p + 1, t.1, t.2)
      (ram, t.0 % 2 ^ 20, a, x, y, t.1, t.2))))) ≡ after_by computes w (ram, p, a, x, y, b, false)
  unfolding after_by placed
  computes_is c v =
      let o : of output w ≡ false = rw v at (output_writes w) in
      let z : eqb (csf w) 0 ≡ true = rw c at (no_compare w) in
      rw (o, z)

  going : NEXT (ram, p, a, x, y, b, false) ≡ after (ram, p, a, x, y, b, false)
  unfolding part_by after_by
  going =
      let t = top p in
      let d = bad (address (msf w) (addr w) x y) in
      let g = d && (not (of shift w) && not (of (skip b) w)) in
      let h : Bool = t || (g || of always_halts w) in
      plain
      ∙ (rw (regroup t (of shift w) d (of (skip b) w) (of always_halts w))
      (choice h (of comparison w) (of write w) (of (skip b) w) (λ k. after_by k w (ram, p, a, x, y, b, false)) _ _ _ _ _
      refl
      compares_is
      (λ e c. writes_is (halts_no t g (of always_halts w) e) c)
      refl
      computes_is))

  by_stop : (stop : Bool) → NEXT (ram, p, a, x, y, b, stop) ≡ after (ram, p, a, x, y, b, stop)
  by_stop false = going
  by_stop true = stays ram p a x y b

-- THE ORDER IN A STEP. The report's next state is the one that document 01's parts give.
pub next_by_parts : (s : State) → InRange s → NEXT s ≡ after s
next_by_parts s h = by_stop s.0 s.1 s.2 s.3 s.4 s.5 h.p_lt h.a_lt h.x_lt h.y_lt h.main_lt h.ports_lt s.6
