-- NEXT keeps P below 2^20 and every register and word below 2^32: each is one that was there, or a result taken modulo its width.
-- Assumes nothing.
use mathlib.Core.Bool.{Bool, true, false, cond}
use mathlib.Core.List.{List, [], ◌∷◌}
use Prim.Native.Nat.{ℕ, zero, suc, ◌+◌, ◌-◌, ◌%◌, ◌^◌, ◌<◌}
use native.Mathlib.Omega.{arith}
use lib.Dec.{eqb}
use lib.ListN.{get_or, set}
use lib.Bits.{and_lt, xor_lt}
use Rattle.report.specs.AnnexA.{Mem}
use Rattle.report.specs.Section3.{State, Triple, NEXT}
use Rattle.report.specs.Parts.{Where, with_word, rsf, msf, dsf, fsf, source, top_bit, shifted, computed, to_p, of, shift, input, output, Part, stopped, halts, compares, writes, skips, computes, part, word, after_by, placed, place_by, operand, InRange}
use Rattle.report.proofs.Bits.{bit_small}
use Rattle.report.proofs.Order.{next_by_parts, source_lt, operand_lt}

-- ---- words of a store

set_words : (l : List ℕ) (i v : ℕ) → ((k : ℕ) → get_or l k 0 < 2 ^ 32) → v < 2 ^ 32 → (k : ℕ) → get_or (set l i v) k 0 < 2 ^ 32
set_words [] i v h hv k = h k
set_words (x ∷ l) zero v h hv zero = hv
set_words (x ∷ l) zero v h hv (suc k) = h (suc k)
set_words (x ∷ l) (suc i) v h hv zero = h zero
set_words (x ∷ l) (suc i) v h hv (suc k) = set_words l i v (λ j. h (suc j)) hv k

pub put_main : (r : Mem) (q : Where) (v : ℕ) → ((k : ℕ) → get_or r.main k 0 < 2 ^ 32) → v < 2 ^ 32 → (k : ℕ) → get_or (with_word r q v).main k 0 < 2 ^ 32
unfolding with_word
put_main r (true, n) v h hv = h
put_main r (false, n) v h hv = set_words r.main n v h hv

pub put_ports : (r : Mem) (q : Where) (v : ℕ) → ((k : ℕ) → get_or r.ports k 0 < 2 ^ 32) → v < 2 ^ 32 → (k : ℕ) → get_or (with_word r q v).ports k 0 < 2 ^ 32
unfolding with_word
put_ports r (true, n) v h hv = set_words r.ports n v h hv
put_ports r (false, n) v h hv = h

-- ---- results

-- a choice of two triples
pick_lt : (t : Bool) (x y : Triple) → x.0 < 2 ^ 32 → y.0 < 2 ^ 32 → (cond t x y).0 < 2 ^ 32
pick_lt true x y h k = h
pick_lt false x y h k = k

shifted_lt : (mf : ℕ) (pw : Bool) (r : ℕ) (b : Bool) → r < 2 ^ 32 → (shifted mf pw r b).0 < 2 ^ 32
unfolding shifted
shifted_lt mf pw r b h =
    pick_lt (eqb mf 0) _ _ (omega (arith, bit_small (top_bit r)))
    (pick_lt (eqb mf 1) _ _ (omega (arith, bit_small b))
    (pick_lt (eqb mf 2) _ _ (omega arith) (omega arith)))

computed_lt : (ff mf : ℕ) (pw : Bool) (r m : ℕ) (b : Bool) → r < 2 ^ 32 → m < 2 ^ 32 → (computed ff mf pw r m b).0 < 2 ^ 32
unfolding computed
computed_lt ff mf pw r m b hr hm =
    let n : 2 ^ 32 - 1 - m < 2 ^ 32 = omega arith in
    pick_lt (eqb ff 0) _ _ n
    (pick_lt (eqb ff 1) _ _ hm
    (pick_lt (eqb ff 2) _ _ hm
    (pick_lt (eqb ff 3) _ _ hm
    (pick_lt (eqb ff 4) _ _ (omega arith)
    (pick_lt (eqb ff 5) _ _ (omega arith)
    (pick_lt (eqb ff 6) _ _ (omega arith)
    (pick_lt (eqb ff 7) _ _ (omega arith)
    (pick_lt (eqb ff 8) _ _ (xor_lt 32 r m hr hm)
    (pick_lt (eqb ff 9) _ _ (and_lt 32 r m hr hm)
    (pick_lt (eqb ff 10) _ _ (omega arith)
    (pick_lt (eqb ff 11) _ _ (and_lt 32 r (2 ^ 32 - 1 - m) hr n)
    (pick_lt (eqb ff 12) _ _ (shifted_lt mf pw r b hr) hr))))))))))))

-- ---- the state after each part

placed_range : (df ff : ℕ) (s : State) (t : Triple) → InRange s → t.0 < 2 ^ 32 → InRange (placed df ff s.0 s.1 s.2 s.3 s.4 t)
unfolding placed
placed_range df ff (r, p, a, x, y, b₀, s₀) (v, b, s) g h = go (eqb df 0) (eqb df 1) (eqb df 2) (eqb ff 1)
  where
    with : (p' a' x' y' : ℕ) → p' < 2 ^ 20 → a' < 2 ^ 32 → x' < 2 ^ 32 → y' < 2 ^ 32 → InRange (r, p', a', x', y', b, s)
    with p' a' x' y' hp ha hx hy = record { p_lt = hp; a_lt = ha; x_lt = hx; y_lt = hy; main_lt = g.main_lt; ports_lt = g.ports_lt }

    go : (t₀ t₁ t₂ t₃ : Bool)
        → InRange (cond t₀ (r, (p + 1) % 2 ^ 20, v, x, y, b, s) (cond t₁ (r, (p + 1) % 2 ^ 20, a, v, y, b, s) (cond t₂ (r, (p + 1) % 2 ^ 20, a, x, v, b, s) (cond t₃ (r, v % 2 ^ 20, a, x, p + 1, b, s) (r, v % 2 ^ 20, a, x, y, b, s)))))
    go true t₁ t₂ t₃ = with _ _ _ _ (omega arith) h g.x_lt g.y_lt
    go false true t₂ t₃ = with _ _ _ _ (omega arith) g.a_lt h g.y_lt
    go false false true t₃ = with _ _ _ _ (omega arith) g.a_lt g.x_lt h
    go false false false true = with _ _ _ _ (omega arith) g.a_lt g.x_lt (omega (arith, g.p_lt))
    go false false false false = with _ _ _ _ (omega arith) g.a_lt g.x_lt g.y_lt

after_range : (k : Part) (w : ℕ) (s : State) → InRange s → InRange (after_by k w s)
unfolding after_by
after_range stopped w (r, p, a, x, y, b, t) g = g
after_range halts w (r, p, a, x, y, b, t) g =
    record { p_lt = omega arith; a_lt = g.a_lt; x_lt = g.x_lt; y_lt = g.y_lt; main_lt = g.main_lt; ports_lt = g.ports_lt }
after_range compares w (r, p, a, x, y, b, t) g =
    record { p_lt = omega arith; a_lt = g.a_lt; x_lt = g.x_lt; y_lt = g.y_lt; main_lt = g.main_lt; ports_lt = g.ports_lt }
after_range writes w (r, p, a, x, y, b, t) g =
    let v = source (rsf w) a x y ((p + 1) % 2 ^ 20) in
    let hv : v < 2 ^ 32 = source_lt (rsf w) a x y ((p + 1) % 2 ^ 20) g.a_lt g.x_lt g.y_lt (omega arith) in
    let q = place_by (of output w) w x y in
    record { p_lt = omega arith; a_lt = g.a_lt; x_lt = g.x_lt; y_lt = g.y_lt; main_lt = put_main r q v g.main_lt hv; ports_lt = put_ports r q v g.ports_lt hv }
after_range skips w (r, p, a, x, y, b, t) g =
    record { p_lt = omega arith; a_lt = g.a_lt; x_lt = g.x_lt; y_lt = g.y_lt; main_lt = g.main_lt; ports_lt = g.ports_lt }
after_range computes w (r, p, a, x, y, b, t) g =
    let R = source (rsf w) a x y ((p + 1) % 2 ^ 20) in
    let M = operand r (of shift w) (of input w) w x y in
    let hr : R < 2 ^ 32 = source_lt (rsf w) a x y ((p + 1) % 2 ^ 20) g.a_lt g.x_lt g.y_lt (omega arith) in
    let hm : M < 2 ^ 32 = operand_lt r (of shift w) (of input w) w x y g.main_lt g.ports_lt in
    placed_range (dsf w) (fsf w) (r, p, a, x, y, b, t) (computed (fsf w) (msf w) (to_p (dsf w)) R M b) g (computed_lt (fsf w) (msf w) (to_p (dsf w)) R M b hr hm)

pub next_in_range : (s : State) → InRange s → InRange (NEXT s)
next_in_range s g = rw (next_by_parts s g) (after_range (part s) (word s) s g)
