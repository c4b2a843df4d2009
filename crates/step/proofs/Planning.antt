-- The phases in a row give the report's NEXT, or document 01's refusal 5: `phases_plan`, at the end.
-- The part that the word comes to says which words are reached and which state follows; each part is compared once.
-- Assumes nothing.
use mathlib.Core.Path.{◌≡◌, refl, sym, ap, subst, ◌∙◌}
use mathlib.Core.Bool.{Bool, true, false, not, cond, ◌&&◌, ◌||◌, true≢false}
use mathlib.Core.List.{List}
use mathlib.Core.Option.{some}
use Rattle.std.specs.Prelude.{Some, None}
use Prim.Native.Nat.{ℕ, ◌+◌, ◌%◌, ◌^◌, ◌<◌, ◌≤◌}
use native.Mathlib.Omega.{arith}
use native.Mathlib.Nat.{mod-eq_of_lt}
use lib.Dec.{eqb, ltb}
use lib.ListN.{length, get_or}
use lib.Seq.{get_or-set_same}
use borrow.Author.Tests.{eqb-true, eqb-false, ltb-true, ltb-false, lt-ltb, le-ltb, leb-false}
use Rattle.report.specs.AnnexA.{Mem}
use Rattle.report.specs.Section3.{State, Triple, OFFSET, NEXT, COMPARE}
use Rattle.report.specs.Parts.{word_at, with_word, fitted, rsf, msf, dsf, fsf, addr, source, address, bad, top, comparison, write, output, input, shift, skip, always_halts, of, compared, computed, to_p, Part, halts, compares, writes, skips, computes, part_by, place_by, operand, placed, after_by, unless, reads_by, writes_by, reads, written, InRange}
use Rattle.report.proofs.Finite.{over}
use Rattle.report.proofs.Order.{next_by_parts, source_lt, operand_lt}
use Rattle.report.proofs.Readings.{offset_is, reg_is, compare_is, alu_is}
use Rattle.machine.specs.Held.{ram, state, machine_of, place_of}
use Rattle.machine.specs.declared.Machine.{Machine}
use Rattle.instruction.specs.Fields.{Fielded, fields_of}
use Rattle.instruction.proofs.FieldsOf.{fields_are}
use Rattle.instruction.specs.declared.Fields.{Fields}
use Rattle.step.specs.Phases as plan
use Rattle.step.specs.Phases.{Operands, Held, Unfitted, Written, Nothing, Word, Plan, word_in, next_p, source_of, word_from, write_to, operands_of, with_flags, delivered, alone, executed, lacks, step_unfitted, writing, planned}

-- ---- tests that exclude each other, over the 1,024 classes

compare_no_shift : (w : ℕ) → (of comparison w && of shift w) ≡ false
compare_no_shift w = over (λ m d c f. comparison m d c f && shift m d c f) (λ m d c f. false) tt w

compare_no_skip : (b : Bool) (w : ℕ) → (of comparison w && of (skip b) w) ≡ false
compare_no_skip true w = over (λ m d c f. comparison m d c f && skip true m d c f) (λ m d c f. false) tt w
compare_no_skip false w = over (λ m d c f. comparison m d c f && skip false m d c f) (λ m d c f. false) tt w

write_no_shift : (w : ℕ) → (of write w && of shift w) ≡ false
write_no_shift w = over (λ m d c f. write m d c f && shift m d c f) (λ m d c f. false) tt w

write_no_skip : (b : Bool) (w : ℕ) → (of write w && of (skip b) w) ≡ false
write_no_skip true w = over (λ m d c f. write m d c f && skip true m d c f) (λ m d c f. false) tt w
write_no_skip false w = over (λ m d c f. write m d c f && skip false m d c f) (λ m d c f. false) tt w

-- a write goes to a port exactly with dsf 6; what is neither comparison nor write is a shift with fsf 12, and an input with fsf 2
write_output : (w : ℕ) → (of write w && of output w) ≡ (of write w && eqb (dsf w) 6)
write_output w = over (λ m d c f. write m d c f && output m d c f) (λ m d c f. write m d c f && eqb d 6) tt w

rest_shift : (w : ℕ) → (not (of comparison w || of write w) && of shift w) ≡ (not (of comparison w || of write w) && eqb (fsf w) 12)
rest_shift w = over (λ m d c f. not (comparison m d c f || write m d c f) && shift m d c f) (λ m d c f. not (comparison m d c f || write m d c f) && eqb f 12) tt w

rest_input : (w : ℕ) → (not (of comparison w || of write w) && of input w) ≡ (not (of comparison w || of write w) && eqb (fsf w) 2)
rest_input w = over (λ m d c f. not (comparison m d c f || write m d c f) && input m d c f) (λ m d c f. not (comparison m d c f || write m d c f) && eqb f 2) tt w

-- ---- a step that does not halt

no_top : (t g a : Bool) → (t || (g || a)) ≡ false → t ≡ false
no_top true g a e = absurd (true≢false e)
no_top false g a e = refl

no_bad : (t d s k a : Bool) → (t || ((d && (not s && not k)) || a)) ≡ false → s ≡ false → k ≡ false → d ≡ false
no_bad true d s k a e p q = absurd (true≢false e)
no_bad false true true k a e p q = absurd (true≢false p)
no_bad false true false true a e p q = absurd (true≢false q)
no_bad false true false false a e p q = absurd (true≢false e)
no_bad false false s k a e p q = refl

-- ---- small laws

pub word_back : (r : Mem) (io : Bool) (a v : ℕ) → fitted r (io, a) ≡ true → word_at (with_word r (io, a) v) (io, a) ≡ v
unfolding word_at with_word fitted
word_back r true a v h = get_or-set_same r.ports a v 0 (ltb-true a (length r.ports) h)
word_back r false a v h = get_or-set_same r.main a v 0 (ltb-true a (length r.main) h)

-- a result at its destination, as a machine
delivered_is : (m : Machine) (w : ℕ) (r : Mem) (t : Triple) → m.p + 1 < 2 ^ 20
    → machine_of (placed (dsf w) (fsf w) r m.p m.a m.x m.y t) ≡ delivered m (fields_of w) (next_p m) t
unfolding placed delivered
delivered_is m w r (v, b, s) h = go (eqb (dsf w) 0) (eqb (dsf w) 1) (eqb (dsf w) 2) (eqb (fsf w) 1)
  where
    n : ℕ
    n = next_p m

    go : (t₀ t₁ t₂ t₃ : Bool)
        → machine_of
        (cond t₀ (r, n, v, m.x, m.y, b, s)
        (cond t₁ (r, n, m.a, v, m.y, b, s)
        (cond t₂ (r, n, m.a, m.x, v, b, s)
        (cond t₃ (r, v % 2 ^ 20, m.a, m.x, m.p + 1, b, s)
        (r, v % 2 ^ 20, m.a, m.x, m.y, b, s)))))
        ≡ cond t₀ (record { a = v; x = m.x; y = m.y; p = n; b = b; stop = s })
        (cond t₁ (record { a = m.a; x = v; y = m.y; p = n; b = b; stop = s })
        (cond t₂ (record { a = m.a; x = m.x; y = v; p = n; b = b; stop = s })
        (cond t₃ (record { a = m.a; x = m.x; y = n; p = v % 2 ^ 20; b = b; stop = s })
        (record { a = m.a; x = m.x; y = m.y; p = v % 2 ^ 20; b = b; stop = s }))))
    go true t₁ t₂ t₃ = refl
    go false true t₂ t₃ = refl
    go false false true t₃ = refl
    go false false false true = ap (λ (y : ℕ). record { a = m.a; x = m.x; y = y; p = v % 2 ^ 20; b = b; stop = s }) (sym (mod-eq_of_lt h))
    go false false false false = refl

-- a shift does not look at M
shift_has_no_m : (ff mf : ℕ) (pw : Bool) (r v v' : ℕ) (b : Bool) → ff ≡ 12 → computed ff mf pw r v b ≡ computed ff mf pw r v' b
unfolding computed
shift_has_no_m ff mf pw r v v' b e = rw e

-- ---- part by part

-- what the operands give
abbrev pub plan_from : Part → Fields → ℕ → Machine → Operands → Plan
plan_from k f at m (Held r v) = plan.Go (executed k f at m r v)
plan_from k f at m Unfitted = plan.Lacking

module _ (m : Machine) (main ports : List ℕ) (g : InRange (state m (ram main ports))) (live : m.stop ≡ false) (hp : m.p < length main) where
  abbrev board : Mem
  board = ram main ports

  abbrev s : State
  s = state m board

  abbrev w : ℕ
  w = get_or main m.p 0

  abbrev at : ℕ
  at = address (msf w) (addr w) m.x m.y

  abbrev f : Fields
  f = fields_of w

  abbrev r : ℕ
  r = source (rsf w) m.a m.x m.y (next_p m)

  r_is : source_of m f ≡ r
  r_is = reg_is (rsf w) m.a m.x m.y (next_p m) (omega arith)

  r_lt : r < 2 ^ 32
  r_lt = source_lt (rsf w) m.a m.x m.y (next_p m) g.a_lt g.x_lt g.y_lt (omega arith)

  fetches : fitted board (false, m.p) ≡ true
  unfolding fitted
  fetches = lt-ltb m.p (length main) hp

  -- the part of the word at P decides the next state, and which words are reached
  record At (k : Part) : Type 0 where
    next : NEXT s ≡ after_by k w s
    read_is : reads s ≡ reads_by k w m.x m.y
    written_is : written s ≡ writes_by k w m.x m.y

  at_part : (k : Part) → part_by w m.p at m.b false ≡ k → At k
  at_part k e =
      let q : part_by w m.p at m.b m.stop ≡ k = rw live e in
      record {
        next = next_by_parts s g ∙ ap (λ (j : Part). after_by j w s) q;
        read_is = ap (λ (j : Part). reads_by j w m.x m.y) q;
        written_is = ap (λ (j : Part). writes_by j w m.x m.y) q;
      }

  -- the plan of a part
  planned_at : (k : Part) → At k → planned s
      ≡ cond (lacks board (reads_by k w m.x m.y) || lacks board (writes_by k w m.x m.y)) plan.Lacking
      (plan.Go (record { machine = machine_of (after_by k w s); written = writing (writes_by k w m.x m.y) (after_by k w s).0 }))
  unfolding planned step_unfitted
  planned_at k a = rw (fetches, a.next, a.read_is, a.written_is)

  -- parts 2 and 5 reach no word
  plan_halts : part_by w m.p at m.b false ≡ halts → plan_from halts f at m (operands_of halts f at (source_of m f) main ports) ≡ planned s
  unfolding operands_of executed after_by reads_by writes_by
  plan_halts e = sym (planned_at halts (at_part halts e))

  plan_skips : part_by w m.p at m.b false ≡ skips → plan_from skips f at m (operands_of skips f at (source_of m f) main ports) ≡ planned s
  unfolding operands_of executed after_by reads_by writes_by
  plan_skips e = sym (planned_at skips (at_part skips e))

  -- M: the constant, or the word read
  constant : (io : Bool) → eqb (msf w) 0 ≡ true → addr w ≡ operand board false io w m.x m.y
  unfolding operand
  constant io z = rw z

  from_main : at < 2 ^ 20 → eqb (msf w) 0 ≡ false → get_or main at 0 ≡ operand board false false w m.x m.y
  unfolding operand word_at
  from_main near z = rw (z, mod-eq_of_lt near)

  from_ports : at < 2 ^ 20 → eqb (msf w) 0 ≡ false → get_or ports at 0 ≡ operand board false true w m.x m.y
  unfolding operand word_at
  from_ports near z = rw (z, mod-eq_of_lt near)

  lacks_main : at < 2 ^ 20 → lacks board (some (place_by false w m.x m.y)) ≡ not (ltb at (length main))
  unfolding fitted
  lacks_main near = rw (mod-eq_of_lt near)

  lacks_port : at < 2 ^ 20 → lacks board (some (place_by true w m.x m.y)) ≡ not (ltb at (length ports))
  unfolding fitted
  lacks_port near = rw (mod-eq_of_lt near)

  -- part 3
  tested : (v : ℕ) → v ≡ operand board false false w m.x m.y → COMPARE (fsf w, r, v, m.b) ≡ compared (fsf w) r (operand board false false w m.x m.y) m.b
  tested v h =
      rw h
      (compare_is (fsf w) r (operand board false false w m.x m.y) m.b (omega arith) r_lt (operand_lt board false false w m.x m.y g.main_lt g.ports_lt))

  plan_compares : part_by w m.p at m.b false ≡ compares → at < 2 ^ 20
      → plan_from compares f at m (operands_of compares f at (source_of m f) main ports) ≡ planned s
  unfolding operands_of executed after_by reads_by writes_by
  plan_compares e near =
      rw (planned_at compares (at_part compares e), r_is) (go (eqb (msf w) 0) refl (ltb at (length main)) refl)
    where
      go : (z : Bool) → eqb (msf w) 0 ≡ z → (t : Bool) → ltb at (length main) ≡ t
          → plan_from compares f at m (cond z (Held r (addr w)) (cond t (Held r (get_or main at 0)) Unfitted))
          ≡ cond (lacks board (unless z (place_by false w m.x m.y)) || false) plan.Lacking
          (plan.Go (record { machine = with_flags m (compared (fsf w) r (operand board false false w m.x m.y) m.b) false; written = Nothing }))
      go true z t u = ap (λ (b : Bool). plan.Go (alone (with_flags m b false))) (tested (addr w) (constant false z))
      go false z true u =
          rw (lacks_main near, u) (ap (λ (b : Bool). plan.Go (alone (with_flags m b false))) (tested (get_or main at 0) (from_main near z)))
      go false z false u = rw (lacks_main near, u)

  -- part 4
  kept : (io : Bool) → at < 2 ^ 20 → fitted board (io, at) ≡ true
      → Word (place_of (io, at)) r ≡ writing (some (place_by io w m.x m.y)) (with_word board (place_by io w m.x m.y) r)
  kept io near h = rw (mod-eq_of_lt near, word_back board io at r h)

  plan_writes : part_by w m.p at m.b false ≡ writes → of write w ≡ true → at < 2 ^ 20
      → plan_from writes f at m (operands_of writes f at (source_of m f) main ports) ≡ planned s
  unfolding operands_of executed after_by reads_by writes_by fitted
  plan_writes e v near =
      let o : of output w ≡ eqb (dsf w) 6 = rw v at (write_output w) in
      rw (planned_at writes (at_part writes e), r_is, o) (go (eqb (dsf w) 6) refl (ltb at (length ports)) refl (ltb at (length main)) refl)
    where
      stored : Written → Plan
      stored v = plan.Go (record { machine = with_flags m m.b false; written = v })

      go : (o : Bool) → eqb (dsf w) 6 ≡ o → (t : Bool) → ltb at (length ports) ≡ t → (u : Bool) → ltb at (length main) ≡ u
          → plan_from writes f at m (cond o (write_to (length ports) at r) (write_to (length main) at r))
          ≡ cond (false || lacks board (some (place_by o w m.x m.y))) plan.Lacking
          (plan.Go (record { machine = with_flags m m.b false; written = writing (some (place_by o w m.x m.y)) (with_word board (place_by o w m.x m.y) r) }))
      go true d true e₁ u e₂ = rw (lacks_port near, e₁, d) (ap stored (kept true near e₁))
      go true d false e₁ u e₂ = rw (lacks_port near, e₁)
      go false d t e₁ true e₂ = rw (lacks_main near, e₂, d) (ap stored (kept false near e₂))
      go false d t e₁ false e₂ = rw (lacks_main near, e₂)

  -- part 6
  result : (v : ℕ) (nil io : Bool) → m.p + 1 < 2 ^ 20 → v ≡ operand board nil io w m.x m.y
      → executed computes f at m r v ≡ alone (machine_of (placed (dsf w) (fsf w) board m.p m.a m.x m.y (computed (fsf w) (msf w) (to_p (dsf w)) r (operand board nil io w m.x m.y) m.b)))
  unfolding executed
  result v nil io low h =
      let M = operand board nil io w m.x m.y in
      let lt : M < 2 ^ 32 = operand_lt board nil io w m.x m.y g.main_lt g.ports_lt in
      rw (h, alu_is (fsf w) (msf w) (dsf w) r M m.b r_lt lt) (ap alone (sym (delivered_is m w board (computed (fsf w) (msf w) (to_p (dsf w)) r M m.b) low)))

  -- a shift, whatever stands for its M
  shifts : (v : ℕ) (io : Bool) → v < 2 ^ 32 → fsf w ≡ 12 → m.p + 1 < 2 ^ 20
      → executed computes f at m r v ≡ alone (machine_of (placed (dsf w) (fsf w) board m.p m.a m.x m.y (computed (fsf w) (msf w) (to_p (dsf w)) r (operand board true io w m.x m.y) m.b)))
  unfolding executed
  shifts v io lt h low =
      let pw = to_p (dsf w) in
      rw (alu_is (fsf w) (msf w) (dsf w) r v m.b r_lt lt, shift_has_no_m (fsf w) (msf w) pw r v (operand board true io w m.x m.y) m.b h)
      (ap alone (sym (delivered_is m w board (computed (fsf w) (msf w) pw r (operand board true io w m.x m.y) m.b) low)))

  plan_computes : part_by w m.p at m.b false ≡ computes → of comparison w ≡ false → of write w ≡ false → m.p + 1 < 2 ^ 20
      → (of shift w ≡ false → at < 2 ^ 20)
      → plan_from computes f at m (operands_of computes f at (source_of m f) main ports) ≡ planned s
  unfolding operands_of after_by reads_by writes_by
  plan_computes e c v low near =
      let i : of input w ≡ eqb (fsf w) 2 = rw (c, v) at (rest_input w) in
      rw (planned_at computes (at_part computes e), r_is, h, i) (go (eqb (fsf w) 12) h (eqb (fsf w) 2) (eqb (msf w) 0) refl)
    where
      h : of shift w ≡ eqb (fsf w) 12
      h = rw (c, v) at (rest_shift w)

      -- what the step changes, where nil says that it has no M
      goes : Bool → Bool → Plan
      goes nil io = plan.Go (alone (machine_of (placed (dsf w) (fsf w) board m.p m.a m.x m.y (computed (fsf w) (msf w) (to_p (dsf w)) r (operand board nil io w m.x m.y) m.b))))

      go : (z : Bool) → of shift w ≡ z → (io k : Bool) → eqb (msf w) 0 ≡ k
          → plan_from computes f at m (cond z (Held r 0) (cond io (cond k (Held r (addr w)) (word_from ports at r)) (cond k (Held r (addr w)) (word_from main at r))))
          ≡ cond (lacks board (unless (z || k) (place_by io w m.x m.y)) || false) plan.Lacking (goes z io)
      go true z io k y = ap plan.Go (shifts 0 io (omega arith) (eqb-true (fsf w) 12 (sym h ∙ z)) low)
      go false z true true y = ap plan.Go (result (addr w) false true low (constant true y))
      go false z false true y = ap plan.Go (result (addr w) false false low (constant false y))
      go false z true false y = rw (lacks_port (near z)) (port (ltb at (length ports)))
        where
          port : (t : Bool) → plan_from computes f at m (cond t (Held r (get_or ports at 0)) Unfitted) ≡ cond (not t || false) plan.Lacking (goes false true)
          port true = ap plan.Go (result (get_or ports at 0) false true low (from_ports (near z) y))
          port false = refl
      go false z false false y = rw (lacks_main (near z)) (word (ltb at (length main)))
        where
          word : (t : Bool) → plan_from computes f at m (cond t (Held r (get_or main at 0)) Unfitted) ≡ cond (not t || false) plan.Lacking (goes false false)
          word true = ap plan.Go (result (get_or main at 0) false false low (from_main (near z) y))
          word false = refl

  -- whichever part it is
  by_tests : (k : Part) → part_by w m.p at m.b false ≡ k → plan_from k f at m (operands_of k f at (source_of m f) main ports) ≡ planned s
  unfolding part_by
  by_tests k e = subst (λ (j : Part). plan_from j f at m (operands_of j f at (source_of m f) main ports) ≡ planned s) e (go H refl (of comparison w) refl (of write w) refl (of (skip m.b) w) refl)
    where
      t : Bool
      t = top m.p

      d : Bool
      d = bad at

      H : Bool
      H = t || ((d && (not (of shift w) && not (of (skip m.b) w))) || of always_halts w)

      near : H ≡ false → of shift w ≡ false → of (skip m.b) w ≡ false → at < 2 ^ 20
      near h z k = leb-false (2 ^ 20) at (no_bad t d (of shift w) (of (skip m.b) w) (of always_halts w) h z k)

      low : H ≡ false → m.p + 1 < 2 ^ 20
      low h = let q = eqb-false m.p 0xFFFFF (no_top t (d && (not (of shift w) && not (of (skip m.b) w))) (of always_halts w) h) in omega (arith, g.p_lt)

      go : (h : Bool) → H ≡ h → (c : Bool) → of comparison w ≡ c → (v : Bool) → of write w ≡ v → (k : Bool) → of (skip m.b) w ≡ k
          → plan_from (cond h halts (cond c compares (cond v writes (cond k skips computes)))) f at m
          (operands_of (cond h halts (cond c compares (cond v writes (cond k skips computes)))) f at (source_of m f) main ports) ≡ planned s
      go true eh c ec v ev k ek = plan_halts (rw eh)
      go false eh true ec v ev k ek =
          plan_compares (rw (eh, ec)) (near eh (rw ec at (compare_no_shift w)) (rw ec at (compare_no_skip m.b w)))
      go false eh false ec true ev k ek =
          plan_writes (rw (eh, ec, ev)) ev (near eh (rw ev at (write_no_shift w)) (rw ev at (write_no_skip m.b w)))
      go false eh false ec false ev true ek = plan_skips (rw (eh, ec, ev, ek))
      go false eh false ec false ev false ek = plan_computes (rw (eh, ec, ev, ek)) ec ev (low eh) (λ z. near eh z ek)

-- THE PHASES: what the operands of the word at P lead to, at its part of the order, is what NEXT changes, or refusal 5.
pub phases_plan : (m : Machine) (main ports : List ℕ) (f : Fields) (k : Part) → InRange (state m (ram main ports)) → m.stop ≡ false → m.p < length main
    → Fielded (get_or main m.p 0) f
    → let at = OFFSET (f.msf, f.addr, m.x, m.y) in
    part_by (get_or main m.p 0) m.p at m.b false ≡ k
    → plan_from k f at m (operands_of k f at (source_of m f) main ports) ≡ planned (state m (ram main ports))
phases_plan m main ports f k g live hp e q =
    let w = get_or main m.p 0 in
    let t = fields_are e in
    let a : OFFSET (f.msf, f.addr, m.x, m.y) ≡ address (msf w) (addr w) m.x m.y = rw t (offset_is (msf w) (addr w) m.x m.y (omega arith) g.x_lt g.y_lt) in
    rw (a, t) (by_tests m main ports g live hp k (sym (ap (λ (n : ℕ). part_by w m.p n m.b false) a) ∙ q))

-- the word at P is not fitted
pub unfetched : (m : Machine) (main ports : List ℕ) → length main ≤ m.p → plan.Lacking ≡ planned (state m (ram main ports))
unfolding planned step_unfitted fitted
unfetched m main ports h = rw (le-ltb m.p (length main) h)

-- ---- fetch

-- a word that was fetched stands at P
pub was_fetched : (main : List ℕ) (p w : ℕ) → word_in main p ≡ Some w → (p < length main) × (w ≡ get_or main p 0)
was_fetched main p w e = go (ltb p (length main)) refl e
  where
    go : (t : Bool) → ltb p (length main) ≡ t → cond t (Some (get_or main p 0)) None ≡ Some w → (p < length main) × (w ≡ get_or main p 0)
    go true h q = (ltb-true p (length main) h, cc)
    go false h q = let z : ◌≡◌ {A = ℕ} 0 1 = cc in absurd (omega arith)

pub not_fetched : (m : Machine) (main ports : List ℕ) → word_in main m.p ≡ None → plan.Lacking ≡ planned (state m (ram main ports))
not_fetched m main ports e = go (ltb m.p (length main)) refl e
  where
    go : (t : Bool) → ltb m.p (length main) ≡ t → cond t (Some (get_or main m.p 0)) None ≡ None → plan.Lacking ≡ planned (state m (ram main ports))
    go true h q = let z : ◌≡◌ {A = ℕ} 0 1 = cc in absurd (omega arith)
    go false h q = unfetched m main ports (ltb-false m.p (length main) h)
