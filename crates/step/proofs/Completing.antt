-- The finish of a step: the old values that the code puts into a record, at most one register or one word, are those of the operation; and so
-- the answer, the stores and the trail are those of the change finished. Then each way through the phases: it ends in the change that NEXT
-- makes, or in refusal 5.
-- Assumes nothing.
use mathlib.Core.Path.{◌≡◌, refl, sym, ap, ◌∙◌}
use mathlib.Core.Bool.{Bool, true, false, not, cond, ◌&&◌, true≢false}
use mathlib.Core.List.{List}
use Prim.Native.Nat.{ℕ, zero, suc, ◌+◌, ◌%◌, ◌^◌, ◌<◌, ◌≤◌}
use native.Mathlib.Omega.{arith}
use native.Mathlib.Nat.{mod-eq_of_lt}
use lib.Dec.{eqb, ltb}
use lib.ListN.{length, get_or, set, length-set}
use lib.Seq.{get_or-set_same, get_or-set_other}
use borrow.Author.Tests.{eq-eqb, ne_eqb, le-leb, lt-leb}
use Rattle.report.specs.AnnexA.{Mem}
use Rattle.report.specs.Section3.{Triple, OFFSET, COMPARE, ALU}
use Rattle.report.specs.Parts.{fitted, word_at, bad, top, fsf, dsf, jumping, to_p, Part, halts, compares, writes, skips, computes, part_by, InRange}
use Rattle.report.proofs.Readings.{offset_is}
use Rattle.report.specs.Parts as parts
use Rattle.machine.specs.Held.{ram, state, where_of, place_by}
use Rattle.machine.specs.declared.Machine.{Machine}
use Rattle.machine.specs.declared.Place.{Place}
use Rattle.trail.specs.declared.Kind.TheVariants as kind
use Rattle.trail.specs.Records.{record_bytes, added, old_values}
use Rattle.trail.specs.OneChange.{registers_kept, register_changed}
use Rattle.trail.specs.declared.OldValues.{OldValues}
use Rattle.trail.specs.declared.TrailFull.{TrailFull}
use Rattle.trail.specs.Records.{Word}
use Rattle.std.specs.Prelude.{None, Result, Ok, Err, IsErrAnd}
use Rattle.instruction.specs.Classes.{class_of_word}
use Rattle.instruction.specs.Fields.{fields_of}
use Rattle.instruction.specs.declared.Fields.{Fields}
use Rattle.instruction.proofs.Decision.{decided, decided_is}
use Rattle.instruction.proofs.Destinations.{write_class, register_class, jump_class, jump_to_p, jump_function}
use Rattle.step.specs.declared.finish.Next.{Next}
use Rattle.step.specs.declared.finish.Undone.{Undone}
use Rattle.step.specs.declared.finish.Undone.TheVariants as undone
use Rattle.step.specs.declared.phases.NoOperand.{NoOperand}
use Rattle.step.specs.declared.phases.NoOperand.TheVariants as operand
use Rattle.step.specs.Phases as phases
use Rattle.step.specs.Phases.{held, Change, alone, word_in, next_p, Decodes, constant_or, operand_of, Held, Unfitted, constant_or_word, write_to, operands_of, delivered, executed}
use Rattle.step.specs.Finishing as came_case
use Rattle.step.specs.Finishing.{mark_weight, changed_to, changing, rewritten, Kept, came, End, ended, ended_by, completed, by_plan, once}
use Rattle.step.proofs.Planning.{phases_plan, plan_from, not_fetched}
use Rattle.step.proofs.Stores.{finish_full, finish_done}

-- ---- old values

pub kept_values : (g : List ℕ) (p₀ p : ℕ) (b₀ b stop : Bool) (w : Word) → registers_kept p₀ b₀ false w ≡ old_values kind.Step (held g p₀ b₀ false) (held g p b stop) w
unfolding old_values
kept_values g p₀ p b₀ b stop w = rw (eq-eqb (get_or g 0 0) (get_or g 0 0) refl, eq-eqb (get_or g 1 0) (get_or g 1 0) refl, eq-eqb (get_or g 2 0) (get_or g 2 0) refl)

pub register_values : (g : List ℕ) (k v p₀ p : ℕ) (b₀ b stop : Bool) → 2 < length g → k < 3 → (get_or g k 0 ≡ v → ⊥)
    → register_changed (mark_weight k) p₀ b₀ false (get_or g k 0) ≡ old_values kind.Step (held g p₀ b₀ false) (held (set g k v) p b stop) None
unfolding old_values
register_values g zero v p₀ p b₀ b stop l h q =
    rw (get_or-set_same g 0 v 0 (omega arith), get_or-set_other g 0 1 v 0 (λ e. omega arith), get_or-set_other g 0 2 v 0 (λ e. omega arith), ne_eqb (get_or g 0 0) v q, eq-eqb (get_or g 1 0) (get_or g 1 0) refl, eq-eqb (get_or g 2 0) (get_or g 2 0) refl)
register_values g (suc zero) v p₀ p b₀ b stop l h q =
    rw (get_or-set_same g 1 v 0 (omega arith), get_or-set_other g 1 0 v 0 (λ e. omega arith), get_or-set_other g 1 2 v 0 (λ e. omega arith), eq-eqb (get_or g 0 0) (get_or g 0 0) refl, ne_eqb (get_or g 1 0) v q, eq-eqb (get_or g 2 0) (get_or g 2 0) refl)
register_values g (suc (suc zero)) v p₀ p b₀ b stop l h q =
    rw (get_or-set_same g 2 v 0 (omega arith), get_or-set_other g 2 0 v 0 (λ e. omega arith), get_or-set_other g 2 1 v 0 (λ e. omega arith), eq-eqb (get_or g 0 0) (get_or g 0 0) refl, eq-eqb (get_or g 1 0) (get_or g 1 0) refl, ne_eqb (get_or g 2 0) v q)
register_values g (suc (suc (suc k))) v p₀ p b₀ b stop l h q = absurd (omega arith)

-- Sources that nobody wrote are kept.
pub kept_same : (a : Result Next Undone) (g : List ℕ) → Kept a g g
kept_same (Ok n) g = refl
kept_same (Err e) g = refl

-- N, the fourth of the sources, is no part of the machine.
pub fourth : (g : List ℕ) (n p : ℕ) (b stop : Bool) → held (set g 3 n) p b stop ≡ held g p b stop
fourth g n p b stop = rw (get_or-set_other g 3 0 n 0 (λ e. omega arith), get_or-set_other g 3 1 n 0 (λ e. omega arith), get_or-set_other g 3 2 n 0 (λ e. omega arith))

pub kept_before : (a : Result Next Undone) (g g' : List ℕ) (n : ℕ) → Kept a (set g 3 n) g' → Kept a g g'
kept_before (Ok k) g g' n h = h ∙ length-set g 3 n
kept_before (Err e) g g' n h = sym (fourth g n 0 false false) ∙ h

-- ---- the change finished, by the record that was added

without_room : (z : Result Next Undone) → IsErrAnd z (λ e. e ≡ undone.Full) → z ≡ Err undone.Full
without_room (Ok n) h = absurd h
without_room (Err e) h = ap Err h

module _ (m : Machine) (c : Change) (r : Mem) (t : List ℕ) (used : ℕ) (w : Word) (o : OldValues) (a : Result ℕ TrailFull) (t' : List ℕ)
    (hw : w ≡ changing r c.written) (ho : o ≡ old_values kind.Step m c.machine w) (ha : (a, t') ≡ added t used (record_bytes o)) where
  pub completes_full : {x : TrailFull} → a ≡ Err x → (z : Result Next Undone) (g : List ℕ) → IsErrAnd z (λ e. e ≡ undone.Full) → ended (came z g) r t' ≡ completed m c r t used
  completes_full e z g h =
      ap (λ (y : Result Next Undone). ended (came y g) r t') (without_room z h) ∙ ap (ended_by c.machine) (finish_full kind.Step m c r t used w o a t' hw ho ha e)

  pub completes : (n : ℕ) (r' : Mem) → a ≡ Ok n → r' ≡ rewritten r c.written → ended (came_case.Done c.machine n) r' t' ≡ completed m c r t used
  completes n r' e h = ap (ended_by c.machine) (finish_done kind.Step m c r t used w o a t' hw ho ha n r' e h)

-- A word that was read before it is written over.
pub written_over : (r : Mem) (q : Place) (old v : ℕ) → old ≡ word_at r (where_of q) → changed_to q old v ≡ changing r (phases.Word q v)
written_over r q old v e = ap (λ (n : ℕ). changed_to q n v) e

-- ---- a result at its destination

-- The number of a register: 0, 1 or 2.
module _ (g : List ℕ) (p : ℕ) (b₀ : Bool) (f : Fields) (n v : ℕ) (b s : Bool) (long : 2 < length g) where
  pub to_register : f.dsf < 3 → delivered (held g p b₀ false) f n (v, b, s) ≡ held (set g f.dsf v) n b s
  unfolding delivered
  to_register low = go f.dsf refl low
    where
      go : (k : ℕ) → f.dsf ≡ k → k < 3 → delivered (held g p b₀ false) f n (v, b, s) ≡ held (set g k v) n b s
      go zero e h = rw (e, get_or-set_same g 0 v 0 (omega arith), get_or-set_other g 0 1 v 0 (λ e. omega arith), get_or-set_other g 0 2 v 0 (λ e. omega arith))
      go (suc zero) e h = rw (e, get_or-set_same g 1 v 0 (omega arith), get_or-set_other g 1 0 v 0 (λ e. omega arith), get_or-set_other g 1 2 v 0 (λ e. omega arith))
      go (suc (suc zero)) e h = rw (e, get_or-set_same g 2 v 0 (omega arith), get_or-set_other g 2 0 v 0 (λ e. omega arith), get_or-set_other g 2 1 v 0 (λ e. omega arith))
      go (suc (suc (suc k))) e h = absurd (omega arith)

  module _ (high : 3 ≤ f.dsf) where
    pub calls : f.fsf ≡ 1 → delivered (held g p b₀ false) f n (v, b, s) ≡ held (set g 2 n) (v % 2 ^ 20) b s
    unfolding delivered
    calls k =
        rw (ne_eqb f.dsf 0 (λ z. omega arith), ne_eqb f.dsf 1 (λ z. omega arith), ne_eqb f.dsf 2 (λ z. omega arith), eq-eqb f.fsf 1 k, get_or-set_same g 2 n 0 (omega arith), get_or-set_other g 2 0 n 0 (λ e. omega arith), get_or-set_other g 2 1 n 0 (λ e. omega arith))

    pub jumps : (f.fsf ≡ 1 → ⊥) → delivered (held g p b₀ false) f n (v, b, s) ≡ held g (v % 2 ^ 20) b s
    unfolding delivered
    jumps k = rw (ne_eqb f.dsf 0 (λ z. omega arith), ne_eqb f.dsf 1 (λ z. omega arith), ne_eqb f.dsf 2 (λ z. omega arith), ne_eqb f.fsf 1 k)

-- Why there is no M.
pub told_bad : {o : Result ℕ NoOperand} {e : NoOperand} → o ≡ Err e → e ≡ operand.Bad → o ≡ Err operand.Bad
told_bad p q = p ∙ ap Err q

pub told_unfitted : {o : Result ℕ NoOperand} {e : NoOperand} → o ≡ Err e → e ≡ operand.Unfitted → o ≡ Err operand.Unfitted
told_unfitted p q = p ∙ ap Err q

-- The functions of a jump read main memory or have a constant.
jump_operands : (f : Fields) (at r : ℕ) (main ports : List ℕ) → jumping f.fsf ≡ true → operands_of computes f at r main ports ≡ constant_or_word f main at r
unfolding operands_of
jump_operands f at r main ports h =
    rw (ne_eqb f.fsf 12 (λ e. true≢false (sym (rw e at h))), ne_eqb f.fsf 2 (λ e. true≢false (sym (rw e at h))))

-- A write is held exactly when its place is fitted.
write_operands : (f : Fields) (at r : ℕ) (main ports : List ℕ) (t : Bool) → fitted (ram main ports) (where_of (place_by (eqb f.dsf 6) at)) ≡ t
    → operands_of writes f at r main ports ≡ cond t (Held r 0) Unfitted
unfolding operands_of fitted
write_operands f at r main ports t h = go (eqb f.dsf 6) h
  where
    go : (io : Bool) → fitted (ram main ports) (where_of (place_by io at)) ≡ t → cond io (write_to (length ports) at r) (write_to (length main) at r) ≡ cond t (Held r 0) Unfitted
    go true q = ap (λ (u : Bool). cond u (Held r 0) Unfitted) q
    go false q = ap (λ (u : Bool). cond u (Held r 0) Unfitted) q

-- ---- one step

-- The word at P is lacking.
pub fetch_lacking : (m : Machine) (main ports trail : List ℕ) (used : ℕ) → word_in main m.p ≡ None → ended came_case.Unfitted (ram main ports) trail ≡ once m (ram main ports) trail used
fetch_lacking m main ports trail used h = ap (by_plan m (ram main ports) trail used) (not_fetched m main ports h)

-- P is FFFFF: N does not fit P, whatever the word.
pub top_once : (g : List ℕ) (p : ℕ) (b : Bool) (main ports : List ℕ) → InRange (state (held g p b false) (ram main ports)) → p < length main → (trail : List ℕ) (used : ℕ)
    → {x : End} → p ≡ 0xFFFFF → x ≡ completed (held g p b false) (alone (held g 0 b true)) (ram main ports) trail used → x ≡ once (held g p b false) (ram main ports) trail used
unfolding operands_of executed decided
top_once g p b main ports range has trail used e h =
    let m = held g p b false in
    let w = get_or main p 0 in
    let f = fields_of w in
    let k : part_by w p (OFFSET (parts.msf w, parts.addr w, m.x, m.y)) b false ≡ halts = rw (decided_is w p (OFFSET (parts.msf w, parts.addr w, m.x, m.y)) b, eq-eqb p 0xFFFFF e) in
    let z = phases_plan m main ports f halts range refl has (record { of_rsf = refl; of_msf = refl; of_dsf = refl; of_fsf = refl; of_addr = refl }) k in
    let n : next_p m ≡ 0 = rw e in
    h ∙ (ap (λ (k : ℕ). completed m (alone (held g k b true)) (ram main ports) trail used) (sym n) ∙ ap (by_plan m (ram main ports) trail used) z)

-- The word at P decoded, on a machine that is not stopped.
module _ (g : List ℕ) (p : ℕ) (b : Bool) (main ports : List ℕ) (f : Fields) (class r : ℕ) (range : InRange (state (held g p b false) (ram main ports)))
    (D : Decodes (held g p b false) main f class r) (trail : List ℕ) (used : ℕ) where
  abbrev m : Machine
  m = held g p b false

  abbrev w : ℕ
  w = get_or main p 0

  abbrev at : ℕ
  at = OFFSET (f.msf, f.addr, m.x, m.y)

  -- the step that changes P, B and STOP alone
  abbrev flagged : ℕ → Bool → Bool → End
  flagged n t stop = completed m (alone (held g n t stop)) (ram main ports) trail used

  abbrev step : End
  step = once m (ram main ports) trail used

  next_is : next_p m ≡ p + 1
  next_is = mod-eq_of_lt D.low

  not_top : top p ≡ false
  not_top = ne_eqb p 0xFFFFF (λ e. omega (arith, D.low))

  part_is : part_by w p at b false ≡ decided class (eqb f.fsf 12) (top p) (bad at) b
  part_is = rw (D.classed, D.fields.of_fsf) (decided_is w p at b)

  -- R and M are held: what the part does is done.
  held_once : (k : Part) → decided class (eqb f.fsf 12) (top p) (bad at) b ≡ k → {r' v : ℕ} → operands_of k f at r main ports ≡ Held r' v
      → completed m (executed k f at m r' v) (ram main ports) trail used ≡ step
  held_once k q {r'} {v} h =
      let z : plan_from k f at m (operands_of k f at r main ports) ≡ phases.planned (state m (ram main ports)) = rw D.source (phases_plan m main ports f k range refl D.fetches D.fields (part_is ∙ q)) in
      ap (by_plan m (ram main ports) trail used) (rw h at z)

  -- A word is lacking.
  lacking_once : (k : Part) → decided class (eqb f.fsf 12) (top p) (bad at) b ≡ k → operands_of k f at r main ports ≡ Unfitted
      → ended came_case.Unfitted (ram main ports) trail ≡ step
  lacking_once k q h =
      let z : plan_from k f at m (operands_of k f at r main ports) ≡ phases.planned (state m (ram main ports)) = rw D.source (phases_plan m main ports f k range refl D.fetches D.fields (part_is ∙ q)) in
      ap (by_plan m (ram main ports) trail used) (rw h at z)

  -- ---- M

  constant_near : eqb f.msf 0 ≡ true → bad at ≡ false
  unfolding parts.address
  constant_near z =
      let low : f.addr < 2 ^ 20 = omega (arith, D.fields.of_addr) in
      rw (offset_is f.msf f.addr m.x m.y low range.x_lt range.y_lt, z) (lt-leb (2 ^ 20) f.addr low)

  module _ (store : List ℕ) {o : Result ℕ NoOperand} (e : o ≡ constant_or f at store) where
    held_told : {v : ℕ} → o ≡ Ok v → (bad at ≡ false) × (constant_or_word f store at r ≡ Held r v)
    held_told {v} h = go (eqb f.msf 0) refl (bad at) refl (ltb at (length store)) (sym e ∙ h)
      where
        go : (z : Bool) → eqb f.msf 0 ≡ z → (d : Bool) → bad at ≡ d → (t : Bool)
            → cond z (Ok f.addr) (cond d (Err operand.Bad) (cond t (Ok (get_or store at 0)) (Err operand.Unfitted))) ≡ Ok v
            → (bad at ≡ false) × (cond z (Held r f.addr) (cond t (Held r (get_or store at 0)) Unfitted) ≡ Held r v)
        go true z d y t q = (constant_near z, cc)
        go false z true y t q = let n : ◌≡◌ {A = ℕ} 0 1 = cc in absurd (omega arith)
        go false z false y true q = (y, cc)
        go false z false y false q = let n : ◌≡◌ {A = ℕ} 0 1 = cc in absurd (omega arith)

    lacking_told : o ≡ Err operand.Unfitted → (bad at ≡ false) × (constant_or_word f store at r ≡ Unfitted)
    lacking_told h = go (eqb f.msf 0) (bad at) refl (ltb at (length store)) (sym e ∙ h)
      where
        go : (z d : Bool) → bad at ≡ d → (t : Bool)
            → cond z (Ok f.addr) (cond d (Err operand.Bad) (cond t (Ok (get_or store at 0)) (Err operand.Unfitted))) ≡ Err operand.Unfitted
            → (bad at ≡ false) × (cond z (Held r f.addr) (cond t (Held r (get_or store at 0)) Unfitted) ≡ Unfitted)
        go true d y t q = let n : ◌≡◌ {A = ℕ} 0 1 = cc in absurd (omega arith)
        go false true y t q = let n : ◌≡◌ {A = ℕ} 0 1 = cc in absurd (omega arith)
        go false false y true q = let n : ◌≡◌ {A = ℕ} 0 1 = cc in absurd (omega arith)
        go false false y false q = (y, refl)

    bad_told : o ≡ Err operand.Bad → bad at ≡ true
    bad_told h = go (eqb f.msf 0) (bad at) refl (ltb at (length store)) (sym e ∙ h)
      where
        go : (z d : Bool) → bad at ≡ d → (t : Bool)
            → cond z (Ok f.addr) (cond d (Err operand.Bad) (cond t (Ok (get_or store at 0)) (Err operand.Unfitted))) ≡ Err operand.Bad → bad at ≡ true
        go true d y t q = let n : ◌≡◌ {A = ℕ} 0 1 = cc in absurd (omega arith)
        go false true y t q = y
        go false false y true q = let n : ◌≡◌ {A = ℕ} 0 1 = cc in absurd (omega arith)
        go false false y false q = let n : ◌≡◌ {A = ℕ} 0 1 = cc in absurd (omega arith)

  -- ---- part 2

  halts_once : {x : End} → decided class (eqb f.fsf 12) (top p) (bad at) b ≡ halts → x ≡ flagged (p + 1) b true → x ≡ step
  unfolding operands_of executed
  halts_once q h = h ∙ rw (← next_is) (held_once halts q {r' = r} {v = 0} refl)

  -- ---- class 0, a comparison

  module _ (k : class ≡ 0) where
    compares_by : bad at ≡ false → decided class (eqb f.fsf 12) (top p) (bad at) b ≡ compares
    unfolding decided
    compares_by n = rw (k, not_top, n)

    module _ {o : Result ℕ NoOperand} (e : o ≡ constant_or f at main) where
      pub compares_held : {x : End} {v : ℕ} {t : Bool} → o ≡ Ok v → t ≡ COMPARE (f.fsf, r, v, b) → x ≡ flagged (p + 1) t false → x ≡ step
      unfolding operands_of executed
      compares_held {x} {v} {t} h c z =
          let d = held_told main e h in
          z ∙ rw (← next_is, c) (held_once compares (compares_by d.0) {r' = r} {v = v} d.1)

      pub compares_bad : {x : End} → o ≡ Err operand.Bad → x ≡ flagged (p + 1) b true → x ≡ step
      unfolding decided
      compares_bad h z = halts_once (rw (k, not_top, bad_told main e h)) z

      pub compares_lacking : o ≡ Err operand.Unfitted → ended came_case.Unfitted (ram main ports) trail ≡ step
      unfolding operands_of
      compares_lacking h = let d = lacking_told main e h in lacking_once compares (compares_by d.0) d.1

  -- ---- class 1, which always halts

  pub always_once : {x : End} → class ≡ 1 → x ≡ flagged (p + 1) b true → x ≡ step
  unfolding decided
  always_once k z = halts_once (rw (k, not_top)) z

  -- ---- classes 2 and 3, a write

  module _ (few : class < 4) (n₀ : class ≡ 0 → ⊥) (n₁ : class ≡ 1 → ⊥) where
    write_by : {t : Bool} → bad at ≡ t → decided class (eqb f.fsf 12) (top p) (bad at) b ≡ cond t halts writes
    unfolding decided
    write_by {t} d = rw (not_top, d, lt-leb 7 class (omega arith), lt-leb 4 class few, ne_eqb class 1 n₁, ne_eqb class 0 n₀)

    -- Class 3 is the write to a port.
    place_is : place_by (eqb class 3) at ≡ place_by (eqb f.dsf 6) at
    place_is =
        let c = D.classed in
        rw (c, D.fields.of_dsf) (ap (λ (t : Bool). place_by t at) (write_class w (omega (arith, c)) (omega (arith, c))))

    pub write_bad : {x : End} → 2 ^ 20 ≤ at → x ≡ flagged (p + 1) b true → x ≡ step
    write_bad d z = halts_once (write_by (le-leb (2 ^ 20) at d)) z

    module _ {place : Place} (near : at < 2 ^ 20) (i : place ≡ place_by (eqb class 3) at) {t : Bool} (h : t ≡ fitted (ram main ports) (where_of place)) where
      pub writes_once : {x : End} → t ≡ true → x ≡ completed m (record { machine = held g (p + 1) b false; written = phases.Word place r }) (ram main ports) trail used → x ≡ step
      unfolding executed
      writes_once k z =
          let j = i ∙ place_is in
          z ∙ rw (← next_is, j) (held_once writes (write_by (lt-leb (2 ^ 20) at near)) {r' = r} {v = 0} (write_operands f at r main ports true (rw (← j) (sym h ∙ k))))

      pub writes_lacking : t ≡ false → ended came_case.Unfitted (ram main ports) trail ≡ step
      writes_lacking k =
          let j = i ∙ place_is in
          lacking_once writes (write_by (lt-leb (2 ^ 20) at near)) (write_operands f at r main ports false (rw (← j) (sym h ∙ k)))

  -- ---- classes 4, 5 and 6, a result for A, X or Y

  module _ (from : 4 ≤ class) (below : class < 7) where
    register_dsf : f.dsf + 4 ≡ class
    register_dsf =
        let c = D.classed in
        rw (D.fields.of_dsf, c) (register_class w (omega (arith, c)) (omega (arith, c)))

    pub register_low : f.dsf < 3
    register_low = omega (arith, register_dsf)

    computes_by : (eqb f.fsf 12 ≡ false → bad at ≡ false) → decided class (eqb f.fsf 12) (top p) (bad at) b ≡ computes
    unfolding decided
    computes_by d = rw (not_top, lt-leb 7 class below, le-leb 4 class from) (go (eqb f.fsf 12) refl (bad at) refl)
      where
        go : (t : Bool) → eqb f.fsf 12 ≡ t → (u : Bool) → bad at ≡ u → cond u (cond t computes halts) computes ≡ computes
        go true y true z = refl
        go true y false z = refl
        go false y true z = absurd (true≢false (sym z ∙ d y))
        go false y false z = refl

    module _ {o : Result ℕ NoOperand} (e : o ≡ operand_of f at main ports) where
      -- M is held: a shift's is 0, another's is told by its store.
      functions_told : {v : ℕ} → o ≡ Ok v → (eqb f.fsf 12 ≡ false → bad at ≡ false) × (operands_of computes f at r main ports ≡ Held r v)
      unfolding operands_of
      functions_told {v} h = go (eqb f.fsf 12) refl (eqb f.fsf 2) (sym e ∙ h)
        where
          go : (t : Bool) → eqb f.fsf 12 ≡ t → (u : Bool) → cond t (Ok 0) (constant_or f at (cond u ports main)) ≡ Ok v
              → (eqb f.fsf 12 ≡ false → bad at ≡ false) × (cond t (Held r 0) (cond u (constant_or_word f ports at r) (constant_or_word f main at r)) ≡ Held r v)
          go true y u q = (λ n. absurd (true≢false (sym y ∙ n)), cc)
          go false y true q = let d = held_told ports refl q in (λ n. d.0, d.1)
          go false y false q = let d = held_told main refl q in (λ n. d.0, d.1)

      pub computes_held : {x : End} {v : ℕ} {t : Triple} → o ≡ Ok v → ((df : ℕ) → df < 3 → t ≡ ALU (f.fsf, f.msf, df, r, v, b))
          → x ≡ completed m (alone (delivered m f (p + 1) t)) (ram main ports) trail used → x ≡ step
      unfolding executed
      computes_held {x} {v} {t} h l z =
          let d = functions_told h in
          z ∙ rw (← next_is, l f.dsf register_low) (held_once computes (computes_by d.0) {r' = r} {v = v} d.1)

      pub computes_bad : {x : End} → o ≡ Err operand.Bad → x ≡ flagged (p + 1) b true → x ≡ step
      unfolding decided
      computes_bad h z = halts_once (rw (not_top, lt-leb 7 class below, le-leb 4 class from) (go (eqb f.fsf 12) (eqb f.fsf 2) (sym e ∙ h))) z
        where
          go : (t u : Bool) → cond t (Ok 0) (constant_or f at (cond u ports main)) ≡ Err operand.Bad → cond (bad at) (cond t computes halts) computes ≡ halts
          go true u q = let n : ◌≡◌ {A = ℕ} 0 1 = cc in absurd (omega arith)
          go false true q = rw (bad_told ports refl q)
          go false false q = rw (bad_told main refl q)

      pub computes_lacking : o ≡ Err operand.Unfitted → ended came_case.Unfitted (ram main ports) trail ≡ step
      unfolding operands_of
      computes_lacking h = let d = go (eqb f.fsf 12) (eqb f.fsf 2) (sym e ∙ h) in lacking_once computes (computes_by (λ n. d.0)) d.1
        where
          go : (t u : Bool) → cond t (Ok 0) (constant_or f at (cond u ports main)) ≡ Err operand.Unfitted
              → (bad at ≡ false) × (cond t (Held r 0) (cond u (constant_or_word f ports at r) (constant_or_word f main at r)) ≡ Unfitted)
          go true u q = let n : ◌≡◌ {A = ℕ} 0 1 = cc in absurd (omega arith)
          go false true q = lacking_told ports refl q
          go false false q = lacking_told main refl q

  -- ---- classes 7, 8 and 9, a result for P

  module _ (from : 7 ≤ class) where
    to_p_class : 7 ≤ class_of_word w
    to_p_class = rw D.classed at from

    pub jump_high : 3 ≤ f.dsf
    jump_high = rw D.fields.of_dsf (jump_class w to_p_class)

    pub jump_fsf : jumping f.fsf ≡ true
    jump_fsf = rw D.fields.of_fsf (jump_function w to_p_class)

    -- 8 is not obeyed where B is clear, nor 9 where it is set.
    pub skips_8 : {x : End} → (eqb class 8 && not b) ≡ true → x ≡ flagged (p + 1) b false → x ≡ step
    unfolding decided operands_of executed
    skips_8 k z = z ∙ rw (← next_is) (held_once skips (rw (not_top, le-leb 7 class from, k)) {r' = r} {v = 0} refl)

    module _ (n₈ : (eqb class 8 && not b) ≡ false) where
      pub skips_9 : {x : End} → (eqb class 9 && b) ≡ true → x ≡ flagged (p + 1) b false → x ≡ step
      unfolding decided operands_of executed
      skips_9 k z = z ∙ rw (← next_is) (held_once skips (rw (not_top, le-leb 7 class from, n₈, k)) {r' = r} {v = 0} refl)

      module _ (n₉ : (eqb class 9 && b) ≡ false) {o : Result ℕ NoOperand} (e : o ≡ constant_or f at main) where
        jump_by : {t : Bool} → bad at ≡ t → decided class (eqb f.fsf 12) (top p) (bad at) b ≡ cond t halts computes
        unfolding decided
        jump_by d = rw (not_top, le-leb 7 class from, n₈, n₉, d)

        pub jumps_held : {x : End} {v : ℕ} {t : Triple} → o ≡ Ok v → ((mf df : ℕ) → to_p df ≡ true → t ≡ ALU (f.fsf, mf, df, r, v, b))
            → x ≡ completed m (alone (delivered m f (p + 1) t)) (ram main ports) trail used → x ≡ step
        unfolding executed
        jumps_held {x} {v} {t} h l z =
            let d = held_told main e h in
            z ∙ rw (← next_is, l f.msf f.dsf (rw D.fields.of_dsf (jump_to_p w to_p_class))) (held_once computes (jump_by d.0) {r' = r} {v = v} (jump_operands f at r main ports jump_fsf ∙ d.1))

        pub jumps_bad : {x : End} → o ≡ Err operand.Bad → x ≡ flagged (p + 1) b true → x ≡ step
        jumps_bad h z = halts_once (jump_by (bad_told main e h)) z

        pub jumps_lacking : o ≡ Err operand.Unfitted → ended came_case.Unfitted (ram main ports) trail ≡ step
        jumps_lacking h = let d = lacking_told main e h in lacking_once computes (jump_by d.0) (jump_operands f at r main ports jump_fsf ∙ d.1)
