-- THE SECOND DEMAND: a step gives the report's next state and adds its record, each record reads back to the values it was made from,
-- and no record is longer than document 01 says, nor touches a byte outside itself.
-- It holds since a step is NEXT by definition, no refusal applies, and of A, X, Y and the word at most one changes in a step.
-- Assumes nothing.
use mathlib.Core.Path.{◌≡◌, refl, sym, ap, ◌∙◌, subst}
use mathlib.Core.Bool.{Bool, true, false, cond, ◌||◌}
use mathlib.Core.Logic.{◌↔◌}
use mathlib.Core.Option.{Option, none, some}
use mathlib.Core.List.{List, ◌++◌, append_assoc}
use Prim.Native.Nat.{ℕ, ◌+◌, ◌-◌, ◌*◌, ◌%◌, ◌^◌, ◌<◌, ◌≤◌}
use native.Mathlib.Omega.{arith}
use lib.Dec.{eqb}
use lib.ListN.{length, get_or, take, drop, length-append, length-take, get_or-append}
use lib.Seq.{get_or-take, get_or-drop, get_or-append-add}
use borrow.Author.Tests.{not-false, le-ltb}
use Prim.{tt}
use Rattle.std.specs.Prelude.{Result, Ok, Err}
use Rattle.report.specs.AnnexA.{Mem, BV}
use Rattle.report.specs.Section3.{State, Triple, NEXT}
use Rattle.report.specs.Parts.{Where, fitted, word_at, msf, dsf, fsf, addr, of, shift, input, address, unless, place_by, operand, Part, stopped, halts, compares, writes, skips, computes, part, word, part_by, after_by, placed, reads_by, writes_by, reads, written, InRange}
use Rattle.report.proofs.Order.{stays, next_by_parts}
use Rattle.machine.specs.Held.{ram, state, machine_of}
use Rattle.machine.specs.declared.Machine.{Machine}
use Rattle.trail.specs.Records.{Good, differs, word_changed, changed_word, record_bytes, old_values_of, restored, put}
use Rattle.trail.specs.Newest.{read_back, newest_fitted}
use Rattle.trail.specs.declared.OldValues.{OldValues}
use Rattle.trail.proofs.Marks.{bit}
use Rattle.trail.proofs.Lengths.{registers_changed, registers_three, unchanged}
use Rattle.trail.proofs.RecordRestores.{Touched}
use Rattle.trail.proofs.NewestReadsBack.{newest_fitted_added, record_injective, newest_fitted_stands}
use Rattle.viper.specs.declared.Refusal.{Refusal}
use Rattle.viper.specs.declared.Refusal.TheVariants.{PTooLarge, StoreTooLong, CountTooLarge, Stopped, Unfitted, TrailFull, NothingInUse, BrokenRecord}
use Rattle.viper.specs.declared.After.{After}
use Rattle.viper.specs.Told.{bench, told}
use Rattle.step.specs.Phases.{lacks, step_unfitted}
use Rattle.viper.specs.Operations.{Bench, Operation, step, reset, force, set_word, operate, next, kind_of, writes_at, record_for, unfitted, applies, Outcome, outcome}
use Rattle.demands.specs.Histories.{Valid}
use Rattle.demands.proofs.FirstDemand.{LawfulBench, lawful_passes, refused_lowest, accepted_none}
use Rattle.demands.proofs.Undoing.{nothing_lacks, touched, undoes}

-- ---- the words that a step touches

-- The board is fitted with each word that the step fetches, reads or writes.
pub record StepFitted (s : State) : Type 0 where
  pub fetches : fitted s.0 (false, s.1) ≡ true
  pub reading : (q : Where) → reads s ≡ some q → fitted s.0 q ≡ true
  pub writing : (q : Where) → written s ≡ some q → fitted s.0 q ≡ true

has : (r : Mem) (o : Option Where) → lacks r o ≡ false → (q : Where) → o ≡ some q → fitted r q ≡ true
has r o h q e = not-false (fitted r q) (rw e at h)

has_all : (r : Mem) (o : Option Where) → ((q : Where) → o ≡ some q → fitted r q ≡ true) → lacks r o ≡ false
has_all r none h = refl
has_all r (some q) h = rw (h q refl)

-- Refusal 5 does not apply to a step exactly if they are all fitted.
pub unfitted_or_not : (s : State) → (step_unfitted s ≡ false) ↔ StepFitted s
unfolding step_unfitted
unfitted_or_not s = (
  λ h. let n = nothing_lacks s h in
      record {
        fetches = not-false (fitted s.0 (false, s.1)) n.0;
        reading = has s.0 (reads s) n.1;
        writing = has s.0 (written s) n.2;
      },
  λ f. rw (f.fetches, has_all s.0 (reads s) f.reading, has_all s.0 (written s) f.writing),
)

-- ---- what the report looks at

operand_same : (r r' : Mem) (nil io : Bool) (w x y : ℕ) → ((q : Where) → unless (nil || eqb (msf w) 0) (place_by io w x y) ≡ some q → word_at r q ≡ word_at r' q)
    → operand r nil io w x y ≡ operand r' nil io w x y
unfolding operand
operand_same r r' nil io w x y = go nil (eqb (msf w) 0)
  where
    go : (t u : Bool) → ((q : Where) → unless (t || u) (place_by io w x y) ≡ some q → word_at r q ≡ word_at r' q)
        → cond t 0 (cond u (addr w) (word_at r (place_by io w x y))) ≡ cond t 0 (cond u (addr w) (word_at r' (place_by io w x y)))
    go true u h = refl
    go false true h = refl
    go false false h = h (place_by io w x y) refl

placed_same : (df ff : ℕ) (r r' : Mem) (p a x y : ℕ) (t : Triple) → machine_of (placed df ff r p a x y t) ≡ machine_of (placed df ff r' p a x y t)
unfolding placed
placed_same df ff r r' p a x y (v, b, s) = go (eqb df 0) (eqb df 1) (eqb df 2) (eqb ff 1)
  where
    n : ℕ
    n = (p + 1) % 2 ^ 20

    by : (t₀ t₁ t₂ t₃ : Bool) → Mem → State
    by t₀ t₁ t₂ t₃ m = cond t₀ (m, n, v, x, y, b, s) (cond t₁ (m, n, a, v, y, b, s) (cond t₂ (m, n, a, x, v, b, s) (cond t₃ (m, v % 2 ^ 20, a, x, p + 1, b, s) (m, v % 2 ^ 20, a, x, y, b, s))))

    go : (t₀ t₁ t₂ t₃ : Bool) → machine_of (by t₀ t₁ t₂ t₃ r) ≡ machine_of (by t₀ t₁ t₂ t₃ r')
    go true t₁ t₂ t₃ = refl
    go false true t₂ t₃ = refl
    go false false true t₃ = refl
    go false false false true = refl
    go false false false false = refl

part_same : (k : Part) (w : ℕ) (r r' : Mem) (p a x y : ℕ) (b stop : Bool) → ((q : Where) → reads_by k w x y ≡ some q → word_at r q ≡ word_at r' q)
    → machine_of (after_by k w (r, p, a, x, y, b, stop)) ≡ machine_of (after_by k w (r', p, a, x, y, b, stop))
unfolding after_by reads_by
part_same stopped w r r' p a x y b stop h = refl
part_same halts w r r' p a x y b stop h = refl
part_same compares w r r' p a x y b stop h = rw (operand_same r r' false false w x y h)
part_same writes w r r' p a x y b stop h = refl
part_same skips w r r' p a x y b stop h = refl
part_same computes w r r' p a x y b stop h = rw (operand_same r r' (of shift w) (of input w) w x y h) (placed_same (dsf w) (fsf w) r r' p a x y _)

-- A step looks at no word but the word at P and the one that it reads: on two stores that agree there, NEXT gives the same machine.
pub looks_nowhere_else : (m : Machine) (r r' : Mem) → InRange (state m r) → InRange (state m r')
    → word_at r (false, m.p) ≡ word_at r' (false, m.p)
    → ((q : Where) → reads (state m r) ≡ some q → word_at r q ≡ word_at r' q)
    → machine_of (NEXT (state m r)) ≡ machine_of (NEXT (state m r'))
unfolding word_at
looks_nowhere_else m r r' g g' e h =
    ap machine_of (next_by_parts (state m r) g)
    ∙ part_same (part (state m r)) (word (state m r)) r r' m.p m.a m.x m.y m.b m.stop h
    ∙ ap (λ (w : ℕ). machine_of (after_by (part_by w m.p (address (msf w) (addr w) m.x m.y) m.b m.stop) w (state m r'))) e
    ∙ sym (ap machine_of (next_by_parts (state m r') g'))

-- And it changes no word but the one that it writes: NEXT keeps the stores, or puts a value at that place.
pub writes_nowhere_else : (s : State) → Valid s → StepFitted s → Touched s.0 (NEXT s).0 (written s)
writes_nowhere_else s ok f = touched step s ok ((unfitted_or_not s).1 f)

-- ---- each record reads back

-- What stands in a trail as the record of an operation reads back, whatever stands before and after it, to the old values it was made from,
-- and these, put back into the state after the operation, give the state before it.
pub record ReadsBack (e : Operation) (s : State) : Type 0 where
  pub newest : (before beyond : List ℕ)
      → newest_fitted (length (next e s).0.main) (length (next e s).0.ports) (before ++ (record_for e s ++ beyond)) (length before + length (record_for e s))
      ≡ read_back (old_values_of (kind_of e) s (next e s) (writes_at e s)) (length before)
  pub back : restored (old_values_of (kind_of e) s (next e s) (writes_at e s)) (next e s) ≡ s

-- So does the record of every operation that is fitted, on a valid machine.
pub reads_back : (e : Operation) (s : State) → Valid s → unfitted (operate e) s ≡ false → ReadsBack e s
reads_back e s ok h =
    let u = undoes e s ok h in
    record { newest = λ before beyond. newest_fitted_added _ _ before beyond u.good u.fitting; back = u.back }

-- A record has one reading: two records of the same bytes hold the same old values.
pub one_reading : {o q : OldValues} → Good (2 ^ 21) o → Good (2 ^ 21) q → record_bytes o ≡ record_bytes q → o ≡ q
one_reading g k e = record_injective (omega arith) g k e

-- And one spelling: bytes in use that read as old values o end in exactly the record of o.
pub one_spelling : (main ports : ℕ) (trail : List ℕ) (used : ℕ) {o : OldValues} {n : ℕ} → 0 < used → used ≤ length trail
    → newest_fitted main ports trail used ≡ read_back o n → take used trail ≡ take n trail ++ record_bytes o
one_spelling main ports trail used h l e = (newest_fitted_stands main ports h l e).0.bytes

-- ---- how long records are

same_registers : (old new : Machine) → old.a ≡ new.a → old.x ≡ new.x → old.y ≡ new.y → registers_changed old new ≡ 0
same_registers old new ea ex ey = omega (arith, unchanged ea, unchanged ex, unchanged ey)

-- What part of a step changes at most: no register and a word, or a register and no word.
record Little (old new : State) (q : Option Where) : Type 0 where
  few : 5 * registers_changed (machine_of old) (machine_of new) + 8 * BV (word_changed (changed_word old.0 new.0 q)) ≤ 8

at_most_a_word : (old new : State) (q : Option Where) → old.2 ≡ new.2 → old.3 ≡ new.3 → old.4 ≡ new.4 → Little old new q
at_most_a_word old new q ea ex ey =
    let w = bit (word_changed (changed_word old.0 new.0 q)) in
    record { few = omega (arith, same_registers (machine_of old) (machine_of new) ea ex ey) }

placed_little : (df ff : ℕ) (r : Mem) (p a x y : ℕ) (b stop : Bool) (t : Triple) → Little (r, p, a, x, y, b, stop) (placed df ff r p a x y t) none
unfolding placed
placed_little df ff r p a x y b₀ s₀ (v, b, s) = go (eqb df 0) (eqb df 1) (eqb df 2) (eqb ff 1)
  where
    n : ℕ
    n = (p + 1) % 2 ^ 20

    go : (t₀ t₁ t₂ t₃ : Bool)
        → Little (r, p, a, x, y, b₀, s₀) (cond t₀ (r, n, v, x, y, b, s) (cond t₁ (r, n, a, v, y, b, s) (cond t₂ (r, n, a, x, v, b, s) (cond t₃ (r, v % 2 ^ 20, a, x, p + 1, b, s) (r, v % 2 ^ 20, a, x, y, b, s))))) none
    go true t₁ t₂ t₃ = record { few = omega (arith, bit (differs a v), unchanged {old = x} {new = x} refl, unchanged {old = y} {new = y} refl) }
    go false true t₂ t₃ = record { few = omega (arith, bit (differs x v), unchanged {old = a} {new = a} refl, unchanged {old = y} {new = y} refl) }
    go false false true t₃ = record { few = omega (arith, bit (differs y v), unchanged {old = a} {new = a} refl, unchanged {old = x} {new = x} refl) }
    go false false false true = record { few = omega (arith, bit (differs y (p + 1)), unchanged {old = a} {new = a} refl, unchanged {old = x} {new = x} refl) }
    go false false false false = record { few = omega (arith, unchanged {old = a} {new = a} refl, unchanged {old = x} {new = x} refl, unchanged {old = y} {new = y} refl) }

part_little : (k : Part) (w : ℕ) (s : State) → Little s (after_by k w s) (writes_by k w s.3 s.4)
unfolding after_by writes_by
part_little stopped w (r, p, a, x, y, b, t) = at_most_a_word _ _ none refl refl refl
part_little halts w (r, p, a, x, y, b, t) = at_most_a_word _ _ none refl refl refl
part_little compares w (r, p, a, x, y, b, t) = at_most_a_word _ _ none refl refl refl
part_little writes w (r, p, a, x, y, b, t) = at_most_a_word _ _ _ refl refl refl
part_little skips w (r, p, a, x, y, b, t) = at_most_a_word _ _ none refl refl refl
part_little computes w (r, p, a, x, y, b, t) = placed_little _ _ r p a x y b t _

step_little : (s : State) → InRange s → Little s (NEXT s) (written s)
step_little s g = rw (next_by_parts s g) (part_little (part s) (word s) s)

-- The most bytes of a record of each operation.
abbrev pub longest : Operation → ℕ
longest step = 14
longest reset = 21
longest force = 6
longest (set_word q v) = 14

-- A step's record has at most 14 bytes, a set's 14, a reset's 21, a force's 6.
pub at_most : (e : Operation) (s : State) → Valid s → unfitted (operate e) s ≡ false → length (record_for e s) ≤ longest e
at_most step s ok h = omega (arith, (undoes step s ok h).short, (step_little s ok.range).few)
at_most reset s ok h = omega (arith, (undoes reset s ok h).short, registers_three (machine_of s) (machine_of (next reset s)))
at_most force s ok h = omega (arith, (undoes force s ok h).short, same_registers (machine_of s) (machine_of (next force s)) refl refl refl)
at_most (set_word q v) s ok h =
    omega (arith, (undoes (set_word q v) s ok h).short, (at_most_a_word s (next (set_word q v) s) (writes_at (set_word q v) s) refl refl refl).few)

-- ---- a record touches no byte outside itself

-- Not one before it,
pub before_it : (trail : List ℕ) (used : ℕ) (r : List ℕ) (i : ℕ) → used ≤ length trail → i < used → get_or (put trail used r) i 0 ≡ get_or trail i 0
before_it trail used r i h k =
    let w : length (take used trail) ≡ used = simp length-take (omega arith) in
    get_or-append (take used trail) (r ++ drop (used + length r) trail) 0 i (omega arith) ∙ get_or-take used trail i 0 k

past : (trail : List ℕ) (used : ℕ) (r : List ℕ) (i : ℕ) → used ≤ length trail → get_or (put trail used r) (used + length r + i) 0 ≡ get_or trail (used + length r + i) 0
past trail used r i h =
    let w : length (take used trail ++ r) ≡ used + length r = simp (length-append, length-take) (omega arith) in
    let t : put trail used r ≡ (take used trail ++ r) ++ drop (used + length r) trail = sym (append_assoc (take used trail) r (drop (used + length r) trail)) in
    rw t
    (subst (λ (m : ℕ). get_or ((take used trail ++ r) ++ drop (used + length r) trail) (m + i) 0 ≡ get_or trail (used + length r + i) 0) w
    (get_or-append-add (take used trail ++ r) (drop (used + length r) trail) i 0 ∙ get_or-drop (used + length r) trail i 0))

-- and not one past it.
pub past_it : (trail : List ℕ) (used : ℕ) (r : List ℕ) (i : ℕ) → used ≤ length trail → used + length r ≤ i → get_or (put trail used r) i 0 ≡ get_or trail i 0
past_it trail used r i h k =
    let j : used + length r + (i - (used + length r)) ≡ i = omega arith in
    rw j at (past trail used r (i - (used + length r)) h)

-- ---- STOP is set

-- The report keeps the state, and the call answers 4 and leaves the bench.
pub stopped_keeps : (b : Bench) → LawfulBench b → b.state.6 ≡ true → (NEXT b.state ≡ b.state) × (outcome step b ≡ record { answered = Err Stopped; bench = b })
unfolding part_by after_by
stopped_keeps b l h =
    let s = b.state in
    let a = (refused_lowest (operate step) b Stopped).1 (record { itself = h; no_lower = λ q k. lawful_passes (operate step) b l q (omega arith) }) in
    (rw h (stays s.0 s.1 s.2 s.3 s.4 s.5), rw a)

-- ---- THE STEP

-- P, both stores and the count in use are lawful, STOP is clear, each word that the step touches is fitted, and the trail has room for its record.
pub record CanStep (b : Bench) : Type 0 where
  pub lawful : LawfulBench b
  pub clear : b.state.6 ≡ false
  pub touches : StepFitted b.state
  pub room : length (record_for step b.state) ≤ length b.trail - b.used

none_applies : (b : Bench) → CanStep b → (r : Refusal) → applies (operate step) b r ≡ false
none_applies b k PTooLarge = lawful_passes (operate step) b k.lawful PTooLarge (omega arith)
none_applies b k StoreTooLong = lawful_passes (operate step) b k.lawful StoreTooLong (omega arith)
none_applies b k CountTooLarge = lawful_passes (operate step) b k.lawful CountTooLarge (omega arith)
none_applies b k Stopped = k.clear
none_applies b k Unfitted = (unfitted_or_not b.state).1 k.touches
none_applies b k TrailFull = le-ltb (length b.trail - b.used) (length (record_for step b.state)) k.room
none_applies b k NothingInUse = refl
none_applies b k BrokenRecord = refl

-- Then the step is accepted, the machine and both stores are exactly NEXT's, and the record stands right after the bytes in use.
pub step_is_next : (b : Bench) → CanStep b
    → outcome step b
    ≡ record {
      answered = Ok tt;
      bench =
          record {
            state = NEXT b.state;
            trail = put b.trail b.used (record_for step b.state);
            used = b.used + length (record_for step b.state);
          };
    }
step_is_next b k = rw ((accepted_none (operate step) b).1 (none_applies b k))

-- So of the call itself, by its contract: it is not refused, and the machine it hands back with the stores it leaves is NEXT's state.
pub step_call_is_next : (m : Machine) (main ports trail : List ℕ) (used : ℕ) (r : Result After Refusal) (main' ports' trail' : List ℕ)
    → CanStep (bench m main ports trail used)
    → told r m used main' ports' trail' ≡ outcome step (bench m main ports trail used)
    → (a : After)
    × (r ≡ Ok a)
    × (state a.machine (ram main' ports') ≡ NEXT (state m (ram main ports)))
    × (trail' ≡ put trail used (record_for step (state m (ram main ports))))
    × (a.used ≡ used + length (record_for step (state m (ram main ports))))
step_call_is_next m main ports trail used (Ok a) main' ports' trail' k h =
    let e = h ∙ step_is_next (bench m main ports trail used) k in (
      a,
      refl,
      ap (λ (o : Outcome). o.bench.state) e,
      ap (λ (o : Outcome). o.bench.trail) e,
      ap (λ (o : Outcome). o.bench.used) e,
    )
step_call_is_next m main ports trail used (Err q) main' ports' trail' k h =
    let e = ap (λ (o : Outcome). o.answered) (h ∙ step_is_next (bench m main ports trail used) k) in
    cc
