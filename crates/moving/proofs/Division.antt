-- Bytes are some records in a row exactly if they read as those, from the end; and there is only one such row.
-- Assumes nothing.
use Prim.Native.Nat.{ℕ, zero, suc, ◌+◌, ◌^◌, ◌<◌, ◌≤◌}
use mathlib.Core.Path.{◌≡◌, refl, ap, sym, ◌∙◌}
use mathlib.Core.Bool.{Bool, true, false, not}
use mathlib.Core.Option.{Option, none, some}
use mathlib.Core.List.{List, [], ◌∷◌, ◌++◌}
use native.Mathlib.Omega.{arith}
use lib.ListN.{length, take, length-append}
use lib.Seq.{take_at, take-take, take-length, length-take-le}
use Rattle.trail.specs.declared.OldValues.{OldValues}
use Rattle.trail.specs.declared.Newest.{Newest}
use Rattle.std.specs.Prelude.{Result, Ok, Err}
use Rattle.trail.specs.declared.Broken.{Broken}
use Rattle.trail.specs.Records.{record_in}
use Rattle.trail.specs.Newest.{newest_in, broken_record, read_back}
use Rattle.trail.proofs.NewestReadsBack.{newest_found, newest_in_use_in, newest_stands_in}
use Rattle.moving.specs.Rows.{row, GoodRow, newer, and_before, at_most, records_of, records}
use Rattle.moving.specs.Moving.{moved_length}
use Rattle.moving.proofs.Entries.{entry_length}

-- ---- the records, one after another from the end

module _ (kinds : Bool) (s : List ℕ) where
  -- Fewer bytes stand before a record.
  pub shorter : (used : ℕ) (e : OldValues) (n : ℕ) → 0 < used → newest_in kinds (2 ^ 21) s used ≡ read_back e n → n < used
  shorter used e n h p = omega (arith, (newest_found kinds (2 ^ 21) s used e n p).left)

  -- Once it is at least the count of bytes, it does not matter how many records there may be.
  enough : (k l used : ℕ) → used ≤ k → used ≤ l → at_most k kinds s used ≡ at_most l kinds s used
  unfolding at_most
  enough zero zero used h g = refl
  enough zero (suc l) used h g = let e : used ≡ 0 = omega arith in rw e
  enough (suc k) zero used h g = let e : used ≡ 0 = omega arith in rw e
  enough (suc k) (suc l) used h g = go used h g (enough k l)
    where
      go : (u : ℕ) → u ≤ suc k → u ≤ suc l → ((m : ℕ) → m ≤ k → m ≤ l → at_most k kinds s m ≡ at_most l kinds s m) → at_most (suc k) kinds s u ≡ at_most (suc l) kinds s u
      go zero h g ih = refl
      go (suc n) h g ih = at (newest_in kinds (2 ^ 21) s (suc n)) refl
        where
          at : (r : Result Newest Broken) → newest_in kinds (2 ^ 21) s (suc n) ≡ r → and_before r (λ m. at_most k kinds s m) ≡ and_before r (λ m. at_most l kinds s m)
          at (Err x) p = refl
          at (Ok r) p =
              let l = shorter (suc n) r.values r.left (omega arith) p in
              ap (newer r.values) (ih r.left (omega arith) (omega arith))

  pub none_of : records_of kinds s 0 ≡ some []
  unfolding records_of at_most
  none_of = refl

  pub one_more : (used : ℕ) → 0 < used → records_of kinds s used ≡ and_before (newest_in kinds (2 ^ 21) s used) (λ n. records_of kinds s n)
  unfolding records_of at_most
  one_more zero h = absurd (omega arith)
  one_more (suc n) h = at (newest_in kinds (2 ^ 21) s (suc n)) refl
    where
      at : (r : Result Newest Broken) → newest_in kinds (2 ^ 21) s (suc n) ≡ r → and_before r (λ m. at_most n kinds s m) ≡ and_before r (λ m. at_most m kinds s m)
      at (Err x) p = refl
      at (Ok r) p =
          let l = shorter (suc n) r.values r.left (omega arith) p in
          ap (newer r.values) (enough n r.left r.left (omega arith) (omega arith))

  -- By the newest: it is broken, or it stands after others.
  pub broken_of : (used : ℕ) → 0 < used → newest_in kinds (2 ^ 21) s used ≡ broken_record → records_of kinds s used ≡ none
  broken_of used h p = one_more used h ∙ rw p

  pub ends_of : (used : ℕ) (e : OldValues) (n : ℕ) → 0 < used → newest_in kinds (2 ^ 21) s used ≡ read_back e n → records_of kinds s used ≡ newer e (records_of kinds s n)
  ends_of used e n h p = one_more used h ∙ rw p

  -- Where there is a byte, the records are the newest and those before it.
  pub record Parted (used : ℕ) (es : List OldValues) : Type 0 where
    pub entry : OldValues
    pub left : ℕ
    pub older : List OldValues
    pub whole : es ≡ entry ∷ older
    pub last : newest_in kinds (2 ^ 21) s used ≡ read_back entry left
    pub before : records_of kinds s left ≡ some older

  pub parted : (used : ℕ) (es : List OldValues) → 0 < used → records_of kinds s used ≡ some es → Parted used es
  parted used es h p = go (newest_in kinds (2 ^ 21) s used) refl (sym (one_more used h) ∙ p)
    where
      on : (e : OldValues) (n : ℕ) (r : Option (List OldValues)) → newest_in kinds (2 ^ 21) s used ≡ read_back e n → records_of kinds s n ≡ r → newer e r ≡ some es → Parted used es
      on e n none q f w = let z : ◌≡◌ {A = ℕ} 0 1 = cc in absurd (omega arith)
      on e n (some fs) q f w = record { entry = e; left = n; older = fs; whole = cc; last = q; before = f }

      go : (r : Result Newest Broken) → newest_in kinds (2 ^ 21) s used ≡ r → and_before r (λ n. records_of kinds s n) ≡ some es → Parted used es
      go (Err x) q w = let z : ◌≡◌ {A = ℕ} 0 1 = cc in absurd (omega arith)
      go (Ok r) q w = on r.values r.left (records_of kinds s r.left) q refl w

  -- ---- a row reads as its records

  pub row_reads : (es : List OldValues) (used : ℕ) → used ≤ length s → take used s ≡ row kinds es → GoodRow kinds es → records_of kinds s used ≡ some es
  row_reads [] used h p g =
      let e : used ≡ 0 = sym (length-take-le used s h) ∙ ap length p in
      rw e none_of
  row_reads (e ∷ es) used h p g =
      let m = length (row kinds es) in
      let u : used ≡ m + length (record_in kinds e) = sym (length-take-le used s h) ∙ ap length p ∙ length-append (row kinds es) (record_in kinds e) in
      let l = newest_in_use_in kinds s used (row kinds es) (omega arith) h p g.0 in
      let before : take m s ≡ row kinds es =
      sym (take-take m used s (omega arith)) ∙ ap (take m) p ∙ take_at (row kinds es) (record_in kinds e) m refl
      in
      let some_byte : 0 < used = omega (arith, entry_length kinds e) in
      ends_of used e m some_byte l ∙ ap (newer e) (row_reads es m (omega arith) before g.1)

  -- What reads as records is their row.
  pub row_only : (es : List OldValues) (used : ℕ) → used ≤ length s → records_of kinds s used ≡ some es → (take used s ≡ row kinds es) × GoodRow kinds es
  row_only [] used h p = go used p
    where
      go : (u : ℕ) → records_of kinds s u ≡ some [] → (take u s ≡ []) × GoodRow kinds []
      go zero q = (refl, tt)
      go (suc n) q =
          let w = (parted (suc n) [] (omega arith) q).whole in
          let z : ◌≡◌ {A = ℕ} 0 1 = cc in
          absurd (omega arith)
  row_only (e ∷ es) used h p = go used h p (row_only es)
    where
      go : (u : ℕ)
          → u ≤ length s
          → records_of kinds s u ≡ some (e ∷ es)
          → ((n : ℕ) → n ≤ length s → records_of kinds s n ≡ some es → (take n s ≡ row kinds es) × GoodRow kinds es)
          → (take u s ≡ row kinds (e ∷ es)) × GoodRow kinds (e ∷ es)
      go zero h q ih =
          let w : ◌≡◌ {A = Option (List OldValues)} (some []) (some (e ∷ es)) = sym none_of ∙ q in
          let z : ◌≡◌ {A = ℕ} 0 1 = cc in
          absurd (omega arith)
      go (suc n) h q ih =
          let w = parted (suc n) (e ∷ es) (omega arith) q in
          let whole = w.whole in
          let same : w.entry ≡ e = cc in
          let others : w.older ≡ es = cc in
          let last : newest_in kinds (2 ^ 21) s (suc n) ≡ read_back e w.left = w.last ∙ ap (λ (x : OldValues). read_back x w.left) same in
          let t = newest_stands_in kinds (omega arith) h last in
          let r = ih w.left (omega (arith, t.count)) (w.before ∙ ap some others) in
          (t.bytes ∙ ap (λ (x : List ℕ). x ++ record_in kinds e) r.0, (t.good, r.1))

-- ---- all of the bytes

-- Bytes read as records exactly if they are a row of them.
pub reads : (kinds : Bool) (es : List OldValues) → GoodRow kinds es → records kinds (row kinds es) ≡ some es
reads kinds es g = row_reads kinds (row kinds es) es (length (row kinds es)) (omega arith) (take-length (row kinds es)) g

pub only : (kinds : Bool) (s : List ℕ) (es : List OldValues) → records kinds s ≡ some es → (s ≡ row kinds es) × GoodRow kinds es
only kinds s es p =
    let r = row_only kinds s es (length s) (omega arith) p in
    (sym (take-length s) ∙ r.0, r.1)

-- One division into records: two rows of the same bytes are the same.
pub one_division : (kinds : Bool) (es fs : List OldValues) → GoodRow kinds es → GoodRow kinds fs → row kinds es ≡ row kinds fs → es ≡ fs
one_division kinds es fs g h p =
    let q : some es ≡ some fs = sym (reads kinds es g) ∙ ap (records kinds) p ∙ reads kinds fs h in
    cc

-- ---- how long a row is: a byte more for each record in the new form

pub row_lengths : (es : List OldValues) → length (row true es) ≡ length (row false es) + length es
row_lengths [] = refl
row_lengths (e ∷ es) =
    omega (arith, row_lengths es, length-append (row true es) (record_in true e), length-append (row false es) (record_in false e), entry_length true e, entry_length false e)

-- So many bytes has a trail, moved.
pub moved_lengths : (new : Bool) (s : List ℕ) (es : List OldValues) → records (not new) s ≡ some es → length (row new es) ≡ moved_length new (length s) (length es)
moved_lengths true s es p =
    let w = only false s es p in
    row_lengths es ∙ ap (λ (n : ℕ). n + length es) (sym (ap length w.0))
moved_lengths false s es p =
    let w = only true s es p in
    omega (arith, row_lengths es, ap length w.0)
