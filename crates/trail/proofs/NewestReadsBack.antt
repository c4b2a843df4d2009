-- The record that stands at the end of the bytes in use is the newest one, whatever stands before it and after them; and a record that is read stands there:
-- L leads back to the first byte of the record, and its bytes read back.
-- Assumes nothing.
use Prim.Native.Nat.{ℕ, suc, ◌+◌, ◌-◌, ◌^◌, ◌<◌, ◌≤◌}
use mathlib.Core.Path.{◌≡◌, refl, ap, sym, ◌∙◌}
use mathlib.Core.Bool.{Bool, true, false, cond}
use mathlib.Core.Option.{Option, none, some}
use mathlib.Core.List.{List, [], ◌∷◌, ◌++◌, append_assoc}
use native.Mathlib.Omega.{arith}
use lib.Dec.{ltb}
use lib.ListN.{length, get_or, take, drop, length-append, take-append-drop}
use lib.Seq.{slice, take_at, drop_at, get_or_at, take-suc, take-take, length-slice, length-take-le}
use borrow.Author.Tests.{ltb-true, ltb-false, lt-ltb, le-ltb}
use Rattle.std.specs.Prelude.{Result, Ok, Err}
use Rattle.report.specs.AnnexA.{Mem, BV}
use Rattle.report.specs.Parts.{Where, fitted}
use Rattle.trail.specs.declared.OldValues.{OldValues}
use Rattle.trail.specs.declared.Newest.{Newest}
use Rattle.trail.specs.declared.Broken.{Broken}
use Rattle.trail.specs.Records.{marked, where_of_number, body_in, record_in, record_bytes, Good, GoodIn}
use Rattle.trail.specs.Newest.{read_in_form, broken_record, read_back, leaving, before_L_in, newest_in, newest, fits, only_fitted, newest_fitted}
use Rattle.trail.proofs.Lengths.{body_length_in}
use Rattle.trail.proofs.RecordsReadBack.{read_body_in, read_only_in}

-- Two answers that are the same hold the same old values and leave the same count.
pub read_same : {o q : OldValues} {m n : ℕ} → read_back o m ≡ read_back q n → (o ≡ q) × (m ≡ n)
read_same {o} {q} {m} {n} p =
    let e : ◌≡◌ {A = Newest} (record { values = o; left = m }) (record { values = q; left = n }) = cc in
    (ap (λ (r : Newest). r.values) e, ap (λ (r : Newest). r.left) e)

-- ---- L leads to the bytes before it

-- A record is broken if L is below 3 or above 28 (in the old form 2 and 27), or if fewer than L + 1 bytes are in use; else it is that of the L bytes before L.
module _ (kinds : Bool) (places : ℕ) (trail : List ℕ) (used : ℕ) where
  pub too_short : get_or trail (used - 1) 0 < 2 + BV kinds → newest_in kinds places trail used ≡ broken_record
  unfolding newest_in
  too_short h = rw (lt-ltb (get_or trail (used - 1) 0) (2 + BV kinds) h)

  pub too_long : 27 + BV kinds < get_or trail (used - 1) 0 → newest_in kinds places trail used ≡ broken_record
  unfolding newest_in
  too_long h = rw (le-ltb (get_or trail (used - 1) 0) (2 + BV kinds) (omega arith), lt-ltb (27 + BV kinds) (get_or trail (used - 1) 0) h)

  pub past_the_first : 2 + BV kinds ≤ get_or trail (used - 1) 0 → get_or trail (used - 1) 0 ≤ 27 + BV kinds → used - 1 < get_or trail (used - 1) 0 → newest_in kinds places trail used ≡ broken_record
  unfolding newest_in
  past_the_first h g l = rw (le-ltb (get_or trail (used - 1) 0) (2 + BV kinds) h, le-ltb (27 + BV kinds) (get_or trail (used - 1) 0) g, lt-ltb (used - 1) (get_or trail (used - 1) 0) l)

  pub by_L : 2 + BV kinds ≤ get_or trail (used - 1) 0 → get_or trail (used - 1) 0 ≤ 27 + BV kinds → get_or trail (used - 1) 0 ≤ used - 1
      → newest_in kinds places trail used ≡ leaving (used - 1 - get_or trail (used - 1) 0) (read_in_form kinds places (slice (used - 1 - get_or trail (used - 1) 0) (used - 1) trail))
  unfolding newest_in
  by_L h g l = rw (le-ltb (get_or trail (used - 1) 0) (2 + BV kinds) h, le-ltb (27 + BV kinds) (get_or trail (used - 1) 0) g, le-ltb (used - 1) (get_or trail (used - 1) 0) l)

-- The middle of three lists.
middle : (a b c : List ℕ) (m n : ℕ) → length a ≡ m → m + length b ≡ n → slice m n (a ++ (b ++ c)) ≡ b
middle a b c m n h g =
    rw (← append_assoc a b c, take_at (a ++ b) c n (length-append a b ∙ omega arith)) (drop_at a b m h)

-- Bytes and their count, after any bytes and before any.
newest_counted : (kinds : Bool) (places : ℕ) (front b rest : List ℕ) → 2 + BV kinds ≤ length b → length b ≤ 27 + BV kinds
    → newest_in kinds places (front ++ ((b ++ (length b ∷ [])) ++ rest)) (length front + length (b ++ (length b ∷ []))) ≡ leaving (length front) (read_in_form kinds places b)
newest_counted kinds places front b rest h g =
    let trail = front ++ (b ++ (length b ∷ rest)) in
    let end = length front + length b in
    let used = length front + length (b ++ (length b ∷ [])) in
    let r : front ++ ((b ++ (length b ∷ [])) ++ rest) ≡ trail = simp append_assoc in
    let u : used - 1 ≡ end = omega (arith, length-append b (length b ∷ [])) in
    let n : get_or trail (used - 1) 0 ≡ length b =
    rw (u, ← append_assoc front b (length b ∷ rest)) (get_or_at (front ++ b) (length b) rest 0 end (length-append front b))
    in
    let f : end - length b ≡ length front = omega arith in
    rw (r, by_L kinds places trail used (omega arith) (omega arith) (omega arith), n, u, f)
    (ap (λ (s : List ℕ). leaving (length front) (read_in_form kinds places s)) (middle front b (length b ∷ rest) (length front) end refl refl))

-- ---- what was added last is the newest

pub newest_added_in : (kinds : Bool) {places : ℕ} {o : OldValues} (front rest : List ℕ) → places ≤ 2 ^ 21 → GoodIn kinds places o
    → newest_in kinds places (front ++ (record_in kinds o ++ rest)) (length front + length (record_in kinds o)) ≡ read_back o (length front)
unfolding record_in
newest_added_in kinds {places} {o} front rest h g =
    let z = body_length_in kinds h g in
    newest_counted kinds places front (body_in kinds o) rest z.0 z.1
    ∙ ap (leaving (length front)) (read_body_in kinds (omega arith) g)

pub newest_added : {places : ℕ} {o : OldValues} (front rest : List ℕ) → places ≤ 2 ^ 21 → Good places o
    → newest places (front ++ (record_bytes o ++ rest)) (length front + length (record_bytes o)) ≡ read_back o (length front)
newest_added front rest h g = newest_added_in true front rest h g

-- Fitted in stores of these lengths is fitted in those stores.
pub fits_fitted : (ram : Mem) (q : Where) → fits (length ram.main) (length ram.ports) q ≡ fitted ram q
unfolding fitted
fits_fitted ram q = refl

-- The word's place is fitted in stores of these lengths, if a word is marked.
abbrev pub Fits : ℕ → ℕ → OldValues → Type 0
Fits main ports o = marked 8 o.marks ≡ true → fits main ports (where_of_number o.place) ≡ true

fitted_kept : (main ports : ℕ) (o : OldValues) (n : ℕ) → Fits main ports o → only_fitted main ports (read_back o n) ≡ read_back o n
fitted_kept main ports o n f = go (marked 8 o.marks) f
  where
    go : (t : Bool) → (t ≡ true → fits main ports (where_of_number o.place) ≡ true)
        → cond t (cond (fits main ports (where_of_number o.place)) (read_back o n) broken_record) (read_back o n) ≡ read_back o n
    go true e = rw (e refl)
    go false e = refl

pub newest_fitted_added : {o : OldValues} (main ports : ℕ) (front rest : List ℕ) → Good (2 ^ 21) o → Fits main ports o
    → newest_fitted main ports (front ++ (record_bytes o ++ rest)) (length front + length (record_bytes o)) ≡ read_back o (length front)
unfolding newest_fitted
newest_fitted_added {o} main ports front rest g f =
    ap (only_fitted main ports) (newest_added front rest (omega arith) g) ∙ fitted_kept main ports o (length front) f

-- The same of a trail whose bytes in use are known, in either form; and in the new one, with the word's place fitted.
pub newest_in_use_in : (kinds : Bool) {places : ℕ} {o : OldValues} (trail : List ℕ) (used : ℕ) (front : List ℕ) → places ≤ 2 ^ 21 → used ≤ length trail → take used trail ≡ front ++ record_in kinds o → GoodIn kinds places o
    → newest_in kinds places trail used ≡ read_back o (length front)
newest_in_use_in kinds {places} {o} trail used front b h e g =
    let t : front ++ (record_in kinds o ++ drop used trail) ≡ trail =
    sym (append_assoc front (record_in kinds o) (drop used trail)) ∙ rw (← e) (take-append-drop used trail)
    in
    let n : length front + length (record_in kinds o) ≡ used =
    sym (length-append front (record_in kinds o)) ∙ rw (← e) (length-take-le used trail h)
    in
    rw (t, n) at (newest_added_in kinds front (drop used trail) b g)

pub newest_in_use : {o : OldValues} (main ports : ℕ) (trail : List ℕ) (used : ℕ) (front : List ℕ) → used ≤ length trail → take used trail ≡ front ++ record_bytes o → Good (2 ^ 21) o → Fits main ports o
    → newest_fitted main ports trail used ≡ read_back o (length front)
newest_in_use {o} main ports trail used front h e g f =
    let t : front ++ (record_bytes o ++ drop used trail) ≡ trail =
    sym (append_assoc front (record_bytes o) (drop used trail)) ∙ rw (← e) (take-append-drop used trail)
    in
    let n : length front + length (record_bytes o) ≡ used =
    sym (length-append front (record_bytes o)) ∙ rw (← e) (length-take-le used trail h)
    in
    rw (t, n) at (newest_fitted_added main ports front (drop used trail) g f)

-- Two records of the same bytes hold the same old values.
pub record_injective : {places : ℕ} {o q : OldValues} → places ≤ 2 ^ 21 → Good places o → Good places q → record_bytes o ≡ record_bytes q → o ≡ q
record_injective {places} {o} {q} h g k e =
    let a = newest_added [] [] h g in
    let b : newest places ([] ++ (record_bytes o ++ [])) (length {A = ℕ} [] + length (record_bytes o)) ≡ read_back q 0 = rw e (newest_added [] [] h k) in
    (read_same (sym a ∙ b)).0

-- ---- a record that is read stands there

-- What L and the bytes before it are.
pub record Found (kinds : Bool) (places : ℕ) (trail : List ℕ) (end L : ℕ) (o : OldValues) (n : ℕ) : Type 0 where
  pub low : 2 + BV kinds ≤ L
  pub high : L ≤ 27 + BV kinds
  pub room : L ≤ end
  pub left : n ≡ end - L
  pub read : read_in_form kinds places (slice (end - L) end trail) ≡ some o

left_some : (m : ℕ) (r : Option OldValues) (o : OldValues) (n : ℕ) → leaving m r ≡ read_back o n → (n ≡ m) × (r ≡ some o)
left_some m none o n p = let z : ◌≡◌ {A = ℕ} 0 1 = cc in absurd (omega arith)
left_some m (some q) o n p =
    let e = read_same p in
    (sym e.1, ap some e.0)

found : (kinds : Bool) (places : ℕ) (trail : List ℕ) (end L : ℕ) (o : OldValues) (n : ℕ) → before_L_in kinds places trail end L ≡ read_back o n → Found kinds places trail end L o n
found kinds places trail end L o n p = go (ltb L (2 + BV kinds)) (ltb (27 + BV kinds) L) (ltb end L) refl refl refl p
  where
    go : (a b c : Bool)
        → ltb L (2 + BV kinds) ≡ a
        → ltb (27 + BV kinds) L ≡ b
        → ltb end L ≡ c
        → cond a broken_record (cond b broken_record (cond c broken_record (leaving (end - L) (read_in_form kinds places (slice (end - L) end trail))))) ≡ read_back o n
        → Found kinds places trail end L o n
    go true b c e f g q = let z : ◌≡◌ {A = ℕ} 0 1 = cc in absurd (omega arith)
    go false true c e f g q = let z : ◌≡◌ {A = ℕ} 0 1 = cc in absurd (omega arith)
    go false false true e f g q = let z : ◌≡◌ {A = ℕ} 0 1 = cc in absurd (omega arith)
    go false false false e f g q =
        let s = left_some (end - L) (read_in_form kinds places (slice (end - L) end trail)) o n q in
        record { low = ltb-false L (2 + BV kinds) e; high = ltb-false (27 + BV kinds) L f; room = ltb-false end L g; left = s.0; read = s.1 }

pub newest_found : (kinds : Bool) (places : ℕ) (trail : List ℕ) (used : ℕ) (o : OldValues) (n : ℕ) → newest_in kinds places trail used ≡ read_back o n
    → Found kinds places trail (used - 1) (get_or trail (used - 1) 0) o n
unfolding newest_in
newest_found kinds places trail used o n p = found kinds places trail (used - 1) (get_or trail (used - 1) 0) o n p

-- The bytes in use end in the record of o, after n bytes.
pub record StandsIn (kinds : Bool) (places : ℕ) (trail : List ℕ) (used : ℕ) (o : OldValues) (n : ℕ) : Type 0 where
  pub bytes : take used trail ≡ take n trail ++ record_in kinds o
  pub count : used ≡ n + length (record_in kinds o)
  pub good : GoodIn kinds places o

abbrev pub Stands : ℕ → List ℕ → ℕ → OldValues → ℕ → Type 0
Stands places trail used o n = StandsIn true places trail used o n

pub newest_stands_in : (kinds : Bool) {places : ℕ} {trail : List ℕ} {used : ℕ} {o : OldValues} {n : ℕ} → 0 < used → used ≤ length trail → newest_in kinds places trail used ≡ read_back o n → StandsIn kinds places trail used o n
unfolding newest_in record_in
newest_stands_in kinds {places} {trail} {used} {o} {n} h l p =
    let end = used - 1 in
    let L = get_or trail end 0 in
    let w = found kinds places trail end L o n p in
    let b = read_only_in kinds places (slice (end - L) end trail) o w.read in
    let c : length (body_in kinds o) ≡ L = ap length (sym b.0) ∙ length-slice (end - L) end trail (omega arith) ∙ omega (arith, w.room) in
    let u : used ≡ suc end = omega arith in
    let t : take used trail ≡ take end trail ++ (L ∷ []) = ap (λ (j : ℕ). take j trail) u ∙ take-suc trail end 0 (omega arith) in
    let m : take end trail ≡ take (end - L) trail ++ body_in kinds o =
    sym (take-append-drop (end - L) (take end trail)) ∙ rw (take-take (end - L) end trail (omega arith), b.0)
    in
    record {
      bytes = rw (t, m, w.left, c) (append_assoc (take (end - L) trail) (body_in kinds o) (L ∷ []));
      count = omega (arith, length-append (body_in kinds o) (length (body_in kinds o) ∷ []), w.left, w.room);
      good = b.1;
    }

pub newest_stands : {places : ℕ} {trail : List ℕ} {used : ℕ} {o : OldValues} {n : ℕ} → 0 < used → used ≤ length trail → newest places trail used ≡ read_back o n → Stands places trail used o n
newest_stands h l p = newest_stands_in true h l p

fitted_only : (main ports : ℕ) (r : Result Newest Broken) (o : OldValues) (n : ℕ) → only_fitted main ports r ≡ read_back o n → (r ≡ read_back o n) × Fits main ports o
fitted_only main ports (Err e) o n p = let z : ◌≡◌ {A = ℕ} 0 1 = cc in absurd (omega arith)
fitted_only main ports (Ok w) o n p = go (marked 8 w.values.marks) (fits main ports (where_of_number w.values.place)) refl refl p
  where
    same : Ok w ≡ read_back o n → w.values ≡ o
    same r = (read_same r).0

    go : (t u : Bool)
        → marked 8 w.values.marks ≡ t
        → fits main ports (where_of_number w.values.place) ≡ u
        → cond t (cond u (Ok w) broken_record) (Ok w) ≡ read_back o n
        → (Ok w ≡ read_back o n) × Fits main ports o
    go true true e f r = (r, λ _. rw (← same r) f)
    go true false e f r = let z : ◌≡◌ {A = ℕ} 0 1 = cc in absurd (omega arith)
    go false u e f r =
        let k : marked 8 o.marks ≡ false = rw (← same r) e in
        (r, λ j. let z : ◌≡◌ {A = Bool} false true = sym k ∙ j in let y : ◌≡◌ {A = ℕ} 0 1 = cc in absurd (omega arith))

pub newest_fitted_stands : (main ports : ℕ) {trail : List ℕ} {used : ℕ} {o : OldValues} {n : ℕ} → 0 < used → used ≤ length trail → newest_fitted main ports trail used ≡ read_back o n
    → Stands (2 ^ 21) trail used o n × Fits main ports o
unfolding newest_fitted
newest_fitted_stands main ports {trail} {used} {o} {n} h l p =
    let e = fitted_only main ports (newest (2 ^ 21) trail used) o n p in
    (newest_stands h l e.0, e.1)

-- The bound on a place's number refuses no place that is fitted.
pub fitted_below : (main ports n : ℕ) → main ≤ 2 ^ 20 → ports ≤ 2 ^ 20 → fits main ports (where_of_number n) ≡ true → n < 2 ^ 21
fitted_below main ports n h g = go (ltb n (2 ^ 20)) refl
  where
    go : (t : Bool) → ltb n (2 ^ 20) ≡ t → fits main ports (cond t (false, n) (true, n - 2 ^ 20)) ≡ true → n < 2 ^ 21
    go true e f = omega (arith, ltb-true n (2 ^ 20) e)
    go false e f = omega (arith, ltb-false n (2 ^ 20) e, ltb-true (n - 2 ^ 20) ports f)
