-- One law for each way out of the functions that judge a trail, and what the loop that counts its records keeps.
-- Assumes nothing.
use Prim.Native.Nat.{ℕ, ◌+◌, ◌-◌, ◌^◌, ◌<◌, ◌≤◌}
use mathlib.Core.Path.{◌≡◌, refl, ap, sym, ◌∙◌}
use mathlib.Core.Bool.{Bool}
use mathlib.Core.Option.{Option, none, some}
use mathlib.Core.List.{List, [], ◌∷◌, ◌++◌, append_assoc, append-nil}
use native.Mathlib.Omega.{arith}
use lib.ListN.{length, get_or, length-append}
use lib.Seq.{slice}
use Rattle.report.specs.AnnexA.{BV}
use Rattle.trail.specs.declared.OldValues.{OldValues}
use Rattle.trail.specs.declared.Newest.{Newest}
use Rattle.std.specs.Prelude.{Result, Ok, Err}
use Rattle.trail.specs.declared.Broken.{Broken}
use Rattle.trail.specs.Records.{record_in}
use Rattle.trail.specs.Newest.{read_in_form, leaving, newest_in, broken_record, read_back}
use Rattle.trail.proofs.NewestReadsBack.{by_L}
use Rattle.moving.specs.Rows.{row, GoodRow, newer, records_of, records}
use Rattle.moving.specs.Moving.{start_of, count_of}
use Rattle.moving.proofs.Entries.{entry_length}
use Rattle.moving.proofs.Division.{shorter, none_of, broken_of, ends_of, only}

-- ---- the ways out after the tests on L; r is what the code found of the bytes before it

module _ (kinds : Bool) (s : List ℕ) (used L : ℕ) (is : get_or s (used - 1) 0 ≡ L) (low : 2 + BV kinds ≤ L) (high : L ≤ 27 + BV kinds) (room : L ≤ used - 1) where
  after_L : newest_in kinds (2 ^ 21) s used ≡ leaving (used - 1 - L) (read_in_form kinds (2 ^ 21) (slice (used - 1 - L) (used - 1) s))
  after_L = by_L kinds (2 ^ 21) s used (omega arith) (omega arith) (omega arith) ∙ rw is

  pub by_record : {r : Result Newest Broken} → r ≡ leaving (used - 1 - L) (read_in_form kinds (2 ^ 21) (slice (used - 1 - L) (used - 1) s)) → {q : Result Newest Broken} → r ≡ q → start_of q ≡ start_of (newest_in kinds (2 ^ 21) s used)
  by_record p e = ap start_of (sym e ∙ p ∙ sym after_L)

-- ---- counting

abbrev pub after : List OldValues → Option (List OldValues) → Option (List OldValues)
after es none = none
after es (some fs) = some (es ++ fs)

after_none : (r : Option (List OldValues)) → after [] r ≡ r
after_none none = refl
after_none (some fs) = refl

after_one : (es : List OldValues) (e : OldValues) (r : Option (List OldValues)) → after es (newer e r) ≡ after (es ++ (e ∷ [])) r
after_one es e none = refl
after_one es e (some fs) = ap some (sym (append_assoc es (e ∷ []) fs))

-- What the code found of the newest record.
begins : (r : Result Newest Broken) (n : ℕ) → start_of r ≡ Ok n → (G : Type 0) → ((e : OldValues) → r ≡ read_back e n → G) → G
begins (Err x) n p G then = absurd (cc)
begins (Ok m) n p G then = let q : m.left ≡ n = cc in then m.values (ap (read_back m.values) q)

lacks : (r : Result Newest Broken) (e : Broken) → start_of r ≡ Err e → r ≡ broken_record
lacks (Err x) e p = refl
lacks (Ok m) e p = absurd (cc)

-- The n newest records are found, and those of the first `used` bytes are still to be.
pub record Counting (kinds : Bool) (s : List ℕ) (used n : ℕ) : Type 0 where
  pub found : List OldValues
  pub whole : records kinds s ≡ after found (records_of kinds s used)
  pub count : n ≡ length found
  pub few : n + used ≤ length s

pub starts : (kinds : Bool) (s : List ℕ) → Counting kinds s (length s) 0
starts kinds s = record { found = []; whole = sym (after_none (records kinds s)); count = refl; few = omega arith }

module _ {kinds : Bool} {s : List ℕ} {used n : ℕ} (g : Counting kinds s used n) where
  pub stops : 0 < used → {e : Broken} → Err e ≡ start_of (newest_in kinds (2 ^ 21) s used) → count_of (records kinds s) ≡ Err (record {})
  stops h {e} p = rw (g.whole, broken_of kinds s used h (lacks (newest_in kinds (2 ^ 21) s used) e (sym p)))

  -- The newest begins after m bytes.
  module _ (h : 0 < used) {m : ℕ} (p : Ok m ≡ start_of (newest_in kinds (2 ^ 21) s used)) where
    pub goes_down : m < used
    goes_down = begins (newest_in kinds (2 ^ 21) s used) m (sym p) (m < used) (λ e l. shorter kinds s used e m h l)

    pub goes_on : Counting kinds s m (n + 1)
    goes_on =
        let less = goes_down in
        begins (newest_in kinds (2 ^ 21) s used) m (sym p) (Counting kinds s m (n + 1)) (λ e l. record {
          found = g.found ++ (e ∷ []);
          whole = g.whole ∙ ap (after g.found) (ends_of kinds s used e m h l) ∙ after_one g.found e (records_of kinds s m);
          count = omega (arith, g.count, length-append g.found (e ∷ []));
          few = omega (arith, g.few);
        })

  pub ends : used ≤ 0 → count_of (records kinds s) ≡ Ok n
  ends h =
      let z : used ≡ 0 = omega arith in
      rw (g.whole, z, none_of kinds s, append-nil, g.count)

-- ---- how many there can be

pub row_few : (kinds : Bool) (es : List OldValues) → GoodRow kinds es → length es ≤ length (row kinds es)
row_few kinds [] g = omega arith
row_few kinds (e ∷ es) g =
    omega (arith, row_few kinds es g.1, length-append (row kinds es) (record_in kinds e), entry_length kinds e)

pub records_few : (kinds : Bool) (s : List ℕ) (es : List OldValues) → records kinds s ≡ some es → length es ≤ length s
records_few kinds s es p =
    let w = only kinds s es p in
    omega (arith, row_few kinds es w.1, ap length w.0)

-- What the code counted.
pub counted : (r : Option (List OldValues)) (n : ℕ) → count_of r ≡ Ok n → (G : Type 0) → ((es : List OldValues) → r ≡ some es → n ≡ length es → G) → G
counted none n p G then = absurd (cc)
counted (some es) n p G then = then es refl (cc)

pub uncounted : (r : Option (List OldValues)) (e : Broken) → count_of r ≡ Err e → r ≡ none
uncounted none e p = refl
uncounted (some es) e p = absurd (cc)
