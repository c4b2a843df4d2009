-- What a place of the text holds: a byte of two digits, bytes in a row, the end of a line.
-- Assumes nothing.
use Prim.Native.Nat.{ℕ, zero, suc, ◌+◌, ◌*◌, ◌%◌, ◌≤◌, ◌<◌}
use mathlib.Core.Path.{◌≡◌, refl, ap, sym, ◌∙◌}
use mathlib.Core.Bool.{Bool, true, false, cond, ◌&&◌}
use mathlib.Core.List.{List, [], ◌∷◌, ◌++◌}
use native.Mathlib.Omega.{arith}
use native.Mathlib.Nat.{add-zero, zero-add}
use Rattle.std.proofs.lemmas.Bool.{and_parts}
use lib.Dec.{ltb, eqb}
use lib.ListN.{length, get_or, drop, drop_of_length-le, get_or-eq_default}
use lib.Seq.{get_or-drop, drop-drop}
use borrow.Author.Tests.{lt-ltb, le-ltb, ltb-true, ltb-false}
use Rattle.text.specs.Digits.{digit_value}
use Rattle.intel_hex.specs.Digits.{byte_of, byte, some_byte}
use Rattle.std.specs.Prelude.{sum, Option, Some, None}
use Rattle.std.proofs.lemmas.List.Sums.{sum_by_push}
use native.Mathlib.Numerals.{add-one}
use Rattle.intel_hex.specs.Lines.{bytes, all_bytes, summed, ending_of, ending}

module _ (high low : ℕ) where
  pub no_high : 16 ≤ high → byte_of high low ≡ 256
  unfolding byte_of
  no_high h = rw (le-ltb high 16 h)

  pub no_low : high < 16 → 16 ≤ low → byte_of high low ≡ 256
  unfolding byte_of
  no_low g h = rw (lt-ltb high 16 g, le-ltb low 16 h)

  pub both : high < 16 → low < 16 → byte_of high low ≡ 16 * high + low
  unfolding byte_of
  both g h = rw (lt-ltb high 16 g, lt-ltb low 16 h)

never_low : (high : ℕ) → byte_of high 16 ≡ 256
never_low high = go (ltb high 16) refl
  where
    go : (t : Bool) → ltb high 16 ≡ t → byte_of high 16 ≡ 256
    go true e = no_low high 16 (ltb-true high 16 e) (omega arith)
    go false e = no_high high 16 (ltb-false high 16 e)

pub no_sign : digit_value 0 ≡ 16
unfolding digit_value
no_sign = refl

module _ (text : List ℕ) (at : ℕ) where
  pub byte_there : byte (drop at text) ≡ byte_of (digit_value (get_or text at 0)) (digit_value (get_or text (at + 1) 0))
  unfolding byte
  byte_there = rw (get_or-drop at text 0 0, get_or-drop at text 1 0, add-zero)

  pub byte_past : length text ≤ at → byte (drop at text) ≡ 256
  unfolding byte byte_of digit_value
  byte_past h = rw (drop_of_length-le text h)

  pub byte_short : length text ≤ at + 1 → byte (drop at text) ≡ 256
  unfolding digit_value
  byte_short h =
      byte_there ∙ rw (get_or-eq_default text 0 {n = at + 1} h) (never_low (digit_value (get_or text at 0)))

  -- A byte's two digits stand in the text.
  pub byte_within : byte (drop at text) < 256 → at + 2 ≤ length text
  unfolding digit_value
  byte_within h = go (ltb (at + 1) (length text)) refl
    where
      go : (t : Bool) → ltb (at + 1) (length text) ≡ t → at + 2 ≤ length text
      go true e = omega (arith, ltb-true (at + 1) (length text) e)
      go false e =
          let d : get_or text (at + 1) 0 ≡ 0 = get_or-eq_default text 0 {n = at + 1} (ltb-false (at + 1) (length text) e) in
          let n : byte (drop at text) ≡ 256 = byte_there ∙ rw d (never_low (digit_value (get_or text at 0))) in
          absurd (omega arith)

pub none_there : {A : Type 0} {n : ℕ} → n < 256 → ◌≡◌ {A = Option ℕ} None (some_byte n) → A
none_there {n = n} h e =
    let f : ◌≡◌ {A = Option ℕ} None (Some n) = rw (lt-ltb n 256 h) at e in
    cc

pub no_byte : (n : ℕ) → ◌≡◌ {A = Option ℕ} None (some_byte n) → 256 ≤ n
no_byte n e = go (ltb n 256) refl
  where
    go : (t : Bool) → ltb n 256 ≡ t → 256 ≤ n
    go true q = none_there (ltb-true n 256 q) e
    go false q = ltb-false n 256 q

pub is_byte : (n b : ℕ) → ◌≡◌ {A = Option ℕ} (Some b) (some_byte n) → (b ≡ n) × (n < 256)
is_byte n b e = go (ltb n 256) refl e
  where
    go : (t : Bool) → ltb n 256 ≡ t → ◌≡◌ {A = Option ℕ} (Some b) (cond t (Some n) None) → (b ≡ n) × (n < 256)
    go true q f = (cc, ltb-true n 256 q)
    go false q f = cc

-- Of bytes in a row each is one.
pub each_byte : (k j : ℕ) (signs : List ℕ) → all_bytes (bytes k signs) ≡ true → j < k → byte (drop (2 * j) signs) < 256
each_byte zero j signs e h = absurd (omega arith)
each_byte (suc k) zero signs e h = ltb-true (byte signs) 256 (and_parts (ltb (byte signs) 256) (all_bytes (bytes k (drop 2 signs))) e).0
each_byte (suc k) (suc j) signs e h =
    let t = (and_parts (ltb (byte signs) 256) (all_bytes (bytes k (drop 2 signs))) e).1 in
    let m : 2 + 2 * j ≡ 2 * suc j = omega arith in
    let d : drop (2 * j) (drop 2 signs) ≡ drop (2 * suc j) signs = rw (drop-drop (2 * j) 2 signs, m) in
    rw d at (each_byte k j (drop 2 signs) t (omega arith))

pub bytes_after : (j k : ℕ) (signs : List ℕ) → all_bytes (bytes (j + k) signs) ≡ true → all_bytes (bytes k (drop (2 * j) signs)) ≡ true
bytes_after zero k signs e = rw zero-add at e
bytes_after (suc j) k signs e =
    let n : suc j + k ≡ suc (j + k) = omega arith in
    let e' : all_bytes (bytes (suc (j + k)) signs) ≡ true = rw n at e in
    let t = (and_parts (ltb (byte signs) 256) (all_bytes (bytes (j + k) (drop 2 signs))) e').1 in
    let m : 2 + 2 * j ≡ 2 * suc j = omega arith in
    let d : drop (2 * j) (drop 2 signs) ≡ drop (2 * suc j) signs = rw (drop-drop (2 * j) 2 signs, m) in
    rw d at (bytes_after j k (drop 2 signs) t)

pub bytes_before : (k j : ℕ) (signs : List ℕ) → all_bytes (bytes (k + j) signs) ≡ true → all_bytes (bytes k signs) ≡ true
bytes_before zero j signs e = refl
bytes_before (suc k) j signs e =
    let n : suc k + j ≡ suc (k + j) = omega arith in
    let e' : all_bytes (bytes (suc (k + j)) signs) ≡ true = rw n at e in
    let t = and_parts (ltb (byte signs) 256) (all_bytes (bytes (k + j) (drop 2 signs))) e' in
    rw t.0 (bytes_before k j (drop 2 signs) t.1)

pub all_append : (a b : List ℕ) → all_bytes a ≡ true → all_bytes b ≡ true → all_bytes (a ++ b) ≡ true
all_append [] b e f = f
all_append (x ∷ a) b e f =
    let t = and_parts (ltb x 256) (all_bytes a) e in
    rw t.0 (all_append a b t.1 f)

-- One byte more.
bytes_more : (k : ℕ) (signs : List ℕ) → bytes (suc k) signs ≡ bytes k signs ++ (byte (drop (2 * k) signs) ∷ [])
bytes_more zero signs = refl
bytes_more (suc k) signs =
    let m : 2 + 2 * k ≡ 2 * suc k = omega arith in
    rw (bytes_more k (drop 2 signs), drop-drop (2 * k) 2 signs, m)

module _ (bs : List ℕ) where
  pub not_summed : all_bytes bs ≡ false → summed bs ≡ 256
  unfolding summed
  not_summed e = rw e

  pub summed_is : all_bytes bs ≡ true → summed bs ≡ sum bs % 256
  unfolding summed
  summed_is e = rw e

  pub summed_none : summed bs ≡ 0 → all_bytes bs ≡ true
  unfolding summed
  summed_none e = go (all_bytes bs) refl
    where
      go : (t : Bool) → all_bytes bs ≡ t → all_bytes bs ≡ true
      go true q = q
      go false q =
          let z : ◌≡◌ {A = ℕ} 256 0 = sym (not_summed q) ∙ e in
          absurd (omega arith)

pub ending_small : (rest : List ℕ) → ending rest ≤ 2
unfolding ending ending_of
ending_small rest = go (eqb (get_or rest 0 0) 10) (eqb (get_or rest 0 0) 13 && eqb (get_or rest 1 0) 10)
  where
    go : (s t : Bool) → cond s 1 (cond t 2 0) ≤ 2
    go true t = omega arith
    go false true = omega arith
    go false false = omega arith

pub ending_within : (rest : List ℕ) → 0 < ending rest → ending rest ≤ length rest
unfolding ending ending_of
ending_within [] h = absurd (omega arith)
ending_within (a ∷ []) h = go (eqb a 10) (eqb a 13) refl refl
  where
    go : (s t : Bool) → eqb a 10 ≡ s → eqb a 13 ≡ t → ending (a ∷ []) ≤ 1
    go true t e f = rw e (omega arith)
    go false true e f = rw (e, f) (omega arith)
    go false false e f = rw (e, f) (omega arith)
ending_within (a ∷ b ∷ rest) h = go (eqb a 10) (eqb a 13) (eqb b 10) refl refl refl
  where
    go : (s t u : Bool) → eqb a 10 ≡ s → eqb a 13 ≡ t → eqb b 10 ≡ u → ending (a ∷ b ∷ rest) ≤ suc (suc (length rest))
    go true t u e f g = rw e (omega arith)
    go false true true e f g = rw (e, f, g) (omega arith)
    go false true false e f g = rw (e, f, g) (omega arith)
    go false false u e f g = rw (e, f) (omega arith)

-- A byte that is none has no sum.
pub lacks_byte : (count k : ℕ) (signs : List ℕ) → k < count → 256 ≤ byte (drop (2 * k) signs) → summed (bytes count signs) ≡ 256
lacks_byte count k signs h g = go (all_bytes (bytes count signs)) refl
  where
    go : (t : Bool) → all_bytes (bytes count signs) ≡ t → summed (bytes count signs) ≡ 256
    go true e = absurd (omega (arith, each_byte count k signs e h))
    go false e = not_summed (bytes count signs) e

module _ (k b : ℕ) (signs : List ℕ) (e : ◌≡◌ {A = Option ℕ} (Some b) (some_byte (byte (drop (2 * k) signs)))) where
  more : bytes (k + 1) signs ≡ bytes k signs ++ (byte (drop (2 * k) signs) ∷ [])
  more = ap (λ (n : ℕ). bytes n signs) (add-one k) ∙ bytes_more k signs

  pub all_more : all_bytes (bytes k signs) ≡ true → all_bytes (bytes (k + 1) signs) ≡ true
  all_more h =
      let i = is_byte (byte (drop (2 * k) signs)) b e in
      let one : all_bytes (byte (drop (2 * k) signs) ∷ []) ≡ true = rw (lt-ltb (byte (drop (2 * k) signs)) 256 i.1) in
      ap all_bytes more ∙ all_append (bytes k signs) (byte (drop (2 * k) signs) ∷ []) h one

  pub sum_more : sum (bytes (k + 1) signs) ≡ sum (bytes k signs) + b
  sum_more =
      let i = is_byte (byte (drop (2 * k) signs)) b e in
      ap sum more ∙ rw i.0 (sum_by_push (λ x. x) (bytes k signs) (byte (drop (2 * k) signs)))
