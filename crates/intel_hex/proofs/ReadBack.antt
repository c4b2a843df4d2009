-- Reading undoes writing: a record that was written is read as its type, count, address and data, and the next line starts after it,
-- whether or not a carriage return was put before its line feed.
-- Assumes nothing.
use Prim.Native.Nat.{ℕ, suc, ◌+◌, ◌*◌, ◌/◌, ◌%◌, ◌<◌}
use mathlib.Core.Path.{◌≡◌, refl, ap, ◌∙◌}
use mathlib.Core.Bool.{Bool, true, false}
use mathlib.Core.List.{List, [], ◌∷◌, ◌++◌, append_assoc}
use native.Mathlib.Omega.{arith}
use Rattle.std.specs.Prelude.{sum}
use Rattle.std.proofs.lemmas.List.Sums.{sum_by_from, sum_by_push}
use Rattle.std.proofs.lemmas.Bool.{and_parts}
use lib.Dec.{ltb}
use lib.ListN.{length, drop, length-append}
use lib.Seq.{drop_at, drop-drop}
use borrow.Author.Tests.{ltb-true, lt-ltb}
use Rattle.text.proofs.ReadBack.{digit_again}
use Rattle.intel_hex.specs.Digits.{digits_of, byte}
use Rattle.intel_hex.specs.Layout.{pairs, sum_byte, head_bytes, record_line, word_bytes}
use Rattle.intel_hex.specs.Lines.{bytes, all_bytes, summed, count_of, address_of, type_of, size_of, well_formed, by_type, layout_of, line_of}
use Rattle.intel_hex.specs.Imported.{word_of}
use Rattle.intel_hex.specs.Returns.{first_choice, other_choices, with_returns}
use Rattle.intel_hex.proofs.Bytes.{all_append, both, summed_is}
use Rattle.intel_hex.proofs.Lengths.{pairs_append, pairs_length}
use Rattle.intel_hex.proofs.Returns.{feed, feed_size, feed_ends, feed_some, after_feed, feed_chosen, others_stay, pairs_stay}

pub byte_again : (x : ℕ) (more : List ℕ) → x < 256 → byte (digits_of x ++ more) ≡ x
unfolding byte
byte_again x more h =
    let v : 16 * (x / 16 % 16) + x % 16 ≡ x = omega arith in
    rw (
      digit_again (x / 16 % 16) (omega arith),
      digit_again (x % 16) (omega arith),
      both (x / 16 % 16) (x % 16) (omega arith) (omega arith),
    ) v

bytes_again : (bs rest : List ℕ) → all_bytes bs ≡ true → bytes (length bs) (pairs bs ++ rest) ≡ bs
bytes_again [] rest e = refl
bytes_again (b ∷ bs) rest e =
    let t = and_parts (ltb b 256) (all_bytes bs) e in
    rw (byte_again b (pairs bs ++ rest) (ltb-true b 256 t.0), bytes_again bs rest t.1)

sum_byte_small : (total : ℕ) → sum_byte total < 256
unfolding sum_byte
sum_byte_small total = omega arith

sum_byte_closes : (total : ℕ) → (total + sum_byte total) % 256 ≡ 0
unfolding sum_byte
sum_byte_closes total = omega arith

-- The sum of a record, and all its bytes.
abbrev pub sum_of : ℕ → ℕ → List ℕ → ℕ
sum_of type address bs = sum_byte (sum (head_bytes (length bs) address type) + sum bs)

abbrev pub all_of : ℕ → ℕ → List ℕ → List ℕ
all_of type address bs = length bs ∷ address / 256 ∷ address % 256 ∷ type ∷ (bs ++ (sum_of type address bs ∷ []))

-- A record and what follows it, as the signs that a reader meets.
abbrev pub signs : ℕ → ℕ → List ℕ → Bool → List ℕ → List ℕ
signs type address bs return rest = 58 ∷ (pairs (all_of type address bs) ++ feed return rest)

signs_are : (type address : ℕ) (bs rest : List ℕ) → record_line type address bs ++ rest ≡ signs type address bs false rest
unfolding record_line
signs_are type address bs rest =
    rw (
      pairs_append bs (sum_of type address bs ∷ []),
      append_assoc (pairs bs) (digits_of (sum_of type address bs)) (10 ∷ rest),
      append_assoc (pairs bs) (digits_of (sum_of type address bs) ++ (10 ∷ [])) rest,
    )

-- A line that was written, and what follows it, with carriage returns put before line feeds.
pub signs_with_returns : (choices : List Bool) (type address : ℕ) (bs rest : List ℕ)
    → with_returns choices (record_line type address bs ++ rest) ≡ signs type address bs (first_choice choices) (with_returns (other_choices choices) rest)
signs_with_returns choices type address bs rest =
    let all = all_of type address bs in
    ap (λ (t : List ℕ). with_returns choices t) (signs_are type address bs rest)
    ∙ others_stay choices 58 (pairs all ++ (10 ∷ rest)) (λ q. omega arith)
    ∙ ap (λ (t : List ℕ). 58 ∷ t) (pairs_stay choices all (10 ∷ rest) ∙ ap (λ (t : List ℕ). pairs all ++ t) (feed_chosen choices rest))

module _ (type address : ℕ) (bs : List ℕ) (return : Bool) (rest : List ℕ) (k : type < 256) (a : address < 65536) (c : length bs < 256) (d : all_bytes bs ≡ true) where
  all_good : all_bytes (all_of type address bs) ≡ true
  all_good =
      let s = sum_of type address bs in
      let last : all_bytes (s ∷ []) ≡ true = rw (lt-ltb s 256 (sum_byte_small (sum (head_bytes (length bs) address type) + sum bs))) in
      rw (
        lt-ltb (length bs) 256 c,
        lt-ltb (address / 256) 256 (omega arith),
        lt-ltb (address % 256) 256 (omega arith),
        lt-ltb type 256 k,
      ) (all_append bs (s ∷ []) d last)

  all_length : length (all_of type address bs) ≡ length bs + 5
  all_length = omega (arith, length-append bs (sum_of type address bs ∷ []))

  count_again : count_of (signs type address bs return rest) ≡ length bs
  count_again = byte_again (length bs) _ c

  address_again : address_of (signs type address bs return rest) ≡ address
  address_again =
      let v : 256 * (address / 256) + address % 256 ≡ address = omega arith in
      rw (
        byte_again (address / 256) (digits_of (address % 256) ++ (digits_of type ++ (pairs (bs ++ (sum_of type address bs ∷ [])) ++ feed return rest))) (omega arith),
        byte_again (address % 256) (digits_of type ++ (pairs (bs ++ (sum_of type address bs ∷ [])) ++ feed return rest)) (omega arith),
      ) v

  type_again : type_of (signs type address bs return rest) ≡ type
  type_again = byte_again type _ k

  summed_again : summed (bytes (length bs + 5) (drop 1 (signs type address bs return rest))) ≡ 0
  summed_again =
      let all = all_of type address bs in
      let total = sum (head_bytes (length bs) address type) + sum bs in
      rw (← all_length, bytes_again all (feed return rest) all_good)
      (summed_is all all_good
      ∙ closes (sum_by_push (λ x. x) bs (sum_of type address bs)))
    where
      closes : sum (bs ++ (sum_of type address bs ∷ [])) ≡ sum bs + sum_of type address bs → sum (all_of type address bs) % 256 ≡ 0
      closes e =
          let head = sum (head_bytes (length bs) address type) in
          let f = sum_by_from (λ x. x) head (bs ++ (sum_of type address bs ∷ [])) in
          omega (arith, e, f, sum_byte_closes (head + sum bs))

  after_signs : drop (11 + 2 * length bs) (signs type address bs return rest) ≡ feed return rest
  after_signs =
      let all = all_of type address bs in
      let n : 11 + 2 * length bs ≡ suc (2 * length all) = omega (arith, all_length) in
      rw n (drop_at (pairs all) (feed return rest) (2 * length all) (pairs_length all))

  shape_again : well_formed (signs type address bs return rest) ≡ true
  unfolding well_formed
  shape_again = rw (count_again, summed_again, after_signs, feed_ends return rest, feed_some return)

  pub size_again : size_of (signs type address bs return rest) ≡ 11 + 2 * length bs + feed_size return
  unfolding size_of
  size_again = rw (count_again, after_signs, feed_ends return rest)

  pub rest_again : drop (size_of (signs type address bs return rest)) (signs type address bs return rest) ≡ rest
  rest_again =
      rw (size_again, ← drop-drop (feed_size return) (11 + 2 * length bs) (signs type address bs return rest), after_signs) (after_feed return rest)

  pub line_again : line_of (signs type address bs return rest)
      ≡ by_type type (length bs) address (256 * byte (drop 9 (signs type address bs return rest)) + byte (drop 11 (signs type address bs return rest)))
  unfolding line_of layout_of
  line_again = rw (shape_again, type_again, count_again, address_again)

-- A word's eight digits.
pub word_again : (w : ℕ) (rest : List ℕ) → w < 4294967296 → word_of (pairs (word_bytes w) ++ rest) ≡ w
unfolding word_of
word_again w rest h =
    let a = w / 16777216 % 256 in
    let b = w / 65536 % 256 in
    let c = w / 256 % 256 in
    let d = w % 256 in
    rw (
      byte_again a (digits_of b ++ (digits_of c ++ (digits_of d ++ rest))) (omega arith),
      byte_again b (digits_of c ++ (digits_of d ++ rest)) (omega arith),
      byte_again c (digits_of d ++ rest) (omega arith),
      byte_again d rest (omega arith),
    ) (value w h)
  where
    split : (n : ℕ) → n / 256 * 256 + n % 256 ≡ n
    split n = omega arith

    value : (w : ℕ) → w < 4294967296 → ((w / 16777216 % 256 * 256 + w / 65536 % 256) * 256 + w / 256 % 256) * 256 + w % 256 ≡ w
    value w h =
        let y = w / 65536 in
        let p : w / 256 / 256 ≡ y = omega arith in
        let q : w / 16777216 % 256 ≡ y / 256 = omega arith in
        let s = split (w / 256) in
        rw (q, split y, ← p, s, split w)
