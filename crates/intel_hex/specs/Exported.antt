-- The export of main (document 02, W4): sixteen data bytes a record, a type 04 record at the start and at each 64 KiB, one end record.
-- Assumes nothing.
use Rattle.std.specs.Prelude.{ℕ, zero, suc, ◌+◌, ◌*◌, ◌-◌, ◌/◌, ◌%◌, ◌≡◌, cond, ◌&&◌, List, [], ◌∷◌, ◌++◌, ltb, eqb, length, take, drop, Result, Ok, Err}
use Rattle.intel_hex.specs.Layout.{record_line, data_bytes}
use Rattle.intel_hex.specs.declared.exporting.ExportRefusal.{ExportRefusal}
use Rattle.intel_hex.specs.declared.exporting.ExportRefusal.TheVariants.{MainTooLong, OutTooShort}

-- The upper half of the addresses that follow.
unfoldable pub upper_line : ℕ → List ℕ
upper_line upper = record_line 4 0 (upper / 256 ∷ upper % 256 ∷ [])

unfoldable pub end_line : List ℕ
end_line = record_line 1 0 []

-- The type 04 record before row i, where a further 64 KiB starts.
unfoldable pub upper_before : ℕ → List ℕ
upper_before i = cond (ltb 0 i && eqb (i % 4096) 0) (upper_line (i / 4096)) []

-- The four words of row i; the last row may have fewer.
abbrev pub row_words : ℕ → List ℕ → List ℕ
row_words i main = take 4 (drop (4 * i) main)

-- How many they are in a main of n words.
abbrev pub row_count : ℕ → ℕ → ℕ
row_count n i = cond (ltb (n - 4 * i) 4) (n - 4 * i) 4

abbrev pub row : ℕ → List ℕ → List ℕ
row i main = upper_before i ++ record_line 0 (16 * i % 65536) (data_bytes (row_words i main))

-- k rows from row i on.
unfoldable pub rows : ℕ → ℕ → List ℕ → List ℕ
rows i zero main = []
rows i (suc k) main = row i main ++ rows (suc i) k main

unfoldable pub exported : List ℕ → List ℕ
exported main = upper_line 0 ++ rows 0 ((length main + 3) / 4) main ++ end_line

-- 64 KiB that n words take; one for none.
abbrev pub blocks : ℕ → ℕ
blocks n = cond (eqb n 0) 1 ((n + 16383) / 16384)

-- The length of an export of n words.
unfoldable pub exported_length : ℕ → ℕ
exported_length n = 12 + 16 * blocks n + 12 * ((n + 3) / 4) + 8 * n

-- The answer for a main of n words and an output of so many bytes: refusals 2 and 9, in this order.
unfoldable pub export_answer : ℕ → ℕ → Result ℕ ExportRefusal
export_answer n room =
    cond (ltb 1048576 n) (Err MainTooLong)
    (cond (ltb room (exported_length n)) (Err OutTooShort)
    (Ok (exported_length n)))

-- A refused export writes no byte, and bytes past an export stay.
abbrev pub out_after : Result ℕ ExportRefusal → List ℕ → List ℕ → List ℕ
out_after (Err refusal) main out = out
out_after (Ok n) main out = exported main ++ drop n out

-- What exporting main answers, and the output after it.
pub record Exports (main out : List ℕ) (r : Result ℕ ExportRefusal) (after : List ℕ) : Type 0 where
  pub answer_is : r ≡ export_answer (length main) (length out)
  pub out_is : after ≡ out_after (export_answer (length main) (length out)) main out
