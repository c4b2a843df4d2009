-- The type 04 record, if there is one, and the data record.
-- Assumes nothing.
use Prim.Native.Nat.{ℕ}
use mathlib.Core.Path.{◌≡◌}
use mathlib.Core.List.{List}
use native.Mathlib.Omega.{arith}
use lib.ListN.{length, take, drop}
use lib.Seq.{take_at}
use Rattle.text.specs.Placed.{Placed}
use Rattle.text.proofs.Placing.{put_then}
use Rattle.intel_hex.specs.Layout.{data_bytes}
use Rattle.intel_hex.specs.Exported.{row_words}
use Rattle.intel_hex.proofs.Lengths.{row_words_at, row_words_length, row_length, count_small, data_length}
use Rattle.intel_hex.proofs.exporting.put_row.Goals as goal

-- What is put at the start of a buffer is its first part.
first_part : {s d e : List ℕ} {n : ℕ} → Placed 0 s d n e → take n e ≡ s
first_part {s} {d} {e} {n} p = rw p.after_is (take_at s (drop n d) n (omega (arith, p.next_is)))

pub put_line-requires : goal.put_line-requires
put_line-requires c =
    let main = c.args.main.now in
    let i = c.args.i in
    let words = row_words_at i main c.min-last.result c.requires.1 c.min-last.ensures in
    let bytes : take c.put_words-count.result c.put_words-count.new.out ≡ data_bytes (row_words i main) = rw words at (first_part c.put_words-count.ensures) in
    let n = data_length (row_words i main) in
    let w = row_words_length main i in
    let u = c.put_upper_before-next in
    rw bytes (
      omega (arith, n, w, c.requires.0, row_length main i, u.ensures.next_is, u.auto.out),
      omega (arith, n, w, count_small (length main) i),
    )

pub returns : goal.returns
returns c =
    let main = c.args.main.now in
    let words = row_words_at c.args.i main c.min-last.result c.requires.1 c.min-last.ensures in
    let bytes : take c.put_words-count.result c.put_words-count.new.out ≡ data_bytes (row_words c.args.i main) = rw words at (first_part c.put_words-count.ensures) in
    let line = rw bytes at c.put_line.ensures in
    put_then (omega arith) c.put_upper_before-next.ensures line
