-- The four bytes of a word more, the high one first.
-- Assumes nothing.
use Prim.Native.Nat.{ℕ}
use mathlib.Core.Path.{◌≡◌}
use mathlib.Core.List.{[], ◌∷◌}
use native.Mathlib.Omega.{arith}
use lib.ListN.{length, get_or}
use Rattle.text.proofs.Placing.{put_then}
use Rattle.intel_hex.specs.Layout.{word_bytes}
use Rattle.intel_hex.proofs.Lengths.{data_more}
use Rattle.intel_hex.proofs.exporting.put_words.Goals as goal

four : {a b c d p q r s : ℕ} → a ≡ p → b ≡ q → c ≡ r → d ≡ s → a ∷ b ∷ c ∷ d ∷ [] ≡ p ∷ q ∷ r ∷ s ∷ []
four e f g h = rw (e, f, g, h)

pub loop-word-preserved : goal.loop-word-preserved
loop-word-preserved c =
    let l = c.loop-word in
    let bytes : c.to_be_bytes.result ≡ word_bytes (get_or c.args.words.now l.word-index 0) =
    rw c.to_be_bytes.ensures (four (omega arith) (omega arith) (omega arith) (omega arith))
    in
    let size : length c.to_be_bytes.result ≡ 4 = rw bytes in (
      omega (arith, c.put_text-next.auto.out, l.invariant.0),
      omega (arith, c.put_text-next.ensures.next_is, size, l.invariant.1),
      rw (data_more c.args.words.now l.word-index c.loop-word-test.true, ← bytes)
          (put_then (omega arith) l.invariant.2 c.put_text-next.ensures),
    )
