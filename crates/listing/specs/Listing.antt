-- The listing of a main store (document 02, W1), and what a call of list answers and leaves.
-- Assumes nothing.
use Rattle.std.specs.Prelude.{ℕ, suc, ◌*◌, ◌^◌, ◌≡◌, cond, List, [], ◌∷◌, ◌++◌, ltb, length, drop, Result, Ok, Err}
use Rattle.language.specs.Line.{line}
use Rattle.listing.specs.declared.store.ListRefusal.{ListRefusal}
use Rattle.listing.specs.declared.store.ListRefusal.TheVariants.{StoreTooLong, OutputTooShort}

-- The lines of words from an address on.
unfoldable pub lines : ℕ → List ℕ → List ℕ
lines address [] = []
lines address (w ∷ words) = line address w ++ lines (suc address) words

abbrev pub listing : List ℕ → List ℕ
listing main = lines 0 main

-- A line has at most 24 bytes: n lines have at most so many (`listing_at_most` in proofs/Lengths.antt).
abbrev pub most_bytes : ℕ → ℕ
most_bytes n = 24 * n

-- The paper's number of a refusal.
abbrev pub refusal_number : ListRefusal → ℕ
refusal_number StoreTooLong = 2
refusal_number OutputTooShort = 9

-- An accepted call has 0.
abbrev pub number : Result ℕ ListRefusal → ℕ
number (Ok n) = 0
number (Err e) = refusal_number e

-- The answer for an output of `room` bytes.
unfoldable pub answer : List ℕ → ℕ → Result ℕ ListRefusal
answer main room =
    cond (ltb (2 ^ 20) (length main)) (Err StoreTooLong)
    (cond (ltb room (length (listing main))) (Err OutputTooShort)
    (Ok (length (listing main))))

-- The listing stands at the start of the output, and the bytes past it stay; a refused call writes none.
abbrev pub output_after : Result ℕ ListRefusal → List ℕ → List ℕ → List ℕ
output_after (Ok n) main out = listing main ++ drop n out
output_after (Err e) main out = out

-- What a call answers, and the output after it.
pub record Lists (main out : List ℕ) (r : Result ℕ ListRefusal) (after : List ℕ) : Type 0 where
  pub answer_is : r ≡ answer main (length out)
  pub output_is : after ≡ output_after (answer main (length out)) main out
