-- One law for each way out of the call, over plain variables.
-- Assumes nothing.
use Rattle.std.specs.Prelude.{Result, Ok, Err}
use Prim.Native.Nat.{ℕ, ◌^◌, ◌≤◌, ◌<◌}
use mathlib.Core.Path.{◌≡◌, refl, ap, sym, ◌∙◌}
use mathlib.Core.Bool.{Bool, true, false}
use mathlib.Core.List.{List, ◌++◌}
use native.Mathlib.Omega.{arith}
use lib.Dec.{ltb}
use lib.ListN.{length, take, drop, length-append}
use lib.Seq.{length-take-le}
use borrow.Author.Tests.{lt-ltb, le-ltb}
use Rattle.text.specs.Placed.{Placed}
use Rattle.listing.specs.declared.store.ListRefusal.{ListRefusal}
use Rattle.listing.specs.declared.store.ListRefusal.TheVariants.{StoreTooLong, OutputTooShort}
use Rattle.listing.specs.Listing.{listing, answer, output_after, Lists}

module _ {main out : List ℕ} where
  leaves : {r : Result ℕ ListRefusal} {after : List ℕ} → answer main (length out) ≡ r → after ≡ output_after r main out → Lists main out r after
  leaves e h = record { answer_is = sym e; output_is = rw e h }

  pub store_too_long : 2 ^ 20 < length main → Lists main out (Err StoreTooLong) out
  unfolding answer
  store_too_long h = leaves (rw (lt-ltb (2 ^ 20) (length main) h)) refl

  module _ (short : length main ≤ 2 ^ 20) where
    pub output_too_short : length out < length (listing main) → Lists main out (Err OutputTooShort) out
    unfolding answer
    output_too_short h = leaves (rw (le-ltb (2 ^ 20) (length main) short, lt-ltb (length out) (length (listing main)) h)) refl

    pub listed : {n : ℕ} {after : List ℕ}
        → length (listing main) ≤ length out
        → n ≡ length (listing main)
        → Placed 0 (listing main) out (length (listing main)) after
        → Lists main out (Ok n) after
    unfolding answer
    listed {n} {after} h e p =
        rw e (leaves (rw (le-ltb (2 ^ 20) (length main) short, le-ltb (length out) (length (listing main)) h)) p.after_is)

pub answered : (main : List ℕ) (room n : ℕ) → answer main room ≡ Ok n → n ≡ length (listing main)
unfolding answer
answered main room n e = go (ltb (2 ^ 20) (length main)) (ltb room (length (listing main))) refl refl
  where
    go : (a b : Bool) → ltb (2 ^ 20) (length main) ≡ a → ltb room (length (listing main)) ≡ b → n ≡ length (listing main)
    go true b p q = let f : Err StoreTooLong ≡ Ok n = rw p at e in cc
    go false true p q = let f : Err OutputTooShort ≡ Ok n = rw (p, q) at e in cc
    go false false p q = let f : Ok (length (listing main)) ≡ Ok n = rw (p, q) at e in cc

-- A listing is within the output. The two laws are what a part `&out[..n]` asks.
module _ {main out after : List ℕ} {r : Result ℕ ListRefusal} {n : ℕ} (e : r ≡ Ok n) (lists : Lists main out r after) where
  pub listed_is : after ≡ listing main ++ drop n out
  listed_is = lists.output_is ∙ ap (λ a. output_after a main out) (sym lists.answer_is ∙ e)

  pub listed_within : n ≤ length after
  listed_within =
      omega (
        arith,
        answered main (length out) n (sym lists.answer_is ∙ e),
        ap length listed_is,
        length-append (listing main) (drop n out),
      )

  pub listed_count : n ≡ length (take n after)
  listed_count = sym (length-take-le n after listed_within)
