-- What the code decides by a word's class is the part of document 01's order: one test, computed over the 1,024 classes and the flags.
-- Assumes nothing.
use Rattle.std.proofs.Common.{◌≡◌, ℕ, ◌/◌, ◌%◌, ◌^◌, ◌<◌, Bool, false, cond, not, ◌&&◌, ◌||◌, T, eqb, leb, sym, refl, ap, ◌∙◌, arith, eqb→eq}
use Rattle.report.specs.Parts.{Part, stopped, halts, compares, writes, skips, computes, part_by, msf, dsf, csf, fsf, top, bad, comparison, write, shift, skip, always_halts}
use Rattle.report.proofs.Finite.{below, flags, flag}
use Rattle.instruction.specs.Classes.{class_by, class_of_word}

-- the code's order: by the class k, whether the function is a shift's, whether P is at the top, whether the address is bad, and B
unfoldable pub decided : ℕ → Bool → Bool → Bool → Bool → Part
decided k twelve high far b =
    cond high halts
    (cond (leb 7 k) (cond (eqb k 8 && not b) skips (cond (eqb k 9 && b) skips (cond far halts computes)))
    (cond (leb 4 k) (cond far (cond twelve computes halts) computes)
    (cond (eqb k 1) halts
    (cond far halts
    (cond (eqb k 0) compares writes)))))

-- document 01's order, by the fields
abbrev by_fields : Bool → Bool → Bool → ℕ → ℕ → ℕ → ℕ → Part
by_fields high far b m d c f =
    cond (high || ((far && (not (shift m d c f) && not (skip b m d c f))) || always_halts m d c f)) halts
    (cond (comparison m d c f) compares
    (cond (write m d c f) writes
    (cond (skip b m d c f) skips computes)))

number : Part → ℕ
number stopped = 0
number halts = 1
number compares = 2
number writes = 3
number skips = 4
number computes = 5

part_at : ℕ → Part
part_at n = cond (eqb n 0) stopped (cond (eqb n 1) halts (cond (eqb n 2) compares (cond (eqb n 3) writes (cond (eqb n 4) skips computes))))

back : (p : Part) → part_at (number p) ≡ p
unfolding number part_at
back stopped = refl
back halts = refl
back compares = refl
back writes = refl
back skips = refl
back computes = refl

one_number : (p q : Part) → T (eqb (number p) (number q)) → p ≡ q
one_number p q t = sym (back p) ∙ (ap part_at (eqb→eq (number p) (number q) t) ∙ back q)

agrees : Bool → Bool → Bool → ℕ → Bool
agrees high far b k =
    let m = k / 256 in
    let d = k / 32 % 8 in
    let c = k / 16 % 2 in
    let f = k % 16 in
    eqb (number (by_fields high far b m d c f)) (number (decided (class_by m d c f) (eqb f 12) high far b))

everywhere : (k : ℕ) → k < 1024 → (high far b : Bool) → T (agrees high far b k)
unfolding agrees decided class_by number
everywhere k h high far b =
    flag (λ b. agrees high far b k)
    (flag (λ far. flags (λ b. agrees high far b k))
    (flag (λ high. flags (λ far. flags (λ b. agrees high far b k)))
    (below (λ (k : ℕ). flags (λ high. flags (λ far. flags (λ b. agrees high far b k)))) 1024 tt k h) high) far) b

pub decided_is : (w p at : ℕ) (b : Bool) → part_by w p at b false ≡ decided (class_of_word w) (eqb (fsf w) 12) (top p) (bad at) b
unfolding part_by agrees
decided_is w p at b =
    let k = w / 2 ^ 20 % 1024 in
    let m : k / 256 ≡ msf w = omega arith in
    let d : k / 32 % 8 ≡ dsf w = omega arith in
    let c : k / 16 % 2 ≡ csf w = omega arith in
    let f : k % 16 ≡ fsf w = omega arith in
    let t : T (agrees (top p) (bad at) b k) = everywhere k (omega arith) (top p) (bad at) b in
    one_number _ _ (rw (m, d, c, f) at t)
