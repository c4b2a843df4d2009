-- A fixed text stands at the start of some bytes exactly if they are it and something after it.
-- Assumes nothing.
use Prim.Native.Nat.{ℕ}
use mathlib.Core.Path.{◌≡◌, refl, sym, ◌∙◌}
use mathlib.Core.Bool.{Bool, true, false, ◌&&◌}
use mathlib.Core.List.{List, [], ◌∷◌, ◌++◌}
use native.Mathlib.Omega.{arith}
use lib.Dec.{eqb}
use lib.ListN.{length, take, drop}
use Rattle.std.specs.Cmp.Lexicographic.{pointwise}
use borrow.Author.Tests.{eq-eqb, ne_eqb, eqb-true}
use Rattle.text.specs.Stands.{begins}

clash : {A : Type 0} → ◌≡◌ {A = ℕ} 0 1 → A
clash z = absurd (omega arith)

-- `strip_prefix` compares as many of the first bytes with the fixed text.
pub begins_is : (fixed bytes : List ℕ) → pointwise eqb (take (length fixed) bytes) fixed ≡ begins fixed bytes
unfolding begins
begins_is [] bytes = refl
begins_is (f ∷ fixed) [] = refl
begins_is (f ∷ fixed) (b ∷ bytes) = go (eqb b f) refl (begins_is fixed bytes)
  where
    go : (t : Bool)
        → eqb b f ≡ t
        → pointwise eqb (take (length fixed) bytes) fixed ≡ begins fixed bytes
        → (eqb b f && pointwise eqb (take (length fixed) bytes) fixed) ≡ (eqb f b && begins fixed bytes)
    go true e rest = rw (e, eq-eqb f b (sym (eqb-true b f e))) rest
    go false e rest =
        let other : f ≡ b → ⊥ = λ s.
        let n : true ≡ false = sym (eq-eqb b f (sym s)) ∙ e in
        clash (cc) in
        rw (e, ne_eqb f b other)

pub begins_itself : (fixed rest : List ℕ) → begins fixed (fixed ++ rest) ≡ true
unfolding begins
begins_itself [] rest = refl
begins_itself (f ∷ fixed) rest = rw (eq-eqb f f refl) (begins_itself fixed rest)

pub begins_then : (fixed bytes : List ℕ) → begins fixed bytes ≡ true → bytes ≡ fixed ++ drop (length fixed) bytes
unfolding begins
begins_then [] bytes h = refl
begins_then (f ∷ fixed) [] h = clash (cc)
begins_then (f ∷ fixed) (b ∷ bytes) h = go (eqb f b) refl (begins_then fixed bytes)
  where
    go : (t : Bool)
        → eqb f b ≡ t
        → (begins fixed bytes ≡ true → bytes ≡ fixed ++ drop (length fixed) bytes)
        → b ∷ bytes ≡ (f ∷ fixed) ++ drop (length (f ∷ fixed)) (b ∷ bytes)
    go true e rest =
        let s : f ≡ b = eqb-true f b e in
        rw (s, ← rest (rw e at h))
    go false e rest =
        let n : false ≡ true = rw e at h in
        clash (cc)
