-- The bytes before L read back to the old values, and what reads as old values is exactly their bytes:
-- one number after the other, each by the law for a number that may be marked.
-- Assumes nothing.
use Prim.Native.Nat.{ℕ, zero, suc, ◌^◌, ◌<◌, ◌≤◌}
use mathlib.Core.Path.{◌≡◌, refl, ap, subst, ◌∙◌}
use mathlib.Core.Bool.{Bool, true, false}
use mathlib.Core.Option.{Option, some}
use mathlib.Core.List.{List, [], ◌∷◌, ◌++◌, append-nil}
use native.Mathlib.Omega.{arith}
use Rattle.trail.specs.declared.Kind.{Kind}
use Rattle.trail.specs.declared.Kind.TheVariants.{FromOld, Step, Reset, Force, Set}
use Rattle.trail.specs.declared.OldValues.{OldValues}
use Rattle.trail.specs.Numbers.{Read, got, broken, bytes_if, read_if, GoodIf}
use Rattle.trail.specs.Records.{marked, body, body_in, from_marks, kind_number, kind_of_number, Good, GoodIn}
use Rattle.trail.specs.Newest.{and_then, at_end, read_record, read_from_marks, read_in_form}
use Rattle.trail.proofs.NumbersReadBack.{cap, read_bytes_if, read_if_only}

-- ---- what is written is read

-- One number of a record, with what follows it; and the last.
through : (t : Bool) (bound n : ℕ) (rest : List ℕ) (f : ℕ → List ℕ → Option OldValues) → bound ≤ cap 4 → GoodIf t bound n → and_then (read_if t bound (bytes_if t n ++ rest)) f ≡ f n rest
through t bound n rest f h g = ap (λ (r : Read). and_then r f) (read_bytes_if t bound n rest h g)

last : (t : Bool) (bound n : ℕ) (f : ℕ → List ℕ → Option OldValues) → bound ≤ cap 4 → GoodIf t bound n → and_then (read_if t bound (bytes_if t n)) f ≡ f n []
last t bound n f h g = rw append-nil at (through t bound n [] f h g)

-- A kind is that of its number, and a number below 5 is that of its kind.
pub number_back : (k : Kind) → kind_of_number (kind_number k) ≡ k
number_back FromOld = refl
number_back Step = refl
number_back Reset = refl
number_back Force = refl
number_back Set = refl

small_back : (n : ℕ) → n < 5 → kind_number (kind_of_number n) ≡ n
small_back zero h = refl
small_back (suc zero) h = refl
small_back (suc (suc zero)) h = refl
small_back (suc (suc (suc zero))) h = refl
small_back (suc (suc (suc (suc zero)))) h = refl
small_back (suc (suc (suc (suc (suc n))))) h = absurd (omega arith)

pub kind_back : (kinds : Bool) (n : ℕ) → GoodIf kinds 5 n → kind_number (kind_of_number n) ≡ n
kind_back true n h = small_back n h
kind_back false n h = small_back n (omega arith)

pub read_body_in : (kinds : Bool) {places : ℕ} {o : OldValues} → places ≤ cap 4 → GoodIn kinds places o → read_in_form kinds places (body_in kinds o) ≡ some o
unfolding read_in_form
read_body_in kinds {places} {o} h g =
    through kinds 5 (kind_number o.kind) _ _ (omega arith) g.kind
    ∙ ap (λ (k : Kind). read_from_marks k places (from_marks o)) (number_back o.kind)
    ∙ through true 64 o.marks _ _ (omega arith) g.marks
    ∙ through true (2 ^ 20) o.p _ _ (omega arith) g.p
    ∙ through (marked 1 o.marks) (2 ^ 32) o.a _ _ (omega arith) g.a
    ∙ through (marked 2 o.marks) (2 ^ 32) o.x _ _ (omega arith) g.x
    ∙ through (marked 4 o.marks) (2 ^ 32) o.y _ _ (omega arith) g.y
    ∙ through (marked 8 o.marks) places o.place _ _ h g.place
    ∙ last (marked 8 o.marks) (2 ^ 32) o.value _ (omega arith) g.value

pub read_body : {places : ℕ} {o : OldValues} → places ≤ cap 4 → Good places o → read_record places (body o) ≡ some o
read_body h g = read_body_in true h g

-- ---- what is read is what would be written

-- One number of a record that is not broken, for what follows from it.
found : {G : Type 0} (t : Bool) (bound : ℕ) (s : List ℕ) (f : ℕ → List ℕ → Option OldValues) (o : OldValues)
    → and_then (read_if t bound s) f ≡ some o
    → ((n : ℕ) (rest : List ℕ) → s ≡ bytes_if t n ++ rest → GoodIf t bound n → f n rest ≡ some o → G)
    → G
found {G} t bound s f o p then = go (read_if t bound s) refl p
  where
    go : (r : Read) → read_if t bound s ≡ r → and_then r f ≡ some o → G
    go broken e q = let z : ◌≡◌ {A = ℕ} 0 1 = cc in absurd (omega arith)
    go (got n rest) e q = let w = read_if_only t bound s n rest e in then n rest w.0 w.1 q

ended : (s : List ℕ) (o q : OldValues) → at_end s o ≡ some q → (s ≡ []) × (o ≡ q)
ended [] o q p = (refl, cc)
ended (b ∷ s) o q p = let z : ◌≡◌ {A = ℕ} 0 1 = cc in absurd (omega arith)

pub read_only_in : (kinds : Bool) (places : ℕ) (s : List ℕ) (o : OldValues) → read_in_form kinds places s ≡ some o → (s ≡ body_in kinds o) × GoodIn kinds places o
unfolding read_in_form
read_only_in kinds places s o h =
    found kinds 5 s _ o h (λ kind s₀ e₀ g₀ h₀.
    let k : kind_number (kind_of_number kind) ≡ kind = kind_back kinds kind g₀ in
    found true 64 s₀ _ o h₀ (λ m s₁ e₁ g₁ h₁.
    found true (2 ^ 20) s₁ _ o h₁ (λ p s₂ e₂ g₂ h₂.
    found (marked 1 m) (2 ^ 32) s₂ _ o h₂ (λ a s₃ e₃ g₃ h₃.
    found (marked 2 m) (2 ^ 32) s₃ _ o h₃ (λ x s₄ e₄ g₄ h₄.
    found (marked 4 m) (2 ^ 32) s₄ _ o h₄ (λ y s₅ e₅ g₅ h₅.
    found (marked 8 m) places s₅ _ o h₅ (λ place s₆ e₆ g₆ h₆.
    found (marked 8 m) (2 ^ 32) s₆ _ o h₆ (λ value s₇ e₇ g₇ h₇.
    let e = ended s₇ (record { kind = kind_of_number kind; marks = m; p = p; a = a; x = x; y = y; place = place; value = value }) o h₇ in
    subst (λ (r : OldValues). (s ≡ body_in kinds r) × GoodIn kinds places r) e.1 (
      rw (k, e₀, e₁, e₂, e₃, e₄, e₅, e₆, e₇, e.0, append-nil),
      record { kind = rw k g₀; marks = g₁; p = g₂; a = g₃; x = g₄; y = g₅; place = g₆; value = g₇ },
    )))))))))

pub read_record_only : (places : ℕ) (s : List ℕ) (o : OldValues) → read_record places s ≡ some o → (s ≡ body o) × Good places o
read_record_only places s o h = read_only_in true places s o h
