-- What C sees is what the call's own contract says, with its answer as a number.
-- Assumes nothing.
use Rattle.std.specs.Prelude.{ℕ, Result, Option}
use mathlib.Core.Path.{◌≡◌, ap}
use mathlib.Core.Bool.{Bool}
use mathlib.Core.List.{List}
use Rattle.machine.specs.declared.Place.{Place}
use Rattle.moving.specs.Moving.{move}
use Rattle.moving.specs.declared.MoveRefusal.{MoveRefusal}
use Rattle.seeking.specs.Seeking.{sought}
use Rattle.seeking.specs.declared.Hit.{Hit}
use Rattle.seeking.specs.declared.SeekRefusal.{SeekRefusal}
use Rattle.surface.specs.Trails.{moved_number, moved_count, moved, found_number, found_back, found_record, found}

pub move_seen : (new : Bool) (trail out : List ℕ) (count : ℕ) {answer : Result ℕ MoveRefusal} {after : List ℕ} {n left : ℕ}
    → ◌≡◌ {A = Result ℕ MoveRefusal × List ℕ} (answer, after) (move new trail out)
    → n ≡ moved_number answer
    → left ≡ moved_count answer count
    → ◌≡◌ {A = ℕ × List ℕ × ℕ} (n, after, left) (moved new trail out count)
move_seen new trail out count m e l = rw (e, l) (ap (λ (x : Result ℕ MoveRefusal × List ℕ). (moved_number x.0, x.1, moved_count x.0 count)) m)

pub find_seen : (main ports : ℕ) (trail : List ℕ) (used : ℕ) {q place : Place} {answer : Result (Option Hit) SeekRefusal} {n back : ℕ} {numbers : List ℕ}
    → q ≡ place
    → answer ≡ sought main ports trail used q
    → (n ≡ found_number answer) × (back ≡ found_back answer) × (numbers ≡ found_record answer)
    → ◌≡◌ {A = ℕ × ℕ × List ℕ} (n, back, numbers) (found main ports trail used place)
find_seen main ports trail used q a e = rw (e.0, e.1, e.2, a, q)
