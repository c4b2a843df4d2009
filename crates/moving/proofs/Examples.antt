-- Document 02, W12: moves computed. The values are those of a second program, in Python, written from the document.
-- Assumes nothing.
use Prim.Native.Nat.{ℕ}
use mathlib.Core.Path.{◌≡◌, refl}
use mathlib.Core.Bool.{Bool, true, false}
use mathlib.Core.List.{List, [], ◌∷◌}
use lib.ListN.{replicate}
use Rattle.trail.specs.Numbers.{groups, groups_in}
use Rattle.trail.specs.Records.{record_in}
use Rattle.trail.specs.Newest.{read_in_form, newest_in}
use Rattle.std.specs.Prelude.{Ok, Err}
use Rattle.moving.specs.declared.MoveRefusal.TheVariants as refusal
use Rattle.moving.specs.Rows.{at_most, records_of}
use Rattle.moving.specs.Moving.{Moved, move}

abbrev MOVE : Bool → List ℕ → List ℕ → Moved × List ℕ
unfolding move records_of at_most newest_in read_in_form record_in groups groups_in
MOVE new s out = move new s out

-- The worked trail of document 01.
the_worked_trail : MOVE true (1 ∷ 0 ∷ 0 ∷ 3 ∷ 8 ∷ 1 ∷ 10 ∷ 0 ∷ 4 ∷ 0 ∷ 2 ∷ 2 ∷ 16 ∷ 3 ∷ 2 ∷ []) (replicate 20 9) ≡ (Ok 19, (0 ∷ 1 ∷ 0 ∷ 0 ∷ 4 ∷ 0 ∷ 8 ∷ 1 ∷ 10 ∷ 0 ∷ 5 ∷ 0 ∷ 0 ∷ 2 ∷ 3 ∷ 0 ∷ 16 ∷ 3 ∷ 3 ∷ 9 ∷ []))
unfolding MOVE
the_worked_trail = refl

-- And back.
and_back : MOVE false (0 ∷ 1 ∷ 0 ∷ 0 ∷ 4 ∷ 0 ∷ 8 ∷ 1 ∷ 10 ∷ 0 ∷ 5 ∷ 0 ∷ 0 ∷ 2 ∷ 3 ∷ 0 ∷ 16 ∷ 3 ∷ 3 ∷ []) (replicate 16 9) ≡ (Ok 15, (1 ∷ 0 ∷ 0 ∷ 3 ∷ 8 ∷ 1 ∷ 10 ∷ 0 ∷ 4 ∷ 0 ∷ 2 ∷ 2 ∷ 16 ∷ 3 ∷ 2 ∷ 9 ∷ []))
unfolding MOVE
and_back = refl

-- The output exact, and short by one.
exact : MOVE true (1 ∷ 0 ∷ 0 ∷ 3 ∷ 8 ∷ 1 ∷ 10 ∷ 0 ∷ 4 ∷ 0 ∷ 2 ∷ 2 ∷ 16 ∷ 3 ∷ 2 ∷ []) (replicate 19 9) ≡ (Ok 19, (0 ∷ 1 ∷ 0 ∷ 0 ∷ 4 ∷ 0 ∷ 8 ∷ 1 ∷ 10 ∷ 0 ∷ 5 ∷ 0 ∷ 0 ∷ 2 ∷ 3 ∷ 0 ∷ 16 ∷ 3 ∷ 3 ∷ []))
unfolding MOVE
exact = refl

one_short : MOVE true (1 ∷ 0 ∷ 0 ∷ 3 ∷ 8 ∷ 1 ∷ 10 ∷ 0 ∷ 4 ∷ 0 ∷ 2 ∷ 2 ∷ 16 ∷ 3 ∷ 2 ∷ []) (replicate 18 9) ≡ (Err refusal.Short, (replicate 18 9))
unfolding MOVE
one_short = refl

-- The empty trail.
empty : MOVE true [] [] ≡ (Ok 0, [])
unfolding MOVE
empty = refl

empty_old : MOVE false [] (7 ∷ []) ≡ (Ok 0, (7 ∷ []))
unfolding MOVE
empty_old = refl

-- Sound in both forms.
both_forms : MOVE true (1 ∷ 0 ∷ 0 ∷ 3 ∷ []) (replicate 5 9) ≡ (Ok 5, (0 ∷ 1 ∷ 0 ∷ 0 ∷ 4 ∷ []))
unfolding MOVE
both_forms = refl

both_forms_old : MOVE false (1 ∷ 0 ∷ 0 ∷ 3 ∷ []) (replicate 3 9) ≡ (Ok 3, (0 ∷ 0 ∷ 2 ∷ []))
unfolding MOVE
both_forms_old = refl

-- Kinds 0 to 4; 5; a kind in two groups.
kinds : MOVE false (0 ∷ 0 ∷ 0 ∷ 3 ∷ 1 ∷ 0 ∷ 0 ∷ 3 ∷ 2 ∷ 0 ∷ 0 ∷ 3 ∷ 3 ∷ 0 ∷ 0 ∷ 3 ∷ 4 ∷ 0 ∷ 0 ∷ 3 ∷ []) (replicate 15 9) ≡ (Ok 15, (0 ∷ 0 ∷ 2 ∷ 0 ∷ 0 ∷ 2 ∷ 0 ∷ 0 ∷ 2 ∷ 0 ∷ 0 ∷ 2 ∷ 0 ∷ 0 ∷ 2 ∷ []))
unfolding MOVE
kinds = refl

kind_five : MOVE false (5 ∷ 0 ∷ 0 ∷ 3 ∷ []) (replicate 4 9) ≡ (Err refusal.Broken, (replicate 4 9))
unfolding MOVE
kind_five = refl

kind_in_two_groups : MOVE false (132 ∷ 0 ∷ 0 ∷ 0 ∷ 4 ∷ []) (replicate 5 9) ≡ (Err refusal.Broken, (replicate 5 9))
unfolding MOVE
kind_in_two_groups = refl

-- The longest record, to the new form and back; one byte longer.
longest : MOVE true (15 ∷ 255 ∷ 255 ∷ 63 ∷ 255 ∷ 255 ∷ 255 ∷ 255 ∷ 15 ∷ 255 ∷ 255 ∷ 255 ∷ 255 ∷ 15 ∷ 255 ∷ 255 ∷ 255 ∷ 255 ∷ 15 ∷ 255 ∷ 255 ∷ 127 ∷ 255 ∷ 255 ∷ 255 ∷ 255 ∷ 15 ∷ 27 ∷ []) (replicate 29 9) ≡ (Ok 29, (0 ∷ 15 ∷ 255 ∷ 255 ∷ 63 ∷ 255 ∷ 255 ∷ 255 ∷ 255 ∷ 15 ∷ 255 ∷ 255 ∷ 255 ∷ 255 ∷ 15 ∷ 255 ∷ 255 ∷ 255 ∷ 255 ∷ 15 ∷ 255 ∷ 255 ∷ 127 ∷ 255 ∷ 255 ∷ 255 ∷ 255 ∷ 15 ∷ 28 ∷ []))
unfolding MOVE
longest = refl

longest_back : MOVE false (4 ∷ 15 ∷ 255 ∷ 255 ∷ 63 ∷ 255 ∷ 255 ∷ 255 ∷ 255 ∷ 15 ∷ 255 ∷ 255 ∷ 255 ∷ 255 ∷ 15 ∷ 255 ∷ 255 ∷ 255 ∷ 255 ∷ 15 ∷ 255 ∷ 255 ∷ 127 ∷ 255 ∷ 255 ∷ 255 ∷ 255 ∷ 15 ∷ 28 ∷ []) (replicate 28 9) ≡ (Ok 28, (15 ∷ 255 ∷ 255 ∷ 63 ∷ 255 ∷ 255 ∷ 255 ∷ 255 ∷ 15 ∷ 255 ∷ 255 ∷ 255 ∷ 255 ∷ 15 ∷ 255 ∷ 255 ∷ 255 ∷ 255 ∷ 15 ∷ 255 ∷ 255 ∷ 127 ∷ 255 ∷ 255 ∷ 255 ∷ 255 ∷ 15 ∷ 27 ∷ []))
unfolding MOVE
longest_back = refl

longer : MOVE false (0 ∷ 0 ∷ 15 ∷ 255 ∷ 255 ∷ 63 ∷ 255 ∷ 255 ∷ 255 ∷ 255 ∷ 15 ∷ 255 ∷ 255 ∷ 255 ∷ 255 ∷ 15 ∷ 255 ∷ 255 ∷ 255 ∷ 255 ∷ 15 ∷ 255 ∷ 255 ∷ 127 ∷ 255 ∷ 255 ∷ 255 ∷ 255 ∷ 15 ∷ 29 ∷ []) (replicate 40 9) ≡ (Err refusal.Broken, (replicate 40 9))
unfolding MOVE
longer = refl

-- L of 2 in the new form.
shortest : MOVE false (0 ∷ 0 ∷ 2 ∷ []) (replicate 4 9) ≡ (Err refusal.Broken, (replicate 4 9))
unfolding MOVE
shortest = refl

-- A broken oldest record, and an output too short: 8 before 9.
broken_first : MOVE true (64 ∷ 0 ∷ 2 ∷ 0 ∷ 0 ∷ 2 ∷ []) (9 ∷ 9 ∷ []) ≡ (Err refusal.Broken, (9 ∷ 9 ∷ []))
unfolding MOVE
broken_first = refl

-- A place of 2,097,152, and one below.
place_too_large : MOVE true (8 ∷ 0 ∷ 128 ∷ 128 ∷ 128 ∷ 1 ∷ 0 ∷ 7 ∷ []) (replicate 12 9) ≡ (Err refusal.Broken, (replicate 12 9))
unfolding MOVE
place_too_large = refl

place_largest : MOVE true (8 ∷ 0 ∷ 255 ∷ 255 ∷ 127 ∷ 0 ∷ 6 ∷ []) (replicate 12 9) ≡ (Ok 8, (0 ∷ 8 ∷ 0 ∷ 255 ∷ 255 ∷ 127 ∷ 0 ∷ 7 ∷ 9 ∷ 9 ∷ 9 ∷ 9 ∷ []))
unfolding MOVE
place_largest = refl
