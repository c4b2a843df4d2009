-- Document 02, W12: whole trails moved from the old form to the new one and back.
-- Assumes nothing.
use Rattle.std.specs.Prelude.{ℕ, ◌+◌, ◌-◌, ◌≤◌, ◌≡◌, Bool, true, false, not, cond, List, [], ◌∷◌, ◌++◌, ltb, length, drop, Result, Ok, Err}
use Rattle.std.proofs.Math.Option.{Option, none, some}
use Rattle.std.proofs.Math.Seq.{slice}
use Rattle.trail.specs.declared.OldValues.{OldValues}
use Rattle.trail.specs.declared.Newest.{Newest}
use Rattle.trail.specs.declared.Broken.{Broken}
use Rattle.moving.specs.declared.MoveRefusal.{MoveRefusal}
use Rattle.moving.specs.declared.MoveRefusal.TheVariants as refusal
use Rattle.moving.specs.Rows.{row, records}

-- ---- a move, to the new form or to the old one

-- What became of a move: the count of bytes written, which is the moved trail's count in use; or why it was refused.
abbrev pub Moved : Type 0
Moved = Result ℕ MoveRefusal

-- The bytes m at the front of the output, and every other byte as it was; Short, and nothing, if they are more than the output holds.
abbrev pub put_front : List ℕ → List ℕ → Moved × List ℕ
put_front m out = cond (ltb (length out) (length m)) (Err refusal.Short, out) (Ok (length m), m ++ drop (length m) out)

-- The records in the form that is asked for. Without all of them, Broken, and nothing.
abbrev pub put_records : Bool → Option (List OldValues) → List ℕ → Moved × List ℕ
put_records new none out = (Err refusal.Broken, out)
put_records new (some es) out = put_front (row new es) out

-- What the input holds is read in the other form.
unfoldable pub move : Bool → List ℕ → List ℕ → Moved × List ℕ
move new s out = put_records new (records (not new) s) out

-- ---- what the code says of its input

-- Where the newest record begins.
abbrev pub start_of : Result Newest Broken → Result ℕ Broken
start_of (Err e) = Err (record {})
start_of (Ok r) = Ok r.left

-- How many records there are.
abbrev pub count_of : Option (List OldValues) → Result ℕ Broken
count_of none = Err (record {})
count_of (some es) = Ok (length es)

-- So many bytes, if the output holds them.
abbrev pub room_of : ℕ → ℕ → Moved
room_of out n = cond (ltb out n) (Err refusal.Short) (Ok n)

-- A record of n bytes more or fewer: one byte more for each record in the new form.
abbrev pub moved_length : Bool → ℕ → ℕ → ℕ
moved_length true used n = used + n
moved_length false used n = used - n

-- The record whose L is at start + L, moved: to the new form 00, the L bytes and L + 1; to the old one the bytes after the kind and L - 1.
abbrev pub moved_record : Bool → List ℕ → ℕ → ℕ → List ℕ
moved_record true s start L = 0 ∷ (slice start (start + L) s ++ ((L + 1) ∷ []))
moved_record false s start L = slice (start + 1) (start + L) s ++ ((L - 1) ∷ [])

-- Its bytes right before those from `to` on, and all other bytes as they were; the answer is where they begin.
pub record PutBefore (to : ℕ) (r old new : List ℕ) (at : ℕ) : Type 0 where
  pub place : at + length r ≡ to
  pub bytes : drop at new ≡ r ++ drop to old
  pub size : length new ≡ length old

-- The input is records in a row, and the output holds them, moved: n bytes.
pub record Moves (new : Bool) (s : List ℕ) (n out : ℕ) : Type 0 where
  pub entries : List OldValues
  pub whole : records (not new) s ≡ some entries
  pub count : n ≡ length (row new entries)
  pub room : n ≤ out
