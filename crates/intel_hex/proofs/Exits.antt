-- What each way out of a call comes to.
-- Assumes nothing.
use Prim.Native.Nat.{ℕ, ◌<◌, ◌≤◌}
use mathlib.Core.Path.{◌≡◌, refl}
use mathlib.Core.List.{List}
use native.Mathlib.Omega.{arith}
use lib.ListN.{length}
use borrow.Author.Tests.{lt-ltb, le-ltb}
use Rattle.std.specs.Prelude.{Result, Ok, Err}
use Rattle.intel_hex.specs.Exported.{exported, exported_length, export_answer, Exports}
use Rattle.intel_hex.specs.declared.exporting.ExportRefusal.TheVariants.{OutTooShort, MainTooLong as ExportTooLong}
use Rattle.intel_hex.specs.Imported.{text_of, words_in, stored, verdict, import_answer, Imports}
use Rattle.intel_hex.specs.declared.importing.ImportRefusal.TheVariants.{MainTooLong, BadText}
use Rattle.text.specs.declared.read.BadLine.{BadLine}
use Rattle.text.specs.Placed.{Placed}
use Rattle.intel_hex.proofs.Lengths.{exported_length_is}

pub export_too_long : (main out : List ℕ) → 1048576 < length main → Exports main out (Err ExportTooLong) out
unfolding export_answer
export_too_long main out h = record { answer_is = rw (lt-ltb 1048576 (length main) h); out_is = rw (lt-ltb 1048576 (length main) h) }

pub export_too_short : (main out : List ℕ)
    → length main ≤ 1048576
    → length out < exported_length (length main)
    → Exports main out (Err OutTooShort) out
unfolding export_answer
export_too_short main out h l =
    let a = le-ltb 1048576 (length main) h in
    let b = lt-ltb (length out) (exported_length (length main)) l in
    record { answer_is = rw (a, b); out_is = rw (a, b) }

pub export_written : {main out after : List ℕ} {n next : ℕ}
    → length main ≤ 1048576
    → n ≡ exported_length (length main)
    → exported_length (length main) ≤ length out
    → Placed 0 (exported main) out next after
    → Exports main out (Ok n) after
unfolding export_answer
export_written {main} {out} {after} {n} {next} h e l p =
    let a = le-ltb 1048576 (length main) h in
    let b = le-ltb (length out) (exported_length (length main)) l in
    let k : next ≡ exported_length (length main) = omega (arith, p.next_is, exported_length_is main) in
    record { answer_is = rw (a, b, e); out_is = rw (a, b, ← k) p.after_is }

pub import_too_long : (main text : List ℕ) → 1048576 < length main → Imports main text (Err MainTooLong) main
unfolding import_answer
import_too_long main text h =
    let a = lt-ltb 1048576 (length main) h in
    record { answer_is = rw a; used_is = λ used. rw a; main_is = rw a }

module _ {main : List ℕ} (text : List ℕ) {v : Result Unit BadLine} (h : length main ≤ 1048576) (j : v ≡ verdict (text_of (length main) 0 text)) where
  pub import_bad : {line : BadLine} → v ≡ Err line → Imports main text (Err (BadText line.0)) main
  unfolding import_answer
  import_bad e =
      let a = le-ltb 1048576 (length main) h in
      record { answer_is = rw (a, ← j, e); used_is = λ used. rw (a, ← j, e); main_is = rw (a, ← j, e) refl }

  pub import_good : {after : List ℕ} → v ≡ Ok tt
      → after ≡ stored (words_in (text_of (length main) 0 text)) main
      → Imports main text (Ok 0) after
  unfolding import_answer
  import_good e s =
      let a = le-ltb 1048576 (length main) h in
      record { answer_is = rw (a, ← j, e); used_is = λ used. rw (a, ← j, e); main_is = rw (a, ← j, e) s }
