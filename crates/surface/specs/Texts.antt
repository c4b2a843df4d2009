-- What a C caller sees of the calls on texts (include/viper.h): the number answered, and what was lent as the call leaves it.
-- Assumes nothing.
use Rattle.std.specs.Prelude.{ℕ, ◌+◌, ◌*◌, ◌<◌, ◌^◌, cond, List, ltb, length, Result, Ok, Err}
use Rattle.listing.specs.Listing as listing
use Rattle.listing.specs.declared.store.ListRefusal.{ListRefusal}
use Rattle.intel_hex.specs.Imported as importing
use Rattle.intel_hex.specs.Exported as exporting
use Rattle.intel_hex.specs.declared.importing.ImportRefusal.{ImportRefusal}
use Rattle.intel_hex.specs.declared.importing.ImportRefusal.TheVariants as imports
use Rattle.intel_hex.specs.declared.exporting.ExportRefusal.{ExportRefusal}
use Rattle.intel_hex.specs.declared.exporting.ExportRefusal.TheVariants as exports

-- ---- the listing (document 02, W1)

-- The bytes written in the low 32 bits, or the refusal in the high 32.
abbrev pub list_number : Result ℕ ListRefusal → ℕ
list_number (Ok n) = n
list_number (Err refusal) = listing.refusal_number refusal * 2 ^ 32

abbrev pub listed : List ℕ → List ℕ → ℕ × List ℕ
listed main out =
    let answer = listing.answer main (length out) in
    (list_number answer, listing.output_after answer main out)

-- ---- Intel HEX (document 02, W4)

-- A line past 2^32 - 1 counts as that.
abbrev pub line_number : ℕ → ℕ
line_number n = cond (ltb n (2 ^ 32)) n 4294967295

-- 0, 2, or 12 and the first bad line in the high 32 bits.
abbrev pub import_number : Result ℕ ImportRefusal → ℕ
import_number (Ok count) = 0
import_number (Err imports.MainTooLong) = 2
import_number (Err (imports.BadText n)) = 12 + line_number n * 2 ^ 32

abbrev pub imported : List ℕ → ℕ → List ℕ → ℕ × List ℕ × ℕ
imported main used text =
    let answer = importing.import_answer (length main) text in
    (import_number answer, importing.main_after answer text main, importing.used_after answer used)

-- The bytes written in the high 32 bits, or 2 or 9.
abbrev pub export_number : Result ℕ ExportRefusal → ℕ
export_number (Ok n) = n * 2 ^ 32
export_number (Err exports.MainTooLong) = 2
export_number (Err exports.OutTooShort) = 9

abbrev pub exported : List ℕ → List ℕ → ℕ × List ℕ
exported main out =
    let answer = exporting.export_answer (length main) (length out) in
    (export_number answer, exporting.out_after answer main out)

-- The bytes written fit the high half.
abbrev pub Countable : Result ℕ ExportRefusal → Type 0
Countable (Ok n) = n < 2 ^ 32
Countable (Err refusal) = Unit {0}
