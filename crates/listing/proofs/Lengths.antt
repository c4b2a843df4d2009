-- How long the fields of a line are. A line has 14 to 24 bytes, its line feed counted (`line_bounds`), and a listing of n words at most 24 n.
-- Assumes nothing.
use Prim.Native.Nat.{ℕ, suc, ◌+◌, ◌≤◌, ◌<◌}
use mathlib.Core.Path.{◌≡◌}
use mathlib.Core.Bool.{◌&&◌}
use mathlib.Core.List.{List, [], ◌∷◌, ◌++◌}
use native.Mathlib.Omega.{arith}
use lib.Dec.{T, leb, leb→le}
use lib.ListN.{length, length-append}
use Rattle.text.specs.Text.{text}
use Rattle.text.specs.Digits.{hex}
use Rattle.text.proofs.Digits.{hex_length}
use Rattle.report.specs.Parts as parts
use Rattle.report.proofs.Finite.{all, below, both_left, both_right}
use Rattle.instruction.specs.Fields.{fields_of}
use Rattle.language.specs.declared.forms.Form.{Form}
use Rattle.language.specs.declared.forms.Form.TheVariants.{Word, Comparison, Write, Shift, Unary, Binary}
use Rattle.language.specs.Names.{split, destination_name, function_name, shift_name, comparison_name, register_name}
use Rattle.language.specs.Line.{operand, word_fields, fields, fields_by, form, spaced, line}
use Rattle.listing.specs.Listing.{lines, listing, most_bytes}
use Rattle.listing.proofs.Operands.{operand_bounds}
use Rattle.listing.proofs.Spacing.{spaced_length}
use Rattle.language.proofs.Shapes.{Told, told}

pub word_length : (w : ℕ) → length (spaced (word_fields w)) ≡ 14
unfolding spaced
word_length w = simp (length-append, hex_length)

pub line_length : (address w : ℕ) → length (line address w) ≡ length (spaced (fields w)) + 6
unfolding line
line_length address w =
    let b = hex 5 address ++ spaced (fields w) in
    omega (arith, length-append b (text "\n"), length-append (hex 5 address) (spaced (fields w)), hex_length 5 address)

-- ---- names

-- Of so many bytes at least, and so many at most.
abbrev pub Within : ℕ → ℕ → List ℕ → Type 0
Within low high t = (low ≤ length t) × (length t ≤ high)

-- The first n names of a kind, computed.
bounded : (t : ℕ → List ℕ) (low high n : ℕ)
    → T (all (λ k. leb low (length (t k)) && leb (length (t k)) high) n)
    → (k : ℕ)
    → k < n
    → Within low high (t k)
bounded t low high n e k h =
    let p = below (λ k. leb low (length (t k)) && leb (length (t k)) high) n e k h in (
      leb→le low (length (t k)) (both_left (leb low (length (t k))) (leb (length (t k)) high) p),
      leb→le (length (t k)) high (both_right (leb low (length (t k))) (leb (length (t k)) high) p),
    )

pub destination_bounds : (d : ℕ) → d < 8 → Within 1 3 (destination_name d)
unfolding destination_name split
destination_bounds d h = bounded destination_name 1 3 8 tt d h

pub result_bounds : (d : ℕ) → d < 6 → Within 1 2 (destination_name d)
unfolding destination_name split
result_bounds d h = bounded destination_name 1 2 6 tt d h

pub function_bounds : (f : ℕ) → f < 12 → Within 2 4 (function_name f)
unfolding function_name split
function_bounds f h = bounded function_name 2 4 12 tt f h

pub shift_bounds : (m : ℕ) → m < 4 → Within 3 4 (shift_name m)
unfolding shift_name split
shift_bounds m h = bounded shift_name 3 4 4 tt m h

pub comparison_bounds : (f : ℕ) → f < 16 → Within 2 3 (comparison_name f)
unfolding comparison_name split
comparison_bounds f h = bounded comparison_name 2 3 16 tt f h

pub register_bounds : (r : ℕ) → r < 4 → Within 1 1 (register_name r)
unfolding register_name split
register_bounds r h = bounded register_name 1 1 4 tt r h

-- ---- the line

three : (a b c : List ℕ) → length (spaced (a ∷ b ∷ c ∷ [])) ≡ length a + length b + length c + 3
unfolding spaced
three a b c =
    omega (arith, spaced_length a (b ∷ c ∷ []), spaced_length b (c ∷ []), spaced_length c [])

four : (a b c d : List ℕ) → length (spaced (a ∷ b ∷ c ∷ d ∷ [])) ≡ length a + length b + length c + length d + 4
four a b c d = omega (arith, spaced_length a (b ∷ c ∷ d ∷ []), three b c d)

fields_bounds : (w : ℕ) (t : Form) → Told t w → Within 8 18 (spaced (fields_by t w (fields_of w)))
unfolding fields_by
fields_bounds w Word e = let l = word_length w in (omega arith, omega arith)
fields_bounds w Comparison e =
    let c = comparison_bounds (parts.fsf w) (omega arith) in
    let r = register_bounds (parts.rsf w) (omega arith) in
    let o = operand_bounds (parts.msf w) (parts.addr w) in
    let l = four (text "CMP") (comparison_name (parts.fsf w)) (register_name (parts.rsf w)) (operand (parts.msf w) (parts.addr w)) in
    (omega arith, omega arith)
fields_bounds w Write e =
    let d = destination_bounds (parts.dsf w) (omega arith) in
    let r = register_bounds (parts.rsf w) (omega arith) in
    let o = operand_bounds (parts.msf w) (parts.addr w) in
    let l = three (destination_name (parts.dsf w)) (register_name (parts.rsf w)) (operand (parts.msf w) (parts.addr w)) in
    (omega arith, omega arith)
fields_bounds w Shift e =
    let d = destination_bounds (parts.dsf w) (omega arith) in
    let s = shift_bounds (parts.msf w) (omega arith) in
    let r = register_bounds (parts.rsf w) (omega arith) in
    let l = three (destination_name (parts.dsf w)) (shift_name (parts.msf w)) (register_name (parts.rsf w)) in
    (omega arith, omega arith)
fields_bounds w Unary e =
    let d = destination_bounds (parts.dsf w) (omega arith) in
    let f = function_bounds (parts.fsf w) (omega (arith, e.2)) in
    let o = operand_bounds (parts.msf w) (parts.addr w) in
    let l = three (destination_name (parts.dsf w)) (function_name (parts.fsf w)) (operand (parts.msf w) (parts.addr w)) in
    (omega arith, omega arith)
fields_bounds w Binary e =
    let d = result_bounds (parts.dsf w) (omega (arith, e.1)) in
    let f = function_bounds (parts.fsf w) (omega (arith, e.3)) in
    let r = register_bounds (parts.rsf w) (omega arith) in
    let o = operand_bounds (parts.msf w) (parts.addr w) in
    let l = four (destination_name (parts.dsf w)) (function_name (parts.fsf w)) (register_name (parts.rsf w)) (operand (parts.msf w) (parts.addr w)) in
    (omega arith, omega arith)

pub line_bounds : (address w : ℕ) → Within 14 24 (line address w)
line_bounds address w =
    let b = fields_bounds w (form w) (told w) in
    let l = line_length address w in
    (omega arith, omega arith)

-- The address, the fields and the line feed.
pub line_within : (w : ℕ) → length (spaced (fields w)) + 6 ≤ 24
line_within w = omega (arith, line_length 0 w, (line_bounds 0 w).1)

lines_at_most : (address : ℕ) (words : List ℕ) → length (lines address words) ≤ most_bytes (length words)
unfolding lines
lines_at_most address [] = omega arith
lines_at_most address (w ∷ words) =
    omega (arith, length-append (line address w) (lines (suc address) words), (line_bounds address w).1, lines_at_most (suc address) words)

pub listing_at_most : (main : List ℕ) → length (listing main) ≤ most_bytes (length main)
listing_at_most main = lines_at_most 0 main
