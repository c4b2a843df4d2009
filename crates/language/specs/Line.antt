-- The line of a word (document 02, W1): its address and its fields, with single blanks between them, and a line feed.
-- Assumes nothing.
use Rattle.std.specs.Prelude.{ℕ, cond, List, [], ◌∷◌, ◌++◌, leb, eqb}
use Prim.Native.Char.{code}
use Rattle.report.specs.Parts as parts
use Rattle.report.specs.Parts.{of, always_halts}
use Rattle.instruction.specs.Fields.{fields_of}
use Rattle.instruction.specs.declared.Fields.{Fields}
use Rattle.text.specs.Text.{text}
use Rattle.text.specs.Digits.{hex}
use Rattle.language.specs.Names.{destination_name, function_name, shift_name, comparison_name, register_name}
use Rattle.language.specs.declared.forms.Form.{Form}
use Rattle.language.specs.declared.forms.Form.TheVariants.{Word, Comparison, Write, Shift, Unary, Binary}

-- ---- which fields a word has

-- A form in which some bits are ignored is only for words where these are zero.
abbrev pub ignoring : ℕ → Form → Form
ignoring bits form = cond (eqb bits 0) form Word

-- Comparisons ignore dsf, writes fsf, shifts addr, functions 0-3 rsf.
unfoldable pub function_form : Fields → Form
function_form f =
    cond (eqb f.fsf 12) (ignoring f.addr Shift)
    (cond (leb f.fsf 3) (ignoring f.rsf Unary)
    Binary)

unfoldable pub form : ℕ → Form
form w =
    cond (of always_halts w) Word
    (cond (of parts.comparison w) (ignoring (parts.dsf w) Comparison)
    (cond (of parts.write w) (ignoring (parts.fsf w) Write)
    (function_form (fields_of w))))

-- ---- the fields

-- #00005, 00005, 00005+X or 00005+Y, by msf.
unfoldable pub operand : ℕ → ℕ → List ℕ
operand m a =
    cond (eqb m 0) (text "#" ++ hex 5 a)
    (cond (eqb m 1) (hex 5 a)
    (cond (eqb m 2) (hex 5 a ++ text "+X")
    (hex 5 a ++ text "+Y")))

-- Of each form.
abbrev pub word_fields : ℕ → List (List ℕ)
word_fields w = text "WORD" ∷ hex 8 w ∷ []

abbrev pub comparison_fields : Fields → List (List ℕ)
comparison_fields f = text "CMP" ∷ comparison_name f.fsf ∷ register_name f.rsf ∷ operand f.msf f.addr ∷ []

abbrev pub write_fields : Fields → List (List ℕ)
write_fields f = destination_name f.dsf ∷ register_name f.rsf ∷ operand f.msf f.addr ∷ []

abbrev pub shift_fields : Fields → List (List ℕ)
shift_fields f = destination_name f.dsf ∷ shift_name f.msf ∷ register_name f.rsf ∷ []

abbrev pub unary_fields : Fields → List (List ℕ)
unary_fields f = destination_name f.dsf ∷ function_name f.fsf ∷ operand f.msf f.addr ∷ []

abbrev pub binary_fields : Fields → List (List ℕ)
binary_fields f =
    destination_name f.dsf ∷ function_name f.fsf ∷ register_name f.rsf ∷ operand f.msf f.addr ∷ []

unfoldable pub fields_by : Form → ℕ → Fields → List (List ℕ)
fields_by Word w f = word_fields w
fields_by Comparison w f = comparison_fields f
fields_by Write w f = write_fields f
fields_by Shift w f = shift_fields f
fields_by Unary w f = unary_fields f
fields_by Binary w f = binary_fields f

abbrev pub fields : ℕ → List (List ℕ)
fields w = fields_by (form w) w (fields_of w)

-- ---- the line

-- A text after a blank.
abbrev pub field : List ℕ → List ℕ
field t = code " " ∷ t

unfoldable pub spaced : List (List ℕ) → List ℕ
spaced [] = []
spaced (t ∷ ts) = field t ++ spaced ts

unfoldable pub line : ℕ → ℕ → List ℕ
line address w = hex 5 address ++ spaced (fields w) ++ text "\n"
