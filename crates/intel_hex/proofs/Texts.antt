-- How a text goes on after a line, and what each turn of a loop over lines or words decides.
-- Assumes nothing.
use Prim.Native.Nat.{ℕ, zero, suc, ◌+◌, ◌*◌, ◌-◌, ◌/◌, ◌%◌, ◌≤◌, ◌<◌}
use mathlib.Core.Path.{◌≡◌, refl, ap, sym, ◌∙◌}
use mathlib.Core.Bool.{Bool, true, false, cond, ◌&&◌}
use mathlib.Core.List.{List, [], ◌∷◌, ◌++◌}
use native.Mathlib.Omega.{arith}
use Rattle.std.specs.Prelude.{Option, Some, None, Result, Ok, Err}
use Rattle.std.proofs.lemmas.Option.{cond_some, some_pair_parts}
use Rattle.std.proofs.lemmas.Bool.{and_parts}
use lib.Dec.{leb, ltb, eqb}
use lib.ListN.{length, get_or, drop, set, length-drop}
use lib.Seq.{drop-drop}
use borrow.Author.Tests.{eq-eqb, ne_eqb, ltb-true, leb-true, eqb-true}
use Rattle.intel_hex.specs.Digits.{byte}
use Rattle.intel_hex.specs.Lines.{bytes, all_bytes, summed, count_of, address_of, type_of, signs_of, ending, size_of, well_formed, data_line, end_of, upper_of, by_type, layout_of, line_of, with_size}
use Rattle.intel_hex.specs.Imported.{named, has_words, turn_of, Text, after_line, text_in, text_of, stored, words_in, verdict}
use Rattle.intel_hex.specs.declared.lines.Span.{Span}
use Rattle.intel_hex.specs.declared.lines.Line.{Line}
use Rattle.intel_hex.specs.declared.lines.Line.TheVariants.{Data, Upper, End}
use Rattle.intel_hex.specs.declared.importing.Turn.{Turn}
use Rattle.intel_hex.specs.declared.importing.Turn.TheVariants.{On, Ended}
use Rattle.text.specs.declared.read.BadLine.{BadLine}
use Rattle.intel_hex.proofs.Bytes.{each_byte, bytes_after, bytes_before, byte_within, ending_within, summed_none}

-- Of words in a row each is four bytes.
pub first_word : (signs : List ℕ) (k : ℕ) → 0 < k → all_bytes (bytes (4 * k) signs) ≡ true → all_bytes (bytes 4 signs) ≡ true
first_word signs k h e =
    let n : 4 * k ≡ 4 + (4 * k - 4) = omega arith in
    let e' : all_bytes (bytes (4 + (4 * k - 4)) signs) ≡ true = rw n at e in
    bytes_before 4 (4 * k - 4) signs e'

pub later_words : (signs : List ℕ) (i k : ℕ) → all_bytes (bytes (4 * (i + k)) signs) ≡ true → all_bytes (bytes (4 * k) (drop (8 * i) signs)) ≡ true
later_words signs i k e =
    let n : 4 * (i + k) ≡ 4 * i + 4 * k = omega arith in
    let m : 2 * (4 * i) ≡ 8 * i = omega arith in
    let e' : all_bytes (bytes (4 * i + 4 * k) signs) ≡ true = rw n at e in
    rw m at (bytes_after (4 * i) (4 * k) signs e')

pub each_word : (signs : List ℕ) (count i : ℕ) → i < count → all_bytes (bytes (4 * count) signs) ≡ true → all_bytes (bytes 4 (drop (8 * i) signs)) ≡ true
each_word signs count i h e =
    let n : count ≡ i + (count - i) = omega arith in
    let e' : all_bytes (bytes (4 * (i + (count - i))) signs) ≡ true = ap (λ (m : ℕ). all_bytes (bytes (4 * m) signs)) (sym n) ∙ e in
    first_word (drop (8 * i) signs) (count - i) (omega arith) (later_words signs i (count - i) e')

-- The first of the words has its eight digits within the text.
pub eight_within : (text : List ℕ) (at k : ℕ) → 0 < k → all_bytes (bytes (4 * k) (drop at text)) ≡ true → at + 8 ≤ length text
eight_within text at k h e =
    omega (arith, byte_within text (at + 6) (rw (drop-drop 6 at text) at (each_byte 4 3 (drop at text) (first_word (drop at text) k h e) (omega arith))))

pub word_within : (signs : List ℕ) (count i : ℕ) → i < count → all_bytes (bytes (4 * count) signs) ≡ true → 8 * i ≤ length signs
word_within signs count i h e =
    let m : 2 * (4 * i) ≡ 8 * i = omega arith in
    let b = rw m at (each_byte (4 * count) (4 * i) signs e (omega arith)) in
    omega (arith, byte_within signs (8 * i) b)

-- A line that is not ill-formed has a record's shape.
pub shaped : (t : List ℕ) → (line_of t ≡ None → ⊥) → well_formed t ≡ true
unfolding line_of
shaped t g = go (well_formed t) refl
  where
    go : (b : Bool) → well_formed t ≡ b → well_formed t ≡ true
    go true e = e
    go false e = absurd (g (rw e))

module _ (t : List ℕ) (shape : well_formed t ≡ true) where
  after_colon : (eqb (summed (bytes (count_of t + 5) (drop 1 t))) 0 && ltb 0 (ending (drop (signs_of t) t))) ≡ true
  unfolding well_formed
  after_colon =
      (and_parts
      (eqb (get_or t 0 0) 58)
      (eqb (summed (bytes (count_of t + 5) (drop 1 t))) 0 && ltb 0 (ending (drop (signs_of t) t)))
      shape
      ).1

  pub line_bytes : all_bytes (bytes (count_of t + 5) (drop 1 t)) ≡ true
  line_bytes =
      let s = summed (bytes (count_of t + 5) (drop 1 t)) in
      summed_none (bytes (count_of t + 5) (drop 1 t)) (eqb-true s 0 (and_parts (eqb s 0) (ltb 0 (ending (drop (signs_of t) t))) after_colon).0)

  pub ending_some : 0 < ending (drop (signs_of t) t)
  ending_some =
      let rest = drop (signs_of t) t in
      let s = summed (bytes (count_of t + 5) (drop 1 t)) in
      ltb-true 0 (ending rest) (and_parts (eqb s 0) (ltb 0 (ending rest)) after_colon).1

  pub size_within : size_of t ≤ length t
  unfolding size_of
  size_within =
      let some = ending_some in
      omega (arith, ending_within (drop (signs_of t) t) some, length-drop (signs_of t) t)

  -- A line with its ending has twelve bytes or more.
  pub size_twelve : 12 ≤ size_of t
  unfolding size_of
  size_twelve =
      let some = ending_some in
      omega arith

pub size_some : (t : List ℕ) → 11 ≤ size_of t
unfolding size_of
size_some t = omega arith

pub line_room : (t : List ℕ) {l : Line} → line_of t ≡ Some l → (size_of t ≤ length t) × (12 ≤ size_of t)
line_room t {l} e =
    let w = shaped t (λ q. cc) in
    (size_within t w, size_twelve t w)

module _ (room base : ℕ) (t : List ℕ) where
  good_room : (turn_of room base (line_of t) ≡ None → ⊥) → (size_of t ≤ length t) × (12 ≤ size_of t)
  good_room g =
      let w = shaped t (λ q. g (rw q)) in
      (size_within t w, size_twelve t w)

  pub on_twelve : {b : ℕ} → turn_of room base (line_of t) ≡ Some (On b) → (size_of t ≤ length t) × (12 ≤ size_of t)
  on_twelve e = good_room (λ q. cc)

  pub ended_twelve : turn_of room base (line_of t) ≡ Some Ended → (size_of t ≤ length t) × (12 ≤ size_of t)
  ended_twelve e = good_room (λ q. cc)

  pub on_within : {b : ℕ} → turn_of room base (line_of t) ≡ Some (On b) → size_of t ≤ length t
  on_within e = (on_twelve e).0

-- Once there is fuel for every byte, how much there is does not matter.
enough : (k l room base : ℕ) (t : List ℕ) → length t < k → length t < l → text_in k room base t ≡ text_in l room base t
unfolding text_in
enough zero l room base t h g = absurd (omega arith)
enough (suc k) zero room base t h g = absurd (omega arith)
enough (suc k) (suc l) room base t h g = go (turn_of room base (line_of t)) refl (λ b. enough k l room b (drop (size_of t) t))
  where
    go : (turn : Option Turn) → turn_of room base (line_of t) ≡ turn
        → ((b : ℕ) → length (drop (size_of t) t) < k → length (drop (size_of t) t) < l → text_in k room b (drop (size_of t) t) ≡ text_in l room b (drop (size_of t) t))
        → text_in (suc k) room base t ≡ text_in (suc l) room base t
    go None e same = rw e
    go (Some Ended) e same = rw e
    go (Some (On b)) e same =
        let w = on_within room base t e in
        let s = size_some t in
        let d = length-drop (size_of t) t in
        rw (e, same b (omega arith) (omega arith))

module _ (room base : ℕ) (t : List ℕ) where
  pub text_bad : turn_of room base (line_of t) ≡ None → text_of room base t ≡ Err 1
  unfolding text_of text_in
  text_bad e = rw e

  pub text_ended : turn_of room base (line_of t) ≡ Some Ended → text_of room base t ≡ cond (eqb (length (drop (size_of t) t)) 0) (Ok []) (Err 2)
  unfolding text_of text_in
  text_ended e = rw e

  pub text_on : {b : ℕ} → turn_of room base (line_of t) ≡ Some (On b)
      → text_of room base t ≡ after_line (named base (line_of t) t) (text_of room b (drop (size_of t) t))
  unfolding text_of text_in
  text_on {b} e =
      let rest = drop (size_of t) t in
      let w = on_within room base t e in
      let s = size_some t in
      let d = length-drop (size_of t) t in
      rw (e, enough (length t) (suc (length rest)) room b rest (omega arith) (omega arith))

  pub ended_good : turn_of room base (line_of t) ≡ Some Ended → length t ≡ size_of t → text_of room base t ≡ Ok []
  ended_good e n = text_ended e ∙ rw (eq-eqb (length (drop (size_of t) t)) 0 (omega (arith, length-drop (size_of t) t)))

  pub ended_more : turn_of room base (line_of t) ≡ Some Ended → (length t ≡ size_of t → ⊥) → text_of room base t ≡ Err 2
  ended_more e g =
      let w = ended_twelve room base t e in
      let d = length-drop (size_of t) t in
      text_ended e ∙ rw (ne_eqb (length (drop (size_of t) t)) 0 (λ z. g (omega arith)))

  pub ended_words : turn_of room base (line_of t) ≡ Some Ended → words_in (text_of room base t) ≡ []
  ended_words e = rw (text_ended e) (go (eqb (length (drop (size_of t) t)) 0))
    where
      go : (b : Bool) → words_in (cond b (Ok []) (Err 2)) ≡ []
      go true = refl
      go false = refl

-- A verdict on lines that come after k others.
abbrev pub after_lines : ℕ → Result Unit BadLine → Result Unit BadLine
after_lines k (Ok u) = Ok u
after_lines k (Err line) = Err (record { 0 = k + line.0 })

bad_line_at : {m n : ℕ} → m ≡ n → ◌≡◌ {A = Result Unit BadLine} (Err (record { 0 = m })) (Err (record { 0 = n }))
bad_line_at e = rw e

pub after_none : (v : Result Unit BadLine) → v ≡ after_lines 0 v
after_none (Ok u) = refl
after_none (Err line) = bad_line_at (omega arith)

pub after_one : (k : ℕ) (ws : List (ℕ × ℕ)) (x : Text) → after_lines k (verdict (after_line ws x)) ≡ after_lines (k + 1) (verdict x)
after_one k ws (Ok more) = refl
after_one k ws (Err n) = bad_line_at (omega arith)

pub good_after : (ws : List (ℕ × ℕ)) (x : Text) → verdict (after_line ws x) ≡ Ok tt
    → (verdict x ≡ Ok tt) × (words_in (after_line ws x) ≡ ws ++ words_in x)
good_after ws (Ok more) e = (refl, refl)
good_after ws (Err n) e = cc

pub stored_append : (a b : List (ℕ × ℕ)) (main : List ℕ) → stored (a ++ b) main ≡ stored b (stored a main)
stored_append [] b main = refl
stored_append (w ∷ a) b main = stored_append a b (set main w.0 w.1)

-- Main has the words of a line after which the text goes on.
pub on_has_words : (room base b : ℕ) (l : Line) → turn_of room base (Some l) ≡ Some (On b) → has_words room base l ≡ true
on_has_words room base b (Data s) e = go (has_words room base (Data s)) refl
  where
    go : (t : Bool) → has_words room base (Data s) ≡ t → has_words room base (Data s) ≡ true
    go true q = q
    go false q =
        let f : ◌≡◌ {A = Option Turn} None (Some (On b)) = rw q at e in
        cc
on_has_words room base b (Upper u) e = refl
on_has_words room base b End e = refl

pub words_fit : (room base : ℕ) (s : Span) → (s.words ≡ 0 → ⊥) → has_words room base (Data s) ≡ true → base + s.first + s.words ≤ room
words_fit room base s g e =
    let f : leb (base + s.first + s.words) room ≡ true = rw (ne_eqb s.words 0 g) at e in
    leb-true (base + s.first + s.words) room f

-- A data record's words are its bytes by four.
data_count : (type count address upper : ℕ) (s : Span) → by_type type count address upper ≡ Some (Data s) → 4 * s.words ≡ count
unfolding by_type data_line end_of upper_of
data_count type count address upper s e = go (eqb type 0) (eqb type 1) (eqb type 4) e
  where
    d : Span
    d = record { first = address / 4; words = count / 4 }

    go : (p q r : Bool)
        → cond p (data_line count address) (cond q (end_of count address) (cond r (upper_of count address upper) None)) ≡ Some (Data s)
        → 4 * s.words ≡ count
    go true q r f =
        let test = eqb (count % 4) 0 && (eqb (address % 4) 0 && leb (address + count) 65536) in
        let o = cond_some test (Data d) (Data s) f in
        let m = eqb-true (count % 4) 0 (and_parts (eqb (count % 4) 0) (eqb (address % 4) 0 && leb (address + count) 65536) o.0).0 in
        let same : d ≡ s = cc in
        omega (arith, ap (λ (x : Span). x.words) same)
    go false true r f =
        let o = cond_some (eqb count 0 && eqb address 0) End (Data s) f in
        cc
    go false false true f =
        let o = cond_some (eqb count 2 && eqb address 0) (Upper (16384 * upper)) (Data s) f in
        cc
    go false false false f = cc

shape_opens : (t : List ℕ) {l : Option Line} → well_formed t ≡ true → line_of t ≡ l → layout_of t ≡ l
unfolding line_of
shape_opens t w e = rw w at e

layout_count : (t : List ℕ) (s : Span) → layout_of t ≡ Some (Data s) → 4 * s.words ≡ count_of t
unfolding layout_of
layout_count t s e = data_count (type_of t) (count_of t) (address_of t) (256 * byte (drop 9 t) + byte (drop 11 t)) s e

pub data_bytes_there : (t : List ℕ) (s : Span) → line_of t ≡ Some (Data s) → all_bytes (bytes (4 * s.words) (drop 9 t)) ≡ true
data_bytes_there t s e =
    let shape = shaped t (λ q. cc) in
    let n : count_of t + 5 ≡ 4 + (4 * s.words + 1) = omega (arith, layout_count t s (shape_opens t shape e)) in
    let all : all_bytes (bytes (4 + (4 * s.words + 1)) (drop 1 t)) ≡ true = rw n at (line_bytes t shape) in
    let rest : all_bytes (bytes (4 * s.words + 1) (drop 9 t)) ≡ true = rw (drop-drop 8 1 t) at (bytes_after 4 (4 * s.words + 1) (drop 1 t) all) in
    bytes_before (4 * s.words) 1 (drop 9 t) rest

pub not_good : {A : Type 0} {x : Text} {n : ℕ} → x ≡ Err n → verdict x ≡ Ok tt → A
not_good {A} {x} {n} e f =
    let g : verdict (Err n) ≡ Ok tt = rw e at f in
    cc

-- A good text goes on good after a good line, and its words are stored after the line's.
pub stored_on : (room base : ℕ) {b : ℕ} (t main : List ℕ)
    → turn_of room base (line_of t) ≡ Some (On b)
    → verdict (text_of room base t) ≡ Ok tt
    → (verdict (text_of room b (drop (size_of t) t)) ≡ Ok tt)
    × (stored (words_in (text_of room base t)) main ≡ stored (words_in (text_of room b (drop (size_of t) t))) (stored (named base (line_of t) t) main))
stored_on room base {b} t main e v =
    let ws = named base (line_of t) t in
    let x = text_of room b (drop (size_of t) t) in
    let o = text_on room base t e in
    let g = good_after ws x (rw o at v) in
    (g.0, rw (o, g.1, stored_append ws (words_in x) main))

-- What is read of a line is read with its bytes.
pub no_size : {A : Type 0} (line : List ℕ) (o : Option A) → ◌≡◌ {A = Option (A × ℕ)} None (with_size line o) → o ≡ None
no_size line (Some a) e = cc
no_size line None e = refl

pub size_is : {A : Type 0} (line : List ℕ) (o : Option A) {a : A} {n : ℕ} → ◌≡◌ {A = Option (A × ℕ)} (Some (a, n)) (with_size line o) → (o ≡ Some a) × (n ≡ size_of line)
size_is line (Some b) e = let p = some_pair_parts _ _ _ _ e in (ap Some (sym p.0), p.1)
size_is line None e = cc

-- The same, of a value that a pattern names.
pub size_is_at : {A : Type 0} (line : List ℕ) (o : Option A) {a b : A} {n : ℕ} → ◌≡◌ {A = Option (A × ℕ)} (Some (a, n)) (with_size line o) → a ≡ b → (o ≡ Some b) × (n ≡ size_of line)
size_is_at line o e f =
    let p = size_is line o e in
    (p.0 ∙ ap Some f, p.1)

-- The first line of a good text is what its type says.
module _ (room base : ℕ) (t : List ℕ) (v : verdict (text_of room base t) ≡ Ok tt) where
  good_formed : well_formed t ≡ true
  unfolding line_of
  good_formed = go (well_formed t) refl
    where
      go : (b : Bool) → well_formed t ≡ b → well_formed t ≡ true
      go true e = e
      go false e =
          let q : turn_of room base (line_of t) ≡ None = rw e in
          not_good (text_bad room base t q) v

  -- So it is what its type says.
  pub good_layout : layout_of t ≡ line_of t
  unfolding line_of
  good_layout = rw good_formed

  pub good_line : {line : Line} {size : ℕ} → (well_formed t ≡ true → ◌≡◌ {A = Option (Line × ℕ)} (Some (line, size)) (with_size t (layout_of t)))
      → (line_of t ≡ Some line) × (size ≡ size_of t)
  unfolding line_of
  good_line f =
      let p = size_is t (layout_of t) (f good_formed) in
      (rw good_formed p.0, p.1)

  pub no_good_line : {A : Type 0} → (well_formed t ≡ true → ◌≡◌ {A = Option (Line × ℕ)} None (with_size t (layout_of t))) → A
  unfolding line_of
  no_good_line f =
      let p = no_size t (layout_of t) (f good_formed) in
      let q : turn_of room base (line_of t) ≡ None = rw (good_formed, p) in
      not_good (text_bad room base t q) v

-- The turn of the line that the code has.
pub turned : (room base : ℕ) (t : List ℕ) {r : ℕ} {line : Line} {which : Option Turn} → r ≡ room → line_of t ≡ Some line → which ≡ turn_of r base (Some line)
    → turn_of room base (line_of t) ≡ which
turned room base t {r} e f g = ap (λ (n : ℕ). turn_of n base (line_of t)) (sym e) ∙ ap (λ (o : Option Line). turn_of r base o) f ∙ sym g
