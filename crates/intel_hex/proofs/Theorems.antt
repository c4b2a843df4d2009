-- What a user of the two calls may rely on: the contracts leave one outcome, a refused import changes nothing, an export imported gives
-- the words back, words not named stay, and of a word named twice the last value stays.
-- Assumes nothing.
use Prim.Native.Nat.{ℕ, zero, suc, ◌+◌, ◌*◌, ◌≤◌, ◌<◌}
use mathlib.Core.Path.{◌≡◌, refl, sym, ◌∙◌}
use mathlib.Core.Bool.{Bool, true, false, cond, ◌||◌}
use mathlib.Core.List.{List, [], ◌∷◌, ◌++◌}
use native.Mathlib.Omega.{arith}
use Rattle.std.specs.Prelude.{Option, Some, None, Result, Ok, Err}
use lib.Dec.{eqb, ltb}
use lib.ListN.{length, get_or, take, drop, set, length-set, length-drop}
use lib.Seq.{take_at, get_or-set_same, get_or-set_other}
use borrow.Author.Tests.{eqb-false, ltb-false, le-ltb}
use Rattle.intel_hex.specs.Exported.{exported, exported_length, export_answer, out_after, Exports}
use Rattle.intel_hex.specs.Lines.{size_of, line_of}
use Rattle.intel_hex.specs.declared.importing.Turn.{Turn}
use Rattle.intel_hex.specs.declared.importing.Turn.TheVariants.{On, Ended}
use Rattle.intel_hex.specs.Imported.{named, turn_of, Text, after_line, text_in, text_of, stored, verdict, answer, import_answer, used_after, Imports}
use Rattle.intel_hex.specs.Returns.{with_returns}
use Rattle.intel_hex.specs.declared.exporting.ExportRefusal.{ExportRefusal}
use Rattle.intel_hex.specs.declared.importing.ImportRefusal.{ImportRefusal}
use Rattle.intel_hex.specs.declared.importing.ImportRefusal.TheVariants.{MainTooLong, BadText}
use Rattle.intel_hex.proofs.FirstBad.{BadAt, bad_at_is_bad, bad_is_bad_at}
use Rattle.intel_hex.proofs.Lengths.{exported_length_is}
use Rattle.intel_hex.proofs.Texts.{on_twelve, ended_twelve}
use Rattle.intel_hex.proofs.Words.{in_range}
use Rattle.intel_hex.proofs.Returns.{none_put}
use Rattle.intel_hex.proofs.RoundTrip.{round_trip}

-- An accepted export wrote the export of main, and main is not too long.
pub export_accepted : {main out after : List ℕ} {n : ℕ} → Exports main out (Ok n) after
    → (take n after ≡ exported main) × (length main ≤ 1048576)
unfolding export_answer
export_accepted {main} {out} {after} {n} e =
    go (ltb 1048576 (length main)) (ltb (length out) (exported_length (length main))) refl refl e.answer_is e.out_is
  where
    go : (s t : Bool) → ltb 1048576 (length main) ≡ s → ltb (length out) (exported_length (length main)) ≡ t
        → Ok n ≡ export_answer (length main) (length out)
        → after ≡ out_after (export_answer (length main) (length out)) main out
        → (take n after ≡ exported main) × (length main ≤ 1048576)
    go true t p q a o =
        let b = rw p at a in
        cc
    go false true p q a o =
        let b = rw (p, q) at a in
        cc
    go false false p q a o =
        let b : Ok n ≡ Ok (exported_length (length main)) = rw (p, q) at a in
        let m : n ≡ exported_length (length main) = cc in
        let o' : after ≡ exported main ++ drop (exported_length (length main)) out = rw (p, q) at o in (
          rw (o', m) (take_at (exported main) (drop (exported_length (length main)) out) (exported_length (length main)) (exported_length_is main)),
          ltb-false 1048576 (length main) p,
        )

-- What was exported, with whatever carriage returns before its line feeds, imported into as long a main, gives the same words, whatever
-- that main held; history starts again.
pub exported_then_imported_with_returns : (choices : List Bool) {main out after other other' : List ℕ} {n : ℕ} {r : Result ℕ ImportRefusal}
    → Exports main out (Ok n) after
    → Imports other (with_returns choices (take n after)) r other'
    → length other ≡ length main
    → in_range main
    → (r ≡ Ok 0) × (other' ≡ main)
exported_then_imported_with_returns choices {main} {out} {after} {other} {other'} {n} {r} e i l w =
    let x = export_accepted e in
    let t = round_trip choices main other l x.1 w in
    let a : import_answer (length other) (with_returns choices (take n after)) ≡ Ok 0 = rw x.0 t.0 in
    (i.answer_is ∙ a, i.main_is ∙ rw (a, x.0) t.1)

pub exported_then_imported : {main out after other other' : List ℕ} {n : ℕ} {r : Result ℕ ImportRefusal}
    → Exports main out (Ok n) after
    → Imports other (take n after) r other'
    → length other ≡ length main
    → in_range main
    → (r ≡ Ok 0) × (other' ≡ main)
exported_then_imported {main} {out} {after} {other} {other'} {n} {r} e i l w =
    let j : Imports other (with_returns [] (take n after)) r other' = rw (none_put (take n after)) i in
    exported_then_imported_with_returns [] e j l w

-- The contract of an import leaves one outcome, and so does that of an export.
pub import_unique : {main text after after' : List ℕ} {r r' : Result ℕ ImportRefusal}
    → Imports main text r after
    → Imports main text r' after'
    → (r ≡ r') × (after ≡ after')
import_unique i j = (i.answer_is ∙ sym j.answer_is, i.main_is ∙ sym j.main_is)

pub export_unique : {main out after after' : List ℕ} {r r' : Result ℕ ExportRefusal}
    → Exports main out r after
    → Exports main out r' after'
    → (r ≡ r') × (after ≡ after')
export_unique e f = (e.answer_is ∙ sym f.answer_is, e.out_is ∙ sym f.out_is)

pub refused_writes_nothing : {main out after : List ℕ} {refusal : ExportRefusal} → Exports main out (Err refusal) after → after ≡ out
refused_writes_nothing i =
    let a = sym i.answer_is in
    i.out_is ∙ rw a

pub refused_changes_nothing : {main text after : List ℕ} {used : ℕ} {refusal : ImportRefusal}
    → Imports main text (Err refusal) after
    → (after ≡ main) × (used_after (import_answer (length main) text) used ≡ used)
refused_changes_nothing {used = used} i =
    let a = sym i.answer_is in
    (i.main_is ∙ rw a, sym (i.used_is used))

pub accepted_starts_again : {main text after : List ℕ} {count : ℕ} → Imports main text (Ok count) after → count ≡ 0
unfolding import_answer
accepted_starts_again {main} {text} {after} {count} i = go (ltb 1048576 (length main)) (text_of (length main) 0 text) i.answer_is
  where
    go : (long : Bool) (x : Text) → Ok count ≡ cond long (Err MainTooLong) (answer (verdict x)) → count ≡ 0
    go true x e = cc
    go false (Ok words) e = cc
    go false (Err n) e = cc

-- Whether a word is named.
abbrev pub names : ℕ → List (ℕ × ℕ) → Bool
names p [] = false
names p (w ∷ words) = eqb p w.0 || names p words

or_false : (a b : Bool) → (a || b) ≡ false → (a ≡ false) × (b ≡ false)
or_false true b e = cc
or_false false b e = (refl, e)

pub not_named_stays : (words : List (ℕ × ℕ)) (main : List ℕ) (p : ℕ) → names p words ≡ false → get_or (stored words main) p 0 ≡ get_or main p 0
not_named_stays [] main p e = refl
not_named_stays (w ∷ words) main p e =
    let o = or_false (eqb p w.0) (names p words) e in
    not_named_stays words (set main w.0 w.1) p o.1
    ∙ get_or-set_other main w.0 p w.1 0 (eqb-false p w.0 o.0)

pub last_named_counts : (first : List (ℕ × ℕ)) (p v : ℕ) (words : List (ℕ × ℕ)) (main : List ℕ)
    → p < length main
    → names p words ≡ false
    → get_or (stored (first ++ ((p, v) ∷ words)) main) p 0 ≡ v
last_named_counts [] p v words main h e = not_named_stays words (set main p v) p e ∙ get_or-set_same main p v 0 h
last_named_counts (w ∷ first) p v words main h e =
    last_named_counts first p v words (set main w.0 w.1) (rw (length-set main w.0 w.1) h) e

-- The first bad line: every line before it has at least twelve bytes.
bad_in : (k room base : ℕ) (t : List ℕ) (n : ℕ) → length t < k → text_in k room base t ≡ Err n → 12 * n ≤ length t + 12
unfolding text_in
bad_in zero room base t n h e = absurd (omega arith)
bad_in (suc k) room base t n h e = go (turn_of room base (line_of t)) refl e (λ b m. bad_in k room b (drop (size_of t) t) m)
  where
    one : ◌≡◌ {A = Text} (Err 1) (Err n) → n ≡ 1
    one q = cc

    two : ◌≡◌ {A = Text} (Err 2) (Err n) → n ≡ 2
    two q = cc

    go : (turn : Option Turn) → turn_of room base (line_of t) ≡ turn
        → text_in (suc k) room base t ≡ Err n
        → ((b m : ℕ) → length (drop (size_of t) t) < k → text_in k room b (drop (size_of t) t) ≡ Err m → 12 * m ≤ length (drop (size_of t) t) + 12)
        → 12 * n ≤ length t + 12
    go None q f rest = omega (arith, one (rw q at f))
    go (Some Ended) q f rest = ended (eqb (length (drop (size_of t) t)) 0) refl (rw q at f)
      where
        ended : (b : Bool) → eqb (length (drop (size_of t) t)) 0 ≡ b → ◌≡◌ {A = Text} (cond b (Ok []) (Err 2)) (Err n) → 12 * n ≤ length t + 12
        ended true g f = cc
        ended false g f =
            omega (arith, two f, ended_twelve room base t q, length-drop (size_of t) t)
    go (Some (On b)) q f rest = on (text_in k room b (drop (size_of t) t)) refl (rw q at f)
      where
        on : (x : Text) → text_in k room b (drop (size_of t) t) ≡ x → after_line (named base (line_of t) t) x ≡ Err n → 12 * n ≤ length t + 12
        on (Ok ws) g f = cc
        on (Err m) g f =
            let s : suc m ≡ n = cc in
            let w = on_twelve room base t q in
            let d = length-drop (size_of t) t in
            omega (arith, rest b m (omega arith) g)

-- So its number is at most a twelfth of the length, and one.
pub bad_line_bound : (room base : ℕ) (t : List ℕ) (n : ℕ) → text_of room base t ≡ Err n → 12 * n ≤ length t + 12
unfolding text_of
bad_line_bound room base t n e = bad_in (suc (length t)) room base t n (omega arith) e

-- Refusal 12 carries the first bad line.
pub refused_at_first_bad_line : {main text after : List ℕ} {n : ℕ} {r : Result ℕ ImportRefusal}
    → Imports main text r after
    → r ≡ Err (BadText n)
    → BadAt (length main) 0 text n
unfolding import_answer
refused_at_first_bad_line {main} {text} {n = n} i e = go (ltb 1048576 (length main)) (text_of (length main) 0 text) refl (sym i.answer_is ∙ e)
  where
    go : (long : Bool) (x : Text) → text_of (length main) 0 text ≡ x → cond long (Err MainTooLong) (answer (verdict x)) ≡ Err (BadText n) → BadAt (length main) 0 text n
    go true x p q = cc
    go false (Ok words) p q = cc
    go false (Err m) p q =
        let same : ◌≡◌ {A = Text} (Err m) (Err n) = cc in
        bad_is_bad_at (length main) 0 text n (p ∙ same)

pub first_bad_line_refused : {main text after : List ℕ} {n : ℕ} {r : Result ℕ ImportRefusal}
    → Imports main text r after
    → length main ≤ 1048576
    → BadAt (length main) 0 text n
    → r ≡ Err (BadText n)
unfolding import_answer
first_bad_line_refused {main} i h b = i.answer_is ∙ rw (le-ltb 1048576 (length main) h, bad_at_is_bad b)
