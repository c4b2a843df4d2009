use Rattle.std.proofs.Common.{arith, sym, ◌∙◌, ◌≡◌, ◌≤◌, ◌<◌, ℕ, List, ◌+◌, ◌-◌, ◌*◌, length, drop, get_or, length-drop, Ok, Some}
use native.Mathlib.Nat.{add-zero}
use lib.Seq.{drop-drop, get_or-drop}
use Rattle.counter.specs.Routine.{first_line, routine_of, answer}
use Rattle.counter.proofs.Reading.{line_of_rest, not_ill_formed, same_word, nine_bytes, words_in, good_text, next_word, first_word, words_fit}
use Rattle.counter.proofs.routine.store.Goals as goal

-- There are as many words as lines, and main has room for them.
counted : (room n : ℕ) (text : List ℕ) → answer (routine_of room text) ≡ Ok n → (length (words_in (routine_of room text)) ≡ n) × (n ≤ room)
counted room n text e =
    let g = good_text (routine_of room text) n e in
    (g.1, omega (arith, words_fit room text (words_in (routine_of room text)) g.0))

-- What a line gives: its word is the next one, it has nine bytes, and the rest is the routine of the other words.
record Turn (room : ℕ) (text ws : List ℕ) (done : ℕ) : Type 0 where
  line : first_line (drop (9 * done) text) ≡ Some (get_or ws done 0)
  whole : 9 * (done + 1) ≤ length text
  rest : routine_of (room - (done + 1)) (drop (9 * (done + 1)) text) ≡ Ok (drop (done + 1) ws)

turn : (room : ℕ) (text ws : List ℕ) (done : ℕ)
    → done < length ws
    → routine_of (room - done) (drop (9 * done) text) ≡ Ok (drop done ws)
    → Turn room text ws done
turn room text ws done more e =
    let f = first_word (room - done) (drop (9 * done) text) (drop done ws) e (rw length-drop (omega arith)) in
    let w : get_or (drop done ws) 0 0 ≡ get_or ws done 0 = rw (get_or-drop, add-zero) in
    let g = rw w at f.0 in
    let k : room - done - 1 ≡ room - (done + 1) = omega arith in
    let next : 9 * done + 9 ≡ 9 * (done + 1) = omega arith in
    record {
      line = g;
      whole = omega (arith, length-drop (9 * done) text, nine_bytes (drop (9 * done) text) _ g);
      rest = simp (k, next, drop-drop) at f.1;
    }

pub bounds-main-done : goal.bounds-main-done
bounds-main-done c = omega (arith, counted (length c.args.main.now) c.args.count c.args.text.now c.requires)

pub returns-in_default : goal.returns-in_default
returns-in_default c =
    let l = c.loop-done in
    let n = counted (length c.args.main.now) c.args.count c.args.text.now c.requires in
    let t = turn (length c.args.main.now) c.args.text.now _ l.done (omega arith) l.invariant.2 in
    not_ill_formed t.line (sym (line_of_rest (9 * l.done) c.args.text.now c.read_line.ensures) ∙ c.in_default.is)

pub loop-done-preserved : goal.loop-done-preserved
loop-done-preserved c =
    let main = c.args.main.now in
    let l = c.loop-done in
    let n = counted (length main) c.args.count c.args.text.now c.requires in
    let t = turn (length main) c.args.text.now _ l.done (omega arith) l.invariant.2 in
    let w = same_word (sym (line_of_rest (9 * l.done) c.args.text.now c.read_line.ensures) ∙ c.in-Some.is) t.line in (
      t.whole,
      rw (l.invariant.1, w) (next_word (words_in (routine_of (length main) c.args.text.now)) main l.done (omega arith) (omega arith)),
      t.rest,
    )
