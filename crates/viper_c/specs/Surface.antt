-- What a C caller sees of a call (include/viper.h): what it lends, what the call leaves there, and the number it answers.
-- Assumes nothing.
use Rattle.std.specs.Prelude.{ℕ, ◌+◌, ◌*◌, ◌^◌, Bool, not, cond, List, [], ◌∷◌, eqb, get_or, Ok, Err}
use Rattle.std.specs.Result.{is_ok}
use Rattle.machine.specs.Held.{machine_of}
use Rattle.machine.specs.declared.Machine.{Machine}
use Rattle.machine.specs.declared.Ending.{Ending}
use Rattle.machine.specs.declared.Ending.TheVariants as ending
use Rattle.viper.specs.Refusals.{Answer, number}
use Rattle.viper.specs.Operations.{Bench, Outcome}
use Rattle.viper.specs.Runs.{RunAnswer, RunOutcome}
use Rattle.viper.specs.Told.{bench}

-- ---- regs: A, X, Y, P, B, STOP, one word each

-- B and STOP count as set if they are not 0.
abbrev pub is_set : ℕ → Bool
is_set word = not (eqb word 0)

abbrev pub one_or_zero : Bool → ℕ
one_or_zero b = cond b 1 0

abbrev pub machine_of_regs : List ℕ → Machine
machine_of_regs regs =
    record {
      a = get_or regs 0 0;
      x = get_or regs 1 0;
      y = get_or regs 2 0;
      p = get_or regs 3 0;
      b = is_set (get_or regs 4 0);
      stop = is_set (get_or regs 5 0);
    }

abbrev pub regs_of_machine : Machine → List ℕ
regs_of_machine m = m.a ∷ m.x ∷ m.y ∷ m.p ∷ one_or_zero m.b ∷ one_or_zero m.stop ∷ []

-- ---- the numbers answered

-- 0 for an accepted call, else the refusal's number.
abbrev pub answer_number : Answer → ℕ
answer_number (Ok u) = 0
answer_number (Err r) = number r

abbrev pub ending_number : Ending → ℕ
ending_number ending.Stopped = 0
ending_number ending.Budget = 1
ending_number ending.Unfitted = 2
ending_number ending.Full = 3

-- The steps done in the low 32 bits and the ending in the high 32; or 16 + n there, for refusal n.
abbrev pub run_number : RunAnswer → ℕ
run_number (Ok ended) = ended.0 + ending_number ended.1 * 2 ^ 32
run_number (Err r) = (16 + number r) * 2 ^ 32

-- ---- what is lent, and what is left

-- The words of regs, of main and of the ports, the bytes of the trail, and the count of those in use.
pub record Lent : Type 0 where
  pub regs : List ℕ
  pub main : List ℕ
  pub ports : List ℕ
  pub trail : List ℕ
  pub used : ℕ

abbrev pub lending : List ℕ → List ℕ → List ℕ → List ℕ → ℕ → Lent
lending regs main ports trail used = record { regs = regs; main = main; ports = ports; trail = trail; used = used }

-- The bench that is lent.
abbrev pub bench_of : Lent → Bench
bench_of l = bench (machine_of_regs l.regs) l.main l.ports l.trail l.used

-- The number answered, and what was lent as the call leaves it.
pub record Seen : Type 0 where
  pub answered : ℕ
  pub left : Lent

abbrev pub seen : ℕ → Lent → Seen
seen n l = record { answered = n; left = l }

-- What was lent, with the bench after the call: an accepted call writes all of regs and the count in use, a refused one neither.
abbrev pub left_by : Bool → Bench → Lent → Lent
left_by accept b l =
    lending (cond accept (regs_of_machine (machine_of b.state)) l.regs) b.state.0.main b.state.0.ports b.trail (cond accept b.used l.used)

-- What C sees of a call, by what the call does to a bench.
abbrev pub called : (Bench → Outcome) → Lent → Seen
called call l = let o = call (bench_of l) in seen (answer_number o.answered) (left_by (is_ok o.answered) o.bench l)

abbrev pub run_called : (Bench → RunOutcome) → Lent → Seen
run_called call l = let o = call (bench_of l) in seen (run_number o.answered) (left_by (is_ok o.answered) o.bench l)
