-- The words of the third demand: a valid machine with its stores, calls in a row, the list of operations kept beside them,
-- and what the operations still listed give from the start. The list stands newest first, so that a take-back strikes its head.
-- Assumes nothing.
use Prim.{tt}
use Rattle.std.specs.Prelude.{ℕ, ◌^◌, ◌<◌, ◌≤◌, ◌≡◌, List, [], ◌∷◌, ◌++◌, length, take, replicate, Result, Ok, Err}
use Rattle.report.specs.Section3.{State}
use Rattle.report.specs.Parts.{InRange}
use Rattle.machine.specs.Held.{machine_of}
use Rattle.intel_hex.specs.Imported.{Imports}
use Rattle.viper.specs.Refusals.{Answer, if_done}
use Rattle.viper.specs.Operations.{Bench, Operation, step, reset, force, set_word, next, record_for, Call, operate, run, back, Outcome, outcome}
use Rattle.viper.specs.Runs.{RunAnswer, RunOutcome, run_outcome}
use Rattle.viper.specs.TakingBack.{back_outcome}
use Rattle.viper.specs.Told.{bench, told, run_told}
use Rattle.viper.specs.declared.Refusal.{Refusal}
use Rattle.viper.specs.declared.Refusal.TheVariants.{NothingInUse}
use Rattle.viper.specs.declared.After.{After}
use Rattle.viper.specs.declared.Ran.{Ran}

-- ---- what the calls are given

-- Registers and words of their widths, a lawful P, and stores of lawful size.
pub record Valid (s : State) : Type 0 where
  pub range : InRange s
  pub main_le : length s.0.main ≤ 2 ^ 20
  pub ports_le : length s.0.ports ≤ 2 ^ 20

-- A set's value is a word of 32 bits. (Its address may be any number: one that is not fitted is refused.)
abbrev pub Typed : Operation → Type 0
Typed step = Unit {0}
Typed reset = Unit {0}
Typed force = Unit {0}
Typed (set_word q v) = v < 2 ^ 32

abbrev pub TypedCalls : List Call → Type 0
TypedCalls [] = Unit {0}
TypedCalls (operate e ∷ cs) = Typed e × TypedCalls cs
TypedCalls (run n ∷ cs) = TypedCalls cs
TypedCalls (back ∷ cs) = TypedCalls cs

-- ---- calls in a row

-- Whether a run was refused; else it was accepted, however it ended.
abbrev pub accepted_or_refused : RunAnswer → Answer
accepted_or_refused (Ok n) = Ok tt
accepted_or_refused (Err r) = Err r

-- What a call answers, and the bench it leaves.
abbrev pub answered : Call → Bench → Answer
answered (operate e) b = (outcome e b).answered
answered (run n) b = accepted_or_refused (run_outcome n b).answered
answered back b = (back_outcome b).answered

abbrev pub called : Call → Bench → Bench
called (operate e) b = (outcome e b).bench
called (run n) b = (run_outcome n b).bench
called back b = (back_outcome b).bench

-- The bench after the calls, done one after the other.
unfoldable pub after : List Call → Bench → Bench
after [] b = b
after (c ∷ cs) b = after cs (called c b)

-- ---- the list of operations, kept by the answers alone

-- Each accepted operation is listed,
abbrev pub noted : Operation → Answer → List Operation → List Operation
noted e a l = if_done a (e ∷ l) l

-- a run as its single steps,
abbrev pub steps_done : RunAnswer → ℕ
steps_done (Ok n) = n.0
steps_done (Err r) = 0

abbrev pub noted_run : RunAnswer → List Operation → List Operation
noted_run a l = replicate (steps_done a) step ++ l

-- and each accepted take-back strikes the newest.
abbrev pub strike : List Operation → List Operation
strike [] = []
strike (e ∷ l) = l

abbrev pub struck : Answer → List Operation → List Operation
struck a l = if_done a (strike l) l

abbrev pub listing : Call → Bench → List Operation → List Operation
listing (operate e) b l = noted e (outcome e b).answered l
listing (run n) b l = noted_run (run_outcome n b).answered l
listing back b l = struck (back_outcome b).answered l

unfoldable pub listed_from : List Operation → List Call → Bench → List Operation
listed_from l [] b = l
listed_from l (c ∷ cs) b = listed_from (listing c b l) cs (called c b)

-- The operations still listed after the calls, on a list that was empty.
abbrev pub listed : List Call → Bench → List Operation
listed cs b = listed_from [] cs b

-- ---- what the listed operations give from the start

-- The state: the older ones first, then the newest.
abbrev pub through : List Operation → State → State
through [] s = s
through (e ∷ l) s = next e (through l s)

-- Their records, oldest first.
abbrev pub trace : List Operation → State → List ℕ
trace [] s = []
trace (e ∷ l) s = trace l s ++ record_for e (through l s)

-- ---- the third demand

-- Neither store has become longer or shorter, nor has the trail.
pub record Sizes (b₀ b : Bench) : Type 0 where
  pub main : length b.state.0.main ≡ length b₀.state.0.main
  pub ports : length b.state.0.ports ≡ length b₀.state.0.ports
  pub trail : length b.trail ≡ length b₀.trail

-- Of a bench b that began as b₀, where the operations of l are still listed: the machine and both stores are what these operations
-- give from the start, and the trail in use is their records, oldest first.
pub record History (b₀ b : Bench) (l : List Operation) : Type 0 where
  pub state : b.state ≡ through l b₀.state
  pub in_use : take b.used b.trail ≡ trace l b₀.state
  pub within : b.used ≤ length b.trail
  pub sizes : Sizes b₀ b

-- What a take-back answers, by what is listed: refusal 7 if nothing is; else it is accepted.
abbrev pub back_by : List Operation → Answer
back_by [] = Err NothingInUse
back_by (e ∷ l) = Ok tt

-- ---- the calls themselves

-- What a call handed back that was given a bench's machine and count in use, with what it left in both stores and the trail: its answer, and the bench.
abbrev pub told_from : Bench → Result After Refusal → List ℕ → List ℕ → List ℕ → Outcome
told_from b r main ports trail = told r (machine_of b.state) b.used main ports trail

abbrev pub run_told_from : Bench → Result Ran Refusal → List ℕ → List ℕ → List ℕ → RunOutcome
run_told_from b r main ports trail = run_told r (machine_of b.state) b.used main ports trail

-- A session that began with the bench b₀, the bench now, and the list kept by the answers: each call is given what the one before it left,
-- and answers and leaves anything that its contract allows. `operates` is step, reset, force and set.
-- The equation that each carries is the call's `ensures` (of reset and force, which are lent no store, at the stores as they are).
pub data Session (b₀ : Bench) : Bench → List Operation → Type 0 where
  begins : Session b₀ b₀ []
  operates : {b : Bench} {l : List Operation} (e : Operation) (r : Result After Refusal) (main ports trail : List ℕ) → Session b₀ b l → Typed e
      → told_from b r main ports trail ≡ outcome e b
      → Session b₀ (told_from b r main ports trail).bench (noted e (told_from b r main ports trail).answered l)
  runs : {b : Bench} {l : List Operation} (n : ℕ) (r : Result Ran Refusal) (main ports trail : List ℕ) → Session b₀ b l
      → run_told_from b r main ports trail ≡ run_outcome n b
      → Session b₀ (run_told_from b r main ports trail).bench (noted_run (run_told_from b r main ports trail).answered l)
  takes_back : {b : Bench} {l : List Operation} (r : Result After Refusal) (main ports trail : List ℕ) → Session b₀ b l
      → told_from b r main ports trail ≡ back_outcome b
      → Session b₀ (told_from b r main ports trail).bench (struck (told_from b r main ports trail).answered l)

-- ---- the history starts again

-- The bench that a call left which starts the history again: an accepted import of Intel HEX (document 02, W4). Main holds the text's words, no byte
-- of the trail is in use, and machine, ports and trail bytes are as they were.
pub data StartsAgain (b : Bench) : Bench → Type 0 where
  imports : (text main : List ℕ) (used : ℕ) → Imports b.state.0.main text (Ok used) main
      → StartsAgain b (bench (machine_of b.state) main b.state.0.ports b.trail used)

-- The benches where a history begins, of a counter that opened with b₀: that one, and each that a call after a session started again with.
pub data Begins (b₀ : Bench) : Bench → Type 0 where
  opened : Begins b₀ b₀
  again : {start b next : Bench} {l : List Operation} → Begins b₀ start → Session start b l → StartsAgain b next → Begins b₀ next
