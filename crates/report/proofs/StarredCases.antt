-- The starred cases of document 01, all by computing the report's NEXT.
-- Assumes nothing.
use mathlib.Core.Path.{◌≡◌, refl}
use mathlib.Core.List.{map}
use lib.ListN.{length}
use Rattle.report.specs.AnnexA.{EL, SEG, «V», BITS, NOT33, NOT32, ◌AND32◌, ◌OR32◌, FETCH21, STORE21}
use Rattle.report.specs.Section3.{State, TRIM32TO20, TRIM34TO32, PAD20TO32, SIGNEXT, RIGHT, LEFT, RIGHTARITH, NEG, ADD32, SUB32, INCP32, COMPARE, REG, OFFSET, INVALID, INSTFETCH, MEMREAD, MEMWRITE, ALU, WRITE, NILM, NOOP, SPAREFUNC, ILLEGALCALL, ILLEGALPDEST, ILLEGALWRITE, OUTPUT, INPUT, NEXT}
use Rattle.report.specs.Cases.{Case, starred}

-- NEXT, with all that it is made of
abbrev pub step : State → State
unfolding NEXT TRIM32TO20 TRIM34TO32 PAD20TO32 SIGNEXT RIGHT LEFT RIGHTARITH NEG ADD32 SUB32 INCP32 COMPARE REG OFFSET INVALID INSTFETCH MEMREAD MEMWRITE ALU WRITE NILM NOOP SPAREFUNC ILLEGALCALL ILLEGALPDEST ILLEGALWRITE OUTPUT INPUT EL SEG «V» BITS NOT33 NOT32 ◌AND32◌ ◌OR32◌ FETCH21 STORE21
step s = NEXT s

there_are_thirteen : length starred ≡ 13
there_are_thirteen = refl

pub starred_cases : map (λ (c : Case). NEXT c.0) starred ≡ map (λ (c : Case). c.1) starred
unfolding step
starred_cases = refl
