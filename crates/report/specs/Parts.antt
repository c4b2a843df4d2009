-- Document 01, "The instruction, from the report", in plain arithmetic: the fields of a word, R, the address, M, and the step in its six parts.
-- That the report's NEXT is this step, on words in range, is `next_by_parts` in proofs/Order.antt.
-- Assumes nothing.
use Rattle.std.specs.Prelude.{ℕ, ◌+◌, ◌-◌, ◌*◌, ◌/◌, ◌%◌, ◌^◌, ◌<◌, Bool, true, false, not, cond, ◌||◌, ◌&&◌, eqb, leb, ltb, length, get_or, set, ℤ, pos, negsuc, ◌+ℤ◌, ◌-ℤ◌}
use Rattle.std.proofs.Math.Option.{Option, none, some}
use Rattle.std.specs.Int.Signed.{lt_z}
use Rattle.std.specs.Int.Bits.{bit_and, bit_or, bit_xor}
use Rattle.report.specs.AnnexA.{Mem, BV}
use Rattle.report.specs.Section3.{State, Triple}

-- ---- signed numbers (Annex B)

-- The 2's complement number that a word of 32 bits stands for.
abbrev pub signed : ℕ → ℤ
signed v = cond (ltb v (2 ^ 31)) (pos v) (pos v -ℤ pos (2 ^ 32))

-- z does not fit -2^31 to 2^31 - 1.
abbrev pub overflows : ℤ → Bool
overflows z = lt_z z (negsuc 2147483647) || lt_z (pos 2147483647) z

abbrev pub less : ℕ → ℕ → Bool
less r m = lt_z (signed r) (signed m)

-- ---- the two stores of a board

-- A word's place: the io signal (set for ports) and an address.
abbrev pub Where : Type 0
Where = Bool × ℕ

unfoldable pub word_at : Mem → Where → ℕ
word_at ram (io, a) = cond io (get_or ram.ports a 0) (get_or ram.main a 0)

unfoldable pub with_word : Mem → Where → ℕ → Mem
with_word ram (io, a) v =
    cond io (record { main = ram.main; ports = set ram.ports a v }) (record { main = set ram.main a v; ports = ram.ports })

-- Address n is fitted if n is below that store's length.
unfoldable pub fitted : Mem → Where → Bool
fitted ram (io, a) = cond io (ltb a (length ram.ports)) (ltb a (length ram.main))

-- ---- fields of a word

abbrev pub rsf : ℕ → ℕ
rsf w = w / 2 ^ 30 % 2 ^ 2

abbrev pub msf : ℕ → ℕ
msf w = w / 2 ^ 28 % 2 ^ 2

abbrev pub dsf : ℕ → ℕ
dsf w = w / 2 ^ 25 % 2 ^ 3

abbrev pub csf : ℕ → ℕ
csf w = w / 2 ^ 24 % 2 ^ 1

abbrev pub fsf : ℕ → ℕ
fsf w = w / 2 ^ 20 % 2 ^ 4

abbrev pub addr : ℕ → ℕ
addr w = w % 2 ^ 20

-- R by rsf: A, X, Y, or N.
unfoldable pub source : ℕ → ℕ → ℕ → ℕ → ℕ → ℕ
source rf a x y n = cond (eqb rf 0) a (cond (eqb rf 1) x (cond (eqb rf 2) y n))

-- The address by msf, modulo 2^32.
unfoldable pub address : ℕ → ℕ → ℕ → ℕ → ℕ
address mf ad x y =
    cond (eqb mf 0) ad (cond (eqb mf 1) ad (cond (eqb mf 2) ((ad + x) % 2 ^ 32) ((ad + y) % 2 ^ 32)))

abbrev pub bad : ℕ → Bool
bad a = leb (2 ^ 20) a

-- P = FFFFF, so that N does not fit P.
abbrev pub top : ℕ → Bool
top p = eqb p 0xFFFFF

-- ---- tests on the fields, of which the first argument is msf, then dsf, csf, fsf

abbrev pub comparison : ℕ → ℕ → ℕ → ℕ → Bool
comparison mf df cf ff = eqb cf 1

abbrev pub write : ℕ → ℕ → ℕ → ℕ → Bool
write mf df cf ff = eqb cf 0 && (eqb df 6 || eqb df 7)

abbrev pub output : ℕ → ℕ → ℕ → ℕ → Bool
output mf df cf ff = eqb cf 0 && eqb df 6

abbrev pub input : ℕ → ℕ → ℕ → ℕ → Bool
input mf df cf ff = eqb cf 0 && (leb df 5 && eqb ff 2)

abbrev pub shift : ℕ → ℕ → ℕ → ℕ → Bool
shift mf df cf ff = eqb cf 0 && (leb df 5 && eqb ff 12)

abbrev pub skip : Bool → ℕ → ℕ → ℕ → ℕ → Bool
skip b mf df cf ff = eqb cf 0 && ((eqb df 5 && b) || (eqb df 4 && not b))

-- The functions known to a destination of P.
abbrev pub jumping : ℕ → Bool
jumping ff = eqb ff 1 || (eqb ff 3 || (eqb ff 5 || eqb ff 7))

-- The tests of part 2 with csf 0, which halt whatever the machine holds.
abbrev pub always_halts : ℕ → ℕ → ℕ → ℕ → Bool
always_halts mf df cf ff =
    eqb cf 0
    && ((leb df 2 && eqb ff 1)
    || ((leb df 5 && leb 13 ff)
    || ((leb 3 df && (leb df 5 && not (jumping ff)))
    || (leb 6 df && eqb mf 0))))

-- a test on the fields of a word
abbrev pub of : (ℕ → ℕ → ℕ → ℕ → Bool) → ℕ → Bool
of t w = t (msf w) (dsf w) (csf w) (fsf w)

-- ---- results

-- The comparisons 0 to 7: signed <, >=, =, /=, <=, >, unsigned <, >=.
abbrev pub holds : ℕ → Bool → Bool → Bool → Bool
holds k lt eq ult =
    cond (eqb k 0) lt
    (cond (eqb k 1) (not lt)
    (cond (eqb k 2) eq
    (cond (eqb k 3) (not eq)
    (cond (eqb k 4) (lt || eq)
    (cond (eqb k 5) (not (lt || eq))
    (cond (eqb k 6) ult (not ult)))))))

-- 8 to 15: the same, ORed with the old B.
abbrev pub compared_by : ℕ → Bool → Bool → Bool → Bool → Bool
compared_by ff lt eq ult b = cond (leb 8 ff) (holds (ff - 8) lt eq ult || b) (holds ff lt eq ult)

unfoldable pub compared : ℕ → ℕ → ℕ → Bool → Bool
compared ff r m b = compared_by ff (less r m) (eqb r m) (ltb r m) b

abbrev pub top_bit : ℕ → Bool
top_bit r = eqb (r / 2 ^ 31 % 2) 1

abbrev pub low_bit : ℕ → Bool
low_bit r = eqb (r % 2) 1

-- The shift of R, by msf. The result, B and STOP; pw says that the destination is P.
unfoldable pub shifted : ℕ → Bool → ℕ → Bool → Triple
shifted mf pw r b =
    cond (eqb mf 0) (BV (top_bit r) * 2 ^ 31 + r / 2, b, pw)
    (cond (eqb mf 1) (BV b * 2 ^ 31 + r / 2, low_bit r, pw)
    (cond (eqb mf 2) ((r + r) % 2 ^ 32, b, overflows (signed r +ℤ signed r) || pw)
    ((r + r + BV b) % 2 ^ 32, top_bit r, pw)))

-- The result, B and STOP, by fsf; pw says that the destination is P. (R - M is taken modulo 2^32.)
unfoldable pub computed : ℕ → ℕ → Bool → ℕ → ℕ → Bool → Triple
computed ff mf pw r m b =
    cond (eqb ff 0) (2 ^ 32 - 1 - m, b, pw)
    (cond (eqb ff 1) (m, b, not pw || bad m)
    (cond (eqb ff 2) (m, b, pw)
    (cond (eqb ff 3) (m, b, pw && bad m)
    (cond (eqb ff 4) ((r + m) % 2 ^ 32, leb (2 ^ 32) (r + m), pw)
    (cond (eqb ff 5) ((r + m) % 2 ^ 32, b, overflows (signed r +ℤ signed m) || (pw && bad ((r + m) % 2 ^ 32)))
    (cond (eqb ff 6) ((r + (2 ^ 32 - m)) % 2 ^ 32, ltb r m, pw)
    (cond (eqb ff 7) ((r + (2 ^ 32 - m)) % 2 ^ 32, b, overflows (signed r -ℤ signed m) || (pw && bad ((r + (2 ^ 32 - m)) % 2 ^ 32)))
    (cond (eqb ff 8) (bit_xor r m, b, pw)
    (cond (eqb ff 9) (bit_and r m, b, pw)
    (cond (eqb ff 10) (2 ^ 32 - 1 - bit_or r m, b, pw)
    (cond (eqb ff 11) (bit_and r (2 ^ 32 - 1 - m), b, pw)
    (cond (eqb ff 12) (shifted mf pw r b)
    (r, b, true)))))))))))))

-- ---- the step, in parts

pub data Part : Type 0 where
  stopped halts compares writes skips computes : Part

-- Which part of the order in a step gives the next state: by the word at P, P itself, the address, B and STOP.
unfoldable pub part_by : ℕ → ℕ → ℕ → Bool → Bool → Part
part_by w p at b stop =
    cond stop stopped
    (cond (top p || ((bad at && (not (of shift w) && not (of (skip b) w))) || of always_halts w)) halts
    (cond (of comparison w) compares
    (cond (of write w) writes
    (cond (of (skip b) w) skips
    computes))))

-- The word at P.
abbrev pub word : State → ℕ
word (ram, p, a, x, y, b, stop) = get_or ram.main p 0

-- The address of the word at P.
abbrev pub at : State → ℕ
at (ram, p, a, x, y, b, stop) = address (msf (get_or ram.main p 0)) (addr (get_or ram.main p 0)) x y

abbrev pub part : State → Part
part (ram, p, a, x, y, b, stop) = part_by (get_or ram.main p 0) p (at (ram, p, a, x, y, b, stop)) b stop

-- The address as a place of a store. It is whole: part 2 halts where it has more than 20 bits.
abbrev pub place_by : Bool → ℕ → ℕ → ℕ → Where
place_by io w x y = (io, address (msf w) (addr w) x y % 2 ^ 20)

-- M, where nil says that none is needed: 0, or addr if msf is 0, or the word read.
unfoldable pub operand : Mem → Bool → Bool → ℕ → ℕ → ℕ → ℕ
operand ram nil io w x y = cond nil 0 (cond (eqb (msf w) 0) (addr w) (word_at ram (place_by io w x y)))

-- Part 6: the result goes to A, X, Y (dsf 0, 1, 2), or its low 20 bits to P. A call also puts N in Y.
unfoldable pub placed : ℕ → ℕ → Mem → ℕ → ℕ → ℕ → ℕ → Triple → State
placed df ff ram p a x y (v, b, s) =
    let n = (p + 1) % 2 ^ 20 in
    cond (eqb df 0) (ram, n, v, x, y, b, s)
    (cond (eqb df 1) (ram, n, a, v, y, b, s)
    (cond (eqb df 2) (ram, n, a, x, v, b, s)
    (cond (eqb ff 1) (ram, v % 2 ^ 20, a, x, p + 1, b, s)
    (ram, v % 2 ^ 20, a, x, y, b, s))))

abbrev pub to_p : ℕ → Bool
to_p df = eqb df 3 || (eqb df 4 || eqb df 5)

-- The state after each part. P becomes N: below FFFFF, P + 1.
unfoldable pub after_by : Part → ℕ → State → State
after_by stopped w s = s
after_by halts w (ram, p, a, x, y, b, stop) = (ram, (p + 1) % 2 ^ 20, a, x, y, b, true)
after_by compares w (ram, p, a, x, y, b, stop) =
    let n = (p + 1) % 2 ^ 20 in
    let r = source (rsf w) a x y n in
    (ram, n, a, x, y, compared (fsf w) r (operand ram false false w x y) b, false)
after_by writes w (ram, p, a, x, y, b, stop) =
    let n = (p + 1) % 2 ^ 20 in
    let r = source (rsf w) a x y n in
    (with_word ram (place_by (of output w) w x y) r, n, a, x, y, b, false)
after_by skips w (ram, p, a, x, y, b, stop) = (ram, (p + 1) % 2 ^ 20, a, x, y, b, false)
after_by computes w (ram, p, a, x, y, b, stop) =
    let n = (p + 1) % 2 ^ 20 in
    let r = source (rsf w) a x y n in
    let m = operand ram (of shift w) (of input w) w x y in
    placed (dsf w) (fsf w) ram p a x y (computed (fsf w) (msf w) (to_p (dsf w)) r m b)

abbrev pub after : State → State
after s = after_by (part s) (word s) s

-- ---- the words that a step reads and writes, beside the word at P that it fetches

abbrev pub unless : Bool → Where → Option Where
unless true q = none
unless false q = some q

unfoldable pub reads_by : Part → ℕ → ℕ → ℕ → Option Where
reads_by stopped w x y = none
reads_by halts w x y = none
reads_by compares w x y = unless (eqb (msf w) 0) (place_by false w x y)
reads_by writes w x y = none
reads_by skips w x y = none
reads_by computes w x y = unless (of shift w || eqb (msf w) 0) (place_by (of input w) w x y)

unfoldable pub writes_by : Part → ℕ → ℕ → ℕ → Option Where
writes_by stopped w x y = none
writes_by halts w x y = none
writes_by compares w x y = none
writes_by writes w x y = some (place_by (of output w) w x y)
writes_by skips w x y = none
writes_by computes w x y = none

abbrev pub reads : State → Option Where
reads (ram, p, a, x, y, b, stop) = reads_by (part (ram, p, a, x, y, b, stop)) (get_or ram.main p 0) x y

-- (The name `writes` is the part's.)
abbrev pub written : State → Option Where
written (ram, p, a, x, y, b, stop) = writes_by (part (ram, p, a, x, y, b, stop)) (get_or ram.main p 0) x y

-- ---- words in range

-- P is below 2^20, and the registers and every word of the stores below 2^32.
pub record InRange (s : State) : Type 0 where
  pub p_lt : s.1 < 2 ^ 20
  pub a_lt : s.2 < 2 ^ 32
  pub x_lt : s.3 < 2 ^ 32
  pub y_lt : s.4 < 2 ^ 32
  pub main_lt : (k : ℕ) → get_or s.0.main k 0 < 2 ^ 32
  pub ports_lt : (k : ℕ) → get_or s.0.ports k 0 < 2 ^ 32
