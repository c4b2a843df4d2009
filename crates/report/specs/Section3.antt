-- Report 90009, section 3: VIPER itself, function by function, with the report's names, order of arguments and shape.
-- Lay it beside pages 10 to 20 of the report. Two signs that the scan lost are set by document 01's first paragraph: see LEFT and COMPARE.
-- Assumes nothing.
use Rattle.std.specs.Prelude.{ℕ, ◌+◌, Bool, ◌==◌}
use Rattle.report.specs.AnnexA.{T, F, NOT, ◌OR◌, ◌AND◌, ◌XOR◌, ◌=>◌∣◌, CONS, TL, EL, SEG, «V», WORD1, WORD2, WORD3, WORD4, WORD20, WORD21, WORD32, WORD33, WORD34, VAL1, VAL2, VAL3, VAL4, VAL20, VAL33, BITS20, BITS32, BITS34, NOT33, NOT32, ◌AND32◌, ◌OR32◌, Mem, FETCH21, STORE21}

-- word32 # bool # bool: a result with carry and overflow, or with B and abort.
abbrev pub Triple : Type 0
Triple = ℕ × Bool × Bool

-- The state vector of section 2, page 2: RAM, P, A, X, Y, B, STOP.
abbrev pub State : Type 0
State = Mem × ℕ × ℕ × ℕ × ℕ × Bool × Bool

-- ---- page 10: fields of a triple, words of differing lengths, shifts

abbrev pub VALUE : Triple → ℕ
VALUE (result, carry, overflow) = result

abbrev pub CARRY : Triple → Bool
CARRY (result, carry, overflow) = carry

abbrev pub OFLO : Triple → Bool
OFLO (result, carry, overflow) = overflow

abbrev pub BVAL : Triple → Bool
BVAL (result, b, abort) = b

abbrev pub SVAL : Triple → Bool
SVAL (result, b, abort) = abort

unfoldable pub TRIM32TO20 : ℕ → ℕ
TRIM32TO20 v = WORD20 («V» (SEG (0, 19) (BITS32 v)))

unfoldable pub TRIM34TO32 : ℕ → ℕ
TRIM34TO32 v = WORD32 («V» (TL (TL (BITS34 v))))

unfoldable pub PAD20TO32 : ℕ → ℕ
PAD20TO32 v = WORD32 (VAL20 v)

unfoldable pub SIGNEXT : ℕ → ℕ
SIGNEXT v =
    let bitlist = BITS32 v in WORD33 («V» (CONS (EL 31 bitlist) bitlist))

unfoldable pub RIGHT : Bool × ℕ → ℕ
RIGHT (b, r) = WORD32 («V» (CONS b (SEG (1, 31) (BITS32 r))))

-- The scan reads WORD32(twice + twice) + 1: the 1 is added before the result becomes a word (document 01).
unfoldable pub LEFT : ℕ × Bool → ℕ
LEFT (r, b) = let twice = «V» (TL (BITS32 r)) in
    b => WORD32 (twice + twice + 1) ∣ WORD32 (twice + twice)

unfoldable pub RIGHTARITH : ℕ → ℕ
RIGHTARITH r = let sign = EL 31 (BITS32 r) in
    WORD32 («V» (CONS sign (SEG (1, 31) (BITS32 r))))

-- ---- page 12: arithmetic and comparison

unfoldable pub NEG : ℕ → ℕ
NEG m = (VAL33 m == 0) => 0 ∣ (VAL33 (NOT33 m) + 1)

unfoldable pub ADD32 : ℕ × ℕ → Triple
ADD32 (r, m) =
    let sum = WORD34 (VAL33 (SIGNEXT r) + VAL33 (SIGNEXT m)) in
    let opposite = (EL 31 (BITS32 r)) XOR (EL 31 (BITS32 m)) in
    (TRIM34TO32 sum, (EL 32 (BITS34 sum)) XOR opposite, (EL 32 (BITS34 sum)) XOR (EL 31 (BITS34 sum)))

unfoldable pub SUB32 : ℕ × ℕ → Triple
SUB32 (r, m) =
    let dif = WORD34 (VAL33 (SIGNEXT r) + NEG (SIGNEXT m)) in
    let opposite = (EL 31 (BITS32 r)) XOR (EL 31 (BITS32 m)) in
    (TRIM34TO32 dif, (EL 32 (BITS34 dif)) XOR opposite, (EL 32 (BITS34 dif)) XOR (EL 31 (BITS34 dif)))

unfoldable pub INCP32 : ℕ → ℕ
INCP32 p = VALUE (ADD32 (PAD20TO32 p, WORD32 1))

-- Table 5. The scan lost the sign of the last case: it is (NOT borrow) OR b (document 01).
unfoldable pub COMPARE : ℕ × ℕ × ℕ × Bool → Bool
COMPARE (fsf, r, m, b) =
    let op = VAL4 fsf in
    let dif = WORD34 (VAL33 (SIGNEXT r) + NEG (SIGNEXT m)) in
    let equal = r == m in
    let less = EL 32 (BITS34 dif) in
    let borrow = (EL 32 (BITS34 dif)) XOR
    ((EL 31 (BITS32 r)) XOR (EL 31 (BITS32 m))) in
    (op == 0) => less ∣
    (op == 1) => NOT less ∣
    (op == 2) => equal ∣
    (op == 3) => NOT equal ∣
    (op == 4) => less OR equal ∣
    (op == 5) => NOT (less OR equal) ∣
    (op == 6) => borrow ∣
    (op == 7) => NOT borrow ∣
    (op == 8) => less OR b ∣
    (op == 9) => (NOT less) OR b ∣
    (op == 10) => equal OR b ∣
    (op == 11) => (NOT equal) OR b ∣
    (op == 12) => (less OR equal) OR b ∣
    (op == 13) => (NOT (less OR equal)) OR b ∣
    (op == 14) => borrow OR b ∣
    ((NOT borrow) OR b)

-- ---- page 14: registers, addresses, memory

-- Table 2.
unfoldable pub REG : ℕ × ℕ × ℕ × ℕ × ℕ → ℕ
REG (rsf, a, x, y, p) =
    let r = VAL2 rsf in
    (r == 0) => a ∣ (r == 1) => x ∣ (r == 2) => y ∣ PAD20TO32 p

-- Table 3.
unfoldable pub OFFSET : ℕ × ℕ × ℕ × ℕ → ℕ
OFFSET (msf, addr, x, y) =
    let mf = VAL2 msf in
    let addr32 = PAD20TO32 addr in
    (mf == 0) => addr32 ∣
    (mf == 1) => addr32 ∣
    (mf == 2) => VALUE (ADD32 (addr32, x)) ∣
    VALUE (ADD32 (addr32, y))

unfoldable pub INVALID : ℕ → Bool
INVALID value = NOT (value == PAD20TO32 (TRIM32TO20 value))

unfoldable pub INSTFETCH : Mem × ℕ → ℕ
INSTFETCH (ram, p) = FETCH21 ram (WORD21 («V» (CONS F (BITS20 p))))

unfoldable pub MEMREAD : Mem × ℕ × ℕ × ℕ × ℕ × Bool × Bool → ℕ
MEMREAD (ram, msf, addr, x, y, io, nil) =
    let m = VAL2 msf in
    nil => WORD32 0 ∣
    (m == 0) => PAD20TO32 addr ∣
    FETCH21 ram
    (WORD21 («V» (CONS io (BITS20 (TRIM32TO20 (OFFSET (msf, addr, x, y)))))))

unfoldable pub MEMWRITE : Mem × ℕ × ℕ × ℕ × ℕ × ℕ × Bool → Mem
MEMWRITE (ram, source, msf, addr, x, y, io) =
    let m = VAL2 msf in
    (m == 0) => ram ∣
    STORE21
    (WORD21 («V» (CONS io (BITS20 (TRIM32TO20 (OFFSET (msf, addr, x, y)))))))
    source ram

-- ---- page 16: the arithmetic and logic unit, tables 6A and 6B

unfoldable pub ALU : ℕ × ℕ × ℕ × ℕ × ℕ × Bool → Triple
ALU (fsf, msf, dsf, r, m, b) =
    let ff = VAL4 fsf in
    let mf = VAL2 msf in
    let df = VAL3 dsf in
    let pwrite = (df == 3) OR ((df == 4) OR (df == 5)) in
    (ff == 0) => (NOT32 m, b, pwrite) ∣
    (ff == 1) => (m, b, (NOT pwrite) OR (INVALID m)) ∣
    (ff == 2) => (m, b, pwrite) ∣
    (ff == 3) => (m, b, pwrite AND (INVALID m)) ∣
    (ff == 4) => (let sum = ADD32 (r, m) in
    (VALUE sum, CARRY sum, pwrite)) ∣
    (ff == 5) => (let sum = ADD32 (r, m) in
    (VALUE sum, b, (OFLO sum) OR (pwrite AND (INVALID (VALUE sum))))) ∣
    (ff == 6) => (let dif = SUB32 (r, m) in
    (VALUE dif, CARRY dif, pwrite)) ∣
    (ff == 7) => (let dif = SUB32 (r, m) in
    (VALUE dif, b, (OFLO dif) OR (pwrite AND (INVALID (VALUE dif))))) ∣
    (ff == 8) => ((r OR32 m) AND32 (NOT32 (r AND32 m)), b, pwrite) ∣
    (ff == 9) => (r AND32 m, b, pwrite) ∣
    (ff == 10) => (NOT32 (r OR32 m), b, pwrite) ∣
    (ff == 11) => (r AND32 (NOT32 m), b, pwrite) ∣
    (ff == 12) => ((mf == 0) => (RIGHTARITH r, b, pwrite) ∣
    (mf == 1) => (RIGHT (b, r), EL 0 (BITS32 r), pwrite) ∣
    (mf == 2) => (let double = ADD32 (r, r) in
    (VALUE double, b, (OFLO double) OR pwrite)) ∣
    (LEFT (r, b), EL 31 (BITS32 r), pwrite)) ∣
    (ff == 13) => (r, b, T) ∣
    (ff == 14) => (r, b, T) ∣
    (r, b, T)

-- ---- page 18: predicates of the fields and B

unfoldable pub WRITE : ℕ × ℕ → Bool
WRITE (dsf, csf) =
    let df = VAL3 dsf in
    let cf = VAL1 csf in
    (cf == 0) AND ((df == 7) OR (df == 6))

unfoldable pub NILM : ℕ × ℕ × ℕ → Bool
NILM (dsf, csf, fsf) =
    let df = VAL3 dsf in
    let cf = VAL1 csf in
    let ff = VAL4 fsf in
    (cf == 0) AND ((NOT ((df == 7) OR (df == 6))) AND (ff == 12))

unfoldable pub NOOP : ℕ × ℕ × Bool → Bool
NOOP (dsf, csf, b) =
    let df = VAL3 dsf in
    let cf = VAL1 csf in
    (cf == 0) AND (((df == 5) AND b) OR ((df == 4) AND (NOT b)))

unfoldable pub SPAREFUNC : ℕ × ℕ × ℕ → Bool
SPAREFUNC (dsf, csf, fsf) =
    let df = VAL3 dsf in
    let cf = VAL1 csf in
    let ff = VAL4 fsf in
    (cf == 0) AND ((NOT ((df == 6) OR (df == 7))) AND ((ff == 13) OR ((ff == 14) OR (ff == 15))))

unfoldable pub ILLEGALCALL : ℕ × ℕ × ℕ → Bool
ILLEGALCALL (dsf, csf, fsf) =
    let df = VAL3 dsf in
    let cf = VAL1 csf in
    let ff = VAL4 fsf in
    (cf == 0) AND ((ff == 1) AND ((df == 0) OR ((df == 1) OR (df == 2))))

unfoldable pub ILLEGALPDEST : ℕ × ℕ × ℕ → Bool
ILLEGALPDEST (dsf, csf, fsf) =
    let df = VAL3 dsf in
    let cf = VAL1 csf in
    let ff = VAL4 fsf in
    (cf == 0) AND (((df == 3) OR ((df == 4) OR (df == 5))) AND
    (NOT ((ff == 1) OR ((ff == 3) OR ((ff == 5) OR (ff == 7))))))

unfoldable pub ILLEGALWRITE : ℕ × ℕ × ℕ → Bool
ILLEGALWRITE (dsf, csf, msf) =
    let mf = VAL2 msf in (WRITE (dsf, csf)) AND (mf == 0)

unfoldable pub OUTPUT : ℕ × ℕ → Bool
OUTPUT (dsf, csf) =
    let df = VAL3 dsf in
    let cf = VAL1 csf in (cf == 0) AND (df == 6)

unfoldable pub INPUT : ℕ × ℕ × ℕ → Bool
INPUT (dsf, csf, fsf) =
    let df = VAL3 dsf in
    let cf = VAL1 csf in
    let ff = VAL4 fsf in
    (cf == 0) AND ((NOT ((df == 7) OR (df == 6))) AND (ff == 2))

-- ---- page 20: the next state, tables 4A and 4B

unfoldable pub NEXT : State → State
NEXT (ram, p, a, x, y, b, stop) =
    let instbits = BITS32 (INSTFETCH (ram, p)) in
    let newp = TRIM32TO20 (INCP32 p) in
    let rsf = WORD2 («V» (SEG (30, 31) instbits)) in
    let msf = WORD2 («V» (SEG (28, 29) instbits)) in
    let dsf = WORD3 («V» (SEG (25, 27) instbits)) in
    let csf = WORD1 («V» (SEG (24, 24) instbits)) in
    let fsf = WORD4 («V» (SEG (20, 23) instbits)) in
    let addr = WORD20 («V» (SEG (0, 19) instbits)) in
    let df = VAL3 dsf in
    let cf = VAL1 csf in
    let ff = VAL4 fsf in
    let comp = cf == 1 in
    let call = (cf == 0) AND (ff == 1) in
    let output = OUTPUT (dsf, csf) in
    let input = INPUT (dsf, csf, fsf) in
    let io = output OR input in
    let writeop = WRITE (dsf, csf) in
    let skip = NOOP (dsf, csf, b) in
    let noinc = INVALID (INCP32 p) in
    let illegaladdr = (NOT (NILM (dsf, csf, fsf))) AND
    ((INVALID (OFFSET (msf, addr, x, y))) AND (NOT skip)) in
    let illegalcl = ILLEGALCALL (dsf, csf, fsf) in
    let illegalop = SPAREFUNC (dsf, csf, fsf) in
    let illegalonp = ILLEGALPDEST (dsf, csf, fsf) in
    let illegalwr = ILLEGALWRITE (dsf, csf, msf) in
    let source = REG (rsf, a, x, y, newp) in
    stop => (ram, p, a, x, y, b, T) ∣
    ((noinc OR illegaladdr) OR ((illegalcl OR illegalop) OR
    (illegalonp OR illegalwr))) => (ram, newp, a, x, y, b, T) ∣
    comp => (ram, newp, a, x, y, COMPARE (fsf, source, MEMREAD (ram, msf, addr, x, y, io, F), b), F) ∣
    writeop => (MEMWRITE (ram, source, msf, addr, x, y, io), newp, a, x, y, b, F) ∣
    skip => (ram, newp, a, x, y, b, F) ∣
    let m = MEMREAD (ram, msf, addr, x, y, io, NILM (dsf, csf, fsf)) in
    let aluout = ALU (fsf, msf, dsf, source, m, b) in
    (df == 0) => (ram, newp, VALUE aluout, x, y, BVAL aluout, SVAL aluout) ∣
    (df == 1) => (ram, newp, a, VALUE aluout, y, BVAL aluout, SVAL aluout) ∣
    (df == 2) => (ram, newp, a, x, VALUE aluout, BVAL aluout, SVAL aluout) ∣
    call => (ram, TRIM32TO20 (VALUE aluout), a, x, INCP32 p, BVAL aluout, SVAL aluout) ∣
    (ram, TRIM32TO20 (VALUE aluout), a, x, y, BVAL aluout, SVAL aluout)
