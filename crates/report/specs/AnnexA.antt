-- Report 90009, Annex A: the constructs of HOL that section 3 is written in.
-- A word<n> of the report is a natural number below 2 ^ n, so VAL<n> is the number itself and WORD<n> keeps the low n bits.
-- A list of bits has its most significant bit at the head. antt keeps the word V for itself, so the report's V is written «V».
-- Assumes nothing.
use Rattle.std.specs.Prelude.{ℕ, zero, suc, ◌+◌, ◌*◌, ◌/◌, ◌%◌, ◌^◌, Bool, true, false, not, cond, ◌||◌, ◌&&◌, List, [], ◌∷◌, map, eqb, leb, length, get_or, set}

infixr 30 ◌AND◌
infixr 30 ◌OR◌
infixr 30 ◌XOR◌
infixr 10 ◌=>◌∣◌
abbrev pub T : Bool
T = true

abbrev pub F : Bool
F = false

abbrev pub NOT : Bool → Bool
NOT a = not a

abbrev pub ◌OR◌ : Bool → Bool → Bool
a OR b = a || b

abbrev pub ◌AND◌ : Bool → Bool → Bool
a AND b = a && b

abbrev pub ◌XOR◌ : Bool → Bool → Bool
true XOR b = not b
false XOR b = b

-- The report's (c => a | b), read "if c then a else b".
abbrev pub ◌=>◌∣◌ : {A : Type 0} → Bool → A → A → A
c => a ∣ b = cond c a b

-- CONS appends a value to the head of a list.
abbrev pub CONS : Bool → List Bool → List Bool
CONS b l = b ∷ l

-- The tail of a list.
abbrev pub TL : List Bool → List Bool
TL [] = []
TL (b ∷ l) = l

-- The kth member, counted from the least significant end: 0 is the last member, and of M members the head is M - 1.
unfoldable pub EL : ℕ → List Bool → Bool
EL k [] = false
EL k (b ∷ l) = cond (eqb k (length l)) b (EL k l)

-- The slice of the members i to j, counted as EL counts.
unfoldable pub SEG : ℕ × ℕ → List Bool → List Bool
SEG ij [] = []
SEG ij (b ∷ l) = cond (leb ij.0 (length l) && leb (length l) ij.1) (b ∷ SEG ij l) (SEG ij l)

-- The number of one bit.
abbrev pub BV : Bool → ℕ
BV true = 1
BV false = 0

-- The integer equivalent of a list of bits.
unfoldable pub «V» : List Bool → ℕ
«V» [] = 0
«V» (b ∷ l) = BV b * 2 ^ length l + «V» l

-- WORD<n>: an integer as a word of n bits.
abbrev pub WORD : ℕ → ℕ → ℕ
WORD n v = v % 2 ^ n

-- BITS<n>: a word of n bits as a list of bits.
unfoldable pub BITS : ℕ → ℕ → List Bool
BITS zero w = []
BITS (suc n) w = eqb (w / 2 ^ n % 2) 1 ∷ BITS n w

abbrev pub WORD1 : ℕ → ℕ
WORD1 v = WORD 1 v

abbrev pub WORD2 : ℕ → ℕ
WORD2 v = WORD 2 v

abbrev pub WORD3 : ℕ → ℕ
WORD3 v = WORD 3 v

abbrev pub WORD4 : ℕ → ℕ
WORD4 v = WORD 4 v

abbrev pub WORD20 : ℕ → ℕ
WORD20 v = WORD 20 v

abbrev pub WORD21 : ℕ → ℕ
WORD21 v = WORD 21 v

abbrev pub WORD32 : ℕ → ℕ
WORD32 v = WORD 32 v

abbrev pub WORD33 : ℕ → ℕ
WORD33 v = WORD 33 v

abbrev pub WORD34 : ℕ → ℕ
WORD34 v = WORD 34 v

abbrev pub VAL1 : ℕ → ℕ
VAL1 w = w

abbrev pub VAL2 : ℕ → ℕ
VAL2 w = w

abbrev pub VAL3 : ℕ → ℕ
VAL3 w = w

abbrev pub VAL4 : ℕ → ℕ
VAL4 w = w

abbrev pub VAL20 : ℕ → ℕ
VAL20 w = w

abbrev pub VAL33 : ℕ → ℕ
VAL33 w = w

abbrev pub BITS20 : ℕ → List Bool
BITS20 w = BITS 20 w

abbrev pub BITS21 : ℕ → List Bool
BITS21 w = BITS 21 w

abbrev pub BITS32 : ℕ → List Bool
BITS32 w = BITS 32 w

abbrev pub BITS34 : ℕ → List Bool
BITS34 w = BITS 34 w

-- A bit for each two bits that stand at the same place.
abbrev pub MAP2 : (Bool → Bool → Bool) → List Bool → List Bool → List Bool
MAP2 f [] m = []
MAP2 f (a ∷ l) [] = []
MAP2 f (a ∷ l) (b ∷ m) = f a b ∷ MAP2 f l m

-- NOT<n>: each bit inverted.
unfoldable pub NOT33 : ℕ → ℕ
NOT33 w = WORD33 («V» (map NOT (BITS 33 w)))

unfoldable pub NOT32 : ℕ → ℕ
NOT32 w = WORD32 («V» (map NOT (BITS32 w)))

infixr 30 ◌AND32◌
infixr 30 ◌OR32◌
unfoldable pub ◌AND32◌ : ℕ → ℕ → ℕ
v AND32 w = WORD32 («V» (MAP2 (λ (a b : Bool). a AND b) (BITS32 v) (BITS32 w)))

unfoldable pub ◌OR32◌ : ℕ → ℕ → ℕ
v OR32 w = WORD32 («V» (MAP2 (λ (a b : Bool). a OR b) (BITS32 v) (BITS32 w)))

-- declare_memories [(21,32)]: an address space of 21 bits, of which bit 20 tells the peripheral space (ports) from main memory.
-- A board may have fewer words than that: a word past the end of its store reads as 0, and one stored there is lost.
-- No step of the bench comes to such a word; it is refused first (document 01, refusal 5).
pub record Mem : Type 0 where
  pub main : List ℕ
  pub ports : List ℕ

unfoldable pub FETCH21 : Mem → ℕ → ℕ
FETCH21 ram a = EL 20 (BITS21 a) => get_or ram.ports (a % 2 ^ 20) 0 ∣ get_or ram.main (a % 2 ^ 20) 0

unfoldable pub STORE21 : ℕ → ℕ → Mem → Mem
STORE21 a v ram =
    EL 20 (BITS21 a) => record { main = ram.main; ports = set ram.ports (a % 2 ^ 20) v }
    ∣ record { main = set ram.main (a % 2 ^ 20) v; ports = ram.ports }
