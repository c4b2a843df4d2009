-- The fields that the code takes out of a word are document 01's.
-- Assumes nothing.
use Rattle.std.specs.Prelude.{◌≡◌, ℕ, ◌/◌, ◌^◌}
use Rattle.std.proofs.Math.Nat.{mod-lt, zero-lt-suc}
use Rattle.report.specs.Parts as parts
use Rattle.instruction.specs.declared.Fields.{Fields}

pub record Fielded (w : ℕ) (f : Fields) : Type 0 where
  pub of_rsf : f.rsf ≡ parts.rsf w
  pub of_msf : f.msf ≡ parts.msf w
  pub of_dsf : f.dsf ≡ parts.dsf w
  pub of_fsf : f.fsf ≡ parts.fsf w
  pub of_addr : f.addr ≡ parts.addr w

-- The fields of a word.
abbrev pub fields_of : ℕ → Fields
fields_of w = record {
  rsf = parts.rsf w;
  msf = parts.msf w;
  dsf = parts.dsf w;
  fsf = parts.fsf w;
  addr = parts.addr w;
  rsf_lt = mod-lt (w / 2 ^ 30) (zero-lt-suc 3);
  msf_lt = mod-lt (w / 2 ^ 28) (zero-lt-suc 3);
  addr_lt = mod-lt w (zero-lt-suc 0xFFFFF);
}
