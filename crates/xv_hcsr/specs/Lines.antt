-- The lines of a guest, as bits of hvip (Privileged Architecture 20211203, section 8.2.3).
use Rattle.std.specs.Prelude.{ℕ, Bool}
use Rattle.xv_base.specs.Bits.{has_bit, with_bit}
use Rattle.xv_hcsr.specs.declared.HCsrs.{HCsrs}

-- VSSIP, which the guest sees as SSIP of its sip
abbrev pub software_line : HCsrs → Bool
software_line h = has_bit 2 h.hvip

-- VSTIP, which it sees as STIP
abbrev pub timer_line : HCsrs → Bool
timer_line h = has_bit 6 h.hvip

-- VSEIP, which it sees as SEIP
abbrev pub external_line : HCsrs → Bool
external_line h = has_bit 10 h.hvip

-- hvip with the line of the software interrupt as given
abbrev pub with_software : Bool → ℕ → ℕ
with_software software hvip = with_bit 2 software hvip

-- hvip with the three lines as given
abbrev pub with_lines : Bool → Bool → Bool → ℕ → ℕ
with_lines software timer external hvip =
    with_bit 10 external (with_bit 6 timer (with_bit 2 software hvip))
