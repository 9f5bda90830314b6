-- Worked rows of the definitions, computed by the checker.
use Rattle.std.proofs.Common.{◌≡◌, ℕ, ◌+◌, ◌^◌, true, false, List, [], ◌∷◌, map, refl}
use Rattle.xv_hcsr.specs.declared.HCsrs.{HCsrs}
use Rattle.xv_hcsr.specs.Delegation.{is_delegated}
use Rattle.xv_hcsr.specs.Guest.{guest_hcsrs}
use Rattle.xv_hcsr.specs.Lines.{with_lines}
use Rattle.xv_hcsr.specs.Time.{guest_time, delta_of}

-- root 15, key 15, born at 7
last : HCsrs
last = guest_hcsrs 15 15 (delta_of 7)

the_registers : last
    ≡ record {
      hstatus = 0x20_0080;
      hedeleg = 0xB15D;
      hideleg = 0x444;
      hvip = 0;
      hgatp = 0x8000_F000_0000_003C;
      htimedelta = 0xFFFF_FFFF_FFFF_FFF9;
      hcounteren = 2;
      htval = 0;
      htinst = 0;
    }
unfolding last guest_hcsrs
the_registers = refl

-- causes 0 to 23
causes : List ℕ
causes = 0 ∷ 1 ∷ 2 ∷ 3 ∷ 4 ∷ 5 ∷ 6 ∷ 7 ∷ 8 ∷ 9 ∷ 10 ∷ 11 ∷ 12 ∷ 13 ∷ 14 ∷ 15 ∷ 16 ∷ 20 ∷ 21
    ∷ 22 ∷ 23 ∷ []

the_exceptions : map (is_delegated last) causes
    ≡ (true ∷ false ∷ true ∷ true ∷ true ∷ false ∷ true ∷ false ∷ true ∷ false ∷ false ∷ false
    ∷ true ∷ true ∷ false ∷ true
    ∷ false ∷ false ∷ false ∷ false ∷ false ∷ [])
unfolding last guest_hcsrs is_delegated causes
the_exceptions = refl

-- interrupts of S and of VS
interrupts : List ℕ
interrupts = 1 ∷ 2 ∷ 5 ∷ 6 ∷ 9 ∷ 10 ∷ 12 ∷ []

the_interrupts : map (λ number. is_delegated last (2 ^ 63 + number)) interrupts
    ≡ (false ∷ true ∷ false ∷ true ∷ false ∷ true ∷ false ∷ [])
unfolding last guest_hcsrs is_delegated interrupts
the_interrupts = refl

raised : with_lines true true true 0 ≡ 0x444
raised = refl

lowered : with_lines false true false 0xFFFF_FFFF_FFFF_FFFF ≡ 0xFFFF_FFFF_FFFF_FBFB
lowered = refl

at_birth : guest_time 7 last ≡ 0
unfolding last guest_hcsrs
at_birth = refl

later : guest_time 1007 last ≡ 1000
unfolding last guest_hcsrs
later = refl
