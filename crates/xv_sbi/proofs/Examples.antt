-- Worked rows of the definitions, computed by the checker.
use Rattle.std.proofs.Common.{◌≡◌, ℕ, ◌-◌, ◌^◌, Bool, true, false, List, [], ◌∷◌, map, refl}
use Rattle.xv_sbi.specs.declared.call.Call.{Call}
use Rattle.xv_sbi.specs.declared.call.Call.TheVariants.{Probe, Fence, HartSuspend, SystemReset}
use Rattle.xv_sbi.specs.declared.call.Call.TheVariants.{Unknown}
use Rattle.xv_sbi.specs.Calls.{call_of}
use Rattle.xv_sbi.specs.Mask.{mask_ok, bits_ok, names}

args : List ℕ
args = 0x1_0000_0003 ∷ 0x2_0000_0005 ∷ 7 ∷ 8 ∷ 9 ∷ 10 ∷ []

calls : List Call
calls =
    call_of 0x10 3 args ∷ call_of 0x10 7 args
    ∷ call_of 0x52464E43 2 args ∷ call_of 0x52464E43 3 args
    ∷ call_of 0x48534D 3 args ∷ call_of 0x48534D 4 args
    ∷ call_of 0x53525354 0 args ∷ call_of 0 0 args ∷ []

the_calls : calls
    ≡ (Probe 0x1_0000_0003 ∷ Unknown
    ∷ Fence 0x1_0000_0003 0x2_0000_0005 ∷ Unknown
    ∷ HartSuspend 3 ∷ Unknown
    ∷ SystemReset 3 5 ∷ Unknown ∷ [])
unfolding calls call_of args
the_calls = refl

-- of two VCPUs: bits 0 and 1 from base 0, bit 1 from base 1, bit 2, no bit from a far base, one bit
-- whose number would wrap around to VCPU 0, and all
masks : List Bool
masks =
    mask_ok 3 0 2 ∷ mask_ok 2 1 2 ∷ mask_ok 4 0 2 ∷ mask_ok 0 1000 2
    ∷ mask_ok 4 (2 ^ 64 - 2) 2 ∷ mask_ok (2 ^ 64 - 1) (2 ^ 64 - 1) 2 ∷ mask_ok (2 ^ 63) 0 2 ∷ []

the_masks : masks ≡ (true ∷ false ∷ false ∷ true ∷ false ∷ true ∷ false ∷ [])
unfolding masks mask_ok bits_ok
the_masks = refl

named : map (names 5 2) (0 ∷ 1 ∷ 2 ∷ 3 ∷ 4 ∷ 5 ∷ [])
    ≡ (false ∷ false ∷ true ∷ false ∷ true ∷ false ∷ [])
named = refl
