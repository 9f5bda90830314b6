-- The fields of hgatp (Privileged Architecture 20211203, section 8.2.10).
use Rattle.std.specs.Prelude.{ℕ, ◌/◌, ◌%◌, ◌^◌}
use Rattle.xv_hcsr.specs.declared.HCsrs.{HCsrs}

-- MODE, bits 63:60
abbrev pub stage_mode : HCsrs → ℕ
stage_mode h = h.hgatp / 2 ^ 60

-- VMID, bits 57:44
abbrev pub vmid_of : HCsrs → ℕ
vmid_of h = h.hgatp / 2 ^ 44 % 2 ^ 14

-- PPN, bits 43:0: the frame of the root table
abbrev pub root_page : HCsrs → ℕ
root_page h = h.hgatp % 2 ^ 44

-- the number of the root table, which is four frames
abbrev pub root_of : HCsrs → ℕ
root_of h = root_page h / 4
