-- What the answers of a walk and of a translation say, in the terms of the definitions of Sv39.
use Rattle.std.specs.Prelude.{ℕ, ◌<◌, Bool, not, ◌&&◌, ◌||◌, if◌then◌else◌, Result, Ok, Err}
use Rattle.xv_pte.specs.Entry.{is_users}
use Rattle.xv_pte.specs.declared.access.Kind3.{Kind3}
use Rattle.xv_pte.specs.declared.access.View.{View}
use Rattle.xv_pte.specs.Sv39 as sv39
use Rattle.xv_pte.specs.Sv39.{Verdict, Address, PageFault, NoEntry, WalkEnd, Found, Fault, Absent}
use Rattle.xv_sv39.specs.declared.leaf.Leaf.{Leaf}
use Rattle.xv_sv39.specs.declared.tables.WalkFault.{WalkFault}
use Rattle.xv_sv39.specs.declared.tables.WalkFault.TheVariants.{Page, Entry}

-- what decides on an access: satp, whether the mode is U, SUM and MXR
abbrev pub view_of : ℕ → Bool → Bool → Bool → View
view_of satp user sum mxr = record { satp = satp; user = user; sum = sum; mxr = mxr }

abbrev pub verdict_of : Result ℕ WalkFault → Verdict
verdict_of (Ok gpa) = Address gpa
verdict_of (Err Page) = PageFault
verdict_of (Err (Entry gpa)) = NoEntry gpa

abbrev pub end_of : Result Leaf WalkFault → WalkEnd
end_of (Ok leaf) = Found leaf.level leaf.entry
end_of (Err Page) = Fault
end_of (Err (Entry gpa)) = Absent gpa

-- the level of a leaf
abbrev pub IsLeaf : Result Leaf WalkFault → Type 0
IsLeaf (Ok leaf) = leaf.level < 3
IsLeaf (Err fault) = Unit {0}

-- whether a leaf maps its page for the access
abbrev pub admits : View → Kind3 → ℕ → ℕ → Bool
admits v access level entry =
    sv39.is_aligned level entry && sv39.is_marked access entry
    && sv39.is_permitted access v.user v entry

-- whether data on the page may be used: U its own, S the others, and U's where SUM is set
abbrev pub is_data_of : View → ℕ → Bool
is_data_of v entry = if v.user then is_users entry else not (is_users entry) || v.sum
