-- Ranges of addresses, in bytes.
use Rattle.std.specs.Prelude.{ℕ, ◌+◌, Bool, ◌&&◌, nat_le, nat_lt, max, min, List, IsTrue}
use Rattle.std.specs.List.{list_any}
use Rattle.xv_base.specs.declared.keys.Span.{Span}

-- the address behind the last one
abbrev pub range_end : Span → ℕ
range_end range = range.start + range.len

-- the address lies in the range
abbrev pub has_address : ℕ → Span → Bool
has_address address range = nat_le range.start address && nat_lt address (range_end range)

-- two ranges share a byte: the later start lies before the earlier end
abbrev pub meets : Span → Span → Bool
meets a b = nat_lt (max a.start b.start) (min (range_end a) (range_end b))

-- the range shares a byte with one of those
abbrev pub meets_one : List Span → Span → Bool
meets_one ranges range = list_any (meets range) ranges

-- the inner range begins and ends within the outer one
abbrev pub lies_in : Span → Span → Bool
lies_in inner outer =
    nat_le outer.start inner.start && nat_le (range_end inner) (range_end outer)

abbrev pub LiesIn : Span → Span → Type 0
LiesIn inner outer = IsTrue (lies_in inner outer)
