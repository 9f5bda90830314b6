-- Words of the program's own contracts: the names that a set holds, and what was read so far.
use Rattle.std.specs.Prelude.{ℕ, List, [], ◌++◌, Option, Some, None, Result, Ok}
use Rattle.std.specs.Ordering.{nat_cmp}
use Rattle.std.specs.Cmp.Lexicographic.{slice_cmp}
use Rattle.std.specs.BTreeSet.{contains}
use Rattle.xv_fdt.specs.declared.blocks.Blocks.{Blocks}
use Rattle.xv_fdt.specs.declared.fault.FdtKind.{FdtKind}
use Rattle.xv_fdt.specs.declared.fault.FdtKind.TheVariants.{Short, BadToken, Unbalanced}
use Rattle.xv_fdt.specs.declared.names.NameSet.{NameSet}
use Rattle.xv_fdt.specs.declared.token.Mark.{Mark}
use Rattle.xv_fdt.specs.declared.token.Mark.TheVariants as marks
use Rattle.xv_fdt.specs.Fault.{Fault, ◌>>=◌}
use Rattle.xv_fdt.specs.Grammar.{Names}
use Rattle.xv_fdt.specs.Token.{Token, Begin, name_at, property_at, next_of, tokens}
use Rattle.xv_fdt.specs.Tree.{Property}

-- the names that a set holds, as the test that the grammar asks
unfoldable pub taken_in : NameSet → Names
taken_in names name = contains (slice_cmp nat_cmp) names.set name

-- what was read so far, and then what reading gives
abbrev pub with_front : {A : Type 0} → List A → Result (List A × List Token) Fault
    → Result (List A × List Token) Fault
with_front front reading = reading >>= λ read. Ok (front ++ read.0, read.1)

-- the tokens from a place on, if there is one
abbrev pub tokens_after : List ℕ → List ℕ → Option ℕ → List Token
tokens_after block strings None = []
tokens_after block strings (Some at) = tokens block strings at

-- the same in the blocks of a file, and what stands behind a property's and a node's token there
abbrev pub tokens_in : Blocks → ℕ → List Token
tokens_in blocks at = tokens blocks.structure.now blocks.strings.now at

abbrev pub property_in : Blocks → ℕ → Result Property FdtKind
property_in blocks at = property_at blocks.structure.now blocks.strings.now at

abbrev pub tokens_inside : Blocks → ℕ → List Token
tokens_inside blocks at =
    tokens_after blocks.structure.now blocks.strings.now
    (next_of (Begin at (name_at blocks.structure.now at)))

-- the kind of the fault at a mark that nothing allows
abbrev pub stray_kind : Mark → FdtKind
stray_kind marks.Begin = Unbalanced
stray_kind marks.EndNode = Unbalanced
stray_kind marks.Prop = Unbalanced
stray_kind marks.Nop = Unbalanced
stray_kind marks.End = Unbalanced
stray_kind marks.Strange = BadToken
stray_kind marks.Cut = Short

-- the same among the children of a node
abbrev pub stray_child_kind : Mark → FdtKind
stray_child_kind marks.Begin = Unbalanced
stray_child_kind marks.EndNode = Unbalanced
stray_child_kind marks.Prop = BadToken
stray_child_kind marks.Nop = Unbalanced
stray_child_kind marks.End = Unbalanced
stray_child_kind marks.Strange = BadToken
stray_child_kind marks.Cut = Short
