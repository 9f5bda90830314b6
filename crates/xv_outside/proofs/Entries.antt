-- What the map of a list of files has under a name.
use Rattle.std.proofs.Common.{◌≡◌, ℕ, ◌+◌, ◌<◌, Bool, true, false, cond, List, [], ◌∷◌, length, map}
use Rattle.std.proofs.Common.{get_or, drop, Some, None, nat_eq, sym, ap, ◌∙◌, suc, arith}
use Rattle.std.proofs.Math.Seq.{drop-cons}
use Rattle.std.specs.Cmp.Lexicographic.{pointwise, texts_ties, nat_list_cmp_total, slice_cmp}
use Rattle.std.specs.Ordering.{nat_cmp}
use Rattle.std.specs.FinMap.{get, get-empty, get-insert, from_entries}
use Rattle.xv_outside.specs.Memory.{FileEntry, file_map}

-- no file, no name
pub get_none : (name : List ℕ) → get (file_map []) name ≡ None
unfolding file_map
get_none name = get-empty (slice_cmp nat_cmp) name

-- the first file answers where it has the name, and else the files after it
get_step : (file : FileEntry) (files : List FileEntry) (name : List ℕ)
    → get (file_map (file ∷ files)) name
    ≡ cond (pointwise nat_eq name file.name) (Some file.bytes) (get (file_map files) name)
unfolding file_map
get_step file files name =
    get-insert nat_list_cmp_total
    (from_entries (map (λ (e : FileEntry). (e.name, e.bytes)) files)) file.name file.bytes name
    ∙ ap (λ b. cond b (Some file.bytes) (get (file_map files) name))
    (sym (texts_ties name file.name))

next_file : (files : List FileEntry) (i : ℕ) (file : FileEntry) → i < length files
    → file ≡ get_or files i file → drop i files ≡ file ∷ drop (i + 1) files
next_file files i file lt is =
    let next : suc i ≡ i + 1 = omega arith in
    drop-cons files i file lt ∙ ap (λ (f : FileEntry). f ∷ drop (suc i) files) (sym is)
    ∙ ap (λ (n : ℕ). file ∷ drop n files) next

-- the file at a place, where it has the name
pub get_here : (files : List FileEntry) (i : ℕ) (file : FileEntry) (name : List ℕ)
    → i < length files → file ≡ get_or files i file → true ≡ pointwise nat_eq name file.name
    → get (file_map (drop i files)) name ≡ Some file.bytes
get_here files i file name lt is same =
    ap (λ fs. get (file_map fs) name) (next_file files i file lt is)
    ∙ get_step file (drop (i + 1) files) name
    ∙ ap (λ b. cond b (Some file.bytes) (get (file_map (drop (i + 1) files)) name)) (sym same)

-- and where it hasn't
pub get_after : (files : List FileEntry) (i : ℕ) (file : FileEntry) (name : List ℕ)
    → i < length files → file ≡ get_or files i file → false ≡ pointwise nat_eq name file.name
    → get (file_map (drop i files)) name ≡ get (file_map (drop (i + 1) files)) name
get_after files i file name lt is other =
    ap (λ fs. get (file_map fs) name) (next_file files i file lt is)
    ∙ get_step file (drop (i + 1) files) name
    ∙ ap (λ b. cond b (Some file.bytes) (get (file_map (drop (i + 1) files)) name)) (sym other)
