-- The commands on a guest's memory.
use Rattle.std.specs.Prelude.{ℕ, if◌then◌else◌, List, length, sum_by, Option, Some, None, is_some}
use Rattle.std.specs.Prelude.{codes}
use Rattle.std.specs.List.{concat}
use Rattle.sha2.specs.Sha256.{sha256}
use Rattle.xv_outside.specs.Fetch.{FileMap}
use Rattle.xv_gstage.specs.Audit.{mapped_pages}
use Rattle.xv_lone.specs.Memory.{peeked, spot_at}
use Rattle.xv_lone.specs.Journal.{Load}
use Rattle.xv_top.specs.Answer.{Answer, says, refused, changes, where_there, where_reset, with_file}
use Rattle.xv_top.specs.Files.{file_of, most_image}
use Rattle.xv_top.specs.Texts.{loaded_text, poked_text, mem_text, digest_text, audit_text}
use Rattle.xv_top.specs.World.{LiveGuest, World}

-- bytes for a guest physical address, which must lie wholly in one region of memory
abbrev pub put_into : World → (name : List ℕ) → ℕ → List ℕ → (text : List ℕ) → LiveGuest → Answer
put_into w name gpa bytes text g =
    if is_some (spot_at g.plan (length bytes) gpa)
    then changes w name (Load gpa bytes) text
    else refused w (codes "outside")

-- `guest poke`
abbrev pub poke_guest : World → (name : List ℕ) → ℕ → List ℕ → Option LiveGuest → Answer
poke_guest w name gpa bytes o =
    where_reset w (put_into w name gpa bytes (poked_text name (length bytes))) o

-- `guest load`, when its file is there
abbrev pub load_bytes : World → (name : List ℕ) → ℕ → LiveGuest → List ℕ → Answer
load_bytes w name gpa g bytes = put_into w name gpa bytes (loaded_text name (length bytes)) g

abbrev pub load_file : FileMap → World → (name : List ℕ) → ℕ → (file : List ℕ) → LiveGuest → Answer
load_file files w name gpa file g =
    with_file w most_image (load_bytes w name gpa g) (file_of files file)

abbrev pub load_guest : FileMap → World → (name : List ℕ) → ℕ → (file : List ℕ) → Option LiveGuest
    → Answer
load_guest files w name gpa file o = where_reset w (load_file files w name gpa file) o

abbrev pub mem_of : World → (name : List ℕ) → (gpa : ℕ) → Option (List ℕ) → Answer
mem_of w name gpa None = refused w (codes "outside")
mem_of w name gpa (Some bytes) = says w (mem_text name gpa bytes)

-- `guest mem`
abbrev pub mem_guest : World → (name : List ℕ) → (gpa len : ℕ) → Option LiveGuest → Answer
mem_guest w name gpa len o =
    where_there w (λ g. mem_of w name gpa (peeked g.plan g.machine.memory gpa len)) o

-- `guest digest`: of the bytes of all regions, in their order
abbrev pub digest_guest : World → (name : List ℕ) → Option LiveGuest → Answer
digest_guest w name o =
    where_there w (λ g. says w (digest_text name (sha256 (concat g.machine.memory)))) o

-- `guest audit`: all pages of its memory and of aliases are led to their own frame with the right
-- permission
abbrev pub audit_guest : World → (name : List ℕ) → Option LiveGuest → Answer
audit_guest w name o =
    where_there w (λ g. says w (audit_text name (sum_by mapped_pages g.plan.regions))) o
