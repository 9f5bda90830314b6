-- Where an access leads keeps its alignment, and lies in the memory.
use Rattle.std.proofs.Common.{◌≡◌, ℕ, ◌+◌, ◌*◌, ◌/◌, ◌%◌, ◌≤◌, List, length, Option, None}
use Rattle.std.proofs.Common.{Some, Err, option_map, refl, sym, ap, ◌∙◌, arith}
use Rattle.xv_pte.specs.declared.g_stage.Leaf.{Leaf}
use Rattle.xv_pte.specs.GStage.{walked, led}
use Rattle.xv_pte.proofs.WalkPages.{page_of_leaf}
use Rattle.xv_pte.specs.declared.access.Kind3.TheVariants as kinds
use Rattle.xv_pte.specs.declared.access.Kind3.{Kind3}
use Rattle.xv_mem.specs.Bytes.{word_at}
use Rattle.xv_pte.specs.Sv39.{Verdict, verdict, Address}
use Rattle.xv_step.specs.Bus.{Spot, reader}
use Rattle.xv_step.specs.Memory.{translated, by_verdict, at_spot, usable_spot}
use Rattle.xv_step.specs.Outcome.{Ask, Outcome}
use Rattle.xv_step.specs.State.{view}
use Rattle.xv_step.specs.Step.{fetched_word, word_by}
use Rattle.xv_sv39.specs.declared.tables.WalkFault.{WalkFault}
use Rattle.xv_sv39.specs.declared.tables.WalkFault.TheVariants.{Page, Entry}
use Rattle.xv_sv39.specs.Translate.{verdict_of}
use Rattle.xv_hart.specs.declared.exit.Exit.TheVariants.{Trap}
use Rattle.xv_hart.specs.declared.exit.HTrap.{HTrap}
use Rattle.xv_hart.specs.declared.regs.Regs.{Regs}
use Rattle.xv_hart.specs.Memory.{bus_of}
use Rattle.xv_hart.specs.Step.{came, exit_of, state_of, trap_of}
use Rattle.xv_hart.specs.declared.action.Width.{Width}
use Rattle.xv_hart.specs.declared.action.Width.TheVariants.{W1, W2, W4, W8}
use Rattle.xv_hart.specs.Action.{bytes_of}
use Rattle.xv_hart.specs.Stage.{HasStage, IsUnled, IsLedTo}

-- a page and its frame begin at multiples of 4,096
leaf_offset : (bytes : List ℕ) (root gpa : ℕ) (leaf : Leaf) → walked bytes root gpa ≡ Some leaf
    → leaf.host % 4096 ≡ gpa % 4096
leaf_offset bytes root gpa leaf e =
    (page_of_leaf gpa (led bytes root (gpa / 4096)) leaf e).2.offset

-- ---- the word of an entry

pub word_aligned : (bytes : List ℕ) (root gpa : ℕ) (leaf : Leaf) → gpa % 8 ≡ 0
    → walked bytes root gpa ≡ Some leaf → leaf.host % 8 ≡ 0
word_aligned bytes root gpa leaf aligned e =
    let offset = leaf_offset bytes root gpa leaf e in omega (arith, offset, aligned)

pub word_inside : (bytes : List ℕ) (root gpa : ℕ) (leaf : Leaf) → HasStage bytes root
    → gpa % 8 ≡ 0 → walked bytes root gpa ≡ Some leaf → leaf.host + 8 ≤ length bytes
word_inside bytes root gpa leaf has aligned e =
    let offset = leaf_offset bytes root gpa leaf e in
    let inside = has.leaves gpa leaf e in
    omega (arith, offset, aligned, inside)

-- ---- an access

-- the leaf of an address that leads somewhere
leaf_of : (to : Option Leaf) (at : ℕ) → option_map (λ leaf. leaf.host) to ≡ Some at
    → (leaf : Leaf) × (to ≡ Some leaf) × (leaf.host ≡ at)
leaf_of None at e = cc
leaf_of (Some leaf) at e = (leaf, refl, some_host e)
  where
    some_host : Some leaf.host ≡ Some at → leaf.host ≡ at
    some_host e = cc

module _ (bytes : List ℕ) (root : ℕ) (width : Width) (va gpa at : ℕ)
    (to : IsLedTo bytes root gpa at) where
  pub led_aligned : gpa % 4096 ≡ va % 4096 → va % bytes_of width ≡ 0 → at % bytes_of width ≡ 0
  led_aligned same aligned =
      let found = leaf_of (walked bytes root gpa) at to in
      let offset = leaf_offset bytes root gpa found.0 found.1 in
      by_width width (let e : at % 4096 ≡ va % 4096 = omega (arith, offset, found.2, same) in e)
      aligned
    where
      by_width : (w : Width) → at % 4096 ≡ va % 4096 → va % bytes_of w ≡ 0 → at % bytes_of w ≡ 0
      by_width W1 e h = omega arith
      by_width W2 e h = omega (arith, e, h)
      by_width W4 e h = omega (arith, e, h)
      by_width W8 e h = omega (arith, e, h)

  pub led_inside : HasStage bytes root → at % bytes_of width ≡ 0 → at + bytes_of width ≤ length
      bytes
  led_inside has aligned =
      let found = leaf_of (walked bytes root gpa) at to in
      let frame = has.leaves gpa found.0 found.1 in
      by_width width
      (let e : 4096 * (at / 4096) + 4096 ≤ length bytes = omega (arith, frame, found.2) in e)
      aligned
    where
      by_width : (w : Width) → 4096 * (at / 4096) + 4096 ≤ length bytes → at % bytes_of w ≡ 0
          → at + bytes_of w ≤ length bytes
      by_width W1 f h = omega (arith, f)
      by_width W2 f h = omega (arith, f, h)
      by_width W4 f h = omega (arith, f, h)
      by_width W8 f h = omega (arith, f, h)

  pub led_not_unled : IsUnled bytes root (at / 4096) → ⊥
  led_not_unled unled =
      let found = leaf_of (walked bytes root gpa) at to in
      unled gpa found.0 found.1 (ap (λ n. n / 4096) found.2)

-- ---- an access that leads nowhere

no_spot : (spot : Option (Spot ℕ)) → None ≡ option_map (λ spot. spot.place) spot → spot ≡ None
no_spot None e = refl
no_spot (Some spot) e = cc

pub left_nowhere : (r : Regs) (bytes : List ℕ) (kind : Kind3) (width va gpa : ℕ)
    (lacks : ℕ → Ask) (done : ℕ → Outcome (List ℕ) ℕ) (trap : HTrap)
    → verdict (reader (bus_of r bytes) bytes) (view (state_of r bytes)) va kind ≡ Address gpa
    → None ≡ option_map (λ spot. spot.place)
    (usable_spot kind ((bus_of r bytes).find width gpa))
    → trap_of r.user (lacks gpa) ≡ trap
    → came (Trap trap) r bytes
    ≡ exit_of r bytes
    (translated (bus_of r bytes) (state_of r bytes) kind width va lacks done)
left_nowhere r bytes kind width va gpa lacks done trap address none left =
    let bus = bus_of r bytes in
    let s = state_of r bytes in
    ap (λ t. came (Trap t) r bytes) (sym left)
    ∙ (ap (λ spot. exit_of r bytes (at_spot bus s kind width va lacks done gpa spot))
    (sym (no_spot (usable_spot kind (bus.find width gpa)) none))
    ∙ ap (λ v. exit_of r bytes (by_verdict bus s kind width va lacks done v)) (sym address))

-- ---- a fetch

module _ (r : Regs) (bytes : List ℕ) where
  abbrev fetch_verdict : Verdict
  fetch_verdict =
      verdict (reader (bus_of r bytes) bytes) (view (state_of r bytes)) r.pc kinds.Fetch

  -- the word at the place of an address, if it has one
  pub fetched_at : (gpa : ℕ) (at : Option ℕ) → Address gpa ≡ fetch_verdict
      → at ≡ option_map (λ spot. spot.place) ((bus_of r bytes).find 4 gpa)
      → option_map (word_at 4 bytes) at ≡ fetched_word (bus_of r bytes) (state_of r bytes)
  fetched_at gpa at address place =
      ap (option_map (word_at 4 bytes)) place
      ∙ (of_spot ((bus_of r bytes).find 4 gpa)
      ∙ ap (word_by (bus_of r bytes) (state_of r bytes)) address)
    where
      of_spot : (spot : Option (Spot ℕ))
          → option_map (word_at 4 bytes) (option_map (λ spot. spot.place) spot)
          ≡ option_map (λ spot. word_at 4 bytes spot.place) spot
      of_spot None = refl
      of_spot (Some spot) = refl

  pub fetched_nothing : (fault : WalkFault) → verdict_of (Err fault) ≡ fetch_verdict
      → None ≡ fetched_word (bus_of r bytes) (state_of r bytes)
  fetched_nothing Page e = ap (word_by (bus_of r bytes) (state_of r bytes)) e
  fetched_nothing (Entry gpa) e = ap (word_by (bus_of r bytes) (state_of r bytes)) e
