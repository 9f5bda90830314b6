-- Two buses that show the same memory, each in its own form, step alike; where the second lacks
-- places of the first, its hart may ask for one of them instead.
use Rattle.std.proofs.Common.{◌≡◌, ◌⊎◌, inl, inr, ℕ, ◌%◌, ◌==◌, ◌&&◌, Bool, true, false, cond}
use Rattle.std.proofs.Common.{Option, Some, None, option_map, refl, sym, ap, ◌∙◌, subst}
use Rattle.std.proofs.lemmas.Bool.Decides.{Decides-eqb}
use Rattle.std.proofs.lemmas.Option.{cond_some}
use Rattle.xv_isa.specs.declared.rows.Op.{Op}
use Rattle.xv_isa.specs.declared.instruction.Insn.{Insn}
use Rattle.xv_isa.specs.Effects as effects
use Rattle.xv_isa.specs.Effects.{CsrChange, effect_of}
use Rattle.xv_isa.specs.Length.{fetch_width, next_pc}
use Rattle.xv_isa.specs.Operands.{decode_of}
use Rattle.xv_isa.specs.Results.{result_of}
use Rattle.xv_csr.specs.declared.SCsrs.{SCsrs}
use Rattle.xv_csr.specs.Cause.{illegal_instruction, breakpoint, environment_call_from_u}
use Rattle.xv_csr.specs.Cause.{instruction_address_misaligned}
use Rattle.xv_csr.specs.Fields.{instruction_alignment, IsInstructionAddress}
use Rattle.xv_csr.specs.Pending.{chosen_interrupt}
use Rattle.xv_csr.specs.Table.{csr_read}
use Rattle.xv_pte.specs.declared.access.Kind3.TheVariants as kinds
use Rattle.xv_pte.specs.declared.access.Kind3.{Kind3}
use Rattle.xv_pte.specs.Sv39.{Verdict, Address, PageFault, NoEntry, verdict}
use Rattle.xv_pte.proofs.Lacking as lacking
use Rattle.xv_pte.proofs.Lacking.{AgreeButFor, VerdictIsOne, verdict_is_one, verdict_offset}
use Rattle.xv_step.specs.Bus.{Bus, Spot, reader}
use Rattle.xv_step.specs.State.{Held, State, held_as, set, at_pc, view}
use Rattle.xv_step.specs.Outcome.{Ask, TableEntry, Target, Plain, Call, Wait, Outcome, Went, Raised}
use Rattle.xv_step.specs.Outcome.{Left, width_of, misaligned, page_fault}
use Rattle.xv_step.specs.Memory as memory
use Rattle.xv_step.specs.Perform as perform
use Rattle.xv_step.specs.Perform.{Inputs}
use Rattle.xv_step.specs.Step as step
use Rattle.xv_step.proofs.WidthLemmas.{IsWidth, Four, Eight, IsAccess, HasWidth, access_at}
use Rattle.xv_step.proofs.WidthLemmas.{effect_width}

-- Bus b's memories and places, seen as those of bus a. Good memories are those of which it holds,
-- Stands says of which places so many bytes are good, and Lacks which accesses may find a place on
-- bus a alone.
pub record AreJoined {MA PA MB PB : Type 0} (a : Bus MA PA) (b : Bus MB PB) (seen_memory : MB → MA)
    (seen_place : PB → PA) (Good : MB → Type 0) (Stands : ℕ → PB → Type 0) (Lacks : (width gpa : ℕ)
    → Type 0) : Type 0 where
  pub find : (width gpa : ℕ) → IsAccess width gpa
      → (a.find width gpa
      ≡ option_map (λ spot. record { place = seen_place spot.place; writable = spot.writable })
      (b.find width gpa))
      ⊎ ((b.find width gpa ≡ None) × Lacks width gpa)
  pub stands : (width gpa : ℕ) (spot : Spot PB) → IsAccess width gpa → b.find width gpa ≡ Some spot
      → Stands width spot.place
  pub get : (m : MB) (width : ℕ) (place : PB) → Good m → Stands width place
      → a.get (seen_memory m) width (seen_place place) ≡ b.get m width place
  pub put : (m : MB) (width : ℕ) (place : PB) (value : ℕ) → Good m → Stands width place
      → a.put (seen_memory m) width (seen_place place) value
      ≡ seen_memory (b.put m width place value)
  pub good : (m : MB) (width : ℕ) (place : PB) (value : ℕ) → Good m → Stands width place
      → Good (b.put m width place value)
  pub same : (held width : ℕ) (one other : PB) → Stands held one → Stands width other
      → a.same (seen_place one) (seen_place other) ≡ b.same one other

module _ {MA PA MB PB : Type 0} (a : Bus MA PA) (b : Bus MB PB) (seen_memory : MB → MA)
    (seen_place : PB → PA) (Good : MB → Type 0) (Stands : ℕ → PB → Type 0)
    (Lacks : (width gpa : ℕ) → Type 0)
    (joined : AreJoined a b seen_memory seen_place Good Stands Lacks) where
  -- ---- a state of bus b as one of bus a

  abbrev pub seen_spot : Spot PB → Spot PA
  seen_spot spot = record { place = seen_place spot.place; writable = spot.writable }

  abbrev pub seen_held : Option (Held PB) → Option (Held PA)
  seen_held held = held_as seen_place held

  abbrev pub seen : State MB PB → State MA PA
  seen s = record {
    x = s.x;
    pc = s.pc;
    user = s.user;
    csrs = s.csrs;
    held = seen_held s.held;
    memory = seen_memory s.memory;
  }

  abbrev pub seen_outcome : Outcome MB PB → Outcome MA PA
  seen_outcome (Went s) = Went (seen s)
  seen_outcome (Raised cause tval) = Raised cause tval
  seen_outcome (Left ask) = Left ask

  abbrev pub HeldStands : Option (Held PB) → Type 0
  HeldStands None = Unit {0}
  HeldStands (Some held) = Stands held.width held.place

  -- memory is good, and what is reserved stands
  pub record IsGood (s : State MB PB) : Type 0 where
    pub memory : Good s.memory
    pub held : HeldStands s.held

  abbrev pub LeavesGood : Outcome MB PB → Type 0
  LeavesGood (Went s) = IsGood s
  LeavesGood (Raised cause tval) = Unit {0}
  LeavesGood (Left ask) = Unit {0}

  -- the ask is for a place that bus b lacks
  abbrev pub IsLacking : Ask → Type 0
  IsLacking (TableEntry access va gpa) = Lacks 8 gpa
  IsLacking (Target access va gpa) = (width : ℕ) × Lacks width gpa
  IsLacking (Plain access gpa next) = Lacks (width_of access) gpa
  IsLacking (Call next) = ⊥
  IsLacking (Wait next) = ⊥

  -- one outcome in its two forms, or bus b's hart asks for what it lacks
  pub data IsOne (of_a : Outcome MA PA) (of_b : Outcome MB PB) : Type 0 where
    Same : of_a ≡ seen_outcome of_b → LeavesGood of_b → IsOne of_a of_b
    Asks : (ask : Ask) → of_b ≡ Left ask → IsLacking ask → IsOne of_a of_b

  -- ---- translation

  words_same : (m : MB) (good : Good m) (found : Option (Spot PB))
      → ((spot : Spot PB) → found ≡ Some spot → Stands 8 spot.place)
      → option_map (λ spot. a.get (seen_memory m) 8 spot.place) (option_map seen_spot found)
      ≡ option_map (λ spot. b.get m 8 spot.place) found
  words_same m good None stands = refl
  words_same m good (Some spot) stands = ap Some (joined.get m 8 spot.place good (stands spot refl))

  readers_agree : (m : MB) (good : Good m)
      → AgreeButFor (Lacks 8) (reader a (seen_memory m)) (reader b m)
  readers_agree m good gpa aligned = by_find (joined.find 8 gpa access)
    where
      access : IsAccess 8 gpa
      access = record { bytes = Eight; aligned = aligned }

      by_find : (a.find 8 gpa ≡ option_map seen_spot (b.find 8 gpa))
          ⊎ ((b.find 8 gpa ≡ None) × Lacks 8 gpa)
          → (reader a (seen_memory m) gpa ≡ reader b m gpa)
          ⊎ ((reader b m gpa ≡ None) × Lacks 8 gpa)
      by_find (inl same) =
          inl (ap (option_map (λ spot. a.get (seen_memory m) 8 spot.place)) same
          ∙ words_same m good (b.find 8 gpa) (λ spot found. joined.stands 8 gpa spot access found))
      by_find (inr lacks) = inr (ap (option_map (λ spot. b.get m 8 spot.place)) lacks.0, lacks.1)

  usable_same : (access : Kind3) (found : Option (Spot PB))
      → memory.usable_spot access (option_map seen_spot found)
      ≡ option_map seen_spot (memory.usable_spot access found)
  usable_same kinds.Fetch found = refl
  usable_same kinds.Load found = refl
  usable_same kinds.Store None = refl
  usable_same kinds.Store (Some spot) = by_writable spot.writable
    where
      by_writable : (writable : Bool) → cond writable (Some (seen_spot spot)) None
          ≡ option_map seen_spot (cond writable (Some spot) None)
      by_writable true = refl
      by_writable false = refl

  usable_none : (access : Kind3) (found : Option (Spot PB)) → found ≡ None
      → memory.usable_spot access found ≡ None
  usable_none kinds.Fetch found none = none
  usable_none kinds.Load found none = none
  usable_none kinds.Store found none = ap memory.writable_spot none

  -- a spot that is usable was found
  usable_found : (access : Kind3) (found : Option (Spot PB)) (spot : Spot PB)
      → memory.usable_spot access found ≡ Some spot → found ≡ Some spot
  usable_found kinds.Fetch found spot e = e
  usable_found kinds.Load found spot e = e
  usable_found kinds.Store None spot e = e
  usable_found kinds.Store (Some one) spot e = ap Some (cond_some one.writable one spot e).1

  module _ (s : State MB PB) (is_good : IsGood s) where
    raised_is_one : (cause tval : ℕ) → IsOne (Raised cause tval) (Raised cause tval)
    raised_is_one cause tval = Same refl (tt {0})

    module _ (access : Kind3) (width va : ℕ) (bytes : IsWidth width) (lacks : ℕ → Ask)
        (lacking_at : (gpa : ℕ) → Lacks width gpa → IsLacking (lacks gpa))
        (done_a : PA → Outcome MA PA) (done_b : PB → Outcome MB PB) (done : (place : PB)
        → Stands width place → IsOne (done_a (seen_place place)) (done_b place)) where
      spot_is_one : (gpa : ℕ) (usable : Option (Spot PB))
          → ((spot : Spot PB) → usable ≡ Some spot → Stands width spot.place)
          → IsOne (memory.at_spot a (seen s) access width va lacks done_a gpa
          (option_map seen_spot usable))
          (memory.at_spot b s access width va lacks done_b gpa usable)
      spot_is_one gpa None stands = Same refl (tt {0})
      spot_is_one gpa (Some spot) stands = done spot.place (stands spot refl)

      address_is_one : (gpa : ℕ) → IsAccess width gpa
          → IsOne (memory.by_verdict a (seen s) access width va lacks done_a (Address gpa))
          (memory.by_verdict b s access width va lacks done_b (Address gpa))
      address_is_one gpa at = by_find (joined.find width gpa at)
        where
          by_find : (a.find width gpa ≡ option_map seen_spot (b.find width gpa))
              ⊎ ((b.find width gpa ≡ None) × Lacks width gpa)
              → IsOne (memory.by_verdict a (seen s) access width va lacks done_a (Address gpa))
              (memory.by_verdict b s access width va lacks done_b (Address gpa))
          by_find (inl same) =
              subst (λ found. IsOne
              (memory.at_spot a (seen s) access width va lacks done_a gpa
              (memory.usable_spot access found))
              (memory.by_verdict b s access width va lacks done_b (Address gpa)))
              (sym same)
              (subst (λ usable. IsOne
              (memory.at_spot a (seen s) access width va lacks done_a gpa usable)
              (memory.by_verdict b s access width va lacks done_b (Address gpa)))
              (sym (usable_same access (b.find width gpa)))
              (spot_is_one gpa (memory.usable_spot access (b.find width gpa))
              (λ spot usable. joined.stands width gpa spot at
              (usable_found access (b.find width gpa) spot usable))))
          by_find (inr lacked) =
              Asks (lacks gpa)
              (ap (memory.at_spot b s access width va lacks done_b gpa)
              (usable_none access (b.find width gpa) lacked.0)) (lacking_at gpa lacked.1)

      by_verdict_is_one : (v : Verdict) → ((gpa : ℕ) → v ≡ Address gpa → IsAccess width gpa)
          → IsOne (memory.by_verdict a (seen s) access width va lacks done_a v)
          (memory.by_verdict b s access width va lacks done_b v)
      by_verdict_is_one (Address gpa) at = address_is_one gpa (at gpa refl)
      by_verdict_is_one PageFault at = raised_is_one (page_fault access) va
      by_verdict_is_one (NoEntry gpa) at = Same refl (tt {0})

      translated_is_one : va % width ≡ 0
          → IsOne (memory.translated a (seen s) access width va lacks done_a)
          (memory.translated b s access width va lacks done_b)
      translated_is_one aligned =
          by_verdicts (verdict_is_one (Lacks 8) (reader a (seen_memory s.memory))
          (reader b s.memory) (readers_agree s.memory is_good.memory) (view s) va access)
        where
          by_verdicts : VerdictIsOne (Lacks 8)
              (verdict (reader a (seen_memory s.memory)) (view s) va access)
              (verdict (reader b s.memory) (view s) va access)
              → IsOne (memory.translated a (seen s) access width va lacks done_a)
              (memory.translated b s access width va lacks done_b)
          by_verdicts (lacking.Same same) =
              subst (λ v. IsOne (memory.by_verdict a (seen s) access width va lacks done_a v)
              (memory.translated b s access width va lacks done_b))
              (sym same)
              (by_verdict_is_one (verdict (reader b s.memory) (view s) va access)
              (λ gpa is. access_at width va gpa bytes aligned
              (verdict_offset (reader b s.memory) (view s) va access gpa is)))
          by_verdicts (lacking.Lacking gpa none lacked) =
              Asks (TableEntry access va gpa)
              (ap (memory.by_verdict b s access width va lacks done_b) none) lacked

      accessed_is_one : IsOne (memory.accessed a (seen s) access width va lacks done_a)
          (memory.accessed b s access width va lacks done_b)
      accessed_is_one = by_alignment (va % width == 0) (Decides-eqb (va % width) 0).0
        where
          by_alignment : (aligned : Bool) → (aligned ≡ true → va % width ≡ 0)
              → IsOne (cond aligned (memory.translated a (seen s) access width va lacks done_a)
              (Raised (misaligned access) va))
              (cond aligned (memory.translated b s access width va lacks done_b)
              (Raised (misaligned access) va))
          by_alignment true is = translated_is_one (is refl)
          by_alignment false is = raised_is_one (misaligned access) va

    -- ---- what is done at a place

    module _ (inputs : Inputs) (word next : ℕ) where
      -- the hart goes on with a state that is good
      went : (t : State MB PB) → IsGood t
          → IsOne (perform.goes_on a inputs word next (seen s) (seen t))
          (perform.goes_on b inputs word next s t)
      went t good = Same refl (record { memory = good.memory; held = good.held })

      -- a register is written, and nothing else
      register_is_one : (rd value : ℕ)
          → IsOne (perform.goes_on a inputs word next (seen s) (set rd value (seen s)))
          (perform.goes_on b inputs word next s (set rd value s))
      register_is_one rd value =
          went (set rd value s) (record { memory = is_good.memory; held = is_good.held })

      loaded_is_one : (width : ℕ) (signed : Bool) (rd : ℕ) (place : PB) → Stands width place
          → IsOne (perform.loaded a inputs word next (seen s) width signed rd (seen_place place))
          (perform.loaded b inputs word next s width signed rd place)
      loaded_is_one width signed rd place stands =
          subst (λ n. IsOne
          (perform.goes_on a inputs word next (seen s)
          (set rd (effects.extended signed width n) (seen s)))
          (perform.loaded b inputs word next s width signed rd place))
          (sym (joined.get s.memory width place is_good.memory stands))
          (register_is_one rd (effects.extended signed width (b.get s.memory width place)))

      stored_is_one : (width value : ℕ) (place : PB) → Stands width place
          → IsOne (perform.stored a inputs word next (seen s) width value (seen_place place))
          (perform.stored b inputs word next s width value place)
      stored_is_one width value place stands =
          subst (λ m. IsOne
          (perform.goes_on a inputs word next (seen s) (record (seen s) { memory = m }))
          (perform.stored b inputs word next s width value place))
          (sym (joined.put s.memory width place value is_good.memory stands))
          (went (record s { memory = b.put s.memory width place value })
          (record {
            memory = joined.good s.memory width place value is_good.memory stands;
            held = is_good.held;
          }))

      reserved_is_one : (width rd : ℕ) (place : PB) → Stands width place
          → IsOne (perform.reserved a inputs word next (seen s) width rd (seen_place place))
          (perform.reserved b inputs word next s width rd place)
      reserved_is_one width rd place stands =
          let held : Held PB = record { place = place; width = width } in
          subst (λ n. IsOne
          (perform.goes_on a inputs word next (seen s)
          (set rd (effects.extended true width n)
          (record (seen s) { held = seen_held (Some held) })))
          (perform.reserved b inputs word next s width rd place))
          (sym (joined.get s.memory width place is_good.memory stands))
          (went (set rd (effects.extended true width (b.get s.memory width place))
          (record s { held = Some held })) (record { memory = is_good.memory; held = stands }))

      reserved_same : (width : ℕ) (place : PB) → Stands width place → (held : Option (Held PB))
          → HeldStands held → perform.is_reserved a width (seen_place place) (seen_held held)
          ≡ perform.is_reserved b width place held
      reserved_same width place stands None held_stands = refl
      reserved_same width place stands (Some held) held_stands =
          ap (λ same. same && held.width == width)
          (joined.same held.width width held.place place held_stands stands)

      conditional_is_one : (width value rd : ℕ) (place : PB) → Stands width place
          → IsOne (perform.conditional a inputs word next (seen s) width value rd
          (seen_place place)) (perform.conditional b inputs word next s width value rd place)
      conditional_is_one width value rd place stands =
          subst (λ held. IsOne (cond held succeeds_a fails_a)
          (perform.conditional b inputs word next s width value rd place))
          (sym (reserved_same width place stands s.held is_good.held))
          (by_held (perform.is_reserved b width place s.held))
        where
          succeeds_a : Outcome MA PA
          succeeds_a =
              perform.goes_on a inputs word next (seen s)
              (set rd 0 (record (seen s) {
                held = None;
                memory = a.put (seen_memory s.memory) width (seen_place place) value;
              }))

          succeeds_b : Outcome MB PB
          succeeds_b =
              perform.goes_on b inputs word next s
              (set rd 0 (record s { held = None; memory = b.put s.memory width place value }))

          fails_a : Outcome MA PA
          fails_a = perform.goes_on a inputs word next (seen s)
              (set rd 1 (record (seen s) { held = None }))

          fails_b : Outcome MB PB
          fails_b = perform.goes_on b inputs word next s (set rd 1 (record s { held = None }))

          by_held : (held : Bool)
              → IsOne (cond held succeeds_a fails_a) (cond held succeeds_b fails_b)
          by_held true =
              subst (λ m. IsOne
              (perform.goes_on a inputs word next (seen s)
              (set rd 0 (record (seen s) { held = None; memory = m }))) succeeds_b)
              (sym (joined.put s.memory width place value is_good.memory stands))
              (went (set rd 0 (record s { held = None; memory = b.put s.memory width place value }))
              (record {
                memory = joined.good s.memory width place value is_good.memory stands;
                held = tt {0};
              }))
          by_held false =
              went (set rd 1 (record s { held = None }))
              (record { memory = is_good.memory; held = tt {0} })

      modified_is_one : (op : Op) (width value rd : ℕ) (place : PB) → Stands width place
          → IsOne (perform.modified a inputs word next (seen s) op width value rd
          (seen_place place)) (perform.modified b inputs word next s op width value rd place)
      modified_is_one op width value rd place stands =
          subst (λ n. IsOne
          (perform.goes_on a inputs word next (seen s)
          (set rd (effects.extended true width n)
          (record (seen s) {
            memory = a.put (seen_memory s.memory) width (seen_place place)
                (new n);
          }))) (perform.modified b inputs word next s op width value rd place))
          (sym (joined.get s.memory width place is_good.memory stands))
          (subst (λ m. IsOne
          (perform.goes_on a inputs word next (seen s)
          (set rd (effects.extended true width old) (record (seen s) { memory = m })))
          (perform.modified b inputs word next s op width value rd place))
          (sym (joined.put s.memory width place (new old) is_good.memory stands))
          (went (set rd (effects.extended true width old)
          (record s { memory = b.put s.memory width place (new old) }))
          (record {
            memory = joined.good s.memory width place (new old) is_good.memory stands;
            held = is_good.held;
          })))
        where
          old : ℕ
          old = b.get s.memory width place

          new : ℕ → ℕ
          new n = effects.low_bytes width (result_of op (effects.extended true width n) value)

      -- ---- CSRs and modes

      csr_given_is_one : (rd old : ℕ) (csrs : Option SCsrs)
          → IsOne (perform.csr_given a inputs word next (seen s) rd old csrs)
          (perform.csr_given b inputs word next s rd old csrs)
      csr_given_is_one rd old None = raised_is_one illegal_instruction word
      csr_given_is_one rd old (Some csrs) =
          went (set rd old (record s { csrs = csrs }))
          (record { memory = is_good.memory; held = is_good.held })

      csr_changed_is_one : (number : ℕ) (change : CsrChange) (rd : ℕ) (old : Option ℕ)
          → IsOne (perform.csr_changed a inputs word next (seen s) number change rd old)
          (perform.csr_changed b inputs word next s number change rd old)
      csr_changed_is_one number change rd None = raised_is_one illegal_instruction word
      csr_changed_is_one number change rd (Some old) =
          csr_given_is_one rd old
          (perform.new_csrs s.csrs number s.user (perform.new_value change old))

      in_supervisor_is_one : (done_a : Outcome MA PA) (done_b : Outcome MB PB) → IsOne done_a done_b
          → IsOne (perform.in_supervisor a inputs word next (seen s) done_a)
          (perform.in_supervisor b inputs word next s done_b)
      in_supervisor_is_one done_a done_b done = by_mode s.user
        where
          by_mode : (user : Bool) → IsOne (cond user (Raised illegal_instruction word) done_a)
              (cond user (Raised illegal_instruction word) done_b)
          by_mode true = raised_is_one illegal_instruction word
          by_mode false = done

      environment_call_is_one : IsOne (perform.environment_call a inputs word next (seen s))
          (perform.environment_call b inputs word next s)
      environment_call_is_one = by_mode s.user
        where
          by_mode : (user : Bool)
              → IsOne (cond user (Raised environment_call_from_u 0) (Left (Call next)))
              (cond user (Raised environment_call_from_u 0) (Left (Call next)))
          by_mode true = raised_is_one environment_call_from_u 0
          by_mode false = Same refl (tt {0})

      jumped_is_one : (target rd link : ℕ)
          → IsOne (perform.jumped a inputs word next (seen s) target rd link)
          (perform.jumped b inputs word next s target rd link)
      jumped_is_one target rd link = by_alignment (target % instruction_alignment == 0)
        where
          by_alignment : (aligned : Bool)
              → IsOne (cond aligned (Went (at_pc target (set rd link (seen s))))
              (Raised instruction_address_misaligned target))
              (cond aligned (Went (at_pc target (set rd link s)))
              (Raised instruction_address_misaligned target))
          by_alignment true = Same refl (record { memory = is_good.memory; held = is_good.held })
          by_alignment false = raised_is_one instruction_address_misaligned target

      -- ---- the actions

      plain_is_one : (access : effects.Access) → HasWidth (effects.Plain access)
          → IsOne (perform.plain a inputs word next (seen s) access)
          (perform.plain b inputs word next s access)
      plain_is_one (effects.Load width signed va rd) bytes =
          accessed_is_one kinds.Load width va bytes
          (λ gpa. Plain (effects.Load width signed va rd) gpa next) (λ gpa lacks. lacks)
          (perform.loaded a inputs word next (seen s) width signed rd)
          (perform.loaded b inputs word next s width signed rd) (loaded_is_one width signed rd)
      plain_is_one (effects.Store width va value) bytes =
          accessed_is_one kinds.Store width va bytes
          (λ gpa. Plain (effects.Store width va value) gpa next) (λ gpa lacks. lacks)
          (perform.stored a inputs word next (seen s) width value)
          (perform.stored b inputs word next s width value) (stored_is_one width value)

      pub performed_is_one : (action : effects.Action) → HasWidth action
          → IsOne (perform.performed a inputs word next (seen s) action)
          (perform.performed b inputs word next s action)
      performed_is_one (effects.Set rd value) bytes = register_is_one rd value
      performed_is_one (effects.Jump target rd link) bytes = jumped_is_one target rd link
      performed_is_one (effects.Plain access) bytes = plain_is_one access bytes
      performed_is_one (effects.LoadReserved width va rd) bytes =
          accessed_is_one kinds.Load width va bytes (Target kinds.Load va)
          (λ gpa lacks. (width, lacks))
          (perform.reserved a inputs word next (seen s) width rd)
          (perform.reserved b inputs word next s width rd) (reserved_is_one width rd)
      performed_is_one (effects.StoreConditional width va value rd) bytes =
          accessed_is_one kinds.Store width va bytes (Target kinds.Store va)
          (λ gpa lacks. (width, lacks))
          (perform.conditional a inputs word next (seen s) width value rd)
          (perform.conditional b inputs word next s width value rd)
          (conditional_is_one width value rd)
      performed_is_one (effects.Modify op width va value rd) bytes =
          accessed_is_one kinds.Store width va bytes (Target kinds.Store va)
          (λ gpa lacks. (width, lacks))
          (perform.modified a inputs word next (seen s) op width value rd)
          (perform.modified b inputs word next s op width value rd)
          (modified_is_one op width value rd)
      performed_is_one (effects.AccessCsr number change rd) bytes =
          csr_changed_is_one number change rd
          (csr_read s.csrs number s.user inputs.lines inputs.time)
      performed_is_one effects.FenceTranslations bytes = in_supervisor_is_one _ _ (went s is_good)
      performed_is_one effects.Continue bytes = went s is_good
      performed_is_one effects.EnvironmentCall bytes = environment_call_is_one
      performed_is_one effects.Breakpoint bytes = raised_is_one breakpoint s.pc
      performed_is_one effects.SupervisorReturn bytes =
          in_supervisor_is_one _ _
          (Same refl (record { memory = is_good.memory; held = is_good.held }))
      performed_is_one effects.WaitForInterrupt bytes =
          in_supervisor_is_one _ _ (Same refl (tt {0}))

    -- ---- the step

    module _ (inputs : Inputs) (address : IsInstructionAddress s.pc) where
      executed_is_one : (word : ℕ) (decoded : Option Insn)
          → IsOne (step.executed a inputs (seen s) word decoded)
          (step.executed b inputs s word decoded)
      executed_is_one word None = raised_is_one illegal_instruction word
      executed_is_one word (Some i) =
          let next = next_pc s.pc word in
          performed_is_one inputs word next (effect_of i s.x s.pc next)
          (effect_width i s.x s.pc next)

      at_word_is_one : (place : PB) → Stands fetch_width place
          → IsOne (step.at_word a inputs (seen s) (seen_place place))
          (step.at_word b inputs s place)
      at_word_is_one place stands =
          subst (λ word. IsOne (step.executed a inputs (seen s) word (decode_of word))
          (step.at_word b inputs s place))
          (sym (joined.get s.memory fetch_width place is_good.memory stands))
          (executed_is_one (b.get s.memory fetch_width place)
          (decode_of (b.get s.memory fetch_width place)))

      interrupted_is_one : (cause : Option ℕ)
          → IsOne (step.interrupted a inputs (seen s) cause) (step.interrupted b inputs s cause)
      interrupted_is_one None =
          translated_is_one kinds.Fetch fetch_width s.pc Four (Target kinds.Fetch s.pc)
          (λ gpa lacks. (fetch_width, lacks))
          (step.at_word a inputs (seen s)) (step.at_word b inputs s) at_word_is_one address
      interrupted_is_one (Some cause) =
          Same refl (record { memory = is_good.memory; held = is_good.held })

      -- the step of one bus is that of the other, and it leaves what is good good; or it asks for
      -- what bus b lacks
      pub step_is_one : IsOne (step.step a inputs (seen s)) (step.step b inputs s)
      unfolding step.step
      step_is_one = interrupted_is_one (chosen_interrupt s.csrs s.user inputs.lines)

-- nothing is lacking
abbrev pub Nothing : (width gpa : ℕ) → Type 0
Nothing width gpa = ⊥

-- every bus shows its own memory
pub itself : {M P : Type 0} (b : Bus M P)
    → AreJoined b b (λ m. m) (λ place. place) (λ m. Unit {0}) (λ width place. Unit {0}) Nothing
itself {P = P} b = record {
  find = λ width gpa access. inl (as_found (b.find width gpa));
  stands = λ width gpa spot access found. tt {0};
  get = λ m width place good stands. refl;
  put = λ m width place value good stands. refl;
  good = λ m width place value good stands. tt {0};
  same = λ held width one other stands other_stands. refl;
}
  where
    as_found : (found : Option (Spot P))
        → found ≡ option_map (λ spot. record { place = spot.place; writable = spot.writable }) found
    as_found None = refl
    as_found (Some spot) = refl
