-- One step of a hart over a bus of memory, in order: an interrupt (Privileged Architecture
-- 20211203, 4.1.3), the fetch with its faults (4.1.8 and 4.4), a word that is no row (4.1.8), and
-- what the row asks.
use Rattle.std.specs.Prelude.{ℕ, Option, Some, None, option_map}
use Rattle.xv_isa.specs.declared.instruction.Insn.{Insn}
use Rattle.xv_isa.specs.Effects.{effect_of}
use Rattle.xv_isa.specs.Length.{fetch_width, next_pc}
use Rattle.xv_isa.specs.Operands.{decode_of}
use Rattle.xv_csr.specs.Cause.{illegal_instruction}
use Rattle.xv_csr.specs.Pending.{chosen_interrupt}
use Rattle.xv_pte.specs.declared.access.Kind3.TheVariants as kinds
use Rattle.xv_pte.specs.Sv39.{Verdict, Address, PageFault, NoEntry, verdict}
use Rattle.xv_step.specs.Bus.{Bus, reader}
use Rattle.xv_step.specs.State.{State, view, trapped}
use Rattle.xv_step.specs.Outcome.{Target, Outcome, Went, Raised}
use Rattle.xv_step.specs.Memory.{translated}
use Rattle.xv_step.specs.Perform.{Inputs, performed}

module _ {M P : Type 0} (bus : Bus M P) (s : State M P) where
  -- the word that is fetched at a place
  abbrev pub word_at : P → ℕ
  word_at place = bus.get s.memory fetch_width place

  abbrev pub word_by : Verdict → Option ℕ
  word_by (Address gpa) = option_map (λ spot. word_at spot.place) (bus.find fetch_width gpa)
  word_by PageFault = None
  word_by (NoEntry gpa) = None

  -- the word at the pc, as a step fetches it; none where the pc has no address or no place
  abbrev pub fetched_word : Option ℕ
  fetched_word = word_by (verdict (reader bus s.memory) (view s) s.pc kinds.Fetch)

module _ {M P : Type 0} (bus : Bus M P) (inputs : Inputs) (s : State M P) where
  -- a word that is no row is illegal
  abbrev pub executed : ℕ → Option Insn → Outcome M P
  executed word None = Raised illegal_instruction word
  executed word (Some i) =
      let next = next_pc s.pc word in
      performed bus inputs word next s (effect_of i s.x s.pc next)

  abbrev pub at_word : P → Outcome M P
  at_word place =
      let word = word_at bus s place in
      executed word (decode_of word)

  -- the pc is an instruction's address
  abbrev pub fetched : Outcome M P
  fetched = translated bus s kinds.Fetch fetch_width s.pc (Target kinds.Fetch s.pc) at_word

  -- an interrupt is the whole step
  abbrev pub interrupted : Option ℕ → Outcome M P
  interrupted None = fetched
  interrupted (Some cause) = Went (trapped cause 0 s)

  unfoldable pub step : Outcome M P
  step = interrupted (chosen_interrupt s.csrs s.user inputs.lines)
