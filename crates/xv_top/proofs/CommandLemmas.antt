-- What the answer to each command is.
use Rattle.std.proofs.Common.{◌≡◌, ℕ, List, refl, ap}
use Rattle.xv_outside.specs.Fetch.{FileMap}
use Rattle.xv_script.specs.declared.command.Command.{Command}
use Rattle.xv_script.specs.declared.command.Command.TheVariants as command
use Rattle.xv_script.specs.declared.command.Command.TheVariants.{Create, Flat, Load, Poke, Kick}
use Rattle.xv_script.specs.declared.command.Command.TheVariants.{Regs, Mem, Digest, Audit, Run}
use Rattle.xv_script.specs.declared.command.Command.TheVariants.{Ports, Clock, Tick}
use Rattle.xv_top.specs.Births.{create_answer, flat_answer}
use Rattle.xv_top.specs.Commands.{answer, kick_guest, regs_guest, list_answer, ports_answer}
use Rattle.xv_top.specs.Commands.{clock_answer, dump_guest, input_guest, tick_answer, run_answer}
use Rattle.xv_top.specs.Commands.{unbuilt}
use Rattle.xv_top.specs.Contents.{load_guest, poke_guest, mem_guest, digest_guest, audit_guest}
use Rattle.xv_top.specs.World.{World, guest_named}

module _ (files : FileMap) (w : World) (c : Command) where
  pub create_is : (name file : List ℕ) → c ≡ Create name file
      → answer files w c ≡ create_answer files w name file
  unfolding answer
  create_is name file is = ap (answer files w) is

  pub flat_is : (name : List ℕ) (pages : ℕ) → c ≡ Flat name pages
      → answer files w c ≡ flat_answer w name pages
  unfolding answer
  flat_is name pages is = ap (answer files w) is

  pub load_is : (name : List ℕ) (gpa : ℕ) (file : List ℕ) → c ≡ Load name gpa file
      → answer files w c ≡ load_guest files w name gpa file (guest_named name w)
  unfolding answer
  load_is name gpa file is = ap (answer files w) is

  pub poke_is : (name : List ℕ) (gpa : ℕ) (bytes : List ℕ) → c ≡ Poke name gpa bytes
      → answer files w c ≡ poke_guest w name gpa bytes (guest_named name w)
  unfolding answer
  poke_is name gpa bytes is = ap (answer files w) is

  pub kick_is : (name : List ℕ) → c ≡ Kick name
      → answer files w c ≡ kick_guest w name (guest_named name w)
  unfolding answer
  kick_is name is = ap (answer files w) is

  pub regs_is : (name : List ℕ) (vcpu : ℕ) → c ≡ Regs name vcpu
      → answer files w c ≡ regs_guest w name vcpu (guest_named name w)
  unfolding answer
  regs_is name vcpu is = ap (answer files w) is

  pub mem_is : (name : List ℕ) (gpa len : ℕ) → c ≡ Mem name gpa len
      → answer files w c ≡ mem_guest w name gpa len (guest_named name w)
  unfolding answer
  mem_is name gpa len is = ap (answer files w) is

  pub digest_is : (name : List ℕ) → c ≡ Digest name
      → answer files w c ≡ digest_guest w name (guest_named name w)
  unfolding answer
  digest_is name is = ap (answer files w) is

  pub audit_is : (name : List ℕ) → c ≡ Audit name
      → answer files w c ≡ audit_guest w name (guest_named name w)
  unfolding answer
  audit_is name is = ap (answer files w) is

  pub list_is : c ≡ command.List → answer files w c ≡ list_answer w
  unfolding answer
  list_is is = ap (answer files w) is

  pub input_is : (name dev bytes : List ℕ) → c ≡ command.Input name dev bytes
      → answer files w c ≡ input_guest w name dev bytes (guest_named name w)
  unfolding answer
  input_is name dev bytes is = ap (answer files w) is

  pub dump_is : (name dev : List ℕ) → c ≡ command.Dump name dev
      → answer files w c ≡ dump_guest w name dev (guest_named name w)
  unfolding answer
  dump_is name dev is = ap (answer files w) is

  pub ports_is : c ≡ Ports → answer files w c ≡ ports_answer w
  unfolding answer
  ports_is is = ap (answer files w) is

  pub clock_is : (value : ℕ) → c ≡ Clock value → answer files w c ≡ clock_answer w value
  unfolding answer
  clock_is value is = ap (answer files w) is

  pub tick_is : (value : ℕ) → c ≡ Tick value → answer files w c ≡ tick_answer w value
  unfolding answer
  tick_is value is = ap (answer files w) is

  pub run_is : (turns : ℕ) → c ≡ Run turns → answer files w c ≡ run_answer w turns
  unfolding answer
  run_is turns is = ap (answer files w) is

-- all other lines
pub unbuilt_is : (files : FileMap) (w : World) (c : Command)
    → ((name : List ℕ) (file : List ℕ) → c ≡ command.Create name file → ⊥)
    → ((name : List ℕ) (pages : ℕ) → c ≡ command.Flat name pages → ⊥)
    → ((name : List ℕ) (gpa : ℕ) (file : List ℕ) → c ≡ command.Load name gpa file → ⊥)
    → ((name : List ℕ) (gpa : ℕ) (bytes : List ℕ) → c ≡ command.Poke name gpa bytes → ⊥)
    → ((name : List ℕ) → c ≡ command.Kick name → ⊥)
    → ((name : List ℕ) (vcpu : ℕ) → c ≡ command.Regs name vcpu → ⊥)
    → ((name : List ℕ) (gpa : ℕ) (len : ℕ) → c ≡ command.Mem name gpa len → ⊥)
    → ((name : List ℕ) → c ≡ command.Digest name → ⊥)
    → ((name : List ℕ) → c ≡ command.Audit name → ⊥)
    → (c ≡ command.List → ⊥)
    → ((name : List ℕ) (dev : List ℕ) (bytes : List ℕ) → c ≡ command.Input name dev bytes → ⊥)
    → ((name : List ℕ) (dev : List ℕ) → c ≡ command.Dump name dev → ⊥)
    → (c ≡ command.Ports → ⊥)
    → ((value : ℕ) → c ≡ command.Clock value → ⊥)
    → ((value : ℕ) → c ≡ command.Tick value → ⊥)
    → ((turns : ℕ) → c ≡ command.Run turns → ⊥)
    → answer files w c ≡ unbuilt w
unfolding answer
unbuilt_is files w (command.Create name file) not_create not_flat not_load not_poke not_kick
    not_regs not_mem not_digest not_audit not_list not_input not_dump not_ports not_clock not_tick
    not_run =
    absurd (not_create name file refl)
unbuilt_is files w (command.Flat name pages) not_create not_flat not_load not_poke not_kick not_regs
    not_mem not_digest not_audit not_list not_input not_dump not_ports not_clock not_tick not_run =
    absurd (not_flat name pages refl)
unbuilt_is files w (command.Load name gpa file) not_create not_flat not_load not_poke not_kick
    not_regs not_mem not_digest not_audit not_list not_input not_dump not_ports not_clock not_tick
    not_run =
    absurd (not_load name gpa file refl)
unbuilt_is files w (command.Poke name gpa bytes) not_create not_flat not_load not_poke not_kick
    not_regs not_mem not_digest not_audit not_list not_input not_dump not_ports not_clock not_tick
    not_run =
    absurd (not_poke name gpa bytes refl)
unbuilt_is files w (command.Kick name) not_create not_flat not_load not_poke not_kick not_regs
    not_mem not_digest not_audit not_list not_input not_dump not_ports not_clock not_tick not_run =
    absurd (not_kick name refl)
unbuilt_is files w (command.Pause name) not_create not_flat not_load not_poke not_kick not_regs
    not_mem not_digest not_audit not_list not_input not_dump not_ports not_clock not_tick not_run =
    refl
unbuilt_is files w (command.Resume name) not_create not_flat not_load not_poke not_kick not_regs
    not_mem not_digest not_audit not_list not_input not_dump not_ports not_clock not_tick not_run =
    refl
unbuilt_is files w (command.Reset name) not_create not_flat not_load not_poke not_kick not_regs
    not_mem not_digest not_audit not_list not_input not_dump not_ports not_clock not_tick not_run =
    refl
unbuilt_is files w (command.Halt name) not_create not_flat not_load not_poke not_kick not_regs
    not_mem not_digest not_audit not_list not_input not_dump not_ports not_clock not_tick not_run =
    refl
unbuilt_is files w (command.Destroy name) not_create not_flat not_load not_poke not_kick not_regs
    not_mem not_digest not_audit not_list not_input not_dump not_ports not_clock not_tick not_run =
    refl
unbuilt_is files w (command.Regs name vcpu) not_create not_flat not_load not_poke not_kick not_regs
    not_mem not_digest not_audit not_list not_input not_dump not_ports not_clock not_tick not_run =
    absurd (not_regs name vcpu refl)
unbuilt_is files w (command.Mem name gpa len) not_create not_flat not_load not_poke not_kick
    not_regs not_mem not_digest not_audit not_list not_input not_dump not_ports not_clock not_tick
    not_run =
    absurd (not_mem name gpa len refl)
unbuilt_is files w (command.Digest name) not_create not_flat not_load not_poke not_kick not_regs
    not_mem not_digest not_audit not_list not_input not_dump not_ports not_clock not_tick not_run =
    absurd (not_digest name refl)
unbuilt_is files w (command.Audit name) not_create not_flat not_load not_poke not_kick not_regs
    not_mem not_digest not_audit not_list not_input not_dump not_ports not_clock not_tick not_run =
    absurd (not_audit name refl)
unbuilt_is files w command.List not_create not_flat not_load not_poke not_kick not_regs not_mem
    not_digest not_audit not_list not_input not_dump not_ports not_clock not_tick not_run =
    absurd (not_list refl)
unbuilt_is files w (command.Input name port bytes) not_create not_flat not_load not_poke not_kick
    not_regs not_mem not_digest not_audit not_list not_input not_dump not_ports not_clock not_tick
    not_run =
    absurd (not_input name port bytes refl)
unbuilt_is files w (command.Dump name port) not_create not_flat not_load not_poke not_kick not_regs
    not_mem not_digest not_audit not_list not_input not_dump not_ports not_clock not_tick not_run =
    absurd (not_dump name port refl)
unbuilt_is files w command.Ports not_create not_flat not_load not_poke not_kick not_regs not_mem
    not_digest not_audit not_list not_input not_dump not_ports not_clock not_tick not_run =
    absurd (not_ports refl)
unbuilt_is files w (command.Clock value) not_create not_flat not_load not_poke not_kick not_regs
    not_mem not_digest not_audit not_list not_input not_dump not_ports not_clock not_tick not_run =
    absurd (not_clock value refl)
unbuilt_is files w (command.Tick value) not_create not_flat not_load not_poke not_kick not_regs
    not_mem not_digest not_audit not_list not_input not_dump not_ports not_clock not_tick not_run =
    absurd (not_tick value refl)
unbuilt_is files w (command.Run turns) not_create not_flat not_load not_poke not_kick not_regs
    not_mem not_digest not_audit not_list not_input not_dump not_ports not_clock not_tick not_run =
    absurd (not_run turns refl)
