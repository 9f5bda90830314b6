-- What a host's call does to one of its guests: an entry into the journal of its lone machine.
use Rattle.std.specs.Prelude.{◌≡◌, ℕ, Bool, List, [], slice_set, Some}
use Rattle.xv_lone.specs.Journal.{Change, after_change}
use Rattle.xv_lone.specs.Machine.{Machine, guest_time}
use Rattle.xv_lone.specs.Ready.{is_ready}
use Rattle.xv_guest.specs.Guest.{Guest, lone_of, with_machine}
use Rattle.xv_host.specs.Holdings.{OthersStay}
use Rattle.xv_host.specs.Host.{Host}
use Rattle.xv_host.specs.Places.{Places, guest_at}

-- what is said of the guest of a key, where one lives
abbrev pub OfGuest : Places → (key : ℕ) → (Guest → Type 0) → Type 0
OfGuest places key Says = (g : Guest) → guest_at places key ≡ Some g → Says g

-- the lone machine of a guest over these host bytes, after a change
abbrev pub changed : Change → Guest → List ℕ → Machine
changed change g bytes = after_change g.plan change (lone_of g bytes)

-- the lone machine of the guest of a key has become this one, over the host bytes after the call
pub record HasBecome (m : Machine) (key : ℕ) (g : Guest) (old new : Host) (after : List ℕ)
    : Type 0 where
  pub host : new ≡ record old { guests = slice_set old.guests key (Some (with_machine g m)) }
  pub machine : lone_of (with_machine g m) after ≡ m

-- a change came to the guest of a key, and nothing to any other guest
pub record IsChange (change : Change) (key : ℕ) (old new : Host) (before after : List ℕ)
    : Type 0 where
  pub guest : OfGuest old.guests key
      (λ g. HasBecome (changed change g before) key g old new after)
  pub others : OthersStay key before after old.guests new.guests

-- guest time at a clock, for which no byte matters
abbrev pub time_of : Guest → (clock : ℕ) → ℕ
time_of g clock = guest_time clock (lone_of g [])

-- whether a VCPU of the guest may have a turn at a clock, for which no byte matters either
abbrev pub may_turn : Guest → (vcpu clock : ℕ) → Bool
may_turn g vcpu clock = is_ready vcpu (time_of g clock) (lone_of g [])
