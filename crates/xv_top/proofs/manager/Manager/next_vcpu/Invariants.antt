use Rattle.std.proofs.Common.{◌≡◌, ◌-◌, ◌<◌, ℕ, List, true, None, IfSome, option_map}
use Rattle.xv_host.specs.Change.{OfGuest, may_turn}
use Rattle.xv_top.specs.Manager.{live_guest, world_of}
use Rattle.xv_top.specs.World.{candidate, candidates_of, first_of, is_ready}
use Rattle.xv_top.proofs.TurnLemmas.{from}
use Rattle.xv_top.proofs.manager.Manager.next_vcpu.Given as goal

-- the best of the VCPUs before this one, and those from this one on
abbrev pub invariant-loop-number : goal.invariant-loop-number
invariant-loop-number l =
    let guests = l.self.host.guests in
    record {
      first : OfGuest guests l.key (λ g. (name bytes : List ℕ) →
          let live = live_guest name l.self.last g bytes in
          let w = world_of l.self bytes in
          first_of (option_map (candidate live) l.best)
          (from (is_ready w live) (candidate live) l.number (l.count - l.number))
          ≡ first_of None (candidates_of w live));
      ready : IfSome l.best (λ vcpu. OfGuest guests l.key
          (λ g. may_turn g vcpu l.self.clock ≡ true));
      within : IfSome l.best (λ vcpu. vcpu < l.count);
    }
