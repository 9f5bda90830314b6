-- When a hart is all zeros, by the tests of its fields.
use Rattle.std.proofs.lemmas.List.{nil_from_length}
use Rattle.std.proofs.Common.{◌≡◌, ◌≤◌, ℕ, [], length, arith, Bool, false, eqb, ◌&&◌, List, Option}
use Rattle.std.proofs.Common.{Some, None, refl, ap, ◌∙◌, Decides}
use Rattle.std.specs.Bool.{beq}
use Rattle.std.specs.Option.{option_eq}
use Rattle.std.specs.Cmp.{booleans_Decides}
use Rattle.std.proofs.lemmas.Bool.Decides.{Decides-and, Decides-eqb, Decides-like}
use Rattle.std.proofs.lemmas.Slice.Eq.{bytes_eq-Decides}
use Rattle.std.specs.Str.{bytes_eq}
use Rattle.xv_csr.specs.declared.SCsrs.{SCsrs}
use Rattle.xv_hcsr.specs.declared.HCsrs.{HCsrs}
use Rattle.xv_hart.specs.declared.regs.Held.{Held}
use Rattle.xv_hart.specs.declared.regs.Regs.{Regs}
use Rattle.xv_hart.specs.declared.hart.Hart.{Hart}
use Rattle.xv_hart.specs.Trail.{TrailState, no_trail}
use Rattle.xv_hart.specs.Hart.{zero_regs, zero_hart}

abbrev csrs : ℕ → ℕ → Bool → ℕ → ℕ → ℕ → ℕ → ℕ → ℕ → ℕ → ℕ → SCsrs
csrs a b s d e f g h i j k =
    record {
      sstatus = a;
      sie = b;
      ssip = s;
      stvec = d;
      scounteren = e;
      senvcfg = f;
      sscratch = g;
      sepc = h;
      scause = i;
      stval = j;
      satp = k;
    }

csrs_from : (a b : ℕ) (s : Bool) (d e f g h i j k : ℕ) → a ≡ 0 → b ≡ 0 → s ≡ false → d ≡ 0 → e ≡ 0
    → f ≡ 0 → g ≡ 0 → h ≡ 0 → i ≡ 0 → j ≡ 0 → k ≡ 0 → csrs a b s d e f g h i j k ≡ zero_regs.csrs
csrs_from a b s d e f g h i j k ea eb es ed ee ef eg eh ei ej ek = cc

abbrev hcsrs : ℕ → ℕ → ℕ → ℕ → ℕ → ℕ → ℕ → ℕ → ℕ → HCsrs
hcsrs a b c d e f g h i =
    record {
      hstatus = a;
      hedeleg = b;
      hideleg = c;
      hvip = d;
      hgatp = e;
      htimedelta = f;
      hcounteren = g;
      htval = h;
      htinst = i;
    }

hcsrs_from : (a b c d e f g h i : ℕ) → a ≡ 0 → b ≡ 0 → c ≡ 0 → d ≡ 0 → e ≡ 0 → f ≡ 0 → g ≡ 0
    → h ≡ 0 → i ≡ 0 → hcsrs a b c d e f g h i ≡ zero_regs.h
hcsrs_from a b c d e f g h i ea eb ec ed ee ef eg eh ei = cc

abbrev regs : List ℕ → ℕ → Bool → SCsrs → HCsrs → ℕ → Option Held → Regs
regs x pc user c h time held =
    record {
      x = x;
      pc = pc;
      user = user;
      csrs = c;
      h = h;
      time = time;
      held = held;
    }

regs_from : (x y : List ℕ) (pc pd : ℕ) (user used : Bool) (c d : SCsrs) (h k : HCsrs)
    (time tide : ℕ) (held other : Option Held)
    → x ≡ y → pc ≡ pd → user ≡ used → c ≡ d → h ≡ k → time ≡ tide → held ≡ other
    → regs x pc user c h time held ≡ regs y pd used d k tide other
regs_from x y pc pd user used c d h k time tide held other ex ep eu ec el et eh = cc

abbrev same_held : Held → Held → Bool
same_held a b = eqb a.host b.host && eqb a.width b.width

held_none : (held : Option Held) → Decides (option_eq same_held held None) (held ≡ None)
held_none None = (λ e. refl, λ e. refl)
held_none (Some held) = (λ e. cc, λ e. cc)

abbrev same_csrs : SCsrs → SCsrs → Bool
same_csrs c d =
    eqb c.sstatus d.sstatus
    && (eqb c.sie d.sie
    && (beq c.ssip d.ssip
    && (eqb c.stvec d.stvec
    && (eqb c.scounteren d.scounteren
    && (eqb c.senvcfg d.senvcfg
    && (eqb c.sscratch d.sscratch
    && (eqb c.sepc d.sepc
    && (eqb c.scause d.scause && (eqb c.stval d.stval && eqb c.satp d.satp)))))))))

abbrev zero_csrs : SCsrs → Bool
zero_csrs c = same_csrs c zero_regs.csrs

csrs_zero : (c : SCsrs) → Decides (zero_csrs c) (c ≡ zero_regs.csrs)
csrs_zero c =
    Decides-like (zero_csrs c)
    (λ h. csrs_from c.sstatus c.sie c.ssip c.stvec c.scounteren c.senvcfg c.sscratch c.sepc c.scause
    c.stval c.satp
    h.0 h.1.0 h.1.1.0 h.1.1.1.0 h.1.1.1.1.0 h.1.1.1.1.1.0 h.1.1.1.1.1.1.0 h.1.1.1.1.1.1.1.0
    h.1.1.1.1.1.1.1.1.0 h.1.1.1.1.1.1.1.1.1.0 h.1.1.1.1.1.1.1.1.1.1)
    (λ e. (
      ap (λ c. c.sstatus) e,
      (
        ap (λ c. c.sie) e,
        (
          ap (λ c. c.ssip) e,
          (
            ap (λ c. c.stvec) e,
            (
              ap (λ c. c.scounteren) e,
              (
                ap (λ c. c.senvcfg) e,
                (
                  ap (λ c. c.sscratch) e,
                  (
                    ap (λ c. c.sepc) e,
                    (ap (λ c. c.scause) e, (ap (λ c. c.stval) e, ap (λ c. c.satp) e)),
                  ),
                ),
              ),
            ),
          ),
        ),
      ),
    ))
    (Decides-and _ _ (Decides-eqb c.sstatus 0)
    (Decides-and _ _ (Decides-eqb c.sie 0)
    (Decides-and _ _ (booleans_Decides c.ssip false)
    (Decides-and _ _ (Decides-eqb c.stvec 0)
    (Decides-and _ _ (Decides-eqb c.scounteren 0)
    (Decides-and _ _ (Decides-eqb c.senvcfg 0)
    (Decides-and _ _ (Decides-eqb c.sscratch 0)
    (Decides-and _ _ (Decides-eqb c.sepc 0)
    (Decides-and _ _ (Decides-eqb c.scause 0)
    (Decides-and _ _ (Decides-eqb c.stval 0) (Decides-eqb c.satp 0)))))))))))

abbrev same_hcsrs : HCsrs → HCsrs → Bool
same_hcsrs h k =
    eqb h.hstatus k.hstatus
    && (eqb h.hedeleg k.hedeleg
    && (eqb h.hideleg k.hideleg
    && (eqb h.hvip k.hvip
    && (eqb h.hgatp k.hgatp
    && (eqb h.htimedelta k.htimedelta
    && (eqb h.hcounteren k.hcounteren
    && (eqb h.htval k.htval && eqb h.htinst k.htinst)))))))

abbrev zero_hcsrs : HCsrs → Bool
zero_hcsrs h = same_hcsrs h zero_regs.h

hcsrs_zero : (h : HCsrs) → Decides (zero_hcsrs h) (h ≡ zero_regs.h)
hcsrs_zero k =
    Decides-like (zero_hcsrs k)
    (λ h. hcsrs_from k.hstatus k.hedeleg k.hideleg k.hvip k.hgatp k.htimedelta k.hcounteren k.htval
    k.htinst
    h.0 h.1.0 h.1.1.0 h.1.1.1.0 h.1.1.1.1.0 h.1.1.1.1.1.0 h.1.1.1.1.1.1.0 h.1.1.1.1.1.1.1.0
    h.1.1.1.1.1.1.1.1)
    (λ e. (
      ap (λ h. h.hstatus) e,
      (
        ap (λ h. h.hedeleg) e,
        (
          ap (λ h. h.hideleg) e,
          (
            ap (λ h. h.hvip) e,
            (
              ap (λ h. h.hgatp) e,
              (
                ap (λ h. h.htimedelta) e,
                (ap (λ h. h.hcounteren) e, (ap (λ h. h.htval) e, ap (λ h. h.htinst) e)),
              ),
            ),
          ),
        ),
      ),
    ))
    (Decides-and _ _ (Decides-eqb k.hstatus 0)
    (Decides-and _ _ (Decides-eqb k.hedeleg 0)
    (Decides-and _ _ (Decides-eqb k.hideleg 0)
    (Decides-and _ _ (Decides-eqb k.hvip 0)
    (Decides-and _ _ (Decides-eqb k.hgatp 0)
    (Decides-and _ _ (Decides-eqb k.htimedelta 0)
    (Decides-and _ _ (Decides-eqb k.hcounteren 0)
    (Decides-and _ _ (Decides-eqb k.htval 0) (Decides-eqb k.htinst 0)))))))))

-- the test that compares registers field by field
abbrev pub same : Regs → Regs → Bool
same r s =
    bytes_eq r.x s.x && (eqb r.pc s.pc && (beq r.user s.user && (same_csrs r.csrs s.csrs
    && (same_hcsrs r.h s.h && (eqb r.time s.time && option_eq same_held r.held s.held)))))

abbrev pub zero_test : Regs → Bool
zero_test r = same r zero_regs

pub regs_zero : (r : Regs) → Decides (zero_test r) (r ≡ zero_regs)
regs_zero r =
    Decides-like (zero_test r)
    (λ h. regs_from r.x zero_regs.x r.pc 0 r.user false r.csrs zero_regs.csrs r.h zero_regs.h
    r.time 0 r.held None h.0 h.1.0 h.1.1.0 h.1.1.1.0 h.1.1.1.1.0 h.1.1.1.1.1.0 h.1.1.1.1.1.1)
    (λ e. (
      ap (λ r. r.x) e,
      (
        ap (λ r. r.pc) e,
        (
          ap (λ r. r.user) e,
          (
            ap (λ r. r.csrs) e,
            (ap (λ r. r.h) e, (ap (λ r. r.time) e, ap (λ r. r.held) e)),
          ),
        ),
      ),
    ))
    (Decides-and _ _ (bytes_eq-Decides r.x zero_regs.x)
    (Decides-and _ _ (Decides-eqb r.pc 0)
    (Decides-and _ _ (booleans_Decides r.user false)
    (Decides-and _ _ (csrs_zero r.csrs)
    (Decides-and _ _ (hcsrs_zero r.h)
    (Decides-and _ _ (Decides-eqb r.time 0) (held_none r.held)))))))

-- a trail without room has no entry
abbrev hart_at : Regs → ℕ → TrailState → Hart
hart_at r n t = record { regs = r; steps_taken = n; trail = t }

hart_from : (r s : Regs) (n m : ℕ) (t u : TrailState) → r ≡ s → n ≡ m → t ≡ u
    → hart_at r n t ≡ hart_at s m u
hart_from r s n m t u a b d = cc

no_room : (t : TrailState) → length t.entries ≤ t.room → t.room ≡ 0 → t ≡ no_trail
no_room t few none =
    ap (λ es. record { entries = es; room = t.room })
    (nil_from_length t.entries (omega (arith, few, none)))
    ∙ ap (λ n. record { entries = []; room = n }) none

pub hart_zero : (h : Hart) → h.regs ≡ zero_regs → h.steps_taken ≡ 0
    → length h.trail.entries ≤ h.trail.room → h.trail.room ≡ 0 → h ≡ zero_hart
hart_zero h regs taken few room =
    hart_from h.regs zero_regs h.steps_taken 0 h.trail no_trail regs taken
    (no_room h.trail few room)
