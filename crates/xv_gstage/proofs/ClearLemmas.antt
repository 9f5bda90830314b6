-- Frames made zeros, one after another.
use Rattle.std.proofs.Common.{◌≡◌, ◌≢◌, ℕ, ◌+◌, ◌*◌, ◌/◌, ◌<◌, ◌≤◌, List, [], length}
use Rattle.std.proofs.Common.{get_or, take, refl, sym, ap, ◌∙◌, subst, arith, inl, inr}
use Rattle.std.specs.List.{Contains}
use Rattle.std.proofs.lemmas.Bool.{cases_lt, cases_eq}
use Rattle.std.proofs.lemmas.Grind.{get_or_default_zero}
use Rattle.xv_mem.specs.Bytes.{cleared}
use Rattle.xv_mem.proofs.Puts.{get_or-cleared_other_frame, length-cleared, range-cleared_inside}
use Rattle.xv_mem.proofs.Puts.{range-cleared_outside}
use Rattle.xv_gstage.specs.Memory.{AreInside, AreZero, IsZero, IsZeroRoot, SameOutside}
use Rattle.xv_gstage.proofs.EagerLemmas.{outside-refl}
use Rattle.xv_gstage.proofs.Lists.{IsAt, from-place, in-take, to-take}

module _ (bytes : List ℕ) (frame : ℕ) (inside : 4096 * frame + 4096 ≤ length bytes) where
  abbrev pub next : List ℕ
  next = cleared bytes (4096 * frame) 4096

  pub clear-length : length (cleared bytes (4096 * frame) 4096) ≡ length bytes
  clear-length = length-cleared bytes (4096 * frame) 4096 inside

  pub clear-here : IsZero (cleared bytes (4096 * frame) 4096) frame
  clear-here =
      range-cleared_inside bytes (4096 * frame) 4096 (4096 * frame) 4096 inside (omega arith)
      (omega arith)

  pub clear-kept : (other : ℕ) → 4096 * other + 4096 ≤ length bytes → IsZero bytes other
      → IsZero (cleared bytes (4096 * frame) 4096) other
  clear-kept other within is = elim (cases_lt other frame) [
    | inl lt ↦
        range-cleared_outside bytes (4096 * frame) 4096 (4096 * other) 4096 inside within
        (inl (omega arith)) ∙ is
    | inr le ↦ elim (cases_lt frame other) [
      | inl lt ↦
          range-cleared_outside bytes (4096 * frame) 4096 (4096 * other) 4096 inside within
          (inr (omega arith)) ∙ is
      | inr ge ↦
          let same : frame ≡ other = omega arith in
          subst (λ (f : ℕ). IsZero (cleared bytes (4096 * frame) 4096) f) same clear-here
    ]
  ]

  pub clear-byte : (i : ℕ) → i / 4096 ≢ frame
      → get_or (cleared bytes (4096 * frame) 4096) i 0 ≡ get_or bytes i 0
  clear-byte i apart = get_or-cleared_other_frame bytes frame i 0 inside apart

-- ---- the frames of a root

pub record RootTo (old new : List ℕ) (root frame : ℕ) : Type 0 where
  pub outside : SameOutside old new root []
  pub zeros : (f : ℕ) → 4 * root ≤ f → f < frame → IsZero new f

pub root-none : (old : List ℕ) (root : ℕ) → RootTo old old root (4 * root)
root-none old root =
    record { outside = outside-refl old root []; zeros = λ f low high. absurd (omega arith) }

pub root-next : (old new : List ℕ) (root frame : ℕ) → 16384 * root + 16384 ≤ length old
    → 4 * root ≤ frame → frame < 4 * root + 4 → RootTo old new root frame
    → RootTo old (cleared new (4096 * frame) 4096) root (frame + 1)
root-next old new root frame inside low high r =
    let whole = r.outside.whole in
    let within : 4096 * frame + 4096 ≤ length new = omega arith in
    record {
      outside = record {
        whole = clear-length new frame within ∙ r.outside.whole;
        bytes = λ i off apart.
            clear-byte new frame within i (λ e.
            let back : i / 16384 ≡ root = omega arith in off back)
            ∙ r.outside.bytes i off apart;
      };
      zeros = λ f from to. elim (cases_eq f frame) [
        | inl e ↦
            subst (λ (f : ℕ). IsZero (cleared new (4096 * frame) 4096) f) (sym e)
            (clear-here new frame within)
        | inr ne ↦ clear-kept new frame within f (omega arith) (r.zeros f from (omega arith))
      ];
    }

pub root-all : (old new : List ℕ) (root frame : ℕ) → 4 * root + 4 ≤ frame
    → RootTo old new root frame → IsZeroRoot new root
root-all old new root frame end r f is = r.zeros f (omega arith) (omega arith)

-- ---- the frames of a list

pub record ListTo (old : List ℕ) (root : ℕ) (frames new : List ℕ) (n : ℕ) : Type 0 where
  pub outside : SameOutside old new root frames
  pub root_zeros : IsZeroRoot new root
  pub zeros : (f : ℕ) → Contains (take n frames) f → IsZero new f

module _ (old : List ℕ) (root : ℕ) (frames : List ℕ) (inside : AreInside (length old) root frames)
  where
    abbrev To : List ℕ → ℕ → Type 0
    To new n = ListTo old root frames new n

    pub list-none : IsZeroRoot old root → To old 0
    list-none zeros = record {
      outside = outside-refl old root frames;
      root_zeros = zeros;
      zeros = λ f has. let at = in-take 0 frames f has in let low = at.1 in absurd (omega arith);
    }

    pub list-inside : (new : List ℕ) (n : ℕ) → To new n → n < length frames
        → 4096 * get_or frames n 0 + 4096 ≤ length new
    list-inside new n l lt =
        let has = from-place frames (get_or frames n 0) n (record { within = lt; is = refl }) in
        let low = inside.inside (get_or frames n 0) has in
        let whole = l.outside.whole in
        omega arith

    pub list-next : (new : List ℕ) (n : ℕ) → (lt : n < length frames) → To new n
        → To (cleared new (4096 * get_or frames n 0) 4096) (n + 1)
    list-next new n lt l =
        let frame = get_or frames n 0 in
        let within = list-inside new n l lt in
        let has = from-place frames (get_or frames n 0) n (record { within = lt; is = refl }) in
        let whole = l.outside.whole in
        let root_in = inside.root_inside in
        record {
          outside = record {
            whole = clear-length new (get_or frames n 0) within ∙ l.outside.whole;
            bytes = λ i off apart.
                clear-byte new (get_or frames n 0) within i
                (λ e. apart (subst (Contains frames) (sym e) has))
                ∙ l.outside.bytes i off apart;
          };
          root_zeros = λ f is.
              clear-kept new (get_or frames n 0) within f (omega arith) (l.root_zeros f is);
          zeros = λ f in_it.
              let at = in-take (n + 1) frames f in_it in
              let low = at.1 in
              elim (cases_eq at.0 n) [
                | inl e ↦
                    let same : get_or frames n 0 ≡ f =
                    ap (λ (k : ℕ). get_or frames k 0) (sym e) ∙ at.2.is in
                    subst (λ (g : ℕ). IsZero (cleared new (4096 * get_or frames n 0) 4096) g) same
                    (clear-here new (get_or frames n 0) within)
                | inr ne ↦
                    let lies = inside.inside f (from-place frames f at.0 at.2) in
                    clear-kept new (get_or frames n 0) within f (omega arith)
                    (l.zeros f (to-take n frames f at.0 (omega arith) at.2))
              ];
        }

    pub list-all : (new : List ℕ) (n : ℕ) → length frames ≤ n → To new n → AreZero new frames
    list-all new n end l f (k, lt, e) =
        l.zeros f (to-take n frames f k (omega arith) (at f k lt e))
      where
        at : (f k : ℕ) → k < length frames → get_or frames k f ≡ f → IsAt frames f k
        at f k lt e = record { within = lt; is = sym (get_or_default_zero frames k f lt) ∙ e }
