-- The lists of the world's guests and of their serial ports, where at most one guest lives.
use Rattle.std.proofs.Common.{◌≡◌, ℕ, ◌<◌, ◌+◌, Bool, true, false, cond, List, [], ◌∷◌, ◌++◌}
use Rattle.std.proofs.Common.{length, get_or, take, map, Option, Some, None, refl, sym, ap, ◌∙◌}
use Rattle.std.proofs.Common.{append-nil, count_by}
use Rattle.std.specs.List.{filter, flat_map}
use Rattle.std.proofs.lemmas.List.{length-map}
use Rattle.std.proofs.lemmas.List.Concat.{flat_map-append}
use Rattle.std.proofs.lemmas.List.Elements.{filter_more}
use Rattle.std.proofs.lemmas.List.Folds.{flat_map-map}
use Rattle.std.proofs.lemmas.List.Sums.{length-filter}
use Rattle.xv_region.specs.declared.plan.Region.{Region}
use Rattle.xv_guest.specs.Guest.{Guest}
use Rattle.xv_host.specs.Places.{guest_at}
use Rattle.xv_top.specs.declared.manager.Manager.{Manager}
use Rattle.xv_top.specs.declared.manager.Named.{Named}
use Rattle.xv_top.specs.Lists.{guest_line, guests_head, guests_text, is_port, port_line, port_text}
use Rattle.xv_top.specs.Lists.{ports_head, ports_of, ports_text}
use Rattle.xv_top.specs.Manager.{guests_of, live_at, live_guest, world_of}
use Rattle.xv_top.specs.Texts.{line_end}
use Rattle.xv_top.specs.World.{LiveGuest}

-- ---- serial ports among regions

abbrev pub port_lines : (name : List ℕ) → List Region → List ℕ
port_lines name rs = flat_map (port_line name) (filter is_port rs)

one_line : (name : List ℕ) (r : Region) (b : Bool) → is_port r ≡ b
    → flat_map (port_line name) (cond b (r ∷ []) []) ≡ cond b (port_line name r) []
one_line name r true is = append-nil (port_line name r)
one_line name r false is = refl

-- one region more
pub more_lines : (name : List ℕ) (rs : List Region) (i : ℕ) (r : Region) (b : Bool)
    → i < length rs → r ≡ get_or rs i r → is_port r ≡ b
    → port_lines name (take (i + 1) rs)
    ≡ port_lines name (take i rs) ++ cond b (port_line name r) []
more_lines name rs i r b within at is =
    ap (flat_map (port_line name)) (filter_more is_port rs i r within)
    ∙ (flat_map-append (port_line name) (filter is_port (take i rs)) _
    ∙ ap (λ t. port_lines name (take i rs) ++ t)
    (ap (λ (x : Region). flat_map (port_line name) (cond (is_port x) (x ∷ []) [])) (sym at)
    ∙ (ap (λ (c : Bool). flat_map (port_line name) (cond c (r ∷ []) [])) is
    ∙ one_line name r b is)))

-- ---- the world's lists

module _ (m : Manager) (bytes : List ℕ) where
  abbrev listed : Option Named → List LiveGuest
  listed o = guests_of o m.last m.host.guests bytes

  pub guests_none : m.guest ≡ None → guests_text (world_of m bytes).guests ≡ guests_head 0
  guests_none none =
      ap (λ (o : Option Named). guests_text (listed o)) none ∙ append-nil (guests_head 0)

  pub ports_none : m.guest ≡ None
      → ports_text (flat_map ports_of (world_of m bytes).guests) ≡ ports_head 0
  ports_none none =
      ap (λ (o : Option Named). ports_text (flat_map ports_of (listed o))) none
      ∙ append-nil (ports_head 0)

  module _ (one : Named) (g : Guest) (is : m.guest ≡ Some one)
      (at : guest_at m.host.guests one.key ≡ Some g) where
    only : (world_of m bytes).guests ≡ live_guest one.name m.last g bytes ∷ []
    only = ap listed is ∙ ap (λ (o : Option Guest). live_at one.name m.last o bytes) at

    pub guests_one : guests_text (world_of m bytes).guests
        ≡ guests_head 1 ++ guest_line one.name g.state (length g.plan.vcpus)
    guests_one =
        ap guests_text only
        ∙ ap (λ t. guests_head 1 ++ t)
        (append-nil (guest_line one.name g.state (length g.plan.vcpus)))

    pub ports_one : ports_text (flat_map ports_of (world_of m bytes).guests)
        ≡ ports_head (count_by is_port g.plan.regions) ++ port_lines one.name g.plan.regions
    ports_one =
        let rs = filter is_port g.plan.regions in
        let named : Region → List ℕ = λ r. port_text one.name r.name in
        ap (λ gs. ports_text (flat_map ports_of gs)) only
        ∙ (ap ports_text (append-nil (map named rs))
        ∙ (ap (λ n. ports_head n ++ flat_map (λ port. port ++ line_end) (map named rs))
        (length-map rs named ∙ length-filter is_port g.plan.regions)
        ∙ ap (λ t. ports_head (count_by is_port g.plan.regions) ++ t)
        (flat_map-map (λ port. port ++ line_end) named rs)))
