-- When a map may stand for the files that were handed in.
use Rattle.std.proofs.Common.{◌≡◌, ℕ, ◌+◌, ◌<◌, Bool, true, false, ◌||◌, List, [], ◌∷◌, ◌++◌}
use Rattle.std.proofs.Common.{length, get_or, take, Option, Some, refl, sym, ap, subst, ◌∙◌}
use Rattle.std.proofs.Common.{inl, inr}
use Rattle.std.proofs.lemmas.List.{take_more}
use Rattle.xv_outside.specs.Fetch.{FileMap}
use Rattle.xv_script.specs.declared.command.Command.{Command}
use Rattle.xv_script.specs.declared.command.Line.{Line}
use Rattle.xv_top.specs.Commands.{answer, is_fetching}
use Rattle.xv_top.specs.Files.{StandsFor}
use Rattle.xv_top.specs.Transcript.{fetches, world_after}
use Rattle.xv_top.specs.World.{World}

-- it is the map that they tell, once there is a fetch
pub told_at_fetch : {given : Option FileMap} {files : FileMap} {fetching : Bool}
    → StandsFor given files fetching → fetching ≡ true → given ≡ Some files
told_at_fetch (inl told) is = told
told_at_fetch (inr none) is = cc

-- it may as well where less is fetched
stands_less : {given : Option FileMap} {files : FileMap} {more less : Bool}
    → (more ≡ false → less ≡ false) → StandsFor given files more → StandsFor given files less
stands_less weaker (inl told) = inl told
stands_less weaker (inr none) = inr (weaker none)

-- and for files that tell the same
pub stands_also : {given other : Option FileMap} {files : FileMap} {fetching : Bool}
    → other ≡ given → StandsFor given files fetching → StandsFor other files fetching
stands_also same (inl told) = inl (same ∙ told)
stands_also same (inr none) = inr none

pub stands_command : {given : Option FileMap} {files : FileMap} (w : World) {one other : Command}
    → one ≡ other → StandsFor given files (is_fetching w one)
    → StandsFor given files (is_fetching w other)
stands_command {given} {files} w same =
    subst (λ c. StandsFor given files (is_fetching w c)) same

neither : (a b : Bool) → (a || b) ≡ false → (a ≡ false) × (b ≡ false)
neither true b none = cc
neither false b none = (refl, none)

either_of : (a b : Bool) → a ≡ false → b ≡ false → (a || b) ≡ false
either_of true b none also = cc
either_of false b none also = also

module _ (files : FileMap) (l : Line) where
  none_of : (w : World) (ls : List Line) → fetches files w (ls ++ l ∷ []) ≡ false
      → (fetches files w ls ≡ false) × (is_fetching (world_after files w ls) l.command ≡ false)
  unfolding fetches world_after
  none_of w [] none = (refl, (neither (is_fetching w l.command) false none).0)
  none_of w (x ∷ ls) none =
      let both = neither (is_fetching w x.command)
      (fetches files (answer files w x.command).world (ls ++ l ∷ [])) none in
      let rest = none_of (answer files w x.command).world ls both.1 in (
        either_of (is_fetching w x.command) (fetches files (answer files w x.command).world ls)
            both.0 rest.0,
        rest.1,
      )

-- of the first lines of all and one more
module _ {given : Option FileMap} (files : FileMap) (ls : List Line) (made : ℕ)
    (more : made < length ls) (l : Line) (here : l ≡ get_or ls made l) (first : World) where
  pub stands_behind : StandsFor given files (fetches files first (take (made + 1) ls))
      → StandsFor given files (fetches files first (take made ls ++ l ∷ []))
  stands_behind = subst (λ done. StandsFor given files (fetches files first done))
      (take_more ls made l more ∙ ap (λ x. take made ls ++ x ∷ []) (sym here))

  pub stands_before : StandsFor given files (fetches files first (take made ls ++ l ∷ []))
      → StandsFor given files (fetches files first (take made ls))
  stands_before = stands_less (λ none. (none_of files l first (take made ls) none).0)

  pub stands_at : (now : World) → now ≡ world_after files first (take made ls)
      → StandsFor given files (fetches files first (take made ls ++ l ∷ []))
      → StandsFor given files (is_fetching now l.command)
  stands_at now world = stands_less (λ none. ap (λ w. is_fetching w l.command) world
      ∙ (none_of files l first (take made ls) none).1)
