-- The trail of a turn: a piece for each lone step, since the hart may need several tries for one.
-- Each entry of a piece shows what that lone step began with.
use Rattle.std.specs.Prelude.{ℕ, ◌≡◌, ◌≤◌, List, [], ◌∷◌, ◌++◌, length}
use Rattle.std.specs.List.{All}
use Rattle.xv_lone.specs.Turn.{Core}

-- the most tries of a lone step: one for each page that it may touch, and the last
abbrev pub most_tries : ℕ
most_tries = 13

-- the entries of one lone step, which began with this
pub record IsPiece {E : Type 0} (shown : E → Core) (core : Core) (piece : List E) : Type 0 where
  pub some : 1 ≤ length piece
  pub few : length piece ≤ most_tries
  pub each : All (λ entry. shown entry ≡ core) piece

-- the entries of lone steps that began with these, one piece after another
pub data IsTrail {E : Type 0} (shown : E → Core) : List Core → List E → Type 0 where
  NoPiece : IsTrail shown [] []
  OneMore : (cores : List Core) → (trail : List E) → (core : Core) → (piece : List E)
      → IsTrail shown cores trail → IsPiece shown core piece
      → IsTrail shown (cores ++ core ∷ []) (trail ++ piece)
