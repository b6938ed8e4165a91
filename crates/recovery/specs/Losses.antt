-- The missing data columns, as far as they matter.
use Rattle.std.specs.Prelude.{ℕ, List, [], ◌∷◌}
use Rattle.recovery.specs.declared.loss.Lost.{Lost}
use Rattle.recovery.specs.declared.loss.Lost.TheVariants.{Nothing, One, Two}

-- the columns that are noted, the highest first
abbrev pub listed : Lost → List ℕ
listed Nothing = []
listed (One i) = i ∷ []
listed (Two i j) = i ∷ (j ∷ [])

-- what is noted of a list: its first two
abbrev pub noted : List ℕ → Lost
noted [] = Nothing
noted (i ∷ []) = One i
noted (i ∷ (j ∷ l)) = Two i j
