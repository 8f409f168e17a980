-- Where the paths inside of a variable stand among declared paths.
use Rattle.std.specs.Prelude.{◌≡◌, ℕ, suc, ◌+◌, List, [], ◌∷◌, ◌++◌, ◌&&◌, nat_le, nat_lt, Some, length, slice_get}
use Rattle.name_sets.specs.Paths.{is_prefix}
use Rattle.canonical_paths.specs.PathNames.{PathNames}

-- a path and those inside of it stand together, and they are all that begin with it:
-- the paths inside, without it, are given
pub record IsBlock
    (paths : List PathNames) (at : ℕ) (path : PathNames) (inside : List PathNames) : Type 0 where
  pub each :
      (k : ℕ) (e : PathNames)
      → slice_get ([] ∷ inside) k ≡ Some e → slice_get paths (at + k) ≡ Some (path ++ e)
  pub only :
      (n : ℕ) (q : PathNames)
      → slice_get paths n ≡ Some q
      → (nat_le at n && nat_lt n (at + suc (length inside))) ≡ is_prefix path q
