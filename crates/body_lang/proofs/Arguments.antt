-- The trees of a call's arguments.
use Rattle.std.proofs.Common.{◌≡◌, suc, List, [], ◌∷◌, length, refl, ap}
use Rattle.body_lang.specs.declared.body.Body.{Body}
use Rattle.body_lang.specs.BodyTree.{count_of}
use Rattle.body_lang.specs.View.{body_trees}

pub argument_count : (bs : List Body) → count_of (body_trees bs) ≡ length bs
argument_count [] = refl
argument_count (b ∷ bs) = ap suc (argument_count bs)
